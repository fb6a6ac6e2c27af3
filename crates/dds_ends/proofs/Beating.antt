-- The HEARTBEATs of a writer at a tick, and those of all writers of a peer.
use Rattle.std.proofs.Common.{◌≡◌, ◌⊎◌, ℕ, zero, suc, ◌+◌, ◌-◌, ◌^◌, ◌<◌, ◌≤◌, ◌==◌, Bool, true, false, cond, ◌&&◌, ◌||◌, List, [], ◌∷◌, ◌++◌, Option, Some, None, not, map, take, drop, length, get_or, refl, ap, sym, ◌∙◌, subst, arith, inl, inr, ⊎_elim, length-append, eq-eqb, eqb-true, append_assoc, append-nil, Contains}
use Rattle.std.specs.Prelude.{pos, find, nat_le, nat_lt, if◌then◌else◌, slice_index}
use Rattle.std.specs.List.{list_any}
use Rattle.std.proofs.Math.Nat.{le-max_right, max-le, min-le_right}
use Rattle.std.proofs.lemmas.Bool.Decides.{nat_tests}
use Rattle.std.specs.Option.{option_map_or, unwrap_or}
use Rattle.std.proofs.lemmas.List.{get_or-map, length-map, length-take, map-append, take_all, take_more}
use Rattle.std.proofs.lemmas.Option.{same_Some, slice_get-get_or}
use Rattle.dds_base.specs.declared.guid.GuidPrefix.{GuidPrefix}
use Rattle.dds_base.specs.Kept.{WriterHistory, first_kept, is_kept, numbers_from}
use Rattle.dds_base.specs.Written.{counts_of}
use Rattle.rtps_wire.specs.declared.message.Message.{Message}
use Rattle.rtps_wire.specs.declared.submessage.Submessage.{Submessage}
use Rattle.rtps_wire.specs.Messages.{IsWritable, HasFrame, HasSubmessage, ReadsAll, ReadsMessage, spelling_of}
use Rattle.rtps_wire.proofs.SpellingLaws.{message_again}
use Rattle.rtps_writer.specs.Standing.{Kept, StandsFor as RtpsStandsFor}
use Rattle.rtps_writer.specs.WriterState.{WriterState, counts_due, first_for, heartbeat_due, is_asked, is_reader_silent, is_reader_told, is_told as is_told_of, last_for, last_of, owed_from, history_of as rtps_history_of, ticked as rtps_ticked}
use Rattle.rtps_writer.specs.declared.heartbeat.HeartbeatDue.{HeartbeatDue}
use Rattle.dds_base.specs.declared.endpoint.Endpoint.{Endpoint}
use Rattle.dds_protocol.specs.declared.event.Packet.{Packet}
use Rattle.dds_machine.specs.Part.{ReaderProxy, Writer, no_writer, writer_changes, history_of}
use Rattle.dds_protocol.specs.DueMessages.{Due, AreSent, is_told}
use Rattle.dds_protocol.specs.Contact.{Contact, awaits_heartbeat}
use Rattle.dds_ends.specs.declared.heartbeat.Beat.{Beat}
use Rattle.dds_ends.specs.declared.matching.Destination.{Destination}
use Rattle.dds_ends.specs.declared.matching.ReaderName.{ReaderName}
use Rattle.dds_ends.specs.declared.sending.Announced.{Announced}
use Rattle.dds_ends.specs.Beating.{AreReadersOf, BeatsOfAll, Adds, AddsTo, Beats, BeatsOf, ForEach, CanSpan, IsDueOf, beat_of, beats_message, beats_of, beats_of_all, beats_to, due_to, first_peers, is_first_told, is_peer_told, names_told, peer_of, peers_told}
use Rattle.dds_ends.specs.Coming.{has_reader_at, with_peer}
use Rattle.dds_ends.specs.Kept.{WriterKept}
use Rattle.dds_ends.specs.Sending.{AreMessages}
use Rattle.dds_ends.specs.Announcing.{AddsPacket}
use Rattle.dds_ends.specs.Standing.{WriterStands, WritersStand, state_of}
use Rattle.dds_ends.proofs.FirstPeers.{any-map, first_peers_last, has_first}
use Rattle.dds_ends.proofs.Joining.{any_more, no_name}
use Rattle.dds_ends.proofs.Lists.{any_either}
use Rattle.dds_ends.proofs.Ticking.{TickedTo, untouched}
use Rattle.dds_ends.proofs.WriterEnds.{asked_same}

-- what is due of the first of these writers
abbrev pub BeatsTo : GuidPrefix → ℕ → List WriterKept → List Packet → ℕ → Type 0
BeatsTo prefix n kept packets unsent =
    (ws : List Writer) (answered : ℕ → Endpoint → Contact) → WritersStand kept ws answered
    → AreSent (beats_of_all prefix answered 1 (take n kept) (take n ws)) packets unsent

-- ---- what is written, one message after the other

pub written_on : (a b : List Due) (ps qs : List Packet) (m n : ℕ) → AreSent a ps m → AreSent b qs n
    → AreSent (a ++ b) (ps ++ qs) (m + n)
written_on [] b ps qs m n h k =
    let none : n ≡ m + n = let e = h.1 in omega (arith, e) in
    subst (λ (j : ℕ). AreSent b (ps ++ qs) j) none (subst (λ (rs : List Packet). AreSent b (rs ++ qs) n) (sym h.0) k)
written_on (d ∷ ds) b ps qs m n (inl f) k =
    inl (f.0 ++ qs, ap (λ (rs : List Packet). rs ++ qs) f.1, f.2, written_on ds b f.0 qs m n f.3 k)
written_on (d ∷ ds) b ps qs m n (inr g) k =
    let e = g.1 in
    inr (g.0 + n, omega (arith, e), written_on ds b ps qs g.0 n g.2 k)

pub adds_on : (a b : List Due) (p q r : List Packet) (m n o : ℕ) → Adds a p m q n → Adds b q n r o
    → Adds (a ++ b) p m r o
adds_on a b p q r m n o f g = record {
  packets = f.packets ++ g.packets;
  unsent = f.unsent + g.unsent;
  sent = g.sent ∙ (ap (λ (xs : List Packet). xs ++ g.packets) f.sent ∙ append_assoc p f.packets g.packets);
  lost = let x = f.lost in let y = g.lost in omega (arith, x, y);
  written = written_on a b f.packets g.packets f.unsent g.unsent f.written g.written;
}

-- ---- one message

pub adds_none : (p : List Packet) (m : ℕ) → Adds [] p m p m
adds_none p m =
    record { packets = []; unsent = 0; sent = sym (append-nil p); lost = omega arith; written = (refl, refl) }

pub adds_lost : (due : Due) (p q : List Packet) (m : ℕ) → q ≡ p → Adds (due ∷ []) p m q (m + 1)
adds_lost due p q m same =
    record {
      packets = [];
      unsent = 1;
      sent = same
          ∙ sym (append-nil p);
      lost = refl;
      written = inr (0, refl, (refl, refl));
    }

adds_sent : (due : Due) (p q : List Packet) (m : ℕ) → IsWritable due.message
    → q ≡ p ++ record { to = due.to; bytes = spelling_of due.message } ∷ [] → Adds (due ∷ []) p m q m
adds_sent due p q m can more =
    record {
      packets = record { to = due.to; bytes = spelling_of due.message }
          ∷ [];
      unsent = 0;
      sent = more;
      lost = omega arith;
      written = inl ([], refl, can, (refl, refl));
    }

-- the packet of a message was added exactly where there is one more
longer : (p q : List Packet) (x : Packet) → q ≡ p ++ x ∷ [] → length q ≡ length p → ⊥
longer p q x more same =
    let count = ap (λ (ps : List Packet). length ps) more in let total = length-append p
    (x ∷ []) in absurd (omega (arith, count, total, same))

pub adds_if_lost : (x m : Message) (to : ℕ) (p q : List Packet) (n : ℕ) → AddsPacket p x to q → length q ≡ length p
    → x ≡ m → Adds (due_to to m ∷ []) p n q (n + 1)
adds_if_lost x m to p q n (inl same) count is = adds_lost (due_to to m) p q n same
adds_if_lost x m to p q n (inr more) count is = absurd (longer p q _ more count)

pub adds_if_sent : (x m : Message) (to : ℕ) (p q : List Packet) (n : ℕ) → IsWritable x → AddsPacket p x to q
    → (length q ≡ length p → ⊥) → x ≡ m → Adds (due_to to m ∷ []) p n q n
adds_if_sent x m to p q n can (inl same) more is = absurd (more (ap (λ (ps : List Packet). length ps) same))
adds_if_sent x m to p q n can (inr one) more is =
    adds_sent (due_to to m) p q n (subst (λ (y : Message). IsWritable y) is can)
    (one ∙ ap (λ (y : Message). p ++ record { to = to; bytes = spelling_of y } ∷ []) is)

-- what is sent is a message

first_frame : (body : List ℕ) (ss : List Submessage) (left : List ℕ) → 1 ≤ length ss → ReadsAll body ss left
    → HasFrame body
first_frame body [] left some f = absurd (omega (arith, some))
first_frame body (s ∷ ss) left some f = (f.1.0, f.1.1, f.1.2, f.0, f.1.3)

spelled_message : (m : Message) → IsWritable m → 1 ≤ length m.submessages → HasSubmessage (spelling_of m)
spelled_message m can some =
    let r : ReadsMessage (spelling_of m) m (length (spelling_of m)) = message_again m can in
    record {
      source = m.prefix;
      body = r.body;
      header = r.header;
      first = first_frame r.body m.submessages r.left some r.submessages;
    }

last_of_two : {X : Type 0} (xs : List X) (x y : X) → Contains (xs ++ x ∷ []) y → Contains xs y ⊎ (x ≡ y)
last_of_two [] x y (zero, lt, is) = inr is
last_of_two [] x y (suc k, lt, is) = absurd (omega (arith, lt))
last_of_two (z ∷ zs) x y (zero, lt, is) = inl (zero, omega arith, is)
last_of_two (z ∷ zs) x y (suc k, lt, is) =
    ⊎_elim (λ c. inl (suc c.0, (let l = c.1 in omega (arith, l)), c.2)) (λ e. inr e)
    (last_of_two zs x y (k, omega (arith, lt), is))

pub still_messages : (m : Message) (to : ℕ) (p q : List Packet) → IsWritable m → 1 ≤ length m.submessages
    → AddsPacket p m to q → AreMessages p → AreMessages q
still_messages m to p q can some (inl same) h packet among =
    (subst (λ (ps : List Packet). AreMessages ps) (sym same) h) packet among
still_messages m to p q can some (inr more) h packet among =
    ⊎_elim (λ c. h packet c) (λ e. subst (λ (x : Packet). HasSubmessage x.bytes) e (spelled_message m can some))
    (last_of_two p (record { to = to; bytes = spelling_of m }) packet
    (subst (λ (ps : List Packet). Contains ps packet) more among))

-- ---- the readers that are told

-- what is read where there is no row
pub no_row : ReaderProxy
no_row = record { reader = record { peer = 0; number = 0 }; first = 0; acknowledged = 0 }

-- the row of a reader, by its name and its acknowledgement
pub row_at : (w : Writer) (names : List ReaderName) (row : ℕ) → AreReadersOf w names → row < length names
    → (row < length w.readers) × ((get_or w.readers row no_row).reader ≡ (get_or names row no_name).reader)
    × (get_or (map (λ (p : ReaderProxy). p.acknowledged) w.readers) row 0
    ≡ (get_or w.readers row no_row).acknowledged)
row_at w names row same lt =
    let size = ap (λ (es : List Endpoint). length es) same in
    let rows = length-map w.readers (λ (p : ReaderProxy). p.reader) in
    let all = length-map names (λ (n : ReaderName). n.reader) in
    let within : row < length w.readers = omega (arith, lt, size, rows, all) in (
      within,
      sym (get_or-map (λ (p : ReaderProxy). p.reader) w.readers row no_row no_name.reader within)
          ∙ (ap (λ (es : List Endpoint). get_or es row no_name.reader) same
          ∙ get_or-map (λ (n : ReaderName). n.reader) names row no_name no_name.reader lt),
      get_or-map (λ (p : ReaderProxy). p.acknowledged) w.readers row no_row 0 within,
    )

-- its reader is silent where that of the writer's state is
pub silent_at : (w : Writer) (answered : Endpoint → Contact) (row : ℕ) → row < length w.readers
    → is_reader_silent (state_of w answered) row ≡ (answered (get_or w.readers row no_row).reader).silent
silent_at w answered row within =
    get_or-map (λ (p : ReaderProxy). (answered p.reader).silent) w.readers row no_row false within

-- it awaits a HEARTBEAT
awaits_at : (w : Writer) (answered : Endpoint → Contact) (row : ℕ) → row < length w.readers
    → (get_or (map (λ (p : ReaderProxy). (answered p.reader).asks) w.readers) row false
    || is_reader_silent (state_of w answered) row)
    ≡ awaits_heartbeat (answered (get_or w.readers row no_row).reader)
awaits_at w answered row within =
    ap (λ (b : Bool). b || is_reader_silent (state_of w answered) row)
    (get_or-map (λ (p : ReaderProxy). (answered p.reader).asks) w.readers row no_row false within)
    ∙ ap (λ (b : Bool). (answered (get_or w.readers row no_row).reader).asks || b) (silent_at w answered row within)

-- its reader is told where that of the writer's state is
pub told_at : (w : Writer) (answered : Endpoint → Contact) (names : List ReaderName) (row : ℕ) (b : Bool)
    → AreReadersOf w names → row < length names → is_reader_told (state_of w answered) row ≡ b
    → is_told answered w (get_or w.readers row no_row) ≡ b
told_at w answered names row b same lt is =
    let at = row_at w names row same lt in
    let last : ℕ = length (writer_changes w) in
    let p : ReaderProxy = get_or w.readers row no_row in
    sym (ap (λ (a : ℕ). nat_le a last
    || (get_or (map (λ (q : ReaderProxy). (answered q.reader).asks) w.readers) row false
    || is_reader_silent (state_of w answered) row)) at.2
    ∙ ap (λ (c : Bool). nat_le p.acknowledged last || c) (awaits_at w answered row at.0)) ∙ is

-- one row more, by what is known of it
pub told_next : (told : ReaderProxy → Bool) (w : Writer) (peer : ℕ) (names : List ReaderName) (row : ℕ)
    → AreReadersOf w names → row < length names
    → is_peer_told told peer (take (row + 1) w.readers)
    ≡ (is_peer_told told peer (take row w.readers)
    || (((get_or names row no_name).reader.peer == peer) && told (get_or w.readers row no_row)))
told_next told w peer names row same lt =
    let at = row_at w names row same lt in
    ap (λ (rows : List ReaderProxy). is_peer_told told peer rows) (take_more w.readers row no_row at.0)
    ∙ (any_more (λ (p : ReaderProxy). (p.reader.peer == peer) && told p) (take row w.readers)
    (get_or w.readers row no_row)
    ∙ ap (λ (e : Endpoint). is_peer_told told peer (take row w.readers)
    || ((e.peer == peer) && told (get_or w.readers row no_row))) at.1)

-- what is so of some of the first is so of some of more
pub some_more : {X : Type 0} (f : X → Bool) (xs : List X) (m n : ℕ) → m ≤ n → list_any f (take m xs) ≡ true
    → list_any f (take n xs) ≡ true
some_more f [] zero n le is = absurd cc
some_more f [] (suc m) n le is = absurd cc
some_more f (x ∷ xs) zero n le is = absurd cc
some_more f (x ∷ xs) (suc m) zero le is = absurd (omega (arith, le))
some_more f (x ∷ xs) (suc m) (suc n) le is = by (f x) is (some_more f xs m n (omega (arith, le)))
  where
    by : (b : Bool) → (b || list_any f (take m xs)) ≡ true
        → (list_any f (take m xs) ≡ true → list_any f (take n xs) ≡ true) → (b || list_any f (take n xs)) ≡ true
    by true h later = refl
    by false h later = later h

-- a reader of that peer that is told is some reader of it that is
pub some_told : (told : ReaderProxy → Bool) (w : Writer) (peer : ℕ) (names : List ReaderName) (row to : ℕ)
    → AreReadersOf w names → row < length names → row < to → (get_or names row no_name).reader.peer ≡ peer
    → told (get_or w.readers row no_row) ≡ true → is_peer_told told peer (take to w.readers) ≡ true
some_told told w peer names row to same lt before is here =
    some_more (λ (p : ReaderProxy). (p.reader.peer == peer) && told p)
    w.readers (row + 1) to (omega (arith, before))
    (told_next told w peer names row same lt
    ∙ (ap (λ (b : Bool). is_peer_told told peer (take row w.readers)
    || (b && told (get_or w.readers row no_row))) (eq-eqb _ _ is)
    ∙ (ap (λ (b : Bool). is_peer_told told peer (take row w.readers) || b) here
    ∙ late (is_peer_told told peer (take row w.readers)))))
  where
    late : (b : Bool) → (b || true) ≡ true
    late true = refl
    late false = refl

-- one that is of another peer, or not told, is none
pub none_told : (told : ReaderProxy → Bool) (w : Writer) (peer : ℕ) (names : List ReaderName) (row : ℕ)
    → AreReadersOf w names → row < length names → is_peer_told told peer (take row w.readers) ≡ false
    → (((get_or names row no_name).reader.peer == peer) ≡ false)
    ⊎ (told (get_or w.readers row no_row) ≡ false)
    → is_peer_told told peer (take (row + 1) w.readers) ≡ false
none_told told w peer names row same lt none either =
    told_next told w peer names row same lt
    ∙ (ap (λ (b : Bool). b || (((get_or names row no_name).reader.peer == peer)
    && told (get_or w.readers row no_row))) none
    ∙ ⊎_elim (λ other. ap (λ (b : Bool). b && told (get_or w.readers row no_row)) other)
    (λ not_so. ap (λ (b : Bool). ((get_or names row no_name).reader.peer == peer) && b) not_so
    ∙ late ((get_or names row no_name).reader.peer == peer)) either)
  where
    late : (b : Bool) → (b && false) ≡ false
    late true = refl
    late false = refl

-- numbers that are not equal
pub other_number : (a b : ℕ) → (a ≡ b → ⊥) → (a == b) ≡ false
other_number a b other = not_same (a == b) refl
  where
    not_same : (c : Bool) → (a == b) ≡ c → (a == b) ≡ false
    not_same true is = absurd (other (eqb-true a b is))
    not_same false is = is

-- ---- one row more

-- the reader of a row is the first one of its peer that is told, by what is known of it and of those before it
pub first_at : (told : ReaderProxy → Bool) (w : Writer) (names : List ReaderName) (row : ℕ)
    → AreReadersOf w names → row < length names
    → is_first_told told w.readers row
    ≡ (told (get_or w.readers row no_row)
    && not (is_peer_told told (get_or names row no_name).reader.peer (take row w.readers)))
first_at told w names row same lt =
    let at = row_at w names row same lt in
    ap (λ (o : Option ReaderProxy). option_map_or (λ (p : ReaderProxy). told p
    && not (is_peer_told told p.reader.peer (take row w.readers))) o false)
    (slice_get-get_or w.readers row no_row at.0)
    ∙ ap (λ (e : Endpoint). told (get_or w.readers row no_row)
    && not (is_peer_told told e.peer (take row w.readers))) at.1

-- those that are told, with one row more
names_last : (told : ReaderProxy → Bool) (rows : List ReaderProxy) (names : List ReaderName) (p : ReaderProxy)
    (n : ReaderName) → length rows ≡ length names
    → names_told told (rows ++ p ∷ []) (names ++ n ∷ [])
    ≡ names_told told rows names ++ cond (told p) (n ∷ []) []
names_last told [] [] p n size = one (told p)
  where
    one : (b : Bool) → (if b then n ∷ [] else []) ≡ cond b (n ∷ []) []
    one true = refl
    one false = refl
names_last told [] (m ∷ ms) p n size = absurd (omega (arith, size))
names_last told (q ∷ qs) [] p n size = absurd (omega (arith, size))
names_last told (q ∷ qs) (m ∷ ms) p n size = by (told q) (names_last told qs ms p n (omega (arith, size)))
  where
    by : (b : Bool) → names_told told (qs ++ p ∷ []) (ms ++ n ∷ [])
        ≡ names_told told qs ms ++ cond (told p) (n ∷ []) []
        → (if b then m ∷ names_told told (qs ++ p ∷ []) (ms ++ n ∷ [])
        else names_told told (qs ++ p ∷ []) (ms ++ n ∷ []))
        ≡ (if b then m ∷ names_told told qs ms else names_told told qs ms)
        ++ cond (told p) (n ∷ []) []
    by true h = ap (λ (ns : List ReaderName). m ∷ ns) h
    by false h = h

-- some of them is of a peer where some row of it is told
names_of_peer : (told : ReaderProxy → Bool) (peer : ℕ) (rows : List ReaderProxy) (names : List ReaderName)
    → map (λ (p : ReaderProxy). p.reader) rows ≡ map (λ (r : ReaderName). r.reader) names
    → has_reader_at (names_told told rows names) peer ≡ is_peer_told told peer rows
names_of_peer told peer [] names same = refl
names_of_peer told peer (p ∷ ps) [] same =
    absurd (let size = ap (λ (es : List Endpoint). length es) same in omega (arith, size))
names_of_peer told peer (p ∷ ps) (n ∷ ns) same =
    by (told p) (n.reader.peer == peer)
    (ap (λ (e : Endpoint). e.peer == peer) head)
    (names_of_peer told peer ps ns (ap (λ (es : List Endpoint). drop 1 es) same))
  where
    head : p.reader ≡ n.reader
    head = ap (λ (es : List Endpoint). get_or es 0 p.reader) same

    by : (b c : Bool) → (p.reader.peer == peer) ≡ (n.reader.peer == peer)
        → has_reader_at (names_told told ps ns) peer ≡ is_peer_told told peer ps
        → has_reader_at (if b then n ∷ names_told told ps ns else names_told told ps ns) peer
        ≡ (((p.reader.peer == peer) && b) || is_peer_told told peer ps)
    by true c is h =
        ap (λ (x : Bool). (n.reader.peer == peer) || x) h
        ∙ (ap (λ (x : Bool). x || is_peer_told told peer ps) (sym is)
        ∙ ap (λ (x : Bool). x || is_peer_told told peer ps) (all (p.reader.peer == peer)))
      where
        all : (x : Bool) → x ≡ (x && true)
        all true = refl
        all false = refl
    by false c is h =
        h ∙ ap (λ (x : Bool). x || is_peer_told told peer ps) (none (p.reader.peer == peer))
      where
        none : (x : Bool) → false ≡ (x && false)
        none true = refl
        none false = refl

-- what comes of one more, if it is there
pub map_if : {X Y : Type 0} (f : X → Y) (xs : List X) (x : X) (b : Bool)
    → map f (xs ++ cond b (x ∷ []) []) ≡ map f xs ++ cond b (f x ∷ []) []
map_if f xs x true = map-append f xs (x ∷ [])
map_if f xs x false = map-append f xs []

map_take : {X Y : Type 0} (f : X → Y) (n : ℕ) (xs : List X) → map f (take n xs) ≡ take n (map f xs)
map_take f zero [] = refl
map_take f zero (x ∷ xs) = refl
map_take f (suc n) [] = refl
map_take f (suc n) (x ∷ xs) = ap (λ ys. f x ∷ ys) (map_take f n xs)

-- those that are told up to a row, by those before it
pub names_next : (told : ReaderProxy → Bool) (w : Writer) (names : List ReaderName) (row : ℕ) → AreReadersOf w names
    → row < length names
    → names_told told (take (row + 1) w.readers) (take (row + 1) names)
    ≡ names_told told (take row w.readers) (take row names)
    ++ cond (told (get_or w.readers row no_row)) (get_or names row no_name ∷ []) []
names_next told w names row same lt =
    let at = row_at w names row same lt in
    let first = length-take row w.readers in
    let second = length-take row names in
    let within = at.0 in
    ap (λ (rows : List ReaderProxy). names_told told rows (take (row + 1) names))
    (take_more w.readers row no_row within)
    ∙ (ap (λ (ns : List ReaderName). names_told told (take row w.readers ++ get_or w.readers row no_row ∷ []) ns)
    (take_more names row no_name lt)
    ∙ names_last told (take row w.readers) (take row names) (get_or w.readers row no_row) (get_or names row no_name)
    (omega (arith, first, second, within, lt)))

-- what comes of a row, and what comes of those before it
pub peers_next : (told : ReaderProxy → Bool) (w : Writer) (names : List ReaderName) (row : ℕ) (b : Bool)
    → AreReadersOf w names → row < length names
    → is_first_told told w.readers row ≡ b
    → peers_told told (take (row + 1) w.readers) (take (row + 1) names)
    ≡ peers_told told (take row w.readers) (take row names)
    ++ cond b (peer_of (get_or names row no_name) ∷ []) []
peers_next told w names row b same lt is =
    ap (λ (ns : List ReaderName). first_peers ns) (names_next told w names row same lt)
    ∙ by (told (get_or w.readers row no_row))
    (is_peer_told told n.reader.peer (take row w.readers)) b refl refl
    (sym (first_at told w names row same lt) ∙ is)
  where
    n : ReaderName
    n = get_or names row no_name

    before : List ReaderName
    before = names_told told (take row w.readers) (take row names)

    rows_alike : map (λ (p : ReaderProxy). p.reader) (take row w.readers)
        ≡ map (λ (r : ReaderName). r.reader) (take row names)
    rows_alike =
        map_take (λ (p : ReaderProxy). p.reader) row w.readers
        ∙ (ap (λ (es : List Endpoint). take row es) same ∙ sym (map_take (λ (r : ReaderName). r.reader) row names))

    there : (c : Bool) → is_peer_told told n.reader.peer (take row w.readers) ≡ c
        → list_any (λ (d : Destination). d.peer == n.reader.peer) (first_peers before) ≡ c
    there c h =
        has_first n.reader.peer before
        ∙ (names_of_peer told n.reader.peer (take row w.readers) (take row names) rows_alike ∙ h)

    by : (a c b : Bool) → told (get_or w.readers row no_row) ≡ a
        → is_peer_told told n.reader.peer (take row w.readers) ≡ c
        → (told (get_or w.readers row no_row)
        && not (is_peer_told told n.reader.peer (take row w.readers))) ≡ b
        → first_peers (before ++ cond a (n ∷ []) []) ≡ first_peers before ++ cond b (peer_of n ∷ []) []
    by true c b e f h =
        first_peers_last before n
        ∙ one c b (there c f)
        (sym (ap (λ (x : Bool). x && not (is_peer_told told n.reader.peer (take row w.readers))) e
        ∙ ap (λ (x : Bool). not x) f) ∙ h)
      where
        one : (c b : Bool) → list_any (λ (d : Destination). d.peer == n.reader.peer) (first_peers before) ≡ c
            → not c ≡ b → with_peer (first_peers before) (peer_of n)
            ≡ first_peers before ++ cond b (peer_of n ∷ []) []
        one true false g k =
            ap (λ (x : Bool). if x then first_peers before else first_peers before ++ peer_of n ∷ []) g
            ∙ sym (append-nil (first_peers before))
        one false true g k =
            ap (λ (x : Bool). if x then first_peers before else first_peers before ++ peer_of n ∷ []) g
        one true true g k = absurd cc
        one false false g k = absurd cc
    by false c true e f h =
        absurd (let bad = sym (ap (λ (x : Bool). x
        && not (is_peer_told told n.reader.peer (take row w.readers))) e) ∙ h in cc)
    by false c false e f h =
        ap (λ (ns : List ReaderName). first_peers ns) (append-nil before) ∙ sym (append-nil (first_peers before))

-- the message to a peer with a reader that is told
abbrev pub told_message : Beat → Writer → (Endpoint → Contact) → List ReaderName → Destination → Due
told_message beat w answered names =
    beats_message beat w answered (names_told (is_told answered w) w.readers names)

-- those to the peers that come of the rows before this one
abbrev pub beats_before : Beat → Writer → (Endpoint → Contact) → List ReaderName → ℕ → List Due
beats_before beat w answered names row =
    map (told_message beat w answered names) (peers_told (is_told answered w) (take row w.readers) (take row names))

-- they were sent
pub record SentBefore (beat : Beat) (kept : Kept) (names : List ReaderName) (row : ℕ) (old new : Announced)
    : Type 0 where
  pub few : new.unsent ≤ old.unsent + row
  pub beats : ForEach beat.due.first kept names (λ w answered. AddsTo (beats_before beat w answered names row) old new)
  pub messages : AreMessages old.packets.items → AreMessages new.packets.items

nobody_first : (told : ReaderProxy → Bool) (rows : List ReaderProxy) (names : List ReaderName)
    → peers_told told (take 0 rows) (take 0 names) ≡ []
nobody_first told [] names = refl
nobody_first told (p ∷ ps) names = refl

-- before the first row
pub sent_none : (beat : Beat) (kept : Kept) (names : List ReaderName) (old : Announced)
    → SentBefore beat kept names 0 old old
sent_none beat kept names old = record {
  few = omega arith;
  beats = λ w answered b.
      subst (λ (ds : List Destination). AddsTo (map (told_message beat w answered names) ds) old old)
      (sym (nobody_first (is_told answered w) w.readers names)) (adds_none old.packets.items old.unsent);
  messages = λ h. h;
}

pub beats_more : (beat : Beat) (answered : Endpoint → Contact) (w : Writer) (names : List ReaderName) (i : ℕ)
    (b : Bool) (old mid new : Announced) → AreReadersOf w names → i < length names
    → is_first_told (is_told answered w) w.readers i ≡ b
    → AddsTo (beats_before beat w answered names i) old mid
    → AddsTo (cond b (told_message beat w answered names (peer_of (get_or names i no_name)) ∷ []) []) mid new
    → AddsTo (beats_before beat w answered names (i + 1)) old new
beats_more beat answered w names i b old mid new same lt is h k =
    let tell : Destination → Due = told_message beat w answered names in
    let d : Destination = peer_of (get_or names i no_name) in
    let ds : List Destination = peers_told (is_told answered w) (take i w.readers) (take i names) in
    subst (λ (dues : List Due). AddsTo dues old new)
    (sym (ap (λ (es : List Destination). map tell es) (peers_next (is_told answered w) w names i b same lt is)
    ∙ map_if tell ds d b))
    (adds_on (map tell ds) (cond b (tell d ∷ []) []) old.packets.items mid.packets.items new.packets.items old.unsent
    mid.unsent new.unsent h k)

-- where nothing comes of the row
pub beats_same : (beat : Beat) (answered : Endpoint → Contact) (w : Writer) (names : List ReaderName) (i : ℕ)
    (old new : Announced) → AreReadersOf w names → i < length names
    → is_first_told (is_told answered w) w.readers i ≡ false
    → AddsTo (beats_before beat w answered names i) old new
    → AddsTo (beats_before beat w answered names (i + 1)) old new
beats_same beat answered w names i old new same lt is h =
    beats_more beat answered w names i false old new new same lt is h (adds_none new.packets.items new.unsent)

-- behind the last row
pub sent_all : (beat : Beat) (kept : Kept) (names : List ReaderName) (row : ℕ) (old new : Announced)
    → length names ≤ row → SentBefore beat kept names row old new
    → Beats beat kept names old.packets.items old.unsent new.packets.items new.unsent
sent_all beat kept names row old new le s w answered b =
    let size = ap (λ (es : List Endpoint). length es) b.names_are in
    let rows = length-map w.readers (λ (p : ReaderProxy). p.reader) in
    let all = length-map names (λ (n : ReaderName). n.reader) in
    let told : ReaderProxy → Bool = is_told answered w in
    let tell : Destination → Due = told_message beat w answered names in
    subst (λ (ps : List ReaderProxy). AddsTo (map tell (peers_told told ps names)) old new)
    (take_all row w.readers (omega (arith, le, size, rows, all)))
    (subst (λ (ns : List ReaderName). AddsTo (map tell (peers_told told (take row w.readers) ns)) old new)
    (take_all row names le) (s.beats w answered b))

-- ---- what is due at a tick of a writer

-- how many counts were due before the tick
abbrev counts_before : Writer → ℕ
counts_before w = length (counts_of w.written)

-- what is due, by its count
abbrev pub due_by : Writer → ℕ → HeartbeatDue
due_by w count = record { first = first_kept (history_of w); last = length (writer_changes w); count = pos count }

counts_now : (w : Writer) (answered : Endpoint → Contact) (now : ℕ)
    → counts_due (rtps_ticked (state_of w answered) now) ≡ counts_before w + cond (is_told_of (state_of w answered)) 1 0
counts_now w answered now =
    more (is_told_of (state_of w answered)) (counts_of w.written)
  where
    more : (b : Bool) (xs : List Bool) → length (if b then xs ++ false ∷ [] else xs) ≡ length xs + cond b 1 0
    more true xs = let n = length-append xs (false ∷ []) in omega (arith, n)
    more false xs = omega arith

some_due : (b c : Bool) (n before : ℕ) (make : ℕ → HeartbeatDue) (due : HeartbeatDue) → n ≡ before + cond b 1 0
    → nat_lt n (2 ^ 31) ≡ c → (if b && c then Some (make n) else None) ≡ Some due
    → (nat_lt before (2 ^ 31 - 1) ≡ true) × (due ≡ make (before + 1))
some_due true true n before make due count left is =
    (grind (arith, nat_tests), sym (same_Some (make n) due is) ∙ ap (λ (k : ℕ). make k) count)
some_due true false n before make due count left is = absurd cc
some_due false c n before make due count left is = absurd cc

-- what is due says so
pub due_is : (w : Writer) (answered : Endpoint → Contact) (now : ℕ) (due : HeartbeatDue)
    → heartbeat_due (state_of w answered) now ≡ Some due → (nat_lt (counts_before w) (2 ^ 31 - 1) ≡ true)
    × (due ≡ due_by w (counts_before w + 1))
due_is w answered now due is =
    some_due (is_told_of (state_of w answered)) (nat_lt (counts_due (rtps_ticked (state_of w answered) now)) (2 ^ 31))
    (counts_due (rtps_ticked (state_of w answered) now)) (counts_before w) (due_by w) due
    (counts_now w answered now) refl is

-- so the HEARTBEATs to its peers are those of the writer
pub beats_are : (prefix : GuidPrefix) (kept : WriterKept) (w : Writer) (answered : Endpoint → Contact) (now : ℕ)
    (due : HeartbeatDue) → heartbeat_due (state_of w answered) now ≡ Some due
    → beats_to (record { prefix = prefix; entity = kept.entity; due = due; asserts = false }) w answered kept.readers
    ≡ beats_of prefix kept w answered
beats_are prefix kept w answered now due is =
    let d = due_is w answered now due is in
    ap (λ (x : HeartbeatDue). beats_to
    (record { prefix = prefix; entity = kept.entity; due = x; asserts = false }) w answered kept.readers) d.1
    ∙ sym (ap (λ (b : Bool).
    if b then beats_to (beat_of prefix kept.entity false w) w answered kept.readers else []) d.0)

-- somebody is told where some row is
any_told : (w : Writer) (answered : Endpoint → Contact)
    → is_told_of (state_of w answered) ≡ list_any (is_told answered w) w.readers
any_told w answered =
    let behind : ReaderProxy → Bool = λ p. nat_le p.acknowledged (length (writer_changes w)) in
    let awaiting : ReaderProxy → Bool = λ p. awaits_heartbeat (answered p.reader) in
    ap (λ (b : Bool). b || is_asked (state_of w answered))
    (any-map (λ (p : ReaderProxy). p.acknowledged) (λ a. nat_le a (length (writer_changes w))) w.readers)
    ∙ (ap (λ (b : Bool). list_any behind w.readers || b) (asked_same w answered) ∙ any_either behind awaiting w.readers)

-- where nobody is told, no peer is
no_peers : (told : ReaderProxy → Bool) (rows : List ReaderProxy) (names : List ReaderName)
    → list_any told rows ≡ false → peers_told told rows names ≡ []
no_peers told rows names none = ap (λ (ns : List ReaderName). first_peers ns) (no_names rows names none)
  where
    no_names : (ps : List ReaderProxy) (ns : List ReaderName)
        → list_any told ps ≡ false → names_told told ps ns ≡ []
    no_names [] ns h = refl
    no_names (p ∷ ps) [] h = refl
    no_names (p ∷ ps) (n ∷ ns) h = one (told p) (list_any told ps) h (no_names ps ns)
      where
        one : (b rest : Bool) → (b || rest) ≡ false → (rest ≡ false → names_told told ps ns ≡ [])
            → (if b then n ∷ names_told told ps ns else names_told told ps ns) ≡ []
        one true rest k later = absurd cc
        one false rest k later = later k

no_due : (b c : Bool) (n before : ℕ) (due : HeartbeatDue) → n ≡ before + cond b 1 0 → nat_lt n (2 ^ 31) ≡ c
    → (if b && c then Some due else None) ≡ None → (b ≡ false) ⊎ (nat_lt before (2 ^ 31 - 1) ≡ false)
no_due true true n before due count left is = absurd cc
no_due true false n before due count left is = inr (grind (arith, nat_tests))
no_due false c n before due count left is = inl refl

both_none : (b : Bool) (none : List Due) → none ≡ [] → (if b then none else []) ≡ []
both_none true none is = is
both_none false none is = refl

-- where nothing is due, the writer has no HEARTBEAT to send
pub beats_none : (prefix : GuidPrefix) (kept : WriterKept) (w : Writer) (answered : Endpoint → Contact) (now : ℕ)
    → heartbeat_due (state_of w answered) now ≡ None → [] ≡ beats_of prefix kept w answered
beats_none prefix kept w answered now is =
    let counts = counts_due (rtps_ticked (state_of w answered) now) in
    let told : ReaderProxy → Bool = is_told answered w in
    let make : List Destination → List Due =
    λ ds. map (told_message (beat_of prefix kept.entity false w) w answered kept.readers) ds in
    ⊎_elim
    (λ nobody. sym (ap (λ (ds : List Destination). if nat_lt (counts_before w) (2 ^ 31 - 1) then make ds else [])
    (no_peers told w.readers kept.readers (sym (any_told w answered) ∙ nobody))
    ∙ both_none (nat_lt (counts_before w) (2 ^ 31 - 1)) [] refl))
    (λ out. sym (ap (λ (b : Bool). if b then make (peers_told told w.readers kept.readers) else []) out))
    (no_due (is_told_of (state_of w answered)) (nat_lt counts (2 ^ 31)) counts (counts_before w) (due_by w counts)
    (counts_now w answered now) refl is)

-- ---- the numbers of what is due

first_found : (p : ℕ → Bool) (from count : ℕ) → (from ≤ unwrap_or (find p (numbers_from from count)) (from + count))
    × (unwrap_or (find p (numbers_from from count)) (from + count) ≤ from + count)
first_found p from zero = (omega arith, omega arith)
first_found p from (suc count) =
    let later = first_found p (from + 1) count in
    let over : from + 1 + count ≡ from + suc count = omega arith in
    let low = later.0 in
    let high = later.1 in
    here (p from) (unwrap_or (find p (numbers_from (from + 1) count)) (from + 1 + count)) over (omega (arith, low))
    (omega (arith, high))
  where
    here : (b : Bool) (n : ℕ) → from + 1 + count ≡ from + suc count
        → from ≤ unwrap_or (find p (numbers_from (from + 1) count)) (from + 1 + count)
        → unwrap_or (find p (numbers_from (from + 1) count)) (from + 1 + count) ≤ from + suc count
        → (from ≤ unwrap_or (cond b (Some from) (find p (numbers_from (from + 1) count))) (from + suc count))
        × (unwrap_or (cond b (Some from) (find p (numbers_from (from + 1) count))) (from + suc count)
        ≤ from + suc count)
    here true n over low high = (omega arith, omega arith)
    here false n over low high =
        subst (λ (m : ℕ). (from ≤ unwrap_or (find p (numbers_from (from + 1) count)) m)
        × (unwrap_or (find p (numbers_from (from + 1) count)) m ≤ from + suc count)) over (low, high)

first_within : (h : WriterHistory) → (1 ≤ first_kept h) × (first_kept h ≤ length h.changes + 1)
first_within h =
    let past : 1 + length h.changes ≡ length h.changes + 1 = omega arith in
    subst (λ (m : ℕ). (1 ≤ unwrap_or (find (λ k. is_kept h k) (numbers_from 1 (length h.changes))) m)
    × (unwrap_or (find (λ k. is_kept h k) (numbers_from 1 (length h.changes))) m ≤ m)) past
    (first_found (λ k. is_kept h k) 1 (length h.changes))

-- one that is due can be from the first kept number to the last
pub can_span : (kept : Kept) (due : HeartbeatDue) → IsDueOf kept due → CanSpan due.first due.last
can_span kept due d =
    let within = first_within (rtps_history_of d.state) in
    let low = within.0 in
    let high = within.1 in
    let held = d.stands.history.last in
    let few = d.stands.history.few in
    let first = d.first in
    let last = d.last in
    record {
      low = omega (arith, low, first);
      not_past = omega (arith, high, first, last);
      high = omega (arith, held, few, last);
    }

-- or from where one to a reader of it begins to where it ends
pub can_span_for : (kept : Kept) (due : HeartbeatDue) (row from to : ℕ) (d : IsDueOf kept due)
    → from ≡ first_for d.state row → to ≡ last_for d.state row → CanSpan from to
can_span_for kept due row from to d begins ends =
    let whole = can_span kept due d in
    let low = whole.low in
    let high = whole.not_past in
    let few = whole.high in
    let first = d.first in
    let last = d.last in
    let least = le-max_right (owed_from d.state row) (first_kept (rtps_history_of d.state)) in
    let kept_most : first_kept (rtps_history_of d.state) ≤ last_of d.state + 1 = omega (arith, high, first, last) in
    let most = max-le (min-le_right (slice_index d.state.firsts row) (last_of d.state + 1)) kept_most in
    by (is_reader_silent d.state row) (first_for d.state row) (last_of d.state)
    (omega (arith, least, low, first, begins)) (omega (arith, most, begins)) (omega (arith, few, last)) begins ends
  where
    by : (b : Bool) (begin last : ℕ) → 1 ≤ from → from ≤ last + 1 → last ≤ 2 ^ 48 → from ≡ begin
        → to ≡ (if b then begin - 1 else last) → CanSpan from to
    by true begin last low most few same is = record {
      low = low;
      not_past = omega (arith, low, same, is);
      high = omega (arith, low, most, few, same, is);
    }
    by false begin last low most few same is = record {
      low = low;
      not_past = omega (arith, most, is);
      high = omega (arith, few, is);
    }

-- what is made only so is that
pub made_is : (b : Bool) (d due : HeartbeatDue) → (if b then Some d else None) ≡ Some due → d ≡ due
made_is true d due h = same_Some d due h
made_is false d due h = absurd cc

-- one that is due at a tick is of the writer after it
pub due_at : (kept : Kept) (s : WriterState) (now : ℕ) (due : HeartbeatDue) → RtpsStandsFor kept (rtps_ticked s now)
    → heartbeat_due s now ≡ Some due → IsDueOf kept due
due_at kept s now due stands is =
    let counts = counts_due (rtps_ticked s now) in
    let same =
    made_is (is_told_of s && nat_lt counts (2 ^ 31))
    (record { first = first_kept (rtps_history_of s); last = last_of s; count = pos counts }) due is in
    record {
      state = rtps_ticked s now;
      stands = stands;
      first = sym (ap (λ (d : HeartbeatDue). d.first) same);
      last = sym (ap (λ (d : HeartbeatDue). d.last) same);
    }

-- ---- the writers of a peer, one after the other

pub beats_of_last : (prefix : GuidPrefix) (answered : ℕ → Endpoint → Contact) (number : ℕ) (ks : List WriterKept)
    (ws : List Writer) (k : WriterKept) (w : Writer) → length ws ≡ length ks
    → beats_of_all prefix answered number (ks ++ k ∷ []) (ws ++ w ∷ [])
    ≡ beats_of_all prefix answered number ks ws ++ beats_of prefix k w (answered (number + length ks))
beats_of_last prefix answered number [] [] k w count =
    let here : number ≡ number + 0 = omega arith in
    append-nil (beats_of prefix k w (answered number)) ∙ ap (λ (n : ℕ). beats_of prefix k w (answered n)) here
beats_of_last prefix answered number [] (x ∷ xs) k w count = absurd (omega (arith, count))
beats_of_last prefix answered number (y ∷ ys) [] k w count = absurd (omega (arith, count))
beats_of_last prefix answered number (y ∷ ys) (x ∷ xs) k w count =
    let first : List Due = beats_of prefix y x (answered number) in
    let later : List Due = beats_of_all prefix answered (number + 1) ys xs in
    let there : number + 1 + length ys ≡ number + length (y ∷ ys) = omega arith in
    ap (λ (dues : List Due). first ++ dues)
    (beats_of_last prefix answered (number + 1) ys xs k w (omega (arith, count)))
    ∙ (sym (append_assoc first later (beats_of prefix k w (answered (number + 1 + length ys))))
    ∙ ap (λ (n : ℕ). (first ++ later) ++ beats_of prefix k w (answered n)) there)

pub beats_to_more : (prefix : GuidPrefix) (now n : ℕ) (old current : List WriterKept) (d : WriterKept)
    (p q : List Packet) (m o : ℕ) → n < length old → TickedTo now n old current → BeatsTo prefix n old p m
    → BeatsOf prefix (get_or current n d) p m q o → BeatsTo prefix (n + 1) old q o
beats_to_more prefix now n old current d p q m o lt ticked before beats ws answered s =
    let k : WriterKept = get_or old n d in
    let w : Writer = get_or ws n no_writer in
    let count = s.count in
    let here : get_or current n d ≡ k = untouched now n old current d lt ticked in
    let stands : WriterStands (get_or current n d) w (answered (suc n)) =
    subst (λ (x : WriterKept). WriterStands x w (answered (suc n))) (sym here)
    (s.each n k (slice_get-get_or old n d lt)) in
    let one : List Due = beats_of prefix k w (answered (suc n)) in
    let before_it : List Due = beats_of_all prefix answered 1 (take n old) (take n ws) in
    let added : Adds one p m q o =
    subst (λ (x : WriterKept). Adds (beats_of prefix x w (answered (suc n))) p m q o) here
    (beats w (answered (suc n)) stands) in
    let first = length-take n old in
    let second = length-take n ws in
    let number : 1 + length (take n old) ≡ suc n = omega (arith, first, lt) in
    let same : beats_of_all prefix answered 1 (take (n + 1) old) (take (n + 1) ws) ≡ before_it ++ one =
    ap (λ (ks : List WriterKept). beats_of_all prefix answered 1 ks (take (n + 1) ws)) (take_more old n d lt)
    ∙ (ap (λ (xs : List Writer). beats_of_all prefix answered 1 (take n old ++ k ∷ []) xs)
    (take_more ws n no_writer (omega (arith, lt, count)))
    ∙ (beats_of_last prefix answered 1 (take n old) (take n ws) k w (omega (arith, first, second, count))
    ∙ ap (λ (j : ℕ). before_it ++ beats_of prefix k w (answered j)) number)) in
    subst (λ (dues : List Due). AreSent dues q o) (sym same)
    (subst (λ (xs : List Packet). AreSent (before_it ++ one) xs o) (sym added.sent)
    (subst (λ (j : ℕ). AreSent (before_it ++ one) (p ++ added.packets) j) (sym added.lost)
    (written_on before_it one p added.packets m added.unsent (before ws answered s) added.written)))

pub beats_to_all : (prefix : GuidPrefix) (n : ℕ) (old : List WriterKept) (p : List Packet) (m : ℕ) → length old ≤ n
    → BeatsTo prefix n old p m → BeatsOfAll prefix old p m
beats_to_all prefix n old p m le h ws answered s =
    let count = s.count in
    subst (λ (ks : List WriterKept). AreSent (beats_of_all prefix answered 1 ks ws) p m) (take_all n old le)
    (subst (λ (xs : List Writer). AreSent (beats_of_all prefix answered 1 (take n old) xs) p m)
    (take_all n ws (omega (arith, le, count))) (h ws answered s))

-- before the first
pub beats_to_none : (prefix : GuidPrefix) (old : List WriterKept) (p : List Packet) → p ≡ [] → BeatsTo prefix 0 old p 0
beats_to_none prefix old p none ws answered s = (none, refl)
