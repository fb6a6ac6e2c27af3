-- A peer that comes to a network: what is true of those that are there stays so, and of it nothing is claimed yet.
use Rattle.std.specs.Prelude.{◌≤ℤ◌, min, nat_le, nat_lt}
use Rattle.std.specs.Option.{option_map}
use Rattle.std.proofs.lemmas.Bool.Decides.{nat_tests}
use Rattle.std.proofs.Common.{◌≡◌, ℕ, ℤ, pos, negsuc, zero, suc, ◌+◌, ◌-◌, ◌<◌, ◌≤◌, ◌&&◌, Bool, true, false, cond, Option, Some, None, ◌⊎◌, List, [], ◌∷◌, ◌++◌, refl, subst, ap, sym, ◌∙◌, inl, inr, ⊎_elim, arith, length, get_or, map, slice_get, Contains, length-append}
use Rattle.std.proofs.lemmas.List.{length-map, map-append}
use Rattle.std.proofs.Math.Nat.{le-min}
use Rattle.std.proofs.lemmas.Option.{same_Some}
use Rattle.dds_base.specs.declared.change.Change.{Change}
use Rattle.dds_base.specs.declared.config.Config.{Config}
use Rattle.dds_base.specs.declared.config.PeerConfig.{PeerConfig}
use Rattle.dds_base.specs.declared.config.ReaderConfig.{ReaderConfig}
use Rattle.dds_base.specs.declared.endpoint.Endpoint.{Endpoint}
use Rattle.dds_base.specs.Kept.{change_at, is_dropped}
use Rattle.dds_base.specs.declared.qos.ReliabilityQos.{ReliabilityQos}
use Rattle.dds_base.specs.Matched.{is_reliable, is_reliable_reader, same_topic}
use Rattle.dds_base.specs.Written.{Written, changes_of, counts_of}
use Rattle.dds_machine.specs.Machine.{Machine, part_at, place_at, writer_at}
use Rattle.dds_machine.specs.Numbered.{HasNumber, numbered}
use Rattle.dds_machine.specs.Opening.{coming_part, matched_writers, reader_from, reliable_readers, writer_from}
use Rattle.dds_machine.specs.Part.{IsBelow, IsCovered, NoLess, Part, Reader, ReaderProxy, Writer, WriterProxy, acknowledged_of, heartbeats_used, history_of, is_assertion, no_part, no_reader, no_writer, own_proxies, own_reader, own_writer, owed_from, place_of, row_of, same_endpoint, writer_changes}
use Rattle.dds_machine.proofs.Tables.{at_most_on, below_on, no_less_same}
use Rattle.dds_protocol.specs.Claims.{Asserts, ChangeIs, Claim, IsNumbered, MayPass, PlaceReached}
use Rattle.dds_protocol.specs.Coming.{ComesAsPart, ComesBounded, ComesSound, ComesUsed, IsNext, coming_peer, world_with_peer}
use Rattle.dds_protocol.specs.Dues.{IsPartOf}
use Rattle.dds_protocol.specs.Peer.{Peer, no_peer}
use Rattle.dds_protocol.specs.Protocol.{Known}
use Rattle.dds_protocol.specs.Roster.{Roster, roster_of}
use Rattle.dds_protocol.specs.World.{Holds, WorldState, machine_of, peer_at}
use Rattle.dds_protocol.proofs.Composed.{parts_at}
use Rattle.dds_protocol.proofs.Listed.{lists_reader, part_of_peer, reliable_is}
use Rattle.dds_protocol.proofs.Opened.{mapped_is, readers_in}
use Rattle.dds_protocol.proofs.OpenedPeers.{AreFresh, fresh_place, fresh_rows}
use Rattle.dds_protocol.proofs.Owing.{Covered, covered_on, first_or, owed_within}

-- ---- a list with one element more

-- of it another number has what it had, and the last one the new element
abbrev MoreAt : {X : Type 0} → List X → X → ℕ → X → Type 0
MoreAt {X} xs x n d = (numbered (xs ++ x ∷ []) n d ≡ numbered xs n d)
    ⊎ ((n ≡ length xs + 1) × (numbered (xs ++ x ∷ []) n d ≡ x) × (numbered xs n d ≡ d))

get_more : {X : Type 0} (xs : List X) (x : X) (i : ℕ) (d : X)
    → (get_or (xs ++ x ∷ []) i d ≡ get_or xs i d)
    ⊎ ((i ≡ length xs) × (get_or (xs ++ x ∷ []) i d ≡ x) × (get_or xs i d ≡ d))
get_more [] x zero d = inr (refl, refl, refl)
get_more [] x (suc i) d = inl refl
get_more (y ∷ ys) x zero d = inl refl
get_more (y ∷ ys) x (suc i) d = ⊎_elim (λ e. inl e) (λ o. inr (ap suc o.0, o.1, o.2)) (get_more ys x i d)

numbered_more : {X : Type 0} (xs : List X) (x : X) (n : ℕ) (d : X) → MoreAt xs x n d
numbered_more xs x zero d = inl refl
numbered_more xs x (suc i) d =
    ⊎_elim (λ e. inl e) (λ o. let last = o.0 in inr (omega (arith, last), o.1, o.2)) (get_more xs x i d)

get_before : {X : Type 0} (xs : List X) (x : X) (i : ℕ) (d : X) → i < length xs
    → get_or (xs ++ x ∷ []) i d ≡ get_or xs i d
get_before [] x i d lt = absurd (omega (arith, lt))
get_before (y ∷ ys) x zero d lt = refl
get_before (y ∷ ys) x (suc i) d lt = get_before ys x i d (omega (arith, lt))

numbered_before : {X : Type 0} (xs : List X) (x : X) (n : ℕ) (d : X) → HasNumber xs n
    → numbered (xs ++ x ∷ []) n d ≡ numbered xs n d
numbered_before xs x zero d h = refl
numbered_before xs x (suc i) d h = get_before xs x i d (omega (arith, h.1))

get_last : {X : Type 0} (xs : List X) (x : X) (i : ℕ) (d : X) → i ≡ length xs → get_or (xs ++ x ∷ []) i d ≡ x
get_last [] x zero d is = refl
get_last [] x (suc i) d is = absurd (omega (arith, is))
get_last (y ∷ ys) x zero d is = absurd (omega (arith, is))
get_last (y ∷ ys) x (suc i) d is = get_last ys x i d (omega (arith, is))

numbered_last : {X : Type 0} (xs : List X) (x : X) (n : ℕ) (d : X) → n ≡ length xs + 1
    → numbered (xs ++ x ∷ []) n d ≡ x
numbered_last xs x zero d is = absurd (omega (arith, is))
numbered_last xs x (suc i) d is = get_last xs x i d (omega (arith, is))

numbered_none : {X : Type 0} (n : ℕ) (d : X) → numbered [] n d ≡ d
numbered_none zero d = refl
numbered_none (suc i) d = refl

-- what is mapped has the image, or that of nothing
mapped_or : {X Y : Type 0} (f : X → Y) (xs : List X) (n : ℕ) (d : Y) (P : Y → Type 0) → ((x : X) → P (f x)) → P d
    → P (numbered (map f xs) n d)
mapped_or f xs zero d P each none = none
mapped_or f [] (suc i) d P each none = none
mapped_or f (x ∷ xs) (suc zero) d P each none = each x
mapped_or f (x ∷ xs) (suc (suc i)) d P each none = mapped_or f xs (suc i) d P each none

-- ---- a part that comes

-- each row owes all, and nothing of it is acknowledged
abbrev OweAll : List ReaderProxy → Type 0
OweAll [] = Unit {0}
OweAll (p ∷ ps) = (p.first ≡ 1) × (p.acknowledged ≡ 1) × OweAll ps

owe_or : (b : Bool) (p : ReaderProxy) (rows : List ReaderProxy) → p.first ≡ 1 → p.acknowledged ≡ 1 → OweAll rows
    → OweAll (cond b (p ∷ rows) rows)
owe_or true p rows first acknowledged h = (first, acknowledged, h)
owe_or false p rows first acknowledged h = h

owe_both : (xs ys : List ReaderProxy) → OweAll xs → OweAll ys → OweAll (xs ++ ys)
owe_both [] ys f g = g
owe_both (x ∷ xs) ys f g = (f.0, f.1, owe_both xs ys f.2 g)

owe_readers : (topic peer n : ℕ) (rs : List ReaderConfig) → OweAll (readers_in topic peer n rs)
owe_readers topic peer n [] = tt
owe_readers topic peer n (r ∷ rs) =
    owe_or (is_reliable_reader r && same_topic r.topic topic)
    (record { reader = record { peer = peer; number = n }; first = 1; acknowledged = 1 })
    (readers_in topic peer (n + 1) rs) refl refl (owe_readers topic peer (n + 1) rs)

owe_rows : (topic peer : ℕ) (ps : List PeerConfig) → OweAll (reliable_readers topic peer ps)
owe_rows topic peer [] = tt
owe_rows topic peer (p ∷ ps) =
    owe_both (readers_in topic peer 1 p.readers) (reliable_readers topic (peer + 1) ps)
    (owe_readers topic peer 1 p.readers) (owe_rows topic (peer + 1) ps)

abbrev row : List ReaderProxy → Endpoint → Option ReaderProxy
row rows r = row_of (λ (p : ReaderProxy). p.reader) rows r

abbrev acks : Option ReaderProxy → Option ℕ
acks o = option_map (λ (p : ReaderProxy). p.acknowledged) o

-- so is the row of a reader
abbrev OwesAll : Option ReaderProxy → Type 0
OwesAll None = Unit {0}
OwesAll (Some p) = (p.first ≡ 1) × (p.acknowledged ≡ 1)

owes_all : (rows : List ReaderProxy) (r : Endpoint) → OweAll rows → OwesAll (row rows r)
owes_all [] r h = tt
owes_all (p ∷ ps) r h = by (same_endpoint p.reader r) (owes_all ps r h.2)
  where
    by : (b : Bool) → OwesAll (row ps r) → OwesAll (cond b (Some p) (row ps r))
    by true later = (h.0, h.1)
    by false later = later

-- a writer that has done nothing, each of whose rows is so
record IsIdle (w : Writer) : Type 0 where
  changes : w.written ≡ []
  rows : OweAll w.readers

idle_writer : (n : ℕ) (p : PeerConfig) (k : ℕ) → IsIdle (own_writer (coming_part n p) k)
idle_writer n p k =
    mapped_or (writer_from n (p ∷ [])) p.writers k no_writer IsIdle
    (λ w. record { changes = refl; rows = owe_rows w.topic n (p ∷ []) })
    (record { changes = refl; rows = tt })

-- what it owes begins at 1
idle_owes : (w : Writer) (r : Endpoint) → IsIdle w → 1 ≤ owed_from w r
idle_owes w r idle =
    let none : length (writer_changes w) ≡ 0 = ap (λ (h : List Written). length (changes_of h)) idle.changes in
    by (row w.readers r) (owes_all w.readers r idle.rows) (length (writer_changes w)) none
  where
    by : (o : Option ReaderProxy) → OwesAll o → (n : ℕ) → n ≡ 0 → 1 ≤ min (first_or o (n + 1)) (n + 1)
    by None h n none = let all : 1 ≤ n + 1 = omega arith in le-min all all
    by (Some p) h n none = let first = h.0 in le-min (omega (arith, first)) (omega arith)

-- and covers what is acknowledged
idle_covered : (w : Writer) (r : Endpoint) (place : Option ℕ) → IsIdle w → Covered w r place
idle_covered w r place idle = by (row w.readers r) (owes_all w.readers r idle.rows)
  where
    by : (o : Option ReaderProxy) → OwesAll o → IsCovered (acks o) (owed_from w r) place
    by None h = tt
    by (Some p) h = let one = h.1 in let owed = idle_owes w r idle in inl (omega (arith, one, owed))

-- ---- the machine to which it comes

abbrev more_parts : Machine → Part → Machine
more_parts m part = record { parts = m.parts ++ part ∷ [] }

-- a part is as it was, or the one that came
abbrev PartMore : Machine → Part → ℕ → Type 0
PartMore m part i = (part_at (more_parts m part) i ≡ part_at m i)
    ⊎ ((i ≡ length m.parts + 1) × (part_at (more_parts m part) i ≡ part) × (part_at m i ≡ no_part))

part_more : (m : Machine) (part : Part) (i : ℕ) → PartMore m part i
part_more m part i = numbered_more m.parts part i no_part

-- places are as they were, and there are some more
place_more : (m : Machine) (part : Part) (r w : Endpoint) → NoLess (place_at m r w) (place_at (more_parts m part) r w)
place_more m part r w =
    let at : Part → Option ℕ = λ q. place_of (own_proxies q r.number) w in
    ⊎_elim (λ e. subst (λ (o : Option ℕ). NoLess (place_at m r w) o) (sym (ap at e)) (no_less_same (place_at m r w)))
    (λ o.
    let none : place_at m r w ≡ None = ap at o.2 ∙ ap (λ (rows : List WriterProxy). place_of rows w)
    (numbered_none r.number []) in
    subst (λ (p : Option ℕ). NoLess p (place_at (more_parts m part) r w)) (sym none) tt)
    (part_more m part r.peer)

-- a writer is as it was, or one that has done nothing where there was none
abbrev WriterMore : Machine → Part → Endpoint → Type 0
WriterMore m part w = (writer_at (more_parts m part) w ≡ writer_at m w)
    ⊎ ((writer_at (more_parts m part) w ≡ own_writer part w.number) × (writer_at m w ≡ no_writer))

writer_more : (m : Machine) (part : Part) (w : Endpoint) → WriterMore m part w
writer_more m part w =
    let at : Part → Writer = λ q. own_writer q w.number in
    ⊎_elim (λ e. inl (ap at e)) (λ o. inr (ap at o.1, ap at o.2 ∙ numbered_none w.number no_writer))
    (part_more m part w.peer)

-- none of nothing
nothing_at : (n : ℕ) (c : Change) → change_at [] n ≡ Some c → ⊥
nothing_at n c h = by (nat_lt 0 n) (n - 1) h
  where
    by : (b : Bool) (i : ℕ) → cond b (slice_get [] i) None ≡ Some c → ⊥
    by true i e = absurd cc
    by false i e = absurd cc

nothing_asserted : (count : ℤ) → is_assertion no_writer count ≡ true → ⊥
nothing_asserted (pos zero) h = absurd cc
nothing_asserted (pos (suc n)) h = absurd cc
nothing_asserted (negsuc n) h = absurd cc

-- what is claimed of it nobody has claimed
still_holds : (m : Machine) (part : Part) → ((k : ℕ) → IsIdle (own_writer part k)) → (c : Claim) → Holds m c
    → Holds (more_parts m part) c
still_holds m part idle (ChangeIs w r n c) h =
    ⊎_elim (λ e. ap (λ (x : Writer). change_at (writer_changes x) n) e ∙ h)
    (λ o. absurd (nothing_at n c (ap (λ (x : Writer). change_at (writer_changes x) n) (sym o.1) ∙ h)))
    (writer_more m part w)
still_holds m part idle (MayPass w r n) h =
    let m' : Machine = more_parts m part in
    let further : IsBelow n (place_at m r w) → IsBelow n (place_at m' r w) =
    λ b. below_on n (place_at m r w) (place_at m' r w) b (place_more m part r w) in
    ⊎_elim
    (λ e.
    ⊎_elim (λ d. inl (ap (λ (x : Writer). is_dropped (history_of x) n) e ∙ d))
    (λ o. inr (⊎_elim (λ q. inl (subst (λ (x : Writer). n < owed_from x r) (sym e) q)) (λ b. inr (further b)) o)) h)
    (λ e.
    ⊎_elim
    (λ d. absurd (let no : false ≡ true = ap (λ (x : Writer). is_dropped (history_of x) n) (sym e.1) ∙ d in cc))
    (λ o. inr (⊎_elim
    (λ q.
    let within = owed_within no_writer r in
    let old : n < owed_from no_writer r = subst (λ (x : Writer). n < owed_from x r) e.1 q in
    let one = idle_owes (own_writer part w.number) r (idle w.number) in
    inl (subst (λ (x : Writer). n < owed_from x r) (sym e.0) (omega (arith, old, within, one))))
    (λ b. inr (further b)) o)) h)
    (writer_more m part w)
still_holds m part idle (PlaceReached w r base) h =
    at_most_on base (place_at m r w) (place_at (more_parts m part) r w) h (place_more m part r w)
still_holds m part idle (Asserts w r count) h =
    ⊎_elim (λ e. ap (λ (x : Writer). is_assertion x count) e ∙ h)
    (λ o. absurd (nothing_asserted count (ap (λ (x : Writer). is_assertion x count) (sym o.1) ∙ h)))
    (writer_more m part w)

still_covered : (m : Machine) (part : Part) → ((k : ℕ) → IsIdle (own_writer part k)) → (w r : Endpoint)
    → Covered (writer_at m w) r (place_at m r w)
    → Covered (writer_at (more_parts m part) w) r (place_at (more_parts m part) r w)
still_covered m part idle w r h =
    let place : Option ℕ = place_at (more_parts m part) r w in
    ⊎_elim
    (λ e. subst (λ (x : Writer). Covered x r place) (sym e)
    (covered_on (acknowledged_of (writer_at m w).readers r) (owed_from (writer_at m w) r)
    (owed_from (writer_at m w) r) (place_at m r w) place (omega arith) (place_more m part r w) h))
    (λ o. subst (λ (x : Writer). Covered x r place) (sym o.0)
    (idle_covered (own_writer part w.number) r place (idle w.number)))
    (writer_more m part w)

-- ---- the network to which it comes

pub comes_as_part : ComesAsPart
comes_as_part world p =
    let count = length-map world.peers (λ (q : Peer). q.part) in
    let number : length world.peers + 1 ≡ length (map (λ (q : Peer). q.part) world.peers) + 1 =
    omega (arith, count) in
    ap (λ (ps : List Part). let m : Machine = record { parts = ps } in m)
    (map-append (λ (q : Peer). q.part) world.peers (coming_peer (length world.peers + 1) p ∷ [])
    ∙ ap (λ (n : ℕ). map (λ (q : Peer). q.part) world.peers ++ coming_part n p ∷ []) number)

abbrev the_part : WorldState → PeerConfig → Part
the_part world p = coming_part (length (machine_of world).parts + 1) p

the_idle : (world : WorldState) (p : PeerConfig) (k : ℕ) → IsIdle (own_writer (the_part world p) k)
the_idle world p k = idle_writer (length (machine_of world).parts + 1) p k

abbrev the_peer : WorldState → PeerConfig → Peer
the_peer world p = coming_peer (length world.peers + 1) p

-- a peer is as it was, or the one that came
peer_more : (world : WorldState) (p : PeerConfig) (i : ℕ)
    → MoreAt world.peers (coming_peer (length world.peers + 1) p) i no_peer
peer_more world p i = numbered_more world.peers (coming_peer (length world.peers + 1) p) i no_peer

coming_policies : (n : ℕ) (p : PeerConfig) (k : ℕ) (r : ReaderConfig) → IsNumbered p.readers k r
    → (own_reader (coming_part n p) k).qos.reliability ≡ r.reliability
coming_policies n p k r at =
    ap (λ (x : Reader). x.qos.reliability) (mapped_is (reader_from n (p ∷ [])) p.readers k r no_reader at.0 at.1)

-- the number of a peer is one of those before, or the next
has_more : (world : WorldState) (p : PeerConfig) (i : ℕ) → HasNumber (world_with_peer world p).peers i
    → HasNumber world.peers i ⊎ (i ≡ length world.peers + 1)
has_more world p i lt =
    let count = length-append world.peers (coming_peer (length world.peers + 1) p ∷ []) in
    let low = lt.0 in
    let high = lt.1 in
    by (nat_le i (length world.peers)) refl low (omega (arith, high, count))
  where
    by : (b : Bool) → nat_le i (length world.peers) ≡ b → 1 ≤ i → i ≤ length world.peers + 1
        → HasNumber world.peers i ⊎ (i ≡ length world.peers + 1)
    by true is low high = inl (low, grind (arith, nat_tests, is))
    by false is low high =
        let above : length world.peers < i = grind (arith, nat_tests, is) in inr (omega (arith, above, high))

pub comes_sound : ComesSound
comes_sound roster world p sound next =
    let m : Machine = machine_of world in
    let part : Part = the_part world p in
    let new : WorldState = world_with_peer world p in
    let is : machine_of new ≡ more_parts m part = comes_as_part world p in
    let still : (c : Claim) → Holds m c → Holds (machine_of new) c =
    λ c h. subst (λ (x : Machine). Holds x c) (sym is) (still_holds m part (the_idle world p) c h) in
    record {
      number = λ i lt.
          ⊎_elim
          (λ there. ap (λ (q : Peer). q.number) (numbered_before world.peers (the_peer world p) i no_peer there)
          ∙ sound.number i there)
          (λ last. ap (λ (q : Peer). q.number) (numbered_last world.peers (the_peer world p) i no_peer last) ∙ sym last)
          (has_more world p i lt);
      sent = λ q c d h. still c (sound.sent q c d h);
      delivered = λ i d c among h.
          ⊎_elim (λ e. still c (sound.delivered i d c (subst (λ (q : Peer). Contains q.delivered d) e among) h))
          (λ o. let none = (subst (λ (q : Peer). Contains q.delivered d) o.1 among).1 in absurd (omega (arith, none)))
          (peer_more world p i);
      acknowledged = λ w r. subst (λ (x : Machine). Covered (writer_at x w) r (place_at x r w)) (sym is)
          (still_covered m part (the_idle world p) w r (sound.acknowledged w r));
      policies = λ r entity lt at.
          let x = lists_reader roster r entity at in
          let k : ℕ = r.number in
          ap (λ (y : Part). is_reliable (own_reader y k).qos.reliability) (parts_at new r.peer)
          ∙ ⊎_elim
          (λ before.
          ap (λ (y : Peer). is_reliable (own_reader y.part k).qos.reliability)
          (numbered_before world.peers (the_peer world p) r.peer no_peer before)
          ∙ (ap (λ (y : Part). is_reliable (own_reader y k).qos.reliability) (sym (parts_at world r.peer))
          ∙ sound.policies r entity before at))
          (λ last.
          let same : p ≡ x.stands.peer =
          same_Some p x.stands.peer
          (sym next.1 ∙ (ap (λ (n : ℕ). slice_get roster.peers (n - 1)) (sym last) ∙ x.stands.at_peer.1)) in
          ap (λ (y : Peer). is_reliable (own_reader y.part k).qos.reliability)
          (numbered_last world.peers (the_peer world p) r.peer no_peer last)
          ∙ (ap (λ (q : ReliabilityQos). is_reliable q)
          (coming_policies (length world.peers + 1) p k x.end
          (subst (λ (y : PeerConfig). IsNumbered y.readers k x.end) (sym same) x.stands.at_end))
          ∙ sym (reliable_is roster r x.stands.peer x.end x.stands.at_peer x.stands.at_end)))
          (has_more world p r.peer lt);
    }

-- ---- counts

coming_of : (roster : Config) (world : WorldState) (p : PeerConfig) → IsNext roster world p
    → IsPartOf (roster_of roster) (length world.peers + 1) (coming_part (length world.peers + 1) p)
coming_of roster world p next =
    part_of_peer roster (length world.peers + 1) p (coming_part (length world.peers + 1) p) next
    (length-map p.writers (writer_from (length world.peers + 1) (p ∷ [])))

-- what it knows is nothing, as what a peer knows that is not there
known_more : (world : WorldState) (p : PeerConfig) (i : ℕ)
    → (peer_at (world_with_peer world p) i).known ≡ (peer_at world i).known
known_more world p i =
    ⊎_elim (λ e. ap (λ (q : Peer). q.known) e)
    (λ o. ap (λ (q : Peer). q.known) o.1 ∙ sym (ap (λ (q : Peer). q.known) o.2)) (peer_more world p i)

-- a writer that comes has used no count
beats_more : (world : WorldState) (p : PeerConfig) (w : Endpoint)
    → heartbeats_used (writer_at (machine_of (world_with_peer world p)) w)
    ≡ heartbeats_used (writer_at (machine_of world) w)
beats_more world p w =
    let part : Part = the_part world p in
    ap (λ (m : Machine). heartbeats_used (writer_at m w)) (comes_as_part world p)
    ∙ ⊎_elim (λ e. ap (λ (x : Writer). heartbeats_used x) e)
    (λ o. ap (λ (x : Writer). heartbeats_used x) o.0
    ∙ (ap (λ (h : List Written). length (counts_of h)) (the_idle world p w.number).changes
    ∙ sym (ap (λ (x : Writer). heartbeats_used x) o.1)))
    (writer_more (machine_of world) part w)

pub comes_used : ComesUsed
comes_used roster world p used next =
    let new : WorldState = world_with_peer world p in
    let acks_more : (w r : Endpoint) → ((peer_at new r.peer).known.tracked w r.number).acknacks
    ≡ ((peer_at world r.peer).known.tracked w r.number).acknacks =
    λ w r. ap (λ (k : Known). (k.tracked w r.number).acknacks) (known_more world p r.peer) in
    record {
      of_roster = λ i lt.
          let is : Roster = roster_of roster in
          ⊎_elim
          (λ there. subst (λ (x : Peer). IsPartOf is i x.part)
          (sym (numbered_before world.peers (the_peer world p) i no_peer there)) (used.of_roster i there))
          (λ last. subst (λ (x : Peer). IsPartOf is i x.part)
          (sym (numbered_last world.peers (the_peer world p) i no_peer last))
          (subst (λ (n : ℕ). IsPartOf is n (coming_part (length world.peers + 1) p)) (sym last)
          (coming_of roster world p next)))
          (has_more world p i lt);
      heartbeat_sent = λ q w count c h.
          subst (λ (n : ℕ). count ≤ℤ pos n) (sym (beats_more world p w)) (used.heartbeat_sent q w count c h);
      acknack_sent = λ q w r count c h.
          subst (λ (n : ℕ). count ≤ℤ pos n) (sym (acks_more w r)) (used.acknack_sent q w r count c h);
      heartbeat_taken = λ w r count h.
          subst (λ (n : ℕ). count ≤ℤ pos n) (sym (beats_more world p w))
          (used.heartbeat_taken w r count
          (sym (ap (λ (k : Known). (k.tracked w r.number).count) (known_more world p r.peer)) ∙ h));
      acknack_taken = λ w r count h.
          subst (λ (n : ℕ). count ≤ℤ pos n) (sym (acks_more w r))
          (used.acknack_taken w r count
          (sym (ap (λ (k : Known). (k.answered w.number r).count) (known_more world p w.peer)) ∙ h));
    }

-- ---- places

rows_fresh : (n : ℕ) (p : PeerConfig) (k : ℕ) → AreFresh (own_proxies (coming_part n p) k)
rows_fresh n p k =
    mapped_or (λ (r : ReaderConfig). matched_writers r.topic n (p ∷ [])) p.readers k [] AreFresh
    (λ r. fresh_rows r.topic n (p ∷ [])) tt

pub comes_bounded : ComesBounded
comes_bounded m p bounded r w place h =
    let part : Part = coming_part (length m.parts + 1) p in
    let m' : Machine = more_parts m part in
    let n : ℕ = length (writer_changes (writer_at m' w)) in
    let more : length (writer_changes (writer_at m w)) ≤ n =
    ⊎_elim (λ e. let same = ap (λ (x : Writer). length (writer_changes x)) e in omega (arith, same))
    (λ o. let none = ap (λ (x : Writer). length (writer_changes x)) o.1 in omega (arith, none))
    (writer_more m part w) in
    ⊎_elim
    (λ e.
    let before = bounded r w place (ap (λ (q : Part). place_of (own_proxies q r.number) w) (sym e) ∙ h) in
    omega (arith, before, more))
    (λ o.
    let one = fresh_place (own_proxies part r.number) w place (rows_fresh (length m.parts + 1) p r.number)
    (ap (λ (q : Part). place_of (own_proxies q r.number) w) (sym o.1) ∙ h) in
    omega (arith, one))
    (part_more m part r.peer)
