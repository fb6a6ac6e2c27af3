-- Lists and places grow, and what is claimed stays true.
use Rattle.std.proofs.Common.{◌≡◌, ℕ, ◌+◌, ◌-◌, ◌≤◌, Bool, true, false, cond, Option, ℤ, pos, negsuc, zero, suc, ◌⊎◌, List, [], ◌∷◌, ◌++◌, Some, None, get_or, refl, subst, ap, sym, ◌∙◌, inl, inr, ⊎_elim, arith, length, drop, count_by, slice_get, append_assoc}
use Rattle.std.specs.Prelude.{if◌then◌else◌, ◌||◌, nat_lt, nat_le}
use Rattle.std.specs.Option.{option_map_or}
use Rattle.std.proofs.lemmas.Bool.Decides.{nat_tests}
use Rattle.std.proofs.lemmas.List.{drop-append-le, length-map}
use Rattle.std.proofs.lemmas.List.Sums.{sum_by-append}
use Rattle.std.proofs.lemmas.Option.{slice_get_within}
use Rattle.dds_base.specs.declared.change.Change.{Change}
use Rattle.dds_base.specs.declared.qos.HistoryQos.{HistoryQos}
use Rattle.dds_base.specs.declared.qos.HistoryQos.TheVariants.{KeepAll, KeepLast}
use Rattle.dds_base.specs.Happening.{same_key}
use Rattle.dds_base.specs.Written.{Written, Registered, Changed, Asserted, LookedAt, StrengthSet, Ticked, changes_of, counts_of}
use Rattle.dds_base.specs.Kept.{change_at, is_dropped, is_dropped_by, later_changes}
use Rattle.dds_machine.specs.declared.call.Call.{Call}
use Rattle.dds_base.specs.declared.endpoint.Endpoint.{Endpoint}
use Rattle.dds_machine.specs.declared.reply.Move.{Move}
use Rattle.dds_machine.specs.declared.reply.Move.TheVariants.{Place, Acknowledged, Heard, Begun as HasBegun, Strange}
use Rattle.dds_machine.specs.declared.reply.Reply.{Reply}
use Rattle.dds_machine.specs.declared.reply.Reply.TheVariants.{Done, Refused, Reported}
use Rattle.dds_machine.specs.Numbered.{numbered, with_numbered}
use Rattle.dds_machine.specs.Part.{Attachment, Away, Waiting, WriterProxy, Writer, Rtps, Part, no_writer, no_part, own_writer, own_proxies, place_of, with_place, with_begun, with_heard, with_acknowledged, with_writer, writer_changes, history_of, is_behind, is_assertion, owed_from, NoLess}
use Rattle.dds_machine.specs.Moves.{Grounds, IsMove, AreMoves, DeliveryStep}
use Rattle.dds_machine.specs.Ticks.{ticked, writers_ticked, reader_ticked, TickStep}
use Rattle.dds_machine.specs.Calls.{Effect, nothing, writes, tells, looks_at_matches, effect, effect_of, with_written, CallStep}
use Rattle.dds_machine.specs.Matching.{Telling, MatchReader, UnmatchReader, MatchWriter, UnmatchWriter, MeetReader, MeetWriter, after_telling, is_known, joined, left, met, with_how, with_match, writer_looked_at}
use Rattle.dds_machine.specs.Watching.{Tests}
use Rattle.dds_protocol.specs.Claims.{Claim, ChangeIs, MayPass, PlaceReached, Asserts}
use Rattle.dds_machine.specs.Machine.{Machine, part_at, writer_at, place_at}
use Rattle.dds_protocol.specs.World.{Holds}
use Rattle.dds_protocol.proofs.Owing.{changes-more, no_fewer, owed_same, met_of, owed_acknowledged, owed_joined, owed_left}
use Rattle.dds_machine.proofs.Ticked.{numbered-writers_ticked}
use Rattle.dds_machine.proofs.Tables.{numbered-cases, append_nothing, slice_get-append, place-append, place-cases, place-how, begun-cases, place-heard, no_less_same, no_less_on, none_on, at_most_on, below_on}

pub record WriterGrows (old new : Writer) : Type 0 where
  pub policy : new.policy ≡ old.policy
  pub values : new.max_value ≡ old.max_value
  pub more : List Written
  pub written : new.written ≡ more ++ old.written
  pub owed : (r : Endpoint) → owed_from old r ≤ owed_from new r

pub record Grows (old new : Rtps) : Type 0 where
  pub writers : (w : ℕ) → WriterGrows (numbered old.writers w no_writer) (numbered new.writers w no_writer)
  pub places : (r : ℕ) (w : Endpoint)
      → NoLess (place_of (numbered old.readers r []) w) (place_of (numbered new.readers r []) w)

pub writer_same : (w : Writer) → WriterGrows w w
writer_same w = record {
  policy = refl;
  values = refl;
  more = [];
  written = refl;
  owed = λ r. omega arith;
}

pub writer_on : (a b c : Writer) → WriterGrows a b → WriterGrows b c → WriterGrows a c
writer_on a b c f g = record {
  policy = g.policy ∙ f.policy;
  values = g.values ∙ f.values;
  more = g.more ++ f.more;
  written =
      g.written ∙ (ap (λ (xs : List Written). g.more ++ xs) f.written ∙ sym (append_assoc g.more f.more a.written));
  owed = λ r. let first = f.owed r in let second = g.owed r in omega (arith, first, second);
}

-- what has no row later had none
pub none_before : (old new : Rtps) → Grows old new → (r : ℕ) (w : Endpoint)
    → place_of (numbered new.readers r []) w ≡ None → place_of (numbered old.readers r []) w ≡ None
none_before old new g r w e =
    none_on (place_of (numbered old.readers r []) w) (place_of (numbered new.readers r []) w) (g.places r w) e

pub grows_same : (r : Rtps) → Grows r r
grows_same r =
    record {
      writers = λ w. writer_same (numbered r.writers w no_writer);
      places = λ k w. no_less_same
          (place_of (numbered r.readers k []) w);
    }

pub grows_on : (a b c : Rtps) → Grows a b → Grows b c → Grows a c
grows_on a b c f g = record {
  writers =
      λ w. writer_on (numbered a.writers w no_writer) (numbered b.writers w no_writer) (numbered c.writers w no_writer)
      (f.writers w) (g.writers w);
  places =
      λ r w. no_less_on (place_of (numbered a.readers r []) w) (place_of (numbered b.readers r []) w)
      (place_of (numbered c.readers r []) w) (f.places r w) (g.places r w);
}

pub set_writer-grows : (old : Rtps) (w : ℕ) (after : Writer) → WriterGrows (numbered old.writers w no_writer) after
    → Grows old (record old { writers = with_numbered old.writers w after })
set_writer-grows old w after h = record {
  writers = λ k.
      ⊎_elim (λ e. subst (λ (x : Writer). WriterGrows (numbered old.writers k no_writer) x) (sym e)
      (writer_same (numbered old.writers k no_writer)))
      (λ s. subst (λ (x : Writer). WriterGrows (numbered old.writers k no_writer) x) (sym s.1)
      (subst (λ (j : ℕ). WriterGrows (numbered old.writers j no_writer) after) (sym s.0) h))
      (numbered-cases old.writers w after k no_writer);
  places = λ r v. no_less_same (place_of (numbered old.readers r []) v);
}

-- what is there of one list and another, where one element has changed
no_less_at : (old : List (List WriterProxy)) (r : ℕ) (after : List WriterProxy) (k : ℕ) (w : Endpoint)
    → NoLess (place_of (numbered old r []) w) (place_of after w)
    → (numbered (with_numbered old r after) k [] ≡ numbered old k [])
    ⊎ ((k ≡ r) × (numbered (with_numbered old r after) k [] ≡ after))
    → NoLess (place_of (numbered old k []) w) (place_of (numbered (with_numbered old r after) k []) w)
no_less_at old r after k w h (inl e) =
    subst (λ (rows : List WriterProxy). NoLess (place_of (numbered old k []) w) (place_of rows w)) (sym e)
    (no_less_same (place_of (numbered old k []) w))
no_less_at old r after k w h (inr s) =
    subst (λ (rows : List WriterProxy). NoLess (place_of (numbered old k []) w) (place_of rows w)) (sym s.1)
    (subst (λ (j : ℕ). NoLess (place_of (numbered old j []) w) (place_of after w)) (sym s.0) h)

pub set_reader-grows : (old : Rtps) (r : ℕ) (after : List WriterProxy)
    → ((w : Endpoint) → NoLess (place_of (numbered old.readers r []) w) (place_of after w))
    → Grows old (record old { readers = with_numbered old.readers r after })
set_reader-grows old r after h = record {
  writers = λ k. writer_same (numbered old.writers k no_writer);
  places = λ k w. no_less_at old.readers r after k w (h w) (numbered-cases old.readers r after k []);
}

place_forward : (rows : List WriterProxy) (w : Endpoint) (from to : ℕ) → place_of rows w ≡ Some from → from ≤ to
    → (v : Endpoint) → NoLess (place_of rows v) (place_of (with_place rows w to) v)
place_forward rows w from to is le v =
    ⊎_elim (λ e. subst (λ (o : Option ℕ). NoLess (place_of rows v) o) (sym e) (no_less_same (place_of rows v)))
    (λ s.
    subst (λ (o : Option ℕ). NoLess (place_of rows v) o) (sym s.1)
    (subst (λ (o : Option ℕ). NoLess o (Some to)) (sym (ap (λ (x : Endpoint). place_of rows x) s.0 ∙ is)) le))
    (place-cases rows w from to v is)

place_still : (rows : List WriterProxy) (w : Endpoint) (count : ℤ) (v : Endpoint)
    → NoLess (place_of rows v) (place_of (with_heard rows w count) v)
place_still rows w count v =
    subst (λ (o : Option ℕ). NoLess (place_of rows v) o) (sym (place-heard rows w count v))
    (no_less_same (place_of rows v))

place_begun : (rows : List WriterProxy) (w : Endpoint) (from to : ℕ) → place_of rows w ≡ Some from → from ≤ to
    → (v : Endpoint) → NoLess (place_of rows v) (place_of (with_begun rows w to) v)
place_begun rows w from to is le v =
    ⊎_elim (λ e. subst (λ (o : Option ℕ). NoLess (place_of rows v) o) (sym e) (no_less_same (place_of rows v)))
    (λ s.
    subst (λ (o : Option ℕ). NoLess (place_of rows v) o) (sym s.1)
    (subst (λ (o : Option ℕ). NoLess o (Some to)) (sym (ap (λ (x : Endpoint). place_of rows x) s.0 ∙ is)) le))
    (begun-cases rows w from to v is)

pub IsMove-grows : (g : Grounds) (old : Part) (m : Move) (new : Part) → IsMove g old m new → Grows old.rtps new.rtps
IsMove-grows g old (Place w r to passed) new h =
    let forward = h.forward in
    subst (λ (q : Part). Grows old.rtps q.rtps) (sym h.after)
    (set_reader-grows old.rtps r (with_place (own_proxies old r) w to)
    (place_forward (own_proxies old r) w h.place to h.matched.at (omega (arith, forward))))
IsMove-grows g old (Acknowledged w r to) new h =
    let before = own_writer old w in
    let after : Writer = record before { readers = with_acknowledged before.readers r to } in
    subst (λ (q : Part). Grows old.rtps q.rtps) (sym h.after) (set_writer-grows old.rtps w after (record {
      policy = refl;
      values = refl;
      more = [];
      written = refl;
      owed = λ v. owed_acknowledged before r to v;
    }))
IsMove-grows g old (Strange w r) new h = subst (λ (q : Part). Grows old.rtps q.rtps) (sym h.after) (grows_same old.rtps)
IsMove-grows g old (Heard w r) new h =
    subst (λ (q : Part). Grows old.rtps q.rtps) (sym h.after)
    (set_reader-grows old.rtps r (with_heard (own_proxies old r) w h.count)
    (place_still (own_proxies old r) w h.count))
IsMove-grows g old (HasBegun w r from to) new h =
    subst (λ (q : Part). Grows old.rtps q.rtps) (sym h.after)
    (set_reader-grows old.rtps r (with_begun (own_proxies old r) w to)
    (place_begun (own_proxies old r) w from to h.at h.no_less))

pub AreMoves-grows : (g : Grounds) (old : Part) (ms : List Move) (new : Part) → AreMoves g old ms new
    → Grows old.rtps new.rtps
AreMoves-grows g old [] new h = subst (λ (q : Part). Grows old.rtps q.rtps) (sym h) (grows_same old.rtps)
AreMoves-grows g old (m ∷ ms) new h =
    grows_on old.rtps h.0.rtps new.rtps (IsMove-grows g old m h.0 h.1) (AreMoves-grows g h.0 ms new h.2)

pub DeliveryStep-grows : (g : Grounds) (old : Part) (reply : Reply) (new : Part) → DeliveryStep g old reply new
    → Grows old.rtps new.rtps
DeliveryStep-grows g old (Reported report) new h = AreMoves-grows g old report.moves new h
DeliveryStep-grows g old reply new h = absurd h

-- what a telling does: rows come and go, and none of a reader's

still : (rows : List WriterProxy) (w : Endpoint) (how : Attachment) (v : Endpoint)
    → NoLess (place_of rows v) (place_of (with_how rows w how) v)
still rows w how v =
    subst (λ (o : Option ℕ). NoLess (place_of rows v) o) (sym (place-how rows w how v)) (no_less_same (place_of rows v))

-- the row of a writer that a reader did not know
abbrev pub new_row : Endpoint → WriterProxy
new_row w = record { writer = w; place = 1; heard = None; how = Waiting }

place_matched : (rows : List WriterProxy) (w v : Endpoint) → NoLess (place_of rows v) (place_of (with_match rows w) v)
place_matched rows w v = by (is_known rows w)
  where
    by : (b : Bool)
        → NoLess (place_of rows v) (place_of (if b then with_how rows w Waiting else rows ++ new_row w ∷ []) v)
    by true = still rows w Waiting v
    by false = place-append rows (new_row w) v

pub telling-grows : (old : Rtps) (t : Telling) → Grows old (after_telling old t)
telling-grows old (MatchReader w r reliable) =
    let before : Writer = numbered old.writers w no_writer in
    set_writer-grows old w (joined before r reliable) (record {
      policy = refl;
      values = refl;
      more = [];
      written = refl;
      owed = λ v. owed_joined before r reliable v;
    })
telling-grows old (UnmatchReader w r) =
    let before : Writer = numbered old.writers w no_writer in
    set_writer-grows old w (left before r) (record {
      policy = refl;
      values = refl;
      more = [];
      written = refl;
      owed = λ v. owed_left before r v;
    })
telling-grows old (MatchWriter r w) =
    let rows : List WriterProxy = numbered old.readers r [] in
    set_reader-grows old r (with_match rows w) (place_matched rows w)
telling-grows old (UnmatchWriter r w) =
    let rows : List WriterProxy = numbered old.readers r [] in
    set_reader-grows old r (with_how rows w Away) (still rows w Away)
telling-grows old (MeetReader w r) =
    let before : Writer = numbered old.writers w no_writer in
    let grows : Grows old (with_writer old w (λ x. met x r.end r.reliable)) =
    set_writer-grows old w (met before r.end r.reliable) (met_of (λ x. WriterGrows before x) before r.end r.reliable
    (λ ks b. record {
      policy = refl;
      values = refl;
      more = [];
      written = refl;
      owed = λ v. owed_joined (record before { known = ks }) r.end b v;
    })) in
    record { writers = grows.writers; places = grows.places }
telling-grows old (MeetWriter r w as_writer) =
    let rows : List WriterProxy = numbered old.readers r [] in
    let grows = set_reader-grows old r (with_match rows w) (place_matched rows w) in
    record { writers = grows.writers; places = grows.places }

-- what a call does: lists grow by one entry, and no acknowledgement changes; or it tells

pub entered-grows : (w : Writer) (entry : Written) → WriterGrows w (with_written w entry)
entered-grows w entry = record {
  policy = refl;
  values = refl;
  more = entry ∷ [];
  written = refl;
  owed = λ r. owed_same w (with_written w entry) refl (no_fewer entry w.written) r;
}

pub looked_at-grows : (w : Writer) → WriterGrows w (writer_looked_at w)
looked_at-grows w = record {
  policy = refl;
  values = refl;
  more = [];
  written = refl;
  owed = λ r. omega arith;
}

pub effect-grows : (old : Rtps) (e : Effect) → Grows old (effect old e)
effect-grows old nothing = grows_same old
effect-grows old (writes w entry) =
    set_writer-grows old w (with_written (numbered old.writers w no_writer) entry)
    (entered-grows (numbered old.writers w no_writer) entry)
effect-grows old (tells t) = telling-grows old t
effect-grows old (looks_at_matches w) =
    set_writer-grows old w (writer_looked_at (numbered old.writers w no_writer))
    (looked_at-grows (numbered old.writers w no_writer))

-- the effect tells nobody anything
abbrev pub Untold : Effect → Type 0
Untold (tells t) = ⊥
Untold e = Unit {0}

readers_set : (writers : List Writer) (w : ℕ) (after : Writer) → after.readers ≡ (numbered writers w no_writer).readers
    → (k : ℕ) → (numbered (with_numbered writers w after) k no_writer).readers ≡ (numbered writers k no_writer).readers
readers_set writers w after h k =
    ⊎_elim (λ e. ap (λ (x : Writer). x.readers) e)
    (λ s. ap (λ (x : Writer). x.readers) s.1
    ∙ (h ∙ ap (λ (j : ℕ). (numbered writers j no_writer).readers) (sym s.0)))
    (numbered-cases writers w after k no_writer)

pub effect-readers : (old : Rtps) (e : Effect) → Untold e → (k : ℕ)
    → (numbered (effect old e).writers k no_writer).readers ≡ (numbered old.writers k no_writer).readers
effect-readers old nothing untold k = refl
effect-readers old (writes w entry) untold k =
    readers_set old.writers w (with_written (numbered old.writers w no_writer) entry) refl k
effect-readers old (tells t) untold k = absurd untold
effect-readers old (looks_at_matches w) untold k =
    readers_set old.writers w (writer_looked_at (numbered old.writers w no_writer)) refl k

-- it leaves the rows of readers too
pub effect-rows : (old : Rtps) (e : Effect) → Untold e → (effect old e).readers ≡ old.readers
effect-rows old nothing untold = refl
effect-rows old (writes w entry) untold = refl
effect-rows old (tells t) untold = absurd untold
effect-rows old (looks_at_matches w) untold = refl

pub CallStep-grows : (tests : Tests) (old : Part) (call : Call) (reply : Reply) (new : Part)
    → CallStep tests old call reply new → Grows old.rtps new.rtps
CallStep-grows tests old call reply new h =
    subst (λ (r : Rtps). Grows old.rtps r) (sym h.rtps) (effect-grows old.rtps (effect_of old call reply))

-- a call that tells nobody anything leaves what each writer's readers have acknowledged, and the rows of readers

pub CallStep-readers : (tests : Tests) (old : Part) (call : Call) (reply : Reply) (new : Part)
    → CallStep tests old call reply new → Untold (effect_of old call reply) → (k : ℕ)
    → (own_writer new k).readers ≡ (own_writer old k).readers
CallStep-readers tests old call reply new h untold k =
    ap (λ (r : Rtps). (numbered r.writers k no_writer).readers) h.rtps
    ∙ effect-readers old.rtps (effect_of old call reply) untold k

pub CallStep-rows : (tests : Tests) (old : Part) (call : Call) (reply : Reply) (new : Part)
    → CallStep tests old call reply new → Untold (effect_of old call reply) → new.rtps.readers ≡ old.rtps.readers
CallStep-rows tests old call reply new h untold =
    ap (λ (r : Rtps). r.readers) h.rtps ∙ effect-rows old.rtps (effect_of old call reply) untold

-- what a tick does: each writer's list grows by one entry, and readers, places and acknowledgements stay

ticked-grows : (now : ℕ) (asked : Bool) (w : Writer) → WriterGrows w (ticked now asked w)
ticked-grows now asked w = entered-grows w (Ticked now (is_behind w || asked))

all_ticked-grows : (now : ℕ) (asked : ℕ → Bool) (old : Rtps)
    → Grows old (record old { writers = writers_ticked now asked 1 old.writers })
all_ticked-grows now asked old = record {
  writers = λ k.
      ⊎_elim (λ e. subst (λ (x : Writer). WriterGrows (numbered old.writers k no_writer) x) (sym e)
      (ticked-grows now (asked k) (numbered old.writers k no_writer)))
      (λ n. subst (λ (x : Writer). WriterGrows (numbered old.writers k no_writer) x) (n.1 ∙ sym n.0)
      (writer_same (numbered old.writers k no_writer)))
      (numbered-writers_ticked now asked old.writers k);
  places = λ r v. no_less_same (place_of (numbered old.readers r []) v);
}

pub TickStep-grows : (old : Part) (now : ℕ) (reply : Reply) (new : Part) → TickStep old now reply new
    → Grows old.rtps new.rtps
TickStep-grows old now Done new h =
    subst (λ (p : Part). Grows old.rtps p.rtps) (sym h.1.1) (all_ticked-grows now h.0 old.rtps)
TickStep-grows old now (Refused code) new h =
    subst (λ (p : Part). Grows old.rtps p.rtps) (sym h.1.1) (grows_same old.rtps)
TickStep-grows old now reply new h = absurd h.1

-- a tick leaves the rows of readers, and what happened there
pub TickStep-rows : (old : Part) (now : ℕ) (reply : Reply) (new : Part) → TickStep old now reply new
    → new.rtps.readers ≡ old.rtps.readers
TickStep-rows old now Done new h = ap (λ (p : Part). p.rtps.readers) h.1.1
TickStep-rows old now (Refused code) new h = ap (λ (p : Part). p.rtps.readers) h.1.1
TickStep-rows old now reply new h = absurd h.1

pub TickStep-readers : (old : Part) (now : ℕ) (reply : Reply) (new : Part) → TickStep old now reply new
    → length new.dds.readers ≡ length old.dds.readers
TickStep-readers old now Done new h =
    ap (λ (p : Part). length p.dds.readers) h.1.1 ∙ length-map old.dds.readers (reader_ticked now)
TickStep-readers old now (Refused code) new h = ap (λ (p : Part). length p.dds.readers) h.1.1
TickStep-readers old now reply new h = absurd h.1

ticked-readers : (now : ℕ) (asked : ℕ → Bool) (ws : List Writer) (k : ℕ)
    → (numbered (writers_ticked now asked 1 ws) k no_writer).readers ≡ (numbered ws k no_writer).readers
ticked-readers now asked ws k =
    ⊎_elim (λ e. ap (λ (x : Writer). x.readers) e) (λ n. ap (λ (x : Writer). x.readers) (n.0 ∙ sym n.1))
    (numbered-writers_ticked now asked ws k)

-- a tick leaves what each writer's readers have acknowledged
pub TickStep-acknowledged : (old : Part) (now : ℕ) (reply : Reply) (new : Part) → TickStep old now reply new → (k : ℕ)
    → (own_writer new k).readers ≡ (own_writer old k).readers
TickStep-acknowledged old now Done new h k =
    ap (λ (p : Part). (own_writer p k).readers) h.1.1 ∙ ticked-readers now h.0 old.rtps.writers k
TickStep-acknowledged old now (Refused code) new h k = ap (λ (p : Part). (own_writer p k).readers) h.1.1
TickStep-acknowledged old now reply new h k = absurd h.1

-- changes grow at their end

pub writer-changes : (old new : Writer) → WriterGrows old new
    → (later : List Change) × (writer_changes new ≡ writer_changes old ++ later)
writer-changes old new g = let r = changes-more g.more old.written in (r.0, ap changes_of g.written ∙ r.1)

change_at-cases : (b : Bool) (xs ys : List Change) (i : ℕ) (c : Change) → (if b then slice_get xs i else None) ≡ Some c
    → (if b then slice_get (xs ++ ys) i else None) ≡ Some c
change_at-cases true xs ys i c h = slice_get-append xs ys i c h
change_at-cases false xs ys i c h = cc

pub change_at-append : (xs ys : List Change) (n : ℕ) (c : Change) → change_at xs n ≡ Some c
    → change_at (xs ++ ys) n ≡ Some c
change_at-append xs ys n c h = change_at-cases (nat_lt 0 n) xs ys (n - 1) c h

-- a change that is there has a number from 1 to the last
within-cases : (b : Bool) (xs : List Change) (n : ℕ) (c : Change) → nat_lt 0 n ≡ b
    → (if b then slice_get xs (n - 1) else None) ≡ Some c → n ≤ length xs
within-cases true xs n c e h = let lt = slice_get_within xs (n - 1) c h in omega (arith, lt)
within-cases false xs n c e h = cc

pub change_at-within : (xs : List Change) (n : ℕ) (c : Change) → change_at xs n ≡ Some c → n ≤ length xs
change_at-within xs n c h = within-cases (nat_lt 0 n) xs n c refl h

-- what is dropped stays dropped
dropped-found : (depth : ℕ) (xs ys : List Change) (n : ℕ) (o : Option Change) → change_at xs n ≡ o
    → option_map_or (λ (c : Change). nat_le depth (later_changes xs n c.key)) o false ≡ true
    → is_dropped_by (KeepLast depth) (xs ++ ys) n ≡ true
dropped-found depth xs ys n None found h = cc
dropped-found depth xs ys n (Some c) found h =
    let within : n ≤ length xs = change_at-within xs n c found in
    let later : later_changes (xs ++ ys) n c.key
    ≡ later_changes xs n c.key + count_by (λ (x : Change). same_key x.key c.key) ys =
    rw drop-append-le (sum_by-append (λ (x : Change). cond (same_key x.key c.key) 1 0) (drop n xs) ys) in
    let still : nat_le depth (later_changes (xs ++ ys) n c.key) ≡ true = grind (arith, nat_tests, later, h) in
    ap (λ (o : Option Change). option_map_or (λ (x : Change). nat_le depth (later_changes (xs ++ ys) n x.key)) o false)
    (change_at-append xs ys n c found) ∙ still

pub dropped-append : (policy : HistoryQos) (xs ys : List Change) (n : ℕ) → is_dropped_by policy xs n ≡ true
    → is_dropped_by policy (xs ++ ys) n ≡ true
dropped-append KeepAll xs ys n h = h
dropped-append (KeepLast depth) xs ys n h = dropped-found depth xs ys n (change_at xs n) refl h

pub dropped-grows : (old new : Writer) (n : ℕ) → WriterGrows old new → is_dropped (history_of old) n ≡ true
    → is_dropped (history_of new) n ≡ true
dropped-grows old new n g h =
    let c = writer-changes old new g in
    ap (λ (k : HistoryQos). is_dropped_by k (writer_changes new) n) g.policy
    ∙ (ap (λ (xs : List Change). is_dropped_by old.policy xs n) c.1
    ∙ dropped-append old.policy (writer_changes old) c.0 n h)

-- HEARTBEAT counts grow at their end

if_more : (b c : Bool) (xs ys zs : List Bool) → ys ≡ xs ++ zs
    → (later : List Bool) × ((if b then ys ++ c ∷ [] else ys) ≡ xs ++ later)
if_more true c xs ys zs h = (zs ++ c ∷ [], ap (λ (us : List Bool). us ++ c ∷ []) h ∙ append_assoc xs zs (c ∷ []))
if_more false c xs ys zs h = (zs, h)

pub counts-more : (more written : List Written)
    → (later : List Bool) × (counts_of (more ++ written) ≡ counts_of written ++ later)
counts-more [] written = ([], sym (append_nothing (counts_of written)))
counts-more (Registered key ∷ more) written = counts-more more written
counts-more (LookedAt ∷ more) written = counts-more more written
counts-more (StrengthSet strength ∷ more) written = counts-more more written
counts-more (Changed change ∷ more) written = counts-more more written
counts-more (Asserted moment ∷ more) written =
    let r = counts-more more written in
    if_more true true (counts_of written) (counts_of (more ++ written)) r.0 r.1
counts-more (Ticked now behind ∷ more) written =
    let r = counts-more more written in
    if_more behind false (counts_of written) (counts_of (more ++ written)) r.0 r.1

get-append : (xs ys : List Bool) (i : ℕ) → get_or xs i false ≡ true → get_or (xs ++ ys) i false ≡ true
get-append [] ys i h = cc
get-append (x ∷ xs) ys zero h = h
get-append (x ∷ xs) ys (suc i) h = get-append xs ys i h

numbered-append : (xs ys : List Bool) (n : ℕ) → numbered xs n false ≡ true → numbered (xs ++ ys) n false ≡ true
numbered-append xs ys zero h = h
numbered-append xs ys (suc n) h = get-append xs ys n h

pub assertion-grows : (old new : Writer) (count : ℤ) → WriterGrows old new → is_assertion old count ≡ true
    → is_assertion new count ≡ true
assertion-grows old new (pos n) g h =
    let r = counts-more g.more old.written in
    let is : counts_of new.written ≡ counts_of old.written ++ r.0 =
    ap (λ (c : List Written). counts_of c) g.written ∙ r.1 in
    ap (λ (xs : List Bool). numbered xs n false) is ∙ numbered-append (counts_of old.written) r.0 n h
assertion-grows old new (negsuc n) g h = cc

-- the machine grows

pub record MachineGrows (old new : Machine) : Type 0 where
  pub writers : (w : Endpoint) → WriterGrows (writer_at old w) (writer_at new w)
  pub places : (r w : Endpoint) → NoLess (place_at old r w) (place_at new r w)

abbrev pub with_part : Machine → ℕ → Part → Machine
with_part m peer after = record { parts = with_numbered m.parts peer after }

pub with_part-grows : (m : Machine) (peer : ℕ) (after : Part) → Grows (part_at m peer).rtps after.rtps
    → MachineGrows m (with_part m peer after)
with_part-grows m peer after g = record {
  writers = λ w.
      ⊎_elim (λ e. subst (λ (q : Part). WriterGrows (writer_at m w) (own_writer q w.number)) (sym e)
      (writer_same (writer_at m w)))
      (λ s. subst (λ (q : Part). WriterGrows (writer_at m w) (own_writer q w.number)) (sym s.1)
      (subst (λ (j : ℕ). WriterGrows (own_writer (part_at m j) w.number) (own_writer after w.number)) (sym s.0)
      (g.writers w.number)))
      (numbered-cases m.parts peer after w.peer no_part);
  places = λ r w.
      ⊎_elim (λ e. subst (λ (q : Part). NoLess (place_at m r w) (place_of (own_proxies q r.number) w)) (sym e)
      (no_less_same (place_at m r w)))
      (λ s.
      subst (λ (q : Part). NoLess (place_at m r w) (place_of (own_proxies q r.number) w)) (sym s.1)
      (subst (λ (j : ℕ). NoLess (place_of (own_proxies (part_at m j) r.number) w)
      (place_of (own_proxies after r.number) w)) (sym s.0) (g.places r.number w)))
      (numbered-cases m.parts peer after r.peer no_part);
}

pub Holds-grows : (old new : Machine) → MachineGrows old new → (c : Claim) → Holds old c → Holds new c
Holds-grows old new g (ChangeIs w r n c) h =
    let later = writer-changes (writer_at old w) (writer_at new w) (g.writers w) in
    ap (λ (xs : List Change). change_at xs n) later.1
    ∙ change_at-append (writer_changes (writer_at old w)) later.0 n c h
Holds-grows old new g (MayPass w r n) h =
    ⊎_elim (λ d. inl (dropped-grows (writer_at old w) (writer_at new w) n (g.writers w) d))
    (λ o. ⊎_elim (λ b. let more = (g.writers w).owed r in inr (inl (omega (arith, b, more))))
    (λ b. inr (inr (below_on n (place_at old r w) (place_at new r w) b (g.places r w)))) o) h
Holds-grows old new g (PlaceReached w r base) h = at_most_on base (place_at old r w) (place_at new r w) h (g.places r w)
Holds-grows old new g (Asserts w r count) h = assertion-grows (writer_at old w) (writer_at new w) count (g.writers w) h
