-- What is true of a peer's lists and places stays true while a packet is taken up.
use Rattle.std.proofs.Common.{◌≡◌, ◌⊎◌, ℕ, ◌<◌, List, [], ◌∷◌, Option, Some, length, refl, subst, ap, sym, ◌∙◌, inl, inr, ⊎_elim, arith}
use Rattle.std.proofs.lemmas.List.Elements.{All-weaker}
use Rattle.dds_base.specs.declared.change.Change.{Change}
use Rattle.dds_protocol.specs.Roster.{Roster}
use Rattle.dds_base.specs.Kept.{change_at}
use Rattle.dds_base.specs.Written.{Written, changes_of}
use Rattle.dds_base.specs.declared.endpoint.Endpoint.{Endpoint}
use Rattle.dds_machine.specs.declared.reply.Move.{Move}
use Rattle.dds_machine.specs.declared.reply.Move.TheVariants.{Place, Acknowledged, Heard, Begun as HasBegun, Strange}
use Rattle.dds_machine.specs.Numbered.{numbered, with_numbered}
use Rattle.dds_machine.specs.Part.{Part, ReaderProxy, Writer, no_writer, own_writer, own_proxies, acknowledged_of, with_acknowledged, place_of, writer_changes, at_writer, NoLess}
use Rattle.dds_machine.specs.Moves.{Grounds, IsMove, AreMoves}
use Rattle.dds_protocol.specs.Claims.{Claim, ChangeIs, MayPass, PlaceReached, Asserts}
use Rattle.dds_protocol.specs.Peer.{IsTrueAt}
use Rattle.dds_protocol.specs.DueMessages.{Due}
use Rattle.dds_protocol.specs.Dues.{AreTellable, IsPartOf, IsTruthful, AreTruthful, AreSmall, HasSmallChanges}
use Rattle.dds_protocol.proofs.Growth.{Grows, grows_same, grows_on, IsMove-grows, writer-changes, change_at-append, dropped-grows, assertion-grows}
use Rattle.dds_machine.proofs.Tables.{numbered-cases, length-with_numbered, acknowledged-cases, no_less_same, no_less_on, at_most_on, below_on}

-- no acknowledgement goes back
abbrev pub KeepsAcknowledged : Part → Part → Type 0
KeepsAcknowledged old new =
    (w : ℕ) (r : Endpoint) → NoLess (acknowledged_of (own_writer old w).readers r)
    (acknowledged_of (own_writer new w).readers r)

-- what is true of a part is true of one that has grown
pub true_on : (peer : ℕ) (old new : Part) → Grows old.rtps new.rtps → KeepsAcknowledged old new → (c : Claim)
    → IsTrueAt peer old c → IsTrueAt peer new c
true_on peer old new g a (ChangeIs w r n c) h =
    let later = writer-changes (own_writer old w.number) (own_writer new w.number) (g.writers w.number) in (
      h.0,
      ap (λ (xs : List Change). change_at xs n) later.1 ∙ change_at-append
          (writer_changes (own_writer old w.number)) later.0 n c h.1,
    )
true_on peer old new g a (MayPass w r n) h = (
  h.0,
  ⊎_elim (λ d. inl (dropped-grows (own_writer old w.number) (own_writer new w.number) n (g.writers w.number) d))
      (λ o. ⊎_elim (λ b. let more = (g.writers w.number).owed r in inr (inl (omega (arith, b, more))))
      (λ b. inr (inr (below_on n (acknowledged_of (own_writer old w.number).readers r)
      (acknowledged_of (own_writer new w.number).readers r) b (a w.number r)))) o) h.1,
)
true_on peer old new g a (PlaceReached w r base) h = (
  h.0,
  at_most_on base (place_of (own_proxies old r.number) w) (place_of (own_proxies new r.number) w) h.1
      (g.places r.number w),
)
true_on peer old new g a (Asserts w r count) h =
    (h.0, assertion-grows (own_writer old w.number) (own_writer new w.number) count (g.writers w.number) h.1)

pub truthful_on : (roster : Roster) (peer : ℕ) (old new : Part) → Grows old.rtps new.rtps → KeepsAcknowledged old new
    → (dues : List Due) → AreTruthful roster peer old dues → AreTruthful roster peer new dues
truthful_on roster peer old new g a dues h =
    All-weaker (IsTruthful roster peer old) (IsTruthful roster peer new)
    (λ due t claim writable says. true_on peer old new g a claim (t claim writable says)) dues h

-- as many writers are there
pub is_part_kept : (roster : Roster) (peer : ℕ) (old new : Part) → length new.rtps.writers ≡ length old.rtps.writers
    → IsPartOf roster peer old → IsPartOf roster peer new
is_part_kept roster peer old new count h number there =
    let low = there.0 in
    let high = there.1 in
    h number (low, omega (arith, high, count))

-- ---- what a packet does: places and acknowledgements go on, and nothing is written

pub record Gains (old new : Part) : Type 0 where
  pub grows : Grows old.rtps new.rtps
  pub acknowledged : KeepsAcknowledged old new
  pub written : (w : ℕ) → (own_writer new w).written ≡ (own_writer old w).written
  pub count : length new.rtps.writers ≡ length old.rtps.writers

pub gains_same : (p : Part) → Gains p p
gains_same p = record {
  grows = grows_same p.rtps;
  acknowledged = λ w r. no_less_same (acknowledged_of (own_writer p w).readers r);
  written = λ w. refl;
  count = refl;
}

pub gains_on : (a b c : Part) → Gains a b → Gains b c → Gains a c
gains_on a b c f g = record {
  grows = grows_on a.rtps b.rtps c.rtps f.grows g.grows;
  acknowledged = λ w r.
      no_less_on (acknowledged_of (own_writer a w).readers r) (acknowledged_of (own_writer b w).readers r)
      (acknowledged_of (own_writer c w).readers r) (f.acknowledged w r) (g.acknowledged w r);
  written = λ w. g.written w ∙ f.written w;
  count = g.count ∙ f.count;
}

-- a step at a reader leaves the writers as they were
gains_there : (old new : Part) → Grows old.rtps new.rtps → new.rtps.writers ≡ old.rtps.writers → Gains old new
gains_there old new g same =
    let at : (w : ℕ) → own_writer new w ≡ own_writer old w =
    λ w. ap (λ (ws : List Writer). numbered ws w no_writer) same in
    record {
      grows = g;
      acknowledged = λ w r. subst (λ (x : Writer). NoLess (acknowledged_of (own_writer old w).readers r)
          (acknowledged_of x.readers r)) (sym (at w)) (no_less_same (acknowledged_of (own_writer old w).readers r));
      written = λ w. ap (λ (x : Writer). x.written) (at w);
      count = ap (λ (ws : List Writer). length ws) same;
    }

-- a row of which more is acknowledged
acknowledged_more : (rows : List ReaderProxy) (r : Endpoint) (from to : ℕ) → acknowledged_of rows r ≡ Some from
    → from < to → (v : Endpoint) → NoLess (acknowledged_of rows v) (acknowledged_of (with_acknowledged rows r to) v)
acknowledged_more rows r from to is less v =
    ⊎_elim (λ e. subst (λ (o : Option ℕ). NoLess (acknowledged_of rows v) o) (sym e)
    (no_less_same (acknowledged_of rows v)))
    (λ s.
    subst (λ (o : Option ℕ). NoLess (acknowledged_of rows v) o) (sym s.1)
    (subst (λ (o : Option ℕ). NoLess o (Some to)) (sym (ap (λ (x : Endpoint). acknowledged_of rows x) s.0 ∙ is))
    (omega (arith, less)))) (acknowledged-cases rows r from to v is)

gains_here : (old : Part) (w : ℕ) (r : Endpoint) (from to : ℕ) (new : Part)
    → acknowledged_of (own_writer old w).readers r ≡ Some from → from < to → Grows old.rtps new.rtps
    → new ≡ at_writer old w (record (own_writer old w) { readers = with_acknowledged (own_writer old w).readers r to })
    → Gains old new
gains_here old w r from to new is less g after = record {
  grows = g;
  acknowledged = λ k v. subst (λ (p : Part). NoLess (acknowledged_of (own_writer old k).readers v)
      (acknowledged_of (own_writer p k).readers v)) (sym after) (row k v (cases k));
  written = λ k. ap (λ (p : Part). (own_writer p k).written) after ∙ list k (cases k);
  count = ap (λ (p : Part). length p.rtps.writers) after ∙ length-with_numbered old.rtps.writers w made;
}
  where
    before : Writer
    before = own_writer old w

    made : Writer
    made = record before { readers = with_acknowledged before.readers r to }

    put : ℕ → Writer
    put k = numbered (with_numbered old.rtps.writers w made) k no_writer

    cases : (k : ℕ) → (put k ≡ own_writer old k) ⊎ ((k ≡ w) × (put k ≡ made))
    cases k = numbered-cases old.rtps.writers w made k no_writer

    row : (k : ℕ) (v : Endpoint) → (put k ≡ own_writer old k) ⊎ ((k ≡ w) × (put k ≡ made))
        → NoLess (acknowledged_of (own_writer old k).readers v) (acknowledged_of (put k).readers v)
    row k v (inl e) =
        subst (λ (x : Writer). NoLess (acknowledged_of (own_writer old k).readers v) (acknowledged_of x.readers v))
        (sym e) (no_less_same (acknowledged_of (own_writer old k).readers v))
    row k v (inr s) =
        subst (λ (x : Writer). NoLess (acknowledged_of (own_writer old k).readers v) (acknowledged_of x.readers v))
        (sym s.1)
        (subst (λ (j : ℕ). NoLess (acknowledged_of (own_writer old j).readers v) (acknowledged_of made.readers v))
        (sym s.0) (acknowledged_more before.readers r from to is less v))

    list : (k : ℕ) → (put k ≡ own_writer old k) ⊎ ((k ≡ w) × (put k ≡ made))
        → (put k).written ≡ (own_writer old k).written
    list k (inl e) = ap (λ (x : Writer). x.written) e
    list k (inr s) = ap (λ (x : Writer). x.written) s.1 ∙ ap (λ (j : ℕ). (own_writer old j).written) (sym s.0)

pub IsMove-gains : (g : Grounds) (old : Part) (m : Move) (new : Part) → IsMove g old m new → Gains old new
IsMove-gains g old (Place w r to passed) new h =
    gains_there old new (IsMove-grows g old (Place w r to passed) new h) (ap (λ (p : Part). p.rtps.writers) h.after)
IsMove-gains g old (Heard w r) new h =
    gains_there old new (IsMove-grows g old (Heard w r) new h) (ap (λ (p : Part). p.rtps.writers) h.after)
IsMove-gains g old (HasBegun w r from to) new h =
    gains_there old new (IsMove-grows g old (HasBegun w r from to) new h) (ap (λ (p : Part). p.rtps.writers) h.after)
IsMove-gains g old (Strange w r) new h = subst (λ (p : Part). Gains old p) (sym h.after) (gains_same old)
IsMove-gains g old (Acknowledged w r to) new h =
    gains_here old w r h.acknowledged to new h.matched h.forward
    (IsMove-grows g old (Acknowledged w r to) new h) h.after

pub AreMoves-gains : (g : Grounds) (old : Part) (ms : List Move) (new : Part) → AreMoves g old ms new → Gains old new
AreMoves-gains g old [] new h = subst (λ (p : Part). Gains old p) (sym h) (gains_same old)
AreMoves-gains g old (m ∷ ms) new h =
    gains_on old h.0 new (IsMove-gains g old m h.0 h.1) (AreMoves-gains g h.0 ms new h.2)

-- what is due stays true
pub truthful_gained : (roster : Roster) (peer : ℕ) (old new : Part) → Gains old new → (dues : List Due)
    → AreTruthful roster peer old dues → AreTruthful roster peer new dues
truthful_gained roster peer old new g dues h = truthful_on roster peer old new g.grows g.acknowledged dues h

-- changes that can be told stay so
pub tellable_gained : (old new : Part) → Gains old new → AreTellable old → AreTellable new
tellable_gained old new g h w n c is =
    h w n c (ap (λ (xs : List Written). change_at (changes_of xs) n) (sym (g.written w)) ∙ is)

-- and small
pub small_gained : (old new : Part) → Gains old new → HasSmallChanges old → HasSmallChanges new
small_gained old new g h w =
    subst (λ (most : ℕ). AreSmall most (writer_changes (own_writer new w))) (sym (g.grows.writers w).values)
    (subst (λ (xs : List Written). AreSmall (own_writer old w).max_value (changes_of xs)) (sym (g.written w)) (h w))
