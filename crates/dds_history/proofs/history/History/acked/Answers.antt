use Rattle.std.proofs.Common.{◌≡◌, ◌<◌, ◌≤◌, ℕ, List, min, set, get_or, length, ap, sym, ◌∙◌, subst, arith}
use Rattle.std.specs.Prelude.{filter, nat_le}
use Rattle.std.specs.List.{reduce}
use Rattle.std.specs.Option.{unwrap_or}
use Rattle.std.proofs.lemmas.List.{get_or_default, length-set}
use Rattle.std.proofs.lemmas.List.Elements.{filter_agree}
use Rattle.dds_base.specs.Kept.{WriterHistory, acknowledge}
use Rattle.dds_history.specs.Entries.{parts, shown, state}
use Rattle.dds_history.specs.Held.{HeldChange, awaits}
use Rattle.dds_history.specs.Standing.{Held, StandsFor, kept_in}
use Rattle.dds_history.proofs.Letting.{stands-acked, stands-unmoved, stands_as}
use Rattle.dds_history.proofs.Rising.{awaited-from_least}
use Rattle.dds_history.proofs.history.History.acked.Goals as goal
use Rattle.dds_history.proofs.history.History.acked.Goals.{After-index}

-- the history, opened
abbrev opened : After-index → Held
opened c = record {
  policy = c.self.inside.kept.policy;
  max_samples = c.self.inside.max_samples;
  last = c.self.inside.last;
  acknowledged = c.self.inside.acknowledged.items;
  kept = parts (state c.self.inside.kept);
}

opened_stands : (c : After-index) (w : WriterHistory) → StandsFor c.args.self.now w → StandsFor (opened c) w
opened_stands c w s = stands_as c.args.self.now (opened c) w (sym c.self.view_is) s

-- what the reader has acknowledged so far
so_far : (c : After-index) → c.index.result.now ≡ get_or (opened c).acknowledged c.args.reader 0
so_far c =
    let count = ap (λ (v : Held). length v.acknowledged) c.self.view_is in
    c.index.ensures ∙ get_or_default (opened c).acknowledged c.args.reader _ 0 (omega (arith, count, c.requires.reader))

pub returns-then-index-to-clause-stands : goal.returns-then-index-to-clause-stands
returns-then-index-to-clause-stands c = λ w s.
    let at = (goal.at.returns-then-index-to-clause-stands c).After-index in
    let now = opened at in
    let here = opened_stands at w s in
    let so = so_far at in
    let lt : get_or now.acknowledged c.args.reader 0 < c.number-to.result = omega (arith, so, c.if-index-to.true) in
    let after : List ℕ = set now.acknowledged c.args.reader c.number-to.result in
    let some : 0 < length after =
    let count = ap (λ (v : Held). length v.acknowledged) c.self.view_is in
    omega (arith, count, c.requires.reader, length-set now.acknowledged c.args.reader c.number-to.result) in
    let rest = c.acknowledge.ensures.rest now.last here.holds in
    let none : ℕ = c.number-to.result in
    let first : c.first_awaited.result ≡ unwrap_or (reduce min after) none =
    c.first_awaited.ensures ∙ ap (λ (a : List ℕ). unwrap_or (reduce min a) none) c.deref.ensures.value in
    let shown_is = rest.1
    ∙ (ap (λ (n : ℕ). filter (λ (e : HeldChange). nat_le n e.number) (shown (kept_in now))) first
    ∙ filter_agree (λ (e : HeldChange). nat_le (unwrap_or (reduce min after) none) e.number)
    (λ (e : HeldChange). awaits after e.number) (λ e. sym (awaited-from_least after none e.number some)) (shown (kept_in now))) in
    let moved = stands-acked now w c.args.reader c.number-to.result (state c.acknowledge.new.self) here lt
    c.acknowledge.ensures.policy shown_is rest.0 in
    subst (λ (k : ℕ). StandsFor (record now { policy = c.acknowledge.new.self.policy; kept = parts (state c.acknowledge.new.self); acknowledged = after })
    (acknowledge w c.args.reader k)) c.number-to.ensures.number moved

pub returns-else-index-to-clause-stands : goal.returns-else-index-to-clause-stands
returns-else-index-to-clause-stands c = λ w s.
    let at = (goal.at.returns-else-index-to-clause-stands c).After-index in
    let now = opened at in
    let here = so_far at in
    let le : c.number-to.result ≤ get_or now.acknowledged c.args.reader 0 = omega (arith, here, c.if-index-to.false) in
    let same = stands-unmoved now w c.args.reader c.number-to.result (opened_stands at w s) le in
    stands_as now c.args.self.now (acknowledge w c.args.reader c.args.to) c.self.view_is
    (subst (λ (k : ℕ). StandsFor now (acknowledge w c.args.reader k)) c.number-to.ensures.number same)
