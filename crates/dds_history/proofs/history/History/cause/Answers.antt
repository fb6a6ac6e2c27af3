use Rattle.std.proofs.Common.{◌≡◌, ◌+◌, ◌<◌, ◌^◌, ap, sym, ◌∙◌, arith}
use Rattle.dds_base.specs.declared.key.Key.{Key}
use Rattle.dds_base.specs.Kept.{WriterHistory, exceeds}
use Rattle.dds_history.specs.Held.{awaits, held_of, kept_after}
use Rattle.dds_history.specs.Standing.{Held, StandsFor}
use Rattle.dds_history.proofs.Letting.{refuses_by}
use Rattle.dds_history.proofs.history.History.cause.Goals as goal
use Rattle.dds_history.proofs.history.History.cause.Goals.{After-is_full}

-- fewer changes were made than there can be
few : (c : After-is_full) → c.args.self.now.last < 2 ^ 48
few c = let last = ap (λ (v : Held). v.last) c.self.view_is in omega (arith, last)

-- whether too many would be kept is what the test says
tested : (c : After-is_full) (w : WriterHistory) (key : Key) → StandsFor c.args.self.now w → key ≡ c.args.key
    → exceeds c.args.self.now.max_samples (kept_after w.policy (held_of w) key
    (awaits w.acknowledged (c.args.self.now.last + 1))) ≡ c.is_full.result
tested c w key s same =
    let now : Held = c.args.self.now in
    ap (λ (k : Key). exceeds now.max_samples (kept_after w.policy (held_of w) k (awaits w.acknowledged (now.last + 1)))) same
    ∙ sym (c.is_full.ensures w s)

pub returns-then-is_full-clause-refusal : goal.returns-then-is_full-clause-refusal
returns-then-is_full-clause-refusal c = λ w change s same.
    let at = (goal.at.returns-then-is_full-clause-refusal c).After-is_full in
    sym (refuses_by c.args.self.now w change _ s (few at) (tested at w change.key s same ∙ c.if-is_full.true))

pub returns-clause-refusal : goal.returns-clause-refusal
returns-clause-refusal c = λ w change s same.
    let at = (goal.at.returns-clause-refusal c).After-is_full in
    sym (refuses_by c.args.self.now w change _ s (few at) (tested at w change.key s same ∙ c.if-is_full.false))
