use Rattle.std.proofs.Common.{not, List, ℕ, Bool, sym, ap, ◌∙◌}
use Rattle.dds_base.specs.Life.{is_nobody}
use Rattle.dds_owner.proofs.RegistrationLaws.{nobody-kept}
use Rattle.dds_instances.proofs.KnownLaws.{unknown}
use Rattle.dds_instances.proofs.keeping.is_left.Goals as goal

pub returns-in-Some : goal.returns-in-Some
returns-in-Some c = λ q h follows.
    ap (λ (b : Bool). not b) c.has_writers.ensures.kept
    ∙ sym (nobody-kept c.in-Some.track.now.owners q c.args.key h (c.in-Some.ensures.kept q h follows).0.owners_are)

pub returns-in-None : goal.returns-in-None
returns-in-None c = λ q h follows.
    sym (ap (λ (ws : List ℕ). is_nobody ws) (unknown q c.args.key h follows.matched (c.in-None.ensures.kept q h follows)).registered)
