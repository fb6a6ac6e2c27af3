use Rattle.std.proofs.Common.{◌∙◌, refl, sym}
use Rattle.rtps_discovery.proofs.Delivering.{goes_on, passes_none, passes_own}
use Rattle.rtps_discovery.proofs.discovery.Participants.deliver.Goals as goal

pub returns-in_default-clause-ok : goal.returns-in_default-clause-ok
returns-in_default-clause-ok c =
    passes_none c.args.self.now c.args.moment c.args.address.now c.args.bytes.now _ c.in_default.ensures.none
    (goes_on _ _ _ _ c.args.moment c.self.view_is c.max-now.ensures refl)

pub returns-then-not-is_other-clause-ok : goal.returns-then-not-is_other-clause-ok
returns-then-not-is_other-clause-ok c =
    passes_own c.args.self.now c.args.moment c.args.address.now c.args.bytes.now _ c.in-Some.source c.in-Some.body.now
    c.in-Some.ensures.found (sym c.is_other.ensures ∙ c.if-not-is_other.true)
    (goes_on _ _ _ _ c.args.moment c.self.view_is c.max-now.ensures refl)
