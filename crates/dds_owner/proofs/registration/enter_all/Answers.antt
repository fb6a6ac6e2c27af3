use Rattle.dds_base.proofs.Lists.{map-step}
use Rattle.dds_owner.specs.Registration.{entered}
use Rattle.dds_owner.proofs.registration.enter_all.Goals as goal

pub loop-r-preserved : goal.loop-r-preserved
loop-r-preserved c =
    map-step (entered c.args.is_registered c.args.writer) c.args.registrations.now c.loop-r.registrations
    c.loop-r.r-index _ _ c.loop-r-test.true c.loop-r.auto.registrations c.loop-r.invariant
    c.entered_registration.ensures
