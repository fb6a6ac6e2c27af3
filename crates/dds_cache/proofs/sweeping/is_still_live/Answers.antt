use Rattle.std.proofs.Common.{◌∙◌}
use Rattle.dds_cache.proofs.SweepLaws.{live-stays, unknown-goes}
use Rattle.dds_cache.proofs.sweeping.is_still_live.Goals as goal

pub returns-in-None : goal.returns-in-None
returns-in-None c =
    λ h stands. unknown-goes c.args.qos.now h c.args.kept.now (c.in-None.ensures.key c.args.qos.now h stands)

pub returns-in-Some : goal.returns-in-Some
returns-in-Some c =
    λ h stands. c.is_live.ensures
    ∙ live-stays c.args.qos.now h c.in-Some.known c.args.kept.now (c.in-Some.ensures.known c.args.qos.now h stands)
    (c.in-Some.ensures.key c.args.qos.now h stands)
