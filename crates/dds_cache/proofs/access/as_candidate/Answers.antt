use Rattle.dds_cache.proofs.KeptLaws.{kept-stated}
use Rattle.dds_cache.proofs.access.as_candidate.Goals as goal

pub returns-in-None-clause-wanted : goal.returns-in-None-clause-wanted
returns-in-None-clause-wanted g c =
    λ h stands kept. absurd (kept-stated c.args.qos.now h c.args.kept.now kept
    (c.in-None.ensures.key c.args.qos.now h stands))

pub returns-in-Some-clause-wanted : goal.returns-in-Some-clause-wanted
returns-in-Some-clause-wanted g c = λ h stands kept.
    c.candidate_of.ensures.wanted h (c.in-Some.ensures.known c.args.qos.now h stands)
    (c.in-Some.ensures.key c.args.qos.now h stands) kept
