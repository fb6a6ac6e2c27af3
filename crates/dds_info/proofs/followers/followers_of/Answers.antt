use Rattle.std.proofs.Common.{refl, arith}
use Rattle.dds_info.proofs.FollowerLaws.{followed-none}
use Rattle.dds_info.proofs.followers.followers_of.Goals as goal

pub returns-then-number : goal.returns-then-number
returns-then-number c =
    followed-none c.args.sample.now c.args.least c.args.later.now _
    (omega (arith, c.if-number.true, c.number.ensures.number, c.number-2.ensures.number)) c.requires.least
    refl c.generations.ensures
