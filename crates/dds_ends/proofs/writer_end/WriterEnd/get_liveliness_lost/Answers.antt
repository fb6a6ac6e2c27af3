use Rattle.std.specs.Prelude.{Ok}
use Rattle.dds_base.specs.Written.{LookedAt}
use Rattle.dds_ends.specs.Standing.{state_of}
use Rattle.dds_ends.proofs.WriterEnds.{enters_if, stands_there}
use Rattle.dds_ends.proofs.writer_end.WriterEnd.get_liveliness_lost.Goals as goal

pub returns-clause-status : goal.returns-clause-status
returns-clause-status c = λ w answered given.
    c.liveliness_lost.ensures.status (state_of w answered)
    (stands_there _ c.args.self.now w answered c.self.view_is given).writer

pub returns-clause-enters : goal.returns-clause-enters
returns-clause-enters c =
    enters_if {A = Unit {0}} {B = Unit {0}}
    (Ok tt) _ c.args.self.now LookedAt c.liveliness_lost.new.self c.self.view_is c.liveliness_lost.ensures.stands
