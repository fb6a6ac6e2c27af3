use Rattle.dds_base.specs.Written.{Registered}
use Rattle.dds_ends.specs.Standing.{state_of}
use Rattle.dds_ends.proofs.WriterEnds.{enters_if, stands_there}
use Rattle.dds_ends.proofs.writer_end.WriterEnd.register.Goals as goal

pub returns-clause-ok : goal.returns-clause-ok
returns-clause-ok c =
    enters_if c.register.result _ c.args.self.now
    (Registered c.args.key) c.register.new.self c.self.view_is c.register.ensures.ok

pub returns-clause-unregistered : goal.returns-clause-unregistered
returns-clause-unregistered c = λ w answered s.
    c.register.ensures.new (state_of w answered) (stands_there _ c.args.self.now w answered c.self.view_is s).writer
