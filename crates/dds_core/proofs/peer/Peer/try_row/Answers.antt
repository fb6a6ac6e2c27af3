use Rattle.dds_core.proofs.ResumedRows.{tries_row}
use Rattle.dds_core.proofs.peer.Peer.try_row.Goals as goal

pub returns-clause-tries : goal.returns-clause-tries
returns-clause-tries c =
    tries_row c.args.self.now c.take_at.new.self c.args.index c.args.row c.args.effects.now c.take_at.new.effects
    c.requires.can c.take_at.ensures.takes
