use Rattle.rtps_reader.proofs.ReaderLaws.{opened, known_here}
use Rattle.rtps_reader.proofs.stateful_reader.StatefulReader.place.Goals as goal

pub returns-clause-known : goal.returns-clause-known
returns-clause-known c = known_here
    (opened c.self.view_is
    c.requires.matched c.index.ensures)
