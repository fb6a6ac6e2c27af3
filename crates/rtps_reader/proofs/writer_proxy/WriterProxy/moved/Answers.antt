use Rattle.rtps_reader.proofs.writer_proxy.WriterProxy.moved.Goals as goal

pub returns-clause-moves : goal.returns-clause-moves
returns-clause-moves g c =
    rw (c.passed_of-passed.ensures, c.place.ensures.place) c.advance.ensures.moves
