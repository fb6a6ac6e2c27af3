use Rattle.rtps_reader.specs.Moving.{match_of}
use Rattle.rtps_reader.specs.Proxy.{tracked}
use Rattle.rtps_reader.proofs.BeginLaws.{change_begun}
use Rattle.rtps_reader.proofs.known_writer.KnownWriter.on_best_effort_data.Goals as goal

pub returns-in-Begun-clause-meets : goal.returns-in-Begun-clause-meets
returns-in-Begun-clause-meets g c =
    change_begun c.args.self.now.how (match_of (g.S.Sink.qos c.args.sink.now) c.args.source.now)
    (g.S.Sink.stands c.args.sink.now) (g.S.Sink.stands c.on_best_effort_data.new.sink) (tracked c.args.self.now.proxy)
    (tracked c.on_best_effort_data.new.self) c.args.number c.args.change c.on_best_effort_data.result c.in-Begun.is
    c.on_best_effort_data.ensures.jumps c.on_best_effort_data.ensures.quiet
