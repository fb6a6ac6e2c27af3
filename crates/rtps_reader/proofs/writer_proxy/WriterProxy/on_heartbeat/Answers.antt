use Rattle.std.proofs.Common.{◌∙◌, ap, refl}
use Rattle.rtps_reader.specs.Tracked.{Tracked, with_heartbeat}
use Rattle.rtps_reader.specs.Proxy.{tracked}
use Rattle.rtps_reader.proofs.MoveLaws.{accepted, same_is}
use Rattle.rtps_reader.proofs.writer_proxy.WriterProxy.on_heartbeat.Goals as goal

pub returns-clause-moves : goal.returns-clause-moves
returns-clause-moves g c =
    let made = c.in_ok-reserve.ensures in
    accepted (g.S.Sink.qos c.args.sink.now) (g.S.Sink.qos c.hear_if.new.sink) c.args.source.now
    (g.S.Sink.stands c.args.sink.now) (g.S.Sink.stands c.hear_if.new.sink) (g.S.Sink.stands c.moved-step.new.sink)
    (tracked c.args.self.now) (tracked c.accept.new.self) c.args.heartbeat.now _ (tracked c.moved-step.new.self)
    (tracked c.acknowledge-step.new.self)
    (c.hear_if.ensures.qos ∙ made.qos)
    (λ h was. c.hear_if.ensures.entered h (made.stands h was))
    (same_is _ _ c.accept.ensures.tells
    ∙ ap (λ (t : Tracked). with_heartbeat c.args.heartbeat.now.first c.args.heartbeat.now.count t)
    (same_is _ _ made.same))
    refl c.moved-step.ensures.moves c.acknowledge-step.ensures.answers c.acknowledge-step.ensures.counted
