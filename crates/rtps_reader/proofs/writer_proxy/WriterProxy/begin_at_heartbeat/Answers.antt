use Rattle.std.proofs.Common.{◌∙◌, ap, subst, ℕ}
use Rattle.std.specs.Prelude.{Some, Result, IfOk, max}
use Rattle.dds_base.specs.declared.code.Code.{Code}
use Rattle.rtps_reader.specs.declared.step.Step.{Step}
use Rattle.rtps_reader.specs.Moving.{HeartbeatMoves, match_of}
use Rattle.rtps_reader.specs.Proxy.{tracked}
use Rattle.rtps_reader.proofs.BeginLaws.{begun_heartbeat}
use Rattle.rtps_reader.proofs.writer_proxy.WriterProxy.begin_at_heartbeat.Goals as goal

pub returns-clause-meets : goal.returns-clause-meets
returns-clause-meets g c h was later =
    let made = c.in_ok-reserve.ensures in
    let q = g.S.Sink.qos c.reserve.new.sink in
    let before = g.S.Sink.stands c.reserve.new.sink in
    let after = g.S.Sink.stands c.on_heartbeat.new.sink in
    let t = tracked c.begin.new.self in
    let new = tracked c.on_heartbeat.new.self in
    let moves : HeartbeatMoves (match_of q c.args.source.now) before after t c.args.heartbeat.now
    c.unwrap-step.result new =
    subst (λ (r : Result Step Code). IfOk r (λ step. HeartbeatMoves (match_of q c.args.source.now) before after t
    c.args.heartbeat.now step new)) c.unwrap-step.ensures c.on_heartbeat.ensures.moves in (
      ap (λ (n : ℕ). Some n) (c.place-at.ensures ∙ (c.begin.ensures.place
          ∙ ap (λ (n : ℕ). max n c.args.heartbeat.now.first) made.same.place)),
      begun_heartbeat (g.S.Sink.qos c.args.sink.now) q c.args.source.now (g.S.Sink.stands c.args.sink.now) before after
          (tracked c.args.self.now) (tracked c.reserve.new.self) t new c.args.heartbeat.now
          c.unwrap-step.result c.place-at.result made.qos made.stands made.same
          c.begin.ensures.stays c.begin.ensures.place moves h was later,
    )
