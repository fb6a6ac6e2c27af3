use Rattle.std.proofs.Common.{◌≡◌, refl, sym, ap, ◌∙◌, subst}
use Rattle.std.specs.Prelude.{Some}
use Rattle.dds_base.specs.declared.qos.ReaderQos.{ReaderQos}
use Rattle.rtps_reader.specs.Answer.{heard_after}
use Rattle.rtps_reader.specs.Moving.{match_of}
use Rattle.rtps_reader.specs.Proxy.{tracked}
use Rattle.rtps_reader.specs.Tracked.{Tracked}
use Rattle.rtps_reader.proofs.MoveLaws.{same_is}
use Rattle.rtps_reader.proofs.ReaderLaws.{same_from}
use Rattle.rtps_reader.proofs.writer_proxy.WriterProxy.hear_alone.Goals as goal

pub returns-clause-meets : goal.returns-clause-meets
returns-clause-meets g c h was later =
    let made = c.in_ok-reserve.ensures in
    let now : tracked c.note_count.new.self
    ≡ record (tracked c.args.self.now) { count = Some c.args.heartbeat.now.count } =
    c.note_count.ensures.tells
    ∙ ap (λ (t : Tracked). record t { count = Some c.args.heartbeat.now.count }) (same_is _ _ made.same) in
    record {
      begun = c.idle-step.ensures.begun;
      to = c.idle-step.ensures.to ∙ ap (λ (t : Tracked). t.place) now;
      passed = c.idle-step.ensures.passed;
      heard = refl;
      acknack = c.idle-step.ensures.acknack;
      known = same_from (tracked c.note_count.new.self)
          (record (tracked c.args.self.now) { count = Some c.args.heartbeat.now.count }) (sym now);
      stands = subst (λ (q : ReaderQos). g.S.Sink.stands c.hear_if.new.sink
          (heard_after (match_of q c.args.source.now) c.args.heartbeat.now.liveliness h)) made.qos
          (c.hear_if.ensures.entered h (made.stands h was));
    }
