use Rattle.std.proofs.Common.{ap}
use Rattle.dds_core.specs.Kept.{PeerKept}
use Rattle.dds_ends.specs.Readiness.{receiver_at}
use Rattle.dds_core.proofs.TakenAtOnce.{announcement_refused, announcement_taken, comes_to_change}
use Rattle.dds_core.proofs.peer.Peer.take_announcement.Goals as goal

pub returns-in-Ok-clause-takes : goal.returns-in-Ok-clause-takes
returns-in-Ok-clause-takes c = λ body announces.
    let at =
    comes_to_change c.self.inside.prefix c.args.self.now.prefix c.args.announcement
    (receiver_at c.receiver_for-receiver.result) (receiver_at c.note_destination.new.self)
    (receiver_at c.note_timestamp.new.self) (ap (λ (k : PeerKept). k.prefix) c.self.view_is)
    c.receiver_for-receiver.ensures (c.note_destination.ensures c.self.inside.prefix) c.note_timestamp.ensures in
    announcement_taken c.args.self.now c.tell_readers.new.self c.args.announcement body
    (receiver_at c.note_timestamp.new.self) c.args.effects.now c.tell_readers.new.effects c.take_report.result announces
    c.requires.none.moves c.requires.none.packets c.requires.none.unsent at c.in-Ok.ensures.takes
    c.take_report.ensures.report

pub returns-in-Err-clause-takes : goal.returns-in-Err-clause-takes
returns-in-Err-clause-takes c = λ body announces.
    let at =
    comes_to_change c.self.inside.prefix c.args.self.now.prefix c.args.announcement
    (receiver_at c.receiver_for-receiver.result) (receiver_at c.note_destination.new.self)
    (receiver_at c.note_timestamp.new.self) (ap (λ (k : PeerKept). k.prefix) c.self.view_is)
    c.receiver_for-receiver.ensures (c.note_destination.ensures c.self.inside.prefix) c.note_timestamp.ensures in
    let kept = c.in-Err.ensures.keeps.err in
    announcement_refused c.args.self.now c.tell_readers.new.self c.args.announcement body
    (receiver_at c.note_timestamp.new.self) c.args.effects.now c.tell_readers.new.effects c.take_report-in-Err.result
    announces c.requires.none.moves c.requires.none.packets c.requires.none.unsent at c.in-Err.ensures.needs kept.0 kept.1
    kept.2 c.take_report-in-Err.ensures.report
