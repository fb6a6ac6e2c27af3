use Rattle.std.proofs.Common.{length, ap, sym, subst, ◌∙◌, arith}
use Rattle.std.proofs.lemmas.List.{length-append}
use Rattle.rtps_wire.specs.declared.submessage.Submessage.TheVariants.{Data}
use Rattle.rtps_wire.specs.Messages.{header_text}
use Rattle.dds_machine.specs.declared.reply.Report.{Report}
use Rattle.dds_core.specs.Receiving.{ReceivesPacket}
use Rattle.dds_core.proofs.Taking.{bounded, receives_message, receives_nothing}
use Rattle.dds_core.proofs.peer.Peer.receive.Goals as goal

pub take_announcement-requires-clause-bounded : goal.take_announcement-requires-clause-bounded
take_announcement-requires-clause-bounded c =
    let last = c.in-Some.ensures.found.submessages.2.2.1 in
    bounded last.0 last.1 last.2 (Data c.in-Some.announcement.change) last.4

pub returns-in-Some-clause-receives : goal.returns-in-Some-clause-receives
returns-in-Some-clause-receives c =
    let m = c.in-Some.ensures.found in
    receives_message c.args.self.now c.take_announcement.new.self c.args.packet.now c.in-Some.announcement.source m.body
    c.take_announcement.result c.take_announcement.new.effects.sent m.header
    (c.take_announcement.ensures.takes m.body (m.left, m.submessages))

pub returns-in-Some-begin_message-clause-receives : goal.returns-in-Some-begin_message-clause-receives
returns-in-Some-begin_message-clause-receives c =
    receives_message c.args.self.now c.take_submessages.new.self c.args.packet.now c.in-Some-begin_message.source
    c.in-Some-begin_message.body.now
    c.take_submessages.result c.take_submessages.new.effects.sent
    c.in-Some-begin_message.ensures.found c.take_submessages.ensures.takes

pub returns-in-None-clause-receives : goal.returns-in-None-clause-receives
returns-in-None-clause-receives c =
    subst (λ (r : Report). ReceivesPacket c.args.self.now c.args.packet.now r c.args.self.now c.args.effects.now.sent)
    (sym c.unmoved.ensures)
    (receives_nothing c.args.self.now c.args.packet.now c.args.effects.now.sent c.requires.none.packets c.requires.none.unsent
    c.in-None.ensures.none)

pub take_submessages-requires-clause-few : goal.take_submessages-requires-clause-few
take_submessages-requires-clause-few c =
    let h = c.in-Some-begin_message.ensures.found in
    let whole =
    ap length h.header
    ∙ length-append (header_text h.minor h.vendor c.in-Some-begin_message.source) c.in-Some-begin_message.body.now in
    omega (arith, whole, h.short)
