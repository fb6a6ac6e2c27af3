use Rattle.std.proofs.Common.{◌≡◌, length, refl, sym, ◌∙◌, rules}
use Rattle.dds_ends.proofs.Beating.{adds_if_lost, adds_if_sent, still_messages}
use Rattle.dds_ends.proofs.sending.send.Goals as goal

pub returns-then-len-before-clause-adds : goal.returns-then-len-before-clause-adds
returns-then-len-before-clause-adds c =
    let before : c.len-before.result ≡ length c.args.sent.now.packets.items = search rules in
    let after : c.len.result ≡ length c.push_packet.new.packets.items = search rules in
    adds_if_lost c.args.message.now c.args.message.now c.args.to c.args.sent.now.packets.items
    c.push_packet.new.packets.items c.args.sent.now.unsent c.push_packet.ensures
    (sym after ∙ (c.if-len-before.true ∙ before)) refl

pub returns-then-len-before-clause-messages : goal.returns-then-len-before-clause-messages
returns-then-len-before-clause-messages c = λ h.
    still_messages c.args.message.now c.args.to c.args.sent.now.packets.items c.push_packet.new.packets.items
    c.requires.writable c.requires.some c.push_packet.ensures h

pub returns-else-len-before-clause-adds : goal.returns-else-len-before-clause-adds
returns-else-len-before-clause-adds c =
    let before : c.len-before.result ≡ length c.args.sent.now.packets.items = search rules in
    let after : c.len.result ≡ length c.push_packet.new.packets.items = search rules in
    adds_if_sent c.args.message.now c.args.message.now c.args.to c.args.sent.now.packets.items
    c.push_packet.new.packets.items c.args.sent.now.unsent c.requires.writable c.push_packet.ensures
    (λ same. c.if-len-before.false (after ∙ (same ∙ sym before))) refl

pub returns-else-len-before-clause-messages : goal.returns-else-len-before-clause-messages
returns-else-len-before-clause-messages c = λ h.
    still_messages c.args.message.now c.args.to c.args.sent.now.packets.items c.push_packet.new.packets.items
    c.requires.writable c.requires.some c.push_packet.ensures h
