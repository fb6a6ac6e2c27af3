use Rattle.std.proofs.Common.{◌≤◌, List, length, subst, arith}
use Rattle.std.specs.List.{FoldsTo}
use Rattle.std.proofs.lemmas.List.{take_all}
use Rattle.dds_protocol.specs.declared.event.Packet.{Packet}
use Rattle.dds_pair.proofs.Turns.{folds_more}
use Rattle.dds_pair.proofs.served.send_all.Goals as goal

pub loop-packet-preserved : goal.loop-packet-preserved
loop-packet-preserved g c =
    folds_more g.K.Link.sends c.args.link.now c.args.packets.now c.loop-packet.packet-index c.packet-item.result
    c.loop-packet.link c.send.new.self c.loop-packet-test.true c.packet-item.is c.loop-packet.invariant c.send.ensures.sends

pub returns : goal.returns
returns g c =
    let over : length c.args.packets.now ≤ c.loop-packet.packet-index = omega (arith, c.loop-packet-test.false) in
    record {
      sent = subst (λ (ps : List Packet). FoldsTo g.K.Link.sends c.args.link.now ps c.loop-packet.link)
          (take_all c.loop-packet.packet-index c.args.packets.now over) c.loop-packet.invariant;
    }
