use Rattle.std.proofs.Common.{◌∙◌, ◌++◌, ℕ, List, ap, max}
use Rattle.rtps_discovery.specs.declared.packet.Packet.{Packet}
use Rattle.rtps_discovery.specs.declared.row.Told.{Told}
use Rattle.rtps_discovery.specs.Steps.{told_at}
use Rattle.dds_discovery.specs.Events.{ticked}
use Rattle.dds_discover.specs.Session.{packet_lines, presence_lines, ticked_lines}
use Rattle.dds_discover.proofs.PrintingLaws.{happens}
use Rattle.dds_discover.proofs.session.tick.Goals as goal

pub returns : goal.returns
returns g c =
    let now : ℕ = max c.args.discovery.now.participants.time c.args.moment in
    record {
      ticked = happens (g.W.Write.contents c.args.output.now) (g.W.Write.contents c.print_ticked.new.output)
          (g.W.Write.contents c.settle.new.output) (ticked_lines c.args.moment c.args.discovery.now)
          (presence_lines c.in-Ok.ticked.told.items ++ packet_lines c.in-Ok.ticked.packets.items) c.args.discovery.now
          (ticked c.args.moment c.args.discovery.now) c.tick.new.self c.settle.new.discovery c.settle.result
          (ap (λ (told : List Told). presence_lines told ++ packet_lines c.in-Ok.ticked.packets.items) c.in-Ok.ensures.told.0
          ∙ ap (λ (packets : List Packet). presence_lines (told_at c.args.discovery.now.participants now) ++ packet_lines packets)
          c.in-Ok.ensures.told.1)
          c.in-Ok.ensures.ok c.in_ok-print_ticked-in-Ok.ensures.printed c.settle.ensures.settled;
    }
