use Rattle.std.proofs.Common.{arith}
use Rattle.rtps_discovery.proofs.Datas.{data_made}
use Rattle.rtps_discovery.proofs.packet.data_of.Goals as goal

pub returns-clause-ok : goal.returns-clause-ok
returns-clause-ok c =
    data_made c.args.flags c.args.reader.now c.args.sn c.args.content.now _ _ _ _ _ c.as_slice-octets.ensures.len
    (omega (arith, c.requires.short)) c.new-out.ensures.items c.in_ok-put_submessage_header.ensures.ok
    c.in_ok-put_data_head.ensures.ok c.in_ok-extend_from_slice.ensures.items
