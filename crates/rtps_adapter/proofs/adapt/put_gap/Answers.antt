use Rattle.std.proofs.Common.{arith}
use Rattle.rtps_adapter.proofs.Gaps.{gap_put}
use Rattle.rtps_adapter.proofs.adapt.put_gap.Goals as goal

pub returns-clause-ok : goal.returns-clause-ok
returns-clause-ok c =
    gap_put c.args.named.now.reader c.args.named.now.writer c.args.named.now.sn c.args.out.now.items
    c.put_submessage_header.new.out.items c.put_gap_body.new.out.items c.as_slice-reader.ensures.len
    c.as_slice-writer.ensures.len
    (omega (arith, c.if-len-gt-MAX_MESSAGE.false, c.if-len.false, c.len.ensures, c.len-else-len-gt-MAX_MESSAGE.ensures))
    c.in_ok-put_submessage_header.ensures.ok c.in_ok-put_gap_body.ensures.ok
