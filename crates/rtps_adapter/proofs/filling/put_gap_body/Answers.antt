use Rattle.rtps_adapter.proofs.Gaps.{five_put}
use Rattle.rtps_adapter.proofs.filling.put_gap_body.Goals as goal

pub returns-clause-ok : goal.returns-clause-ok
returns-clause-ok c =
    five_put c.args.named.now.reader c.args.named.now.writer c.args.named.now.sn c.args.out.now.items
    c.as_slice.result.now c.as_slice-2.result.now c.extend_from_slice.new.self.items
    c.extend_from_slice-2.new.self.items c.put_sn.new.out.items c.put_sn-2.new.out.items
    c.extend_from_slice-3.new.self.items c.as_slice.ensures.same c.as_slice-2.ensures.same
    c.in_ok-extend_from_slice.ensures.items c.in_ok-extend_from_slice-2.ensures.items c.in_ok-put_sn.ensures.ok
    c.in_ok-put_sn-2.ensures.ok c.in_ok-extend_from_slice-3.ensures.items
