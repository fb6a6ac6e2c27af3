use Rattle.std.proofs.Common.{◌≡◌, length, ap, inr, arith}
use Rattle.rtps_announcements.specs.WrittenEndpoints.{text_of_endpoint}
use Rattle.dds_builtin.proofs.announced.announcement.Goals as goal

pub returns-then-len-clause-written : goal.returns-then-len-clause-written
returns-then-len-clause-written c =
    let same : text_of_endpoint c.args.end.now.kind c.lend-endpoint.result ≡ text_of_endpoint c.args.end.now.kind c.args.end.now.endpoint =
    ap (text_of_endpoint c.args.end.now.kind) c.lend-endpoint.ensures.same in
    inr (omega (arith, c.if-len.true, c.len.ensures, ap length c.in_ok-octets.ensures.ok, ap length same))
