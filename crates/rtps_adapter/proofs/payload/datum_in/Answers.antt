use Rattle.std.proofs.Common.{length, ap}
use Rattle.rtps_adapter.proofs.PayloadLaws.{value_there}
use Rattle.rtps_adapter.proofs.payload.datum_in.Goals as goal

pub returns : goal.returns
returns c =
    let there =
    value_there c.args.payload.now c.in_ok-datum.datum (length c.value-len.result.now)
    (ap length c.value-len.ensures.value) c.in_ok-datum.ensures.found in
    let exact = c.in_ok-datum.ensures.exact in
    rw (there, c.key-key.ensures.key) exact
