use Rattle.std.proofs.Common.{◌+◌, ◌<◌, ◌^◌, Some, sym, ap, ◌∙◌, arith}
use Rattle.std.specs.Prelude.{slice_index}
use Rattle.std.proofs.lemmas.Option.{slice_get-get_or}
use Rattle.dds_trace.proofs.Orders.{place_by}
use Rattle.dds_trace.proofs.weaving.has_place.Goals as goal

pub returns : goal.returns
returns c =
    let trace = c.index-traces-at.result in
    place_by c.args.traces.now c.args.placed.now c.args.at trace c.entry.result.now c.args.sent.now
    (slice_index c.args.placed.now c.args.at + 1 < 2 ^ 64) c.may_stand.result c.requires.knows
    (slice_get-get_or c.args.traces.now c.args.at trace c.requires.within ∙ ap Some (sym c.index-traces-at.is))
    c.entry.ensures.entry (omega (arith, c.if-count-len.false, c.len.type_inv)) c.may_stand.ensures
