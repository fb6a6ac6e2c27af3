use Rattle.std.proofs.Common.{◌∙◌, ap}
use Rattle.rtps_reader.specs.Tracked.{Tracked, with_gap}
use Rattle.rtps_reader.proofs.MoveLaws.{carried, same_is}
use Rattle.rtps_reader.proofs.writer_proxy.WriterProxy.on_gap.Goals as goal

pub returns-clause-moves : goal.returns-clause-moves
returns-clause-moves g c =
    let made = c.in_ok-reserve.ensures in
    carried _ _ c.args.source.now _ _ _ _ _ c.moved.result.to c.moved.result.passed _ made.qos made.stands
    (same_is _ _ c.make_irrelevant.ensures.forgets
    ∙ ap (λ (t : Tracked). with_gap c.args.start c.args.list.now t) (same_is _ _ made.same))
    c.moved.ensures.moves
