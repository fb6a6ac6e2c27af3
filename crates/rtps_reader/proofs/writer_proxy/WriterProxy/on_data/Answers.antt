use Rattle.std.proofs.Common.{◌∙◌, ap}
use Rattle.rtps_reader.specs.Tracked.{Tracked, with_data}
use Rattle.rtps_reader.proofs.MoveLaws.{carried, same_is}
use Rattle.rtps_reader.proofs.writer_proxy.WriterProxy.on_data.Goals as goal

pub returns-then-is_next-clause-moves : goal.returns-then-is_next-clause-moves
returns-then-is_next-clause-moves g c =
    let made = c.in_ok-reserve.ensures in
    carried _ _ c.args.source.now _ _ _ _ _ c.take_next.result.to c.take_next.result.passed _ made.qos made.stands
    (ap (λ (t : Tracked). with_data c.args.number c.args.change t) (same_is _ _ made.same))
    c.take_next.ensures.moves

pub returns-clause-moves : goal.returns-clause-moves
returns-clause-moves g c =
    let made = c.in_ok-reserve.ensures in
    carried _ _ c.args.source.now _ _ _ _ _ c.moved.result.to c.moved.result.passed _ made.qos made.stands
    (same_is _ _ c.hold.ensures.holds
    ∙ ap (λ (t : Tracked). with_data c.args.number c.args.change t) (same_is _ _ made.same))
    c.moved.ensures.moves
