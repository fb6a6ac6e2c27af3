use Rattle.std.proofs.Common.{sym, ◌∙◌, arith}
use Rattle.dds_log.proofs.Moves.{notes}
use Rattle.dds_log.proofs.keeper.Keeper.front.Goals as goal

pub split_seat-told-requires : goal.split_seat-told-requires
split_seat-told-requires g c =
    let f = c.self in
    let w = c.args.word.now in
    (f.invariant.0 ∙ sym w.id, omega (arith, w.one), notes g.E.Seated.seat f.inside.seat.id f.inside.seat.me.0)
