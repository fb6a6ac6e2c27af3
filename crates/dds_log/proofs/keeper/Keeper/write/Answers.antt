use Rattle.std.proofs.Common.{sym, ◌∙◌, arith}
use Rattle.dds_log.proofs.Moves.{writes}
use Rattle.dds_log.proofs.keeper.Keeper.write.Goals as goal

pub split_seat-seat-requires : goal.split_seat-seat-requires
split_seat-seat-requires g c =
    let f = c.self in
    let w = c.args.word.now in
    (f.invariant.0 ∙ sym w.id, omega (arith, w.one), writes g.E.Seated.seat f.inside.seat.id f.inside.seat.me.0 f.invariant.2)
