use Rattle.std.proofs.Common.{sym, ◌∙◌, arith}
use Rattle.dds_log.proofs.Moves.{notes}
use Rattle.dds_log.proofs.keeper.Keeper.scribe.Goals as goal

pub split_seat-blank-requires : goal.split_seat-blank-requires
split_seat-blank-requires g c =
    let f = c.self in
    let w = c.args.word.now in
    (f.invariant.0 ∙ sym w.id, omega (arith, w.one), notes g.E.Seated.seat f.inside.seat.id f.inside.seat.me.0)
