use Rattle.std.proofs.Common.{sym, ◌∙◌, arith}
use Rattle.dds_log.proofs.Moves.{reads}
use Rattle.dds_log.proofs.scribe.Scribe.read.Goals as goal

pub join_seat-requires : goal.join_seat-requires
join_seat-requires g c =
    let f = c.self in
    let o = c.other in
    let w = c.args.word.now in (
      f.invariant.0 ∙ sym w.id,
      o.invariant.0 ∙ sym w.id,
      o.invariant.1,
      omega (arith, w.one),
      reads g.E.Seated.seat f.inside.seat.id f.inside.seat.me.0 o.inside.seat.id o.inside.seat.me.0,
    )
