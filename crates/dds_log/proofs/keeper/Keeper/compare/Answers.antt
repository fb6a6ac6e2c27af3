use Rattle.std.proofs.Common.{ap, sym, ◌∙◌, arith}
use mathlib.Core.Option.{none}
use Rattle.atomic_table.specs.Table.{step}
use Rattle.dds_log.proofs.Moves.{compares, reads}
use Rattle.dds_log.proofs.keeper.Keeper.compare.Goals as goal

pub join_seat-requires : goal.join_seat-requires
join_seat-requires g c =
    let f = c.self in
    let o = c.seat in
    let w = c.args.word.now in (
      f.invariant.0 ∙ sym w.id,
      o.invariant.0 ∙ sym w.id,
      o.invariant.1,
      omega (arith, w.one),
      reads g.E.Seated.seat f.inside.seat.id f.inside.seat.me.0 o.inside.seat.id o.inside.seat.me.0,
    )

pub load-requires : goal.load-requires
load-requires g c =
    let seat = c.join_seat.new.seat in
    let w = c.args.word.now in
    let slots = w.table.shared.table_id.slots in
    let joined = c.join_seat.ensures in (
      joined.0 ∙ c.self.invariant.0 ∙ sym w.id,
      omega (arith, w.one),
      compares g.E.Seated.seat slots seat.id seat.me (step slots 0 0 0 none) (ap (λ me. me.1) joined.2 ∙ c.self.invariant.1),
    )
