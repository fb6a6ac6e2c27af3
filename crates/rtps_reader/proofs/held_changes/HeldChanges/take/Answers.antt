use Rattle.std.proofs.Common.{List, Option, None, Some, sym, ap, ◌∙◌, arith}
use Rattle.dds_base.specs.declared.change.Change.{Change}
use Rattle.rtps_reader.specs.HeldChanges.{count_held}
use Rattle.rtps_reader.proofs.HeldLaws.{all_places, counted_less, held_there, each_seen, are_less, read_some}
use Rattle.rtps_reader.proofs.held_changes.HeldChanges.take.Goals as goal

pub overflow_sub-self : goal.overflow_sub-self
overflow_sub-self c =
    let found = read_some c.self.inside.places.items c.place_of.result c.args.number _ c.unwrap-change.result
    (all_places _ _ _ c.args.number c.self.view_is c.self.invariant c.requires.held) c.place_of.ensures c.index_mut.ensures.value (sym c.unwrap-change.ensures ∙ c.take.ensures.value) in
    let less = counted_less c.self.inside.places.items c.place_of.result c.unwrap-change.result
    (omega (arith, all_places _ _ _ c.args.number c.self.view_is c.self.invariant c.requires.held, c.place_of.ensures)) found in
    omega (arith, less, c.self.invariant.counted)

pub invariant_of-self : goal.invariant_of-self
invariant_of-self c =
    rw c.take.ensures.after
    (are_less c.self.inside.places.items c.self.inside.count c.place_of.result c.args.number c.unwrap-change.result
    c.self.invariant (all_places _ _ _ c.args.number c.self.view_is c.self.invariant c.requires.held) c.place_of.ensures
    (read_some c.self.inside.places.items c.place_of.result c.args.number _ c.unwrap-change.result
    (all_places _ _ _ c.args.number c.self.view_is c.self.invariant c.requires.held) c.place_of.ensures c.index_mut.ensures.value (sym c.unwrap-change.ensures ∙ c.take.ensures.value)))

pub returns-clause-taken : goal.returns-clause-taken
returns-clause-taken c =
    held_there c.self.inside.places.items c.args.self.now c.place_of.result c.args.number (Some c.unwrap-change.result)
    c.self.view_is c.place_of.ensures
    (read_some c.self.inside.places.items c.place_of.result c.args.number _ c.unwrap-change.result
    (all_places _ _ _ c.args.number c.self.view_is c.self.invariant c.requires.held) c.place_of.ensures c.index_mut.ensures.value (sym c.unwrap-change.ensures ∙ c.take.ensures.value))

pub returns-clause-each : goal.returns-clause-each
returns-clause-each c = λ n.
    rw c.take.ensures.after
    (each_seen c.self.inside.places.items c.args.self.now c.place_of.result c.args.number n None
    c.self.view_is (all_places _ _ _ c.args.number c.self.view_is c.self.invariant c.requires.held) c.place_of.ensures)

pub returns-clause-count : goal.returns-clause-count
returns-clause-count c =
    rw c.take.ensures.after
    (counted_less c.self.inside.places.items c.place_of.result c.unwrap-change.result
    (omega (arith, all_places _ _ _ c.args.number c.self.view_is c.self.invariant c.requires.held, c.place_of.ensures))
    (read_some c.self.inside.places.items c.place_of.result c.args.number _ c.unwrap-change.result
    (all_places _ _ _ c.args.number c.self.view_is c.self.invariant c.requires.held) c.place_of.ensures c.index_mut.ensures.value (sym c.unwrap-change.ensures ∙ c.take.ensures.value))
    ∙ ap (λ (places : List (Option Change)). count_held places) c.self.view_is)
