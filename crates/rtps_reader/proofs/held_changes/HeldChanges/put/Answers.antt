use Rattle.std.proofs.Common.{◌+◌, List, Option, Some, is_some, ap, ◌∙◌, arith}
use Rattle.std.proofs.lemmas.List.Sums.{count_by-le-length}
use Rattle.dds_base.specs.declared.change.Change.{Change}
use Rattle.rtps_reader.specs.HeldChanges.{count_held}
use Rattle.rtps_reader.proofs.HeldLaws.{counted_more, seen_width, at_place, each_seen, are_more}
use Rattle.rtps_reader.proofs.held_changes.HeldChanges.put.Goals as goal

pub overflow_add-self : goal.overflow_add-self
overflow_add-self c =
    let within = count_by-le-length is_some c.self.inside.places.items in
    omega (arith, within, seen_width _ _ c.self.view_is c.requires.places, c.self.invariant.counted)

pub invariant_of-self : goal.invariant_of-self
invariant_of-self c =
    are_more c.self.inside.places.items c.self.inside.count c.place_of.result c.args.number c.args.change
    c.self.invariant (seen_width _ _ c.self.view_is c.requires.places) c.place_of.ensures
    (at_place _ _ c.place_of.result c.args.number _ c.self.view_is c.place_of.ensures c.requires.free)

pub returns-clause-each : goal.returns-clause-each
returns-clause-each c = λ n.
    each_seen c.self.inside.places.items c.args.self.now c.place_of.result c.args.number n (Some c.args.change)
    c.self.view_is (seen_width _ _ c.self.view_is c.requires.places) c.place_of.ensures

pub returns-clause-count : goal.returns-clause-count
returns-clause-count c =
    counted_more c.self.inside.places.items c.place_of.result c.args.change
    (omega (arith, seen_width _ _ c.self.view_is c.requires.places, c.place_of.ensures))
    (at_place _ _ c.place_of.result c.args.number _ c.self.view_is c.place_of.ensures c.requires.free)
    ∙ ap (λ (places : List (Option Change)). count_held places + 1) c.self.view_is
