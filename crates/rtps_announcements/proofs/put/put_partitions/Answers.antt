use Rattle.std.proofs.Common.{List, ℕ, ◌++◌, length, sym, ap, ◌∙◌}
use Rattle.std.proofs.lemmas.Bool.{eqb-true, eqb-false}
use Rattle.std.specs.List.{flat_map}
use Rattle.rtps_announcements.specs.Written.{padded_name_text}
use Rattle.rtps_announcements.proofs.PutLaws.{partitions_fit, no_partitions, some_partitions}
use Rattle.rtps_announcements.proofs.put.put_partitions.Goals as goal

pub returns-then-is_empty-clause-ok : goal.returns-then-is_empty-clause-ok
returns-then-is_empty-clause-ok c =
    no_partitions c.args.out.now.items c.args.partitions.now
    (ap length (sym c.as_slice-names.ensures.items)
    ∙ eqb-true _ 0 (sym c.is_empty.ensures ∙ c.if-is_empty.true))

pub put_value-requires : goal.put_value-requires
put_value-requires c =
    let front = rw (c.new-value.ensures.items, c.to_le_bytes.ensures) at c.in_ok-extend_from_slice.ensures.items in
    partitions_fit c.deref.result.now c.extend_from_slice.new.self.items c.args.partitions.now c.requires
    (ap length front) (c.deref.ensures.value ∙ c.in_ok-put_names.ensures.ok)

pub returns-clause-ok : goal.returns-clause-ok
returns-clause-ok c =
    let items = c.as_slice-names.ensures.items in
    let front = rw (c.new-value.ensures.items, c.to_le_bytes.ensures, items) at c.in_ok-extend_from_slice.ensures.items in
    some_partitions c.args.out.now.items c.put_value.new.out.items c.deref.result.now c.args.partitions.now
    (λ none. eqb-false _ 0 (sym c.is_empty.ensures ∙ c.if-is_empty.false) (ap length items ∙ none))
    (c.deref.ensures.value ∙ c.in_ok-put_names.ensures.ok ∙ ap (λ (z : List ℕ). z ++ flat_map padded_name_text c.args.partitions.now) front)
    c.in_ok-put_value.ensures.ok
