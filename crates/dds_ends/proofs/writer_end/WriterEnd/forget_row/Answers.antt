use Rattle.std.proofs.Common.{◌≡◌, ℕ, List, Some, length, ap, sym, subst, ◌∙◌}
use Rattle.std.proofs.lemmas.List.{with_items_is}
use Rattle.std.specs.Prelude.{slice_get}
use Rattle.dds_ends.specs.declared.matching.LastCount.{LastCount}
use Rattle.dds_ends.specs.declared.matching.ReaderName.{ReaderName}
use Rattle.dds_ends.specs.Coming.{set_count}
use Rattle.dds_ends.specs.Standing.{IsFirstReader}
use Rattle.dds_ends.proofs.Joining.{as_many_counts}
use Rattle.dds_ends.proofs.Leaves.{forgets_nothing, forgets_row, whole_left}
use Rattle.dds_ends.proofs.writer_end.WriterEnd.forget_row.Goals as goal

pub returns-in_default : goal.returns-in_default
returns-in_default c =
    forgets_nothing _ c.args.self.now c.args.reader c.self.view_is
    (subst (λ (ns : List ReaderName). (k : ℕ) (n : ReaderName) → slice_get ns k ≡ Some n → n.reader ≡ c.args.reader → ⊥)
    c.as_slice.ensures.value c.in_default.ensures)

pub returns : goal.returns
returns c =
    let reader = c.args.reader in
    let row = c.in-Some.row in
    let count = c.leave-count.result in
    let first : IsFirstReader c.self.inside.readers.items reader row =
    subst (λ (ns : List ReaderName). IsFirstReader ns reader row) c.as_slice.ensures.value c.in-Some.ensures in
    let lasts : List LastCount = c.self.inside.counts.items in
    let set : c.set_count.new.counts ≡ set_count lasts reader count =
    c.set_count.ensures ∙ ap (λ (cs : List LastCount). set_count cs reader count) c.as_mut_slice.ensures.value in
    let size =
    ap (λ (cs : List LastCount). length cs) set
    ∙ (as_many_counts lasts reader count ∙ sym c.self.inside.counts.ok.0) in
    forgets_row _ c.args.self.now reader row c.remove.new.self.items _ count c.leave-count.new.self c.self.view_is first
    c.self.invariant.once c.remove.ensures.items (with_items_is c.self.inside.counts c.set_count.new.counts size ∙ set)
    c.leave-count.ensures.stands c.leave-count.ensures.count

pub invariant_of-self : goal.invariant_of-self
invariant_of-self c =
    whole_left c.self.inside.max_value c.self.inside.known.items c.self.inside.matched.items
    c.self.inside.destinations.items c.self.inside.readers.items c.remove.new.self.items c.self.inside.writer
    c.leave-count.new.self c.args.reader c.in-Some.row c.self.invariant
    (subst (λ (ns : List ReaderName). IsFirstReader ns c.args.reader c.in-Some.row) c.as_slice.ensures.value
    c.in-Some.ensures)
    c.remove.ensures.items c.leave-count.ensures.readers c.leave-count.ensures.stands
