use Rattle.std.proofs.Common.{◌≡◌, ◌≤◌, true, false, List, Some, length, refl, ap, sym, subst, ◌∙◌, rules}
use Rattle.dds_ends.specs.declared.matching.ReaderName.{ReaderName}
use Rattle.dds_ends.specs.Beating.{first_peers}
use Rattle.dds_ends.specs.Coming.{ForgetsRow}
use Rattle.dds_ends.specs.Kept.{WriterKept}
use Rattle.dds_ends.specs.MatchedEnds.{is_named}
use Rattle.dds_ends.proofs.Leaves.{leaves_by, no_more_peers, whole_without}
use Rattle.dds_ends.proofs.Refusing.{leaving_by, leaving_unknown}
use Rattle.dds_ends.proofs.WriterEnds.{kept_as}
use Rattle.dds_ends.proofs.writer_end.WriterEnd.leave.Goals as goal

pub set_peers-requires : goal.set_peers-requires
set_peers-requires c =
    subst (λ (ns : List ReaderName). length (first_peers ns) ≤ length c.self.inside.destinations.items)
    (sym (c.as_slice.ensures.value ∙ c.remove_name.ensures))
    (no_more_peers c.self.inside.matched.items c.self.inside.destinations.items c.args.reader c.self.invariant.told)

pub invariant_of-self : goal.invariant_of-self
invariant_of-self c =
    whole_without c.self.inside.max_value c.self.inside.known.items c.self.inside.matched.items
    c.remove_name.new.names.items
    c.self.inside.destinations.items c.set_peers.new.peers.items c.self.inside.readers.items c.self.inside.writer
    c.args.reader c.self.invariant
    (ap (λ (k : WriterKept). is_named k.readers c.args.reader) c.self.view_is ∙ c.forget_row.ensures.gone)
    c.remove_name.ensures
    (c.set_peers.ensures ∙ ap (λ (ns : List ReaderName). first_peers ns) c.as_slice.ensures.value)

pub returns-clause-ok : goal.returns-clause-ok
returns-clause-ok c =
    let old : WriterKept = c.args.self.now in
    let kept : WriterKept =
    kept_as c.self.inside.entity c.self.inside.autodispose c.self.inside.max_value c.self.inside.known.items
    c.self.inside.matched.items c.self.inside.destinations.items c.self.inside.readers.items c.self.inside.counts.items
    c.self.inside.matches c.self.inside.writer in
    leaves_by old kept c.args.reader c.remove_name.new.names.items c.set_peers.new.peers.items c.end.new.self
    (subst (λ (k : WriterKept). ForgetsRow old c.args.reader k) (sym c.self.view_is) c.forget_row.ensures)
    c.remove_name.ensures
    (c.set_peers.ensures ∙ ap (λ (ns : List ReaderName). first_peers ns) c.as_slice.ensures.value) c.end.ensures.ended

pub returns-in_default-clause-refused : goal.returns-in_default-clause-refused
returns-in_default-clause-refused c =
    leaving_unknown c.args.self.now c.args.self.now c.args.reader refl (sym c.knows.ensures ∙ c.in_default.is)

pub returns-then-not-is_matched-clause-refused : goal.returns-then-not-is_matched-clause-refused
returns-then-not-is_matched-clause-refused c =
    let none : c.is_matched.result ≡ false = search rules in
    leaving_by c.args.self.now c.args.self.now c.args.reader (Some c.in-Some.field-0) false refl
    (sym c.knows.ensures ∙ c.in-Some.is) (sym c.is_matched.ensures ∙ none)

pub returns-clause-accepted : goal.returns-clause-accepted
returns-clause-accepted c =
    let some : c.is_matched.result ≡ true = search rules in
    leaving_by c.args.self.now c.args.self.now c.args.reader (Some c.in-Some.field-0) true refl
    (sym c.knows.ensures ∙ c.in-Some.is) (sym c.is_matched.ensures ∙ some)
