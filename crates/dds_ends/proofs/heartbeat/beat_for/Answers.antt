use Rattle.std.proofs.Common.{ℕ, ap, sym, subst, ◌∙◌}
use Rattle.dds_protocol.specs.DueMessages.{begins_at}
use Rattle.dds_ends.specs.Beating.{CanSpan, beat_from}
use Rattle.dds_ends.specs.Standing.{state_of}
use Rattle.dds_ends.proofs.Beating.{can_span, can_span_for}
use Rattle.dds_ends.proofs.Begins.{begins_first, begins_row, ends_last, ends_row}
use Rattle.dds_ends.proofs.heartbeat.beat_for.Goals as goal

pub beat_from-requires : goal.beat_from-requires
beat_from-requires c =
    let due = c.requires.due in
    can_span_for c.args.writer.now c.args.beat.now.due c.in-Some.row c.first_for.result c.last_for.result due
    (c.first_for.ensures.first due.state due.stands) (c.last_for.ensures.last due.state due.stands)

pub returns-in-Some-clause-says : goal.returns-in-Some-clause-says
returns-in-Some-clause-says c = λ w answered b.
    let beat = c.args.beat.now in
    let reader = c.args.name.now in
    c.beat_from.ensures.says
    ∙ (ap (λ (n : ℕ). beat_from beat reader.guid.entity n c.last_for.result)
    (c.first_for.ensures.first (state_of w answered) b.stands
    ∙ begins_row w answered c.args.readers.now reader.reader c.in-Some.row b.names_are c.in-Some.ensures)
    ∙ ap (λ (n : ℕ). beat_from beat reader.guid.entity (begins_at w reader.reader) n)
    (c.last_for.ensures.last (state_of w answered) b.stands
    ∙ ends_row w answered c.args.readers.now reader.reader c.in-Some.row b.names_are c.in-Some.ensures))

pub beat_from-requires-in-None : goal.beat_from-requires-in-None
beat_from-requires-in-None c =
    let due = c.requires.due in
    subst (λ (n : ℕ). CanSpan c.args.beat.now.due.first n) (due.last ∙ sym (c.last.ensures.last due.state due.stands))
    (can_span c.args.writer.now c.args.beat.now.due due)

pub returns-in-None-clause-says : goal.returns-in-None-clause-says
returns-in-None-clause-says c = λ w answered b.
    let beat = c.args.beat.now in
    let reader = c.args.name.now in
    c.beat_from-in-None.ensures.says
    ∙ (ap (λ (n : ℕ). beat_from beat reader.guid.entity n c.last.result)
    (b.first_is ∙ begins_first w c.args.readers.now reader.reader b.names_are c.in-None.ensures)
    ∙ ap (λ (n : ℕ). beat_from beat reader.guid.entity (begins_at w reader.reader) n)
    (c.last.ensures.last (state_of w answered) b.stands
    ∙ ends_last w answered c.args.readers.now reader.reader b.names_are c.in-None.ensures))
