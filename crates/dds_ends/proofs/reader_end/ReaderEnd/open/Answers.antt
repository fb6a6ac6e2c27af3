use mir.Val.{SFits}
use Rattle.std.proofs.Common.{arith, ◌≡◌, ◌∙◌, ℕ, ◌<◌, List, length, ap, rules, sym, subst}
use Rattle.std.specs.Prelude.{ℤ}
use Rattle.std.specs.Int.{w32}
use Rattle.std.proofs.lemmas.Int.{to_z-of_z}
use Rattle.dds_base.specs.Checked.{limit_of}
use Rattle.dds_base.specs.declared.qos.MatchedWriter.{MatchedWriter}
use Rattle.dds_machine.specs.Part.{opened_with}
use Rattle.dds_ends.specs.declared.matching.WriterName.{WriterName}
use Rattle.dds_ends.specs.MatchCounts.{CountsFor}
use Rattle.dds_ends.proofs.ReaderEnds.{names_few, opens_reader, rows_fit, qos_as}
use Rattle.dds_ends.proofs.Rows.{writers_of}
use Rattle.dds_ends.proofs.reader_end.ReaderEnd.open.Goals as goal

-- the limits are those of the configuration
limits : (c : goal.After-is_reliable)
    → (c.limit_of.result ≡ limit_of c.args.config.now.max_samples)
    × (c.limit_of-2.result ≡ limit_of c.args.config.now.max_instances)
limits c =
    let samples_fit : SFits w32 c.args.config.now.max_samples = search rules in
    let instances_fit : SFits w32 c.args.config.now.max_instances = search rules in (
      c.limit_of.ensures ∙ ap (λ (z : ℤ). limit_of z) (to_z-of_z w32 c.args.config.now.max_samples samples_fit),
      c.limit_of-2.ensures ∙ ap (λ (z : ℤ). limit_of z) (to_z-of_z w32 c.args.config.now.max_instances instances_fit),
    )

pub with_writers-matches-requires : goal.with_writers-matches-requires
with_writers-matches-requires c =
    let few =
    names_few c.args.first c.args.peers.now c.args.config.now c.in_ok-names.field-0.names.items c.in_ok-names.field-0.qos.items
    c.in_ok-names.ensures.names c.in_ok-names.ensures.qos c.in_ok-names.ensures.many in
    let count = ap (λ (ns : List WriterName). length ns) c.as_slice.ensures.value in
    record { few = omega (arith, few, count) }

pub overflow_cast-result : goal.overflow_cast-result
overflow_cast-result c =
    let few =
    names_few c.args.first c.args.peers.now c.args.config.now c.in_ok-names.field-0.names.items c.in_ok-names.field-0.qos.items
    c.in_ok-names.ensures.names c.in_ok-names.ensures.qos c.in_ok-names.ensures.many in
    let count = c.len-here.ensures ∙ c.in_ok-names.field-0.names.ok.0 in
    omega (arith, few, count)

pub invariant_of-result-3 : goal.invariant_of-result-3
invariant_of-result-3 c =
    rows_fit c.args.first c.args.peers.now c.args.config.now c.in_ok-names.field-0.names.items c.in_ok-names.field-0.qos.items
    c.in-Ok.reader c.in-Ok-open.store c.in_ok-names.ensures.names c.in_ok-names.ensures.qos
    (c.in-Ok.ensures.count ∙ (c.len-here.ensures ∙ c.in_ok-names.field-0.names.ok.0))
    (c.in-Ok-open.ensures.qos
    ∙ qos_as c.args.config.now c.limit_of.result c.limit_of-2.result _ c.in_ok-names.field-0.qos.items (limits c).0
    (limits c).1 c.from_vec.ensures.elements)
    (c.in-Ok-open.ensures.writers ∙ ap (λ (ws : List MatchedWriter). length ws) c.from_vec.ensures.elements)
    c.in_ok-names.ensures.many c.is_reliable.result c.is_reliable.ensures.reliable

pub returns : goal.returns
returns c =
    let count = c.len-here.ensures ∙ c.in_ok-names.field-0.names.ok.0 in
    opens_reader c.args.first c.args.peers.now c.args.config.now c.in_ok-names.field-0.names.items c.in_ok-names.field-0.qos.items
    c.in-Ok.reader c.in-Ok-open.store c.in_ok-names.ensures.names c.in_ok-names.ensures.qos
    (λ index within. c.in-Ok.ensures.fresh index (subst (λ (n : ℕ). index < n) (sym count) within))
    (λ index within. c.in-Ok.ensures.begun index (subst (λ (n : ℕ). index < n) (sym count) within))
    (c.in-Ok-open.ensures.qos
    ∙ qos_as c.args.config.now c.limit_of.result c.limit_of-2.result _ c.in_ok-names.field-0.qos.items (limits c).0
    (limits c).1 c.from_vec.ensures.elements) c.in-Ok-open.ensures.opening c.with_writers-matches.result c.len-here.result
    (subst (λ (ns : List WriterName). CountsFor c.with_writers-matches.result (opened_with (writers_of ns)))
    c.as_slice.ensures.value c.with_writers-matches.ensures.opened) count
