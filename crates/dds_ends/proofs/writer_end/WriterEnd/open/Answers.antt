use mir.Val.{SFits}
use Rattle.std.proofs.Common.{◌≡◌, List, length, map, rules, subst, ◌∙◌, ap, arith}
use Rattle.std.specs.Prelude.{ℤ}
use Rattle.std.specs.Int.{w32}
use Rattle.std.proofs.lemmas.Int.{to_z-of_z}
use Rattle.std.proofs.lemmas.List.{length-map}
use Rattle.dds_base.specs.Checked.{limit_of}
use Rattle.dds_machine.specs.Part.{opened_with}
use Rattle.dds_ends.specs.declared.matching.ReaderName.{ReaderName}
use Rattle.dds_ends.specs.declared.matching.TopicName.{TopicName}
use Rattle.dds_ends.specs.MatchCounts.{CountsFor}
use Rattle.dds_ends.specs.MatchedEnds.{first_count, names_of, readers_of}
use Rattle.dds_ends.proofs.WriterEnds.{opens_writer, whole_opened}
use Rattle.dds_ends.proofs.writer_end.WriterEnd.open.Goals as goal

pub with_readers-matches-requires : goal.with_readers-matches-requires
with_readers-matches-requires c =
    let named : c.in_ok-matched.matched.items ≡ names_of c.in_ok-known.known.items =
    c.in_ok-matched.ensures ∙ ap (λ (ks : List TopicName). names_of ks) c.as_slice.ensures.value in
    let size =
    ap (λ (ns : List ReaderName). length ns) named
    ∙ length-map c.in_ok-known.known.items (λ (k : TopicName). k.name) in
    let many = c.in_ok-known.ensures.many in
    let len = ap (λ (ns : List ReaderName). length ns) c.as_slice-3.ensures.value in
    record { few = omega (arith, size, many, len) }

pub returns : goal.returns
returns c =
    let counted : c.len-reliable.result ≡ length c.in_ok-readers.readers.items =
    c.len-reliable.ensures ∙ c.in_ok-readers.readers.ok.0 in
    let fits : SFits w32 c.args.config.now.max_samples = search rules in
    let limit =
    c.limit_of-limit.ensures ∙ ap (λ (z : ℤ). limit_of z) (to_z-of_z w32 c.args.config.now.max_samples fits) in
    let named : c.in_ok-matched.matched.items ≡ names_of c.in_ok-known.known.items =
    c.in_ok-matched.ensures ∙ ap (λ (ks : List TopicName). names_of ks) c.as_slice.ensures.value in
    let first : c.in_ok-counts.counts.items ≡ map first_count c.in_ok-readers.readers.items =
    c.in_ok-counts.ensures ∙ ap (λ (ns : List ReaderName). map first_count ns) c.as_slice-2.ensures.value in
    opens_writer c.args.first c.args.peers.now c.args.config.now c.in_ok-known.known.items c.in_ok-matched.matched.items
    c.in_ok-destinations.destinations.items c.in_ok-readers.readers.items c.in_ok-counts.counts.items
    c.with_readers-matches.result c.limit_of-limit.result c.carried_strength-strength.result c.in-Ok.writer
    c.len-reliable.result counted c.in_ok-known.ensures.names named
    (subst (λ (ns : List ReaderName). CountsFor c.with_readers-matches.result (opened_with (readers_of ns)))
    c.as_slice-3.ensures.value c.with_readers-matches.ensures.opened)
    first c.in_ok-destinations.ensures.names c.in_ok-readers.ensures.names limit
    c.carried_strength-strength.ensures.carried c.in-Ok.ensures.ok

pub invariant_of-result : goal.invariant_of-result
invariant_of-result c =
    whole_opened c.args.first c.args.peers.now c.args.config.now c.in_ok-known.known.items c.in_ok-matched.matched.items
    c.in_ok-destinations.destinations.items c.in_ok-readers.readers.items c.limit_of-limit.result
    c.carried_strength-strength.result c.in-Ok.writer c.len-reliable.result c.requires.checked
    c.in_ok-known.ensures.names
    c.in_ok-known.ensures.many
    (c.in_ok-matched.ensures ∙ ap (λ (ks : List TopicName). names_of ks) c.as_slice.ensures.value)
    c.in_ok-destinations.ensures.names c.in_ok-destinations.ensures.few c.in_ok-readers.ensures.names
    c.in_ok-readers.ensures.many
    c.in-Ok.ensures.readers (c.len-reliable.ensures ∙ c.in_ok-readers.readers.ok.0) c.in-Ok.ensures.ok
