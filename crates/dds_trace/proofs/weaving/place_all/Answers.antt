use Rattle.std.proofs.Common.{◌≡◌, ℕ, List, ◌+◌, ◌<◌, [], ◌∷◌, ◌++◌, length, Any, Contains, ◌↔◌, ◌⊎◌, sym, ◌∙◌, subst, arith, rules}
use Rattle.std.specs.Prelude.{slice_index, slice_set}
use Rattle.std.proofs.lemmas.List.{get_or_default}
use Rattle.std.proofs.lemmas.Option.{slice_get_within}
use Rattle.dds_protocol.specs.declared.event.Packet.{Packet}
use Rattle.dds_trace.specs.declared.trace.Entry.{Entry}
use Rattle.dds_trace.specs.Weaving.{IsNext, Reaches, none_placed, one_more}
use Rattle.dds_trace.specs.Knowing.{HasNoPlace, HasPlace, Knows}
use Rattle.dds_trace.proofs.Orders.{Reaches-push, is_next, knows_more, left, left_falls, next_within}
use Rattle.dds_trace.proofs.weaving.place_all.Goals as goal

pub find_next-requires-clause-knows : goal.find_next-requires-clause-knows
find_next-requires-clause-knows c =
    subst (λ (ps : List ℕ). Knows c.args.traces.now ps c.loop-next.sent) (sym c.as_slice.ensures.value) c.loop-next.invariant.knows

pub entry-entry-requires : goal.entry-entry-requires
entry-entry-requires c =
    let ts = c.args.traces.now in
    let counts = c.loop-next.counts.items in
    let next = c.in-Some.next in
    let P : List ℕ → Type 0 = λ ps. HasPlace ts ps next in
    let step : P counts = subst P c.as_slice.ensures.value c.in-Some.ensures.2 in
    let inside : next < length counts = omega (arith, c.in-Some.ensures.0, c.loop-next.invariant.fits) in
    let value : c.index.result.now ≡ slice_index counts next =
    c.index.ensures ∙ get_or_default counts next c.index.result.now 0 inside in
    record {
      within = next_within ts counts next c.index-traces-next.result c.index.result.now step.0 step.1
          c.index-traces-next.is value;
    }

pub loop-next-smaller : goal.loop-next-smaller
loop-next-smaller c =
    let ts = c.args.traces.now in
    let counts = c.loop-next.counts.items in
    let next = c.in-Some.next in
    let P : List ℕ → Type 0 = λ ps. HasPlace ts ps next in
    let step : P counts = subst P c.as_slice.ensures.value c.in-Some.ensures.2 in
    let inside : next < length counts = omega (arith, c.in-Some.ensures.0, c.loop-next.invariant.fits) in
    let value : c.index_mut.result.now ≡ slice_index counts next =
    c.index_mut.ensures.value ∙ get_or_default counts next c.index_mut.result.now 0 inside in
    let Q : ℕ → Type 0 = λ n. left ts (slice_set counts next (n + 1)) < left ts counts in
    let here = slice_get_within step.1.0.entries (slice_index counts next) step.0 step.1.2 in
    subst Q (sym value) (left_falls ts counts next step.1.0 step.1.1 here inside)

pub loop-next-preserved : goal.loop-next-preserved
loop-next-preserved c =
    let ts = c.args.traces.now in
    let counts = c.loop-next.counts.items in
    let next = c.in-Some.next in
    let entry : Entry = c.entry-entry.result.now in
    let P : List ℕ → Type 0 = λ ps. HasPlace ts ps next in
    let step : P counts = subst P c.as_slice.ensures.value c.in-Some.ensures.2 in
    let inside : next < length counts = omega (arith, c.in-Some.ensures.0, c.loop-next.invariant.fits) in
    let counted : c.index.result.now ≡ slice_index counts next =
    c.index.ensures ∙ get_or_default counts next c.index.result.now 0 inside in
    let value : c.index_mut.result.now ≡ slice_index counts next =
    c.index_mut.ensures.value ∙ get_or_default counts next c.index_mut.result.now 0 inside in
    let there : IsNext ts counts next entry =
    is_next ts counts next c.index-traces-next.result c.index.result.now entry c.in-Some.ensures.0
    c.index-traces-next.is counted c.entry-entry.ensures.entry in
    let A : List Packet → Type 0 = λ ps. (q : List ℕ)
    → Contains c.add_all.new.self q ↔ (Contains c.loop-next.sent q ⊎ Any (λ p. p.bytes ≡ q) ps) in
    let added : A entry.output.packets = subst A c.as_slice-in-Some.ensures.elements c.in_ok-add_all.ensures in
    let order : c.push.new.self.items ≡ c.loop-next.order.items ++ next ∷ [] = search rules in
    let R : ℕ → Type 0 = λ n. Reaches ts (none_placed ts) c.push.new.self.items (slice_set counts next (n + 1)) in
    let S : List ℕ → Type 0 = λ os. Reaches ts (none_placed ts) os (one_more counts next) in
    let K : ℕ → Type 0 = λ n. Knows ts (slice_set counts next (n + 1)) c.add_all.new.self in record {
      fits = search rules;
      reaches = subst R (sym value) (subst S (sym order)
          (Reaches-push ts (none_placed ts) c.loop-next.order.items counts next c.loop-next.invariant.reaches step));
      knows = subst K (sym value)
          (knows_more ts counts next entry c.loop-next.sent c.add_all.new.self inside there c.loop-next.invariant.knows added);
    }

pub returns-clause-blocked : goal.returns-clause-blocked
returns-clause-blocked c =
    let ts = c.args.traces.now in
    let P : List ℕ → Type 0 = λ ps. (t : ℕ) → HasNoPlace ts ps t in
    subst P c.as_slice.ensures.value c.in_default.ensures
