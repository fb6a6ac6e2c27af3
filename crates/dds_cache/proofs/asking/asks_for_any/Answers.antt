use Rattle.std.proofs.Common.{◌≡◌, ◌<◌, ◌≤◌, List, [], false, Some, get_or, length, sym, ◌∙◌, subst, arith}
use Rattle.std.specs.Prelude.{slice_get}
use Rattle.std.specs.List.{All}
use Rattle.std.proofs.lemmas.List.{take_all}
use Rattle.std.proofs.lemmas.List.Elements.{All-more}
use Rattle.std.proofs.lemmas.Option.{slice_get-get_or}
use Rattle.dds_base.specs.declared.key.Key.{Key}
use Rattle.dds_base.specs.Instance.{known_instances}
use Rattle.dds_cache.specs.Finding.{asks_for_states}
use Rattle.dds_cache.proofs.asking.asks_for_any.Goals as goal

pub loop-place-preserved : goal.loop-place-preserved
loop-place-preserved c = λ q h stands.
    let ks : List Key = known_instances q h in
    let within : c.loop-place.place < length ks =
    omega (arith, c.loop-place-test.true, c.len-place-end.ensures.len q h stands) in
    let x : Key = get_or ks c.loop-place.place (record { 0 = [] }) in
    let there : slice_get ks c.loop-place.place ≡ Some x =
    slice_get-get_or ks c.loop-place.place (record { 0 = [] }) within in
    All-more (λ (i : Key). asks_for_states q h c.args.masks i ≡ false) ks c.loop-place.place (record { 0 = [] }) within
    (c.loop-place.invariant q h stands)
    (sym (c.asks_for_place.ensures q h x stands there) ∙ c.if-asks_for_place.false)

pub returns : goal.returns
returns c = λ q h stands none.
    let ks : List Key = known_instances q h in
    let all : length ks ≤ c.loop-place.place =
    omega (arith, c.loop-place-test.false, c.len-place-end.ensures.len q h stands) in
    subst (λ (xs : List Key). All (λ (i : Key). asks_for_states q h c.args.masks i ≡ false) xs)
    (take_all c.loop-place.place ks all) (c.loop-place.invariant q h stands)
