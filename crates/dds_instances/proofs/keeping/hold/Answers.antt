use Rattle.std.proofs.Common.{◌≡◌, ◌<◌, Bool, List, length, get_or, map, ◌||◌, subst, sym, ap, ◌∙◌, false, true, arith}
use Rattle.std.specs.List.{list_any}
use Rattle.std.proofs.lemmas.List.{length-map, get_or_default}
use Rattle.dds_base.specs.declared.key.Key.{Key}
use Rattle.dds_base.specs.Happening.{same_key}
use Rattle.dds_instances.specs.declared.track.InstanceTrack.{InstanceTrack}
use Rattle.dds_instances.specs.Track.{held_as, held_too}
use Rattle.dds_instances.specs.Following.{key_of, IsPlaceOf}
use Rattle.dds_instances.proofs.StandingLaws.{stranger-at, strangers-all, itself-same}
use Rattle.dds_instances.proofs.HoldingLaws.{map-none, notes-alive, notes-fit, notes-keys, notes-too, set-map}
use Rattle.dds_instances.proofs.keeping.hold.Goals as goal

pub returns-in-Some-clause-held : goal.returns-in-Some-clause-held
returns-in-Some-clause-held c =
    let ts : List InstanceTrack = c.args.tracks.now.items in
    let at = c.in-Some.at in
    let t : InstanceTrack = c.index_mut.result.now in
    let place : IsPlaceOf (map key_of ts) c.args.key at =
    subst (λ (ks : List Key). IsPlaceOf ks c.args.key at) c.requires.indexed c.in-Some.ensures in
    let inside : at < length ts = omega (arith, place.within, length-map ts key_of) in
    set-map (held_too c.args.key) ts at (held_as true t) inside
    (λ d. ap (λ (u : InstanceTrack). held_as true u) (c.index_mut.ensures.value ∙ get_or_default ts at t d inside)
    ∙ ap (λ (b : Bool). held_as (b || (get_or ts at d).is_held) (get_or ts at d))
    (sym (itself-same ts c.args.key at d place inside)))
    (λ k d within differ. ap (λ (b : Bool). held_as (b || (get_or ts k d).is_held) (get_or ts k d))
    (stranger-at ts c.args.key at k d place within differ))

pub returns-in_default-clause-held : goal.returns-in_default-clause-held
returns-in_default-clause-held c =
    let ts : List InstanceTrack = c.args.tracks.now.items in
    let absent : list_any (same_key c.args.key) (map key_of ts) ≡ false =
    ap (λ (ks : List Key). list_any (same_key c.args.key) ks) (sym c.requires.indexed) ∙ c.in_default.ensures in
    map-none (held_too c.args.key) ts
    (λ k d within. ap (λ (b : Bool). held_as (b || (get_or ts k d).is_held) (get_or ts k d))
    (strangers-all c.args.key ts absent k d within))

pub returns-in-Some-clause-keys : goal.returns-in-Some-clause-keys
returns-in-Some-clause-keys c =
    notes-keys (held_too c.args.key) c.args.tracks.now.items _ (notes-too c.args.key) (returns-in-Some-clause-held c)

pub returns-in-Some-clause-fits : goal.returns-in-Some-clause-fits
returns-in-Some-clause-fits c =
    notes-fit (held_too c.args.key) c.args.tracks.now.items _ (notes-too c.args.key) (returns-in-Some-clause-held c)

pub returns-in-Some-clause-alive : goal.returns-in-Some-clause-alive
returns-in-Some-clause-alive c =
    notes-alive (held_too c.args.key) c.args.tracks.now.items _ (notes-too c.args.key) (returns-in-Some-clause-held c)

pub returns-in_default-clause-keys : goal.returns-in_default-clause-keys
returns-in_default-clause-keys c =
    notes-keys (held_too c.args.key) c.args.tracks.now.items _ (notes-too c.args.key) (returns-in_default-clause-held c)

pub returns-in_default-clause-fits : goal.returns-in_default-clause-fits
returns-in_default-clause-fits c =
    notes-fit (held_too c.args.key) c.args.tracks.now.items _ (notes-too c.args.key) (returns-in_default-clause-held c)

pub returns-in_default-clause-alive : goal.returns-in_default-clause-alive
returns-in_default-clause-alive c =
    notes-alive (held_too c.args.key) c.args.tracks.now.items _ (notes-too c.args.key) (returns-in_default-clause-held c)
