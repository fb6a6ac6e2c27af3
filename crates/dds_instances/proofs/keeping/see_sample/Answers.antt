use Rattle.std.proofs.Common.{not, Bool, ℕ, ◌≡◌, ◌<◌, List, [], ◌∷◌, length, get_or, map, subst, sym, ap, ◌∙◌, false, true, arith}
use Rattle.std.specs.List.{list_any}
use Rattle.std.proofs.lemmas.List.{length-map, get_or_default}
use Rattle.dds_base.specs.declared.key.Key.{Key}
use Rattle.dds_base.specs.Happening.{same_key}
use Rattle.dds_base.specs.Life.{is_nobody}
use Rattle.dds_owner.proofs.RegistrationLaws.{nobody-kept}
use Rattle.dds_instances.specs.declared.track.InstanceTrack.{InstanceTrack}
use Rattle.dds_instances.specs.Track.{is_alive_track, seen_at, seen_in}
use Rattle.dds_instances.specs.Following.{key_of, IsPlaceOf}
use Rattle.dds_instances.proofs.StandingLaws.{itself-same, keys-set, nothing-at, stranger-at, strangers-all, track-at}
use Rattle.dds_instances.proofs.KnownLaws.{unknown}
use Rattle.dds_instances.proofs.SeeingLaws.{fits-saw, saw-one}
use Rattle.dds_instances.proofs.HoldingLaws.{map-none, set-map}
use Rattle.dds_instances.proofs.MarkerLaws.{alive-kept}
use Rattle.dds_instances.proofs.keeping.see_sample.Goals as goal

pub returns-in-Some-clause-fits : goal.returns-in-Some-clause-fits
returns-in-Some-clause-fits c = λ n fits.
    let ts : List InstanceTrack = c.args.tracks.now.items in
    let place : IsPlaceOf (map key_of ts) c.args.sample.key c.in-Some.at =
    subst (λ (ks : List Key). IsPlaceOf ks c.args.sample.key c.in-Some.at) c.requires.indexed c.in-Some.ensures in
    fits-saw n ts c.in-Some.at c.args.sample.position c.index_mut.result.now c.see.new.self
    (omega (arith, place.within, length-map ts key_of)) c.index_mut.ensures.value c.see.ensures fits

pub returns-in-Some-clause-keys : goal.returns-in-Some-clause-keys
returns-in-Some-clause-keys c =
    let ts : List InstanceTrack = c.args.tracks.now.items in
    let place : IsPlaceOf (map key_of ts) c.args.sample.key c.in-Some.at =
    subst (λ (ks : List Key). IsPlaceOf ks c.args.sample.key c.in-Some.at) c.requires.indexed c.in-Some.ensures in
    let inside : c.in-Some.at < length ts = omega (arith, place.within, length-map ts key_of) in
    keys-set ts c.in-Some.at c.see.new.self inside
    (ap (λ (y : InstanceTrack). y.key) (c.see.ensures)
    ∙ ap (λ (y : InstanceTrack). y.key) (c.index_mut.ensures.value
    ∙ get_or_default ts c.in-Some.at c.index_mut.result.now c.see.new.self inside))

pub returns-in-Some-clause-sees : goal.returns-in-Some-clause-sees
returns-in-Some-clause-sees c =
    let ts : List InstanceTrack = c.args.tracks.now.items in
    let at = c.in-Some.at in
    let t : InstanceTrack = c.index_mut.result.now in
    let place : IsPlaceOf (map key_of ts) c.args.sample.key at =
    subst (λ (ks : List Key). IsPlaceOf ks c.args.sample.key at) c.requires.indexed c.in-Some.ensures in
    let inside : at < length ts = omega (arith, place.within, length-map ts key_of) in
    set-map (seen_in (c.args.sample ∷ [])) ts at c.see.new.self inside
    (λ d. c.see.ensures
    ∙ (ap (λ (u : InstanceTrack). seen_at c.args.sample.position u) (c.index_mut.ensures.value ∙ get_or_default ts at t d inside)
    ∙ saw-one c.args.sample (get_or ts at d) true (itself-same ts c.args.sample.key at d place inside)))
    (λ k d within differ. sym (saw-one c.args.sample (get_or ts k d) false
    (stranger-at ts c.args.sample.key at k d place within differ)))

pub returns-in-None-clause-sees : goal.returns-in-None-clause-sees
returns-in-None-clause-sees c =
    let ts : List InstanceTrack = c.args.tracks.now.items in
    let absent : list_any (same_key c.args.sample.key) (map key_of ts) ≡ false =
    ap (λ (ks : List Key). list_any (same_key c.args.sample.key) ks) (sym c.requires.indexed) ∙ c.in-None.ensures
    in
    map-none (seen_in (c.args.sample ∷ [])) ts
    (λ k d within. sym (saw-one c.args.sample (get_or ts k d) false (strangers-all c.args.sample.key ts absent k d within)))

pub returns-in-Some-clause-alive : goal.returns-in-Some-clause-alive
returns-in-Some-clause-alive c =
    alive-kept c.args.tracks.now.items c.in-Some.at c.see.new.self c.index_mut.result.now
    (ap (λ (t : InstanceTrack). is_alive_track t) c.see.ensures
    ∙ ap (λ (t : InstanceTrack). is_alive_track t) c.index_mut.ensures.value)

pub returns-in-Some-clause-left : goal.returns-in-Some-clause-left
returns-in-Some-clause-left c = λ q h follows.
    ap (λ (b : Bool). not b) c.has_writers-is_left.ensures.kept
    ∙ sym (nobody-kept c.index.result.now.owners q c.args.sample.key h
    (track-at q h c.args.tracks.now.items c.args.index.now.keys c.args.sample.key c.in-Some.at c.index.result.now
    c.requires.indexed c.in-Some.ensures c.index.ensures follows).owners_are)

pub returns-in-None-clause-left : goal.returns-in-None-clause-left
returns-in-None-clause-left c = λ q h follows.
    sym (ap (λ (ws : List ℕ). is_nobody ws) (unknown q c.args.sample.key h follows.matched
    (nothing-at q h c.args.tracks.now.items c.args.index.now.keys c.args.sample.key c.requires.indexed
    c.in-None.ensures follows)).registered)
