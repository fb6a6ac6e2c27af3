use Rattle.std.proofs.Common.{◌≡◌, ℕ, ◌+◌, ◌≤◌, List, true, false, Some, length, sym, ap, ◌∙◌, arith, Option}
use Rattle.std.specs.Prelude.{nat_lt, slice_get}
use Rattle.std.specs.Option.{option_map, option_and_then}
use Rattle.std.proofs.lemmas.Bool.Decides.{nat_tests}
use Rattle.std.proofs.lemmas.Option.{slice_get_past}
use Rattle.dds_base.specs.Instance.{is_known}
use Rattle.dds_base.specs.Life.{is_at}
use Rattle.dds_instances.specs.declared.track.InstanceTrack.{InstanceTrack}
use Rattle.dds_instances.specs.Table.{Table, happened_of}
use Rattle.dds_instances.specs.Following.{Follows, key_of}
use Rattle.dds_instances.specs.Track.{Fits, Tracks}
use Rattle.dds_instances.proofs.StandingLaws.{at-place, follows-of, instance-at, known-of, told-tracked, track-there}
use Rattle.dds_instances.proofs.instances.Instances.at.Goals as goal

pub returns-in-Some-clause-key : goal.returns-in-Some-clause-key
returns-in-Some-clause-key c = λ q h stands.
    let t : InstanceTrack = c.in-Some.track.now in
    ap Some c.told.ensures.key
    ∙ (sym (ap (λ (o : Option InstanceTrack). option_map key_of o)
    (track-there c.deref.result.now c.args.place t c.in-Some.ensures.lookup.0 c.in-Some.ensures.lookup.1))
    ∙ instance-at q h c.deref.result.now c.args.place
    (follows-of q h c.args.self.now c.deref.result.now
    (c.deref.ensures.value ∙ ap (λ (t : Table). t.tracks) c.self.view_is) stands))

pub returns-in-Some-clause-known : goal.returns-in-Some-clause-known
returns-in-Some-clause-known c = λ q h stands.
    let ts : List InstanceTrack = c.deref.result.now in
    let t : InstanceTrack = c.in-Some.track.now in
    let follows : Follows q h ts =
    (follows-of q h c.args.self.now ts (c.deref.ensures.value ∙ ap (λ (t : Table). t.tracks) c.self.view_is) stands) in
    let is : slice_get ts c.args.place ≡ Some t =
    track-there ts c.args.place t c.in-Some.ensures.lookup.0 c.in-Some.ensures.lookup.1 in
    told-tracked q h t c.told.result (at-place (λ (x : InstanceTrack). Tracks q x.key h x) ts c.args.place t follows.each is)
    (at-place (λ (x : InstanceTrack). is_known q h x.key ≡ true) ts c.args.place t (known-of q h ts follows) is)
    c.told.ensures.key c.told.ensures.handle c.told.ensures.state c.told.ensures.view c.told.ensures.disposed
    c.told.ensures.no_writers c.told.ensures.writes c.told.ensures.marker

pub returns-in-Some-clause-marker : goal.returns-in-Some-clause-marker
returns-in-Some-clause-marker c =
    let marker : Option InstanceTrack → Option ℕ = λ o. option_and_then (λ (t : InstanceTrack). t.last_marker) o in
    ap (λ (m : Option ℕ). is_at m (happened_of c.args.self.now)) c.told.ensures.marker
    ∙ (sym (ap (λ (o : Option InstanceTrack). is_at (marker o) (happened_of c.args.self.now))
    (track-there c.deref.result.now c.args.place c.in-Some.track.now c.in-Some.ensures.lookup.0
    c.in-Some.ensures.lookup.1))
    ∙ ap (λ (ts : List InstanceTrack). is_at (marker (slice_get ts c.args.place)) (happened_of c.args.self.now))
    (c.deref.ensures.value ∙ ap (λ (t : Table). t.tracks) c.self.view_is))

pub returns-in-Some-clause-small : goal.returns-in-Some-clause-small
returns-in-Some-clause-small c =
    let fits : Fits (c.self.inside.happened + 1) c.in-Some.track.now =
    at-place (Fits (c.self.inside.happened + 1)) c.self.inside.tracks.items c.args.place c.in-Some.track.now
    c.self.invariant.fits (ap (λ (ts : List InstanceTrack). slice_get ts c.args.place) (sym c.deref.ensures.value)
    ∙ track-there c.deref.result.now c.args.place c.in-Some.track.now c.in-Some.ensures.lookup.0
    c.in-Some.ensures.lookup.1) in
    omega (arith, fits.generations, c.told.ensures.disposed, c.told.ensures.no_writers, c.self.invariant.counted)

pub returns-in-None-clause-key : goal.returns-in-None-clause-key
returns-in-None-clause-key c = λ q h stands.
    let ts : List InstanceTrack = c.deref.result.now in
    let test : false ≡ nat_lt c.args.place (length ts) = c.in-None.ensures.lookup.0 in
    let past : length ts ≤ c.args.place = grind (arith, nat_tests) in
    sym (ap (λ (o : Option InstanceTrack). option_map key_of o) (slice_get_past ts c.args.place past))
    ∙ instance-at q h ts c.args.place
    (follows-of q h c.args.self.now ts (c.deref.ensures.value ∙ ap (λ (t : Table). t.tracks) c.self.view_is) stands)
