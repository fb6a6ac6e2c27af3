use Rattle.std.proofs.Common.{◌≡◌, ◌+◌, arith, List, sym, ap, ◌∙◌, subst, Option, true}
use Rattle.std.specs.Prelude.{is_some}
use Rattle.dds_base.specs.declared.key.Key.{Key}
use Rattle.dds_base.specs.declared.change.ChangeKind.{ChangeKind}
use Rattle.dds_base.specs.Ownership.{registered_writers}
use Rattle.dds_base.specs.Life.{last_accepted, state_after, is_nobody}
use Rattle.dds_instances.specs.declared.track.InstanceTrack.{InstanceTrack}
use Rattle.std.specs.List.{All}
use Rattle.dds_instances.specs.Track.{Tracks, Fits}
use Rattle.dds_instances.specs.Table.{Table}
use Rattle.dds_instances.proofs.StandingLaws.{follows-of, told-tracked}
use Rattle.dds_instances.proofs.instances.Instances.known.Goals as goal

pub returns-in-Some-clause-key : goal.returns-in-Some-clause-key
returns-in-Some-clause-key c =
    λ q h stands. c.told.ensures.key
    ∙ ((c.in-Some.ensures.kept q h
    (follows-of q h c.args.self.now c.deref.result.now
    (c.deref.ensures.value ∙ ap (λ (t : Table). t.tracks) c.self.view_is) stands)).0).key_is

pub returns-in-Some-clause-known : goal.returns-in-Some-clause-known
returns-in-Some-clause-known c = λ q h stands.
    let both =
    c.in-Some.ensures.kept q h
    (follows-of q h c.args.self.now c.deref.result.now
    (c.deref.ensures.value ∙ ap (λ (t : Table). t.tracks) c.self.view_is) stands) in
    let t : InstanceTrack = c.in-Some.track.now in
    let tracked : Tracks q t.key h t = subst (λ (i : Key). Tracks q i h t) (sym both.0.key_is) both.0 in
    let there : is_some (last_accepted q t.key h) ≡ true =
    ap (λ (i : Key). is_some (last_accepted q i h)) both.0.key_is ∙ both.1 in
    told-tracked q h t c.told.result tracked there c.told.ensures.key c.told.ensures.handle c.told.ensures.state c.told.ensures.view
    c.told.ensures.disposed c.told.ensures.no_writers c.told.ensures.writes c.told.ensures.marker

pub returns-in-None-clause-key : goal.returns-in-None-clause-key
returns-in-None-clause-key c = λ q h stands.
    ap (λ (k : Option ChangeKind). state_after k (is_nobody (registered_writers q c.args.key h)))
    (c.in-None.ensures.kept q h
    (follows-of q h c.args.self.now c.deref.result.now
    (c.deref.ensures.value ∙ ap (λ (t : Table). t.tracks) c.self.view_is) stands))

pub returns-in-Some-clause-small : goal.returns-in-Some-clause-small
returns-in-Some-clause-small c =
    let fits : Fits (c.self.inside.happened + 1) c.in-Some.track.now =
    c.in-Some.ensures.fits (c.self.inside.happened + 1)
    (subst (λ (ts : List InstanceTrack). All (Fits (c.self.inside.happened + 1)) ts)
    (sym c.deref.ensures.value) c.self.invariant.fits) in
    omega (arith, fits.generations, c.told.ensures.disposed, c.told.ensures.no_writers, c.self.invariant.counted)
