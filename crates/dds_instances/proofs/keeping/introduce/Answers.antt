use Rattle.std.proofs.Common.{◌≡◌, ◌+◌, ◌≤◌, List, map, subst, sym, true, ap, ◌∙◌, false, arith}
use Rattle.std.specs.Prelude.{count_by}
use Rattle.std.specs.List.{list_any}
use Rattle.dds_base.specs.declared.key.Key.{Key}
use Rattle.dds_base.specs.Happening.{same_key}
use Rattle.dds_owner.specs.Standing.{places_of}
use Rattle.dds_instances.specs.declared.track.InstanceTrack.{InstanceTrack}
use Rattle.dds_instances.specs.Track.{fresh, is_alive_track}
use Rattle.dds_instances.specs.Following.{key_of, TakeUp}
use Rattle.dds_instances.proofs.StandingLaws.{Changes, reaches-new}
use Rattle.dds_instances.proofs.MarkerLaws.{alive-added}
use Rattle.dds_instances.proofs.keeping.introduce.Goals as goal

pub returns-clause-follows : goal.returns-clause-follows
returns-clause-follows c = λ h may matched life.
    let absent : list_any (same_key c.args.arrival.now.change.key) (map key_of c.args.tracks.now.items) ≡ false =
    ap (λ (ks : List Key). list_any (same_key c.args.arrival.now.change.key) ks) (sym c.requires.indexed)
    ∙ c.requires.absent in
    let step : Changes c.args.qos.now c.args.strengths.now c.args.arrival.now c.change.result c.args.position
    (fresh c.args.arrival.now.change.key c.args.handle c.args.blank) c.change.new.self =
    subst (λ (t : InstanceTrack). Changes c.args.qos.now c.args.strengths.now c.args.arrival.now c.change.result
    c.args.position t c.change.new.self) c.new-track.ensures
    (record {
      advances = c.change.ensures.advances;
      accepted = c.change.ensures.accepted;
      came = λ g. c.change.ensures.came g
          (subst (λ (y : InstanceTrack). c.args.arrival.now.writer ≤ places_of y.owners) (sym c.new-track.ensures)
          (omega (arith, matched.1, life.blank_is.places)));
    }) in
    subst (λ (ts : List InstanceTrack). TakeUp c.args.qos.now h c.args.arrival.now ts true)
    (sym c.put_last.ensures.tracks)
    (reaches-new c.args.qos.now c.args.strengths.now h c.args.arrival.now c.args.tracks.now.items c.args.position
    c.args.handle c.args.blank c.change.new.self c.change.result may matched life absent c.requires.kind step)

pub returns-clause-alive : goal.returns-clause-alive
returns-clause-alive c =
    let ts : List InstanceTrack = c.args.tracks.now.items in
    subst (λ (xs : List InstanceTrack). count_by is_alive_track xs ≤ count_by is_alive_track ts + 1)
    (sym c.put_last.ensures.tracks) (alive-added ts c.change.new.self)
