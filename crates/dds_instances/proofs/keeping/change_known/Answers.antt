use Rattle.std.proofs.Common.{◌<◌, ◌≤◌, List, length, subst, sym, ap, ◌∙◌, arith}
use Rattle.std.proofs.lemmas.List.{length-map, get_or_default}
use Rattle.dds_owner.specs.Standing.{places_of}
use Rattle.dds_instances.specs.declared.track.InstanceTrack.{InstanceTrack}
use Rattle.dds_instances.specs.Track.{Fits}
use Rattle.dds_instances.specs.Following.{key_of}
use Rattle.dds_instances.proofs.StandingLaws.{fits-advanced, fits-set, keys-set, reaches-known}
use Rattle.dds_instances.proofs.MarkerLaws.{alive-changed}
use Rattle.dds_instances.proofs.keeping.change_known.Goals as goal

pub returns-clause-fits : goal.returns-clause-fits
returns-clause-fits c =
    let ts : List InstanceTrack = c.args.tracks.now.items in
    let t : InstanceTrack = c.index_mut.result.now in
    let inside : c.args.at < length ts = omega (arith, c.requires.place.within, length-map ts key_of) in
    let before : Fits c.args.position t =
    subst (λ (y : InstanceTrack). Fits c.args.position y) (sym c.index_mut.ensures.value)
    (c.requires.fits c.args.at t inside) in
    fits-set c.args.position ts c.args.at c.change.new.self c.requires.fits
    (fits-advanced _ c.args.position t c.change.new.self before c.change.ensures.advances)

pub returns-clause-keys : goal.returns-clause-keys
returns-clause-keys c =
    let ts : List InstanceTrack = c.args.tracks.now.items in
    let t : InstanceTrack = c.index_mut.result.now in
    let inside : c.args.at < length ts = omega (arith, c.requires.place.within, length-map ts key_of) in
    keys-set ts c.args.at c.change.new.self inside
    (c.change.ensures.advances.key ∙ ap (λ (y : InstanceTrack). y.key)
    (c.index_mut.ensures.value ∙ get_or_default ts c.args.at t c.change.new.self inside))

pub returns-clause-follows : goal.returns-clause-follows
returns-clause-follows c =
    λ h may matched placed. reaches-known c.args.qos.now c.args.strengths.now h
    c.args.arrival.now c.args.tracks.now.items c.args.at
    c.args.position c.index_mut.result.now c.change.new.self c.change.result may matched c.requires.place
    c.index_mut.ensures.value
    (record {
      advances = c.change.ensures.advances;
      accepted = c.change.ensures.accepted;
      came = λ g. c.change.ensures.came g
          (subst (λ (y : InstanceTrack). c.args.arrival.now.writer ≤ places_of y.owners) (sym c.index_mut.ensures.value)
          (placed c.index_mut.result.now));
    })

pub returns-clause-alive : goal.returns-clause-alive
returns-clause-alive c = alive-changed c.args.tracks.now.items c.args.at c.change.new.self
