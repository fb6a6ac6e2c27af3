use Rattle.std.proofs.Common.{◌≡◌, ◌<◌, List, length, subst, sym, ap, ◌∙◌, arith}
use Rattle.std.proofs.lemmas.List.{length-map, get_or_default}
use Rattle.dds_instances.specs.declared.track.InstanceTrack.{InstanceTrack}
use Rattle.dds_instances.specs.Following.{key_of}
use Rattle.dds_instances.specs.Track.{IsOneMore}
use Rattle.dds_instances.proofs.StandingLaws.{keys-set}
use Rattle.dds_instances.proofs.WritingLaws.{takes-write}
use Rattle.dds_instances.proofs.keeping.write_known.Goals as goal

pub returns-clause-keys : goal.returns-clause-keys
returns-clause-keys c =
    let ts : List InstanceTrack = c.args.tracks.now.items in
    let inside : c.args.at < length ts = omega (arith, c.requires.place.within, length-map ts key_of) in
    keys-set ts c.args.at c.count_write.new.self inside
    (ap (λ (t : InstanceTrack). t.key) c.count_write.ensures
    ∙ ap (λ (t : InstanceTrack). t.key) (c.index_mut-track.ensures.value
    ∙ get_or_default ts c.args.at c.index_mut-track.result.now c.count_write.new.self inside))

pub returns-clause-follows : goal.returns-clause-follows
returns-clause-follows c = λ kept n h may.
    let ts : List InstanceTrack = c.args.tracks.now.items in
    let t : InstanceTrack = c.index_mut-track.result.now in
    let inside : c.args.at < length ts = omega (arith, c.requires.place.within, length-map ts key_of) in
    let same : c.index.result.now ≡ t =
    c.index.ensures
    ∙ (get_or_default ts c.args.at c.index.result.now t inside ∙ sym c.index_mut-track.ensures.value) in
    takes-write c.args.qos.now kept h c.args.arrival.now ts c.args.at n t c.count_write.new.self c.told_as.result may
    c.requires.place c.index_mut-track.ensures.value
    (subst (λ (x : InstanceTrack). IsOneMore c.args.qos.now c.args.arrival.now x) same
    (c.is_one_more.ensures c.if-not-is_one_more.false))
    c.count_write.ensures c.told_as.ensures.key c.told_as.ensures.handle c.told_as.ensures.state c.told_as.ensures.view
    c.told_as.ensures.disposed c.told_as.ensures.no_writers c.told_as.ensures.writes c.told_as.ensures.marker
