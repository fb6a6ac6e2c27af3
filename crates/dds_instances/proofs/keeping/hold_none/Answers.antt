use Rattle.std.proofs.Common.{ℕ, ◌<◌, ◌≤◌, ◌++◌, List, length, map, drop, ap, ◌∙◌, false, arith}
use Rattle.std.proofs.lemmas.List.{append-nil, drop_all, take_all}
use Rattle.std.proofs.lemmas.List.Edits.{map_over_more}
use Rattle.dds_instances.specs.declared.track.InstanceTrack.{InstanceTrack}
use Rattle.dds_instances.specs.Track.{held_as}
use Rattle.dds_instances.proofs.HoldingLaws.{notes-alive, notes-fit, notes-keys, notes-none}
use Rattle.dds_instances.proofs.keeping.hold_none.Goals as goal

pub loop-at-preserved : goal.loop-at-preserved
loop-at-preserved c =
    let ts : List InstanceTrack = c.args.tracks.now.items in
    let inside : c.loop-at.at < length ts =
    omega (arith, c.loop-at-test.true, c.len-at-end.ensures, c.args.tracks.now.ok.0) in
    record {
      vec_len = c.loop-at.invariant.vec_len;
      capacity = c.loop-at.invariant.capacity;
      items = map_over_more (held_as false) ts c.loop-at.tracks.items c.loop-at.at c.index_mut.result.now inside
          c.loop-at.invariant.items c.index_mut.ensures.value;
    }

pub returns-clause-held : goal.returns-clause-held
returns-clause-held c =
    let ts : List InstanceTrack = c.args.tracks.now.items in
    let at : ℕ = c.loop-at.at in
    let all : length ts ≤ at = omega (arith, c.loop-at-test.false, c.len-at-end.ensures, c.args.tracks.now.ok.0) in
    c.loop-at.invariant.items
    ∙ (ap (λ (us : List InstanceTrack). map (held_as false) us ++ drop at ts) (take_all at ts all)
    ∙ (ap (λ (us : List InstanceTrack). map (held_as false) ts ++ us) (drop_all at ts all)
    ∙ append-nil (map (held_as false) ts)))

pub returns-clause-keys : goal.returns-clause-keys
returns-clause-keys c =
    notes-keys (held_as false) c.args.tracks.now.items c.loop-at.tracks.items notes-none (returns-clause-held c)

pub returns-clause-fits : goal.returns-clause-fits
returns-clause-fits c =
    notes-fit (held_as false) c.args.tracks.now.items c.loop-at.tracks.items notes-none (returns-clause-held c)

pub returns-clause-alive : goal.returns-clause-alive
returns-clause-alive c =
    notes-alive (held_as false) c.args.tracks.now.items c.loop-at.tracks.items notes-none (returns-clause-held c)
