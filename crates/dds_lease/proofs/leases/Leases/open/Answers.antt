use Rattle.std.proofs.Common.{◌≡◌, List, ap, sym, map, ◌∙◌, refl}
use Rattle.std.specs.Prelude.{count_by}
use Rattle.dds_base.specs.declared.qos.MatchedWriter.{MatchedWriter}
use Rattle.dds_lease.specs.declared.track.LeaseTrack.{LeaseTrack}
use Rattle.dds_lease.specs.Track.{fresh, is_dead_track, is_live_track}
use Rattle.dds_lease.proofs.TrackLaws.{fresh-counts, fresh-tracks}
use Rattle.dds_lease.proofs.leases.Leases.open.Goals as goal

pub invariant_of-result : goal.invariant_of-result
invariant_of-result c =
    let none = fresh-counts c.as_slice.result.now in
    let is : c.in_ok-tracks.tracks.items ≡ map fresh c.as_slice.result.now = c.in_ok-tracks.ensures in (
      none.0 ∙ ap (λ (ts : List LeaseTrack). count_by is_live_track ts) (sym is),
      none.1 ∙ ap (λ (ts : List LeaseTrack). count_by is_dead_track ts) (sym is),
    )

pub returns-clause-ok : goal.returns-clause-ok
returns-clause-ok c = record {
  tracks = c.in_ok-tracks.ensures
      ∙ (ap (λ (ws : List MatchedWriter). map fresh ws) c.as_slice.ensures.elements
      ∙ sym (fresh-tracks c.args.qos.now));
  last_turned = refl;
  matched = tt;
}
