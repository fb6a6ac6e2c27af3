use Rattle.std.proofs.Common.{List, ap, ◌∙◌}
use Rattle.std.specs.Prelude.{count_by}
use Rattle.dds_base.specs.Ownership.{writers_of}
use Rattle.dds_lease.specs.declared.track.LeaseTrack.{LeaseTrack}
use Rattle.dds_lease.specs.Standing.{Kept}
use Rattle.dds_lease.specs.Overdue.{is_over_at}
use Rattle.dds_lease.proofs.FindingLaws.{count-dead}
use Rattle.dds_lease.proofs.leases.Leases.overdue.Goals as goal

pub returns-clause-deaths : goal.returns-clause-deaths
returns-clause-deaths c = λ q h given.
    c.count_over.ensures
    ∙ (ap (λ (ts : List LeaseTrack). count_by (is_over_at c.args.now) ts)
    (c.deref.ensures.value ∙ (ap (λ (k : Kept). k.tracks) c.self.view_is ∙ given.tracks))
    ∙ count-dead q c.args.now 1 h (writers_of q h))
