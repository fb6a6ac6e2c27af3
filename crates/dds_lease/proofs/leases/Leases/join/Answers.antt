use Rattle.std.proofs.Common.{◌∙◌, ◌++◌, List, [], ◌∷◌, ap, refl}
use Rattle.dds_lease.specs.declared.track.LeaseTrack.{LeaseTrack}
use Rattle.dds_lease.specs.Track.{fresh}
use Rattle.dds_lease.proofs.StandingLaws.{joined-stands, stands-as}
use Rattle.dds_lease.proofs.leases.Leases.join.Goals as goal

pub returns-clause-joined : goal.returns-clause-joined
returns-clause-joined c = λ q h given.
    joined-stands _ _ q h c.args.writer (stands-as _ _ q h c.self.view_is given)
    (c.push_fresh.ensures.items
    ∙ ap (λ (ts : List LeaseTrack). ts ++ fresh c.args.writer ∷ []) c.in_ok-reserve.ensures.items)
    refl
