use Rattle.std.proofs.Common.{◌∙◌, List, [], ap, length, refl}
use Rattle.dds_base.specs.declared.qos.MatchedWriter.{MatchedWriter}
use Rattle.dds_base.proofs.JoinLaws.{nobody-joined}
use Rattle.dds_lease.proofs.StandingLaws.{matched-count}
use Rattle.dds_ends.proofs.store.Store.open.Goals as goal

-- there is a lease for each writer of the opening
pub returns-clause-writers : goal.returns-clause-writers
returns-clause-writers c =
    matched-count c.in_ok-leases.leases c.args.qos [] c.in_ok-leases.ensures.ok
    ∙ ap (λ (ws : List MatchedWriter). length ws) (nobody-joined c.args.qos [] refl)
