use Rattle.std.proofs.Common.{length, ap, arith}
use Rattle.dds_lease.specs.Standing.{Kept}
use Rattle.dds_lease.proofs.StandingLaws.{matched-count}
use Rattle.dds_lease.proofs.leases.Leases.writers.Goals as goal

pub returns-clause-matched : goal.returns-clause-matched
returns-clause-matched c = λ q h given.
    let count = matched-count c.args.self.now q h given in
    let kept = ap (λ (k : Kept). length k.tracks) c.self.view_is in
    omega (arith, count, kept)
