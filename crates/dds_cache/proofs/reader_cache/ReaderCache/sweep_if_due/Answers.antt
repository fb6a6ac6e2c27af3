use Rattle.std.proofs.Common.{sym, subst, refl}
use Rattle.dds_cache.specs.Standing.{Stored, StandsFor}
use Rattle.dds_cache.specs.Sound.{stored_of}
use Rattle.dds_cache.proofs.StandingLaws.{stands-stays}
use Rattle.dds_cache.proofs.reader_cache.ReaderCache.sweep_if_due.Goals as goal

pub returns-then-len-self-clause-same : goal.returns-then-len-self-clause-same
returns-then-len-self-clause-same c = λ h stands.
    let old : StandsFor (stored_of c.self.inside) h =
    subst (λ (t : Stored). StandsFor t h) (sym c.self.view_is) stands in
    stands-stays h (stored_of c.self.inside) _ refl refl (c.sweep.ensures.items h old.instances) refl refl old
