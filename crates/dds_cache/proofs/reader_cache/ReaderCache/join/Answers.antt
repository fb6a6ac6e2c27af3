use Rattle.std.proofs.Common.{sym, subst, refl}
use Rattle.dds_base.specs.declared.happening.Happening.TheVariants.{Joined}
use Rattle.dds_base.proofs.JoinLaws.{registered-joined}
use Rattle.dds_cache.specs.Standing.{Stored, StandsFor}
use Rattle.dds_cache.specs.Sound.{stored_of}
use Rattle.dds_cache.proofs.StandingLaws.{stands-quiet}
use Rattle.dds_cache.proofs.reader_cache.ReaderCache.join.Goals as goal

pub returns-clause-ok : goal.returns-clause-ok
returns-clause-ok c = λ h stands.
    let old : StandsFor (stored_of c.self.inside) h =
    subst (λ (t : Stored). StandsFor t h) (sym c.self.view_is) stands in
    stands-quiet c.self.inside.qos (Joined c.args.writer) h (stored_of c.self.inside) _ refl refl refl refl
    (λ i. refl) (λ i. registered-joined c.self.inside.qos i h c.args.writer old.instances.follows.matched)
    old.arrivals_are refl refl refl
    (c.in_ok-join.ensures.joined c.self.inside.qos h old.instances) old
