use Rattle.std.proofs.Common.{sym, subst, refl}
use Rattle.dds_base.specs.declared.happening.Happening.TheVariants.{Passed, Heard, Left}
use Rattle.dds_base.specs.Ownership.{IsMatched}
use Rattle.dds_cache.specs.Standing.{Stored, StandsFor}
use Rattle.dds_cache.specs.Sound.{stored_of}
use Rattle.dds_cache.proofs.StandingLaws.{stands-quiet}
use Rattle.dds_cache.proofs.reader_cache.ReaderCache.skip.Goals as goal

pub returns-clause-passed : goal.returns-clause-passed
returns-clause-passed c = λ h w first last stands matched.
    let old : StandsFor (stored_of c.self.inside) h =
    subst (λ (t : Stored). StandsFor t h) (sym c.self.view_is) stands in
    stands-quiet c.self.inside.qos (Passed w first last) h (stored_of c.self.inside) _ refl refl refl refl
    (λ i. refl) (λ i. refl) old.arrivals_are refl refl refl
    (c.in_ok-skip.ensures.passed c.self.inside.qos h w first last old.instances
    (subst (λ (t : Stored). IsMatched t.qos h w) (sym c.self.view_is) matched)) old

pub returns-clause-heard : goal.returns-clause-heard
returns-clause-heard c = λ h w moment stands matched.
    let old : StandsFor (stored_of c.self.inside) h =
    subst (λ (t : Stored). StandsFor t h) (sym c.self.view_is) stands in
    stands-quiet c.self.inside.qos (Heard w moment) h (stored_of c.self.inside) _ refl refl refl refl
    (λ i. refl) (λ i. refl) old.arrivals_are refl refl refl
    (c.in_ok-skip.ensures.heard c.self.inside.qos h w moment old.instances
    (subst (λ (t : Stored). IsMatched t.qos h w) (sym c.self.view_is) matched)) old

pub returns-clause-left : goal.returns-clause-left
returns-clause-left c = λ h w moment stands matched.
    let old : StandsFor (stored_of c.self.inside) h =
    subst (λ (t : Stored). StandsFor t h) (sym c.self.view_is) stands in
    stands-quiet c.self.inside.qos (Left w moment) h (stored_of c.self.inside) _ refl refl refl refl
    (λ i. refl) (λ i. refl) old.arrivals_are refl refl refl
    (c.in_ok-skip.ensures.left c.self.inside.qos h w moment old.instances
    (subst (λ (t : Stored). IsMatched t.qos h w) (sym c.self.view_is) matched)) old
