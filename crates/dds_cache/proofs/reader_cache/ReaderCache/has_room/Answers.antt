use Rattle.std.proofs.Common.{◌≡◌, List, sym, ap, ◌∙◌, subst}
use Rattle.dds_base.specs.declared.happening.Happening.TheVariants.{Came}
use Rattle.dds_base.specs.Presence.{has_room}
use Rattle.dds_cache.specs.declared.kept.Kept.{Kept}
use Rattle.dds_cache.specs.Finding.{Holds}
use Rattle.dds_cache.specs.Standing.{Stored, StandsFor, qos_of}
use Rattle.dds_cache.specs.Sound.{stored_of}
use Rattle.dds_cache.proofs.StandingLaws.{fresh, holds}
use Rattle.dds_cache.proofs.reader_cache.ReaderCache.has_room.Goals as goal

pub returns-clause-room : goal.returns-clause-room
returns-clause-room c = λ h stands.
    let s : StandsFor (stored_of c.self.inside) h =
    subst (λ (t : Stored). StandsFor t h) (sym c.self.view_is) stands in
    let same : c.self.inside.samples.items ≡ c.deref.result.now = sym c.deref.ensures.value in
    c.is_room.ensures.room h
    (subst (λ (ks : List Kept). Holds c.self.inside.qos c.self.inside.instances ks h) same
    (holds (stored_of c.self.inside) h s))
    (fresh (stored_of c.self.inside) h c.args.arrival.now.change.key s) s.arrivals_are
    ∙ ap (λ (t : Stored). has_room (qos_of t) h (Came c.args.arrival.now)) c.self.view_is
