use Rattle.std.proofs.Common.{◌≡◌, ◌≢◌, List, [], sym, subst, None, Bool}
use Rattle.dds_base.specs.Selection.{picked_by, selection_refusal}
use Rattle.dds_cache.specs.declared.kept.Kept.{Kept}
use Rattle.dds_cache.specs.Finding.{Holds}
use Rattle.dds_cache.specs.Picking.{TellsAny}
use Rattle.dds_cache.specs.Sound.{stored_of}
use Rattle.dds_cache.specs.Standing.{Stored, StandsFor, qos_of}
use Rattle.dds_cache.proofs.AnyLaws.{nothing-found}
use Rattle.dds_cache.proofs.StandingLaws.{holds}
use Rattle.dds_cache.proofs.reader_cache.ReaderCache.find_nothing.Goals as goal

pub returns-then-picks_any-clause-some : goal.returns-then-picks_any-clause-some
returns-then-picks_any-clause-some g c = λ h stands.
    let old : StandsFor (stored_of c.self.inside) h =
    subst (λ (t : Stored). StandsFor t h) (sym c.self.view_is) stands in
    let holding : Holds c.self.inside.qos c.self.inside.instances c.deref.result.now h =
    subst (λ (xs : List Kept). Holds c.self.inside.qos c.self.inside.instances xs h) (sym c.deref.ensures.value)
    (holds (stored_of c.self.inside) h old) in
    let good : selection_refusal (qos_of c.args.self.now) h c.args.selection.now ≡ None = c.requires.good h stands in
    let tells : TellsAny c.picks_any.result (picked_by c.self.inside.qos h c.args.selection.now
    (g.T.Test.meaning c.args.test.now)) = c.picks_any.ensures.tells h holding
    (subst (λ (t : Stored). selection_refusal (qos_of t) h c.args.selection.now ≡ None) (sym c.self.view_is) good) in
    subst (λ (t : Stored). picked_by (qos_of t) h c.args.selection.now (g.T.Test.meaning c.args.test.now) ≢ [])
    c.self.view_is
    (subst (λ (b : Bool). TellsAny b (picked_by c.self.inside.qos h c.args.selection.now
    (g.T.Test.meaning c.args.test.now))) c.if-picks_any.true tells)

pub returns-clause-found : goal.returns-clause-found
returns-clause-found g c = λ h stands.
    let old : StandsFor (stored_of c.self.inside) h =
    subst (λ (t : Stored). StandsFor t h) (sym c.self.view_is) stands in
    let holding : Holds c.self.inside.qos c.self.inside.instances c.deref.result.now h =
    subst (λ (xs : List Kept). Holds c.self.inside.qos c.self.inside.instances xs h) (sym c.deref.ensures.value)
    (holds (stored_of c.self.inside) h old) in
    let good : selection_refusal (qos_of c.args.self.now) h c.args.selection.now ≡ None = c.requires.good h stands in
    let tells : TellsAny c.picks_any.result (picked_by c.self.inside.qos h c.args.selection.now
    (g.T.Test.meaning c.args.test.now)) = c.picks_any.ensures.tells h holding
    (subst (λ (t : Stored). selection_refusal (qos_of t) h c.args.selection.now ≡ None) (sym c.self.view_is) good) in
    let none : picked_by (qos_of c.args.self.now) h c.args.selection.now (g.T.Test.meaning c.args.test.now) ≡ [] =
    subst (λ (t : Stored). picked_by (qos_of t) h c.args.selection.now (g.T.Test.meaning c.args.test.now) ≡ [])
    c.self.view_is
    (subst (λ (b : Bool). TellsAny b (picked_by c.self.inside.qos h c.args.selection.now
    (g.T.Test.meaning c.args.test.now))) c.if-picks_any.false tells) in
    nothing-found c.args.kind _ _ _ _ _ _ c.nothing.ensures.positions c.nothing.ensures.found c.nothing.ensures.samples good
    none
