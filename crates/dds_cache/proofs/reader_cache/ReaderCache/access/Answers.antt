use Rattle.std.proofs.Common.{◌≡◌, ◌∙◌, List, sym, ap, subst, inl, refl}
use Rattle.std.specs.Prelude.{Err}
use Rattle.dds_base.specs.declared.happening.SamplePosition.{SamplePosition}
use Rattle.dds_base.specs.declared.qos.ReaderQos.{ReaderQos}
use Rattle.dds_base.specs.Access.{collection_of}
use Rattle.dds_cache.specs.declared.collection.Access.{Access}
use Rattle.dds_cache.specs.declared.kept.Kept.{Kept}
use Rattle.dds_cache.specs.Picking.{IsAccess}
use Rattle.dds_cache.specs.Standing.{AccessAnswers, Stored, StandsFor, qos_of}
use Rattle.dds_cache.proofs.AnyLaws.{answered-so, refused-so}
use Rattle.dds_cache.proofs.CollectionLaws.{collected-is}
use Rattle.dds_cache.proofs.reader_cache.ReaderCache.access.Goals as goal

pub returns-in-Err-clause-answer : goal.returns-in-Err-clause-answer
returns-in-Err-clause-answer g c = λ h stands.
    let now : Stored = c.take_only.new.self in
    let same : now ≡ c.args.self.now = c.take_only.ensures.same c.in_default.is in
    let still : StandsFor now h = subst (λ (t : Stored). StandsFor t h) (sym same) stands in
    subst (λ (t : Stored). AccessAnswers t h c.args.selection (g.T.Test.meaning c.args.test.now) (Err c.in-Err.code)) same
    (refused-so now h c.args.selection (g.T.Test.meaning c.args.test.now) (Err c.in-Err.code) c.in-Err.code
    refl refl (c.in-Err.ensures.refused h still) (λ want. inl (c.in-Err.ensures.some h still want)))

pub returns-in_ok-enter-in-Ok-clause-answer : goal.returns-in_ok-enter-in-Ok-clause-answer
returns-in_ok-enter-in-Ok-clause-answer g c = λ h stands.
    let now : Stored = c.take_only.new.self in
    let same : now ≡ c.args.self.now = c.take_only.ensures.same c.in_default.is in
    let still : StandsFor now h = subst (λ (t : Stored). StandsFor t h) (sym same) stands in
    let q : ReaderQos = qos_of now in
    let ks : List Kept = now.samples in
    let access : Access = c.in-Ok.access in
    let is : IsAccess c.args.kind q h c.args.selection (g.T.Test.meaning c.args.test.now) ks access =
    c.in-Ok.ensures.found h still in
    let positions : c.enter.new.access.positions.items ≡ access.positions.items =
    ap (λ v. v.items) c.enter.ensures.positions in
    subst (λ (t : Stored). AccessAnswers t h c.args.selection (g.T.Test.meaning c.args.test.now) c.answer_of.result) same
    (answered-so now h c.args.selection (g.T.Test.meaning c.args.test.now) c.enter.new.access.positions.items
    c.enter.new.access.samples.items c.answer_of.result is.good (positions ∙ is.positions_are)
    (c.in_ok-enter-in-Ok.ensures.delivered is.apart is.collection_is
    ∙ (collected-is q h ks access.found.items still.each is.found.candidates
    ∙ ap (λ (xs : List SamplePosition). collection_of q h xs) (sym c.in-Ok.ensures.gathered.same ∙ sym positions)))
    c.answer_of.ensures)
