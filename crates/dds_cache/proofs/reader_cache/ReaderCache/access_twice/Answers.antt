use Rattle.std.proofs.Common.{◌≡◌, ◌≢◌, ◌==◌, ◌∙◌, Err, List, Ok, Result, Bool, true, false, [], length, map, ℕ, sym, ap, subst, arith, inl, refl}
use Rattle.std.specs.List.{All}
use Rattle.std.specs.Prelude.{IfErr, if◌then◌else◌}
use Rattle.std.proofs.lemmas.Grind.{common_steps}
use Rattle.dds_base.specs.declared.code.Code.{Code}
use Rattle.dds_base.specs.declared.code.Code.TheVariants.{NoData}
use Rattle.dds_base.specs.declared.happening.SamplePosition.{SamplePosition}
use Rattle.dds_base.specs.declared.qos.ReaderQos.{ReaderQos}
use Rattle.dds_base.specs.declared.sample.Sample.{Sample}
use Rattle.dds_base.specs.Access.{collection_of}
use Rattle.dds_cache.specs.Positions.{PositionList}
use Rattle.dds_cache.specs.declared.access.Candidate.{Candidate}
use Rattle.dds_cache.specs.declared.access_kind.AccessKind.TheVariants.{Take}
use Rattle.dds_cache.specs.declared.kept.Kept.{Kept}
use Rattle.dds_cache.specs.Finding.{IsCandidate, sample_in}
use Rattle.dds_cache.specs.Kept.{IsKept}
use Rattle.dds_cache.specs.Picking.{IsAccess}
use Rattle.std.proofs.lemmas.Bool.Decides.{nat_tests}
use Rattle.dds_cache.specs.Standing.{Stored, picked, qos_of}
use Rattle.dds_cache.proofs.AnyLaws.{refused-twice}
use Rattle.dds_cache.proofs.CollectionLaws.{collected-is}
use Rattle.dds_cache.proofs.reader_cache.ReaderCache.access_twice.Goals as goal

pub returns-in_err-found-clause-answer : goal.returns-in_err-found-clause-answer
returns-in_err-found-clause-answer g c =
    let code : Code = c.in_err-found.field-0.0 in
    let itself : c.in_err-found.field-0.0 ≡ c.in_err-found.field-0.0 = refl in
    let same : IfErr c.from_residual.result (λ (e : Code). e ≡ c.in_err-found.field-0.0) =
    grind (arith, common_steps, itself) in
    λ h stands.
    refused-twice c.args.self.now h c.args.selection (g.T.Test.meaning c.args.test.now) c.from_residual.result
    c.in_err-found.field-0.0 c.from_residual.ensures.0 same (c.in_err-found.ensures.refused h stands)
    (λ want. inl (c.in_err-found.ensures.some h stands want))

-- an answer that is one is the collection
answered : (b : Bool) (samples first : List Sample)
    → ◌≡◌ {A = Result (List Sample) Code} (Ok samples) (if b then Err NoData else Ok first)
    → (b ≡ false) × (samples ≡ first)
answered true samples first e =
    absurd (let clash : ◌≡◌ {A = Result (List Sample) Code} (Ok samples) (Err NoData) = e in cc)
answered false samples first e = (refl, let same : samples ≡ first = cc in same)

pub returns-clause-answer : goal.returns-clause-answer
returns-clause-answer g c = λ h stands.
    let q : ReaderQos = qos_of c.args.self.now in
    let ks : List Kept = c.args.self.now.samples in
    let ss : List SamplePosition = c.in_ok-found.found.positions.items in
    let cs : List Candidate = c.in_ok-found.found.found.items in
    let is : IsAccess Take q h c.args.selection (g.T.Test.meaning c.args.test.now) ks c.in_ok-found.found =
    c.in_ok-found.ensures.found h stands in
    let kept_are : c.deref.result.now ≡ ks =
    c.deref.ensures.value ∙ ap (λ (t : Stored). t.samples) c.self.view_is in
    let kept : All (IsKept q h) c.deref.result.now =
    subst (λ (xs : List Kept). All (IsKept q h) xs) (sym kept_are) stands.each in
    let found : All (IsCandidate q h c.deref.result.now) cs =
    subst (λ (xs : List Kept). All (IsCandidate q h xs) cs) (sym kept_are) is.found.candidates in
    let count : ℕ = length c.enter.new.access.positions.items in
    let told = answered (count == 0) c.in_ok-samples.samples c.in_ok-first.first.items c.in_ok-samples.ensures in
    let first : c.in_ok-first.first.items ≡ collection_of q h (map sample_in cs) =
    c.in_ok-first.ensures.same ∙ collected-is q h c.deref.result.now cs kept found in
    let some : picked c.args.self.now h c.args.selection (g.T.Test.meaning c.args.test.now) ≢ [] = λ none.
    let empty : count ≡ 0 = ap (λ (ps : PositionList). length ps.items) c.enter.ensures.positions
    ∙ ap length (is.positions_are ∙ none) in
    let yes : (count == 0) ≡ true = grind (arith, nat_tests, empty) in
    let clash : true ≡ false = sym yes ∙ told.0 in absurd cc in (
      is.good,
      some,
      told.1 ∙ (first ∙ ap (λ (xs : List SamplePosition). collection_of q h xs)
          (sym c.in_ok-found.ensures.gathered.same ∙ is.positions_are)),
    )
