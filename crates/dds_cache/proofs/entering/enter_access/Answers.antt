use Rattle.std.proofs.Common.{◌≡◌, ◌∷◌, List, map, sym, ap, ◌∙◌, subst}
use Rattle.std.specs.List.{All}
use Rattle.std.specs.Prelude.{OnOk, Result}
use Rattle.dds_base.specs.declared.code.Code.{Code}
use Rattle.dds_base.specs.declared.happening.SamplePosition.{SamplePosition}
use Rattle.dds_base.specs.declared.happening.Happening.{Happening}
use Rattle.dds_base.specs.declared.happening.Happening.TheVariants.{Read}
use Rattle.dds_base.specs.declared.qos.ReaderQos.{ReaderQos}
use Rattle.dds_instances.specs.Known.{IsReturnable}
use Rattle.dds_instances.specs.Table.{Stands, Table}
use Rattle.dds_cache.specs.Positions.{PositionList}
use Rattle.dds_cache.specs.declared.access_kind.AccessKind.{AccessKind}
use Rattle.dds_cache.specs.declared.kept.Kept.{Kept}
use Rattle.dds_cache.specs.declared.access.Candidate.{Candidate}
use Rattle.dds_cache.specs.Finding.{AreAt, Holds, IsCandidate, sample_in}
use Rattle.dds_cache.specs.Settling.{settled}
use Rattle.dds_cache.specs.Standing.{entry_of}
use Rattle.dds_cache.proofs.PlaceLaws.{at-places}
use Rattle.dds_cache.proofs.StandingLaws.{holds-read}
use Rattle.dds_cache.proofs.entering.enter_access.Goals as goal

placed : (q : ReaderQos) (table : Table) (h : List Happening) (ks : List Kept) (ss : List SamplePosition)
    (cs : List Candidate) → ss ≡ map sample_in cs → Holds q table ks h → All (IsCandidate q h ks) cs → AreAt ss cs ks
placed q table h ks ss cs same holds each =
    subst (λ (xs : List SamplePosition). AreAt xs cs ks) (sym same) (at-places q table h ks cs holds each)

pub returns-in-Read-clause-holds : goal.returns-in-Read-clause-holds
returns-in-Read-clause-holds c = λ h holds_found.
    let holds = holds_found.holds in
    let each = holds_found.found.candidates in
    let q : ReaderQos = c.args.qos.now in
    let ks : List Kept = c.args.samples.now.items in
    let ss : List SamplePosition = c.as_slice.result.now in
    let same : ss ≡ c.args.access.now.positions.items =
    c.as_slice.ensures ∙ ap (λ (ps : PositionList). ps.items) c.settle.ensures.positions in
    let fits : All (IsReturnable q h) ss =
    subst (λ (xs : List SamplePosition). All (IsReturnable q h) xs) (sym same) holds_found.found.returnable in
    let read : Stands q c.read.new.self (Read ss ∷ h) =
    subst (λ (r : Result (Unit {0}) Code). OnOk r ((p : ReaderQos) (g : List Happening)
    → Stands p c.args.instances.now g → All (IsReturnable p g) ss → Stands p c.read.new.self (Read ss ∷ g)))
    c.unwrap.ensures c.read.ensures.read q h holds.instances fits in
    subst (λ (xs : List SamplePosition). Holds q c.read.new.self c.settle.new.samples.items (entry_of c.args.kind xs ∷ h))
    same
    (subst (λ (kind : AccessKind). Holds q c.read.new.self c.settle.new.samples.items (entry_of kind ss ∷ h))
    (sym c.in-Read.is)
    (subst (λ (xs : List Kept). Holds q c.read.new.self xs (Read ss ∷ h))
    (sym (c.settle.ensures.items ss (placed q c.args.instances.now h ks ss c.args.access.now.found.items
    (same ∙ c.requires.gathered.same) holds each)
    ∙ ap (λ (kind : AccessKind). settled kind ss ks) c.in-Read.is))
    (holds-read q ss h c.args.instances.now c.read.new.self ks read holds)))

pub returns-in-Take-clause-holds : goal.returns-in-Take-clause-holds
returns-in-Take-clause-holds c = λ h holds_found.
    let holds = holds_found.holds in
    let each = holds_found.found.candidates in
    let q : ReaderQos = c.args.qos.now in
    let ks : List Kept = c.args.samples.now.items in
    let ss : List SamplePosition = c.as_slice-in-Take.result.now in
    let same : ss ≡ c.args.access.now.positions.items =
    c.as_slice-in-Take.ensures ∙ ap (λ (ps : PositionList). ps.items) c.settle.ensures.positions in
    let fits : All (IsReturnable q h) ss =
    subst (λ (xs : List SamplePosition). All (IsReturnable q h) xs) (sym same) holds_found.found.returnable in
    subst (λ (xs : List SamplePosition). Holds q c.take_out.new.instances c.take_out.new.samples.items
    (entry_of c.args.kind xs ∷ h)) same
    (subst (λ (kind : AccessKind). Holds q c.take_out.new.instances c.take_out.new.samples.items
    (entry_of kind ss ∷ h)) (sym c.in-Take.is)
    (c.take_out.ensures.holds h ks (record {
      holds = holds;
      returnable = fits;
      marked_are = c.settle.ensures.items ss (placed q c.args.instances.now h ks ss c.args.access.now.found.items
          (same ∙ c.requires.gathered.same) holds each)
          ∙ ap (λ (kind : AccessKind). settled kind ss ks) c.in-Take.is;
    })))

pub returns-in-Take-clause-small : goal.returns-in-Take-clause-small
returns-in-Take-clause-small c = λ small. c.take_out.ensures.small (c.settle.ensures.small small)
