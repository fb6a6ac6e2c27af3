use Rattle.std.proofs.Common.{◌≡◌, List, [], ◌∷◌, length, sym, ap, ◌∙◌, subst, arith, refl}
use Rattle.std.proofs.lemmas.Bool.Decides.{nat_tests}
use Rattle.dds_cache.specs.declared.access_kind.AccessKind.TheVariants.{Read, Take}
use Rattle.dds_cache.specs.declared.access_kind.AccessKind.{AccessKind}
use Rattle.dds_cache.specs.declared.access.Candidate.{Candidate}
use Rattle.dds_cache.specs.declared.kept.Kept.{Kept}
use Rattle.dds_cache.specs.Finding.{AreApart, AreAt, AreChanged}
use Rattle.dds_cache.specs.Picking.{collected}
use Rattle.dds_cache.specs.Kept.{out_if, read_if}
use Rattle.dds_cache.specs.Settling.{settled}
use Rattle.dds_cache.proofs.PlaceLaws.{changed-among, settled-none}
use Rattle.dds_cache.proofs.returned.settle.Goals as goal

-- a list that is empty
no-items : (cs : List Candidate) → length cs ≡ 0 → cs ≡ []
no-items [] e = refl
no-items (c ∷ cs) e = absurd (omega (arith, e))

pub returns-then-is_empty-clause-items : goal.returns-then-is_empty-clause-items
returns-then-is_empty-clause-items c = λ ss at_places.
    let none : length c.args.access.now.found.items ≡ 0 =
    grind (arith, nat_tests, c.args.access.now.found.ok.0, c.is_empty.ensures, c.if-is_empty.true) in
    let empty : c.args.access.now.found.items ≡ [] = no-items c.args.access.now.found.items none in
    sym (settled-none c.args.kind ss c.args.samples.now.items
    (subst (λ (cs : List Candidate). AreAt ss cs c.args.samples.now.items) empty at_places))

pub returns-then-is_empty-clause-delivered : goal.returns-then-is_empty-clause-delivered
returns-then-is_empty-clause-delivered c = λ apart gathered.
    let ks : List Kept = c.args.samples.now.items in
    let none : length c.args.access.now.found.items ≡ 0 =
    grind (arith, nat_tests, c.args.access.now.found.ok.0, c.is_empty.ensures, c.if-is_empty.true) in
    let empty : c.args.access.now.found.items ≡ [] = no-items c.args.access.now.found.items none in
    gathered
    ∙ (ap (λ (cs : List Candidate). collected c.args.kind ks cs) empty
    ∙ ap (λ (cs : List Candidate). collected Read ks cs) (sym empty))

pub returns-in-Read-clause-items : goal.returns-in-Read-clause-items
returns-in-Read-clause-items c = λ ss at_places.
    let ks : List Kept = c.args.samples.now.items in
    changed-among read_if ss c.args.access.now.found.items ks c.mark_read.new.samples.items
    (subst (λ (cs : List Candidate). AreChanged read_if cs ks c.mark_read.new.samples.items) c.deref.ensures.value
    c.mark_read.ensures.items) at_places
    ∙ sym (ap (λ (kind : AccessKind). settled kind ss ks) c.in-Read.is)

pub returns-in-Take-clause-items : goal.returns-in-Take-clause-items
returns-in-Take-clause-items c = λ ss at_places.
    let ks : List Kept = c.args.samples.now.items in
    changed-among out_if ss c.args.access.now.found.items ks c.take_out.new.samples.items
    (subst (λ (cs : List Candidate). AreChanged out_if cs ks c.take_out.new.samples.items) c.deref-in-Take.ensures.value
    c.take_out.ensures.items) at_places
    ∙ sym (ap (λ (kind : AccessKind). settled kind ss ks) c.in-Take.is)

pub returns-in-Take-clause-delivered : goal.returns-in-Take-clause-delivered
returns-in-Take-clause-delivered c = λ apart gathered.
    let ks : List Kept = c.args.samples.now.items in
    c.take_out.ensures.taken (subst AreApart (sym c.deref-in-Take.ensures.value) apart)
    (gathered ∙ (ap (λ (kind : AccessKind). collected kind ks c.args.access.now.found.items) c.in-Take.is
    ∙ ap (λ (cs : List Candidate). collected Take ks cs) (sym c.deref-in-Take.ensures.value)))
    ∙ ap (λ (cs : List Candidate). collected Read ks cs) c.deref-in-Take.ensures.value
