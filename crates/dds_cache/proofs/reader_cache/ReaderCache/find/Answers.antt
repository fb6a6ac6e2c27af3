use Rattle.std.proofs.Common.{List, ◌≡◌, ◌≢◌, sym, subst, ap, ◌∙◌, map, arith, Option, None, [], ◌∷◌, length, refl}
use Rattle.dds_base.specs.declared.happening.Happening.{Happening}
use Rattle.dds_base.specs.declared.qos.ReaderQos.{ReaderQos}
use Rattle.dds_cache.specs.declared.kept.Kept.{Kept}
use Rattle.dds_cache.specs.declared.access.Candidate.{Candidate}
use Rattle.dds_cache.specs.Finding.{Holds, sample_in}
use Rattle.dds_cache.specs.Picking.{Picks, IsAccess, IsGathered, collected}
use Rattle.dds_cache.specs.Standing.{Stored, StandsFor, picked, qos_of}
use Rattle.dds_cache.specs.Sound.{stored_of}
use Rattle.std.specs.Prelude.{Result, Ok, Err, IfOk}
use Rattle.std.proofs.lemmas.Bool.Decides.{nat_tests}
use Rattle.std.proofs.lemmas.Result.{IfErr-weaker}
use Rattle.dds_base.specs.declared.code.Code.{Code}
use Rattle.dds_base.specs.declared.code.Code.TheVariants.{Memory}
use Rattle.dds_base.specs.Refusal.{Refuses}
use Rattle.dds_base.specs.Selection.{selection_refusal}
use Rattle.dds_cache.proofs.AnyLaws.{nothing-found}
use Rattle.dds_cache.proofs.StandingLaws.{holds, accessed}
use Rattle.dds_cache.proofs.reader_cache.ReaderCache.find.Goals as goal

pub returns-clause-refused : goal.returns-clause-refused
returns-clause-refused g c =
    IfErr-weaker c.gather.result (λ (e : Code). e ≡ Memory)
    (λ (e : Code). (h : List Happening) → StandsFor c.args.self.now h
    → Refuses (selection_refusal (qos_of c.args.self.now) h c.args.selection) e)
    (λ e is h stands.
    let old : StandsFor (stored_of c.self.inside) h =
    subst (λ (t : Stored). StandsFor t h) (sym c.self.view_is) stands in
    let holding : Holds c.self.inside.qos c.self.inside.instances c.deref.result.now h =
    subst (λ (xs : List Kept). Holds c.self.inside.qos c.self.inside.instances xs h) (sym c.deref.ensures.value)
    (holds (stored_of c.self.inside) h old) in
    let picks : Picks c.self.inside.qos h c.args.selection
    (g.T.Test.meaning c.args.test.now) c.deref.result.now c.in-Ok.found.items = c.in-Ok.ensures.picks h
    holding in
    let good : selection_refusal (qos_of c.args.self.now) h c.args.selection ≡ None =
    subst (λ (t : Stored). selection_refusal t.qos h c.args.selection ≡ None) c.self.view_is picks.good in
    subst (λ (cause : Option Code). Refuses cause e) (sym good) is)
    c.gather.ensures.memory

-- a list that is empty
no-items : (cs : List Candidate) → length cs ≡ 0 → cs ≡ []
no-items [] e = refl
no-items (c ∷ cs) e = absurd (omega (arith, e))

pub returns-then-is_empty-clause-found : goal.returns-then-is_empty-clause-found
returns-then-is_empty-clause-found g c = λ h stands.
    let q : ReaderQos = c.self.inside.qos in
    let old : StandsFor (stored_of c.self.inside) h =
    subst (λ (t : Stored). StandsFor t h) (sym c.self.view_is) stands in
    let holding : Holds q c.self.inside.instances c.deref.result.now h =
    subst (λ (xs : List Kept). Holds q c.self.inside.instances xs h) (sym c.deref.ensures.value)
    (holds (stored_of c.self.inside) h old) in
    let picks : Picks q h c.args.selection (g.T.Test.meaning c.args.test.now) c.deref.result.now
    c.in-Ok.found.items = c.in-Ok.ensures.picks h holding in
    let none : length c.in-Ok.found.items ≡ 0 =
    grind (arith, nat_tests, c.in-Ok.found.ok.0, c.is_empty.ensures, c.if-is_empty.true) in
    let empty : c.in-Ok.found.items ≡ [] = no-items c.in-Ok.found.items none in
    subst (λ (t : Stored). IsAccess c.args.kind t.qos h c.args.selection (g.T.Test.meaning c.args.test.now) t.samples
    c.nothing.result) c.self.view_is
    (nothing-found c.args.kind q h c.args.selection (g.T.Test.meaning c.args.test.now) c.self.inside.samples.items
    c.nothing.result c.nothing.ensures.positions c.nothing.ensures.found c.nothing.ensures.samples picks.good
    (sym picks.samples_are ∙ ap (λ (cs : List Candidate). map sample_in cs) empty))

-- what is so of a result by three things that are so of it
by-three : {A B : Type 0} (r : Result A B) (P Q R S : A → Type 0) → IfOk r P → IfOk r Q → IfOk r R
    → ((a : A) → P a → Q a → R a → S a) → IfOk r S
by-three (Ok a) P Q R S p q r f = f a p q r
by-three (Err e) P Q R S p q r f = tt

pub returns-clause-found : goal.returns-clause-found
returns-clause-found g c =
    let q : ReaderQos = c.self.inside.qos in
    let ks : List Kept = c.self.inside.samples.items in
    let cs : List Candidate = c.in-Ok.found.items in
    by-three c.gather.result (λ access. access.found.items ≡ cs) (IsGathered (length c.deref-2.result.now))
    (λ access. access.samples.items ≡ collected c.args.kind c.deref-2.result.now cs)
    (λ access. (h : List Happening) → StandsFor c.args.self.now h
    → IsAccess c.args.kind (qos_of c.args.self.now) h c.args.selection (g.T.Test.meaning c.args.test.now)
    c.args.self.now.samples access)
    c.gather.ensures.found c.gather.ensures.gathered c.gather.ensures.samples
    (λ access same gathered samples h stands.
    let old : StandsFor (stored_of c.self.inside) h =
    subst (λ (t : Stored). StandsFor t h) (sym c.self.view_is) stands in
    let holding : Holds q c.self.inside.instances c.deref.result.now h =
    subst (λ (xs : List Kept). Holds q c.self.inside.instances xs h) (sym c.deref.ensures.value)
    (holds (stored_of c.self.inside) h old) in
    let picks : Picks q h c.args.selection (g.T.Test.meaning c.args.test.now) ks cs =
    subst (λ (xs : List Kept). Picks q h c.args.selection (g.T.Test.meaning c.args.test.now) xs cs)
    c.deref.ensures.value (c.in-Ok.ensures.picks h holding) in
    subst (λ (t : Stored). IsAccess c.args.kind t.qos h c.args.selection (g.T.Test.meaning c.args.test.now) t.samples
    access) c.self.view_is
    (accessed c.args.kind (stored_of c.self.inside) h c.args.selection
    (g.T.Test.meaning c.args.test.now) cs access old picks same gathered.same
    (samples ∙ ap (λ (xs : List Kept). collected c.args.kind xs cs) c.deref-2.ensures.value)))

-- nothing is found of which nothing is picked
found-of-none : (cs : List Candidate) → map sample_in cs ≡ [] → length cs ≡ 0
found-of-none [] none = refl
found-of-none (c ∷ cs) none = absurd cc

pub returns-clause-some : goal.returns-clause-some
returns-clause-some g c =
    IfErr-weaker c.gather.result (λ (e : Code). e ≡ Memory)
    (λ (e : Code). (h : List Happening) → StandsFor c.args.self.now h → e ≡ Memory
    → picked c.args.self.now h c.args.selection (g.T.Test.meaning c.args.test.now) ≢ [])
    (λ e is h stands want.
    let old : StandsFor (stored_of c.self.inside) h =
    subst (λ (t : Stored). StandsFor t h) (sym c.self.view_is) stands in
    let holding : Holds c.self.inside.qos c.self.inside.instances c.deref.result.now h =
    subst (λ (xs : List Kept). Holds c.self.inside.qos c.self.inside.instances xs h) (sym c.deref.ensures.value)
    (holds (stored_of c.self.inside) h old) in
    let picks : Picks c.self.inside.qos h c.args.selection
    (g.T.Test.meaning c.args.test.now) c.deref.result.now c.in-Ok.found.items = c.in-Ok.ensures.picks h holding in
    subst (λ (t : Stored). picked t h c.args.selection (g.T.Test.meaning c.args.test.now) ≢ []) c.self.view_is
    (λ none.
    let zero : length c.in-Ok.found.items ≡ 0 = found-of-none c.in-Ok.found.items (picks.samples_are ∙ none) in
    let has : ⊥ = grind (arith, nat_tests, c.in-Ok.found.ok.0, c.is_empty.ensures, c.if-is_empty.false, zero) in
    has))
    c.gather.ensures.memory
