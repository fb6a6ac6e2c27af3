-- Whether an access picks anything is seen of what is kept, and how one is then answered.
use Rattle.std.proofs.Common.{◌≡◌, ◌≢◌, ℕ, zero, suc, ◌≤◌, ◌-◌, ◌^◌, List, [], ◌∷◌, length, take, filter, Bool, true, false, ◌&&◌, ◌||◌, ◌==◌, sym, ap, ◌∙◌, refl, subst, cond, arith, ⊎_elim, ◌⊎◌, None}
use Rattle.std.specs.Prelude.{nat_lt, if◌then◌else◌, ℤ, pos, negsuc, is_some, Result, Ok, Err, IfErr}
use Rattle.std.specs.Result.{IsErr}
use Rattle.std.specs.List.{list_any, All}
use Rattle.std.proofs.lemmas.Bool.{cases_Bool, and_parts, and_right}
use Rattle.std.proofs.lemmas.Bool.Decides.{nat_tests}
use Rattle.std.proofs.lemmas.List.Elements.{All-nil, All-weaker}
use Rattle.std.proofs.lemmas.List.Folds.{list_any_none}
use Rattle.dds_base.specs.declared.code.Code.{Code}
use Rattle.dds_base.specs.declared.code.Code.TheVariants.{Memory, NoData}
use Rattle.dds_base.specs.declared.key.Key.{Key}
use Rattle.dds_base.specs.declared.happening.SamplePosition.{SamplePosition}
use Rattle.dds_base.specs.declared.happening.Happening.{Happening}
use Rattle.dds_base.specs.declared.mask.Masks.{Masks}
use Rattle.dds_base.specs.declared.qos.ReaderQos.{ReaderQos}
use Rattle.dds_base.specs.declared.selection.Selection.{Selection}
use Rattle.dds_base.specs.declared.selection.Selection.TheVariants.{Any, Instance, NextInstance, NextSample}
use Rattle.dds_base.specs.declared.sample.Sample.{Sample}
use Rattle.dds_base.specs.Access.{at_most, collection_of, matching_samples, handle_of, next_handle, instance_of}
use Rattle.dds_base.specs.Checked.{is_maximum, limit_of}
use Rattle.dds_base.specs.Presence.{present_samples}
use Rattle.dds_base.specs.Refusal.{Refuses}
use Rattle.dds_base.specs.Selection.{picked_by, selection_refusal, unless_bad}
use Rattle.dds_instances.specs.Known.{IsReturnable}
use Rattle.dds_instances.specs.Table.{Table}
use Rattle.dds_instances.proofs.RiseLaws.{handle-bounds}
use Rattle.dds_cache.specs.declared.access.Candidate.{Candidate}
use Rattle.dds_cache.specs.declared.collection.Access.{Access}
use Rattle.dds_cache.specs.declared.kept.Kept.{Kept}
use Rattle.dds_cache.specs.Kept.{IsKept}
use Rattle.dds_cache.specs.declared.access_kind.AccessKind.{AccessKind}
use Rattle.dds_cache.specs.Finding.{AreApart, Holds, IsCandidate, asks_for, is_asked_for, is_sought, passes}
use Rattle.dds_cache.specs.Picking.{IsAccess, collected, Picks, TellsAny, masks_in, test_in}
use Rattle.dds_cache.specs.Standing.{AccessAnswers, Stored, picked, qos_of, refusal}
use Rattle.dds_cache.specs.Twice.{first_of}
use Rattle.dds_cache.proofs.CountLaws.{present-any}
use Rattle.dds_cache.proofs.GroupLaws.{unequal}

-- ---- some of those that pass

any-filter : (p a : SamplePosition → Bool) (ss : List SamplePosition)
    → list_any (λ s. a s && p s) ss ≡ list_any a (filter p ss)
any-filter p a [] = refl
any-filter p a (s ∷ ss) = one (p s) p a s ss (any-filter p a ss)
  where
    and-true : (b : Bool) → (b && true) ≡ b
    and-true true = refl
    and-true false = refl

    one : (b : Bool) (p a : SamplePosition → Bool) (s : SamplePosition) (ss : List SamplePosition)
        → list_any (λ s. a s && p s) ss ≡ list_any a (filter p ss)
        → ((a s && b) || list_any (λ s. a s && p s) ss) ≡ list_any a (cond b (s ∷ filter p ss) (filter p ss))
    one true p a s ss rest =
        ap (λ (b : Bool). b || list_any (λ s. a s && p s) ss) (and-true (a s)) ∙ ap (λ (b : Bool). a s || b) rest
    one false p a s ss rest = ap (λ (b : Bool). b || list_any (λ s. a s && p s) ss) (and_right (a s) false refl) ∙ rest

tells-filter : (p : SamplePosition → Bool) (ss : List SamplePosition) → TellsAny (list_any p ss) (filter p ss)
tells-filter p [] = refl
tells-filter p (s ∷ ss) = one (p s) p s ss (tells-filter p ss)
  where
    one : (b : Bool) (p : SamplePosition → Bool) (s : SamplePosition) (ss : List SamplePosition)
        → TellsAny (list_any p ss) (filter p ss)
        → TellsAny (b || list_any p ss) (cond b (s ∷ filter p ss) (filter p ss))
    one true p s ss rest = λ e. absurd cc
    one false p s ss rest = rest

tells-all : (ss : List SamplePosition) → TellsAny (list_any (λ s. true) ss) ss
tells-all [] = refl
tells-all (s ∷ ss) = λ e. absurd cc

-- ---- the next instance

or-true : (a b : Bool) → b ≡ true → (a || b) ≡ true
or-true true b e = refl
or-true false b e = e

equal : (n m : ℕ) → n ≡ m → (n == m) ≡ true
equal n m e = grind arith

next-some : (q : ReaderQos) (h : List Happening) (n : ℕ) (ss : List SamplePosition)
    → list_any (λ s. nat_lt n (handle_of q h s.key)) ss ≡ true
    → list_any (λ s. handle_of q h s.key == next_handle q h n ss) ss ≡ true
next-some q h n [] e = absurd (let clash : false ≡ true = e in cc)
next-some q h n (s ∷ ss) e =
    ⊎_elim
    (λ above. let is : next_handle q h n (s ∷ ss) ≡ handle_of q h s.key =
    ap (λ (b : Bool). if b then handle_of q h s.key else next_handle q h n ss) above in
    ap (λ (b : Bool). b || list_any (λ x. handle_of q h x.key == next_handle q h n (s ∷ ss)) ss)
    (equal (handle_of q h s.key) (next_handle q h n (s ∷ ss)) (sym is)))
    (λ below. let is : next_handle q h n (s ∷ ss) ≡ next_handle q h n ss =
    ap (λ (b : Bool). if b then handle_of q h s.key else next_handle q h n ss) below in
    or-true (handle_of q h s.key == next_handle q h n (s ∷ ss))
    (list_any (λ x. handle_of q h x.key == next_handle q h n (s ∷ ss)) ss)
    (ap (λ (m : ℕ). list_any (λ x. handle_of q h x.key == m) ss) is
    ∙ next-some q h n ss
    (sym (ap (λ (b : Bool). b || list_any (λ x. nat_lt n (handle_of q h x.key)) ss) below) ∙ e)))
    (cases_Bool (nat_lt n (handle_of q h s.key)))

or-false : (a b : Bool) → (a || b) ≡ false → (a ≡ false) × (b ≡ false)
or-false true b e = absurd cc
or-false false b e = (refl, e)

next-none : (q : ReaderQos) (h : List Happening) (n : ℕ) (ss : List SamplePosition)
    → list_any (λ s. nat_lt n (handle_of q h s.key)) ss ≡ false → next_handle q h n ss ≡ 0
next-none q h n [] e = refl
next-none q h n (s ∷ ss) e =
    let parts = or-false (nat_lt n (handle_of q h s.key)) (list_any (λ x. nat_lt n (handle_of q h x.key)) ss) e in
    ap (λ (b : Bool). if b then handle_of q h s.key else next_handle q h n ss) parts.0
    ∙ next-none q h n ss parts.1

tells-next : (q : ReaderQos) (h : List Happening) (n : ℕ) (ss : List SamplePosition)
    → list_any (λ s. handle_of q h s.key == 0) ss ≡ false
    → TellsAny (list_any (λ s. nat_lt n (handle_of q h s.key)) ss)
    (filter (λ s. handle_of q h s.key == next_handle q h n ss) ss)
tells-next q h n ss positive =
    let same : list_any (λ s. handle_of q h s.key == next_handle q h n ss) ss
    ≡ list_any (λ s. nat_lt n (handle_of q h s.key)) ss =
    ⊎_elim
    (λ some. next-some q h n ss some ∙ sym some)
    (λ none. ap (λ (m : ℕ). list_any (λ s. handle_of q h s.key == m) ss) (next-none q h n ss none)
    ∙ (positive ∙ sym none))
    (cases_Bool (list_any (λ s. nat_lt n (handle_of q h s.key)) ss)) in
    subst (λ (b : Bool). TellsAny b (filter (λ s. handle_of q h s.key == next_handle q h n ss) ss)) same
    (tells-filter (λ s. handle_of q h s.key == next_handle q h n ss) ss)

-- ---- so many at most

taken : (n : ℕ) (b : Bool) (ss : List SamplePosition) → TellsAny b ss → TellsAny b (take (suc n) ss)
taken n true [] t = λ e. t refl
taken n true (s ∷ ss) t = λ e. absurd cc
taken n false [] t = refl
taken n false (s ∷ ss) t = absurd cc

limited : (max : ℤ) (b : Bool) (ss : List SamplePosition) → is_maximum max ≡ true → TellsAny b ss
    → TellsAny b (at_most (limit_of max) ss)
limited (pos zero) b ss good t = absurd (let clash : false ≡ true = good in cc)
limited (pos (suc n)) b ss good t = taken n b ss t
limited (negsuc n) b ss good t = t

unless-good : (b : Bool) → unless_bad b ≡ None → b ≡ true
unless-good true e = refl
unless-good false e = absurd cc

-- what an access picks of those that match, and whether that is anything
picks-some : (q : ReaderQos) (h : List Happening) (selection : Selection) (test : Key → List ℕ → Bool)
    → selection_refusal q h selection ≡ None
    → list_any (λ s. handle_of q h s.key == 0) (matching_samples q h (masks_in selection) (test_in selection test))
    ≡ false
    → TellsAny (list_any (λ s. asks_for selection (handle_of q h s.key))
    (matching_samples q h (masks_in selection) (test_in selection test))) (picked_by q h selection test)
picks-some q h (Any max masks) test good positive =
    limited max _ (matching_samples q h masks test) (unless-good (is_maximum max) good)
    (tells-all (matching_samples q h masks test))
picks-some q h (Instance handle max masks) test good positive =
    limited max _ (filter (λ (s : SamplePosition). handle_of q h s.key == handle) (matching_samples q h masks test))
    (and_parts (is_maximum max) (is_some (instance_of q h handle))
    (unless-good (is_maximum max && is_some (instance_of q h handle)) good)).0
    (tells-filter (λ s. handle_of q h s.key == handle) (matching_samples q h masks test))
picks-some q h (NextInstance previous max masks) test good positive =
    limited max _
    (filter (λ (s : SamplePosition). handle_of q h s.key
    == next_handle q h previous (matching_samples q h masks test)) (matching_samples q h masks test))
    (unless-good (is_maximum max) good) (tells-next q h previous (matching_samples q h masks test) positive)
picks-some q h NextSample test good positive =
    let ss : List SamplePosition = matching_samples q h (masks_in NextSample) (test_in NextSample test) in
    taken 0 _ ss (tells-all ss)

-- ---- and of those that are kept

and-false : (a b c : Bool) → b ≡ false → (a && (b && c)) ≡ false
and-false a true c e = absurd cc
and-false true false c e = refl
and-false false false c e = refl

-- each sample that matches is of a known instance
positive : (q : ReaderQos) (table : Table) (h : List Happening) (masks : Masks) (test : Key → List ℕ → Bool)
    (ks : List Kept) → Holds q table ks h
    → list_any (λ s. handle_of q h s.key == 0) (matching_samples q h masks test) ≡ false
positive q table h masks test ks holds =
    let nil : SamplePosition → Bool = λ s. (handle_of q h s.key == 0) && is_asked_for q h masks test s in
    sym (any-filter (is_asked_for q h masks test) (λ s. handle_of q h s.key == 0) (present_samples q h))
    ∙ (present-any q h nil ks holds.each holds.present
    ∙ list_any_none (passes q h nil) ks
    (All-weaker (IsKept q h) (λ (k : Kept). passes q h nil k ≡ false)
    (λ k kept. let known = handle-bounds q h k.sample.key kept.is_known in
    and-false _ (handle_of q h k.sample.key == 0) (is_asked_for q h masks test k.sample)
    (unequal (handle_of q h k.sample.key) 0 (λ same. omega (arith, same, known.0)))) ks holds.each))

-- whether a sample is sought among the present ones tells whether an access picks anything
pub tells-picked : (q : ReaderQos) (table : Table) (h : List Happening) (selection : Selection)
    (test : Key → List ℕ → Bool) (ks : List Kept) (some : Bool) (masks : Masks) (asked : Key → List ℕ → Bool)
    → Holds q table ks h → selection_refusal q h selection ≡ None
    → some ≡ list_any (is_sought q h selection masks asked) (present_samples q h)
    → masks_in selection ≡ masks → test_in selection test ≡ asked → TellsAny some (picked_by q h selection test)
tells-picked q table h selection test ks some masks asked holds good is masked tested =
    subst (λ (b : Bool). TellsAny b (picked_by q h selection test))
    (sym (is
    ∙ (ap (λ (m : Masks). list_any (is_sought q h selection m asked) (present_samples q h)) (sym masked)
    ∙ (ap (λ (t : Key → List ℕ → Bool). list_any (is_sought q h selection (masks_in selection) t) (present_samples q h))
    (sym tested)
    ∙ any-filter (is_asked_for q h (masks_in selection) (test_in selection test))
    (λ s. asks_for selection (handle_of q h s.key)) (present_samples q h)))))
    (picks-some q h selection test good
    (positive q table h (masks_in selection) (test_in selection test) ks holds))

-- where no sample is sought among the present ones, an access that is not refused picks none of those that are kept
pub picks-none : (q : ReaderQos) (table : Table) (h : List Happening) (selection : Selection)
    (test : Key → List ℕ → Bool) (ks : List Kept) (masks : Masks) → Holds q table ks h
    → selection_refusal q h selection ≡ None → masks_in selection ≡ masks
    → list_any (is_sought q h selection masks (test_in selection test)) (present_samples q h) ≡ false
    → Picks q h selection test ks []
picks-none q table h selection test ks masks holds good masked unsought = record {
  good = good;
  samples_are =
      sym (tells-picked q table h selection test ks false masks (test_in selection test) holds good (sym unsought)
      masked refl);
  each = All-nil (IsCandidate q h ks);
}

-- ---- the answer

-- no access is refused for want of data, nor for want of memory, but by memory
bad-alone : (b : Bool) (code : Code) → Refuses (unless_bad b) code → (code ≡ NoData → ⊥)
bad-alone true code is = λ e. absurd cc
bad-alone false code is = λ e. absurd cc

unasked : (b : Bool) → Refuses (unless_bad b) Memory → unless_bad b ≡ None
unasked true is = refl
unasked false is = absurd cc

-- one that wants memory has no other cause
pub want-alone : (q : ReaderQos) (h : List Happening) (selection : Selection)
    → Refuses (selection_refusal q h selection) Memory → selection_refusal q h selection ≡ None
want-alone q h (Any max masks) is = unasked (is_maximum max) is
want-alone q h (Instance handle max masks) is =
    unasked (is_maximum max && is_some (instance_of q h handle)) is
want-alone q h (NextInstance previous max masks) is = unasked (is_maximum max) is
want-alone q h NextSample is = refl

-- a refusal is not NO_DATA
not-data : (q : ReaderQos) (h : List Happening) (selection : Selection) (code : Code)
    → Refuses (selection_refusal q h selection) code → code ≡ NoData → ⊥
not-data q h (Any max masks) code is = bad-alone (is_maximum max) code is
not-data q h (Instance handle max masks) code is =
    bad-alone (is_maximum max && is_some (instance_of q h handle)) code is
not-data q h (NextInstance previous max masks) code is = bad-alone (is_maximum max) code is
not-data q h NextSample code is = λ e. absurd cc

-- a refusal answers an access
pub refused-answers : (stored : Stored) (h : List Happening) (selection : Selection) (test : Key → List ℕ → Bool)
    (code : Code) → Refuses (refusal stored h selection) code
    → (code ≡ Memory → (picked stored h selection test ≢ []) ⊎ (2 ^ 64 - 1 ≤ length h))
    → AccessAnswers stored h selection test (Err code)
refused-answers stored h selection test NoData is memory =
    absurd (not-data (qos_of stored) h selection NoData is refl)
refused-answers stored h selection test code is memory = (is, memory)

-- so does one that is handed on
pub refused-so : (stored : Stored) (h : List Happening) (selection : Selection) (test : Key → List ℕ → Bool)
    (answer : Result (List Sample) Code) (code : Code) → IsErr answer → IfErr answer (λ e. e ≡ code)
    → Refuses (refusal stored h selection) code
    → (code ≡ Memory → (picked stored h selection test ≢ []) ⊎ (2 ^ 64 - 1 ≤ length h))
    → AccessAnswers stored h selection test answer
refused-so stored h selection test (Ok samples) code err same is memory = absurd (let clash : false ≡ true = err in cc)
refused-so stored h selection test (Err e) code err same is memory =
    refused-answers stored h selection test e
    (subst (λ (x : Code). Refuses (refusal stored h selection) x) (sym same) is) (λ want. memory (sym same ∙ want))

-- so does one that is handed on, where two were asked for
pub refused-twice : (stored : Stored) (h : List Happening) (selection : Selection) (test : Key → List ℕ → Bool)
    (answer : Result (List Sample × List Sample) Code) (code : Code) → IsErr answer → IfErr answer (λ e. e ≡ code)
    → Refuses (refusal stored h selection) code
    → (code ≡ Memory → (picked stored h selection test ≢ []) ⊎ (2 ^ 64 - 1 ≤ length h))
    → AccessAnswers stored h selection test (first_of answer)
refused-twice stored h selection test (Ok samples) code err same is memory =
    absurd (let clash : false ≡ true = err in cc)
refused-twice stored h selection test (Err e) code err same is memory =
    refused-answers stored h selection test e
    (subst (λ (x : Code). Refuses (refusal stored h selection) x) (sym same) is) (λ want. memory (sym same ∙ want))

-- one that finds nothing
pub nothing-found : (kind : AccessKind) (q : ReaderQos) (h : List Happening) (selection : Selection) (test : Key → List ℕ → Bool)
    (ks : List Kept) (access : Access) → access.positions.items ≡ [] → access.found.items ≡ []
    → access.samples.items ≡ [] → selection_refusal q h selection ≡ None → picked_by q h selection test ≡ []
    → IsAccess kind q h selection test ks access
nothing-found kind q h selection test ks access no_positions no_candidates no_samples good none = record {
  good = good;
  positions_are = no_positions ∙ sym none;
  collection_is = no_samples ∙ sym (ap (λ (cs : List Candidate). collected kind ks cs) no_candidates);
  found = record {
    returnable =
        subst (λ (ss : List SamplePosition). All (IsReturnable q h) ss) (sym no_positions) (All-nil (IsReturnable q h));
    candidates =
        subst (λ (xs : List Candidate). All (IsCandidate q h ks) xs) (sym no_candidates)
        (All-nil (IsCandidate q h ks));
  };
  apart = subst AreApart (sym no_candidates) (λ at. grind arith);
}

-- the answer of an access that was entered is by how many samples there are
pub answered-so : (stored : Stored) (h : List Happening) (selection : Selection) (test : Key → List ℕ → Bool)
    (positions : List SamplePosition) (samples : List Sample) (answer : Result (List Sample) Code)
    → refusal stored h selection ≡ None → positions ≡ picked stored h selection test
    → samples ≡ collection_of (qos_of stored) h positions
    → answer ≡ (if length positions == 0 then Err NoData else Ok samples) → AccessAnswers stored h selection test answer
answered-so stored h selection test [] samples answer good positions_are samples_are answer_is =
    subst (λ (a : Result (List Sample) Code). AccessAnswers stored h selection test a) (sym answer_is)
    (good, sym positions_are)
answered-so stored h selection test (s ∷ ss) samples answer good positions_are samples_are answer_is =
    subst (λ (a : Result (List Sample) Code). AccessAnswers stored h selection test a)
    (sym (answer_is ∙ ap (λ (b : Bool). if b then Err NoData else Ok samples) (several s ss))) (
      good,
      (λ none. some s ss (positions_are ∙ none)),
      samples_are ∙ ap (λ (xs : List SamplePosition). collection_of (qos_of stored) h xs) positions_are,
    )
  where
    some : (s : SamplePosition) (ss : List SamplePosition) → s ∷ ss ≡ [] → ⊥
    some s ss e = absurd cc

    several : (s : SamplePosition) (ss : List SamplePosition) → (length (s ∷ ss) == 0) ≡ false
    several s ss = grind (arith, nat_tests)
