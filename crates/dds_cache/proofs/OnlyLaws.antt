-- What a take of the only kept sample picks, returns and leaves.
use Rattle.std.proofs.Common.{◌≡◌, ℕ, zero, suc, List, [], ◌∷◌, length, get_or, map, filter, Bool, true, false, ◌||◌, not, sym, ap, ◌∙◌, refl, subst, cond, arith, inr, Option, None, Some}
use Rattle.std.specs.Prelude.{if◌then◌else◌, nat_lt, pos, negsuc, slice_get, Ok, ℤ}
use Rattle.std.specs.List.{All}
use Rattle.std.proofs.lemmas.List.{take_all}
use Rattle.std.proofs.lemmas.List.Elements.{All-cons, All-head, All-nil}
use Rattle.std.proofs.lemmas.List.Sorted.{IsNonDecreasingBy-short, IsPermutation-refl}
use Rattle.dds_base.specs.declared.key.Key.{Key}
use Rattle.dds_base.specs.declared.happening.SamplePosition.{SamplePosition}
use Rattle.dds_base.specs.declared.happening.Happening.{Happening}
use Rattle.dds_base.specs.declared.happening.Happening.TheVariants.{Took}
use Rattle.dds_base.specs.declared.mask.Masks.{Masks}
use Rattle.dds_base.specs.declared.qos.ReaderQos.{ReaderQos}
use Rattle.dds_base.specs.declared.change.ChangeKind.{ChangeKind}
use Rattle.dds_base.specs.declared.change.ChangeKind.TheVariants.{Write, Dispose, Unregister, DisposeUnregister}
use Rattle.dds_base.specs.declared.sample.InstanceState.TheVariants.{Alive, NotAliveDisposed, NotAliveNoWriters}
use Rattle.dds_base.specs.declared.sample.Picked.{Picked}
use Rattle.dds_base.specs.declared.sample.Sample.{Sample}
use Rattle.dds_base.specs.declared.selection.Selection.{Selection}
use Rattle.dds_base.specs.declared.selection.Selection.TheVariants.{Any, Instance, NextInstance, NextSample}
use Rattle.dds_base.specs.Access.{at_most, collection_of, state_of_known, with_ranks}
use Rattle.dds_base.specs.Checked.{is_maximum, limit_of}
use Rattle.dds_base.specs.Instance.{instance_state_of, known_instances}
use Rattle.dds_base.specs.Life.{is_nobody, last_accepted, state_after}
use Rattle.dds_base.specs.Ownership.{registered_writers}
use Rattle.dds_base.specs.Selection.{picked_by, unless_bad}
use Rattle.dds_info.specs.declared.ranks.Next.{Next}
use Rattle.dds_info.specs.Ranking.{AreTold, StandsBefore}
use Rattle.dds_instances.specs.Known.{IsReturnable}
use Rattle.dds_instances.specs.Table.{Table, Stands, is_any_left}
use Rattle.dds_cache.specs.declared.access.Candidate.{Candidate}
use Rattle.dds_cache.specs.declared.access_kind.AccessKind.{AccessKind}
use Rattle.dds_cache.specs.declared.access_kind.AccessKind.TheVariants.{Read, Take}
use Rattle.dds_cache.specs.declared.kept.Kept.{Kept}
use Rattle.dds_cache.specs.Kept.{IsKept, is_in, taken}
use Rattle.dds_cache.specs.Finding.{AreCandidates, Finds, Holds, IsCandidate, IsFound, handle_in, sample_of}
use Rattle.dds_cache.specs.Only.{HasState, HoldsOnly, IsOnly, IsTakeOfAll, Returns}
use Rattle.dds_cache.specs.Picking.{Picks, value_at}
use Rattle.dds_cache.specs.Standing.{AccessAnswers, Stored, StandsFor, entry_of}
use Rattle.dds_cache.specs.Sweeping.{left_since, stays}
use Rattle.dds_cache.proofs.CollectionLaws.{collected-is}
use Rattle.dds_cache.proofs.FindingLaws.{found-candidate, matched}
use Rattle.dds_cache.proofs.KeptLaws.{kept-stated, some_kept}
use Rattle.dds_cache.proofs.PickLaws.{picked}
use Rattle.dds_cache.proofs.PlaceLaws.{same-sample}
use Rattle.dds_cache.proofs.StandingLaws.{holds, holds-in, holds-took, past-all, stands-entered}

-- a list of one element
pub alone : (ks : List Kept) (k : Kept) → length ks ≡ 1 → k ≡ get_or ks 0 k → ks ≡ k ∷ []
alone [] k one is = absurd (omega (arith, one))
alone (x ∷ []) k one is = ap (λ (y : Kept). y ∷ []) (sym is)
alone (x ∷ y ∷ ks) k one is = absurd (omega (arith, one))

-- ---- what is found and picked

-- where a sample alone is kept and is found, it is all that matches
found-alone : (q : ReaderQos) (table : Table) (h : List Happening) (masks : Masks) (test : Key → List ℕ → Bool)
    (k : Kept) (c : Candidate) → Holds q table (k ∷ []) h → IsFound q h masks test k 0 c
    → Finds q h masks test (k ∷ []) (c ∷ [])
found-alone q table h masks test k c holds found =
    let kept : IsKept q h k = All-head (IsKept q h) k [] holds.each in
    let candidates : AreCandidates q h masks test (k ∷ []) (k ∷ []) (c ∷ []) = record {
      samples_are =
          ap (λ (s : SamplePosition). s ∷ []) found.sample_is
          ∙ sym (ap (λ (b : Bool). map sample_of (cond b (k ∷ []) [])) found.wanted);
      each =
          All-cons (IsCandidate q h (k ∷ [])) c []
          (found-candidate q h masks test (k ∷ []) 0 k c (omega arith) refl kept found)
          (All-nil (IsCandidate q h (k ∷ [])));
    } in
    record {
      samples_are =
          matched q table h masks test (k ∷ []) (c ∷ []) (c ∷ []) holds candidates (IsPermutation-refl (c ∷ []))
          (IsNonDecreasingBy-short handle_in (c ∷ []) (omega arith)) (λ x. refl);
      each = candidates.each;
    }

pub found-only : (q : ReaderQos) (table : Table) (h : List Happening) (masks : Masks) (test : Key → List ℕ → Bool)
    (ks : List Kept) (k : Kept) (c : Candidate) → ks ≡ k ∷ [] → Holds q table ks h → IsFound q h masks test k 0 c
    → Finds q h masks test ks (c ∷ [])
found-only q table h masks test ks k c is holds found =
    subst (λ (xs : List Kept). Finds q h masks test xs (c ∷ [])) (sym is)
    (found-alone q table h masks test k c (subst (λ (xs : List Kept). Holds q table xs h) is holds) found)

-- the instance of a sample that is kept and found has a state, which is said of it
pub found-state : (q : ReaderQos) (h : List Happening) (masks : Masks) (test : Key → List ℕ → Bool) (k : Kept) (at : ℕ)
    (c : Candidate) → IsKept q h k → IsFound q h masks test k at c → HasState q h c
found-state q h masks test k at c kept found = record {
  known = λ none. kept-stated q h k kept
      (sym (ap (λ (s : SamplePosition). instance_state_of q s.key h) found.sample_is) ∙ none);
  state_is =
      ap (λ (p : Picked). p.instance_state) found.picked_is
      ∙ sym (ap (λ (s : SamplePosition). state_of_known (instance_state_of q s.key h)) found.sample_is);
}

-- somebody is registered for an instance that is alive
alive-somebody : (last : Option ChangeKind) (nobody : Bool) → (state_after last nobody ≡ None → ⊥)
    → Alive ≡ state_of_known (state_after last nobody) → nobody ≡ false
alive-somebody None nobody some alive = absurd (some refl)
alive-somebody (Some Write) true some alive = absurd (let clash : Alive ≡ NotAliveNoWriters = alive in cc)
alive-somebody (Some Write) false some alive = refl
alive-somebody (Some Dispose) nobody some alive = absurd (let clash : Alive ≡ NotAliveDisposed = alive in cc)
alive-somebody (Some Unregister) nobody some alive = absurd (let clash : Alive ≡ NotAliveDisposed = alive in cc)
alive-somebody (Some DisposeUnregister) nobody some alive = absurd (let clash : Alive ≡ NotAliveDisposed = alive in cc)

pub alive-stays : (q : ReaderQos) (h : List Happening) (c : Candidate) → HasState q h c
    → c.picked.instance_state ≡ Alive → is_any_left q h (c.sample ∷ []) ≡ false
alive-stays q h c has alive =
    ap (λ (b : Bool). b || false)
    (alive-somebody (last_accepted q c.sample.key h) (is_nobody (registered_writers q c.sample.key h)) has.known
    (sym alive ∙ has.state_is))

-- one is as many as any valid maximum allows
at-most-one : (max : ℤ) (c : Candidate) → is_maximum max ≡ true → c ∷ [] ≡ at_most (limit_of max) (c ∷ [])
at-most-one (pos zero) c valid = absurd (let clash : false ≡ true = valid in cc)
at-most-one (pos (suc n)) c valid = sym (take_all (suc n) (c ∷ []) (omega arith))
at-most-one (negsuc n) c valid = refl

-- a take of all picks it alone
pub picked-only : (q : ReaderQos) (h : List Happening) (kind : AccessKind) (selection : Selection) (masks : Masks)
    (test : Key → List ℕ → Bool) (ks : List Kept) (c : Candidate) → IsTakeOfAll kind selection masks
    → Finds q h masks test ks (c ∷ []) → (kind ≡ Take) × Picks q h selection test ks (c ∷ [])
picked-only q h Take (Any max masks) asked test ks c all finds = (
  refl,
  picked q h (Any max masks) test asked (limit_of max) ks (c ∷ []) (c ∷ []) (c ∷ [])
      (ap (λ (b : Bool). unless_bad b) all.0) refl all.1 finds refl (at-most-one max c all.0),
)
picked-only q h Take (Instance handle max masks) asked test ks c all finds = absurd all
picked-only q h Take (NextInstance previous max masks) asked test ks c all finds = absurd all
picked-only q h Take NextSample asked test ks c all finds = absurd all
picked-only q h Read selection asked test ks c all finds = absurd all

-- the sample of a candidate, with its value, in a collection of it alone
abbrev pub sample_alone : Candidate → List ℕ → Sample
sample_alone c value = record { key = c.sample.key; value = value; info = with_ranks c.picked [] }

-- so it is answered
pub answered-only : (stored : Stored) (h : List Happening) (selection : Selection) (test : Key → List ℕ → Bool)
    (c : Candidate) (value : List ℕ) (samples : List Sample) → c.at ≡ 0
    → value ≡ value_at Read (slice_get stored.samples 0) → samples ≡ sample_alone c value ∷ []
    → Picks stored.qos h selection test stored.samples (c ∷ []) → StandsFor stored h
    → AccessAnswers stored h selection test (Ok samples)
answered-only stored h selection test c value samples at value_is samples_are picks stands = (
  picks.good,
  (λ none. some (picks.samples_are ∙ none)),
  samples_are
      ∙ (ap (λ (v : List ℕ). sample_alone c v ∷ [])
      (value_is ∙ ap (λ (n : ℕ). value_at Read (slice_get stored.samples n)) (sym at))
      ∙ (collected-is stored.qos h stored.samples (c ∷ []) stands.each picks.each
      ∙ ap (λ (ss : List SamplePosition). collection_of stored.qos h ss) picks.samples_are)),
)
  where
    some : c.sample ∷ [] ≡ [] → ⊥
    some e = absurd cc

-- ---- what is left

-- of a sample that is gone nothing is left once those that are gone are swept out
gone-all : (b : Bool) (keep : Kept → Bool) (k : Kept) → is_in k ≡ false
    → [] ≡ filter is_in (if b then filter keep (k ∷ []) else k ∷ [])
gone-all true keep k gone = one (keep k)
  where
    one : (b : Bool) → [] ≡ filter is_in (cond b (k ∷ []) [])
    one true = sym (ap (λ (x : Bool). cond x (k ∷ []) []) gone)
    one false = refl
gone-all false keep k gone = sym (ap (λ (x : Bool). cond x (k ∷ []) []) gone)

-- once the only kept sample was taken, nothing that is kept is what holds
pub holds-none : (q : ReaderQos) (before table : Table) (s : SamplePosition) (ks : List Kept) (h : List Happening)
    → length ks ≡ 1 → HoldsOnly q before s ks h → Stands q table (Took (s ∷ []) ∷ h)
    → Holds q table [] (Took (s ∷ []) ∷ h)
holds-none q before table s [] h one only stands = absurd (omega (arith, one))
holds-none q before table s (k ∷ []) h one only stands =
    let g : List Happening = Took (s ∷ []) ∷ h in
    let n : ℕ = length (known_instances q h) in
    let gone : is_in (taken (s ∷ []) k) ≡ false =
    ap (λ (b : Bool). not ((b || false) || k.is_out)) (same-sample k.sample s (only.first k)) in
    holds-in q table g (left_since q g n (map (taken (s ∷ [])) (k ∷ []))) []
    (inr (gone-all (nat_lt (length (known_instances q g)) n) (stays q g) (taken (s ∷ []) k) gone))
    (holds-took q (s ∷ []) h before table n (k ∷ []) refl stands only.holds)
holds-none q before table s (k ∷ j ∷ ks) h one only stands = absurd (omega (arith, one))

-- it may be returned
pub returnable-only : (q : ReaderQos) (table : Table) (s : SamplePosition) (ks : List Kept) (h : List Happening)
    → length ks ≡ 1 → HoldsOnly q table s ks h → All (IsReturnable q h) (s ∷ [])
returnable-only q table s ks h one only =
    let d : Kept = some_kept s in
    let kept : IsKept q h (get_or ks 0 d) = only.holds.each 0 d (omega (arith, one)) in
    let is : IsReturnable q h (get_or ks 0 d).sample = record { in_past = kept.in_past; is_known = kept.is_known } in
    All-cons (IsReturnable q h) s [] (subst (λ (x : SamplePosition). IsReturnable q h x) (only.first d) is)
    (All-nil (IsReturnable q h))

-- a sample that none follows stands before those that were told
pub stands-alone : (p : Picked) (next : Option Next) → AreTold [] next → StandsBefore p [] next
stands-alone p next told = record {
  told = told;
  sorted = IsNonDecreasingBy-short (λ (x : Picked). x.instance_handle) (p ∷ []) (omega arith);
  few = omega arith;
}

-- ---- a take of it

-- so it is answered, and entered
pub returns-only : (kind : AccessKind) (old new : Stored) (h : List Happening) (selection : Selection)
    (test : Key → List ℕ → Bool) (masks : Masks) (c : Candidate) (value : List ℕ) (samples : List Sample)
    → IsTakeOfAll kind selection masks → length old.samples ≡ 1 → c.at ≡ 0
    → IsOnly old.qos h masks test old.samples c → value ≡ value_at Read (slice_get old.samples 0)
    → samples ≡ sample_alone c value ∷ [] → new.qos ≡ old.qos → new.arrivals ≡ old.arrivals → new.data_at ≡ None
    → (HoldsOnly old.qos old.instances c.sample old.samples h
    → Holds old.qos new.instances new.samples (Took (c.sample ∷ []) ∷ h))
    → StandsFor old h → Returns kind old h selection test samples new
returns-only kind old new h selection test masks c value samples all one at only value_is samples_are qos counted lowered
    taken_up stands =
    let q : ReaderQos = old.qos in
    let ks : List Kept = old.samples in
    let is = picked-only q h kind selection masks test ks c all only.finds in
    let picks : Picks q h selection test ks (c ∷ []) = is.1 in
    let here : HoldsOnly q old.instances c.sample ks h = record {
      holds = holds old h stands;
      first = λ d.
          ap (λ (n : ℕ). (get_or ks n d).sample) (sym at)
          ∙ (All-head (IsCandidate q h ks) c [] picks.each).there d;
      registered = only.registered;
    } in
    let entered : StandsFor new (entry_of Take (c.sample ∷ []) ∷ h) =
    stands-entered Take (c.sample ∷ []) h old new qos counted lowered
    (past-all q h (c.sample ∷ []) (returnable-only q old.instances c.sample ks h one here))
    (subst (λ (r : ReaderQos). Holds r new.instances new.samples (Took (c.sample ∷ []) ∷ h)) (sym qos) (taken_up here))
    stands in
    record {
      answer = answered-only old h selection test c value samples at value_is samples_are picks stands;
      after =
          subst (λ (k : AccessKind). StandsFor new (entry_of k (picked_by q h selection test) ∷ h)) (sym is.0)
          (subst (λ (ss : List SamplePosition). StandsFor new (entry_of Take ss ∷ h)) picks.samples_are entered);
    }
