-- What is known of the kept samples together stays right as one is added, read and taken.
use Rattle.std.proofs.Common.{◌≡◌, ℕ, ◌+◌, ◌≤◌, ◌<◌, List, [], ◌∷◌, ◌++◌, length, get_or, set, Bool, true, false, not, ◌&&◌, cond, sym, ap, subst, ◌∙◌, refl, ◌-◌, arith, ⊎_elim}
use Rattle.std.specs.Prelude.{if◌then◌else◌}
use Rattle.std.specs.List.{All, count_by}
use Rattle.std.proofs.lemmas.Bool.{cases_Bool}
use Rattle.std.proofs.lemmas.List.Sums.{count_by-le-length, get_or-le-sum_by, sum_by-cons, sum_by-set, sum_by_push}
use Rattle.std.proofs.lemmas.List.Elements.{All-cons, All-head, All-nil, All-tail, All-weaker}
use Rattle.dds_base.specs.declared.mask.SampleStateMask.{SampleStateMask}
use Rattle.dds_base.specs.declared.sample.SampleState.TheVariants.{Read as HasBeenRead, NotRead}
use Rattle.dds_base.specs.Access.{asks_for_sample_state}
use Rattle.dds_cache.specs.Chains.{AreChainsOf}
use Rattle.dds_cache.specs.declared.chains.Chains.{Chains}
use Rattle.dds_cache.specs.declared.summary.Summary.{Summary}
use Rattle.dds_cache.specs.declared.kept.Kept.{Kept}
use Rattle.dds_cache.proofs.ChainLaws.{chains-set}
use Rattle.dds_cache.specs.Kept.{IsSummary, IsUnasked, has_data, is_in, out_if, read_if, was_read, is_gone}

-- a sample was read, or is gone, or neither
at-most : (out read : Bool) → cond {A = ℕ} (not out && read) 1 0 + cond out 1 0 ≤ 1
at-most true read = omega arith
at-most false true = omega arith
at-most false false = omega arith

-- no more were read, or are gone, than there are
few-counted : (ks : List Kept) → count_by was_read ks + count_by is_gone ks ≤ length ks
few-counted [] = grind arith
few-counted (k ∷ ks) =
    let reads : count_by was_read (k ∷ ks) ≡ cond (was_read k) 1 0 + count_by was_read ks =
    sum_by-cons (λ x. cond (was_read x) 1 0) k ks in
    let outs : count_by is_gone (k ∷ ks) ≡ cond (is_gone k) 1 0 + count_by is_gone ks =
    sum_by-cons (λ x. cond (is_gone x) 1 0) k ks in
    let few = few-counted ks in
    let one : cond {A = ℕ} (not k.is_out && k.is_read) 1 0 + cond k.is_out 1 0 ≤ 1 = at-most k.is_out k.is_read in
    omega (arith, reads, outs, few, one)

-- where as many were read, or are gone, as there are, each of the others was read
all-counted : (ks : List Kept) → length ks ≤ count_by was_read ks + count_by is_gone ks
    → All (λ (k : Kept). k.is_out ≡ false → k.is_read ≡ true) ks
all-counted [] many = All-nil (λ (k : Kept). k.is_out ≡ false → k.is_read ≡ true)
all-counted (k ∷ ks) many =
    let reads : count_by was_read (k ∷ ks) ≡ cond (was_read k) 1 0 + count_by was_read ks =
    sum_by-cons (λ x. cond (was_read x) 1 0) k ks in
    let outs : count_by is_gone (k ∷ ks) ≡ cond (is_gone k) 1 0 + count_by is_gone ks =
    sum_by-cons (λ x. cond (is_gone x) 1 0) k ks in
    let few = few-counted ks in
    ⊎_elim
    (λ was. All-cons (λ (x : Kept). x.is_out ≡ false → x.is_read ≡ true) k ks (λ stays. was)
    (all-counted ks (omega (arith, reads, outs, many, at-most k.is_out k.is_read))))
    (λ unread. ⊎_elim
    (λ out. All-cons (λ (x : Kept). x.is_out ≡ false → x.is_read ≡ true) k ks
    (λ stays. absurd (let clash : true ≡ false = sym out ∙ stays in cc))
    (all-counted ks (omega (arith, reads, outs, many, at-most k.is_out k.is_read))))
    (λ stays. let none : cond {A = ℕ} (not k.is_out && k.is_read) 1 0 + cond k.is_out 1 0 ≡ 0 =
    ap (λ (b : Bool). cond {A = ℕ} (not b && k.is_read) 1 0 + cond b 1 0) stays
    ∙ ap (λ (b : Bool). cond {A = ℕ} b 1 0 + 0) unread in
    absurd (omega (arith, reads, outs, many, few, none)))
    (cases_Bool k.is_out))
    (cases_Bool k.is_read)

-- where as many pass as none, none does
none-counted : (p : Kept → Bool) (ks : List Kept) → count_by p ks ≡ 0 → All (λ (k : Kept). p k ≡ false) ks
none-counted p ks none k d within =
    let few : cond {A = ℕ} (p (get_or ks k d)) 1 0 ≤ count_by p ks =
    get_or-le-sum_by (λ x. cond (p x) 1 0) ks k d within in
    ⊎_elim
    (λ yes. let one : cond {A = ℕ} (p (get_or ks k d)) 1 0 ≡ 1 = ap (λ (b : Bool). cond b 1 0) yes in
    absurd (omega (arith, one, few, none)))
    (λ no. no)
    (cases_Bool (p (get_or ks k d)))

-- a mask that does not ask for the samples that were read asks for none, where all were
pub unasked-read : (mask : SampleStateMask) (ks : List Kept) (summary : Summary) → IsSummary ks summary
    → summary.reads ≡ length ks - summary.outs → asks_for_sample_state mask HasBeenRead ≡ false
    → All (IsUnasked mask) ks
unasked-read mask ks summary counted all unasked =
    All-weaker (λ (k : Kept). k.is_out ≡ false → k.is_read ≡ true) (IsUnasked mask)
    (λ k was stays. ap (λ (b : Bool). asks_for_sample_state mask (if b then HasBeenRead else NotRead)) (was stays)
    ∙ unasked) ks
    (all-counted ks (omega (arith, all, counted.reads, counted.outs, count_by-le-length is_gone ks)))

-- and one that does not ask for those that were not asks for none, where none was
pub unasked-unread : (mask : SampleStateMask) (ks : List Kept) (summary : Summary) → IsSummary ks summary
    → summary.reads ≡ 0 → asks_for_sample_state mask NotRead ≡ false → All (IsUnasked mask) ks
unasked-unread mask ks summary counted none unasked =
    All-weaker (λ (k : Kept). was_read k ≡ false) (IsUnasked mask)
    (λ k was stays. ap (λ (b : Bool). asks_for_sample_state mask (if b then HasBeenRead else NotRead))
    (sym (ap (λ (b : Bool). not b && k.is_read) stays) ∙ was) ∙ unasked) ks
    (none-counted was_read ks (sym counted.reads ∙ none))

-- as many pass the one test as pass the other, where each sample passes both or none
pub count-agree : (p r : Kept → Bool) (ks : List Kept) → All (λ (k : Kept). p k ≡ r k) ks
    → count_by p ks ≡ count_by r ks
count-agree p r [] same = grind arith
count-agree p r (k ∷ ks) same =
    sum_by-cons (λ x. cond (p x) 1 0) k ks
    ∙ (ap (λ (b : Bool). cond b 1 0 + count_by p ks) (All-head (λ (x : Kept). p x ≡ r x) k ks same)
    ∙ (ap (λ (n : ℕ). cond (r k) 1 0 + n) (count-agree p r ks (All-tail (λ (x : Kept). p x ≡ r x) k ks same))
    ∙ sym (sum_by-cons (λ x. cond (r x) 1 0) k ks)))

-- the counts once a sample is added that was not read
pub counted-more : (ks : List Kept) (k : Kept) (old new : Summary) → k.is_read ≡ false → k.is_out ≡ false
    → IsSummary ks old → new.outs ≡ old.outs → new.reads ≡ old.reads
    → new.writes ≡ old.writes + cond k.valid_data 1 0 → AreChainsOf (ks ++ k ∷ []) new.chains
    → IsSummary (ks ++ k ∷ []) new
counted-more ks k old new unread stays counted outs reads writes chains =
    let one : cond {A = ℕ} (was_read k) 1 0 ≡ 0 =
    ap (λ (b : Bool). cond (not b && k.is_read) 1 0) stays ∙ ap (λ (b : Bool). cond b 1 0) unread in
    let own : cond {A = ℕ} (has_data k) 1 0 ≡ cond k.valid_data 1 0 =
    ap (λ (b : Bool). cond (not b && k.valid_data) 1 0) stays in
    let none : cond {A = ℕ} (is_gone k) 1 0 ≡ 0 = ap (λ (b : Bool). cond b 1 0) stays in
    let more_outs : count_by is_gone (ks ++ k ∷ []) ≡ count_by is_gone ks + cond (is_gone k) 1 0 =
    sum_by_push (λ x. cond (is_gone x) 1 0) ks k in
    let more : count_by was_read (ks ++ k ∷ []) ≡ count_by was_read ks + cond (was_read k) 1 0 =
    sum_by_push (λ x. cond (was_read x) 1 0) ks k in
    let more_data : count_by has_data (ks ++ k ∷ []) ≡ count_by has_data ks + cond (has_data k) 1 0 =
    sum_by_push (λ x. cond (has_data x) 1 0) ks k in
    record {
      outs = omega (arith, outs, counted.outs, more_outs, none);
      reads = omega (arith, reads, counted.reads, more, one);
      writes = omega (arith, writes, counted.writes, more_data, own);
      chains = chains;
    }

-- how a count changes where one of the samples does
one-changed : (p : Kept → Bool) (ks : List Kept) (at : ℕ) (k v : Kept) → at < length ks → k ≡ get_or ks at k
    → count_by p (set ks at v) + cond (p k) 1 0 ≡ count_by p ks + cond (p v) 1 0
one-changed p ks at k v within is =
    ap (λ (x : Kept). count_by p (set ks at v) + cond (p x) 1 0) is
    ∙ sum_by-set (λ x. cond (p x) 1 0) ks at v k within

-- the counts once one of the samples is marked as read
pub counted-read : (ks : List Kept) (at : ℕ) (k v : Kept) (old new : Summary) → at < length ks → k ≡ get_or ks at k
    → v ≡ read_if true k → IsSummary ks old → new.outs ≡ old.outs
    → new.reads ≡ old.reads + (if is_in k && not k.is_read then 1 else 0) → new.writes ≡ old.writes
    → new.chains ≡ old.chains → IsSummary (set ks at v) new
counted-read ks at k v old new within is marked counted outs reads writes chains = record {
  outs =
      (let change = one-changed is_gone ks at k v within is in
      let same : cond {A = ℕ} (is_gone v) 1 0 ≡ cond (is_gone k) 1 0 =
      ap (λ (x : Kept). cond (is_gone x) 1 0) marked in
      omega (arith, outs, counted.outs, change, same));
  reads =
      (let change = one-changed was_read ks at k v within is in
      let now : cond {A = ℕ} (was_read v) 1 0 ≡ cond (was_read k) 1 0 + (if is_in k && not k.is_read then 1 else 0) =
      ap (λ (x : Kept). cond (was_read x) 1 0) marked ∙ table k.is_out k.is_read in
      omega (arith, reads, counted.reads, change, now));
  writes =
      (let change = one-changed has_data ks at k v within is in
      let same : cond {A = ℕ} (has_data v) 1 0 ≡ cond (has_data k) 1 0 =
      ap (λ (x : Kept). cond (has_data x) 1 0) marked in
      omega (arith, writes, counted.writes, change, same));
  chains =
      subst (λ (c : Chains). AreChainsOf (set ks at v) c) (sym chains)
      (chains-set ks at k v old.chains within is (ap (λ (x : Kept). x.sample.key) marked)
      (λ stays. ap (λ (x : Kept). x.is_out) (sym marked) ∙ stays)
      (λ unread. absurd (let clash : true ≡ false = sym (ap (λ (x : Kept). x.is_read) marked) ∙ unread in cc))
      counted.chains);
}
  where
    table : (out read : Bool) → cond {A = ℕ} (not out && true) 1 0
        ≡ cond (not out && read) 1 0 + (if not out && not read then 1 else 0)
    table true read = omega arith
    table false true = omega arith
    table false false = omega arith

-- the counts once a take has returned one of the samples
pub counted-out : (ks : List Kept) (at : ℕ) (k v : Kept) (old new : Summary) → at < length ks → k ≡ get_or ks at k
    → v ≡ out_if true k → IsSummary ks old → new.outs ≡ old.outs + (if is_in k then 1 else 0)
    → new.reads ≡ old.reads - (if was_read k then 1 else 0) → new.writes ≡ old.writes - (if has_data k then 1 else 0)
    → new.chains ≡ old.chains → IsSummary (set ks at v) new
counted-out ks at k v old new within is marked counted outs reads writes chains = record {
  outs =
      (let change = one-changed is_gone ks at k v within is in
      let now : cond {A = ℕ} (is_gone v) 1 0 ≡ cond (is_gone k) 1 0 + (if is_in k then 1 else 0) =
      ap (λ (x : Kept). cond (is_gone x) 1 0) marked ∙ table k.is_out in
      omega (arith, outs, counted.outs, change, now));
  reads =
      (let change = one-changed was_read ks at k v within is in
      let none : cond {A = ℕ} (was_read v) 1 0 ≡ 0 = ap (λ (x : Kept). cond (was_read x) 1 0) marked in
      let same : cond {A = ℕ} (was_read k) 1 0 ≡ (if was_read k then 1 else 0) = refl in
      omega (arith, reads, counted.reads, change, none, same));
  writes =
      (let change = one-changed has_data ks at k v within is in
      let none : cond {A = ℕ} (has_data v) 1 0 ≡ 0 = ap (λ (x : Kept). cond (has_data x) 1 0) marked in
      let same : cond {A = ℕ} (has_data k) 1 0 ≡ (if has_data k then 1 else 0) = refl in
      omega (arith, writes, counted.writes, change, none, same));
  chains =
      subst (λ (c : Chains). AreChainsOf (set ks at v) c) (sym chains)
      (chains-set ks at k v old.chains within is (ap (λ (x : Kept). x.sample.key) marked)
      (λ stays. absurd (let clash : true ≡ false = sym (ap (λ (x : Kept). x.is_out) marked) ∙ stays in cc))
      (λ unread. ap (λ (x : Kept). x.is_read) (sym marked) ∙ unread) counted.chains);
}
  where
    table : (out : Bool) → cond {A = ℕ} true 1 0 ≡ cond out 1 0 + (if not out then 1 else 0)
    table true = omega arith
    table false = omega arith
