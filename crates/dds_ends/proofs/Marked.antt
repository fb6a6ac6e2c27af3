-- Marks that are made in turn.
use Rattle.std.proofs.Common.{◌≡◌, ℕ, zero, suc, ◌+◌, List, Some, replicate, get_or, length, ◌<◌, ◌≤◌, slice_get}
use Rattle.std.proofs.Common.{slice_set, refl, arith, ap, sym, ◌∙◌, subst, ⊎_elim}
use Rattle.std.proofs.lemmas.Option.{same_Some, slice_get_read}
use Rattle.dds_ends.specs.Noticing.{Marked}
use Rattle.dds_ends.proofs.Dying.{below}
use Rattle.dds_ends.proofs.Alike.{set-cases}

-- each of so many equal ones is that one
all_same : {X : Type 0} (n : ℕ) (x : X) (i : ℕ) (y : X) → slice_get (replicate n x) i ≡ Some y → y ≡ x
all_same zero x i y h = cc
all_same (suc n) x zero y h = cc
all_same (suc n) x (suc i) y h = all_same n x i y h

module _ {K M : Type 0} (Marks : K → M → Type 0) (nothing : M) where
  -- none is marked yet
  pub marked_none : (kept : List K) (count : ℕ) → Marked Marks nothing kept 0 (replicate count nothing)
  marked_none kept count i mark h = (λ lt k at. absurd (omega (arith, lt)), λ le. all_same count nothing i mark h)

  -- one more is marked
  marked_more : (kept : List K) (n : ℕ) (marks : List M) (k : K) (mark : M) → Marked Marks nothing kept n marks
      → slice_get kept n ≡ Some k → Marks k mark → Marked Marks nothing kept (n + 1) (slice_set marks n mark)
  marked_more kept n marks k mark before at here i other h =
      ⊎_elim
      (λ s. (
        λ lt k' at'.
            let one : k ≡ k' = same_Some k k' (sym at ∙ (ap (λ (j : ℕ). slice_get kept j) (sym s.0) ∙ at')) in
            subst (λ (m : M). Marks k' m) s.1 (subst (λ (x : K). Marks x mark) one here),
        λ le. let same = s.0 in absurd (omega (arith, same, le)),
      ))
      (λ o.
      let old = before i other o.1 in
      let apart = o.0 in (
        λ lt. old.0 (below i n lt apart),
        λ le. old.1 (omega (arith, le)),
      ))
      (set-cases marks n mark i other h)

  -- so it is of the one that is found at an index
  pub marked_next : (kept : List K) (n : ℕ) (marks : List M) (k : K) (mark : M) → Marked Marks nothing kept n marks
      → n < length kept → k ≡ get_or kept n k → Marks k mark → Marked Marks nothing kept (n + 1)
      (slice_set marks n mark)
  marked_next kept n marks k mark before lt is here =
      marked_more kept n marks k mark before (slice_get_read kept (length kept) n k refl lt is) here

  -- all are marked
  pub marked_all : (kept : List K) (n : ℕ) (marks : List M) → n ≤ length kept → length kept ≤ n
      → Marked Marks nothing kept n marks → Marked Marks nothing kept (length kept) marks
  marked_all kept n marks low high h =
      let all : n ≡ length kept = omega (arith, low, high) in
      subst (λ (m : ℕ). Marked Marks nothing kept m marks) all h
