-- Which writers our readers are matched with.
use Rattle.std.proofs.Common.{◌≡◌, ◌<◌, ◌+◌, ◌⊎◌, ◌∙◌, ℕ, zero, suc, Bool, false, true, ◌||◌, List, get_or, length, ap, arith, inl, inr, refl, subst, sym}
use Rattle.std.specs.Prelude.{Some, slice_get}
use Rattle.std.proofs.lemmas.Option.{same_Some, slice_get-get_or}
use Rattle.std.proofs.lemmas.Bool.{cases_eq}
use Rattle.dds_base.specs.declared.endpoint.Endpoint.{Endpoint}
use Rattle.dds_machine.specs.Part.{Part, how_of, is_attached, own_proxies}
use Rattle.dds_domain.specs.Heard.{hears}

or_true : (b : Bool) → (b || true) ≡ true
or_true true = refl
or_true false = refl

-- one that hears is among more, too
hears_on : (part : Part) (writer : Endpoint) (n k : ℕ) → hears part (suc n) writer ≡ true → n < k
    → hears part k writer ≡ true
hears_on part writer n zero is lt = absurd (omega (arith, lt))
hears_on part writer n (suc k) is lt = by (cases_eq n k) (λ below. hears_on part writer n k is below)
  where
    by : (n ≡ k) ⊎ (n ≡ k → ⊥) → (n < k → hears part k writer ≡ true) → hears part (suc k) writer ≡ true
    by (inl same) before = subst (λ (m : ℕ). hears part (suc m) writer ≡ true) same is
    by (inr other) before =
        ap (λ (b : Bool). b || is_attached (how_of (own_proxies part (k + 1)) writer))
        (before (omega (arith, lt, other)))

-- a reader of this number is matched with the writer
pub hears_by : (part : Part) (writer : Endpoint) (n k : ℕ)
    → is_attached (how_of (own_proxies part (n + 1)) writer) ≡ true → n < k → hears part k writer ≡ true
hears_by part writer n k is lt =
    hears_on part writer n k
    (ap (λ (b : Bool). hears part n writer || b) is ∙ or_true (hears part n writer)) lt

-- what holds of all before holds of one more
pub all_next : {X : Type 0} (P : X → Type 0) (xs : List X) (n : ℕ) (x : X) → n < length xs → x ≡ get_or xs n x → P x
    → ((k : ℕ) (y : X) → k < n → slice_get xs k ≡ Some y → P y)
    → (k : ℕ) (y : X) → k < n + 1 → slice_get xs k ≡ Some y → P y
all_next P xs n x lt is here before k y less at = by (cases_eq k n)
  where
    by : (k ≡ n) ⊎ (k ≡ n → ⊥) → P y
    by (inl same) =
        subst P
        (same_Some x y (sym (slice_get-get_or xs n x lt ∙ ap Some (sym is)) ∙ subst (λ (m : ℕ). slice_get xs m ≡ Some y) same at))
        here
    by (inr other) = before k y (omega (arith, less, other)) at
