-- Samples of greater handles are of other instances.
use Rattle.std.proofs.Common.{◌≡◌, ℕ, suc, ◌+◌, ◌<◌, ◌≤◌, ◌^◌, List, [], ◌∷◌, length, filter, Bool, true, ◌==◌, sym, ap, ◌∙◌, refl, cond, arith, ⊎_elim}
use Rattle.std.specs.List.{All, count_by}
use Rattle.std.specs.List.Sorted.{IsNonDecreasingBy}
use Rattle.std.proofs.lemmas.Bool.{cases_Bool, eqb-true}
use Rattle.std.proofs.lemmas.Bool.Decides.{nat_tests}
use Rattle.std.proofs.lemmas.List.Sums.{length-filter}
use Rattle.std.proofs.lemmas.List.Elements.{All-head, All-tail}
use Rattle.dds_base.specs.declared.sample.Picked.{Picked}
use Rattle.dds_base.specs.Access.{is_of, last_or, most_recent, own_generations}
use Rattle.dds_info.specs.declared.followers.Followers.{Followers}
use Rattle.dds_info.specs.Followers.{IsFollowed}

filter-none : (handle least : ℕ) (later : List Picked) → handle < least
    → All (λ (p : Picked). least ≤ p.instance_handle) later → filter (is_of handle) later ≡ []
filter-none handle least [] below all = refl
filter-none handle least (n ∷ later) below all =
    let above : least ≤ n.instance_handle = All-head (λ (p : Picked). least ≤ p.instance_handle) n later all in
    ⊎_elim
    (λ same. absurd (let clash : n.instance_handle
    ≡ handle = eqb-true n.instance_handle handle same in omega (arith, clash, above, below)))
    (λ other. ap (λ (b : Bool). cond b (n ∷ filter (is_of handle) later) (filter (is_of handle) later)) other
    ∙ filter-none handle least later below (All-tail (λ (p : Picked). least ≤ p.instance_handle) n later all))
    (cases_Bool (is_of handle n))

-- all that follow have greater handles: none follows
pub followed-none : (p : Picked) (least : ℕ) (later : List Picked) (f : Followers) → p.instance_handle < least
    → All (λ (x : Picked). least ≤ x.instance_handle) later → f.count ≡ 0 → f.recent ≡ own_generations p
    → IsFollowed p later f
followed-none p least later f below all count recent =
    let none : filter (is_of p.instance_handle) later ≡ [] = filter-none p.instance_handle least later below all in
    record {
      count_is =
          count ∙ sym (sym (length-filter (is_of p.instance_handle) later) ∙ ap (λ (ps : List Picked). length ps) none);
      recent_is = recent ∙ sym (ap (λ (ps : List Picked). own_generations (last_or p ps)) none);
    }

-- one of the same instance follows: it, and those that follow it
pub followed-more : (p next : Picked) (later : List Picked) (f g : Followers) → next.instance_handle ≡ p.instance_handle
    → IsFollowed next later f → g.count ≡ f.count + 1 → g.recent ≡ f.recent → IsFollowed p (next ∷ later) g
followed-more p next later f g same followed count recent =
    let handle : ℕ = p.instance_handle in
    let own : is_of handle next ≡ true = eqb-same next.instance_handle handle same in
    let others : filter (is_of handle) (next ∷ later) ≡ next ∷ filter (is_of handle) later =
    ap (λ (b : Bool). cond b (next ∷ filter (is_of handle) later) (filter (is_of handle) later)) own in
    let is : count_by (is_of next.instance_handle) later ≡ length (filter (is_of handle) later) =
    ap (λ (n : ℕ). count_by (is_of n) later) same ∙ sym (length-filter (is_of handle) later) in
    record {
      count_is =
          count
          ∙ (ap (λ (n : ℕ). n + 1) (followed.count_is ∙ is)
          ∙ (one-more (length (filter (is_of handle) later))
          ∙ (sym (ap (λ (ps : List Picked). length ps) others) ∙ length-filter (is_of handle) (next ∷ later))));
      recent_is =
          recent
          ∙ (followed.recent_is
          ∙ (ap (λ (n : ℕ). own_generations (last_or next (filter (is_of n) later))) same
          ∙ sym (ap (λ (ps : List Picked). own_generations (last_or p ps)) others)));
    }
  where
    one-more : (n : ℕ) → n + 1 ≡ suc n
    one-more n = omega arith

    eqb-same : (a b : ℕ) → a ≡ b → (a == b) ≡ true
    eqb-same a b e = grind (arith, nat_tests, e)

-- those that follow the first of some that stand by handle have no lesser one
pub above-first : (p : Picked) (later : List Picked) → IsNonDecreasingBy (λ (x : Picked). x.instance_handle) (p ∷ later)
    → All (λ (x : Picked). p.instance_handle ≤ x.instance_handle) (p ∷ later)
above-first p later sorted = λ k d within. sorted 0 k d (omega arith) within

-- one of another instance comes next: none of its own follows
pub followed-other : (p next : Picked) (later : List Picked) (f : Followers)
    → IsNonDecreasingBy (λ (x : Picked). x.instance_handle) (p ∷ (next ∷ later))
    → (next.instance_handle ≡ p.instance_handle → ⊥) → f.count ≡ 0 → f.recent ≡ own_generations p
    → IsFollowed p (next ∷ later) f
followed-other p next later f sorted other count recent =
    let not_less : p.instance_handle ≤ next.instance_handle = sorted 0 1 p (omega arith) (omega arith) in
    followed-none p next.instance_handle (next ∷ later) f (less p.instance_handle next.instance_handle not_less other)
    (above-first next later (λ i j d le within. sorted (suc i) (suc j) d (omega (arith, le)) (omega (arith, within))))
    count recent
  where
    less : (a b : ℕ) → a ≤ b → (b ≡ a → ⊥) → a < b
    less a b le differ = grind (arith, le)
