-- How a sample is followed that stands by handle before others.
use Rattle.std.proofs.Common.{◌≡◌, ℕ, ◌+◌, ◌<◌, ◌≤◌, ◌-◌, ◌^◌, List, [], ◌∷◌, length, Bool, true, false, not, ◌==◌, sym, ap, ◌∙◌, arith, Option, Some, None, min}
use Rattle.std.specs.List.{count_by}
use Rattle.std.proofs.lemmas.Bool.Decides.{nat_tests}
use Rattle.std.proofs.lemmas.List.Sums.{count_by-le-length}
use Rattle.dds_base.specs.declared.sample.Picked.{Picked}
use Rattle.dds_base.specs.Access.{is_of, own_generations}
use Rattle.dds_info.specs.declared.followers.Followers.{Followers}
use Rattle.dds_info.specs.declared.ranks.Next.{Next}
use Rattle.dds_info.specs.Followers.{IsFollowed}
use Rattle.dds_info.specs.Ranking.{IsToldOf, StandsBefore}
use Rattle.dds_info.proofs.FollowerLaws.{followed-more, followed-other}

some-same : (m n : Next) (state : Option Next) → state ≡ Some m → state ≡ Some n → m ≡ n
some-same m n state left right = cc

none-some : (n : Next) (state : Option Next) → state ≡ None → state ≡ Some n → ⊥
none-some n state none some = cc

-- none was told
pub told-none : (p : Picked) (later : List Picked) (state : Option Next) (f : Followers) → StandsBefore p later state
    → state ≡ None → f.count ≡ 0 → f.recent ≡ own_generations p → IsFollowed p later f
told-none p [] state f before none count recent = record { count_is = count; recent_is = recent }
told-none p (x ∷ later) state f before none count recent = absurd (none-some _ state none before.told.next_is)

-- one of another instance was told last
pub told-other : (p : Picked) (later : List Picked) (state : Option Next) (n : Next) (f : Followers)
    → StandsBefore p later state → state ≡ Some n → not (n.handle == p.instance_handle) ≡ true → f.count ≡ 0
    → f.recent ≡ own_generations p → IsFollowed p later f
told-other p [] state n f before some other count recent = record { count_is = count; recent_is = recent }
told-other p (x ∷ later) state n f before some other count recent =
    followed-other p x later f before.sorted
    (λ same. differs n.handle p.instance_handle other
    (ap (λ (m : Next). m.handle) (some-same n _ state some before.told.next_is) ∙ same)) count recent
  where
    differs : (a b : ℕ) → not (a == b) ≡ true → a ≡ b → ⊥
    differs a b other same = grind (arith, nat_tests, other, same)

-- one of its own was told last
pub told-same : (p : Picked) (later : List Picked) (state : Option Next) (n : Next) (f : Followers)
    → StandsBefore p later state → state ≡ Some n → not (n.handle == p.instance_handle) ≡ false
    → f.count ≡ min (n.followers.count + 1) (2 ^ 64 - 1) → f.recent ≡ n.followers.recent → IsFollowed p later f
told-same p [] state n f before some same count recent = absurd (none-some n state before.told some)
told-same p (x ∷ later) state n f before some same count recent =
    let is : n ≡ record { handle = x.instance_handle; followers = before.told.followers } =
    some-same n _ state some before.told.next_is in
    let next : n.followers ≡ before.told.followers = ap (λ (m : Next). m.followers) is in
    let few : n.followers.count ≤ length later = omega (
      arith,
      ap (λ (g : Followers). g.count) next,
      before.told.followed.count_is,
      count_by-le-length (is_of x.instance_handle) later,
    ) in
    followed-more p x later before.told.followers f
    (sym (ap (λ (m : Next). m.handle) is) ∙ equals n.handle p.instance_handle same) before.told.followed
    (count ∙ (small n.followers.count (length later) few (omega (arith, before.few)) ∙ ap (λ (g : Followers). g.count + 1) next))
    (recent ∙ ap (λ (g : Followers). g.recent) next)
  where
    equals : (a b : ℕ) → not (a == b) ≡ false → a ≡ b
    equals a b same = grind (arith, nat_tests, same)

    small : (a l : ℕ) → a ≤ l → l + 1 + 1 < 2 ^ 64 → min (a + 1) (2 ^ 64 - 1) ≡ a + 1
    small a l few below = omega (arith, few, below)
