use Rattle.std.proofs.Common.{◌≡◌, ℕ, List, false, Option, Some, None, MatchOption, subst, sym}
use Rattle.std.specs.Prelude.{is_some}
use Rattle.std.specs.List.{list_any, position, IsDistinct}
use Rattle.dds_base.specs.declared.key.Key.{Key}
use Rattle.dds_base.specs.Happening.{same_key}
use Rattle.dds_instances.specs.Following.{IsPlaceOf}
use Rattle.dds_instances.specs.Keys.{Keys}
use Rattle.dds_instances.proofs.PlaceLaws.{place-got, place-of}
use Rattle.dds_instances.proofs.place.find_other.Goals as goal

place : (ks : List Key) (i : Key) (r : Option ℕ) → IsDistinct same_key ks → r ≡ position (same_key i) ks
    → is_some r ≡ list_any (same_key i) ks → MatchOption r (list_any (same_key i) ks ≡ false) (IsPlaceOf ks i)
place ks i None distinct is there = sym there
place ks i (Some at) distinct is there = place-of ks i at distinct (sym is)

pub returns : goal.returns
returns c =
    subst (λ (t : Keys). MatchOption c.get_index_of.result (list_any (same_key c.args.key) t.keys ≡ false)
    (IsPlaceOf t.keys c.args.key)) c.index.view_is
    (place c.index.inside.set.keys c.args.key c.get_index_of.result c.len.ensures.unique c.get_index_of.ensures.index
    c.get_index_of.ensures.found)

pub returns-then-is_at : goal.returns-then-is_at
returns-then-is_at c =
    subst (λ (t : Keys). IsPlaceOf t.keys c.args.key c.saturating_add-following.result) c.index.view_is
    (place-got c.index.inside.set.keys c.args.key c.saturating_add-following.result c.len.ensures.unique
    (c.is_at.ensures c.if-is_at.true))
