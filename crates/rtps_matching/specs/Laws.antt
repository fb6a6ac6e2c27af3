-- What holds of every table of endpoints and every event (DDS 1.4, 2.2.4.1: PUBLICATION_MATCHED, SUBSCRIPTION_MATCHED;
-- RTPS 2.5, 8.5.4: SEDP).
use Rattle.std.specs.Prelude.{◌≡◌, ◌⊎◌, ◌≤◌, ℕ, Bool, false, true, List, [], Contains}
use Rattle.std.specs.List.{count_by}
use Rattle.dds_base.specs.declared.guid.Guid.{Guid}
use Rattle.dds_base.specs.declared.guid.GuidPrefix.{GuidPrefix}
use Rattle.rtps_announcements.specs.declared.qos.EndpointKind.{EndpointKind}
use Rattle.rtps_matching.specs.declared.end.End.{End}
use Rattle.rtps_matching.specs.declared.far.Far.{Far}
use Rattle.rtps_matching.specs.declared.told.Told.{Told}
use Rattle.rtps_matching.specs.declared.told.Told.TheVariants.{Changed, Matched, Unmatched}
use Rattle.rtps_matching.specs.Matches.{is_far, is_named, is_of, matches}
use Rattle.rtps_matching.specs.Steps.{Table, Hears, has_far, has_own, is_full, told_of_own, told_of_waking, told_without, told_without_own, turned_all, with_own, without, without_own}

-- ---- what is told is so

-- one of our endpoints and a far one, by their names, are matched
abbrev pub AreIn : Table → Guid → Guid → Type 0
AreIn t own far = Contains (matches t.own t.far) (own, far)

-- What is told of two tables is just what differs: who is matched now and was not, who was and is not, and of whom else
-- something is told; and everybody else is matched as before.
pub record ToldIsSo (old : Table) (told : List Told) (new : Table) : Type 0 where
  pub matched : (own far : Guid) → Contains told (Matched own far) → AreIn new own far × (AreIn old own far → ⊥)
  pub unmatched : (own far : Guid) → Contains told (Unmatched own far) → AreIn old own far × (AreIn new own far → ⊥)
  pub changed : (own far : Guid) → Contains told (Changed own far) → AreIn old own far × AreIn new own far
  pub gained : (own far : Guid) → AreIn new own far → AreIn old own far ⊎ Contains told (Matched own far)
  pub lost : (own far : Guid) → AreIn old own far → AreIn new own far ⊎ Contains told (Unmatched own far)

-- no two of our own have one name, and no two of others
pub record StandOnce (t : Table) : Type 0 where
  pub own : (guid : Guid) → count_by (is_named guid) t.own ≤ 1
  pub far : (guid : Guid) → count_by (is_far guid) t.far ≤ 1

-- so it is of what each event tells
abbrev pub AddTells : Type 0
AddTells = (e : End) (t : Table) → has_own e.endpoint.guid t ≡ false → ToldIsSo t (told_of_own e t) (with_own e t)

abbrev pub RemoveTells : Type 0
RemoveTells = (guid : Guid) (t : Table) → ToldIsSo t (told_without_own guid t) (without_own guid t)

abbrev pub WithdrawTells : Type 0
WithdrawTells = (guid : Guid) (t : Table) → ToldIsSo t (told_without (is_far guid) t) (without (is_far guid) t)

abbrev pub LeaveTells : Type 0
LeaveTells = (prefix : GuidPrefix) (t : Table) → ToldIsSo t (told_without (is_of prefix) t) (without (is_of prefix) t)

abbrev pub SleepTells : Type 0
SleepTells = (prefix : GuidPrefix) (t : Table)
    → ToldIsSo t (told_without (is_of prefix) t) (turned_all prefix false t)

abbrev pub WakeTells : Type 0
WakeTells = (prefix : GuidPrefix) (t : Table) → StandOnce t
    → ToldIsSo t (told_of_waking prefix t) (turned_all prefix true t)

abbrev pub AnnounceTells : Type 0
AnnounceTells = (t : Table) (guid : Guid) (kind : EndpointKind) (payload : List ℕ) (new : Table) (told : List Told)
    → StandOnce t → Hears t guid kind payload new told → ToldIsSo t told new

-- ---- names stand once

-- It is so of a table without endpoints, and each event leaves it so.
abbrev pub OpensOnce : Type 0
OpensOnce = (most : ℕ) → StandOnce (record { own = []; far = []; most = most })

abbrev pub AddsOnce : Type 0
AddsOnce = (e : End) (t : Table) → has_own e.endpoint.guid t ≡ false → StandOnce t → StandOnce (with_own e t)

abbrev pub RemovesOnce : Type 0
RemovesOnce = (guid : Guid) (t : Table) → StandOnce t → StandOnce (without_own guid t)

abbrev pub LeavesOnce : Type 0
LeavesOnce = (leaves : Far → Bool) (t : Table) → StandOnce t → StandOnce (without leaves t)

abbrev pub TurnsOnce : Type 0
TurnsOnce = (prefix : GuidPrefix) (awake : Bool) (t : Table) → StandOnce t → StandOnce (turned_all prefix awake t)

abbrev pub AnnouncesOnce : Type 0
AnnouncesOnce = (t : Table) (guid : Guid) (kind : EndpointKind) (payload : List ℕ) (new : Table) (told : List Told)
    → StandOnce t → Hears t guid kind payload new told → StandOnce new

-- ---- few are known

-- no more of a participant than may be
abbrev pub IsFew : GuidPrefix → Table → Type 0
IsFew prefix t = count_by (is_of prefix) t.far ≤ t.most

-- An announcement leaves it so where a newcomer is taken only where there is room.
abbrev pub AnnouncesFew : Type 0
AnnouncesFew = (prefix : GuidPrefix) (t : Table) (guid : Guid) (kind : EndpointKind) (payload : List ℕ) (new : Table)
    (told : List Told) → (has_far guid t ≡ false → is_full guid.prefix t ≡ false) → IsFew prefix t
    → Hears t guid kind payload new told → IsFew prefix new

-- ---- others stay

-- An announcement leaves each other far endpoint as it was, and brings none.
abbrev pub OthersStay : Type 0
OthersStay = (t : Table) (guid : Guid) (kind : EndpointKind) (payload : List ℕ) (new : Table) (told : List Told)
    → Hears t guid kind payload new told → (f : Far) → is_far guid f ≡ false
    → (Contains t.far f → Contains new.far f) × (Contains new.far f → Contains t.far f)
