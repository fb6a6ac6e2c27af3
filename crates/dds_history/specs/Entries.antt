-- The entries of a history, with the counts of their keys, and the changes that they hold. Inner functions alone cite
-- this: nothing here has to be believed.
--
-- DDS 1.4, 2.2.3 (HISTORY); RTPS 2.5, 8.2 (HistoryCache, CacheChange).
use Rattle.std.specs.Prelude.{◌≡◌, ℕ, ◌≤◌, ◌<◌, ◌+◌, ◌-◌, ◌^◌, ◌==◌, ◌||◌, not, Bool, true, false, List, [], ◌∷◌, map, length, filter, drop, slice_get, nat_lt, nat_le, Some, if◌then◌else◌}
use Rattle.std.specs.Map.{lookup}
use Rattle.std.specs.Option.{option_map_or, unwrap_or}
use Rattle.dds_base.specs.declared.key.Key.{Key}
use Rattle.dds_base.specs.declared.change.Change.{Change}
use Rattle.dds_base.specs.declared.qos.HistoryQos.{HistoryQos}
use Rattle.dds_base.specs.declared.qos.HistoryQos.TheVariants.{KeepAll, KeepLast}
use Rattle.dds_base.specs.Happening.{same_key}
use Rattle.dds_history.specs.declared.held.Entry.{Entry}
use Rattle.dds_history.specs.declared.held.KeyCount.{KeyCount}
use Rattle.dds_history.specs.declared.held.Kept.{Kept}
use Rattle.dds_history.specs.Held.{AreRuns, HeldChange, lives, with_change}

-- the keys with their counts
abbrev pub Counted : Type 0
Counted = List (Key × KeyCount)

-- what is counted of the key
abbrev pub count_in : Counted → Key → KeyCount
count_in counted key = unwrap_or (lookup (same_key key) counted) (record { turns = 0; kept = 0 })

-- something is counted
abbrev pub is_any_counted : KeyCount → Bool
is_any_counted count = nat_lt 0 count.turns || nat_lt 0 count.kept

-- the key stands at this place, and this is counted of it
pub record IsCountedAt (counted : Counted) (key : Key) (place : ℕ) (count : KeyCount) : Type 0 where
  pub stands : slice_get counted place ≡ Some (key, count)
  pub counts : count_in counted key ≡ count

-- the policy, the entries, the keys with their counts, and how many changes are kept
pub record KeptState : Type 0 where
  pub policy : HistoryQos
  pub entries : List Entry
  pub counted : Counted
  pub live : ℕ

-- what the fields of the type keep, as lists
abbrev pub state : Kept → KeptState
state k = record { policy = k.policy; entries = k.entries.items; counted = k.keys.entries; live = k.live }

-- the same without the policy
abbrev pub parts : KeptState → List Entry × Counted × ℕ
parts s = (s.entries, s.counted, s.live)

-- so many more changes of its key drop the change, by what is counted of the key
abbrev pub left : ℕ → KeyCount → Entry → ℕ
left depth count e = e.turn + depth - count.turns

-- how many more changes of its key an entry outlives; under KEEP_ALL it is never dropped
abbrev pub remaining_by : HistoryQos → Counted → Entry → ℕ
remaining_by KeepAll counted e = 1
remaining_by (KeepLast depth) counted e = left depth (count_in counted e.change.key) e

-- an entry as a held change
abbrev pub held_as : HistoryQos → Counted → Entry → HeldChange
held_as policy counted e = record { number = e.number; change = e.change; remaining = remaining_by policy counted e }

-- the changes that the entries hold
abbrev pub held_by : HistoryQos → Counted → List Entry → List HeldChange
held_by policy counted es = filter (λ h. nat_lt 0 h.remaining) (map (λ e. held_as policy counted e) es)

-- the changes that are held
abbrev pub shown : KeptState → List HeldChange
shown s = held_by s.policy s.counted s.entries

-- the numbers rise, from this one on
abbrev pub RisesFrom : ℕ → List Entry → Type 0
RisesFrom n [] = Unit {0}
RisesFrom n (e ∷ es) = (n ≤ e.number) × RisesFrom (e.number + 1) es

-- the numbers rise
abbrev pub Rises : List Entry → Type 0
Rises es = RisesFrom 0 es

-- no number is greater
abbrev pub AreUpTo : ℕ → List Entry → Type 0
AreUpTo last [] = Unit {0}
AreUpTo last (e ∷ es) = (e.number ≤ last) × AreUpTo last es

-- those of the entry's key have later turns
abbrev pub Precedes : Entry → List Entry → Type 0
Precedes e [] = Unit {0}
Precedes e (x ∷ xs) = (same_key e.change.key x.change.key ≡ true → e.turn < x.turn) × Precedes e xs

-- the turns of each key rise, and are counted
abbrev pub AreCounted : Counted → List Entry → Type 0
AreCounted counted [] = Unit {0}
AreCounted counted (e ∷ es) =
    (0 < e.turn) × (e.turn ≤ (count_in counted e.change.key).turns) × Precedes e es × AreCounted counted es

-- the counts are of no more changes than so many
pub record IsFew (last : ℕ) (s : KeptState) : Type 0 where
  pub turns : (key : Key) → (count_in s.counted key).turns ≤ last
  pub kept : (key : Key) → (count_in s.counted key).kept ≤ last
  pub live : s.live ≤ last

-- the same by the policy: nothing is counted under KEEP_ALL
abbrev pub IsFewBy : HistoryQos → ℕ → KeptState → Type 0
IsFewBy KeepAll last s = Unit {0}
IsFewBy (KeepLast depth) last s = IsFew last s

-- the counts are those of the entries
pub record Fits (depth last : ℕ) (s : KeptState) : Type 0 where
  pub counted : AreCounted s.counted s.entries
  pub kept : (key : Key) → (count_in s.counted key).kept ≡ lives key (held_by (KeepLast depth) s.counted s.entries)
  pub live : s.live ≡ length (held_by (KeepLast depth) s.counted s.entries)
  pub few : IsFew last s

-- the same by the policy
abbrev pub FitsBy : HistoryQos → ℕ → KeptState → Type 0
FitsBy KeepAll last s = Unit {0}
FitsBy (KeepLast depth) last s = Fits depth last s

-- what is kept is sound, up to the number of the last change
pub record Holds (last : ℕ) (s : KeptState) : Type 0 where
  pub rises : Rises s.entries
  pub up_to : AreUpTo last s.entries
  pub fits : FitsBy s.policy last s

-- what is kept is sound, up to the number before this one
pub record HoldsBefore (last number : ℕ) (s : KeptState) : Type 0 where
  pub next : last + 1 ≡ number
  pub few : last < 2 ^ 48
  pub holds : Holds last s

-- one more change of a key drops one of those that are kept exactly if as many of it are as can be
abbrev pub HasRuns : KeptState → Type 0
HasRuns s = AreRuns s.policy (shown s)

-- the change of this number was added, which some reader awaits or not
abbrev pub Gains : ℕ → Change → Bool → KeptState → KeptState → Type 0
Gains number change is_awaited old new =
    Holds number new × (shown new ≡ with_change old.policy (shown old) number change is_awaited)

-- one change fewer of a key is kept
abbrev pub one_fewer : KeyCount → KeyCount
one_fewer count =
    if nat_le count.kept 1 then record { turns = 0; kept = 0 }
    else record { turns = count.turns; kept = count.kept - 1 }

-- it counts that the entry goes
abbrev pub is_counted_by : HistoryQos → Counted → Entry → Bool
is_counted_by KeepAll counted e = false
is_counted_by (KeepLast depth) counted e = nat_lt 0 (left depth (count_in counted e.change.key) e)

-- one change of the key fewer is counted
pub record IsUncounted (key : Key) (old new : KeptState) : Type 0 where
  pub live : new.live ≡ old.live - 1
  pub counts : (k : Key)
      → count_in new.counted k ≡ (if same_key key k then one_fewer (count_in old.counted key) else count_in old.counted k)

-- the first entry is gone
pub record IsAfterFirst (last : ℕ) (old new : KeptState) : Type 0 where
  pub entries : new.entries ≡ drop 1 old.entries
  pub holds : Holds last new
  pub shown : held_by new.policy new.counted new.entries ≡ held_by old.policy old.counted (drop 1 old.entries)

-- the first entry has a number below this one, or is dropped
abbrev pub goes_first : ℕ → KeptState → Bool
goes_first number s =
    option_map_or (λ e. nat_lt e.number number || not (nat_lt 0 (remaining_by s.policy s.counted e))) (slice_get s.entries 0)
    false

-- one more change of a key, which drops one where as many are kept as can be
abbrev pub one_more : ℕ → KeyCount → KeyCount
one_more depth count =
    record { turns = count.turns + 1; kept = (if count.kept == depth then count.kept else count.kept + 1) }

-- one more change of the key is counted, with this turn
pub record IsCounted (depth : ℕ) (key : Key) (old new : KeptState) (turn : ℕ) : Type 0 where
  pub policy : new.policy ≡ old.policy
  pub entries : new.entries ≡ old.entries
  pub newest : turn ≡ (count_in old.counted key).turns + 1
  pub counts : (k : Key)
      → count_in new.counted k ≡ (if same_key key k then one_more depth (count_in old.counted key) else count_in old.counted k)
  pub live : new.live ≡ (if (count_in old.counted key).kept == depth then old.live else old.live + 1)

-- the same by the policy: under KEEP_ALL nothing is counted
abbrev pub IsCountedBy : HistoryQos → Key → KeptState → KeptState → ℕ → Type 0
IsCountedBy KeepAll key old new turn = (new.policy ≡ old.policy) × (new.entries ≡ old.entries)
IsCountedBy (KeepLast depth) key old new turn = IsCounted depth key old new turn
