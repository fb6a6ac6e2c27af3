-- What a reader knows of one of its writers, and what each submessage makes known to it. A number is measured against
-- the window as it stood when the submessage came.
--
-- RTPS 2.5, 8.4.10 (WriterProxy, ChangeFromWriter), 8.3.8 (Data, Gap, Heartbeat).
use Rattle.std.specs.Prelude.{◌≡◌, ℕ, Bool, true, false, not, ◌&&◌, ◌||◌, ◌==◌, nat_lt, nat_le, max, ℤ, Option, None}
use Rattle.std.specs.Prelude.{Some, if◌then◌else◌}
use Rattle.dds_base.specs.declared.change.Change.{Change}
use Rattle.rtps_sets.specs.Window.{is_in_window}
use Rattle.rtps_sets.specs.NumberSet.{NumberSet, has_number}

-- what is known of a number: nothing, its change, or that no change will come
pub data Slot : Type 0 where
  Missing : Slot
  Held : Change → Slot
  Irrelevant : Slot

-- what a reader knows of a writer
pub record Tracked : Type 0 where
  -- the number of the next change: all before it came or were passed over
  pub place : ℕ
  -- what is known of each number from the place on
  pub slot : ℕ → Slot
  -- the greatest firstSN of the accepted HEARTBEATs, 0 before there was one
  pub first : ℕ
  -- the greatest count of the accepted HEARTBEATs
  pub count : Option ℤ
  -- how many ACKNACKs were sent
  pub acknacks : ℕ

-- a writer of which nothing was heard
abbrev pub fresh : Tracked
fresh = record { place = 1; slot = λ n. Missing; first = 0; count = None; acknacks = 0 }

-- nothing is known of the number
abbrev pub is_missing : Slot → Bool
is_missing Missing = true
is_missing (Held change) = false
is_missing Irrelevant = false

-- what is known of a number, with the greatest firstSN, lets the place go over it
abbrev pub is_passable_slot : ℕ → ℕ → Slot → Bool
is_passable_slot first n Missing = nat_lt n first
is_passable_slot first n (Held change) = false
is_passable_slot first n Irrelevant = true

-- the place may go over the number: it is irrelevant, or nothing is known of it and it is below the greatest firstSN
abbrev pub is_passable : Tracked → ℕ → Bool
is_passable t n = is_passable_slot t.first n (t.slot n)

-- the number is one of the window of which nothing is known
abbrev pub is_open : Tracked → ℕ → Bool
is_open t n = is_in_window t.place n && is_missing (t.slot n)

-- nothing moves the place by what is known already: nothing is known of the number there, and it can't be passed over
abbrev pub is_waiting : Tracked → Bool
is_waiting t = is_missing (t.slot t.place) && nat_le t.first t.place

-- a received change of this number does something: it is held, or the place may go on by what is known already
abbrev pub may_take : Tracked → ℕ → Bool
may_take t number = not (is_waiting t) || is_open t number

-- a received change is held, if its number is one of the window of which nothing is known
abbrev pub with_data : ℕ → Change → Tracked → Tracked
with_data number change t = record t { slot = λ n. if (number == n) && is_open t n then Held change else t.slot n }

-- a GAP names the number: it is from gapStart to below the list's base, or in the list
abbrev pub is_named : ℕ → NumberSet → ℕ → Bool
is_named start list n = (nat_le start n && nat_lt n list.base) || has_number list n

-- what a GAP names is irrelevant, as far as it is of the window and nothing is known of it
abbrev pub with_gap : ℕ → NumberSet → Tracked → Tracked
with_gap start list t = record t { slot = λ n. if is_named start list n && is_open t n then Irrelevant else t.slot n }

-- an accepted HEARTBEAT tells its firstSN and its count
abbrev pub with_heartbeat : ℕ → ℤ → Tracked → Tracked
with_heartbeat first count t = record t { first = max t.first first; count = Some count }

-- two say the same, number by number
pub record SameTracked (old new : Tracked) : Type 0 where
  pub place : new.place ≡ old.place
  pub slots : (n : ℕ) → new.slot n ≡ old.slot n
  pub first : new.first ≡ old.first
  pub count : new.count ≡ old.count
  pub acknacks : new.acknacks ≡ old.acknacks
