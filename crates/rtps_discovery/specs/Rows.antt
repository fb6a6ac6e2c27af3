-- The participants that are known, each with its lease (RTPS 2.5, 8.5.3: SPDP; 9.6: PID_PARTICIPANT_LEASE_DURATION).
use Rattle.std.specs.Prelude.{ℕ, ◌+◌, ◌&&◌, Bool, true, false, not, List, [], ◌∷◌, ◌++◌, length, map, filter, find, remove, nat_lt, slice_set, Option, Some, None, unwrap_or, if◌then◌else◌}
use Rattle.std.specs.List.{count_by, list_any, position}
use Rattle.std.specs.Option.{option_map, option_map_or}
use Rattle.std.specs.Str.{bytes_eq}
use Rattle.dds_base.specs.declared.guid.GuidPrefix.{GuidPrefix}
use Rattle.dds_base.specs.Checked.{same_prefix}
use Rattle.rtps_announcements.specs.declared.locator.Locator.{Locator}
use Rattle.rtps_announcements.specs.declared.participant.Participant.{Participant}
use Rattle.rtps_discovery.specs.declared.row.Row.{Row}
use Rattle.rtps_discovery.specs.declared.row.Limits.{Limits}
use Rattle.rtps_discovery.specs.declared.row.Told.{Told}
use Rattle.rtps_discovery.specs.declared.row.Told.TheVariants.{Appeared, Gone}
use Rattle.rtps_discovery.specs.Leases.{taken_lease}

-- the row of a participant
abbrev pub is_row : GuidPrefix → Row → Bool
is_row prefix r = same_prefix r.participant.prefix prefix

-- the row of a participant whose datagrams come from this address
abbrev pub is_row_at : GuidPrefix → List ℕ → Row → Bool
is_row_at prefix address r = is_row prefix r && bytes_eq r.source address

-- there is a row of the participant
abbrev pub has_row : GuidPrefix → List Row → Bool
has_row prefix rows = list_any (is_row prefix) rows

-- the participant is taken to be there
abbrev pub is_there : GuidPrefix → List Row → Bool
is_there prefix rows = list_any (λ (r : Row). is_row prefix r && r.is_awake) rows

-- where a participant is sent to: the first of its locators at the address that its datagrams come from
abbrev pub reach : Row → Option Locator
reach r = find (λ (l : Locator). bytes_eq l.address r.source) r.participant.metatraffic

-- ---- what changes

-- a datagram came in its name, from its address: it is there, and its lease begins anew
abbrev pub heard_row : GuidPrefix → List ℕ → ℕ → Row → Row
heard_row prefix address now r = if is_row_at prefix address r then record {
  participant = r.participant;
  source = r.source;
  heard = now;
  is_awake = true;
} else r

abbrev pub heard : GuidPrefix → List ℕ → ℕ → List Row → List Row
heard prefix address now rows = map (heard_row prefix address now) rows

-- it left, and said so from its address
abbrev pub parted : GuidPrefix → List ℕ → List Row → List Row
parted prefix address rows = filter (λ (r : Row). not (is_row_at prefix address r)) rows

-- its lease has ended
abbrev pub has_ended : ℕ → Row → Bool
has_ended now r = r.is_awake && not (nat_lt now (r.heard + taken_lease r.participant.lease))

abbrev pub slept_row : ℕ → Row → Row
slept_row now r = if has_ended now r then record {
  participant = r.participant;
  source = r.source;
  heard = r.heard;
  is_awake = false;
} else r

-- the leases that have ended by now end
abbrev pub slept : ℕ → List Row → List Row
slept now rows = map (slept_row now) rows

-- ---- newcomers

abbrev pub is_from : List ℕ → Row → Bool
is_from address r = bytes_eq r.source address

-- these rows: those of an address, or all
abbrev pub among : Option (List ℕ) → Row → Bool
among None r = true
among (Some address) r = is_from address r

-- one of these that sleeps
abbrev pub is_asleep : Option (List ℕ) → Row → Bool
is_asleep address r = among address r && not r.is_awake

-- Of these rows that sleep it was heard first.
abbrev pub is_asleep_longest : Option (List ℕ) → List Row → Row → Bool
is_asleep_longest address rows r =
    is_asleep address r && not (list_any (λ (o : Row). is_asleep address o && nat_lt o.heard r.heard) rows)

-- the rows without the first that sleeps longest of these; none where all of these are awake
abbrev pub without_one : Option (List ℕ) → List Row → Option (List Row)
without_one address rows = option_map (remove rows) (position (is_asleep_longest address rows) rows)

-- Room for a newcomer at an address: there is some, or of the rows of that address, or of all, one that sleeps makes it.
abbrev pub with_room : Limits → List ℕ → List Row → Option (List Row)
with_room limits address rows =
    if not (nat_lt (count_by (is_from address) rows) limits.of_one_address) then without_one (Some address) rows
    else if not (nat_lt (length rows) limits.of_all) then without_one None rows
    else Some rows

-- the row of a newcomer
abbrev pub new_row : Participant → List ℕ → ℕ → Row
new_row p address now = record { participant = p; source = address; heard = now; is_awake = true }

-- who is known announced itself anew, from its address
abbrev pub announced : Participant → List ℕ → ℕ → List Row → List Row
announced p address now rows =
    option_map_or (λ i. slice_set rows i (new_row p address now)) (position (is_row_at p.prefix address) rows) rows

-- a newcomer gets a row behind the others, where there is room
abbrev pub entered : Limits → Participant → List ℕ → ℕ → List Row → List Row
entered limits p address now rows =
    unwrap_or (option_map (λ (kept : List Row). kept ++ new_row p address now ∷ []) (with_room limits address rows)) rows

-- ---- what is told: the difference of two tables

abbrev pub difference : GuidPrefix → Bool → Bool → Option Told
difference prefix true true = None
difference prefix true false = Some (Gone prefix)
difference prefix false true = Some (Appeared prefix)
difference prefix false false = None

abbrev pub told_of : GuidPrefix → List Row → List Row → Option Told
told_of prefix old new = difference prefix (is_there prefix old) (is_there prefix new)
