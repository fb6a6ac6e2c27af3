-- What discovery of participants does: what it knows after an event, what it tells, and what it sends (RTPS 2.5, 8.5.3).
use Rattle.std.specs.Prelude.{◌≡◌, ◌⊎◌, ℕ, ◌+◌, ◌-◌, ◌^◌, ◌/◌, ◌<◌, length, ◌&&◌, Bool, true, false, not, List, [], ◌++◌, map, filter, filter_map, min, max, nat_lt, Option, Some, None, if◌then◌else◌}
use Rattle.std.specs.Option.{option_and_then, option_map}
use Rattle.dds_base.specs.declared.guid.GuidPrefix.{GuidPrefix}
use Rattle.dds_base.specs.Checked.{same_prefix}
use Rattle.rtps_wire.specs.Messages.{HasHeader}
use Rattle.rtps_announcements.specs.declared.locator.Locator.{Locator}
use Rattle.rtps_announcements.specs.declared.participant.Participant.{Participant}
use Rattle.rtps_announcements.specs.WrittenParticipants.{IsWritableParticipant, text_of_participant}
use Rattle.rtps_discovery.specs.declared.packet.Packet.{Packet}
use Rattle.rtps_discovery.specs.declared.row.Row.{Row}
use Rattle.rtps_discovery.specs.declared.row.Limits.{Limits}
use Rattle.rtps_discovery.specs.declared.row.Told.{Told}
use Rattle.rtps_discovery.specs.declared.row.Told.TheVariants.{Gone}
use Rattle.rtps_discovery.specs.declared.spdp.Said.{Said}
use Rattle.rtps_discovery.specs.declared.spdp.Said.TheVariants.{Announces, Leaves}
use Rattle.rtps_discovery.specs.Leases.{taken_lease}
use Rattle.rtps_discovery.specs.Packets.{announcement_data, everyone, farewell_data, message_to}
use Rattle.rtps_discovery.specs.Rows.{announced, entered, has_ended, has_row, heard, new_row, parted, reach, slept, told_of, with_room}
use Rattle.rtps_discovery.specs.Spdp.{SaysFirst, everybody, spdp_reader}

-- Discovery of participants: who we are, the DATA by which we tell all and one, and whom; who is known, what time it is, and
-- when we announce ourselves next.
pub record State : Type 0 where
  pub own : GuidPrefix
  pub domain : ℕ
  pub for_all : List ℕ
  pub for_one : List ℕ
  pub interval : ℕ
  pub addresses : List Locator
  pub limits : Limits
  pub rows : List Row
  pub time : ℕ
  pub next : ℕ

-- nobody is known, and we announce ourselves at the first tick; then each quarter of our lease
abbrev pub opened : Participant → ℕ → List Locator → Limits → State
opened p domain addresses limits = record {
  own = p.prefix;
  domain = domain;
  for_all = announcement_data everyone (text_of_participant domain p);
  for_one = announcement_data spdp_reader (text_of_participant domain p);
  interval = taken_lease p.lease / 4;
  addresses = addresses;
  limits = limits;
  rows = [];
  time = 0;
  next = 0;
}

-- It has no written form, or one that is longer than 65,000 octets.
abbrev pub CantBeAnnounced : ℕ → Participant → Type 0
CantBeAnnounced domain p = (IsWritableParticipant p → ⊥) ⊎ (65000 < length (text_of_participant domain p))

-- it goes on with these rows
abbrev pub with_rows : State → List Row → ℕ → ℕ → State
with_rows s rows now next = record {
  own = s.own;
  domain = s.domain;
  for_all = s.for_all;
  for_one = s.for_one;
  interval = s.interval;
  addresses = s.addresses;
  limits = s.limits;
  rows = rows;
  time = now;
  next = next;
}

-- our announcement for one participant, where it can be reached
abbrev pub packet_for : GuidPrefix → List ℕ → Row → Option Packet
packet_for own for_one r = option_map (λ (l : Locator). record {
  to = l;
  bytes = message_to own (Some r.participant.prefix) for_one;
}) (reach r)

abbrev pub announced_to : State → Row → Option Packet
announced_to s r = packet_for s.own s.for_one r

-- ---- a datagram

-- it is neither ours nor without a sender
abbrev pub is_other : State → GuidPrefix → Bool
is_other s source = not (same_prefix source s.own) && not (same_prefix source everybody)

-- the rows after what was said
abbrev pub rows_after : State → GuidPrefix → List ℕ → ℕ → Option Said → List Row
rows_after s source address now None = heard source address now s.rows
rows_after s source address now (Some Leaves) = parted source address (heard source address now s.rows)
rows_after s source address now (Some (Announces p)) =
    if has_row source s.rows then announced p address now (heard source address now s.rows)
    else entered s.limits p address now s.rows

-- a newcomer that gets a row is told of us at once
abbrev pub welcome : State → GuidPrefix → List ℕ → ℕ → Option Said → Option Packet
welcome s source address now None = None
welcome s source address now (Some Leaves) = None
welcome s source address now (Some (Announces p)) =
    if has_row source s.rows then None
    else option_and_then (λ (rows : List Row). announced_to s (new_row p address now)) (with_room s.limits address s.rows)

-- what a datagram of an address leads to
pub record Hears (s : State) (moment : ℕ) (address bytes : List ℕ) (new : State) (told : Option Told) (packet : Option Packet)
    : Type 0 where
  pub source : GuidPrefix
  pub body : List ℕ
  pub said : Option Said
  pub header : HasHeader bytes source body
  pub other : is_other s source ≡ true
  pub says : SaysFirst s.own source s.domain body said
  pub state : new ≡ with_rows s (rows_after s source address (max s.time moment) said) (max s.time moment) s.next
  pub told_is : told ≡ told_of source s.rows new.rows
  pub packet_is : packet ≡ welcome s source address (max s.time moment) said

-- what is no message of another participant says nothing
pub record PassesOver (s : State) (moment : ℕ) (bytes : List ℕ) (new : State) (told : Option Told) (packet : Option Packet)
    : Type 0 where
  pub none : (source : GuidPrefix) (body : List ℕ) → HasHeader bytes source body → is_other s source ≡ false
  pub state : new ≡ with_rows s s.rows (max s.time moment) s.next
  pub told_is : told ≡ None
  pub packet_is : packet ≡ None

abbrev pub Delivers : State → ℕ → List ℕ → List ℕ → State → Option Told → Option Packet → Type 0
Delivers s moment address bytes new told packet =
    Hears s moment address bytes new told packet ⊎ PassesOver s moment bytes new told packet

-- ---- a tick, and the end

-- our announcement for all, and for each participant
abbrev pub announcements : State → List Packet
announcements s =
    map (λ (l : Locator). record { to = l; bytes = message_to s.own None s.for_all }) s.addresses
    ++ filter_map (packet_for s.own s.for_one) s.rows

-- it is time to announce ourselves
abbrev pub is_due : State → ℕ → Bool
is_due s now = not (nat_lt now s.next)

abbrev pub ticked : State → ℕ → State
ticked s now =
    with_rows s (slept now s.rows) now (if is_due s now then min (now + s.interval) (2 ^ 64 - 1) else s.next)

abbrev pub told_of_ended : ℕ → List Row → List Told
told_of_ended now rows = map (λ (r : Row). Gone r.participant.prefix) (filter (has_ended now) rows)

abbrev pub told_at : State → ℕ → List Told
told_at s now = told_of_ended now s.rows

abbrev pub sent_at : State → ℕ → List Packet
sent_at s now = if is_due s now then announcements s else []

-- what we say to all, and to each participant, as we leave
abbrev pub farewells : State → List Packet
farewells s =
    map (λ (l : Locator). record { to = l; bytes = message_to s.own None (farewell_data s.own) })
    (s.addresses ++ filter_map reach s.rows)
