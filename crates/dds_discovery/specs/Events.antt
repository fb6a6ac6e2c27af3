-- What events lead to (RTPS 2.5, 8.5: discovery; 8.4.13: participant messages).
use Rattle.std.specs.Prelude.{◌≡◌, ◌⊎◌, ℕ, ◌+◌, ◌-◌, ◌/◌, ◌^◌, ◌++◌, ◌∷◌, Bool, not, nat_lt, min, max, List, [], find, map, position, slice_index_or, slice_set, Option, None, Some, MatchOption, if◌then◌else◌}
use Rattle.std.specs.List.{list_any}
use Rattle.std.specs.Option.{option_map}
use Rattle.dds_base.specs.declared.guid.Guid.{Guid}
use Rattle.dds_base.specs.declared.guid.GuidPrefix.{GuidPrefix}
use Rattle.dds_base.specs.declared.mask.Masks.{Masks}
use Rattle.rtps_wire.specs.Messages.{HasHeader}
use Rattle.rtps_announcements.specs.declared.locator.Locator.{Locator}
use Rattle.rtps_announcements.specs.declared.participant.Participant.{Participant}
use Rattle.rtps_announcements.specs.declared.qos.EndpointKind.{EndpointKind}
use Rattle.rtps_discovery.specs.declared.packet.Packet.{Packet}
use Rattle.rtps_discovery.specs.declared.row.Limits.{Limits}
use Rattle.rtps_discovery.specs.declared.row.Row.{Row}
use Rattle.rtps_discovery.specs.declared.row.Told.{Told}
use Rattle.rtps_discovery.specs.Leases.{taken_lease}
use Rattle.rtps_discovery.specs.Rows.{is_row_at}
use Rattle.rtps_discovery.specs.Steps.{Delivers as Spdp, opened as opened_participants, ticked as ticked_participants}
use Rattle.rtps_matching.specs.declared.end.End.{End}
use Rattle.rtps_matching.specs.Matches.{is_named}
use Rattle.rtps_matching.specs.Steps.{with_own, without_own}
use Rattle.dds_builtin.specs.Sides.{IsTooLongIn, TurnsIn}
use Rattle.dds_network.specs.declared.work.Work.{Work}
use Rattle.dds_network.specs.Works.{gone_on, turned_work}
use Rattle.dds_discovery.specs.declared.link.Link.{Link}
use Rattle.dds_discovery.specs.Again.{BeginsAgain}
use Rattle.dds_discovery.specs.Chores.{LinkTakesIn}
use Rattle.dds_discovery.specs.Dues.{is_link}
use Rattle.dds_discovery.specs.States.{State}
use Rattle.dds_discovery.specs.Steps.{with_links}

-- nobody is known, and we have no endpoints
abbrev pub opened : Participant → ℕ → List Locator → Limits → ℕ → State
opened p domain addresses limits most = record {
  own = p.prefix;
  participants = opened_participants p domain addresses limits;
  endpoints = record { own = []; far = []; most = most };
  links = [];
  unopened = [];
  removed = [];
  most = limits.of_all;
  time = 0;
  interval = taken_lease p.lease / 4;
  next = 0;
}

-- ---- a datagram

-- the place of the link with who sends from this address
abbrev pub place_at : List Row → List Link → List ℕ → GuidPrefix → Option ℕ
place_at rows links address source =
    if list_any (is_row_at source address) rows then position (is_link source) links else None

-- The place of the link that a datagram is for: that with its sender, where it comes from its address; what is no message is for
-- none.
abbrev pub IsFor : State → List ℕ → List ℕ → Option ℕ → Type 0
IsFor s address bytes place =
    ((source : GuidPrefix) × (body : List ℕ) × HasHeader bytes source body
    × (place ≡ place_at s.participants.rows s.links address source))
    ⊎ (((source : GuidPrefix) (body : List ℕ) → HasHeader bytes source body → ⊥) × (place ≡ None))

-- What a datagram is to the peer of the link at a place; none where it gets too long.
abbrev pub IsTurnedAt : List Link → ℕ → List ℕ → Option (List ℕ) → Type 0
IsTurnedAt links place bytes o = (link : Link) × (link ≡ slice_index_or links place link)
    × MatchOption o (IsTooLongIn link.network.prefix bytes) (TurnsIn link.network.prefix bytes)

-- The peer of the link at a place takes what was turned.
pub record TakesOne (masks : Masks) (turned : List ℕ) (begins : Bool) (place : ℕ) (s new : State) : Type 0 where
  pub link : Link
  pub after : Link
  pub at : link ≡ slice_index_or s.links place link
  pub takes : LinkTakesIn masks turned begins s.time link after
  pub state : new ≡ with_links (slice_set s.links place after) s.endpoints s

-- So it takes what a datagram was turned into, if that is anything.
abbrev pub TakesTurned : Masks → List ℕ → ℕ → Option (List ℕ) → State → State → Type 0
TakesTurned masks bytes place None s new = new ≡ s
TakesTurned masks bytes place (Some turned) s new =
    (again : Bool) × BeginsAgain bytes again × TakesOne masks turned again place s new

-- So it takes a datagram as it is turned; not one that gets too long.
abbrev pub Takes : Masks → List ℕ → ℕ → State → State → Type 0
Takes masks bytes place s new =
    ((turned : List ℕ) × (again : Bool) × BeginsAgain bytes again × IsTurnedAt s.links place bytes (Some turned)
    × TakesOne masks turned again place s new)
    ⊎ (IsTurnedAt s.links place bytes None × (new ≡ s))

-- A datagram speaks for its sender.
pub record Hears (s : State) (moment : ℕ) (address bytes : List ℕ) (new : State) (told : Option Told) (packet : Option Packet)
    : Type 0 where
  pub spdp : Spdp s.participants moment address bytes new.participants told packet
  pub state : new ≡ record s { participants = new.participants; time = max s.time moment }

-- A datagram speaks for its sender, and then our peer of the link with that takes it, where there is one.
pub record Delivers (masks : Masks) (s : State) (moment : ℕ) (address bytes : List ℕ) (new : State) (told : Option Told)
    (packet : Option Packet) : Type 0 where
  pub between : State
  pub place : Option ℕ
  pub hears : Hears s moment address bytes between told packet
  pub is_for : IsFor s address bytes place
  pub takes : MatchOption place (new ≡ between) (λ i. Takes masks bytes i between new)

-- ---- a tick

-- a link whose work is this
abbrev pub with_work : Work → Link → Link
with_work w l = record l { network = record l.network { work = w } }

-- Time went on at a link.
abbrev pub link_gone_on : ℕ → Bool → Link → Link
link_gone_on time speaks l = with_work (gone_on time speaks l.network.work) l

-- it is time to say that we are alive
abbrev pub speaks : ℕ → State → Bool
speaks now s = not (nat_lt now s.next)

-- Time goes on; it does not go back.
abbrev pub ticked : ℕ → State → State
ticked moment s = record {
  own = s.own;
  participants = ticked_participants s.participants (max s.participants.time moment);
  endpoints = s.endpoints;
  links = map (link_gone_on (max s.time moment) (speaks (max s.time moment) s)) s.links;
  unopened = s.unopened;
  removed = s.removed;
  most = s.most;
  time = max s.time moment;
  interval = s.interval;
  next = if speaks (max s.time moment) s then min (max s.time moment + s.interval) (2 ^ 64 - 1) else s.next;
}

-- ---- our endpoints

-- one more
abbrev pub added : End → State → State
added e s = record s { endpoints = with_own e s.endpoints }

-- all of ours are to be written again at a link
abbrev pub link_anew : Link → Link
link_anew l = with_work (turned_work l.network.work.is_awake l.network.work) l

-- whether it is a writer or a reader, of those of ours that has this name
abbrev pub kind_of : Guid → List End → Option EndpointKind
kind_of guid own = option_map (λ (e : End). e.kind) (find (is_named guid) own)

-- One of ours goes: that is told at each link, and the others are written again there.
abbrev pub removed : Guid → EndpointKind → State → State
removed guid kind s = record s {
  endpoints = without_own guid s.endpoints;
  links = map link_anew s.links;
  removed = s.removed ++ record { guid = guid; kind = kind } ∷ [];
}
