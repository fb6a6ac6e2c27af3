-- What a step leads to (RTPS 2.5, 8.5: discovery).
use Rattle.std.specs.Prelude.{◌≡◌, ◌⊎◌, ℕ, ◌++◌, ◌∷◌, List, [], length, remove, slice_index_or, slice_set, Option, None, Some}
use Rattle.rtps_discovery.specs.declared.packet.Packet.{Packet}
use Rattle.rtps_discovery.specs.declared.row.Row.{Row}
use Rattle.rtps_discovery.specs.Rows.{is_there}
use Rattle.rtps_matching.specs.declared.told.Told.{Told}
use Rattle.rtps_matching.specs.Matches.{is_of}
use Rattle.rtps_matching.specs.Steps.{Table, told_without, without}
use Rattle.dds_discovery.specs.declared.due.Chore.{Chore}
use Rattle.dds_discovery.specs.declared.due.Due.{Due}
use Rattle.dds_discovery.specs.declared.due.Due.TheVariants.{Forget, Leave, Open, Serve}
use Rattle.dds_discovery.specs.declared.discovery.Step.{Step}
use Rattle.dds_discovery.specs.declared.discovery.Step.TheVariants.{Done, Settled}
use Rattle.dds_discovery.specs.declared.link.Link.{Link}
use Rattle.dds_discovery.specs.Chores.{CantBeOpened, DoesChore, IsOpenLink}
use Rattle.dds_discovery.specs.Dues.{chore_of}
use Rattle.dds_discovery.specs.States.{State, due, having}

-- it goes on with these links and these endpoints
abbrev pub with_links : List Link → Table → State → State
with_links links t s = record {
  own = s.own;
  participants = s.participants;
  endpoints = t;
  links = links;
  unopened = s.unopened;
  removed = s.removed;
  most = s.most;
  time = s.time;
  interval = s.interval;
  next = s.next;
}

-- The participant of the link at a place is known no more: its endpoints are gone, and so is the link.
pub record Leaves (place : ℕ) (s : State) (told : List Told) (new : State) : Type 0 where
  pub link : Link
  pub at : link ≡ slice_index_or s.links place link
  pub state : new ≡ with_links (remove s.links place) (without (is_of link.network.prefix) s.endpoints) s
  pub told_is : told ≡ told_without (is_of link.network.prefix) s.endpoints

-- A participant with whom there could be no link is known no more.
abbrev pub forgotten : ℕ → State → State
forgotten place s = record s { unopened = remove s.unopened place }

-- The participant of the row at a place gets a link behind the others, or it is found that there can be none.
pub record Opens (place : ℕ) (s : State) (new : State) : Type 0 where
  pub row : Row
  pub at : row ≡ slice_index_or s.participants.rows place row
  pub opens : ((link : Link) × IsOpenLink s.own row.participant (length s.removed) link
      × (new ≡ with_links (s.links ++ link ∷ []) s.endpoints s))
      ⊎ (CantBeOpened s.own row.participant × (new ≡ record s { unopened = s.unopened ++ row.participant.prefix ∷ [] }))

-- What is done next at the link at a place.
pub record IsChoreAt (s : State) (place : ℕ) (chore : Option Chore) : Type 0 where
  pub link : Link
  pub at : link ≡ slice_index_or s.links place link
  pub is : chore ≡ chore_of (is_there link.network.prefix s.participants.rows) (length s.endpoints.own) (length s.removed) link

-- At the link at a place what is due there is done, and nothing else changes.
pub record Serves (place : ℕ) (s : State) (told : List Told) (packet : Option Packet) (new : State) : Type 0 where
  pub chore : Option Chore
  pub link : Link
  pub after : Link
  pub endpoints : Table
  pub is : IsChoreAt s place chore
  pub at : link ≡ slice_index_or s.links place link
  pub does : DoesChore (having s) s.participants.rows chore link s.endpoints told packet after endpoints
  pub state : new ≡ with_links (slice_set s.links place after) endpoints s

-- What a step tells and sends, and what is known afterwards.
abbrev pub Does : Due → State → List Told → Option Packet → State → Type 0
Does (Leave place) s told packet new = Leaves place s told new × (packet ≡ None)
Does (Forget place) s told packet new = (new ≡ forgotten place s) × (told ≡ []) × (packet ≡ None)
Does (Open place) s told packet new = Opens place s new × (told ≡ []) × (packet ≡ None)
Does (Serve place) s told packet new = Serves place s told packet new

-- The next step was done, or none was left.
abbrev pub IsStep : State → State → Step → Type 0
IsStep s new Settled = (due s ≡ None) × (new ≡ s)
IsStep s new (Done done) = (next : Due) × (due s ≡ Some next) × Does next s done.told.items done.packet new
