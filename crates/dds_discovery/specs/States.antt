-- What the discovery machine knows, and which step is next (RTPS 2.5, 8.5: discovery).
use Rattle.std.specs.Prelude.{ℕ, ◌-◌, ◌&&◌, ◌<◌, List, length, position, nat_lt, Option, None, if◌then◌else◌}
use Rattle.std.specs.Option.{option_map, option_or}
use Rattle.dds_base.specs.declared.guid.GuidPrefix.{GuidPrefix}
use Rattle.rtps_discovery.specs.Steps.{State as Participants}
use Rattle.rtps_matching.specs.Steps.{Table}
use Rattle.dds_discovery.specs.declared.due.Due.{Due}
use Rattle.dds_discovery.specs.declared.due.Due.TheVariants.{Forget, Leave, Open, Serve}
use Rattle.dds_discovery.specs.declared.link.Link.{Link}
use Rattle.dds_discovery.specs.declared.link.Removed.{Removed}
use Rattle.dds_discovery.specs.Dues.{is_busy, is_forgotten, is_left, is_new}
use Rattle.dds_discovery.specs.Tasks.{Having}

-- The machine: who we are; the participants that are known; our endpoints and those of others; the links with participants, and with
-- whom there can be none; our endpoints that were taken out; how many links there are at most; what time it is; and when we say next
-- that we are alive.
pub record State : Type 0 where
  pub own : GuidPrefix
  pub participants : Participants
  pub endpoints : Table
  pub links : List Link
  pub unopened : List GuidPrefix
  pub removed : List Removed
  pub most : ℕ
  pub time : ℕ
  pub interval : ℕ
  pub next : ℕ

-- the place of the first row whose participant gets a link, while there is room for one
abbrev pub newcomer : State → Option ℕ
newcomer s =
    if nat_lt (length s.links) s.most && nat_lt (length s.unopened) (s.most - length s.links)
    then position (is_new s.links s.unopened) s.participants.rows
    else None

-- the place of the first link at which something is left to do
abbrev pub busy : State → Option ℕ
busy s = position (is_busy s.participants.rows (length s.endpoints.own) (length s.removed)) s.links

-- The next step: who is known no more is left, a newcomer gets a link, and then what is left at links is done.
abbrev pub due : State → Option Due
due s =
    option_or (option_map Leave (position (is_left s.participants.rows) s.links))
    (option_or (option_map Forget (position (is_forgotten s.participants.rows) s.unopened))
    (option_or (option_map Open (newcomer s)) (option_map Serve (busy s))))

-- the place is one
abbrev pub IsWithin : State → Due → Type 0
IsWithin s (Leave place) = place < length s.links
IsWithin s (Forget place) = place < length s.unopened
IsWithin s (Open place) = place < length s.participants.rows
IsWithin s (Serve place) = place < length s.links

-- what our peers speak of
abbrev pub having : State → Having
having s = record { prefix = s.own; own = s.endpoints.own; removed = s.removed; time = s.time }
