-- What is left to do at a link, and at which link (RTPS 2.5, 8.5: discovery).
use Rattle.std.specs.Prelude.{ℕ, ◌==◌, ◌&&◌, Bool, true, false, not, List, length, is_some, Option, Some, None, if◌then◌else◌}
use Rattle.std.specs.List.{list_any}
use Rattle.std.specs.Option.{option_map, option_or}
use Rattle.dds_base.specs.declared.guid.GuidPrefix.{GuidPrefix}
use Rattle.dds_base.specs.Checked.{same_prefix}
use Rattle.rtps_discovery.specs.declared.row.Row.{Row}
use Rattle.rtps_discovery.specs.Rows.{has_row, is_there}
use Rattle.dds_network.specs.Works.{task_of}
use Rattle.dds_discovery.specs.declared.due.Chore.{Chore}
use Rattle.dds_discovery.specs.declared.due.Chore.TheVariants.{Do, Publication, Send, Subscription, Turn}
use Rattle.dds_discovery.specs.declared.link.Link.{Link}

-- the link is with this participant
abbrev pub is_link : GuidPrefix → Link → Bool
is_link prefix l = same_prefix l.network.prefix prefix

-- there is a link with the participant
abbrev pub has_link : GuidPrefix → List Link → Bool
has_link prefix links = list_any (is_link prefix) links

-- it is one of these participants
abbrev pub is_among : List GuidPrefix → GuidPrefix → Bool
is_among prefixes prefix = list_any (λ (p : GuidPrefix). same_prefix p prefix) prefixes

-- its participant is known no more
abbrev pub is_left : List Row → Link → Bool
is_left rows l = not (has_row l.network.prefix rows)

-- nor is this one
abbrev pub is_forgotten : List Row → GuidPrefix → Bool
is_forgotten rows prefix = not (has_row prefix rows)

-- who is known has no link yet, and it was not found that there can be none
abbrev pub is_new : List Link → List GuidPrefix → Row → Bool
is_new links unopened r = not (has_link r.participant.prefix links) && not (is_among unopened r.participant.prefix)

-- its participant is there again, or is there no more
abbrev pub turn_of : Bool → Bool → Option Bool
turn_of true true = None
turn_of true false = Some false
turn_of false true = Some true
turn_of false false = None

-- What is done next at a link whose participant is there or not: its endpoints wake or sleep; its packets go out; the samples
-- that came are acted on; its peer does a task. So no packet and no sample is left where a task is done.
abbrev pub chore_of : Bool → ℕ → ℕ → Link → Option Chore
chore_of there own removed l =
    option_or (option_map Turn (turn_of l.network.work.is_awake there))
    (if not (length l.packets.items == 0) then Some Send
    else if not (length l.network.publications.items == 0) then Some Publication
    else if not (length l.network.subscriptions.items == 0) then Some Subscription
    else option_map Do (task_of own removed l.network.work))

-- something is left to do there
abbrev pub is_busy : List Row → ℕ → ℕ → Link → Bool
is_busy rows own removed l = is_some (chore_of (is_there l.network.prefix rows) own removed l)
