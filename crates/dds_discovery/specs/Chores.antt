-- What a step at a link leads to (RTPS 2.5, 8.5.4: SEDP).
use Rattle.std.specs.Prelude.{◌≡◌, ◌⊎◌, ℕ, ◌-◌, ◌*◌, ◌^◌, ◌&&◌, Bool, true, false, not, nat_lt, List, [], ◌∷◌, find, is_some, Option, Some, None, if◌then◌else◌}
use Rattle.std.specs.Option.{option_and_then}
use Rattle.dds_base.specs.declared.guid.GuidPrefix.{GuidPrefix}
use Rattle.dds_base.specs.declared.mask.Masks.{Masks}
use Rattle.dds_base.specs.declared.sample.Sample.{Sample}
use Rattle.rtps_announcements.specs.declared.locator.Locator.{Locator}
use Rattle.rtps_announcements.specs.declared.participant.Participant.{Participant}
use Rattle.rtps_announcements.specs.declared.qos.EndpointKind.{EndpointKind}
use Rattle.rtps_announcements.specs.declared.qos.EndpointKind.TheVariants.{Reader, Writer}
use Rattle.rtps_discovery.specs.declared.packet.Packet.{Packet}
use Rattle.rtps_discovery.specs.declared.row.Row.{Row}
use Rattle.rtps_discovery.specs.Rows.{is_row, reach}
use Rattle.rtps_matching.specs.declared.told.Told.{Told}
use Rattle.rtps_matching.specs.Matches.{is_of}
use Rattle.rtps_matching.specs.Steps.{Table, WhereSo, told_of_waking, told_without, turned_all}
use Rattle.dds_builtin.specs.Builtin.{network_of, number_of}
use Rattle.dds_builtin.specs.Samples.{HearsSample}
use Rattle.dds_builtin.specs.Sides.{IsTooLongOut, TurnsOut}
use Rattle.dds_core.specs.Opening.{core_refusal}
use Rattle.dds_protocol.specs.declared.event.Packet.{Packet as Sent}
use Rattle.dds_protocol.specs.declared.event.Output.{Output}
use Rattle.dds_network.specs.declared.network.Network.{Network}
use Rattle.dds_network.specs.declared.work.Work.{Work}
use Rattle.dds_network.specs.Networks.{IsOpened, TakesIn}
use Rattle.dds_network.specs.Works.{turned_work}
use Rattle.dds_discovery.specs.declared.due.Chore.{Chore}
use Rattle.dds_discovery.specs.declared.due.Chore.TheVariants.{Do, Publication, Send, Subscription, Turn}
use Rattle.dds_discovery.specs.declared.link.Link.{Link}
use Rattle.dds_discovery.specs.declared.serving.Known.{Known}
use Rattle.dds_discovery.specs.Tasks.{DoesTask, Having}

-- A link was opened with a participant: nothing is to go out yet.
pub record IsOpenLink (own : GuidPrefix) (far : Participant) (removed : ℕ) (l : Link) : Type 0 where
  pub network : IsOpened own far removed l.network
  pub packets : l.packets.items ≡ []

-- There can be none: the prefixes are not those of two peers.
abbrev pub CantBeOpened : GuidPrefix → Participant → Type 0
CantBeOpened own far = is_some (core_refusal (network_of own far).peers (number_of own far)) ≡ true

-- where a participant is sent to, if it is known and can be reached
abbrev pub address_of : GuidPrefix → List Row → Option Locator
address_of prefix rows = option_and_then reach (find (is_row prefix) rows)

-- A packet goes there as it is turned; none goes where its participant can't be reached, or where it gets too long.
abbrev pub GoesOut : GuidPrefix → Option Locator → List ℕ → Option Packet → Type 0
GoesOut own to bytes (Some p) = (to ≡ Some p.to) × TurnsOut own bytes p.bytes
GoesOut own to bytes None = (to ≡ None) ⊎ IsTooLongOut own bytes

-- The first packet of a link goes out, and is no more there.
pub record SendsOne (own : GuidPrefix) (rows : List Row) (l : Link) (packet : Option Packet) (new : Link) : Type 0 where
  pub first : Sent
  pub items : l.packets.items ≡ first ∷ new.packets.items
  pub goes : GoesOut own (address_of l.network.prefix rows) first.bytes packet
  pub network : new.network ≡ l.network

abbrev pub Sends : GuidPrefix → List Row → Link → Option Packet → Link → Type 0
Sends own rows l packet new =
    SendsOne own rows l packet new ⊎ ((l.packets.items ≡ []) × (packet ≡ None) × (new ≡ l))

-- The first of some samples is acted on, and is no more there.
pub record HearsOne (prefix : GuidPrefix) (kind : EndpointKind) (samples : List Sample) (t : Table) (told : List Told)
    (rest : List Sample) (new : Table) : Type 0 where
  pub first : Sample
  pub items : samples ≡ first ∷ rest
  pub hears : HearsSample prefix kind first t new told

abbrev pub HearsFirst : GuidPrefix → EndpointKind → List Sample → Table → List Told → List Sample → Table → Type 0
HearsFirst prefix kind samples t told rest new =
    HearsOne prefix kind samples t told rest new ⊎ ((samples ≡ []) × (rest ≡ []) × (told ≡ []) × (new ≡ t))

-- What came of the endpoints of a kind.
abbrev pub samples_of : EndpointKind → Network → List Sample
samples_of Writer n = n.publications.items
samples_of Reader n = n.subscriptions.items

-- those of the other kind
abbrev pub other_kind : EndpointKind → EndpointKind
other_kind Writer = Reader
other_kind Reader = Writer

-- The first sample of a kind is acted on; nothing else changes at the link.
pub record HearsAt (kind : EndpointKind) (l : Link) (t : Table) (told : List Told) (new : Link) (after : Table) : Type 0 where
  pub hears : HearsFirst l.network.prefix kind (samples_of kind l.network) t told (samples_of kind new.network) after
  pub others : samples_of (other_kind kind) new.network ≡ samples_of (other_kind kind) l.network
  pub prefix : new.network.prefix ≡ l.network.prefix
  pub core : new.network.core ≡ l.network.core
  pub work : new.network.work ≡ l.network.work
  pub packets : new.packets ≡ l.packets

-- A participant is there again, or is there no more: its endpoints wake or sleep.
abbrev pub TurnsTable : Bool → GuidPrefix → Table → List Told → Table → Type 0
TurnsTable there prefix t told after = WhereSo there
    ((after ≡ turned_all prefix true t) × (told ≡ told_of_waking prefix t))
    ((after ≡ turned_all prefix false t) × (told ≡ told_without (is_of prefix) t))

-- So they do at a link, and ours are to be written again there.
pub record Turns (there : Bool) (l : Link) (t : Table) (told : List Told) (new : Link) (after : Table) : Type 0 where
  pub table : TurnsTable there l.network.prefix t told after
  pub network : new.network ≡ record l.network { work = turned_work there l.network.work }
  pub packets : new.packets ≡ l.packets

-- These tell nothing else, and send nothing.
abbrev pub TurnsTo : Bool → Link → Table → List Told → Option Packet → Link → Table → Type 0
TurnsTo there l t told packet new after = Turns there l t told new after × (packet ≡ None)

abbrev pub HearsTo : EndpointKind → Link → Table → List Told → Option Packet → Link → Table → Type 0
HearsTo kind l t told packet new after = HearsAt kind l t told new after × (packet ≡ None)

-- what our peers speak of
abbrev pub known_of : Known → Table → Having
known_of k t = record { prefix = k.prefix; own = t.own; removed = k.removed.now; time = k.time }

-- What a chore does.
abbrev pub DoesChore : Having → List Row → Option Chore → Link → Table → List Told → Option Packet → Link → Table → Type 0
DoesChore o rows None l t told packet new after = (new ≡ l) × (after ≡ t) × (told ≡ []) × (packet ≡ None)
DoesChore o rows (Some (Turn there)) l t told packet new after = TurnsTo there l t told packet new after
DoesChore o rows (Some Send) l t told packet new after = Sends o.prefix rows l packet new × (told ≡ []) × (after ≡ t)
DoesChore o rows (Some Publication) l t told packet new after = HearsTo Writer l t told packet new after
DoesChore o rows (Some Subscription) l t told packet new after = HearsTo Reader l t told packet new after
DoesChore o rows (Some (Do task)) l t told packet new after =
    DoesTask o task l new × (told ≡ []) × (packet ≡ None) × (after ≡ t)

-- ---- a datagram

-- 2 seconds, in units of 2^-32 second
abbrev pub again_after : ℕ
again_after = 2 * 2 ^ 32

-- where a reader begins, and ours were not written for so long, they are written again
abbrev pub written_again : Bool → ℕ → Work → Work
written_again begins time w =
    if begins && not (nat_lt (time - w.wrote) again_after) then turned_work w.is_awake w else w

-- A datagram comes at the peer of a link, and what it answers is to go out; where it says that a reader begins, our endpoints are
-- written again.
pub record LinkTakesIn (masks : Masks) (turned : List ℕ) (begins : Bool) (time : ℕ) (l new : Link) : Type 0 where
  pub output : Output
  pub between : Network
  pub takes : TakesIn masks l.network turned output between
  pub network : new.network ≡ record between { work = written_again begins time between.work }
  pub packets : new.packets.items ≡ output.packets
