-- The run of the machine without packets that an order of the entries of several peers is.
--
-- Such orders are this project's own.
use Rattle.std.specs.Prelude.{◌≡◌, ℕ, ◌-◌, ◌≤◌, Bool, Some, List, [], ◌∷◌, ◌++◌, length, slice_get, slice_index}
use Rattle.dds_base.specs.declared.config.Config.{Config}
use Rattle.dds_base.specs.declared.key.Key.{Key}
use Rattle.dds_conditions.specs.Filtered.{tests_of}
use Rattle.dds_notices.specs.declared.notice.Notice.{Notice}
use Rattle.dds_notices.specs.Listeners.{ByEntity, Places}
use Rattle.dds_core.specs.Listening.{CoreKept, StandsFor}
use Rattle.dds_machine.specs.declared.event.WorldEvent.{WorldEvent}
use Rattle.dds_machine.specs.declared.event.WorldEvent.TheVariants as world
use Rattle.dds_machine.specs.declared.reply.Reply.{Reply}
use Rattle.dds_machine.specs.Machine.{AllTests, Machine}
use Rattle.dds_machine.specs.Numbered.{HasNumber}
use Rattle.dds_machine.specs.Runs.{Run}
use Rattle.dds_protocol.specs.declared.event.Event.{Event}
use Rattle.dds_protocol.specs.declared.event.Event.TheVariants as event
use Rattle.dds_protocol.specs.declared.event.Packet.{Packet}
use Rattle.dds_protocol.specs.Opening.{opening_world}
use Rattle.dds_protocol.specs.Peer.{Peer}
use Rattle.dds_protocol.specs.World.{WorldState, machine_of, peer_at}
use Rattle.dds_protocol.specs.Roster.{roster_of}
use Rattle.dds_trace.specs.declared.trace.Entry.{Entry}
use Rattle.dds_trace.specs.Entries.{Traced}
use Rattle.dds_trace.specs.History.{AllMeetBy, IsHistory, IsHistoryOf, emptied, opened}
use Rattle.dds_trace.specs.Weaving.{IsHonest, none_placed, one_more}

-- an entry of the peer of this number
pub record PeerEntry : Type 0 where
  pub peer : ℕ
  pub entry : Entry

-- the next entries of the traces that the order names, one after the other
abbrev pub AreWoven : List Traced → List ℕ → List ℕ → List PeerEntry → Type 0
AreWoven ts from [] es = es ≡ []
AreWoven ts from (t ∷ order) es =
    (trace : Traced) × (e : Entry) × (rest : List PeerEntry) × (slice_get ts t ≡ Some trace)
    × (slice_get trace.entries (slice_index from t) ≡ Some e)
    × (es ≡ record { peer = trace.peer; entry = e } ∷ rest) × AreWoven ts (one_more from t) order rest

-- their replies
abbrev pub replies_of : List PeerEntry → List Reply
replies_of [] = []
replies_of (e ∷ es) = e.entry.output.reply ∷ replies_of es

-- the event of the network that an event of this peer is: there a packet goes by its number among those that were sent
abbrev pub IsEvent : List Packet → ℕ → Event → WorldEvent → Type 0
IsEvent sent peer (event.Call call) e = e ≡ world.Call peer call
IsEvent sent peer (event.Tick now) e = e ≡ world.Tick peer now
IsEvent sent peer (event.Deliver octets) e =
    (number : ℕ) × (p : Packet) × (1 ≤ number) × (slice_get sent (number - 1) ≡ Some p) × (p.bytes ≡ octets)
    × (e ≡ world.Deliver peer number)
IsEvent sent peer (event.Resume reader) e = e ≡ world.Resume peer reader

-- those of the entries, of which each sends what it sent
abbrev pub AreEvents : List Packet → List PeerEntry → List WorldEvent → Type 0
AreEvents sent [] [] = Unit {0}
AreEvents sent (e ∷ es) (w ∷ ws) =
    IsEvent sent e.peer e.entry.event w × AreEvents (sent ++ e.entry.output.packets) es ws
AreEvents sent [] (w ∷ ws) = ⊥
AreEvents sent (e ∷ es) [] = ⊥

-- the replies of the entries are a run of the machine over their events
pub record IsRun (tests : AllTests) (start : WorldState) (es : List PeerEntry) : Type 0 where
  pub events : List WorldEvent
  pub are_events : AreEvents start.sent es events
  pub sent : ℕ
  pub last : Machine
  pub run : Run tests (length start.sent) (machine_of start) events (replies_of es) sent last

-- the network at its opening, with whatever filters and places of listeners at its peers
pub record IsOpening (config : Config) (start : WorldState) : Type 0 where
  pub sent : start.sent ≡ []
  pub count : length start.peers ≡ length (opening_world config).peers
  pub each : (peer : ℕ) → HasNumber start.peers peer
      → (filters : ℕ) × (places : Places) × (peer_at start peer ≡ opened config peer filters places)

-- the traces name different peers
abbrev pub AreApart : List Traced → Type 0
AreApart ts = (t u : ℕ) (x y : Traced) → slice_get ts t ≡ Some x → slice_get ts u ≡ Some y → x.peer ≡ y.peer → t ≡ u

-- each trace is a history of a peer of the network, from what it is there
abbrev pub AreHistories : Config → AllTests → WorldState → List Traced → Type 0
AreHistories config tests start ts =
    (t : ℕ) (trace : Traced) → slice_get ts t ≡ Some trace
    → HasNumber start.peers trace.peer
    × ((last : Peer) × IsHistory (roster_of config) (tests trace.peer) (peer_at start trace.peer) trace.entries last)

-- For each configuration, each meaning of the filters and each opening from which the traces are histories of different
-- peers: the order of their entries is a run of the machine from there.
abbrev pub RunsHistories : List Traced → List ℕ → Type 0
RunsHistories ts order =
    (config : Config) (tests : AllTests) (start : WorldState) → IsOpening config start → AreApart ts
    → AreHistories config tests start ts
    → (es : List PeerEntry) × AreWoven ts (none_placed ts) order es × IsRun tests start es

-- by the entries of each trace its peer meets nobody but whom the configuration has
abbrev pub MeetByConfig : Config → List Traced → Type 0
MeetByConfig config ts = (t : ℕ) (trace : Traced) → slice_get ts t ≡ Some trace
    → AllMeetBy (roster_of config) trace.peer trace.entries

-- ---- cores

module _ {F L : Type 0} (meaning : F → Key → List ℕ → Bool) (notices : L → List Notice) (capacity : L → ℕ)
    (becomes : L → Notice → L → Type 0) (given : ℕ → ByEntity L) (config : Config) (cores : ℕ → CoreKept F L) (ts : List Traced) where
  -- each trace is a history of the core of its peer
  abbrev pub AreHistoriesOf : Type 0
  AreHistoriesOf = (t : ℕ) (trace : Traced) → slice_get ts t ≡ Some trace
      → HasNumber (opening_world config).peers trace.peer
      × IsHistoryOf meaning notices capacity becomes (given trace.peer) config trace.peer trace.entries
      (cores trace.peer)

  -- the peer begins with the filters of its core, and with the places of the listeners that it has at the end, to which
  -- nothing was told yet
  abbrev pub BeginsAs : WorldState → ℕ → Type 0
  BeginsAs start number = (last : Peer) × StandsFor notices capacity becomes (given number) (cores number) (roster_of config) last
      × (peer_at start number
      ≡ opened config number (length (cores number).filtered.filters) (emptied last.part.dds.listeners))

  -- The order of their entries is a run of the machine by what the filters of the cores mean, from the opening with the
  -- filters and the places of listeners of the cores.
  pub record IsRunOf (order : List ℕ) : Type 0 where
    pub start : WorldState
    pub opens : IsOpening config start
    pub begins : (t : ℕ) (trace : Traced) → slice_get ts t ≡ Some trace → BeginsAs start trace.peer
    pub es : List PeerEntry
    pub are_woven : AreWoven ts (none_placed ts) order es
    pub run : IsRun (λ peer. tests_of meaning (cores peer).filtered.filters) start es

  -- so is each honest order of their entries, where they are of different peers, which meet whom the configuration has
  abbrev pub HonestOrdersRun : Type 0
  HonestOrdersRun = (order : List ℕ) → AreApart ts → AreHistoriesOf → MeetByConfig config ts → IsHonest ts order
      → IsRunOf order
