-- Our peer, as datagrams of the network reach it (RTPS 2.5, 8.3.4: the message receiver). What is said here of what it does is by
-- the steps of dds_exchange, each of which is one of the machine; s becomes r, and a turn t becomes u. Where memory is wanting
-- what came or goes is lost.
use Rattle.std.specs.Prelude.{◌≡◌, ◌⊎◌, ℕ, zero, suc, ◌++◌, ◌∷◌, Bool, true, false, List, [], length, map, slice_get, Option, Some, None, MatchBool}
use Rattle.dds_base.specs.declared.config.ReaderConfig.{ReaderConfig}
use Rattle.dds_base.specs.declared.config.WriterConfig.{WriterConfig}
use Rattle.dds_base.specs.declared.guid.Guid.{Guid}
use Rattle.dds_base.specs.declared.guid.GuidPrefix.{GuidPrefix}
use Rattle.dds_machine.specs.declared.call.Call.{Call}
use Rattle.dds_machine.specs.declared.reply.Reply.{Reply}
use Rattle.dds_network.specs.Networks.{Does}
use Rattle.dds_protocol.specs.declared.event.Event.{Event}
use Rattle.dds_protocol.specs.declared.event.Event.TheVariants.{Call as Calling, Deliver}
use Rattle.dds_protocol.specs.declared.event.Output.{Output}
use Rattle.dds_protocol.specs.declared.event.Packet.{Packet}
use Rattle.rtps_discovery.specs.declared.packet.Packet.{Packet as Datagram}
use Rattle.rtps_discovery.specs.declared.row.Row.{Row}
use Rattle.rtps_fragments.specs.Hearing.{HearsFront, HearsMessage, Row as Fragmented}
use Rattle.rtps_matching.specs.declared.far.Far.{Far}
use Rattle.rtps_matching.specs.declared.told.Told.{Told}
use Rattle.dds_exchange.specs.declared.ends.OwnEnd.{OwnEnd}
use Rattle.dds_exchange.specs.Exchanges.{Finds, GoesOut, Hears as Takes, IsOpened as IsExchange, MakesCall}
use Rattle.dds_exchange.specs.Going.{address_of}
use Rattle.dds_exchange.specs.States.{State as Exchange}
use Rattle.dds_exchange.specs.Told.{due_of}
use Rattle.dds_domain.specs.declared.early.Waiting.{Waiting}
use Rattle.dds_domain.specs.Earliness.{kept, most_early, without}
use Rattle.dds_domain.specs.Fragmented.{HasFragment}
use Rattle.dds_domain.specs.Heard.{IsHeardSo}
use Rattle.dds_domain.specs.Opening.{config_of}
use Rattle.dds_domain.specs.Turns.{MayLack, Records, Sends, State as Turn, lacking}

-- our peer with those whom it is told of, fragments of writers that our readers are matched with, datagrams that wait for a match,
-- what our readers are called on the network, and how often fragments were asked for
pub record State : Type 0 where
  pub exchange : Exchange
  pub fragments : List Fragmented
  pub early : List Waiting
  pub readers : List Guid
  pub asked : ℕ

-- our peer is at its opening, and nothing else came yet
pub record IsOpened (prefix : GuidPrefix) (writers : List WriterConfig) (readers : List ReaderConfig)
    (own_writers own_readers : List OwnEnd) (names : List Guid) (s : State)
    : Type 0 where
  pub exchange : IsExchange prefix (config_of prefix writers readers) own_writers own_readers s.exchange
  pub fragments : s.fragments ≡ []
  pub early : s.early ≡ []
  pub called : s.readers ≡ names
  pub asked : s.asked ≡ 0

abbrev pub with_exchange : Exchange → State → State
with_exchange e s = record s { exchange = e }

-- ---- what our peer sends

-- A packet goes to the address of whom it is for, as it is turned, if it can.
abbrev pub SendsOut : Exchange → List Row → Packet → Turn → Turn → Type 0
SendsOut e rows packet t u =
    ((datagram : Datagram) × GoesOut e rows packet (Some datagram) × Sends datagram t u)
    ⊎ ((GoesOut e rows packet None × (u ≡ t)) ⊎ (u ≡ lacking t))

-- So do these, in their order.
pub data SendsAll : Exchange → List Row → List Packet → Turn → Turn → Type 0 where
  sent_none : (e : Exchange) (rows : List Row) (t : Turn) → SendsAll e rows [] t t
  sent_more : (e : Exchange) (rows : List Row) (packets : List Packet) (packet : Packet) (t u v : Turn)
      → SendsAll e rows packets t u → SendsOut e rows packet u v → SendsAll e rows (packets ++ packet ∷ []) t v

-- ---- what comes

-- A message is one delivery, and what our peer answers goes out. In the record it stands as it came.
pub record DeliversIt (rows : List Row) (bytes : List ℕ) (s : State) (t : Turn) (r : State) (u : Turn) : Type 0 where
  pub output : Output
  pub given : Turn
  pub takes : Takes s.exchange bytes (Some output) r.exchange
  pub rest : r ≡ with_exchange r.exchange s
  pub records : Records (Deliver bytes) t given
  pub sends : SendsAll r.exchange rows output.packets given u

-- Or it is lost: as it gets too long, or for want of memory.
abbrev pub Delivers : List Row → List ℕ → State → Turn → State → Turn → Type 0
Delivers rows bytes s t r u =
    DeliversIt rows bytes s t r u
    ⊎ ((Takes s.exchange bytes None r.exchange × (r ≡ with_exchange r.exchange s) × (u ≡ t)) ⊎ ((r ≡ s) × (u ≡ lacking t)))

-- So do these, in their order.
pub data DeliversAll : List Row → List (List ℕ) → State → Turn → State → Turn → Type 0 where
  delivered_none : (rows : List Row) (s : State) (t : Turn) → DeliversAll rows [] s t s t
  delivered_more : (rows : List Row) (messages : List (List ℕ)) (message : List ℕ) (s : State) (t : Turn) (r : State) (u : Turn)
      (q : State) (v : Turn) → DeliversAll rows messages s t r u → Delivers rows message r u q v
      → DeliversAll rows (messages ++ message ∷ []) s t q v

-- ---- matches

-- What was told is due, behind what was.
abbrev pub Tells : List Told → List Far → State → State → Type 0
Tells told far s r =
    r ≡ with_exchange (record s.exchange { due = s.exchange.due ++ map (due_of far) told }) s

-- What waited for a writer that a reader of ours is matched with waits no more: one of it.
pub record TakesIt (s : State) (bytes : List ℕ) (r : State) : Type 0 where
  pub place : ℕ
  pub waiting : Waiting
  pub at : slice_get s.early place ≡ Some waiting
  pub heard : IsHeardSo true s.exchange waiting.writer
  pub same : bytes ≡ waiting.bytes
  pub rest : r ≡ record s { early = without place s.early }

-- None waits for such a writer.
abbrev pub NoneIsHeard : State → Type 0
NoneIsHeard s = (place : ℕ) (waiting : Waiting) → slice_get s.early place ≡ Some waiting → IsHeardSo false s.exchange waiting.writer

-- One at this place does, if there is one.
abbrev pub IsFirstEarly : State → Option ℕ → Type 0
IsFirstEarly s None = NoneIsHeard s
IsFirstEarly s (Some place) =
    (waiting : Waiting) × (slice_get s.early place ≡ Some waiting) × IsHeardSo true s.exchange waiting.writer

abbrev pub TakesEarly : State → Option (List ℕ) → State → Type 0
TakesEarly s None r = (r ≡ s) × NoneIsHeard s
TakesEarly s (Some bytes) r = TakesIt s bytes r

-- So many come, one after the other.
pub data ComesSo : ℕ → List Row → State → Turn → State → Turn → Type 0 where
  came_none : (rows : List Row) (s : State) (t : Turn) → ComesSo zero rows s t s t
  came_more : (n : ℕ) (rows : List Row) (bytes : List ℕ) (s : State) (t : Turn) (r : State) (u : Turn) (taken : State) (q : State)
      (v : Turn) → ComesSo n rows s t r u → TakesIt r bytes taken → Delivers rows bytes taken u q v → ComesSo (suc n) rows s t q v

-- All of them come: until none waits for such a writer, or as many came as wait at most.
pub record ComesEarly (rows : List Row) (s : State) (t : Turn) (r : State) (u : Turn) : Type 0 where
  pub count : ℕ
  pub comes : ComesSo count rows s t r u
  pub all : (count ≡ most_early) ⊎ NoneIsHeard r

-- The first that is due is done: where it is a call, that is recorded, and then one step of our peer.
pub record Makes (call : Call) (e : Exchange) (t : Turn) (f : Exchange) (u : Turn) : Type 0 where
  pub output : Output
  pub records : Records (Calling call) t u
  pub makes : MakesCall call e output f

abbrev pub MakesAny : Option Call → Exchange → Turn → Exchange → Turn → Type 0
MakesAny None e t f u = (f ≡ e) × (u ≡ t)
MakesAny (Some call) e t f u = Makes call e t f u

pub record MeetsOne (e : Exchange) (t : Turn) (f : Exchange) (u : Turn) : Type 0 where
  pub call : Option Call
  pub found : Exchange
  pub finds : Finds e call found
  pub makes : MakesAny call found t f u

-- So many are done, one after the other.
pub data Meetings : ℕ → Exchange → Turn → Exchange → Turn → Type 0 where
  met_none : (e : Exchange) (t : Turn) → Meetings zero e t e t
  met_more : (n : ℕ) (e : Exchange) (t : Turn) (f : Exchange) (u : Turn) (g : Exchange) (v : Turn) → Meetings n e t f u
      → MeetsOne f u g v → Meetings (suc n) e t g v

-- Some are.
abbrev pub MeetsSome : Exchange → Turn → Exchange → Turn → Type 0
MeetsSome e t f u = (count : ℕ) × Meetings count e t f u

-- All of them are, unless memory is wanting.
pub record MeetsAll (s : State) (t : Turn) (r : State) (u : Turn) : Type 0 where
  pub count : ℕ
  pub given : Turn
  pub met : Meetings count s.exchange t r.exchange given
  pub all : ((count ≡ length s.exchange.due) × (u ≡ given)) ⊎ (u ≡ lacking given)
  pub rest : r ≡ with_exchange r.exchange s

-- All that is due is done, and then what waited for it comes. Of whom fragments are put together no definition says.
pub record MeetsDue (rows : List Row) (s : State) (t : Turn) (r : State) (u : Turn) : Type 0 where
  pub met : State
  pub known : State
  pub first : Turn
  pub second : Turn
  pub meets : MeetsAll s t met first
  pub knows : known ≡ record met { fragments = known.fragments }
  pub memory : MayLack first second
  pub comes : ComesEarly rows known second r u

abbrev pub Meets : List Row → State → Turn → State → Turn → Type 0
Meets rows s t r u = MeetsDue rows s t r u ⊎ ((slice_get s.exchange.due 0 ≡ None) × (r ≡ s) × (u ≡ t))

-- ---- a datagram

-- It may be kept until a writer is matched that no reader of ours is matched with.
abbrev pub KeepsEarly : List ℕ → State → Turn → State → Turn → Type 0
KeepsEarly bytes s t r u =
    ((writer : Guid) × IsHeardSo false s.exchange writer × (r ≡ record s { early = kept writer bytes s.early }) × (u ≡ t))
    ⊎ ((r ≡ s) × MayLack t u)

-- These are the messages that its fragments make whole; where memory is wanting those of its front.
pub record WholeOf (bytes : List ℕ) (s : State) (t : Turn) (whole : List (List ℕ)) (r : State) (u : Turn) : Type 0 where
  pub heard : (HearsMessage bytes s.fragments r.fragments [] whole × (u ≡ t))
      ⊎ (HearsFront bytes s.fragments r.fragments [] whole × (u ≡ lacking t))
  pub rest : r ≡ record s { fragments = r.fragments }

-- Fragments may be asked for, at the address of a participant.
abbrev pub Asks : List Row → State → Turn → State → Turn → Type 0
Asks rows s t r u =
    (r ≡ record s { asked = r.asked })
    × (((prefix : GuidPrefix) × (datagram : Datagram) × (address_of prefix rows ≡ Some datagram.to) × Sends datagram t u)
    ⊎ MayLack t u)

-- What its fragments make whole comes.
pub record HearsFragments (rows : List Row) (bytes : List ℕ) (s : State) (t : Turn) (r : State) (u : Turn) : Type 0 where
  pub whole : List (List ℕ)
  pub taken : State
  pub after : State
  pub first : Turn
  pub second : Turn
  pub is_whole : WholeOf bytes s t whole taken first
  pub delivers : DeliversAll rows whole taken first after second
  pub asks : Asks rows after second r u

-- It comes as it is; or what its fragments make whole does, where it has some.
pub record Hears (rows : List Row) (bytes : List ℕ) (s : State) (t : Turn) (r : State) (u : Turn) : Type 0 where
  pub between : State
  pub given : Turn
  pub keeps : KeepsEarly bytes s t between given
  pub has : Bool
  pub has_fragment : HasFragment bytes has
  pub comes : MatchBool has (HearsFragments rows bytes between given r u) (Delivers rows bytes between given r u)

-- ---- calls and the time

-- It is recorded, and then one step of our peer, and what that sends goes out.
pub record Happens (rows : List Row) (event : Event) (s : State) (t : Turn) (reply : Reply) (r : State) (u : Turn) : Type 0
  where
    pub output : Output
    pub given : Turn
    pub records : Records event t given
    pub does : Does s.exchange.core event output r.exchange.core
    pub rest : r ≡ with_exchange (record s.exchange { core = r.exchange.core }) s
    pub sends : SendsAll r.exchange rows output.packets given u
    pub answers : reply ≡ output.reply
