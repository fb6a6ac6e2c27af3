-- What a worker does at a shared peer, turn by turn: what its gate says, what goes over its link, and what it enters.
--
-- RTPS 2.5, 8.4 (what is sent and when), is the peer's; links, gates and turns are this project's own.
use Rattle.std.specs.Prelude.{◌≡◌, ◌⊎◌, ℕ, List, [], ◌∷◌, ◌++◌, length, Option, None, Some}
use Rattle.std.specs.List.{FoldsTo}
use Rattle.dds_base.specs.declared.code.Code.{Code}
use Rattle.dds_base.specs.declared.code.Code.TheVariants.{Memory}
use Rattle.dds_protocol.specs.declared.event.Event.{Event}
use Rattle.dds_protocol.specs.declared.event.Event.TheVariants as event_of
use Rattle.dds_protocol.specs.declared.event.Output.{Output}
use Rattle.dds_protocol.specs.declared.event.Packet.{Packet}
use Rattle.dds_trace.specs.declared.trace.Entry.{Entry}
use Rattle.dds_trace.specs.History.{entry_of}
use Rattle.dds_shared.specs.Passes.{Carried, Grows}
use Rattle.dds_pair.specs.declared.turn.Turn.{Turn}
use Rattle.dds_pair.specs.declared.turn.Turn.TheVariants.{Stop, Receive, Tick}

-- what sending packets, or receiving, may make of a link
abbrev pub Sending : Type 0 → Type 1
Sending K = K → Packet → K → Type 0

-- what receiving octets, or none, may make of a link
abbrev pub Receiving : Type 0 → Type 1
Receiving K = K → Option (List ℕ) → K → Type 0

-- what saying a turn may make of a gate
abbrev pub Saying : Type 0 → Type 1
Saying G = G → Turn → G → Type 0

-- an event of this seat is entered, and the packets that it gave are sent, one after the other
abbrev pub IsDone : {K : Type 0} → Sending K → ℕ → Event → K → List Entry → K → Type 0
IsDone sends seat event link es after =
    (o : Output) × (es ≡ entry_of seat event o ∷ []) × FoldsTo sends link o.packets after

-- A turn that goes on: a receive finds nothing, and nothing is entered, or it finds a packet, which is delivered; a tick
-- is done. None goes on after a stop.
abbrev pub IsTaken : {K : Type 0} → Sending K → Receiving K → ℕ → Turn → K → List Entry → K → Type 0
IsTaken sends receives seat Stop link es after = ⊥
IsTaken {K} sends receives seat Receive link es after =
    (receives link None after × (es ≡ []))
    ⊎ ((octets : List ℕ) × (mid : K) × receives link (Some octets) mid
    × IsDone sends seat (event_of.Deliver octets) mid es after)
IsTaken sends receives seat (Tick now) link es after = IsDone sends seat (event_of.Tick now) link es after

-- a pass takes a turn that goes on, and its list grows by what that enters
abbrev pub TakesTurn : {K : Type 0} → Sending K → Receiving K → Turn → Carried → Carried → K → K → Type 0
TakesTurn sends receives turn was after link to =
    (es : List Entry) × Grows was after es × IsTaken sends receives was.seat turn link es to

-- turns, the newest first: the gate said each, and each was taken, with these entries in all
abbrev pub AreTaken : {K G : Type 0} → Sending K → Receiving K → Saying G → ℕ → List Turn → K → G → List Entry → K → G
    → Type 0
AreTaken sends receives says seat [] link gate es to at = (to ≡ link) × (at ≡ gate) × (es ≡ [])
AreTaken {K} {G} sends receives says seat (turn ∷ turns) link gate es to at =
    (mid : K) × (before : G) × (earlier last : List Entry)
    × AreTaken sends receives says seat turns link gate earlier mid before
    × says before turn at × IsTaken sends receives seat turn mid last to × (es ≡ earlier ++ last)

-- what a worker did: the turns, the newest first, and the entries that its pass has more
pub record Served {K G : Type 0} (sends : Sending K) (receives : Receiving K) (says : Saying G)
    (was after : Carried) (link : K) (gate : G) (to : K) (at : G) : Type 0 where
  pub turns : List Turn
  pub entries : List Entry
  pub list : Grows was after entries
  pub taken : AreTaken sends receives says was.seat turns link gate entries to at

-- the gate said stop after so many turns, or there were as many as can be counted
abbrev pub Stops : {K G : Type 0} → Sending K → Receiving K → Saying G → Carried → Carried → K → G → K → G → ℕ → Type 0
Stops {K} {G} sends receives says was after link gate to at count =
    (before : G) × (served : Served sends receives says was after link gate to before)
    × (length served.turns ≡ count) × (says before Stop at ⊎ ((count ≡ 18446744073709551615) × (at ≡ before)))

-- what a receive that is refused may make of a link
abbrev pub Failing : Type 0 → Type 1
Failing K = K → Code → K → Type 0

-- A turn that fails: the link is refused, or memory was wanting for what came, or for the tick.
abbrev pub IsFailed : {K : Type 0} → Receiving K → Failing K → Turn → K → Code → K → Type 0
IsFailed receives fails Stop link code after = ⊥
IsFailed receives fails Receive link code after =
    fails link code after ⊎ ((code ≡ Memory) × (octets : List ℕ) × receives link (Some octets) after)
IsFailed receives fails (Tick now) link code after = (code ≡ Memory) × (after ≡ link)

-- the turn that the gate said last failed so: it entered nothing, and what was done before stands
abbrev pub Breaks : {K G : Type 0} → Sending K → Receiving K → Failing K → Saying G → Carried → Carried → K → G → K → G
    → Code → Type 0
Breaks {K} {G} sends receives fails says was after link gate to at code =
    (mid : K) × (before : G) × (turn : Turn)
    × Served sends receives says was after link gate mid before × says before turn at
    × IsFailed receives fails turn mid code to
