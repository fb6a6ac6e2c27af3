-- Orders of the entries of several traces. An order names, place by place, the trace whose next entry stands there, by
-- its index; counts say how many of the first entries of each trace are placed.
--
-- Such orders are this project's own.
use Rattle.std.specs.Prelude.{◌≡◌, ℕ, ◌+◌, ◌<◌, ◌≤◌, List, [], ◌∷◌, length, Some, Any, replicate, slice_get, slice_index, slice_set}
use Rattle.dds_protocol.specs.declared.event.Event.TheVariants.{Deliver}
use Rattle.dds_trace.specs.declared.trace.Entry.{Entry}
use Rattle.dds_trace.specs.Entries.{Traced}

-- the entry sent a packet of these octets
abbrev pub Sends : Entry → List ℕ → Type 0
Sends e octets = Any (λ p. p.bytes ≡ octets) e.output.packets

-- one of the first entries sent them
abbrev pub SentBelow : List Entry → ℕ → List ℕ → Type 0
SentBelow es count octets = (k : ℕ) × (e : Entry) × (k < count) × (slice_get es k ≡ Some e) × Sends e octets

-- one of the placed entries sent them: of each trace as many of the first ones as are counted
abbrev pub Sent : List Traced → List ℕ → List ℕ → Type 0
Sent ts placed octets =
    (t : ℕ) × (trace : Traced) × (slice_get ts t ≡ Some trace) × SentBelow trace.entries (slice_index placed t) octets

-- what the entry delivers, if it delivers, was sent
abbrev pub MayStand : (List ℕ → Type 0) → Entry → Type 0
MayStand IsSent e = (octets : List ℕ) → e.event ≡ Deliver octets → IsSent octets

-- the entry delivers what was not sent
abbrev pub IsBlocked : (List ℕ → Type 0) → Entry → Type 0
IsBlocked IsSent e = (octets : List ℕ) × (e.event ≡ Deliver octets) × (IsSent octets → ⊥)

-- the next entry of a trace
abbrev pub IsNext : List Traced → List ℕ → ℕ → Entry → Type 0
IsNext ts placed t e =
    (trace : Traced) × (slice_get ts t ≡ Some trace) × (slice_get trace.entries (slice_index placed t) ≡ Some e)

-- one entry more of a trace is placed
abbrev pub one_more : List ℕ → ℕ → List ℕ
one_more placed t = slice_set placed t (slice_index placed t + 1)

-- no entry is placed yet
abbrev pub none_placed : List Traced → List ℕ
none_placed ts = replicate (length ts) 0

-- every entry is placed
abbrev pub AllPlaced : List Traced → List ℕ → Type 0
AllPlaced ts placed =
    (t : ℕ) (trace : Traced) → slice_get ts t ≡ Some trace → length trace.entries ≤ slice_index placed t

-- in this order each next entry of the trace that is named may stand where it does; it leads from the one count to the
-- other
abbrev pub Reaches : List Traced → List ℕ → List ℕ → List ℕ → Type 0
Reaches ts from [] to = from ≡ to
Reaches ts from (t ∷ order) to =
    ((e : Entry) × IsNext ts from t e × MayStand (Sent ts from) e) × Reaches ts (one_more from t) order to

-- an honest order of all entries: each packet that is delivered was sent by an earlier entry
abbrev pub IsHonest : List Traced → List ℕ → Type 0
IsHonest ts order = (to : List ℕ) × Reaches ts (none_placed ts) order to × AllPlaced ts to

-- So many of the first entries of each trace have an order in which each may stand; some trace has more, and the next
-- entry of each that has more delivers what none of them sent.
pub record IsStuck (ts : List Traced) (placed : List ℕ) : Type 0 where
  pub fits : length placed ≡ length ts
  pub reached : (order : List ℕ) × Reaches ts (none_placed ts) order placed
  pub more : (t : ℕ) × (e : Entry) × IsNext ts placed t e
  pub blocked : (t : ℕ) (e : Entry) → IsNext ts placed t e → IsBlocked (Sent ts placed) e
