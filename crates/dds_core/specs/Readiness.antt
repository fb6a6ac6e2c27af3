-- Which of a peer's readers a submessage names, and that what it tells them is made ready for each before the first
-- of them is told; what the reader's steps move. Inner functions alone cite this: nothing here has to be believed.
--
-- RTPS 2.5, 8.3.4 (the message receiver), 8.4.12 (the behaviour of a reliable StatefulReader).
use Rattle.std.specs.Prelude.{◌≡◌, ◌<◌, ◌≤◌, true, ℕ, List, [], ◌∷◌, ◌++◌, length, slice_get, nat_lt, if◌then◌else◌, Option, Some, None}
use Rattle.dds_base.specs.declared.guid.GuidPrefix.{GuidPrefix}
use Rattle.dds_base.specs.Bounds.{max_sn}
use Rattle.rtps_reader.specs.declared.step.Step.{Step}
use Rattle.rtps_wire.specs.declared.submessage.Submessage.{Submessage}
use Rattle.rtps_wire.specs.declared.submessage.Submessage.TheVariants.{Data, Heartbeat, AckNack, Gap}
use Rattle.dds_base.specs.declared.endpoint.Endpoint.{Endpoint}
use Rattle.dds_machine.specs.declared.reply.Move.{Move}
use Rattle.dds_machine.specs.declared.reply.Move.TheVariants.{Place, Heard, Begun as HasBegun}
use Rattle.dds_protocol.specs.Claims.{Receiver}
use Rattle.dds_ends.specs.Identity.{reliable_in}
use Rattle.dds_core.specs.declared.delivery.FirstNamed.{FirstNamed}
use Rattle.dds_ends.specs.declared.reader_told.Ready.{Ready}
use Rattle.dds_ends.specs.Kept.{ReaderKept}
use Rattle.dds_ends.specs.Readiness.{NamedBy, IsNamedAt, MayDo, IsReadyFor, IsAlike}

-- ---- what it tells

-- its numbers are such that the wire has
abbrev pub IsBounded : Submessage → Type 0
IsBounded (Data d) = d.writer_sn ≤ max_sn
IsBounded (Gap g) = g.gap_list.base ≤ max_sn
IsBounded (Heartbeat h) = h.first_sn ≤ max_sn
IsBounded (AckNack a) = 1 ≤ a.reader_sn_state.base
IsBounded submessage = Unit {0}

-- ---- what is ready

-- the first reader that the submessage names, and at which it may do something, and the row of its writer there
pub record IsFirstNamed (own : GuidPrefix) (at : Receiver) (submessage : Submessage) (readers : List ReaderKept)
    (first : FirstNamed) : Type 0 where
  pub by : NamedBy submessage first.ids.reader first.ids.writer
  pub reader : ReaderKept
  pub there : slice_get readers first.index ≡ Some reader
  pub named : IsNamedAt own at submessage reader first.row
  pub does : MayDo reader first.row submessage true
  pub before : (i : ℕ) (k : ReaderKept) → i < first.index → slice_get readers i ≡ Some k
      → IsReadyFor own at submessage k None

-- nothing is for any of these readers
abbrev pub NamesNone : GuidPrefix → Receiver → Submessage → List ReaderKept → Type 0
NamesNone own at submessage readers =
    (i : ℕ) (k : ReaderKept) → slice_get readers i ≡ Some k → IsReadyFor own at submessage k None

-- what is ready for each of a peer's readers
pub record AreReady (own : GuidPrefix) (at : Receiver) (submessage : Submessage) (readers : List ReaderKept)
    (ready : List (Option Ready)) : Type 0 where
  pub count : length ready ≡ length readers
  pub each : (i : ℕ) (k : ReaderKept) (r : Option Ready) → slice_get readers i ≡ Some k → slice_get ready i ≡ Some r
      → IsReadyFor own at submessage k r

-- the reader of this index is a reliable one
abbrev pub IsReliableAt : List ReaderKept → ℕ → Type 0
IsReliableAt readers index =
    (k : ReaderKept) → slice_get readers index ≡ Some k → reliable_in k.store ≡ true

-- readers with more memory, and nothing else, in their order
pub record AreAlike (old new : List ReaderKept) : Type 0 where
  pub count : length new ≡ length old
  pub each : (i : ℕ) (a b : ReaderKept) → slice_get old i ≡ Some a → slice_get new i ≡ Some b → IsAlike a b

-- ---- what a reader does

-- the place at this number begins, if it does
abbrev pub begun_moves : Endpoint → ℕ → ℕ → Option ℕ → List Move
begun_moves writer reader from None = []
begun_moves writer reader from (Some to) = HasBegun writer reader from to ∷ []

-- from here the place goes on: from where it began, or else from where it was
abbrev pub begins_at : ℕ → Option ℕ → ℕ
begins_at from None = from
begins_at from (Some to) = to

-- what a step moves, from this place on
abbrev pub moves_of : Endpoint → ℕ → ℕ → Step → List Move
moves_of writer reader from step =
    (if step.heard then Heard writer reader ∷ [] else [])
    ++ (begun_moves writer reader from step.begun
    ++ (if nat_lt (begins_at from step.begun) step.to then Place writer reader step.to step.passed ∷ [] else []))
