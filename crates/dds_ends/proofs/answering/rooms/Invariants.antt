use Rattle.std.proofs.Common.{◌≡◌, ℕ, Option, Some, length, slice_get}
use Rattle.dds_ends.specs.declared.answering.Room.{Room}
use Rattle.dds_ends.specs.declared.matching.ReaderName.{ReaderName}
use Rattle.dds_ends.specs.Answering.{IsRoom}
use Rattle.dds_ends.specs.Readiness.{receiver_at}
use Rattle.dds_ends.proofs.answering.rooms.Given as goal

-- the readers so far have room where the ACKNACK is from them
abbrev pub invariant-loop-name : goal.invariant-loop-name
invariant-loop-name l = record {
  count : length l.rooms.items ≡ l.name-index;
  each : (i : ℕ) (name : ReaderName) (room : Option Room) → slice_get l.fn.readers i ≡ Some name
      → slice_get l.rooms.items i ≡ Some room
      → IsRoom l.fn.own l.fn.entity (receiver_at l.fn.receiver) l.fn.body name room;
}
