-- What a peer is before threads share it, and what stays of that.
--
-- DDS 1.4, 2.2.2.1 (Entity, set_listener). Seeds are this project's own.
use Rattle.std.specs.Prelude.{ℕ, map, Option, None, Some}
use Rattle.dds_base.specs.declared.config.Config.{Config}
use Rattle.dds_notices.specs.declared.mask.StatusMask.{StatusMask}
use Rattle.dds_notices.specs.Listeners.{ByEntity, Slot, Slotted}
use Rattle.dds_core.specs.Listening.{CoreKept}
use Rattle.dds_log.specs.Logs.{WordName}

-- a seed: its core, of which peer of which configuration it is, the name and the parts of its ledger, and its word
pub record Planted (F L : Type 0) : Type 0 where
  pub core : CoreKept F L
  pub config : Config
  pub peer : ℕ
  pub name : ℕ
  pub parts : ℕ
  pub word : WordName

-- the listener of a slot that may be there
abbrev pub listener_in : {L : Type 0} → Option (Slot L) → Option L
listener_in None = None
listener_in (Some slot) = Some slot.listener

-- which listener is set at which entity
abbrev pub listeners_in : {L : Type 0} → Slotted L → ByEntity L
listeners_in slots = record {
  participant = listener_in slots.participant;
  writers = map listener_in slots.writers;
  readers = map listener_in slots.readers;
}

-- of which statuses the listener of a slot that may be there is told, and how many notices it can keep
abbrev pub slot_shown : {L : Type 0} → (L → ℕ) → Option (Slot L) → Option (StatusMask × ℕ)
slot_shown capacity None = None
slot_shown capacity (Some slot) = Some (slot.mask, capacity slot.listener)

-- the same of each entity
abbrev pub slots_shown : {L : Type 0} → (L → ℕ) → Slotted L → ByEntity (StatusMask × ℕ)
slots_shown capacity slots = record {
  participant = slot_shown capacity slots.participant;
  writers = map (slot_shown capacity) slots.writers;
  readers = map (slot_shown capacity) slots.readers;
}
