-- What becomes of a listener that stands at an entity.
--
-- DDS 1.4, 2.2.4.3 (access through listeners).
use Rattle.std.specs.Prelude.{Option, None, Some}
use Rattle.dds_notices.specs.Listeners.{Slot}

-- the listener of a slot, if there is one
abbrev pub listener_of : {L : Type 0} → Option (Slot L) → Option L
listener_of None = None
listener_of (Some slot) = Some slot.listener
