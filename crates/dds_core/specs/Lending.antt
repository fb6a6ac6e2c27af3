-- Which event one is whose packet is lent. Inner functions alone cite this: nothing here has to be believed.
--
-- DDS 1.4, 2.2.2.4 and 2.2.2.5 (calls); RTPS 2.5, 8.3.4 (the message receiver).
use Rattle.dds_protocol.specs.declared.event.Event.{Event}
use Rattle.dds_protocol.specs.declared.event.Event.TheVariants as event
use Rattle.dds_core.specs.declared.lent_event.LentEvent.{LentEvent}
use Rattle.dds_core.specs.declared.lent_event.LentEvent.TheVariants as lent

-- it is the event whose packet has these octets
abbrev pub event_of : LentEvent → Event
event_of (lent.Call call) = event.Call call
event_of (lent.Tick now) = event.Tick now
event_of (lent.Deliver packet) = event.Deliver packet.now
event_of (lent.Resume reader) = event.Resume reader
