-- The machine without packets: each writer is a list of changes, and each matched reader has a place in it that goes
-- over changes which come, and passes over those alone that the writer's history had dropped, or that the writer does
-- not owe the reader, where it is a reliable one, or, where it is a best-effort one, that come before another.
--
-- No clause has this machine: it is what RTPS 2.5, 8.4.9 (reliable StatefulWriter) and 8.4.12 (reliable
-- StatefulReader) come to, whatever becomes of packets; HISTORY (DDS 1.4, 2.2.3) says what is dropped.
use Rattle.std.specs.Prelude.{◌≡◌, ◌⊎◌, ℕ, ◌<◌, ◌≤◌, true, List, Option, Some}
use Rattle.dds_base.specs.declared.code.Code.TheVariants.{BadParameter}
use Rattle.dds_base.specs.Kept.{change_at, is_dropped}
use Rattle.dds_base.specs.Matched.{is_reliable}
use Rattle.dds_base.specs.declared.endpoint.Endpoint.{Endpoint}
use Rattle.dds_machine.specs.declared.event.WorldEvent.{WorldEvent}
use Rattle.dds_machine.specs.declared.event.WorldEvent.TheVariants as event
use Rattle.dds_machine.specs.declared.reply.Reply.{Reply}
use Rattle.dds_machine.specs.declared.reply.Reply.TheVariants.{Refused}
use Rattle.dds_machine.specs.Numbered.{numbered, with_numbered, HasNumber}
use Rattle.dds_machine.specs.Part.{Part, Writer, no_part, own_writer, own_proxies, own_reader, place_of, writer_changes, history_of, is_assertion, owed_from, IsAtMost}
use Rattle.dds_machine.specs.Moves.{Grounds, DeliveryStep, ResumeStep}
use Rattle.dds_machine.specs.Ticks.{TickStep}
use Rattle.dds_machine.specs.Calls.{CallStep}
use Rattle.dds_machine.specs.Watching.{Tests}

-- the peers' parts, which are numbered from 1
pub record Machine : Type 0 where
  pub parts : List Part

-- the part of the peer of this number; one without writers and readers where there is no such peer
abbrev pub part_at : Machine → ℕ → Part
part_at m peer = numbered m.parts peer no_part

-- the writer of this endpoint; one that has done nothing where there is no such writer
abbrev pub writer_at : Machine → Endpoint → Writer
writer_at m writer = own_writer (part_at m writer.peer) writer.number

-- the place of a reader in a writer's list, if it knows the writer
abbrev pub place_at : Machine → Endpoint → Endpoint → Option ℕ
place_at m reader writer = place_of (own_proxies (part_at m reader.peer) reader.number) writer

-- The reader is a reliable one, and the writer does not owe it the change of this number. Of a best-effort reader this is
-- never so: a writer has no row for it, and it passes over what comes before another change (DDS 1.4, 2.2.3, RELIABILITY).
pub record IsNotOwed (m : Machine) (writer reader : Endpoint) (number : ℕ) : Type 0 where
  pub reliable : is_reliable (own_reader (part_at m reader.peer) reader.number).qos.reliability ≡ true
  pub from : 1 ≤ number
  pub below : number < owed_from (writer_at m writer) reader

-- what moves at the peer of this number may rest on: the far lists, what they have dropped or don't owe, and the
-- far places
abbrev pub grounds_of : Machine → ℕ → Grounds
grounds_of m peer = record {
  is_change = λ writer reader number change. change_at (writer_changes (writer_at m writer)) number ≡ Some change;
  may_pass = λ writer reader number. (is_dropped (history_of (writer_at m writer)) number ≡ true)
      ⊎ IsNotOwed m writer (record { peer = peer; number = reader }) number;
  has_place = λ writer reader base. IsAtMost base (place_at m reader (record { peer = peer; number = writer }));
  may_hear = λ writer reader count. is_assertion (writer_at m writer) count ≡ true;
}

-- one peer's part changes, by this step
pub record AtPeer (old : Machine) (peer : ℕ) (Steps : Part → Type 0) (new : Machine) : Type 0 where
  pub within : HasNumber old.parts peer
  pub after : Part
  pub step : Steps after
  pub changed : new ≡ record { parts = with_numbered old.parts peer after }

-- nothing happens
abbrev pub IsRefused : Machine → Reply → Machine → Type 0
IsRefused old reply new = (reply ≡ Refused BadParameter) × (new ≡ old)

-- what the filters of each peer answer, by the peers' numbers
abbrev pub AllTests : Type 0
AllTests = ℕ → Tests

-- From old, when so many packets were sent, the machine may give this reply to the event and go on to new. Which moves
-- a delivery makes, and a reader whose places are tried again, is its choice among the legal ones, and at a tick which
-- writers use a count though no reader is behind; every other reply is determined, up to want of memory.
abbrev pub Step : AllTests → ℕ → Machine → WorldEvent → Reply → Machine → Type 0
Step tests sent old (event.Call peer call) reply new =
    AtPeer old peer (λ after. CallStep (tests peer) (part_at old peer) call reply after) new
    ⊎ ((HasNumber old.parts peer → ⊥) × IsRefused old reply new)
Step tests sent old (event.Tick peer now) reply new =
    AtPeer old peer (λ after. TickStep (part_at old peer) now reply after) new
    ⊎ ((HasNumber old.parts peer → ⊥) × IsRefused old reply new)
Step tests sent old (event.Deliver peer packet) reply new =
    ((1 ≤ packet) × (packet ≤ sent)
    × AtPeer old peer (λ after. DeliveryStep (grounds_of old peer) (part_at old peer) reply after) new)
    ⊎ (((packet ≡ 0) ⊎ (sent < packet) ⊎ (HasNumber old.parts peer → ⊥)) × IsRefused old reply new)
Step tests sent old (event.Resume peer reader) reply new =
    AtPeer old peer (λ after. ResumeStep (grounds_of old peer) (part_at old peer) reader reply after) new
    ⊎ ((HasNumber old.parts peer → ⊥) × IsRefused old reply new)
