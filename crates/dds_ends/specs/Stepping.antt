-- What is entered at a writer, and what a tick does to writers. Inner functions alone cite this: nothing here has to
-- be believed.
--
-- RTPS 2.5, 8.4.7 (StatefulWriter): the machine has it without packets.
use Rattle.std.specs.Prelude.{◌≡◌, ℕ, Bool, false, List}
use Rattle.std.specs.List.{AllZip, list_any}
use Rattle.dds_base.specs.Written.{Written}
use Rattle.dds_base.specs.declared.endpoint.Endpoint.{Endpoint}
use Rattle.dds_machine.specs.Part.{ReaderProxy, Writer}
use Rattle.dds_machine.specs.Ticks.{ticked}
use Rattle.dds_machine.specs.Calls.{with_written}
use Rattle.dds_protocol.specs.Contact.{Contact, awaits_heartbeat}
use Rattle.dds_ends.specs.Kept.{WriterKept}
use Rattle.dds_ends.specs.Identity.{writer_identity}
use Rattle.dds_ends.specs.Standing.{WriterStands}

-- some matched reliable reader asks a writer for a HEARTBEAT, or is silent, by what the writer knows of its readers
abbrev pub some_await : Writer → (Endpoint → Contact) → Bool
some_await w answered = list_any (λ (p : ReaderProxy). awaits_heartbeat (answered p.reader)) w.readers

-- what it knows of them once it has told each that asked
abbrev pub unasked : (Endpoint → Contact) → Endpoint → Contact
unasked answered reader = record (answered reader) { asks = false }

-- a writer whose peer's time went on to this moment, and that told each reader that asked for a HEARTBEAT; and nothing
-- else
pub record Ticks (old : WriterKept) (now : ℕ) (new : WriterKept) : Type 0 where
  pub same : writer_identity new ≡ writer_identity old
  pub stands : (w : Writer) (answered : Endpoint → Contact) → WriterStands old w answered
      → WriterStands new (ticked now (some_await w answered) w) (unasked answered)

-- the same of each of these writers
abbrev pub AllTick : List WriterKept → ℕ → List WriterKept → Type 0
AllTick old now new = AllZip (λ (k : WriterKept) (x : WriterKept). Ticks k now x) old new

-- a writer to which this has happened besides, and nothing else
pub record Enters (old : WriterKept) (entry : Written) (new : WriterKept) : Type 0 where
  pub same : writer_identity new ≡ writer_identity old
  pub stands : (w : Writer) (answered : Endpoint → Contact) → WriterStands old w answered
      → WriterStands new (with_written w entry) answered
