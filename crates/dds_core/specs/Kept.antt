-- What a peer keeps: its name, its moment, its ends, the names that it knows, and what its application watches.
--
-- RTPS 2.5, 8.2 (Participant).
use Rattle.std.specs.Prelude.{ℕ, List}
use Rattle.dds_base.specs.declared.guid.GuidPrefix.{GuidPrefix}
use Rattle.dds_conditions.specs.Watched.{Watched}
use Rattle.dds_machine.specs.Part.{Names}
use Rattle.dds_ends.specs.Kept.{WriterKept, ReaderKept}

-- a peer: its name, its moment in units of 2^-32 second, its writers and readers, the names of ends that it knows, and
-- what its application watches
pub record PeerKept : Type 0 where
  pub prefix : GuidPrefix
  pub moment : ℕ
  pub writers : List WriterKept
  pub readers : List ReaderKept
  pub names : Names
  pub watch : Watched
