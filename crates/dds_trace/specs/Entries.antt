-- What a trace shows.
--
-- Traces are this project's own.
use Rattle.std.specs.Prelude.{ℕ, List}
use Rattle.dds_trace.specs.declared.trace.Entry.{Entry}

-- the number of the peer, the entries, and for how many more there is room
pub record Traced : Type 0 where
  pub peer : ℕ
  pub entries : List Entry
  pub spare : ℕ
