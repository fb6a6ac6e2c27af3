use Rattle.std.proofs.Common.{[], ◌∷◌}
use Rattle.dds_trace.specs.History.{entry_of}
use Rattle.dds_shared.proofs.locked.Locked.event.Given as goal

abbrev pub ghosts-record : goal.ghosts-record
ghosts-record g a = record { more = entry_of a.self.now.seat a.event.value a.output ∷ [] }
