use Rattle.std.proofs.Common.{[], ◌∷◌}
use Rattle.dds_protocol.specs.declared.event.Event.TheVariants.{Deliver}
use Rattle.dds_trace.specs.History.{entry_of}
use Rattle.dds_shared.proofs.locked.Locked+N+F+L+Counted.deliver.Given as goal

abbrev pub ghosts-record_delivery : goal.ghosts-record_delivery
ghosts-record_delivery g a = record { more = entry_of a.self.now.seat (Deliver a.octets.now) a.output.now ∷ [] }
