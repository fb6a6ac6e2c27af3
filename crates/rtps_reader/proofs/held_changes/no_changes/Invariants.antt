-- as many up to here
use Rattle.std.proofs.Common.{◌≡◌, replicate, None}
use Rattle.rtps_reader.proofs.held_changes.no_changes.Given as goal

abbrev pub invariant-loop : goal.invariant-loop
invariant-loop l = l.places.items ≡ replicate l.counter None
