-- the ports so far
use Rattle.std.proofs.Common.{◌≡◌, ◌++◌, map, ℕ}
use Rattle.std.specs.List.{range_with_len}
use Rattle.dds_live.specs.Ports.{unicast_port}
use Rattle.dds_live.proofs.addresses.put_machine.Given as goal

abbrev pub invariant-loop-index : goal.invariant-loop-index
invariant-loop-index l =
    l.addresses.items ≡ l.initial.addresses.items
    ++ map (λ (index : ℕ). record { address = l.address; port = unicast_port l.domain index }) (range_with_len 0 l.index)
