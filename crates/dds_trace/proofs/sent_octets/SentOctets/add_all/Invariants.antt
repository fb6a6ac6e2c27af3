use Rattle.std.proofs.Common.{◌≡◌, ℕ, List, Contains, ◌↔◌, ◌⊎◌}
use Rattle.dds_trace.proofs.Octets.{AnyBelow}
use Rattle.dds_trace.proofs.sent_octets.SentOctets.add_all.Given as goal

abbrev pub invariant-loop-packet : goal.invariant-loop-packet
invariant-loop-packet l =
    (q : List ℕ) → Contains l.self q ↔ (Contains l.fn.self q ⊎ AnyBelow (λ p. p.bytes ≡ q) l.packet-index l.packets)
