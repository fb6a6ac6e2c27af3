use Rattle.std.proofs.Common.{◌≡◌, ◌<◌, ℕ, ◌+◌, List, length, ap, arith, subst, sym}
use Rattle.dds_base.specs.declared.config.PeerConfig.{PeerConfig}
use Rattle.dds_protocol.specs.Roster.{Roster}
use Rattle.dds_core.specs.Opening.{InRosters, opening_peer}
use Rattle.dds_core.specs.OpeningEnds.{OpensCore}
use Rattle.dds_core.specs.Standing.{StandsFor}
use Rattle.dds_core.proofs.OpeningLaws.{opens_in, opens_itself}
use Rattle.dds_core.proofs.peer.Peer.open.Goals as goal

pub returns-clause-roster : goal.returns-clause-roster
returns-clause-roster c =
    let count = ap (λ (ps : List PeerConfig). length ps) c.as_slice-peers.ensures.elements in
    let below = c.in-Some.ensures.index.1 in
    let within : c.in-Some.index < length c.args.config.now.peers = omega (arith, count, below) in
    subst (λ (n : ℕ). InRosters c.args.config.now (λ (r : Roster). StandsFor c.in_ok-open.field-0 r
    (opening_peer c.args.config.now n)))
    (sym c.in-Some.ensures.index.0)
    (opens_in c.args.config.now c.in-Some.index c.in_ok-open.field-0
    (subst (λ (ps : List PeerConfig). OpensCore 1 ps c.in-Some.index c.in_ok-open.field-0)
    c.as_slice-peers.ensures.elements c.in_ok-open.ensures) within)

pub returns-clause-opening : goal.returns-clause-opening
returns-clause-opening c =
    opens_itself c.args.config.now (λ (r : Roster). StandsFor c.in_ok-open.field-0 r
    (opening_peer c.args.config.now c.args.peer)) c.in_ok-check.ensures.ok (returns-clause-roster c)
