use Rattle.std.proofs.Common.{◌≡◌, ◌+◌, ◌<◌, ℕ, List, length, subst, ap, arith}
use Rattle.dds_base.specs.declared.config.PeerConfig.{PeerConfig}
use Rattle.dds_world.specs.Acting.{OpensFirst}
use Rattle.dds_world.proofs.Opened.{opens_none, opens_more}
use Rattle.dds_world.proofs.world.open_peers.Goals as goal

pub loop-index-init : goal.loop-index-init
loop-index-init g c =
    opens_none g.L.Listener.notices g.L.Listener.capacity g.L.Listener.becomes c.args.config.now c.new-peers.result.items
    c.new-peers.ensures.items

pub loop-index-preserved : goal.loop-index-preserved
loop-index-preserved g c =
    let i = c.loop-index.index in
    let count = ap (λ (ps : List PeerConfig). length ps) c.as_slice-index-end.ensures.elements in
    let within : i < length c.args.config.now.peers = omega (arith, count) in
    opens_more g.L.Listener.notices g.L.Listener.capacity g.L.Listener.becomes c.args.config.now i
    (i + 1) c.loop-index.peers.items c.push.new.self.items c.in_ok-peer.peer
    (omega arith) c.loop-index.invariant c.in_ok-peer.ensures.opening c.in_ok-peer.ensures.none
    c.in_ok-peer.ensures.taken c.in_ok-push.ensures.items

pub returns-clause-opening : goal.returns-clause-opening
returns-clause-opening g c =
    let count = ap (λ (ps : List PeerConfig). length ps) c.as_slice-index-end.ensures.elements in
    let all : c.loop-index.index ≡ length c.args.config.now.peers = omega (arith, count) in
    subst (λ (n : ℕ). OpensFirst g.L.Listener.notices g.L.Listener.capacity g.L.Listener.becomes c.args.config.now n
    c.loop-index.peers.items) all c.loop-index.invariant
