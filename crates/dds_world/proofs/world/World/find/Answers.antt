use Rattle.std.proofs.Common.{◌≡◌, ◌≤◌, false, true, List, length, refl, ap, arith}
use Rattle.dds_protocol.specs.declared.event.Packet.{Packet}
use Rattle.dds_world.specs.Round.{IsTo}
use Rattle.dds_world.specs.Holding.{Held}
use Rattle.dds_world.proofs.Rounds.{none_yet, none_within, none_more, found_here, packet_read}
use Rattle.dds_world.proofs.world.World.find.Goals as goal

pub loop-index-init : goal.loop-index-init
loop-index-init g c =
    none_yet (IsTo c.args.peer c.args.wanted.now) c.args.self.now.sent c.args.from c.args.from (omega arith)

pub loop-index-preserved : goal.loop-index-preserved
loop-index-preserved g c =
    let sent_is = ap (λ (k : Held g.row.F.Denot g.row.L.Denot). k.sent) c.self.view_is in
    let count = ap (λ (ps : List Packet). length ps) sent_is in
    let at =
    packet_read _ c.args.self.now.sent c.loop-index.index c.index.result.now sent_is (omega (arith, count))
    c.index.ensures in
    none_more (IsTo c.args.peer c.args.wanted.now) c.args.self.now.sent c.args.from c.loop-index.index _ _ refl at
    (λ x. let t : false ≡ true = c.if-is_to.ensures.1 x in cc) c.loop-index.invariant

pub returns-then-is_to : goal.returns-then-is_to
returns-then-is_to g c =
    let sent_is = ap (λ (k : Held g.row.F.Denot g.row.L.Denot). k.sent) c.self.view_is in
    let count = ap (λ (ps : List Packet). length ps) sent_is in
    let at =
    packet_read _ c.args.self.now.sent c.loop-index.index c.index.result.now sent_is (omega (arith, count))
    c.index.ensures in
    found_here (IsTo c.args.peer c.args.wanted.now) c.args.self.now.sent c.args.from c.loop-index.index _ _ refl
    (omega arith) at (c.if-is_to.ensures.0 refl) c.loop-index.invariant

pub returns : goal.returns
returns g c =
    let sent_is = ap (λ (k : Held g.row.F.Denot g.row.L.Denot). k.sent) c.self.view_is in
    let count = ap (λ (ps : List Packet). length ps) sent_is in
    let past : length c.args.self.now.sent ≤ c.loop-index.index = omega (arith, count) in
    none_within (IsTo c.args.peer c.args.wanted.now) c.args.self.now.sent c.args.from _ c.loop-index.index past
    c.loop-index.invariant
