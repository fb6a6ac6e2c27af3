use Rattle.std.proofs.Common.{◌≤◌, length, subst, arith}
use Rattle.dds_core.specs.Kept.{PeerKept}
use Rattle.dds_ends.specs.Readiness.{receiver_at}
use Rattle.dds_ends.proofs.Lists.{get-within}
use Rattle.dds_core.proofs.Turns.{nobody_told}
use Rattle.dds_core.proofs.peer.Peer.tell_readers.Goals as goal

pub overflow_add-first : goal.overflow_add-first
overflow_add-first c =
    let there = c.in-Some.ensures.first.there in
    let within = get-within c.args.self.now.readers c.in-Some.first.index c.in-Some.ensures.first.reader there in
    let few : length c.args.self.now.readers ≤ 16 =
    subst (λ (k : PeerKept). length k.readers ≤ 16) c.self.view_is c.self.invariant.1 in
    omega (arith, within, few)

pub returns-in_default-clause-takes : goal.returns-in_default-clause-takes
returns-in_default-clause-takes c =
    nobody_told c.args.self.now (receiver_at c.args.receiver.now) c.args.submessage.now c.args.effects.now
    c.in_default.ensures.none
