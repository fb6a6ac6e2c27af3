use Rattle.std.proofs.Common.{ℕ, ◌-◌, arith}
use Rattle.dds_machine.specs.Noticing.{data_raised, lost_raised, subscription_raised, turn_raised}
use Rattle.dds_machine.proofs.InTurn.{data_told, lost_told, subscription_told, turn_told}
use Rattle.dds_core.specs.Kept.{PeerKept}
use Rattle.dds_ends.specs.Noticing.{by_reader}
use Rattle.dds_core.proofs.Notified.{end_found, tells_raised, tells_then}
use Rattle.dds_core.proofs.peer.Peer.notify_reader.Goals as goal

pub returns-clause-told : goal.returns-clause-told
returns-clause-told g c = λ before marked.
    let N = g.L.Listener.notices in
    let C = g.L.Listener.capacity in
    let B = g.L.Listener.becomes in
    let n : ℕ = c.args.number in
    let i : ℕ = c.from-index.result - 1 in
    let number = c.from-index.ensures in
    let low = c.requires.within.0 in
    let high = c.requires.within.1 in
    let same = c.tell_of_reader.ensures.readers in
    let same2 = c.tell_of_reader-2.ensures.readers in
    let same3 = c.tell_of_reader-3.ensures.readers in
    let first =
    end_found (λ (k : PeerKept). k.readers) _ c.args.self.now n c.from-index.result c.index.result.now c.self.view_is
    low high number c.index.ensures in
    let second =
    end_found (λ (k : PeerKept). k.readers) _ c.tell_of_reader.new.self n c.from-index.result c.index-2.result.now
    c.self-2.view_is low (omega (arith, high, same)) number c.index-2.ensures in
    let third =
    end_found (λ (k : PeerKept). k.readers) _ c.tell_of_reader-2.new.self n c.from-index.result c.index-3.result.now
    c.self-3.view_is low (omega (arith, high, same, same2)) number c.index-3.ensures in
    let fourth =
    end_found (λ (k : PeerKept). k.readers) _ c.tell_of_reader-3.new.self n c.from-index.result c.index-4.result.now
    c.self-4.view_is low (omega (arith, high, same, same2, same3)) number c.index-4.ensures in
    let one =
    tells_raised N C B (by_reader lost_raised) c.lost_raised-lost.result before c.args.mark.now c.args.self.now
    c.args.slots.now n i c.index.result.now
    c.tell_of_reader.new.self c.tell_of_reader.new.slots first.0 first.3 marked c.lost_raised-lost.ensures
    c.tell_of_reader.ensures.told in
    let two =
    tells_raised N C B (by_reader data_raised) c.data_raised-data.result before c.args.mark.now
    c.tell_of_reader.new.self c.tell_of_reader.new.slots n i c.index-2.result.now
    c.tell_of_reader-2.new.self c.tell_of_reader-2.new.slots second.0 second.3 marked c.data_raised-data.ensures
    c.tell_of_reader-2.ensures.told in
    let three =
    tells_raised N C B (by_reader turn_raised) c.turn_raised-turned.result before c.args.mark.now
    c.tell_of_reader-2.new.self c.tell_of_reader-2.new.slots n i c.index-3.result.now
    c.tell_of_reader-3.new.self c.tell_of_reader-3.new.slots third.0 third.3 marked c.turn_raised-turned.ensures
    c.tell_of_reader-3.ensures.told in
    let four =
    tells_raised N C B (λ known was rows r. subscription_raised known rows r) c.subscription_raised-matched.result
    before c.args.mark.now c.tell_of_reader-3.new.self c.tell_of_reader-3.new.slots n i c.index-4.result.now
    c.tell_of_reader-4.new.self c.tell_of_reader-4.new.slots fourth.0 fourth.3 marked
    c.subscription_raised-matched.ensures c.tell_of_reader-4.ensures.told in
    tells_then N C B (λ part. turn_told before n (data_told before n (lost_told before n part)))
    (subscription_told before n) c.args.self.now c.args.slots.now
    c.tell_of_reader-3.new.self c.tell_of_reader-3.new.slots c.tell_of_reader-4.new.self c.tell_of_reader-4.new.slots
    (tells_then N C B (λ part. data_told before n (lost_told before n part))
    (turn_told before n) c.args.self.now c.args.slots.now
    c.tell_of_reader-2.new.self c.tell_of_reader-2.new.slots c.tell_of_reader-3.new.self c.tell_of_reader-3.new.slots
    (tells_then N C B (lost_told before n)
    (data_told before n) c.args.self.now c.args.slots.now c.tell_of_reader.new.self c.tell_of_reader.new.slots
    c.tell_of_reader-2.new.self c.tell_of_reader-2.new.slots one two)
    three) four
