use Rattle.std.proofs.Common.{ℕ, ◌-◌, arith}
use Rattle.dds_machine.specs.Noticing.{loss_raised, publication_raised}
use Rattle.dds_machine.proofs.InTurn.{loss_told, publication_told}
use Rattle.dds_core.specs.Kept.{PeerKept}
use Rattle.dds_core.proofs.Notified.{end_found, tells_then}
use Rattle.dds_core.proofs.WriterNotified.{writer_raised}
use Rattle.dds_core.proofs.peer.Peer.notify_writer.Goals as goal

pub returns-clause-told : goal.returns-clause-told
returns-clause-told g c = λ before marked.
    let N = g.L.Listener.notices in
    let C = g.L.Listener.capacity in
    let B = g.L.Listener.becomes in
    let n : ℕ = c.args.number in
    let i : ℕ = c.from-index.result - 1 in
    let number = c.from-index.ensures in
    let low = c.requires.within.0 in
    let high = c.requires.within.1 in
    let same = c.tell_of_writer.ensures.writers in
    let first =
    end_found (λ (k : PeerKept). k.writers) _ c.args.self.now n c.from-index.result c.index.result.now c.self.view_is
    low high number c.index.ensures in
    let second =
    end_found (λ (k : PeerKept). k.writers) _ c.tell_of_writer.new.self n c.from-index.result c.index-2.result.now
    c.self-2.view_is low (omega (arith, high, same)) number c.index-2.ensures in
    let one =
    writer_raised N C B loss_raised c.loss_raised-lost.result before c.args.mark.now c.args.self.now c.args.slots.now n i
    c.index.result.now
    c.tell_of_writer.new.self c.tell_of_writer.new.slots first.0 first.3 marked c.loss_raised-lost.ensures
    c.tell_of_writer.ensures.told in
    let two =
    writer_raised N C B publication_raised c.publication_raised-matched.result before c.args.mark.now
    c.tell_of_writer.new.self c.tell_of_writer.new.slots n i c.index-2.result.now
    c.tell_of_writer-2.new.self c.tell_of_writer-2.new.slots second.0 second.3 marked
    c.publication_raised-matched.ensures c.tell_of_writer-2.ensures.told in
    tells_then N C B (loss_told before n) (publication_told before n) c.args.self.now c.args.slots.now
    c.tell_of_writer.new.self c.tell_of_writer.new.slots c.tell_of_writer-2.new.self c.tell_of_writer-2.new.slots one two
