use Rattle.std.proofs.Common.{ℕ, List, ap, ◌∙◌, subst, arith}
use Rattle.rtps_wire.specs.Messages.{spelling_of}
use Rattle.dds_ends.specs.Announcing.{message_of, AddsOctets}
use Rattle.dds_ends.proofs.Announcing.{writable_so}
use Rattle.dds_ends.proofs.sending.announce_to.Goals as goal

pub returns-in-Ok-clause-adds : goal.returns-in-Ok-clause-adds
returns-in-Ok-clause-adds c =
    let to = c.args.destination.now in
    subst (λ (octets : List ℕ). AddsOctets c.args.packets.now.items octets to.peer c.push_bytes.new.packets.items)
    (c.in-Ok.ensures.ok
    ∙ ap (λ (n : ℕ). spelling_of (message_of (record c.args.sender.now { moment = n }) to c.args.change.now))
    c.units-moment.ensures.units) c.push_bytes.ensures

pub returns-in_default-clause-writable : goal.returns-in_default-clause-writable
returns-in_default-clause-writable c =
    writable_so c.args.sender.now c.args.destination.now c.args.change.now c.as_slice-from.ensures.len
    c.as_slice-to.ensures.len c.as_slice-reader.ensures.len c.as_slice-writer.ensures.len (omega arith)
    c.requires.first c.requires.small c.requires.valid
