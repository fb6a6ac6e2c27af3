use Rattle.std.proofs.Common.{subst}
use Rattle.dds_machine.specs.Noticing.{at_end}
use Rattle.dds_core.specs.Filtering.{FilteredKept}
use Rattle.dds_core.specs.Noticing.{Tells}
use Rattle.dds_core.proofs.filtered_peer.FilteredPeer.end.Goals as goal

pub returns-clause-told : goal.returns-clause-told
returns-clause-told g c = λ before marks.
    subst (λ (k : FilteredKept g.row.F.Denot). Tells g.L.Listener.notices g.L.Listener.capacity g.L.Listener.becomes
    (at_end before) k.peer c.args.slots.now c.end.new.self c.end.new.slots)
    c.self.view_is (c.end.ensures.told before marks)
