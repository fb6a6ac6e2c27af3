use Rattle.std.proofs.Common.{List, sym, subst}
use Rattle.dds_core.specs.declared.misses.Miss.{Miss}
use Rattle.dds_protocol.specs.Roster.{roster_of}
use Rattle.dds_core.specs.Opening.{opening_peer}
use Rattle.dds_core.specs.Listening.{no_listeners}
use Rattle.dds_core.specs.Remembering.{Remembers}
use Rattle.dds_core.proofs.Remembered.{remembers_none}
use Rattle.dds_core.proofs.mindful.Mindful.open.Goals as goal

pub invariant_of-result : goal.invariant_of-result
invariant_of-result g c =
    subst (λ (ms : List Miss). Remembers g.L.Listener.notices g.L.Listener.capacity g.L.Listener.becomes
    g.F.Filter.meaning c.in_ok-core.core ms) (sym c.new.ensures)
    (remembers_none g.L.Listener.notices g.L.Listener.capacity g.L.Listener.becomes g.F.Filter.meaning
    (no_listeners (opening_peer c.args.config.now c.args.peer).part) c.in_ok-core.core (roster_of c.args.config.now)
    (opening_peer c.args.config.now c.args.peer) c.in_ok-core.ensures.opening c.in_ok-core.ensures.known)
