use Rattle.dds_protocol.specs.Roster.{roster_of}
use Rattle.dds_core.proofs.Ended.{opens, opens_sound}
use Rattle.dds_core.proofs.application.Core.open.Goals as goal

pub returns-clause-opening : goal.returns-clause-opening
returns-clause-opening g c =
    opens g.L.Listener.notices g.L.Listener.capacity g.L.Listener.becomes c.in_ok-filtered.filtered c.in_ok-listeners.listeners
    c.args.config.now (roster_of c.args.config.now) c.args.peer
    c.writers.result c.readers.result c.in_ok-filtered.ensures.opening c.writers.ensures c.readers.ensures
    c.in_ok-listeners.ensures.nobody

pub returns-clause-known : goal.returns-clause-known
returns-clause-known g c = opens_sound c.args.config.now (roster_of c.args.config.now) c.args.peer

pub returns-clause-roster : goal.returns-clause-roster
returns-clause-roster g c = λ all first good. (
  opens g.L.Listener.notices g.L.Listener.capacity g.L.Listener.becomes c.in_ok-filtered.filtered
      c.in_ok-listeners.listeners c.args.config.now (roster_of all) c.args.peer
      c.writers.result c.readers.result (c.in_ok-filtered.ensures.roster all first good) c.writers.ensures
      c.readers.ensures c.in_ok-listeners.ensures.nobody,
  opens_sound c.args.config.now (roster_of all) c.args.peer,
)
