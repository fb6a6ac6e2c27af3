use Rattle.dds_core.proofs.Newcomers.{comes}
use Rattle.dds_core.proofs.application.Core.come.Goals as goal

pub returns-clause-coming : goal.returns-clause-coming
returns-clause-coming g c =
    comes g.L.Listener.notices g.L.Listener.capacity g.L.Listener.becomes c.in_ok-filtered.filtered
    c.in_ok-listeners.listeners c.args.config.now c.args.number c.writers.result c.readers.result
    c.in_ok-filtered.ensures.coming c.writers.ensures c.readers.ensures c.in_ok-listeners.ensures.nobody
