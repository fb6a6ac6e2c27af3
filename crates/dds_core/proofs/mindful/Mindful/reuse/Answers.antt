use Rattle.std.proofs.Common.{subst, sym}
use Rattle.dds_core.specs.Listening.{CoreKept}
use Rattle.dds_core.specs.Remembering.{Remembers}
use Rattle.dds_core.proofs.mindful.Mindful.reuse.Goals as goal

pub invariant_of-self : goal.invariant_of-self
invariant_of-self g c =
    subst (λ (k : CoreKept g.row.F.Denot g.row.L.Denot). Remembers g.L.Listener.notices g.L.Listener.capacity g.L.Listener.becomes
    g.F.Filter.meaning k c.self.inside.misses) (sym c.reuse.ensures.same) c.self.invariant
