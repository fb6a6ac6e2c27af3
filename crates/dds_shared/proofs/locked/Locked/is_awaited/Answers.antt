use Rattle.std.proofs.Common.{ℕ, ap, ◌∙◌}
use Rattle.std.specs.Prelude.{nat_lt}
use Rattle.dds_trace.specs.Uses.{in_use_of}
use Rattle.dds_shared.specs.Locks.{Kept}
use Rattle.dds_shared.specs.Seeds.{listeners_in}
use Rattle.dds_shared.proofs.Using.{uses_told}
use Rattle.dds_shared.proofs.locked.Locked.is_awaited.Goals as goal

pub returns : goal.returns
returns g c =
    let kept = c.self.invariant.0 in
    let in_use = uses_told g.L.Listener.notices g.L.Listener.capacity g.L.Listener.becomes (listeners_in g.N.Named.slots) c.self.inside.core
    kept.history.roster kept.history.peer c.in_use.result kept.history.stands c.in_use.ensures.used in
    let core = ap (λ (k : Kept g.row.F.Denot g.row.L.Denot). in_use_of k.core) c.self.view_is in
    record { awaited = ap (λ (n : ℕ). nat_lt 0 n) (in_use ∙ core) }
