use Rattle.std.proofs.Common.{ap, subst}
use Rattle.std.specs.Prelude.{IfErr}
use Rattle.dds_core.specs.Listening.{CoreKept, RefusesListener}
use Rattle.dds_shared.specs.Seeds.{Planted}
use Rattle.dds_shared.proofs.Seeds.{listened_or_same}
use Rattle.dds_shared.proofs.seed.Seed.set_listener.Goals as goal

pub invariant_of-self : goal.invariant_of-self
invariant_of-self g c = (
  listened_or_same g.F.Filter.meaning g.L.Listener.notices g.L.Listener.capacity g.L.Listener.becomes
      c.self.inside.config.value c.self.inside.peer c.self.inside.core c.set_listener.new.self c.args.entity c.args.mask
      c.args.listener c.set_listener.result c.self.invariant.0 c.set_listener.ensures.ok c.set_listener.ensures.err,
  c.self.invariant.1,
)

pub returns-clause-refused : goal.returns-clause-refused
returns-clause-refused g c =
    let seen = ap (λ (p : Planted g.row.F.Denot g.row.L.Denot). p.core) c.self.view_is in
    let P : CoreKept g.row.F.Denot g.row.L.Denot → Type 0 =
    λ core. IfErr c.set_listener.result (λ e.
    RefusesListener g.L.Listener.notices g.L.Listener.capacity g.L.Listener.becomes core c.args.entity c.args.listener e.0) in
    subst P seen c.set_listener.ensures.refused
