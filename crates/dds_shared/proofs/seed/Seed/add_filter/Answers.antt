use Rattle.std.proofs.Common.{ap, subst}
use Rattle.std.specs.Prelude.{IfErr}
use Rattle.dds_core.specs.Listening.{CoreKept, RefusesFilter}
use Rattle.dds_shared.specs.Seeds.{Planted}
use Rattle.dds_shared.proofs.Seeds.{filtered_or_same}
use Rattle.dds_shared.proofs.seed.Seed.add_filter.Goals as goal

pub invariant_of-self : goal.invariant_of-self
invariant_of-self g c = (
  filtered_or_same g.F.Filter.meaning g.L.Listener.notices g.L.Listener.capacity g.L.Listener.becomes
      c.self.inside.config.value c.self.inside.peer c.self.inside.core c.add_filter.new.self c.args.filter
      c.add_filter.result c.self.invariant.0 c.add_filter.ensures.ok c.add_filter.ensures.err,
  c.self.invariant.1,
)

pub returns-clause-refused : goal.returns-clause-refused
returns-clause-refused g c =
    let seen = ap (λ (p : Planted g.row.F.Denot g.row.L.Denot). p.core) c.self.view_is in
    let P : CoreKept g.row.F.Denot g.row.L.Denot → Type 0 =
    λ core. IfErr c.add_filter.result (λ e.
    RefusesFilter g.L.Listener.notices g.L.Listener.capacity g.L.Listener.becomes core e.0) in
    subst P seen c.add_filter.ensures.refused
