use Rattle.std.proofs.Common.{sym, subst, ap, ◌∙◌}
use Rattle.dds_base.specs.Number.{at_number}
use Rattle.dds_conditions.specs.Watched.{Watched, is_used}
use Rattle.dds_core.specs.Listening.{CoreKept}
use Rattle.dds_core.specs.Standing.{StandsFor as PeerStandsFor}
use Rattle.dds_core.proofs.application.Core.is_in_use.Goals as goal

pub returns : goal.returns
returns g c = record {
  used = λ roster peer s.
      let here =
      subst (λ (k : CoreKept g.row.F.Denot g.row.L.Denot). PeerStandsFor k.filtered.peer roster peer)
      (sym c.self.view_is) s in
      c.is_in_use.ensures
      ∙ ap (λ (w : Watched). is_used (at_number w.wait_sets c.args.number)) (sym here.watch);
}
