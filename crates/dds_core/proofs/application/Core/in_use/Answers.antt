use Rattle.std.proofs.Common.{sym, subst, ap, ◌∙◌}
use Rattle.dds_conditions.specs.Watched.{Watched, uses_in}
use Rattle.dds_core.specs.Listening.{CoreKept}
use Rattle.dds_core.specs.Standing.{StandsFor as PeerStandsFor}
use Rattle.dds_core.proofs.application.Core.in_use.Goals as goal

pub returns : goal.returns
returns g c = record {
  used = λ roster peer s.
      let here =
      subst (λ (k : CoreKept g.row.F.Denot g.row.L.Denot). PeerStandsFor k.filtered.peer roster peer)
      (sym c.self.view_is) s in
      c.in_use.ensures ∙ ap (λ (w : Watched). uses_in w.wait_sets) (sym here.watch);
}
