use Rattle.std.proofs.Common.{ap, sym, ◌∙◌}
use Rattle.dds_core.specs.Listening.{CoreKept}
use Rattle.dds_core.proofs.application.Core.prefix.Goals as goal

pub returns : goal.returns
returns g c =
    let kept =
    c.prefix.ensures ∙ ap (λ (k : CoreKept g.row.F.Denot g.row.L.Denot). k.filtered.peer.prefix) c.self.view_is in
    record { prefix = λ roster peer s. kept ∙ sym s.is_peer.prefix; kept = kept }
