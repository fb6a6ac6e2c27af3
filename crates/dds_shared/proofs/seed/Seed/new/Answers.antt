use Rattle.std.proofs.Common.{[], sym, subst, rules}
use Rattle.dds_base.specs.declared.config.Config.{Config}
use Rattle.dds_core.specs.Listening.{no_listeners}
use Rattle.dds_core.specs.Opening.{opening_peer}
use Rattle.dds_trace.specs.History.{IsHistoryOf}
use Rattle.dds_trace.proofs.Adding.{begins}
use Rattle.dds_shared.specs.Seeds.{listeners_in}
use Rattle.dds_shared.proofs.Given.{is_given}
use Rattle.dds_shared.proofs.Opening.{number_opened, peers_good}
use Rattle.dds_shared.proofs.seed.Seed.new.Goals as goal

pub invariant_of-result : goal.invariant_of-result
invariant_of-result g c =
    let core = c.in_ok-core.core in
    let given = no_listeners (opening_peer c.args.config.now c.args.peer).part in
    let P : Config → Type 0 =
    λ k. IsHistoryOf g.F.Filter.meaning g.L.Listener.notices g.L.Listener.capacity g.L.Listener.becomes
    (listeners_in core.listeners) k c.args.peer [] core in (
      subst P (sym c.of.ensures)
          (is_given g.F.Filter.meaning g.L.Listener.notices g.L.Listener.capacity g.L.Listener.becomes given
          c.args.config.now c.args.peer core
          (begins g.F.Filter.meaning g.L.Listener.notices g.L.Listener.capacity g.L.Listener.becomes given
          c.args.config.now c.args.peer core
          (peers_good c.args.config.now c.args.peer c.in_ok-core.ensures.taken)
          (number_opened c.args.config.now c.args.peer c.in_ok-core.ensures.taken) c.in_ok-core.ensures.roster
          c.in_ok-core.ensures.none)),
      search rules,
    )
