use Rattle.std.proofs.Common.{subst, sym}
use Rattle.dds_conditions.specs.Filtered.{tests_of}
use Rattle.dds_core.specs.Filtering.{FilteredKept}
use Rattle.dds_core.specs.FilteredSteps.{Steps}
use Rattle.dds_core.specs.Lending.{event_of}
use Rattle.dds_core.specs.Remembering.{AreMisses}
use Rattle.dds_core.proofs.Filtering.{steps}
use Rattle.dds_core.proofs.filtered_peer.FilteredPeer.step.Goals as goal

pub returns-clause-step : goal.returns-clause-step
returns-clause-step g c =
    let inside = c.self.inside in
    let kept : FilteredKept g.row.F.Denot = record { peer = inside.peer; filters = inside.filters } in
    subst (λ (k : FilteredKept g.row.F.Denot). Steps
    (tests_of g.F.Filter.meaning k.filters) k (event_of c.args.event) c.step_by.result
    (record { peer = c.step_by.new.self; filters = inside.filters }))
    c.self.view_is (steps _ kept (event_of c.args.event) c.step_by.result c.step_by.new.self c.step_by.ensures.step)

pub step_by-requires : goal.step_by-requires
step_by-requires g c = record {
  right = subst (λ (k : FilteredKept g.row.F.Denot). AreMisses (tests_of g.F.Filter.meaning k.filters) k.peer
      c.args.misses.now) (sym c.self.view_is) c.requires.right;
}

pub returns-clause-right : goal.returns-clause-right
returns-clause-right g c =
    subst (λ (k : FilteredKept g.row.F.Denot). AreMisses (tests_of g.F.Filter.meaning k.filters) k.peer
    c.step_by.new.misses) c.self.view_is c.step_by.ensures.right
