use Rattle.dds_machine.specs.Part.{how_of, is_attached}
use Rattle.dds_core.specs.Listening.{CoreKept}
use Rattle.dds_world.specs.Holding.{kept_of}
use Rattle.dds_world.proofs.Holding.{core_kept}
use Rattle.dds_world.proofs.Rounds.{rows_in, rows_kept}
use Rattle.dds_world.proofs.world.World.is_matched.Goals as goal

pub returns : goal.returns
returns g c = record {
  matched = λ given.
      let i = c.in-Some.index in
      let core : CoreKept g.row.F.Denot g.row.L.Denot = c.index.result.now in
      let kept = kept_of g.L.Listener.notices g.L.Listener.capacity g.L.Listener.becomes given c.args.self.now in
      let at =
      core_kept g.L.Listener.notices g.L.Listener.capacity g.L.Listener.becomes given _ c.args.self.now i c.count.result
      core c.self.view_is c.index.ensures c.count.ensures c.in-Some.ensures.index.1 in
      rows_in kept (λ rows. is_attached (how_of rows c.args.writer)) c.args.reader c.is_matched.result
      (rows_kept kept i core.filtered.peer (λ rows. is_attached (how_of rows c.args.writer)) c.args.reader c.is_matched.result
      c.in-Some.ensures.index.0 at c.is_matched.ensures.matched);
}
