use Rattle.dds_instances.proofs.HoldingLaws.{absent-more, indexed-more}
use Rattle.dds_instances.proofs.keeping.index_anew.Goals as goal
use Rattle.std.proofs.Common.{arith}

pub push-requires-clause-absent : goal.push-requires-clause-absent
push-requires-clause-absent c =
    absent-more c.args.tracks.now c.loop-track.track-index c.track-item.result c.loop-track.index.keys
    c.requires.distinct c.loop-track-test.true c.track-item.is c.loop-track.invariant.keys

pub loop-track-preserved : goal.loop-track-preserved
loop-track-preserved c = record {
  keys = indexed-more c.args.tracks.now c.loop-track.track-index c.track-item.result c.loop-track.index.keys _
      c.loop-track-test.true c.track-item.is c.loop-track.invariant.keys c.push.ensures.keys;
  room = omega (arith, c.loop-track.invariant.room, c.push.ensures.room);
}
