use Rattle.std.proofs.Common.{◌+◌, ◌++◌, ℕ, ap, arith, rules, ◌∙◌}
use Rattle.dds_base.specs.declared.config.PeerConfig.{PeerConfig}
use Rattle.dds_base.specs.MatchedAt.{of_writers_in}
use Rattle.dds_ends.specs.EndNames.{matched_writer, writer_name}
use Rattle.dds_ends.proofs.Numbered.{writers_on}
use Rattle.dds_ends.proofs.matching.matched_writers.Goals as goal

pub loop-index-preserved : goal.loop-index-preserved
loop-index-preserved c =
    let n : ℕ = c.loop-index.index + c.args.first in
    let next : ℕ = c.loop-index.index + 1 + c.args.first in
    let more = c.in_ok-push_writers.ensures.few in
    let few = c.loop-index.invariant.few in
    record {
      names =
          writers_on writer_name c.args.topic n next c.loop-index.index c.args.peers.now _ c.loop-index.all.names.items
          c.push_writers.new.all.names.items _ (omega arith) (search rules)
          (c.in_ok-push_writers.ensures.names
          ∙ ap (λ (p : PeerConfig). c.loop-index.all.names.items
          ++ of_writers_in (writer_name n p) c.args.topic 1 p.writers) c.index-peers-index.is)
          c.loop-index.invariant.names;
      qos =
          writers_on matched_writer c.args.topic n next c.loop-index.index c.args.peers.now _ c.loop-index.all.qos.items
          c.push_writers.new.all.qos.items _ (omega arith) (search rules)
          (c.in_ok-push_writers.ensures.qos
          ∙ ap (λ (p : PeerConfig). c.loop-index.all.qos.items
          ++ of_writers_in (matched_writer n p) c.args.topic 1 p.writers) c.index-peers-index.is)
          c.loop-index.invariant.qos;
      few = omega (arith, more, few);
    }
