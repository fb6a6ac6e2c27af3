use Rattle.std.proofs.Common.{◌+◌, ◌<◌, length, take, List, sym, subst, rules, eq-eqb}
use Rattle.rtps_wire.specs.declared.submessage.Submessage.{Submessage}
use Rattle.dds_ends.specs.Beating.{names_at}
use Rattle.dds_ends.proofs.Beating.{other_number}
use Rattle.dds_ends.proofs.ByName.{Pushed, matched_one, matched_same}
use Rattle.dds_ends.proofs.heartbeat.push_matched.Goals as goal
use Rattle.dds_ends.proofs.heartbeat.push_matched.Goals.{then-name-peer+in_ok-push_beat, else-name-peer}

pub loop-name-preserved : goal.loop-name-preserved
loop-name-preserved c =
    let beat = c.args.beat.now in
    let kept = c.args.writer.now in
    let names = c.args.readers.now in
    let matched = c.args.matched.now in
    let row = c.loop-name.name-index in
    let peer = c.args.peer in
    let old = c.args.submessages.now in
    let lt : row < length matched = search rules in
    elim c.if-name-peer.branch [
      | then-name-peer+in_ok-push_beat v ↦
          subst (λ (ss : List Submessage). Pushed beat kept names (λ w answered. take (row + 1) matched)
          (names_at (take (row + 1) matched) peer) peer old ss) (sym v.submessages-is)
          (matched_one beat kept names matched row peer _ old c.loop-name.submessages v.push_beat.new.submessages lt
          (eq-eqb _ _ v.if-name-peer.true) c.loop-name.invariant v.in_ok-push_beat.ensures.bare
          v.in_ok-push_beat.ensures.adds)
      | else-name-peer v ↦
          subst (λ (ss : List Submessage). Pushed beat kept names (λ w answered. take (row + 1) matched)
          (names_at (take (row + 1) matched) peer) peer old ss) (sym v.submessages-is)
          (matched_same beat kept names matched row peer _ old c.loop-name.submessages lt
          (other_number _ _ v.if-name-peer.false) c.loop-name.invariant)
    ]
