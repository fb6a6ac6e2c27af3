use Rattle.std.proofs.Common.{◌+◌, ◌<◌, inl, inr, get_or, length, take, true, false, List, ap, sym, subst, ◌∙◌, arith, rules, eq-eqb}
use Rattle.rtps_wire.specs.declared.submessage.Submessage.{Submessage}
use Rattle.dds_ends.specs.Standing.{state_of}
use Rattle.dds_ends.specs.Beating.{names_at}
use Rattle.dds_ends.proofs.Beating.{other_number, told_at}
use Rattle.dds_ends.proofs.FewAt.{one_if}
use Rattle.dds_ends.proofs.ByName.{Pushed, names_at_next, told_before, more_told, same_told, pushed_one, pushed_same}
use Rattle.dds_ends.proofs.Joining.{no_name}
use Rattle.dds_ends.proofs.heartbeat.push_told.Goals as goal
use Rattle.dds_ends.proofs.heartbeat.push_told.Goals.{then-is_told+then-name-peer+in_ok-push_beat, else-is_told, else-is_told-via-then-is_told+else-name-peer, else-is_told-via-else-is_told}

pub loop-row-preserved : goal.loop-row-preserved
loop-row-preserved c =
    let beat = c.args.beat.now in
    let kept = c.args.writer.now in
    let names = c.args.readers.now in
    let row = c.loop-row.row in
    let peer = c.args.peer in
    let old = c.args.submessages.now in
    let lt : row < length names = search rules in
    let next = names_at_next names row peer lt in
    elim c.if-is_told.branch [
      | then-is_told+then-name-peer+in_ok-push_beat v ↦
          subst (λ (ss : List Submessage). Pushed beat kept names (told_before names (row + 1))
          (names_at (take (row + 1) names) peer) peer old ss)
          (sym v.submessages-is)
          (pushed_one beat kept names (told_before names row) (told_before names (row + 1))
          (names_at (take row names) peer) (names_at (take (row + 1) names) peer) peer
          (get_or names row no_name) old c.loop-row.submessages v.push_beat.new.submessages
          (let one = ap one_if (eq-eqb _ _ v.if-name-peer.true) in omega (arith, next, one)) c.loop-row.invariant
          v.in_ok-push_beat.ensures.bare
          v.in_ok-push_beat.ensures.adds
          (λ w answered b.
          more_told beat answered w names row peer true true b.names_are lt
          (eq-eqb _ _ v.if-name-peer.true) (told_at w answered names row true b.names_are lt
          (sym (c.is_told.ensures.told (state_of w answered) b.stands) ∙ v.if-is_told.true))))
      | else-is_told v ↦
          subst (λ (ss : List Submessage). Pushed beat kept names (told_before names (row + 1))
          (names_at (take (row + 1) names) peer) peer old ss)
          (sym v.submessages-is)
          (pushed_same beat kept names (told_before names row) (told_before names (row + 1))
          (names_at (take row names) peer) (names_at (take (row + 1) names) peer) peer old
          c.loop-row.submessages (omega (arith, next)) c.loop-row.invariant
          (λ w answered b. same_told beat answered w names row peer b.names_are lt
          (elim v.else-is_told.branch [
            | else-is_told-via-then-is_told+else-name-peer u ↦ inl (other_number _ _ u.if-name-peer.false)
            | else-is_told-via-else-is_told u ↦
                inr (told_at w answered names row false b.names_are lt
                (sym (c.is_told.ensures.told (state_of w answered) b.stands) ∙ u.if-is_told.false))
          ])))
    ]
