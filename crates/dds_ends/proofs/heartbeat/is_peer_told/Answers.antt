use Rattle.std.proofs.Common.{◌<◌, true, false, inl, inr, length, sym, ◌∙◌, arith, rules}
use Rattle.dds_protocol.specs.DueMessages.{is_told}
use Rattle.dds_ends.specs.Standing.{state_of}
use Rattle.dds_ends.proofs.Beating.{none_told, other_number, some_told, told_at}
use Rattle.dds_ends.proofs.heartbeat.is_peer_told.Goals as goal
use Rattle.dds_ends.proofs.heartbeat.is_peer_told.Goals.{else-name-peer-via-then-name-peer+else-is_told, else-name-peer-via-else-name-peer}

pub returns-then-is_told : goal.returns-then-is_told
returns-then-is_told c =
    let before : c.loop-row.row < c.args.to = search rules in
    let all = c.requires.to in
    let lt : c.loop-row.row < length c.args.readers.now = omega (arith, before, all) in
    λ w answered same stands.
    sym (some_told (is_told answered w) w c.args.peer c.args.readers.now c.loop-row.row c.args.to same lt before
    c.if-name-peer.true
    (told_at w answered c.args.readers.now c.loop-row.row true same lt
    (sym (c.is_told.ensures.told (state_of w answered) stands) ∙ c.if-is_told.true)))

pub loop-row-preserved : goal.loop-row-preserved
loop-row-preserved c =
    let before : c.loop-row.row < c.args.to = search rules in
    let all = c.requires.to in
    let lt : c.loop-row.row < length c.args.readers.now = omega (arith, before, all) in
    λ w answered same stands.
    none_told (is_told answered w) w c.args.peer c.args.readers.now c.loop-row.row same lt
    (c.loop-row.invariant w answered same stands)
    (elim c.else-name-peer.branch [
      | else-name-peer-via-then-name-peer+else-is_told v ↦
          inr (told_at w answered c.args.readers.now c.loop-row.row false same lt
          (sym (v.is_told.ensures.told (state_of w answered) stands) ∙ v.if-is_told.false))
      | else-name-peer-via-else-name-peer v ↦ inl (other_number _ _ v.if-name-peer.false)
    ])
