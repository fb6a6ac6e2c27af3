use Rattle.std.proofs.Common.{◌≡◌, ◌≤◌, ◌+◌, ℕ, List, length, length-set, set, take, refl, ap, sym, ◌∙◌, subst, arith}
use Rattle.dds_ends.specs.declared.matching.Destination.{Destination}
use Rattle.dds_ends.specs.Beating.{first_peers}
use Rattle.dds_ends.proofs.FirstPeers.{one_written, peers_by}
use Rattle.dds_ends.proofs.Joining.{no_name}
use Rattle.dds_ends.proofs.coming.set_peers.Goals as goal
use Rattle.dds_ends.proofs.coming.set_peers.Goals.{then-is_first_of, else-is_first_of}

pub index_mut-requires : goal.index_mut-requires
index_mut-requires c =
    let names = c.args.names.now in
    let peers : List Destination = c.loop-row.peers.items in
    let place =
    one_written names c.loop-row.row peers c.loop-row.count no_name _ c.loop-row-test.true
    (sym c.is_first_of.ensures ∙ c.if-is_first_of.true) refl c.loop-row.invariant.within c.loop-row.invariant.written
    (subst (λ (n : ℕ). length (first_peers names) ≤ n) (sym c.loop-row.invariant.room) c.requires) in
    let first = place.0 in
    let long = c.loop-row.peers.ok.0 in
    omega (arith, first, long)

pub loop-row-preserved : goal.loop-row-preserved
loop-row-preserved c =
    let names = c.args.names.now in
    let row = c.loop-row.row in
    let peers : List Destination = c.loop-row.peers.items in
    let count = c.loop-row.count in
    let within = c.loop-row.invariant.within in
    let next : List Destination = first_peers (take (row + 1) names) in
    elim c.if-is_first_of.branch [
      | then-is_first_of w ↦
          let one =
          one_written names row peers count no_name w.peer.result c.loop-row-test.true
          (sym c.is_first_of.ensures ∙ w.if-is_first_of.true) w.peer.ensures within c.loop-row.invariant.written
          (subst (λ (n : ℕ). length (first_peers names) ≤ n) (sym c.loop-row.invariant.room) c.requires) in
          let place = one.0 in
          let now : c.if-is_first_of.peers.items ≡ set peers count w.peer.result = ap (λ v. v.items) w.peers-is in
          let size : length c.if-is_first_of.peers.items ≡ length peers =
          ap (λ (ds : List Destination). length ds) now ∙ length-set peers count w.peer.result in
          let counted = w.count-is in
          record {
            written =
                subst (λ (n : ℕ). take n c.if-is_first_of.peers.items ≡ next) (sym counted)
                (subst (λ (ds : List Destination). take (count + 1) ds ≡ next) (sym now) one.1);
            room = size ∙ c.loop-row.invariant.room;
            within = omega (arith, place, size, counted);
          }
      | else-is_first_of w ↦
          let now : c.if-is_first_of.peers.items ≡ peers = ap (λ v. v.items) w.peers-is in
          let size : length c.if-is_first_of.peers.items ≡ length peers = ap (λ (ds : List Destination). length ds) now in
          let counted = w.count-is in
          record {
            written =
                subst (λ (n : ℕ). take n c.if-is_first_of.peers.items ≡ next) (sym counted)
                (subst (λ (ds : List Destination). take count ds ≡ next) (sym now)
                (c.loop-row.invariant.written
                ∙ sym (peers_by names row no_name _ c.loop-row-test.true
                (sym c.is_first_of.ensures ∙ w.if-is_first_of.false))));
            room = size ∙ c.loop-row.invariant.room;
            within = omega (arith, within, size, counted);
          }
    ]
