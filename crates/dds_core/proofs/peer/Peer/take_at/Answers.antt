use Rattle.std.proofs.Common.{◌≡◌, ℕ, Some, slice_get, sym, ◌∙◌, ap, subst}
use Rattle.std.proofs.lemmas.Option.{get_or_from_slice_get}
use Rattle.rtps_reader.specs.Tracked.{Tracked}
use Rattle.dds_core.specs.Kept.{PeerKept}
use Rattle.dds_ends.specs.Readiness.{IsPlaceAt}
use Rattle.dds_core.proofs.Ends.{with_reader}
use Rattle.dds_core.proofs.Ready.{took_by}
use Rattle.dds_core.proofs.peer.Peer.take_at.Goals as goal

pub returns-clause-takes : goal.returns-clause-takes
returns-clause-takes g c = λ k at.
    let there : slice_get c.self.inside.readers.items c.args.index ≡ Some k =
    subst (λ (q : PeerKept). slice_get q.readers c.args.index ≡ Some k) (sym c.self.view_is) at in
    let is_k : c.index_mut-end.result.now ≡ k =
    c.index_mut-end.ensures.value ∙ get_or_from_slice_get c.self.inside.readers.items c.args.index k _ there in
    let row = c.row-row.ensures.row in
    took_by c.args.self.now c.args.index (g.T.Telling.ready c.args.ready) k c.index_mut-end.result.now c.tell-step.new.end
    c.args.effects.now.moves.items c.args.effects.now.sent _ c.push_moves.new.moves.items c.send_acknack.new.sent
    c.writer-writer.result c.place-from.result c.tell-step.result
    is_k at
    (subst (λ (n : ℕ). slice_get c.index_mut-end.result.now.writers n ≡ Some c.writer-writer.result) row
    c.writer-writer.ensures)
    (subst (λ (n : ℕ). (t : Tracked) → IsPlaceAt c.index_mut-end.result.now n t c.place-from.result) row
    c.place-from.ensures)
    (ap (λ (q : PeerKept). q.moment) c.self.view_is) c.tell-step.ensures.told c.tell-step.ensures.same
    (ap (λ (q : PeerKept). with_reader q c.args.index c.tell-step.new.end) c.self.view_is)
    c.push_moves.ensures.moved (ap (λ (q : PeerKept). q.prefix) c.self.view_is)
    (c.entity.ensures ∙ c.tell-step.ensures.same.entity) c.send_acknack.ensures.adds

pub push_moves-requires-clause-few : goal.push_moves-requires-clause-few
push_moves-requires-clause-few g c = c.tell-step.ensures.few
