use Rattle.std.proofs.Common.{◌≡◌, ◌+◌, ◌++◌, ℕ, List, Option, Some, slice_get, sym, ap, subst, ◌∙◌, append-nil}
use Rattle.std.proofs.lemmas.Option.{get_or_from_slice_get}
use Rattle.dds_ends.specs.Answering.{TakesAckNack, acknack_moves, listed}
use Rattle.dds_machine.specs.declared.reply.Move.{Move}
use Rattle.dds_core.specs.Kept.{PeerKept}
use Rattle.dds_core.specs.declared.effects.Effects.{Effects}
use Rattle.dds_ends.specs.declared.sending.Announced.{Announced}
use Rattle.dds_core.proofs.Ends.{with_writer}
use Rattle.dds_core.proofs.Requesting.{row_took}
use Rattle.dds_core.proofs.peer.Peer.answer_row.Goals.{in-Some, in_default}
use Rattle.dds_core.proofs.peer.Peer.answer_row.Goals as goal

pub returns-clause-takes : goal.returns-clause-takes
returns-clause-takes c = λ k name at at_name.
    let there : slice_get c.self.inside.writers.items c.args.index ≡ Some k =
    subst (λ (q : PeerKept). slice_get q.writers c.args.index ≡ Some k) (sym c.self.view_is) at in
    let is_k : c.index_mut-writer.result.now ≡ k =
    c.index_mut-writer.ensures.value ∙ get_or_from_slice_get c.self.inside.writers.items c.args.index k _ there in
    let writer : ℕ = c.args.index + 1 in
    let moved : c.match-heard.effects.moves.items ≡ c.args.effects.now.moves.items
    ++ acknack_moves writer c.reader-reader.result c.take_acknack-acknowledged.result c.is_beyond-is_strange.result =
    elim c.match-heard.branch [
      | in-Some w ↦
          ap (λ (e : Effects). e.moves.items) w.effects-is ∙ (w.push_reserved.ensures.items
          ∙ ap (λ (o : Option Move). c.args.effects.now.moves.items ++ listed o) (sym w.in-Some.is))
      | in_default w ↦
          ap (λ (e : Effects). e.moves.items) w.effects-is
          ∙ (sym (append-nil c.args.effects.now.moves.items)
          ∙ ap (λ (o : Option Move). c.args.effects.now.moves.items ++ listed o) (sym w.in_default.is))
    ] ∙ ap (λ (ms : List Move). c.args.effects.now.moves.items ++ ms) c.heard.ensures.said in
    let same_sent : c.match-heard.effects.sent ≡ c.take_acknack-acknowledged.new.sent = elim c.match-heard.branch [
      | in-Some w ↦ ap (λ (e : Effects). e.sent) w.effects-is
      | in_default w ↦ ap (λ (e : Effects). e.sent) w.effects-is
    ] in
    row_took c.args.self.now c.args.index c.args.row c.args.body.now k c.index_mut-writer.result.now
    c.take_acknack-acknowledged.new.self name c.args.effects.now.moves.items c.args.effects.now.sent _
    c.match-heard.effects.moves.items c.match-heard.effects.sent c.self.inside.prefix
    c.take_acknack-acknowledged.result c.is_beyond-is_strange.result c.reader-reader.result is_k at_name c.take_acknack-acknowledged.ensures.same
    c.take_acknack-acknowledged.ensures.matches
    (ap (λ (q : PeerKept). q.prefix) c.self.view_is)
    (subst (λ (x : Announced). TakesAckNack c.index_mut-writer.result.now c.self.inside.prefix c.args.row c.args.body.now
    c.args.effects.now.sent c.take_acknack-acknowledged.new.self c.take_acknack-acknowledged.result x) (sym same_sent) c.take_acknack-acknowledged.ensures.takes)
    c.is_beyond-is_strange.ensures c.reader-reader.ensures
    (ap (λ (q : PeerKept). with_writer q c.args.index c.take_acknack-acknowledged.new.self) c.self.view_is) moved
