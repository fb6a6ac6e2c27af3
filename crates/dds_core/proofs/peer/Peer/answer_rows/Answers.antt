use Rattle.std.proofs.Common.{◌≡◌, ◌+◌, ◌*◌, ◌<◌, ℕ, Some, None, length, slice_get, refl, sym, ◌∙◌, ap, subst, arith, rules, length-set}
use Rattle.std.specs.Prelude.{Option}
use Rattle.std.proofs.lemmas.Option.{same_Some}
use Rattle.dds_ends.specs.declared.answering.Room.{Room}
use Rattle.dds_core.specs.declared.effects.Effects.{Effects}
use Rattle.dds_core.specs.Answering.{TakesRows}
use Rattle.dds_ends.specs.Kept.{WriterKept}
use Rattle.dds_ends.specs.Identity.{WriterIdentity}
use Rattle.dds_core.specs.Receiving.{GoOn}
use Rattle.dds_core.proofs.EffectsLaws.{at_most, go_on, nothing_more}
use Rattle.dds_core.proofs.Ready.{still_ready, rest_more}
use Rattle.dds_core.proofs.Requesting.{rows_none, rows_skip, rows_more}
use Rattle.dds_ends.proofs.Results.{of_two}
use Rattle.dds_core.proofs.peer.Peer.answer_rows.Goals.{in-Some, in_default}
use Rattle.dds_core.proofs.peer.Peer.answer_rows.Goals as goal

pub loop-row-init : goal.loop-row-init
loop-row-init c = record {
  takes =
      λ k at. rows_none c.args.self.now c.args.index c.args.body.now k c.args.rooms.items c.args.effects.now at;
  rest = refl;
  count = refl;
  on = nothing_more 0 c.args.effects.now;
  room = omega (arith, c.requires.moves);
}

pub answer_row-requires-clause-within : goal.answer_row-requires-clause-within
answer_row-requires-clause-within c =
    let k = c.requires.within.0 in
    let h = c.loop-row.invariant.takes k c.requires.within.1 in
    let many = c.requires.within.2 in
    let count = c.loop-row.invariant.count in
    let within : c.loop-row.row < length c.loop-row.rooms.items = search rules in
    let same = ap (λ (x : WriterIdentity). length x.readers) h.same in
    (h.there, h.at, omega (arith, within, count, many, same))

pub answer_row-requires-clause-room : goal.answer_row-requires-clause-room
answer_row-requires-clause-room c =
    let i = c.loop-row.row in
    let within : i < length c.loop-row.rooms.items = search rules in
    let there : slice_get c.args.rooms.items i ≡ Some c.index_mut.result.now =
    still_ready c.args.rooms.items c.loop-row.rooms.items i c.index_mut.result.now c.index_mut.result.now
    c.loop-row.invariant.rest within c.index_mut.ensures.value in
    c.requires.rooms i c.in-Some.room (there ∙ ap (λ (x : Option Room). Some x) (sym c.in-Some.ensures.value))

pub loop-row-preserved : goal.loop-row-preserved
loop-row-preserved c =
    let i = c.loop-row.row in
    let old = c.args.self.now in
    let rooms = c.args.rooms.items in
    let within : i < length c.loop-row.rooms.items = search rules in
    let there : slice_get rooms i ≡ Some c.index_mut.result.now =
    still_ready rooms c.loop-row.rooms.items i c.index_mut.result.now c.index_mut.result.now
    c.loop-row.invariant.rest within c.index_mut.ensures.value in
    let rest = rest_more rooms c.loop-row.rooms.items i c.take.new.self c.loop-row.invariant.rest in
    let count : length _ ≡ length rooms =
    length-set c.loop-row.rooms.items i c.take.new.self ∙ c.loop-row.invariant.count in
    let size = c.loop-row.invariant.count in
    let room = c.loop-row.invariant.room in
    let k = c.requires.within.0 in
    let many = c.requires.within.2 in
    let known : i < length k.readers = omega (arith, within, size, many) in
    elim c.match-take.branch [
      | in-Some w ↦
          let is : slice_get rooms i ≡ Some (Some w.in-Some.room) =
          there ∙ ap (λ (x : Option Room). Some x) (sym w.in-Some.ensures.value) in
          let left = w.answer_row.ensures.room in
          let long = ap (λ (e : Effects). e.moves.room) w.effects-is in
          record {
            takes = λ x at.
                let same : k ≡ x = same_Some k x (sym c.requires.within.1 ∙ at) in
                of_two (TakesRows old c.args.index c.args.body.now x rooms (i + 1) c.args.effects.now) w.self-is w.effects-is
                (rows_more old c.loop-row.self w.answer_row.new.self c.args.index c.args.body.now x rooms i
                w.in-Some.room c.args.effects.now c.loop-row.effects w.answer_row.new.effects
                (c.loop-row.invariant.takes x at)
                (subst (λ (y : WriterKept). i < length y.readers) same known) is w.answer_row.ensures.takes);
            rest = rest;
            count = count;
            on =
                subst (GoOn (256 * (i + 1)) c.args.effects.now) (sym w.effects-is)
                (go_on (256 * i) 256 (256 * (i + 1)) c.args.effects.now c.loop-row.effects w.answer_row.new.effects
                (omega arith) c.loop-row.invariant.on w.answer_row.ensures.on);
            room = omega (arith, room, left, long);
          }
      | in_default w ↦
          let none : slice_get rooms i ≡ Some None =
          there ∙ ap (λ (x : Option Room). Some x) (sym c.take.ensures.value ∙ w.in_default.is) in
          let long = ap (λ (e : Effects). e.moves.room) w.effects-is in
          record {
            takes = λ x at.
                let same : k ≡ x = same_Some k x (sym c.requires.within.1 ∙ at) in
                of_two (TakesRows old c.args.index c.args.body.now x rooms (i + 1) c.args.effects.now) w.self-is w.effects-is
                (rows_skip old c.loop-row.self c.args.index c.args.body.now x rooms i c.args.effects.now
                c.loop-row.effects (c.loop-row.invariant.takes x at)
                (subst (λ (y : WriterKept). i < length y.readers) same known) none);
            rest = rest;
            count = count;
            on =
                subst (GoOn (256 * (i + 1)) c.args.effects.now) (sym w.effects-is)
                (at_most (256 * i) (256 * (i + 1)) c.args.effects.now c.loop-row.effects (omega arith)
                c.loop-row.invariant.on);
            room = omega (arith, room, long);
          }
    ]

pub returns-clause-takes : goal.returns-clause-takes
returns-clause-takes c = λ k at.
    let same : c.requires.within.0 ≡ k = same_Some c.requires.within.0 k (sym c.requires.within.1 ∙ at) in
    let many : length c.args.rooms.items ≡ length k.readers =
    c.requires.within.2 ∙ ap (λ (x : WriterKept). length x.readers) same in
    let count = c.loop-row.invariant.count in
    let end : c.loop-row.row ≡ length c.args.rooms.items = search rules in
    subst (λ (n : ℕ). TakesRows c.args.self.now c.args.index c.args.body.now k c.args.rooms.items n c.args.effects.now
    c.loop-row.self c.loop-row.effects) (end ∙ many)
    (c.loop-row.invariant.takes k at)
