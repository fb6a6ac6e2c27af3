use Rattle.std.proofs.Common.{◌≡◌, ◌+◌, ◌<◌, ℕ, List, Some, None, drop, length, set, slice_get, get_or, refl, sym, ◌∙◌, ap, subst, arith, rules, length-set}
use Rattle.std.specs.Prelude.{Option}
use Rattle.smallvec.proofs.SmallVecLemmas.{items-with_items}
use Rattle.dds_ends.specs.declared.reader_told.Ready.{Ready}
use Rattle.dds_core.specs.declared.effects.Effects.{Effects}
use Rattle.dds_core.proofs.TakenSoFar.{TakesSome}
use Rattle.dds_core.specs.Receiving.{GoOn}
use Rattle.dds_core.proofs.EffectsLaws.{at_most, go_on, nothing_more}
use Rattle.dds_core.proofs.Turns.{takes_none, takes_skip, takes_more}
use Rattle.dds_core.proofs.Ready.{takes_all, still_ready, rest_more}
use Rattle.dds_ends.proofs.Results.{of_two}
use Rattle.dds_ends.proofs.Lists.{left_at}
use Rattle.dds_core.proofs.peer.Peer.take_all.Goals.{in-Some, in_default}
use Rattle.dds_core.proofs.peer.Peer.take_all.Goals as goal

pub loop-index-init : goal.loop-index-init
loop-index-init c =
    record {
      takes = takes_none c.args.self.now c.args.ready.now.items c.args.effects.now;
      rest = refl;
      count = refl;
      on = nothing_more 0 c.args.effects.now;
      room = omega (arith, c.requires.room);
    }

pub take_at-requires-clause-can : goal.take_at-requires-clause-can
take_at-requires-clause-can c =
    let i = c.loop-index.index in
    let within : i < length c.loop-index.ready.items = search rules in
    let d = c.index-deref_mut-index.result in
    let there : slice_get c.args.ready.now.items i ≡ Some (get_or c.deref_mut.result.now i d) =
    still_ready c.args.ready.now.items c.loop-index.ready.items i _ d c.loop-index.invariant.rest within
    (ap (λ (rs : List (Option Ready)). get_or rs i d) c.deref_mut.ensures.value) in
    let can =
    c.requires.can i c.in-Some.one (there ∙ ap (λ (x : Option Ready). Some x) (sym c.in-Some.ensures.value)) in (
      can.0,
      left_at c.loop-index.self.readers c.args.self.now.readers i can.0 c.loop-index.invariant.takes.left can.1,
      can.2,
    )

pub take_at-requires-clause-room : goal.take_at-requires-clause-room
take_at-requires-clause-room c =
    let room = c.loop-index.invariant.room in
    let count = c.loop-index.invariant.count in
    let within : c.loop-index.index < length c.loop-index.ready.items = search rules in
    omega (arith, room, count, within)

pub loop-index-preserved : goal.loop-index-preserved
loop-index-preserved c =
    let i = c.loop-index.index in
    let within : i < length c.loop-index.ready.items = search rules in
    let d = c.index-deref_mut-index.result in
    let there : slice_get c.args.ready.now.items i ≡ Some (get_or c.deref_mut.result.now i d) =
    still_ready c.args.ready.now.items c.loop-index.ready.items i _ d c.loop-index.invariant.rest within
    (ap (λ (rs : List (Option Ready)). get_or rs i d) c.deref_mut.ensures.value) in
    let left = set c.deref_mut.result.now i c.take.new.self in
    let same =
    items-with_items c.loop-index.ready left
    (length-set c.deref_mut.result.now i c.take.new.self
    ∙ ap (λ (rs : List (Option Ready)). length rs) c.deref_mut.ensures.value)
    ∙ ap (λ (rs : List (Option Ready)). set rs i c.take.new.self) c.deref_mut.ensures.value in
    let rest =
    subst (λ (rs : List (Option Ready)). drop (i + 1) rs ≡ drop (i + 1) c.args.ready.now.items) (sym same)
    (rest_more c.args.ready.now.items c.loop-index.ready.items i c.take.new.self c.loop-index.invariant.rest) in
    let count =
    ap (λ (rs : List (Option Ready)). length rs) same
    ∙ (length-set c.loop-index.ready.items i c.take.new.self ∙ c.loop-index.invariant.count) in
    let room = c.loop-index.invariant.room in
    let known : i < length c.args.self.now.readers =
    fewer c.args.self.now.readers c.args.ready.now.items i c.requires.count
    (subst (λ n. i < n) c.loop-index.invariant.count within) in
    elim c.match-take.branch [
      | in-Some w ↦
          let is : slice_get c.args.ready.now.items i ≡ Some (Some w.in-Some.one) =
          there ∙ ap (λ (x : Option Ready). Some x) (sym w.in-Some.ensures.value) in
          let left = w.take_at.ensures.room in
          let long = ap (λ (e : Effects). e.moves.room) w.effects-is in
          record {
            takes =
                of_two (TakesSome c.args.self.now c.args.ready.now.items (i + 1) c.args.effects.now) w.self-is w.effects-is
                (takes_more c.args.self.now c.loop-index.self w.take_at.new.self c.args.ready.now.items i w.in-Some.one
                c.args.effects.now c.loop-index.effects w.take_at.new.effects c.loop-index.invariant.takes known is
                w.take_at.ensures.takes);
            on =
                subst (GoOn (i + 1) c.args.effects.now) (sym w.effects-is)
                (go_on i 1 (i + 1) c.args.effects.now c.loop-index.effects w.take_at.new.effects (omega arith)
                c.loop-index.invariant.on w.take_at.ensures.on);
            rest = rest;
            count = count;
            room = omega (arith, room, left, long);
          }
      | in_default w ↦
          let none : slice_get c.args.ready.now.items i ≡ Some None =
          there ∙ ap (λ (x : Option Ready). Some x) (sym c.take.ensures.value ∙ w.in_default.is) in
          let long = ap (λ (e : Effects). e.moves.room) w.effects-is in
          record {
            takes =
                of_two (TakesSome c.args.self.now c.args.ready.now.items (i + 1) c.args.effects.now) w.self-is w.effects-is
                (takes_skip c.args.self.now c.loop-index.self c.args.ready.now.items i c.args.effects.now
                c.loop-index.effects c.loop-index.invariant.takes known none);
            on =
                subst (GoOn (i + 1) c.args.effects.now) (sym w.effects-is)
                (at_most i (i + 1) c.args.effects.now c.loop-index.effects (omega arith) c.loop-index.invariant.on);
            rest = rest;
            count = count;
            room = omega (arith, room, long);
          }
    ]
  where
    fewer : {X Y : Type 0} (xs : List X) (ys : List Y) (i : ℕ) → length ys ≡ length xs → i < length ys → i < length xs
    fewer xs ys i same lt = subst (λ n. i < n) same lt

pub returns-clause-takes : goal.returns-clause-takes
returns-clause-takes c =
    takes_all c.args.self.now c.loop-index.self c.args.ready.now.items c.args.effects.now c.loop-index.effects
    c.loop-index.index (search rules) (search rules) c.loop-index.invariant.takes
