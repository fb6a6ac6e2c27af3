use Rattle.std.proofs.Common.{◌≡◌, ◌&&◌, ◌+◌, ◌-◌, ◌^◌, ◌≤◌, ℕ, List, min, length, true, ap, sym, subst, ◌∙◌, arith}
use Rattle.std.specs.Prelude.{nat_le}
use Rattle.dds_base.specs.Kept.{is_kept}
use Rattle.rtps_sets.specs.NumberSet.{has_number}
use Rattle.rtps_writer.specs.Answers.{answers_to}
use Rattle.rtps_writer.proofs.AnswerLaws.{from-first, member-here, none-between, not-requested-at, nothing-past, requested-at, requested_from, step-other, step-requested}
use Rattle.rtps_writer.proofs.answer.put_answers.Goals as goal

pub loop-bits-init : goal.loop-bits-init
loop-bits-init c = record {
  within = c.bits-bits.ensures.within;
  member = λ some. c.bits-bits.ensures.last some;
  room = omega (arith, c.requires.room, c.bits-bits.ensures.bits);
  so_far = λ w given. c.requires.none
      ∙ sym (ap (λ (ns : List ℕ). answers_to (λ n. is_kept w n && nat_le c.args.owed n) ns)
      (nothing-past c.bits-bits.result c.args.set.now c.args.from (length w.changes) c.bits-bits.ensures.past));
}

pub loop-bits-preserved-then-is_between : goal.loop-bits-preserved-then-is_between
loop-bits-preserved-then-is_between c =
    let it = c.loop-bits.invariant in
    let most = it.within in
    let room = it.room in
    let some = c.loop-bits-test.true in
    let below = c.bits_below-bits.ensures in
    let within = below.within in
    let base = c.number-base.ensures.number ∙ c.base.ensures.base in
    let next : c.loop-bits.bits - 1 + 1 ≡ c.loop-bits.bits = omega (arith, some) in
    let number : c.new-number.result ≡ min (c.args.set.now.base + (c.loop-bits.bits - 1)) (2 ^ 64 - 1) =
    omega (arith, c.new-number.ensures.number, c.saturating_add.ensures, base) in
    record {
      within = omega (arith, within, most);
      member = λ more. below.last more;
      room = omega (arith, room, within, some, c.put_before.ensures.len, c.put_before.ensures.capacity);
      so_far = λ w given.
          let last = c.last-last.ensures.last w given in
          let few : length w.changes ≤ 2 ^ 48 = omega (arith, last, c.last-last.ensures.few w given) in
          let member = member-here c.args.set.now (c.loop-bits.bits - 1) c.new-number.result c.args.from
          c.last-last.result c.is_between.result number (c.last-last.ensures.few w given) c.is_between.ensures
          c.if-is_between.true
          (subst (λ (k : ℕ). has_number c.args.set.now (c.args.set.now.base + k - 1) ≡ true) (sym next)
          (it.member (omega (arith, some)))) in
          c.put_before.ensures.items
          ∙ (step-requested (λ n. is_kept w n && nat_le c.args.owed n) c.loop-bits.bits c.new-number.result c.args.set.now c.args.from
          (length w.changes) c.has_for.result c.loop-bits.answers.items
          (omega (arith, some)) most number few
          (requested-at c.args.set.now c.args.from _ _ c.new-number.result _ last c.is_between.ensures
          c.if-is_between.true member) (it.so_far w given) (c.has_for.ensures w given)
          ∙ sym (ap (λ (ns : List ℕ). answers_to (λ n. is_kept w n && nat_le c.args.owed n) ns)
          (none-between c.args.set.now c.args.from (length w.changes) c.bits_below-bits.result (c.loop-bits.bits - 1)
          within (omega (arith, most)) below.past)));
    }

pub loop-bits-preserved : goal.loop-bits-preserved
loop-bits-preserved c =
    let it = c.loop-bits.invariant in
    let most = it.within in
    let room = it.room in
    let some = c.loop-bits-test.true in
    let below = c.bits_below-bits.ensures in
    let within = below.within in
    let base = c.number-base.ensures.number ∙ c.base.ensures.base in
    let number : c.new-number.result ≡ min (c.args.set.now.base + (c.loop-bits.bits - 1)) (2 ^ 64 - 1) =
    omega (arith, c.new-number.ensures.number, c.saturating_add.ensures, base) in
    record {
      within = omega (arith, within, most);
      member = λ more. below.last more;
      room = omega (arith, room, within, some);
      so_far = λ w given.
          let last = c.last-last.ensures.last w given in
          step-other (λ n. is_kept w n && nat_le c.args.owed n) c.loop-bits.bits c.new-number.result c.args.set.now c.args.from
          (length w.changes) c.loop-bits.answers.items
          (omega (arith, some)) most number
          (omega (arith, last, c.last-last.ensures.few w given))
          (not-requested-at c.args.set.now c.args.from _ _ c.new-number.result _ last c.is_between.ensures
          c.if-is_between.false) (it.so_far w given)
          ∙ sym (ap (λ (ns : List ℕ). answers_to (λ n. is_kept w n && nat_le c.args.owed n) ns)
          (none-between c.args.set.now c.args.from (length w.changes) c.bits_below-bits.result (c.loop-bits.bits - 1)
          within (omega (arith, most)) below.past));
    }

pub returns : goal.returns
returns c = λ w given.
    let none : c.loop-bits.bits ≡ 0 = omega (arith, c.loop-bits-test.false) in
    c.loop-bits.invariant.so_far w given
    ∙ (ap (λ (p : ℕ). answers_to (λ n. is_kept w n && nat_le c.args.owed n)
    (requested_from p c.args.set.now c.args.from (length w.changes))) none
    ∙ ap (λ (ns : List ℕ). answers_to (λ n. is_kept w n && nat_le c.args.owed n) ns) (from-first c.args.set.now c.args.from (length w.changes)))
