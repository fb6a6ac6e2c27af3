use Rattle.std.proofs.Common.{◌≡◌, ◌%◌, ℕ, Bool, cond, eqb, ap, ◌∙◌, arith}
use Rattle.std.specs.Prelude.{None, nat_lt}
use Rattle.std.proofs.lemmas.Bool.Decides.{nat_tests}
use Rattle.rtps_reader.specs.HeldChanges.{held_at}
use Rattle.rtps_reader.proofs.JumpLaws.{forgotten_more}
use Rattle.rtps_reader.proofs.held_changes.forget_below.Goals as goal

pub loop-number-preserved : goal.loop-number-preserved
loop-number-preserved c =
    let fewer = c.forget.ensures.count in
    let so_far = c.loop-number.invariant.count in
    record {
      each = λ n low high.
          forgotten_more c.args.from c.loop-number.number n (held_at c.args.held.now n) (held_at c.loop-number.held n)
          (held_at c.forget.new.self n) (omega arith) (omega arith) low high (c.loop-number.invariant.each n low high)
          (c.forget.ensures.each n
          ∙ ap (λ (k : ℕ). cond (eqb (n % 256) (k % 256)) None (held_at c.loop-number.held n)) c.new.ensures.number);
      count = omega (arith, fewer, so_far);
      places = λ was. c.forget.ensures.places (c.loop-number.invariant.places was);
    }

pub returns-clause-each : goal.returns-clause-each
returns-clause-each c = λ n low high.
    let same : nat_lt n c.loop-number.number ≡ nat_lt n c.args.to = grind (arith, nat_tests) in
    c.loop-number.invariant.each n low high ∙ ap (λ (b : Bool). cond b None (held_at c.args.held.now n)) same

pub returns-clause-places : goal.returns-clause-places
returns-clause-places c = c.loop-number.invariant.places
