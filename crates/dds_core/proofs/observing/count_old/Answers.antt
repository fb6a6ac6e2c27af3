use Rattle.std.proofs.Common.{◌≡◌, ◌+◌, ℕ, Bool, true, false, take, subst, sym, refl, arith}
use Rattle.dds_core.specs.Observing.{Sums}
use Rattle.dds_ends.specs.ObservingKept.{IsOldIn}
use Rattle.dds_core.specs.ObservingKept.{CountsOld}
use Rattle.dds_ends.specs.Readiness.{receiver_at}
use Rattle.dds_core.proofs.Counted.{sums_more}
use Rattle.dds_core.proofs.observing.count_old.Goals as goal
use Rattle.dds_core.proofs.observing.count_old.Goals.{then-is_old, else-is_old}

pub loop-reader-preserved : goal.loop-reader-preserved
loop-reader-preserved c =
    let before = c.loop-reader.invariant in
    let few = before.few in
    let i = c.loop-reader.reader-index in
    elim c.if-is_old.branch [
      | then-is_old v ↦
          let is = v.count-is in
          record {
            sums =
                subst (λ (n : ℕ). Sums (CountsOld c.args.own.now c.args.of (receiver_at c.args.receiver.now) c.args.submessage.now)
                (take (i + 1) c.args.readers.now) n) (sym is)
                (sums_more (CountsOld c.args.own.now c.args.of (receiver_at c.args.receiver.now) c.args.submessage.now)
                c.args.readers.now i c.reader-item.result c.reader-item.result c.loop-reader.count 1
                c.loop-reader-test.true c.reader-item.is before.sums (
                  true,
                  subst (λ (b : Bool). IsOldIn c.args.own.now c.args.of (receiver_at c.args.receiver.now) c.args.submessage.now
                      c.reader-item.result b) v.if-is_old.true c.is_old.ensures,
                  refl,
                ));
            few = omega (arith, is, few);
          }
      | else-is_old v ↦
          let is = v.count-is in
          let same : c.loop-reader.count + 0 ≡ c.if-is_old.count = omega (arith, is) in
          record {
            sums =
                subst (λ (n : ℕ). Sums (CountsOld c.args.own.now c.args.of (receiver_at c.args.receiver.now) c.args.submessage.now)
                (take (i + 1) c.args.readers.now) n) same
                (sums_more (CountsOld c.args.own.now c.args.of (receiver_at c.args.receiver.now) c.args.submessage.now)
                c.args.readers.now i c.reader-item.result c.reader-item.result c.loop-reader.count 0
                c.loop-reader-test.true c.reader-item.is before.sums (
                  false,
                  subst (λ (b : Bool). IsOldIn c.args.own.now c.args.of (receiver_at c.args.receiver.now) c.args.submessage.now
                      c.reader-item.result b) v.if-is_old.false c.is_old.ensures,
                  refl,
                ));
            few = omega (arith, is, few);
          }
    ]
