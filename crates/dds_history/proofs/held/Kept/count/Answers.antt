use Rattle.std.proofs.Common.{◌≡◌, ◌≢◌, ℕ, ◌+◌, ◌%◌, ◌^◌, ◌==◌, refl, sym, ap, ◌∙◌, arith}
use Rattle.std.specs.Prelude.{if◌then◌else◌}
use Rattle.dds_history.specs.declared.held.KeyCount.{KeyCount}
use Rattle.dds_history.specs.Entries.{count_in}
use Rattle.dds_history.proofs.Placing.{chosen-other, chosen-same, counted-anew, one-more}
use Rattle.dds_history.proofs.held.Kept.count.Goals as goal
use Rattle.dds_history.proofs.held.Kept.count.Goals.{then-is_full, else-is_full}

pub returns-then-not-is_full-clause-counts : goal.returns-then-not-is_full-clause-counts
returns-then-not-is_full-clause-counts c = λ last below few.
    let entered = c.in_ok-place.ensures.entered in
    let count : KeyCount = c.in_ok-place.count in
    let depth = c.args.depth in
    let live = c.args.self.now.live in
    let is : count.turns ≡ (count_in c.args.self.now.keys.entries c.args.key).turns = ap (λ (n : KeyCount). n.turns) entered.0 in
    let kept_is : count.kept ≡ (count_in c.args.self.now.keys.entries c.args.key).kept = ap (λ (n : KeyCount). n.kept) entered.0 in
    let turns : (count.turns + 1) % 2 ^ 64 ≡ count.turns + 1 =
    omega (arith, is, few.turns c.args.key, below) in
    let test : count.kept ≢ depth = omega (arith, c.from.ensures, c.if-not-is_full.true) in
    let kept : c.if-is_full.kept ≡ count.kept + 1 =
    elim c.if-is_full.branch [
      | then-is_full w ↦ absurd (c.if-not-is_full.true w.if-is_full.true)
      | else-is_full w ↦ w.kept-is ∙ (let one : (count.kept + 1) % 2 ^ 64 ≡ count.kept + 1 = omega (arith, kept_is, few.kept c.args.key, below) in one)
    ] in
    record {
      policy = refl;
      entries = refl;
      newest = turns ∙ ap (λ (n : ℕ). n + 1) is;
      counts = counted-anew c.args.self.now.keys.entries c.enter.new.keys.entries c.recount.new.keys.entries c.args.key count
          (record { turns = (count.turns + 1) % 2 ^ 64; kept = c.if-is_full.kept }) depth entered.0
          (one-more depth ((count.turns + 1) % 2 ^ 64) c.if-is_full.kept count turns
          (kept ∙ sym (chosen-other count.kept depth count.kept (count.kept + 1) test)))
          c.in_ok-place.ensures.others (c.recount.ensures c.args.key entered.1 entered.2);
      live =
          (let one : (live + 1) % 2 ^ 64 ≡ live + 1 = omega (arith, few.live, below) in one)
          ∙ (sym (chosen-other count.kept depth live (live + 1) test)
          ∙ ap (λ (n : KeyCount). if n.kept == depth then live else live + 1) entered.0);
    }

pub returns-else-not-is_full-clause-counts : goal.returns-else-not-is_full-clause-counts
returns-else-not-is_full-clause-counts c = λ last below few.
    let entered = c.in_ok-place.ensures.entered in
    let count : KeyCount = c.in_ok-place.count in
    let depth = c.args.depth in
    let live = c.args.self.now.live in
    let is : count.turns ≡ (count_in c.args.self.now.keys.entries c.args.key).turns = ap (λ (n : KeyCount). n.turns) entered.0 in
    let kept_is : count.kept ≡ (count_in c.args.self.now.keys.entries c.args.key).kept = ap (λ (n : KeyCount). n.kept) entered.0 in
    let turns : (count.turns + 1) % 2 ^ 64 ≡ count.turns + 1 =
    omega (arith, is, few.turns c.args.key, below) in
    let test : count.kept ≡ depth = omega (arith, c.from.ensures, c.if-not-is_full.false) in
    let kept : c.if-is_full.kept ≡ count.kept =
    elim c.if-is_full.branch [
      | then-is_full w ↦ w.kept-is
      | else-is_full w ↦ absurd (w.if-is_full.false c.if-not-is_full.false)
    ] in
    record {
      policy = refl;
      entries = refl;
      newest = turns ∙ ap (λ (n : ℕ). n + 1) is;
      counts = counted-anew c.args.self.now.keys.entries c.enter.new.keys.entries c.recount.new.keys.entries c.args.key count
          (record { turns = (count.turns + 1) % 2 ^ 64; kept = c.if-is_full.kept }) depth entered.0
          (one-more depth ((count.turns + 1) % 2 ^ 64) c.if-is_full.kept count turns
          (kept ∙ sym (chosen-same count.kept depth count.kept (count.kept + 1) test)))
          c.in_ok-place.ensures.others (c.recount.ensures c.args.key entered.1 entered.2);
      live =
          sym (chosen-same count.kept depth live (live + 1) test)
          ∙ ap (λ (n : KeyCount). if n.kept == depth then live else live + 1) entered.0;
    }
