use Rattle.std.proofs.Common.{◌≡◌, ℕ, List, ◌*◌, ◌+◌, drop, Some, sym, ap, ◌∙◌, arith}
use Rattle.std.proofs.lemmas.List.{length_push, take_rest}
use Rattle.rtps_wire.specs.SetAt.{words_at}
use Rattle.rtps_wire.proofs.SetLaws.{words_step, words_short, words_done, word_there}
use Rattle.rtps_wire.proofs.set_field.take_words.Goals as goal

pub loop-at-preserved : goal.loop-at-preserved
loop-at-preserved c =
    let bytes = c.args.bytes.now in
    let at = c.loop-at.at in
    record {
      so_far = rw c.push.ensures.items
          (words_step c.args.order c.loop-at.words.items c.args.count at c.word_at.result (drop (4 * at) bytes)
          (drop (4 * (at + 1)) bytes) (words_at c.args.order c.args.count bytes) c.loop-at-test.true
          (word_there c.args.order bytes c.args.count at c.word_at.result (omega (arith, c.if-bytes-len.false))
          c.loop-at-test.true c.word_at.ensures)
          c.loop-at.invariant.so_far);
      len = rw c.push.ensures.items (length_push c.loop-at.words.items c.word_at.result
          ∙ ap (λ (n : ℕ). n + 1) c.loop-at.invariant.len);
    }

pub returns-then-bytes-len-clause-value : goal.returns-then-bytes-len-clause-value
returns-then-bytes-len-clause-value c =
    sym (words_short c.args.order c.args.count c.args.bytes.now (omega (arith, c.if-bytes-len.true)))

pub returns-clause-value : goal.returns-clause-value
returns-clause-value c =
    let bytes = c.args.bytes.now in
    let items = c.loop-at.words.items in
    let at = c.loop-at.at in
    let end : c.args.count ≡ c.loop-at.at = omega (arith, c.loop-at-test.false, c.loop-at.auto.at-end) in
    ap (λ (rest : List ℕ). Some (items, rest))
    (take_rest bytes (4 * c.args.count) ∙ ap (λ (n : ℕ). drop (4 * n) bytes) end)
    ∙ words_done c.args.order items c.args.count at (drop (4 * at) bytes) (words_at c.args.order c.args.count bytes)
    c.loop-at-test.false c.loop-at.invariant.so_far
