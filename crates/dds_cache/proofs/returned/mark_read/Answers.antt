use Rattle.std.proofs.Common.{◌<◌, List, length, sym, refl, subst, arith}
use Rattle.dds_cache.specs.declared.access.Candidate.{Candidate}
use Rattle.dds_cache.specs.declared.kept.Kept.{Kept}
use Rattle.dds_cache.specs.Kept.{read_if}
use Rattle.dds_cache.proofs.SummaryLaws.{counted-read}
use Rattle.dds_cache.proofs.PlaceLaws.{changed-more}
use Rattle.dds_cache.proofs.returned.mark_read.Goals as goal

pub loop-candidate-preserved : goal.loop-candidate-preserved
loop-candidate-preserved c =
    let ks : List Kept = c.args.samples.now.items in
    let cs : List Candidate = c.args.found.now in
    let one : Candidate = c.candidate-item.result in
    let x : Kept = c.index_mut-kept.result.now in
    let placed : one.at < length ks = subst (λ (z : Candidate). z.at < length ks) (sym c.candidate-item.is)
    (c.requires.placed c.loop-candidate.candidate-index one c.loop-candidate-test.true).within in
    record {
      done =
          changed-more read_if cs c.loop-candidate.candidate-index one ks c.loop-candidate.samples.items x
          c.mark_read.new.self (λ b z. refl) c.loop-candidate-test.true c.candidate-item.is placed
          c.index_mut-kept.ensures.value c.mark_read.ensures c.loop-candidate.invariant.done;
      counted =
          counted-read c.loop-candidate.samples.items one.at x c.mark_read.new.self c.loop-candidate.summary
          c.count_read.new.self (omega (arith, placed, c.loop-candidate.invariant.done.same_len))
          c.index_mut-kept.ensures.value c.mark_read.ensures c.loop-candidate.invariant.counted
          c.count_read.ensures.outs c.count_read.ensures.reads c.count_read.ensures.writes
          c.count_read.ensures.chains;
      len = c.loop-candidate.invariant.len;
      capacity = c.loop-candidate.invariant.capacity;
    }
