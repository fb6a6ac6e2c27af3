use Rattle.std.proofs.Common.{◌≡◌, ◌&&◌, ◌≤◌, ◌<◌, ◌+◌, ◌-◌, true, length, vec_len, vec_capacity}
use Rattle.std.specs.Prelude.{nat_le}
use Rattle.dds_base.specs.Kept.{WriterHistory, is_kept}
use Rattle.dds_history.specs.Standing.{StandsFor as HistoryStandsFor}
use Rattle.rtps_sets.specs.NumberSet.{has_number}
use Rattle.rtps_writer.specs.Answers.{answers_to}
use Rattle.rtps_writer.proofs.AnswerLaws.{requested_from}
use Rattle.rtps_writer.proofs.answer.put_answers.Given as goal

abbrev pub invariant-loop-bits : goal.invariant-loop-bits
invariant-loop-bits l = record {
  within : l.bits ≤ 256;
  member : 0 < l.bits → has_number l.set (l.set.base + l.bits - 1) ≡ true;
  room : vec_len l.answers + l.bits ≤ vec_capacity l.answers;
  so_far : (w : WriterHistory) → HistoryStandsFor l.history w → l.answers.items
      ≡ answers_to (λ n. is_kept w n && nat_le l.owed n) (requested_from l.bits l.set l.from (length w.changes));
}

abbrev pub decreases-loop-bits : goal.decreases-loop-bits
decreases-loop-bits l = l.bits
