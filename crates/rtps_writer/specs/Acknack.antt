-- What an ACKNACK does to a writer, and what it is answered (RTPS 2.5, 8.3.8: AckNack; 8.4.7: ReaderProxy).
use Rattle.std.specs.Prelude.{ℕ, ◌+◌, ◌&&◌, Bool, List, [], get_or, slice_set, nat_le, nat_lt, Option, None, Some, ℤ, if◌then◌else◌}
use Rattle.dds_base.specs.Kept.{acknowledge, is_kept}
use Rattle.dds_base.specs.Counts.{is_later}
use Rattle.rtps_sets.specs.NumberSet.{NumberSet}
use Rattle.rtps_writer.specs.declared.answer.Answer.{Answer}
use Rattle.rtps_writer.specs.Answers.{answered_from, answers_to, requested}
use Rattle.rtps_writer.specs.WriterState.{WriterState, acknowledged_by, history_of, last_of, owed_from}

-- an ACKNACK of this reader is applied: its count is new, and its base is no more than one past the last number
abbrev pub is_applied : WriterState → ℕ → ℕ → ℤ → Bool
is_applied s reader base count = is_later (get_or s.counts reader None) count && nat_le base (last_of s + 1)

-- the writer once it was applied: the reader has acknowledged all below the base, and the count is the last one
abbrev pub applied : WriterState → ℕ → ℕ → ℤ → WriterState
applied s reader base count =
    record s {
      acknowledged = (acknowledge (history_of s) reader base).acknowledged;
      counts = slice_set s.counts reader (Some count);
    }

-- the writer after an ACKNACK: one that is not applied changes nothing
abbrev pub after_acknack : WriterState → ℕ → ℕ → ℤ → WriterState
after_acknack s reader base count = if is_applied s reader base count then applied s reader base count else s

-- the second number, where it is greater
abbrev pub if_later : ℕ → ℕ → Option ℕ
if_later before after = if nat_lt before after then Some after else None

-- the number below which this reader has acknowledged all, where that is greater than before
abbrev pub newly_acknowledged : WriterState → WriterState → ℕ → Option ℕ
newly_acknowledged old new reader = if_later (acknowledged_by old reader) (acknowledged_by new reader)

-- the writer still has the change of this number for this reader: it is kept, and owed to that one
abbrev pub has_for : WriterState → ℕ → ℕ → Bool
has_for s reader number = is_kept (history_of s) number && nat_le (owed_from s reader) number

-- the number from which on an ACKNACK of this base that was applied is answered, where the writer is now this one
abbrev pub asked_from : WriterState → ℕ → ℕ → ℕ
asked_from s reader base = answered_from (owed_from s reader) (acknowledged_by s reader) base

-- the answers to an ACKNACK of this base that was applied, after which the writer is this one: to each member of its set
-- from there to the last number
abbrev pub answers_after : WriterState → ℕ → ℕ → NumberSet → List Answer
answers_after s reader base set =
    answers_to (has_for s reader) (requested set (asked_from s reader base) (last_of s))

-- the answers to an ACKNACK: none where it is not applied
abbrev pub acknack_answers : WriterState → ℕ → ℕ → NumberSet → ℤ → List Answer
acknack_answers s reader base set count = if is_applied s reader base count
    then answers_after (applied s reader base count) reader base set else []
