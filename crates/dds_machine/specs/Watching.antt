-- The statuses that are flagged, the trigger values of conditions, and what an access by a condition asks for.
--
-- DDS 1.4, 2.2.2.1 (get_status_changes, get_trigger_value), 2.2.2.5 (ReadCondition), 2.2.4.2 (changes in status).
use Rattle.std.specs.Prelude.{ℕ, ◌+◌, Bool, false, ◌&&◌, ◌||◌, ◌==◌, not, nat_lt, List, length, Option, Some, None, is_some, if◌then◌else◌}
use Rattle.std.specs.Int.RustNames.{bit_and}
use Rattle.dds_base.specs.declared.code.Code.{Code}
use Rattle.dds_base.specs.declared.code.Code.TheVariants.{BadParameter, PreconditionNotMet}
use Rattle.dds_base.specs.declared.entity.Entity.{Entity}
use Rattle.dds_base.specs.declared.entity.Entity.TheVariants as entity
use Rattle.dds_base.specs.declared.key.Key.{Key}
use Rattle.dds_base.specs.declared.mask.Masks.{Masks}
use Rattle.dds_base.specs.declared.selection.Scope.{Scope}
use Rattle.dds_base.specs.declared.selection.Selection.{Selection}
use Rattle.dds_base.specs.Access.{has_match, no_filter}
use Rattle.dds_base.specs.Checked.{is_maximum}
use Rattle.dds_base.specs.Selection.{max_in, selection_in}
use Rattle.dds_base.specs.StatusFlags.{data_available_at, is_after, turned_at}
use Rattle.dds_base.specs.Written.{liveliness_lost_status}
use Rattle.dds_base.specs.Number.{at_number}
use Rattle.dds_notices.specs.declared.mask.StatusMask.{StatusMask}
use Rattle.dds_notices.specs.Masks.{sample_lost_bit, data_available_bit, liveliness_lost_bit, liveliness_changed_bit, publication_matched_bit, subscription_matched_bit}
use Rattle.dds_conditions.specs.declared.condition.Cond.{Cond}
use Rattle.dds_conditions.specs.declared.condition.Cond.TheVariants.{Status, Made}
use Rattle.dds_conditions.specs.declared.condition.Condition.{Condition}
use Rattle.dds_conditions.specs.declared.condition.Condition.TheVariants.{Samples, Guard}
use Rattle.dds_conditions.specs.Watched.{enabled_of, has_filter, knows_entity, number_refusal}
use Rattle.dds_machine.specs.Matching.{attached_count, is_match_flagged}
use Rattle.dds_machine.specs.Numbered.{has_element}
use Rattle.dds_machine.specs.Passing.{passed_at}
use Rattle.dds_machine.specs.Part.{Part, Reader, Writer, WriterProxy, own_proxies, own_reader, own_writer}

-- ---- statuses

-- the bit, where the test holds
abbrev pub bit_if : Bool → ℕ → ℕ
bit_if b bit = if b then bit else 0

-- The flagged statuses of a reader that knows these writers, as a mask (2.3.3): SAMPLE_LOST, where changes were passed
-- over since it was looked at; DATA_AVAILABLE, where a sample came since the last read or take, and no listener was told
-- of it; LIVELINESS_CHANGED, where a writer became alive, or not alive, since it was looked at; and SUBSCRIPTION_MATCHED.
abbrev pub reader_statuses : List WriterProxy → Reader → StatusMask
reader_statuses rows r = record {
  0 = bit_if (is_after r.seen.entries_at_lost (passed_at r.happened)) sample_lost_bit
      + (bit_if (is_after r.seen.entries_at_data (data_available_at r.qos r.happened)) data_available_bit
      + (bit_if (is_after r.seen.entries_at_turn (turned_at r.happened)) liveliness_changed_bit
      + bit_if (is_match_flagged r.matches (attached_count rows)) subscription_matched_bit));
}

-- The flagged statuses of a writer, as a mask (2.3.3): LIVELINESS_LOST, where its liveliness was lost since that was
-- looked at, and PUBLICATION_MATCHED.
abbrev pub writer_statuses : Writer → StatusMask
writer_statuses w = record {
  0 = bit_if (nat_lt 0 (liveliness_lost_status w.lease w.written).total_count_change) liveliness_lost_bit
      + bit_if (is_match_flagged w.matches (length w.matched)) publication_matched_bit;
}

-- the flagged statuses of an entity; the participant has none of its own (Entity, get_status_changes)
abbrev pub status_changes : Part → Entity → StatusMask
status_changes part entity.Participant = record { 0 = 0 }
status_changes part (entity.Writer writer) = writer_statuses (own_writer part writer)
status_changes part (entity.Reader reader) = reader_statuses (own_proxies part reader) (own_reader part reader)

-- ---- filters

-- what a filter answers: whether a sample of this key and value passes
abbrev pub Test : Type 0
Test = Key → List ℕ → Bool

-- what the filters of a peer answer, by their numbers
abbrev pub Tests : Type 0
Tests = ℕ → Test

-- the test of a condition: that of its filter, or that each sample passes
abbrev pub test_of : Tests → Option ℕ → Test
test_of tests None = no_filter
test_of tests (Some filter) = tests filter

-- ---- trigger values

-- two masks have a bit in common
abbrev pub meet : StatusMask → StatusMask → Bool
meet a b = not (bit_and a.0 b.0 == 0)

-- a condition that was made: a read condition is true while a present sample meets its masks, a query condition while
-- such a sample passes its filter, a guard as it was set
abbrev pub condition_value : Tests → Part → Option Condition → Bool
condition_value tests part None = false
condition_value tests part (Some (Samples reader masks filter)) =
    has_match (own_reader part reader).qos (own_reader part reader).happened masks (test_of tests filter)
condition_value tests part (Some (Guard value)) = value

-- the trigger value of a condition; that of an entity is true while one of its enabled statuses is flagged
abbrev pub trigger_value : Tests → Part → Cond → Bool
trigger_value tests part (Status entity) =
    knows_entity part.dds.watch entity
    && meet (enabled_of part.dds.watch entity (record { 0 = 0 })) (status_changes part entity)
trigger_value tests part (Made number) = condition_value tests part (at_number part.dds.watch.conditions number)

-- ---- accesses by a condition

-- why a read condition is not made: no such reader, or no number is left
abbrev pub read_condition_refusal : Part → ℕ → Option Code
read_condition_refusal part reader =
    if not (has_element part.dds.readers reader) then Some BadParameter else number_refusal part.dds.watch.conditions

-- why a query condition is not made: no such reader or no such filter, or no number is left
abbrev pub query_condition_refusal : Part → ℕ → ℕ → Option Code
query_condition_refusal part reader filter =
    if has_filter part.dds.watch filter then read_condition_refusal part reader else Some BadParameter

-- the condition is a read condition of this reader
abbrev pub is_condition_of : ℕ → Option Condition → Bool
is_condition_of reader (Some (Samples other masks filter)) = other == reader
is_condition_of reader _ = false

-- why an access by a condition is refused: no such reader, no such condition, or a max that is neither -1 nor positive;
-- or a condition that is no read condition of the reader (read_w_condition)
abbrev pub condition_refusal : Part → ℕ → Scope → ℕ → Option Code
condition_refusal part reader scope condition =
    if not (has_element part.dds.readers reader)
    || (not (is_some (at_number part.dds.watch.conditions condition)) || not (is_maximum (max_in scope)))
    then Some BadParameter
    else (if not (is_condition_of reader (at_number part.dds.watch.conditions condition)) then Some PreconditionNotMet
    else None)

-- the masks of a read condition
abbrev pub masks_of : Option Condition → Masks
masks_of (Some (Samples reader masks filter)) = masks
masks_of _ = record { samples = record { 0 = 0 }; views = record { 0 = 0 }; instances = record { 0 = 0 } }

-- the filter of a query condition
abbrev pub filter_of : Option Condition → Option ℕ
filter_of (Some (Samples reader masks filter)) = filter
filter_of _ = None

-- what an access by a condition asks for
abbrev pub condition_selection : Part → Scope → ℕ → Selection
condition_selection part scope condition = selection_in scope (masks_of (at_number part.dds.watch.conditions condition))

-- the test that it asks samples to pass
abbrev pub condition_test : Tests → Part → ℕ → Test
condition_test tests part condition = test_of tests (filter_of (at_number part.dds.watch.conditions condition))
