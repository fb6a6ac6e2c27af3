-- Why a peer refuses a call that names a writer or a reader: the causes in their order, the first of which is answered;
-- none where it takes the call.
--
-- DDS 1.4, 2.2.2.4 (register_instance, write, dispose, unregister_instance, assert_liveliness,
-- get_liveliness_lost_status), 2.2.3 (OWNERSHIP_STRENGTH), 2.2.2.5 (the forms of read and take, get_key_value, get_sample_lost_status,
-- get_liveliness_changed_status), 2.2.1.1 (return codes).
use Rattle.std.specs.Prelude.{ℕ, ◌||◌, not, Bool, List, [], length, Option, Some, None, is_some, nat_le, nat_lt, ℤ, if◌then◌else◌}
use Rattle.dds_base.specs.declared.key.Key.{Key}
use Rattle.dds_base.specs.declared.change.Change.{Change}
use Rattle.dds_base.specs.declared.change.ChangeKind.{ChangeKind}
use Rattle.dds_base.specs.declared.change.ChangeKind.TheVariants as kind
use Rattle.dds_base.specs.declared.code.Code.{Code}
use Rattle.dds_base.specs.declared.code.Code.TheVariants.{BadParameter, OutOfResources, PreconditionNotMet}
use Rattle.dds_base.specs.declared.selection.Selection.{Selection}
use Rattle.dds_base.specs.Bounds.{max_count}
use Rattle.dds_base.specs.Access.{instance_of}
use Rattle.dds_base.specs.Kept.{append_refusal}
use Rattle.dds_base.specs.Selection.{selection_refusal}
use Rattle.dds_base.specs.Written.{is_key_registered, strength_now}
use Rattle.dds_machine.specs.Numbered.{has_element}
use Rattle.dds_machine.specs.Part.{Part, Writer, own_writer, own_reader, heartbeats_used, history_of}

-- the strength that the next change of a writer carries; none of a writer of shared ownership
abbrev pub strength_of : Writer → Option ℤ
strength_of w = strength_now w.strength w.written

-- the change that a call of the peer's writer makes at the peer's moment, with the strength that the writer has then
abbrev pub change_made : Part → ℕ → ChangeKind → Key → List ℕ → Change
change_made part writer kind key value = record {
  kind = kind;
  key = key;
  value = value;
  source_timestamp = part.dds.moment;
  strength = strength_of (own_writer part writer);
}

-- what an unregister makes: with autodispose the instance is disposed too (2.2.3, WRITER_DATA_LIFECYCLE)
abbrev pub unregister_kind : Bool → ChangeKind
unregister_kind autodispose = if autodispose then kind.DisposeUnregister else kind.Unregister

-- why a change of the peer's writer is refused, as its history says
abbrev pub change_refusal : Part → ℕ → Change → Option Code
change_refusal part writer change = append_refusal (history_of (own_writer part writer)) change

-- why a call that names a writer, and nothing that may be wrong besides, is refused: no such writer
abbrev pub writer_refusal : Part → ℕ → Option Code
writer_refusal part writer = if not (has_element part.rtps.writers writer) then Some BadParameter else None

-- why a write is refused: no such writer, a value of more octets than it may have there, or as its history says
abbrev pub write_refusal : Part → ℕ → Key → List ℕ → Option Code
write_refusal part writer key value =
    if not (has_element part.rtps.writers writer) || nat_lt (own_writer part writer).max_value (length value)
    then Some BadParameter
    else change_refusal part writer (change_made part writer kind.Write key value)

-- why a dispose is refused: no such writer, or as its history says
abbrev pub dispose_refusal : Part → ℕ → Key → Option Code
dispose_refusal part writer key =
    if not (has_element part.rtps.writers writer) then Some BadParameter
    else change_refusal part writer (change_made part writer kind.Dispose key [])

-- why an unregister is refused: no such writer, the instance is not registered there, or as its history says
abbrev pub unregister_refusal : Part → ℕ → Key → Option Code
unregister_refusal part writer key =
    if not (has_element part.rtps.writers writer) then Some BadParameter
    else (if not (is_key_registered key (own_writer part writer).written) then Some PreconditionNotMet
    else change_refusal part writer
    (change_made part writer (unregister_kind (own_writer part writer).autodispose) key []))

-- why an assertion is refused: no such writer, or its HEARTBEAT counts, 1 to 2^31 - 1, are used up
abbrev pub assert_refusal : Part → ℕ → Option Code
assert_refusal part writer =
    if not (has_element part.rtps.writers writer) then Some BadParameter
    else (if nat_le max_count (heartbeats_used (own_writer part writer)) then Some OutOfResources else None)

-- why a strength is not set: no such writer, or one of shared ownership
abbrev pub strength_refusal : Part → ℕ → Option Code
strength_refusal part writer =
    if not (has_element part.rtps.writers writer) then Some BadParameter
    else (if not (is_some (own_writer part writer).strength) then Some PreconditionNotMet else None)

-- why an access is refused: no such reader, a max that is neither -1 nor positive, or an instance that has to be known
-- and is not
abbrev pub access_refusal : Part → ℕ → Selection → Option Code
access_refusal part reader selection =
    if not (has_element part.dds.readers reader) then Some BadParameter
    else selection_refusal (own_reader part reader).qos (own_reader part reader).happened selection

-- the key of an instance of the peer's reader, by its handle
abbrev pub key_of : Part → ℕ → ℕ → Option Key
key_of part reader instance = instance_of (own_reader part reader).qos (own_reader part reader).happened instance

-- why there is no key of an instance: no such reader, or no known instance has the handle
abbrev pub key_refusal : Part → ℕ → ℕ → Option Code
key_refusal part reader instance =
    if not (has_element part.dds.readers reader) || not (is_some (key_of part reader instance)) then Some BadParameter
    else None

-- why a call that names a reader, and nothing that may be wrong besides, is refused: no such reader
abbrev pub reader_refusal : Part → ℕ → Option Code
reader_refusal part reader = if not (has_element part.dds.readers reader) then Some BadParameter else None
