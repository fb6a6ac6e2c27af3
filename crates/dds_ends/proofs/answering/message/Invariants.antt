use Rattle.std.proofs.Common.{◌≡◌, ◌+◌, ◌*◌, ◌≤◌, ◌∷◌, length, take}
use Rattle.std.specs.List.{AllByRecursion, flat_map}
use Rattle.dds_base.specs.Written.{changes_of}
use Rattle.rtps_wire.specs.declared.submessage.Submessage.TheVariants.{InfoDst}
use Rattle.dds_base.specs.Bounds.{greatest_value}
use Rattle.rtps_wire.specs.Submessages.{IsSpellable, all_value_octets}
use Rattle.rtps_writer.specs.Standing.{StandsFor as RtpsStandsFor}
use Rattle.rtps_writer.specs.WriterState.{WriterState}
use Rattle.dds_protocol.specs.DueMessages.{submessages_of}
use Rattle.dds_ends.proofs.answering.message.Given as goal

-- the answers so far stand in the message
abbrev pub invariant-loop-answer : goal.invariant-loop-answer
invariant-loop-answer l = record {
  says : (s : WriterState) → RtpsStandsFor l.fn.writer s
      → l.submessages ≡ InfoDst l.fn.answering.reader.guid.prefix ∷ flat_map
      (submessages_of (changes_of s.written) l.fn.answering.reader.guid.entity l.fn.answering.entity)
      (take l.answer-index l.fn.answers);
  each : AllByRecursion IsSpellable l.submessages;
  few : length l.submessages ≤ 1 + 2 * l.answer-index;
  light : all_value_octets l.submessages ≤ l.answer-index * l.fn.answering.max_value;
  short : all_value_octets l.submessages ≤ l.answer-index * greatest_value;
}
