-- How long what is written can be.
use Rattle.std.proofs.Common.{◌≡◌, ℕ, ◌+◌, ◌-◌, ◌*◌, ◌%◌, ◌≤◌, List, [], ◌∷◌, length, Option, Some, None, refl, arith, ℤ}
use Rattle.std.specs.List.{flat_map, AllByRecursion}
use Rattle.std.specs.Int.{w16}
use Rattle.std.proofs.lemmas.List.{length-append, length-replicate}
use Rattle.dds_base.specs.declared.key.Key.{Key}
use Rattle.dds_base.specs.Fields.{number}
use Rattle.rtps_sets.specs.NumberSet.{NumberSet}
use Rattle.rtps_sets.proofs.SpanLaws.{span_le}
use Rattle.dds_base.specs.declared.datum.Datum.{Datum}
use Rattle.dds_base.specs.DatumText.{IsDatum}
use Rattle.rtps_wire.specs.declared.data.ChangeBody.{ChangeBody}
use Rattle.rtps_wire.specs.declared.data.ChangeBody.TheVariants.{Write, Dispose, Unregister, DisposeUnregister}
use Rattle.rtps_wire.specs.declared.message.Message.{Message}
use Rattle.rtps_wire.specs.declared.submessage.Submessage.{Submessage}
use Rattle.rtps_wire.specs.declared.submessage.Submessage.TheVariants as submessages
use Rattle.rtps_wire.specs.Fields.{order_of}
use Rattle.rtps_wire.specs.Sets.{IsSet, text_of_set}
use Rattle.rtps_wire.specs.Data.{IsBody, strength_text, text_of_write, text_of_end, text_with}
use Rattle.rtps_wire.specs.Submessages.{flags_of, text_of, body_of, padding, HasUsualValue, IsSpellable, all_value_octets, octets_of_change, spelling_of_submessage, value_octets}
use Rattle.rtps_wire.specs.Messages.{IsWritable, header_text}
use Rattle.rtps_wire.proofs.WireFields.{len_16}
use Rattle.rtps_wire.proofs.SetSpelling.{text_of_set_len}
use Rattle.rtps_wire.proofs.MessageLaws.{header_length}

set_le : (s : NumberSet) → IsSet s → length (text_of_set s) ≤ 44
set_le s valid = omega (arith, text_of_set_len s, span_le s.members, valid.places)

strength_le : (strength : Option ℤ) → length (strength_text strength) ≤ 8
strength_le None = omega arith
strength_le (Some z) = omega arith

end_le : (status : ℕ) (k : Key) (strength : Option ℤ) → length k.0 ≡ 16 → length (text_of_end status k strength) ≤ 60
end_le status k strength len = simp length-append (omega (arith, len, strength_le strength))

write_le : (d : Datum) (strength : Option ℤ) → IsDatum d → length (text_of_write d strength) ≤ 36 + length d.value
write_le d None valid = simp length-append (omega (arith, valid.key))
write_le d (Some z) valid = simp length-append (omega (arith, valid.key))

body_le : (b : ChangeBody) (strength : Option ℤ) → IsBody b → (most : ℕ) → 24 ≤ most → octets_of_change b ≤ most
    → length (text_with b strength) ≤ 36 + most
body_le (Write d) strength valid most low few = omega (arith, write_le d strength valid, few)
body_le (Dispose k) strength valid most low few = omega (arith, end_le 1 k strength valid, low)
body_le (Unregister k) strength valid most low few = omega (arith, end_le 2 k strength valid, low)
body_le (DisposeUnregister k) strength valid most low few = omega (arith, end_le 3 k strength valid, low)

-- the fields take 56 octets beside a value of 24 or more
text_le : (s : Submessage) → IsSpellable s → (most : ℕ) → 24 ≤ most → value_octets s ≤ most
    → length (text_of s) ≤ 56 + most
text_le submessages.Pad valid most low few = omega arith
text_le (submessages.InfoDst prefix) valid most low few = omega (arith, valid)
text_le (submessages.InfoTs None) valid most low few = omega arith
text_le (submessages.InfoTs (Some moment)) valid most low few = omega arith
text_le (submessages.Data d) valid most low few =
    simp length-append (omega (
      arith,
      body_le d.content.body d.content.strength valid.1.body most low few,
      valid.0.reader,
      valid.0.writer,
    ))
text_le (submessages.Heartbeat h) valid most low few = simp length-append (omega (arith, valid.reader, valid.writer))
text_le (submessages.AckNack a) valid most low few =
    simp length-append (omega (arith, set_le a.reader_sn_state valid.1, valid.0.reader, valid.0.writer))
text_le (submessages.Gap g) valid most low few =
    simp length-append (omega (arith, set_le g.gap_list valid.1, valid.0.reader, valid.0.writer))
text_le (submessages.Other id) valid most low few = absurd valid

-- its header takes 4 octets, and its fields are filled up to a multiple of 4
padded_length : (s : Submessage) → length (spelling_of_submessage s)
    ≡ 4 + (length (text_of s) + (4 - length (text_of s) % 4) % 4)
padded_length s =
    omega (
      arith,
      len_16 (order_of (flags_of s)) (length (body_of s)),
      length-append
          (number (order_of (flags_of s)) w16 (length (body_of s))) (body_of s),
      length-append (text_of s)
          (padding (length (text_of s))),
      length-replicate {A = ℕ} ((4 - length (text_of s) % 4) % 4) 0,
    )

pub change_octets_le : (b : ChangeBody) → IsBody b → octets_of_change b ≤ 65000
change_octets_le (Write d) valid = valid.value
change_octets_le (Dispose k) valid = omega arith
change_octets_le (Unregister k) valid = omega arith
change_octets_le (DisposeUnregister k) valid = omega arith

octets_le : (s : Submessage) → IsSpellable s → value_octets s ≤ 65000
octets_le submessages.Pad valid = omega arith
octets_le (submessages.InfoDst prefix) valid = omega arith
octets_le (submessages.InfoTs moment) valid = omega arith
octets_le (submessages.Data d) valid = change_octets_le d.content.body valid.1.body
octets_le (submessages.Heartbeat h) valid = omega arith
octets_le (submessages.AckNack a) valid = omega arith
octets_le (submessages.Gap g) valid = omega arith
octets_le (submessages.Other id) valid = omega arith

pub submessage_le : (s : Submessage) → IsSpellable s → length (spelling_of_submessage s) ≤ 65060
submessage_le s valid =
    omega (arith, padded_length s, text_le s valid 65000 (omega arith) (octets_le s valid))

usual_le : (s : Submessage) → IsSpellable s → HasUsualValue s → length (spelling_of_submessage s) ≤ 1084
usual_le s valid usual = omega (arith, padded_length s, text_le s valid 1024 (omega arith) usual)

pub beside_le : (s : Submessage) → IsSpellable s → length (spelling_of_submessage s) ≤ 87 + value_octets s
beside_le s valid =
    omega (arith, padded_length s, text_le s valid (24 + value_octets s) (omega arith) (omega arith))

all_usual_le : (ss : List Submessage) → AllByRecursion IsSpellable ss → AllByRecursion HasUsualValue ss
    → length (flat_map spelling_of_submessage ss) ≤ 1084 * length ss
all_usual_le [] valid usual = omega arith
all_usual_le (s ∷ ss) valid usual =
    omega (
      arith,
      length-append (spelling_of_submessage s)
          (flat_map spelling_of_submessage ss),
      usual_le s valid.0 usual.0,
      all_usual_le ss valid.1 usual.1,
    )

all_le : (ss : List Submessage) → AllByRecursion IsSpellable ss
    → length (flat_map spelling_of_submessage ss) ≤ 87 * length ss + all_value_octets ss
all_le [] valid = omega arith
all_le (s ∷ ss) valid =
    omega (
      arith,
      length-append (spelling_of_submessage s)
          (flat_map spelling_of_submessage ss),
      beside_le s valid.0,
      all_le ss valid.1,
    )

by_length : (m : Message) → length m.prefix.0 ≡ 12 → AllByRecursion IsSpellable m.submessages
    → length (flat_map spelling_of_submessage m.submessages) ≤ 65487 → IsWritable m
by_length m prefix each short =
    let all = length-append (header_text 5 (0 ∷ 0 ∷ []) m.prefix) (flat_map spelling_of_submessage m.submessages) in
    let header = header_length 5 (0 ∷ 0 ∷ []) m.prefix refl prefix in
    record { prefix = prefix; submessages = each; short = omega (arith, all, header, short) }

pub few_writable : (m : Message) → length m.prefix.0 ≡ 12 → AllByRecursion IsSpellable m.submessages
    → AllByRecursion HasUsualValue m.submessages → length m.submessages ≤ 60 → IsWritable m
few_writable m prefix each usual few =
    by_length m prefix each (omega (arith, all_usual_le m.submessages each usual, few))

pub short_writable : (m : Message) → length m.prefix.0 ≡ 12 → AllByRecursion IsSpellable m.submessages
    → 20 + 87 * length m.submessages + all_value_octets m.submessages ≤ 65507 → IsWritable m
short_writable m prefix each short = by_length m prefix each (omega (arith, all_le m.submessages each, short))
