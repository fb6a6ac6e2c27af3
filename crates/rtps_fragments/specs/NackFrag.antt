-- NACK_FRAG: the fragments of a change that a reader misses (RTPS 2.5, 8.3.8.10 and 9.4.5.13).
--
-- 0...............8...............16..............24.............31
-- |                           readerId                            |
-- |                           writerId                            |
-- |                 writerSN: high half, low half                 |
-- |       fragmentNumberState: the fragment of its first bit      |
-- |                 number of bits, at most 256                   |
-- |       a word for each 32 bits begun, highest bit first        |
-- |                             count                             |
use Rattle.std.specs.Prelude.{ℕ, zero, suc, ◌+◌, ◌-◌, ◌*◌, min, not, Bool, true, List, [], ◌++◌, length, Option, slice_index_or, if◌then◌else◌}
use Rattle.std.specs.Int.{w32}
use Rattle.std.specs.List.{position}
use Rattle.std.specs.Option.{option_map}
use Rattle.dds_base.specs.declared.endianness.Endianness.TheVariants.{Little}
use Rattle.dds_base.specs.declared.guid.Guid.{Guid}
use Rattle.dds_base.specs.Fields.{number}
use Rattle.rtps_wire.specs.Fields.{sn_text}
use Rattle.rtps_wire.specs.Frames.{frame_text}
use Rattle.rtps_wire.specs.Messages.{header_text}
use Rattle.rtps_wire.specs.Names.{flag_endianness, max_bits, minor_version, vendor_unknown}
use Rattle.rtps_wire.specs.Sets.{words_for}
use Rattle.rtps_fragments.specs.declared.nack_frag.ChangeId.{ChangeId}

-- the id of NACK_FRAG
abbrev pub id_nack_frag : ℕ
id_nack_frag = 0x12

-- the value of so many bits, the highest first, of the fragments from a place on: 1 where one is missing
unfoldable pub missing_word : List Bool → ℕ → ℕ → ℕ
missing_word came place zero = 0
missing_word came place (suc n) =
    2 * missing_word came place n + (if slice_index_or came (place + n) true then 0 else 1)

-- so many words of 32 bits
unfoldable pub missing_words : List Bool → ℕ → ℕ → List ℕ
missing_words came place zero = []
missing_words came place (suc n) =
    missing_words came place n ++ number Little w32 (missing_word came (place + 32 * n) 32)

-- so many fragments it tells of from a place on: up to the last of the payload, and at most `max_bits`
abbrev pub told_bits : List Bool → ℕ → ℕ
told_bits came place = min (length came - place) max_bits

-- the set of those that are missing, from the one at a place on
abbrev pub missing_text : List Bool → ℕ → List ℕ
missing_text came place =
    number Little w32 (place + 1) ++ number Little w32 (told_bits came place)
    ++ missing_words came place (words_for (told_bits came place))

-- the message of a reader by which it asks for them
abbrev pub nack_frag_text : Guid → ChangeId → List Bool → ℕ → ℕ → List ℕ
nack_frag_text reader change came count place =
    header_text minor_version vendor_unknown reader.prefix
    ++ frame_text id_nack_frag flag_endianness (28 + 4 * words_for (told_bits came place))
    (reader.entity.0 ++ change.writer.entity.0 ++ sn_text Little change.writer_sn ++ missing_text came place
    ++ number Little w32 count)

-- It begins with the first one that is missing. Where none is there is no such message.
abbrev pub nack_frag_of : Guid → ChangeId → List Bool → ℕ → Option (List ℕ)
nack_frag_of reader change came count = option_map (nack_frag_text reader change came count) (position not came)
