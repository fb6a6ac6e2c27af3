-- ACKNACK: what a reader has, and what it misses (RTPS 2.5, 9.4.5: AckNack).
--
-- 0...............8...............16..............24.............31
-- |                           readerId                            |
-- |                           writerId                            |
-- |         readerSNState: base, number of bits, words            |
-- |                             count                             |
--
-- The set may have base 0 where its number of bits is 0, as Fast DDS sends it before its first HEARTBEAT; tshark calls
-- such an ACKNACK preemptive. It is read as that of base 1 (8.3.8.1, 9.4.2.6).
use Rattle.std.specs.Prelude.{◌≡◌, ℕ, List, ◌++◌, FitsSigned}
use Rattle.std.specs.Int.{w32}
use Rattle.dds_base.specs.declared.endianness.Endianness.TheVariants.{Little}
use Rattle.rtps_wire.specs.declared.acknack.AckNack.{AckNack}
use Rattle.rtps_wire.specs.Fields.{order_of, count_text, IsEntityId}
use Rattle.rtps_wire.specs.Sets.{ReadsAckNackSet, text_of_set}

-- The body begins with these fields, whatever follows.
pub record ReadsAckNack (flags : ℕ) (body : List ℕ) (a : AckNack) : Type 0 where
  pub from_set : List ℕ
  pub from_count : List ℕ
  pub rest : List ℕ
  pub ids : body ≡ (a.reader_id.0 ++ a.writer_id.0) ++ from_set
  pub set : ReadsAckNackSet (order_of flags) from_set a.reader_sn_state from_count
  pub count : from_count ≡ count_text (order_of flags) a.count ++ rest

-- It is valid: its ids have 4 octets each, and its count fits 32 bits with a sign.
pub record IsAckNack (a : AckNack) : Type 0 where
  pub reader : IsEntityId a.reader_id
  pub writer : IsEntityId a.writer_id
  pub count : FitsSigned w32 a.count

-- the body as written
abbrev pub text_of_acknack : AckNack → List ℕ
text_of_acknack a = (a.reader_id.0 ++ a.writer_id.0) ++ (text_of_set a.reader_sn_state ++ count_text Little a.count)
