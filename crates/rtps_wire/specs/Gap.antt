-- GAP: which numbers will not come (RTPS 2.5, 9.4.5: Gap).
--
-- 0...............8...............16..............24.............31
-- |                           readerId                            |
-- |                           writerId                            |
-- |                 gapStart: high half, low half                 |
-- |            gapList: base, number of bits, words               |
use Rattle.std.specs.Prelude.{◌≡◌, ℕ, ◌≤◌, List, ◌++◌}
use Rattle.dds_base.specs.Bounds.{max_sn}
use Rattle.dds_base.specs.declared.endianness.Endianness.{Endianness}
use Rattle.dds_base.specs.declared.endianness.Endianness.TheVariants.{Little}
use Rattle.rtps_wire.specs.declared.gap.Gap.{Gap}
use Rattle.rtps_wire.specs.Fields.{order_of, sn_text, IsEntityId}
use Rattle.rtps_wire.specs.Sets.{ReadsSet, text_of_set}

-- readerId, writerId, gapStart
abbrev pub gap_head : Endianness → Gap → List ℕ
gap_head order g = g.reader_id.0 ++ g.writer_id.0 ++ sn_text order g.gap_start

-- The body begins with the head and gapList, whatever follows.
pub record ReadsGap (flags : ℕ) (body : List ℕ) (g : Gap) : Type 0 where
  pub from_set : List ℕ
  pub rest : List ℕ
  pub head : body ≡ gap_head (order_of flags) g ++ from_set
  pub set : ReadsSet (order_of flags) from_set g.gap_list rest

-- The start is from 1 to `max_sn`.
pub record IsGap (g : Gap) : Type 0 where
  pub reader : IsEntityId g.reader_id
  pub writer : IsEntityId g.writer_id
  pub first : 1 ≤ g.gap_start
  pub small : g.gap_start ≤ max_sn

-- the body as written
abbrev pub text_of_gap : Gap → List ℕ
text_of_gap g = gap_head Little g ++ text_of_set g.gap_list
