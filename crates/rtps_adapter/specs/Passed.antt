-- What a peer reads where a number that it could not read stands in a GAP (RTPS 2.5, 9.4.5: Data, DataFrag and Gap).
use Rattle.std.specs.Prelude.{◌≡◌, ℕ, ◌+◌, ◌≤◌, ◌<◌, true, List, ◌++◌}
use Rattle.dds_base.specs.declared.guid.EntityId.{EntityId}
use Rattle.dds_base.specs.declared.guid.GuidPrefix.{GuidPrefix}
use Rattle.dds_base.specs.Bounds.{max_sn}
use Rattle.rtps_sets.specs.NumberSet.{empty_from}
use Rattle.rtps_wire.specs.declared.submessage.Submessage.TheVariants.{Gap}
use Rattle.rtps_wire.specs.Data.{data_head}
use Rattle.rtps_wire.specs.Fields.{order_of, IsEntityId}
use Rattle.rtps_wire.specs.Submessages.{Reads}
use Rattle.rtps_adapter.specs.declared.kinds.WriterKind.{WriterKind}
use Rattle.rtps_adapter.specs.Turning.{Piece}
use Rattle.rtps_adapter.specs.Filling.{is_lost, filled}

-- The body of a DATA or a DATA_FRAG begins with a head that names these.
pub record Names (p : Piece) (reader writer : EntityId) (sn : ℕ) : Type 0 where
  pub extra : ℕ
  pub way : ℕ
  pub rest : List ℕ
  pub text : p.body ≡ data_head (order_of p.flags) extra way reader writer sn ++ rest
  pub reader_is : IsEntityId reader
  pub writer_is : IsEntityId writer
  pub first : 1 ≤ sn
  pub small : sn < max_sn

-- A number that a peer could not read is read as a GAP from it to the next one, and of no other, for the same reader,
-- of the same writer.
abbrev pub NumbersArePassed : Type 0
NumbersArePassed = (kinds : List WriterKind) (source : GuidPrefix) (p : Piece) (reader writer : EntityId) (sn : ℕ)
    → Names p reader writer sn → is_lost kinds source writer p.id p.flags p.body ≡ true
    → Reads (filled kinds source p).id (filled kinds source p).flags (filled kinds source p).body
    (Gap (record { reader_id = reader; writer_id = writer; gap_start = sn; gap_list = empty_from (sn + 1) }))
