-- Whether a datagram has a fragment of a payload (RTPS 2.5, 8.3.8.3: DataFrag).
use Rattle.std.specs.Prelude.{◌≡◌, ◌⊎◌, ◌==◌, ℕ, Bool, false, List}
use Rattle.std.specs.List.{list_any}
use Rattle.dds_base.specs.declared.guid.GuidPrefix.{GuidPrefix}
use Rattle.rtps_wire.specs.Frames.{IsEnd}
use Rattle.rtps_wire.specs.Messages.{HasHeader}
use Rattle.rtps_fragments.specs.DataFrag.{id_data_frag}
use Rattle.dds_discovery.specs.Again.{Begins, Piece}

abbrev pub is_fragment : Piece → Bool
is_fragment p = p.id == id_data_frag

-- Whether one of the submessages of a body is one: those up to the first that is, or up to where reading ends.
pub record HasOne (body : List ℕ) (has : Bool) : Type 0 where
  pub pieces : List Piece
  pub rest : List ℕ
  pub begins : Begins body pieces rest
  pub one : list_any is_fragment pieces ≡ has
  pub ends : has ≡ false → IsEnd rest

-- Whether a datagram has one; what is no message does not.
abbrev pub HasFragment : List ℕ → Bool → Type 0
HasFragment bytes has = ((source : GuidPrefix) × (body : List ℕ) × HasHeader bytes source body × HasOne body has)
    ⊎ (((source : GuidPrefix) (body : List ℕ) → HasHeader bytes source body → ⊥) × (has ≡ false))
