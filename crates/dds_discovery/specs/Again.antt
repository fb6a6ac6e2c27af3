-- Whether a builtin reader of a participant begins: then it has nothing of us (RTPS 2.5, 9.4.5: AckNack; 9.3.1: entity ids of SEDP).
use Rattle.std.specs.Prelude.{◌≡◌, ◌⊎◌, ℕ, ◌==◌, ◌&&◌, ◌||◌, Bool, false, not, nat_le, unwrap_or, List, [], ◌∷◌, Option, Some}
use Rattle.std.specs.Int.{w32}
use Rattle.std.specs.List.{list_any}
use Rattle.std.specs.Str.{bytes_eq}
use Rattle.dds_base.specs.declared.endianness.Endianness.{Endianness}
use Rattle.dds_base.specs.declared.guid.GuidPrefix.{GuidPrefix}
use Rattle.dds_base.specs.Fields.{number_at, octets_at, ◌>>=◌}
use Rattle.rtps_wire.specs.Fields.{has_flag, order_of}
use Rattle.rtps_wire.specs.Frames.{IsEnd, IsFrame}
use Rattle.rtps_wire.specs.Messages.{HasHeader}
use Rattle.rtps_wire.specs.Names.{flag_final, id_acknack}

-- our writers of publications and of subscriptions: 000003c2, 000004c2
abbrev pub is_sedp_writer : List ℕ → Bool
is_sedp_writer octets = bytes_eq octets (0 ∷ 0 ∷ 3 ∷ 0xc2 ∷ []) || bytes_eq octets (0 ∷ 0 ∷ 4 ∷ 0xc2 ∷ [])

-- an ACKNACK with this body is for one of them, its set begins at 0 or 1, and has no bits; none where it is cut
unfoldable pub nothing_at : Endianness → List ℕ → Option Bool
nothing_at order body = do
  reader ← octets_at 4 body
  writer ← octets_at 4 reader.1
  high ← number_at order w32 writer.1
  low ← number_at order w32 high.1
  bits ← number_at order w32 low.1
  Some (is_sedp_writer writer.0 && high.0 == 0 && nat_le low.0 1 && bits.0 == 0)

-- It asks for an answer, and its reader has nothing and misses nothing: it begins.
abbrev pub is_beginning : ℕ → ℕ → List ℕ → Bool
is_beginning id flags body =
    id == id_acknack && not (has_flag flags flag_final) && unwrap_or (nothing_at (order_of flags) body) false

-- a submessage before its body is read
pub record Piece : Type 0 where
  pub id : ℕ
  pub flags : ℕ
  pub body : List ℕ

-- The bytes begin with these submessages, and rest is what follows them.
abbrev pub Begins : List ℕ → List Piece → List ℕ → Type 0
Begins bytes [] rest = bytes ≡ rest
Begins bytes (p ∷ ps) rest = (after : List ℕ) × IsFrame bytes p.id p.flags p.body after × Begins after ps rest

-- Whether one of the submessages of a body says that a reader begins: those up to the first that does, or up to where reading ends.
pub record SaysAgain (body : List ℕ) (again : Bool) : Type 0 where
  pub pieces : List Piece
  pub rest : List ℕ
  pub begins : Begins body pieces rest
  pub one : list_any (λ (p : Piece). is_beginning p.id p.flags p.body) pieces ≡ again
  pub ends : again ≡ false → IsEnd rest

-- Whether a datagram does; what is no message does not.
abbrev pub BeginsAgain : List ℕ → Bool → Type 0
BeginsAgain bytes again = ((source : GuidPrefix) × (body : List ℕ) × HasHeader bytes source body × SaysAgain body again)
    ⊎ (((source : GuidPrefix) (body : List ℕ) → HasHeader bytes source body → ⊥) × (again ≡ false))
