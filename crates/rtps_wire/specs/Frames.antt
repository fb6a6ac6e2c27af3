-- Where a submessage ends, and where reading does (RTPS 2.5, 8.3.4 and 9.4.5.1).
--
-- 0...............8...............16..............24.............31
-- |      id       |     flags     |      length of the body       |
-- |                         the body ...                          |
use Rattle.std.specs.Prelude.{◌≡◌, ℕ, ◌<◌, ◌^◌, ◌==◌, ◌&&◌, not, Bool, List, [], ◌∷◌, ◌++◌, length, MatchBool, ◌⊎◌}
use Rattle.std.specs.Int.{w16}
use Rattle.dds_base.specs.Fields.{number}
use Rattle.rtps_wire.specs.Fields.{order_of}
use Rattle.rtps_wire.specs.Names.{id_pad, id_info_ts, len_submessage_header}

-- Length 0 means up to the message's end, except for PAD and INFO_TS.
abbrev pub runs_to_end : ℕ → ℕ → Bool
runs_to_end id len = len == 0 && not (id == id_pad) && not (id == id_info_ts)

-- id, flags, length and body of a submessage
abbrev pub frame_text : ℕ → ℕ → ℕ → List ℕ → List ℕ
frame_text id flags len body = id ∷ flags ∷ number (order_of flags) w16 len ++ body

-- The bytes begin with a submessage of this id, flags and body, and rest is what follows it.
pub record IsFrame (bytes : List ℕ) (id flags : ℕ) (body rest : List ℕ) : Type 0 where
  pub len : ℕ
  pub small : len < 2 ^ 16
  pub text : bytes ≡ frame_text id flags len body ++ rest
  pub extent : MatchBool (runs_to_end id len) (rest ≡ []) (length body ≡ len)

-- The length that stands here passes the end.
pub record IsTooLong (bytes : List ℕ) : Type 0 where
  pub id : ℕ
  pub flags : ℕ
  pub len : ℕ
  pub body : List ℕ
  pub small : len < 2 ^ 16
  pub text : bytes ≡ frame_text id flags len body
  pub passes : length body < len

-- Reading ends where fewer than 4 bytes are left, or a length passes the end.
abbrev pub IsEnd : List ℕ → Type 0
IsEnd bytes = (length bytes < len_submessage_header) ⊎ IsTooLong bytes
