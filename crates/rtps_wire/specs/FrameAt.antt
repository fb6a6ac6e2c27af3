-- Reading the header of a submessage from left to right: what the code does, on lists. Nothing here has to be
-- believed, since `read_message` says where submessages end by `Frames`.
--
-- RTPS 2.5, 9.4.5.1 (submessage header).
use Rattle.std.specs.Prelude.{ℕ, List, [], ◌∷◌, Option, Some, None, if◌then◌else◌}
use Rattle.std.specs.Int.{w16}
use Rattle.dds_base.specs.Fields.{number_at, octets_at, ◌>>=◌}
use Rattle.rtps_wire.specs.Fields.{order_of}
use Rattle.rtps_wire.specs.Frames.{runs_to_end}

-- id, flags, body, and what follows
unfoldable pub frame_at : List ℕ → Option (ℕ × ℕ × List ℕ × List ℕ)
frame_at (id ∷ flags ∷ bytes) = do
  len ← number_at (order_of flags) w16 bytes
  if runs_to_end id len.0 then Some (id, flags, len.1, []) else (do
    body ← octets_at len.0 len.1
    Some (id, flags, body.0, body.1))
frame_at _ = None
