-- HEARTBEAT: which numbers a writer still has (RTPS 2.5, 9.4.5: Heartbeat).
--
-- 0...............8...............16..............24.............31
-- |                           readerId                            |
-- |                           writerId                            |
-- |                  firstSN: high half, low half                 |
-- |                  lastSN: high half, low half                  |
-- |                             count                             |
use Rattle.std.specs.Prelude.{ℕ, ◌+◌, ◌≤◌, List, ◌++◌, FitsSigned}
use Rattle.std.specs.Int.{w32}
use Rattle.dds_base.specs.Bounds.{max_sn}
use Rattle.dds_base.specs.declared.endianness.Endianness.{Endianness}
use Rattle.dds_base.specs.declared.endianness.Endianness.TheVariants.{Little}
use Rattle.rtps_wire.specs.declared.heartbeat.Heartbeat.{Heartbeat}
use Rattle.rtps_wire.specs.Fields.{order_of, sn_text, count_text, IsEntityId, BeginsWith}

-- readerId, writerId, firstSN, lastSN, count
abbrev pub heartbeat_text : Endianness → Heartbeat → List ℕ
heartbeat_text order h =
    h.reader_id.0 ++ h.writer_id.0 ++ sn_text order h.first_sn ++ sn_text order h.last_sn ++ count_text order h.count

-- The body begins with these fields, whatever follows.
abbrev pub ReadsHeartbeat : ℕ → List ℕ → Heartbeat → Type 0
ReadsHeartbeat flags body h = BeginsWith body (heartbeat_text (order_of flags) h)

-- The first number is from 1 to one more than the last; each is at most `max_sn`.
pub record IsHeartbeat (h : Heartbeat) : Type 0 where
  pub reader : IsEntityId h.reader_id
  pub writer : IsEntityId h.writer_id
  pub first : 1 ≤ h.first_sn
  pub not_past : h.first_sn ≤ h.last_sn + 1
  pub first_small : h.first_sn ≤ max_sn
  pub last_small : h.last_sn ≤ max_sn
  pub count : FitsSigned w32 h.count

-- the body as written
abbrev pub text_of_heartbeat : Heartbeat → List ℕ
text_of_heartbeat h = heartbeat_text Little h
