-- A writer's assertion and its HEARTBEAT (DDS 1.4, 2.2.2.4: assert_liveliness; 2.2.3: LIVELINESS).
use Rattle.std.specs.Prelude.{ℕ, Bool, nat_le, Option, None, Some, pos, if◌then◌else◌}
use Rattle.dds_base.specs.declared.code.Code.{Code}
use Rattle.dds_base.specs.declared.code.Code.TheVariants.{OutOfResources}
use Rattle.dds_base.specs.Bounds.{max_count}
use Rattle.dds_base.specs.Kept.{first_kept}
use Rattle.dds_base.specs.Written.{Asserted}
use Rattle.rtps_writer.specs.declared.heartbeat.HeartbeatDue.{HeartbeatDue}
use Rattle.rtps_writer.specs.WriterState.{WriterState, counts_due, entering, history_of, last_of}

-- the writer once the application asserted its liveliness besides
abbrev pub asserted : WriterState → ℕ → WriterState
asserted s now = entering s (Asserted now)

-- why an assertion would be refused: the counts 1 to 2^31 - 1 are used up
abbrev pub assert_refusal : WriterState → Option Code
assert_refusal s = if nat_le max_count (counts_due s) then Some OutOfResources else None

-- the HEARTBEAT by which an assertion is told: none where no reader is matched, of either reliability
abbrev pub heartbeat_asserted : WriterState → Bool → ℕ → Option HeartbeatDue
heartbeat_asserted s is_matched now =
    if is_matched
    then Some (record {
      first = first_kept (history_of s);
      last = last_of s;
      count = pos (counts_due (asserted s now));
    })
    else None
