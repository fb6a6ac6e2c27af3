-- What a proxy keeps of its writer, and what that means.
--
-- RTPS 2.5, 8.4.10 (WriterProxy, ChangeFromWriter).
use Rattle.std.specs.Prelude.{ℕ, ◌+◌, ◌*◌, ◌≤◌, min, ⊤, Option, None, Some, vec_capacity}
use Rattle.dds_base.specs.declared.change.Change.{Change}
use Rattle.rtps_sets.specs.Window.{mark_of, window_place}
use Rattle.rtps_sets.specs.declared.window.Mark.{Mark}
use Rattle.rtps_sets.specs.declared.window.Mark.TheVariants as mark
use Rattle.rtps_reader.specs.declared.attachment.Attachment.{Attachment}
use Rattle.rtps_reader.specs.declared.attachment.Attachment.TheVariants.{Away}
use Rattle.rtps_reader.specs.declared.known_writer.KnownWriter.{KnownWriter}
use Rattle.rtps_reader.specs.declared.writer_proxy.WriterProxy.{WriterProxy}
use Rattle.rtps_reader.specs.HeldChanges.{HasPlaces, held_at, count_held}
use Rattle.rtps_reader.specs.Tracked.{Slot, Missing, Held, Irrelevant, Tracked}

-- what a mark, and what is held at the place, say of a number
abbrev pub slot_from : Option Mark → Option Change → Slot
slot_from None o = Missing
slot_from (Some mark.Irrelevant) o = Irrelevant
slot_from (Some mark.Held) (Some change) = Held change
slot_from (Some mark.Held) None = Missing

-- what the proxy knows
abbrev pub tracked : WriterProxy → Tracked
tracked p = record {
  place = window_place p.window;
  slot = λ n. slot_from (mark_of p.window n) (held_at p.held n);
  first = p.first;
  count = p.count;
  acknacks = p.acknacks;
}

-- there is memory for all that the next submessage may take, at the proxy and at a sink of so much room
pub record IsProxyReady (p : WriterProxy) (sink_spare : ℕ) : Type 0 where
  pub places : HasPlaces p.held
  pub runs : min (count_held p.held) 255 + 2 ≤ vec_capacity p.runs
  pub sink : 2 * min (count_held p.held) 255 + 5 ≤ sink_spare

-- where the reader stands so to the writer, this is asked; where it is away, nothing
abbrev pub UnlessAway : Attachment → Type 0 → Type 0
UnlessAway Away P = ⊤
UnlessAway how P = P

-- the same of a writer that a reader knows: one that it is not matched with can do nothing, so it needs no memory
abbrev pub IsWriterReady : KnownWriter → ℕ → Type 0
IsWriterReady w sink_spare = UnlessAway w.how (IsProxyReady w.proxy sink_spare)
