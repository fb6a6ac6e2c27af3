-- Which place of a reader may go on without a packet. Inner functions alone cite this: nothing here has to be
-- believed.
--
-- RTPS 2.5, 8.4.12 (reliable StatefulReader).
use Rattle.std.specs.Prelude.{◌≡◌, ℕ, Bool}
use Rattle.rtps_reader.specs.Attached.{goes_on}
use Rattle.rtps_reader.specs.Reader.{Tracks, how_at}
use Rattle.rtps_reader.specs.Tracked.{Tracked}
use Rattle.dds_ends.specs.Kept.{ReaderKept}

-- whether something may go on at the row, by what the reader knows of its writer
abbrev pub GoesOnAt : ReaderKept → ℕ → Bool → Type 0
GoesOnAt kept row answer = (t : Tracked) → Tracks kept.reader row t → answer ≡ goes_on (how_at kept.reader row) t
