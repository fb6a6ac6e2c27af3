-- A reader of the peer knows one writer more. Inner functions alone cite this: nothing here has to be believed.
--
-- RTPS 2.5, 8.4.10.3 (StatefulReader, matched_writer_add).
use Rattle.std.specs.Prelude.{◌≡◌, List, [], ◌∷◌, ◌++◌, None}
use Rattle.dds_base.specs.declared.endpoint.Endpoint.{Endpoint}
use Rattle.dds_base.specs.declared.happening.Happening.TheVariants.{Joined}
use Rattle.dds_base.specs.declared.qos.MatchedWriter.{MatchedWriter}
use Rattle.dds_machine.specs.Matching.{reader_joined}
use Rattle.dds_machine.specs.Part.{Waiting, Reader, WriterProxy}
use Rattle.rtps_reader.specs.Tracked.{Tracked}
use Rattle.dds_ends.specs.declared.matching.WriterName.{WriterName}
use Rattle.dds_ends.specs.Identity.{reliable_in}
use Rattle.dds_ends.specs.Kept.{ReaderKept}
use Rattle.dds_ends.specs.Standing.{HasNoRow, ReaderStands}

-- the row of a writer of which nothing was heard
abbrev pub new_proxy : Endpoint → WriterProxy
new_proxy writer = record { writer = writer; place = 1; heard = None; how = Waiting }

-- the reader that met this writer, which joins it so
abbrev pub reader_with : Reader → Endpoint → MatchedWriter → Reader
reader_with r writer as_writer = record (reader_joined r writer) { happened = Joined as_writer ∷ r.happened }

-- a reader that knows this writer too, which had no row, and is matched with it; and nothing else
pub record KnowsMore (old : ReaderKept) (name : WriterName) (as_writer : MatchedWriter) (new : ReaderKept) : Type 0 where
  pub entity : new.entity ≡ old.entity
  pub reliable : reliable_in new.store ≡ reliable_in old.store
  pub writers : new.writers ≡ old.writers ++ name ∷ []
  pub stands : HasNoRow old.writers name.writer → (proxies : List WriterProxy) (r : Reader)
      (tracked : Endpoint → Tracked) → ReaderStands old proxies r tracked
      → ReaderStands new (proxies ++ new_proxy name.writer ∷ []) (reader_with r name.writer as_writer) tracked
