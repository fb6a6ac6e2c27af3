-- How a writer and a reader of a peer begin. Inner functions alone cite this: nothing here has to be believed.
--
-- DDS 1.4, 2.2.3 (policies of matched entities); RTPS 2.5, 8.2 (Endpoint).
use Rattle.std.specs.Prelude.{◌≡◌, ℕ, List}
use Rattle.dds_base.specs.declared.config.PeerConfig.{PeerConfig}
use Rattle.dds_base.specs.declared.config.WriterConfig.{WriterConfig}
use Rattle.dds_base.specs.declared.config.ReaderConfig.{ReaderConfig}
use Rattle.rtps_reader.specs.Tracked.{fresh}
use Rattle.dds_machine.specs.Opening.{matched_writers, reader_from, writer_from}
use Rattle.dds_protocol.specs.Contact.{no_contact}
use Rattle.dds_ends.specs.Kept.{WriterKept, ReaderKept}
use Rattle.dds_ends.specs.Identity.{writer_identity, reader_identity, configured_writer, configured_reader}
use Rattle.dds_ends.specs.Standing.{WriterStands, ReaderStands}

-- a writer that stands for the one of its configuration, at the opening; the first of these peers has this number
pub record OpensWriter (first : ℕ) (peers : List PeerConfig) (config : WriterConfig) (kept : WriterKept) : Type 0 where
  pub identity : writer_identity kept ≡ configured_writer first peers config
  pub stands : WriterStands kept (writer_from first peers config) (λ r. no_contact)

-- a reader that stands for the one of its configuration, likewise
pub record OpensReader (first : ℕ) (peers : List PeerConfig) (config : ReaderConfig) (kept : ReaderKept) : Type 0 where
  pub identity : reader_identity kept ≡ configured_reader first peers config
  pub stands : ReaderStands kept (matched_writers config.topic first peers)
      (reader_from first peers config) (λ w. fresh)
