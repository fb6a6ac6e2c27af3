-- A reader whose policies are the same, and that has as many writers, fits them as well.
use Rattle.std.proofs.Common.{◌≡◌, Bool, List, ap, ◌∙◌}
use Rattle.dds_base.specs.declared.qos.ReaderQos.{ReaderQos}
use Rattle.dds_base.specs.Matched.{is_reliable}
use Rattle.dds_cache.specs.Standing.{qos_of}
use Rattle.dds_lease.specs.Standing.{writer_count}
use Rattle.rtps_reader.specs.Reader.{Proxies, count_of}
use Rattle.dds_ends.specs.declared.matching.WriterName.{WriterName}
use Rattle.dds_ends.specs.Identity.{FitsWriters}
use Rattle.dds_ends.specs.Stored.{StoreKept}

pub fits_on : {names : List WriterName} {old new : Proxies} {before after : StoreKept} {reliable : Bool}
    → FitsWriters names old before reliable → qos_of after.cache ≡ qos_of before.cache
    → writer_count after.leases ≡ writer_count before.leases
    → count_of new ≡ count_of old → FitsWriters names new after reliable
fits_on fits qos same count =
    record {
      policy = ap (λ (q : ReaderQos). is_reliable q.reliability) qos ∙ fits.policy;
      count = count ∙ fits.count;
      fits = same ∙ fits.fits;
      many = fits.many;
    }
