-- What never changes of an end, from its parts.
use Rattle.std.proofs.Common.{◌≡◌, Bool, List, ap}
use Rattle.dds_base.specs.declared.qos.ReaderQos.{ReaderQos}
use Rattle.dds_base.specs.Matched.{is_reliable}
use Rattle.dds_cache.specs.Standing.{qos_of}
use Rattle.dds_base.specs.declared.guid.EntityId.{EntityId}
use Rattle.dds_ends.specs.declared.matching.WriterName.{WriterName}
use Rattle.dds_ends.specs.Kept.{ReaderKept}
use Rattle.dds_ends.specs.Identity.{ReaderIdentity, reader_identity, reliable_in}

-- a reader's identity is its entity, the names of its writers, and its reliability
pub identity_as : (a b : EntityId) (x y : List WriterName) (p q : Bool) → a ≡ b → x ≡ y → p ≡ q
    → ◌≡◌ {A = ReaderIdentity} (record { entity = a; writers = x; reliable = p })
    (record { entity = b; writers = y; reliable = q })
identity_as a b x y p q e f g = cc

-- with the same entity, rows and policies it is the same reader
pub same_identity : (a b : ReaderKept) → a.entity ≡ b.entity → a.writers ≡ b.writers
    → qos_of a.store.cache ≡ qos_of b.store.cache → reader_identity a ≡ reader_identity b
same_identity a b entities rows policies =
    identity_as a.entity b.entity a.writers b.writers (reliable_in a.store) (reliable_in b.store) entities rows
    (ap (λ (q : ReaderQos). is_reliable q.reliability) policies)
