-- What the roster says of the names that a peer keeps.
use Rattle.std.proofs.Common.{◌≡◌, ℕ, suc, ◌+◌, Some, slice_get, ap, sym, ◌∙◌, subst, arith}
use Rattle.std.proofs.lemmas.Option.{same_Some}
use Rattle.dds_base.specs.declared.guid.EntityId.{EntityId}
use Rattle.dds_base.specs.declared.guid.Guid.{Guid}
use Rattle.dds_base.specs.declared.guid.GuidPrefix.{GuidPrefix}
use Rattle.dds_base.specs.declared.endpoint.Endpoint.{Endpoint}
use Rattle.dds_protocol.specs.Claims.{IsWriter}
use Rattle.dds_protocol.specs.Roster.{Roster}
use Rattle.dds_ends.specs.Kept.{WriterKept, ReaderKept}
use Rattle.dds_ends.specs.Identity.{writer_identity, reader_identity, IsReaderOf, IsWriterOf}
use Rattle.dds_core.specs.Identity.{identity_of, IsPeerOf}
use Rattle.dds_core.specs.Kept.{PeerKept}
use Rattle.dds_ends.proofs.Lists.{map-get}

-- a GUID is its prefix and its entity
guid_as : (a b : Guid) → a.prefix ≡ b.prefix → a.entity ≡ b.entity → a ≡ b
guid_as a b prefixes entities = same a.prefix b.prefix a.entity b.entity prefixes entities
  where
    same : (p q : GuidPrefix) (e f : EntityId) → p ≡ q → e ≡ f
        → ◌≡◌ {A = Guid} (record { prefix = p; entity = e }) (record { prefix = q; entity = f })
    same p q e f prefixes entities = cc

-- one writer has one GUID
pub one_guid : (roster : Roster) (a b : Guid) (v w : Endpoint) → IsWriter roster a.prefix a.entity v
    → IsWriter roster b.prefix b.entity w → v ≡ w → a ≡ b
one_guid roster a b v w x y same =
    guid_as a b (sym x.same_prefix ∙ (ap (λ (e : Endpoint). roster.prefix e.peer) same ∙ y.same_prefix))
    (same_Some a.entity b.entity
    (sym x.at_writer ∙ (ap (λ (e : Endpoint). roster.writers e) same ∙ y.at_writer)))

-- the peer's writer or reader of this index, by its number
abbrev pub own_end : ℕ → ℕ → Endpoint
own_end peer i = record { peer = peer; number = suc i }

-- a peer's own reader, with the writers that it knows
pub own_reader_is : (roster : Roster) (peer : ℕ) (kept : PeerKept) → IsPeerOf roster peer (identity_of kept)
    → (i : ℕ) (k : ReaderKept) → slice_get kept.readers i ≡ Some k
    → IsReaderOf roster (own_end peer i) (reader_identity k)
own_reader_is roster peer kept is i k at =
    let number : i + 1 ≡ suc i = omega arith in
    subst (λ (n : ℕ). IsReaderOf roster (record { peer = peer; number = n }) (reader_identity k)) number
    (is.readers i (reader_identity k) (map-get reader_identity kept.readers i k at))

-- a peer's own writer, with those that it is matched with now
pub own_writer_is : (roster : Roster) (peer : ℕ) (kept : PeerKept) → IsPeerOf roster peer (identity_of kept)
    → (i : ℕ) (k : WriterKept) → slice_get kept.writers i ≡ Some k
    → IsWriterOf roster (own_end peer i) (writer_identity k)
own_writer_is roster peer kept is i k at =
    let number : i + 1 ≡ suc i = omega arith in
    subst (λ (n : ℕ). IsWriterOf roster (record { peer = peer; number = n }) (writer_identity k)) number
    (is.writers i (writer_identity k) (map-get writer_identity kept.writers i k at))
