-- What stays of what a peer keeps, and what the roster says of it. Inner functions alone cite this: nothing
-- here has to be believed.
--
-- RTPS 2.5, 8.2 (Participant).
use Rattle.std.specs.Prelude.{◌≡◌, ◌+◌, ◌≤◌, ℕ, true, Contains, List, map, slice_get, Some}
use Rattle.dds_base.specs.Bounds.{greatest_value}
use Rattle.dds_base.specs.declared.endpoint.Endpoint.{Endpoint}
use Rattle.dds_base.specs.declared.guid.EntityId.{EntityId}
use Rattle.dds_base.specs.declared.guid.GuidPrefix.{GuidPrefix}
use Rattle.dds_machine.specs.Part.{Name, Names}
use Rattle.dds_protocol.specs.Claims.{IsReader, IsWriter}
use Rattle.dds_protocol.specs.Roster.{IsRoster, Roster}
use Rattle.dds_core.specs.Kept.{PeerKept}
use Rattle.dds_ends.specs.declared.matching.WriterName.{WriterName}
use Rattle.dds_ends.specs.Identity.{WriterIdentity, ReaderIdentity, writer_identity, reader_identity, IsReaderOf, IsWriterOf}

-- what stays of a peer while nobody comes or goes: its name, and that of its writers and its readers
pub record Identity : Type 0 where
  pub prefix : GuidPrefix
  pub writers : List WriterIdentity
  pub readers : List ReaderIdentity

-- what stays of this peer
abbrev pub identity_of : PeerKept → Identity
identity_of kept = record
    { prefix = kept.prefix; writers = map writer_identity kept.writers; readers = map reader_identity kept.readers }

-- no two of a reader's rows are of one writer
abbrev pub AreRowsOnce : List WriterName → Type 0
AreRowsOnce rows = (i j : ℕ) (a b : WriterName) → slice_get rows i ≡ Some a → slice_get rows j ≡ Some b
    → a.writer ≡ b.writer → i ≡ j

-- the peer of this number has this identity, in a roster; no values of its writers may be longer than a datagram takes;
-- each of its readers knows each writer by one row
pub record IsPeerOf (roster : Roster) (number : ℕ) (identity : Identity) : Type 0 where
  pub is_roster : IsRoster roster
  pub prefix : roster.prefix number ≡ identity.prefix
  pub writers : (i : ℕ) (is : WriterIdentity) → slice_get identity.writers i ≡ Some is
      → IsWriterOf roster (record { peer = number; number = i + 1 }) is
  pub limited : (i : ℕ) (is : WriterIdentity) → slice_get identity.writers i ≡ Some is → is.max_value ≤ greatest_value
  pub readers : (i : ℕ) (is : ReaderIdentity) → slice_get identity.readers i ≡ Some is
      → IsReaderOf roster (record { peer = number; number = i + 1 }) is
  pub once : (i : ℕ) (is : ReaderIdentity) → slice_get identity.readers i ≡ Some is → AreRowsOnce is.writers

-- each end of the one roster the other one has too, by the same GUID and as reliable, and whom it matches that one matches
pub record IsWithin (part whole : Roster) : Type 0 where
  pub writers : (e : Endpoint) (entity : EntityId) → part.writers e ≡ Some entity
      → IsWriter whole (part.prefix e.peer) entity e
  pub readers : (e : Endpoint) (entity : EntityId) → part.readers e ≡ Some entity
      → IsReader whole (part.prefix e.peer) entity e
  pub reliable : (e : Endpoint) (entity : EntityId) → part.readers e ≡ Some entity
      → whole.is_reliable e ≡ part.is_reliable e
  pub matched : (w r : Endpoint) → part.are_matched w r ≡ true → whole.are_matched w r ≡ true

-- this end has one of these names, with this GUID
pub record HasName (names : List Name) (e : Endpoint) (prefix : GuidPrefix) (entity : EntityId) : Type 0 where
  pub name : Name
  pub among : Contains names name
  pub end : name.end ≡ e
  pub guid : name.guid ≡ record { prefix = prefix; entity = entity }

-- each end of a roster has one of these names, with its GUID, and a reader's says whether it is reliable
pub record AreAllNamed (roster : Roster) (names : Names) : Type 0 where
  pub writers : (e : Endpoint) (entity : EntityId) → roster.writers e ≡ Some entity
      → HasName names.writers e (roster.prefix e.peer) entity
  pub readers : (e : Endpoint) (entity : EntityId) → roster.readers e ≡ Some entity
      → (has : HasName names.readers e (roster.prefix e.peer) entity) × (has.name.reliable ≡ roster.is_reliable e)

-- the peer of this number is one of a part of the roster, of each of whose ends the peer knows the name
pub record KnowsNames (roster : Roster) (number : ℕ) (identity : Identity) (names : Names) : Type 0 where
  pub known : Roster
  pub is_peer : IsPeerOf known number identity
  pub is_within : IsWithin known roster
  pub named : AreAllNamed known names
