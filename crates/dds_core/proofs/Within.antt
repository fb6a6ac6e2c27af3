-- What is so of a peer in a part of a roster is so in the whole of it.
use Rattle.std.proofs.Common.{◌≡◌, ℕ, ◌+◌, true, List, Some, Contains, slice_get, refl, ap, sym, ◌∙◌, subst}
use Rattle.dds_base.specs.declared.endpoint.Endpoint.{Endpoint}
use Rattle.dds_base.specs.declared.guid.EntityId.{EntityId}
use Rattle.dds_base.specs.declared.guid.GuidPrefix.{GuidPrefix}
use Rattle.dds_machine.specs.Part.{Names, peers_of}
use Rattle.dds_protocol.specs.Claims.{IsReader, IsWriter}
use Rattle.dds_protocol.specs.Roster.{IsRoster, Roster}
use Rattle.dds_protocol.proofs.PeersOf.{end_of_peer}
use Rattle.dds_ends.specs.declared.matching.Destination.{Destination}
use Rattle.dds_ends.specs.declared.matching.ReaderName.{ReaderName}
use Rattle.dds_ends.specs.declared.matching.TopicName.{TopicName}
use Rattle.dds_ends.specs.Identity.{IsReaderOf, IsWriterOf, ReaderIdentity, WriterIdentity}
use Rattle.dds_ends.specs.MatchedEnds.{AreMatchedNow, IsKnownReader, IsNameOf, IsPeer, IsReliableName, readers_of}
use Rattle.dds_core.specs.Identity.{AreAllNamed, Identity, KnowsNames, IsWithin, IsPeerOf}
use Rattle.dds_core.proofs.Sent.{contains_map, name_of}

module _ (part whole : Roster) (is_within : IsWithin part whole) where
  pub writer_in : (w : Endpoint) (prefix : GuidPrefix) (entity : EntityId) → IsWriter part prefix entity w
      → IsWriter whole prefix entity w
  writer_in w prefix entity is =
      let there = is_within.writers w entity is.at_writer in
      record { same_prefix = there.same_prefix ∙ is.same_prefix; at_writer = there.at_writer }

  pub reader_in : (r : Endpoint) (prefix : GuidPrefix) (entity : EntityId) → IsReader part prefix entity r
      → IsReader whole prefix entity r
  reader_in r prefix entity is =
      let there = is_within.readers r entity is.at_reader in
      record { same_prefix = there.same_prefix ∙ is.same_prefix; at_reader = there.at_reader }

  name_in : (writer : Endpoint) (name : ReaderName) → IsNameOf part writer name → IsNameOf whole writer name
  name_in writer name is = record {
    is = reader_in name.reader name.guid.prefix name.guid.entity is.is;
    matched = is_within.matched writer name.reader is.matched;
  }

  known_in : (writer : Endpoint) (known : TopicName) → IsKnownReader part writer known
      → IsKnownReader whole writer known
  known_in writer known is = record {
    name_is = name_in writer known.name is.name_is;
    as_reliable = is_within.reliable known.name.reader known.name.guid.entity is.name_is.is.at_reader ∙ is.as_reliable;
  }

  reliable_name_in : (writer : Endpoint) (name : ReaderName) → IsReliableName part writer name
      → IsReliableName whole writer name
  reliable_name_in writer name is = record {
    name_is = name_in writer name is.name_is;
    reliable = is_within.reliable name.reader name.guid.entity is.name_is.is.at_reader ∙ is.reliable;
  }

  -- a peer to which a writer sends is that of a reader
  peer_in : (writer : Endpoint) (matched : List ReaderName) (to : List Destination) (names : List ReaderName)
      → AreMatchedNow part writer matched to names → (k : ℕ) (d : Destination)
      → slice_get to k ≡ Some d → IsPeer whole d
  peer_in writer matched to names are k d at =
      let among : Contains (peers_of (readers_of matched)) d.peer =
      subst (λ (ns : List ℕ). Contains ns d.peer) (sym are.sent_to) (contains_map to k d at) in
      let e = end_of_peer (readers_of matched) d.peer among in
      let n = name_of part writer matched e.0 are.readers e.1 in
      let there : n.0.reader.peer ≡ d.peer = ap (λ (r : Endpoint). r.peer) n.2 ∙ e.2 in
      let same : whole.prefix n.0.reader.peer ≡ part.prefix n.0.reader.peer =
      (is_within.readers n.0.reader n.0.guid.entity n.1.is.at_reader).same_prefix in
      subst (λ (m : ℕ). whole.prefix m ≡ part.prefix m) there same ∙ are.prefixes k d at

  matched_in : (writer : Endpoint) (matched : List ReaderName) (to : List Destination) (names : List ReaderName)
      → AreMatchedNow part writer matched to names → AreMatchedNow whole writer matched to names
  matched_in writer matched to names are = record {
    readers = λ k n at. name_in writer n (are.readers k n at);
    sent_to = are.sent_to;
    prefixes = peer_in writer matched to names are;
    named = λ k n at. reliable_name_in writer n (are.named k n at);
  }

  own_writer_in : (writer : Endpoint) (is : WriterIdentity) → IsWriterOf part writer is → IsWriterOf whole writer is
  own_writer_in writer is of = record {
    entity = (is_within.writers writer is.entity of.entity).at_writer;
    known = λ k n at. known_in writer n (of.known k n at);
    ends = matched_in writer is.matched is.destinations is.readers of.ends;
  }

  own_reader_in : (reader : Endpoint) (is : ReaderIdentity) → IsReaderOf part reader is → IsReaderOf whole reader is
  own_reader_in reader is of = record {
    entity = (is_within.readers reader is.entity of.entity).at_reader;
    reliable = is_within.reliable reader is.entity of.entity ∙ of.reliable;
    writers = λ j n at.
        let w = of.writers j n at in
        record {
          is = writer_in n.writer n.guid.prefix n.guid.entity w.is;
          matched = is_within.matched n.writer reader w.matched;
        };
  }

  -- a peer of the part, in a whole that is a roster too and gives its number the same prefix
  pub peer_in_whole : (number : ℕ) (identity : Identity) → IsRoster whole → whole.prefix number ≡ part.prefix number
      → IsPeerOf part number identity → IsPeerOf whole number identity
  peer_in_whole number identity good same is = record {
    is_roster = good;
    prefix = same ∙ is.prefix;
    writers = λ i x at. own_writer_in (record { peer = number; number = i + 1 }) x (is.writers i x at);
    limited = is.limited;
    readers = λ i x at. own_reader_in (record { peer = number; number = i + 1 }) x (is.readers i x at);
    once = is.once;
  }

-- a roster is a part of itself
pub within_itself : (roster : Roster) → IsWithin roster roster
within_itself roster = record {
  writers = λ e entity at. record { same_prefix = refl; at_writer = at };
  readers = λ e entity at. record { same_prefix = refl; at_reader = at };
  reliable = λ e entity at. refl;
  matched = λ w r both. both;
}

-- a part of a part is a part
pub within_both : (a b c : Roster) → IsWithin a b → IsWithin b c → IsWithin a c
within_both a b c first second = record {
  writers = λ e entity at. writer_in b c second e (a.prefix e.peer) entity (first.writers e entity at);
  readers = λ e entity at. reader_in b c second e (a.prefix e.peer) entity (first.readers e entity at);
  reliable = λ e entity at.
      second.reliable e entity (first.readers e entity at).at_reader ∙ first.reliable e entity at;
  matched = λ w r both. second.matched w r (first.matched w r both);
}

-- a peer that is named so is, in whatever is so of it in each roster
pub still_known : (roster : Roster) (number : ℕ) (old new : Identity) (names : Names)
    → ((r : Roster) → IsPeerOf r number old → IsPeerOf r number new)
    → KnowsNames roster number old names → KnowsNames roster number new names
still_known roster number old new names still is = record {
  known = is.known;
  is_peer = still is.known is.is_peer;
  is_within = is.is_within;
  named = is.named;
}
