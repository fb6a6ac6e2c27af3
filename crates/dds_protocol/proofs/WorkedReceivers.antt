-- Whom the parts of a message are for, when what follows was made, and whom a submessage speaks to, computed at a
-- network of two peers: peer 1 has a writer w1, peer 2 readers r1, r2 and r3, of which r2 is of another topic.
use Rattle.std.proofs.Common.{◌≡◌, ℕ, ◌-◌, ◌^◌, true, false, Some, None, [], ◌∷◌, ◌++◌, replicate, refl, sym, ◌∙◌, ap, inr, ⊎_elim, arith, List}
use Rattle.std.specs.Prelude.{pos, negsuc, slice_index}
use Rattle.dds_base.specs.declared.config.Config.{Config}
use Rattle.dds_base.specs.declared.config.PeerConfig.{PeerConfig}
use Rattle.dds_base.specs.declared.config.WriterConfig.{WriterConfig}
use Rattle.dds_base.specs.declared.config.ReaderConfig.{ReaderConfig}
use Rattle.dds_base.specs.declared.guid.GuidPrefix.{GuidPrefix}
use Rattle.dds_base.specs.declared.guid.EntityId.{EntityId}
use Rattle.dds_base.specs.declared.qos.HistoryQos.{HistoryQos}
use Rattle.dds_base.specs.declared.qos.HistoryQos.TheVariants.{KeepAll}
use Rattle.dds_base.specs.declared.qos.OwnershipQos.TheVariants.{Shared}
use Rattle.dds_base.specs.declared.qos.ReliabilityQos.TheVariants.{Reliable}
use Rattle.dds_base.specs.Bounds.{usual_arrivals, usual_value}
use Rattle.rtps_wire.specs.declared.data.Data.{Data as DataBody}
use Rattle.rtps_wire.specs.declared.submessage.Submessage.TheVariants.{Pad, InfoDst, InfoTs, Data}
use Rattle.dds_base.specs.declared.endpoint.Endpoint.{Endpoint}
use Rattle.dds_protocol.proofs.Listed.{reader_named as named_there}
use Rattle.dds_protocol.specs.Roster.{Roster, roster_of}
use Rattle.dds_protocol.specs.Claims.{IsNumbered, IsWriter, IsReader, Receiver, every_peer, receiver_of, is_for, after_submessage, StandsAt, every_reader, Names, IsToReader, IsToReliable, IsToWriter}

abbrev pub prefix_1 : GuidPrefix
prefix_1 = record { 0 = replicate 11 0 ++ 1 ∷ [] }

abbrev pub prefix_2 : GuidPrefix
prefix_2 = record { 0 = replicate 11 0 ++ 2 ∷ [] }

abbrev pub w1_id : EntityId
w1_id = record { 0 = 0 ∷ 0 ∷ 1 ∷ 2 ∷ [] }

abbrev pub r1_id : EntityId
r1_id = record { 0 = 0 ∷ 0 ∷ 1 ∷ 7 ∷ [] }

abbrev pub r2_id : EntityId
r2_id = record { 0 = 0 ∷ 0 ∷ 2 ∷ 7 ∷ [] }

abbrev pub r3_id : EntityId
r3_id = record { 0 = 0 ∷ 0 ∷ 3 ∷ 7 ∷ [] }

abbrev pub writer : HistoryQos → WriterConfig
writer history =
    record {
      entity = w1_id;
      topic = 0;
      ownership = Shared;
      reliability = Reliable;
      history = history;
      max_samples = negsuc 0;
      strength = pos 0;
      lease = None;
      autodispose = true;
      max_value = usual_value;
    }

abbrev pub reader : EntityId → ℕ → ReaderConfig
reader entity topic =
    record {
      entity = entity;
      topic = topic;
      ownership = Shared;
      reliability = Reliable;
      history = KeepAll;
      max_samples = negsuc 0;
      max_instances = negsuc 0;
      max_arrivals = usual_arrivals;
      lease = None;
      max_value = usual_value;
    }

abbrev pub peer_1 : PeerConfig
peer_1 = record { prefix = prefix_1; writers = writer KeepAll ∷ []; readers = [] }

-- peer 2 with these readers, the two peers then, and their roster
abbrev peer_with : List ReaderConfig → PeerConfig
peer_with readers = record { prefix = prefix_2; writers = []; readers = readers }

abbrev pub peers_with : List ReaderConfig → Config
peers_with readers = record { peers = peer_1 ∷ peer_with readers ∷ [] }

abbrev pub network_with : List ReaderConfig → Roster
network_with readers = roster_of (peers_with readers)

abbrev pub peer_2 : PeerConfig
peer_2 = peer_with (reader r1_id 0 ∷ reader r2_id 1 ∷ reader r3_id 0 ∷ [])

abbrev pub network : Roster
network = network_with peer_2.readers

abbrev pub w1 : Endpoint
w1 = record { peer = 1; number = 1 }

abbrev pub r1 : Endpoint
r1 = record { peer = 2; number = 1 }

abbrev pub r2 : Endpoint
r2 = record { peer = 2; number = 2 }

abbrev pub r3 : Endpoint
r3 = record { peer = 2; number = 3 }

-- ---- whom a part of a message is for, and what an INFO_TS sets

-- a message from peer 1, in a part that is for peer 2; and the other way round
abbrev pub to_2 : Receiver
to_2 = record { source_guid_prefix = prefix_1; dest_guid_prefix = prefix_2; timestamp = 0 }

abbrev pub to_1 : Receiver
to_1 = record { source_guid_prefix = prefix_2; dest_guid_prefix = prefix_1; timestamp = 0 }

-- a part that is for peer 1, of a message from peer 1
abbrev to_itself : Receiver
to_itself = record { source_guid_prefix = prefix_1; dest_guid_prefix = prefix_1; timestamp = 0 }

is_for-named : is_for to_2 prefix_2 ≡ true
is_for-named = refl

is_for-other : is_for to_2 prefix_1 ≡ false
is_for-other = refl

-- without an INFO_DST a message is for every peer, and its changes have no timestamp
is_for-begun : is_for (receiver_of prefix_1) prefix_2 ≡ true
is_for-begun = refl

timestamp-begun : (receiver_of prefix_1).timestamp ≡ 0
timestamp-begun = refl

-- an INFO_DST of zeros names every peer again
is_for-zeros : is_for (after_submessage prefix_2 to_itself (InfoDst every_peer)) prefix_2 ≡ true
is_for-zeros = refl

after-info_dst : after_submessage prefix_2 to_itself (InfoDst prefix_2) ≡ to_2
after-info_dst = refl

after-info_ts : (after_submessage prefix_2 to_2 (InfoTs (Some 5))).timestamp ≡ 5
after-info_ts = refl

-- in a part for another peer an INFO_TS leaves the timestamp
after-info_ts_to_another : after_submessage prefix_2 to_itself (InfoTs (Some 5)) ≡ to_itself
after-info_ts_to_another = refl

-- an INFO_TS with flag I, and one from 2^63 on, set it to 0
after-info_ts_invalidate : (after_submessage prefix_2 (record to_2 { timestamp = 5 }) (InfoTs None)).timestamp ≡ 0
after-info_ts_invalidate = refl

after-info_ts_late : (after_submessage prefix_2 (record to_2 { timestamp = 5 }) (InfoTs (Some (2 ^ 63)))).timestamp ≡ 0
after-info_ts_late = refl

after-info_ts_last : (after_submessage prefix_2 to_2 (InfoTs (Some (2 ^ 63 - 1)))).timestamp ≡ 2 ^ 63 - 1
after-info_ts_last = refl

-- other submessages leave all as it is
after-pad : after_submessage prefix_2 (record to_2 { timestamp = 5 }) Pad ≡ record to_2 { timestamp = 5 }
after-pad = refl

-- so the DATA of a message whose first part is for another peer has not the timestamp of that part
stands-info_ts_to_another : (d : DataBody)
    → StandsAt prefix_2 (receiver_of prefix_1)
    (InfoDst prefix_1 ∷ InfoTs (Some 5) ∷ InfoDst prefix_2 ∷ Data d ∷ []) 3 to_2 (Data d)
stands-info_ts_to_another d = (refl, refl)

stands-info_ts : (d : DataBody) → StandsAt prefix_2 (receiver_of prefix_1)
    (InfoDst prefix_2 ∷ InfoTs (Some 5) ∷ Data d ∷ []) 2 (record to_2 { timestamp = 5 }) (Data d)
stands-info_ts d = (refl, refl)

-- an index counts from 0, and one past the end is none's
stands-not_at_one : (d : DataBody) (at : Receiver)
    → StandsAt prefix_2 (receiver_of prefix_1) (InfoDst prefix_2 ∷ InfoTs (Some 5) ∷ Data d ∷ []) 1 at (Data d) → ⊥
stands-not_at_one d at h = let e = h.1 in absurd cc

stands-not_past_the_end : (d : DataBody) (at : Receiver)
    → StandsAt prefix_2 (receiver_of prefix_1) (InfoDst prefix_2 ∷ InfoTs (Some 5) ∷ Data d ∷ []) 3 at (Data d) → ⊥
stands-not_past_the_end d at h = h

-- ---- whom a submessage speaks to, and for whom

abbrev pub w1_named : {readers : List ReaderConfig} → IsWriter (network_with readers) prefix_1 w1_id w1
w1_named = record { same_prefix = refl; at_writer = refl }

-- a reader of peer 2, by its number there
abbrev pub reader_named : {readers : List ReaderConfig} (entity : EntityId) (number topic : ℕ)
    → IsNumbered readers number (reader entity topic)
    → IsReader (network_with readers) prefix_2 entity (record { peer = 2; number = number })
reader_named {readers} entity number topic at =
    named_there (peers_with readers) (record { peer = 2; number = number }) (peer_with readers) (reader entity topic)
    (omega arith, refl) at

abbrev r1_named : IsReader network prefix_2 r1_id r1
r1_named = reader_named r1_id 1 0 (omega arith, refl)

abbrev r3_named : IsReader network prefix_2 r3_id r3
r3_named = reader_named r3_id 3 0 (omega arith, refl)

-- the readerId of r1, and that of zeros, name r1
pub to_r1 : (reader_id : EntityId) (timestamp : ℕ) → Names reader_id r1_id
    → IsToReader network prefix_2 (record to_2 { timestamp = timestamp }) reader_id w1_id w1 r1
to_r1 reader_id timestamp named =
    record { from = w1_named; is_for = refl; entity = r1_id; to = r1_named; named = named; matched = refl }

-- which is a reliable reader
pub to_reliable_r1 : (reader_id : EntityId) → Names reader_id r1_id
    → IsToReliable network prefix_2 to_2 reader_id w1_id w1 r1
to_reliable_r1 reader_id named = record {
  is_to = record {
    from = w1_named;
    is_for = refl;
    entity = r1_id;
    to = r1_named;
    named = named;
    matched = refl;
  };
  reliable = refl;
}

-- that of zeros names r3 too
pub to_r3 : IsToReader network prefix_2 to_2 every_reader w1_id w1 r3
to_r3 = record { from = w1_named; is_for = refl; entity = r3_id; to = r3_named; named = inr refl; matched = refl }

pub some_is : {X : Type 0} (a b : X) → Some a ≡ Some b → a ≡ b
some_is a b h = cc

-- no submessage speaks to a reader of another topic, whatever its readerId and its part
pub not_to_r2 : (own : GuidPrefix) (at : Receiver) (reader_id writer_id : EntityId)
    → IsToReader network own at reader_id writer_id w1 r2 → ⊥
not_to_r2 own at reader_id writer_id h = let no : false ≡ true = h.matched in absurd cc

-- the readerId of r1 does not name r3
pub not_to_r3 : (own : GuidPrefix) (at : Receiver) (writer_id : EntityId)
    → IsToReader network own at r1_id writer_id w1 r3 → ⊥
not_to_r3 own at writer_id h =
    let entity : r3_id ≡ h.entity = some_is r3_id h.entity h.to.at_reader in
    ⊎_elim (λ e. let third = ap (λ (id : EntityId). slice_index id.0 2) (e ∙ sym entity) in absurd (omega arith))
    (λ e. let third = ap (λ (id : EntityId). slice_index id.0 2) e in absurd (omega arith)) h.named

-- nor does a part for another peer speak to r1
not_in_a_part_for_1 : (own : GuidPrefix) (at : Receiver) (reader_id writer_id : EntityId) → is_for at own ≡ false
    → IsToReader network own at reader_id writer_id w1 r1 → ⊥
not_in_a_part_for_1 own at reader_id writer_id not h = let is = h.is_for in absurd cc

-- ---- for whom a submessage of a reader speaks

pub from_r1 : (reader_id : EntityId) → Names reader_id r1_id → IsToWriter network prefix_1 to_1 reader_id w1_id w1 r1
from_r1 reader_id named =
    record { entity = r1_id; from = r1_named; named = named; is_for = refl; to = w1_named; matched = refl }

pub from_r3 : IsToWriter network prefix_1 to_1 every_reader w1_id w1 r3
from_r3 = record { entity = r3_id; from = r3_named; named = inr refl; is_for = refl; to = w1_named; matched = refl }
