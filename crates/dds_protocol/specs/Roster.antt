-- The roster of a network: who is called how, and who is matched with whom. What packets claim goes by it. A network has
-- that of its peers, those of its opening first, and behind them whoever comes: so each of them is good by itself, and
-- they are told apart, however many there are, and whether they fit each other or not.
--
-- RTPS 2.5, 8.2 (GUIDs of participants and endpoints), 8.2.9 (matching), 9.3 (GUIDPREFIX_UNKNOWN).
use Rattle.std.specs.Prelude.{◌≡◌, ◌||◌, ◌==◌, ℕ, zero, suc, Bool, true, false, List, ◌++◌, Option, None, Some, slice_get, nat_lt}
use Rattle.std.specs.List.{list_any}
use Rattle.std.specs.Option.{option_map, option_map_or}
use Rattle.dds_base.specs.declared.config.Config.{Config}
use Rattle.dds_base.specs.declared.config.PeerConfig.{PeerConfig}
use Rattle.dds_base.specs.declared.config.ReaderConfig.{ReaderConfig}
use Rattle.dds_base.specs.declared.config.WriterConfig.{WriterConfig}
use Rattle.dds_base.specs.declared.endpoint.Endpoint.{Endpoint}
use Rattle.dds_base.specs.declared.guid.EntityId.{EntityId}
use Rattle.dds_base.specs.declared.guid.GuidPrefix.{GuidPrefix}
use Rattle.dds_base.specs.Checked.{check_refusal, has_kind, is_bad_peer, prefix_count, same_prefix, unknown_prefix}
use Rattle.dds_base.specs.Matched.{is_reliable_reader}

-- the prefix of each participant, by its number; the entity id of each writer and of each reader that there is; which
-- readers are reliable; and which writers and readers are matched, each at its side, once it is told
pub record Roster : Type 0 where
  pub prefix : ℕ → GuidPrefix
  pub writers : Endpoint → Option EntityId
  pub readers : Endpoint → Option EntityId
  pub is_reliable : Endpoint → Bool
  pub are_matched : (writer reader : Endpoint) → Bool

-- no two of these ends have the same GUID, and none has a prefix that is no peer's
pub record AreNamed (prefix : ℕ → GuidPrefix) (ends : Endpoint → Option EntityId) : Type 0 where
  pub apart : (a b : Endpoint) (entity : EntityId) → prefix a.peer ≡ prefix b.peer → ends a ≡ Some entity
      → ends b ≡ Some entity → a ≡ b
  pub known : (a : Endpoint) (entity : EntityId) → ends a ≡ Some entity
      → same_prefix (prefix a.peer) unknown_prefix ≡ false

-- so it is of its writers and of its readers, and a reader's entity id is of the kind of readers (RTPS 2.5, 9.3.1.2)
pub record IsRoster (roster : Roster) : Type 0 where
  pub writers : AreNamed roster.prefix roster.writers
  pub readers : AreNamed roster.prefix roster.readers
  pub kinds : (a : Endpoint) (entity : EntityId) → roster.readers a ≡ Some entity → has_kind 7 entity ≡ true

-- ---- of a list of peers

-- the element of this number, counted from 1, if there is one
abbrev pub at_number : {X : Type 0} → List X → ℕ → Option X
at_number xs zero = None
at_number xs (suc n) = slice_get xs n

-- what the peer of an end has under its number
abbrev pub end_at : {X : Type 0} → (PeerConfig → List X) → List PeerConfig → Endpoint → Option X
end_at ends peers e = option_map_or (λ (p : PeerConfig). at_number (ends p) e.number) (at_number peers e.peer) None

-- both are there, and are of one topic
abbrev pub are_of_one_topic : Option WriterConfig → Option ReaderConfig → Bool
are_of_one_topic (Some w) (Some r) = w.topic == r.topic
are_of_one_topic w r = false

-- the roster of these peers: the writers and the readers of one topic are matched
abbrev pub roster_of : Config → Roster
roster_of config = record {
  prefix = λ number. option_map_or (λ (p : PeerConfig). p.prefix) (at_number config.peers number) unknown_prefix;
  writers = λ e. option_map (λ (w : WriterConfig). w.entity) (end_at (λ p. p.writers) config.peers e);
  readers = λ e. option_map (λ (r : ReaderConfig). r.entity) (end_at (λ p. p.readers) config.peers e);
  is_reliable = λ e. option_map_or is_reliable_reader (end_at (λ p. p.readers) config.peers e) false;
  are_matched = λ w r.
      are_of_one_topic (end_at (λ p. p.writers) config.peers w) (end_at (λ p. p.readers) config.peers r);
}

-- a peer whose prefix is no peer's, or that of two of these peers
abbrev pub has_bad_prefix : List PeerConfig → PeerConfig → Bool
has_bad_prefix peers p = same_prefix p.prefix unknown_prefix || nat_lt 1 (prefix_count peers p.prefix)

-- each of these peers is good by itself, and has a prefix that is a peer's, and no other's
pub record AreGood (peers : List PeerConfig) : Type 0 where
  pub prefixes : list_any (has_bad_prefix peers) peers ≡ false
  pub each : list_any is_bad_peer peers ≡ false

-- so are those of a configuration that is not refused
abbrev pub ConfigsAreGood : Type 0
ConfigsAreGood = (config : Config) → check_refusal config.peers ≡ None → AreGood config.peers

-- and by those that are so, there is a roster
abbrev pub GoodAreRosters : Type 0
GoodAreRosters = (config : Config) → AreGood config.peers → IsRoster (roster_of config)

-- the peers of the configuration come first in the roster
abbrev pub ComeFirst : Config → Config → Type 0
ComeFirst config roster = (later : List PeerConfig) × (roster.peers ≡ config.peers ++ later)
