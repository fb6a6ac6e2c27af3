-- The peers of a configuration that is not refused are good, and by good peers there is a roster: a GUID is that of one
-- end.
use Rattle.std.proofs.Common.{◌≡◌, ℕ, ◌-◌, Bool, true, false, Some, None, length, refl, sym, ◌∙◌, ap}
use Rattle.std.specs.Prelude.{if◌then◌else◌, ◌||◌, ◌==◌, nat_lt}
use Rattle.std.specs.List.{list_any}
use Rattle.std.proofs.lemmas.Bool.{or_parts}
use Rattle.dds_base.specs.declared.code.Code.{Code}
use Rattle.dds_base.specs.declared.code.Code.TheVariants.{BadParameter, InconsistentPolicy}
use Rattle.dds_base.specs.declared.config.Config.{Config}
use Rattle.dds_base.specs.declared.config.PeerConfig.{PeerConfig}
use Rattle.dds_base.specs.declared.config.ReaderConfig.{ReaderConfig}
use Rattle.dds_base.specs.declared.config.WriterConfig.{WriterConfig}
use Rattle.dds_base.specs.declared.guid.EntityId.{EntityId}
use Rattle.dds_base.specs.declared.guid.GuidPrefix.{GuidPrefix}
use Rattle.dds_base.specs.Checked.{has_bad_parameter, has_inconsistent_policy, has_kind, is_bad_peer, same_prefix, unknown_prefix}
use Rattle.dds_protocol.specs.Claims.{IsNumbered}
use Rattle.dds_protocol.specs.Roster.{AreNamed, ConfigsAreGood, GoodAreRosters, has_bad_prefix, roster_of}
use Rattle.dds_protocol.proofs.Listed.{lists_reader, lists_writer, prefix_is}
use Rattle.dds_protocol.proofs.OwnGuids.{IsChecked, checked, entity_once, one_end, reader_once}

not_bad : (bad inconsistent : Bool) (cause other : Code)
    → (if bad then Some cause else (if inconsistent then Some other else None)) ≡ None → bad ≡ false
not_bad true inconsistent cause other h = absurd cc
not_bad false inconsistent cause other h = refl

pub configs_are_good : ConfigsAreGood
configs_are_good config fits =
    let peers = config.peers in
    let good = not_bad (has_bad_parameter peers) (has_inconsistent_policy peers) BadParameter InconsistentPolicy fits in
    let parts =
    or_parts (list_any (has_bad_prefix peers) peers) (list_any is_bad_peer peers)
    (or_parts ((length peers == 0) || nat_lt 16 (length peers)) _ good).1 in
    record { prefixes = parts.0; each = parts.1 }

-- the prefix of a peer is known
known_prefix : (config : Config) → IsChecked config.peers → (n : ℕ) (p : PeerConfig) → IsNumbered config.peers n p
    → same_prefix ((roster_of config).prefix n) unknown_prefix ≡ false
known_prefix config good n p h =
    ap (λ (prefix : GuidPrefix). same_prefix prefix unknown_prefix) (prefix_is config n p h) ∙ good.known (n - 1) p h.1

-- two peers have one prefix, each its own
same_prefixes : (config : Config) (a b : ℕ) (p q : PeerConfig) → IsNumbered config.peers a p
    → IsNumbered config.peers b q → (roster_of config).prefix a ≡ (roster_of config).prefix b → q.prefix ≡ p.prefix
same_prefixes config a b p q at_a at_b same = sym (prefix_is config b q at_b) ∙ (sym same ∙ prefix_is config a p at_a)

writers_named : (config : Config) → IsChecked config.peers
    → AreNamed (roster_of config).prefix (roster_of config).writers
writers_named config good = record {
  apart = λ a b entity same at_a at_b.
      let x = lists_writer config a entity at_a in
      let y = lists_writer config b entity at_b in
      one_end (λ (w : WriterConfig). w.entity) (λ p. p.writers) config.peers good x.stands.peer.prefix entity a b
      x.stands.peer y.stands.peer x.end y.end (λ i p at. entity_once config.peers good i p at entity)
      x.stands.at_peer y.stands.at_peer refl
      (same_prefixes config a.peer b.peer x.stands.peer y.stands.peer x.stands.at_peer y.stands.at_peer same)
      x.stands.at_end y.stands.at_end x.same_entity y.same_entity;
  known = λ a entity at_a.
      let x = lists_writer config a entity at_a in
      known_prefix config good a.peer x.stands.peer x.stands.at_peer;
}

readers_named : (config : Config) → IsChecked config.peers
    → AreNamed (roster_of config).prefix (roster_of config).readers
readers_named config good = record {
  apart = λ a b entity same at_a at_b.
      let x = lists_reader config a entity at_a in
      let y = lists_reader config b entity at_b in
      one_end (λ (r : ReaderConfig). r.entity) (λ p. p.readers) config.peers good x.stands.peer.prefix entity a b
      x.stands.peer y.stands.peer x.end y.end (λ i p at. reader_once config.peers good i p at entity)
      x.stands.at_peer y.stands.at_peer refl
      (same_prefixes config a.peer b.peer x.stands.peer y.stands.peer x.stands.at_peer y.stands.at_peer same)
      x.stands.at_end y.stands.at_end x.same_entity y.same_entity;
  known = λ a entity at_a.
      let x = lists_reader config a entity at_a in
      known_prefix config good a.peer x.stands.peer x.stands.at_peer;
}

pub good_are_rosters : GoodAreRosters
good_are_rosters config fits =
    let good = checked config.peers fits in
    record {
      writers = writers_named config good;
      readers = readers_named config good;
      kinds = λ a entity at.
          let x = lists_reader config a entity at in
          ap (λ (e : EntityId). has_kind 7 e) (sym x.same_entity)
          ∙ good.kinds (a.peer - 1) x.stands.peer x.stands.at_peer.1 (a.number - 1) x.end x.stands.at_end.1;
    }
