-- A peer that is opened knows the name of each end of its configuration.
use Rattle.std.proofs.Common.{◌≡◌, ℕ, zero, suc, ◌+◌, ◌-◌, ◌<◌, ◌≤◌, Bool, true, Some, List, [], ◌∷◌, ◌++◌, length, slice_get, refl, ap, sym, ◌∙◌, subst, arith}
use Rattle.std.specs.Prelude.{Contains}
use Rattle.std.proofs.lemmas.List.Elements.{Contains-append_left, Contains-append_right}
use Rattle.std.proofs.lemmas.Option.{same_Some}
use Rattle.dds_base.specs.declared.config.Config.{Config}
use Rattle.dds_base.specs.declared.config.PeerConfig.{PeerConfig}
use Rattle.dds_base.specs.declared.config.ReaderConfig.{ReaderConfig}
use Rattle.dds_base.specs.declared.config.WriterConfig.{WriterConfig}
use Rattle.dds_base.specs.declared.endpoint.Endpoint.{Endpoint}
use Rattle.dds_base.specs.declared.guid.EntityId.{EntityId}
use Rattle.dds_base.specs.declared.guid.Guid.{Guid}
use Rattle.dds_base.specs.declared.guid.GuidPrefix.{GuidPrefix}
use Rattle.dds_base.specs.Matched.{is_reliable_reader}
use Rattle.dds_machine.specs.Opening.{names_in, reader_names, writer_names}
use Rattle.dds_machine.specs.Part.{Name, Names}
use Rattle.dds_protocol.specs.Claims.{IsNumbered}
use Rattle.dds_protocol.specs.Roster.{Roster, roster_of}
use Rattle.dds_protocol.proofs.Listed.{StandsIn, lists_reader, lists_writer, prefix_is, reliable_is}
use Rattle.dds_core.specs.Identity.{AreAllNamed}

-- the names of all ends of these peers
abbrev pub all_named : List PeerConfig → Names
all_named peers = record { writers = writer_names 1 peers; readers = reader_names 1 peers }

-- the name of an end
abbrev called : {E : Type 0} → (E → EntityId) → (E → Bool) → GuidPrefix → ℕ → ℕ → E → Name
called entity_of reliable_of prefix peer number e = record {
  end = record { peer = peer; number = number };
  guid = record { prefix = prefix; entity = entity_of e };
  reliable = reliable_of e;
}

first_among : {X : Type 0} (x : X) (xs : List X) → Contains (x ∷ xs) x
first_among x xs = (zero, omega arith, refl)

later_among : {X : Type 0} (x y : X) (xs : List X) → Contains xs y → Contains (x ∷ xs) y
later_among x y xs h = let lt = h.1 in (suc h.0, omega (arith, lt), h.2)

module _ {E : Type 0} (entity_of : E → EntityId) (reliable_of : E → Bool) where
  -- each end of a peer is named
  named_in : (prefix : GuidPrefix) (peer number i : ℕ) (es : List E) (e : E) → slice_get es i ≡ Some e
      → Contains (names_in entity_of reliable_of prefix peer number es)
      (called entity_of reliable_of prefix peer (number + i) e)
  named_in prefix peer number i [] e at = absurd cc
  named_in prefix peer number zero (x ∷ xs) e at =
      let here : number ≡ number + zero = omega arith in
      subst (λ (n : ℕ). Contains (names_in entity_of reliable_of prefix peer number (x ∷ xs))
      (called entity_of reliable_of prefix peer n e)) here
      (subst (λ (y : E). Contains (names_in entity_of reliable_of prefix peer number (x ∷ xs))
      (called entity_of reliable_of prefix peer number y)) (same_Some x e at)
      (first_among (called entity_of reliable_of prefix peer number x)
      (names_in entity_of reliable_of prefix peer (number + 1) xs)))
  named_in prefix peer number (suc i) (x ∷ xs) e at =
      let there : number + 1 + i ≡ number + suc i = omega arith in
      later_among (called entity_of reliable_of prefix peer number x) _
      (names_in entity_of reliable_of prefix peer (number + 1) xs)
      (subst (λ (n : ℕ). Contains (names_in entity_of reliable_of prefix peer (number + 1) xs)
      (called entity_of reliable_of prefix peer n e)) there (named_in prefix peer (number + 1) i xs e at))

  -- so is each end of several peers, which are named one after the other
  module _ (ends : PeerConfig → List E) (names : ℕ → List PeerConfig → List Name)
      (step : (n : ℕ) (p : PeerConfig) (ps : List PeerConfig)
      → names n (p ∷ ps) ≡ names_in entity_of reliable_of p.prefix n 1 (ends p) ++ names (n + 1) ps) where
    named_among : (n k j : ℕ) (peers : List PeerConfig) (p : PeerConfig) (e : E) → slice_get peers k ≡ Some p
        → slice_get (ends p) j ≡ Some e
        → Contains (names n peers) (called entity_of reliable_of p.prefix (n + k) (1 + j) e)
    named_among n k j [] p e at_p at = absurd cc
    named_among n zero j (q ∷ qs) p e at_p at =
        let here : n ≡ n + zero = omega arith in
        subst (λ (ns : List Name). Contains ns (called entity_of reliable_of p.prefix (n + zero) (1 + j) e))
        (sym (step n q qs))
        (Contains-append_left (names_in entity_of reliable_of q.prefix n 1 (ends q)) (names (n + 1) qs) _
        (subst (λ (m : ℕ). Contains (names_in entity_of reliable_of q.prefix n 1 (ends q))
        (called entity_of reliable_of p.prefix m (1 + j) e)) here
        (subst (λ (r : PeerConfig). Contains (names_in entity_of reliable_of q.prefix n 1 (ends q))
        (called entity_of reliable_of r.prefix n (1 + j) e)) (same_Some q p at_p)
        (named_in q.prefix n 1 j (ends q) e
        (subst (λ (r : PeerConfig). slice_get (ends r) j ≡ Some e) (sym (same_Some q p at_p)) at)))))
    named_among n (suc k) j (q ∷ qs) p e at_p at =
        let there : n + 1 + k ≡ n + suc k = omega arith in
        subst (λ (ns : List Name). Contains ns (called entity_of reliable_of p.prefix (n + suc k) (1 + j) e))
        (sym (step n q qs))
        (Contains-append_right (names_in entity_of reliable_of q.prefix n 1 (ends q)) (names (n + 1) qs) _
        (subst (λ (m : ℕ). Contains (names (n + 1) qs) (called entity_of reliable_of p.prefix m (1 + j) e)) there
        (named_among (n + 1) k j qs p e at_p at)))

    -- by the numbers of the peer and of the end
    pub named_at : (peers : List PeerConfig) (end : Endpoint) (p : PeerConfig) (e : E) → IsNumbered peers end.peer p
        → IsNumbered (ends p) end.number e
        → Contains (names 1 peers) (called entity_of reliable_of p.prefix end.peer end.number e)
    named_at peers end p e at_p at_e =
        let low = at_p.0 in
        let low_e = at_e.0 in
        let peer_is : 1 + (end.peer - 1) ≡ end.peer = omega (arith, low) in
        let end_is : 1 + (end.number - 1) ≡ end.number = omega (arith, low_e) in
        subst (λ (n : ℕ). Contains (names 1 peers) (called entity_of reliable_of p.prefix n end.number e)) peer_is
        (subst (λ (n : ℕ). Contains (names 1 peers) (called entity_of reliable_of p.prefix (1 + (end.peer - 1)) n e))
        end_is (named_among 1 (end.peer - 1) (end.number - 1) peers p e at_p.1 at_e.1))

guid_from : (a b : Guid) → a.prefix ≡ b.prefix → a.entity ≡ b.entity → a ≡ b
guid_from a b p e =
    ap (λ (x : GuidPrefix). record { prefix = x; entity = a.entity }) p
    ∙ ap (λ (x : EntityId). record { prefix = b.prefix; entity = x }) e

pub all_are_named : (config : Config) → AreAllNamed (roster_of config) (all_named config.peers)
all_are_named config = record {
  writers = λ e entity at.
      let x = lists_writer config e entity at in
      let s = x.stands in
      record {
        name = called (λ (w : WriterConfig). w.entity) (λ w. true) s.peer.prefix e.peer e.number x.end;
        among =
            named_at (λ (w : WriterConfig). w.entity) (λ w. true) (λ p. p.writers) writer_names (λ n p ps. refl)
            config.peers e s.peer x.end s.at_peer s.at_end;
        end = refl;
        guid = guid_from _ _ (sym (prefix_is config e.peer s.peer s.at_peer)) x.same_entity;
      };
  readers = λ e entity at.
      let x = lists_reader config e entity at in
      let s = x.stands in (
        record {
          name = called (λ (r : ReaderConfig). r.entity) is_reliable_reader s.peer.prefix e.peer e.number x.end;
          among =
              named_at (λ (r : ReaderConfig). r.entity) is_reliable_reader (λ p. p.readers) reader_names
              (λ n p ps. refl) config.peers e s.peer x.end s.at_peer s.at_end;
          end = refl;
          guid = guid_from _ _ (sym (prefix_is config e.peer s.peer s.at_peer)) x.same_entity;
        },
        sym (reliable_is config e s.peer x.end s.at_peer s.at_end),
      );
}
