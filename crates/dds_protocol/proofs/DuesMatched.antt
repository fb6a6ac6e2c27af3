-- A writer and a reader of a roster have their names there; and each reader of a topic of a configuration is among those
-- that it names.
use Rattle.std.proofs.Common.{◌≡◌, ◌⊎◌, ℕ, zero, suc, ◌+◌, Bool, true, false, ◌&&◌, cond, List, [], ◌∷◌, Option, Some, None, Contains, map, slice_get, IsSome, refl, subst, ap, sym, ◌∙◌, inl, inr, ⊎_elim, arith, eq-eqb}
use Rattle.std.specs.Option.{option_map, option_map_or}
use Rattle.std.proofs.lemmas.List.Elements.{Contains-append_left, Contains-append_right}
use Rattle.std.proofs.lemmas.Option.{same_Some}
use Rattle.dds_protocol.specs.Roster.{Roster}
use Rattle.dds_base.specs.declared.config.PeerConfig.{PeerConfig}
use Rattle.dds_base.specs.declared.config.ReaderConfig.{ReaderConfig}
use Rattle.dds_base.specs.declared.guid.EntityId.{EntityId}
use Rattle.dds_base.specs.declared.guid.GuidPrefix.{GuidPrefix}
use Rattle.dds_base.specs.Matched.{same_topic, is_reliable_reader, of_reliable_readers}
use Rattle.dds_base.specs.MatchedAt.{of_readers_in}
use Rattle.dds_base.specs.declared.endpoint.Endpoint.{Endpoint}
use Rattle.dds_machine.specs.Numbered.{HasNumber}
use Rattle.dds_machine.specs.Part.{Part, ReaderProxy, same_endpoint, row_of, acknowledged_of}
use Rattle.dds_protocol.specs.Claims.{IsReader, IsWriter, every_reader, participant_entity}
use Rattle.dds_protocol.specs.DueMessages.{reader_entity, writer_entity}
use Rattle.dds_protocol.specs.Dues.{IsPartOf}
use Rattle.dds_protocol.proofs.Composed.{front_or_rest, later_in}
use Rattle.dds_protocol.proofs.InOrder.{same_self}

-- ---- rows

abbrev IsAcknowledged : List ReaderProxy → Endpoint → Type 0
IsAcknowledged rows r = (a : ℕ) × (acknowledged_of rows r ≡ Some a)

-- what a row says is acknowledged
abbrev acknowledgement : Option ReaderProxy → Option ℕ
acknowledgement o = option_map (λ (q : ReaderProxy). q.acknowledged) o

row_here : (p : ReaderProxy) (ps : List ReaderProxy) (r : Endpoint) (b : Bool) → same_endpoint p.reader r ≡ b
    → (p.reader ≡ r) ⊎ IsAcknowledged ps r
    → (a : ℕ) × (acknowledgement (cond b (Some p) (row_of (λ (q : ReaderProxy). q.reader) ps r)) ≡ Some a)
row_here p ps r true is h = (p.acknowledged, refl)
row_here p ps r false is (inl e) = let self = ap (λ (x : Endpoint). same_endpoint x r) e ∙ same_self r in absurd cc
row_here p ps r false is (inr later) = later

-- a reader that is named has a row
pub row_found : (rows : List ReaderProxy) (r : Endpoint) → Contains (map (λ (p : ReaderProxy). p.reader) rows) r
    → IsAcknowledged rows r
row_found [] r among = let lt = among.1 in absurd (omega (arith, lt))
row_found (p ∷ ps) r among =
    row_here p ps r (same_endpoint p.reader r) refl
    (⊎_elim (λ e. inl e) (λ later. inr (row_found ps r later))
    (front_or_rest p.reader (map (λ (q : ReaderProxy). q.reader) ps) r among.0 among.1 among.2))

-- ---- the readers of a topic

abbrev pub name_at : ℕ → ℕ → Endpoint
name_at peer number = record { peer = peer; number = number }

abbrev pub names_in : ℕ → ℕ → ℕ → List ReaderConfig → List Endpoint
names_in topic peer number rs = of_readers_in (λ k r. name_at peer k) topic number rs

abbrev pub names : ℕ → ℕ → List PeerConfig → List Endpoint
names topic peer ps = of_reliable_readers (λ i p k r. name_at i k) topic peer ps

named_first : (b : Bool) (e : Endpoint) (es : List Endpoint) → b ≡ true → Contains (cond b (e ∷ es) es) e
named_first true e es is = (0, omega arith, refl)
named_first false e es is = cc

named_later : (b : Bool) (e x : Endpoint) (es : List Endpoint) → Contains es x → Contains (cond b (e ∷ es) es) x
named_later true e x es h = later_in e es x h
named_later false e x es h = h

in_ends : (topic peer n : ℕ) (rs : List ReaderConfig) (k : ℕ) (r : ReaderConfig) → slice_get rs k ≡ Some r
    → r.topic ≡ topic → is_reliable_reader r ≡ true → Contains (names_in topic peer n rs) (name_at peer (n + k))
in_ends topic peer n [] k r at of reliable = cc
in_ends topic peer n (x ∷ xs) zero r at of reliable =
    let here : n ≡ n + 0 = omega arith in
    let one : x ≡ r = same_Some x r at in
    let wanted : (is_reliable_reader x && same_topic x.topic topic) ≡ true =
    ap (λ (b : Bool). b && same_topic x.topic topic) (ap (λ (y : ReaderConfig). is_reliable_reader y) one ∙ reliable)
    ∙ eq-eqb x.topic topic (ap (λ (y : ReaderConfig). y.topic) one ∙ of) in
    subst (λ (m : ℕ). Contains (names_in topic peer n (x ∷ xs)) (name_at peer m)) here
    (named_first (is_reliable_reader x && same_topic x.topic topic) (name_at peer n)
    (names_in topic peer (n + 1) xs) wanted)
in_ends topic peer n (x ∷ xs) (suc k) r at of reliable =
    let over : n + 1 + k ≡ n + suc k = omega arith in
    subst (λ (m : ℕ). Contains (names_in topic peer n (x ∷ xs)) (name_at peer m)) over
    (named_later (is_reliable_reader x && same_topic x.topic topic) (name_at peer n) (name_at peer (n + 1 + k))
    (names_in topic peer (n + 1) xs) (in_ends topic peer (n + 1) xs k r at of reliable))

pub in_peers : (topic n : ℕ) (ps : List PeerConfig) (i : ℕ) (p : PeerConfig) (k : ℕ) (r : ReaderConfig)
    → slice_get ps i ≡ Some p → slice_get p.readers k ≡ Some r → r.topic ≡ topic → is_reliable_reader r ≡ true
    → Contains (names topic n ps) (name_at (n + i) (1 + k))
in_peers topic n [] i p k r at within of reliable = cc
in_peers topic n (x ∷ xs) zero p k r at within of reliable =
    let here : n ≡ n + 0 = omega arith in
    let found : slice_get x.readers k ≡ Some r =
    subst (λ (q : PeerConfig). slice_get q.readers k ≡ Some r) (sym (same_Some x p at)) within in
    Contains-append_left (names_in topic n 1 x.readers) (names topic (n + 1) xs) (name_at (n + 0) (1 + k))
    (subst (λ (m : ℕ). Contains (names_in topic n 1 x.readers) (name_at m (1 + k))) here
    (in_ends topic n 1 x.readers k r found of reliable))
in_peers topic n (x ∷ xs) (suc i) p k r at within of reliable =
    let over : n + 1 + i ≡ n + suc i = omega arith in
    Contains-append_right (names_in topic n 1 x.readers) (names topic (n + 1) xs) (name_at (n + suc i) (1 + k))
    (subst (λ (m : ℕ). Contains (names topic (n + 1) xs) (name_at m (1 + k))) over
    (in_peers topic (n + 1) xs i p k r at within of reliable))

-- ---- by the roster

-- a writer of the peer, as the roster has it
pub record OwnName (roster : Roster) (peer : ℕ) (part : Part) (number : ℕ) : Type 0 where
  pub name : IsWriter roster (roster.prefix peer) (writer_entity roster peer number) (name_at peer number)

entity_some : (found : Option EntityId) (other : EntityId) → IsSome found
    → found ≡ Some (option_map_or (λ entity. entity) found other)
entity_some None other there = cc
entity_some (Some entity) other there = refl

pub own_name : (roster : Roster) (peer : ℕ) (part : Part) → IsPartOf roster peer part → (number : ℕ)
    → HasNumber part.rtps.writers number → OwnName roster peer part number
own_name roster peer part of number there = record {
  name = record {
    same_prefix = refl;
    at_writer = entity_some (roster.writers (name_at peer number)) every_reader (of number there);
  };
}

-- the entity id of a reader that the roster has
pub reader_entity_is : (roster : Roster) (prefix : GuidPrefix) (entity : EntityId) (r : Endpoint)
    → IsReader roster prefix entity r → reader_entity roster r.peer r.number ≡ entity
reader_entity_is roster prefix entity r is =
    ap (λ (o : Option EntityId). option_map_or (λ e. e) o participant_entity) is.at_reader

-- the roster has the reader, with that entity id, or this is no reader's
pub reader_named : (roster : Roster) (r : Endpoint)
    → IsReader roster (roster.prefix r.peer) (reader_entity roster r.peer r.number) r
    ⊎ (reader_entity roster r.peer r.number ≡ participant_entity)
reader_named roster r = by (roster.readers r) refl
  where
    by : (found : Option EntityId) → roster.readers r ≡ found
        → IsReader roster (roster.prefix r.peer) (reader_entity roster r.peer r.number) r
        ⊎ (reader_entity roster r.peer r.number ≡ participant_entity)
    by None is = inr (ap (λ (o : Option EntityId). option_map_or (λ e. e) o participant_entity) is)
    by (Some entity) is = inl (record {
      same_prefix = refl;
      at_reader = is ∙ ap (λ (e : EntityId). Some e)
          (sym (ap (λ (o : Option EntityId). option_map_or (λ e. e) o participant_entity) is));
    })
