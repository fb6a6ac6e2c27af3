-- By a GUID one end of a roster is called, if any: whom a submessage names is one, or none.
use Rattle.std.proofs.Common.{◌≡◌, ◌⊎◌, Bool, true, false, ◌||◌, refl, sym, ◌∙◌, ap, subst, inl, inr, ⊎_elim}
use Rattle.std.specs.Bool.{Decides}
use Rattle.dds_base.specs.declared.endpoint.Endpoint.{Endpoint}
use Rattle.dds_base.specs.declared.guid.EntityId.{EntityId}
use Rattle.dds_base.specs.declared.guid.GuidPrefix.{GuidPrefix}
use Rattle.dds_base.specs.Checked.{has_kind, same_entity, same_prefix, unknown_prefix}
use Rattle.dds_protocol.specs.Claims.{IsReader, IsToReader, IsWriter, Names, Receiver, every_peer, every_reader, participant_entity}
use Rattle.dds_protocol.specs.Roster.{IsRoster, Roster}
use Rattle.dds_protocol.proofs.OwnGuids.{entity-Decides, prefix-Decides}

pub one_writer : (roster : Roster) (prefix : GuidPrefix) (entity : EntityId) (a b : Endpoint)
    → IsRoster roster → IsWriter roster prefix entity a → IsWriter roster prefix entity b → a ≡ b
one_writer roster prefix entity a b fits x y =
    fits.writers.apart a b entity (x.same_prefix ∙ sym y.same_prefix) x.at_writer y.at_writer

pub one_reader : (roster : Roster) (prefix : GuidPrefix) (entity : EntityId) (a b : Endpoint)
    → IsRoster roster → IsReader roster prefix entity a → IsReader roster prefix entity b → a ≡ b
one_reader roster prefix entity a b fits x y =
    fits.readers.apart a b entity (x.same_prefix ∙ sym y.same_prefix) x.at_reader y.at_reader

-- no reader has the entity id that names all readers
pub not_every_reader : (roster : Roster) (prefix : GuidPrefix) (entity : EntityId) (a : Endpoint)
    → IsRoster roster → IsReader roster prefix entity a → entity ≡ every_reader → ⊥
not_every_reader roster prefix entity a fits x every =
    let kind : has_kind 7 entity ≡ true = fits.kinds a entity x.at_reader in
    let other : has_kind 7 entity ≡ false = ap (λ (e : EntityId). has_kind 7 e) every in
    absurd cc

-- no writer's prefix is the one that names every peer
pub not_every_peer : (roster : Roster) (prefix : GuidPrefix) (entity : EntityId) (a : Endpoint)
    → IsRoster roster → IsWriter roster prefix entity a → same_prefix prefix every_peer ≡ false
not_every_peer roster prefix entity a fits x =
    ap (λ (p : GuidPrefix). same_prefix p unknown_prefix) (sym x.same_prefix) ∙ fits.writers.known a entity x.at_writer

-- nor is any reader's
pub not_every_peer_of : (roster : Roster) (prefix : GuidPrefix) (entity : EntityId) (a : Endpoint)
    → IsRoster roster → IsReader roster prefix entity a → same_prefix prefix every_peer ≡ false
not_every_peer_of roster prefix entity a fits x =
    ap (λ (p : GuidPrefix). same_prefix p unknown_prefix) (sym x.same_prefix) ∙ fits.readers.known a entity x.at_reader

pub first_of : (a b : Bool) → (a || b) ≡ true → b ≡ false → a ≡ true
first_of true b h none = refl
first_of false b h none = cc

-- a submessage for the peer of a reader, which it names, is for that reader alone
pub one_named : (roster : Roster) (prefix : GuidPrefix) (entity writer_id : EntityId) (far : GuidPrefix) (at : Receiver)
    (w r reader : Endpoint) → IsRoster roster → at.dest_guid_prefix ≡ prefix
    → IsReader roster prefix entity reader → IsToReader roster far at entity writer_id w r → r ≡ reader
one_named roster prefix entity writer_id far at w r reader fits dest is h = by h.entity h.named h.to
  where
    unknown : same_prefix prefix every_peer ≡ false
    unknown = not_every_peer_of roster prefix entity reader fits is

    same : prefix ≡ far
    same =
        (prefix-Decides prefix far).0
        (first_of (same_prefix prefix far) (same_prefix prefix every_peer)
        (ap (λ (p : GuidPrefix). same_prefix p far || same_prefix p every_peer) (sym dest) ∙ h.is_for) unknown)

    by : (named : EntityId) → Names entity named → IsReader roster far named r → r ≡ reader
    by named (inl e) there =
        one_reader roster prefix entity r reader fits
        (subst (λ (p : GuidPrefix). IsReader roster p entity r) (sym same)
        (subst (λ (i : EntityId). IsReader roster far i r) (sym e) there)) is
    by named (inr every) there = absurd (not_every_reader roster prefix entity reader fits is every)

-- one that names a participant is for no reader
pub none_named : (roster : Roster) (writer_id : EntityId) (far : GuidPrefix) (at : Receiver) (w r : Endpoint)
    → IsRoster roster → IsToReader roster far at participant_entity writer_id w r → ⊥
none_named roster writer_id far at w r fits h = by h.entity h.named h.to
  where
    by : (named : EntityId) → Names participant_entity named → IsReader roster far named r → ⊥
    by named (inl e) there =
        let kind : has_kind 7 named ≡ true = fits.kinds r named there.at_reader in
        let other : has_kind 7 named ≡ false = ap (λ (i : EntityId). has_kind 7 i) (sym e) in
        absurd cc
    by named (inr every) there =
        let apart : has_kind 193 participant_entity ≡ has_kind 193 every_reader =
        ap (λ (i : EntityId). has_kind 193 i) every in absurd cc

-- ---- a readerId

is_or_not : (P : Type 0) (b : Bool) → Decides b P → P ⊎ (P → ⊥)
is_or_not P true d = inl (d.0 refl)
is_or_not P false d = inr (λ p. absurd (let is = d.1 p in cc))

-- it names the reader of an entity id, or not
pub names_or_not : (id entity : EntityId) → Names id entity ⊎ (Names id entity → ⊥)
names_or_not id entity =
    by (is_or_not (id ≡ entity) (same_entity id entity) (entity-Decides id entity))
    (is_or_not (id ≡ every_reader) (same_entity id every_reader) (entity-Decides id every_reader))
  where
    by : (id ≡ entity) ⊎ (id ≡ entity → ⊥) → (id ≡ every_reader) ⊎ (id ≡ every_reader → ⊥)
        → Names id entity ⊎ (Names id entity → ⊥)
    by (inl e) every = inl (inl e)
    by (inr fails) (inl e) = inl (inr e)
    by (inr fails) (inr none) = inr (λ n. ⊎_elim fails none n)
