-- The listeners of a peer's entities: of which statuses each is told, and what it was told.
--
-- DDS 1.4, 2.2.2.1 (Entity, set_listener), 2.2.4.3 (listeners: the one of the entity, or else of what contains it).
use Rattle.std.specs.Prelude.{◌≡◌, ℕ, Bool, true, false, ◌||◌, not, List, [], ◌∷◌, ◌++◌, length, Option, None, Some, is_some, if◌then◌else◌}
use Rattle.std.specs.List.{FoldsTo, list_any}
use Rattle.dds_base.specs.declared.code.Code.{Code}
use Rattle.dds_base.specs.declared.code.Code.TheVariants.{BadParameter, PreconditionNotMet}
use Rattle.dds_base.specs.declared.entity.Entity.{Entity}
use Rattle.dds_base.specs.declared.entity.Entity.TheVariants.{Participant}
use Rattle.dds_base.specs.EachEntity.{EachEntity, entity_or, everywhere}
pub use Rattle.dds_base.specs.EachEntity.{has_entity, with_entity}
use Rattle.dds_notices.specs.declared.mask.StatusMask.{StatusMask}
use Rattle.dds_notices.specs.declared.notice.Notice.{Notice}
use Rattle.dds_notices.specs.declared.notice.Status.{Status}
use Rattle.dds_notices.specs.Masks.{names}
use Rattle.dds_notices.specs.Notices.{keep_last}

-- ---- by entity

-- what stands at the participant, at each writer and at each reader, if anything
abbrev pub ByEntity : Type 0 → Type 0
ByEntity X = EachEntity (Option X)

-- what stands at an entity, if anything does
abbrev pub at_entity : {X : Type 0} → ByEntity X → Entity → Option X
at_entity all entity = entity_or all entity None

-- nothing stands at so many writers and so many readers
abbrev pub nobody : {X : Type 0} → ℕ → ℕ → ByEntity X
nobody writers readers = everywhere None writers readers

-- something stands somewhere
abbrev pub is_any : {X : Type 0} → ByEntity X → Bool
is_any all = is_some all.participant || (list_any is_some all.writers || list_any is_some all.readers)

-- ---- what listeners are told

-- a listener's place: the statuses that it is told of, how many notices it can keep, and all that it was told, the
-- oldest first
pub record Place : Type 0 where
  pub mask : StatusMask
  pub room : ℕ
  pub sent : List Notice

-- the places of a peer's listeners
abbrev pub Places : Type 0
Places = ByEntity Place

-- a listener is told of the status
abbrev pub takes : Option Place → Status → Bool
takes None status = false
takes (Some place) status = names place.mask status

-- Whose listener is told of an entity's status: that of the entity if it takes the status, else that of the
-- participant, if that does (2.2.4.3).
abbrev pub taker_of : Places → Entity → Status → Option Entity
taker_of places entity status =
    if takes (at_entity places entity) status then Some entity
    else (if takes places.participant status then Some Participant else None)

-- a place whose listener was told of one more
abbrev pub with_notice : Option Place → Notice → Option Place
with_notice None notice = None
with_notice (Some place) notice = Some (record place { sent = place.sent ++ notice ∷ [] })

-- the places once this one's listener, if there is one, was told
abbrev pub told_at : Places → Option Entity → Notice → Places
told_at places None notice = places
told_at places (Some entity) notice = with_entity places entity (with_notice (at_entity places entity) notice)

-- the places after a notice: one listener was told, or nobody takes it
abbrev pub after_notice : Places → Notice → Places
after_notice places notice = told_at places (taker_of places notice.entity notice.status) notice

-- of which statuses a listener that may be there is told, and its room
abbrev pub shown : Option Place → Option (StatusMask × ℕ)
shown None = None
shown (Some place) = Some (place.mask, place.room)

-- the notices that a listener that may be there keeps
abbrev pub kept_in : Option Place → List Notice
kept_in None = []
kept_in (Some place) = keep_last place.room place.sent

-- why what stands at an entity is not told: there is no such entity
abbrev pub unknown_entity : {X : Type 0} → ByEntity X → Entity → Option Code
unknown_entity all entity = if has_entity all entity then None else Some BadParameter

-- ---- listeners that are set

-- a listener, with the statuses that it is told of
pub record Slot (L : Type 0) : Type 0 where
  pub mask : StatusMask
  pub listener : L

-- the listeners of a peer
abbrev pub Slotted : Type 0 → Type 0
Slotted L = ByEntity (Slot L)

-- there are no notices
abbrev pub is_empty : List Notice → Bool
is_empty [] = true
is_empty (n ∷ ns) = false

-- a listener that may be there keeps no notices
abbrev pub is_fresh : {L : Type 0} → (L → List Notice) → Option L → Bool
is_fresh notices None = true
is_fresh notices (Some listener) = is_empty (notices listener)

-- why a listener is not set: no such entity, or it keeps notices already (set_listener)
abbrev pub listener_refusal : {L X : Type 0} → (L → List Notice) → ByEntity X → Entity → Option L → Option Code
listener_refusal notices all entity listener =
    if not (has_entity all entity) then Some BadParameter
    else (if is_fresh notices listener then None else Some PreconditionNotMet)

-- the listener that is set, with its statuses; none where it is taken away
abbrev pub slot_of : {L : Type 0} → StatusMask → Option L → Option (Slot L)
slot_of mask None = None
slot_of mask (Some listener) = Some (record { mask = mask; listener = listener })

-- its place: nothing was told yet
abbrev pub listener_place : {L : Type 0} → (L → ℕ) → StatusMask → Option L → Option Place
listener_place capacity mask None = None
listener_place capacity mask (Some listener) = Some (record { mask = mask; room = capacity listener; sent = [] })

-- A listener has the room of its place, and keeps the last ones of all that it was told; and it is what the one that was
-- given became by being told all of it, one after another.
pub record Keeps {L : Type 0} (notices : L → List Notice) (capacity : L → ℕ) (becomes : L → Notice → L → Type 0)
    (given listener : L) (place : Place) : Type 0 where
  pub room : capacity listener ≡ place.room
  pub kept : notices listener ≡ keep_last place.room place.sent
  pub told : FoldsTo becomes given place.sent listener

-- a listener that may be there, and the one that was given, stand for the place that may be there
abbrev pub StandsAt : {L : Type 0} → (L → List Notice) → (L → ℕ) → (L → Notice → L → Type 0)
    → Option L → Option (Slot L) → Option Place → Type 0
StandsAt notices capacity becomes None None None = Unit {0}
StandsAt notices capacity becomes (Some given) (Some slot) (Some place) =
    (slot.mask ≡ place.mask) × Keeps notices capacity becomes given slot.listener place
StandsAt notices capacity becomes _ _ _ = ⊥

-- the listeners of a peer, and those that were given, stand for these places
pub record StandsFor {L : Type 0} (notices : L → List Notice) (capacity : L → ℕ) (becomes : L → Notice → L → Type 0)
    (given : ByEntity L) (kept : Slotted L) (places : Places) : Type 0 where
  pub writers : length places.writers ≡ length kept.writers
  pub readers : length places.readers ≡ length kept.readers
  pub given_writers : length given.writers ≡ length kept.writers
  pub given_readers : length given.readers ≡ length kept.readers
  pub each : (entity : Entity)
      → StandsAt notices capacity becomes (at_entity given entity) (at_entity kept entity) (at_entity places entity)

-- The one that is handed back is the one of this place: it keeps the last ones of all that it was told, and is what the
-- one that was given became by being told.
abbrev pub HandedBack : {L : Type 0} → (L → List Notice) → (L → ℕ) → (L → Notice → L → Type 0)
    → Option L → Option L → Option Place → Type 0
HandedBack notices capacity becomes None None None = Unit {0}
HandedBack notices capacity becomes (Some given) (Some listener) (Some place) =
    Keeps notices capacity becomes given listener place
HandedBack notices capacity becomes _ _ _ = ⊥

-- a listener was set at an entity, or taken away there; for each of the places that they stand for, that of before is
-- handed back, and the new one is the one that was given there
pub record Sets {L : Type 0} (notices : L → List Notice) (capacity : L → ℕ) (becomes : L → Notice → L → Type 0)
    (old : Slotted L) (entity : Entity) (mask : StatusMask)
    (listener handed : Option L) (new : Slotted L) : Type 0 where
  pub accepted : listener_refusal notices old entity listener ≡ None
  pub set : new ≡ with_entity old entity (slot_of mask listener)
  pub back : (given : ByEntity L) (places : Places) → StandsFor notices capacity becomes given old places
      → HandedBack notices capacity becomes (at_entity given entity) handed (at_entity places entity)
      × StandsFor notices capacity becomes (with_entity given entity listener) new
      (with_entity places entity (listener_place capacity mask listener))
