-- What stands at each entity of a peer.
--
-- DDS 1.4, 2.2.2.1 (Entity).
use Rattle.std.specs.Prelude.{ℕ, ◌-◌, ◌==◌, Bool, true, List, get_or, set, replicate, length, if◌then◌else◌}
use Rattle.dds_base.specs.declared.entity.Entity.{Entity}
use Rattle.dds_base.specs.declared.entity.Entity.TheVariants.{Participant, Writer, Reader}
use Rattle.dds_base.specs.Number.{is_number}

-- what stands at the participant, at each writer and at each reader
pub record EachEntity (X : Type 0) : Type 0 where
  pub participant : X
  pub writers : List X
  pub readers : List X

-- there is such an entity
abbrev pub has_entity : {X : Type 0} → EachEntity X → Entity → Bool
has_entity all Participant = true
has_entity all (Writer n) = is_number n (length all.writers)
has_entity all (Reader n) = is_number n (length all.readers)

-- what stands at an entity, or else this
abbrev pub entity_or : {X : Type 0} → EachEntity X → Entity → X → X
entity_or all Participant none = all.participant
entity_or all (Writer n) none = if n == 0 then none else get_or all.writers (n - 1) none
entity_or all (Reader n) none = if n == 0 then none else get_or all.readers (n - 1) none

-- another one stands at an entity which is there
abbrev pub with_entity : {X : Type 0} → EachEntity X → Entity → X → EachEntity X
with_entity all Participant x = record all { participant = x }
with_entity all (Writer n) x = record all { writers = set all.writers (n - 1) x }
with_entity all (Reader n) x = record all { readers = set all.readers (n - 1) x }

-- the same one stands at the participant, at so many writers and at so many readers
abbrev pub everywhere : {X : Type 0} → X → ℕ → ℕ → EachEntity X
everywhere x writers readers = record { participant = x; writers = replicate writers x; readers = replicate readers x }
