-- When what is kept of the registrations for an instance, and of the strengths of the matched writers, stands for what
-- happened at a reader.
--
-- DDS 1.4, 2.2.3 (OWNERSHIP, OWNERSHIP_STRENGTH, LIVELINESS), 2.2.2.4 (register_instance, unregister_instance).
use Rattle.std.specs.Prelude.{◌≡◌, ◌<◌, ◌≤◌, ℕ, zero, suc, ℤ, List, length, map, take, slice_index_or, Bool, false, Option, None}
use Rattle.std.specs.List.{list_any}
use Rattle.dds_base.specs.declared.key.Key.{Key}
use Rattle.dds_base.specs.declared.happening.Happening.{Happening}
use Rattle.dds_base.specs.declared.qos.MatchedWriter.{MatchedWriter}
use Rattle.dds_base.specs.declared.qos.ReaderQos.{ReaderQos}
use Rattle.dds_base.specs.Ownership.{is_registered, joined_in, numbered_from, told_strength, writers_of}
use Rattle.dds_owner.specs.declared.ranking.KeptOwner.{KeptOwner}
use Rattle.dds_owner.specs.declared.registration.Registration.{Registration}
use Rattle.dds_owner.specs.First.{IsKeptOwner}
use Rattle.dds_owner.specs.Registration.{registration_of}
use Rattle.dds_owner.specs.Restrengthening.{MAX_CHANGES, strength_changes}

-- what is kept; callers see it through has_writers, places_of and StandsFor
pub record Kept : Type 0 where
  pub registrations : List Registration
  pub owner : Option KeptOwner

-- somebody is registered
abbrev pub has_writers : Kept → Bool
has_writers kept = list_any (λ (r : Registration). r.is_registered) kept.registrations

-- of how many matched writers it is kept whether they are registered
abbrev pub places_of : Kept → ℕ
places_of kept = length kept.registrations

-- the publication handles of so many of the matched writers, the first ones
abbrev pub first_handles : ReaderQos → List Happening → ℕ → List ℕ
first_handles q h n = numbered_from 1 (take n (writers_of q h))

-- what happened to instance i at a reader of these policies that this stands for: it is kept of the first matched writers
-- whether they are registered, and no other one is
pub record StandsFor (kept : Kept) (q : ReaderQos) (i : Key) (h : List Happening) : Type 0 where
  pub registrations_are : kept.registrations ≡ map (registration_of i h) (first_handles q h (places_of kept))
  pub others : (w : ℕ) → places_of kept < w → is_registered i w h ≡ false
  pub owner_is : IsKeptOwner kept.owner q kept.registrations h

-- owners of so many writers that stand for each instance for which nobody is registered
pub record IsBlank (writers : ℕ) (kept : Kept) : Type 0 where
  pub places : places_of kept ≡ writers
  pub nobody : has_writers kept ≡ false
  pub stands : (q : ReaderQos) (i : Key) (h : List Happening) → writers ≤ length (writers_of q h)
      → ((w : ℕ) → is_registered i w h ≡ false) → StandsFor kept q i h

-- what is kept of the strengths; callers see it through strengths_room and TellsStrengths
pub record KeptStrengths : Type 0 where
  pub told : List (Option ℤ)
  pub joined : List MatchedWriter
  pub changes : ℕ

-- of how many writers the strength can be kept
abbrev pub strengths_room : KeptStrengths → ℕ
strengths_room kept = length kept.told

-- the strength that is kept of the writer of a publication handle; none where no memory is for it
abbrev pub kept_strength : KeptStrengths → ℕ → Option ℤ
kept_strength kept zero = None
kept_strength kept (suc at) = slice_index_or kept.told at None

-- what happened at a reader that this stands for: of each writer it keeps the strength that its newest change with one
-- had (2.2.3, OWNERSHIP_STRENGTH), and of each that joined what was announced of it; how often a strength changed, it
-- counts up to a bound
pub record TellsStrengths (kept : KeptStrengths) (h : List Happening) : Type 0 where
  pub tells : (w : ℕ) → kept_strength kept w ≡ told_strength w h
  pub joined_are : kept.joined ≡ joined_in h
  pub counts : kept.changes < MAX_CHANGES → kept.changes ≡ strength_changes h
