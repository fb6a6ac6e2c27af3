-- The samples that an access picks of the first instance that it asks for. Inner functions alone cite this: nothing here
-- has to be believed.
--
-- DDS 1.4, 2.2.2.5 (read, take, and their instance, next-instance and next-sample forms: max_samples).
use Rattle.std.specs.Prelude.{◌≡◌, ℕ, ◌≤◌, ◌<◌, ◌^◌, ◌+◌, ◌++◌, ◌⊎◌, List, [], All, length, map, filter, take, Bool, true, false, ◌&&◌, ◌==◌, Option, None, Some, IfOk, IfSome, MatchOption, Result, Vec, slice_get}
use Rattle.std.specs.List.{flat_map}
use Rattle.dds_base.specs.declared.key.Key.{Key}
use Rattle.dds_base.specs.declared.happening.SamplePosition.{SamplePosition}
use Rattle.dds_base.specs.declared.happening.Happening.{Happening}
use Rattle.dds_base.specs.declared.mask.Masks.{Masks}
use Rattle.dds_base.specs.declared.qos.ReaderQos.{ReaderQos}
use Rattle.dds_base.specs.declared.selection.Selection.{Selection}
use Rattle.dds_base.specs.declared.selection.Selection.TheVariants.{Any, Instance, NextInstance, NextSample}
use Rattle.dds_base.specs.Access.{at_most, handle_of, matching_samples, next_handle}
use Rattle.dds_base.specs.Happening.{same_key}
use Rattle.dds_base.specs.Instance.{known_instances}
use Rattle.dds_base.specs.Presence.{present_of}
use Rattle.dds_instances.specs.Known.{IsKnown}
use Rattle.dds_instances.specs.declared.known.KnownInstance.{KnownInstance}
use Rattle.dds_cache.specs.declared.access.Candidate.{Candidate}
use Rattle.dds_cache.specs.declared.kept.Kept.{Kept}
use Rattle.dds_cache.specs.Chains.{AreChainsOf}
use Rattle.dds_cache.specs.declared.content.Content.{Content}
use Rattle.dds_cache.specs.Finding.{Holds, IsCandidate, IsFound, IsPlaced, IsSmall, asks_for, is_asked_for, is_wanted, sample_in, sample_of}

-- an access does not ask for instance i
abbrev pub IsPassedBy : ReaderQos → List Happening → Selection → Key → Type 0
IsPassedBy q h selection i = asks_for selection (handle_of q h i) ≡ false

-- what is known of the first of the known instances that an access asks for
pub record IsFirstAsked (q : ReaderQos) (h : List Happening) (selection : Selection) (known : KnownInstance) : Type 0
  where
    pub place : ℕ
    pub there : slice_get (known_instances q h) place ≡ Some known.key
    pub before : All (IsPassedBy q h selection) (take place (known_instances q h))
    pub asked : asks_for selection (handle_of q h known.key) ≡ true
    pub is_known : IsKnown q h known

-- what is known of the instance at a place, if there is one that an access asks for
abbrev pub TellsAsked : ReaderQos → List Happening → Selection → ℕ → Option KnownInstance → Type 0
TellsAsked q h selection place None =
    MatchOption (slice_get (known_instances q h) place) (Unit {0}) (IsPassedBy q h selection)
TellsAsked q h selection place (Some known) =
    (slice_get (known_instances q h) place ≡ Some known.key)
    × (asks_for selection (handle_of q h known.key) ≡ true) × IsKnown q h known

-- an access asks for none of the known instances before a place, and for none at all where it does not ask for the one
-- that stands there
pub record IsFirstPlace (q : ReaderQos) (h : List Happening) (selection : Selection) (place : ℕ) : Type 0 where
  pub before : All (IsPassedBy q h selection) (take place (known_instances q h))
  pub only : IfSome (slice_get (known_instances q h) place)
      (λ i. IsPassedBy q h selection i → All (IsPassedBy q h selection) (known_instances q h))

-- the two generation counts of an instance can be added
abbrev pub IsCountable : KnownInstance → Type 0
IsCountable known = known.disposed_generations + known.no_writers_generations < 2 ^ 64

-- the wanted ones of a list of kept samples that are of instance i
abbrev pub wanted_in : ReaderQos → List Happening → Masks → (Key → List ℕ → Bool) → Key → List Kept
    → List SamplePosition
wanted_in q h masks test i ks =
    filter (λ (s : SamplePosition). same_key i s.key) (map sample_of (filter (is_wanted q h masks test) ks))

-- a kept sample is of instance i, and found as a candidate
abbrev pub IsFoundOf : ReaderQos → List Happening → Masks → (Key → List ℕ → Bool) → Key → Kept → ℕ → Candidate
    → Type 0
IsFoundOf q h masks test i k at c = (same_key i k.sample.key ≡ true) × IsFound q h masks test k at c

-- whether a kept sample is a wanted one of instance i, as the candidate that it is then
abbrev pub TellsFoundOf : ReaderQos → List Happening → Masks → (Key → List ℕ → Bool) → Key → Kept → ℕ
    → Option Candidate → Type 0
TellsFoundOf q h masks test i k at found =
    MatchOption found ((same_key i k.sample.key && is_wanted q h masks test k) ≡ false)
    (IsFoundOf q h masks test i k at)

-- the candidates are the wanted ones of instance i among some of the kept samples, in their order, so many at most
pub record AreFirstOf (q : ReaderQos) (h : List Happening) (masks : Masks) (test : Key → List ℕ → Bool) (i : Key)
    (max : Option ℕ) (ks wanted : List Kept) (cs : List Candidate) : Type 0 where
  pub samples_are : map sample_in cs ≡ at_most max (wanted_in q h masks test i wanted)
  pub each : All (IsCandidate q h ks) cs

-- a candidate is of the instance of this handle
abbrev pub IsOf : ℕ → Candidate → Type 0
IsOf n c = c.picked.instance_handle ≡ n

-- so many are as many as are asked for
abbrev pub IsFull : Option ℕ → ℕ → Type 0
IsFull None n = ⊥
IsFull (Some max) n = max ≤ n

-- what was found of the first instance that an access asks for is all that it picks, but for one of the next instance: by
-- how many instances are known, and how many samples were found of that one
abbrev pub Settles : Selection → Option ℕ → ℕ → ℕ → Type 0
Settles (Any max masks) limit known found = (known ≡ 1) ⊎ IsFull limit found
Settles (Instance handle max masks) limit known found = Unit {0}
Settles (NextInstance previous max masks) limit known found = ⊥
Settles NextSample limit known found = (known ≡ 1) ⊎ IsFull limit found

-- an access asks for all instances
abbrev pub AsksForAll : Selection → Type 0
AsksForAll (Any max masks) = Unit {0}
AsksForAll (Instance handle max masks) = ⊥
AsksForAll (NextInstance previous max masks) = ⊥
AsksForAll NextSample = Unit {0}

-- an access asks for the next instance
abbrev pub AsksForNext : Selection → Type 0
AsksForNext (Any max masks) = ⊥
AsksForNext (Instance handle max masks) = ⊥
AsksForNext (NextInstance previous max masks) = Unit {0}
AsksForNext NextSample = ⊥

-- those of one instance
abbrev pub of_handle : ReaderQos → List Happening → ℕ → List SamplePosition → List SamplePosition
of_handle q h n ss = filter (λ (s : SamplePosition). handle_of q h s.key == n) ss

-- those of the matching samples that are of an instance that the access asks for
abbrev pub of_form : ReaderQos → List Happening → Selection → List SamplePosition → List SamplePosition
of_form q h (Any max masks) ss = ss
of_form q h (Instance handle max masks) ss = of_handle q h handle ss
of_form q h (NextInstance previous max masks) ss = of_handle q h (next_handle q h previous ss) ss
of_form q h NextSample ss = ss

-- the candidates are those that an access of this form picks, so many at most
pub record AreOfForm (q : ReaderQos) (h : List Happening) (selection : Selection) (masks : Masks)
    (test : Key → List ℕ → Bool) (max : Option ℕ) (ks : List Kept) (cs : List Candidate) : Type 0 where
  pub samples_are : map sample_in cs ≡ at_most max (of_form q h selection (matching_samples q h masks test))
  pub each : All (IsCandidate q h ks) cs

-- the samples of instance i that are asked for, among those that are present
abbrev pub asked_in : ReaderQos → List Happening → Masks → (Key → List ℕ → Bool) → Key → List SamplePosition
asked_in q h masks test i = filter (is_asked_for q h masks test) (present_of q h i)

-- the candidates are the matching samples, so many at most, in their order
pub record AreFirstMatching (q : ReaderQos) (h : List Happening) (masks : Masks) (test : Key → List ℕ → Bool)
    (max : Option ℕ) (ks : List Kept) (cs : List Candidate) : Type 0 where
  pub samples_are : map sample_in cs ≡ at_most max (matching_samples q h masks test)
  pub each : All (IsCandidate q h ks) cs

-- whatever follows them, the candidates begin as the matching samples of the instances before a place do, so many at most
pub record AreFirstUpTo (q : ReaderQos) (h : List Happening) (masks : Masks) (test : Key → List ℕ → Bool)
    (max : Option ℕ) (ks : List Kept) (place : ℕ) (cs : List Candidate) : Type 0 where
  pub samples_are : (rest : List SamplePosition) → at_most max (map sample_in cs ++ rest)
      ≡ at_most max (flat_map (asked_in q h masks test) (take place (known_instances q h)) ++ rest)
  pub each : All (IsCandidate q h ks) cs

-- an access does not ask for instance i, or no sample of it matches
abbrev pub IsBarren : ReaderQos → List Happening → Selection → Masks → (Key → List ℕ → Bool) → Key → Type 0
IsBarren q h selection masks test i = IsPassedBy q h selection i ⊎ (asked_in q h masks test i ≡ [])

-- the chains are those of the samples, whose counts can be added
pub record AreChained (c : Content) : Type 0 where
  pub small : All IsSmall c.samples.now
  pub chains : AreChainsOf c.samples.now c.chains.now

-- the instances and the samples are those of what happened
abbrev pub HoldsAll : Content → List Happening → Type 0
HoldsAll c h = Holds c.qos.now c.instances.now c.samples.now h

-- the candidates stand among the samples
abbrev pub AreWithin : Content → List Candidate → Type 0
AreWithin c cs = All (IsPlaced (length c.samples.now)) cs

-- what is so of the candidates, where those that are picked could be told
abbrev pub IfFound : {A E : Type 0} → Result (Option (Vec Candidate A)) E → (List Candidate → Type 0) → Type 0
IfFound result P = IfOk result (λ told. IfSome told (λ found. P found.items))
