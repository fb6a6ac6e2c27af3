-- A take of the only sample that is kept. Inner functions alone cite this: nothing here has to be believed.
--
-- DDS 1.4, 2.2.2.5 (take).
use Rattle.std.specs.Prelude.{◌≡◌, ℕ, List, [], ◌∷◌, None, Bool, true, false, slice_index_or, Ok}
use Rattle.dds_base.specs.declared.happening.SamplePosition.{SamplePosition}
use Rattle.dds_base.specs.declared.happening.Happening.{Happening}
use Rattle.dds_base.specs.declared.key.Key.{Key}
use Rattle.dds_base.specs.declared.mask.Masks.{Masks}
use Rattle.dds_base.specs.declared.qos.ReaderQos.{ReaderQos}
use Rattle.dds_base.specs.declared.sample.Sample.{Sample}
use Rattle.dds_base.specs.declared.selection.Selection.{Selection}
use Rattle.dds_base.specs.declared.selection.Selection.TheVariants.{Any, Instance, NextInstance, NextSample}
use Rattle.dds_base.specs.Access.{state_of_known}
use Rattle.dds_base.specs.Checked.{is_maximum}
use Rattle.dds_base.specs.Instance.{instance_state_of}
use Rattle.dds_instances.specs.Table.{Table, is_any_left}
use Rattle.dds_cache.specs.declared.access.Candidate.{Candidate}
use Rattle.dds_cache.specs.declared.access_kind.AccessKind.{AccessKind}
use Rattle.dds_cache.specs.declared.access_kind.AccessKind.TheVariants.{Read, Take}
use Rattle.dds_cache.specs.declared.kept.Kept.{Kept}
use Rattle.dds_cache.specs.Finding.{Finds, Holds}
use Rattle.dds_cache.specs.Standing.{AccessAnswers, AfterAccess, Stored}

-- the samples of every instance are asked for by these masks, by a maximum that is valid
abbrev pub AsksForAllBy : Masks → Selection → Type 0
AsksForAllBy asked (Any max masks) = (is_maximum max ≡ true) × (asked ≡ masks)
AsksForAllBy asked (Instance handle max masks) = ⊥
AsksForAllBy asked (NextInstance previous max masks) = ⊥
AsksForAllBy asked NextSample = ⊥

-- an access is a take of all by these masks
abbrev pub IsTakeOfAll : AccessKind → Selection → Masks → Type 0
IsTakeOfAll Take selection asked = AsksForAllBy asked selection
IsTakeOfAll Read selection asked = ⊥

-- a candidate is all that is found among the kept samples, and a take of it ends no life
pub record IsOnly (q : ReaderQos) (h : List Happening) (masks : Masks) (test : Key → List ℕ → Bool) (ks : List Kept)
    (c : Candidate) : Type 0 where
  pub finds : Finds q h masks test ks (c ∷ [])
  pub registered : is_any_left q h (c.sample ∷ []) ≡ false

-- the instance of a candidate has a state, which is the one that is said of it
pub record HasState (q : ReaderQos) (h : List Happening) (c : Candidate) : Type 0 where
  pub known : instance_state_of q c.sample.key h ≡ None → ⊥
  pub state_is : c.picked.instance_state ≡ state_of_known (instance_state_of q c.sample.key h)

-- the instances and the samples are those of what happened, this sample stands first, and a take of it ends no life
pub record HoldsOnly (q : ReaderQos) (table : Table) (s : SamplePosition) (ks : List Kept) (h : List Happening)
    : Type 0 where
  pub holds : Holds q table ks h
  pub first : (d : Kept) → (slice_index_or ks 0 d).sample ≡ s
  pub registered : is_any_left q h (s ∷ []) ≡ false

-- an access that returned these samples is answered so, and entered
pub record Returns (kind : AccessKind) (old : Stored) (h : List Happening) (selection : Selection)
    (test : Key → List ℕ → Bool) (samples : List Sample) (new : Stored) : Type 0 where
  pub answer : AccessAnswers old h selection test (Ok samples)
  pub after : AfterAccess kind old h selection test (Ok samples) new
