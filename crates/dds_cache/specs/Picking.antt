-- The samples that an access picks among those that it finds, by its form. Inner functions alone cite this: nothing
-- here has to be believed.
--
-- DDS 1.4, 2.2.2.5 (read, take, and their instance, next-instance and next-sample forms).
use Rattle.std.specs.Prelude.{◌≡◌, ◌≢◌, ℕ, List, [], ◌∷◌, All, map, filter, Bool, true, false, ◌==◌, nat_lt, Option, None, Some, Result, Ok, Err, ℤ, if◌then◌else◌, length, slice_get}
use Rattle.dds_base.specs.declared.code.Code.{Code}
use Rattle.dds_base.specs.declared.code.Code.TheVariants.{BadParameter}
use Rattle.dds_base.specs.declared.happening.SamplePosition.{SamplePosition}
use Rattle.dds_base.specs.declared.key.Key.{Key}
use Rattle.dds_base.specs.declared.happening.Happening.{Happening}
use Rattle.dds_base.specs.declared.mask.Masks.{Masks}
use Rattle.dds_base.specs.declared.qos.ReaderQos.{ReaderQos}
use Rattle.dds_base.specs.declared.selection.Selection.{Selection}
use Rattle.dds_base.specs.declared.selection.Selection.TheVariants.{Any, Instance, NextInstance, NextSample}
use Rattle.dds_base.specs.Checked.{is_maximum, limit_of}
use Rattle.dds_base.specs.Selection.{picked_by, selection_refusal}
use Rattle.dds_base.specs.Access.{no_filter, not_read, with_ranks}
use Rattle.dds_base.specs.declared.sample.Sample.{Sample}
use Rattle.dds_base.specs.declared.sample.Sample.{Sample}
use Rattle.dds_instances.specs.Known.{IsReturnable}
use Rattle.dds_instances.specs.Table.{Table}
use Rattle.dds_cache.specs.declared.access.Candidate.{Candidate}
use Rattle.dds_cache.specs.declared.access_kind.AccessKind.{AccessKind}
use Rattle.dds_cache.specs.declared.access_kind.AccessKind.TheVariants.{Read, Take}
use Rattle.dds_cache.specs.declared.collection.Access.{Access}
use Rattle.dds_cache.specs.declared.kept.Kept.{Kept}
use Rattle.dds_cache.specs.declared.pick.Request.{Request}
use Rattle.dds_cache.specs.Kept.{taken}
use Rattle.dds_cache.specs.Finding.{AreApart, Holds, IsCandidate, IsPlaced, sample_in, picked_in, handle_in}

-- how many samples an access asks for at most
abbrev pub limit_in : Selection → Option ℕ
limit_in (Any max masks) = limit_of max
limit_in (Instance handle max masks) = limit_of max
limit_in (NextInstance previous max masks) = limit_of max
limit_in NextSample = Some 1

-- the masks that they have to meet
abbrev pub masks_in : Selection → Masks
masks_in (Any max masks) = masks
masks_in (Instance handle max masks) = masks
masks_in (NextInstance previous max masks) = masks
masks_in NextSample = not_read

-- the test that they have to pass: the next sample is picked without one
abbrev pub test_in : Selection → (Key → List ℕ → Bool) → Key → List ℕ → Bool
test_in (Any max masks) test = test
test_in (Instance handle max masks) test = test
test_in (NextInstance previous max masks) test = test
test_in NextSample test = no_filter

-- the candidate is of this instance
abbrev pub has_handle : ℕ → Candidate → Bool
has_handle n c = handle_in c == n

-- the first handle above n, 0 for none
abbrev pub first_above : ℕ → List Candidate → ℕ
first_above n [] = 0
first_above n (c ∷ cs) = if nat_lt n (handle_in c) then handle_in c else first_above n cs

-- those of the candidates that are of an instance that the access asks for
abbrev pub of_selection : Selection → List Candidate → List Candidate
of_selection (Any max masks) cs = cs
of_selection (Instance handle max masks) cs = filter (has_handle handle) cs
of_selection (NextInstance previous max masks) cs = filter (has_handle (first_above previous cs)) cs
of_selection NextSample cs = cs

-- the limit of a valid maximum, or BAD_PARAMETER
abbrev pub IsLimit : ℤ → Result (Option ℕ) Code → Type 0
IsLimit max (Ok limit) = (is_maximum max ≡ true) × (limit ≡ limit_of max)
IsLimit max (Err code) = (is_maximum max ≡ false) × (code ≡ BadParameter)

-- a valid maximum and the masks, or BAD_PARAMETER
abbrev pub IsRequestWith : ℤ → Masks → Result Request Code → Type 0
IsRequestWith max masks (Ok request) =
    (is_maximum max ≡ true) × (request.limit ≡ limit_of max) × (request.masks ≡ masks)
IsRequestWith max masks (Err code) = (is_maximum max ≡ false) × (code ≡ BadParameter)

-- how many samples an access asks for, and by which masks, or why it is refused
abbrev pub IsRequest : ReaderQos → List Happening → Selection → Result Request Code → Type 0
IsRequest q h selection (Ok request) =
    (selection_refusal q h selection ≡ None) × (request.limit ≡ limit_in selection)
    × (request.masks ≡ masks_in selection)
IsRequest q h selection (Err code) = selection_refusal q h selection ≡ Some code

-- an access that is not refused picks these of the kept samples
pub record Picks (q : ReaderQos) (h : List Happening) (selection : Selection) (test : Key → List ℕ → Bool)
    (ks : List Kept) (cs : List Candidate) : Type 0 where
  pub good : selection_refusal q h selection ≡ None
  pub samples_are : map sample_in cs ≡ picked_by q h selection test
  pub each : All (IsCandidate q h ks) cs

-- the value that a sample has in a collection before the access is entered: a read copies the kept one, and a take
-- gives it away when it is entered
abbrev pub value_for : AccessKind → Kept → List ℕ
value_for Read k = k.value
value_for Take k = []

-- the same of the sample at a place, if there is one
abbrev pub value_at : AccessKind → Option Kept → List ℕ
value_at kind None = []
value_at kind (Some k) = value_for kind k

-- a candidate as the sample of a collection in which these follow it
abbrev pub as_sample : AccessKind → List Kept → Candidate → List Candidate → Sample
as_sample kind ks c later = record {
  key = c.sample.key;
  value = value_at kind (slice_get ks c.at);
  info = with_ranks c.picked (map picked_in later);
}

-- the collection of candidates, as it is before the access is entered
abbrev pub collected : AccessKind → List Kept → List Candidate → List Sample
collected kind ks [] = []
collected kind ks (c ∷ cs) = as_sample kind ks c cs ∷ collected kind ks cs

-- an access returns what may be returned, and that was found among those that are kept
pub record IsFoundIn (q : ReaderQos) (h : List Happening) (ks : List Kept) (access : Access) : Type 0 where
  pub returnable : All (IsReturnable q h) access.positions.items
  pub candidates : All (IsCandidate q h ks) access.found.items

-- the instances and the samples are those of what happened, and an access found what it returns among them
pub record HoldsFound (q : ReaderQos) (table : Table) (ks : List Kept) (access : Access) (h : List Happening)
    : Type 0 where
  pub holds : Holds q table ks h
  pub found : IsFoundIn q h ks access

-- the instances and the samples are those of what happened, and those that a take returned are marked
pub record HoldsMarked (q : ReaderQos) (table : Table) (ss : List SamplePosition) (ks marked : List Kept)
    (h : List Happening) : Type 0 where
  pub holds : Holds q table ks h
  pub returnable : All (IsReturnable q h) ss
  pub marked_are : marked ≡ map (taken ss) ks

-- an access that is not refused finds its samples among those that are kept, and has their collection
pub record IsAccess (kind : AccessKind) (q : ReaderQos) (h : List Happening) (selection : Selection)
    (test : Key → List ℕ → Bool) (ks : List Kept) (access : Access) : Type 0 where
  pub good : selection_refusal q h selection ≡ None
  pub positions_are : access.positions.items ≡ picked_by q h selection test
  pub collection_is : access.samples.items ≡ collected kind ks access.found.items
  pub found : IsFoundIn q h ks access
  pub apart : AreApart access.found.items

-- what was gathered for an access that found its samples among n kept ones
pub record IsGathered (n : ℕ) (access : Access) : Type 0 where
  pub placed : All (IsPlaced n) access.found.items
  pub same : access.positions.items ≡ map sample_in access.found.items
  pub whole : length access.samples.items ≡ length access.found.items

-- an access has the values of its collection once it is entered
abbrev pub IsDelivered : AccessKind → List Kept → Access → Access → Type 0
IsDelivered kind ks old new = AreApart old.found.items → old.samples.items ≡ collected kind ks old.found.items
    → new.samples.items ≡ collected Read ks old.found.items

-- whether there are any of these
abbrev pub TellsAny : Bool → List SamplePosition → Type 0
TellsAny true ss = ss ≢ []
TellsAny false ss = ss ≡ []
