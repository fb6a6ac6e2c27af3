-- What contracts see of a reader's cache: what happened as it stands for it, how room is made and an entry taken up,
-- and what an access answers and leaves. Nobody looks into `StandsFor`: what it has to say is in the clauses of each
-- call.
--
-- DDS 1.4, 2.2.2.5 (read, take), 2.2.3 (HISTORY, RESOURCE_LIMITS); RTPS 2.5, 8.2 (HistoryCache of a reader).
use Rattle.std.specs.Prelude.{Bool, ◌≡◌, ◌≢◌, ℕ, ◌<◌, ◌≤◌, ◌+◌, ◌-◌, ◌^◌, ◌⊎◌, min, List, [], ◌∷◌, length, filter, All, false, Option, None, Result, Ok, Err, IsOk, OnOk, OnErr, IfErr}
use Rattle.dds_base.specs.declared.code.Code.{Code}
use Rattle.dds_base.specs.declared.code.Code.TheVariants.{Memory, NoData}
use Rattle.dds_base.specs.declared.happening.SamplePosition.{SamplePosition}
use Rattle.dds_base.specs.declared.happening.Happening.{Happening}
use Rattle.dds_base.specs.declared.happening.Happening.TheVariants.{Read as HasRead, Took}
use Rattle.dds_base.specs.declared.sample.Sample.{Sample}
use Rattle.dds_base.specs.declared.qos.ReaderQos.{ReaderQos}
use Rattle.dds_base.specs.declared.selection.Selection.{Selection}
use Rattle.dds_base.specs.declared.key.Key.{Key}
use Rattle.dds_base.specs.Happening.{is_read, is_taken, arrivals}
use Rattle.dds_base.specs.Presence.{is_present}
use Rattle.dds_base.specs.Life.{up_to}
use Rattle.dds_base.specs.Access.{collection_of}
use Rattle.std.specs.List.Sorted.{IsNonDecreasingBy}
use Rattle.dds_base.specs.Refusal.{Refuses}
use Rattle.dds_base.specs.Selection.{picked_by, selection_refusal}
use Rattle.dds_base.specs.StatusFlags.{data_available_at}
use Rattle.dds_cache.specs.declared.access_kind.AccessKind.{AccessKind}
use Rattle.dds_cache.specs.declared.access_kind.AccessKind.TheVariants.{Read, Take}
use Rattle.dds_cache.specs.declared.kept.Kept.{Kept}
use Rattle.dds_cache.specs.Kept.{IsKept, IsUpToDate, position_of, positions_in, sample_at}
use Rattle.dds_instances.specs.Table.{Table, Stands, happened_of}

-- what is kept: the instances, the samples in the order in which they came, how many changes came, for how many more
-- entries it has memory, and where the newest entry stands that brought a sample
pub record Stored : Type 0 where
  pub qos : ReaderQos
  pub instances : Table
  pub samples : List Kept
  pub arrivals : ℕ
  pub room : ℕ
  pub data_at : Option ℕ

-- the policies and the matched writers that it was opened with
abbrev pub qos_of : Stored → ReaderQos
qos_of stored = stored.qos

-- how many more entries find memory
abbrev pub room_of : Stored → ℕ
room_of stored = stored.room

-- how many more deaths can be counted: as many as entries, which are 2^64 - 1 at most
abbrev pub deaths_of : Stored → ℕ
deaths_of stored = 2 ^ 64 - 1 - happened_of stored.instances

-- what is kept stands for what happened: so do its instances; each kept sample is what it was; the present samples of
-- each instance are kept in their order; no access returned what had not happened; the changes are counted, up to a
-- bound; it is known since when there is data that no access was asked for; the samples stand in the order in which they
-- came; and each that has data and is not gone is present
pub record StandsFor (stored : Stored) (h : List Happening) : Type 0 where
  pub instances : Stands stored.qos stored.instances h
  pub each : All (IsKept stored.qos h) stored.samples
  pub present : (i : Key) → filter (is_present stored.qos h i)
      (up_to (length h)) ≡ positions_in stored.qos h i stored.samples
  pub unread : (i : Key) (j : ℕ) → length h < j → is_read (sample_at i j) h ≡ false
  pub untaken : (i : Key) (j : ℕ) → length h < j → is_taken (sample_at i j) h ≡ false
  pub arrivals_are : stored.arrivals ≡ min (arrivals h) (2 ^ 64 - 1)
  pub data_is : stored.data_at ≡ data_available_at stored.qos h
  pub in_order : IsNonDecreasingBy position_of stored.samples
  pub up_to_date : All (IsUpToDate stored.qos h) stored.samples

-- how room is made for so many more, or refused, by how many of their kind find it
pub record MakesRoom (spare : Stored → ℕ) (additional : ℕ) (old new : Stored) (answer : Result (Unit {0}) Code)
    : Type 0 where
  -- nothing happens
  pub same : (h : List Happening) → StandsFor old h → StandsFor new h
  -- the policies stay
  pub qos : qos_of new ≡ qos_of old
  -- there is room for so many
  pub room : OnOk answer (additional ≤ spare new)
  -- there is no less room than before
  pub more : spare old ≤ spare new
  -- where there is room enough it succeeds
  pub succeeds : additional ≤ spare old → IsOk answer
  -- a refusal leaves the cache as it was
  pub err : OnErr answer (new ≡ old)
  -- it is refused for want of memory alone
  pub memory : IfErr answer (λ e. e ≡ Memory)

-- how an entry more is taken up, or refused, by how many of its kind find room
pub record TakesEntry (spare : Stored → ℕ) (old new : Stored) (answer : Result (Unit {0}) Code) : Type 0 where
  -- the policies stay
  pub qos : qos_of new ≡ qos_of old
  -- where there is room it is taken up
  pub reserved : 1 ≤ spare old → IsOk answer
  -- it takes the room of one at most
  pub room : spare old ≤ spare new + 1
  -- a refusal leaves the cache as it was
  pub err : OnErr answer (new ≡ old)
  -- it is refused for want of memory alone
  pub memory : IfErr answer (λ e. e ≡ Memory)

-- what happened where an access returned these samples
abbrev pub entry_of : AccessKind → List SamplePosition → Happening
entry_of Read samples = HasRead samples
entry_of Take samples = Took samples

-- the samples that an access picks by a test, in the order in which it returns them
abbrev pub picked : Stored → List Happening → Selection → (Key → List ℕ → Bool) → List SamplePosition
picked stored h selection test = picked_by (qos_of stored) h selection test

-- why an access is refused
abbrev pub refusal : Stored → List Happening → Selection → Option Code
refusal stored h selection = selection_refusal (qos_of stored) h selection

-- the answer of an access by a test: the collection, or NO_DATA where nothing is picked; or the first cause that
-- refuses it, or MEMORY where there is none, and something is picked or no entry more can be counted
abbrev pub AccessAnswers : Stored → List Happening → Selection → (Key → List ℕ → Bool) → Result (List Sample) Code
    → Type 0
AccessAnswers stored h selection test (Ok samples) =
    (refusal stored h selection ≡ None) × (picked stored h selection test ≢ [])
    × (samples ≡ collection_of (qos_of stored) h (picked stored h selection test))
AccessAnswers stored h selection test (Err NoData) =
    (refusal stored h selection ≡ None) × (picked stored h selection test ≡ [])
AccessAnswers stored h selection test (Err code) =
    Refuses (refusal stored h selection) code
    × (code ≡ Memory → (picked stored h selection test ≢ []) ⊎ (2 ^ 64 - 1 ≤ length h))

-- what a cache is after an access by a test that was answered so: it stands for one entry more, the access, also where
-- that found nothing; any other refusal leaves it as it was
abbrev pub AfterAccess : AccessKind → Stored → List Happening → Selection → (Key → List ℕ → Bool)
    → Result (List Sample) Code → Stored → Type 0
AfterAccess kind old h selection test (Ok samples) new = StandsFor new (entry_of kind (picked old h selection test) ∷ h)
AfterAccess kind old h selection test (Err NoData) new = StandsFor new (entry_of kind [] ∷ h)
AfterAccess kind old h selection test (Err code) new = new ≡ old
