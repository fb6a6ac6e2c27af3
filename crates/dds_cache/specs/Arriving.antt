-- That a change has come. Inner functions alone cite this: nothing here has to be believed.
--
-- DDS 1.4, 2.2.2.5 (samples), 2.2.3 (OWNERSHIP, RESOURCE_LIMITS).
use Rattle.std.specs.Prelude.{◌≡◌, ℕ, ◌+◌, ◌∷◌, List, length, Bool, false, true}
use Rattle.dds_base.specs.declared.happening.Arrival.{Arrival}
use Rattle.dds_base.specs.declared.happening.Happening.{Happening}
use Rattle.dds_base.specs.declared.happening.Happening.TheVariants.{Came}
use Rattle.dds_base.specs.declared.qos.ReaderQos.{ReaderQos}
use Rattle.dds_base.specs.Life.{ends_with_write, keeps}
use Rattle.dds_base.specs.Presence.{is_accepted, marks}
use Rattle.dds_instances.specs.declared.known.KnownInstance.{KnownInstance}
use Rattle.dds_instances.specs.Known.{IsKnown}
use Rattle.dds_instances.specs.Table.{Table, Stands}
use Rattle.dds_cache.specs.declared.kept.Kept.{Kept}
use Rattle.dds_cache.specs.Finding.{Holds}
use Rattle.dds_cache.specs.Kept.{IsFresh, value_if}

-- the instances have taken up a change, the newest entry, and it is known whether it is an accepted write
pub record TakesChange (q : ReaderQos) (table : Table) (arrival : Arrival) (is_write : Bool) (h : List Happening)
    : Type 0 where
  pub stands : Stands q table (Came arrival ∷ h)
  pub valid : is_write ≡ ends_with_write q arrival.change.key (Came arrival ∷ h)
  pub fresh : IsFresh h arrival.change.key

-- the instances are those before a change, and it is known whether it is an accepted write, and leaves a marker
pub record AwaitsChange (q : ReaderQos) (table : Table) (arrival : Arrival) (is_write is_marked : Bool)
    (h : List Happening) : Type 0 where
  pub stands : Stands q table h
  pub written : is_write ≡ ends_with_write q arrival.change.key (Came arrival ∷ h)
  pub marked : is_marked ≡ marks q arrival.change.key h (Came arrival)

-- the instances and the samples are those before a change that will be accepted
pub record AwaitsAccepted (q : ReaderQos) (table : Table) (ks : List Kept) (arrival : Arrival) (h : List Happening)
    : Type 0 where
  pub holds : Holds q table ks h
  pub fresh : IsFresh h arrival.change.key
  pub accepted : is_accepted q h (Came arrival) ≡ true

-- what is kept of the sample of a change, by what is known of its instance once it has come, as the entry of this position
abbrev pub kept_of : KnownInstance → ℕ → Arrival → Bool → Kept
kept_of known position arrival is_write = record {
  sample = record { key = arrival.change.key; position = position };
  number = known.accepted_writes;
  is_read = false;
  is_out = false;
  valid_data = is_write;
  disposed_generation_count = known.disposed_generations;
  no_writers_generation_count = known.no_writers_generations;
  source_timestamp = arrival.change.source_timestamp;
  publication_handle = arrival.writer;
  value = value_if is_write arrival.change.value;
}

-- an accepted write, the newest entry, has this position, and this is known of its instance once it has come; the history
-- keeps some write
pub record LeavesWrite (q : ReaderQos) (known : KnownInstance) (position : ℕ) (arrival : Arrival) (h : List Happening)
    : Type 0 where
  pub position_is : position ≡ length h + 1
  pub is_known : IsKnown q (Came arrival ∷ h) known
  pub key : known.key ≡ arrival.change.key
  pub written : ends_with_write q arrival.change.key (Came arrival ∷ h) ≡ true
  pub fresh : IsFresh h arrival.change.key
  pub keeps_some : keeps q.history 0 ≡ true
