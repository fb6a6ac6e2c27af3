-- The instances that a writer has registered, as a list of their keys. Inner functions alone cite this: nothing here
-- has to be believed.
--
-- DDS 1.4, 2.2.2.4 (register_instance, unregister_instance).
use Rattle.std.specs.Prelude.{◌≡◌, ℕ, Bool, true, false, List}
use Rattle.std.specs.List.{list_any}
use Rattle.indexmap.specs.IndexSet.{spare}
use Rattle.dds_base.specs.declared.key.Key.{Key}
use Rattle.dds_base.specs.declared.change.ChangeKind.{ChangeKind}
use Rattle.dds_base.specs.Happening.{same_key, is_unregister}
use Rattle.rtps_writer.specs.declared.registration.RegisteredInstances.TheInside.{Inside}

-- their keys, and for how many more there is memory
pub record Instances : Type 0 where
  pub keys : List Key
  pub room : ℕ

-- what a contract sees of them
abbrev pub instances_of : Inside → Instances
instances_of a = record { keys = a.set.keys; room = spare a.set }

-- the instance is one of these
abbrev pub is_among : List Key → Key → Bool
is_among keys key = list_any (λ k. same_key key k) keys

-- a change of this kind registers an instance that is one of these
pub record IsAgain (keys : List Key) (key : Key) (kind : ChangeKind) : Type 0 where
  pub registers : is_unregister kind ≡ false
  pub there : is_among keys key ≡ true
