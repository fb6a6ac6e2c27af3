-- What is seen of the index of the instances that are kept, and what is true of it. Inner functions alone cite this:
-- nothing here has to be believed.
--
-- The index and its room are this project's own.
use Rattle.std.specs.Prelude.{◌≡◌, List, Option, IfSome, false}
use Rattle.std.specs.List.{list_any}
use Rattle.indexmap.specs.IndexSet.{spare}
use Rattle.dds_base.specs.declared.key.Key.{Key}
use Rattle.dds_base.specs.Happening.{same_key}
use Rattle.dds_instances.specs.declared.place.KeyIndex.TheInside.{Inside}
use Rattle.dds_instances.specs.Keys.{Keys}

-- what a contract sees of an index
abbrev pub keys_of : Inside → Keys
keys_of a = record { keys = a.set.keys; room = spare a.set }

-- a key that was not there when it was looked up last is none of these
abbrev pub IsAbsent : List Key → Option Key → Type 0
IsAbsent keys absent = IfSome absent (λ (key : Key). list_any (same_key key) keys ≡ false)

-- what is remembered as absent is
abbrev pub Remembers : Inside → Type 0
Remembers a = IsAbsent a.set.keys a.absent
