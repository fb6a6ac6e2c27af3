-- What a DATA says of a change, and the change that it means (RTPS 2.5, 8.2: CacheChange; 8.3: Data).
use Rattle.std.specs.Prelude.{◌≡◌, ◌≢◌, ℕ, ℤ, List, [], Option}
use Rattle.dds_base.specs.declared.change.Change.{Change}
use Rattle.dds_base.specs.declared.change.ChangeKind.{ChangeKind}
use Rattle.dds_base.specs.declared.change.ChangeKind.TheVariants as kind
use Rattle.dds_base.specs.declared.key.Key.{Key}
use Rattle.rtps_wire.specs.declared.data.ChangeBody.{ChangeBody}
use Rattle.rtps_wire.specs.declared.data.ChangeBody.TheVariants.{Write, Dispose, Unregister, DisposeUnregister}
use Rattle.rtps_wire.specs.declared.data.DataContent.{DataContent}

-- what a DATA says of the instance of a change of this kind
abbrev pub body_with : ChangeKind → Key → List ℕ → ChangeBody
body_with kind.Write key value = Write (record { key = key; value = value })
body_with kind.Dispose key value = Dispose key
body_with kind.Unregister key value = Unregister key
body_with kind.DisposeUnregister key value = DisposeUnregister key

-- what a DATA says of a change: all but its moment
abbrev pub content_of : Change → DataContent
content_of change = record { body = body_with change.kind change.key change.value; strength = change.strength }

-- the change of a writer with this strength
abbrev pub change_with : ChangeBody → Option ℤ → ℕ → Change
change_with (Write datum) strength moment =
    record { kind = kind.Write; key = datum.key; value = datum.value; source_timestamp = moment; strength = strength }
change_with (Dispose key) strength moment =
    record { kind = kind.Dispose; key = key; value = []; source_timestamp = moment; strength = strength }
change_with (Unregister key) strength moment =
    record { kind = kind.Unregister; key = key; value = []; source_timestamp = moment; strength = strength }
change_with (DisposeUnregister key) strength moment =
    record { kind = kind.DisposeUnregister; key = key; value = []; source_timestamp = moment; strength = strength }

-- the change that a DATA means
abbrev pub change_in : DataContent → ℕ → Change
change_in content timestamp = change_with content.body content.strength timestamp

-- only a write has a value
abbrev pub IsEmptyUnlessWrite : Change → Type 0
IsEmptyUnlessWrite change = change.kind ≢ kind.Write → change.value ≡ []
