-- Whether what a call asks of a writer of ours is of the type that its topic carries (RTPS 2.5, clause 10: SerializedPayload;
-- 9.6.4.8: KeyHash).
use Rattle.std.specs.Prelude.{◌≡◌, ℕ, List, Option, Some, None}
use Rattle.rtps_wire.specs.declared.data.ChangeBody.{ChangeBody}
use Rattle.rtps_wire.specs.declared.data.ChangeBody.TheVariants as body
use Rattle.rtps_adapter.specs.declared.kinds.Kind.{Kind}
use Rattle.rtps_adapter.specs.ComesBack.{FitsKind}
use Rattle.dds_machine.specs.declared.call.Call.{Call}
use Rattle.dds_machine.specs.declared.call.Call.TheVariants.{Dispose, Register, Unregister, Write}
use Rattle.dds_exchange.specs.declared.ends.OwnEnd.{OwnEnd}
use Rattle.dds_exchange.specs.Naming.{end_at}
use Rattle.dds_exchange.specs.Tables.{Said, said_by, said_of}

-- the change that a call asks for, with the number of its writer; a registration says a key alone, as its end does
abbrev pub change_of : Call → Option (ℕ × ChangeBody)
change_of (Register writer key) = Some (writer, body.Unregister key)
change_of (Write writer key value) = Some (writer, body.Write (record { key = key; value = value }))
change_of (Dispose writer key) = Some (writer, body.Dispose key)
change_of (Unregister writer key) = Some (writer, body.Unregister key)
change_of _ = None

-- a change is one of a type of which this is said
abbrev pub FitsSaid : Said → ChangeBody → Type 0
FitsSaid said change = (kind : Kind) × (said_of kind ≡ said) × FitsKind kind change

-- it is one of what an endpoint of ours carries; where there is none, it is not asked
abbrev pub FitsEnd : Option OwnEnd → ChangeBody → Type 0
FitsEnd None change = Unit {0}
FitsEnd (Some end) change = FitsSaid (said_by end.carried) change

abbrev pub FitsAny : List OwnEnd → Option (ℕ × ChangeBody) → Type 0
FitsAny writers None = Unit {0}
FitsAny writers (Some (writer, change)) = FitsEnd (end_at writer writers) change

-- What a call asks of one of our writers is a change of the type that its topic carries: the value is a payload of it and has the
-- key, or the key can be said alone. Each other call fits.
abbrev pub Fits : List OwnEnd → Call → Type 0
Fits writers call = FitsAny writers (change_of call)
