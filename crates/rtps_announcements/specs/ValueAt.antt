-- Reading what parameters say from left to right: what the code does, on lists. Nothing here has to be believed, since
-- `read_endpoint` and `read_participant` say what they read by `Values`.
--
-- RTPS 2.5, 9.3.2, 9.4.2 and 9.6.
use Rattle.std.specs.Prelude.{ℕ, zero, suc, ◌-◌, ◌%◌, ◌^◌, ◌==◌, Bool, true, false, List, [], ◌∷◌, length, Option, Some, None, nat_lt, if◌then◌else◌}
use Rattle.std.specs.List.{list_any}
use Rattle.std.specs.Option.{option_map}
use Rattle.std.specs.Int.{w32}
use Rattle.dds_base.specs.declared.endianness.Endianness.{Endianness}
use Rattle.std.specs.Str.{bytes_eq}
use Rattle.dds_base.specs.declared.guid.Guid.{Guid}
use Rattle.dds_base.specs.declared.guid.GuidPrefix.{GuidPrefix}
use Rattle.dds_base.specs.declared.qos.OwnershipQos.{OwnershipQos}
use Rattle.dds_base.specs.declared.qos.OwnershipQos.TheVariants.{Shared, Exclusive}
use Rattle.dds_base.specs.declared.qos.ReliabilityQos.{ReliabilityQos}
use Rattle.dds_base.specs.declared.qos.ReliabilityQos.TheVariants.{BestEffort, Reliable}
use Rattle.dds_base.specs.Fields.{number_at, octets_at, ◌>>=◌}
use Rattle.dds_base.specs.FieldPairs.{both, mapped}
use Rattle.dds_base.specs.declared.policies.DestinationOrderQos.{DestinationOrderQos}
use Rattle.dds_base.specs.declared.policies.DestinationOrderQos.TheVariants.{ByReceptionTimestamp, BySourceTimestamp}
use Rattle.dds_base.specs.declared.policies.DurabilityQos.{DurabilityQos}
use Rattle.dds_base.specs.declared.policies.DurabilityQos.TheVariants.{Volatile, TransientLocal, Transient, Persistent}
use Rattle.dds_base.specs.declared.duration.Duration.{Duration}
use Rattle.dds_base.specs.declared.policies.LivelinessKind.{LivelinessKind}
use Rattle.dds_base.specs.declared.policies.LivelinessKind.TheVariants.{Automatic, ManualByParticipant, ManualByTopic}
use Rattle.dds_base.specs.declared.policies.LivelinessQos.{LivelinessQos}
use Rattle.dds_base.specs.declared.policies.PresentationQos.{PresentationQos}
use Rattle.dds_base.specs.declared.policies.PresentationScope.{PresentationScope}
use Rattle.dds_base.specs.declared.policies.PresentationScope.TheVariants.{Instance, Topic, Group}
use Rattle.rtps_announcements.specs.Names.{max_name}
use Rattle.rtps_announcements.specs.declared.participant.VendorId.{VendorId}

-- the field at the front of the value; the default where there is no value
abbrev pub said : {X : Type 0} → Option X → (List ℕ → Option (X × List ℕ)) → Option (List ℕ) → Option X
said default field None = default
said default field (Some value) = option_map (λ x. x.0) (field value)

-- a field seen as another type, where it has such a value
abbrev pub partly : {X Y : Type 0} → (X → Option Y) → (List ℕ → Option (X × List ℕ)) → List ℕ → Option (Y × List ℕ)
partly table field bytes = do
  x ← field bytes
  y ← table x.0
  Some (y, x.1)

-- ---- numbers of policies

-- the RELIABILITY of a number
unfoldable pub reliability_of : ℕ → Option ReliabilityQos
reliability_of n = if n == 1 then Some BestEffort else (if n == 2 then Some Reliable else None)

-- the DURABILITY of a number
unfoldable pub durability_of : ℕ → Option DurabilityQos
durability_of n = if n == 0 then Some Volatile else (if n == 1 then Some TransientLocal else
    (if n == 2 then Some Transient else (if n == 3 then Some Persistent else None)))

-- the OWNERSHIP of a number
unfoldable pub ownership_of : ℕ → Option OwnershipQos
ownership_of n = if n == 0 then Some Shared else (if n == 1 then Some Exclusive else None)

-- the kind of LIVELINESS of a number
unfoldable pub liveliness_of : ℕ → Option LivelinessKind
liveliness_of n = if n == 0 then Some Automatic else
    (if n == 1 then Some ManualByParticipant else (if n == 2 then Some ManualByTopic else None))

-- the DESTINATION_ORDER of a number
unfoldable pub destination_order_of : ℕ → Option DestinationOrderQos
destination_order_of n = if n == 0 then Some ByReceptionTimestamp else
    (if n == 1 then Some BySourceTimestamp else None)

-- the access scope of a number
unfoldable pub scope_of : ℕ → Option PresentationScope
scope_of n = if n == 0 then Some Instance else (if n == 1 then Some Topic else (if n == 2 then Some Group else None))

-- ---- fields

-- seconds that are not negative, and a fraction
unfoldable pub duration_of : ℕ × ℕ → Option Duration
duration_of x = if nat_lt x.0 (2 ^ 31) then Some (record { seconds = x.0; fraction = x.1 }) else None

-- a duration
unfoldable pub duration_at : Endianness → List ℕ → Option (Duration × List ℕ)
duration_at order bytes = partly duration_of (both (number_at order w32) (number_at order w32)) bytes

-- kind and lease
unfoldable pub liveliness_at : Endianness → List ℕ → Option (LivelinessQos × List ℕ)
liveliness_at order bytes = mapped (λ x. record { kind = x.0; lease = x.1 })
    (both (partly liveliness_of (number_at order w32)) (duration_at order)) bytes

-- a boolean
unfoldable pub flag_at : List ℕ → Option (Bool × List ℕ)
flag_at (zero ∷ rest) = Some (false, rest)
flag_at (suc zero ∷ rest) = Some (true, rest)
flag_at _ = None

-- access scope, coherent_access, ordered_access
unfoldable pub presentation_at : Endianness → List ℕ → Option (PresentationQos × List ℕ)
presentation_at order bytes =
    mapped (λ x. record { scope = x.0.0; coherent_access = x.0.1; ordered_access = x.1 })
    (both (both (partly scope_of (number_at order w32)) flag_at) flag_at) bytes

-- the octet that is zero
unfoldable pub zero_at : List ℕ → Option (List ℕ)
zero_at (zero ∷ rest) = Some rest
zero_at _ = None

-- a name: its length with the zero, its octets, and the zero
unfoldable pub name_at : Endianness → List ℕ → Option (List ℕ × List ℕ)
name_at order bytes = do
  n ← number_at order w32 bytes
  t ← (if nat_lt n.0 1 then None else (if nat_lt max_name (n.0 - 1) then None else octets_at (n.0 - 1) n.1))
  rest ← zero_at t.1
  if list_any (λ octet. octet == 0) t.0 then None else Some (t.0, rest)

-- the GUID of these octets, where it is one of this sender
unfoldable pub guid_of : GuidPrefix → List ℕ × List ℕ → Option Guid
guid_of source x =
    if bytes_eq x.0 source.0 then Some (record { prefix = source; entity = record { 0 = x.1 } }) else None

-- a GUID of this sender
unfoldable pub guid_at : GuidPrefix → List ℕ → Option (Guid × List ℕ)
guid_at source bytes = partly (guid_of source) (both (octets_at 12) (octets_at 4)) bytes

-- an octet
unfoldable pub octet_at : List ℕ → Option (ℕ × List ℕ)
octet_at [] = None
octet_at (octet ∷ rest) = Some (octet, rest)

-- two octets
unfoldable pub vendor_at : List ℕ → Option (VendorId × List ℕ)
vendor_at bytes = mapped (λ octets. record { 0 = octets }) (octets_at 2) bytes

-- as many items as are asked for
unfoldable pub counted : {X : Type 0} → (List ℕ → Option (X × List ℕ)) → ℕ → List ℕ → Option (List X × List ℕ)
counted field zero bytes = Some ([], bytes)
counted field (suc n) bytes = do
  x ← field bytes
  xs ← counted field n x.1
  Some (x.0 ∷ xs.0, xs.1)

-- the number of items, which is at most this, and each
unfoldable pub listed_at : {X : Type 0} → ℕ → Endianness → (List ℕ → Option (X × List ℕ)) → List ℕ
    → Option (List X × List ℕ)
listed_at max order field bytes = do
  n ← number_at order w32 bytes
  if nat_lt max n.0 then None else counted field n.0 n.1

-- a name, and the octets up to a multiple of 4
unfoldable pub padded_at : Endianness → List ℕ → Option ((List ℕ × List ℕ) × List ℕ)
padded_at order bytes = do
  name ← name_at order bytes
  octets ← octets_at (3 - length name.0 % 4) name.1
  Some ((name.0, octets.0), octets.1)

-- a name, before octets up to a multiple of 4
unfoldable pub padded_name_at : Endianness → List ℕ → Option (List ℕ × List ℕ)
padded_name_at order bytes = mapped (λ x. x.0) (padded_at order) bytes
