-- What a DATA says of a change means that change, and can be written.
use Rattle.std.proofs.Common.{◌≡◌, ℕ, ℤ, ◌≤◌, List, [], length, Option, refl, arith}
use Rattle.std.specs.Prelude.{◌≢◌}
use Rattle.dds_base.specs.declared.change.Change.{Change}
use Rattle.dds_base.specs.declared.change.ChangeKind.{ChangeKind}
use Rattle.dds_base.specs.declared.change.ChangeKind.TheVariants as kind
use Rattle.dds_base.specs.declared.key.Key.{Key}
use Rattle.rtps_wire.specs.declared.data.ChangeBody.{ChangeBody}
use Rattle.rtps_wire.specs.declared.data.ChangeBody.TheVariants.{Write, Dispose, Unregister, DisposeUnregister}
use Rattle.rtps_wire.specs.declared.data.DataContent.{DataContent}
use Rattle.rtps_wire.specs.Content.{body_with, content_of, change_with, change_in, IsEmptyUnlessWrite}
use Rattle.rtps_wire.specs.Data.{IsBody, IsStrength, IsContent}
use Rattle.rtps_wire.specs.Submessages.{octets_of_change}

body_valid : (k : ChangeKind) (key : Key) (value : List ℕ)
    → length key.0 ≡ 16 → length value ≤ 65000 → IsBody (body_with k key value)
body_valid kind.Write key value of_key short = record { key = of_key; value = short }
body_valid kind.Dispose key value of_key short = of_key
body_valid kind.Unregister key value of_key short = of_key
body_valid kind.DisposeUnregister key value of_key short = of_key

-- what a DATA says of a change can be written
pub content_valid : (k : ChangeKind) (key : Key) (value : List ℕ) (strength : Option ℤ)
    → length key.0 ≡ 16 → length value ≤ 65000 → IsStrength strength
    → IsContent (record { body = body_with k key value; strength = strength })
content_valid k key value strength of_key short fits =
    record { body = body_valid k key value of_key short; strength = fits }

octets_with : (k : ChangeKind) (key : Key) (value : List ℕ) → octets_of_change (body_with k key value) ≤ length value
octets_with kind.Write key value = omega arith
octets_with kind.Dispose key value = omega arith
octets_with kind.Unregister key value = omega arith
octets_with kind.DisposeUnregister key value = omega arith

-- it has the value's octets at most
pub content_octets : (c : Change) → octets_of_change (content_of c).body ≤ length c.value
content_octets c = octets_with c.kind c.key c.value

-- what a DATA says of a change of this kind means the change
change_again : (k : ChangeKind) (key : Key) (value : List ℕ) (moment : ℕ) (strength : Option ℤ)
    → (k ≢ kind.Write → value ≡ [])
    → change_with (body_with k key value) strength moment
    ≡ record { kind = k; key = key; value = value; source_timestamp = moment; strength = strength }
change_again kind.Write key value moment strength empty = refl
change_again kind.Dispose key value moment strength empty = rw (empty (λ e. cc)) refl
change_again kind.Unregister key value moment strength empty = rw (empty (λ e. cc)) refl
change_again kind.DisposeUnregister key value moment strength empty = rw (empty (λ e. cc)) refl

pub change_in-content_of : (c : Change) → IsEmptyUnlessWrite c → change_in (content_of c) c.source_timestamp ≡ c
change_in-content_of c empty = change_again c.kind c.key c.value c.source_timestamp c.strength empty

body_again : (b : ChangeBody) (strength : Option ℤ) (moment : ℕ)
    → content_of (change_with b strength moment) ≡ record { body = b; strength = strength }
body_again (Write datum) strength moment = refl
body_again (Dispose key) strength moment = refl
body_again (Unregister key) strength moment = refl
body_again (DisposeUnregister key) strength moment = refl

pub content_of-change_in : (c : DataContent) (moment : ℕ) → content_of (change_in c moment) ≡ c
content_of-change_in c moment = body_again c.body c.strength moment
