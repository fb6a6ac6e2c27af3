use Rattle.std.proofs.Common.{◌≡◌, ℕ, Bool, List, Option, Some, None, IsTrue, ◌↔◌, sym}
use Rattle.std.specs.Prelude.{is_some}
use Rattle.std.specs.Option.{option_map}
use Rattle.rtps_adapter.specs.declared.payload.NewPayload.{NewPayload}
use Rattle.rtps_adapter.specs.Payloads.{payload_of}
use Rattle.rtps_adapter.specs.PayloadText.{new_text}
use Rattle.rtps_adapter.specs.ComesBack.{IsValue}
use Rattle.rtps_adapter.proofs.payload.is_value.Goals as goal

carried : (value : List ℕ) (o : Option NewPayload) (has : Bool) → option_map new_text o ≡ payload_of value
    → has ≡ is_some o → IsTrue has ↔ IsValue value
carried value None has e is = (λ t. absurd cc, λ v. let some = v.1 in absurd cc)
carried value (Some p) has e is = (λ t. (new_text p, sym e), λ v. is)

pub returns : goal.returns
returns c = carried c.args.value.now c.own_payload.result c.is_some.result c.own_payload.ensures c.is_some.ensures
