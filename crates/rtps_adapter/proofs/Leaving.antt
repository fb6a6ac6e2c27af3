-- What goes out is of its topic's type.
use Rattle.std.proofs.Common.{◌≡◌, ℕ, Bool, true, false, cond, List, ◌∷◌, Option, Some, None, refl, sym, ap, ◌∙◌}
use Rattle.dds_base.specs.declared.datum.Datum.{Datum}
use Rattle.dds_base.specs.declared.key.Key.{Key}
use Rattle.dds_base.specs.DatumAt.{datum_at, key_form_at}
use Rattle.dds_base.specs.Happening.{same_key}
use Rattle.dds_base.proofs.FieldLaws.{bind_some}
use Rattle.dds_base.proofs.KeyLaws.{key-same}
use Rattle.rtps_wire.specs.declared.data.ChangeBody.TheVariants.{Write}
use Rattle.rtps_adapter.specs.declared.kinds.KeyRule.{KeyRule}
use Rattle.rtps_adapter.specs.declared.kinds.KeyRule.TheVariants.{Keyless, Fields, ParameterList}
use Rattle.rtps_adapter.specs.Kinds.{no_key}
use Rattle.rtps_adapter.specs.Keys.{key_by, own_octets, representation_of}
use Rattle.rtps_adapter.specs.Payloads.{payload_of, key_payload_of, is_found, has_own_key, outward_payload}
use Rattle.rtps_adapter.proofs.KeyForms.{own_says, key_form_is}
use Rattle.rtps_adapter.specs.ComesBack.{FitsRule, IsKey}
use Rattle.rtps_adapter.specs.Leaving.{WhatGoesOutFits}

passed : {A : Type 0} (b : Bool) (o : Option A) (y : A) → cond b o None ≡ Some y → (b ≡ true) × (o ≡ Some y)
passed true o y e = (refl, e)
passed false o y e = absurd cc

found_is : (o : Option Key) (k : Key) → is_found o k ≡ true → o ≡ Some k
found_is None k e = absurd cc
found_is (Some own) k e = ap Some (sym (key-same k own e))

datum_fits : (rule : KeyRule) (payload out : List ℕ) (d : Datum) → datum_at payload ≡ Some d
    → outward_payload rule false payload ≡ Some out → FitsRule rule (Write d)
unfolding outward_payload
datum_fits rule payload out d e sent =
    let known = rw e at sent in
    let both = passed (has_own_key rule d) (payload_of d.value) out known in
    ((out, both.1), found_is (key_by rule d.value) d.key both.0)

key_fits : (rule : KeyRule) (payload out : List ℕ) (k : Key) → key_form_at payload ≡ Some k
    → outward_payload rule true payload ≡ Some out → IsKey rule k
unfolding outward_payload key_payload_of
key_fits Keyless payload out k e sent =
    let known = rw e at sent in
    key-same k no_key (passed (same_key k no_key) _ out known).0
key_fits (Fields encoding fields) payload out k e sent =
    let known = rw e at sent in
    let a =
    bind_some (own_octets encoding fields.now k)
    (λ octets. payload_of (0 ∷ representation_of encoding ∷ 0 ∷ 0 ∷ octets)) out known in
    let s = own_says encoding fields.now k a.0 a.1 in
    key_form_is encoding fields.now k.0 s.octets s.found ∙ ap Some s.is
key_fits ParameterList payload out k e sent = tt

pub goes_out : WhatGoesOutFits
goes_out rule payload out = (datum_fits rule payload out, key_fits rule payload out)
