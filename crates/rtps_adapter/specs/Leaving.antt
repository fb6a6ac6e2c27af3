-- What leaves a peer for the network (RTPS 2.5, clause 10).
use Rattle.std.specs.Prelude.{◌≡◌, ℕ, true, false, List, Some}
use Rattle.dds_base.specs.declared.datum.Datum.{Datum}
use Rattle.dds_base.specs.declared.key.Key.{Key}
use Rattle.dds_base.specs.DatumAt.{datum_at, key_form_at}
use Rattle.rtps_wire.specs.declared.data.ChangeBody.TheVariants.{Write}
use Rattle.rtps_adapter.specs.declared.kinds.KeyRule.{KeyRule}
use Rattle.rtps_adapter.specs.Payloads.{outward_payload}
use Rattle.rtps_adapter.specs.ComesBack.{FitsRule, IsKey}

-- What goes out is of its topic's type: the datum that the payload was, or the key form.
abbrev pub WhatGoesOutFits : Type 0
WhatGoesOutFits = (rule : KeyRule) (payload out : List ℕ)
    → ((d : Datum) → datum_at payload ≡ Some d → outward_payload rule false payload ≡ Some out → FitsRule rule (Write d))
    × ((k : Key) → key_form_at payload ≡ Some k → outward_payload rule true payload ≡ Some out → IsKey rule k)
