use Rattle.std.proofs.Common.{◌≤◌, ◌∙◌, List, ℕ, length, sym, subst}
use Rattle.rtps_discovery.proofs.Farewell.{farewell_short}
use Rattle.rtps_discovery.proofs.packet.farewell_data.Goals as goal

pub data_of-requires-clause-short : goal.data_of-requires-clause-short
data_of-requires-clause-short c =
    subst (λ (xs : List ℕ). length xs ≤ 65000) (sym (c.deref.ensures.value ∙ c.in_ok-content.ensures.ok))
    (farewell_short c.args.own.now c.as_slice-octets.ensures.len)
