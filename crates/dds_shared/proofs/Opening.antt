-- What is so of a configuration of which a peer is opened.
use Rattle.std.proofs.Common.{◌≡◌, ◌&&◌, ℕ, ◌≤◌, Bool, true, false, Option, None, Some, List, length, refl, arith}
use Rattle.std.specs.Prelude.{if◌then◌else◌, is_some, nat_le, nat_lt}
use Rattle.std.proofs.lemmas.Bool.{and_parts}
use Rattle.std.proofs.lemmas.Bool.Decides.{nat_tests}
use Rattle.dds_base.specs.declared.code.Code.{Code}
use Rattle.dds_base.specs.declared.code.Code.TheVariants.{BadParameter}
use Rattle.dds_base.specs.declared.config.Config.{Config}
use Rattle.dds_base.specs.declared.config.PeerConfig.{PeerConfig}
use Rattle.dds_base.specs.Checked.{check_refusal}
use Rattle.dds_machine.specs.Numbered.{HasNumber, has_element}
use Rattle.dds_protocol.specs.Opening.{opening_peers}
use Rattle.dds_protocol.specs.Roster.{AreGood}
use Rattle.dds_protocol.proofs.Opened.{opened_count, opening_numbers}
use Rattle.dds_protocol.proofs.Rosters.{configs_are_good}
use Rattle.dds_core.specs.Opening.{core_refusal, opening_peer}

-- where there is no cause against a peer, there is none against its configuration, which has it
neither : (o : Option Code) (has : Bool)
    → (if is_some o then o else (if has then None else Some BadParameter)) ≡ None → (o ≡ None) × (has ≡ true)
neither None true h = (refl, refl)
neither None false h = absurd cc
neither (Some code) has h = absurd cc

taken : (peers : List PeerConfig) (n : ℕ) → core_refusal peers n ≡ None
    → (check_refusal peers ≡ None) × (has_element peers n ≡ true)
taken peers n none = neither (check_refusal peers) (has_element peers n) none

has_number : (n count : ℕ) → (nat_lt 0 n && nat_le n count) ≡ true → (1 ≤ n) × (n ≤ count)
has_number n count h =
    let parts = and_parts (nat_lt 0 n) (nat_le n count) h in
    let low = parts.0 in
    let high = parts.1 in
    (grind (arith, nat_tests, low), grind (arith, nat_tests, high))

-- its peers are good
pub peers_good : (config : Config) (n : ℕ) → core_refusal config.peers n ≡ None → AreGood config.peers
peers_good config n none = configs_are_good config (taken config.peers n none).0

-- the peer that is opened has its number
pub number_opened : (config : Config) (n : ℕ) → core_refusal config.peers n ≡ None → (opening_peer config n).number ≡ n
number_opened config n none =
    let within = has_number n (length config.peers) (taken config.peers n none).1 in
    let low = within.0 in
    let high = within.1 in
    let count = opened_count config.peers config.peers 1 in
    opening_numbers config.peers n (omega (arith, low), omega (arith, high, count))
