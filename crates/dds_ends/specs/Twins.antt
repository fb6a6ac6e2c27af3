-- A reply that is given twice. Inner functions alone cite this: nothing here has to be believed.
use Rattle.std.specs.Prelude.{◌≡◌, ◌≢◌, ◌⊎◌, ℕ, ◌+◌, ◌≤◌, Bool, true, false, List, [], ◌∷◌, length, Contains, AllPairs}
use Rattle.dds_machine.specs.declared.reply.Reply.{Reply}
use Rattle.dds_machine.specs.declared.reply.Reply.TheVariants.{Samples, Conditions, Active, Reported}
use Rattle.dds_protocol.specs.declared.event.Output.{Output}
use Rattle.dds_protocol.specs.declared.event.Packet.{Packet}
use Rattle.dds_ends.specs.declared.twin.Twin.{Twin}
use Rattle.dds_ends.specs.declared.twin.Twin.TheVariants.{Unasked, Asked, Kept}

-- the reply has no list
abbrev pub IsPlain : Reply → Type 0
IsPlain (Samples samples) = ⊥
IsPlain (Conditions conditions) = ⊥
IsPlain (Active conditions) = ⊥
IsPlain (Reported report) = report.moves ≡ []
IsPlain other = Unit {0}

-- two replies are asked for
abbrev pub wants_two : Twin → Bool
wants_two Unasked = false
wants_two Asked = true
wants_two (Kept again) = false

-- the reply once more, or nothing where it has no list
abbrev pub IsTwin : Twin → Reply → Type 0
IsTwin Unasked reply = ⊥
IsTwin Asked reply = IsPlain reply
IsTwin (Kept again) reply = again ≡ reply

-- where two were asked for, there is the reply once more
abbrev pub Twins : Twin → Reply → Twin → Type 0
Twins old reply new = wants_two old ≡ true → IsTwin new reply

-- of these packets, in their order, these are left, and so many are not
abbrev pub AreLeft : List Packet → List Packet → ℕ → Type 0
AreLeft [] left lost = (left ≡ []) × (lost ≡ 0)
AreLeft (packet ∷ packets) left lost =
    ((rest : List Packet) × (left ≡ packet ∷ rest) × AreLeft packets rest lost)
    ⊎ ((fewer : ℕ) × (lost ≡ fewer + 1) × AreLeft packets left fewer)

-- of these packets some are left, in their order, and the others are lost; those to different peers stay so
pub record Leaves (packets left : List Packet) : Type 0 where
  pub lost : ℕ
  pub are_left : AreLeft packets left lost
  pub of_packets : (packet : Packet) → Contains left packet → Contains packets packet
  pub fewer : length left ≤ length packets
  pub different : AllPairs (λ (a b : Packet). a.to ≢ b.to) packets → AllPairs (λ (a b : Packet). a.to ≢ b.to) left

-- an output, of whose packets some are lost
pub record LosesPackets (old new : Output) : Type 0 where
  pub reply : new.reply ≡ old.reply
  pub leaves : Leaves old.packets new.packets
  pub unsent : new.unsent ≡ old.unsent + leaves.lost
