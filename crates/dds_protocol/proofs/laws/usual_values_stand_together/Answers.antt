use Rattle.std.proofs.Common.{◌≡◌, ◌<◌, ◌≤◌, ℕ, Bool, true, false, refl, arith}
use Rattle.std.specs.Prelude.{if◌then◌else◌, nat_le}
use Rattle.std.proofs.lemmas.Bool.Decides.{nat_tests}
use Rattle.dds_protocol.proofs.laws.usual_values_stand_together.Goals as goal

first_of : (b : Bool) (m n : ℕ) → b ≡ true → (if b then m else n) ≡ m
first_of true m n e = refl
first_of false m n e = absurd cc

second_of : (b : Bool) (m n : ℕ) → b ≡ false → (if b then m else n) ≡ n
second_of true m n e = absurd cc
second_of false m n e = refl

usual : (most : ℕ) → most ≤ 1024 → nat_le most 1024 ≡ true
usual most le = grind (arith, nat_tests)

longer : (most : ℕ) → 1024 < most → nat_le most 1024 ≡ false
longer most lt = grind (arith, nat_tests)

pub returns-clause-eight : goal.returns-clause-eight
returns-clause-eight c = λ most le. first_of (nat_le most 1024) 8 1 (usual most le)

pub returns-clause-packets : goal.returns-clause-packets
returns-clause-packets c = λ most le. first_of (nat_le most 1024) 32 256 (usual most le)

pub returns-clause-one : goal.returns-clause-one
returns-clause-one c = λ most lt. second_of (nat_le most 1024) 8 1 (longer most lt)
