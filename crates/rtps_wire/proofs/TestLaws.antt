-- Tests that hold, and what of two of them does.
use Rattle.std.proofs.Common.{◌≡◌, Bool, true, false, ◌||◌, ◌&&◌, refl}
use Rattle.std.specs.Prelude.{MatchBool}

pub neither : (a b : Bool) → (a || b) ≡ false → (a ≡ false) × (b ≡ false)
neither true b e = absurd cc
neither false b e = (refl, e)

pub both_hold : (a b : Bool) → (a && b) ≡ true → (a ≡ true) × (b ≡ true)
both_hold true b e = (refl, e)
both_hold false b e = absurd cc

pub match_true : (b : Bool) (P Q : Type 0) → b ≡ true → P → MatchBool b P Q
match_true true P Q e p = p
match_true false P Q e p = absurd cc

pub match_false : (b : Bool) (P Q : Type 0) → b ≡ false → Q → MatchBool b P Q
match_false true P Q e q = absurd cc
match_false false P Q e q = q
