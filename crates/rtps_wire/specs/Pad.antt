-- PAD: it only takes room (RTPS 2.5, 9.4.5: Pad). Its body is anything.
use Rattle.std.specs.Prelude.{ℕ, List, []}

-- Every body is that of a PAD.
abbrev pub ReadsPad : ℕ → List ℕ → Type 0
ReadsPad flags body = Unit {0}

-- the body as written
abbrev pub text_of_pad : List ℕ
text_of_pad = []
