-- The bits of words in the other order. Inner functions alone cite this: nothing here has to be believed.
use Rattle.std.specs.Prelude.{ℕ, ◌+◌, ◌-◌, ◌*◌, ◌/◌, ◌%◌, ◌==◌, ◌&&◌, ◌||◌, nat_lt, nat_le, Bool, true, List, slice_index_or, if◌then◌else◌}
use Rattle.std.specs.Int.{bit_at}
use Rattle.std.proofs.lemmas.Bool.{agree_below}

-- the place of a bit among 32, counted from the other end
abbrev pub mirror : ℕ → ℕ
mirror i = 32 * (i / 32) + (31 - i % 32)

-- where the bit of a place comes from: from so far above where the mask has it, and else from so far below
abbrev pub neighbour : ℕ → ℕ → ℕ → ℕ
neighbour by mask i = if bit_at mask i == 1 then i + by else i - by

-- of a bit and the one so far below it, the mask has one
abbrev pub is_paired : ℕ → ℕ → ℕ → Bool
is_paired by mask i =
    if bit_at mask i == 1 then nat_lt i by || bit_at mask (i - by) == 0
    else (nat_le by i && bit_at mask (i - by) == 1)

-- so it is at each of 64 places
abbrev pub are_paired : ℕ → ℕ → Bool
are_paired by mask = agree_below (λ i. is_paired by mask i) (λ i. true) 64

-- whether words of 32 bits have the bit of a place: the highest of a word is its first
abbrev pub wire_flag : List ℕ → ℕ → Bool
wire_flag words place = bit_at (slice_index_or words (place / 32) 0) (31 - place % 32) == 1
