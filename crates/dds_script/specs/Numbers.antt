-- Numbers, as words spell them.
use Rattle.std.specs.Prelude.{ℕ, ◌-◌, ◌*◌, ◌/◌, ◌^◌, ◌&&◌, List, length, take, Option, Some, None, nat_eq, nat_lt, if◌then◌else◌, codes}
use Rattle.std.specs.Char.{is_ascii_digit}
use Rattle.std.specs.List.{ends_with, list_all}
use Rattle.std.specs.Option.{option_and_then, option_map_or}
use Rattle.std.specs.Str.Parse.{digits_value}

-- the number that a word of decimal digits spells, where it has 64 bits; a word has one digit or more, and nothing else
abbrev pub decimal_of : List ℕ → Option ℕ
decimal_of word =
    if nat_lt 0 (length word) && list_all is_ascii_digit word && nat_lt (digits_value 10 word) (2 ^ 64)
    then Some (digits_value 10 word) else None

-- a number, where it has 64 bits
abbrev pub of_64_bits : ℕ → Option ℕ
of_64_bits n = if nat_lt n (2 ^ 64) then Some n else None

-- what stands before such an end of a word, where the word has it
abbrev pub before_end : List ℕ → List ℕ → Option (List ℕ)
before_end end word = if ends_with nat_eq word end then Some (take (length word - length end) word) else None

-- so many parts of a second, of which there are so many, in units of 2^-32 second, rounded down
abbrev pub units_in : ℕ → List ℕ → Option ℕ
units_in parts word = option_and_then (λ n. of_64_bits (n * 2 ^ 32 / parts)) (decimal_of word)

-- a time in units of 2^-32 second: a number of them, or of seconds, milliseconds or microseconds, as `5s`, `500ms` and
-- `20us`
abbrev pub units_said : List ℕ → Option ℕ
units_said word =
    option_map_or (units_in 1000) (before_end (codes "ms") word)
    (option_map_or (units_in 1000000) (before_end (codes "us") word)
    (option_map_or (units_in 1) (before_end (codes "s") word) (decimal_of word)))
