-- Addresses, as words spell them (RTPS 2.5, 9.3.2: Locator_t).
use Rattle.std.specs.Prelude.{ℕ, ◌==◌, List, [], ◌∷◌, length, Option, Some, None, nat_lt, if◌then◌else◌}
use Rattle.std.specs.List.{position_or_len, before_first, after_first}
use Rattle.dds_base.specs.Fields.{◌>>=◌}
use Rattle.dds_script.specs.Numbers.{decimal_of}
use Rattle.rtps_announcements.specs.declared.locator.Locator.{Locator}

-- what stands before and after the first such character of a word, where it has one
abbrev pub parts_at : ℕ → List ℕ → Option (List ℕ × List ℕ)
parts_at c word =
    if nat_lt (position_or_len (λ b. b == c) word) (length word)
    then Some (before_first (λ b. b == c) word, after_first (λ b. b == c) word) else None

-- the number that a word of decimal digits spells, where it is below a bound
abbrev pub number_below : ℕ → List ℕ → Option ℕ
number_below bound word = decimal_of word >>= λ number. if nat_lt number bound then Some number else None

-- the four numbers below 256 of a word that has them with dots between them, as `127.0.0.1`
unfoldable pub address_of : List ℕ → Option (List ℕ)
address_of word = do
  first ← parts_at 46 word
  second ← parts_at 46 first.1
  third ← parts_at 46 second.1
  a ← number_below 256 first.0
  b ← number_below 256 second.0
  c ← number_below 256 third.0
  d ← number_below 256 third.1
  Some (a ∷ b ∷ c ∷ d ∷ [])

-- an address, a colon, and a port of 16 bits that is not 0, as `127.0.0.1:7410`
unfoldable pub locator_of : List ℕ → Option Locator
locator_of word = do
  parts ← parts_at 58 word
  address ← address_of parts.0
  port ← number_below 65536 parts.1
  if port == 0 then None else Some (record { address = address; port = port })
