-- What `split_once` gives, in the words of the specs.
use Rattle.std.proofs.Common.{◌≡◌, ◌<◌, ◌==◌, ℕ, List, length, ap, sym, ◌∙◌, Option, Some, None, if◌then◌else◌, Bor, arith}
use Rattle.std.proofs.lemmas.Bool.{lt-ltb, le-ltb}
use Rattle.std.proofs.lemmas.Str.Pattern.{split_once_first, IsSplitOnceResult}
use Rattle.std.specs.List.{position_or_len, before_first, after_first}
use Rattle.std.specs.Option.{option_map}
use Rattle.discovery_script.specs.Addresses.{parts_at}

-- the parts round the first such character
pub split_is : (c : ℕ) (word : List ℕ) (r : Option (Bor (List ℕ) × Bor (List ℕ))) → IsSplitOnceResult c word r → c < 128
    → option_map (λ x. (x.0.now, x.1.now)) r ≡ parts_at c word
split_is c word None split small =
    let place = split_once_first c word None split small in
    sym (ap (λ t. if t then Some (before_first (λ b. b == c) word, after_first (λ b. b == c) word) else None)
    (le-ltb (position_or_len (λ b. b == c) word) (length word) (omega (arith, place))))
split_is c word (Some x) split small =
    let place = split_once_first c word (Some x) split small in
    ap (λ a. Some (a, x.1.now)) place.1 ∙ ap (λ b. Some (before_first (λ b. b == c) word, b)) place.2
    ∙ sym (ap (λ t. if t then Some (before_first (λ b. b == c) word, after_first (λ b. b == c) word) else None)
    (lt-ltb (position_or_len (λ b. b == c) word) (length word) place.0))
