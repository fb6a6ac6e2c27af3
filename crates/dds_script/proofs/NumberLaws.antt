-- Laws of numbers that words spell.
use Rattle.std.proofs.Common.{◌≡◌, ◌<◌, ◌≤◌, ◌+◌, ◌*◌, ◌^◌, ◌&&◌, ℕ, Bool, List, [], ◌∷◌, ◌++◌, take, length, get_or, ap, sym, refl, ◌∙◌, true, false, Option, Some, None, nat_lt, ◌-◌, Bor, MatchOption, if◌then◌else◌, arith}
use Rattle.std.proofs.lemmas.Bool.{lt-ltb, le-ltb}
use Rattle.std.proofs.lemmas.List.{take_more, take_all}
use Rattle.std.proofs.lemmas.List.Folds.{list_all_at, list_all_more}
use Rattle.std.proofs.lemmas.Str.Parse.{digits_value-take-le}
use Rattle.std.proofs.lemmas.Str.Pattern.{ends_text}
use Rattle.std.proofs.lemmas.Slice.Eq.{ends_is}
use Rattle.std.proofs.lemmas.Bool.Decides.{Decides-eqb}
use Rattle.std.specs.Option.{option_map}
use Rattle.std.specs.Str.Pattern.{FindsTextSuffix}
use Rattle.std.specs.Char.{digit_value, is_ascii_digit}
use Rattle.std.specs.List.{list_all}
use Rattle.std.specs.Str.Parse.{digits_value, digits_value_after}
use Rattle.dds_script.specs.Numbers.{before_end, decimal_of}

-- a digit behind a number
value_last : (n : ℕ) (ds : List ℕ) (d : ℕ) → digits_value_after 10 n (ds ++ d ∷ []) ≡ digits_value_after 10 n ds * 10 + digit_value d
value_last n [] d = refl
value_last n (c ∷ ds) d = value_last (n * 10 + digit_value c) ds d

-- the value of one digit more
pub value_more : (word : List ℕ) (i : ℕ) → i < length word
    → digits_value 10 (take (i + 1) word) ≡ digits_value 10 (take i word) * 10 + digit_value (get_or word i 0)
value_more word i within = ap (digits_value 10) (take_more word i 0 within) ∙ value_last 0 (take i word) (get_or word i 0)

-- digits, and one more
pub digits_more : (word : List ℕ) (i : ℕ) → i < length word
    → list_all is_ascii_digit (take i word) ≡ true → is_ascii_digit (get_or word i 0) ≡ true
    → list_all is_ascii_digit (take (i + 1) word) ≡ true
digits_more word i within before digit =
    list_all_more is_ascii_digit word i 0 within ∙ ap (λ b. b && is_ascii_digit (get_or word i 0)) before ∙ digit

-- what is chosen by three tests, where the second or the third fails, and where none does
third_fails : (a b c : Bool) (x : ℕ) → c ≡ false → (if a && b && c then Some x else None) ≡ None
third_fails true true c x e = ap (λ t. if t then Some x else None) e
third_fails true false c x e = refl
third_fails false true c x e = refl
third_fails false false c x e = refl

second_fails : (a b c : Bool) (x : ℕ) → b ≡ false → (if a && b && c then Some x else None) ≡ None
second_fails true b c x e = ap (λ t. if t && c then Some x else None) e
second_fails false true c x e = refl
second_fails false false c x e = refl

all_hold : (a b c : Bool) (x : ℕ) → a ≡ true → b ≡ true → c ≡ true → (if a && b && c then Some x else None) ≡ Some x
all_hold a b c x e f g = rw (e, f, g) refl

-- a number that grows beyond 64 bits at a digit is none
pub too_much : (word : List ℕ) (i n : ℕ) → i < length word → n ≡ digits_value 10 (take i word)
    → 2 ^ 64 ≤ n * 10 + digit_value (get_or word i 0) → decimal_of word ≡ None
too_much word i n within same much =
    let last = value_more word i within in
    let most = digits_value-take-le 10 word (i + 1) (omega arith) in
    third_fails (nat_lt 0 (length word)) (list_all is_ascii_digit word) (nat_lt (digits_value 10 word) (2 ^ 64)) (digits_value 10 word)
    (le-ltb _ _ (omega (arith, last, most, same, much)))

-- a word with another character than a digit is no number
pub no_digit : (word : List ℕ) (i : ℕ) → i < length word → is_ascii_digit (get_or word i 0) ≡ false → decimal_of word ≡ None
no_digit word i within other =
    second_fails (nat_lt 0 (length word)) (list_all is_ascii_digit word) (nat_lt (digits_value 10 word) (2 ^ 64)) (digits_value 10 word)
    (list_all_at is_ascii_digit word i 0 within other)

-- digits that are a number of 64 bits
pub number_of : (word : List ℕ) (i n : ℕ) → 0 < length word → length word ≤ i → n < 2 ^ 64
    → list_all is_ascii_digit (take i word) ≡ true → n ≡ digits_value 10 (take i word) → decimal_of word ≡ Some n
number_of word i n some end small digits same =
    let all = take_all i word end in
    let value : n ≡ digits_value 10 word = same ∙ ap (digits_value 10) all in
    all_hold (nat_lt 0 (length word)) (list_all is_ascii_digit word) (nat_lt (digits_value 10 word) (2 ^ 64)) (digits_value 10 word)
    (lt-ltb _ _ some) (ap (list_all is_ascii_digit) (sym all) ∙ digits) (lt-ltb _ _ (omega (arith, value, small)))
    ∙ ap Some (sym value)

-- what `strip_suffix` gives is what stands before the end
pub strip_is : (end word : List ℕ) (r : Option (Bor (List ℕ)))
    → MatchOption r (FindsTextSuffix end word None) (λ x. (n : ℕ) × FindsTextSuffix end word (Some n) × (x.now ≡ take (length word - n) word) × (length x.now + n ≡ length word))
    → option_map (λ x. x.now) r ≡ before_end end word
strip_is end word None h =
    sym (ap (λ t. if t then Some (take (length word - length end) word) else None) (sym (ends_text false end word h)))
strip_is end word (Some x) h =
    ap Some (h.2 ∙ ap (λ n. take (length word - n) word) h.1.0)
    ∙ sym (ap (λ t. if t then Some (take (length word - length end) word) else None)
    ((ends_is Decides-eqb word end _ refl).1 _ h.1.1))
