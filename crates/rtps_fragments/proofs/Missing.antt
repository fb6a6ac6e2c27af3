-- Words of the fragments that are missing, and how many fragments a payload has.
use Rattle.std.proofs.Common.{add-one, ◌≡◌, ◌≤◌, ◌<◌, ℕ, zero, suc, ◌+◌, ◌-◌, ◌*◌, ◌^◌, Bool, true, false, not, cond, List, ◌++◌, slice_index_or, refl, sym, ap, ◌∙◌, subst, arith, pow-suc, append_assoc}
use Rattle.std.proofs.lemmas.Nat.{div_below}
use Rattle.std.specs.Int.{w32}
use Rattle.dds_base.specs.Fields.{number}
use Rattle.dds_base.specs.declared.endianness.Endianness.TheVariants.{Little}
use Rattle.rtps_fragments.specs.DataFrag.{count_of}
use Rattle.rtps_fragments.specs.NackFrag.{missing_word, missing_words}

-- one more bit
pub word_more : (came : List Bool) (place n word bit : ℕ) → word ≡ missing_word came place n
    → bit ≡ cond (slice_index_or came (place + n) true) 0 1 → 2 * word + bit ≡ missing_word came place (n + 1)
unfolding missing_word
word_more came place n word bit is at =
    let here : 2 * word + bit ≡ missing_word came place (suc n) = rw (is, at) refl in
    here ∙ ap (missing_word came place) (sym (add-one n))

-- one more word
pub words_more : (came : List Bool) (place n : ℕ) (out before after : List ℕ)
    → before ≡ out ++ missing_words came place n
    → after ≡ before ++ number Little w32 (missing_word came (place + 32 * n) 32)
    → after ≡ out ++ missing_words came place (n + 1)
unfolding missing_words
words_more came place n out before after is e =
    let here : after ≡ out ++ missing_words came place (suc n) =
    e
    ∙ (ap (λ (z : List ℕ). z ++ number Little w32 (missing_word came (place + 32 * n) 32)) is
    ∙ append_assoc out (missing_words came place n) (number Little w32 (missing_word came (place + 32 * n) 32))) in
    here ∙ ap (λ (m : ℕ). out ++ missing_words came place m) (sym (add-one n))

-- the bit of a fragment
pub bit_missing : (came r b : Bool) (bit : ℕ) → r ≡ not came → r ≡ b → bit ≡ cond b 1 0 → bit ≡ cond came 0 1
bit_missing true r true bit is e at = absurd (omega (arith, ap {B = ℕ} (λ (b : Bool). cond b 1 0) (sym e ∙ is)))
bit_missing true r false bit is e at = at
bit_missing false r true bit is e at = at
bit_missing false r false bit is e at = absurd (omega (arith, ap {B = ℕ} (λ (b : Bool). cond b 1 0) (sym e ∙ is)))

pub bit_small : (came : Bool) (bit : ℕ) → bit ≡ cond came 0 1 → bit ≤ 1
bit_small true bit is = omega (arith, is)
bit_small false bit is = omega (arith, is)

pub below_more : (n word bit : ℕ) → word < 2 ^ n → bit ≤ 1 → 2 * word + bit < 2 ^ (n + 1)
below_more n word bit lt le =
    subst (λ (m : ℕ). 2 * word + bit < 2 ^ m) (sym (add-one n)) (omega (arith, lt, le, pow-suc 2 n))

-- a payload has at most as many fragments as octets
pub few_fragments : (size whole : ℕ) → count_of whole size ≤ whole
few_fragments zero whole = omega arith
few_fragments (suc s) whole =
    let lt = div_below (whole + suc s - 1) (suc s) (whole + 1) (omega arith) (grind arith) in
    omega (arith, lt)
