-- Where the value of a datum stands.
use Rattle.std.proofs.Common.{◌≡◌, ◌≤◌, ℕ, ◌+◌, ◌-◌, List, [], ◌∷◌, ◌++◌, length, get_or, take, drop, Some, refl, sym, ap, ◌∙◌, append_assoc, arith}
use Rattle.std.specs.Int.{w32}
use Rattle.std.proofs.lemmas.List.{take_at, take_all, drop_at, length-append}
use Rattle.dds_base.specs.declared.datum.Datum.{Datum}
use Rattle.dds_base.specs.declared.key.Key.{Key}
use Rattle.dds_base.specs.declared.endianness.Endianness.{Endianness}
use Rattle.dds_base.specs.declared.endianness.Endianness.TheVariants.{Big, Little}
use Rattle.dds_base.specs.Fields.{number}
use Rattle.dds_base.specs.DatumText.{ReadsDatum, ReadsKey, key_text, representation}
use Rattle.rtps_wire.specs.Submessages.{padding}
use Rattle.rtps_adapter.specs.declared.payload.NewPayload.{NewPayload}
use Rattle.rtps_adapter.specs.PayloadText.{new_text, body_with}

front_length : (order : Endianness) (options k : List ℕ) (n : ℕ) → length options ≡ 2 → length k ≡ 16
    → length (key_text order options (record { 0 = k }) ++ number order w32 n) ≡ 24
front_length Big options k n two len = simp length-append (omega (arith, two, len))
front_length Little options k n two len = simp length-append (omega (arith, two, len))

-- the value stands behind 24 octets
pub value_there : (bytes : List ℕ) (d : Datum) (n : ℕ) → n ≡ length d.value → ReadsDatum bytes d
    → take (24 + n - 24) (drop 24 bytes) ≡ d.value
value_there bytes d n is r =
    let head = key_text r.order r.options d.key ++ number r.order w32 (length d.value) in
    let parts : bytes ≡ head ++ (d.value ++ r.rest) =
    r.text ∙ append_assoc head d.value r.rest in
    let len : length head ≡ 24 = front_length r.order r.options d.key.0 (length d.value) r.two r.valid.key in
    let back : drop 24 bytes ≡ d.value ++ r.rest =
    ap (drop 24) parts ∙ drop_at head (d.value ++ r.rest) 24 len in
    let many : 24 + n - 24 ≡ length d.value = omega (arith, is) in
    rw (many, back) (take_at d.value r.rest (length d.value) refl)

-- a body is not shorter than the payload that it has
pub body_le : (front : List ℕ) (payload : NewPayload)
    → length (new_text payload) ≤ length (body_with front (Some payload))
body_le front payload =
    omega (
      arith,
      length-append (front ++ new_text payload) (padding (length (front ++ new_text payload))),
      length-append front (new_text payload),
    )

-- the octets of a key form stand behind four
pub key_octets_there : (bytes : List ℕ) (k : Key) → ReadsKey bytes k → take 16 (drop 4 bytes) ≡ k.0
key_octets_there bytes k r =
    let head = representation r.order ++ r.options in
    let parts : bytes ≡ (representation r.order ++ r.options) ++ (k.0 ++ r.rest) =
    r.text ∙ append_assoc (representation r.order ++ r.options) k.0 r.rest in
    let len : length (representation r.order ++ r.options) ≡ 4 = four r.order r.options r.two in
    rw (ap (drop 4) parts ∙ drop_at (representation r.order ++ r.options) (k.0 ++ r.rest) 4 len)
    (take_at k.0 r.rest 16 r.valid)
  where
    four : (order : Endianness) (options : List ℕ) → length options ≡ 2
        → length (representation order ++ options) ≡ 4
    four Big options two = omega (arith, two)
    four Little options two = omega (arith, two)

-- four octets, and others
pub four_first : (head body : List ℕ) → length head ≡ 4
    → head ++ body ≡ get_or head 0 0 ∷ get_or head 1 0 ∷ get_or head 2 0 ∷ get_or head 3 0 ∷ body
four_first (a ∷ b ∷ c ∷ d ∷ []) body len = refl
four_first [] body len = absurd (omega arith)
four_first (a ∷ []) body len = absurd (omega arith)
four_first (a ∷ b ∷ []) body len = absurd (omega arith)
four_first (a ∷ b ∷ c ∷ []) body len = absurd (omega arith)
four_first (a ∷ b ∷ c ∷ d ∷ e ∷ more) body len = absurd (omega arith)

-- the first four octets of some, and the others
pub four_of : (bytes : List ℕ) → 4 ≤ length bytes
    → bytes ≡ get_or bytes 0 0 ∷ get_or bytes 1 0 ∷ get_or bytes 2 0 ∷ get_or bytes 3 0
    ∷ take (length bytes - 4) (drop 4 bytes)
four_of (a ∷ b ∷ c ∷ d ∷ body) le =
    ap (λ (z : List ℕ). a ∷ b ∷ c ∷ d ∷ z)
    (sym (take_all (length (a ∷ b ∷ c ∷ d ∷ body) - 4) body (omega arith)))
four_of [] le = absurd (omega arith)
four_of (a ∷ []) le = absurd (omega arith)
four_of (a ∷ b ∷ []) le = absurd (omega arith)
four_of (a ∷ b ∷ c ∷ []) le = absurd (omega arith)
