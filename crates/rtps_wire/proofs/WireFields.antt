-- The fields of submessages are read as they were written.
use Rattle.std.proofs.Common.{◌≡◌, ℕ, ◌+◌, ◌*◌, ◌/◌, ◌%◌, ◌^◌, ◌<◌, ◌≤◌, false, cond, ltb, List, ◌++◌, length, Some, None, refl, ap, subst, ◌∙◌, append_assoc, arith, ℤ, pos, negsuc}
use Rattle.std.specs.Prelude.{FitsSigned}
use Rattle.std.specs.Int.{w16, w32, cast_signed, cast_unsigned}
use Rattle.std.proofs.lemmas.Bool.{ltb-false, le-ltb}
use Rattle.std.proofs.lemmas.Option.{option_and_then_some}
use Rattle.std.proofs.lemmas.Int.{of_z-to_z, to_z-of_z}
use borrow.Author.Gap.{read_sfits}
use Rattle.dds_base.specs.declared.endianness.Endianness.{Endianness}
use Rattle.dds_base.specs.declared.endianness.Endianness.TheVariants.{Big, Little}
use Rattle.dds_base.specs.declared.guid.EntityId.{EntityId}
use Rattle.dds_base.specs.declared.guid.GuidPrefix.{GuidPrefix}
use Rattle.dds_base.specs.Fields.{number, number_at, ◌>>=◌}
use Rattle.dds_base.proofs.FieldLaws.{AreOctets, Takes, Takes-then, IsField, guard_some, some_is, field_u32, field_octets, field_mapped}
use Rattle.rtps_wire.specs.FieldAt.{entity_id_at, prefix_at, sn_at, count_at}
use Rattle.rtps_wire.specs.Fields.{sn_text, count_text}

-- a length of a submessage, or of a parameter, takes two octets, and a strength four
pub len_16 : (order : Endianness) (n : ℕ) → length (number order w16 n) ≡ 2
len_16 Big n = refl
len_16 Little n = refl

pub len_32 : (order : Endianness) (n : ℕ) → length (number order w32 n) ≡ 4
len_32 Big n = refl
len_32 Little n = refl

pub field_entity_id : IsField (λ (e : EntityId). e.0) (λ e. length e.0 ≡ 4) entity_id_at
unfolding entity_id_at
field_entity_id =
    field_mapped (field_octets 4) (λ x. record { 0 = x }) (λ e. e.0) (λ e. length e.0 ≡ 4) (λ x h. (refl, h))
    (λ e h. (refl, h))

pub field_prefix : IsField (λ (e : GuidPrefix). e.0) (λ e. length e.0 ≡ 12) prefix_at
unfolding prefix_at
field_prefix =
    field_mapped (field_octets 12) (λ x. record { 0 = x }) (λ e. e.0) (λ e. length e.0 ≡ 12) (λ x h. (refl, h))
    (λ e h. (refl, h))

count_below : (z : ℤ) → FitsSigned w32 z → cast_unsigned w32 z < 2 ^ 32
count_below (pos n) h = omega (arith, h)
count_below (negsuc n) h = omega (arith, h)

pub field_count : (order : Endianness) → IsField (count_text order) (λ z. FitsSigned w32 z) (count_at order)
unfolding count_at
field_count order =
    field_mapped (field_u32 order) (cast_signed w32) (cast_unsigned w32) (λ z. FitsSigned w32 z)
    (λ n h. (of_z-to_z w32 n h, read_sfits w32 n)) (λ z h. (to_z-of_z w32 z h, count_below z h))

-- the halves of a number that is made of two
high_is : (h l : ℕ) → l < 2 ^ 32 → (h * 2 ^ 32 + l) / 2 ^ 32 ≡ h
high_is h l lt = omega arith

low_is : (h l : ℕ) → l < 2 ^ 32 → (h * 2 ^ 32 + l) % 2 ^ 32 ≡ l
low_is h l lt = omega arith

pub halves_are : (n : ℕ) → (n / 2 ^ 32) * 2 ^ 32 + n % 2 ^ 32 ≡ n
halves_are n = omega arith

pub halves_text : (order : Endianness) (h l : ℕ) → l < 2 ^ 32
    → sn_text order (h * 2 ^ 32 + l) ≡ number order w32 h ++ number order w32 l
halves_text order h l lt = rw (high_is h l lt, low_is h l lt) refl

sn_takes : (order : Endianness) (bytes : List ℕ) (n : ℕ) (rest : List ℕ) → AreOctets bytes
    → sn_at order bytes ≡ Some (n, rest)
    → Takes bytes (sn_text order n) rest × (n ≤ 2 ^ 62)
unfolding sn_at
sn_takes order bytes n rest octets e =
    option_and_then_some (λ high. number_at order w32 high.1 >>= λ low. cond
    (ltb (2 ^ 62) (high.0 * 2 ^ 32 + low.0)) None (Some (high.0 * 2 ^ 32 + low.0, low.1)))
    (number_at order w32 bytes) (n, rest) e (λ high q1 e1.
    let t0 = (field_u32 order).takes bytes high.0 high.1 octets q1 in
    option_and_then_some (λ low. cond (ltb (2 ^ 62) (high.0 * 2 ^ 32 + low.0)) None
    (Some (high.0 * 2 ^ 32 + low.0, low.1))) (number_at order w32 high.1) (n, rest) e1 (λ low q2 e2.
    let t1 = (field_u32 order).takes high.1 low.0 low.1 t0.0.octets q2 in
    let made : ℕ × List ℕ = (high.0 * 2 ^ 32 + low.0, low.1) in
    let g = guard_some (ltb (2 ^ 62) (high.0 * 2 ^ 32 + low.0)) (Some made) (n, rest) e2 in
    let both = Takes-then bytes (number order w32 high.0) high.1 (number order w32 low.0) low.1 t0.0 t1.0 in
    let whole : Takes bytes (sn_text order (high.0 * 2 ^ 32 + low.0)) low.1 =
    rw (halves_text order high.0 low.0 t1.1) both in
    subst (λ (p : ℕ × List ℕ). Takes bytes (sn_text order p.0) p.1 × (p.0 ≤ 2 ^ 62)) (some_is made (n, rest) g.1)
    (whole, ltb-false _ _ g.0)))

sn_again : (order : Endianness) (n : ℕ) (rest : List ℕ) → n ≤ 2 ^ 62
    → sn_at order (sn_text order n ++ rest) ≡ Some (n, rest)
unfolding sn_at
sn_again order n rest le =
    let high : n / 2 ^ 32 < 2 ^ 32 = omega arith in
    let low : n % 2 ^ 32 < 2 ^ 32 = omega arith in
    let small : ltb (2 ^ 62) n ≡ false = le-ltb _ _ le in
    ap (sn_at order) (append_assoc (number order w32 (n / 2 ^ 32)) (number order w32 (n % 2 ^ 32)) rest)
    ∙ rw (
      (field_u32 order).again (n / 2 ^ 32) (number order w32 (n % 2 ^ 32) ++ rest) high,
      (field_u32 order).again
          (n % 2 ^ 32) rest low,
      halves_are n,
      small,
    ) refl

-- a sequence number
pub field_sn : (order : Endianness) → IsField (sn_text order) (λ n. n ≤ 2 ^ 62) (sn_at order)
field_sn order = record { takes = sn_takes order; again = sn_again order }
