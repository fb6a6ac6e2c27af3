-- Two of them are one where the test of them says so.
use Rattle.std.proofs.Common.{◌≡◌, ℕ, true, ◌&&◌, ◌==◌, Option, Some, None, List, length, ◌<◌, refl, ap, ◌∙◌, eqb-true, sym}
use Rattle.std.specs.Option.{option_eq}
use Rattle.std.specs.Prelude.{Contains, nat_eq, slice_index_or}
use Rattle.std.proofs.lemmas.Bool.{and_parts}
use Rattle.dds_core.specs.declared.misses.Miss.{Miss}

same_option : (a b : Option ℕ) → option_eq nat_eq a b ≡ true → a ≡ b
same_option None None e = refl
same_option None (Some y) e = absurd cc
same_option (Some x) None e = absurd cc
same_option (Some x) (Some y) e = ap (λ (n : ℕ). Some n) (eqb-true x y e)

pub same_miss : (a b : Miss)
    → ((a.reader == b.reader) && (((a.masks.samples.0 == b.masks.samples.0) && ((a.masks.views.0 == b.masks.views.0)
    && (a.masks.instances.0 == b.masks.instances.0))) && (option_eq nat_eq a.filter b.filter && (a.entries == b.entries))))
    ≡ true → a ≡ b
same_miss a b e =
    let one = and_parts (a.reader == b.reader) _ e in
    let two = and_parts ((a.masks.samples.0 == b.masks.samples.0) && ((a.masks.views.0 == b.masks.views.0)
    && (a.masks.instances.0 == b.masks.instances.0))) _ one.1 in
    let samples = and_parts (a.masks.samples.0 == b.masks.samples.0) _ two.0 in
    let views = and_parts (a.masks.views.0 == b.masks.views.0) _ samples.1 in
    let three = and_parts (option_eq nat_eq a.filter b.filter) _ two.1 in
    ap (λ (n : ℕ). record a { reader = n }) (eqb-true a.reader b.reader one.0)
    ∙ (ap (λ (n : ℕ). record b { masks = record a.masks { samples = record { 0 = n } }; filter = a.filter; entries = a.entries })
    (eqb-true a.masks.samples.0 b.masks.samples.0 samples.0)
    ∙ (ap (λ (n : ℕ). record b { masks = record a.masks { samples = b.masks.samples; views = record { 0 = n } }; filter = a.filter; entries = a.entries })
    (eqb-true a.masks.views.0 b.masks.views.0 views.0)
    ∙ (ap (λ (n : ℕ). record b { masks = record b.masks { instances = record { 0 = n } }; filter = a.filter; entries = a.entries })
    (eqb-true a.masks.instances.0 b.masks.instances.0 views.1)
    ∙ (ap (λ (o : Option ℕ). record b { filter = o; entries = a.entries }) (same_option a.filter b.filter three.0)
    ∙ ap (λ (n : ℕ). record b { entries = n }) (eqb-true a.entries b.entries three.1)))))

-- one that is found at a place, and is this one, is among them
pub among : (xs : List Miss) (i : ℕ) (known miss : Miss) → i < length xs
    → ((d : Miss) → known ≡ slice_index_or xs i d) → known ≡ miss → Contains xs miss
among xs i known miss within at is = (i, within, sym (at miss) ∙ is)
