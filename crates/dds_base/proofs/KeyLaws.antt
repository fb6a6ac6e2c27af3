-- The test of two keys says whether they are one.
use Rattle.std.proofs.Common.{◌≡◌, ℕ, List, true, sym, ap, refl}
use Rattle.std.specs.Prelude.{nat_eq}
use Rattle.std.specs.Bool.{Decides}
use Rattle.std.proofs.lemmas.Bool.Decides.{Decides-eqb, Decides-like, same_from_decides}
use Rattle.std.proofs.lemmas.Slice.Eq.{slice_eq-Decides}
use Rattle.dds_base.specs.declared.key.Key.{Key}
use Rattle.dds_base.specs.Happening.{same_key}

pub key-Decides : (a b : Key) → Decides (same_key a b) (a ≡ b)
key-Decides a b =
    let lists : Decides (same_key a b) (a.0 ≡ b.0) =
    slice_eq-Decides {E = nat_eq} Decides-eqb a.0 b.0 (same_key a b) refl in
    (λ e. ap (λ (xs : List ℕ). record { 0 = xs }) (lists.0 e), λ e. lists.1 (ap (λ (k : Key). k.0) e))

pub key-same : (a b : Key) → same_key a b ≡ true → a ≡ b
key-same a b = (key-Decides a b).0

pub same_key-refl : (a : Key) → same_key a a ≡ true
same_key-refl a = (key-Decides a a).1 refl

pub same_key-comm : (a b : Key) → same_key a b ≡ same_key b a
same_key-comm a b =
    same_from_decides (same_key a b) (same_key b a) (key-Decides a b)
    (Decides-like (same_key b a) sym sym (key-Decides b a))
