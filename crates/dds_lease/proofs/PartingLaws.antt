-- Who is alive once a writer left.
use Rattle.std.proofs.Common.{◌≡◌, ◌≢◌, ℕ, List, ◌∷◌, Bool, true, false, not, ◌==◌, ◌&&◌, ◌||◌, ap, ◌∙◌, refl, None, ⊎_elim}
use Rattle.std.proofs.lemmas.Bool.{cases_Bool, eqb-true}
use Rattle.std.specs.Prelude.{if◌then◌else◌, is_some}
use Rattle.dds_base.specs.declared.happening.Happening.{Happening}
use Rattle.dds_base.specs.declared.happening.Happening.TheVariants.{Died, Left}
use Rattle.dds_base.specs.Life.{or_else}
use Rattle.dds_base.specs.Liveliness.{after_parting, alive_since, has_died, is_alive, is_dead}
use Rattle.dds_lease.proofs.TrackLaws.{same-number}

-- it died with the entry before, or was not alive
pub parted-alive : (w now : ℕ) (h : List Happening) → is_alive w (after_parting w now h) ≡ false
parted-alive w now h = by-alive (is_alive w h) refl
  where
    by-alive : (alive : Bool) → is_alive w h ≡ alive
        → is_alive w (Left w now ∷ (if alive then Died w now ∷ h else h)) ≡ false
    by-alive true is =
        ap (λ (b : Bool). is_some (if b then None else or_else None (alive_since w h))) (same-number w)
    by-alive false is = is

pub parted-dead : (w now : ℕ) (h : List Happening) → is_dead w (after_parting w now h) ≡ false
parted-dead w now h =
    let before : List Happening = if is_alive w h then Died w now ∷ h else h in
    ap (λ (b : Bool). (if b then false else has_died w before) && not (is_alive w before)) (same-number w)

other : (w v : ℕ) → w ≢ v → (w == v) ≡ false
other w v apart = ⊎_elim (λ same. absurd (apart (eqb-true w v same))) (λ differ. differ) (cases_Bool (w == v))

pub others-alive : (w v now : ℕ) (h : List Happening) → w ≢ v → is_alive v (after_parting w now h) ≡ is_alive v h
others-alive w v now h apart = by-alive (is_alive w h)
  where
    by-alive : (alive : Bool) → is_alive v (Left w now ∷ (if alive then Died w now ∷ h else h)) ≡ is_alive v h
    by-alive true =
        ap (λ (b : Bool). is_some (if b then None else or_else None (alive_since v h))) (other w v apart)
    by-alive false = refl

pub others-dead : (w v now : ℕ) (h : List Happening) → w ≢ v → is_dead v (after_parting w now h) ≡ is_dead v h
others-dead w v now h apart =
    ap (λ (b : Bool). died (is_alive w h) && not b) (others-alive w v now h apart)
    ∙ ap (λ (b : Bool). b && not (is_alive v h)) (by-alive (is_alive w h))
  where
    died : Bool → Bool
    died alive = has_died v (Left w now ∷ (if alive then Died w now ∷ h else h))

    by-alive : (alive : Bool) → died alive ≡ has_died v h
    by-alive true =
        ap (λ (b : Bool). if b then false else (b || has_died v h)) (other w v apart)
    by-alive false =
        ap (λ (b : Bool). if b then false else has_died v h) (other w v apart)
