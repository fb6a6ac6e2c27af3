-- Two fields as one, and a field of another type. Inner functions alone cite this: nothing here has to be believed.
--
-- RTPS 2.5, 9.3 and 9.4.
use Rattle.std.specs.Prelude.{ℕ, List, Option, Some}
use Rattle.dds_base.specs.Fields.{◌>>=◌}

-- one field, and then another
abbrev pub both : {X Y : Type 0} → (List ℕ → Option (X × List ℕ)) → (List ℕ → Option (Y × List ℕ)) → List ℕ
    → Option ((X × Y) × List ℕ)
both first second bytes = do
  x ← first bytes
  y ← second x.1
  Some ((x.0, y.0), y.1)

-- a field seen as another type
abbrev pub mapped : {X Y : Type 0} → (X → Y) → (List ℕ → Option (X × List ℕ)) → List ℕ → Option (Y × List ℕ)
mapped f field bytes = do
  x ← field bytes
  Some (f x.0, x.1)
