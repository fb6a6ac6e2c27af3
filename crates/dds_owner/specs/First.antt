-- Which writer comes first of those that are registered, and when one that is kept as the owner is. Inner functions alone
-- cite this: nothing here has to be believed.
--
-- DDS 1.4, 2.2.3 (OWNERSHIP, OWNERSHIP_STRENGTH).
use Rattle.std.specs.Prelude.{◌≡◌, ℕ, ◌≤◌, List, Bool, true, ◌||◌, ◌==◌, not, Option, Some, None}
use Rattle.std.specs.List.{list_all}
use Rattle.dds_base.specs.declared.happening.Happening.{Happening}
use Rattle.dds_base.specs.declared.qos.ReaderQos.{ReaderQos}
use Rattle.dds_base.specs.Ownership.{Precedence, is_above, precedence_of}
use Rattle.dds_owner.specs.declared.ranking.KeptOwner.{KeptOwner}
use Rattle.dds_owner.specs.declared.registration.Registration.{Registration}
use Rattle.dds_owner.specs.Registration.{has_writer}
use Rattle.dds_owner.specs.Restrengthening.{strength_changes}

-- the writer need not give way to that of r, by what the order of writers looks at in each
abbrev pub gives_way : (ℕ → Option Precedence) → ℕ → Registration → Bool
gives_way order w r = not r.is_registered || ((r.writer == w) || is_above (order w) (order r.writer))

-- writer w is registered, and comes before all others that are
pub record ComesFirst (order : ℕ → Option Precedence) (rs : List Registration) (w : ℕ) : Type 0 where
  pub is_there : has_writer w rs ≡ true
  pub is_first : list_all (gives_way order w) rs ≡ true

-- the owner that is kept comes first, unless a strength has changed since
abbrev pub IsKeptOwner : Option KeptOwner → ReaderQos → List Registration → List Happening → Type 0
IsKeptOwner None q rs h = Unit {0}
IsKeptOwner (Some o) q rs h =
    (o.changes ≤ strength_changes h)
    × (o.changes ≡ strength_changes h → ComesFirst (precedence_of q h) rs o.writer)
