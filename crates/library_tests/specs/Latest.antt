-- What a listener keeps that keeps the latest notice alone.
--
-- DDS 1.4, 2.2.4.3 (access through listeners).
use Rattle.std.specs.Prelude.{List, [], ◌∷◌, Option, None, Some}

-- the notice, if there is one
abbrev pub list_of : {X : Type 0} → Option X → List X
list_of None = []
list_of (Some x) = x ∷ []
