-- What is claimed of each row is so where one more writer is known, and where one is known no more.
use Rattle.std.proofs.Common.{ℕ, suc, Bool, true, false, cond, List, [], ◌∷◌, ◌++◌, Option, Some, None, take, drop}
use Rattle.std.specs.Prelude.{is_some, remove}
use Rattle.std.specs.Option.{option_map_or}
use Rattle.std.specs.List.{All, position}
use Rattle.std.proofs.lemmas.List.Elements.{All-append, All-drop, All-push, All-take}
use Rattle.dds_base.specs.declared.guid.Guid.{Guid}
use Rattle.rtps_fragments.specs.Hearing.{Row, forgetting, is_row, knowing}

pub known_all : (P : Row → Type 0) (rows : List Row) (w : Guid) → P (record { writer = w; kept = [] }) → All P rows
    → All P (knowing rows w)
known_all P rows w none all = by_there (is_some (position (is_row w.prefix w.entity) rows))
  where
    by_there : (b : Bool) → All P (cond b rows (rows ++ record { writer = w; kept = [] } ∷ []))
    by_there true = all
    by_there false = All-push P rows (record { writer = w; kept = [] }) all none

pub forgotten_all : (P : Row → Type 0) (rows : List Row) (w : Guid) → All P rows → All P (forgetting rows w)
forgotten_all P rows w all = by_place (position (is_row w.prefix w.entity) rows)
  where
    by_place : (o : Option ℕ) → All P (option_map_or (λ i. remove rows i) o rows)
    by_place None = all
    by_place (Some i) =
        All-append P (take i rows) (drop (suc i) rows) (All-take P i rows all) (All-drop P (suc i) rows all)
