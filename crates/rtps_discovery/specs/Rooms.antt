-- Room for a newcomer, as the code finds it. Inner functions alone cite this: nothing here has to be believed.
use Rattle.std.specs.Prelude.{◌≡◌, ◌<◌, List, [], ◌∷◌, ◌++◌, length, remove, Option, Some, None, unwrap_or}
use Rattle.std.specs.Option.{option_map}
use Rattle.rtps_discovery.specs.declared.row.Row.{Row}
use Rattle.rtps_discovery.specs.declared.table.Room.{Room}
use Rattle.rtps_discovery.specs.declared.table.Room.TheVariants.{Enough, Made, Missing}

-- The rows that a newcomer's row stands behind, where there is room.
abbrev pub Leaves : List Row → Room → Option (List Row) → Type 0
Leaves rows Enough o = o ≡ Some rows
Leaves rows (Made place) o = (place < length rows) × (o ≡ Some (remove rows place))
Leaves rows Missing o = o ≡ None

-- the rows with a newcomer's behind them
abbrev pub placed : List Row → Option (List Row) → Row → List Row
placed rows o newcomer = unwrap_or (option_map (λ (kept : List Row). kept ++ newcomer ∷ []) o) rows
