-- What a loop over submessages appends. Inner functions alone cite this: nothing here has to be believed.
use Rattle.std.specs.Prelude.{◌≡◌, ℕ, List, ◌++◌, flat_map}
use Rattle.rtps_adapter.specs.Adapting.{StandsIn}
use Rattle.rtps_adapter.specs.Turning.{Piece}
use Rattle.dds_builtin.specs.Kinds.{Kinds, turned_text}

-- the submessages of a body were appended, with their kinds turned, and what is not read behind them
pub record PutsTurned (reader writer : Kinds) (body old new : List ℕ) : Type 0 where
  pub pieces : List Piece
  pub left : List ℕ
  pub stands : StandsIn body pieces left
  pub text : new ≡ old ++ (flat_map (turned_text reader writer) pieces ++ left)
