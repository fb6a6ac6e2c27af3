-- How a GAP goes on while answers are made. Inner functions alone cite this: nothing here has to be believed.
--
-- RTPS 2.5, 8.3.8 (Gap).
use Rattle.std.specs.Prelude.{ℕ, ◌+◌, ◌==◌, List, ◌∷◌, Option, None, Some, if◌then◌else◌}
use Rattle.rtps_writer.specs.declared.answer.Answer.{Answer}
use Rattle.rtps_writer.specs.declared.answer.Answer.TheVariants.{Gap}

-- the last number of the first answer, where that is a GAP that begins with the next number
abbrev pub gap_after : ℕ → List Answer → Option ℕ
gap_after n (Gap first last ∷ rest) = if first == n + 1 then Some last else None
gap_after n rest = None
