-- How the program ends.
use Rattle.std.specs.Prelude.{ℕ}
use Rattle.dds_participant.specs.declared.failure.Failure.{Failure}
use Rattle.dds_participant.specs.declared.failure.Failure.TheVariants.{Words}

-- the exit status: 2 for wrong words, 1 for all else
abbrev pub exit_of : Failure → ℕ
exit_of (Words cause) = 2
exit_of _ = 1
