-- What lines say, and how they are answered.
use Rattle.std.specs.Prelude.{ℕ, ◌++◌, List, codes, Result, Ok, Err}
use Rattle.std.specs.Fmt.{decimal}
use Rattle.dds_base.specs.declared.code.Code.{Code}
use Rattle.dds_base.specs.Code.{number_of_code}

-- how a line was answered, with the number of a return code (DDS 1.4, 2.3.3: ReturnCode_t)
abbrev pub reply_line : Result (Unit {0}) Code → List ℕ
reply_line (Ok done) = codes "reply ok\n"
reply_line (Err code) = codes "reply code " ++ decimal (number_of_code code) ++ codes "\n"
