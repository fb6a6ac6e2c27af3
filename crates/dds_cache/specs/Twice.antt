-- An answer that is given twice.
--
-- DDS 1.4, 2.2.2.5 (read, take).
use Rattle.std.specs.Prelude.{List, Result, Ok, Err}
use Rattle.dds_base.specs.declared.code.Code.{Code}
use Rattle.dds_base.specs.declared.sample.Sample.{Sample}

-- the first one of two
abbrev pub first_of : Result (List Sample × List Sample) Code → Result (List Sample) Code
first_of (Ok pair) = Ok pair.0
first_of (Err code) = Err code
