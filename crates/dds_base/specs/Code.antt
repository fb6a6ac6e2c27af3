-- The numbers and names of the return codes (DDS 1.4, 2.2.1.1; 2.3.3: ReturnCode_t), and of this project's own three.
use Rattle.std.specs.Prelude.{ℕ, List, codes}
use Rattle.dds_base.specs.declared.code.Code.{Code}
use Rattle.dds_base.specs.declared.code.Code.TheVariants.{Ok, Error, Unsupported, BadParameter, PreconditionNotMet, OutOfResources, NotEnabled, ImmutablePolicy, InconsistentPolicy, AlreadyDeleted, Timeout, NoData, IllegalOperation, Memory, Link, Mismatch}

-- the number: below 100 that of the standard (2.3.3, ReturnCode_t), from 100 on this project's own
abbrev pub number_of_code : Code → ℕ
number_of_code Ok = 0
number_of_code Error = 1
number_of_code Unsupported = 2
number_of_code BadParameter = 3
number_of_code PreconditionNotMet = 4
number_of_code OutOfResources = 5
number_of_code NotEnabled = 6
number_of_code ImmutablePolicy = 7
number_of_code InconsistentPolicy = 8
number_of_code AlreadyDeleted = 9
number_of_code Timeout = 10
number_of_code NoData = 11
number_of_code IllegalOperation = 12
number_of_code Memory = 100
number_of_code Link = 101
number_of_code Mismatch = 103

-- the name, in the standard's spelling
abbrev pub name_of_code : Code → List ℕ
name_of_code Ok = codes "OK"
name_of_code Error = codes "ERROR"
name_of_code Unsupported = codes "UNSUPPORTED"
name_of_code BadParameter = codes "BAD_PARAMETER"
name_of_code PreconditionNotMet = codes "PRECONDITION_NOT_MET"
name_of_code OutOfResources = codes "OUT_OF_RESOURCES"
name_of_code NotEnabled = codes "NOT_ENABLED"
name_of_code ImmutablePolicy = codes "IMMUTABLE_POLICY"
name_of_code InconsistentPolicy = codes "INCONSISTENT_POLICY"
name_of_code AlreadyDeleted = codes "ALREADY_DELETED"
name_of_code Timeout = codes "TIMEOUT"
name_of_code NoData = codes "NO_DATA"
name_of_code IllegalOperation = codes "ILLEGAL_OPERATION"
name_of_code Memory = codes "MEMORY"
name_of_code Link = codes "LINK"
name_of_code Mismatch = codes "MISMATCH"
