-- it was entered in the registrations so far, the others are as they were
use Rattle.std.proofs.Common.{◌≡◌, ◌++◌, map, take, drop}
use Rattle.dds_owner.specs.Registration.{entered}
use Rattle.dds_owner.proofs.registration.enter_all.Given as goal

abbrev pub invariant-loop-r : goal.invariant-loop-r
invariant-loop-r l =
    l.registrations
    ≡ map (entered l.is_registered l.writer) (take l.r-index l.fn.registrations)
    ++ drop l.r-index l.fn.registrations
