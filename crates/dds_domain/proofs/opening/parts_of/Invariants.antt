-- those so far
use Rattle.std.proofs.Common.{◌≡◌}
use Rattle.std.specs.List.{fold}
use Rattle.dds_domain.specs.Opening.{no_parts, with_end}
use Rattle.dds_domain.proofs.opening.parts_of.Given as goal

abbrev pub invariant-loop-one : goal.invariant-loop-one
invariant-loop-one l = l.parts ≡ fold with_end no_parts l.yielded
