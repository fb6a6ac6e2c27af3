-- those so far are announced
use Rattle.std.proofs.Common.{◌≡◌}
use Rattle.std.specs.List.{fold}
use Rattle.dds_domain.specs.Participants.{adding}
use Rattle.dds_domain.proofs.participant.add_all.Given as goal

abbrev pub invariant-loop-end : goal.invariant-loop-end
invariant-loop-end l = l.discovery ≡ fold adding l.initial.discovery l.yielded
