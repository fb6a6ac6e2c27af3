-- those so far
use Rattle.std.proofs.Common.{◌≡◌, filter, take}
use Rattle.dds_domain.specs.Matched.{is_matched_end}
use Rattle.dds_domain.proofs.matched.matched_ends.Given as goal

abbrev pub invariant-loop-end : goal.invariant-loop-end
invariant-loop-end l = l.ends.items ≡ filter (is_matched_end l.own l.far) (take l.end-index l.named)
