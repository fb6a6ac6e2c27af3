-- the last one so far, or what is left, has the most recent
use Rattle.std.proofs.Common.{◌≡◌, ◌<◌, ◌^◌, drop}
use Rattle.std.specs.List.{filter}
use Rattle.dds_base.specs.Access.{last_or, is_of, own_generations}
use Rattle.dds_info.proofs.followers.most_recent_generations.Given as goal

abbrev pub invariant-loop-other : goal.invariant-loop-other
invariant-loop-other l = record {
  small : own_generations l.last < 2 ^ 64;
  rest : last_or l.last (filter (is_of l.sample.instance_handle) (drop l.other-index l.later))
      ≡ last_or l.sample (filter (is_of l.sample.instance_handle) l.later);
}
