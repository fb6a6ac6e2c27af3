-- the infos of what is done are there, the last first, and what is known of the first of it
use Rattle.std.proofs.Common.{◌≡◌, ◌≤◌, ◌-◌, length, drop, reverse}
use Rattle.std.specs.List.{All}
use Rattle.dds_base.specs.declared.sample.Picked.{Picked}
use Rattle.dds_base.specs.Access.{infos_of}
use Rattle.dds_info.specs.Followers.{IsFirstFollowed}
use Rattle.dds_info.proofs.fill.Given as goal

abbrev pub invariant-loop-done : goal.invariant-loop-done
invariant-loop-done l = record {
  infos : l.infos.items ≡ reverse (infos_of (drop (length l.picked - l.done) l.picked));
  next : IsFirstFollowed (drop (length l.picked - l.done) l.picked) l.next;
  least : All (λ (p : Picked). l.least ≤ p.instance_handle) (drop (length l.picked - l.done) l.picked);
}
