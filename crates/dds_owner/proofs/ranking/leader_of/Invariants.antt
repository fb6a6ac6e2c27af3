-- the leader of those so far goes on through the others
use Rattle.std.proofs.Common.{◌≡◌, None, drop}
use Rattle.dds_owner.specs.Ranking.{leader_among, order_by}
use Rattle.dds_owner.proofs.ranking.leader_of.Given as goal

abbrev pub invariant-loop-r : goal.invariant-loop-r
invariant-loop-r l =
    leader_among (order_by l.qos l.strengths None) None l.registrations
    ≡ leader_among (order_by l.qos l.strengths None) l.leader (drop l.r-index l.registrations)
