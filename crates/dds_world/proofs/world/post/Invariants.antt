use Rattle.dds_world.specs.Posting.{Posts}
use Rattle.dds_world.proofs.world.post.Given as goal

abbrev pub invariant-loop-packet : goal.invariant-loop-packet
invariant-loop-packet l = Posts l.initial.sent.items l.yielded l.sent.items
