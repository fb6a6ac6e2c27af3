-- fragments alone change, and memory may have been wanting
use Rattle.std.proofs.Common.{◌≡◌}
use Rattle.dds_domain.specs.Turns.{MayLack}
use Rattle.dds_domain.proofs.sharing.Sharing.know_these.Given as goal

abbrev pub invariant-loop-end : goal.invariant-loop-end
invariant-loop-end l = record {
  rest : l.self ≡ record l.initial.self { fragments = l.self.fragments };
  memory : MayLack l.initial.turn l.turn;
}
