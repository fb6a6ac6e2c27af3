-- so many blanks were added as the loop went round
use Rattle.std.proofs.Common.{◌≤◌}
use Rattle.std.specs.Prelude.{vec_len}
use Rattle.dds_instances.specs.Following.{AreBlank}
use Rattle.dds_instances.proofs.keeping.add_blanks.Given as goal

abbrev pub invariant-loop : goal.invariant-loop
invariant-loop l = record {
  blank : AreBlank l.writers l.blanks.items;
  more : vec_len l.fn.blanks ≤ vec_len l.blanks;
  enough : l.counter ≤ vec_len l.blanks;
}
