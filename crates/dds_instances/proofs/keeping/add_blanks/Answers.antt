use Rattle.std.proofs.Common.{List, subst, sym, arith}
use Rattle.std.proofs.lemmas.List.Elements.{All-push}
use Rattle.dds_owner.specs.Standing.{IsBlank, Kept}
use Rattle.dds_instances.specs.Following.{AreBlank}
use Rattle.dds_instances.proofs.keeping.add_blanks.Goals as goal

pub returns-in_err-push-clause-blank : goal.returns-in_err-push-clause-blank
returns-in_err-push-clause-blank c =
    subst (λ (ks : List Kept). AreBlank c.args.writers ks) (sym c.in_err-push.ensures.items) c.loop.invariant.blank

pub loop-preserved : goal.loop-preserved
loop-preserved c = record {
  blank = subst (λ (ks : List Kept). AreBlank c.args.writers ks) (sym c.in_ok-push.ensures.items)
      (All-push (IsBlank c.args.writers) c.loop.blanks.items c.in_ok-blank.blank c.loop.invariant.blank
      c.in_ok-blank.ensures.ok);
  more = omega (arith, c.loop.invariant.more, c.in_ok-push.ensures.len);
  enough = omega (arith, c.loop.invariant.enough, c.in_ok-push.ensures.len);
}
