use Rattle.std.proofs.Common.{List, subst, sym, ◌∙◌}
use Rattle.std.specs.Prelude.{Contains}
use Rattle.dds_core.specs.declared.misses.Miss.{Miss}
use Rattle.dds_core.proofs.MissLaws.{among, same_miss}
use Rattle.dds_core.proofs.misses.Misses.has.Goals as goal

pub returns-in-Some : goal.returns-in-Some
returns-in-Some c = λ e.
    subst (λ (xs : List Miss). Contains xs c.args.miss.now) (c.deref.ensures.value ∙ c.self.view_is)
    (among c.deref.result.now _ c.in-Some.known.now c.args.miss.now c.in-Some.ensures.lookup.3.0
    c.in-Some.ensures.lookup.3.1 (same_miss c.in-Some.known.now c.args.miss.now (sym c.eq.ensures ∙ e)))
