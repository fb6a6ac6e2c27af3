use Rattle.std.proofs.Common.{◌≡◌, Some, slice_get, sym, ◌∙◌, subst}
use Rattle.dds_base.specs.declared.key.Key.{Key}
use Rattle.dds_base.proofs.KeyLaws.{key-same}
use Rattle.dds_cache.proofs.chains.Chains.is_at.Goals as goal

pub returns-in-Some : goal.returns-in-Some
returns-in-Some c = λ is. (
  c.in-Some.field-0-1.now,
  subst (λ (i : Key). slice_get c.args.self.now.spans.entries c.args.at ≡ Some (i, c.in-Some.field-0-1.now))
      (key-same c.in-Some.other.now c.args.key (sym c.eq.ensures ∙ is)) (sym c.in-Some.ensures.entry),
)
