use Rattle.std.proofs.Common.{◌≡◌, ◌∙◌, Option, Some, false, slice_get, sym, ap, subst}
use Rattle.std.proofs.lemmas.Map.Made.{lookup_key_same}
use Rattle.dds_base.specs.declared.key.Key.{Key}
use Rattle.dds_base.proofs.KeyLaws.{key-Decides}
use Rattle.dds_cache.specs.declared.chains.Latest.{Latest}
use Rattle.dds_cache.specs.Chains.{is_latest}
use Rattle.dds_cache.proofs.ChainLaws.{kept-span}
use Rattle.dds_cache.proofs.chains.Chains.find.Goals as goal
use Rattle.dds_cache.proofs.chains.Chains.find.Goals.{in-Some+else-eq, in_default}

pub returns : goal.returns
returns c =
    let spans = c.args.self.now.spans in
    let found = c.in_ok-at.ensures in
    let other : is_latest c.args.self.now.latest c.args.key ≡ false = elim c.match-self.branch [
      | in-Some+else-eq w ↦ ap (λ (o : Option Latest). is_latest o c.args.key) w.in-Some.is
          ∙ (sym w.eq.ensures ∙ w.if-eq.false)
      | in_default w ↦ ap (λ (o : Option Latest). is_latest o c.args.key) w.in_default.is
    ] in
    let own : c.args.key ≡ c.in_ok-at.field-0-1.now =
    lookup_key_same key-Decides c.args.key spans.entries _ (sym found.key) in (
      kept-span c.args.self.now c.args.key other ∙ sym found.value,
      λ apart. subst (λ (i : Key). slice_get spans.entries c.in_ok-at.at ≡ Some (i, c.in_ok-at.span.now)) (sym own)
          found.entry,
    )
