use Rattle.std.proofs.Common.{◌≡◌, Bool, [], ◌∷◌, ◌++◌, false, subst, sym, ap, ◌∙◌}
use Rattle.std.specs.Prelude.{if◌then◌else◌}
use Rattle.std.specs.List.{list_any}
use Rattle.std.proofs.lemmas.Result.{IfOk-at_ok}
use Rattle.dds_base.specs.Happening.{same_key}
use Rattle.dds_instances.specs.Keys.{Keys}
use Rattle.dds_instances.proofs.place.KeyIndex.push.Goals as goal

pub returns-clause-keys : goal.returns-clause-keys
returns-clause-keys c =
    let ks = c.self.inside.set.keys in
    let absent : list_any (same_key c.args.key) ks ≡ false =
    subst (λ (t : Keys). list_any (same_key c.args.key) t.keys ≡ false) (sym c.self.view_is) c.requires.absent in
    IfOk-at_ok (λ _. c.insert.new.self.keys ≡ (if list_any (same_key c.args.key) ks then ks else ks ++ c.args.key ∷ []))
    c.unwrap.ensures c.insert.ensures.keys
    ∙ (ap (λ (b : Bool). if b then ks else ks ++ c.args.key ∷ []) absent
    ∙ ap (λ (t : Keys). t.keys ++ c.args.key ∷ []) c.self.view_is)
