use Rattle.std.proofs.Common.{get_or, sym, ap, ◌∙◌}
use Rattle.rtps_adapter.specs.declared.kinds.KeyRule.{KeyRule}
use Rattle.rtps_adapter.specs.Keys.{key_in, key_by_fields, key_by_list}
use Rattle.rtps_adapter.proofs.PayloadLaws.{four_first}
use Rattle.rtps_adapter.proofs.payload.key_of.Goals as goal

pub returns-in-Fields : goal.returns-in-Fields
returns-in-Fields c =
    let head = c.value.inside.head in
    c.key_by_fields.ensures (get_or head 2 0) (get_or head 3 0)
    ∙ ap (key_by_fields c.args.is_key c.in-Fields.encoding c.in-Fields.fields.now)
    (sym (four_first c.value.inside.head c.value.inside.body.now c.value.told.0) ∙ c.value.view_is)
    ∙ ap (λ (rule : KeyRule). key_in c.args.is_key rule c.args.value.now) (sym c.in-Fields.is)

pub returns-in-ParameterList : goal.returns-in-ParameterList
returns-in-ParameterList c =
    let head = c.value.inside.head in
    c.key_by_list.ensures (get_or head 2 0) (get_or head 3 0)
    ∙ ap key_by_list (sym (four_first c.value.inside.head c.value.inside.body.now c.value.told.0) ∙ c.value.view_is)
    ∙ ap (λ (rule : KeyRule). key_in c.args.is_key rule c.args.value.now) (sym c.in-ParameterList.is)
