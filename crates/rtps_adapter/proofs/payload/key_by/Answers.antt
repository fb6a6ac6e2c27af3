use Rattle.std.proofs.Common.{false, get_or, sym, ap, ◌∙◌}
use Rattle.rtps_adapter.specs.declared.kinds.KeyRule.{KeyRule}
use Rattle.rtps_adapter.specs.Keys.{key_by, key_by_fields, key_by_list}
use Rattle.rtps_adapter.proofs.PayloadLaws.{four_of}
use Rattle.rtps_adapter.proofs.payload.key_by.Goals as goal

pub returns-in-len4-up : goal.returns-in-len4-up
returns-in-len4-up c =
    c.key_by_fields.ensures (get_or c.args.value.now 2 0) (get_or c.args.value.now 3 0)
    ∙ ap (key_by_fields false c.in-Fields.encoding c.in-Fields.fields.now)
    (sym (four_of c.args.value.now c.in-len4-up.len_at_least))
    ∙ ap (λ (rule : KeyRule). key_by rule c.args.value.now) (sym c.in-Fields.is)

pub returns-in-len4-up-value : goal.returns-in-len4-up-value
returns-in-len4-up-value c =
    c.key_by_list.ensures (get_or c.args.value.now 2 0) (get_or c.args.value.now 3 0)
    ∙ ap key_by_list (sym (four_of c.args.value.now c.in-len4-up-value.len_at_least))
    ∙ ap (λ (rule : KeyRule). key_by rule c.args.value.now) (sym c.in-ParameterList.is)
