use Rattle.std.proofs.Common.{IsTrue, ◌↔◌, sym, subst}
use Rattle.rtps_adapter.specs.declared.kinds.KeyRule.{KeyRule}
use Rattle.rtps_adapter.specs.ComesBack.{IsKey}
use Rattle.rtps_adapter.proofs.KeyForms.{says_it}
use Rattle.rtps_adapter.proofs.payload.has_key.Goals as goal

pub returns-in-Fields : goal.returns-in-Fields
returns-in-Fields c =
    subst (λ (rule : KeyRule). IsTrue c.is_some.result ↔ IsKey rule c.args.key.now) (sym c.in-Fields.is)
    (says_it c.in-Fields.encoding c.in-Fields.fields.now c.args.key.now c.own_len.result c.is_some.result
    c.own_len.ensures.own c.is_some.ensures)
