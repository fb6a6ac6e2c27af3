use Rattle.std.proofs.Common.{ℕ, ◌+◌, ◌<◌, Bool, List, [], ◌∷◌, length, get_or, drop, refl, subst, arith}
use Rattle.std.proofs.lemmas.List.{drop_more, drop_all}
use Rattle.dds_base.specs.declared.endianness.Endianness.{Endianness}
use Rattle.rtps_adapter.specs.declared.key.KeyOctets.{KeyOctets}
use Rattle.rtps_adapter.specs.declared.kinds.Encoding.{Encoding}
use Rattle.rtps_adapter.specs.declared.kinds.FieldSize.TheVariants.{One}
use Rattle.rtps_adapter.specs.declared.kinds.KeyField.{KeyField}
use Rattle.rtps_adapter.proofs.KeyLaws.{GoesOn, goes_more, goes_nowhere, goes_to_end}
use Rattle.rtps_adapter.proofs.key.fields_of.Goals as goal

pub loop-field-init : goal.loop-field-init
loop-field-init c = record {
  goes = record { octets = []; are = c.new-octets.ensures; same = refl };
  len = omega (arith, c.new-octets.ensures.len);
}

pub put_field-requires : goal.put_field-requires
put_field-requires c =
    record { room = omega (arith, c.loop-field.invariant.len, c.loop-field-test.true) }

-- the field of a turn
abbrev field_at : List KeyField → ℕ → KeyField
field_at fields i = get_or fields i (record { place = 0; size = One })

-- those that are left are this field and others
here : (is_key : Bool) (encoding : Encoding) (order : Endianness) (body : List ℕ) (fields : List KeyField) (i : ℕ)
    (k : KeyOctets) → i < length fields → GoesOn is_key encoding order body fields (drop i fields) k
    → GoesOn is_key encoding order body fields (field_at fields i ∷ drop (i + 1) fields) k
here is_key encoding order body fields i k lt g =
    subst (λ (z : List KeyField). GoesOn is_key encoding order body fields z k)
    (drop_more fields i (record { place = 0; size = One }) lt) g

pub loop-field-preserved : goal.loop-field-preserved
loop-field-preserved c =
    let g =
    here c.args.is_key c.args.encoding c.args.order c.args.body.now c.args.fields.now c.loop-field.field-index
    c.loop-field.octets c.loop-field-test.true c.loop-field.invariant.goes in
    record {
      goes = goes_more c.args.is_key c.args.encoding c.args.order c.args.body.now c.args.fields.now
          (drop (c.loop-field.field-index + 1) c.args.fields.now)
          (field_at c.args.fields.now c.loop-field.field-index) c.loop-field.octets c.put_field.new.self
          c.put_field.result c.if-not-put_field.false g (c.put_field.ensures.put g.octets g.are);
      len = omega (arith, c.loop-field.invariant.len, c.put_field.ensures.len);
    }

pub returns-then-not-put_field-clause-none : goal.returns-then-not-put_field-clause-none
returns-then-not-put_field-clause-none c =
    let g =
    here c.args.is_key c.args.encoding c.args.order c.args.body.now c.args.fields.now c.loop-field.field-index
    c.loop-field.octets c.loop-field-test.true c.loop-field.invariant.goes in
    goes_nowhere c.args.is_key c.args.encoding c.args.order c.args.body.now c.args.fields.now
    (drop (c.loop-field.field-index + 1) c.args.fields.now)
    (field_at c.args.fields.now c.loop-field.field-index) c.loop-field.octets c.put_field.new.self
    c.put_field.result c.if-not-put_field.true g (c.put_field.ensures.put g.octets g.are)

pub returns-clause-some : goal.returns-clause-some
returns-clause-some c =
    goes_to_end c.args.is_key c.args.encoding c.args.order c.args.body.now c.args.fields.now c.loop-field.octets
    (subst (λ (z : List KeyField). GoesOn c.args.is_key c.args.encoding c.args.order c.args.body.now c.args.fields.now z
    c.loop-field.octets) (drop_all c.loop-field.field-index c.args.fields.now (omega (arith, c.loop-field-test.false)))
    c.loop-field.invariant.goes)
