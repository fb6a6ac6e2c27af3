use Rattle.std.proofs.Common.{◌≤◌, ◌*◌, drop}
use Rattle.rtps_adapter.proofs.KeyLaws.{GoesOn}
use Rattle.rtps_adapter.proofs.key.fields_of.Given as goal

-- the fields so far were put
abbrev pub invariant-loop-field : goal.invariant-loop-field
invariant-loop-field l = record {
  goes : GoesOn l.is_key l.encoding l.order l.body l.fields (drop l.field-index l.fields) l.octets;
  len : l.octets.len ≤ 15 * l.field-index;
}
