use Rattle.std.proofs.Common.{◌≡◌, map, take}
use Rattle.dds_c.specs.Adapting.{field_of}
use Rattle.dds_c.proofs.adapting.key_fields.Given as goal

abbrev pub invariant-loop-field : goal.invariant-loop-field
invariant-loop-field l = l.made.items ≡ map field_of (take l.field-index l.fields)
