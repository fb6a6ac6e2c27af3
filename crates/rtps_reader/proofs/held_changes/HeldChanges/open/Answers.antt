use Rattle.std.proofs.Common.{List, Option, None, ◌%◌, get_or, inl, sym, ap}
use Rattle.dds_base.specs.declared.change.Change.{Change}
use Rattle.rtps_reader.specs.HeldChanges.{count_held}
use Rattle.rtps_reader.proofs.held_changes.HeldChanges.open.Goals as goal

pub invariant_of-result : goal.invariant_of-result
invariant_of-result c = record {
  width = inl c.new.ensures.items;
  counted = sym (ap (λ (places : List (Option Change)). count_held places) c.new.ensures.items);
}

pub returns : goal.returns
returns c = record {
  none = λ n. ap (λ (places : List (Option Change)). get_or places (n % 256) None) c.new.ensures.items;
}
