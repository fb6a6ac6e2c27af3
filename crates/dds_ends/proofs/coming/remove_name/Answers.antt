use Rattle.std.proofs.Common.{Bool, not, rules}
use Rattle.std.proofs.lemmas.Fn.{filter_same}
use Rattle.dds_machine.specs.Part.{same_endpoint}
use Rattle.dds_ends.specs.declared.matching.ReaderName.{ReaderName}
use Rattle.dds_ends.proofs.coming.remove_name.Goals as goal

pub returns : goal.returns
returns c =
    let is_other : ReaderName → Bool = λ n. not (same_endpoint n.reader c.args.reader) in
    filter_same _ is_other _ (λ x b f' k. search rules) _ _ c.retain.ensures.filtered
