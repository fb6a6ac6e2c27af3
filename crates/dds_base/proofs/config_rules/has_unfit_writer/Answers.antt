use Rattle.std.proofs.Common.{Bool, ◌∙◌, sym, rules}
use Rattle.std.proofs.lemmas.Iterator.{YieldsList-from_slice}
use Rattle.std.proofs.lemmas.Iterator.Search.{any_from_yields_List}
use Rattle.dds_base.specs.declared.config.WriterConfig.{WriterConfig}
use Rattle.dds_base.specs.FaultAt.{is_unfit}
use Rattle.dds_base.proofs.MatchedLaws.{any_matched, any_of}
use Rattle.dds_base.proofs.config_rules.has_unfit_writer.Goals as goal

pub returns : goal.returns
returns c =
    let unfit : WriterConfig → Bool = λ w. is_unfit c.args.policy w c.args.reader.now in
    any_from_yields_List (any_of unfit c.args.reader.now.topic) _ _ _ c.any.ensures.ran
    (YieldsList-from_slice c.args.peers.now cc) (λ p b q k. search rules)
    ∙ sym (any_matched unfit c.args.reader.now.topic 1 c.args.peers.now)
