use Rattle.rtps_sets.proofs.MirrorLaws.{pair_bit}
use Rattle.rtps_sets.proofs.mirror.pair_at.Goals as goal

pub returns : goal.returns
returns c = λ i less.
    pair_bit c.args.words.now c.args.at c.word_at.result c.word_at-2.result i c.word_at.ensures.value
    c.word_at-2.ensures.value c.word_at.ensures.small less
