use Rattle.std.proofs.Common.{true}
use Rattle.std.proofs.lemmas.Bool.{agree_below_at}
use Rattle.rtps_sets.specs.Mirror.{is_paired}
use Rattle.rtps_sets.proofs.MirrorLaws.{swapped_bit}
use Rattle.rtps_sets.proofs.mirror.swapped.Goals as goal

pub returns : goal.returns
returns c = λ i less.
    swapped_bit c.args.word c.args.by c.args.mask i less
    (agree_below_at (λ k. is_paired c.args.by c.args.mask k) (λ k. true) 64 i c.requires.pairs less)
