use Rattle.std.proofs.Common.{ℕ, refl, ap, ◌∙◌, ◌<◌}
use Rattle.std.specs.Int.{bit_at}
use Rattle.rtps_sets.specs.Mirror.{neighbour}
use Rattle.rtps_sets.proofs.MirrorLaws.{is_within, twos, fours, eights, sixteens, origin_is_mirror}
use Rattle.rtps_sets.proofs.mirror.mirrored.Goals as goal

pub returns : goal.returns
returns c = λ i less.
    let a = neighbour 16 sixteens i in
    let in_a : neighbour 16 sixteens i < 64 = is_within 16 sixteens i refl less in
    let b = neighbour 8 eights a in
    let in_b : neighbour 8 eights a < 64 = is_within 8 eights a refl in_a in
    let d = neighbour 4 fours b in
    let in_d : neighbour 4 fours b < 64 = is_within 4 fours b refl in_b in
    let e = neighbour 2 twos d in
    let in_e : neighbour 2 twos d < 64 = is_within 2 twos d refl in_d in
    c.swapped.ensures i less
    ∙ (c.swapped-eights.ensures a in_a
    ∙ (c.swapped-fours.ensures b in_b
    ∙ (c.swapped-twos.ensures d in_d
    ∙ (c.swapped-ones.ensures e in_e
    ∙ ap (λ (k : ℕ). bit_at c.args.word k) (origin_is_mirror i less)))))
