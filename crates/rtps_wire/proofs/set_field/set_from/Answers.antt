use Rattle.std.proofs.Common.{Bool, List, ℕ, ap, ◌∙◌}
use Rattle.rtps_wire.specs.Sets.{set_of}
use Rattle.rtps_wire.proofs.SetLaws.{members_are}
use Rattle.rtps_wire.proofs.set_field.set_from.Goals as goal

pub returns : goal.returns
unfolding set_of
returns c =
    let set = c.from_words.result in
    ap (λ (b : ℕ). record { base = b; members = set.members }) (c.from_words.ensures.base ∙ c.new.ensures.number)
    ∙ ap (λ (f : List Bool). record { base = c.args.base; members = f })
    (members_are c.args.words.now c.args.count set.members c.requires.count c.requires.words
    c.from_words.ensures.places c.from_words.ensures.members)
