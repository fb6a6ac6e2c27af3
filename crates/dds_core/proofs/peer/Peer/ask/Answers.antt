use Rattle.std.proofs.Common.{ℕ, ◌<◌, length, sym, ◌∙◌, ap, rules, refl}
use Rattle.std.proofs.lemmas.Option.{slice_get_read}
use Rattle.dds_base.specs.Access.{has_match}
use Rattle.dds_machine.specs.Part.{own_reader}
use Rattle.dds_machine.specs.Watching.{Tests, test_of}
use Rattle.dds_core.specs.Remembering.{IsMiss}
use Rattle.dds_core.proofs.CallSteps.{number_is, still_stands}
use Rattle.dds_core.proofs.Remembered.{found_none, right_added, right_of}
use Rattle.dds_core.proofs.peer.Peer.ask.Goals as goal

pub returns-then-has-clause-value : goal.returns-then-has-clause-value
returns-then-has-clause-value g c = λ roster peer given.
    let tests : Tests = g.T.Filters.meaning c.args.filters.now in
    let is : IsMiss tests peer.part c.args.miss =
    right_of tests c.args.self.now c.args.misses.now c.args.miss c.requires.right (c.has.ensures c.if-has.true) roster peer given in
    sym (is.none (sym (c.requires.newest roster peer given)))

pub returns-then-has_match-clause-value : goal.returns-then-has_match-clause-value
returns-then-has_match-clause-value g c = λ roster peer given.
    let s = still_stands c.self.view_is given in
    let tests : Tests = g.T.Filters.meaning c.args.filters.now in
    let within : c.args.index < length c.self.inside.readers.items = search rules in
    sym c.if-has_match.true ∙ (c.has_match.ensures _ _ _
    (s.readers.each c.args.index c.index.result.now (slice_get_read _ _ _ _ refl within c.index.ensures))
    ∙ ap (λ (n : ℕ). has_match (own_reader peer.part n).qos (own_reader peer.part n).happened c.args.miss.masks
    (test_of tests c.args.miss.filter)) (number_is c.args.miss.reader c.args.index c.requires.reader))

pub returns-clause-value : goal.returns-clause-value
returns-clause-value g c = λ roster peer given.
    let s = still_stands c.self.view_is given in
    let tests : Tests = g.T.Filters.meaning c.args.filters.now in
    let within : c.args.index < length c.self.inside.readers.items = search rules in
    sym c.if-has_match.false ∙ (c.has_match.ensures _ _ _
    (s.readers.each c.args.index c.index.result.now (slice_get_read _ _ _ _ refl within c.index.ensures))
    ∙ ap (λ (n : ℕ). has_match (own_reader peer.part n).qos (own_reader peer.part n).happened c.args.miss.masks
    (test_of tests c.args.miss.filter)) (number_is c.args.miss.reader c.args.index c.requires.reader))

pub returns-clause-right : goal.returns-clause-right
returns-clause-right g c =
    let tests : Tests = g.T.Filters.meaning c.args.filters.now in
    right_added tests c.args.self.now c.args.misses.now c.args.miss c.note.new.self c.requires.right
    (λ roster peer given.
    let s = still_stands c.self.view_is given in
    let within : c.args.index < length c.self.inside.readers.items = search rules in
    found_none tests peer.part c.args.miss (c.requires.newest roster peer given)
    (sym (sym c.if-has_match.false ∙ (c.has_match.ensures _ _ _
    (s.readers.each c.args.index c.index.result.now (slice_get_read _ _ _ _ refl within c.index.ensures))
    ∙ ap (λ (n : ℕ). has_match (own_reader peer.part n).qos (own_reader peer.part n).happened c.args.miss.masks
    (test_of tests c.args.miss.filter)) (number_is c.args.miss.reader c.args.index c.requires.reader)))))
    c.note.ensures
