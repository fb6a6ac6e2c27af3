use Rattle.std.proofs.Common.{◌≡◌, ℕ, ◌<◌, Option, Some, length, ◌∙◌, ap, rules, refl}
use Rattle.std.proofs.lemmas.Option.{slice_get_read}
use Rattle.dds_base.specs.Number.{at_number}
use Rattle.dds_conditions.specs.declared.condition.Condition.{Condition}
use Rattle.dds_conditions.specs.declared.condition.Condition.TheVariants.{Samples}
use Rattle.dds_machine.specs.Part.{own_reader}
use Rattle.dds_machine.specs.Watching.{Tests, condition_value}
use Rattle.dds_core.specs.Kept.{PeerKept}
use Rattle.dds_core.proofs.CallSteps.{number_is, still_stands}
use Rattle.dds_core.proofs.peer.Peer.value_of.Goals as goal

pub ask-requires-clause-newest : goal.ask-requires-clause-newest
ask-requires-clause-newest g c = λ roster peer given.
    let s = still_stands c.self.view_is given in
    let i = c.in-Some.index in
    let within : i < length c.self.inside.readers.items = search rules in
    (c.mark-entries.ensures _ _ _
    (s.readers.each i c.index.result.now (slice_get_read _ _ _ _ refl within c.index.ensures))).happened
    ∙ ap (λ (n : ℕ). length (own_reader peer.part n).happened)
    (number_is c.in-Some-Samples.reader i c.in-Some.ensures.index.0)

pub returns-in-Some-clause-value : goal.returns-in-Some-clause-value
returns-in-Some-clause-value g c = λ roster peer given.
    let tests : Tests = g.T.Filters.meaning c.args.filters.now in
    let made : c.condition.result ≡ at_number c.args.self.now.watch.conditions c.args.number =
    c.condition.ensures.made ∙ ap (λ (k : PeerKept). at_number k.watch.conditions c.args.number) c.self.view_is in
    let whole : Some (Samples c.in-Some-Samples.reader c.in-Some-Samples.masks c.in-Some-Samples.filter)
    ≡ c.condition.result = search rules in
    c.ask.ensures.value roster peer given
    ∙ ap (λ (o : Option Condition). condition_value tests peer.part o) (whole ∙ made)
