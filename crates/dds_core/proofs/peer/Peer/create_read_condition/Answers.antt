use Rattle.std.proofs.Common.{◌≡◌, ◌+◌, ◌<◌, Bool, true, not, Option, Some, None, length, refl, sym, subst, ap, rules}
use Rattle.dds_machine.specs.declared.call.Call.TheVariants as call
use Rattle.std.specs.Prelude.{if◌then◌else◌}
use Rattle.dds_base.specs.declared.code.Code.{Code}
use Rattle.dds_base.specs.declared.code.Code.TheVariants.{BadParameter}
use Rattle.dds_conditions.specs.declared.condition.Condition.TheVariants.{Samples}
use Rattle.dds_conditions.specs.Watched.{number_refusal, with_condition}
use Rattle.dds_machine.specs.declared.reply.Reply.TheVariants.{Created}
use Rattle.dds_machine.specs.Calls.{IsAnsweredInMemory}
use Rattle.dds_machine.specs.Numbered.{has_element}
use Rattle.dds_core.specs.Watching.{made_reply}
use Rattle.dds_core.proofs.CallSteps.{follows_as, known_end, still_stands}
use Rattle.dds_core.proofs.Watched.{given_in_memory}
use Rattle.dds_core.proofs.peer.Peer.create_read_condition.Goals as goal

pub returns-clause-step : goal.returns-clause-step
returns-clause-step c = λ roster peer given.
    let s = still_stands c.self.view_is given in
    let within : c.in-Some._index < length c.self.inside.readers.items = search rules in
    let known : has_element peer.part.dds.readers c.args.reader ≡ true =
    known_end peer.part.dds.readers c.args.reader c.in-Some._index _ c.in-Some.ensures.index.0 within s.readers.count in
    follows_as _ roster peer _ _ _ c.answered.ensures
    (given_in_memory (λ n. Created n) made_reply (λ n. refl) (λ code. refl) (λ w. true)
    (λ w. number_refusal w.conditions)
    (λ w. length w.conditions + 1) (λ w. with_condition w (Samples c.args.reader c.args.masks None)) _
    c.create-made.new.self c.create-made.result c.reply_to_made.result roster peer s
    (call.CreateReadCondition c.args.reader c.args.masks)
    (λ dds h. subst (λ (o : Option Code). IsAnsweredInMemory true o
    (Created (length peer.part.dds.watch.conditions + 1))
    (with_condition peer.part.dds.watch (Samples c.args.reader c.args.masks None)) peer.part c.reply_to_made.result
    dds)
    (sym (ap (λ (b : Bool). if not b then Some BadParameter else number_refusal peer.part.dds.watch.conditions) known))
    h) refl c.reply_to_made.ensures
    c.create-made.ensures.ok c.create-made.ensures.number c.create-made.ensures.taken
    c.create-made.ensures.refused (λ needless. absurd cc) c.create-made.ensures.err)
