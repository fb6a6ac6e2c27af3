use Rattle.std.proofs.Common.{◌≡◌, List, [], ◌∷◌, length, suc, true, false, arith, refl}
use Rattle.std.proofs.lemmas.Bool.{lt-ltb}
use Rattle.dds_machine.specs.declared.call.Call.TheVariants as call
use Rattle.dds_core.proofs.CallSteps.{follows_as}
use Rattle.std.specs.Prelude.{is_some, nat_lt}
use Rattle.dds_base.specs.Number.{at_number}
use Rattle.dds_conditions.specs.Watched.{conditions_of, unless_there}
use Rattle.dds_machine.specs.declared.reply.Reply.TheVariants.{Conditions}
use Rattle.dds_core.specs.Watching.{conditions_reply}
use Rattle.dds_core.proofs.Watched.{given_in_memory, on_err, on_ok}
use Rattle.dds_core.proofs.peer.Peer.get_conditions.Goals as goal

-- what is not more than none is none
none-there : {X : Type 0} (xs : List X) → nat_lt 0 (length xs) ≡ false → xs ≡ []
none-there [] e = refl
none-there (x ∷ xs) e =
    absurd (let some : nat_lt 0 (suc (length xs)) ≡ true = lt-ltb 0 (suc (length xs)) (omega arith) in cc)

pub returns-clause-step : goal.returns-clause-step
returns-clause-step c = λ roster peer given.
    follows_as _ roster peer _ _ _ c.answered.ensures
    (given_in_memory (λ cs. Conditions cs) conditions_reply (λ cs. refl) (λ code. refl)
    (λ w. nat_lt 0 (length (conditions_of w c.args.wait_set)))
    (λ w. unless_there (is_some (at_number w.wait_sets c.args.wait_set)))
    (λ w. conditions_of w c.args.wait_set)
    (λ w. w) _ _ c.conditions-conditions.result c.reply_to_conditions.result roster peer given
    (call.GetConditions c.args.wait_set) (λ dds h. h) refl c.reply_to_conditions.ensures
    (on_ok c.conditions-conditions.result refl) c.conditions-conditions.ensures.ok c.conditions-conditions.ensures.taken
    c.conditions-conditions.ensures.refused
    (λ needless. c.conditions-conditions.ensures.none (none-there _ needless))
    (on_err c.conditions-conditions.result refl))
