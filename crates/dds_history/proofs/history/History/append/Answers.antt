use Rattle.std.proofs.Common.{◌≡◌, ℕ, ◌+◌, ◌<◌, ◌^◌, ◌&&◌, length, Bool, List, Option, None, refl, ap, sym, ◌∙◌, subst, arith, rules}
use Rattle.std.specs.Prelude.{OnErr, Result, Ok, Err, nat_lt}
use Rattle.dds_base.specs.declared.code.Code.{Code}
use Rattle.dds_base.specs.declared.qos.HistoryQos.{HistoryQos}
use Rattle.dds_base.specs.Refusal.{Refuses}
use Rattle.dds_base.specs.Kept.{append_refusal}
use Rattle.dds_history.specs.Entries.{parts, shown, state}
use Rattle.dds_history.specs.Held.{IsNext, awaits, granted, with_change}
use Rattle.dds_history.specs.Standing.{Held}
use Rattle.dds_history.proofs.Keeping.{newest_kept}
use Rattle.dds_history.proofs.Letting.{next_of, stands-more, stands_as}
use Rattle.dds_history.proofs.history.History.append.Goals as goal

pub returns-clause-ok : goal.returns-clause-ok
returns-clause-ok c = λ w s.
    let now : Held = c.args.self.now in
    let accepted : append_refusal w c.args.change ≡ None = sym (c.cause.ensures.refusal w c.args.change s refl)
    ∙ c.in_default.is in
    let few : now.last < 2 ^ 48 = c.cause.ensures.few c.in_default.is in
    let inside = c.self.inside in
    let opened : Held = record {
      policy = inside.kept.policy;
      max_samples = inside.max_samples;
      last = inside.last;
      acknowledged = inside.acknowledged.items;
      kept = parts (state inside.kept);
    } in
    let here = stands_as now opened w (sym c.self.view_is) s in
    let last = ap (λ (v : Held). v.last) c.self.view_is in
    let awaited : awaits inside.acknowledged.items (inside.last + 1) ≡ c.is_awaited-is_awaited.result =
    sym (c.is_awaited-is_awaited.ensures
    ∙ ap (λ (a : List ℕ). awaits a (inside.last + 1)) c.deref.ensures.value) in
    let next = subst (λ (b : Bool). IsNext inside.kept.policy (shown (state inside.kept)) b) awaited (next_of opened w here) in
    let more = c.in_ok-append.ensures.ok inside.last
    (record { next = refl; few = omega (arith, few, last); holds = here.holds }) next in
    let added = stands-more opened w c.args.change (state c.append.new.self) here (omega (arith, few, last))
    c.append.ensures.policy
    (more.1 ∙ ap (λ (b : Bool). with_change inside.kept.policy (shown (state inside.kept)) (inside.last + 1) c.args.change b)
    (sym awaited)) more.0 in (
      accepted,
      let number = s.last in omega (arith, number, last),
      added,
    )

pub returns-in_err-append-clause-refused : goal.returns-in_err-append-clause-refused
returns-in_err-append-clause-refused c = λ w s.
    let accepted : append_refusal w c.args.change ≡ None = sym (c.cause.ensures.refusal w c.args.change s refl)
    ∙ c.in_default.is in
    rw accepted (search rules)

pub returns-in-Some-clause-refused : goal.returns-in-Some-clause-refused
returns-in-Some-clause-refused c = λ w s.
    subst (λ (o : Option Code). Refuses o c.in-Some.code)
    (sym c.in-Some.is ∙ c.cause.ensures.refusal w c.args.change s refl) refl

-- where it is refused, what holds in any case
on_err : {X E P : Type 0} (result : Result X E) → P → OnErr result P
on_err (Ok value) p = tt
on_err (Err code) p = p

pub returns-in_err-append-clause-wants : goal.returns-in_err-append-clause-wants
returns-in_err-append-clause-wants c = λ w s. on_err c.from_residual.result (λ none.
    let now : Held = c.args.self.now in
    let inside = c.self.inside in
    let opened : Held = record {
      policy = inside.kept.policy;
      max_samples = inside.max_samples;
      last = inside.last;
      acknowledged = inside.acknowledged.items;
      kept = parts (state inside.kept);
    } in
    let here = stands_as now opened w (sym c.self.view_is) s in
    let awaited : c.is_awaited-is_awaited.result ≡ awaits w.acknowledged (length w.changes + 1) =
    c.is_awaited-is_awaited.ensures
    ∙ (ap (λ (a : List ℕ). awaits a (inside.last + 1)) (c.deref.ensures.value ∙ here.acknowledged)
    ∙ ap (λ (n : ℕ). awaits w.acknowledged (n + 1)) here.last) in
    newest_kept w c.args.change
    (ap (λ (b : Bool). nat_lt 0 (granted w.policy) && b) (sym awaited)
    ∙ (ap (λ (p : HistoryQos). nat_lt 0 (granted p) && c.is_awaited-is_awaited.result) (sym here.policy)
    ∙ c.in_err-append.ensures.taken)))

pub returns-in-Some-clause-wants : goal.returns-in-Some-clause-wants
returns-in-Some-clause-wants c = λ w s none.
    let some = sym c.in-Some.is ∙ c.cause.ensures.refusal w c.args.change s refl in absurd cc
