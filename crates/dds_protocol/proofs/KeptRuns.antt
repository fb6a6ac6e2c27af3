-- In every run, a reliable reader passes over no change that a writer that keeps all owes it.
use Rattle.std.proofs.Common.{◌≡◌, ◌⊎◌, ℕ, ◌-◌, ◌<◌, ◌≤◌, true, List, [], ◌∷◌, refl, subst, ap, sym, ◌∙◌, inl, inr, ⊎_elim, arith}
use Rattle.std.proofs.lemmas.Bool.{cases_lt}
use Rattle.dds_base.specs.declared.happening.PassedRun.{PassedRun}
use Rattle.dds_base.specs.declared.qos.HistoryQos.TheVariants.{KeepAll}
use Rattle.dds_base.specs.declared.qos.ReaderQos.{ReaderQos}
use Rattle.dds_base.specs.Matched.{is_reliable}
use Rattle.dds_base.specs.Places.{WriterGrounds, Match, PlaceWith, GoesTo, MayPassOver}
use Rattle.dds_base.specs.declared.endpoint.Endpoint.{Endpoint}
use Rattle.dds_machine.specs.declared.event.WorldEvent.{WorldEvent}
use Rattle.dds_machine.specs.declared.event.WorldEvent.TheVariants as world
use Rattle.dds_machine.specs.declared.reply.Move.{Move}
use Rattle.dds_machine.specs.declared.reply.Move.TheVariants.{Place, Acknowledged, Heard, Begun as HasBegun, Strange}
use Rattle.dds_machine.specs.declared.reply.Reply.{Reply}
use Rattle.dds_machine.specs.declared.reply.Reply.TheVariants.{Refused, Reported}
use Rattle.dds_machine.specs.Part.{Part, own_reader, owed_from}
use Rattle.dds_machine.specs.Moves.{Grounds, Begins, Places, as_to, match_of, position_at, AreMoves, DeliveryStep, ResumeStep}
use Rattle.dds_machine.specs.Machine.{Machine, AllTests, part_at, writer_at, grounds_of, Step}
use Rattle.dds_machine.specs.Noticing.{machine_ended}
use Rattle.dds_machine.specs.Runs.{Run}
use Rattle.dds_protocol.specs.Closed.{ClosedStep, IsClosed, NobodyTold, closed_grounds_of}
use Rattle.dds_protocol.specs.Laws.{EndBelow, PassesNone, PassesNoneFrom, LosesNone, LosesNoneFrom}
use Rattle.dds_protocol.proofs.Closed.{stays_closed}
use Rattle.dds_protocol.proofs.ClosedSteps.{step_closed}
use Rattle.dds_protocol.proofs.EndsBeside.{ended_alike, ended_policy}
use Rattle.dds_protocol.proofs.InOrder.{passes_none}
use Rattle.dds_protocol.proofs.Policies.{IsReliableAt, Step-qos, still_reliable}
use Rattle.dds_protocol.proofs.RunLaws.{keeps_all, runs_owe_no_more, Step-policy}

-- ---- what is owed

-- what the grounds let pass lies below the bound
abbrev PassBelow : ℕ → Grounds → Endpoint → ℕ → Type 0
PassBelow bound g w k = (n : ℕ) → g.may_pass w k n → n < bound

passed_below : (g : WriterGrounds) (qos : ReaderQos) (bound n : ℕ) → is_reliable qos.reliability ≡ true
    → ((k : ℕ) → g.may_pass k → k < bound) → MayPassOver g qos n → n < bound
passed_below g qos bound n reliable f (inl h) = f n h
passed_below g qos bound n reliable f (inr h) = let other = h.0 in cc

-- so each run that is passed over ends below it
runs_below : (g : WriterGrounds) (match : Match) (old : PlaceWith) (runs : List PassedRun) (to : ℕ) (new : PlaceWith)
    (bound : ℕ) → is_reliable match.qos.reliability ≡ true → ((k : ℕ) → g.may_pass k → k < bound)
    → GoesTo g match old runs to new → EndBelow bound runs
runs_below g match old [] to new bound reliable f h = tt
runs_below g match old (run ∷ runs) to new bound reliable f h =
    let ordered = h.3.ordered in (
      passed_below g match.qos bound run.last reliable f (h.3.may_pass run.last ordered (omega arith)),
      runs_below g match h.1 runs to new bound reliable f h.5,
    )

places_below : (g : Grounds) (bound : ℕ) (w : Endpoint) (k : ℕ) (old : Part) (v : Endpoint) (r to : ℕ)
    (passed : List PassedRun) (new : Part) → PassBelow bound g w k → IsReliableAt old k
    → Places g old v r to passed new → v ≡ w → r ≡ k → EndBelow bound passed
places_below g bound w k old v r to passed new f reliable h same here =
    runs_below (as_to g v r) (match_of old r h.publication) (position_at old r h.place) passed to h.end bound
    (ap (λ (n : ℕ). is_reliable (own_reader old n).qos.reliability) here ∙ reliable)
    (λ n p. f n (subst (λ (x : Endpoint). g.may_pass x k n) same (subst (λ (j : ℕ). g.may_pass v j n) here p))) h.goes

-- and a place begins no further, or where it was
begins_below : (g : Grounds) (bound : ℕ) (w : Endpoint) (k : ℕ) (old : Part) (v : Endpoint) (r from to : ℕ) (new : Part)
    → PassBelow bound g w k → IsReliableAt old k → Begins g old v r from to new → v ≡ w → r ≡ k
    → (to ≤ bound) ⊎ (to ≡ from)
begins_below g bound w k old v r from to new f reliable h same here =
    let no_less = h.no_less in
    ⊎_elim (λ less.
    let last = passed_below (as_to g v r) (own_reader old r).qos bound (to - 1)
    (ap (λ (n : ℕ). is_reliable (own_reader old n).qos.reliability) here ∙ reliable)
    (λ n p. f n (subst (λ (x : Endpoint). g.may_pass x k n) same (subst (λ (j : ℕ). g.may_pass v j n) here p)))
    (h.may_pass (to - 1) (omega (arith, less)) (omega (arith, less))) in
    inl (omega (arith, last)))
    (λ more. inr (omega (arith, more, no_less))) (cases_lt from to)

owed_passes : (g : Grounds) (bound : ℕ) (w : Endpoint) (k : ℕ) (old : Part) (ms : List Move) (new : Part)
    → PassBelow bound g w k → IsReliableAt old k → AreMoves g old ms new → PassesNoneFrom bound w k ms
owed_passes g bound w k old [] new f reliable h = tt
owed_passes g bound w k old (Place v r to passed ∷ ms) new f reliable h = (
  places_below g bound w k old v r to passed h.0 f reliable h.1,
  owed_passes g bound w k h.0 ms new f (still_reliable g old (Place v r to passed) h.0 k h.1 reliable) h.2,
)
owed_passes g bound w k old (Acknowledged v r to ∷ ms) new f reliable h =
    owed_passes g bound w k h.0 ms new f (still_reliable g old (Acknowledged v r to) h.0 k h.1 reliable) h.2
owed_passes g bound w k old (Heard v r ∷ ms) new f reliable h =
    owed_passes g bound w k h.0 ms new f (still_reliable g old (Heard v r) h.0 k h.1 reliable) h.2
owed_passes g bound w k old (Strange v r ∷ ms) new f reliable h =
    owed_passes g bound w k h.0 ms new f (still_reliable g old (Strange v r) h.0 k h.1 reliable) h.2
owed_passes g bound w k old (HasBegun v r from to ∷ ms) new f reliable h = (
  begins_below g bound w k old v r from to h.0 f reliable h.1,
  owed_passes g bound w k h.0 ms new f (still_reliable g old (HasBegun v r from to) h.0 k h.1 reliable) h.2,
)

-- what a writer that keeps all does not owe lies below the bound
not_owed_below : (m : Machine) (i : ℕ) (w : Endpoint) (k bound : ℕ) → (writer_at m w).policy ≡ KeepAll
    → owed_from (writer_at m w) (record { peer = i; number = k }) ≤ bound → PassBelow bound (grounds_of m i) w k
not_owed_below m i w k bound all owed n h =
    ⊎_elim (λ d. absurd (keeps_all (writer_at m w).policy m w n refl all d))
    (λ q. let below = q.below in omega (arith, below, owed)) h

-- so moves at a peer pass over nothing from the bound on
owed_moves : (m : Machine) (i : ℕ) (w r : Endpoint) (old : Part) (ms : List Move) (new : Part) (bound : ℕ)
    → (writer_at m w).policy ≡ KeepAll → owed_from (writer_at m w) r ≤ bound → (i ≡ r.peer → IsReliableAt old r.number)
    → AreMoves (grounds_of m i) old ms new → i ≡ r.peer → PassesNoneFrom bound w r.number ms
owed_moves m i w r old ms new bound all owed reliable h here =
    owed_passes (grounds_of m i) bound w r.number old ms new
    (not_owed_below m i w r.number bound all
    (subst (λ (j : ℕ). owed_from (writer_at m w) (record { peer = j; number = r.number }) ≤ bound) (sym here) owed))
    (reliable here) h

-- what a delivery reports goes before what the others do
owed_delivery : (m : Machine) (i : ℕ) (w r : Endpoint) (packet : ℕ) (old : Part) (reply : Reply) (new : Part)
    (events : List WorldEvent) (replies : List Reply) (bound : ℕ) → (writer_at m w).policy ≡ KeepAll
    → owed_from (writer_at m w) r ≤ bound
    → (i ≡ r.peer → IsReliableAt old r.number) → DeliveryStep (grounds_of m i) old reply new
    → LosesNoneFrom bound w r events replies
    → LosesNoneFrom bound w r (world.Deliver i packet ∷ events) (reply ∷ replies)
owed_delivery m i w r packet old (Reported report) new events replies bound all owed reliable h rest =
    (λ here. owed_moves m i w r old report.moves new bound all owed reliable h here, rest)
owed_delivery m i w r packet old reply new events replies bound all owed reliable h rest = absurd h

-- so does what is reported where places are tried again
owed_resume : (m : Machine) (i : ℕ) (w r : Endpoint) (k : ℕ) (old : Part) (reply : Reply) (new : Part)
    (events : List WorldEvent) (replies : List Reply) (bound : ℕ) → (writer_at m w).policy ≡ KeepAll
    → owed_from (writer_at m w) r ≤ bound
    → (i ≡ r.peer → IsReliableAt old r.number) → ResumeStep (grounds_of m i) old k reply new
    → LosesNoneFrom bound w r events replies
    → LosesNoneFrom bound w r (world.Resume i k ∷ events) (reply ∷ replies)
owed_resume m i w r k old (Reported report) new events replies bound all owed reliable h rest =
    (λ here. owed_moves m i w r old report.moves new bound all owed reliable h.2 here, rest)
owed_resume m i w r k old (Refused code) new events replies bound all owed reliable h rest = rest
owed_resume m i w r k old reply new events replies bound all owed reliable h rest = absurd h

pub owed_step : (w r : Endpoint) (tests : AllTests) (sent : ℕ) (m : Machine) (ev : WorldEvent) (reply : Reply)
    (new : Machine) (events : List WorldEvent) (replies : List Reply) (bound : ℕ) → (writer_at m w).policy ≡ KeepAll
    → owed_from (writer_at m w) r ≤ bound
    → IsReliableAt (part_at m r.peer) r.number → Step tests sent m ev reply new
    → LosesNoneFrom bound w r events replies → LosesNoneFrom bound w r (ev ∷ events) (reply ∷ replies)
owed_step w r tests sent m (world.Call peer call) reply new events replies bound all owed reliable h rest = rest
owed_step w r tests sent m (world.Tick peer now) reply new events replies bound all owed reliable h rest = rest
owed_step w r tests sent m (world.Deliver peer packet) reply new events replies bound all owed reliable (inl h) rest =
    owed_delivery m peer w r packet (part_at m peer) reply h.2.after events replies bound all owed
    (λ here. subst (λ (n : ℕ). IsReliableAt (part_at m n) r.number) (sym here) reliable) h.2.step rest
owed_step w r tests sent m (world.Deliver peer packet) reply new events replies bound all owed reliable (inr h) rest =
    subst (λ (x : Reply). LosesNoneFrom bound w r (world.Deliver peer packet ∷ events) (x ∷ replies)) (sym h.1.0) rest
owed_step w r tests sent m (world.Resume peer k) reply new events replies bound all owed reliable (inl h) rest =
    owed_resume m peer w r k (part_at m peer) reply h.after events replies bound all owed
    (λ here. subst (λ (n : ℕ). IsReliableAt (part_at m n) r.number) (sym here) reliable) h.step rest
owed_step w r tests sent m (world.Resume peer k) reply new events replies bound all owed reliable (inr h) rest =
    subst (λ (x : Reply). LosesNoneFrom bound w r (world.Resume peer k ∷ events) (x ∷ replies)) (sym h.1.0) rest

-- the policies of the two stay
pub next_reliable : (tests : AllTests) (sent : ℕ) (m : Machine) (ev : WorldEvent) (reply : Reply) (new : Machine)
    (r : Endpoint) → Step tests sent m ev reply new → IsReliableAt (part_at m r.peer) r.number
    → IsReliableAt (part_at (machine_ended m ev new) r.peer) r.number
next_reliable tests sent m ev reply new r h reliable =
    ap (λ (q : ReaderQos). is_reliable q.reliability)
    ((ended_alike m ev new r.peer).qos r.number ∙ Step-qos tests sent m ev reply new r h) ∙ reliable

pub next_policy : (tests : AllTests) (sent : ℕ) (m : Machine) (ev : WorldEvent) (reply : Reply) (new : Machine)
    (w : Endpoint) → Step tests sent m ev reply new → (writer_at m w).policy ≡ KeepAll
    → (writer_at (machine_ended m ev new) w).policy ≡ KeepAll
next_policy tests sent m ev reply new w h all =
    ended_policy m ev new w ∙ (Step-policy w tests sent m ev reply new h ∙ all)

owed_kept : (tests : AllTests) (w r : Endpoint) (m after : Machine) (events : List WorldEvent)
    (replies : List Reply) (sent last bound : ℕ) → (writer_at m w).policy ≡ KeepAll
    → owed_from (writer_at after w) r ≤ bound
    → IsReliableAt (part_at m r.peer) r.number
    → Run tests sent m events replies last after → LosesNoneFrom bound w r events replies
owed_kept tests w r m after [] [] sent last bound all owed reliable run = tt
owed_kept tests w r m after (e ∷ es) (p ∷ ps) sent last bound all owed reliable run =
    let more = runs_owe_no_more tests sent m (e ∷ es) (p ∷ ps) last after run w r in
    owed_step w r tests sent m e p run.0 es ps bound all (omega (arith, more, owed)) reliable run.2
    (owed_kept tests w r (machine_ended m e run.0) after es ps run.1 last bound
    (next_policy tests sent m e p run.0 w run.2 all) owed (next_reliable tests sent m e p run.0 r run.2 reliable) run.4)
owed_kept tests w r m after [] (p ∷ ps) sent last bound all owed reliable run = absurd run
owed_kept tests w r m after (e ∷ es) [] sent last bound all owed reliable run = absurd run

pub keep_all_is_kept : (tests : AllTests) (w r : Endpoint) (m after : Machine) (events : List WorldEvent)
    (replies : List Reply) (sent last : ℕ) → (writer_at m w).policy ≡ KeepAll
    → IsReliableAt (part_at m r.peer) r.number
    → Run tests sent m events replies last after
    → LosesNoneFrom (owed_from (writer_at after w) r) w r events replies
keep_all_is_kept tests w r m after events replies sent last all reliable run =
    owed_kept tests w r m after events replies sent last (owed_from (writer_at after w) r) all (omega arith) reliable run

-- ---- while nobody comes or goes

no_passes : (m : Machine) (i : ℕ) (w : Endpoint) (k : ℕ) (old : Part) (ms : List Move) (new : Part)
    → (writer_at m w).policy ≡ KeepAll → IsReliableAt old k → AreMoves (closed_grounds_of m i) old ms new → PassesNone w k ms
no_passes m i w k old [] new all reliable h = tt
no_passes m i w k old (Place v r to [] ∷ ms) new all reliable h =
    no_passes m i w k h.0 ms new all (still_reliable (closed_grounds_of m i) old (Place v r to []) h.0 k h.1 reliable) h.2
no_passes m i w k old (Place v r to (run ∷ runs) ∷ ms) new all reliable h =
    let goes : GoesTo (as_to (closed_grounds_of m i) v r) (match_of old r h.1.publication) (position_at old r h.1.place)
    (run ∷ runs) to h.1.end = h.1.goes in
    let ordered = goes.3.ordered in (
      λ e same. passes_none (as_to (closed_grounds_of m i) v r) (own_reader old r).qos run.first
          (ap (λ (n : ℕ). is_reliable (own_reader old n).qos.reliability) same ∙ reliable)
          (λ n. keeps_all (writer_at m v).policy m v n refl (ap (λ (x : Endpoint). (writer_at m x).policy) e ∙ all))
          (goes.3.may_pass run.first (omega arith) (omega (arith, ordered))),
      no_passes m i w k h.0 ms new all
          (still_reliable (closed_grounds_of m i) old (Place v r to (run ∷ runs)) h.0 k h.1 reliable) h.2,
    )
no_passes m i w k old (Acknowledged v r to ∷ ms) new all reliable h =
    no_passes m i w k h.0 ms new all (still_reliable (closed_grounds_of m i) old (Acknowledged v r to) h.0 k h.1 reliable) h.2
no_passes m i w k old (Heard v r ∷ ms) new all reliable h =
    no_passes m i w k h.0 ms new all (still_reliable (closed_grounds_of m i) old (Heard v r) h.0 k h.1 reliable) h.2
no_passes m i w k old (Strange v r ∷ ms) new all reliable h =
    no_passes m i w k h.0 ms new all (still_reliable (closed_grounds_of m i) old (Strange v r) h.0 k h.1 reliable) h.2
no_passes m i w k old (HasBegun v r from to ∷ ms) new all reliable h =
    no_passes m i w k h.0 ms new all (still_reliable (closed_grounds_of m i) old (HasBegun v r from to) h.0 k h.1 reliable)
    h.2

-- what a delivery reports goes before what the others do
loses_delivery : (m : Machine) (i : ℕ) (w r : Endpoint) (packet : ℕ) (old : Part) (reply : Reply) (new : Part)
    (events : List WorldEvent) (replies : List Reply) → (writer_at m w).policy ≡ KeepAll
    → (i ≡ r.peer → IsReliableAt old r.number) → DeliveryStep (closed_grounds_of m i) old reply new
    → LosesNone w r events replies → LosesNone w r (world.Deliver i packet ∷ events) (reply ∷ replies)
loses_delivery m i w r packet old (Reported report) new events replies all reliable h rest =
    (λ here. no_passes m i w r.number old report.moves new all (reliable here) h, rest)
loses_delivery m i w r packet old reply new events replies all reliable h rest = absurd h

-- so does what is reported where places are tried again
loses_resume : (m : Machine) (i : ℕ) (w r : Endpoint) (k : ℕ) (old : Part) (reply : Reply) (new : Part)
    (events : List WorldEvent) (replies : List Reply) → (writer_at m w).policy ≡ KeepAll
    → (i ≡ r.peer → IsReliableAt old r.number) → ResumeStep (closed_grounds_of m i) old k reply new
    → LosesNone w r events replies → LosesNone w r (world.Resume i k ∷ events) (reply ∷ replies)
loses_resume m i w r k old (Reported report) new events replies all reliable h rest =
    (λ here. no_passes m i w r.number old report.moves new all (reliable here) h.2, rest)
loses_resume m i w r k old (Refused code) new events replies all reliable h rest = rest
loses_resume m i w r k old reply new events replies all reliable h rest = absurd h

Step-loses : (w r : Endpoint) (tests : AllTests) (sent : ℕ) (m : Machine) (ev : WorldEvent) (reply : Reply)
    (new : Machine) (events : List WorldEvent) (replies : List Reply) → (writer_at m w).policy ≡ KeepAll
    → IsReliableAt (part_at m r.peer) r.number → ClosedStep tests sent m ev reply new → LosesNone w r events replies
    → LosesNone w r (ev ∷ events) (reply ∷ replies)
Step-loses w r tests sent m (world.Call peer call) reply new events replies all reliable h rest = rest
Step-loses w r tests sent m (world.Tick peer now) reply new events replies all reliable h rest = rest
Step-loses w r tests sent m (world.Deliver peer packet) reply new events replies all reliable (inl h) rest =
    loses_delivery m peer w r packet (part_at m peer) reply h.2.after events replies all
    (λ here. subst (λ (n : ℕ). IsReliableAt (part_at m n) r.number) (sym here) reliable) h.2.step rest
Step-loses w r tests sent m (world.Deliver peer packet) reply new events replies all reliable (inr h) rest =
    subst (λ (x : Reply). LosesNone w r (world.Deliver peer packet ∷ events) (x ∷ replies)) (sym h.1.0) rest
Step-loses w r tests sent m (world.Resume peer k) reply new events replies all reliable (inl h) rest =
    loses_resume m peer w r k (part_at m peer) reply h.after events replies all
    (λ here. subst (λ (n : ℕ). IsReliableAt (part_at m n) r.number) (sym here) reliable) h.step rest
Step-loses w r tests sent m (world.Resume peer k) reply new events replies all reliable (inr h) rest =
    subst (λ (x : Reply). LosesNone w r (world.Resume peer k ∷ events) (x ∷ replies)) (sym h.1.0) rest

pub closed_loses_none : (tests : AllTests) (w r : Endpoint) (m after : Machine) (events : List WorldEvent)
    (replies : List Reply) (sent last : ℕ) → NobodyTold events → IsClosed m → (writer_at m w).policy ≡ KeepAll
    → IsReliableAt (part_at m r.peer) r.number
    → Run tests sent m events replies last after → LosesNone w r events replies
closed_loses_none tests w r m after [] [] sent last none closed all reliable run = tt
closed_loses_none tests w r m after (e ∷ es) (p ∷ ps) sent last none closed all reliable run =
    Step-loses w r tests sent m e p run.0 es ps all reliable (step_closed tests sent m e p run.0 closed run.2)
    (closed_loses_none tests w r (machine_ended m e run.0) after es ps run.1 last none.1
    (stays_closed tests sent m e p run.0 none.0 closed run.2) (next_policy tests sent m e p run.0 w run.2 all)
    (next_reliable tests sent m e p run.0 r run.2 reliable) run.4)
closed_loses_none tests w r m after [] (p ∷ ps) sent last none closed all reliable run = absurd run
closed_loses_none tests w r m after (e ∷ es) [] sent last none closed all reliable run = absurd run
