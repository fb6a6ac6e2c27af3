-- Runs of peers are runs of the machine; what a writer that keeps all has dropped, and that its policy stays; that lists
-- and places grow, and what is owed never goes back.
use Rattle.std.proofs.Common.{◌≡◌, ℕ, true, false, List, [], ◌∷◌, length, subst, ap, sym, ◌∙◌, inl, inr, arith, ◌≤◌, length-append}
use Rattle.dds_protocol.specs.Roster.{Roster}
use Rattle.dds_base.specs.declared.qos.HistoryQos.{HistoryQos}
use Rattle.dds_base.specs.declared.qos.HistoryQos.TheVariants.{KeepAll}
use Rattle.dds_base.specs.Kept.{is_dropped, is_dropped_by}
use Rattle.dds_base.specs.declared.endpoint.Endpoint.{Endpoint}
use Rattle.dds_machine.specs.declared.event.WorldEvent.{WorldEvent}
use Rattle.dds_machine.specs.declared.event.WorldEvent.TheVariants as world
use Rattle.dds_machine.specs.declared.reply.Reply.{Reply}
use Rattle.dds_machine.specs.Part.{owed_from, writer_changes, history_of}
use Rattle.dds_machine.specs.Machine.{Machine, AllTests, part_at, place_at, writer_at, grounds_of, Step}
use Rattle.dds_machine.specs.Noticing.{machine_ended}
use Rattle.dds_protocol.specs.World.{WorldState, WorldStep, machine_of, Sound}
use Rattle.dds_machine.specs.Runs.{Run}
use Rattle.dds_protocol.specs.Rules.{RuledRun}
use Rattle.dds_protocol.specs.Laws.{WorldRun}
use Rattle.dds_protocol.specs.Tellings.{OwesNoMore}
use Rattle.dds_protocol.proofs.Growth.{AreMoves-grows, MachineGrows, writer_same, CallStep-grows, TickStep-grows, DeliveryStep-grows, with_part-grows}
use Rattle.dds_protocol.specs.Noticing.{world_ended}
use Rattle.dds_protocol.proofs.EndsBeside.{ended_sound, ended_writer, machine_ends}
use Rattle.dds_machine.proofs.Tables.{no_less_same}
use Rattle.dds_protocol.proofs.Composed.{composes}
use Rattle.dds_protocol.proofs.Resumed.{as_moves}

-- no packet that was sent is forgotten
sent_more : (roster : Roster) (tests : AllTests) (old new : WorldState) (e : WorldEvent) (r : Reply)
    → WorldStep roster tests old e r new → length old.sent ≤ length new.sent
sent_more roster tests old new (world.Call peer call) r (inl h) =
    let more = length-append old.sent h.posted in let is = ap (λ (w : WorldState). length w.sent) h.changed in
    omega (arith, more, is)
sent_more roster tests old new (world.Call peer call) r (inr h) =
    let is = ap (λ (w : WorldState). length w.sent) h.1.after in omega (arith, is)
sent_more roster tests old new (world.Tick peer now) r (inl h) =
    let more = length-append old.sent h.posted in let is = ap (λ (w : WorldState). length w.sent) h.changed in
    omega (arith, more, is)
sent_more roster tests old new (world.Tick peer now) r (inr h) =
    let is = ap (λ (w : WorldState). length w.sent) h.1.after in omega (arith, is)
sent_more roster tests old new (world.Deliver peer n) r (inl h) =
    let s = h.3 in
    let more = length-append old.sent s.posted in let is = ap (λ (w : WorldState). length w.sent) s.changed in
    omega (arith, more, is)
sent_more roster tests old new (world.Deliver peer n) r (inr h) =
    let is = ap (λ (w : WorldState). length w.sent) h.1.after in omega (arith, is)
sent_more roster tests old new (world.Resume peer k) r (inl h) =
    let more = length-append old.sent h.posted in let is = ap (λ (w : WorldState). length w.sent) h.changed in
    omega (arith, more, is)
sent_more roster tests old new (world.Resume peer k) r (inr h) =
    let is = ap (λ (w : WorldState). length w.sent) h.1.after in omega (arith, is)

pub composes_runs : (roster : Roster) (tests : AllTests) (old new : WorldState) (events : List WorldEvent)
    (replies : List Reply) → Sound roster old → WorldRun roster tests old events replies new
    → Run tests (length old.sent) (machine_of old) events replies (length new.sent) (machine_of new)
    × Sound roster new
composes_runs roster tests old new [] [] sound run = (
  (ap machine_of run, ap (λ (w : WorldState). length w.sent) run),
  subst (λ (w : WorldState). Sound roster w) (sym run) sound,
)
composes_runs roster tests old new (e ∷ es) (r ∷ rs) sound run =
    let s = composes roster tests old run.0 e r sound run.1 in
    let t =
    composes_runs roster tests (world_ended old e run.0) new es rs (ended_sound roster old e run.0 s.2) run.2 in (
      (
        machine_of run.0,
        length run.0.sent,
        s.0,
        sent_more roster tests old run.0 e r run.1,
        subst (λ (m : Machine). Run tests (length run.0.sent) m es rs (length new.sent) (machine_of new))
            (machine_ends old e run.0) t.0,
      ),
      t.1,
    )
composes_runs roster tests old new [] (r ∷ rs) sound run = absurd run
composes_runs roster tests old new (e ∷ es) [] sound run = absurd run

-- a run by the rules is a run of the machine
pub machine_runs : (roster : Roster) (tests : AllTests) (old new : WorldState) (unsent last : ℕ)
    (events : List WorldEvent) (replies : List Reply) → RuledRun roster tests old unsent events replies new last
    → Run tests (length old.sent) (machine_of old) events replies (length new.sent) (machine_of new)
machine_runs roster tests old new unsent last [] [] run =
    (ap machine_of run.0, ap (λ (w : WorldState). length w.sent) run.0)
machine_runs roster tests old new unsent last (e ∷ es) (r ∷ rs) run = (
  machine_of run.0,
  length run.0.sent,
  run.2.machine,
  sent_more roster tests old run.0 e r run.2.ruled.step,
  subst (λ (m : Machine). Run tests (length run.0.sent) m es rs (length new.sent) (machine_of new))
      (machine_ends old e run.0) (machine_runs roster tests (world_ended old e run.0) new run.1 last es rs run.3),
)
machine_runs roster tests old new unsent last [] (r ∷ rs) run = absurd run
machine_runs roster tests old new unsent last (e ∷ es) [] run = absurd run

-- a writer that keeps all has dropped nothing
pub keeps_all : (policy : HistoryQos) (m : Machine) (w : Endpoint) (n : ℕ) → (writer_at m w).policy ≡ policy
    → policy ≡ KeepAll → is_dropped (history_of (writer_at m w)) n ≡ true → ⊥
keeps_all policy m w n is all h =
    let none : is_dropped (history_of (writer_at m w)) n ≡ false =
    ap (λ (p : HistoryQos). is_dropped_by p (writer_changes (writer_at m w)) n) (is ∙ all) in cc

-- lists and places grow, and what a writer owes begins no lower later

same_grows : (m : Machine) → MachineGrows m m
same_grows m = record { writers = λ w. writer_same (writer_at m w); places = λ r w. no_less_same (place_at m r w) }

pub Step-grows : (tests : AllTests) (sent : ℕ) (m : Machine) (ev : WorldEvent) (reply : Reply) (new : Machine)
    → Step tests sent m ev reply new → MachineGrows m new
Step-grows tests sent m (world.Call peer call) reply new (inl h) =
    subst (λ (x : Machine). MachineGrows m x) (sym h.changed)
    (with_part-grows m peer h.after (CallStep-grows (tests peer) (part_at m peer) call reply h.after h.step))
Step-grows tests sent m (world.Call peer call) reply new (inr h) =
    subst (λ (x : Machine). MachineGrows m x) (sym h.1.1) (same_grows m)
Step-grows tests sent m (world.Tick peer now) reply new (inl h) =
    subst (λ (x : Machine). MachineGrows m x) (sym h.changed)
    (with_part-grows m peer h.after (TickStep-grows (part_at m peer) now reply h.after h.step))
Step-grows tests sent m (world.Tick peer now) reply new (inr h) =
    subst (λ (x : Machine). MachineGrows m x) (sym h.1.1) (same_grows m)
Step-grows tests sent m (world.Deliver peer packet) reply new (inl h) =
    subst (λ (x : Machine). MachineGrows m x) (sym h.2.changed)
    (with_part-grows m peer h.2.after
    (DeliveryStep-grows (grounds_of m peer) (part_at m peer) reply h.2.after h.2.step))
Step-grows tests sent m (world.Deliver peer packet) reply new (inr h) =
    subst (λ (x : Machine). MachineGrows m x) (sym h.1.1) (same_grows m)
Step-grows tests sent m (world.Resume peer k) reply new (inl h) =
    let made = as_moves (grounds_of m peer) (part_at m peer) k reply h.after h.step in
    subst (λ (x : Machine). MachineGrows m x) (sym h.changed)
    (with_part-grows m peer h.after (AreMoves-grows (grounds_of m peer) (part_at m peer) made.0 h.after made.1))
Step-grows tests sent m (world.Resume peer k) reply new (inr h) =
    subst (λ (x : Machine). MachineGrows m x) (sym h.1.1) (same_grows m)

pub Step-policy : (w : Endpoint) (tests : AllTests) (sent : ℕ) (m : Machine) (ev : WorldEvent) (reply : Reply)
    (new : Machine) → Step tests sent m ev reply new → (writer_at new w).policy ≡ (writer_at m w).policy
Step-policy w tests sent m ev reply new h = ((Step-grows tests sent m ev reply new h).writers w).policy

pub steps_owe_no_more : (tests : AllTests) (sent : ℕ) (m : Machine) (ev : WorldEvent) (reply : Reply) (new : Machine)
    → Step tests sent m ev reply new → OwesNoMore m (machine_ended m ev new)
steps_owe_no_more tests sent m ev reply new h w r =
    let step = ((Step-grows tests sent m ev reply new h).writers w).owed r in
    let end = (ended_writer m ev new w).grows.owed r in
    omega (arith, step, end)

pub runs_owe_no_more : (tests : AllTests) (sent : ℕ) (m : Machine) (events : List WorldEvent) (replies : List Reply)
    (last : ℕ) (after : Machine) → Run tests sent m events replies last after → OwesNoMore m after
runs_owe_no_more tests sent m [] [] last after run w r =
    let same = ap (λ (x : Machine). owed_from (writer_at x w) r) run.0 in omega (arith, same)
runs_owe_no_more tests sent m (e ∷ es) (p ∷ ps) last after run w r =
    let first = steps_owe_no_more tests sent m e p run.0 run.2 w r in
    let rest = runs_owe_no_more tests run.1 (machine_ended m e run.0) es ps last after run.4 w r in
    omega (arith, first, rest)
runs_owe_no_more tests sent m [] (p ∷ ps) last after run w r = absurd run
runs_owe_no_more tests sent m (e ∷ es) [] last after run w r = absurd run
