-- Runs of a network, one step after another.
use Rattle.std.proofs.Common.{◌≡◌, ℕ, Some, List, [], ◌∷◌, ◌++◌, length, refl, subst, ap}
use Rattle.dds_protocol.specs.Roster.{Roster, roster_of}
use Rattle.dds_protocol.specs.Noticing.{world_ended}
use Rattle.dds_machine.specs.declared.event.WorldEvent.{WorldEvent}
use Rattle.dds_protocol.specs.declared.event.Packet.{Packet}
use Rattle.dds_machine.specs.declared.reply.Reply.{Reply}
use Rattle.dds_base.specs.declared.endpoint.Endpoint.{Endpoint}
use Rattle.dds_machine.specs.Machine.{AllTests, Machine, place_at, writer_at}
use Rattle.dds_machine.specs.Part.{writer_changes}
use Rattle.dds_world.specs.declared.round.Round.{Round}
use Rattle.dds_world.specs.Round.{RoundRuns, Rounds, replies_of}
use Rattle.dds_protocol.specs.Rules.{CountedStep, RuledRun}
use Rattle.dds_machine.specs.Runs.{Run, Runs}
use Rattle.dds_protocol.specs.World.{WorldState, machine_of}
use Rattle.dds_protocol.proofs.RunLaws.{machine_runs}
use Rattle.dds_protocol.specs.Meetings.{MeetsInNetwork}
use Rattle.dds_world.proofs.Meetings.{each_before}
use Rattle.dds_world.specs.WorldStanding.{Hearing, WorldKept, StandsFor, MachineStandsIn, MeetsByConfig, KeepsRules, KeepsRulesAlone, RunsByRules}

-- a run with one more step
run_more : (roster : Roster) (tests : AllTests) (a b c : WorldState) (k m n : ℕ) (events : List WorldEvent)
    (replies : List Reply) (ev : WorldEvent) (reply : Reply) → RuledRun roster tests a k events replies b m
    → CountedStep roster tests b m ev reply c n
    → RuledRun roster tests a k (events ++ ev ∷ []) (replies ++ reply ∷ []) (world_ended b ev c) n
run_more roster tests a b c k m n [] [] ev reply run step = (
  c,
  n,
  subst (λ (x : WorldState). CountedStep roster tests x k ev reply c n) run.0
      (subst (λ (i : ℕ). CountedStep roster tests b i ev reply c n) run.1 step),
  (ap (λ (x : WorldState). world_ended x ev c) run.0, refl),
)
run_more roster tests a b c k m n (e ∷ es) (r ∷ rs) ev reply run step =
    (run.0, run.1, run.2, run_more roster tests (world_ended a e run.0) b c run.1 m n es rs ev reply run.3 step)
run_more roster tests a b c k m n [] (r ∷ rs) ev reply run step = absurd run
run_more roster tests a b c k m n (e ∷ es) [] ev reply run step = absurd run

-- a step by the rules, of a network that stands for this state
pub record Went {hearing : Hearing} (tests : AllTests) (roster : Roster) (network : WorldState)
    (old : WorldKept hearing) (ev : WorldEvent)
    (reply : Reply) (new : WorldKept hearing) : Type 0 where
  pub after : WorldState
  pub step : CountedStep roster tests network old.unsent ev reply after new.unsent
  pub stands : StandsFor new roster (world_ended network ev after)

-- the network at its end
abbrev pub ended : {hearing : Hearing}
    → {tests : AllTests} {roster : Roster} {network : WorldState} {old : WorldKept hearing} {ev : WorldEvent}
    {reply : Reply} {new : WorldKept hearing}
    → Went tests roster network old ev reply new → WorldState
ended {network = network} {ev = ev} w = world_ended network ev w.after

pub went_by : {hearing : Hearing} → {tests : AllTests}
    → (roster : Roster) (network : WorldState) (old : WorldKept hearing) (ev : WorldEvent) (reply : Reply) (new : WorldKept hearing)
    → KeepsRulesAlone tests old ev reply new → StandsFor old roster network
    → Went tests roster network old ev reply new
went_by roster network old ev reply new rules s =
    let t = rules roster network s in
    record { after = t.0; step = t.1; stands = t.2 }

pub runs_none : {hearing : Hearing} → {tests : AllTests} → (kept : WorldKept hearing)
    → RunsByRules tests kept [] [] kept
runs_none kept = record { run = λ roster network s met. (network, (refl, refl), s) }

pub runs_more : {hearing : Hearing} → {tests : AllTests}
    → (kept mid new : WorldKept hearing) (events : List WorldEvent) (replies : List Reply) (ev : WorldEvent) (reply : Reply)
    → length events ≡ length replies → RunsByRules tests kept events replies mid → KeepsRules tests mid ev reply new
    → RunsByRules tests kept (events ++ ev ∷ []) (replies ++ reply ∷ []) new
runs_more {tests} kept mid new events replies ev reply same runs rules = record {
  run = λ roster network s met.
      let before = each_before (MeetsInNetwork roster) events replies ev reply same met in
      let r = runs.run roster network s before.0 in
      let w = rules roster r.0 r.2 before.1 in
      let run =
      run_more roster tests network r.0 w.0 kept.unsent mid.unsent new.unsent events replies ev reply r.1 w.1
      in
      let end : WorldState = world_ended r.0 ev w.0 in (end, run, w.2);
}

-- ---- of the machine

-- a run, with other words for what was sent and for the machine that it begins with
run_as : (tests : AllTests) (sent last before after : ℕ) (m begun end : Machine) (events : List WorldEvent)
    (replies : List Reply) → sent ≡ before → last ≡ after → m ≡ begun → Run tests sent m events replies last end
    → Run tests before begun events replies after end
run_as tests sent last before after m begun end events replies first then is run =
    subst (λ (n : ℕ). Run tests n begun events replies after end) first
    (subst (λ (n : ℕ). Run tests sent begun events replies n end) then
    (subst (λ (x : Machine). Run tests sent x events replies last end) is run))

-- a run by the rules is one of the machine that the peers are the parts of
pub machine_run : {hearing : Hearing} → (tests : AllTests) (old new : WorldKept hearing) (events : List WorldEvent)
    (replies : List Reply)
    (roster : Roster) (m : Machine) (network after : WorldState) → machine_of network ≡ m
    → StandsFor old roster network → StandsFor new roster after
    → RuledRun roster tests network old.unsent events replies after new.unsent
    → Run tests (length old.sent) m events replies (length new.sent) (machine_of after)
machine_run tests old new events replies roster m network after is s t run =
    run_as tests (length network.sent) (length after.sent) (length old.sent) (length new.sent) (machine_of network) m
    (machine_of after) events replies (ap (λ (ps : List Packet). length ps) s.sent)
    (ap (λ (ps : List Packet). length ps) t.sent) is
    (machine_runs roster tests network after old.unsent new.unsent events replies run)

pub runs_of_machine : {hearing : Hearing} → {tests : AllTests} → (old new : WorldKept hearing)
    (events : List WorldEvent) (replies : List Reply)
    → RunsByRules tests old events replies new
    → Runs MachineStandsIn MeetsByConfig tests (length old.sent) old events replies (length new.sent) new
runs_of_machine {tests} old new events replies runs config m stands met =
    let r = runs.run (roster_of config) stands.0 stands.2 met in (
      machine_of r.0,
      machine_run tests old new events replies (roster_of config) m stands.0 r.0 stands.1 stands.2 r.2 r.1,
      (r.0, refl, r.2),
    )

-- the replies of a round are a run of the machine, of which the answer tells the reader's places
pub round_runs : {hearing : Hearing} → (tests : AllTests) (old new : WorldKept hearing) (writer reader : Endpoint)
    (answer : Round)
    → Rounds tests old writer reader answer new
    → RoundRuns MachineStandsIn tests (length old.sent) old writer reader answer (length new.sent) new
round_runs tests old new writer reader answer rounds = record {
  events = rounds.events;
  runs = λ config m stands.
      let f = rounds.round (roster_of config) stands.0 stands.2 in (
        machine_of f.after,
        machine_run tests old new rounds.events (replies_of answer.replies) (roster_of config) m stands.0 f.after stands.1 stands.2
            f.stands f.run,
        (f.after, refl, f.stands),
        subst (λ (x : Machine). place_at x reader writer ≡ Some answer.from) stands.1 f.from,
        f.to,
        subst (λ (x : Machine). answer.last ≡ length (writer_changes (writer_at x writer))) stands.1 f.last,
      );
}
