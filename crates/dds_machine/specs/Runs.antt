-- Runs of the machine: replies to events, one step after another, each to its end, at which listeners are told.
--
-- Runs are this project's own. Listeners are told at the end of an event (DDS 1.4, 2.2.4.3).
use Rattle.std.specs.Prelude.{◌≡◌, ℕ, ◌≤◌, List, [], ◌∷◌}
use Rattle.dds_base.specs.declared.config.Config.{Config}
use Rattle.dds_machine.specs.declared.event.WorldEvent.{WorldEvent}
use Rattle.dds_machine.specs.declared.reply.Reply.{Reply}
use Rattle.dds_machine.specs.Machine.{AllTests, Machine, Step}
use Rattle.dds_machine.specs.Noticing.{machine_ended}

-- What is kept stands for machines. For each for which it stood, when so many packets were sent, and whose configuration
-- has whom a peer meets by the event, the reply is one that the machine gives, and it then stands for the machine at the
-- event's end.
abbrev pub Steps : {X : Type 0} → (X → Config → Machine → Type 0) → (Config → WorldEvent → Reply → Type 0) → AllTests → ℕ
    → X → WorldEvent → Reply → X → Type 0
Steps StandsFor Has tests sent old event reply new =
    (config : Config) (m : Machine) → StandsFor old config m → Has config event reply
    → (after : Machine) × Step tests sent m event reply after × StandsFor new config (machine_ended m event after)

-- Replies to a list of events. So many packets were sent before the first event, so many after the last, and after none
-- fewer than before it; how many, the machine doesn't say.
abbrev pub Run : AllTests → ℕ → Machine → List WorldEvent → List Reply → ℕ → Machine → Type 0
Run tests sent old [] [] last new = (new ≡ old) × (last ≡ sent)
Run tests sent old (event ∷ events) (reply ∷ replies) last new =
    (mid : Machine) × (next : ℕ) × Step tests sent old event reply mid × (sent ≤ next)
    × Run tests next (machine_ended old event mid) events replies last new
Run tests sent old [] (reply ∷ replies) last new = ⊥
Run tests sent old (event ∷ events) [] last new = ⊥

-- so it is of each of these events and its reply
abbrev pub OfEach : (WorldEvent → Reply → Type 0) → List WorldEvent → List Reply → Type 0
OfEach Is (event ∷ events) (reply ∷ replies) = Is event reply × OfEach Is events replies
OfEach Is events replies = Unit {0}

-- For each machine for which what is kept stood, and whose configuration has whom its peers meet by the events, the
-- replies to them are a run of it, to one for which it then stands.
abbrev pub Runs : {X : Type 0} → (X → Config → Machine → Type 0) → (Config → WorldEvent → Reply → Type 0) → AllTests → ℕ
    → X → List WorldEvent → List Reply → ℕ → X → Type 0
Runs StandsFor Has tests sent old events replies last new =
    (config : Config) (m : Machine) → StandsFor old config m → OfEach (Has config) events replies
    → (after : Machine) × Run tests sent m events replies last after × StandsFor new config after
