-- Networks in which nobody is silent: each reader has answered, or was not greeted. So it is at the opening, and so it
-- stays while no writer is told of a reader that it is to greet.
--
-- A notion of this project, of RTPS 2.5, 8.4.7 (ReaderProxy), 8.3.8 (AckNack).
use Rattle.std.specs.Prelude.{◌≡◌, ℕ, false, List, [], ◌∷◌}
use Rattle.dds_base.specs.declared.config.Config.{Config}
use Rattle.dds_protocol.specs.Roster.{Roster}
use Rattle.dds_base.specs.declared.endpoint.Endpoint.{Endpoint}
use Rattle.dds_machine.specs.declared.call.Call.TheVariants.{MatchReader, MeetReader}
use Rattle.dds_machine.specs.declared.event.WorldEvent.{WorldEvent}
use Rattle.dds_machine.specs.declared.event.WorldEvent.TheVariants.{Call}
use Rattle.dds_machine.specs.declared.reply.Reply.{Reply}
use Rattle.dds_machine.specs.Machine.{AllTests}
use Rattle.dds_protocol.specs.Opening.{opening_world}
use Rattle.dds_protocol.specs.Rules.{RuledStep, RuledRun}
use Rattle.dds_protocol.specs.World.{WorldState, peer_at}

-- no writer knows of a reader that was greeted, and has not answered yet
abbrev pub NobodyIsSilent : WorldState → Type 0
NobodyIsSilent world = (writer reader : Endpoint)
    → ((peer_at world writer.peer).known.answered writer.number reader).silent ≡ false

-- nobody is greeted by the event
abbrev pub GreetsNobody : WorldEvent → Type 0
GreetsNobody (Call peer (MatchReader writer reader greeted)) = greeted ≡ false
GreetsNobody (Call peer (MeetReader writer far greeted)) = greeted ≡ false
GreetsNobody other = Unit {0}

-- nor by any of these
abbrev pub NobodyGreeted : List WorldEvent → Type 0
NobodyGreeted [] = Unit {0}
NobodyGreeted (event ∷ events) = GreetsNobody event × NobodyGreeted events

-- nobody is silent at the opening of every configuration
abbrev pub OpensAnswered : Type 0
OpensAnswered = (config : Config) → NobodyIsSilent (opening_world config)

-- every event of a network by the rules at which nobody is greeted leaves it so
abbrev pub StaysAnswered : Type 0
StaysAnswered = (roster : Roster) (tests : AllTests) (old : WorldState) (event : WorldEvent) (reply : Reply) (lost : ℕ)
    (new : WorldState) → GreetsNobody event → NobodyIsSilent old
    → RuledStep roster tests old event reply lost new → NobodyIsSilent new

-- and so does every run of such events
abbrev pub RunsAnswered : Type 0
RunsAnswered = (roster : Roster) (tests : AllTests) (old : WorldState) (unsent : ℕ) (events : List WorldEvent)
    (replies : List Reply) (new : WorldState) (last : ℕ) → NobodyGreeted events → NobodyIsSilent old
    → RuledRun roster tests old unsent events replies new last → NobodyIsSilent new
