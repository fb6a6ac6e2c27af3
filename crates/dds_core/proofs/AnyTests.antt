-- Events in which no filter has a say: they are the same by any filters.
use Rattle.std.proofs.Common.{◌≡◌, ℕ, Bool, true, false, List, inl, inr, refl, sym, subst}
use Rattle.dds_protocol.specs.Roster.{Roster}
use Rattle.dds_conditions.specs.NoFilters.{no_filters}
use Rattle.dds_machine.specs.declared.call.Call.{Call}
use Rattle.dds_machine.specs.declared.call.Call.TheVariants as call
use Rattle.dds_protocol.specs.declared.event.Event.{Event}
use Rattle.dds_protocol.specs.declared.event.Event.TheVariants as event
use Rattle.dds_protocol.specs.declared.event.Output.{Output}
use Rattle.dds_machine.specs.declared.reply.Reply.{Reply}
use Rattle.dds_machine.specs.declared.reply.Reply.TheVariants.{Refused, Reported}
use Rattle.dds_machine.specs.Calls.{Answers}
use Rattle.dds_machine.specs.Part.{Dds, Part}
use Rattle.dds_protocol.specs.Peer.{EventStep, Peer, PeerStep}
use Rattle.dds_machine.specs.Watching.{Tests}
use Rattle.dds_base.specs.declared.code.Code.{Code}
use Rattle.dds_protocol.specs.Meetings.{IsNoMeeting}
use Rattle.dds_protocol.proofs.Meetings.{nobody_is_met}
use Rattle.dds_core.specs.Kept.{PeerKept}
use Rattle.dds_core.specs.Somewhere.{MeetsSomewhere}
use Rattle.dds_core.specs.Stepping.{SoundSteps, SoundStepsBy, Steps, StepsBy, StepsMeeting}

-- no filter has a say in the call
abbrev pub is_plain : Call → Bool
is_plain (call.ReadByCondition r scope c) = false
is_plain (call.TakeByCondition r scope c) = false
is_plain (call.GetTriggerValue c) = false
is_plain (call.WaitLook s) = false
is_plain other = true

any_answers : (tests : Tests) (old : Part) (c : Call) (reply : Reply) (dds : Dds) → is_plain c ≡ true
    → Answers no_filters old c reply dds → Answers tests old c reply dds
any_answers tests old (call.ReadByCondition r scope c) reply dds plain a = absurd cc
any_answers tests old (call.TakeByCondition r scope c) reply dds plain a = absurd cc
any_answers tests old (call.GetTriggerValue c) reply dds plain a = absurd cc
any_answers tests old (call.WaitLook s) reply dds plain a = absurd cc
any_answers tests old other reply dds plain a = a

-- by an event by which nobody is met, each roster has whom the peer meets
pub nobody_met : (kept : PeerKept) (ev : Event) (reply : Reply) → IsNoMeeting ev → MeetsSomewhere kept ev reply
nobody_met kept ev reply none = λ roster peer s sound. record {
  roster = roster;
  alike = peer;
  number = refl;
  part = refl;
  stands = s;
  sound = sound;
  has = nobody_is_met roster peer.number ev reply (inl none);
}

-- by one that is refused, too
pub nobody_met_then : (kept : PeerKept) (ev : Event) (reply : Reply) (code : Code) → reply ≡ Refused code
    → MeetsSomewhere kept ev reply
nobody_met_then kept ev reply code refused = λ roster peer s sound. record {
  roster = roster;
  alike = peer;
  number = refl;
  part = refl;
  stands = s;
  sound = sound;
  has = nobody_is_met roster peer.number ev reply (inr (code, refused));
}

-- a step whomever the roster has is one where it has whom the peer meets
pub meets_none : (tests : Tests) (old new : PeerKept) (c : Call) (output : Output)
    → StepsBy tests old (event.Call c) output new → IsNoMeeting (event.Call c)
    → StepsMeeting tests old (event.Call c) output new
meets_none tests old new c output steps none = record {
  step = λ roster peer s met. steps roster peer s;
  meets = nobody_met old (event.Call c) output.reply none;
}

-- what a step is by no filters, it is by any, where none has a say
any_step : (roster : Roster) (tests : Tests) (peer : Peer) (c : Call) (output : Output) (after : Peer)
    → is_plain c ≡ true → PeerStep roster no_filters peer (event.Call c) output after
    → PeerStep roster tests peer (event.Call c) output after
any_step roster tests peer c output after plain r = record {
  same_number = r.same_number;
  knows = r.knows;
  step = (
    record {
      answers = any_answers tests peer.part c output.reply after.part.dds plain r.step.0.answers;
      rtps = r.step.0.rtps;
    },
    r.step.1,
  );
  sent = r.sent;
}

-- a call
pub any_call : (tests : Tests) (old new : PeerKept) (c : Call) (output : Output) → Steps old (event.Call c) output new
    → is_plain c ≡ true → StepsBy tests old (event.Call c) output new
any_call tests old new c output steps plain = λ roster peer s.
    let r = steps roster peer s in (r.0, any_step roster tests peer c output r.0 plain r.1, r.2)

-- the same of one by which the peer may meet somebody
any_meeting : (tests : Tests) (old new : PeerKept) (c : Call) (output : Output)
    → StepsMeeting no_filters old (event.Call c) output new → is_plain c ≡ true
    → StepsMeeting tests old (event.Call c) output new
any_meeting tests old new c output steps plain = record {
  step = λ roster peer s met.
      let r = steps.step roster peer s met in (r.0, any_step roster tests peer c output r.0 plain r.1, r.2);
  meets = steps.meets;
}

-- what was done at a call was done at the call that was given
pub called : (tests : Tests) (old new : PeerKept) (given c : Call) (output : Output) → given ≡ c
    → StepsMeeting tests old (event.Call c) output new → StepsMeeting tests old (event.Call given) output new
called tests old new given c output is steps =
    subst (λ (x : Call). StepsMeeting tests old (event.Call x) output new) (sym is) steps

-- so it was at one in which no filter has a say, by whatever they mean
pub plainly_called : (tests : Tests) (old new : PeerKept) (given c : Call) (output : Output) → given ≡ c
    → Steps old (event.Call c) output new → is_plain c ≡ true → IsNoMeeting (event.Call c)
    → StepsMeeting tests old (event.Call given) output new
plainly_called tests old new given c output is steps plain none =
    called tests old new given c output is
    (meets_none tests old new c output (any_call tests old new c output steps plain) none)

-- and where the peer may meet somebody
pub called_to_meet : (tests : Tests) (old new : PeerKept) (given c : Call) (output : Output) → given ≡ c
    → StepsMeeting no_filters old (event.Call c) output new → is_plain c ≡ true
    → StepsMeeting tests old (event.Call given) output new
called_to_meet tests old new given c output is steps plain =
    called tests old new given c output is (any_meeting tests old new c output steps plain)

-- a tick
pub any_tick : (tests : Tests) (old new : PeerKept) (now : ℕ) (output : Output)
    → SoundSteps old (event.Tick now) output new → SoundStepsBy tests old (event.Tick now) output new
any_tick tests old new now output steps = record {
  step = λ roster peer s sound met.
      let r = steps roster peer s sound in
      (r.0, record { same_number = r.1.same_number; knows = r.1.knows; step = r.1.step; sent = r.1.sent }, r.2, r.3, r.4);
  meets = nobody_met old (event.Tick now) output.reply tt;
}

-- a delivery
any_report : (roster : Roster) (tests : Tests) (old : Peer) (packet : List ℕ) (reply : Reply) (new : Peer)
    → EventStep roster no_filters old (event.Deliver packet) reply new
    → EventStep roster tests old (event.Deliver packet) reply new
any_report roster tests old packet (Reported report) new h = h
any_report roster tests old packet reply new h = absurd h

pub any_delivery : (tests : Tests) (old new : PeerKept) (packet : List ℕ) (output : Output)
    → SoundSteps old (event.Deliver packet) output new → SoundStepsBy tests old (event.Deliver packet) output new
any_delivery tests old new packet output steps = record {
  step = λ roster peer s sound met.
      let r = steps roster peer s sound in (
        r.0,
        record {
          same_number = r.1.same_number;
          knows = r.1.knows;
          step = any_report roster tests peer packet output.reply r.0 r.1.step;
          sent = r.1.sent;
        },
        r.2,
        r.3,
        r.4,
      );
  meets = nobody_met old (event.Deliver packet) output.reply tt;
}

-- places that are tried again
pub any_resume : (tests : Tests) (old new : PeerKept) (reader : ℕ) (output : Output)
    → SoundSteps old (event.Resume reader) output new → SoundStepsBy tests old (event.Resume reader) output new
any_resume tests old new reader output steps = record {
  step = λ roster peer s sound met.
      let r = steps roster peer s sound in
      (r.0, record { same_number = r.1.same_number; knows = r.1.knows; step = r.1.step; sent = r.1.sent }, r.2, r.3, r.4);
  meets = nobody_met old (event.Resume reader) output.reply tt;
}
