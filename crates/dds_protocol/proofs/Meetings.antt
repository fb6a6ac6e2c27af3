-- By an event that meets nobody, and by one that is refused, a peer meets whom each roster has.
use Rattle.std.proofs.Common.{ℕ, inl, inr, sym, subst}
use Rattle.dds_base.specs.declared.code.Code.{Code}
use Rattle.dds_machine.specs.declared.call.Call.TheVariants as call
use Rattle.dds_machine.specs.declared.reply.Reply.{Reply}
use Rattle.dds_machine.specs.declared.reply.Reply.TheVariants.{Refused}
use Rattle.dds_protocol.specs.declared.event.Event.{Event}
use Rattle.dds_protocol.specs.declared.event.Event.TheVariants as event
use Rattle.dds_protocol.specs.Meetings.{IsNoMeeting, MeetsByRoster, NobodyIsMet}
use Rattle.dds_protocol.specs.Roster.{Roster}

-- an event that is no meeting asks nothing of the roster
by_none : (roster : Roster) (peer : ℕ) (e : Event) (reply : Reply) → IsNoMeeting e → MeetsByRoster roster peer e reply
by_none roster peer (event.Call (call.MeetReader writer far greeted)) reply none = absurd none
by_none roster peer (event.Call (call.MeetWriter reader far)) reply none = absurd none
by_none roster peer other reply none = tt

-- nor does one that is refused
if_refused : (roster : Roster) (peer : ℕ) (e : Event) (code : Code) → MeetsByRoster roster peer e (Refused code)
if_refused roster peer (event.Call (call.MeetReader writer far greeted)) code = tt
if_refused roster peer (event.Call (call.MeetWriter reader far)) code = tt
if_refused roster peer other code = tt

pub nobody_is_met : NobodyIsMet
nobody_is_met roster peer e reply (inl none) = by_none roster peer e reply none
nobody_is_met roster peer e reply (inr (code, is)) =
    subst (λ (r : Reply). MeetsByRoster roster peer e r) (sym is) (if_refused roster peer e code)
