use Rattle.std.proofs.Common.{sym, subst}
use Rattle.dds_core.specs.declared.lent_event.LentEvent.{LentEvent}
use Rattle.dds_core.specs.Lending.{event_of}
use Rattle.dds_core.specs.Stepping.{SoundStepsBy}
use Rattle.dds_core.proofs.AnyTests.{any_delivery, any_resume, any_tick}
use Rattle.dds_core.proofs.Taking.{sound_call, sound_tick}
use Rattle.dds_core.proofs.peer.Peer.step_by.Goals as goal

pub returns-in-Call-clause-step : goal.returns-in-Call-clause-step
returns-in-Call-clause-step g c =
    subst (λ (x : LentEvent). SoundStepsBy
    (g.T.Filters.meaning c.args.filters.now) c.args.self.now (event_of x) c.call.result c.call.new.self) (sym c.in-Call.is)
    (sound_call c.args.self.now c.call.new.self c.in-Call.call c.call.result c.call.ensures.step c.call.ensures.sends)

pub returns-in-Tick-clause-step : goal.returns-in-Tick-clause-step
returns-in-Tick-clause-step g c =
    subst (λ (x : LentEvent). SoundStepsBy
    (g.T.Filters.meaning c.args.filters.now) c.args.self.now (event_of x) c.tick.result c.tick.new.self) (sym c.in-Tick.is)
    (any_tick _ _ _ _ _ (sound_tick c.args.self.now c.tick.new.self c.in-Tick.now c.tick.result c.tick.ensures.step
    c.tick.ensures.sends))

pub returns-in-Deliver-clause-step : goal.returns-in-Deliver-clause-step
returns-in-Deliver-clause-step g c =
    subst (λ (x : LentEvent). SoundStepsBy
    (g.T.Filters.meaning c.args.filters.now) c.args.self.now (event_of x) c.deliver.result c.deliver.new.self)
    (sym c.in-Deliver.is)
    (any_delivery _ _ _ _ _ c.deliver.ensures.step)

pub returns-in-Resume-clause-step : goal.returns-in-Resume-clause-step
returns-in-Resume-clause-step g c =
    subst (λ (x : LentEvent). SoundStepsBy
    (g.T.Filters.meaning c.args.filters.now) c.args.self.now (event_of x) c.resume.result c.resume.new.self)
    (sym c.in-Resume.is)
    (any_resume _ _ _ _ _ c.resume.ensures.step)
