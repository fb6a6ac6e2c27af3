use Rattle.std.proofs.Common.{◌<◌, length, subst, rules, refl}
use Rattle.std.proofs.lemmas.Option.{slice_get_read}
use Rattle.dds_machine.specs.declared.call.Call.TheVariants as call
use Rattle.dds_protocol.specs.declared.event.Event.TheVariants as event
use Rattle.dds_core.specs.Kept.{PeerKept}
use Rattle.dds_core.proofs.CallSteps.{Follows, follows_as, still_stands}
use Rattle.dds_core.proofs.Asking.{handle_told}
use Rattle.dds_core.proofs.peer.Peer.lookup_instance.Goals as goal

pub returns-clause-step : goal.returns-clause-step
returns-clause-step c = λ roster peer given.
    let within : c.in-Some.index < length c.self.inside.readers.items = search rules in
    subst (λ (k : PeerKept). Follows k roster peer
    (event.Call (call.LookupInstance c.args.reader c.args.key)) c.answered.result) c.self.view_is
    (follows_as _ roster peer _ _ _ c.answered.ensures
    (handle_told _ roster peer c.args.reader c.in-Some.index c.index.result.now c.args.key c.lookup-handle.result
    (still_stands c.self.view_is given) c.in-Some.ensures.index.0 within
    (slice_get_read _ _ _ _ refl within c.index.ensures) c.lookup-handle.ensures))
