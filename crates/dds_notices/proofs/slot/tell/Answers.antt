use Rattle.std.proofs.Common.{refl, subst}
use Rattle.dds_notices.specs.Listeners.{StandsAt}
use Rattle.dds_notices.proofs.Standings.{slot_tells}
use Rattle.dds_notices.proofs.slot.tell.Goals as goal

pub returns-in-Some : goal.returns-in-Some
returns-in-Some g c = λ given place stands.
    slot_tells g.L.Listener.notices g.L.Listener.capacity g.L.Listener.becomes given _ _ place
    c.args.notice.now refl c.on_notice.ensures.notices c.on_notice.ensures.capacity c.on_notice.ensures.becomes
    (rw c.slot.view_is (subst (λ o. StandsAt g.L.Listener.notices g.L.Listener.capacity g.L.Listener.becomes given o place)
    c.in-Some.is stands))
