-- A message that announces a write is taken up at once, as it is one submessage after the other.
use Rattle.std.proofs.Common.{◌≡◌, ℕ, Some, None, List, [], refl, sym, ap, subst, ◌∙◌}
use Rattle.dds_base.specs.declared.guid.GuidPrefix.{GuidPrefix}
use Rattle.rtps_wire.specs.declared.announced.Announcement.{Announcement}
use Rattle.rtps_wire.specs.declared.submessage.Submessage.TheVariants.{InfoDst, InfoTs, Data}
use Rattle.dds_machine.specs.declared.reply.Move.{Move}
use Rattle.dds_machine.specs.declared.reply.Report.{Report}
use Rattle.dds_protocol.specs.Claims.{Receiver, after_submessage, receiver_of}
use Rattle.dds_core.specs.declared.effects.Effects.{Effects}
use Rattle.dds_core.specs.Kept.{PeerKept}
use Rattle.dds_core.specs.Receiving.{Announces, NeedsMemory, StandsAsWell, TakesBody, TellsReaders}
use Rattle.dds_core.proofs.Framed.{nothing_taken}
use Rattle.dds_core.proofs.TakenSoFar.{TakesTo}
use Rattle.dds_core.proofs.Taking.{readers_take, takes_all, takes_more, takes_none, takes_some_of}

-- the receiver of such a message when it comes to the DATA
abbrev pub at_change : GuidPrefix → Announcement → Receiver
at_change own it =
    after_submessage own (after_submessage own (receiver_of it.source) (InfoDst it.destination)) (InfoTs (Some it.moment))

pub comes_to_change : (own prefix : GuidPrefix) (it : Announcement) (start named stamped : Receiver) → own ≡ prefix
    → start ≡ receiver_of it.source → named ≡ after_submessage own start (InfoDst it.destination)
    → stamped ≡ after_submessage own named (InfoTs (Some it.moment)) → stamped ≡ at_change prefix it
comes_to_change own prefix it start named stamped same begins destined timed =
    timed
    ∙ ap (λ (r : Receiver). after_submessage own r (InfoTs (Some it.moment)))
    (destined ∙ ap (λ (r : Receiver). after_submessage own r (InfoDst it.destination)) begins)
    ∙ ap (λ (p : GuidPrefix). at_change p it) same

-- what precedes the DATA does nothing
before_change : (old : PeerKept) (it : Announcement) (body : List ℕ) (effects : Effects) (a : Announces body it)
    → effects.moves.items ≡ [] → effects.sent.packets.items ≡ [] → effects.sent.unsent ≡ 0
    → TakesTo old it.source body a.1.2.0 2 (at_change old.prefix it) effects.moves.items old effects.sent
before_change old it body effects a none quiet zero_lost =
    let begins = takes_none old it.source body (receiver_of it.source) effects.moves.items effects.sent refl none quiet
    zero_lost in
    let named = takes_more old old old it.source body body 0 (receiver_of it.source) (InfoDst it.destination) a.1.0 effects
    effects begins a.1.1 refl
    (nothing_taken old (receiver_of it.source) (InfoDst it.destination) effects (λ ack is. absurd cc)
    (λ reader_id writer_id by. by)) in
    takes_more old old old it.source body a.1.0 1
    (after_submessage old.prefix (receiver_of it.source) (InfoDst it.destination)) (InfoTs (Some it.moment)) a.1.2.0 effects
    effects named a.1.2.1 refl
    (nothing_taken old (after_submessage old.prefix (receiver_of it.source) (InfoDst it.destination))
    (InfoTs (Some it.moment)) effects (λ ack is. absurd cc) (λ reader_id writer_id by. by))

-- the DATA is taken up
pub announcement_taken : (old new : PeerKept) (it : Announcement) (body : List ℕ) (at : Receiver) (effects after : Effects)
    (report : Report) → Announces body it
    → effects.moves.items ≡ [] → effects.sent.packets.items ≡ [] → effects.sent.unsent ≡ 0
    → at ≡ at_change old.prefix it → TellsReaders old at (Data it.change) effects new after
    → report ≡ record { moves = after.moves.items; refused = None }
    → TakesBody old it.source body report new after.sent
announcement_taken old new it body at effects after report a none quiet zero_lost where_is tells reported =
    let there : TellsReaders old (at_change old.prefix it) (Data it.change) effects new after =
    subst (λ (r : Receiver). TellsReaders old r (Data it.change) effects new after) where_is tells in
    let taken = takes_more old old new it.source body a.1.2.0 2 (at_change old.prefix it) (Data it.change) a.1.2.2.0 effects
    after (before_change old it body effects a none quiet zero_lost) a.1.2.2.1 refl
    (readers_take old new (at_change old.prefix it) (Data it.change) effects after (λ ack is. absurd cc) there) in
    subst (λ (r : Report). TakesBody old it.source body r new after.sent) (sym reported)
    (takes_all old new it.source body a.1.2.2.0 3 (at_change old.prefix it)
    (record { moves = after.moves.items; refused = None }) after.sent taken a.1.2.2.2.0 refl)

-- the DATA finds no memory
pub announcement_refused : (old new : PeerKept) (it : Announcement) (body : List ℕ) (at : Receiver)
    (effects after : Effects) (report : Report) → Announces body it
    → effects.moves.items ≡ [] → effects.sent.packets.items ≡ [] → effects.sent.unsent ≡ 0
    → at ≡ at_change old.prefix it → NeedsMemory old at (Data it.change) → StandsAsWell old new
    → after.moves.items ≡ effects.moves.items → after.sent ≡ effects.sent
    → report ≡ record { moves = after.moves.items; refused = Some 2 }
    → TakesBody old it.source body report new after.sent
announcement_refused old new it body at effects after report a none quiet zero_lost where_is needs well still same reported =
    let may : NeedsMemory old (at_change old.prefix it) (Data it.change) =
    subst (λ (r : Receiver). NeedsMemory old r (Data it.change)) where_is needs in
    let before : TakesTo old it.source body a.1.2.0 2 (at_change old.prefix it) after.moves.items old effects.sent =
    subst (λ (ms : List Move). TakesTo old it.source body a.1.2.0 2 (at_change old.prefix it) ms old effects.sent)
    (sym still) (before_change old it body effects a none quiet zero_lost) in
    subst (λ (r : Report). TakesBody old it.source body r new after.sent) (sym reported)
    (takes_some_of old old new it.source body a.1.2.0 2 (at_change old.prefix it) (Data it.change) a.1.2.2.0
    (record { moves = after.moves.items; refused = Some 2 }) effects.sent after.sent before refl may well same a.1.2.2.1
    (record { submessages = []; left = a.1.2.2.0; is_read = (a.1.2.2.2.0, refl) }) refl)
