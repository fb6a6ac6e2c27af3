-- A reader that is not silent stays so, but where its writer is told to greet it.
use Rattle.std.proofs.Common.{◌≡◌, ℕ, ◌+◌, ◌&&◌, Bool, false, List, [], ◌∷◌, Option, length, refl, subst, ap, sym, ◌∙◌, inl, inr, ⊎_elim}
use Rattle.dds_base.specs.declared.config.Config.{Config}
use Rattle.dds_protocol.specs.Roster.{Roster}
use Rattle.dds_base.specs.declared.endpoint.Endpoint.{Endpoint}
use Rattle.dds_base.specs.declared.guid.GuidPrefix.{GuidPrefix}
use Rattle.dds_base.specs.Kept.{numbers_from}
use Rattle.rtps_wire.specs.declared.acknack.AckNack.{AckNack as AckNackBody}
use Rattle.rtps_wire.specs.declared.submessage.Submessage.{Submessage}
use Rattle.rtps_wire.specs.declared.submessage.Submessage.TheVariants.{Pad, InfoDst, InfoTs, Data, Heartbeat, AckNack, Gap, Other}
use Rattle.dds_machine.specs.declared.call.Call.{Call}
use Rattle.dds_machine.specs.declared.call.Call.TheVariants as call
use Rattle.dds_machine.specs.declared.event.WorldEvent.{WorldEvent}
use Rattle.dds_machine.specs.declared.event.WorldEvent.TheVariants as world
use Rattle.dds_machine.specs.declared.reply.Move.{Move}
use Rattle.dds_machine.specs.declared.reply.Reply.{Reply}
use Rattle.dds_machine.specs.declared.reply.Reply.TheVariants.{Done, Reported}
use Rattle.dds_machine.specs.declared.reply.Report.{Report}
use Rattle.dds_machine.specs.Machine.{AllTests}
use Rattle.dds_machine.specs.Matching.{knows_reliable, meets_reliable}
use Rattle.dds_base.specs.Matched.{is_reliable}
use Rattle.dds_machine.specs.Part.{Attachment, Away, Waiting, Begun, ReaderProxy, WriterProxy, own_proxies, own_writer}
use Rattle.dds_protocol.specs.declared.event.Event.TheVariants as event
use Rattle.dds_protocol.specs.Claims.{Receiver, receiver_of, after_submessage}
use Rattle.dds_protocol.specs.Contact.{Contact}
use Rattle.dds_protocol.specs.DueMessages.{Due}
use Rattle.dds_protocol.specs.Greetings.{NobodyIsSilent, GreetsNobody, NobodyGreeted}
use Rattle.dds_protocol.specs.Noticing.{world_ended}
use Rattle.dds_protocol.specs.Opening.{opening_world}
use Rattle.dds_protocol.specs.Peer.{Peer, Knows, known_after, state_of}
use Rattle.dds_protocol.specs.Protocol.{Known, State, stands_to, InTurn, Takes, ReaderTakes, WriterTakes, FollowsMessage, TakesPacket, asks_for_heartbeat, contact_after, with_answered}
use Rattle.dds_protocol.specs.Resuming.{GoesAgain, GoAgain}
use Rattle.dds_protocol.specs.Rules.{AreDue, RuledStep, RuledRun}
use Rattle.dds_protocol.specs.World.{WorldState, WorldStep, peer_at}
use Rattle.dds_protocol.proofs.Bounded.{opened_is_fresh}
use Rattle.dds_protocol.proofs.Contacts.{with_one}
use Rattle.dds_protocol.proofs.EndsBeside.{world_beside}
use Rattle.dds_protocol.proofs.Framing.{number_or_not}
use Rattle.dds_protocol.proofs.FreshCounts.{known_by, not_reported, not_resumed, steps_stays}
use Rattle.dds_protocol.proofs.Learning.{way_learns}
use Rattle.dds_protocol.proofs.PairTurns.{reader_leaves}
use Rattle.dds_protocol.proofs.Turns.{in_turn}

-- each reader that was not silent is not
abbrev StillAnswered : Known → Known → Type 0
StillAnswered old new = (w : ℕ) (r : Endpoint) → (old.answered w r).silent ≡ false → (new.answered w r).silent ≡ false

still_is : (known : Known) → StillAnswered known known
still_is known w r answered = answered

still_alike : (old new : Known) → ((w : ℕ) (r : Endpoint) → new.answered w r ≡ old.answered w r)
    → StillAnswered old new
still_alike old new same w r h = ap (λ (c : Contact). c.silent) (same w r) ∙ h

still_same : (old new : Known) → new ≡ old → StillAnswered old new
still_same old new same = still_alike old new (λ w r. ap (λ (k : Known). k.answered w r) same)

-- the contact of one reader is another
still_with : (known : Known) (writer : ℕ) (reader : Endpoint) (contact : Contact)
    → ((known.answered writer reader).silent ≡ false → contact.silent ≡ false)
    → StillAnswered known (with_answered known writer reader contact)
still_with known writer reader contact one w r =
    with_one (λ v x (c : Contact). (known.answered v x).silent ≡ false → c.silent ≡ false) known writer reader contact
    one w r (λ h. h)

-- ---- a call, and a tick

call_still : (peer : ℕ) (old : Peer) (c : Call) (reply : Reply) → GreetsNobody (world.Call peer c)
    → StillAnswered old.known (known_after old c reply)
call_still peer old (call.MatchReader writer reader greeted) Done none =
    still_with old.known writer reader _
    (λ h. ap (λ (b : Bool). b && knows_reliable (own_writer old.part writer) reader) none)
call_still peer old (call.MeetReader writer far greeted) Done none =
    still_with old.known writer far.endpoint _
    (λ h. ap (λ (b : Bool). b && meets_reliable (own_writer old.part writer) far.endpoint
    (is_reliable far.requested.reliability)) none)
call_still peer old c reply none = still_same old.known old.known refl

tick_still : (old : Peer) (now : ℕ) (reply : Reply) (new : Peer) → Knows old (event.Tick now) reply new
    → StillAnswered old.known new.known
tick_still old now Done new h = subst (λ (k : Known). StillAnswered old.known k) (sym h) (λ w r answered. answered)
tick_still old now reply new h = still_same old.known new.known h

-- ---- a packet

writer_still : (roster : Roster) (own : GuidPrefix) (peer : ℕ) (at : Receiver) (a : AckNackBody) (writer : ℕ)
    (reader : Endpoint) (old : State) (moves : List Move) (dues : List Due) (new : State)
    → WriterTakes roster own peer at a writer reader old moves dues new → StillAnswered old.known new.known
writer_still roster own peer at a writer reader old moves dues new (inl h) =
    subst (λ (s : State). StillAnswered old.known s.known) (sym h.2.after)
    (still_with old.known writer reader (contact_after (old.known.answered writer reader) a)
    (λ answered. ap (λ (b : Bool). b && asks_for_heartbeat a) answered))
writer_still roster own peer at a writer reader old moves dues new (inr h) =
    still_same old.known new.known (ap (λ (s : State). s.known) h.1.2)

-- steps in turn
turns_still : {X : Type 0} (step : X → State → List Move → List Due → State → Type 0)
    → ((x : X) (old : State) (moves : List Move) (dues : List Due) (new : State) → step x old moves dues new
    → StillAnswered old.known new.known)
    → (xs : List X) (old : State) (moves : List Move) (dues : List Due) (new : State)
    → InTurn step xs old moves dues new → StillAnswered old.known new.known
turns_still step each xs old moves dues new h =
    in_turn (λ (a : State) (ds : List Due) (b : State). StillAnswered a.known b.known) (λ s. still_is s.known)
    (λ a b c first rest f g w r answered. g w r (f w r answered)) step each xs old moves dues new h

readers_still : (roster : Roster) (own : GuidPrefix) (peer : ℕ) (at : Receiver) (s : Submessage) (readers : List ℕ)
    (old : State) (moves : List Move) (dues : List Due) (new : State)
    → InTurn (ReaderTakes roster own peer at s) readers old moves dues new → StillAnswered old.known new.known
readers_still roster own peer at s readers old moves dues new h =
    turns_still (ReaderTakes roster own peer at s)
    (λ k a ms ds b t. still_alike a.known b.known (reader_leaves roster own peer at s k a ms ds b t).keeps.answered)
    readers old moves dues new h

takes_still : (roster : Roster) (own : GuidPrefix) (peer : ℕ) (at : Receiver) (s : Submessage) (old : State)
    (moves : List Move) (dues : List Due) (new : State) → Takes roster own peer at s old moves dues new
    → StillAnswered old.known new.known
takes_still roster own peer at (AckNack a) old moves dues new h =
    turns_still
    (λ (writer : ℕ). InTurn (λ (p : ReaderProxy). WriterTakes roster own peer at a writer p.reader)
    (own_writer old.part writer).readers)
    (λ writer. turns_still (λ (p : ReaderProxy). WriterTakes roster own peer at a writer p.reader)
    (λ p. writer_still roster own peer at a writer p.reader) (own_writer old.part writer).readers)
    (numbers_from 1 (length old.part.rtps.writers)) old moves dues new h
takes_still roster own peer at (Data d) old moves dues new h =
    readers_still roster own peer at (Data d) (numbers_from 1 (length old.part.rtps.readers)) old moves dues new h
takes_still roster own peer at (Gap g) old moves dues new h =
    readers_still roster own peer at (Gap g) (numbers_from 1 (length old.part.rtps.readers)) old moves dues new h
takes_still roster own peer at (Heartbeat b) old moves dues new h =
    readers_still roster own peer at (Heartbeat b) (numbers_from 1 (length old.part.rtps.readers)) old moves dues new h
takes_still roster own peer at Pad old moves dues new h =
    readers_still roster own peer at Pad (numbers_from 1 (length old.part.rtps.readers)) old moves dues new h
takes_still roster own peer at (InfoDst x) old moves dues new h =
    readers_still roster own peer at (InfoDst x) (numbers_from 1 (length old.part.rtps.readers)) old moves dues new h
takes_still roster own peer at (InfoTs x) old moves dues new h =
    readers_still roster own peer at (InfoTs x) (numbers_from 1 (length old.part.rtps.readers)) old moves dues new h
takes_still roster own peer at (Other x) old moves dues new h =
    readers_still roster own peer at (Other x) (numbers_from 1 (length old.part.rtps.readers)) old moves dues new h

follows_still : (roster : Roster) (own : GuidPrefix) (peer index : ℕ) (at : Receiver) (ss : List Submessage)
    (old : State) (moves : List Move) (refused : Option ℕ) (dues : List Due) (new : State)
    → FollowsMessage roster own peer index at ss old moves refused dues new → StillAnswered old.known new.known
follows_still roster own peer index at [] old moves refused dues new h =
    still_same old.known new.known (ap (λ (s : State). s.known) h.1.2)
follows_still roster own peer index at (s ∷ ss) old moves refused dues new (inl h) =
    still_same old.known new.known (ap (λ (s : State). s.known) h.1.2)
follows_still roster own peer index at (s ∷ ss) old moves refused dues new (inr h) =
    λ w r answered.
    follows_still roster own peer (index + 1) (after_submessage own at s) ss h.4 h.1 refused h.3 new h.8 w r
    (takes_still roster own peer at s old h.0 h.2 h.4 h.7 w r answered)

packet_still : (roster : Roster) (peer : ℕ) (bytes : List ℕ) (old : State) (report : Report) (dues : List Due)
    (new : State) → TakesPacket roster peer bytes old report dues new → StillAnswered old.known new.known
packet_still roster peer bytes old report dues new (inl h) =
    follows_still roster (roster.prefix peer) peer 0 (receiver_of h.message.prefix) h.message.submessages old
    report.moves report.refused dues new h.follows
packet_still roster peer bytes old report dues new (inr h) = still_same old.known new.known h.1

-- ---- places that are tried again

again_still : (reader index : ℕ) (rows : List WriterProxy) (old : State) (moves : List Move) (refused : Option ℕ)
    (new : State) → GoAgain reader index rows old moves refused new → StillAnswered old.known new.known
again_still reader index [] old moves refused new h =
    still_same old.known new.known (ap (λ (s : State). s.known) h.2)
again_still reader index (row ∷ rows) old moves refused new (inl h) =
    still_same old.known new.known (ap (λ (s : State). s.known) h.2)
again_still reader index (row ∷ rows) old moves refused new (inr h) =
    λ w r answered.
    again_still reader (index + 1) rows h.2 h.1 refused new h.5 w r
    (by (stands_to old row.writer reader) h.4 w r answered)
  where
    by : (how : Attachment) → GoesAgain how old row.writer reader h.0 h.2 → StillAnswered old.known h.2.known
    by Begun goes = still_alike old.known h.2.known (way_learns old row.writer reader h.0 h.2 goes).answered
    by Waiting idle = still_same old.known h.2.known (ap (λ (s : State). s.known) idle.1)
    by Away idle = still_same old.known h.2.known (ap (λ (s : State). s.known) idle.1)

-- ---- an event

-- at no peer a reader that was not silent is
abbrev AllStill : WorldState → WorldState → Type 0
AllStill old new = (p : ℕ) → StillAnswered (peer_at old p).known (peer_at new p).known

all_same : (old new : WorldState) → new ≡ old → AllStill old new
all_same old new same p =
    still_same (peer_at old p).known (peer_at new p).known (ap (λ (x : WorldState). (peer_at x p).known) same)

-- one peer knows anew, and the others are as they were
one_still : (old new : WorldState) (peer : ℕ) → StillAnswered (peer_at old peer).known (peer_at new peer).known
    → ((p : ℕ) → (p ≡ peer → ⊥) → peer_at new p ≡ peer_at old p) → AllStill old new
one_still old new peer one others p =
    ⊎_elim
    (λ is. subst (λ (n : ℕ). StillAnswered (peer_at old n).known (peer_at new n).known) (sym is) one)
    (λ apart. still_same (peer_at old p).known (peer_at new p).known
    (ap (λ (x : Peer). x.known) (others p apart)))
    (number_or_not p peer)

event_still : (roster : Roster) (tests : AllTests) (old : WorldState) (ev : WorldEvent) (reply : Reply)
    (new : WorldState) (dues : List Due) → GreetsNobody ev → WorldStep roster tests old ev reply new
    → AreDue roster old ev reply new dues → AllStill old new
event_still roster tests old (world.Call peer c) reply new dues none (inl s) are =
    known_by StillAnswered still_is roster (tests peer) old peer (event.Call c) reply new s
    (subst (λ (k : Known). StillAnswered (peer_at old peer).known k) (sym s.step.knows)
    (call_still peer (peer_at old peer) c s.output.reply none))
event_still roster tests old (world.Call peer c) reply new dues none (inr s) are = all_same old new s.1.after
event_still roster tests old (world.Tick peer now) reply new dues none (inl s) are =
    known_by StillAnswered still_is roster (tests peer) old peer (event.Tick now) reply new s
    (tick_still (peer_at old peer) now s.output.reply s.after s.step.knows)
event_still roster tests old (world.Tick peer now) reply new dues none (inr s) are = all_same old new s.1.after
event_still roster tests old (world.Deliver peer number) (Reported report) new dues none (inl s) are =
    one_still old new peer
    (packet_still roster peer are.0.bytes (state_of (peer_at old peer)) report dues (state_of (peer_at new peer))
    are.2)
    (steps_stays roster (tests peer) old peer (event.Deliver s.0.bytes) (Reported report) new s.3).others
event_still roster tests old (world.Deliver peer number) (Reported report) new dues none (inr s) are =
    all_same old new s.1.after
event_still roster tests old (world.Deliver peer number) reply new dues none s are =
    all_same old new (not_reported roster tests old peer number reply new s (λ p b q h. h))
event_still roster tests old (world.Resume peer k) (Reported report) new dues none (inl s) are =
    one_still old new peer
    (again_still k 0 (own_proxies (peer_at old peer).part k) (state_of (peer_at old peer)) report.moves report.refused
    (state_of (peer_at new peer)) are.1)
    (steps_stays roster (tests peer) old peer (event.Resume k) (Reported report) new s).others
event_still roster tests old (world.Resume peer k) (Reported report) new dues none (inr s) are =
    all_same old new s.1.after
event_still roster tests old (world.Resume peer k) reply new dues none s are =
    λ p.
    still_same (peer_at old p).known (peer_at new p).known
    ((not_resumed roster tests old peer k reply new s (λ p q h. h)).1 p)

-- ---- the law

pub opens_answered : (config : Config) → NobodyIsSilent (opening_world config)
opens_answered config w r =
    ap (λ (k : Known). (k.answered w.number r).silent) (opened_is_fresh config w.peer).known

pub stays_answered : (roster : Roster) (tests : AllTests) (old : WorldState) (ev : WorldEvent) (reply : Reply)
    (lost : ℕ) (new : WorldState) → GreetsNobody ev → NobodyIsSilent old
    → RuledStep roster tests old ev reply lost new → NobodyIsSilent new
stays_answered roster tests old ev reply lost new none answered h w r =
    event_still roster tests old ev reply new h.dues none h.step h.due w.peer w.number r (answered w r)

-- listeners know nothing of it
ended_answered : (before : WorldState) (ev : WorldEvent) (after : WorldState) → NobodyIsSilent after
    → NobodyIsSilent (world_ended before ev after)
ended_answered before ev after answered w r =
    ap (λ (k : Known). (k.answered w.number r).silent) ((world_beside before ev after).known w.peer) ∙ answered w r

pub runs_answered : (roster : Roster) (tests : AllTests) (old : WorldState) (unsent : ℕ) (events : List WorldEvent)
    (replies : List Reply) (new : WorldState) (last : ℕ) → NobodyGreeted events → NobodyIsSilent old
    → RuledRun roster tests old unsent events replies new last → NobodyIsSilent new
runs_answered roster tests old unsent [] [] new last none answered run =
    subst (λ (x : WorldState). NobodyIsSilent x) (sym run.0) answered
runs_answered roster tests old unsent (e ∷ es) (r ∷ rs) new last none answered run =
    runs_answered roster tests (world_ended old e run.0) run.1 es rs new last none.1
    (ended_answered old e run.0
    (stays_answered roster tests old e r run.2.lost run.0 none.0 answered run.2.ruled)) run.3
runs_answered roster tests old unsent [] (r ∷ rs) new last none answered run = absurd run
runs_answered roster tests old unsent (e ∷ es) [] new last none answered run = absurd run
