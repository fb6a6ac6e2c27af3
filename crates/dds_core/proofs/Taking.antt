-- The submessages of a message are taken up one after the other, as they are read.
use Rattle.std.proofs.Common.{◌≡◌, ℕ, ◌+◌, ◌-◌, ◌≤◌, Some, None, List, [], ◌∷◌, ◌++◌, length, subst, ap, sym, ◌∙◌, refl, inl, inr, arith, append_assoc, append-nil, Contains}
use Rattle.std.specs.Prelude.{◌^◌, Result, Ok, Err, OnOk}
use Rattle.rtps_sets.specs.NumberSet.{NumberSet}
use Rattle.rtps_wire.specs.declared.acknack.AckNack.{AckNack as AckNackBody}
use Rattle.rtps_wire.specs.declared.gap.Gap.{Gap as GapBody}
use Rattle.dds_protocol.specs.Roster.{Roster}
use Rattle.dds_base.specs.declared.guid.GuidPrefix.{GuidPrefix}
use Rattle.dds_base.proofs.FieldLaws.{AreOctets}
use Rattle.dds_base.specs.Kept.{numbers_from}
use Rattle.rtps_wire.specs.declared.message.Message.{Message}
use Rattle.rtps_wire.specs.declared.submessage.Submessage.{Submessage}
use Rattle.rtps_wire.specs.declared.submessage.Submessage.TheVariants.{Pad, InfoDst, InfoTs, Data, Heartbeat, AckNack, Gap, Other}
use Rattle.rtps_wire.specs.Frames.{IsEnd}
use Rattle.rtps_wire.specs.Messages.{ReadsFirst, HasHeader, ReadsMessage}
use Rattle.rtps_wire.specs.Sets.{acknack_field, set_of}
use Rattle.rtps_wire.specs.Submessages.{Reads}
use Rattle.rtps_wire.proofs.FrameLaws.{frame_found, frame_only}
use Rattle.rtps_wire.proofs.MessageLaws.{Reading, reads_on, reading, message_read}
use Rattle.dds_conditions.specs.Watched.{Watched}
use Rattle.dds_notices.specs.Listeners.{Places}
use Rattle.dds_protocol.specs.declared.event.Event.TheVariants as event
use Rattle.dds_protocol.specs.declared.event.Output.{Output}
use Rattle.dds_protocol.specs.declared.event.Packet.{Packet}
use Rattle.dds_machine.specs.declared.reply.Move.{Move}
use Rattle.dds_machine.specs.declared.reply.Report.{Report}
use Rattle.dds_machine.specs.declared.reply.Reply.{Reply}
use Rattle.dds_machine.specs.declared.call.Call.{Call}
use Rattle.dds_machine.specs.Matching.{is_known}
use Rattle.dds_machine.specs.Numbered.{numbered, HasNumber}
use Rattle.rtps_reader.specs.Tracked.{Tracked}
use Rattle.dds_base.specs.Counts.{is_later}
use Rattle.dds_base.specs.declared.endpoint.Endpoint.{Endpoint}
use Rattle.dds_protocol.specs.Backed.{IsBacked, IsClaimed, TookNone}
use Rattle.dds_protocol.specs.Claims.{Receiver, receiver_of, after_submessage}
use Rattle.dds_machine.specs.Part.{place_of, heard_of}
use Rattle.dds_protocol.specs.Meetings.{MeetsByRoster}
use Rattle.dds_protocol.specs.Peer.{Peer, PeerStep, packets_of, state_of, Delivery}
use Rattle.dds_protocol.specs.DueMessages.{Due, AreSent, was_asked}
use Rattle.dds_protocol.specs.Protocol.{State, InTurn, ReaderTakes, Takes, MayNeedMemory, FollowsMessage}
use Rattle.dds_core.specs.declared.effects.Effects.{Effects}
use Rattle.dds_ends.specs.declared.sending.Announced.{Announced}
use Rattle.dds_ends.specs.Beating.{AddsTo}
use Rattle.dds_core.specs.Kept.{PeerKept}
use Rattle.dds_core.specs.Readiness.{IsBounded}
use Rattle.dds_core.specs.Receiving.{with_state, StandsAsWell, ReadersTook, TookSubmessage, NeedsMemory, TellsReaders, TakesOneMore, FollowsBody, TookBody, TakesBody, ReceivesPacket}
use Rattle.dds_core.proofs.TakenSoFar.{TakenTo, TakesTo}
use Rattle.dds_ends.specs.Sending.{AreMessages}
use Rattle.dds_core.specs.Standing.{StandsFor}
use Rattle.dds_core.specs.Ruling.{IsSound, KeepsRules}
use Rattle.dds_core.specs.Stepping.{Sends, Steps, StepsMeeting, SoundSteps, SoundStepsBy}
use Rattle.dds_machine.specs.Watching.{Tests}
use Rattle.dds_protocol.proofs.Contacts.{call_knows, tick_knows}
use Rattle.dds_protocol.proofs.Growth.{TickStep-rows}
use Rattle.dds_protocol.proofs.Tellings.{call_backed}
use Rattle.dds_ends.proofs.Beating.{written_on}

-- ---- what a peer is, said again

-- what is watched, who listens, and what was delivered, stand beside all else that a peer stands for
pub stands_beside : (kept : PeerKept) (new watched : Watched) (places : Places) (delivered : List Delivery)
    (roster : Roster) (peer : Peer) → watched ≡ new → StandsFor kept roster peer
    → StandsFor (record kept { watch = new }) roster (record peer {
      part = record peer.part { dds = record peer.part.dds { watch = watched; listeners = places } };
      delivered = delivered;
    })
stands_beside kept new watched places delivered roster peer same s = record {
  is_peer = s.is_peer;
  knows = s.knows;
  moment = s.moment;
  early = s.early;
  names = s.names;
  writers = s.writers;
  readers = s.readers;
  tellable = s.tellable;
  watch = same;
}

pub stands_again : (kept : PeerKept) (roster : Roster) (peer after : Peer) → after.number ≡ peer.number
    → after.part ≡ peer.part → after.known ≡ peer.known → StandsFor kept roster peer → StandsFor kept roster after
stands_again kept roster peer after number part known s =
    subst (λ n. StandsFor kept roster
    (record { number = n; part = after.part; known = after.known; delivered = after.delivered })) (sym number)
    (subst (λ p. StandsFor kept roster
    (record { number = peer.number; part = p; known = after.known; delivered = after.delivered })) (sym part)
    (subst (λ k. StandsFor kept roster
    (record { number = peer.number; part = peer.part; known = k; delivered = after.delivered })) (sym known)
    (stands_beside kept kept.watch peer.part.dds.watch peer.part.dds.listeners after.delivered roster peer s.watch s)))

-- ---- one submessage

-- one that is no ACKNACK is taken up by the peer's readers
takes_by_readers : (roster : Roster) (own : GuidPrefix) (peer : ℕ) (at : Receiver) (s : Submessage)
    → ((a : AckNackBody) → s ≡ AckNack a → ⊥) → (old : State) (made : List Move) (dues : List Due) (new : State)
    → InTurn (ReaderTakes roster own peer at s) (numbers_from 1 (length old.part.rtps.readers)) old made dues new
    → Takes roster own peer at s old made dues new
takes_by_readers roster own peer at (AckNack a) other old made dues new h = absurd (other a refl)
takes_by_readers roster own peer at (Data d) other old made dues new h = h
takes_by_readers roster own peer at (Gap g) other old made dues new h = h
takes_by_readers roster own peer at (Heartbeat b) other old made dues new h = h
takes_by_readers roster own peer at (InfoDst p) other old made dues new h = h
takes_by_readers roster own peer at (InfoTs t) other old made dues new h = h
takes_by_readers roster own peer at (Other n) other old made dues new h = h
takes_by_readers roster own peer at Pad other old made dues new h = h

pub readers_take : (old new : PeerKept) (at : Receiver) (s : Submessage) (effects after : Effects)
    → ((a : AckNackBody) → s ≡ AckNack a → ⊥) → TellsReaders old at s effects new after
    → TakesOneMore old at s effects new after
readers_take old new at s effects after other h = record {
  made = h.made;
  after_is = h.after_is;
  takes = λ roster peer stands.
      let r : ReadersTook roster old.prefix at s (length old.readers) peer h.made effects.sent new after.sent =
      h.takes roster peer stands in
      record {
        state = r.state;
        dues = r.dues;
        takes = takes_by_readers roster old.prefix peer.number at s other (state_of peer) h.made r.dues r.state
            (subst (λ (n : ℕ). InTurn (ReaderTakes roster old.prefix peer.number at s) (numbers_from 1 n)
            (state_of peer) h.made r.dues r.state) (sym stands.readers.rows) r.turn);
        stands = r.stands;
        adds = r.adds;
      };
}

pub readers_take_if : {A B : Type 0} (result : Result A B) (old new : PeerKept) (at : Receiver) (s : Submessage)
    (effects after : Effects) → ((a : AckNackBody) → s ≡ AckNack a → ⊥)
    → OnOk result (TellsReaders old at s effects new after) → OnOk result (TakesOneMore old at s effects new after)
readers_take_if (Ok x) old new at s effects after other h = readers_take old new at s effects after other h
readers_take_if (Err e) old new at s effects after other h = tt

-- no packets are messages
pub no_messages : (packets : List Packet) → packets ≡ [] → AreMessages packets
no_messages packets none packet among =
    let c : Contains {X = Packet} [] packet = subst
    (λ (ps : List Packet). Contains ps packet) none among in let lt = c.1 in absurd (omega (arith, lt))

-- ---- the submessages of a message

-- what was sent, and more
written_adds : (a b : List Due) (sent gone : Announced) → AreSent a sent.packets.items sent.unsent → AddsTo b sent gone
    → AreSent (a ++ b) gone.packets.items gone.unsent
written_adds a b sent gone h more =
    subst (λ (ps : List Packet). AreSent (a ++ b) ps gone.unsent) (sym more.sent)
    (subst (λ (n : ℕ). AreSent (a ++ b) (sent.packets.items ++ more.packets) n) (sym more.lost)
    (written_on a b sent.packets.items more.packets sent.unsent more.unsent h more.written))

-- nothing is taken up at first
pub takes_none : (old : PeerKept) (source : GuidPrefix) (body : List ℕ) (at : Receiver) (moves : List Move)
    (gone : Announced) → at ≡ receiver_of source → moves ≡ [] → gone.packets.items ≡ [] → gone.unsent ≡ 0
    → TakesTo old source body body 0 at moves old gone
takes_none old source body at moves gone begins none quiet zero_lost roster peer s = record {
  state = state_of peer;
  dues = [];
  stands = stands_again old roster peer (with_state peer (state_of peer)) refl refl refl s;
  sent = (quiet, zero_lost);
  on = λ later refused last after h.
      subst (λ (ms : List Move). FollowsBody roster old.prefix peer.number 0
      (receiver_of source) body (state_of peer) (ms ++ later) refused last after) (sym none)
      (subst (λ (r : Receiver). FollowsBody roster old.prefix peer.number 0 r body
      (state_of peer) later refused last after) begins h);
}

-- one more is read, and taken up
pub takes_more : (old now new : PeerKept) (source : GuidPrefix) (body left : List ℕ) (index : ℕ) (at : Receiver)
    (submessage : Submessage) (rest : List ℕ) (effects after : Effects)
    → TakesTo old source body left index at effects.moves.items now effects.sent → ReadsFirst left submessage rest
    → now.prefix ≡ old.prefix → TakesOneMore now at submessage effects new after
    → TakesTo old source body rest (index + 1) (after_submessage old.prefix at submessage) after.moves.items new after.sent
takes_more old now new source body left index at submessage rest effects after taken first same takes roster peer s =
    record {
      state = r.state;
      dues = t.dues ++ r.dues;
      stands =
          stands_again new roster (with_state (with_state peer t.state) r.state)
          (with_state peer r.state) refl refl refl r.stands;
      sent = written_adds t.dues r.dues effects.sent after.sent t.sent r.adds;
      on = λ later refused last end h.
          let took : Takes roster old.prefix peer.number at submessage t.state takes.made r.dues r.state =
          subst (λ (p : GuidPrefix). Takes roster p peer.number at submessage t.state takes.made r.dues r.state)
          same r.takes in
          let together : FollowsBody roster old.prefix peer.number index at left t.state (takes.made ++ later) refused
          (r.dues ++ last) end =
          record {
            submessages = submessage ∷ h.submessages;
            left = h.left;
            is_read = reads_on left submessage rest h.submessages h.left first h.is_read;
            follows = inr (takes.made, later, r.dues, last, r.state, refl, refl, took, h.follows);
          } in
          subst (λ (ms : List Move). FollowsBody roster old.prefix peer.number 0
          (receiver_of source) body (state_of peer) ms refused ((t.dues ++ r.dues) ++ last) end)
          (sym (append_assoc moves takes.made later) ∙ ap (λ (ms : List Move). ms ++ later) (sym takes.after_is))
          (subst (λ (ds : List Due). FollowsBody roster old.prefix peer.number 0
          (receiver_of source) body (state_of peer) (moves ++ (takes.made ++ later)) refused ds end)
          (sym (append_assoc t.dues r.dues last)) (t.on (takes.made ++ later) refused (r.dues ++ last) end together));
    }
  where
    moves : List Move
    moves = effects.moves.items

    t : TakenTo old source body left index at moves now effects.sent roster peer
    t = taken roster peer s

    r : TookSubmessage roster now.prefix at submessage (with_state peer t.state) takes.made effects.sent new after.sent
    r = takes.takes roster (with_state peer t.state) t.stands

-- what was taken up is all: what is left does nothing
ends_here : (old now : PeerKept) (source : GuidPrefix) (body left : List ℕ) (index : ℕ) (at : Receiver)
    (report : Report) (gone : Announced) (roster : Roster) (peer : Peer)
    (t : TakenTo old source body left index at report.moves now gone roster peer)
    → FollowsBody roster old.prefix peer.number index at left t.state [] report.refused [] t.state
    → FollowsBody roster old.prefix peer.number 0 (receiver_of source) body
    (state_of peer) report.moves report.refused t.dues t.state
ends_here old now source body left index at report gone roster peer t end =
    subst (λ (ms : List Move). FollowsBody roster old.prefix peer.number 0
    (receiver_of source) body (state_of peer) ms report.refused t.dues t.state)
    (append-nil report.moves)
    (subst (λ (ds : List Due). FollowsBody roster old.prefix peer.number 0
    (receiver_of source) body (state_of peer) (report.moves ++ []) report.refused ds t.state)
    (append-nil t.dues)
    (t.on [] report.refused [] t.state end))

-- octets follow a submessage
pub rest_octets : (bytes : List ℕ) (s : Submessage) (rest : List ℕ) → ReadsFirst bytes s rest → AreOctets bytes
    → AreOctets rest
rest_octets bytes s rest first octets =
    (frame_found bytes (first.0, first.1, first.2, rest) octets
    (frame_only bytes first.0 first.1 first.2 rest first.3)).octets

-- reading ends, and all are taken up
pub takes_all : (old now : PeerKept) (source : GuidPrefix) (body left : List ℕ) (index : ℕ) (at : Receiver)
    (report : Report) (gone : Announced) → TakesTo old source body left index at report.moves now gone → IsEnd left
    → report.refused ≡ None → TakesBody old source body report now gone
takes_all old now source body left index at report gone taken ends fine roster peer s =
    let t : TakenTo old source body left index at report.moves now gone roster peer = taken roster peer s in
    let end : FollowsBody roster old.prefix peer.number index at left t.state [] report.refused [] t.state =
    record { submessages = []; left = left; is_read = (ends, refl); follows = (fine, (refl, refl, refl)) } in
    record {
      state = t.state;
      dues = t.dues;
      follows = ends_here old now source body left index at report gone roster peer t end;
      stands = t.stands;
      sent = t.sent;
    }

-- one finds no memory, and nothing that follows it is looked at
pub takes_some_of : (old now new : PeerKept) (source : GuidPrefix) (body left : List ℕ) (index : ℕ) (at : Receiver)
    (submessage : Submessage) (rest : List ℕ) (report : Report) (sent gone : Announced)
    → TakesTo old source body left index at report.moves now sent → now.prefix ≡ old.prefix
    → NeedsMemory now at submessage → StandsAsWell now new → gone ≡ sent → ReadsFirst left submessage rest
    → Reading rest → report.refused ≡ Some index → TakesBody old source body report new gone
takes_some_of old now new source body left index at submessage rest report sent gone taken own needs well same first
    later refused roster peer s =
    let t : TakenTo old source body left index at report.moves now sent roster peer = taken roster peer s in
    let may : MayNeedMemory roster old.prefix peer.number at submessage t.state =
    subst (λ (p : GuidPrefix). MayNeedMemory roster p peer.number at submessage t.state) own
    (needs roster (with_state peer t.state) t.stands) in
    let end : FollowsBody roster old.prefix peer.number index at left t.state [] report.refused [] t.state =
    record {
      submessages = submessage ∷ later.submessages;
      left = later.left;
      is_read = reads_on left submessage rest later.submessages later.left first later.is_read;
      follows = inl (refused, (refl, refl, refl), may);
    } in
    record {
      state = t.state;
      dues = t.dues;
      follows = ends_here old now source body left index at report sent roster peer t end;
      stands = well roster (with_state peer t.state) t.stands;
      sent = subst (λ (x : Announced). AreSent t.dues x.packets.items x.unsent) (sym same) t.sent;
    }

-- the same, where octets are left
pub takes_some : (old now new : PeerKept) (source : GuidPrefix) (body left : List ℕ) (index : ℕ) (at : Receiver)
    (submessage : Submessage) (rest : List ℕ) (report : Report) (sent gone : Announced)
    → TakesTo old source body left index at report.moves now sent → now.prefix ≡ old.prefix
    → NeedsMemory now at submessage → StandsAsWell now new → gone ≡ sent → ReadsFirst left submessage rest
    → AreOctets left → report.refused ≡ Some index → TakesBody old source body report new gone
takes_some old now new source body left index at submessage rest report sent gone taken own needs well same first octets
    refused =
    takes_some_of old now new source body left index at submessage rest report sent gone taken own needs well same first
    (reading rest (rest_octets left submessage rest first octets)) refused

-- ---- the whole of a packet

pub receives_message : (old new : PeerKept) (bytes : List ℕ) (source : GuidPrefix) (body : List ℕ) (report : Report)
    (gone : Announced) → HasHeader bytes source body → TakesBody old source body report new gone
    → ReceivesPacket old bytes report new gone
receives_message old new bytes source body report gone header takes roster peer s =
    let r : TookBody roster peer old.prefix source body report new gone = takes roster peer s in
    let f = r.follows in
    record {
      state = r.state;
      dues = r.dues;
      takes = inl (record {
        message = record { prefix = source; submessages = f.submessages };
        offset = length bytes - length f.left;
        is_read = message_read bytes body f.left source f.submessages header f.is_read;
        follows =
            subst (λ (p : GuidPrefix). FollowsMessage roster p peer.number 0 (receiver_of source) f.submessages
            (state_of peer) report.moves report.refused r.dues r.state) (sym s.is_peer.prefix) f.follows;
      });
      stands = r.stands;
      sent = r.sent;
    }

-- a report of no move
abbrev pub no_move : Report
no_move = record { moves = []; refused = None }

pub receives_nothing : (old : PeerKept) (bytes : List ℕ) (gone : Announced) → gone.packets.items ≡ [] → gone.unsent ≡ 0
    → ((source : GuidPrefix) (body : List ℕ) → HasHeader bytes source body → ⊥)
    → ReceivesPacket old bytes no_move old gone
receives_nothing old bytes gone quiet zero_lost none roster peer s =
    let unread : (message : Message) (offset : ℕ) → ReadsMessage bytes message offset → ⊥ =
    λ message offset r. none message.prefix r.body r.header in
    record {
      state = state_of peer;
      dues = [];
      takes = inr (record { unread = unread; moves = refl; refused = refl; after = refl }, refl, refl);
      stands = stands_again old roster peer (with_state peer (state_of peer)) refl refl refl s;
      sent = (quiet, zero_lost);
    }

-- an answer that sends nothing
abbrev pub silent : Reply → Output
silent reply = record { reply = reply; packets = []; unsent = 0 }

-- ---- the numbers of a submessage are such that the wire has

pub bounded : (id flags : ℕ) (body : List ℕ) (s : Submessage) → Reads id flags body s → IsBounded s
unfolding set_of
bounded id flags body (Data d) h = h.valid.small
bounded id flags body (Heartbeat b) h = h.valid.first_small
bounded id flags body (Gap g) h =
    let same = ap (λ (x : NumberSet). x.base) h.body_is.set.set in let small = h.body_is.set.valid.small in base_small g
    h.body_is.set.field.base same small
  where
    base_small : (g : GapBody) (n : ℕ) → g.gap_list.base ≡ n → n ≤ 2 ^ 62 → g.gap_list.base ≤ 2 ^ 62
    base_small g n e f = omega (arith, e, f)
bounded id flags body Pad h = tt
bounded id flags body (InfoDst d) h = tt
bounded id flags body (InfoTs d) h = tt
bounded id flags body (AckNack a) h =
    let set = h.body_is.set in
    let low = set.valid.first in
    let same : a.reader_sn_state.base ≡ (acknack_field set.field).base = ap (λ (x : NumberSet). x.base) set.set in
    omega (arith, same, low)
bounded id flags body (Other d) h = tt

-- ---- calls and ticks

-- what a call or a tick leaves is sound, as what was known is known, and the places are those of before
pub sound_still : (roster : Roster) (old new : Peer) → new.number ≡ old.number
    → ((w : Endpoint) (r : ℕ) → new.known.tracked w r ≡ old.known.tracked w r)
    → new.delivered ≡ old.delivered → new.part.rtps.readers ≡ old.part.rtps.readers → IsSound roster old
    → IsSound roster new
sound_still roster old new number known delivered readers b =
    subst (λ n. IsBacked roster n (packets_of new.delivered) new.delivered (state_of new)) (sym number)
    (subst (λ ds. IsBacked roster old.number (packets_of ds) ds (state_of new)) (sym delivered)
    (record {
      place = λ w r p e.
          ap (λ (t : Tracked). t.place) (known w r)
          ∙ b.place w r p (ap (λ xs. place_of (numbered xs r []) w) (sym readers) ∙ e);
      unknown = λ w r e.
          ap (λ (t : Tracked). t.place) (known w r)
          ∙ b.unknown w r (ap (λ xs. place_of (numbered xs r []) w) (sym readers) ∙ e);
      claimed = λ w r.
          subst (λ (t : Tracked). IsClaimed roster old.number (packets_of old.delivered) w r t) (sym (known w r))
          (b.claimed w r);
      newest = λ w r has.
          subst (λ (t : Tracked). TookNone roster old.number old.delivered w r t) (sym (known w r))
          (b.newest w r (subst (λ xs. HasNumber xs r) readers has));
      heard = λ w r count e.
          ap (λ (t : Tracked). is_later t.count count) (known w r)
          ∙ b.heard w r count (ap (λ xs. heard_of (numbered xs r []) w) (sym readers) ∙ e);
      then = λ d r w among h. ap (λ xs. is_known (numbered xs r []) w) readers ∙ b.then d r w among h;
    }))

sound_met : {tests : Tests} (old new : PeerKept) (call : Call) (output : Output)
    → StepsMeeting tests old (event.Call call) output new → Sends old (event.Call call) output
    → (roster : Roster) (peer : Peer) → StandsFor old roster peer → IsSound roster peer
    → MeetsByRoster roster peer.number (event.Call call) output.reply
    → (after : Peer) × PeerStep roster tests peer (event.Call call) output after × StandsFor new roster after
    × IsSound roster after × KeepsRules roster peer (event.Call call) output after
sound_met {tests} old new call output steps sends roster peer s sound met =
    let r = steps.step roster peer s met in
    let told : IsSound roster (record peer { part = r.0.part }) =
    call_backed roster peer.number (packets_of peer.delivered) peer.delivered (state_of peer) tests call output.reply
    r.0.part r.1.step.0 sound in (
      r.0,
      r.1,
      r.2,
      sound_still roster (record peer { part = r.0.part }) r.0 r.1.same_number
          (call_knows peer call output.reply r.0 r.1.knows).tracked r.1.step.1 refl told,
      sends roster peer s,
    )

pub sound_call : {tests : Tests} (old new : PeerKept) (call : Call) (output : Output)
    → StepsMeeting tests old (event.Call call) output new → Sends old (event.Call call) output
    → SoundStepsBy tests old (event.Call call) output new
sound_call old new call output steps sends =
    record { step = sound_met old new call output steps sends; meets = steps.meets }

pub sound_tick : (old new : PeerKept) (now : ℕ) (output : Output) → Steps old (event.Tick now) output new
    → Sends old (event.Tick now) output → SoundSteps old (event.Tick now) output new
sound_tick old new now output steps sends roster peer s sound =
    let r = steps roster peer s in (
      r.0,
      r.1,
      r.2,
      sound_still roster peer r.0 r.1.same_number (tick_knows peer now output.reply r.0 r.1.knows).tracked r.1.step.1
          (TickStep-rows peer.part now output.reply r.0.part
          (was_asked peer.known.answered peer.part, r.1.step.0)) sound,
      sends roster peer s,
    )
