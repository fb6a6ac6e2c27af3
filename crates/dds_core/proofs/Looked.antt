-- A look at a status of one of the peer's readers.
use Rattle.std.proofs.Common.{◌≡◌, ℕ, suc, ◌+◌, ◌<◌, Bool, not, Some, None, length, slice_get, refl, ap, sym, ◌∙◌, subst, arith}
use Rattle.std.specs.Prelude.{if◌then◌else◌}
use Rattle.dds_base.specs.declared.code.Code.TheVariants.{BadParameter}
use Rattle.dds_protocol.specs.Roster.{Roster}
use Rattle.dds_base.specs.declared.qos.ReaderQos.{ReaderQos}
use Rattle.dds_base.specs.declared.status.LivelinessChangedStatus.{LivelinessChangedStatus}
use Rattle.dds_base.specs.declared.status.SampleLostStatus.{SampleLostStatus}
use Rattle.dds_base.specs.Liveliness.{alive_count, not_alive_count, liveliness_changed_status}
use Rattle.dds_base.specs.Statuses.{lost_count, sample_lost_status}
use Rattle.dds_machine.specs.declared.call.Call.{Call}
use Rattle.dds_machine.specs.declared.call.Call.TheVariants as call
use Rattle.dds_protocol.specs.declared.event.Event.TheVariants as event
use Rattle.dds_machine.specs.declared.reply.Reply.{Reply}
use Rattle.dds_machine.specs.declared.reply.Reply.TheVariants.{SampleLost, LivelinessChanged}
use Rattle.dds_machine.specs.Refusals.{reader_refusal}
use Rattle.dds_machine.specs.Calls.{Answers, after_look, effect, effect_of, liveliness_at, lost_at, nothing, seen_lost, seen_liveliness}
use Rattle.dds_conditions.specs.NoFilters.{no_filters}
use Rattle.dds_machine.specs.Part.{Reader, Seen, own_reader}
use Rattle.dds_protocol.specs.Peer.{Peer}
use Rattle.dds_ends.specs.Kept.{ReaderKept}
use Rattle.dds_core.specs.Kept.{PeerKept}
use Rattle.dds_ends.specs.Looking.{TellsLost, TellsLiveliness}
use Rattle.dds_core.specs.Standing.{StandsFor}
use Rattle.dds_core.proofs.CallSteps.{Follows, answered_as, knows_still, there_is, number_is}
use Rattle.dds_core.proofs.Ends.{with_reader, own_reader_changed}
use Rattle.dds_core.proofs.Taking.{silent}

-- the call is a look at the statuses of the reader of this index, which is seen so, with this reply
record IsLook (c : Call) (kept : PeerKept) (peer : Peer) (i : ℕ) (reply : Reply) (seen : Seen) : Type 0 where
  answers : Answers no_filters peer.part c reply (after_look peer.part (suc i) seen)
  effect : effect_of peer.part c reply ≡ nothing

known_reader : (kept : PeerKept) (i : ℕ) (roster : Roster) (peer : Peer) → StandsFor kept roster peer
    → i < length kept.readers → reader_refusal peer.part (suc i) ≡ None
known_reader kept i roster peer s lt =
    let count = s.readers.count in
    ap (λ (b : Bool). if not b then Some BadParameter else None)
    (there_is peer.part.dds.readers i (omega (arith, lt, count)))

-- what stands after a look
looked : (c : Call) (kept : PeerKept) (i : ℕ) (k : ReaderKept) (reply : Reply) (seen : Seen) (roster : Roster)
    (peer : Peer)
    → StandsFor kept roster peer → slice_get kept.readers i ≡ Some k → IsLook c kept peer i reply seen
    → Follows (with_reader kept i (record k { seen = seen })) roster peer (event.Call c) (silent reply)
looked c kept i k reply seen roster peer s at is =
    let r : Reader = own_reader peer.part (suc i) in
    let rs = s.readers.each i k at in (
      record peer { part = record peer.part { dds = after_look peer.part (suc i) seen } },
      record {
        same_number = refl;
        knows = knows_still peer c reply nothing is.effect refl;
        step = (record { answers = is.answers; rtps = ap (λ e. effect peer.part.rtps e) (sym is.effect) }, refl);
        sent = λ p x m h. absurd (omega (arith, m.1));
      },
      own_reader_changed kept i k (record k { seen = seen }) (record r { seen = seen }) roster peer s at refl (record {
        writers_are = rs.writers_are;
        places = rs.places;
        knows = rs.knows;
        others = rs.others;
        qos_is = rs.qos_is;
        holds = rs.holds;
        seen_is = refl;
        hows = rs.hows;
        counts = rs.counts;
        here_is = rs.here_is;
      }),
    )

-- a look at SAMPLE_LOST
pub looked_at_lost : (kept : PeerKept) (reader i : ℕ) (k k' : ReaderKept) (status : SampleLostStatus) (seen : Seen)
    (roster : Roster) (peer : Peer) → StandsFor kept roster peer → reader ≡ i + 1 → i < length kept.readers
    → slice_get kept.readers i ≡ Some k → TellsLost k status seen → k' ≡ record k { seen = seen }
    → Follows (with_reader kept i k') roster peer (event.Call (call.GetSampleLost reader)) (silent (SampleLost status))
looked_at_lost kept reader i k k' status seen roster peer s is lt at tells after =
    let r : Reader = own_reader peer.part (suc i) in
    let rs = s.readers.each i k at in
    let told = tells r.happened rs.holds in
    let answer : status ≡ sample_lost_status r.happened r.seen.lost =
    told.0 ∙ ap (λ (x : Seen). sample_lost_status r.happened x.lost) (sym rs.seen_is) in
    let same : seen ≡ seen_lost r =
    told.1
    ∙ ap (λ (x : Seen). record x { lost = lost_count r.happened; entries_at_lost = length r.happened })
    (sym rs.seen_is) in
    let look : Follows (with_reader kept i (record k { seen = seen_lost r })) roster peer
    (event.Call (call.GetSampleLost (suc i))) (silent (SampleLost status)) =
    looked (call.GetSampleLost (suc i)) kept i k (SampleLost status) (seen_lost r) roster peer s at
    (record {
      answers =
          answered_as _ (SampleLost (lost_at r)) _ peer.part _ (known_reader kept i roster peer s lt)
          (ap SampleLost answer);
      effect = refl;
    }) in
    let now : record k { seen = seen_lost r } ≡ k' = sym (after ∙ ap (λ (x : Seen). record k { seen = x }) same) in
    subst (λ (x : ReaderKept). Follows (with_reader kept i x) roster peer (event.Call (call.GetSampleLost reader))
    (silent (SampleLost status))) now
    (subst (λ (n : ℕ). Follows (with_reader kept i (record k { seen = seen_lost r })) roster peer
    (event.Call (call.GetSampleLost n)) (silent (SampleLost status))) (number_is reader i is) look)

-- a look at LIVELINESS_CHANGED
pub looked_at_liveliness : (kept : PeerKept) (reader i : ℕ) (k k' : ReaderKept) (status : LivelinessChangedStatus)
    (seen : Seen) (roster : Roster)
    (peer : Peer) → StandsFor kept roster peer → reader ≡ i + 1 → i < length kept.readers
    → slice_get kept.readers i ≡ Some k → TellsLiveliness k status seen → k' ≡ record k { seen = seen }
    → Follows (with_reader kept i k') roster peer (event.Call (call.GetLivelinessChanged reader))
    (silent (LivelinessChanged status))
looked_at_liveliness kept reader i k k' status seen roster peer s is lt at tells after =
    let r : Reader = own_reader peer.part (suc i) in
    let rs = s.readers.each i k at in
    let told = tells r.happened rs.holds in
    let answer : status ≡ liveliness_changed_status r.qos r.happened r.seen.alive r.seen.not_alive =
    told.0 ∙ (ap (λ (q : ReaderQos). liveliness_changed_status q r.happened k.seen.alive k.seen.not_alive)
    (sym rs.qos_is)
    ∙ ap (λ (x : Seen). liveliness_changed_status r.qos r.happened x.alive x.not_alive) (sym rs.seen_is)) in
    let same : seen ≡ seen_liveliness r =
    told.1 ∙ (ap (λ (q : ReaderQos). record k.seen
    { alive = alive_count q r.happened; not_alive = not_alive_count q r.happened; entries_at_turn = length r.happened })
    (sym rs.qos_is)
    ∙ ap (λ (x : Seen). record x {
      alive = alive_count r.qos r.happened;
      not_alive = not_alive_count r.qos r.happened;
      entries_at_turn = length r.happened;
    }) (sym rs.seen_is)) in
    let look : Follows (with_reader kept i (record k { seen = seen_liveliness r })) roster peer
    (event.Call (call.GetLivelinessChanged (suc i))) (silent (LivelinessChanged status)) =
    looked (call.GetLivelinessChanged (suc i)) kept i k (LivelinessChanged status) (seen_liveliness r) roster peer s at
    (record {
      answers =
          answered_as _ (LivelinessChanged (liveliness_at r)) _ peer.part _ (known_reader kept i roster peer s lt)
          (ap LivelinessChanged answer);
      effect = refl;
    }) in
    let now : record k { seen = seen_liveliness r } ≡ k' =
    sym (after ∙ ap (λ (x : Seen). record k { seen = x }) same) in
    subst (λ (x : ReaderKept). Follows (with_reader kept i x) roster peer
    (event.Call (call.GetLivelinessChanged reader)) (silent (LivelinessChanged status))) now
    (subst (λ (n : ℕ). Follows (with_reader kept i (record k { seen = seen_liveliness r })) roster peer
    (event.Call (call.GetLivelinessChanged n)) (silent (LivelinessChanged status))) (number_is reader i is) look)
