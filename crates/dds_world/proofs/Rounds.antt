-- The stages of a round, and the round that they make.
use Rattle.std.proofs.Common.{◌≡◌, ◌⊎◌, ℕ, zero, suc, ◌+◌, ◌-◌, ◌<◌, ◌≤◌, List, [], ◌∷◌, ◌++◌, Option, Some, None, map, length, get_or, slice_get, refl, ap, sym, ◌∙◌, subst, inl, inr, ⊎_elim, append_assoc, arith}
use Rattle.std.specs.Prelude.{Result, Ok, Err, IfErr, IsErrAnd, IsSome, Bool, true, false, ◌&&◌, is_some, if◌then◌else◌}
use Rattle.std.specs.Option.{option_map, option_map_or}
use Rattle.std.proofs.lemmas.List.{append-nil}
use Rattle.std.proofs.lemmas.Option.{same_Some, slice_get_read, slice_get_within}
use Rattle.dds_base.specs.declared.code.Code.{Code}
use Rattle.dds_base.specs.declared.code.Code.TheVariants.{BadParameter, Memory}
use Rattle.dds_protocol.specs.Roster.{Roster}
use Rattle.dds_base.specs.Refusal.{Refuses}
use Rattle.dds_base.specs.Kept.{numbers_from}
use Rattle.rtps_wire.specs.declared.seek.Sought.{Sought}
use Rattle.rtps_wire.specs.declared.seek.Sought.TheVariants as sought
use Rattle.dds_protocol.specs.Noticing.{world_ended}
use Rattle.dds_base.specs.declared.endpoint.Endpoint.{Endpoint}
use Rattle.dds_protocol.specs.declared.event.Packet.{Packet}
use Rattle.dds_machine.specs.declared.event.WorldEvent.{WorldEvent}
use Rattle.dds_machine.specs.declared.event.WorldEvent.TheVariants as world
use Rattle.dds_machine.specs.declared.reply.Reply.{Reply}
use Rattle.dds_machine.specs.Machine.{AllTests, Machine, part_at, writer_at}
use Rattle.dds_machine.specs.Part.{Away, Part, WriterProxy, own_proxies, own_writer, acknowledged_of, how_of, is_attached, is_reader_behind, place_of, row_of, writer_changes}
use Rattle.dds_protocol.specs.Peer.{Peer, no_peer}
use Rattle.dds_protocol.specs.DueMessages.{writer_entity}
use Rattle.dds_protocol.specs.World.{WorldState, WorldStep, machine_of}
use Rattle.dds_machine.proofs.Tables.{numbered-map, slice_get-append}
use Rattle.dds_core.specs.declared.pairing.Pair.{Pair}
use Rattle.dds_core.specs.Kept.{PeerKept}
use Rattle.dds_core.specs.Pairs.{IsPair}
use Rattle.dds_core.specs.Standing.{StandsFor as CoreStandsFor}
use Rattle.dds_world.specs.declared.round.Matched.{Matched}
use Rattle.dds_world.specs.declared.round.RoundReply.{RoundReply}
use Rattle.dds_world.specs.Repairing.{Knows, IsKnown, NotMatched, Stage, Answering, Acknowledging, Beating}
use Rattle.dds_world.specs.Round.{AreMatched, RefusesRound, IsStep, AreSteps, IsTo, HasNone, IsFirst, heartbeat_of, acknack_of, answers_at, AfterHeartbeat, AfterTick, IsRound, round_refusal}
use Rattle.dds_world.specs.WorldStanding.{Hearing, WorldKept, StandsFor, MachineStands, KeepsRulesAlone}
use Rattle.dds_world.proofs.Sends.{numbered_so}

-- ---- what was sent stays

abbrev Grows : List Packet → List Packet → Type 0
Grows old new = (posted : List Packet) × (new ≡ old ++ posted)

grows_same : (old new : List Packet) → new ≡ old → Grows old new
grows_same old new same = ([], same ∙ sym (append-nil old))

grows_on : (a b c : List Packet) → Grows a b → Grows b c → Grows a c
grows_on a b c f g = (f.0 ++ g.0, g.1 ∙ (ap (λ (ps : List Packet). ps ++ g.0) f.1 ∙ append_assoc a f.0 g.0))

world_grows : (roster : Roster) (tests : AllTests) (old : WorldState) (ev : WorldEvent) (reply : Reply)
    (new : WorldState) → WorldStep roster tests old ev reply new → Grows old.sent new.sent
world_grows roster tests old (world.Call peer call) reply new step =
    ⊎_elim (λ p. (p.posted, ap (λ (w : WorldState). w.sent) p.changed))
    (λ r. grows_same old.sent new.sent (ap (λ (w : WorldState). w.sent) r.1.after)) step
world_grows roster tests old (world.Tick peer now) reply new step =
    ⊎_elim (λ p. (p.posted, ap (λ (w : WorldState). w.sent) p.changed))
    (λ r. grows_same old.sent new.sent (ap (λ (w : WorldState). w.sent) r.1.after)) step
world_grows roster tests old (world.Deliver peer k) reply new step =
    ⊎_elim (λ p. (p.3.posted, ap (λ (w : WorldState). w.sent) p.3.changed))
    (λ r. grows_same old.sent new.sent (ap (λ (w : WorldState). w.sent) r.1.after)) step
world_grows roster tests old (world.Resume peer reader) reply new step =
    ⊎_elim (λ p. (p.posted, ap (λ (w : WorldState). w.sent) p.changed))
    (λ r. grows_same old.sent new.sent (ap (λ (w : WorldState). w.sent) r.1.after)) step

record GoesOn {hearing : Hearing} (roster : Roster) (old new : WorldKept hearing) : Type 0 where
  after : WorldState
  stands : StandsFor new roster after
  grows : Grows old.sent new.sent

step_on : {hearing : Hearing} → (tests : AllTests) → (roster : Roster) (network : WorldState)
    (old : WorldKept hearing) (ev : WorldEvent)
    (reply : Reply) (new : WorldKept hearing) → KeepsRulesAlone tests old ev reply new → StandsFor old roster network
    → GoesOn roster old new
step_on tests roster network old ev reply new steps s =
    let t = steps roster network s in
    let g = world_grows roster tests network ev reply t.0 t.1.ruled.step in
    record {
      after = world_ended network ev t.0;
      stands = t.2;
      grows = (g.0, sym t.2.sent ∙ (g.1 ∙ ap (λ (ps : List Packet). ps ++ g.0) s.sent));
    }

steps_on : {hearing : Hearing} → (tests : AllTests) → (roster : Roster) (network : WorldState)
    (old : WorldKept hearing) (events : List WorldEvent)
    (replies : List RoundReply) (new : WorldKept hearing) → AreSteps tests old events replies new → StandsFor old roster network
    → GoesOn roster old new
steps_on {hearing} tests roster network old [] [] new same s = record {
  after = network;
  stands = subst (λ (k : WorldKept hearing). StandsFor k roster network) (sym same) s;
  grows = grows_same old.sent new.sent (ap (λ (k : WorldKept hearing). k.sent) same);
}
steps_on tests roster network old (e ∷ es) (r ∷ rs) new h s =
    let first = step_on tests roster network old e r.reply h.0 h.1.rules s in
    let rest = steps_on tests roster first.after h.0 es rs new h.2 first.stands in
    record {
      after = rest.after;
      stands = rest.stands;
      grows = grows_on old.sent h.0.sent new.sent first.grows
          rest.grows;
    }
steps_on tests roster network old [] (r ∷ rs) new h s = absurd h
steps_on tests roster network old (e ∷ es) [] new h s = absurd h

get_back : (xs ys : List Packet) (i : ℕ) (p : Packet) → i < length xs → slice_get (xs ++ ys) i ≡ Some p
    → slice_get xs i ≡ Some p
get_back [] ys i p low at = absurd (omega (arith, low))
get_back (x ∷ xs) ys zero p low at = at
get_back (x ∷ xs) ys (suc i) p low at = get_back xs ys i p (omega (arith, low)) at

none_on : (Is : Packet → Type 0) (old new : List Packet) (from to : ℕ) → Grows old new → to ≤ length old
    → HasNone Is old from to → HasNone Is new from to
none_on Is old new from to g high none = λ k packet above within at is.
    let back =
    get_back old g.0 (k - 1) packet (omega (arith, above, within, high))
    (subst (λ (ps : List Packet). slice_get ps (k - 1) ≡ Some packet) g.1 at.1) in
    none k packet above within (at.0, back) is

first_on : (Is : Packet → Type 0) (old new : List Packet) (from to k : ℕ) → Grows old new → to ≤ length old
    → IsFirst Is old from to k → IsFirst Is new from to k
first_on Is old new from to k g high f =
    let within = f.within in
    record {
      above = f.above;
      within = f.within;
      packet = f.packet;
      at = (
        f.at.0,
        subst (λ (ps : List Packet). slice_get ps (k - 1) ≡ Some f.packet) (sym g.1)
            (slice_get-append old g.0 (k - 1) f.packet f.at.1),
      );
      is = f.is;
      first = none_on Is old new from (k - 1) g (omega (arith, within, high)) f.first;
    }

-- ---- steps one after the other

-- one more step
pub steps_more : {hearing : Hearing} → {tests : AllTests}
    → (old : WorldKept hearing) (events : List WorldEvent) (replies : List RoundReply) (mid : WorldKept hearing) (ev : WorldEvent)
    (reply : RoundReply) (new : WorldKept hearing) → AreSteps tests old events replies mid → IsStep tests mid ev reply new
    → AreSteps tests old (events ++ ev ∷ []) (replies ++ reply ∷ []) new
steps_more {hearing} {tests} old [] [] mid ev reply new same step =
    (new, subst (λ (k : WorldKept hearing). IsStep tests k ev reply new) same step, refl)
steps_more old (e ∷ es) (r ∷ rs) mid ev reply new h step = (h.0, h.1, steps_more h.0 es rs mid ev reply new h.2 step)
steps_more old [] (r ∷ rs) mid ev reply new h step = absurd h
steps_more old (e ∷ es) [] mid ev reply new h step = absurd h

-- what is said of these events, replies and states is said of those that they are
said_of : {hearing : Hearing} → (P : List WorldEvent → List RoundReply → WorldKept hearing → Type 0)
    (events later : List WorldEvent)
    (replies rest : List RoundReply) (new last : WorldKept hearing)
    → events ≡ later → replies ≡ rest → new ≡ last → P later rest last → P events replies new
said_of {hearing} P events later replies rest new last e r n h =
    subst (λ (es : List WorldEvent). P es replies new) (sym e)
    (subst (λ (rs : List RoundReply). P later rs new) (sym r) (subst (λ (k : WorldKept hearing). P later rest k) (sym n) h))

-- what is so where there is no such packet, and where the first one is delivered and it goes on so, is so of the stage
pub stage_is : {hearing : Hearing} → {tests : AllTests}
    → (Is : Packet → Type 0) (from peer : ℕ) (Next : WorldKept hearing → List WorldEvent → List RoundReply → WorldKept hearing → Type 0)
    (old : WorldKept hearing) (events : List WorldEvent) (replies : List RoundReply) (new : WorldKept hearing)
    (P : List WorldEvent → List RoundReply → WorldKept hearing → Type 0)
    → (HasNone Is old.sent from (length old.sent) → P [] [] old)
    → ((k : ℕ) (reply : RoundReply) (mid : WorldKept hearing) (later : List WorldEvent) (rest : List RoundReply)
    → IsFirst Is old.sent from (length old.sent) k → IsStep tests old (world.Deliver peer k) reply mid
    → Next mid later rest new → P (world.Deliver peer k ∷ later) (reply ∷ rest) new)
    → Stage tests Is from peer Next old events replies new → P events replies new
stage_is Is from peer Next old events replies new P none goes h =
    ⊎_elim (λ f. said_of P events [] replies [] new old f.0 f.1 f.2 (none f.3))
    (λ f. said_of P events (world.Deliver peer f.0 ∷ f.3) replies (f.1 ∷ f.4) new new f.7 f.8 refl
    (goes f.0 f.1 f.2 f.3 f.4 f.5 f.6 f.9)) h

-- what goes on so goes by steps
abbrev pub BySteps : {hearing : Hearing} → AllTests
    → (WorldKept hearing → List WorldEvent → List RoundReply → WorldKept hearing → Type 0) → WorldKept hearing
    → Type 0
BySteps {hearing} tests Next new =
    (mid : WorldKept hearing) (events : List WorldEvent) (replies : List RoundReply) → Next mid events replies new
    → AreSteps tests mid events replies new

-- a stage goes by steps, where what follows does
stage_steps : {hearing : Hearing} → {tests : AllTests}
    → (Is : Packet → Type 0) (from peer : ℕ) (Next : WorldKept hearing → List WorldEvent → List RoundReply → WorldKept hearing → Type 0)
    (old : WorldKept hearing) (events : List WorldEvent) (replies : List RoundReply) (new : WorldKept hearing) → BySteps tests Next new
    → Stage tests Is from peer Next old events replies new → AreSteps tests old events replies new
stage_steps {tests} Is from peer Next old events replies new next h =
    stage_is Is from peer Next old events replies new (λ es rs k. AreSteps tests old es rs k) (λ none. refl)
    (λ k reply mid later rest first step goes. (mid, step, next mid later rest goes)) h

pub acks_steps : {hearing : Hearing} → {tests : AllTests}
    → (m : Matched) (from : ℕ) (old : WorldKept hearing) (events : List WorldEvent) (replies : List RoundReply)
    (new : WorldKept hearing) → Acknowledging tests m from old events replies new → AreSteps tests old events replies new
acks_steps {tests} m from old events replies new h =
    stage_steps (IsTo m.writer.peer (sought.AckNack m.pair.reader m.pair.writer)) from m.writer.peer
    (Answering tests m.reader.peer (length old.sent)) old events replies new
    (λ mid es rs a. a.1) h

pub beats_steps : {hearing : Hearing} → {tests : AllTests}
    → (m : Matched) (from : ℕ) (old : WorldKept hearing) (events : List WorldEvent) (replies : List RoundReply)
    (new : WorldKept hearing) → Beating tests m from old events replies new → AreSteps tests old events replies new
beats_steps {tests} m from old events replies new h =
    stage_steps (IsTo m.reader.peer (sought.Heartbeat m.pair.writer)) from m.reader.peer
    (Acknowledging tests m (length old.sent)) old events replies new
    (λ mid es rs a. acks_steps m (length old.sent) mid es rs new a) h

-- one more answer
answer_more : (peer first count : ℕ) → map (λ k. world.Deliver peer k) (numbers_from first (suc count))
    ≡ map (λ k. world.Deliver peer k) (numbers_from first count) ++ world.Deliver peer (first + count) ∷ []
answer_more peer first zero =
    let same : first ≡ first + 0 = omega arith in ap (λ (k : ℕ). world.Deliver peer k ∷ []) same
answer_more peer first (suc count) =
    let next : first + 1 + count ≡ first + suc count = omega arith in
    ap (λ (es : List WorldEvent). world.Deliver peer first ∷ es) (answer_more peer (first + 1) count)
    ∙ ap (λ (k : ℕ). world.Deliver peer first
    ∷ (map (λ k. world.Deliver peer k) (numbers_from (first + 1) count) ++ world.Deliver peer k ∷ [])) next

pub answered_more : {hearing : Hearing} → {tests : AllTests}
    → (old : WorldKept hearing) (peer from index count packet : ℕ) (replies : List RoundReply) (mid : WorldKept hearing)
    (reply : RoundReply) (new : WorldKept hearing) → count ≡ index + 1 → packet ≡ from + index + 1
    → AreSteps tests old (map (λ k. world.Deliver peer k) (numbers_from (from + 1) index)) replies mid
    → IsStep tests mid (world.Deliver peer packet) reply new
    → AreSteps tests old (map (λ k. world.Deliver peer k) (numbers_from (from + 1) count)) (replies ++ reply ∷ []) new
answered_more {tests} old peer from index count packet replies mid reply new is number steps step =
    let same : packet ≡ from + 1 + index = omega (arith, number) in
    let next : suc index ≡ count = omega (arith, is) in
    let all =
    steps_more old (map (λ k. world.Deliver peer k) (numbers_from (from + 1) index)) replies mid
    (world.Deliver peer (from + 1 + index)) reply new steps
    (subst (λ (k : ℕ). IsStep tests mid (world.Deliver peer k) reply new) same step) in
    subst (λ (c : ℕ). AreSteps tests old (map (λ k. world.Deliver peer k) (numbers_from (from + 1) c))
    (replies ++ reply ∷ []) new) next
    (subst (λ (es : List WorldEvent). AreSteps tests old es (replies ++ reply ∷ []) new)
    (sym (answer_more peer (from + 1) index)) all)

-- ---- the stages are those of a round

acknack_is : (roster : Roster) (network : WorldState) (m : Matched) → Knows roster network m
    → sought.AckNack m.pair.reader m.pair.writer ≡ acknack_of roster m.writer m.reader
acknack_is roster network m k = let r = k.reader in let w = k.writer in cc

heartbeat_is : (roster : Roster) (network : WorldState) (m : Matched) → Knows roster network m
    → sought.Heartbeat m.pair.writer ≡ heartbeat_of roster m.writer
heartbeat_is roster network m k = let w = k.writer in cc

-- What is so of what was sent before, where there is no such packet, and of what was sent in the end, where the first
-- one is delivered and it goes on so, is so of the stage. What is looked for is this submessage.
stage_in_round : {hearing : Hearing} → {tests : AllTests}
    → (roster : Roster) (network : WorldState) {wanted known : Sought} (from peer : ℕ)
    (Next : WorldKept hearing → List WorldEvent → List RoundReply → WorldKept hearing → Type 0) (old : WorldKept hearing)
    (events : List WorldEvent) (replies : List RoundReply) (new : WorldKept hearing)
    (After : List Packet → List WorldEvent → List RoundReply → Type 0) → wanted ≡ known → StandsFor old roster network
    → BySteps tests Next new
    → (HasNone (IsTo peer known) old.sent from (length old.sent) → After old.sent [] [])
    → ((k : ℕ) (reply : RoundReply) (mid : WorldKept hearing) (later : List WorldEvent) (rest : List RoundReply)
    → IsFirst (IsTo peer known) new.sent from (length old.sent) k → GoesOn roster old mid
    → reply.sent ≡ length mid.sent → Next mid later rest new
    → After new.sent (world.Deliver peer k ∷ later) (reply ∷ rest))
    → Stage tests (IsTo peer wanted) from peer Next old events replies new → After new.sent events replies
stage_in_round {tests} roster network {wanted} from peer Next old events replies new After is s next none goes h =
    stage_is (IsTo peer wanted) from peer Next old events replies new (λ es rs k. After k.sent es rs)
    (λ n. none (subst (λ (x : Sought). HasNone (IsTo peer x) old.sent from (length old.sent)) is n))
    (λ k reply mid later rest first step on.
    let ev : WorldEvent = world.Deliver peer k in
    let high : length old.sent ≤ length old.sent = omega arith in
    let steps : AreSteps tests old (ev ∷ later) (reply ∷ rest) new = (mid, step, next mid later rest on) in
    let grows = (steps_on tests roster network old (ev ∷ later) (reply ∷ rest) new steps s).grows in
    let there = first_on (IsTo peer wanted) old.sent new.sent from (length old.sent) k grows high first in
    goes k reply mid later rest
    (subst (λ (x : Sought). IsFirst (IsTo peer x) new.sent from (length old.sent) k) is there)
    (step_on tests roster network old ev reply.reply mid step.rules s) step.sent on) h

-- the stage after the HEARTBEAT is that of a round
after_heartbeat : {hearing : Hearing} → {tests : AllTests}
    → (roster : Roster) (network known : WorldState) (m : Matched) (from : ℕ) (old : WorldKept hearing)
    (events : List WorldEvent) (replies : List RoundReply) (new : WorldKept hearing) → Knows roster known m
    → StandsFor old roster network
    → Acknowledging tests m from old events replies new
    → AfterHeartbeat roster m.writer m.reader new.sent from (length old.sent) events replies
after_heartbeat {tests} roster network known m from old events replies new k s h =
    stage_in_round roster network from m.writer.peer (Answering tests m.reader.peer (length old.sent)) old events replies
    new
    (λ ps es rs. AfterHeartbeat roster m.writer m.reader ps from (length old.sent) es rs)
    (acknack_is roster known m k) s (λ mid es rs a. a.1) (λ none. none)
    (λ number reply mid later rest first on sent a.
    (refl, first, subst (λ (n : ℕ). later ≡ answers_at m.reader.peer (length old.sent) n) (sym sent) a.0)) h

-- the stage after the tick is that of a round
after_tick : {hearing : Hearing} → {tests : AllTests} → (roster : Roster) (network known : WorldState) (m : Matched)
    (from : ℕ)
    (old : WorldKept hearing) (events : List WorldEvent) (replies : List RoundReply) (new : WorldKept hearing) → Knows roster known m
    → StandsFor old roster network
    → Beating tests m from old events replies new
    → AfterTick roster m.writer m.reader new.sent from (length old.sent) events replies
after_tick {tests} roster network known m from old events replies new k s h =
    stage_in_round roster network from m.reader.peer (Acknowledging tests m (length old.sent)) old events replies new
    (λ ps es rs. AfterTick roster m.writer m.reader ps from (length old.sent) es rs) (heartbeat_is roster known m k) s
    (λ mid es rs a. acks_steps m (length old.sent) mid es rs new a) (λ none. none)
    (λ number reply mid later rest first on sent a. (
      refl,
      first,
      subst (λ (n : ℕ). AfterHeartbeat roster m.writer m.reader new.sent (length old.sent) n later rest) (sym sent)
          (after_heartbeat roster on.after known m (length old.sent) mid later rest new k on.stands a),
    )) h

pub round_is : {hearing : Hearing} → {tests : AllTests}
    → (old : WorldKept hearing) (m : Matched) (ticked : RoundReply) (mid : WorldKept hearing) (events : List WorldEvent)
    (replies : List RoundReply) (new : WorldKept hearing) → IsKnown old m
    → IsStep tests old (world.Tick m.writer.peer m.moment) ticked mid
    → Beating tests m (length old.sent) mid events replies new → (roster : Roster) (network : WorldState)
    → StandsFor old roster network
    → IsRound roster network m.writer m.reader new.sent (world.Tick m.writer.peer m.moment ∷ events) (ticked ∷ replies)
round_is {tests} old m ticked mid events replies new known tick beats roster network s =
    let k = known roster network s in
    let on = step_on tests roster network old (world.Tick m.writer.peer m.moment) ticked.reply mid tick.rules s in
    let after = after_tick roster on.after network m (length old.sent) mid events replies new k on.stands beats in
    let counted =
    subst (λ (n : ℕ). AfterTick roster m.writer m.reader new.sent (length old.sent) n events replies)
    (sym tick.sent) after in (
      refl,
      k.moment,
      subst (λ (ps : List Packet). AfterTick roster m.writer m.reader new.sent
          (length ps) ticked.sent events replies) (sym s.sent) counted,
    )

-- ---- who is matched

-- the peer of this index, in a state of the network
record IsPeerAt (roster : Roster) (network : WorldState) (kept : PeerKept) (number : ℕ) : Type 0 where
  peer : Peer
  stands : CoreStandsFor kept roster peer
  numbered : peer.number ≡ number
  part : part_at (machine_of network) number ≡ peer.part

peer_is : {hearing : Hearing} → (kept : WorldKept hearing) (i number : ℕ) (core : PeerKept) (roster : Roster)
    (network : WorldState)
    → StandsFor kept roster network → number ≡ i + 1 → slice_get kept.peers i ≡ Some core
    → IsPeerAt roster network core number
peer_is kept i number core roster network s is at =
    let next : suc i ≡ number = omega (arith, is) in
    let here : IsPeerAt roster network core (suc i) = record {
      peer = get_or network.peers i no_peer;
      stands = s.each i core at;
      numbered = numbered_so kept roster network i core s at;
      part = numbered-map (λ (p : Peer). p.part) network.peers (suc i) no_peer;
    } in
    subst (λ (n : ℕ). IsPeerAt roster network core n) next here

pub no_pair_matched : {hearing : Hearing} → (kept : WorldKept hearing) (i : ℕ) (core : PeerKept)
    (writer reader : Endpoint) → writer.peer ≡ i + 1
    → slice_get kept.peers i ≡ Some core
    → ((roster : Roster) (peer : Peer) → CoreStandsFor core roster peer → IsPair roster peer writer.number reader None)
    → NotMatched kept writer reader
no_pair_matched kept i core writer reader is at none = λ roster network s.
    let p = peer_is kept i writer.peer core roster network s is at in
    subst (λ (part : Part). acknowledged_of (own_writer part writer.number).readers reader ≡ None) (sym p.part)
    (none roster p.peer p.stands)

pub pair_matched : {hearing : Hearing} → (kept : WorldKept hearing) (i : ℕ) (core : PeerKept)
    (writer reader : Endpoint) (pair : Pair) (now : ℕ)
    → writer.peer ≡ i + 1 → slice_get kept.peers i ≡ Some core
    → ((roster : Roster) (peer : Peer) → CoreStandsFor core roster peer
    → IsPair roster peer writer.number reader (Some pair))
    → ((roster : Roster) (peer : Peer) → CoreStandsFor core roster peer → now ≡ peer.part.dds.moment)
    → IsKnown kept (record { writer = writer; reader = reader; pair = pair; moment = now })
pair_matched kept i core writer reader pair now is at found moment = λ roster network s.
    let p = peer_is kept i writer.peer core roster network s is at in
    let f = found roster p.peer p.stands in
    record {
      matched =
          subst (λ (part : Part). IsSome (acknowledged_of (own_writer part writer.number).readers reader))
          (sym p.part) f.0;
      writer = subst (λ (n : ℕ). pair.writer ≡ writer_entity roster n writer.number) p.numbered f.1;
      reader = f.2;
      behind = f.3 ∙ ap (λ (part : Part). is_reader_behind (own_writer part writer.number) reader) (sym p.part);
      last = f.4 ∙ ap (λ (part : Part). length (writer_changes (own_writer part writer.number))) (sym p.part);
      moment = moment roster p.peer p.stands ∙ ap (λ (part : Part). part.dds.moment) (sym p.part);
    }

-- ---- the rows of a reader

-- what the rows of a reader say, in each state that the network stands for
abbrev pub AreRowsSo : {hearing : Hearing} {X : Type 0} → WorldKept hearing → (List WriterProxy → X) → Endpoint → X → Type 0
AreRowsSo kept say reader said =
    (roster : Roster) (network : WorldState) → StandsFor kept roster network
    → said ≡ say (own_proxies (part_at (machine_of network) reader.peer) reader.number)

-- its place
abbrev pub IsPlace : {hearing : Hearing} → WorldKept hearing → Endpoint → Endpoint → Option ℕ → Type 0
IsPlace kept reader writer place = AreRowsSo kept (λ rows. place_of rows writer) reader place

-- whether it is matched
abbrev pub IsMatchedSo : {hearing : Hearing} → WorldKept hearing → Endpoint → Endpoint → Bool → Type 0
IsMatchedSo kept reader writer is = AreRowsSo kept (λ rows. is_attached (how_of rows writer)) reader is

pub rows_kept : {hearing : Hearing} {X : Type 0} → (kept : WorldKept hearing) (i : ℕ) (core : PeerKept)
    (say : List WriterProxy → X) (reader : Endpoint) (said : X)
    → reader.peer ≡ i + 1
    → slice_get kept.peers i ≡ Some core
    → ((roster : Roster) (peer : Peer) → CoreStandsFor core roster peer
    → said ≡ say (own_proxies peer.part reader.number))
    → AreRowsSo kept say reader said
rows_kept kept i core say reader said is at of_core = λ roster network s.
    let p = peer_is kept i reader.peer core roster network s is at in
    of_core roster p.peer p.stands ∙ ap (λ (part : Part). say (own_proxies part reader.number)) (sym p.part)

-- ---- where there is no round

no_cause : (o : Option ℕ) (b : Bool) → IsSome o → true ≡ b
    → (if is_some o && b then None else Some BadParameter) ≡ None
no_cause None b h is = cc
no_cause (Some x) b h is = subst (λ (c : Bool). (if c then None else Some BadParameter) ≡ None) is refl

pub are_matched : {hearing : Hearing} → (kept : WorldKept hearing) (m : Matched) → IsKnown kept m
    → IsMatchedSo kept m.reader m.writer true → AreMatched kept m.writer m.reader
are_matched kept m known here roster network s =
    no_cause (acknowledged_of (writer_at (machine_of network) m.writer).readers m.reader)
    (is_attached (how_of (own_proxies (part_at (machine_of network) m.reader.peer) m.reader.number) m.writer))
    (known roster network s).matched (here roster network s)

pub not_matched : {hearing : Hearing} → (kept : WorldKept hearing) (writer reader : Endpoint)
    → NotMatched kept writer reader
    → RefusesRound kept writer reader BadParameter
not_matched kept writer reader none roster network s =
    subst (λ (o : Option ℕ). Refuses (if is_some o
    && is_attached (how_of (own_proxies (part_at (machine_of network) reader.peer) reader.number) writer)
    then None else Some BadParameter) BadParameter)
    (sym (none roster network s)) refl

-- where the reader's side is not matched there is no round
no_side : (o : Option ℕ) (b : Bool) → false ≡ b
    → Refuses (if is_some o && b then None else Some BadParameter) BadParameter
no_side None b is = refl
no_side (Some x) b is =
    subst (λ (c : Bool). Refuses (if c then None else Some BadParameter) BadParameter) is refl

pub not_attached : {hearing : Hearing} → (kept : WorldKept hearing) (writer reader : Endpoint)
    → IsMatchedSo kept reader writer false → RefusesRound kept writer reader BadParameter
not_attached kept writer reader none roster network s =
    no_side (acknowledged_of (writer_at (machine_of network) writer).readers reader)
    (is_attached (how_of (own_proxies (part_at (machine_of network) reader.peer) reader.number) writer))
    (none roster network s)

-- so it is of each machine for which the network stands
pub rows_in : {hearing : Hearing} {X : Type 0} → (kept : WorldKept hearing) (say : List WriterProxy → X)
    (reader : Endpoint) (said : X) → AreRowsSo kept say reader said
    → (roster : Roster) (m : Machine) → MachineStands kept roster m
    → said ≡ say (own_proxies (part_at m reader.peer) reader.number)
rows_in kept say reader said is roster m stands =
    is roster stands.0 stands.2
    ∙ ap (λ (x : Machine). say (own_proxies (part_at x reader.peer) reader.number)) stands.1

-- and of each of its states where it is of each such machine
pub rows_of_machine : {hearing : Hearing} {X : Type 0} → (kept : WorldKept hearing) (say : List WriterProxy → X)
    (reader : Endpoint) (said : X)
    → ((roster : Roster) (m : Machine) → MachineStands kept roster m
    → said ≡ say (own_proxies (part_at m reader.peer) reader.number))
    → AreRowsSo kept say reader said
rows_of_machine kept say reader said is roster network s = is roster (machine_of network) (network, refl, s)

-- the same of ends that are these
pub here_of : {hearing : Hearing} → (kept : WorldKept hearing) (writer reader w r : Endpoint) → w ≡ writer → r ≡ reader
    → IsMatchedSo kept reader writer true → IsMatchedSo kept r w true
here_of kept writer reader w r same_w same_r here =
    subst (λ (e : Endpoint). IsMatchedSo kept e w true) (sym same_r)
    (subst (λ (e : Endpoint). IsMatchedSo kept reader e true) (sym same_w) here)

-- without a place the reader is not matched
unplaced : (rows : List WriterProxy) (writer : Endpoint) → None ≡ place_of rows writer
    → false ≡ is_attached (how_of rows writer)
unplaced rows writer none = by (row_of (λ (p : WriterProxy). p.writer) rows writer) refl
  where
    by : (o : Option WriterProxy) → row_of (λ (p : WriterProxy). p.writer) rows writer ≡ o
        → false ≡ is_attached (how_of rows writer)
    by None e =
        ap (λ (x : Option WriterProxy). is_attached (option_map_or (λ (p : WriterProxy). p.how) x Away)) (sym e)
    by (Some row) e =
        let some : ◌≡◌ {A = Option ℕ} None (Some row.place) =
        none ∙ ap (λ (x : Option WriterProxy). option_map (λ (p : WriterProxy). p.place) x) e in
        absurd cc

pub not_placed : {hearing : Hearing} → (kept : WorldKept hearing) (writer reader : Endpoint)
    → IsPlace kept reader writer None
    → RefusesRound kept writer reader BadParameter
not_placed kept writer reader none =
    not_attached kept writer reader
    (λ roster network s. unplaced (own_proxies (part_at (machine_of network) reader.peer) reader.number) writer
    (none roster network s))

-- ---- the first such packet

-- the number is no more than this one, or the next
at_most_next : (k n : ℕ) → k ≤ n + 1 → (k ≤ n) ⊎ (k ≡ n + 1)
at_most_next zero n h = inl (omega arith)
at_most_next (suc k) zero h = inr (omega (arith, h))
at_most_next (suc k) (suc n) h =
    ⊎_elim (λ a. inl (omega (arith, a))) (λ b. inr (omega (arith, b))) (at_most_next k n (omega (arith, h)))

pub none_yet : (Is : Packet → Type 0) (sent : List Packet) (from to : ℕ) → to ≤ from → HasNone Is sent from to
none_yet Is sent from to low = λ k packet above within at is. absurd (omega (arith, low, above, within))

pub none_within : (Is : Packet → Type 0) (sent : List Packet) (from to index : ℕ) → to ≤ index
    → HasNone Is sent from index → HasNone Is sent from to
none_within Is sent from to index low none =
    λ k packet above within at is. none k packet above (omega (arith, low, within)) at is

-- the packet that is read at an index of those that were sent
pub packet_read : (inside sent : List Packet) (index : ℕ) (packet : Packet) → inside ≡ sent → index < length sent
    → packet ≡ get_or inside index packet → slice_get sent index ≡ Some packet
packet_read inside sent index packet same low is =
    slice_get_read sent (length sent) index packet refl low
    (subst (λ (ps : List Packet). packet ≡ get_or ps index packet) same is)

pub none_more : (Is : Packet → Type 0) (sent : List Packet) (from index next : ℕ) (packet : Packet) → next ≡ index + 1
    → slice_get sent index ≡ Some packet → (Is packet → ⊥) → HasNone Is sent from index → HasNone Is sent from next
none_more Is sent from index next packet is here other none = λ k p above within at is_p.
    ⊎_elim (λ before. none k p above before at is_p)
    (λ last.
    let number : k - 1 ≡ index = omega (arith, last) in
    let there : slice_get sent index ≡ Some p = subst (λ (n : ℕ). slice_get sent n ≡ Some p) number at.1 in
    other (subst (λ (x : Packet). Is x) (sym (same_Some packet p (sym here ∙ there))) is_p))
    (at_most_next k index (omega (arith, within, is)))

pub found_here : (Is : Packet → Type 0) (sent : List Packet) (from index number : ℕ) (packet : Packet)
    → number ≡ index + 1 → from ≤ index → slice_get sent index ≡ Some packet → Is packet → HasNone Is sent from index
    → IsFirst Is sent from (length sent) number
found_here Is sent from index number packet is above here such none =
    let before : index ≡ number - 1 = omega (arith, is) in
    let low = slice_get_within sent index packet here in
    record {
      above = omega (arith, is, above);
      within = omega (arith, is, low);
      packet = packet;
      at = (omega (arith, is), subst (λ (n : ℕ). slice_get sent n ≡ Some packet) before here);
      is = such;
      first = subst (λ (n : ℕ). HasNone Is sent from n) before none;
    }

-- where they are matched, want of memory alone refuses a round
pub lacks_memory : {hearing : Hearing} → (kept : WorldKept hearing) (m : Matched) (writer reader : Endpoint)
    → m.writer ≡ writer → m.reader ≡ reader → IsKnown kept m → IsMatchedSo kept m.reader m.writer true
    → RefusesRound kept writer reader Memory
lacks_memory kept m writer reader is_writer is_reader known here roster network s =
    let matched =
    subst (λ (w : Endpoint). round_refusal (machine_of network) w reader ≡ None) is_writer
    (subst (λ (r : Endpoint). round_refusal (machine_of network) m.writer r ≡ None) is_reader
    (are_matched kept m known here roster network s)) in
    subst (λ (o : Option Code). Refuses o Memory) (sym matched) refl

-- what holds of want of memory holds of each refusal that is one
pub if_memory : {X : Type 0} (P : Code → Type 0) (r : Result X Code) → IsErrAnd r (λ e. e ≡ Memory) → P Memory
    → IfErr r P
if_memory P (Ok x) h p = tt
if_memory P (Err e) h p = subst P (sym h) p
