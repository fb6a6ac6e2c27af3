-- What a network of a round knows of the pair, and the steps of a round by the rules.
use Rattle.std.proofs.Common.{◌≡◌, ℕ, zero, suc, ◌+◌, ◌-◌, ◌^◌, ◌<◌, ◌≤◌, ◌&&◌, ◌||◌, min, Bool, true, false, not, List, [], ◌∷◌, ◌++◌, Option, Some, None, Contains, map, length, get_or, slice_get, is_some, refl, subst, ap, sym, ◌∙◌, inl, inr, ⊎_elim, arith}
use Rattle.std.specs.Prelude.{nat_lt}
use Rattle.std.proofs.lemmas.Bool.Decides.{nat_tests}
use Rattle.dds_protocol.specs.Roster.{Roster}
use Rattle.dds_base.specs.Kept.{numbers_from}
use Rattle.dds_protocol.specs.Noticing.{world_ended}
use Rattle.dds_protocol.proofs.EndsBeside.{world_beside}
use Rattle.dds_protocol.proofs.SameBeside.{place_is as beside_place}
use Rattle.dds_base.specs.declared.endpoint.Endpoint.{Endpoint}
use Rattle.dds_protocol.specs.declared.event.Event.TheVariants as event
use Rattle.dds_protocol.specs.declared.event.Packet.{Packet}
use Rattle.dds_machine.specs.declared.event.WorldEvent.{WorldEvent}
use Rattle.dds_machine.specs.declared.event.WorldEvent.TheVariants as world
use Rattle.dds_machine.specs.declared.reply.Reply.{Reply}
use Rattle.dds_machine.specs.declared.reply.Reply.TheVariants.{Done, Reported}
use Rattle.dds_machine.specs.declared.reply.Report.{Report}
use Rattle.dds_machine.specs.Numbered.{numbered, HasNumber}
use Rattle.dds_machine.specs.Machine.{AllTests, place_at}
use Rattle.dds_machine.specs.Part.{NoLess, own_writer, own_proxies, place_of, writer_changes}
use Rattle.dds_machine.specs.Ticks.{TicksAsked}
use Rattle.dds_protocol.specs.DueMessages.{was_asked}
use Rattle.dds_protocol.specs.Peer.{Peer, EventStep, no_peer}
use Rattle.dds_protocol.specs.Repair.{Delivers, DeliversAll}
use Rattle.dds_protocol.specs.Rules.{RuledStep, RuledRun}
use Rattle.dds_protocol.specs.World.{WorldState, WorldStep, peer_at, machine_of}
use Rattle.dds_protocol.specs.Fresh.{tracked_at}
use Rattle.dds_protocol.proofs.Composed.{contains_at, front_or_rest}
use Rattle.dds_protocol.proofs.Framing.{has_reader}
use Rattle.dds_protocol.proofs.FreshCounts.{stays_same, steps_stays}
use Rattle.dds_protocol.proofs.PairBegun.{place_is}
use Rattle.dds_machine.proofs.Tables.{no_less_on, no_less_same, slice_get-append}
use Rattle.dds_core.specs.Kept.{PeerKept}
use Rattle.dds_core.specs.Standing.{StandsFor as CoreStandsFor}
use Rattle.dds_core.specs.Ruling.{IsSound}
use Rattle.dds_ends.proofs.Lists.{element}
use Rattle.dds_world.specs.declared.round.RoundReply.{RoundReply}
use Rattle.dds_world.specs.Round.{IsStep, AreSteps, HasNone, has_unsent, is_whole, are_whole, replies_of}
use Rattle.dds_world.specs.WorldStanding.{Hearing, WorldKept, StandsFor}
use Rattle.dds_world.proofs.RunSteps.{Went, ended, went_by}

-- ---- the peers

-- what a network keeps of a peer
pub record CoreAt (roster : Roster) (network : WorldState) (n : ℕ) : Type 0 where
  pub core : PeerKept
  pub stands : CoreStandsFor core roster (peer_at network n)
  pub known : IsSound roster (peer_at network n)

pub core_at : {hearing : Hearing} → (kept : WorldKept hearing) (roster : Roster) (network : WorldState) (n : ℕ)
    → StandsFor kept roster network
    → HasNumber network.peers n → CoreAt roster network n
core_at kept roster network zero s has = let low = has.0 in absurd (omega (arith, low))
core_at kept roster network (suc i) s has =
    let count = s.count in
    let high = has.1 in
    let found = element kept.peers i (omega (arith, count, high)) in
    record { core = found.0; stands = s.each i found.0 found.1; known = s.known i found.0 found.1 }

-- a peer that has readers is there
peer_there : (peers : List Peer) (n r : ℕ) → HasNumber (numbered peers n no_peer).part.rtps.readers r
    → HasNumber peers n
peer_there peers zero r has = let low = has.0 in let high = has.1 in absurd (omega (arith, low, high))
peer_there peers (suc i) r has = (omega arith, within peers i has)
  where
    within : (ps : List Peer) (i : ℕ) → HasNumber (get_or ps i no_peer).part.rtps.readers r → suc i ≤ length ps
    within [] i k = let low = k.0 in let high = k.1 in absurd (omega (arith, low, high))
    within (p ∷ ps) zero k = omega arith
    within (p ∷ ps) (suc i) k = let rest = within ps i k in omega (arith, rest)

-- the reader of a place is there, and knows of that place
pub record PlaceKnown (network : WorldState) (writer reader : Endpoint) (place : ℕ) : Type 0 where
  pub here : HasNumber (peer_at network reader.peer).part.dds.readers reader.number
  pub known : (tracked_at network writer reader).place ≡ place

pub place_known : {hearing : Hearing} → (kept : WorldKept hearing) (roster : Roster) (network : WorldState)
    (writer reader : Endpoint) (place : ℕ)
    → StandsFor kept roster network
    → place_at (machine_of network) reader writer ≡ Some place → PlaceKnown network writer reader place
place_known kept roster network writer reader place s at =
    let row : place_of (own_proxies (peer_at network reader.peer).part reader.number) writer ≡ Some place =
    sym (place_is network reader writer) ∙ at in
    let has = has_reader (peer_at network reader.peer).part reader.number place writer row in
    let c = core_at kept roster network reader.peer s (peer_there network.peers reader.peer reader.number has) in
    let rows = c.stands.readers.rows in
    let count = c.stands.readers.count in
    let low = has.0 in
    let high = has.1 in
    record {
      here = (omega (arith, low), omega (arith, high, rows, count));
      known = c.known.place writer reader.number
          place row;
    }

-- a writer has far fewer changes than there are numbers
pub few_changes : (core : PeerKept) (roster : Roster) (peer : Peer) (n : ℕ) → CoreStandsFor core roster peer
    → HasNumber peer.part.rtps.writers n → length (writer_changes (own_writer peer.part n)) < 2 ^ 62
few_changes core roster peer zero s has = let low = has.0 in absurd (omega (arith, low))
few_changes core roster peer (suc i) s has =
    let count = s.writers.count in
    let high = has.1 in
    let found = element core.writers i (omega (arith, count, high)) in
    let history = (s.writers.each i found.0 found.1).writer.history in
    let last = history.last in
    let few = history.few in
    omega (arith, last, few)

-- ---- one step

pub went : {hearing : Hearing} → {tests : AllTests} → (roster : Roster) (network : WorldState)
    (old : WorldKept hearing) (ev : WorldEvent)
    (reply : RoundReply) (new : WorldKept hearing) → IsStep tests old ev reply new → StandsFor old roster network
    → Went tests roster network old ev reply.reply new
went roster network old ev reply new step s = went_by roster network old ev reply.reply new step.rules s

-- the packets that were sent at it follow those before
pub sent_by : {hearing : Hearing} → {tests : AllTests}
    → (roster : Roster) (network : WorldState) (old : WorldKept hearing) (ev : WorldEvent) (reply : Reply) (lost : ℕ)
    (after : WorldState) (new : WorldKept hearing) → StandsFor old roster network
    → StandsFor new roster (world_ended network ev after)
    → (r : RuledStep roster tests network ev reply lost after) → new.sent ≡ old.sent ++ r.packets
sent_by roster network old ev reply lost after new s stands r =
    sym stands.sent ∙ (r.sent ∙ ap (λ (ps : List Packet). ps ++ r.packets) s.sent)

-- a tick for which memory was found is done
pub whole_tick : (tests : AllTests)
    → (roster : Roster) (old : WorldState) (peer now : ℕ) (reply : Reply) (new : WorldState) → is_whole reply ≡ true
    → WorldStep roster tests old (world.Tick peer now) reply new → reply ≡ Done
whole_tick tests roster old peer now Done new whole step = refl
whole_tick tests roster old peer now (Reported report) new whole (inl h) =
    let asked : ℕ → Bool = was_asked (peer_at old peer).known.answered (peer_at old peer).part in
    absurd (subst (λ (r : Reply). TicksAsked asked (peer_at old peer).part now r h.after.part) h.replies h.step.step.0)
whole_tick tests roster old peer now (Reported report) new whole (inr h) = let r = h.1.is_refused in absurd cc
whole_tick tests roster old peer now reply new whole step = absurd cc

-- a delivery for which memory was found is reported as whole
record WholeReport (reply : Reply) : Type 0 where
  report : Report
  is : reply ≡ Reported report
  none : report.refused ≡ None

not_some : (o : Option ℕ) → not (is_some o) ≡ true → o ≡ None
not_some None h = refl
not_some (Some n) h = absurd cc

whole_report : (tests : AllTests)
    → (roster : Roster) (old : WorldState) (peer k : ℕ) (reply : Reply) (new : WorldState) → is_whole reply ≡ true
    → WorldStep roster tests old (world.Deliver peer k) reply new → WholeReport reply
whole_report tests roster old peer k Done new whole (inl h) =
    absurd (subst (λ (r : Reply). EventStep roster (tests peer) (peer_at old peer)
    (event.Deliver h.0.bytes) r h.3.after) h.3.replies h.3.step.step)
whole_report tests roster old peer k Done new whole (inr h) = let r = h.1.is_refused in absurd cc
whole_report tests roster old peer k (Reported report) new whole step =
    record { report = report; is = refl; none = not_some report.refused whole }
whole_report tests roster old peer k reply new whole step = absurd cc

pub delivers : {hearing : Hearing} → {tests : AllTests}
    → (roster : Roster) (network : WorldState) (old : WorldKept hearing) (peer k : ℕ) (packet : Packet) (reply : Reply)
    (new : WorldKept hearing) → StandsFor old roster network → slice_get old.sent (k - 1) ≡ Some packet → is_whole reply ≡ true
    → (w : Went tests roster network old (world.Deliver peer k) reply new)
    → Delivers roster tests network peer packet w.step.lost w.after
delivers {tests} roster network old peer k packet reply new s at whole w =
    let r = whole_report tests roster network peer k reply w.after whole w.step.ruled.step in
    record {
      number = k;
      at = subst (λ (ps : List Packet). slice_get ps (k - 1) ≡ Some packet) (sym s.sent) at;
      report = r.report;
      whole = r.none;
      step =
          subst (λ (x : Reply). RuledStep roster tests network (world.Deliver peer k) x w.step.lost w.after) r.is
          w.step.ruled;
    }

-- ---- steps one after the other

pub both_are : (a b : Bool) → (a && b) ≡ true → (a ≡ true) × (b ≡ true)
both_are true b h = (refl, h)
both_are false b h = absurd cc

-- a run by the rules, and what is so after it
pub record Ran {hearing : Hearing} (tests : AllTests) (roster : Roster) (network : WorldState)
    (old : WorldKept hearing) (events : List WorldEvent)
    (replies : List RoundReply) (new : WorldKept hearing) (Then : WorldState → Type 0) : Type 0 where
  pub after : WorldState
  pub run : RuledRun roster tests network old.unsent events (replies_of replies) after new.unsent
  pub stands : StandsFor new roster after
  pub then : Then after

-- a run of no step
ran_none : {hearing : Hearing} → {tests : AllTests} → (roster : Roster) (network : WorldState)
    (old new : WorldKept hearing)
    {Then : WorldState → Type 0} → new ≡ old → StandsFor old roster network → Then network
    → Ran tests roster network old [] [] new Then
ran_none {hearing} roster network old new same s so = record {
  after = network;
  run = (refl, ap (λ (k : WorldKept hearing). k.unsent) same);
  stands = subst (λ (k : WorldKept hearing). StandsFor k roster network) (sym same) s;
  then = so;
}

pub ran : {hearing : Hearing} → {tests : AllTests} → (roster : Roster) (network : WorldState)
    (old : WorldKept hearing) (events : List WorldEvent)
    (replies : List RoundReply) (new : WorldKept hearing) → AreSteps tests old events replies new → StandsFor old roster network
    → Ran tests roster network old events replies new (λ x. Unit {0})
ran roster network old [] [] new same s = ran_none roster network old new same s tt
ran roster network old (e ∷ es) (r ∷ rs) new h s =
    let w = went roster network old e r h.0 h.1 s in
    let rest = ran roster (world_ended network e w.after) h.0 es rs new h.2 w.stands in
    record { after = rest.after; run = (w.after, h.0.unsent, w.step, rest.run); stands = rest.stands; then = tt }
ran roster network old [] (r ∷ rs) new h s = absurd h
ran roster network old (e ∷ es) [] new h s = absurd h

-- what is counted as unsent does not get less
no_less : (old lost new : ℕ) → new ≡ min (old + lost) (2 ^ 64 - 1) → old ≤ 2 ^ 64 - 1 → old ≤ new
no_less old lost new is few = omega (arith, is, few)

pub unsent_on : {hearing : Hearing} → (tests : AllTests)
    → (roster : Roster) (network : WorldState) (old : WorldKept hearing) (events : List WorldEvent) (replies : List RoundReply)
    (new : WorldKept hearing) → AreSteps tests old events replies new → StandsFor old roster network
    → old.unsent ≤ new.unsent
unsent_on {hearing} tests roster network old [] [] new same s = let e = ap (λ (k : WorldKept hearing). k.unsent) same in omega (arith, e)
unsent_on tests roster network old (e ∷ es) (r ∷ rs) new h s =
    let w = went roster network old e r h.0 h.1 s in
    let first = no_less old.unsent w.step.lost h.0.unsent w.step.counted s.few in
    let rest = unsent_on tests roster (world_ended network e w.after) h.0 es rs new h.2 w.stands in
    omega (arith, first, rest)
unsent_on tests roster network old [] (r ∷ rs) new h s = absurd h
unsent_on tests roster network old (e ∷ es) [] new h s = absurd h

-- memory was found for this step, and for those after it, and after it as many are counted as unsent as these
pub record FirstWhole {hearing : Hearing} (unsent : ℕ) (reply : RoundReply) (mid : WorldKept hearing)
    (replies : List RoundReply) : Type 0 where
  pub whole : is_whole reply.reply ≡ true
  pub rest : are_whole replies ≡ true
  pub same : mid.unsent ≤ unsent
  pub more : unsent ≤ mid.unsent

-- so it is with the first of steps that are whole, where no more are counted in the end
pub first_whole : {hearing : Hearing} → {tests : AllTests}
    → (roster : Roster) (network : WorldState) (old : WorldKept hearing) (ev : WorldEvent) (reply : RoundReply)
    (mid : WorldKept hearing) (events : List WorldEvent) (replies : List RoundReply) (new : WorldKept hearing) (unsent : ℕ)
    → IsStep tests old ev reply mid → AreSteps tests mid events replies new → StandsFor old roster network
    → are_whole (reply ∷ replies) ≡ true → new.unsent ≤ unsent → unsent ≤ old.unsent
    → FirstWhole unsent reply mid replies
first_whole {tests} roster network old ev reply mid events replies new unsent step steps s whole high low =
    let all = both_are (is_whole reply.reply) (are_whole replies) whole in
    let w = went roster network old ev reply mid step s in
    let first = no_less old.unsent w.step.lost mid.unsent w.step.counted s.few in
    let rest = unsent_on tests roster (ended w) mid events replies new steps w.stands in
    record {
      whole = all.0;
      rest = all.1;
      same = omega (arith, rest, high);
      more = omega (arith, first, low);
    }

-- where no reply counts more, no more are counted in the end
none_of : (a b : Bool) → (a || b) ≡ false → (a ≡ false) × (b ≡ false)
none_of true b h = absurd cc
none_of false b h = (refl, h)

pub unsent_shown : {hearing : Hearing} → (tests : AllTests)
    → (before : ℕ) (old : WorldKept hearing) (events : List WorldEvent) (replies : List RoundReply) (new : WorldKept hearing)
    → AreSteps tests old events replies new → old.unsent ≤ before → has_unsent before replies ≡ false
    → new.unsent ≤ before
unsent_shown {hearing} tests before old [] [] new same low none =
    let e = ap (λ (k : WorldKept hearing). k.unsent) same in omega (arith, e, low)
unsent_shown tests before old (e ∷ es) (r ∷ rs) new h low none =
    let parts = none_of (nat_lt before r.unsent) (has_unsent before rs) none in
    let here = parts.0 in
    let counted = h.1.unsent in
    unsent_shown tests before h.0 es rs new h.2 (grind (arith, nat_tests, here, counted)) parts.1
unsent_shown tests before old [] (r ∷ rs) new h low none = absurd h
unsent_shown tests before old (e ∷ es) [] new h low none = absurd h

-- where it stays below its greatest value nothing is lost
pub none_lost : (old lost new : ℕ) → new ≡ min (old + lost) (2 ^ 64 - 1) → new ≤ old → old < 2 ^ 64 - 1 → lost ≡ 0
none_lost old lost new is same few = omega (arith, is, same, few)

-- packets are delivered in turn, with memory for all of them
pub deliver_all : {hearing : Hearing} → {tests : AllTests}
    → (roster : Roster) (peer first : ℕ) (packets : List Packet) (network : WorldState) (old : WorldKept hearing)
    (replies : List RoundReply) (new : WorldKept hearing) → 1 ≤ first
    → ((k : ℕ) (p : Packet) → slice_get packets k ≡ Some p → slice_get old.sent (first + k - 1) ≡ Some p)
    → are_whole replies ≡ true
    → AreSteps tests old (map (λ k. world.Deliver peer k) (numbers_from first (length packets))) replies new
    → StandsFor old roster network
    → Ran tests roster network old (map (λ k. world.Deliver peer k) (numbers_from first (length packets))) replies new
    (λ x. DeliversAll roster tests network peer packets x)
deliver_all roster peer first [] network old [] new low there whole same s =
    ran_none roster network old new same s refl
deliver_all roster peer first [] network old (r ∷ rs) new low there whole h s = absurd h
deliver_all roster peer first (p ∷ ps) network old [] new low there whole h s = absurd h
deliver_all roster peer first (p ∷ ps) network old (r ∷ rs) new low there whole h s =
    let w = went roster network old (world.Deliver peer first) r h.0 h.1 s in
    let all = both_are (is_whole r.reply) (are_whole rs) whole in
    let here : first + 0 - 1 ≡ first - 1 = omega arith in
    let at : slice_get old.sent (first - 1) ≡ Some p =
    subst (λ (i : ℕ). slice_get old.sent i ≡ Some p) here (there 0 p refl) in
    let later : (k : ℕ) (q : Packet) → slice_get ps k ≡ Some q → slice_get h.0.sent (first + 1 + k - 1) ≡ Some q =
    λ k q is.
    let next : first + suc k - 1 ≡ first + 1 + k - 1 = omega arith in
    subst (λ (i : ℕ). slice_get h.0.sent i ≡ Some q) next
    (subst (λ (xs : List Packet). slice_get xs (first + suc k - 1) ≡ Some q)
    (sym (sent_by roster network old
    (world.Deliver peer first) r.reply w.step.lost w.after h.0 s w.stands w.step.ruled))
    (slice_get-append old.sent w.step.ruled.packets (first + suc k - 1) q (there (suc k) q is))) in
    let rest =
    deliver_all roster peer (first + 1) ps (world_ended network (world.Deliver peer first) w.after) h.0 rs new
    (omega (arith, low)) later all.1 h.2 w.stands in
    record {
      after = rest.after;
      run = (w.after, h.0.unsent, w.step, rest.run);
      stands = rest.stands;
      then = (w.after, w.step.lost, delivers roster network old peer first p r.reply h.0 s at all.0 w, rest.then);
    }

-- ---- no place goes back

places_on : (roster : Roster) (tests : AllTests) (old : WorldState) (ev : WorldEvent) (reply : Reply) (new : WorldState)
    → WorldStep roster tests old ev reply new → (r w : Endpoint)
    → NoLess (place_at (machine_of old) r w) (place_at (machine_of new) r w)
places_on roster tests old (world.Call peer call) reply new step r w =
    ⊎_elim (λ p. (steps_stays roster (tests peer) old peer (event.Call call) reply new p).grows.places r w)
    (λ x. (stays_same roster old peer new x.1.after).grows.places r w) step
places_on roster tests old (world.Tick peer now) reply new step r w =
    ⊎_elim (λ p. (steps_stays roster (tests peer) old peer (event.Tick now) reply new p).grows.places r w)
    (λ x. (stays_same roster old peer new x.1.after).grows.places r w) step
places_on roster tests old (world.Deliver peer k) reply new step r w =
    ⊎_elim (λ p. (steps_stays roster (tests peer) old peer (event.Deliver p.0.bytes) reply new p.3).grows.places r w)
    (λ x. (stays_same roster old peer new x.1.after).grows.places r w) step
places_on roster tests old (world.Resume peer reader) reply new step r w =
    ⊎_elim (λ p. (steps_stays roster (tests peer) old peer (event.Resume reader) reply new p).grows.places r w)
    (λ x. (stays_same roster old peer new x.1.after).grows.places r w) step

pub places_after : (roster : Roster) (tests : AllTests) (old : WorldState) (first : ℕ) (events : List WorldEvent)
    (replies : List Reply) (new : WorldState) (last : ℕ)
    → RuledRun roster tests old first events replies new last → (r w : Endpoint)
    → NoLess (place_at (machine_of old) r w) (place_at (machine_of new) r w)
places_after roster tests old first [] [] new last run r w =
    subst (λ (x : WorldState). NoLess (place_at (machine_of old) r w) (place_at (machine_of x) r w)) (sym run.0)
    (no_less_same (place_at (machine_of old) r w))
places_after roster tests old first (e ∷ es) (reply ∷ replies) new last run r w =
    no_less_on (place_at (machine_of old) r w) (place_at (machine_of run.0) r w) (place_at (machine_of new) r w)
    (places_on roster tests old e reply run.0 run.2.ruled.step r w)
    (subst (λ (o : Option ℕ). NoLess o (place_at (machine_of new) r w))
    (beside_place run.0 (world_ended old e run.0) (world_beside old e run.0) r w)
    (places_after roster tests (world_ended old e run.0) run.1 es replies new last run.3 r w))
places_after roster tests old first [] (reply ∷ replies) new last run r w = absurd run
places_after roster tests old first (e ∷ es) [] new last run r w = absurd run

-- ---- packets that were sent at a step

-- one from this index on is among those that follow
pub later_packet : (old packets : List Packet) (i : ℕ) (p : Packet) → length old ≤ i
    → slice_get (old ++ packets) i ≡ Some p → Contains packets p
later_packet [] packets i p low at = contains_at packets i p at
later_packet (x ∷ old) packets zero p low at = absurd (omega (arith, low))
later_packet (x ∷ old) packets (suc i) p low at = later_packet old packets i p (omega (arith, low)) at

-- and each of them has such an index
pub packet_later : (old packets : List Packet) (p : Packet) → Contains packets p
    → (i : ℕ) × (length old ≤ i) × (i < length (old ++ packets)) × (slice_get (old ++ packets) i ≡ Some p)
packet_later [] packets p h = place packets h
  where
    place : (ps : List Packet) → Contains ps p → (i : ℕ) × (0 ≤ i) × (i < length ps) × (slice_get ps i ≡ Some p)
    place [] h = let lt = h.1 in absurd (omega (arith, lt))
    place (q ∷ qs) h =
        ⊎_elim (λ e. (0, omega arith, omega arith, ap (λ (x : Packet). Some x) e))
        (λ later. let r = place qs later in let lt = r.2 in (suc r.0, omega arith, omega (arith, lt), r.3))
        (front_or_rest q qs p h.0 h.1 h.2)
packet_later (x ∷ old) packets p h =
    let r = packet_later old packets p h in let low = r.1 in let lt = r.2 in
    (suc r.0, omega (arith, low), omega (arith, lt), r.3)

-- so a packet of them that is looked for is found
pub among_none : (Is : Packet → Type 0) (old packets new : List Packet) (p : Packet) → new ≡ old ++ packets
    → Contains packets p → Is p → HasNone Is new (length old) (length new) → ⊥
among_none Is old packets new p is among has none =
    let r = packet_later old packets p among in
    let low = r.1 in
    let lt = r.2 in
    let size = ap (λ (ps : List Packet). length ps) is in
    let back : r.0 ≡ r.0 + 1 - 1 = omega arith in
    let at : slice_get new (r.0 + 1 - 1) ≡ Some p =
    subst (λ (i : ℕ). slice_get new i ≡ Some p) back
    (subst (λ (ps : List Packet). slice_get ps r.0 ≡ Some p) (sym is) r.3) in
    none (r.0 + 1) p (omega (arith, low)) (omega (arith, lt, size)) (omega arith, at) has

-- one of those that follow has its index after the others
pub get_later : (old packets : List Packet) (k : ℕ) (p : Packet) → slice_get packets k ≡ Some p
    → slice_get (old ++ packets) (length old + k) ≡ Some p
get_later [] packets k p h =
    let same : k ≡ 0 + k = omega arith in subst (λ (i : ℕ). slice_get packets i ≡ Some p) same h
get_later (x ∷ old) packets k p h =
    let next : suc (length old + k) ≡ suc (length old) + k = omega arith in
    subst (λ (i : ℕ). slice_get (x ∷ old ++ packets) i ≡ Some p) next (get_later old packets k p h)
