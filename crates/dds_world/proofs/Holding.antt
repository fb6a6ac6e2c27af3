-- A network whose peers have filters and listeners: what it keeps of each, its events, and a filter or a listener more.
use Rattle.std.proofs.Common.{None, ◌≡◌, ℕ, zero, suc, ◌+◌, ◌<◌, Bool, false, List, [], ◌∷◌, ◌++◌, Option, Some, map, set, length, get_or, slice_get, refl, ap, sym, ◌∙◌, subst, inr, arith}
use Rattle.std.specs.Prelude.{IfOk, IfErr, OnErr, Ok, Err, Result, ◌&&◌, if◌then◌else◌, nat_lt, nat_le}
use Rattle.std.proofs.lemmas.Bool.{ne_eqb}
use Rattle.std.proofs.lemmas.List.{length-map, map-set, set-get_or}
use Rattle.std.proofs.lemmas.Option.{slice_get-get_or}
use Rattle.dds_base.specs.declared.code.Code.{Code}
use Rattle.dds_base.specs.declared.code.Code.TheVariants.{BadParameter}
use Rattle.dds_protocol.specs.Roster.{Roster, roster_of}
use Rattle.dds_base.specs.declared.entity.Entity.{Entity}
use Rattle.dds_base.specs.declared.key.Key.{Key}
use Rattle.dds_base.proofs.OwnerLaws.{eqb-refl}
use Rattle.dds_base.specs.Refusal.{Refuses}
use Rattle.dds_conditions.specs.Filtered.{tests_of}
use Rattle.dds_conditions.specs.Watched.{filter_refusal}
use Rattle.dds_notices.specs.declared.mask.StatusMask.{StatusMask}
use Rattle.dds_notices.specs.declared.notice.Notice.{Notice}
use Rattle.dds_notices.specs.Listeners.{ByEntity, HandedBack, Place, Slotted, StandsFor as SlotsStandFor, at_entity, listener_place, listener_refusal, with_entity}
use Rattle.dds_protocol.specs.declared.event.Event.{Event}
use Rattle.dds_protocol.specs.declared.event.Event.TheVariants as event
use Rattle.dds_machine.specs.declared.event.WorldEvent.{WorldEvent}
use Rattle.dds_machine.specs.declared.event.WorldEvent.TheVariants as world
use Rattle.dds_protocol.specs.declared.event.Output.{Output}
use Rattle.dds_protocol.specs.declared.event.Packet.{Packet}
use Rattle.dds_machine.specs.declared.reply.Reply.{Reply}
use Rattle.dds_machine.specs.declared.reply.Reply.TheVariants.{Refused}
use Rattle.dds_machine.specs.Filters.{machine_with_filter, part_with_filter}
use Rattle.dds_machine.specs.Noticing.{machine_with_place, part_with_place}
use Rattle.dds_machine.specs.Numbered.{with_numbered}
use Rattle.dds_machine.specs.Part.{Part}
use Rattle.dds_protocol.specs.Filters.{peer_with_filter, world_with_filter}
use Rattle.dds_machine.specs.Machine.{AllTests, Machine, part_at}
use Rattle.dds_protocol.specs.Noticing.{peer_with_place, world_with_place}
use Rattle.dds_protocol.specs.Peer.{Peer, no_peer}
use Rattle.dds_machine.specs.Watching.{Tests}
use Rattle.dds_protocol.specs.World.{WorldState, machine_of, peer_at}
use Rattle.dds_machine.proofs.Tables.{map-with_numbered, numbered-map}
use Rattle.dds_protocol.proofs.Composed.{parts_at}
use Rattle.dds_protocol.proofs.SameBeside.{SameBeside, bounded_beside, filter_beside, place_beside, sound_beside, used_beside}
use Rattle.dds_core.specs.Kept.{PeerKept}
use Rattle.dds_core.specs.Listening.{Adds as CoreAdds, CoreKept, RefusesFilter as CoreRefuses, RefusesListener as CoreRefusesListener, Sets as CoreSets, StandsFor as CoreStands, Steps as CoreSteps}
use Rattle.dds_ends.specs.Sending.{AreMessages}
use Rattle.dds_core.specs.Ruling.{IsSound}
use Rattle.dds_ends.proofs.Lists.{map-get, map-set_same}
use Rattle.dds_ends.proofs.Results.{err_as, ok_as}
use Rattle.dds_world.specs.Acting.{Acts, Counts, IsQuiet, RuledSteps, StepsAt}
use Rattle.dds_world.specs.Holding.{Adds, Held, RefusesFilter, RefusesListener, Sets, filters_of, given_at, heard, kept_of, tests_by, tests_in}
use Rattle.dds_world.specs.HeldSteps.{ActsIn, IsOfPeer, StepsIn}
use Rattle.dds_world.specs.WorldStanding.{StandsFor}
use Rattle.dds_world.specs.Posting.{Announces, Posts}
use Rattle.dds_world.proofs.Replaced.{peer_stands, with_peer}
use Rattle.dds_world.proofs.Ruled.{called, delivered, resumed, ticked}
use Rattle.dds_world.proofs.Sends.{called_sends, delivered_sends, refused_delivery_sends, refused_call_sends, refused_resume_sends, refused_tick_sends, resumed_sends, ticked_sends}
use Rattle.dds_world.proofs.WorldSteps.{unknown_call, unknown_delivery, unknown_packet, unknown_resume, unknown_tick}

-- ---- the machine that the peers of a network are the parts of, once one of them has another filter, or listener

machine_filtered : (network : WorldState) (peer : ℕ)
    → machine_of (world_with_filter network peer) ≡ machine_with_filter (machine_of network) peer
machine_filtered network peer =
    ap (λ (ps : List Part). let m : Machine = record { parts = ps } in m)
    (map-with_numbered (λ (p : Peer). p.part) network.peers peer (peer_with_filter (peer_at network peer))
    ∙ ap (λ (q : Part). with_numbered (machine_of network).parts peer (part_with_filter q))
    (sym (parts_at network peer)))

machine_placed : (network : WorldState) (peer : ℕ) (entity : Entity) (place : Option Place)
    → machine_of (world_with_place network peer entity place) ≡ machine_with_place (machine_of network) peer entity place
machine_placed network peer entity place =
    ap (λ (ps : List Part). let m : Machine = record { parts = ps } in m)
    (map-with_numbered (λ (p : Peer). p.part) network.peers peer
    (peer_with_place (peer_at network peer) entity place)
    ∙ ap (λ (q : Part). with_numbered (machine_of network).parts peer (part_with_place q entity place))
    (sym (parts_at network peer)))

-- the peer of an index, among those that are kept
pub core_kept : {F L : Type 0} (notices : L → List Notice) (capacity : L → ℕ) (becomes : L → Notice → L → Type 0)
    (given : ℕ → ByEntity L) (inside held : Held F L) (i count : ℕ)
    (core : CoreKept F L) → inside ≡ held → core ≡ get_or inside.cores i core
    → count ≡ length held.cores → i < count → slice_get (kept_of notices capacity becomes given held).peers i
    ≡ Some core.filtered.peer
core_kept {F} {L} notices capacity becomes given inside held i count core same here counted low =
    let f : CoreKept F L → PeerKept = λ c. c.filtered.peer in
    let mapped = length-map held.cores f in
    let within : i < length (map f held.cores) = omega (arith, counted, mapped, low) in
    slice_get-get_or (map f held.cores) i core.filtered.peer within
    ∙ ap (λ (p : PeerKept). Some p) (numbered-map f held.cores (suc i) core
    ∙ ap f (ap (λ (h : Held F L). get_or h.cores i core) (sym same) ∙ sym here))

-- a value that is seen of each peer, at an index
seen_at : {F L X : Type 0} (f : CoreKept F L → X) (cores : List (CoreKept F L)) (i : ℕ) (core : CoreKept F L) (d : X)
    → i < length cores → core ≡ get_or cores i core
    → get_or (map f cores) i d ≡ f core
seen_at f [] i core d low here = absurd (omega (arith, low))
seen_at f (c ∷ cs) zero core d low here = ap f (sym here)
seen_at f (c ∷ cs) (suc i) core d low here = seen_at f cs i core d (omega (arith, low)) here

module _ {F L : Type 0} (notices : L → List Notice) (capacity : L → ℕ) (becomes : L → Notice → L → Type 0) where
  -- a state of the network is one of its peer
  core_stands : (given : ℕ → ByEntity L) (held : Held F L) (i : ℕ) (core : CoreKept F L) (roster : Roster) (network : WorldState)
      → i < length held.cores → core ≡ get_or held.cores i core
      → StandsFor (kept_of notices capacity becomes given held) roster network
      → CoreStands notices capacity becomes (given (suc i)) core roster (get_or network.peers i no_peer)
  core_stands given held i core roster network low here s =
      let at : slice_get held.cores i ≡ Some core =
      slice_get-get_or held.cores i core low ∙ ap (λ (c : CoreKept F L). Some c) (sym here) in
      record {
        stands = record {
          stands = s.each i core.filtered.peer (map-get (λ (c : CoreKept F L). c.filtered.peer) held.cores i core at);
          filters =
              s.filters i ∙ seen_at (λ (c : CoreKept F L). length c.filtered.filters) held.cores i core 0 low here;
        };
        listeners = s.listeners i core.listeners
            (map-get (λ (c : CoreKept F L). c.listeners) held.cores i core at);
      }

  -- ---- an event of a peer

  -- its step, by what is kept of it
  core_steps : (given : ByEntity L) (tests : Tests) (core : CoreKept F L) (ev : Event) (output : Output) (after : CoreKept F L) (count : ℕ)
      → count ≡ length core.filtered.filters
      → CoreSteps notices capacity becomes tests core ev output after
      → StepsAt tests core.filtered.peer count
      (λ places. SlotsStandFor notices capacity becomes given core.listeners places) ev output after.filtered.peer
      (λ places. SlotsStandFor notices capacity becomes given after.listeners places)
  core_steps given tests core ev output after count counted h roster peer s filters told sound met =
      let before : CoreStands notices capacity becomes given core roster peer = record {
        stands = record { stands = s; filters = filters ∙ counted };
        listeners = told;
      } in
      let r = h.step given roster peer before sound met in (
        r.0,
        r.1,
        r.2,
        r.3.stands.stands,
        r.3.stands.filters ∙ (ap (λ (fs : List F). length fs) h.filters ∙ sym counted),
        r.3.listeners,
        r.4,
      )

  -- it is one of the network
  pub acts_in : (meaning : F → Key → List ℕ → Bool) (old : Held F L) (i : ℕ) (ev : Event) (core after : CoreKept F L)
      (output : Output) (reply : Reply) (new : Held F L)
      → i < length old.cores → core ≡ get_or old.cores i core
      → CoreSteps notices capacity becomes (tests_of meaning core.filtered.filters) core ev output after
      → AreMessages output.packets → reply ≡ output.reply
      → new.cores ≡ set old.cores i after → Posts old.sent output.packets new.sent
      → ((given : ℕ → ByEntity L) → Counts (kept_of notices capacity becomes given old) output
      (kept_of notices capacity becomes given new))
      → ((given : ℕ → ByEntity L) → IsQuiet (kept_of notices capacity becomes given old) output
      (kept_of notices capacity becomes given new))
      → ActsIn meaning notices capacity becomes old i ev reply new
  acts_in meaning old i ev core after output reply new low here steps messages replies cores posts counts quiet =
      let f : CoreKept F L → PeerKept = λ c. c.filtered.peer in
      let g : CoreKept F L → ℕ = λ c. length c.filtered.filters in
      let h : CoreKept F L → List F = λ c. c.filtered.filters in
      let k : CoreKept F L → Slotted L = λ c. c.listeners in
      let at : slice_get old.cores i ≡ Some core =
      slice_get-get_or old.cores i core low ∙ ap (λ (c : CoreKept F L). Some c) (sym here) in
      let own : CoreSteps notices capacity becomes (tests_in meaning old (suc i)) core ev output after =
      subst (λ (fs : List F). CoreSteps notices capacity becomes (tests_of meaning fs) core ev output after)
      (sym (seen_at h old.cores i core [] low here)) steps in
      record {
        acts = λ given. record {
          acts = record {
            core = core.filtered.peer;
            at = map-get f old.cores i core at;
            output = output;
            slots = k core;
            slots_at = map-get k old.cores i core at;
            after = after.filtered.peer;
            left = k after;
            steps =
                core_steps (given (suc i)) (tests_in meaning old (suc i)) core ev output after (get_or (map g old.cores) i 0)
                (seen_at g old.cores i core 0 low here) own;
            messages = messages;
            replies = replies;
            peers = ap (λ (cs : List (CoreKept F L)). map f cs) cores ∙ map-set f old.cores i after;
            filters =
                ap (λ (cs : List (CoreKept F L)). map g cs) cores
                ∙ map-set_same g old.cores i core after at (ap (λ (fs : List F). length fs) steps.filters);
            listeners = ap (λ (cs : List (CoreKept F L)). map k cs) cores ∙ map-set k old.cores i after;
            posts = posts;
          };
          counts = counts given;
          quiet = quiet given;
        };
        filters =
            ap (λ (cs : List (CoreKept F L)). map h cs) cores ∙ map-set_same h old.cores i core after at steps.filters;
      }

  -- the same by what the network has inside
  pub acts_of : (meaning : F → Key → List ℕ → Bool) (kept old : Held F L) → kept ≡ old → (i : ℕ) (ev : Event)
      (core after : CoreKept F L) (output : Output) (reply : Reply) (new : Held F L)
      → i < length old.cores → core ≡ get_or kept.cores i core
      → CoreSteps notices capacity becomes (tests_of meaning core.filtered.filters) core ev output after
      → AreMessages output.packets → reply ≡ output.reply
      → new.cores ≡ set kept.cores i after → Posts kept.sent output.packets new.sent
      → ((given : ℕ → ByEntity L) → Counts (kept_of notices capacity becomes given kept) output
      (kept_of notices capacity becomes given new))
      → ((given : ℕ → ByEntity L) → IsQuiet (kept_of notices capacity becomes given kept) output
      (kept_of notices capacity becomes given new))
      → ActsIn meaning notices capacity becomes old i ev reply new
  acts_of meaning kept old same i ev core after output reply new low here steps messages replies cores posts counts
      quiet =
      let count = ap (λ (k : Held F L). length k.cores) same in
      let within : i < length kept.cores = omega (arith, low, count) in
      subst (λ (k : Held F L). ActsIn meaning notices capacity becomes k i ev reply new) same
      (acts_in meaning kept i ev core after output reply new within here steps messages replies cores posts counts quiet)

  -- ---- another filter, or another listener, at a peer

  -- a value at each index of a list of counts, of which one is another
  count_set : (cores : List (CoreKept F L)) (peers : List Peer) (i : ℕ) (after : CoreKept F L) (p : Peer)
      → length peers ≡ length cores → p.part.dds.watch.filters ≡ length after.filtered.filters
      → ((j : ℕ) → (get_or peers j no_peer).part.dds.watch.filters
      ≡ get_or (map (λ (c : CoreKept F L). length c.filtered.filters) cores) j 0)
      → (j : ℕ) → (get_or (set peers i p) j no_peer).part.dds.watch.filters
      ≡ get_or (map (λ (c : CoreKept F L). length c.filtered.filters) (set cores i after)) j 0
  count_set [] [] i after p count is each j = each j
  count_set [] (q ∷ qs) i after p count is each j = absurd (omega (arith, count))
  count_set (c ∷ cs) [] i after p count is each j = absurd (omega (arith, count))
  count_set (c ∷ cs) (q ∷ qs) zero after p count is each zero = is
  count_set (c ∷ cs) (q ∷ qs) zero after p count is each (suc j) = each (suc j)
  count_set (c ∷ cs) (q ∷ qs) (suc i) after p count is each zero = each zero
  count_set (c ∷ cs) (q ∷ qs) (suc i) after p count is each (suc j) =
      count_set cs qs i after p (omega (arith, count)) is (λ k. each (suc k)) j

  -- the network stands for the state with that peer, which is alike
  stands_with : (given later : ℕ → ByEntity L) (old : Held F L) (i : ℕ) (after : CoreKept F L) (new : Held F L) (roster : Roster)
      (network : WorldState) (p : Peer) → new ≡ record old { cores = set old.cores i after }
      → StandsFor (kept_of notices capacity becomes given old) roster network → CoreStands notices capacity becomes (later (suc i)) after roster p
      → ((j : ℕ) → (j ≡ i → ⊥) → later (suc j) ≡ given (suc j))
      → IsSound roster p
      → SameBeside network (with_peer network i p network.sent)
      → StandsFor (kept_of notices capacity becomes later new) roster (with_peer network i p network.sent)
  stands_with given later old i after new roster network p same s stands others known beside =
      let f : CoreKept F L → PeerKept = λ c. c.filtered.peer in
      let g : CoreKept F L → ℕ = λ c. length c.filtered.filters in
      let k : CoreKept F L → Slotted L = λ c. c.listeners in
      let cores = ap (λ (x : Held F L). x.cores) same in
      let sent = ap (λ (x : Held F L). x.sent) same in
      let unsent = ap (λ (x : Held F L). x.unsent) same in
      let counted : length network.peers ≡ length old.cores = s.count ∙ length-map old.cores f in
      let few = s.few in
      peer_stands (heard notices capacity becomes given).stands (heard notices capacity becomes later).stands
      (kept_of notices capacity becomes given old) (kept_of notices capacity becomes later new) roster network i
      after.filtered.peer
      (k after) p network.sent s
      (ap (λ (cs : List (CoreKept F L)). map f cs) cores ∙ map-set f old.cores i after)
      (ap (λ (cs : List (CoreKept F L)). map k cs) cores ∙ map-set k old.cores i after)
      (λ j slots places other. subst (λ (g : ByEntity L). SlotsStandFor notices capacity becomes g slots places)
      (sym (others j other)))
      (λ j. count_set old.cores network.peers i after p counted stands.stands.filters s.filters j
      ∙ ap (λ (cs : List (CoreKept F L)). get_or (map g cs) j 0) (sym cores))
      stands.stands.stands stands.listeners known
      (s.sent ∙ sym sent) (subst (λ ps. AreMessages ps) (sym sent) s.messages) (omega (arith, few, unsent))
      (sound_beside roster network (with_peer network i p network.sent) beside s.sound)
      (used_beside roster network (with_peer network i p network.sent) beside s.used)
      (bounded_beside network (with_peer network i p network.sent) beside s.bounded)

  -- a filter more
  adds_at : (old : Held F L) (i peer : ℕ) (filter : F) (number : ℕ) (core after : CoreKept F L) (new : Held F L)
      → peer ≡ i + 1 → i < length old.cores → core ≡ get_or old.cores i core
      → new ≡ record old { cores = set old.cores i after } → CoreAdds notices capacity becomes core filter number after
      → Adds notices capacity becomes old peer filter number new
  adds_at old i peer filter number core after new is low here same a =
      let h : CoreKept F L → List F = λ c. c.filtered.filters in
      let next : suc i ≡ peer = omega (arith, is) in
      let own = seen_at h old.cores i core [] low here in
      let whole : (given : ℕ → ByEntity L) (roster : Roster) (network : WorldState)
      → StandsFor (kept_of notices capacity becomes given old) roster network
      → StandsFor (kept_of notices capacity becomes given new) roster (world_with_filter network (suc i)) =
      λ given roster network s.
      let r = a.adds (given (suc i)) roster (get_or network.peers i no_peer)
      (core_stands given old i core roster network low here s) in
      let known =
      r.3 (s.known i core.filtered.peer
      (core_kept notices capacity becomes given old old i (length old.cores) core refl here refl low)) in
      stands_with given given old i after new roster network
      (peer_with_filter (get_or network.peers i no_peer)) same s r.2 (λ j other. refl) known
      (filter_beside network (suc i)) in
      let here_is : Adds notices capacity becomes old (suc i) filter number new = record {
        within = (omega arith, omega (arith, low));
        filters = ap (λ (x : Held F L). map h x.cores) same
            ∙ (map-set h old.cores i after ∙ ap (λ (fs : List F). set (filters_of old) i fs)
            (a.filters ∙ ap (λ (fs : List F). fs ++ filter ∷ []) (sym own)));
        sent = ap (λ (x : Held F L). x.sent) same;
        unsent = ap (λ (x : Held F L). x.unsent) same;
        adds = λ given config m stands.
            let roster = roster_of config in
            let network = stands.0 in
            let s = stands.2 in
            let r = a.adds (given (suc i)) roster (get_or network.peers i no_peer)
            (core_stands given old i core roster network low here s) in (
              subst (λ (x : Machine). filter_refusal (part_at x (suc i)).dds.watch ≡ None) stands.1
                  (ap (λ (q : Part). filter_refusal q.dds.watch) (parts_at network (suc i)) ∙ r.0),
              r.1 ∙ ap (λ (fs : List F). length fs + 1) (sym own),
              (
                world_with_filter network (suc i),
                machine_filtered network (suc i) ∙ ap (λ (x : Machine). machine_with_filter x (suc i)) stands.1,
                whole given roster network s,
              ),
            );
        rules = whole;
      } in
      subst (λ (n : ℕ). Adds notices capacity becomes old n filter number new) next here_is

  -- no filter more
  refused_at : (old : Held F L) (i peer : ℕ) (core : CoreKept F L) (code : Code) → peer ≡ i + 1 → i < length old.cores
      → core ≡ get_or old.cores i core
      → CoreRefuses notices capacity becomes core code → RefusesFilter notices capacity becomes old peer code
  refused_at old i peer core code is low here refused =
      let next : suc i ≡ peer = omega (arith, is) in
      subst (λ (n : ℕ). RefusesFilter notices capacity becomes old n code) next
      (inr (
        (omega arith, omega (arith, low)),
        λ given config m stands. subst (λ (x : Machine). Refuses (filter_refusal (part_at x (suc i)).dds.watch) code) stands.1
            (subst (λ (q : Part). Refuses (filter_refusal q.dds.watch) code) (sym (parts_at stands.0 (suc i)))
            (refused (given (suc i)) (roster_of config) (get_or stands.0.peers i no_peer)
            (core_stands given old i core (roster_of config) stands.0 low here stands.2))),
      ))

  -- another listener, or none
  sets_at : (old : Held F L) (i peer : ℕ) (entity : Entity) (mask : StatusMask) (listener handed : Option L)
      (core after : CoreKept F L) (new : Held F L) → peer ≡ i + 1 → i < length old.cores
      → core ≡ get_or old.cores i core → new ≡ record old { cores = set old.cores i after }
      → CoreSets notices capacity becomes core entity mask listener handed after
      → Sets notices capacity becomes old peer entity mask listener handed new
  sets_at old i peer entity mask listener handed core after new is low here same a =
      let h : CoreKept F L → List F = λ c. c.filtered.filters in
      let next : suc i ≡ peer = omega (arith, is) in
      let at : slice_get old.cores i ≡ Some core =
      slice_get-get_or old.cores i core low ∙ ap (λ (c : CoreKept F L). Some c) (sym here) in
      let place = listener_place capacity mask listener in
      let later : (ℕ → ByEntity L) → ℕ → ByEntity L = λ given number. given_at given (suc i) entity listener number in
      let own : (given : ℕ → ByEntity L) → later given (suc i) ≡ with_entity (given (suc i)) entity listener =
      λ given. ap (λ (b : Bool). if b then with_entity (given (suc i)) entity listener else given (suc i))
      (eqb-refl (suc i)) in
      let others : (given : ℕ → ByEntity L) (j : ℕ) → (j ≡ i → ⊥) → later given (suc j) ≡ given (suc j) =
      λ given j other. ap (λ (b : Bool). if b then with_entity (given (suc j)) entity listener else given (suc j))
      (ne_eqb (suc j) (suc i) (λ same. other (omega (arith, same)))) in
      let whole : (given : ℕ → ByEntity L) (roster : Roster) (network : WorldState)
      → StandsFor (kept_of notices capacity becomes given old) roster network
      → StandsFor (kept_of notices capacity becomes (later given) new) roster
      (world_with_place network (suc i) entity place) =
      λ given roster network s.
      let r = a.sets (given (suc i)) roster (get_or network.peers i no_peer)
      (core_stands given old i core roster network low here s) in
      let known =
      r.3 (s.known i core.filtered.peer
      (core_kept notices capacity becomes given old old i (length old.cores) core refl here refl low)) in
      stands_with given (later given) old i after new roster network
      (peer_with_place (get_or network.peers i no_peer) entity place) same s
      (subst (λ (g : ByEntity L). CoreStands notices capacity becomes g after roster
      (peer_with_place (get_or network.peers i no_peer) entity place)) (sym (own given)) r.2) (others given) known
      (place_beside network (suc i) entity place) in
      let here_is : Sets notices capacity becomes old (suc i) entity mask listener handed new = record {
        within = (omega arith, omega (arith, low));
        filters = ap (λ (x : Held F L). map h x.cores) same ∙ map-set_same h old.cores i core after at a.filters;
        sent = ap (λ (x : Held F L). x.sent) same;
        unsent = ap (λ (x : Held F L). x.unsent) same;
        sets = λ given config m stands.
            let roster = roster_of config in
            let network = stands.0 in
            let s = stands.2 in
            let r = a.sets (given (suc i)) roster (get_or network.peers i no_peer)
            (core_stands given old i core roster network low here s) in (
              subst (λ (x : Machine). listener_refusal notices (part_at x (suc i)).dds.listeners entity listener
                  ≡ None) stands.1
                  (ap (λ (q : Part). listener_refusal notices q.dds.listeners entity listener)
                  (parts_at network (suc i)) ∙ r.0),
              subst (λ (x : Machine). HandedBack notices capacity becomes (at_entity (given (suc i)) entity) handed
                  (at_entity (part_at x (suc i)).dds.listeners entity)) stands.1
                  (subst (λ (q : Part). HandedBack notices capacity becomes (at_entity (given (suc i)) entity) handed (at_entity q.dds.listeners entity))
                  (sym (parts_at network (suc i))) r.1),
              (
                world_with_place network (suc i) entity place,
                machine_placed network (suc i) entity place
                    ∙ ap (λ (x : Machine). machine_with_place x (suc i) entity place) stands.1,
                whole given roster network s,
              ),
            );
        rules = whole;
      } in
      subst (λ (n : ℕ). Sets notices capacity becomes old n entity mask listener handed new) next here_is

  unset_at : (old : Held F L) (i peer : ℕ) (entity : Entity) (listener : Option L) (core : CoreKept F L) (code : Code)
      → peer ≡ i + 1 → i < length old.cores → core ≡ get_or old.cores i core
      → CoreRefusesListener notices capacity becomes core entity listener code
      → RefusesListener notices capacity becomes old peer entity listener code
  unset_at old i peer entity listener core code is low here refused =
      let next : suc i ≡ peer = omega (arith, is) in
      subst (λ (n : ℕ). RefusesListener notices capacity becomes old n entity listener code) next
      (inr (
        (omega arith, omega (arith, low)),
        λ given config m stands. subst (λ (x : Machine).
            listener_refusal notices (part_at x (suc i)).dds.listeners entity listener ≡ Some code) stands.1
            (ap (λ (q : Part). listener_refusal notices q.dds.listeners entity listener)
            (parts_at stands.0 (suc i))
            ∙ refused (given (suc i)) (roster_of config) (get_or stands.0.peers i no_peer)
            (core_stands given old i core (roster_of config) stands.0 low here stands.2)),
      ))

  -- an index below the number of peers is one of those that are kept
  below_count : (old now : Held F L) (i count : ℕ) → old ≡ now → i < count → count ≡ length now.cores
      → i < length old.cores
  below_count old now i count view low counted =
      let same = ap (λ (k : Held F L). length k.cores) view in omega (arith, same, low, counted)

  -- what a peer answers is what its network does, which is open
  pub add_at : (old now : Held F L) (i peer count : ℕ) (filter : F) (core after : CoreKept F L)
      (result : Result ℕ (Code × F)) (new : Held F L) → old ≡ now → peer ≡ i + 1 → i < count → count ≡ length now.cores
      → core ≡ get_or old.cores i core → new ≡ record old { cores = set old.cores i after }
      → IfOk result (λ number. CoreAdds notices capacity becomes core filter number after)
      → IfOk result (λ number. Adds notices capacity becomes now peer filter number new)
  add_at old now i peer count filter core after result new view is low counted here same h =
      subst (λ (k : Held F L). IfOk result (λ number. Adds notices capacity becomes k peer filter number new)) view
      (ok_as result (λ number. adds_at old i peer filter number core after new is
      (below_count old now i count view low counted) here same) h)

  -- a refusal of the peer of this index leaves the network as it was
  pub stays_at : {T E : Type 0} (old now : Held F L) (i : ℕ) (core after : CoreKept F L) (result : Result T E) → old ≡ now
      → core ≡ get_or old.cores i core → OnErr result (after ≡ core)
      → OnErr result (record old { cores = set old.cores i after } ≡ now)
  stays_at old now i core after (Ok x) view here h = h
  stays_at old now i core after (Err e) view here h =
      ap (λ (cs : List (CoreKept F L)). record old { cores = cs })
      (ap (λ (c : CoreKept F L). set old.cores i c) (h ∙ here) ∙ set-get_or old.cores i core) ∙ view

  pub refuse_at : (old now : Held F L) (i peer count : ℕ) (core : CoreKept F L) (result : Result ℕ (Code × F))
      → old ≡ now → peer ≡ i + 1 → i < count → count ≡ length now.cores → core ≡ get_or old.cores i core
      → IfErr result (λ e. CoreRefuses notices capacity becomes core e.0)
      → IfErr result (λ e. RefusesFilter notices capacity becomes now peer e.0)
  refuse_at old now i peer count core result view is low counted here h =
      subst (λ (k : Held F L). IfErr result (λ e. RefusesFilter notices capacity becomes k peer e.0)) view
      (err_as result (λ e. refused_at old i peer core e.0 is (below_count old now i count view low counted) here) h)

  pub set_at : (old now : Held F L) (i peer count : ℕ) (entity : Entity) (mask : StatusMask) (listener : Option L)
      (core after : CoreKept F L) (result : Result (Option L) (Code × Option L)) (new : Held F L)
      → old ≡ now → peer ≡ i + 1 → i < count → count ≡ length now.cores → core ≡ get_or old.cores i core
      → new ≡ record old { cores = set old.cores i after }
      → IfOk result (λ handed. CoreSets notices capacity becomes core entity mask listener handed after)
      → IfOk result (λ handed. Sets notices capacity becomes now peer entity mask listener handed new)
  set_at old now i peer count entity mask listener core after result new view is low counted here same h =
      subst (λ (k : Held F L). IfOk result (λ handed. Sets notices capacity becomes k peer entity mask listener handed new))
      view
      (ok_as result (λ handed. sets_at old i peer entity mask listener handed core after new is
      (below_count old now i count view low counted) here same) h)

  pub not_set_at : (old now : Held F L) (i peer count : ℕ) (entity : Entity) (listener : Option L) (core : CoreKept F L)
      (result : Result (Option L) (Code × Option L)) → old ≡ now → peer ≡ i + 1 → i < count → count ≡ length now.cores
      → core ≡ get_or old.cores i core
      → IfErr result (λ e. CoreRefusesListener notices capacity becomes core entity listener e.0)
      → IfErr result (λ e. RefusesListener notices capacity becomes now peer entity listener e.0)
  not_set_at old now i peer count entity listener core result view is low counted here h =
      subst (λ (k : Held F L). IfErr result (λ e. RefusesListener notices capacity becomes k peer entity listener e.0)) view
      (err_as result (λ e. unset_at old i peer entity listener core e.0 is
      (below_count old now i count view low counted) here) h)

-- ---- events as steps

-- an event of a peer is a step in the network, where it is a step of it, and what is sent at it is said
stepped_in : {F L : Type 0} (meaning : F → Key → List ℕ → Bool) (notices : L → List Notice) (capacity : L → ℕ)
    (becomes : L → Notice → L → Type 0) (old new : Held F L) (i : ℕ) (ev own : Event) (whole : WorldEvent) (reply : Reply) → own ≡ ev
    → ((given : ℕ → ByEntity L)
    → Acts (tests_in meaning old) (kept_of notices capacity becomes given old) i own reply
    (kept_of notices capacity becomes given new)
    → RuledSteps (tests_in meaning old) (kept_of notices capacity becomes given old) whole reply
    (kept_of notices capacity becomes given new))
    → ((given : ℕ → ByEntity L)
    → Acts (tests_in meaning old) (kept_of notices capacity becomes given old) i own reply
    (kept_of notices capacity becomes given new)
    → Announces (kept_of notices capacity becomes given old) whole reply (kept_of notices capacity becomes given new))
    → ActsIn meaning notices capacity becomes old i ev reply new → StepsIn meaning notices capacity becomes old whole reply new
stepped_in meaning notices capacity becomes old new i ev own whole reply is steps sends a =
    let h = subst (λ (e : Event). ActsIn meaning notices capacity becomes old i e reply new) (sym is) a in
    record {
      steps = λ given. steps given (h.acts given);
      filters = h.filters;
      sends = λ given. sends given (h.acts given);
    }

-- an event that is no delivery
pub happened_in : {F L : Type 0} (meaning : F → Key → List ℕ → Bool) (notices : L → List Notice) (capacity : L → ℕ)
    (becomes : L → Notice → L → Type 0) (old new : Held F L) (i peer : ℕ) (ev : Event) (whole : WorldEvent) (reply : Reply) → peer ≡ i + 1
    → IsOfPeer whole peer ev
    → ActsIn meaning notices capacity becomes old i ev reply new → StepsIn meaning notices capacity becomes old whole reply new
happened_in meaning notices capacity becomes old new i peer ev (world.Call number call) reply is of a =
    stepped_in meaning notices capacity becomes old new i ev (event.Call call) (world.Call number call) reply of.1
    (λ given. called (kept_of notices capacity becomes given old) (kept_of notices capacity becomes given new) i number call reply (of.0 ∙ is))
    (λ given. called_sends (kept_of notices capacity becomes given old) (kept_of notices capacity becomes given new) i number call reply (of.0 ∙ is)) a
happened_in meaning notices capacity becomes old new i peer ev (world.Tick number now) reply is of a =
    stepped_in meaning notices capacity becomes old new i ev (event.Tick now) (world.Tick number now) reply of.1
    (λ given. ticked (kept_of notices capacity becomes given old) (kept_of notices capacity becomes given new) i number now reply (of.0 ∙ is))
    (λ given. ticked_sends (kept_of notices capacity becomes given old) (kept_of notices capacity becomes given new) i number now reply (of.0 ∙ is)) a
happened_in meaning notices capacity becomes old new i peer ev (world.Deliver number packet) reply is of a = absurd of
happened_in meaning notices capacity becomes old new i peer ev (world.Resume number reader) reply is of a =
    stepped_in meaning notices capacity becomes old new i ev (event.Resume reader) (world.Resume number reader) reply of.1
    (λ given. resumed (kept_of notices capacity becomes given old) (kept_of notices capacity becomes given new) i number reader reply (of.0 ∙ is))
    (λ given. resumed_sends (kept_of notices capacity becomes given old) (kept_of notices capacity becomes given new) i number reader reply) a

-- the delivery of a packet that was sent
pub delivered_in : {F L : Type 0} (meaning : F → Key → List ℕ → Bool) (notices : L → List Notice) (capacity : L → ℕ)
    (becomes : L → Notice → L → Type 0) (old new : Held F L) (i j : ℕ) (packet : Packet) (reply : Reply)
    → slice_get old.sent j ≡ Some packet
    → ActsIn meaning notices capacity becomes old i (event.Deliver packet.bytes) reply new
    → StepsIn meaning notices capacity becomes old (world.Deliver (i + 1) (j + 1)) reply new
delivered_in meaning notices capacity becomes old new i j packet reply at a =
    stepped_in meaning notices capacity becomes old new i (event.Deliver packet.bytes) (event.Deliver packet.bytes)
    (world.Deliver (i + 1) (j + 1)) reply refl
    (λ given. delivered (kept_of notices capacity becomes given old) (kept_of notices capacity becomes given new) i j packet reply at)
    (λ given. delivered_sends (kept_of notices capacity becomes given old) (kept_of notices capacity becomes given new) i (i + 1) (j + 1)
    packet.bytes reply) a

-- no peer has the number
outside : {F L : Type 0} (notices : L → List Notice) (capacity : L → ℕ) (becomes : L → Notice → L → Type 0)
    (given : ℕ → ByEntity L) (old : Held F L) (peer count number : ℕ)
    → count ≡ length old.cores → (nat_lt 0 peer && nat_le peer count) ≡ false → number ≡ peer
    → (nat_lt 0 number && nat_le number (length (kept_of notices capacity becomes given old).peers)) ≡ false
outside {F} {L} notices capacity becomes given old peer count number is none same =
    subst (λ (n : ℕ). (nat_lt 0 n && nat_le n (length (kept_of notices capacity becomes given old).peers)) ≡ false) (sym same)
    (subst (λ (n : ℕ). (nat_lt 0 peer && nat_le peer n) ≡ false)
    (is ∙ sym (length-map old.cores (λ (c : CoreKept F L). c.filtered.peer))) none)

-- what is refused
pub no_peer_in : {F L : Type 0} (meaning : F → Key → List ℕ → Bool) (notices : L → List Notice) (capacity : L → ℕ)
    (becomes : L → Notice → L → Type 0)
    (old : Held F L) (peer count : ℕ) (ev : Event) (whole : WorldEvent) → count ≡ length old.cores
    → (nat_lt 0 peer && nat_le peer count) ≡ false
    → IsOfPeer whole peer ev → StepsIn meaning notices capacity becomes old whole (Refused BadParameter) old
no_peer_in meaning notices capacity becomes old peer count ev (world.Call number call) is none of =
    record {
      steps = λ given. unknown_call (kept_of notices capacity becomes given old) number call
          (outside notices capacity becomes given old peer count number is none of.0);
      filters = refl;
      sends = λ given. refused_call_sends
          (kept_of notices capacity becomes given old) number call;
    }
no_peer_in meaning notices capacity becomes old peer count ev (world.Tick number now) is none of =
    record {
      steps = λ given. unknown_tick (kept_of notices capacity becomes given old) number now
          (outside notices capacity becomes given old peer count number is none of.0);
      filters = refl;
      sends = λ given. refused_tick_sends
          (kept_of notices capacity becomes given old) number now;
    }
no_peer_in meaning notices capacity becomes old peer count ev (world.Deliver number packet) is none of = absurd of
no_peer_in meaning notices capacity becomes old peer count ev (world.Resume number reader) is none of =
    record {
      steps = λ given. unknown_resume (kept_of notices capacity becomes given old) number reader
          (outside notices capacity becomes given old peer count number is none of.0);
      filters = refl;
      sends = λ given. refused_resume_sends
          (kept_of notices capacity becomes given old) number reader;
    }

pub no_delivery_in : {F L : Type 0} (meaning : F → Key → List ℕ → Bool) (notices : L → List Notice) (capacity : L → ℕ)
    (becomes : L → Notice → L → Type 0)
    (old : Held F L) (peer count number : ℕ) → count ≡ length old.cores → (nat_lt 0 peer && nat_le peer count) ≡ false
    → StepsIn meaning notices capacity becomes old (world.Deliver peer number) (Refused BadParameter) old
no_delivery_in meaning notices capacity becomes old peer count number is none =
    record {
      steps = λ given. unknown_delivery (kept_of notices capacity becomes given old) peer number
          (outside notices capacity becomes given old peer count peer is none refl);
      filters = refl;
      sends = λ given. refused_delivery_sends
          (kept_of notices capacity becomes given old) peer number;
    }

pub no_packet_in : {F L : Type 0} (meaning : F → Key → List ℕ → Bool) (notices : L → List Notice) (capacity : L → ℕ)
    (becomes : L → Notice → L → Type 0)
    (old : Held F L) (peer count number : ℕ) → count ≡ length old.sent
    → (nat_lt 0 number && nat_le number count) ≡ false
    → StepsIn meaning notices capacity becomes old (world.Deliver peer number) (Refused BadParameter) old
no_packet_in meaning notices capacity becomes old peer count number is none =
    record {
      steps = λ given. unknown_packet (kept_of notices capacity becomes given old) peer number
          (subst (λ (n : ℕ). (nat_lt 0 number && nat_le number n) ≡ false) is none);
      filters = refl;
      sends = λ given. refused_delivery_sends (kept_of notices capacity becomes given old) peer number;
    }

-- a step at an event is one at the event that was whole
pub steps_as : {F L : Type 0} {meaning : F → Key → List ℕ → Bool} {notices : L → List Notice} {capacity : L → ℕ}
    {becomes : L → Notice → L → Type 0}
    {old new : Held F L} {whole ev : WorldEvent} {reply : Reply} → whole ≡ ev
    → StepsIn meaning notices capacity becomes old ev reply new → StepsIn meaning notices capacity becomes old whole reply new
steps_as {meaning = meaning} {notices} {capacity} {becomes} {old} {new} {reply = reply} is steps =
    subst (λ (e : WorldEvent). StepsIn meaning notices capacity becomes old e reply new) (sym is) steps

-- what is said by the filters that there are is said by those that there were before, where none was added
pub same_tests : {F L : Type 0} (meaning : F → Key → List ℕ → Bool) (first old : Held F L) (P : AllTests → Type 0)
    → filters_of old ≡ filters_of first → P (tests_in meaning old) → P (tests_in meaning first)
same_tests {F} meaning first old P same h = subst (λ (fs : List (List F)). P (tests_by meaning fs)) same h
