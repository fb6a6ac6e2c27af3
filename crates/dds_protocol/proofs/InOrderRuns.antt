-- In every run, the changes that came at a reader are the first ones of the list of a writer that keeps all.
use Rattle.std.proofs.Common.{◌≡◌, ℕ, zero, suc, ◌+◌, ◌≤◌, ◌==◌, ◌⊎◌, Bool, true, false, List, [], ◌∷◌, ◌++◌, refl, subst, ap, sym, ◌∙◌, inl, inr, ⊎_elim, arith, length, get_or, map, cond, Option, Some, None}
use Rattle.std.specs.Prelude.{IsSome, is_some}
use Rattle.std.specs.Option.{option_map}
use Rattle.std.proofs.lemmas.List.{length-map}
use Rattle.dds_base.specs.declared.change.Change.{Change}
use Rattle.dds_base.specs.declared.config.Config.{Config}
use Rattle.dds_base.specs.declared.config.PeerConfig.{PeerConfig}
use Rattle.dds_base.specs.declared.config.WriterConfig.{WriterConfig}
use Rattle.dds_base.specs.declared.config.ReaderConfig.{ReaderConfig}
use Rattle.dds_base.specs.declared.happening.Happening.{Happening}
use Rattle.dds_base.specs.declared.qos.HistoryQos.TheVariants.{KeepAll}
use Rattle.dds_base.specs.declared.qos.ReaderQos.{ReaderQos}
use Rattle.dds_base.specs.Matched.{is_reliable}
use Rattle.dds_base.specs.declared.endpoint.Endpoint.{Endpoint}
use Rattle.dds_machine.specs.declared.event.WorldEvent.{WorldEvent}
use Rattle.dds_machine.specs.declared.event.WorldEvent.TheVariants as world
use Rattle.dds_machine.specs.declared.reply.Reply.{Reply}
use Rattle.dds_machine.specs.Numbered.{numbered, with_numbered, HasNumber}
use Rattle.dds_machine.specs.Part.{Begun, same_endpoint, WriterProxy, Part, no_reader, no_part, own_proxies, own_reader, row_of, place_of, publication_among, owed_from, writer_changes}
use Rattle.dds_machine.specs.Moves.{as_to}
use Rattle.dds_machine.specs.Machine.{Machine, AllTests, part_at, writer_at, place_at, grounds_of, Step}
use Rattle.dds_machine.specs.Runs.{Run}
use Rattle.dds_protocol.specs.InOrder.{came_from, CameInOrder}
use Rattle.dds_protocol.proofs.Opened.{opening_is, writers_in}
use Rattle.dds_protocol.specs.World.{machine_of}
use Rattle.dds_machine.specs.Opening.{opening_reader, matched_writers, opening_part, opening}
use Rattle.dds_protocol.specs.Opening.{opening_peers, opening_world}
use Rattle.dds_protocol.specs.Peer.{Peer}
use Rattle.dds_machine.proofs.Tables.{numbered-cases}
use Rattle.dds_protocol.proofs.Resumed.{as_moves}
use Rattle.dds_protocol.proofs.Growth.{AreMoves-grows, CallStep-grows, TickStep-grows, DeliveryStep-grows, MachineGrows, with_part-grows, writer-changes}
use Rattle.dds_protocol.proofs.Policies.{IsReliableAt, Step-qos}
use Rattle.dds_protocol.specs.Closed.{IsClosed, NobodyTold}
use Rattle.dds_protocol.proofs.Closed.{opens_closed, stays_closed}
use Rattle.dds_protocol.proofs.ClosedSteps.{owes_all}
use Rattle.dds_protocol.proofs.RunLaws.{keeps_all, runs_owe_no_more, Step-policy}
use Rattle.dds_machine.specs.Noticing.{machine_ended}
use Rattle.dds_protocol.proofs.EndsBeside.{ended_alike, ended_policy, ended_writer}
use Rattle.dds_protocol.proofs.InOrder.{publication_there, RestsOn}
use Rattle.dds_protocol.proofs.Lanes.{Lane, lane_as, lane_call, lane_delivery, lane_longer, lane_moves, lane_tick}

-- the machine

pub record InOrder (m : Machine) (w r : Endpoint) : Type 0 where
  pub all : (writer_at m w).policy ≡ KeepAll
  pub reliable : IsReliableAt (part_at m r.peer) r.number
  pub lane : Lane (writer_changes (writer_at m w)) (part_at m r.peer) w r.number

rests_on : (m : Machine) (peer : ℕ) (w : Endpoint) (r : ℕ) → (writer_at m w).policy ≡ KeepAll
    → owed_from (writer_at m w) (record { peer = peer; number = r }) ≤ 1
    → RestsOn (writer_changes (writer_at m w)) (as_to (grounds_of m peer) w r)
rests_on m peer w r all owed = (
  λ n c h. h,
  λ n h.
      ⊎_elim (λ d. keeps_all (writer_at m w).policy m w n refl all d)
      (λ q. let from = q.from in let below = q.below in absurd (omega (arith, owed, from, below))) h,
)

-- one part has changed, where all is owed
pub at_peer : (m : Machine) (peer : ℕ) (after : Part) (new : Machine) (w r : Endpoint)
    → new ≡ record { parts = with_numbered m.parts peer after }
    → MachineGrows m (record { parts = with_numbered m.parts peer after })
    → (writer_at new w).policy ≡ (writer_at m w).policy
    → (own_reader (part_at new r.peer) r.number).qos ≡ (own_reader (part_at m r.peer) r.number).qos
    → owed_from (writer_at m w) r ≤ 1
    → ((k : ℕ) → IsReliableAt (part_at m peer) k → owed_from (writer_at m w) (record { peer = peer; number = k }) ≤ 1
    → Lane (writer_changes (writer_at m w)) (part_at m peer) w k
    → Lane (writer_changes (writer_at m w)) after w k) → InOrder m w r → InOrder new w r
at_peer m peer after new w r changed grows policy qos owed f o =
    let with : Machine = record { parts = with_numbered m.parts peer after } in
    let longer = writer-changes (writer_at m w) (writer_at with w) (grows.writers w) in
    let written : writer_changes (writer_at new w) ≡ writer_changes (writer_at m w) ++ longer.0 =
    ap (λ (x : Machine). writer_changes (writer_at x w)) changed ∙ longer.1 in
    let lane : Lane (writer_changes (writer_at m w)) (part_at with r.peer) w r.number =
    ⊎_elim (λ s. subst (λ (x : Part). Lane (writer_changes (writer_at m w)) x w r.number) (sym s) o.lane)
    (λ h. subst (λ (x : Part). Lane (writer_changes (writer_at m w)) x w r.number) (sym h.1)
    (f r.number (subst (λ (j : ℕ). IsReliableAt (part_at m j) r.number) h.0 o.reliable)
    (subst (λ (j : ℕ). owed_from (writer_at m w) (record { peer = j; number = r.number }) ≤ 1) h.0 owed)
    (subst (λ (j : ℕ). Lane (writer_changes (writer_at m w)) (part_at m j) w r.number) h.0 o.lane)))
    (numbered-cases m.parts peer after r.peer no_part) in
    record {
      all = policy ∙ o.all;
      reliable = ap (λ (q : ReaderQos). is_reliable q.reliability) qos ∙ o.reliable;
      lane = subst (λ (xs : List Change). Lane xs (part_at new r.peer) w r.number) (sym written)
          (subst (λ (x : Machine). Lane (writer_changes (writer_at m w) ++ longer.0) (part_at x r.peer) w r.number)
          (sym changed) (lane_longer (writer_changes (writer_at m w)) longer.0
          (part_at with r.peer) w r.number lane));
    }

pub step_in_order : (tests : AllTests) (sent : ℕ) (m : Machine) (ev : WorldEvent) (reply : Reply) (new : Machine)
    (w r : Endpoint) → owed_from (writer_at m w) r ≤ 1 → Step tests sent m ev reply new → InOrder m w r → InOrder new w r
step_in_order tests sent m (world.Call peer c) reply new w r owed (inl h) o =
    at_peer m peer h.after new w r h.changed
    (with_part-grows m peer h.after (CallStep-grows (tests peer) (part_at m peer) c reply h.after h.step))
    (Step-policy w tests sent m (world.Call peer c) reply new (inl h))
    (Step-qos tests sent m (world.Call peer c) reply new r (inl h))
    owed
    (λ k reliable all l. lane_call (writer_changes (writer_at m w)) (tests peer) (part_at m peer) w k c reply h.after l h.step) o
step_in_order tests sent m (world.Call peer c) reply new w r owed (inr h) o =
    subst (λ (x : Machine). InOrder x w r) (sym h.1.1) o
step_in_order tests sent m (world.Tick peer now) reply new w r owed (inl h) o =
    at_peer m peer h.after new w r h.changed
    (with_part-grows m peer h.after (TickStep-grows (part_at m peer) now reply h.after h.step))
    (Step-policy w tests sent m (world.Tick peer now) reply new (inl h))
    (Step-qos tests sent m (world.Tick peer now) reply new r (inl h))
    owed
    (λ k reliable all l. lane_tick (writer_changes (writer_at m w)) (part_at m peer) w k now reply h.after l h.step) o
step_in_order tests sent m (world.Tick peer now) reply new w r owed (inr h) o =
    subst (λ (x : Machine). InOrder x w r) (sym h.1.1) o
step_in_order tests sent m (world.Deliver peer packet) reply new w r owed (inl h) o =
    at_peer m peer h.2.after new w r h.2.changed
    (with_part-grows m peer h.2.after
    (DeliveryStep-grows (grounds_of m peer) (part_at m peer) reply h.2.after h.2.step))
    (Step-policy w tests sent m (world.Deliver peer packet) reply new (inl h))
    (Step-qos tests sent m (world.Deliver peer packet) reply new r (inl h))
    owed
    (λ k reliable all l.
    lane_delivery (writer_changes (writer_at m w)) (grounds_of m peer) (part_at m peer) w k reply h.2.after
    (rests_on m peer w k o.all all) reliable l h.2.step) o
step_in_order tests sent m (world.Deliver peer packet) reply new w r owed (inr h) o =
    subst (λ (x : Machine). InOrder x w r) (sym h.1.1) o
step_in_order tests sent m (world.Resume peer n) reply new w r owed (inl h) o =
    let made = as_moves (grounds_of m peer) (part_at m peer) n reply h.after h.step in
    at_peer m peer h.after new w r h.changed
    (with_part-grows m peer h.after (AreMoves-grows (grounds_of m peer) (part_at m peer) made.0 h.after made.1))
    (Step-policy w tests sent m (world.Resume peer n) reply new (inl h))
    (Step-qos tests sent m (world.Resume peer n) reply new r (inl h))
    owed
    (λ k reliable all l.
    lane_moves (writer_changes (writer_at m w)) (grounds_of m peer) (part_at m peer) w k made.0 h.after
    (rests_on m peer w k o.all all) reliable l made.1) o
step_in_order tests sent m (world.Resume peer n) reply new w r owed (inr h) o =
    subst (λ (x : Machine). InOrder x w r) (sym h.1.1) o

-- the end of an event
pub ended_in_order : (before : Machine) (e : WorldEvent) (m : Machine) (w r : Endpoint) → InOrder m w r
    → InOrder (machine_ended before e m) w r
ended_in_order before e m w r o =
    let old : Part = part_at m r.peer in
    let new : Part = part_at (machine_ended before e m) r.peer in
    let alike = ended_alike before e m r.peer in
    let rows : own_proxies new r.number ≡ own_proxies old r.number =
    ap (λ (xs : List (List WriterProxy)). numbered xs r.number []) alike.rows in
    record {
      all = ended_policy before e m w ∙ o.all;
      reliable = ap (λ (q : ReaderQos). is_reliable q.reliability) (alike.qos r.number) ∙ o.reliable;
      lane = subst (λ (changes : List Change). Lane changes new w r.number) (sym (ended_writer before e m w).changes)
          (lane_as (writer_changes (writer_at m w)) old new w r.number o.lane
          (subst (λ (xs : List (List WriterProxy)). HasNumber xs r.number) (sym alike.rows) o.lane.rows)
          (subst (λ (n : ℕ). (1 ≤ r.number) × (r.number ≤ n)) (sym alike.readers) o.lane.own)
          (ap (λ (xs : List WriterProxy). publication_among xs w) rows)
          (ap (λ (xs : List WriterProxy). place_of xs w) rows)
          (ap (λ (h : List Happening). came_from o.lane.publication h) (alike.happened r.number)));
    }

-- where all is owed at the end, all was
run_in_order : (tests : AllTests) (m after : Machine) (events : List WorldEvent) (replies : List Reply)
    (sent last : ℕ) (w r : Endpoint) → owed_from (writer_at after w) r ≤ 1
    → Run tests sent m events replies last after → InOrder m w r → InOrder after w r
run_in_order tests m after [] [] sent last w r owed run o = subst (λ (x : Machine). InOrder x w r) (sym run.0) o
run_in_order tests m after (e ∷ es) (p ∷ ps) sent last w r owed run o =
    let more = runs_owe_no_more tests sent m (e ∷ es) (p ∷ ps) last after run w r in
    run_in_order tests (machine_ended m e run.0) after es ps run.1 last w r owed run.4
    (ended_in_order m e run.0 w r (step_in_order tests sent m e p run.0 w r (omega (arith, more, owed)) run.2 o))
run_in_order tests m after [] (p ∷ ps) sent last w r owed run o = absurd run
run_in_order tests m after (e ∷ es) [] sent last w r owed run o = absurd run

-- the opening: a reader's place in a writer's list is 1 where they are matched, and nothing has happened

abbrev FirstOrNone : List WriterProxy → Endpoint → Type 0
FirstOrNone rows w = (place_of rows w ≡ None) ⊎ (place_of rows w ≡ Some 1)

abbrev begun : ℕ → ℕ → WriterProxy
begun peer n = record { writer = record { peer = peer; number = n }; place = 1; heard = None; how = Begun }

first_or_none : (c : Bool) (peer n : ℕ) (rest : Option WriterProxy)
    → (option_map (λ (p : WriterProxy). p.place) rest ≡ None)
    ⊎ (option_map (λ (p : WriterProxy). p.place) rest ≡ Some 1)
    → (option_map (λ (p : WriterProxy). p.place) (cond c (Some (begun peer n)) rest) ≡ None)
    ⊎ (option_map (λ (p : WriterProxy). p.place) (cond c (Some (begun peer n)) rest) ≡ Some 1)
first_or_none true peer n rest h = inr refl
first_or_none false peer n rest h = h

row_or_none : (b : Bool) (peer n : ℕ) (rows : List WriterProxy) (w : Endpoint) → FirstOrNone rows w
    → FirstOrNone (cond b (begun peer n ∷ rows) rows) w
row_or_none true peer n rows w h =
    first_or_none (same_endpoint (record { peer = peer; number = n }) w) peer n
    (row_of (λ (p : WriterProxy). p.writer) rows w) h
row_or_none false peer n rows w h = h

rows_append : (b : Bool) (peer n : ℕ) (rows ys : List WriterProxy)
    → cond b (begun peer n ∷ rows) rows ++ ys ≡ cond b (begun peer n ∷ (rows ++ ys)) (rows ++ ys)
rows_append true peer n rows ys = refl
rows_append false peer n rows ys = refl

writers_first : (topic peer n : ℕ) (ws : List WriterConfig) (ys : List WriterProxy) (w : Endpoint) → FirstOrNone ys w
    → FirstOrNone (writers_in topic peer n ws ++ ys) w
writers_first topic peer n [] ys w h = h
writers_first topic peer n (x ∷ ws) ys w h =
    subst (λ (rows : List WriterProxy). FirstOrNone rows w)
    (sym (rows_append (x.topic == topic) peer n (writers_in topic peer (n + 1) ws) ys))
    (row_or_none (x.topic == topic) peer n (writers_in topic peer (n + 1) ws ++ ys) w
    (writers_first topic peer (n + 1) ws ys w h))

matched_first : (topic peer : ℕ) (ps : List PeerConfig) (w : Endpoint) → FirstOrNone (matched_writers topic peer ps) w
matched_first topic peer [] w = inl refl
matched_first topic peer (p ∷ ps) w =
    writers_first topic peer 1 p.writers (matched_writers topic (peer + 1) ps) w (matched_first topic (peer + 1) ps w)

own_first : (peers : List PeerConfig) (rs : List ReaderConfig) (k : ℕ) (w : Endpoint)
    → FirstOrNone (get_or (map (λ (r : ReaderConfig). matched_writers r.topic 1 peers) rs) k []) w
own_first peers [] k w = inl refl
own_first peers (r ∷ rs) zero w = matched_first r.topic 1 peers w
own_first peers (r ∷ rs) (suc k) w = own_first peers rs k w

own_quiet : (peers : List PeerConfig) (rs : List ReaderConfig) (k : ℕ)
    → (get_or (map (opening_reader peers) rs) k no_reader).happened ≡ []
own_quiet peers [] k = refl
own_quiet peers (r ∷ rs) zero = refl
own_quiet peers (r ∷ rs) (suc k) = own_quiet peers rs k

-- what a peer's reader is at the opening
record Begins (part : Part) (k : ℕ) (w : Endpoint) : Type 0 where
  first : FirstOrNone (own_proxies part (suc k)) w
  quiet : (own_reader part (suc k)).happened ≡ []
  alike : length part.dds.readers ≡ length part.rtps.readers

begins_part : (peers : List PeerConfig) (p : PeerConfig) (k : ℕ) (w : Endpoint) → Begins (opening_part peers p) k w
begins_part peers p k w = record {
  first = own_first peers p.readers k w;
  quiet = own_quiet peers p.readers k;
  alike =
      length-map p.readers (opening_reader peers)
      ∙ sym (length-map p.readers (λ (r : ReaderConfig). matched_writers r.topic 1 peers));
}

begins : (peers : List PeerConfig) (n : ℕ) (ps : List PeerConfig) (i k : ℕ) (w : Endpoint)
    → Begins (get_or (map (λ (p : Peer). p.part) (opening_peers peers n ps)) i no_part) k w
begins peers n [] i k w = record { first = inl refl; quiet = refl; alike = refl }
begins peers n (p ∷ ps) zero k w = begins_part peers p k w
begins peers n (p ∷ ps) (suc i) k w = begins peers (n + 1) ps i k w

within : (rows : List (List WriterProxy)) (k : ℕ) (w : Endpoint) (place : ℕ)
    → place_of (get_or rows k []) w ≡ Some place → k + 1 ≤ length rows
within [] k w place h = cc
within (row ∷ rows) zero w place h = omega arith
within (row ∷ rows) (suc k) w place h = let e = within rows k w place h in omega (arith, e)

is_first : (o : Option ℕ) → IsSome o → (o ≡ None) ⊎ (o ≡ Some 1) → o ≡ Some 1
is_first o h (inl e) = let no = ap (λ (x : Option ℕ). is_some x) e in cc
is_first o h (inr e) = e

begins_in_order : (changes : List Change) (part : Part) (w : Endpoint) (k : ℕ)
    → IsSome (place_of (own_proxies part (suc k)) w) → Begins part k w → Lane changes part w (suc k)
begins_in_order changes part w k placed b =
    let alike = b.alike in
    let one : place_of (own_proxies part (suc k)) w ≡ Some 1 =
    is_first (place_of (own_proxies part (suc k)) w) placed b.first in
    let inside = within part.rtps.readers k w 1 one in
    let handle = publication_there 1 1 (own_proxies part (suc k)) w one in
    let came : came_from handle.0 (own_reader part (suc k)).happened ≡ [] =
    ap (λ (xs : List Happening). came_from handle.0 xs) b.quiet in
    let none = ap (λ (xs : List Change). length xs) came in
    record {
      rows = (omega arith, omega (arith, inside));
      own = (omega arith, omega (arith, inside, alike));
      publication = handle.0;
      place = 1;
      matched = record { handle = handle.1; at = one };
      along =
          record {
            rest = changes;
            first = ap (λ (xs : List Change). xs ++ changes)
                (sym came);
            count = omega (arith, none);
          };
    }

lane_begins : (config : Config) (w : Endpoint) (changes : List Change) (peer number : ℕ)
    → IsSome (place_of (own_proxies (part_at (machine_of (opening_world config)) peer) number) w)
    → Lane changes (part_at (machine_of (opening_world config)) peer) w number
lane_begins config w changes zero zero h = cc
lane_begins config w changes zero (suc k) h = cc
lane_begins config w changes (suc i) zero h = cc
lane_begins config w changes (suc i) (suc k) h =
    begins_in_order changes (part_at (machine_of (opening_world config)) (suc i)) w k h
    (begins config.peers 1 config.peers i k w)

lane_opens : (config : Config) (w : Endpoint) (changes : List Change) (peer number : ℕ)
    → IsSome (place_of (own_proxies (part_at (opening config) peer) number) w)
    → Lane changes (part_at (opening config) peer) w number
lane_opens config w changes peer number =
    subst (λ (m : Machine). IsSome (place_of (own_proxies (part_at m peer) number) w)
    → Lane changes (part_at m peer) w number) (opening_is config) (lane_begins config w changes peer number)

-- at the opening nothing came
pub opens_in_order : (config : Config) (w r : Endpoint) → (writer_at (opening config) w).policy ≡ KeepAll
    → is_reliable (own_reader (part_at (opening config) r.peer) r.number).qos.reliability ≡ true
    → IsSome (place_at (opening config) r w) → InOrder (opening config) w r
opens_in_order config w r all reliable placed = record {
  all = all;
  reliable = reliable;
  lane = lane_opens config w (writer_changes (writer_at (opening config) w)) r.peer r.number placed;
}

-- what came in order did so
pub came_in_order : (m : Machine) (w r : Endpoint) → InOrder m w r → CameInOrder m w r
came_in_order m w r o =
    let l = o.lane in
    record {
      publication = l.publication;
      matched = l.matched.handle;
      came = came_from l.publication (own_reader (part_at m r.peer) r.number).happened;
      came_at = refl;
      rest = l.along.rest;
      first = l.along.first;
      place = l.matched.at ∙ ap (λ (n : ℕ). Some n) (sym l.along.count);
    }

pub changes_come_in_order : (config : Config) (tests : AllTests) (w r : Endpoint) (events : List WorldEvent)
    (replies : List Reply) (last : ℕ) (after : Machine) → (writer_at (opening config) w).policy ≡ KeepAll
    → is_reliable (own_reader (part_at (opening config) r.peer) r.number).qos.reliability ≡ true
    → IsSome (place_at (opening config) r w) → Run tests 0 (opening config) events replies last after
    → owed_from (writer_at after w) r ≤ 1 → CameInOrder after w r
changes_come_in_order config tests w r events replies last after all reliable placed run owed =
    came_in_order after w r
    (run_in_order tests (opening config) after events replies 0 last w r owed run
    (opens_in_order config w r all reliable placed))

-- while nobody comes or goes all is owed
closed_in_order_on : (tests : AllTests) (m after : Machine) (events : List WorldEvent) (replies : List Reply)
    (sent last : ℕ) (w r : Endpoint) → NobodyTold events → IsClosed m → Run tests sent m events replies last after
    → InOrder m w r → InOrder after w r
closed_in_order_on tests m after [] [] sent last w r none closed run o =
    subst (λ (x : Machine). InOrder x w r) (sym run.0) o
closed_in_order_on tests m after (e ∷ es) (p ∷ ps) sent last w r none closed run o =
    let all : owed_from (writer_at m w) r ≤ 1 =
    owes_all m w r closed (ap (λ (x : Option ℕ). is_some x) o.lane.matched.at) o.reliable in
    closed_in_order_on tests (machine_ended m e run.0) after es ps run.1 last w r none.1
    (stays_closed tests sent m e p run.0 none.0 closed run.2) run.4
    (ended_in_order m e run.0 w r (step_in_order tests sent m e p run.0 w r all run.2 o))
closed_in_order_on tests m after [] (p ∷ ps) sent last w r none closed run o = absurd run
closed_in_order_on tests m after (e ∷ es) [] sent last w r none closed run o = absurd run

pub closed_in_order : (config : Config) (tests : AllTests) (w r : Endpoint) (events : List WorldEvent)
    (replies : List Reply) (last : ℕ) (after : Machine) → NobodyTold events
    → (writer_at (opening config) w).policy ≡ KeepAll
    → is_reliable (own_reader (part_at (opening config) r.peer) r.number).qos.reliability ≡ true
    → IsSome (place_at (opening config) r w) → Run tests 0 (opening config) events replies last after
    → CameInOrder after w r
closed_in_order config tests w r events replies last after none all reliable placed run =
    came_in_order after w r
    (closed_in_order_on tests (opening config) after events replies 0 last w r none (opens_closed config) run
    (opens_in_order config w r all reliable placed))
