-- No reader's place goes past the end of a writer's list.
use Rattle.std.proofs.Common.{◌≡◌, ℕ, zero, suc, ◌+◌, ◌-◌, ◌≤◌, true, false, Option, Some, None, List, [], ◌∷◌, refl, subst, ap, sym, ◌∙◌, inl, inr, ⊎_elim, arith, length, length-append}
use Rattle.std.specs.Prelude.{nat_le}
use Rattle.std.specs.Option.{option_map_or}
use Rattle.std.proofs.lemmas.Bool.{cases_lt}
use Rattle.std.proofs.lemmas.Option.{same_Some}
use Rattle.dds_base.specs.declared.change.Change.{Change}
use Rattle.dds_base.specs.declared.code.Code.{Code}
use Rattle.dds_base.specs.declared.config.Config.{Config}
use Rattle.dds_base.specs.declared.happening.PassedRun.{PassedRun}
use Rattle.dds_base.specs.declared.qos.HistoryQos.{HistoryQos}
use Rattle.dds_base.specs.declared.qos.HistoryQos.TheVariants.{KeepAll, KeepLast}
use Rattle.dds_base.specs.Kept.{change_at, is_dropped_by, later_changes}
use Rattle.dds_base.specs.declared.qos.ReaderQos.{ReaderQos}
use Rattle.dds_base.specs.Places.{WriterGrounds, Match, PlaceWith, AllCome, GoesTo, MayPassOver}
use Rattle.dds_base.specs.declared.endpoint.Endpoint.{Endpoint}
use Rattle.dds_machine.specs.declared.event.WorldEvent.{WorldEvent}
use Rattle.dds_machine.specs.declared.event.WorldEvent.TheVariants as world
use Rattle.dds_machine.specs.declared.reply.Move.{Move}
use Rattle.dds_machine.specs.declared.reply.Move.TheVariants.{Place, Acknowledged, Heard, Begun as HasBegun, Strange}
use Rattle.dds_machine.specs.declared.reply.Reply.{Reply}
use Rattle.dds_machine.specs.declared.reply.Reply.TheVariants.{Reported}
use Rattle.dds_machine.specs.Part.{WriterProxy, Part, no_part, own_proxies, own_reader, place_of, with_place, with_begun, with_heard, writer_changes}
use Rattle.dds_machine.specs.Moves.{as_to, match_of, position_at, IsMove, AreMoves, DeliveryStep}
use Rattle.dds_machine.specs.Matching.{Telling, TellStep}
use Rattle.dds_machine.specs.Machine.{Machine, AllTests, part_at, writer_at, grounds_of, Step}
use Rattle.dds_machine.specs.Numbered.{numbered, with_numbered}
use Rattle.dds_protocol.specs.Peer.{Peer, no_peer}
use Rattle.dds_machine.specs.Opening.{opening}
use Rattle.dds_protocol.specs.Opening.{opening_world}
use Rattle.dds_machine.specs.Runs.{Run}
use Rattle.dds_protocol.specs.Bounds.{IsBounded}
use Rattle.dds_machine.proofs.Tables.{begun-cases, numbered-cases, place-cases, place-heard}
use Rattle.dds_protocol.proofs.Resumed.{as_moves}
use Rattle.dds_protocol.proofs.Growth.{AreMoves-grows, MachineGrows, with_part, with_part-grows, CallStep-grows, CallStep-rows, TickStep-grows, TickStep-rows, DeliveryStep-grows, writer-changes, change_at-within}
use Rattle.dds_protocol.proofs.Owing.{owed_within}
use Rattle.dds_protocol.proofs.Told.{telling_places, told_so, untold_or_told}
use Rattle.dds_protocol.proofs.Composed.{parts_at}
use Rattle.dds_machine.specs.Noticing.{machine_ended}
use Rattle.dds_protocol.proofs.EndsBeside.{ended_bounded}
use Rattle.dds_protocol.proofs.Opened.{opening_is}
use Rattle.dds_protocol.specs.World.{machine_of}
use Rattle.dds_protocol.proofs.OpenedPeers.{IsFresh, fresh_place, none_is_fresh, peer_is_fresh}

-- what is dropped is there
dropped_there : (depth : ℕ) (changes : List Change) (n : ℕ) (o : Option Change) → change_at changes n ≡ o
    → option_map_or (λ (c : Change). nat_le depth (later_changes changes n c.key)) o false ≡ true → n ≤ length changes
dropped_there depth changes n None e h = cc
dropped_there depth changes n (Some c) e h = change_at-within changes n c e

dropped_within : (policy : HistoryQos) (changes : List Change) (n : ℕ) → is_dropped_by policy changes n ≡ true
    → n ≤ length changes
dropped_within KeepAll changes n h = cc
dropped_within (KeepLast depth) changes n h = dropped_there depth changes n (change_at changes n) refl h

-- these grounds speak of no number above this one
record SpeakTo (g : WriterGrounds) (last : ℕ) : Type 0 where
  change : (n : ℕ) (c : Change) → g.is_change n c → n ≤ last
  pass : (n : ℕ) → g.may_pass n → n ≤ last

-- nor does a reader pass over one
passes_within : (g : WriterGrounds) (last : ℕ) → SpeakTo g last → (qos : ReaderQos) (n : ℕ) → MayPassOver g qos n
    → n ≤ last
passes_within g last s qos n (inl h) = s.pass n h
passes_within g last s qos n (inr h) =
    let before = h.1.before in
    let there = s.change h.1.later h.1.change h.1.is_change in
    omega (arith, before, there)

come_within : (g : WriterGrounds) (last : ℕ) → SpeakTo g last
    → (match : Match) (old : PlaceWith) (changes : List Change) (new : PlaceWith)
    → AllCome g match old changes new → old.place ≤ last + 1 → new.place ≤ last + 1
come_within g last s match old [] new h low = let e = ap (λ (p : PlaceWith). p.place) h in omega (arith, e, low)
come_within g last s match old (c ∷ cs) new h low =
    let next = ap (λ (p : PlaceWith). p.place) h.1.after in
    let here = s.change old.place c h.1.is_change in
    come_within g last s match h.0 cs new h.2 (omega (arith, next, here))

goes_within : (g : WriterGrounds) (last : ℕ) → SpeakTo g last
    → (match : Match) (old : PlaceWith) (runs : List PassedRun) (to : ℕ) (new : PlaceWith)
    → GoesTo g match old runs to new → old.place ≤ last + 1 → to ≤ last + 1
goes_within g last s match old [] to new h low =
    let rest = come_within g last s match old h.0 new h.1 low in
    let end = h.2 in
    omega (arith, rest, end)
goes_within g last s match old (run ∷ runs) to new h low =
    let ordered = h.3.ordered in
    let passed =
    passes_within g last s match.qos run.last (h.3.may_pass run.last (omega (arith, ordered)) (omega arith)) in
    let next = ap (λ (p : PlaceWith). p.place) h.3.after in
    goes_within g last s match h.1 runs to new h.5 (omega (arith, next, passed))

speaks_to : (m : Machine) (i : ℕ) (w : Endpoint) (r : ℕ)
    → SpeakTo (as_to (grounds_of m i) w r) (length (writer_changes (writer_at m w)))
speaks_to m i w r = record {
  change = λ n c h. change_at-within (writer_changes (writer_at m w)) n c h;
  pass = λ n h.
      ⊎_elim (λ d. dropped_within (writer_at m w).policy (writer_changes (writer_at m w)) n d)
      (λ o.
      let below = o.below in
      let within = owed_within (writer_at m w) (record { peer = i; number = r }) in
      omega (arith, below, within)) h;
}

-- the places of this part's readers are not past the ends of the machine's lists
abbrev pub RowsWithin : Machine → List WriterProxy → Type 0
RowsWithin m rows = (w : Endpoint) (p : ℕ) → place_of rows w ≡ Some p → p ≤ length (writer_changes (writer_at m w)) + 1

abbrev pub Within : Machine → Part → Type 0
Within m part = (r : ℕ) → RowsWithin m (own_proxies part r)

pub set_within : (m : Machine) (part : Part) (r : ℕ) (rows : List WriterProxy) → Within m part → RowsWithin m rows → (k : ℕ)
    → RowsWithin m (numbered (with_numbered part.rtps.readers r rows) k [])
set_within m part r rows old new k =
    ⊎_elim (λ e. subst (λ (xs : List WriterProxy). RowsWithin m xs) (sym e) (old k))
    (λ s. subst (λ (xs : List WriterProxy). RowsWithin m xs) (sym s.1) new)
    (numbered-cases part.rtps.readers r rows k [])

moved_within : (m : Machine) (rows : List WriterProxy) (w : Endpoint) (from to : ℕ) → place_of rows w ≡ Some from
    → RowsWithin m rows
    → to ≤ length (writer_changes (writer_at m w)) + 1 → RowsWithin m (with_place rows w to)
moved_within m rows w from to at old le v p h =
    ⊎_elim (λ e. old v p (sym e ∙ h))
    (λ s.
    let is = same_Some to p (sym s.1 ∙ h) in
    let last = ap (λ (x : Endpoint). length (writer_changes (writer_at m x))) s.0 in
    omega (arith, is, last, le))
    (place-cases rows w from to v at)

begun_within : (m : Machine) (rows : List WriterProxy) (w : Endpoint) (from to : ℕ) → place_of rows w ≡ Some from
    → RowsWithin m rows
    → to ≤ length (writer_changes (writer_at m w)) + 1 → RowsWithin m (with_begun rows w to)
begun_within m rows w from to at old le v p h =
    ⊎_elim (λ e. old v p (sym e ∙ h))
    (λ s.
    let is = same_Some to p (sym s.1 ∙ h) in
    let last = ap (λ (x : Endpoint). length (writer_changes (writer_at m x))) s.0 in
    omega (arith, is, last, le))
    (begun-cases rows w from to v at)

move_within : (m : Machine) (i : ℕ) (old : Part) (mv : Move) (new : Part) → IsMove (grounds_of m i) old mv new
    → Within m old → Within m new
move_within m i old (Place w r to passed) new h low =
    let from = low r w h.place h.matched.at in
    let within =
    goes_within (as_to (grounds_of m i) w r) (length (writer_changes (writer_at m w))) (speaks_to m i w r)
    (match_of old r h.publication) (position_at old r h.place) passed to h.end h.goes from in
    subst (λ (q : Part). Within m q) (sym h.after)
    (set_within m old r (with_place (own_proxies old r) w to) low
    (moved_within m (own_proxies old r) w h.place to h.matched.at (low r) within))
move_within m i old (Heard w r) new h low =
    subst (λ (q : Part). Within m q) (sym h.after)
    (set_within m old r (with_heard (own_proxies old r) w h.count) low
    (λ v p e. low r v p (sym (place-heard (own_proxies old r) w h.count v) ∙ e)))
move_within m i old (Acknowledged w r to) new h low = subst (λ (q : Part). Within m q) (sym h.after) low
move_within m i old (Strange w r) new h low = subst (λ (q : Part). Within m q) (sym h.after) low
move_within m i old (HasBegun w r from to) new h low =
    let last = length (writer_changes (writer_at m w)) in
    let start = low r w from h.at in
    let within : to ≤ last + 1 =
    ⊎_elim (λ less.
    let under = passes_within (as_to (grounds_of m i) w r) last (speaks_to m i w r) (own_reader old r).qos (to - 1)
    (h.may_pass (to - 1) (omega (arith, less)) (omega (arith, less))) in
    omega (arith, under))
    (λ more. omega (arith, more, start)) (cases_lt from to) in
    subst (λ (q : Part). Within m q) (sym h.after)
    (set_within m old r (with_begun (own_proxies old r) w to) low
    (begun_within m (own_proxies old r) w from to h.at (low r) within))

moves_within : (m : Machine) (i : ℕ) (old : Part) (ms : List Move) (new : Part) → AreMoves (grounds_of m i) old ms new
    → Within m old → Within m new
moves_within m i old [] new h low = subst (λ (q : Part). Within m q) (sym h) low
moves_within m i old (mv ∷ ms) new h low = moves_within m i h.0 ms new h.2 (move_within m i old mv h.0 h.1 low)

delivery_within : (m : Machine) (i : ℕ) (old : Part) (reply : Reply) (new : Part)
    → DeliveryStep (grounds_of m i) old reply new → Within m old → Within m new
delivery_within m i old (Reported report) new h low = moves_within m i old report.moves new h low
delivery_within m i old reply new h low = absurd h

rows_within : (m : Machine) (old new : Part) → new.rtps.readers ≡ old.rtps.readers → Within m old → Within m new
rows_within m old new e low r =
    subst (λ (rows : List (List WriterProxy)). RowsWithin m (numbered rows r [])) (sym e) (low r)

-- a telling puts a place at 1, or at none
pub told_within : (m : Machine) (old : Part) (t : Telling) (refusal : Option Code) (new : Part)
    → TellStep old t refusal new → Within m old → Within m new
told_within m old t refusal new h low =
    told_so (λ a b. Within m a → Within m b) old t (λ x. x) (λ x r w p e.
    ⊎_elim (λ same. x r w p (sym same ∙ e))
    (λ fresh. let one : 1 ≡ p = same_Some 1 p (sym fresh.1 ∙ e) in omega (arith, one))
    (telling_places old.rtps t r w)) refusal new h low

-- the machine with another part of one peer
pub part_within : (m : Machine) (peer : ℕ) (after : Part) → MachineGrows m (with_part m peer after) → IsBounded m
    → Within m after → IsBounded (with_part m peer after)
part_within m peer after g old new r w p h =
    let longer = writer-changes (writer_at m w) (writer_at (with_part m peer after) w) (g.writers w) in
    let more = ap (λ (xs : List Change). length xs) longer.1 in
    let sum = length-append (writer_changes (writer_at m w)) longer.0 in
    let within : p ≤ length (writer_changes (writer_at m w)) + 1 =
    ⊎_elim (λ e. old r w p (ap (λ (q : Part). place_of (own_proxies q r.number) w) (sym e) ∙ h))
    (λ s. new r.number w p (ap (λ (q : Part). place_of (own_proxies q r.number) w) (sym s.1) ∙ h))
    (numbered-cases m.parts peer after r.peer no_part) in
    omega (arith, more, sum, within)

pub part_bounded : (m : Machine) (i : ℕ) → IsBounded m → Within m (part_at m i)
part_bounded m i b r w p h = b (record { peer = i; number = r }) w p h

pub steps_bounded : (tests : AllTests) (sent : ℕ) (m : Machine) (ev : WorldEvent) (reply : Reply) (new : Machine)
    → IsBounded m → Step tests sent m ev reply new → IsBounded new
steps_bounded tests sent m (world.Call peer call) reply new b (inl h) =
    subst (λ (x : Machine). IsBounded x) (sym h.changed)
    (part_within m peer h.after
    (with_part-grows m peer h.after (CallStep-grows (tests peer) (part_at m peer) call reply h.after h.step)) b
    (⊎_elim
    (λ untold. rows_within m (part_at m peer) h.after
    (CallStep-rows (tests peer) (part_at m peer) call reply h.after h.step untold) (part_bounded m peer b))
    (λ told. told_within m (part_at m peer) told.0 None h.after told.1 (part_bounded m peer b))
    (untold_or_told (tests peer) (part_at m peer) call reply h.after h.step)))
steps_bounded tests sent m (world.Call peer call) reply new b (inr h) =
    subst (λ (x : Machine). IsBounded x) (sym h.1.1) b
steps_bounded tests sent m (world.Tick peer now) reply new b (inl h) =
    subst (λ (x : Machine). IsBounded x) (sym h.changed)
    (part_within m peer h.after
    (with_part-grows m peer h.after (TickStep-grows (part_at m peer) now reply h.after h.step)) b
    (rows_within m (part_at m peer) h.after (TickStep-rows (part_at m peer) now reply h.after h.step)
    (part_bounded m peer b)))
steps_bounded tests sent m (world.Tick peer now) reply new b (inr h) =
    subst (λ (x : Machine). IsBounded x) (sym h.1.1) b
steps_bounded tests sent m (world.Deliver peer packet) reply new b (inl h) =
    subst (λ (x : Machine). IsBounded x) (sym h.2.changed)
    (part_within m peer h.2.after
    (with_part-grows m peer h.2.after
    (DeliveryStep-grows (grounds_of m peer) (part_at m peer) reply h.2.after h.2.step)) b
    (delivery_within m peer (part_at m peer) reply h.2.after h.2.step (part_bounded m peer b)))
steps_bounded tests sent m (world.Deliver peer packet) reply new b (inr h) =
    subst (λ (x : Machine). IsBounded x) (sym h.1.1) b
steps_bounded tests sent m (world.Resume peer k) reply new b (inl h) =
    let made = as_moves (grounds_of m peer) (part_at m peer) k reply h.after h.step in
    subst (λ (x : Machine). IsBounded x) (sym h.changed)
    (part_within m peer h.after
    (with_part-grows m peer h.after (AreMoves-grows (grounds_of m peer) (part_at m peer) made.0 h.after made.1)) b
    (moves_within m peer (part_at m peer) made.0 h.after made.1 (part_bounded m peer b)))
steps_bounded tests sent m (world.Resume peer k) reply new b (inr h) =
    subst (λ (x : Machine). IsBounded x) (sym h.1.1) b

-- at the opening each place is 1
fresh_bounded : (peers : List Peer) (i r : ℕ) (w : Endpoint) (p : ℕ) → IsFresh (numbered peers i no_peer)
    → place_of (own_proxies (numbered peers i no_peer).part r) w ≡ Some p → 1 ≡ p
fresh_bounded peers i r w p f h = fresh_place (own_proxies (numbered peers i no_peer).part r) w p (f.proxies r) h

pub opened_is_fresh : (config : Config) (i : ℕ) → IsFresh (numbered (opening_world config).peers i no_peer)
opened_is_fresh config zero = none_is_fresh
opened_is_fresh config (suc i) = peer_is_fresh config.peers 1 config.peers i

pub opened_bounded : (config : Config) → IsBounded (machine_of (opening_world config))
opened_bounded config r w p h =
    let here = ap (λ (q : Part). place_of (own_proxies q r.number) w) (parts_at (opening_world config) r.peer) in
    let one =
    fresh_bounded (opening_world config).peers r.peer r.number w p (opened_is_fresh config r.peer) (sym here ∙ h) in
    omega (arith, one)

pub opens_bounded : (config : Config) → IsBounded (opening config)
opens_bounded config = subst (λ (m : Machine). IsBounded m) (opening_is config) (opened_bounded config)

run_bounded : (tests : AllTests) (m after : Machine) (events : List WorldEvent) (replies : List Reply) (sent last : ℕ)
    → Run tests sent m events replies last after → IsBounded m → IsBounded after
run_bounded tests m after [] [] sent last run b = subst (λ (x : Machine). IsBounded x) (sym run.0) b
run_bounded tests m after (e ∷ es) (p ∷ ps) sent last run b =
    run_bounded tests (machine_ended m e run.0) after es ps run.1 last run.4
    (ended_bounded m e run.0 (steps_bounded tests sent m e p run.0 b run.2))
run_bounded tests m after [] (p ∷ ps) sent last run b = absurd run
run_bounded tests m after (e ∷ es) [] sent last run b = absurd run

pub runs_bounded : (config : Config) (tests : AllTests) (events : List WorldEvent) (replies : List Reply)
    (last : ℕ) (after : Machine)
    → Run tests 0 (opening config) events replies last after → IsBounded after
runs_bounded config tests events replies last after run =
    run_bounded tests (opening config) after events replies 0 last run (opens_bounded config)
