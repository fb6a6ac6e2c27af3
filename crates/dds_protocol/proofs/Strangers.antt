-- In no run of a network does a reader acknowledge changes that were never made.
use Rattle.std.proofs.Common.{◌≡◌, ℕ, ◌+◌, ◌≤◌, Option, Some, None, List, [], ◌∷◌, refl, ap, inl, inr, arith, length, length-append}
use Rattle.dds_base.specs.declared.change.Change.{Change}
use Rattle.dds_base.specs.declared.config.Config.{Config}
use Rattle.dds_base.specs.declared.endpoint.Endpoint.{Endpoint}
use Rattle.dds_machine.specs.declared.event.WorldEvent.{WorldEvent}
use Rattle.dds_machine.specs.declared.event.WorldEvent.TheVariants as world
use Rattle.dds_machine.specs.declared.reply.Move.{Move}
use Rattle.dds_machine.specs.declared.reply.Move.TheVariants.{Place, Acknowledged, Heard, Begun as HasBegun, Strange}
use Rattle.dds_machine.specs.declared.reply.Reply.{Reply}
use Rattle.dds_machine.specs.declared.reply.Reply.TheVariants.{Reported}
use Rattle.dds_machine.specs.Machine.{AllTests, Machine, Step, grounds_of, part_at, place_at}
use Rattle.dds_machine.specs.Moves.{AreMoves}
use Rattle.dds_machine.specs.Noticing.{machine_ended}
use Rattle.dds_machine.specs.Opening.{opening}
use Rattle.dds_machine.specs.Part.{IsAtMost, Part, Writer, own_writer, writer_changes}
use Rattle.dds_machine.specs.Runs.{Run}
use Rattle.dds_protocol.specs.Bounds.{IsBounded, MeetNoStranger, ReportNoStranger}
use Rattle.dds_protocol.proofs.Bounded.{opens_bounded, steps_bounded}
use Rattle.dds_protocol.proofs.EndsBeside.{ended_bounded}
use Rattle.dds_protocol.proofs.Growth.{IsMove-grows, WriterGrows, writer-changes}

-- a place below a bound of all places
place_below : (base last : ℕ) (place : Option ℕ) → IsAtMost base place → ((p : ℕ) → place ≡ Some p → p ≤ last + 1)
    → base ≤ last + 1
place_below base last None h all = absurd h
place_below base last (Some p) h all = let low = all p refl in omega (arith, h, low)

no_fewer : (old new : Writer) → WriterGrows old new → length (writer_changes old) ≤ length (writer_changes new)
no_fewer old new g =
    let longer = writer-changes old new g in
    let more = ap (λ (xs : List Change). length xs) longer.1 in
    let sum = length-append (writer_changes old) longer.0 in
    omega (arith, more, sum)

-- each writer of the part has no fewer changes than it has in the machine
abbrev HasAll : Machine → ℕ → Part → Type 0
HasAll m i part =
    (w : ℕ) → length (writer_changes (own_writer (part_at m i) w)) ≤ length (writer_changes (own_writer part w))

has_next : (m : Machine) (i : ℕ) (old : Part) (mv : Move) (ms : List Move) (new : Part) → HasAll m i old
    → (h : AreMoves (grounds_of m i) old (mv ∷ ms) new) → HasAll m i h.0
has_next m i old mv ms new has h w =
    let before = has w in
    let grows = no_fewer (own_writer old w) (own_writer h.0 w)
    ((IsMove-grows (grounds_of m i) old mv h.0 h.1).writers w) in
    omega (arith, before, grows)

moves_meet_none : (m : Machine) (i : ℕ) → IsBounded m → (old : Part) (ms : List Move) (new : Part) → HasAll m i old
    → AreMoves (grounds_of m i) old ms new → MeetNoStranger ms
moves_meet_none m i b old [] new has h = tt
moves_meet_none m i b old (Strange w r ∷ ms) new has h =
    let own : Endpoint = record { peer = i; number = w } in
    let low : h.1.base ≤ length (writer_changes (own_writer (part_at m i) w)) + 1 =
    place_below h.1.base (length (writer_changes (own_writer (part_at m i) w))) (place_at m r own) h.1.has_place (b r own) in
    let more = has w in
    let beyond = h.1.beyond in
    absurd (omega (arith, low, more, beyond))
moves_meet_none m i b old (Place w r to passed ∷ ms) new has h =
    moves_meet_none m i b h.0 ms new (has_next m i old (Place w r to passed) ms new has h) h.2
moves_meet_none m i b old (Heard w r ∷ ms) new has h =
    moves_meet_none m i b h.0 ms new (has_next m i old (Heard w r) ms new has h) h.2
moves_meet_none m i b old (Acknowledged w r to ∷ ms) new has h =
    moves_meet_none m i b h.0 ms new (has_next m i old (Acknowledged w r to) ms new has h) h.2
moves_meet_none m i b old (HasBegun w r from to ∷ ms) new has h =
    moves_meet_none m i b h.0 ms new (has_next m i old (HasBegun w r from to) ms new has h) h.2

-- from the part that the machine has
peer_meets_none : (m : Machine) (i : ℕ) → IsBounded m → (ms : List Move) (new : Part)
    → AreMoves (grounds_of m i) (part_at m i) ms new → MeetNoStranger ms
peer_meets_none m i b ms new h = moves_meet_none m i b (part_at m i) ms new (λ w. omega arith) h

run_meets_none : (tests : AllTests) (m after : Machine) (events : List WorldEvent) (replies : List Reply)
    (sent last : ℕ) → Run tests sent m events replies last after → IsBounded m → ReportNoStranger events replies
run_meets_none tests m after [] [] sent last run b = tt
run_meets_none tests m after [] (p ∷ ps) sent last run b = absurd run
run_meets_none tests m after (e ∷ es) [] sent last run b = absurd run
run_meets_none tests m after (e ∷ es) (p ∷ ps) sent last run b =
    by e p run.2
    (run_meets_none tests (machine_ended m e run.0) after es ps run.1 last run.4
    (ended_bounded m e run.0 (steps_bounded tests sent m e p run.0 b run.2)))
  where
    by : (event : WorldEvent) (reply : Reply) → Step tests sent m event reply run.0 → ReportNoStranger es ps
        → ReportNoStranger (event ∷ es) (reply ∷ ps)
    by (world.Call peer call) reply h later = later
    by (world.Tick peer now) reply h later = later
    by (world.Deliver peer packet) (Reported report) (inl h) later =
        (peer_meets_none m peer b report.moves h.2.after h.2.step, later)
    by (world.Deliver peer packet) (Reported report) (inr h) later = let no = h.1.0 in cc
    by (world.Deliver peer packet) reply h later = later
    by (world.Resume peer reader) (Reported report) (inl h) later =
        (peer_meets_none m peer b report.moves h.after h.step.2, later)
    by (world.Resume peer reader) (Reported report) (inr h) later = let no = h.1.0 in cc
    by (world.Resume peer reader) reply h later = later

pub nobody_is_strange : (config : Config) (tests : AllTests) (events : List WorldEvent) (replies : List Reply)
    (last : ℕ) (after : Machine) → Run tests 0 (opening config) events replies last after
    → ReportNoStranger events replies
nobody_is_strange config tests events replies last after run =
    run_meets_none tests (opening config) after events replies 0 last run (opens_bounded config)
