-- While nobody comes or goes a change is passed over only if it was dropped, and packets claim no less.
use Rattle.std.proofs.Common.{◌≡◌, ◌⊎◌, ℕ, ◌+◌, ◌≤◌, ℤ, true, false, List, [], ◌∷◌, Option, None, Some, length, refl, ap, sym, ◌∙◌, inl, inr, ⊎_elim, arith}
use Rattle.std.specs.Prelude.{◌↔◌, IsSome, is_some}
use Rattle.std.specs.Option.{option_map}
use Rattle.std.proofs.Math.Nat.{min-le_left}
use Rattle.dds_base.specs.declared.change.Change.{Change}
use Rattle.dds_protocol.specs.Roster.{Roster}
use Rattle.dds_base.specs.Kept.{is_dropped}
use Rattle.dds_base.specs.Matched.{is_reliable}
use Rattle.dds_base.proofs.PlaceLaws.{SayAsMuch, goes_on}
use Rattle.dds_base.specs.declared.endpoint.Endpoint.{Endpoint}
use Rattle.dds_machine.specs.declared.event.WorldEvent.{WorldEvent}
use Rattle.dds_machine.specs.declared.event.WorldEvent.TheVariants as world
use Rattle.dds_machine.specs.declared.reply.Move.{Move}
use Rattle.dds_machine.specs.declared.reply.Move.TheVariants.{Place, Acknowledged, Heard, Begun as HasBegun, Strange}
use Rattle.dds_machine.specs.declared.reply.Reply.{Reply}
use Rattle.dds_machine.specs.declared.reply.Reply.TheVariants.{Refused, Reported}
use Rattle.dds_machine.specs.Machine.{Machine, AllTests, Step, grounds_of, part_at, place_at, writer_at}
use Rattle.dds_machine.specs.Moves.{Grounds, AreMoves, DeliveryStep, ResumeStep, IsMove, as_to, match_of, position_at}
use Rattle.dds_machine.specs.Noticing.{machine_ended}
use Rattle.dds_machine.specs.Part.{IsAtMost, IsBelow, IsCovered, NoLess, Part, ReaderProxy, acknowledged_of, history_of, owed_from, own_proxies, own_reader, place_of, row_of, writer_changes}
use Rattle.dds_machine.specs.Runs.{Run}
use Rattle.dds_protocol.specs.Claims.{MayPass}
use Rattle.dds_protocol.specs.Closed.{ClosedRun, ClosedStep, IsClosed, NobodyTold, closed_grounds_of}
use Rattle.dds_protocol.specs.World.{Holds, Sound, WorldState, machine_of}
use Rattle.dds_protocol.proofs.Closed.{stays_closed}
use Rattle.dds_protocol.proofs.Composed.{at, passed_over_on}
use Rattle.dds_protocol.proofs.Ends.{SameEnds, ends_same, next_ends}
use Rattle.dds_protocol.proofs.Owing.{first_or}

-- ---- what is owed

least_first : (o : Option ReaderProxy) (n : ℕ) → ((row : ReaderProxy) → o ≡ Some row → row.first ≤ 1)
    → IsSome (option_map (λ (p : ReaderProxy). p.acknowledged) o) → first_or o (n + 1) ≤ 1
least_first None n f h = cc
least_first (Some row) n f h = f row refl

-- a reader of the rows is owed all
pub owed_all : (m : Machine) → IsClosed m → (w r : Endpoint)
    → IsSome (acknowledged_of (writer_at m w).readers r) → owed_from (writer_at m w) r ≤ 1
owed_all m c w r has =
    let n = length (writer_changes (writer_at m w)) in
    let o : Option ReaderProxy = row_of (λ (p : ReaderProxy). p.reader) (writer_at m w).readers r in
    let low = min-le_left (first_or o (n + 1)) (n + 1) in
    let least = least_first o n (λ row e. c.owed w r row e) has in
    omega (arith, low, least)

-- so is each reliable reader that has a place
pub owes_all : (m : Machine) (w r : Endpoint) → IsClosed m → IsSome (place_at m r w)
    → is_reliable (own_reader (part_at m r.peer) r.number).qos.reliability ≡ true → owed_from (writer_at m w) r ≤ 1
owes_all m w r c placed reliable = owed_all m c w r (c.known w r placed reliable)

-- so what a reader that has a place may pass over was dropped
pub passes_dropped : (m : Machine) → IsClosed m → (i r : ℕ) (w : Endpoint) (n : ℕ)
    → IsSome (place_at m (at i r) w) → (grounds_of m i).may_pass w r n
    → is_dropped (history_of (writer_at m w)) n ≡ true
passes_dropped m c i r w n placed h =
    ⊎_elim (λ d. d)
    (λ o.
    let all = owes_all m w (at i r) c placed o.reliable in
    let from = o.from in
    let below = o.below in
    absurd (omega (arith, all, from, below))) h

-- a best-effort reader is told of none that is not owed
pub best_effort_dropped : (m : Machine) (i : ℕ) (w : Endpoint) (r n : ℕ)
    → is_reliable (own_reader (part_at m i) r).qos.reliability ≡ false → (grounds_of m i).may_pass w r n
    → is_dropped (history_of (writer_at m w)) n ≡ true
best_effort_dropped m i w r n best h = ⊎_elim (λ d. d) (λ o. let is = o.reliable in absurd cc) h

-- ---- moves on other grounds

-- where the peer's readers have their places, the second grounds say as much as the first
record SayAll (g k : Grounds) (part : Part) : Type 0 where
  change : (w : Endpoint) (r n : ℕ) (c : Change) → g.is_change w r n c → k.is_change w r n c
  pass : (w : Endpoint) (r n : ℕ) → IsSome (place_of (own_proxies part r) w) → g.may_pass w r n → k.may_pass w r n
  place : (w : ℕ) (r : Endpoint) (base : ℕ) → g.has_place w r base → k.has_place w r base
  hear : (w : Endpoint) (r : ℕ) (count : ℤ) → g.may_hear w r count → k.may_hear w r count

say_on : (g k : Grounds) (old new : Part) → SayAll g k old → SameEnds old new → SayAll g k new
say_on g k old new s e = record {
  change = λ w r n c h. s.change w r n c h;
  pass = λ w r n placed h. s.pass w r n (sym (e.places r w) ∙ placed) h;
  place = λ w r base h. s.place w r base h;
  hear = λ w r count h. s.hear w r count h;
}

move_with : (g k : Grounds) (old : Part) (m : Move) (new : Part) → SayAll g k old → IsMove g old m new
    → IsMove k old m new
move_with g k old (Place w r to passed) new s h =
    let placed : IsSome (place_of (own_proxies old r) w) = ap (λ (o : Option ℕ). is_some o) h.matched.at in
    let says : SayAsMuch (as_to g w r) (as_to k w r) 0 =
    record { is_change = λ n c low q. s.change w r n c q; may_pass = λ n low q. s.pass w r n placed q } in
    record {
      publication = h.publication;
      place = h.place;
      matched = h.matched;
      forward = h.forward;
      end = h.end;
      goes = goes_on (as_to g w r) (as_to k w r) 0 says (match_of old r h.publication) (position_at old r h.place) passed
          to h.end (omega arith) h.goes;
      after = h.after;
    }
move_with g k old (Acknowledged w r to) new s h = record {
  acknowledged = h.acknowledged;
  matched = h.matched;
  forward = h.forward;
  has_place = s.place w r to h.has_place;
  after = h.after;
}
move_with g k old (Strange w r) new s h = record {
  acknowledged = h.acknowledged;
  matched = h.matched;
  base = h.base;
  has_place = s.place w r h.base h.has_place;
  beyond = h.beyond;
  after = h.after;
}
move_with g k old (Heard w r) new s h = record {
  publication = h.publication;
  matched = h.matched;
  here = h.here;
  heard = h.heard;
  last = h.last;
  count = h.count;
  later = h.later;
  may_hear = s.hear w r h.count h.may_hear;
  after = h.after;
}
move_with g k old (HasBegun w r from to) new s h =
    let placed : IsSome (place_of (own_proxies old r) w) = ap (λ (o : Option ℕ). is_some o) h.at in
    let says : SayAsMuch (as_to g w r) (as_to k w r) 0 =
    record { is_change = λ n c low q. s.change w r n c q; may_pass = λ n low q. s.pass w r n placed q } in
    record {
      waits = h.waits;
      at = h.at;
      no_less = h.no_less;
      may_pass = λ n low high.
          passed_over_on (as_to g w r) (as_to k w r) 0 says (own_reader old r).qos n (omega arith) (h.may_pass n low high);
      after = h.after;
    }

moves_with : (g k : Grounds) (first old : Part) (ms : List Move) (new : Part) → SayAll g k first → SameEnds first old
    → AreMoves g old ms new → AreMoves k old ms new
moves_with g k first old [] new s e h = h
moves_with g k first old (m ∷ ms) new s e h = (
  h.0,
  move_with g k old m h.0 (say_on g k first old s e) h.1,
  moves_with g k first h.0 ms new s (next_ends first g old m h.0 e h.1) h.2,
)

delivery_with : (g k : Grounds) (old : Part) (reply : Reply) (new : Part) → SayAll g k old
    → DeliveryStep g old reply new → DeliveryStep k old reply new
delivery_with g k old (Reported report) new s h = moves_with g k old old report.moves new s (ends_same old) h
delivery_with g k old reply new s h = absurd h

resume_with : (g k : Grounds) (old : Part) (n : ℕ) (reply : Reply) (new : Part) → SayAll g k old
    → ResumeStep g old n reply new → ResumeStep k old n reply new
resume_with g k old n (Reported report) new s h =
    (h.0, h.1, moves_with g k old old report.moves new s (ends_same old) h.2)
resume_with g k old n (Refused code) new s h = h
resume_with g k old n reply new s h = absurd h

-- ---- steps

says_closed : (m : Machine) (i : ℕ) → IsClosed m → SayAll (grounds_of m i) (closed_grounds_of m i) (part_at m i)
says_closed m i closed = record {
  change = λ w r n c q. q;
  pass = λ w r n placed q. passes_dropped m closed i r w n placed q;
  place = λ w r base q. q;
  hear = λ w r count q. q;
}

says_open : (m : Machine) (i : ℕ) → SayAll (closed_grounds_of m i) (grounds_of m i) (part_at m i)
says_open m i = record {
  change = λ w r n c q. q;
  pass = λ w r n placed q. inl q;
  place = λ w r base q. q;
  hear = λ w r count q. q;
}

pub delivery_closed : (m : Machine) (i : ℕ) (reply : Reply) (new : Part) → IsClosed m
    → DeliveryStep (grounds_of m i) (part_at m i) reply new → DeliveryStep (closed_grounds_of m i) (part_at m i) reply new
delivery_closed m i reply new closed h =
    delivery_with (grounds_of m i) (closed_grounds_of m i) (part_at m i) reply new (says_closed m i closed) h

pub step_closed : (tests : AllTests) (sent : ℕ) (m : Machine) (ev : WorldEvent) (reply : Reply) (new : Machine)
    → IsClosed m → Step tests sent m ev reply new → ClosedStep tests sent m ev reply new
step_closed tests sent m (world.Call peer c) reply new closed h = h
step_closed tests sent m (world.Tick peer now) reply new closed h = h
step_closed tests sent m (world.Deliver peer packet) reply new closed (inl h) =
    inl (
      h.0,
      h.1,
      record {
        within = h.2.within;
        after = h.2.after;
        step = delivery_closed m peer reply h.2.after closed h.2.step;
        changed = h.2.changed;
      },
    )
step_closed tests sent m (world.Deliver peer packet) reply new closed (inr h) = inr h
step_closed tests sent m (world.Resume peer k) reply new closed (inl h) =
    inl (record {
      within = h.within;
      after = h.after;
      step = resume_with (grounds_of m peer) (closed_grounds_of m peer) (part_at m peer) k reply h.after
          (says_closed m peer closed) h.step;
      changed = h.changed;
    })
step_closed tests sent m (world.Resume peer k) reply new closed (inr h) = inr h

step_open : (tests : AllTests) (sent : ℕ) (m : Machine) (ev : WorldEvent) (reply : Reply) (new : Machine)
    → ClosedStep tests sent m ev reply new → Step tests sent m ev reply new
step_open tests sent m (world.Call peer c) reply new h = h
step_open tests sent m (world.Tick peer now) reply new h = h
step_open tests sent m (world.Deliver peer packet) reply new (inl h) =
    inl (
      h.0,
      h.1,
      record {
        within = h.2.within;
        after = h.2.after;
        step = delivery_with (closed_grounds_of m peer) (grounds_of m peer) (part_at m peer) reply h.2.after
            (says_open m peer) h.2.step;
        changed = h.2.changed;
      },
    )
step_open tests sent m (world.Deliver peer packet) reply new (inr h) = inr h
step_open tests sent m (world.Resume peer k) reply new (inl h) =
    inl (record {
      within = h.within;
      after = h.after;
      step = resume_with (closed_grounds_of m peer) (grounds_of m peer) (part_at m peer) k reply h.after
          (says_open m peer) h.step;
      changed = h.changed;
    })
step_open tests sent m (world.Resume peer k) reply new (inr h) = inr h

-- ---- runs

run_closed : (tests : AllTests) (sent : ℕ) (m : Machine) (events : List WorldEvent) (replies : List Reply) (last : ℕ)
    (new : Machine) → NobodyTold events → IsClosed m → Run tests sent m events replies last new
    → ClosedRun tests sent m events replies last new
run_closed tests sent m [] [] last new none c h = h
run_closed tests sent m [] (reply ∷ replies) last new none c h = absurd h
run_closed tests sent m (ev ∷ events) [] last new none c h = absurd h
run_closed tests sent m (ev ∷ events) (reply ∷ replies) last new none c h = (
  h.0,
  h.1,
  step_closed tests sent m ev reply h.0 c h.2,
  h.3,
  run_closed tests h.1 (machine_ended m ev h.0) events replies last new none.1
      (stays_closed tests sent m ev reply h.0 none.0 c h.2) h.4,
)

run_open : (tests : AllTests) (sent : ℕ) (m : Machine) (events : List WorldEvent) (replies : List Reply) (last : ℕ)
    (new : Machine) → ClosedRun tests sent m events replies last new → Run tests sent m events replies last new
run_open tests sent m [] [] last new h = h
run_open tests sent m [] (reply ∷ replies) last new h = absurd h
run_open tests sent m (ev ∷ events) [] last new h = absurd h
run_open tests sent m (ev ∷ events) (reply ∷ replies) last new h = (
  h.0,
  h.1,
  step_open tests sent m ev reply h.0 h.2,
  h.3,
  run_open tests h.1 (machine_ended m ev h.0) events replies last new h.4,
)

pub runs_alike : (tests : AllTests) (sent : ℕ) (m : Machine) (events : List WorldEvent) (replies : List Reply) (last : ℕ)
    (new : Machine) → NobodyTold events → IsClosed m
    → Run tests sent m events replies last new ↔ ClosedRun tests sent m events replies last new
runs_alike tests sent m events replies last new none c = (
  λ h. run_closed tests sent m events replies last new none c h,
  λ h. run_open tests sent m events replies last new h,
)

-- ---- claims

pub claims_dropped : (m : Machine) (w r : Endpoint) (n : ℕ) → IsClosed m
    → IsSome (acknowledged_of (writer_at m w).readers r) → 1 ≤ n → Holds m (MayPass w r n)
    → (is_dropped (history_of (writer_at m w)) n ≡ true) ⊎ IsBelow n (place_at m r w)
claims_dropped m w r n c has least h =
    let all = owed_all m c w r has in
    ⊎_elim (λ d. inl d) (λ o. ⊎_elim (λ below. absurd (omega (arith, all, least, below))) (λ past. inr past) o) h

-- what is acknowledged, where all is owed from 1 on, and the place is no lower
no_more : (a : Option ℕ) (owed : ℕ) (place : Option ℕ) → (IsSome a → owed ≤ 1) → (IsSome a → IsAtMost 1 place)
    → IsCovered a owed place → NoLess a place
no_more None owed place all placed h = tt
no_more (Some a) owed place all placed (inr h) = h
no_more (Some a) owed None all placed (inl h) = absurd (placed refl)
no_more (Some a) owed (Some p) all placed (inl h) =
    let least = placed refl in let most = all refl in omega (arith, least, most, h)

pub acknowledges_no_more : (roster : Roster) (world : WorldState) (w r : Endpoint) → Sound roster world
    → IsClosed (machine_of world)
    → NoLess (acknowledged_of (writer_at (machine_of world) w).readers r) (place_at (machine_of world) r w)
acknowledges_no_more roster world w r sound c =
    let m : Machine = machine_of world in
    no_more (acknowledged_of (writer_at m w).readers r) (owed_from (writer_at m w) r) (place_at m r w)
    (λ has. owed_all m c w r has) (λ has. c.placed w r has) (sound.acknowledged w r)
