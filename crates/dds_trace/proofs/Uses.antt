-- An event adds at most one WaitSet in which somebody waits; the end of a wait ends one.
use Rattle.std.proofs.Common.{◌≡◌, ℕ, zero, suc, ◌+◌, ◌-◌, ◌≤◌, ◌==◌, Bool, true, false, List, [], ◌∷◌, ◌++◌, get_or, map, refl, ap, sym, ◌∙◌, subst, inl, inr, ◌⊎◌, arith}
use Rattle.std.specs.Prelude.{Option, Some, None, is_some, set, length, if◌then◌else◌}
use Rattle.std.specs.List.{filter}
use Rattle.std.specs.Option.{option_map}
use Rattle.rtps_wire.specs.declared.submessage.Submessage.{Submessage}
use Rattle.dds_base.specs.declared.code.Code.{Code}
use Rattle.dds_base.specs.declared.code.Code.TheVariants as code
use Rattle.dds_protocol.specs.Roster.{Roster}
use Rattle.dds_base.specs.declared.guid.GuidPrefix.{GuidPrefix}
use Rattle.dds_base.specs.Number.{at_number}
use Rattle.dds_conditions.specs.declared.condition.Cond.{Cond}
use Rattle.dds_conditions.specs.declared.waiting.Waiting.{Waiting}
use Rattle.dds_conditions.specs.Watched.{Watched, use_refusal, with_deadline, with_wait_set_at, without}
use Rattle.dds_machine.specs.declared.call.Call.{Call}
use Rattle.dds_machine.specs.declared.call.Call.TheVariants.{WaitLook, WaitEnd}
use Rattle.dds_protocol.specs.declared.event.Event.{Event}
use Rattle.dds_protocol.specs.declared.event.Event.TheVariants as event
use Rattle.dds_protocol.specs.declared.event.Output.{Output}
use Rattle.dds_machine.specs.declared.reply.Move.{Move}
use Rattle.dds_machine.specs.declared.reply.Move.TheVariants.{Place, Acknowledged, Heard, Begun, Strange}
use Rattle.dds_machine.specs.declared.reply.Reply.{Reply}
use Rattle.dds_machine.specs.declared.reply.Reply.TheVariants.{Active, Done, Reported, Refused, Waiting as WaitsOn}
use Rattle.dds_machine.specs.Part.{Part, Dds}
use Rattle.dds_machine.specs.Moves.{Grounds, IsMove, AreMoves}
use Rattle.dds_protocol.specs.Claims.{Receiver, after_submessage}
use Rattle.dds_protocol.specs.Receipt.{TakesUp}
use Rattle.dds_machine.specs.Calls.{IsAnsweredWatching, AnswersLook}
use Rattle.dds_protocol.specs.Noticing.{peer_at_end}
use Rattle.dds_protocol.specs.Peer.{Peer, EventStep}
use Rattle.dds_machine.specs.Watching.{Tests}
use Rattle.dds_protocol.proofs.CallChanges.{SetsChange, as_before, one_changed, one_made, all_without, CallChange, unchanged, reads, takes, looks, sees_matches, is_told, telling_watch, watches, changes_of}
use Rattle.dds_protocol.proofs.AtEnds.{end_watch}
use Rattle.dds_core.specs.Listening.{CoreKept, StandsFor, Steps}
use Rattle.dds_core.specs.Ruling.{IsSound}
use Rattle.dds_notices.specs.declared.notice.Notice.{Notice}
use Rattle.dds_notices.specs.Listeners.{ByEntity}
use Rattle.dds_conditions.specs.Watched.{is_used, uses_in}
use Rattle.dds_trace.specs.Uses.{in_use_of, IsInUse}

-- ---- lists

one_at_most : (b : Bool) → (if b then 1 else 0) ≤ 1
one_at_most true = omega arith
one_at_most false = omega arith

-- in how many of these somebody waits, one after the other
abbrev uses_of : List (Option Waiting) → ℕ
uses_of [] = 0
uses_of (w ∷ ws) = (if is_used w then 1 else 0) + uses_of ws

one_counted : (b : Bool) (w : Option Waiting) (used : List (Option Waiting)) (n : ℕ) → length used ≡ n
    → length (if b then w ∷ used else used) ≡ (if b then 1 else 0) + n
one_counted true w used n h = omega (arith, h)
one_counted false w used n h = omega (arith, h)

uses_are : (ws : List (Option Waiting)) → uses_in ws ≡ uses_of ws
uses_are [] = refl
uses_are (w ∷ ws) = one_counted (is_used w) w (filter is_used ws) (uses_of ws) (uses_are ws)

set_uses : (ws : List (Option Waiting)) (k : ℕ) (v : Option Waiting) → uses_of (set ws k v) ≤ uses_of ws + 1
set_uses [] k v = omega arith
set_uses (w ∷ ws) zero v = omega (arith, one_at_most (is_used v))
set_uses (w ∷ ws) (suc k) v = omega (arith, set_uses ws k v)

more_uses : (ws : List (Option Waiting)) (v : Option Waiting) → uses_of (ws ++ v ∷ []) ≤ uses_of ws + 1
more_uses [] v = omega (arith, one_at_most (is_used v))
more_uses (w ∷ ws) v = omega (arith, more_uses ws v)

used_without : (c : Cond) (w : Option Waiting) → is_used (without c w) ≡ is_used w
used_without c None = refl
used_without c (Some s) = refl

without_uses : (c : Cond) (ws : List (Option Waiting)) → uses_of (map (without c) ws) ≡ uses_of ws
without_uses c [] = refl
without_uses c (w ∷ ws) =
    ap (λ (b : Bool). (if b then 1 else 0) + uses_of (map (without c) ws)) (used_without c w)
    ∙ ap (λ (n : ℕ). (if is_used w then 1 else 0) + n) (without_uses c ws)

-- ---- events

abbrev OneMore : Dds → Dds → Type 0
OneMore old new = uses_of new.watch.wait_sets ≤ uses_of old.watch.wait_sets + 1

as_it_was : (old new : Dds) → new.watch.wait_sets ≡ old.watch.wait_sets → OneMore old new
as_it_was old new e = omega (arith, ap uses_of e)

sets_use : (old new : List (Option Waiting)) → SetsChange old new → uses_of new ≤ uses_of old + 1
sets_use old new (as_before is) = omega (arith, ap uses_of is)
sets_use old new (one_changed index w is) = omega (arith, ap uses_of is, set_uses old index w)
sets_use old new (one_made w is) = omega (arith, ap uses_of is, more_uses old w)
sets_use old new (all_without c is) = omega (arith, ap uses_of is, without_uses c old)

call_uses : (old : Part) (new : Dds) → CallChange old new → OneMore old.dds new
call_uses old new (unchanged is) = as_it_was old.dds new (ap (λ (d : Dds). d.watch.wait_sets) is)
call_uses old new (reads r samples is) = as_it_was old.dds new (ap (λ (d : Dds). d.watch.wait_sets) is)
call_uses old new (takes r samples is) = as_it_was old.dds new (ap (λ (d : Dds). d.watch.wait_sets) is)
call_uses old new (looks r seen is) = as_it_was old.dds new (ap (λ (d : Dds). d.watch.wait_sets) is)
call_uses old new (sees_matches r is) = as_it_was old.dds new (ap (λ (d : Dds). d.watch.wait_sets) is)
call_uses old new (is_told t is) =
    as_it_was old.dds new
    (ap (λ (d : Dds). d.watch.wait_sets) is ∙ ap (λ (w : Watched). w.wait_sets) (telling_watch old t))
call_uses old new (watches after filters sets is) =
    omega (arith, ap (λ (d : Dds). uses_of d.watch.wait_sets) is, sets_use old.dds.watch.wait_sets after.wait_sets sets)

abbrev SameSets : Part → Part → Type 0
SameSets old new = new.dds.watch.wait_sets ≡ old.dds.watch.wait_sets

move_keeps : (g : Grounds) (old : Part) (m : Move) (new : Part) → IsMove g old m new → SameSets old new
move_keeps g old (Place w r to passed) new h = ap (λ (p : Part). p.dds.watch.wait_sets) h.after
move_keeps g old (Acknowledged w r to) new h = ap (λ (p : Part). p.dds.watch.wait_sets) h.after
move_keeps g old (Heard w r) new h = ap (λ (p : Part). p.dds.watch.wait_sets) h.after
move_keeps g old (Strange w r) new h = ap (λ (p : Part). p.dds.watch.wait_sets) h.after
move_keeps g old (Begun w r from to) new h = ap (λ (p : Part). p.dds.watch.wait_sets) h.after

moves_keep : (g : Grounds) (old : Part) (ms : List Move) (new : Part) → AreMoves g old ms new → SameSets old new
moves_keep g old [] new h = ap (λ (p : Part). p.dds.watch.wait_sets) h
moves_keep g old (m ∷ ms) new h = moves_keep g h.0 ms new h.2 ∙ move_keeps g old m h.0 h.1

taken_keeps : (roster : Roster) (grounds : ℕ → Grounds) (peer : ℕ) (own : GuidPrefix) (index : ℕ) (at : Receiver)
    (submessages : List Submessage) (old : Part) (moves : List Move) (refused : Option ℕ) (new : Part)
    → TakesUp roster grounds peer own index at submessages old moves refused new → SameSets old new
taken_keeps roster grounds peer own index at [] old moves refused new h =
    ap (λ (p : Part). p.dds.watch.wait_sets) h.2
taken_keeps roster grounds peer own index at (s ∷ rest) old moves refused new (inl h) =
    ap (λ (p : Part). p.dds.watch.wait_sets) h.2
taken_keeps roster grounds peer own index at (s ∷ rest) old moves refused new (inr h) =
    taken_keeps roster grounds peer own (index + 1) (after_submessage own at s) rest h.2 h.1 refused new h.6
    ∙ moves_keep (grounds index) old h.0 h.2 h.4

event_uses : (roster : Roster) (tests : Tests) (old : Peer) (ev : Event) (reply : Reply) (new : Peer)
    → EventStep roster tests old ev reply new → OneMore old.part.dds new.part.dds
event_uses roster tests old (event.Call call) reply new h =
    call_uses old.part new.part.dds (changes_of tests old.part call reply new.part.dds h.0.answers)
event_uses roster tests old (event.Tick now) Done new h =
    as_it_was old.part.dds new.part.dds (ap (λ (p : Part). p.dds.watch.wait_sets) h.0.1)
event_uses roster tests old (event.Tick now) (Refused code) new h =
    as_it_was old.part.dds new.part.dds (ap (λ (p : Part). p.dds.watch.wait_sets) h.0.1)
event_uses roster tests old (event.Tick now) reply new h = absurd h.0
event_uses roster tests old (event.Deliver packet) (Reported report) new (inl t, delivered) =
    as_it_was old.part.dds new.part.dds
    (taken_keeps roster _ old.number _ 0 _ t.message.submessages old.part report.moves report.refused new.part t.taken)
event_uses roster tests old (event.Deliver packet) (Reported report) new (inr t, delivered) =
    as_it_was old.part.dds new.part.dds (ap (λ (p : Part). p.dds.watch.wait_sets) t.after)
event_uses roster tests old (event.Deliver packet) reply new h = absurd h
event_uses roster tests old (event.Resume reader) (Reported report) new h =
    as_it_was old.part.dds new.part.dds (moves_keep _ old.part report.moves new.part h.0.2)
event_uses roster tests old (event.Resume reader) (Refused code) new h =
    as_it_was old.part.dds new.part.dds (ap (λ (p : Part). p.dds.watch.wait_sets) h.0.2)
event_uses roster tests old (event.Resume reader) reply new h = absurd h.0

-- ---- the end of a wait

none_left : (b : Bool) (ws : List (Option Waiting)) (k : ℕ) (s : Waiting) → is_some s.deadline ≡ true
    → get_or ws k None ≡ Some s
    → uses_of (set ws k (Some (record s { deadline = None }))) + 1 ≡ uses_of ws
none_left b [] k s used at = absurd cc
none_left b (w ∷ ws) zero s used at =
    let one : ℕ = 1 in
    let here : (if is_used w then 1 else 0) ≡ one =
    ap (λ (x : Option Waiting). let n : ℕ = if is_used x then 1 else 0 in n) at
    ∙ ap (λ (c : Bool). let n : ℕ = if c then 1 else 0 in n) used in
    omega (arith, here)
none_left b (w ∷ ws) (suc k) s used at = omega (arith, none_left b ws k s used at)

-- the number is that of one in which somebody waits
used_at : (ws : List (Option Waiting)) (n : ℕ) (b : Bool) → (n == 0) ≡ b → is_used (at_number ws n) ≡ true
    → at_number ws n ≡ get_or ws (n - 1) None
used_at ws n true is used =
    let none : at_number ws n ≡ None = ap (λ (c : Bool). if c then None else get_or ws (n - 1) None) is in
    let not : is_used (at_number ws n) ≡ false = ap is_used none in
    absurd cc
used_at ws n false is used = ap (λ (c : Bool). if c then None else get_or ws (n - 1) None) is

not_at : (ws : List (Option Waiting)) (k : ℕ) (s : Waiting)
    → is_used (get_or (set ws k (Some (record s { deadline = None }))) k None) ≡ false
not_at [] k s = refl
not_at (w ∷ ws) zero s = refl
not_at (w ∷ ws) (suc k) s = not_at ws k s

not_used : (ws : List (Option Waiting)) (n : ℕ) (s : Waiting) (b : Bool) → (n == 0) ≡ b
    → is_used (at_number (set ws (n - 1) (Some (record s { deadline = None }))) n) ≡ true → ⊥
not_used ws n s true is used =
    let none : at_number (set ws (n - 1) (Some (record s { deadline = None }))) n ≡ None =
    ap (λ (c : Bool). if c then None else get_or (set ws (n - 1) (Some (record s { deadline = None }))) (n - 1) None) is in
    let not : is_used (at_number (set ws (n - 1) (Some (record s { deadline = None }))) n) ≡ false = ap is_used none in
    absurd cc
not_used ws n s false is used =
    let there : at_number (set ws (n - 1) (Some (record s { deadline = None }))) n
    ≡ get_or (set ws (n - 1) (Some (record s { deadline = None }))) (n - 1) None =
    ap (λ (c : Bool). if c then None else get_or (set ws (n - 1) (Some (record s { deadline = None }))) (n - 1) None) is in
    let not = ap is_used there ∙ not_at ws (n - 1) s in
    absurd cc

abbrev Ended : List (Option Waiting) → ℕ → Dds → Type 0
Ended ws n new = (uses_of new.watch.wait_sets + 1 ≡ uses_of ws) × (is_used (at_number new.watch.wait_sets n) ≡ true → ⊥)

ended_at : (found : Option Waiting) (ws : List (Option Waiting)) (n : ℕ) (answer : Reply) (old : Part) (reply : Reply)
    (new : Dds)
    → ws ≡ old.dds.watch.wait_sets → at_number ws n ≡ found → is_used found ≡ true
    → IsAnsweredWatching (use_refusal found) answer
    (with_wait_set_at old.dds.watch n (option_map (λ (s : Waiting). record s { deadline = None }) found)) old reply new
    → Ended ws n new
ended_at None ws n answer old reply new same at used a = absurd cc
ended_at (Some s) ws n answer old reply new same at used a =
    let none : use_refusal (Some s) ≡ None = ap (λ (b : Bool). if b then None else Some code.PreconditionNotMet) used in
    let P : Option Code → Type 0 = λ r. IsAnsweredWatching r answer
    (with_wait_set_at old.dds.watch n (Some (record s { deadline = None }))) old reply new in
    let done : P None = subst P none a in
    let sets : new.watch.wait_sets ≡ set ws (n - 1) (Some (record s { deadline = None })) =
    ap (λ (d : Dds). d.watch.wait_sets) done.1
    ∙ ap (λ (xs : List (Option Waiting)). set xs (n - 1) (Some (record s { deadline = None }))) (sym same) in
    let is_there : get_or ws (n - 1) None ≡ Some s =
    sym (used_at ws n (n == 0) refl (ap is_used at ∙ used)) ∙ at in (
      omega (arith, ap uses_of sets, none_left true ws (n - 1) s used is_there),
      λ still. not_used ws n s (n == 0) refl
          (ap (λ (xs : List (Option Waiting)). is_used (at_number xs n)) (sym sets) ∙ still),
    )

ends_sets : (ws : List (Option Waiting)) (n : ℕ) (answer : Reply) (old : Part) (reply : Reply) (new : Dds)
    → ws ≡ old.dds.watch.wait_sets → is_used (at_number ws n) ≡ true
    → IsAnsweredWatching (use_refusal (at_number old.dds.watch.wait_sets n)) answer (with_deadline old.dds.watch n None)
    old reply new
    → Ended ws n new
ends_sets ws n answer old reply new same used a =
    ended_at (at_number ws n) ws n answer old reply new same refl used
    (subst (λ (xs : List (Option Waiting)). IsAnsweredWatching (use_refusal (at_number xs n)) answer
    (with_wait_set_at old.dds.watch n (option_map (λ (s : Waiting). record s { deadline = None }) (at_number xs n)))
    old reply new) (sym same) a)

-- ---- a look that is the last one

abbrev Unused : List (Option Waiting) → ℕ → Type 0
Unused ws n = is_used (at_number ws n) ≡ true → ⊥

-- whoever is refused for it does not wait
not_refused : (found : Option Waiting) (c : Code) → use_refusal found ≡ Some c → is_used found ≡ true → ⊥
not_refused None c refused used = absurd cc
not_refused (Some s) c refused used =
    let none : use_refusal (Some s) ≡ None = ap (λ (b : Bool). if b then None else Some code.PreconditionNotMet) used in
    absurd cc

unused_still : (refusal : Option Code) (n : ℕ) (old new : Dds) → use_refusal (at_number old.watch.wait_sets n) ≡ refusal
    → is_some refusal ≡ true → new ≡ old → Unused new.watch.wait_sets n
unused_still None n old new refused there same used = absurd cc
unused_still (Some c) n old new refused there same used =
    not_refused (at_number old.watch.wait_sets n) c refused
    (ap (λ (d : Dds). is_used (at_number d.watch.wait_sets n)) (sym same) ∙ used)

waits_there : (b : Bool) → (if b then None else Some code.PreconditionNotMet) ≡ None → b ≡ true
waits_there true free = refl
waits_there false free = absurd cc

used_or_not : (b : Bool) → (b ≡ true) ⊎ (b ≡ false)
used_or_not true = inl refl
used_or_not false = inr refl

-- who is not refused for it waits
unrefused : (found : Option Waiting) → use_refusal found ≡ None → is_used found ≡ true
unrefused None free = absurd cc
unrefused (Some s) free = waits_there (is_some s.deadline) free

-- a look that found nothing true, and does not say so, was refused
unused_waiting : (refusal : Option Code) (n : ℕ) (old : Part) (reply : Reply) (new : Dds)
    → use_refusal (at_number old.dds.watch.wait_sets n) ≡ refusal
    → IsAnsweredWatching refusal WaitsOn old.dds.watch old reply new → (reply ≡ WaitsOn → ⊥)
    → Unused new.watch.wait_sets n
unused_waiting (Some c) n old reply new is a over = unused_still (Some c) n old.dds new is refl a.1
unused_waiting None n old reply new is a over = absurd (over a.0)

-- answered by the end of the wait, or refused for want of it
unused_after : (refusal : Option Code) (n : ℕ) (answer : Reply) (old : Part) (reply : Reply) (new : Dds)
    → use_refusal (at_number old.dds.watch.wait_sets n) ≡ refusal
    → IsAnsweredWatching refusal answer (with_deadline old.dds.watch n None) old reply new
    → Unused new.watch.wait_sets n
unused_after (Some c) n answer old reply new is a = unused_still (Some c) n old.dds new is refl a.1
unused_after None n answer old reply new is a =
    elim (used_or_not (is_used (at_number old.dds.watch.wait_sets n))) [
      | inl used ↦ (ends_sets old.dds.watch.wait_sets n answer old reply new refl used
          (subst (λ (r : Option Code). IsAnsweredWatching r answer (with_deadline old.dds.watch n None) old reply new)
          (sym is) a)).1
      | inr free ↦ absurd (let r = unrefused (at_number old.dds.watch.wait_sets n) is in cc)
    ]

look_unused : (active : List Cond) (timed_out : Bool) (old : Part) (n : ℕ) (reply : Reply) (new : Dds)
    → AnswersLook active timed_out old n reply new → (reply ≡ WaitsOn → ⊥) → (reply ≡ Refused code.Memory → ⊥)
    → Unused new.watch.wait_sets n
look_unused [] true old n reply new a over found =
    unused_after (use_refusal (at_number old.dds.watch.wait_sets n)) n (Refused code.Timeout) old reply new refl a
look_unused [] false old n reply new a over found =
    unused_waiting (use_refusal (at_number old.dds.watch.wait_sets n)) n old reply new refl a over
look_unused (c ∷ cs) timed_out old n reply new (inl a) over found =
    unused_after (use_refusal (at_number old.dds.watch.wait_sets n)) n (Active (c ∷ cs)) old reply new refl a
look_unused (c ∷ cs) timed_out old n reply new (inr a) over found = absurd (found a.2)

-- ---- a core

module _ {F L : Type 0} (notices : L → List Notice) (capacity : L → ℕ)
    (becomes : L → Notice → L → Type 0) (given : ByEntity L) where
  -- an event adds at most one wait
  pub one_more : (tests : Tests) (roster : Roster) (peer : Peer) (old new : CoreKept F L) (ev : Event) (o : Output)
      → StandsFor notices capacity becomes given old roster peer → IsSound roster peer
      → Steps notices capacity becomes tests old ev o new → in_use_of new ≤ in_use_of old + 1
  one_more tests roster peer old new ev o stands sound h =
      let m = h.meets given roster peer stands sound in
      let r = h.step given m.roster m.alike m.stands m.sound m.has in
      let stepped : Peer = r.0 in
      let step : OneMore m.alike.part.dds stepped.part.dds =
      event_uses m.roster tests m.alike ev o.reply stepped r.1.step in
      let earlier = uses_are m.alike.part.dds.watch.wait_sets in
      let later = uses_are stepped.part.dds.watch.wait_sets in
      let before = ap (λ (w : Watched). uses_in w.wait_sets) m.stands.stands.stands.watch in
      let after = ap (λ (w : Watched). uses_in w.wait_sets) (r.3.stands.stands.watch) in
      let ended = ap (λ (w : Watched). uses_in w.wait_sets) (end_watch m.alike.part stepped.part) in
      omega (arith, step, before, after, ended, earlier, later)

  -- the end of a wait ends that one
  pub ends_one : (tests : Tests) (roster : Roster) (peer : Peer) (old new : CoreKept F L) (s : ℕ) (o : Output)
      → StandsFor notices capacity becomes given old roster peer → IsSound roster peer → IsInUse old s
      → Steps notices capacity becomes tests old (event.Call (WaitEnd s)) o new
      → (in_use_of new + 1 ≡ in_use_of old) × (IsInUse new s → ⊥)
  ends_one tests roster peer old new s o stands sound used h =
      let r = h.step given roster peer stands sound tt in
      let stepped : Peer = r.0 in
      let before : peer.part.dds.watch ≡ old.filtered.peer.watch = stands.stands.stands.watch in
      let after : (peer_at_end peer stepped).part.dds.watch ≡ new.filtered.peer.watch = r.3.stands.stands.watch in
      let ended : (peer_at_end peer stepped).part.dds.watch ≡ stepped.part.dds.watch =
      end_watch peer.part stepped.part in
      let earlier = uses_are peer.part.dds.watch.wait_sets in
      let later = uses_are stepped.part.dds.watch.wait_sets in
      let here : is_used (at_number peer.part.dds.watch.wait_sets s) ≡ true =
      ap (λ (w : Watched). is_used (at_number w.wait_sets s)) before ∙ used in
      let e = ends_sets peer.part.dds.watch.wait_sets s Done peer.part o.reply stepped.part.dds refl here
      r.1.step.0.answers in
      let sets : new.filtered.peer.watch.wait_sets ≡ stepped.part.dds.watch.wait_sets =
      ap (λ (w : Watched). w.wait_sets) (sym after ∙ ended) in (
        omega (arith, ap uses_in sets, e.0, ap (λ (w : Watched). uses_in w.wait_sets) before, earlier, later),
        λ still. e.1 (ap (λ (ws : List (Option Waiting)). is_used (at_number ws s)) (sym sets) ∙ still),
      )

  -- a look that answers ends the wait, if there was one
  pub look_ends : (tests : Tests) (roster : Roster) (peer : Peer) (old new : CoreKept F L) (s : ℕ) (o : Output)
      → StandsFor notices capacity becomes given old roster peer → IsSound roster peer
      → Steps notices capacity becomes tests old (event.Call (WaitLook s)) o new
      → (o.reply ≡ WaitsOn → ⊥) → (o.reply ≡ Refused code.Memory → ⊥) → IsInUse new s → ⊥
  look_ends tests roster peer old new s o stands sound h over found still =
      let r = h.step given roster peer stands sound tt in
      let stepped : Peer = r.0 in
      let after : (peer_at_end peer stepped).part.dds.watch ≡ new.filtered.peer.watch = r.3.stands.stands.watch in
      let ended : (peer_at_end peer stepped).part.dds.watch ≡ stepped.part.dds.watch =
      end_watch peer.part stepped.part in
      let sets : new.filtered.peer.watch.wait_sets ≡ stepped.part.dds.watch.wait_sets =
      ap (λ (w : Watched). w.wait_sets) (sym after ∙ ended) in
      look_unused _ _ peer.part s o.reply stepped.part.dds r.1.step.0.answers over found
      (ap (λ (ws : List (Option Waiting)). is_used (at_number ws s)) (sym sets) ∙ still)
