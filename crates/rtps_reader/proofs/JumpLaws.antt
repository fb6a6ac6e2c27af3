-- How the place of a best-effort reader goes on: a change comes over all numbers before its own, or nothing is done.
use Rattle.std.proofs.Common.{◌≡◌, ℕ, ◌<◌, ◌≤◌, ◌+◌, ◌-◌, ◌%◌, Bool, true, false, cond, eqb, ◌&&◌, List, [], ◌∷◌, get_or, inl, inr, refl, sym, ap, ◌∙◌, subst, arith}
use Rattle.std.specs.Prelude.{◌⊎◌, Option, None, is_some, nat_le, nat_lt, if◌then◌else◌}
use Rattle.std.proofs.lemmas.Bool.{cases_eq, cases_lt, eq-eqb, ne_eqb, le-leb, lt-leb, lt-ltb, le-ltb}
use Rattle.std.proofs.lemmas.Bool.Decides.{nat_tests}
use Rattle.dds_base.specs.declared.change.Change.{Change}
use Rattle.dds_base.specs.declared.happening.Arrival.{Arrival}
use Rattle.dds_base.specs.declared.happening.Happening.{Happening}
use Rattle.dds_base.specs.declared.happening.Happening.TheVariants.{Came, Passed}
use Rattle.dds_base.specs.declared.happening.PassedRun.{PassedRun}
use Rattle.dds_base.specs.declared.qos.ReaderQos.{ReaderQos}
use Rattle.dds_base.specs.Places.{Match, coming}
use Rattle.dds_base.specs.Presence.{has_room}
use Rattle.rtps_sets.specs.Window.{Marks, mark_of, window_place}
use Rattle.rtps_sets.specs.declared.window.Mark.{Mark}
use Rattle.rtps_sets.proofs.MarkLaws.{in_window, above_window, mark_outside, same_place}
use Rattle.rtps_reader.specs.declared.step.Step.{Step}
use Rattle.rtps_reader.specs.declared.writer_proxy.Source.{Source}
use Rattle.rtps_reader.specs.Advance.{Stays}
use Rattle.rtps_reader.specs.Answer.{IsIdle}
use Rattle.rtps_reader.specs.Entering.{NoneTakenAhead}
use Rattle.rtps_reader.specs.HeldChanges.{held_at}
use Rattle.rtps_reader.specs.Jump.{HasJumped, JumpsIf, comes, jumped_to, passed_from}
use Rattle.rtps_reader.specs.Moving.{HasMoved, JumpMoves, match_of}
use Rattle.rtps_reader.specs.Proxy.{slot_from}
use Rattle.rtps_reader.specs.Sound.{Keeps, says_held}
use Rattle.rtps_reader.specs.Tracked.{Tracked, SameTracked}
use Rattle.rtps_reader.proofs.KeptLaws.{earlier, mark_stays}
use Rattle.rtps_reader.proofs.MoveLaws.{same_is}
use Rattle.rtps_reader.proofs.RoomLaws.{room_passed}

-- ---- what is held below the new place

-- one place more is empty
pub forgotten_more : (from number n : ℕ) (old now new : Option Change) → from ≤ number → number < from + 256 → from ≤ n
    → n < from + 256 → now ≡ cond (nat_lt n number) None old
    → new ≡ cond (eqb (n % 256) (number % 256)) None now → new ≡ cond (nat_lt n (number + 1)) None old
forgotten_more from number n old now new low high above below was is = by (cases_eq number n)
  where
    place : eqb (n % 256) (number % 256) ≡ eqb number n
    place = same_place from number n (in_window from number low high) (in_window from n above below)

    by : (number ≡ n) ⊎ (number ≡ n → ⊥) → new ≡ cond (nat_lt n (number + 1)) None old
    by (inl same) =
        is ∙ (ap (λ (b : Bool). cond b None now) (place ∙ eq-eqb number n same)
        ∙ sym (ap (λ (b : Bool). cond b None old) (lt-ltb n (number + 1) (omega (arith, same)))))
    by (inr other) =
        let next : nat_lt n number ≡ nat_lt n (number + 1) = grind (arith, nat_tests) in
        is ∙ (ap (λ (b : Bool). cond b None now) (place ∙ ne_eqb number n other)
        ∙ (was ∙ ap (λ (b : Bool). cond b None old) next))

-- where the place goes on to a number, and what was held below it is gone
pub record JumpsOver (w now : Marks) (held more : List (Option Change)) (to : ℕ) : Type 0 where
  pub forward : window_place w ≤ to
  pub place : window_place now ≡ to
  pub marks : (n : ℕ) → mark_of now n ≡ cond (nat_le to n) (mark_of w n) None
  pub places : (n : ℕ) → window_place w ≤ n → n < window_place w + 256
      → held_at more n ≡ cond (nat_lt n to) None (held_at held n)

jumped_mark : (w now : Marks) (held more : List (Option Change)) (to n : ℕ) → JumpsOver w now held more to → to ≤ n
    → mark_of now n ≡ mark_of w n
jumped_mark w now held more to n j le =
    mark_stays (nat_le to n) (mark_of w n) (mark_of now n) (j.marks n) (le-leb to n le)

jumped_held : (w now : Marks) (held more : List (Option Change)) (to n : ℕ) → JumpsOver w now held more to → to ≤ n
    → n < window_place w + 256 → held_at more n ≡ held_at held n
jumped_held w now held more to n j le near =
    let forward = j.forward in
    j.places n (omega (arith, forward, le)) near
    ∙ ap (λ (b : Bool). cond b None (held_at held n)) (le-ltb n to le)

-- the same of numbers that are the place and the number
pub jumps_over : (w now : Marks) (held more : List (Option Change)) (from end to : ℕ) → from ≡ window_place w → end ≡ to
    → window_place w ≤ to → window_place now ≡ to
    → ((n : ℕ) → mark_of now n ≡ cond (nat_le to n) (mark_of w n) None)
    → ((n : ℕ) → from ≤ n → n < from + 256 → held_at more n ≡ cond (nat_lt n end) None (held_at held n))
    → JumpsOver w now held more to
jumps_over w now held more from end to is ends forward place marks places = record {
  forward = forward;
  place = place;
  marks = marks;
  places = λ n low near.
      places n (omega (arith, is, low)) (omega (arith, is, near))
      ∙ ap (λ (k : ℕ). cond (nat_lt n k) None (held_at held n)) ends;
}

-- the marks and what is held go together still
pub keeps_jumped : (w now : Marks) (held more : List (Option Change)) (to : ℕ) → Keeps w held
    → JumpsOver w now held more to → Keeps now more
keeps_jumped w now held more to keeps j n low high = by (cases_lt n (window_place w + 256))
  where
    above : to ≤ n
    above = let place = j.place in omega (arith, place, low)

    below : n < to + 256
    below = let place = j.place in omega (arith, place, high)

    by : (n < window_place w + 256) ⊎ (window_place w + 256 ≤ n) → is_some (held_at more n) ≡ says_held (mark_of now n)
    by (inl near) =
        ap (λ (o : Option Change). is_some o) (jumped_held w now held more to n j above near)
        ∙ (keeps n (let forward = j.forward in omega (arith, forward, above)) near
        ∙ ap (λ (m : Option Mark). says_held m) (sym (jumped_mark w now held more to n j above)))
    by (inr far) =
        let k = earlier (window_place w) n far in
        let gone : held_at more k.0 ≡ None =
        j.places k.0 k.1 k.2
        ∙ ap (λ (b : Bool). cond b None (held_at held k.0)) (lt-ltb k.0 to (omega (arith, k.3, below))) in
        ap (λ (place : ℕ). is_some (get_or more place None)) (sym k.4)
        ∙ (ap (λ (o : Option Change). is_some o) gone
        ∙ ap (λ (m : Option Mark). says_held m)
        (sym (jumped_mark w now held more to n j above ∙ mark_outside w n (above_window (window_place w) n far))))

-- from the new place on the same is known
pub slot_jumped : (w now : Marks) (held more : List (Option Change)) (to n : ℕ) → JumpsOver w now held more to → to ≤ n
    → slot_from (mark_of now n) (held_at more n) ≡ slot_from (mark_of w n) (held_at held n)
slot_jumped w now held more to n j le = by (cases_lt n (window_place w + 256))
  where
    by : (n < window_place w + 256) ⊎ (window_place w + 256 ≤ n)
        → slot_from (mark_of now n) (held_at more n) ≡ slot_from (mark_of w n) (held_at held n)
    by (inl near) = rw (jumped_mark w now held more to n j le, jumped_held w now held more to n j le near) refl
    by (inr far) =
        rw (
          jumped_mark w now held more to n j le,
          mark_outside w n (above_window (window_place w) n far),
        ) refl

-- ---- what happened

-- a change that is received now comes at the place that it jumps to
pub came_over : (q : ReaderQos) (source : Source) (a : Arrival) (place : ℕ) (h : List Happening)
    → a.writer ≡ source.publication → a.moment ≡ source.moment
    → Came a ≡ coming (match_of q source) (jumped_to (match_of q source) place h a.number) a.change
came_over q source a place h writer moment = λ i. Came (record {
  writer = writer i;
  number = a.number;
  change = a.change;
  moment = moment i;
})

-- the same, of what was entered
pub moved_over : (q : ReaderQos) (source : Source) (before after : List Happening → Type 0) (t new : Tracked)
    (a : Arrival) (to : ℕ) (passed passed_is : List PassedRun)
    → a.writer ≡ source.publication → a.moment ≡ source.moment
    → ((h : List Happening) → before h → after (Came a ∷ passed_from source.publication t.place a.number h))
    → to ≡ a.number + 1 → passed ≡ (if nat_lt t.place a.number
    then record { first = t.place; last = a.number - 1 } ∷ [] else []) → new.place ≡ to → Stays t new
    → HasMoved (match_of q source) before after t a.number a.change to passed new
moved_over q source before after t new a to passed passed_is writer moment entered beyond over place stays h was =
    let came = came_over q source a t.place h writer moment in (
      coming (match_of q source) (jumped_to (match_of q source) t.place h a.number) a.change
          ∷ passed_from source.publication t.place a.number h,
      record { beyond = beyond; over = over; entered = refl; place = place; stays = stays },
      subst (λ (e : Happening). after (e ∷ passed_from source.publication t.place a.number h)) came (entered h was),
    )

-- there is as much room once the numbers before were passed over
room_jumped : (q : ReaderQos) (a : Arrival) (h : List Happening) (publication place number : ℕ) → NoneTakenAhead h
    → has_room q (passed_from publication place number h) (Came a) ≡ has_room q h (Came a)
room_jumped q a h publication place number untaken = one (nat_lt place number)
  where
    one : (b : Bool) → has_room q (if b then Passed publication place (number - 1) ∷ h else h) (Came a)
        ≡ has_room q h (Came a)
    one true = room_passed q a h publication place (number - 1) untaken
    one false = refl

-- the arrival of a change at a reader that hears this source
abbrev pub arriving : Source → ℕ → Change → Arrival
arriving source number change =
    record { writer = source.publication; number = number; change = change; moment = source.moment }

-- whether the change comes, by whether there is room for it now
comes_is : (q0 q : ReaderQos) (source : Source) (t mid : Tracked) (a : Arrival) (number : ℕ) (change : Change)
    (room : Bool) (h : List Happening)
    → q ≡ q0 → mid.place ≡ t.place → a ≡ arriving source number change → room ≡ has_room q h (Came a)
    → NoneTakenAhead h → comes (match_of q0 source) t.place h number change ≡ (nat_le mid.place number && room)
comes_is q0 q source t mid a number change room h same there is has untaken =
    let came : has_room q0 (passed_from source.publication t.place number h) (Came (arriving source number change))
    ≡ room =
    room_jumped q0 (arriving source number change) h source.publication t.place number untaken
    ∙ (ap (λ (p : ReaderQos). has_room p h (Came (arriving source number change))) (sym same)
    ∙ (ap (λ (x : Arrival). has_room q h (Came x)) (sym is) ∙ sym has)) in
    ap (λ (b : Bool). nat_le t.place number && b) came
    ∙ ap (λ (place : ℕ). nat_le place number && room) (sym there)

-- a number below the place does not come
pub comes-below : (match : Match) (place : ℕ) (h : List Happening) (number : ℕ) (change : Change) → number < place
    → comes match place h number change ≡ false
comes-below match place h number change lt =
    ap (λ (b : Bool). b && has_room match.qos (jumped_to match place h number).happened
    (coming match (jumped_to match place h number) change)) (lt-leb place number lt)

-- nor does a change for which there is no room
pub comes-no_room : (q0 q : ReaderQos) (source : Source) (t mid : Tracked) (a : Arrival) (number : ℕ) (change : Change)
    (room : Bool) (h : List Happening)
    → q ≡ q0 → mid.place ≡ t.place → a ≡ arriving source number change → room ≡ has_room q h (Came a)
    → NoneTakenAhead h → room ≡ false → comes (match_of q0 source) t.place h number change ≡ false
comes-no_room q0 q source t mid a number change room h same there is has untaken full =
    comes_is q0 q source t mid a number change room h same there is has untaken
    ∙ (ap (λ (b : Bool). nat_le mid.place number && b) full ∙ none (nat_le mid.place number))
  where
    none : (b : Bool) → (b && false) ≡ false
    none true = refl
    none false = refl

-- any other does
pub comes-now : (q0 q : ReaderQos) (source : Source) (t mid : Tracked) (a : Arrival) (number : ℕ) (change : Change)
    (room : Bool) (h : List Happening)
    → q ≡ q0 → mid.place ≡ t.place → a ≡ arriving source number change → room ≡ has_room q h (Came a)
    → NoneTakenAhead h → mid.place ≤ number → room ≡ true
    → comes (match_of q0 source) t.place h number change ≡ true
comes-now q0 q source t mid a number change room h same there is has untaken le free =
    comes_is q0 q source t mid a number change room h same there is has untaken
    ∙ (ap (λ (b : Bool). nat_le mid.place number && b) free
    ∙ ap (λ (b : Bool). b && true) (le-leb mid.place number le))

-- nothing is done where the change does not come
pub not_moved : (q0 : ReaderQos) (source : Source) (before0 before : List Happening → Type 0) (t mid : Tracked)
    (number : ℕ) (change : Change) (step : Step)
    → ((h : List Happening) → before0 h → before h) → SameTracked t mid
    → ((h : List Happening) → before0 h → comes (match_of q0 source) t.place h number change ≡ false)
    → IsIdle mid.place step → JumpMoves (match_of q0 source) before0 before t number change step.to step.passed mid
not_moved q0 source before0 before t mid number change step stands known refused idle h was = (
  h,
  subst (λ (b : Bool). JumpsIf b (match_of q0 source) t h number change step.to step.passed mid h) (sym (refused h was))
      (record { there = idle.to ∙ known.place; none = idle.passed; same = known; idle = refl }),
  stands h was,
)

-- where it comes, it does so at a sink of the same policies, from what is known as before
pub has_moved : (q0 q : ReaderQos) (source : Source) (before0 before after : List Happening → Type 0)
    (t mid new : Tracked) (a : Arrival) (number : ℕ) (change : Change) (step : Step)
    → q ≡ q0 → ((h : List Happening) → before0 h → before h) → SameTracked t mid → a ≡ arriving source number change
    → ((h : List Happening) → before0 h → comes (match_of q0 source) t.place h number change ≡ true)
    → HasMoved (match_of q source) before after mid a.number a.change step.to step.passed new
    → JumpMoves (match_of q0 source) before0 after t number change step.to step.passed new
has_moved q0 q source before0 before after t mid new a number change step same stands known is taken moved h was =
    let r = moved h (stands h was) in (
      r.0,
      subst (λ (b : Bool). JumpsIf b (match_of q0 source) t h number change step.to step.passed new r.0)
          (sym (taken h was))
          (subst (λ (u : Tracked). HasJumped (match_of q0 source) u h number change step.to step.passed new r.0)
          (same_is t mid known)
          (subst (λ (p : ReaderQos). HasJumped (match_of p source) mid h number change step.to step.passed new r.0) same
          (subst (λ (x : Arrival). HasJumped (match_of q source) mid h x.number x.change step.to step.passed new r.0) is
          r.1))),
      r.2,
    )
