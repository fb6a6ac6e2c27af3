-- The marks of a window and the changes that are held go together: what a mark, a change that comes and one that is
-- handed on, and a place that goes on leave of that.
use Rattle.std.proofs.Common.{◌≡◌, ℕ, ◌<◌, ◌≤◌, ◌+◌, ◌-◌, ◌%◌, Bool, true, false, cond, eqb, List, get_or, Option, None, Some, is_some, is_none, refl, inl, inr, sym, ap, ◌∙◌, arith}
use Rattle.std.specs.Prelude.{nat_le, ◌==◌, ◌&&◌, ◌⊎◌}
use Rattle.std.proofs.lemmas.Bool.{cases_eq, cases_lt, cases_Bool, eq-eqb, ne_eqb, le-leb}
use Rattle.std.proofs.lemmas.Bool.Decides.{nat_tests}
use Rattle.dds_base.specs.declared.change.Change.{Change}
use Rattle.rtps_sets.specs.Window.{Marks, mark_of, window_place, is_in_window, can_mark}
use Rattle.rtps_sets.specs.declared.window.Mark.{Mark}
use Rattle.rtps_sets.specs.declared.window.Mark.TheVariants as mark
use Rattle.rtps_sets.proofs.MarkLaws.{in_window, above_window, window_from, window_to, mark_outside, same_place}
use Rattle.rtps_reader.specs.HeldChanges.{held_at}
use Rattle.rtps_reader.specs.Tracked.{Held, is_missing, is_passable_slot}
use Rattle.rtps_reader.specs.Proxy.{slot_from}
use Rattle.rtps_reader.specs.Sound.{Keeps, says_held}

both : (a b : Bool) → (a && b) ≡ true → (a ≡ true) × (b ≡ true)
both true true is = (refl, refl)
both true false is = absurd (let e : false ≡ true = is in cc)
both false b is = absurd (let e : false ≡ true = is in cc)

is_empty : {X : Type 0} (o : Option X) → is_none o ≡ true → o ≡ None
is_empty None is = refl
is_empty (Some x) is = absurd (let e : false ≡ true = is in cc)

not_some : {X : Type 0} (o : Option X) → is_some o ≡ false → o ≡ None
not_some None is = refl
not_some (Some x) is = absurd (let e : true ≡ false = is in cc)

equal : (number n : ℕ) → (number == n) ≡ true → number ≡ n
equal number n same = grind (arith, nat_tests)

-- a number that can be marked is one of the window, and has no mark
in_window_of : (w : Marks) (number : ℕ) → can_mark w number ≡ true → is_in_window (window_place w) number ≡ true
in_window_of w number can = let parts = both (is_in_window (window_place w) number) (is_none (mark_of w number)) can in
    parts.0

none_of : (w : Marks) (number : ℕ) → can_mark w number ≡ true → mark_of w number ≡ None
none_of w number can = let parts = both (is_in_window (window_place w) number) (is_none (mark_of w number)) can in
    is_empty (mark_of w number) parts.1

-- at the place of a number that can be marked nothing is held
pub free_place : (w : Marks) (held : List (Option Change)) (number : ℕ) → Keeps w held → can_mark w number ≡ true
    → held_at held number ≡ None
free_place w held number keeps can =
    not_some (held_at held number)
    (keeps number (window_from (window_place w) number (in_window_of w number can))
    (window_to (window_place w) number (in_window_of w number can))
    ∙ ap (λ (m : Option Mark). says_held m) (none_of w number can))

-- the window and the places are the same number by number
pub keeps_same : (w : Marks) (held same : List (Option Change)) → Keeps w held
    → ((n : ℕ) → held_at same n ≡ held_at held n) → Keeps w same
keeps_same w held same keeps is n low high = ap (λ (o : Option Change). is_some o) (is n) ∙ keeps n low high

held_more : (same place : Bool) (m now : Option Mark) (o more : Option Change) (change : Change) → place ≡ same
    → now ≡ cond same (Some mark.Held) m → more ≡ cond place (Some change) o → is_some o ≡ says_held m
    → is_some more ≡ says_held now
held_more true place m now o more change is now_is more_is was = rw (now_is, more_is, is) refl
held_more false place m now o more change is now_is more_is was = rw (now_is, more_is, is) was

-- a number is marked as held, and its change is put at its place
pub keeps_held : (w now : Marks) (held more : List (Option Change)) (number : ℕ) (change : Change) (is_new : Bool)
    → Keeps w held → can_mark w number ≡ true → is_new ≡ true → window_place now ≡ window_place w
    → ((n : ℕ) → mark_of now n ≡ cond (is_new && (number == n)) (Some mark.Held) (mark_of w n))
    → ((n : ℕ) → held_at more n ≡ cond (eqb (n % 256) (number % 256)) (Some change) (held_at held n))
    → Keeps now more
keeps_held w now held more number change is_new keeps can new at marks places n low high =
    let here : is_in_window (window_place w) n ≡ true = in_window (window_place w) n (omega (arith, at, low))
    (omega (arith, at, high)) in
    held_more (number == n) (eqb (n % 256) (number % 256)) (mark_of w n) (mark_of now n) (held_at held n)
    (held_at more n) change (same_place (window_place w) number n (in_window_of w number can) here)
    (marks n ∙ ap (λ (b : Bool). cond (b && (number == n)) (Some mark.Held) (mark_of w n)) new)
    (places n) (keeps n (omega (arith, at, low)) (omega (arith, at, high)))

slot_more : (same inside place : Bool) (m now : Option Mark) (o more : Option Change) (change : Change)
    → (same ≡ true → m ≡ None) → (same ≡ true → inside ≡ true) → (same ≡ true → place ≡ true)
    → (same ≡ false → is_some m ≡ true → place ≡ false)
    → now ≡ cond same (Some mark.Held) m → more ≡ cond place (Some change) o
    → slot_from now more ≡ cond (same && (inside && is_missing (slot_from m o))) (Held change) (slot_from m o)
slot_more true inside place m now o more change none within at other now_is more_is =
    rw (now_is, more_is, none refl, within refl, at refl) refl
slot_more false inside place None now o more change none within at other now_is more_is = rw now_is refl
slot_more false inside place (Some mark.Irrelevant) now o more change none within at other now_is more_is =
    rw now_is refl
slot_more false inside place (Some mark.Held) now o more change none within at other now_is more_is =
    rw (now_is, more_is, other refl refl) refl

-- two numbers with marks are of one window, and have two places
other_place : (w : Marks) (number n : ℕ) → is_in_window (window_place w) number ≡ true → (number == n) ≡ false
    → is_some (mark_of w n) ≡ true → eqb (n % 256) (number % 256) ≡ false
other_place w number n there other some = by (cases_Bool (is_in_window (window_place w) n))
  where
    by : (is_in_window (window_place w) n ≡ true) ⊎ (is_in_window (window_place w) n ≡ false)
        → eqb (n % 256) (number % 256) ≡ false
    by (inl here) = same_place (window_place w) number n there here ∙ other
    by (inr out) =
        absurd (let e : false ≡ true = sym (ap (λ (m : Option Mark). is_some m) (mark_outside w n out)) ∙ some in cc)

-- what is then known of each number
pub slot_held : (w now : Marks) (held more : List (Option Change)) (number n : ℕ) (change : Change) (is_new : Bool)
    → can_mark w number ≡ true → is_new ≡ true
    → mark_of now n ≡ cond (is_new && (number == n)) (Some mark.Held) (mark_of w n)
    → held_at more n ≡ cond (eqb (n % 256) (number % 256)) (Some change) (held_at held n)
    → slot_from (mark_of now n) (held_at more n)
    ≡ cond ((number == n) && (is_in_window (window_place w) n && is_missing (slot_from (mark_of w n) (held_at held n))))
    (Held change) (slot_from (mark_of w n) (held_at held n))
slot_held w now held more number n change is_new can new marks places =
    slot_more (number == n) (is_in_window (window_place w) n) (eqb (n % 256) (number % 256)) (mark_of w n)
    (mark_of now n) (held_at held n) (held_at more n) change
    (λ same. sym (ap (λ (k : ℕ). mark_of w k) (equal number n same)) ∙ none_of w number can)
    (λ same. sym (ap (λ (k : ℕ). is_in_window (window_place w) k) (equal number n same)) ∙ in_window_of w number can)
    (λ same. eq-eqb (n % 256) (number % 256) (ap (λ (k : ℕ). k % 256) (sym (equal number n same))))
    (λ other some. other_place w number n (in_window_of w number can) other some)
    (marks ∙ ap (λ (b : Bool). cond (b && (number == n)) (Some mark.Held) (mark_of w n)) new) places

not_missing : (inside : Bool) (m : Option Mark) (o : Option Change) → (inside && is_none m) ≡ false
    → (inside ≡ true → is_some o ≡ says_held m) → (inside && is_missing (slot_from m o)) ≡ false
not_missing false m o is kept = refl
not_missing true None o is kept = is
not_missing true (Some mark.Irrelevant) o is kept = refl
not_missing true (Some mark.Held) (Some change) is kept = refl
not_missing true (Some mark.Held) None is kept = absurd (let e : false ≡ true = kept refl in cc)

slot_kept : (same inside : Bool) (m : Option Mark) (o : Option Change) (change : Change)
    → (same ≡ true → (inside && is_missing (slot_from m o)) ≡ false)
    → slot_from m o ≡ cond (same && (inside && is_missing (slot_from m o))) (Held change) (slot_from m o)
slot_kept false inside m o change missing = refl
slot_kept true inside m o change missing = rw (missing refl) refl

-- a number that can't be marked: nothing more is known
pub slot_not_held : (w : Marks) (held : List (Option Change)) (number n : ℕ) (change : Change) → Keeps w held
    → can_mark w number ≡ false
    → slot_from (mark_of w n) (held_at held n)
    ≡ cond ((number == n) && (is_in_window (window_place w) n && is_missing (slot_from (mark_of w n) (held_at held n))))
    (Held change) (slot_from (mark_of w n) (held_at held n))
slot_not_held w held number n change keeps can =
    slot_kept (number == n) (is_in_window (window_place w) n) (mark_of w n) (held_at held n) change
    (λ same. not_missing (is_in_window (window_place w) n) (mark_of w n) (held_at held n)
    (sym (ap (λ (k : ℕ). can_mark w k) (equal number n same)) ∙ can)
    (λ inside. keeps n (window_from (window_place w) n inside) (window_to (window_place w) n inside)))

named_same : (named low : Bool) (m now : Option Mark)
    → now ≡ cond (named && (low && is_none m)) (Some mark.Irrelevant) m → says_held now ≡ says_held m
named_same false low m now is = ap (λ (k : Option Mark). says_held k) is
named_same true false m now is = ap (λ (k : Option Mark). says_held k) is
named_same true true None now is = ap (λ (k : Option Mark). says_held k) is
named_same true true (Some x) now is = ap (λ (k : Option Mark). says_held k) is

-- numbers without a mark become irrelevant
pub keeps_named : (w now : Marks) (held : List (Option Change)) (named low : ℕ → Bool) → Keeps w held
    → window_place now ≡ window_place w
    → ((n : ℕ) → mark_of now n ≡ cond (named n && (low n && is_none (mark_of w n))) (Some mark.Irrelevant)
    (mark_of w n))
    → Keeps now held
keeps_named w now held named low keeps at marks n from high =
    keeps n (omega (arith, at, from)) (omega (arith, at, high))
    ∙ sym (named_same (named n) (low n) (mark_of w n) (mark_of now n) (marks n))

-- marks below a number are forgotten
pub mark_stays : (b : Bool) (m now : Option Mark) → now ≡ cond b m None → b ≡ true → now ≡ m
mark_stays b m now is kept = is ∙ ap (λ (c : Bool). cond c m None) kept

pub none_stays : (b : Bool) (m now : Option Mark) → now ≡ cond b m None → m ≡ None → now ≡ None
none_stays true m now is none = is ∙ none
none_stays false m now is none = is

held_stands : (first n : ℕ) (o : Option Change) → is_some o ≡ true
    → is_passable_slot first n (slot_from (Some mark.Held) o) ≡ false
held_stands first n None some = absurd (let e : false ≡ true = some in cc)
held_stands first n (Some change) some = refl

-- the place does not go over a number that is marked as held
pub not_passable : (w : Marks) (held : List (Option Change)) (first n : ℕ) → Keeps w held → mark_of w n ≡ Some mark.Held
    → is_passable_slot first n (slot_from (mark_of w n) (held_at held n)) ≡ false
not_passable w held first n keeps marked = by (cases_Bool (is_in_window (window_place w) n))
  where
    by : (is_in_window (window_place w) n ≡ true) ⊎ (is_in_window (window_place w) n ≡ false)
        → is_passable_slot first n (slot_from (mark_of w n) (held_at held n)) ≡ false
    by (inl inside) =
        rw marked (held_stands first n (held_at held n)
        (keeps n (window_from (window_place w) n inside) (window_to (window_place w) n inside)
        ∙ ap (λ (m : Option Mark). says_held m) marked))
    by (inr out) =
        absurd (let e : Some mark.Held ≡ None = sym marked ∙ mark_outside w n out in cc)

-- the change of a number that is marked as held is known
pub is_known : (w : Marks) (held : List (Option Change)) (n : ℕ) → Keeps w held → mark_of w n ≡ Some mark.Held
    → is_missing (slot_from (mark_of w n) (held_at held n)) ≡ false
is_known w held n keeps marked = by (cases_Bool (is_in_window (window_place w) n))
  where
    known : (o : Option Change) → is_some o ≡ true → is_missing (slot_from (Some mark.Held) o) ≡ false
    known None is = absurd (let clash : false ≡ true = is in cc)
    known (Some change) is = refl

    by : (is_in_window (window_place w) n ≡ true) ⊎ (is_in_window (window_place w) n ≡ false)
        → is_missing (slot_from (mark_of w n) (held_at held n)) ≡ false
    by (inl inside) =
        rw marked (known (held_at held n)
        (keeps n (window_from (window_place w) n inside) (window_to (window_place w) n inside)
        ∙ ap (λ (m : Option Mark). says_held m) marked))
    by (inr out) =
        absurd (let e : Some mark.Held ≡ None = sym marked ∙ mark_outside w n out in cc)

-- a number past the window has the place of one that is passed
pub earlier : (place n : ℕ) → place + 256 ≤ n
    → (k : ℕ) × (place ≤ k) × (k < place + 256) × (k + 256 ≤ n) × (k % 256 ≡ n % 256)
earlier place n far = (place + (n - place) % 256, omega arith, omega arith, omega arith, omega arith)

nothing_there : (first n : ℕ) (m : Option Mark) (o : Option Change) → is_some o ≡ says_held m
    → is_passable_slot first n (slot_from m o) ≡ true → is_some o ≡ false
nothing_there first n None o was passable = was
nothing_there first n (Some mark.Irrelevant) o was passable = was
nothing_there first n (Some mark.Held) (Some change) was passable = absurd (let e : false ≡ true = passable in cc)
nothing_there first n (Some mark.Held) None was passable = refl

-- the place goes over numbers that are passable
pub keeps_passed : (w now : Marks) (held : List (Option Change)) (first to : ℕ) → Keeps w held → window_place w ≤ to
    → window_place now ≡ to → ((n : ℕ) → mark_of now n ≡ cond (nat_le to n) (mark_of w n) None)
    → ((n : ℕ) → window_place w ≤ n → n < to
    → is_passable_slot first n (slot_from (mark_of w n) (held_at held n)) ≡ true)
    → Keeps now held
keeps_passed w now held first to keeps forward at marks passable n low high = by (cases_lt n (window_place w + 256))
  where
    stays : mark_of now n ≡ mark_of w n
    stays = mark_stays (nat_le to n) (mark_of w n) (mark_of now n) (marks n) (le-leb to n (omega (arith, at, low)))

    by : (n < window_place w + 256) ⊎ (window_place w + 256 ≤ n) → is_some (held_at held n) ≡ says_held (mark_of now n)
    by (inl near) =
        keeps n (omega (arith, forward, at, low)) near ∙ ap (λ (m : Option Mark). says_held m) (sym stays)
    by (inr far) =
        let k = earlier (window_place w) n far in
        let empty : is_some (held_at held k.0) ≡ false =
        nothing_there first k.0 (mark_of w k.0) (held_at held k.0)
        (keeps k.0 k.1 k.2) (passable k.0 k.1 (omega (arith, k.3, high, at)))
        in
        ap (λ (place : ℕ). is_some (get_or held place None)) (sym k.4)
        ∙ (empty ∙ ap (λ (m : Option Mark). says_held m)
        (sym (stays ∙ mark_outside w n (above_window (window_place w) n far))))

-- the first change is taken from its place, and the place goes on by one
pub record GoesOn (w now : Marks) (held more : List (Option Change)) : Type 0 where
  pub place : window_place now ≡ window_place w + 1
  pub marks : (n : ℕ) → mark_of now n ≡ cond (nat_le (window_place w + 1) n) (mark_of w n) None
  pub places : (n : ℕ) → held_at more n ≡ cond (eqb (n % 256) (window_place w % 256)) None (held_at held n)

pub goes_on : (w now : Marks) (held more : List (Option Change)) (number to : ℕ) → number ≡ window_place w
    → to ≡ number + 1 → window_place now ≡ to → ((n : ℕ) → mark_of now n ≡ cond (nat_le to n) (mark_of w n) None)
    → ((n : ℕ) → held_at more n ≡ cond (eqb (n % 256) (number % 256)) None (held_at held n))
    → GoesOn w now held more
goes_on w now held more number to is next at marks places = record {
  place = at ∙ (next ∙ ap (λ (k : ℕ). k + 1) is);
  marks = λ n. marks n ∙ ap (λ (k : ℕ). cond (nat_le k n) (mark_of w n) None) (next ∙ ap (λ (k : ℕ). k + 1) is);
  places = λ n. places n ∙ ap (λ (k : ℕ). cond (eqb (n % 256) (k % 256)) None (held_at held n)) is;
}

still_marked : (w now : Marks) (held more : List (Option Change)) (n : ℕ) → GoesOn w now held more
    → window_place w + 1 ≤ n → mark_of now n ≡ mark_of w n
still_marked w now held more n g low =
    mark_stays (nat_le (window_place w + 1) n) (mark_of w n) (mark_of now n) (g.marks n)
    (le-leb (window_place w + 1) n low)

still_held : (w now : Marks) (held more : List (Option Change)) (n : ℕ) → GoesOn w now held more
    → window_place w + 1 ≤ n → n < window_place w + 256 → held_at more n ≡ held_at held n
still_held w now held more n g low near =
    g.places n
    ∙ ap (λ (b : Bool). cond b None (held_at held n))
    (ne_eqb (n % 256) (window_place w % 256) (λ e. omega (arith, e, low, near)))

pub keeps_on : (w now : Marks) (held more : List (Option Change)) → Keeps w held → GoesOn w now held more
    → Keeps now more
keeps_on w now held more keeps g n low high = by (cases_lt n (window_place w + 256))
  where
    above : window_place w + 1 ≤ n
    above = omega (arith, g.place, low)

    by : (n < window_place w + 256) ⊎ (window_place w + 256 ≤ n) → is_some (held_at more n) ≡ says_held (mark_of now n)
    by (inl near) =
        ap (λ (o : Option Change). is_some o) (still_held w now held more n g above near)
        ∙ (keeps n (omega (arith, above)) near
        ∙ ap (λ (m : Option Mark). says_held m) (sym (still_marked w now held more n g above)))
    by (inr far) =
        ap (λ (o : Option Change). is_some o) (g.places n ∙ ap (λ (b : Bool). cond b None (held_at held n))
        (eq-eqb (n % 256) (window_place w % 256) (omega (arith, far, high, g.place))))
        ∙ ap (λ (m : Option Mark). says_held m) (sym (still_marked w now held more n g above
        ∙ mark_outside w n (above_window (window_place w) n far)))

-- from the new place on the same is known
pub slot_stays : (w now : Marks) (held more : List (Option Change)) (n : ℕ) → GoesOn w now held more
    → window_place w + 1 ≤ n → slot_from (mark_of now n) (held_at more n) ≡ slot_from (mark_of w n) (held_at held n)
slot_stays w now held more n g low = by (cases_lt n (window_place w + 256))
  where
    by : (n < window_place w + 256) ⊎ (window_place w + 256 ≤ n)
        → slot_from (mark_of now n) (held_at more n) ≡ slot_from (mark_of w n) (held_at held n)
    by (inl near) = rw (still_marked w now held more n g low, still_held w now held more n g low near) refl
    by (inr far) =
        rw (
          still_marked w now held more n g low,
          mark_outside w n (above_window (window_place w) n far),
        ) refl

-- the change that was taken is put back
pub put_back : (held taken back : List (Option Change)) (number : ℕ) (change : Change)
    → held_at held number ≡ Some change
    → ((n : ℕ) → held_at taken n ≡ cond (eqb (n % 256) (number % 256)) None (held_at held n))
    → ((n : ℕ) → held_at back n ≡ cond (eqb (n % 256) (number % 256)) (Some change) (held_at taken n))
    → (n : ℕ) → held_at back n ≡ held_at held n
put_back held taken back number change is takes puts n = by (cases_eq (n % 256) (number % 256))
  where
    by : (n % 256 ≡ number % 256) ⊎ (n % 256 ≡ number % 256 → ⊥) → held_at back n ≡ held_at held n
    by (inl same) =
        puts n
        ∙ (ap (λ (b : Bool). cond b (Some change) (held_at taken n)) (eq-eqb (n % 256) (number % 256) same)
        ∙ (sym is ∙ ap (λ (place : ℕ). get_or held place None) (sym same)))
    by (inr other) =
        puts n
        ∙ (ap (λ (b : Bool). cond b (Some change) (held_at taken n)) (ne_eqb (n % 256) (number % 256) other)
        ∙ (takes n ∙ ap (λ (b : Bool). cond b None (held_at held n)) (ne_eqb (n % 256) (number % 256) other)))

pub emptied : (held taken : List (Option Change)) (number : ℕ)
    → ((n : ℕ) → held_at taken n ≡ cond (eqb (n % 256) (number % 256)) None (held_at held n))
    → held_at taken number ≡ None
emptied held taken number takes =
    takes number
    ∙ ap (λ (b : Bool). cond b None (held_at held number)) (eq-eqb (number % 256) (number % 256) refl)

-- a number that has a mark lies below each bound from which on there is none
pub marked_below : (w : Marks) (n bound : ℕ) (m : Mark) → mark_of w n ≡ Some m → (bound ≤ n → mark_of w n ≡ None)
    → n < bound
marked_below w n bound m is none = below (λ le. let e : Some m ≡ None = sym is ∙ none le in cc)
  where
    below : (bound ≤ n → ⊥) → n < bound
    below never = omega arith

-- a number that is not marked stays so where another is
pub unmarked_held : (is_new same : Bool) (m now : Option Mark) → now ≡ cond (is_new && same) (Some mark.Held) m
    → same ≡ false → m ≡ None → now ≡ None
unmarked_held false same m now is other none = is ∙ none
unmarked_held true false m now is other none = is ∙ none
unmarked_held true true m now is other none = absurd (let e : true ≡ false = other in cc)

-- at the place of a number that is marked as held there is a change
pub held_now : (w : Marks) (held : List (Option Change)) (number : ℕ) → Keeps w held → number ≡ window_place w
    → mark_of w (window_place w) ≡ Some mark.Held → is_some (held_at held number) ≡ true
held_now w held number keeps here marked =
    ap (λ (n : ℕ). is_some (held_at held n)) here
    ∙ (keeps (window_place w) (omega arith) (omega arith) ∙ ap (λ (m : Option Mark). says_held m) marked)

-- what is held at a place is one change
pub same_change : (m : Option Mark) (o : Option Change) (change other : Change) → m ≡ Some mark.Held → o ≡ Some change
    → slot_from m o ≡ Held other → change ≡ other
same_change m o change other marked found is =
    let e : Held change ≡ Held other =
    sym (ap (λ (k : Option Mark). slot_from k o) marked
    ∙ ap (λ (k : Option Change). slot_from (Some mark.Held) k) found) ∙ is in cc
