-- Entries with the counts of their keys: what they show, and what one entry less or more does.
use Rattle.std.proofs.Common.{◌≡◌, ℕ, ◌+◌, ◌-◌, ◌<◌, ◌≤◌, Bool, true, false, cond, not, ◌||◌, Option, Some, None, List, [], ◌∷◌, length, drop, slice_get, refl, ap, sym, subst, ◌∙◌, arith}
use Rattle.std.specs.Prelude.{if◌then◌else◌, ◌==◌, nat_lt, nat_le, filter, find}
use Rattle.std.specs.Option.{option_map, option_map_or}
use Rattle.std.proofs.lemmas.Bool.Decides.{nat_tests}
use Rattle.dds_base.specs.declared.key.Key.{Key}
use Rattle.dds_base.specs.declared.qos.HistoryQos.{HistoryQos}
use Rattle.dds_base.specs.declared.qos.HistoryQos.TheVariants.{KeepAll, KeepLast}
use Rattle.dds_base.specs.Happening.{same_key}
use Rattle.dds_base.proofs.KeyLaws.{key-same, same_key-refl}
use Rattle.dds_history.specs.declared.held.Entry.{Entry}
use Rattle.dds_history.specs.declared.held.KeyCount.{KeyCount}
use Rattle.dds_history.specs.Entries.{AreCounted, AreUpTo, Counted, Holds, IsAfterFirst, Precedes, Rises, RisesFrom, count_in, held_as, held_by, is_counted_by, one_fewer, remaining_by}
use Rattle.dds_history.specs.Held.{HeldChange, lives}
use Rattle.dds_history.proofs.Numbering.{at_number, count_cons, one_if, passing}
use Rattle.dds_history.proofs.Rising.{at_entry, rises_from-weaker}

-- the change is not dropped
abbrev pub lasts : HeldChange → Bool
lasts h = nat_lt 0 h.remaining

-- ---- what is found

none_shown : (p : HistoryQos) (c : Counted) (m n : ℕ) (es : List Entry) → m < n → RisesFrom n es
    → find (at_number m) (held_by p c es) ≡ None
none_shown p c m n [] lt h = refl
none_shown p c m n (e ∷ es) lt h =
    let other : (e.number == m) ≡ false = grind (arith, nat_tests, h.0) in
    step (nat_lt 0 (remaining_by p c e)) other (none_shown p c m (e.number + 1) es (omega (arith, h.0)) h.1)
  where
    step : (b : Bool) → (e.number == m) ≡ false → find (at_number m) (held_by p c es) ≡ None
        → find (at_number m) (cond b (held_as p c e ∷ held_by p c es) (held_by p c es)) ≡ None
    step true other rest = ap (λ (v : Bool). cond v (Some (held_as p c e)) (find (at_number m) (held_by p c es))) other ∙ rest
    step false other rest = rest

pub found_shown : (p : HistoryQos) (c : Counted) (m n : ℕ) (es : List Entry) → RisesFrom n es
    → passing lasts (option_map (held_as p c) (find (at_entry m) es)) ≡ find (at_number m) (held_by p c es)
found_shown p c m n [] h = refl
found_shown p c m n (e ∷ es) h =
    step (at_entry m e) refl (nat_lt 0 (remaining_by p c e)) refl (found_shown p c m (e.number + 1) es h.1)
  where
    step : (b : Bool) → at_entry m e ≡ b → (l : Bool) → nat_lt 0 (remaining_by p c e) ≡ l
        → passing lasts (option_map (held_as p c) (find (at_entry m) es)) ≡ find (at_number m) (held_by p c es)
        → passing lasts (option_map (held_as p c) (cond b (Some e) (find (at_entry m) es)))
        ≡ find (at_number m) (cond l (held_as p c e ∷ held_by p c es) (held_by p c es))
    step true is true live later =
        ap (λ (v : Bool). cond v (Some (held_as p c e)) None) live
        ∙ sym (ap (λ (v : Bool). cond v (Some (held_as p c e)) (find (at_number m) (held_by p c es))) is)
    step true is false dead later =
        let lt : m < e.number + 1 = grind (arith, nat_tests) in
        ap (λ (v : Bool). cond v (Some (held_as p c e)) None) dead
        ∙ sym (none_shown p c m (e.number + 1) es lt h.1)
    step false is true live later =
        later ∙ sym (ap (λ (v : Bool). cond v (Some (held_as p c e)) (find (at_number m) (held_by p c es))) is)
    step false is false dead later = later

pub found_kept : (p : HistoryQos) (c : Counted) (m : ℕ) (es : List Entry) (o : Option Entry) → Rises es
    → o ≡ find (at_entry m) es → passing lasts (option_map (held_as p c) o) ≡ find (at_number m) (held_by p c es)
found_kept p c m es o h is =
    ap (λ (x : Option Entry). passing lasts (option_map (held_as p c) x)) is ∙ found_shown p c m 0 es h

pub passes : (h : HeldChange) (n : ℕ) → n ≡ h.remaining → 0 < n → Some h ≡ passing lasts (Some h)
passes h n is some =
    let here : lasts h ≡ true = grind (arith, nat_tests) in
    sym (ap (λ (b : Bool). cond b (Some h) None) here)

pub fails : (h : HeldChange) (n : ℕ) → n ≡ h.remaining → n ≤ 0 → None ≡ passing lasts (Some h)
fails h n is none =
    let here : lasts h ≡ false = grind (arith, nat_tests) in
    sym (ap (λ (b : Bool). cond b (Some h) None) here)

pub first_shown : (p : HistoryQos) (c : Counted) (es : List Entry)
    → option_map (held_as p c) (find (λ e. nat_lt 0 (remaining_by p c e)) es) ≡ slice_get (held_by p c es) 0
first_shown p c [] = refl
first_shown p c (e ∷ es) = step (nat_lt 0 (remaining_by p c e)) (first_shown p c es)
  where
    step : (b : Bool)
        → option_map (held_as p c) (find (λ x. nat_lt 0 (remaining_by p c x)) es) ≡ slice_get (held_by p c es) 0
        → option_map (held_as p c) (cond b (Some e) (find (λ x. nat_lt 0 (remaining_by p c x)) es))
        ≡ slice_get (cond b (held_as p c e ∷ held_by p c es) (held_by p c es)) 0
    step true later = refl
    step false later = later

-- ---- the first entry goes

-- one that doesn't count
pub after_quiet : (p : HistoryQos) (last : ℕ) (c : Counted) (live : ℕ) (e : Entry) (es : List Entry)
    → is_counted_by p c e ≡ false
    → Holds last (record { policy = p; entries = e ∷ es; counted = c; live = live })
    → Holds last (record { policy = p; entries = es; counted = c; live = live })
after_quiet KeepAll last c live e es is h = record {
  rises = rises_from-weaker 0 (e.number + 1) es (omega arith) h.rises.1;
  up_to = h.up_to.1;
  fits = tt;
}
after_quiet (KeepLast depth) last c live e es is h =
    let hs : List HeldChange = held_by (KeepLast depth) c es in
    let first : HeldChange = held_as (KeepLast depth) c e in
    record {
      rises = rises_from-weaker 0 (e.number + 1) es (omega arith) h.rises.1;
      up_to = h.up_to.1;
      fits = record {
        counted = h.fits.counted.3;
        kept = λ key. h.fits.kept key ∙ ap (λ (b : Bool). lives key (cond b (first ∷ hs) hs)) is;
        live = h.fits.live ∙ ap (λ (b : Bool). length (cond b (first ∷ hs) hs)) is;
        few = record { turns = h.fits.few.turns; kept = h.fits.few.kept; live = h.fits.few.live };
      };
    }

-- counts that agree on the turns of these entries' keys
abbrev SameTurns : Counted → Counted → List Entry → Type 0
SameTurns c after [] = Unit {0}
SameTurns c after (e ∷ es) =
    ((count_in after e.change.key).turns ≡ (count_in c e.change.key).turns) × SameTurns c after es

same_shown : (depth : ℕ) (c after : Counted) (es : List Entry) → SameTurns c after es
    → held_by (KeepLast depth) after es ≡ held_by (KeepLast depth) c es
same_shown depth c after [] h = refl
same_shown depth c after (e ∷ es) h =
    let rest = same_shown depth c after es h.1 in
    let hs : List HeldChange = held_by (KeepLast depth) after es in
    ap (λ (t : ℕ). cond (nat_lt 0 (e.turn + depth - t))
    (record { number = e.number; change = e.change; remaining = e.turn + depth - t } ∷ hs) hs) h.0
    ∙ ap (λ (xs : List HeldChange). cond (nat_lt 0 (remaining_by (KeepLast depth) c e))
    (held_as (KeepLast depth) c e ∷ xs) xs) rest

same_counted : (c after : Counted) (es : List Entry) → SameTurns c after es → AreCounted c es → AreCounted after es
same_counted c after [] h k = tt
same_counted c after (e ∷ es) h k = (k.0, omega (arith, h.0, k.1), k.2, same_counted c after es h.1 k.3)

same_turns : (c after : Counted) (es : List Entry) → ((k : Key) → count_in after k ≡ count_in c k) → SameTurns c after es
same_turns c after [] same = tt
same_turns c after (e ∷ es) same = (ap (λ (n : KeyCount). n.turns) (same e.change.key), same_turns c after es same)

-- the keys may stand otherwise, where the same is counted of each
pub recounted : (p : HistoryQos) (last live : ℕ) (c after : Counted) (es : List Entry)
    → ((k : Key) → count_in after k ≡ count_in c k)
    → Holds last (record { policy = p; entries = es; counted = c; live = live })
    → Holds last (record { policy = p; entries = es; counted = after; live = live })
    × (held_by p after es ≡ held_by p c es)
recounted KeepAll last live c after es same h =
    (record { rises = h.rises; up_to = h.up_to; fits = tt }, refl)
recounted (KeepLast depth) last live c after es same h =
    let turns : SameTurns c after es = same_turns c after es same in
    let shown_is : held_by (KeepLast depth) after es ≡ held_by (KeepLast depth) c es = same_shown depth c after es turns in (
      record {
        rises = h.rises;
        up_to = h.up_to;
        fits = record {
          counted = same_counted c after es turns h.fits.counted;
          kept = λ key. ap (λ (n : KeyCount). n.kept) (same key)
              ∙ (h.fits.kept key ∙ ap (λ (hs : List HeldChange). lives key hs) (sym shown_is));
          live = h.fits.live ∙ ap (λ (hs : List HeldChange). length hs) (sym shown_is);
          few = record {
            turns = λ key. subst (λ (n : KeyCount). n.turns ≤ last) (sym (same key)) (h.fits.few.turns key);
            kept = λ key. subst (λ (n : KeyCount). n.kept ≤ last) (sym (same key)) (h.fits.few.kept key);
            live = h.fits.few.live;
          };
        };
      },
      shown_is,
    )

abbrev pub Released : Counted → Counted → Key → Type 0
Released c after key =
    (k : Key) → count_in after k ≡ (if same_key key k then one_fewer (count_in c key) else count_in c k)

other_count : (c after : Counted) (key k : Key) → Released c after key → same_key key k ≡ false
    → count_in after k ≡ count_in c k
other_count c after key k h is =
    h k ∙ ap (λ (b : Bool). if b then one_fewer (count_in c key) else count_in c k) is

own_count : (c after : Counted) (key k : Key) → Released c after key → same_key key k ≡ true
    → count_in after k ≡ one_fewer (count_in c k)
own_count c after key k h is =
    h k ∙ ap (λ (b : Bool). if b then one_fewer (count_in c key) else count_in c k) is
    ∙ ap (λ (q : Key). one_fewer (count_in c q)) (key-same key k is)

fewer_kept : (n : KeyCount) → (one_fewer n).kept ≡ n.kept - 1
fewer_kept n = step (nat_le n.kept 1) refl
  where
    step : (b : Bool) → nat_le n.kept 1 ≡ b
        → (let x : KeyCount = (if b then record { turns = 0; kept = 0 } else record { turns = n.turns; kept = n.kept - 1 }) in x.kept)
        ≡ n.kept - 1
    step true is = grind (arith, nat_tests)
    step false is = refl

fewer_turns : (n : KeyCount) → (one_fewer n).turns ≤ n.turns
fewer_turns n = step (nat_le n.kept 1)
  where
    step : (b : Bool)
        → (let x : KeyCount = (if b then record { turns = 0; kept = 0 } else record { turns = n.turns; kept = n.kept - 1 }) in x.turns)
        ≤ n.turns
    step true = omega arith
    step false = omega arith

more_turns : (n : KeyCount) → nat_le n.kept 1 ≡ false → (one_fewer n).turns ≡ n.turns
more_turns n is =
    ap (λ (b : Bool). (let x : KeyCount = (if b then record { turns = 0; kept = 0 } else record { turns = n.turns; kept = n.kept - 1 }) in x.turns)) is

-- where more of the key are kept, no turns change
turns_stay : (c after : Counted) (key : Key) (es : List Entry) → Released c after key
    → nat_le (count_in c key).kept 1 ≡ false → SameTurns c after es
turns_stay c after key [] h more = tt
turns_stay c after key (e ∷ es) h more =
    (step (same_key key e.change.key) refl, turns_stay c after key es h more)
  where
    step : (b : Bool) → same_key key e.change.key ≡ b
        → (count_in after e.change.key).turns ≡ (count_in c e.change.key).turns
    step true is =
        ap (λ (n : KeyCount). n.turns) (own_count c after key e.change.key h is)
        ∙ more_turns (count_in c e.change.key)
        (subst (λ (k : Key). nat_le (count_in c k).kept 1 ≡ false) (key-same key e.change.key is) more)
    step false is = ap (λ (n : KeyCount). n.turns) (other_count c after key e.change.key h is)

tail_lives : (key : Key) (b : Bool) (h : HeldChange) (hs : List HeldChange) → lives key (cond b (h ∷ hs) hs) ≡ 0
    → lives key hs ≡ 0
tail_lives key true h hs none = omega (arith, none, count_cons (λ (e : HeldChange). same_key e.change.key key) h hs)
tail_lives key false h hs none = none

no_head : (key : Key) (h : HeldChange) (hs : List HeldChange) → same_key h.change.key key ≡ true
    → lives key (h ∷ hs) ≡ 0 → ⊥
no_head key h hs is none =
    let one : one_if (same_key h.change.key key) ≡ 1 = ap one_if is in
    omega (arith, none, one, count_cons (λ (e : HeldChange). same_key e.change.key key) h hs)

pub same_back : (x y : Key) → same_key x y ≡ true → same_key y x ≡ true
same_back x y is = subst (λ (k : Key). same_key k x ≡ true) (key-same x y is) (same_key-refl x)

-- where none of the key is kept any more, no entry of it stays
none_stay : (depth : ℕ) (c after : Counted) (first : Entry) (es : List Entry)
    → Released c after first.change.key
    → nat_lt 0 (remaining_by (KeepLast depth) c first) ≡ true
    → lives first.change.key (held_by (KeepLast depth) c es) ≡ 0 → Precedes first es → AreCounted c es
    → SameTurns c after es
none_stay depth c after first [] h live none before counted = tt
none_stay depth c after first (e ∷ es) h live none before counted = (
  step (same_key first.change.key e.change.key) refl,
  none_stay depth c after first es h live
      (tail_lives first.change.key (nat_lt 0 (remaining_by (KeepLast depth) c e)) (held_as (KeepLast depth) c e)
      (held_by (KeepLast depth) c es) none) before.1 counted.3,
)
  where
    step : (b : Bool) → same_key first.change.key e.change.key ≡ b
        → (count_in after e.change.key).turns ≡ (count_in c e.change.key).turns
    step true is =
        let later : first.turn < e.turn = before.0 is in
        let same : (count_in c first.change.key).turns ≡ (count_in c e.change.key).turns =
        ap (λ (k : Key). (count_in c k).turns) (key-same first.change.key e.change.key is) in
        let lives_on : nat_lt 0 (remaining_by (KeepLast depth) c e) ≡ true = grind (arith, nat_tests, counted.1) in
        absurd (no_head first.change.key (held_as (KeepLast depth) c e) (held_by (KeepLast depth) c es)
        (same_back first.change.key e.change.key is)
        (subst (λ (b : Bool). lives first.change.key (cond b (held_as (KeepLast depth) c e ∷ held_by (KeepLast depth) c es)
        (held_by (KeepLast depth) c es)) ≡ 0) lives_on none))
    step false is = ap (λ (n : KeyCount). n.turns) (other_count c after first.change.key e.change.key h is)

-- one that counts
pub after_counted : (depth last : ℕ) (c after : Counted) (live left_over : ℕ) (e : Entry) (es : List Entry)
    → is_counted_by (KeepLast depth) c e ≡ true → Released c after e.change.key → left_over ≡ live - 1
    → Holds last (record { policy = KeepLast depth; entries = e ∷ es; counted = c; live = live })
    → Holds last (record { policy = KeepLast depth; entries = es; counted = after; live = left_over })
    × (held_by (KeepLast depth) after es ≡ held_by (KeepLast depth) c es)
after_counted depth last c after live left_over e es is released one_less h =
    let key : Key = e.change.key in
    let hs : List HeldChange = held_by (KeepLast depth) c es in
    let first : HeldChange = held_as (KeepLast depth) c e in
    let kept : (k : Key) → (count_in c k).kept ≡ lives k (first ∷ hs) =
    λ k. h.fits.kept k ∙ ap (λ (b : Bool). lives k (cond b (first ∷ hs) hs)) is in
    let all : live ≡ length (first ∷ hs) = h.fits.live ∙ ap (λ (b : Bool). length (cond b (first ∷ hs) hs)) is in
    let turns : SameTurns c after es = step (nat_le (count_in c key).kept 1) refl kept in
    let shown = same_shown depth c after es turns in (
      record {
        rises = rises_from-weaker 0 (e.number + 1) es (omega arith) h.rises.1;
        up_to = h.up_to.1;
        fits = record {
          counted = same_counted c after es turns h.fits.counted.3;
          kept = λ k. counts k (same_key key k) refl (kept k)
              ∙ ap (λ (xs : List HeldChange). lives k xs) (sym shown);
          live = omega (arith, one_less, all) ∙ ap (λ (xs : List HeldChange). length xs) (sym shown);
          few = record {
            turns = λ k. few_turns k (same_key key k) refl;
            kept = λ k. few_kept k (same_key key k) refl;
            live = let few = h.fits.few.live in omega (arith, one_less, few);
          };
        };
      },
      shown,
    )
  where
    step : (b : Bool) → nat_le (count_in c e.change.key).kept 1 ≡ b
        → ((k : Key) → (count_in c k).kept ≡ lives k (held_as (KeepLast depth) c e ∷ held_by (KeepLast depth) c es))
        → SameTurns c after es
    step true few kept =
        let own : one_if (same_key e.change.key e.change.key) ≡ 1 = ap one_if (same_key-refl e.change.key) in
        let here = kept e.change.key in
        let none : lives e.change.key (held_by (KeepLast depth) c es) ≡ 0 =
        grind (
          arith,
          nat_tests,
          own,
          here,
          count_cons (λ (x : HeldChange). same_key x.change.key e.change.key) (held_as (KeepLast depth) c e)
              (held_by (KeepLast depth) c es),
        ) in
        none_stay depth c after e es released is none h.fits.counted.2 h.fits.counted.3
    step false more kept = turns_stay c after e.change.key es released more

    counts : (k : Key) (b : Bool) → same_key e.change.key k ≡ b
        → (count_in c k).kept ≡ lives k (held_as (KeepLast depth) c e ∷ held_by (KeepLast depth) c es)
        → (count_in after k).kept ≡ lives k (held_by (KeepLast depth) c es)
    counts k true same kept =
        let own : one_if (same_key e.change.key k) ≡ 1 = ap one_if same in
        let less = ap (λ (n : KeyCount). n.kept) (own_count c after e.change.key k released same)
        ∙ fewer_kept (count_in c k) in
        omega (
          arith,
          less,
          kept,
          own,
          count_cons (λ (x : HeldChange). same_key x.change.key k)
              (held_as (KeepLast depth) c e) (held_by (KeepLast depth) c es),
        )
    counts k false same kept =
        let own : one_if (same_key e.change.key k) ≡ 0 = ap one_if same in
        let equal = ap (λ (n : KeyCount). n.kept) (other_count c after e.change.key k released same) in
        omega (
          arith,
          equal,
          kept,
          own,
          count_cons (λ (x : HeldChange). same_key x.change.key k)
              (held_as (KeepLast depth) c e) (held_by (KeepLast depth) c es),
        )

    few_turns : (k : Key) (b : Bool) → same_key e.change.key k ≡ b → (count_in after k).turns ≤ last
    few_turns k true same =
        let less = ap (λ (n : KeyCount). n.turns) (own_count c after e.change.key k released same) in
        let at_most = fewer_turns (count_in c k) in
        let few = h.fits.few.turns k in
        omega (arith, less, at_most, few)
    few_turns k false same =
        let equal = ap (λ (n : KeyCount). n.turns) (other_count c after e.change.key k released same) in
        let few = h.fits.few.turns k in
        omega (arith, equal, few)

    few_kept : (k : Key) (b : Bool) → same_key e.change.key k ≡ b → (count_in after k).kept ≤ last
    few_kept k true same =
        let less = ap (λ (n : KeyCount). n.kept) (own_count c after e.change.key k released same)
        ∙ fewer_kept (count_in c k) in
        let few = h.fits.few.kept k in
        omega (arith, less, few)
    few_kept k false same =
        let equal = ap (λ (n : KeyCount). n.kept) (other_count c after e.change.key k released same) in
        let few = h.fits.few.kept k in
        omega (arith, equal, few)

first_gone : (depth last live left_over : ℕ) (c after : Counted) (e : Entry) (es : List Entry)
    → is_counted_by (KeepLast depth) c e ≡ true → Released c after e.change.key → left_over ≡ live - 1
    → Holds last (record { policy = KeepLast depth; entries = e ∷ es; counted = c; live = live })
    → IsAfterFirst last (record { policy = KeepLast depth; entries = e ∷ es; counted = c; live = live })
    (record { policy = KeepLast depth; entries = es; counted = after; live = left_over })
first_gone depth last live left_over c after e es is released one_less h =
    let gone = after_counted depth last c after live left_over e es is released one_less h in
    record { entries = refl; holds = gone.0; shown = gone.1 }

pub quiet_gone : (p : HistoryQos) (last live : ℕ) (c : Counted) (e : Entry) (es : List Entry)
    → is_counted_by p c e ≡ false → Holds last (record { policy = p; entries = e ∷ es; counted = c; live = live })
    → IsAfterFirst last (record { policy = p; entries = e ∷ es; counted = c; live = live })
    (record { policy = p; entries = es; counted = c; live = live })
quiet_gone p last live c e es is h =
    record { entries = refl; holds = after_quiet p last c live e es is h; shown = refl }

-- the first entry is gone, and counted no longer where it was counted
pub counted_gone : (depth last live left_over : ℕ) (c after : Counted) (e : Entry) (es : List Entry)
    → (is_counted_by (KeepLast depth) c e ≡ true → 0 < (count_in c e.change.key).turns
    → Released c after e.change.key × (left_over ≡ live - 1))
    → (is_counted_by (KeepLast depth) c e ≡ false → (after ≡ c) × (left_over ≡ live))
    → Holds last (record { policy = KeepLast depth; entries = e ∷ es; counted = c; live = live })
    → IsAfterFirst last (record { policy = KeepLast depth; entries = e ∷ es; counted = c; live = live })
    (record { policy = KeepLast depth; entries = es; counted = after; live = left_over })
counted_gone depth last live left_over c after e es counted dropped h =
    step (is_counted_by (KeepLast depth) c e) refl
  where
    step : (b : Bool) → is_counted_by (KeepLast depth) c e ≡ b
        → IsAfterFirst last (record { policy = KeepLast depth; entries = e ∷ es; counted = c; live = live })
        (record { policy = KeepLast depth; entries = es; counted = after; live = left_over })
    step true is =
        let turn = h.fits.counted.0 in
        let most = h.fits.counted.1 in
        let some : 0 < (count_in c e.change.key).turns = omega (arith, turn, most) in
        let less = counted is some in
        first_gone depth last live left_over c after e es is less.0 less.1 h
    step false is =
        let same = dropped is in
        subst (λ (n : ℕ). IsAfterFirst last (record { policy = KeepLast depth; entries = e ∷ es; counted = c; live = live })
        (record { policy = KeepLast depth; entries = es; counted = after; live = n })) (sym same.1)
        (subst (λ (m : Counted). IsAfterFirst last (record { policy = KeepLast depth; entries = e ∷ es; counted = c; live = live })
        (record { policy = KeepLast depth; entries = es; counted = m; live = live })) (sym same.0)
        (quiet_gone (KeepLast depth) last live c e es is h))

-- an entry that goes, and not by its number, is counted no longer
pub quiet_first : (n : ℕ) (p : HistoryQos) (c : Counted) (e : Entry) → n ≤ e.number
    → (nat_lt e.number n || not (nat_lt 0 (remaining_by p c e))) ≡ true → is_counted_by p c e ≡ false
quiet_first n KeepAll c e from goes = refl
quiet_first n (KeepLast depth) c e from goes = grind (arith, nat_tests)

-- ---- what goes from the front

abbrev GoesFirst : ℕ → HistoryQos → Counted → List Entry → Bool
GoesFirst n p c es =
    option_map_or (λ (e : Entry). nat_lt e.number n || not (nat_lt 0 (remaining_by p c e))) (slice_get es 0) false

-- no change from the number on is in an entry that goes
pub front_goes : (n : ℕ) (p : HistoryQos) (c : Counted) (es : List Entry) → GoesFirst n p c es ≡ true
    → filter (λ h. nat_le n h.number) (held_by p c (drop 1 es)) ≡ filter (λ h. nat_le n h.number) (held_by p c es)
front_goes n p c [] goes = cc
front_goes n p c (e ∷ es) goes = step (nat_lt 0 (remaining_by p c e)) refl
  where
    step : (b : Bool) → nat_lt 0 (remaining_by p c e) ≡ b
        → filter (λ h. nat_le n h.number) (held_by p c es)
        ≡ filter (λ h. nat_le n h.number) (cond b (held_as p c e ∷ held_by p c es) (held_by p c es))
    step true is =
        let lower : nat_le n e.number ≡ false = grind (arith, nat_tests) in
        sym (ap (λ (v : Bool). cond v (held_as p c e ∷ filter (λ h. nat_le n h.number) (held_by p c es))
        (filter (λ h. nat_le n h.number) (held_by p c es))) lower)
    step false is = refl

from_on : (n m : ℕ) (p : HistoryQos) (c : Counted) (es : List Entry) → n ≤ m → RisesFrom m es
    → filter (λ h. nat_le n h.number) (held_by p c es) ≡ held_by p c es
from_on n m p c [] le h = refl
from_on n m p c (e ∷ es) le h =
    step (nat_lt 0 (remaining_by p c e)) (from_on n (e.number + 1) p c es (omega (arith, h.0)) h.1)
  where
    step : (b : Bool) → filter (λ h. nat_le n h.number) (held_by p c es) ≡ held_by p c es
        → filter (λ h. nat_le n h.number) (cond b (held_as p c e ∷ held_by p c es) (held_by p c es))
        ≡ cond b (held_as p c e ∷ held_by p c es) (held_by p c es)
    step true later =
        let here : nat_le n e.number ≡ true = grind (arith, nat_tests, h.0) in
        ap (λ (v : Bool). cond v (held_as p c e ∷ filter (λ h. nat_le n h.number) (held_by p c es))
        (filter (λ h. nat_le n h.number) (held_by p c es))) here
        ∙ ap (λ (xs : List HeldChange). held_as p c e ∷ xs) later
    step false later = later

pub front_stays : (n : ℕ) (p : HistoryQos) (c : Counted) (es : List Entry) → GoesFirst n p c es ≡ false → Rises es
    → filter (λ h. nat_le n h.number) (held_by p c es) ≡ held_by p c es
front_stays n p c [] goes h = refl
front_stays n p c (e ∷ es) goes h =
    let first : n ≤ e.number = step (nat_lt e.number n) refl goes in
    from_on n n p c (e ∷ es) (omega arith) (first, h.1)
  where
    step : (b : Bool) → nat_lt e.number n ≡ b → (b || not (nat_lt 0 (remaining_by p c e))) ≡ false → n ≤ e.number
    step true is none = absurd cc
    step false is none = grind (arith, nat_tests)

pub all_from_0 : (hs : List HeldChange) → filter (λ h. nat_le 0 h.number) hs ≡ hs
all_from_0 [] = refl
all_from_0 (h ∷ hs) =
    let here : nat_le 0 h.number ≡ true = grind (arith, nat_tests) in
    ap (λ (v : Bool). cond v (h ∷ filter (λ x. nat_le 0 x.number) hs) (filter (λ x. nat_le 0 x.number) hs)) here
    ∙ ap (λ (xs : List HeldChange). h ∷ xs) (all_from_0 hs)

-- ---- what was dropped goes

abbrev stays : HistoryQos → Counted → Entry → Bool
stays p c e = nat_lt 0 (remaining_by p c e)

rises_kept : (p : Entry → Bool) (n : ℕ) (es : List Entry) → RisesFrom n es → RisesFrom n (filter p es)
rises_kept p n [] h = tt
rises_kept p n (e ∷ es) h = step (p e) (rises_kept p (e.number + 1) es h.1)
  where
    step : (b : Bool) → RisesFrom (e.number + 1) (filter p es) → RisesFrom n (cond b (e ∷ filter p es) (filter p es))
    step true later = (h.0, later)
    step false later = rises_from-weaker n (e.number + 1) (filter p es) (omega (arith, h.0)) later

up_to_kept : (p : Entry → Bool) (last : ℕ) (es : List Entry) → AreUpTo last es → AreUpTo last (filter p es)
up_to_kept p last [] h = tt
up_to_kept p last (e ∷ es) h = step (p e) (up_to_kept p last es h.1)
  where
    step : (b : Bool) → AreUpTo last (filter p es) → AreUpTo last (cond b (e ∷ filter p es) (filter p es))
    step true later = (h.0, later)
    step false later = later

precedes_kept : (p : Entry → Bool) (e : Entry) (es : List Entry) → Precedes e es → Precedes e (filter p es)
precedes_kept p e [] h = tt
precedes_kept p e (x ∷ xs) h = step (p x) (precedes_kept p e xs h.1)
  where
    step : (b : Bool) → Precedes e (filter p xs) → Precedes e (cond b (x ∷ filter p xs) (filter p xs))
    step true later = (h.0, later)
    step false later = later

counted_kept : (p : Entry → Bool) (c : Counted) (es : List Entry) → AreCounted c es → AreCounted c (filter p es)
counted_kept p c [] h = tt
counted_kept p c (e ∷ es) h = step (p e) (counted_kept p c es h.3)
  where
    step : (b : Bool) → AreCounted c (filter p es) → AreCounted c (cond b (e ∷ filter p es) (filter p es))
    step true later = (h.0, h.1, precedes_kept p e es h.2, later)
    step false later = later

pub shown_kept : (p : HistoryQos) (c : Counted) (es : List Entry) → held_by p c (filter (stays p c) es) ≡ held_by p c es
shown_kept p c [] = refl
shown_kept p c (e ∷ es) = step (nat_lt 0 (remaining_by p c e)) refl (shown_kept p c es)
  where
    step : (b : Bool) → nat_lt 0 (remaining_by p c e) ≡ b → held_by p c (filter (stays p c) es) ≡ held_by p c es
        → held_by p c (cond b (e ∷ filter (stays p c) es) (filter (stays p c) es))
        ≡ cond b (held_as p c e ∷ held_by p c es) (held_by p c es)
    step true is later =
        ap (λ (v : Bool). cond v (held_as p c e ∷ held_by p c (filter (stays p c) es)) (held_by p c (filter (stays p c) es))) is
        ∙ ap (λ (xs : List HeldChange). held_as p c e ∷ xs) later
    step false is later = later

pub after_retaining : (p : HistoryQos) (last : ℕ) (c : Counted) (live : ℕ) (es : List Entry)
    → Holds last (record { policy = p; entries = es; counted = c; live = live })
    → Holds last (record { policy = p; entries = filter (stays p c) es; counted = c; live = live })
after_retaining KeepAll last c live es h = record {
  rises = rises_kept (stays KeepAll c) 0 es h.rises;
  up_to = up_to_kept (stays KeepAll c) last es h.up_to;
  fits = tt;
}
after_retaining (KeepLast depth) last c live es h =
    let same = sym (shown_kept (KeepLast depth) c es) in
    record {
      rises = rises_kept (stays (KeepLast depth) c) 0 es h.rises;
      up_to = up_to_kept (stays (KeepLast depth) c) last es h.up_to;
      fits = record {
        counted = counted_kept (stays (KeepLast depth) c) c es h.fits.counted;
        kept = λ key. h.fits.kept key ∙ ap (λ (xs : List HeldChange). lives key xs) same;
        live = h.fits.live ∙ ap (λ (xs : List HeldChange). length xs) same;
        few = record { turns = h.fits.few.turns; kept = h.fits.few.kept; live = h.fits.few.live };
      };
    }
