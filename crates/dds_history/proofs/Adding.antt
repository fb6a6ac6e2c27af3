-- Entries with one more, which ages those of its key.
use Rattle.std.proofs.Common.{◌≡◌, ℕ, suc, ◌+◌, ◌-◌, ◌<◌, ◌≤◌, Bool, true, false, cond, ◌&&◌, List, [], ◌∷◌, ◌++◌, map, length, count_by, refl, ap, sym, subst, ◌∙◌, arith, length-append}
use Rattle.std.specs.Prelude.{if◌then◌else◌, ◌==◌, nat_lt, nat_le, filter}
use Rattle.std.proofs.lemmas.Bool.Decides.{nat_tests}
use Rattle.std.proofs.lemmas.List.{map-append}
use Rattle.std.proofs.lemmas.List.Elements.{filter-append}
use Rattle.std.proofs.lemmas.List.Sums.{length-filter, sum_by-append}
use Rattle.dds_base.specs.declared.key.Key.{Key}
use Rattle.dds_base.specs.declared.change.Change.{Change}
use Rattle.dds_base.specs.declared.qos.HistoryQos.{HistoryQos}
use Rattle.dds_base.specs.declared.qos.HistoryQos.TheVariants.{KeepAll, KeepLast}
use Rattle.dds_base.specs.Happening.{same_key}
use Rattle.dds_base.proofs.KeyLaws.{key-same, same_key-refl}
use Rattle.dds_history.specs.declared.held.Entry.{Entry}
use Rattle.dds_history.specs.declared.held.KeyCount.{KeyCount}
use Rattle.dds_history.specs.Entries.{AreCounted, AreUpTo, Counted, Fits, FitsBy, Holds, IsCountedBy, IsFewBy, KeptState, Precedes, RisesFrom, count_in, held_as, held_by, left, one_more}
use Rattle.dds_history.specs.Held.{AreRuns, HeldChange, aged, aged_by, drops, granted, lives, older_after, with_change}
use Rattle.dds_history.proofs.Counting.{lasts, same_back}
use Rattle.dds_history.proofs.Letting.{count_mapped, filter-changed}
use Rattle.dds_history.proofs.Numbering.{count_cons, one_if}

-- ---- what one more of a key leaves

last_or_not : (r : ℕ) → nat_lt 0 r ≡ true → one_if (nat_lt 0 (r - 1)) + one_if (nat_le r 1) ≡ 1
last_or_not r live = step (nat_le r 1) refl
  where
    step : (b : Bool) → nat_le r 1 ≡ b → one_if (nat_lt 0 (r - 1)) + one_if b ≡ 1
    step true is = let none : nat_lt 0 (r - 1) ≡ false = grind (arith, nat_tests) in ap (λ (b : Bool). one_if b + 1) none
    step false is = let some : nat_lt 0 (r - 1) ≡ true = grind (arith, nat_tests) in ap (λ (b : Bool). one_if b + 0) some

-- a change that is not dropped stays, or is dropped
ages : (key : Key) (m : HeldChange) → lasts m ≡ true
    → one_if (lasts (aged key m)) + one_if (same_key m.change.key key && nat_le m.remaining 1) ≡ 1
ages key m live = step (same_key key m.change.key) refl (same_key m.change.key key) refl
  where
    step : (b : Bool) → same_key key m.change.key ≡ b → (d : Bool) → same_key m.change.key key ≡ d
        → one_if (nat_lt 0 (if b then m.remaining - 1 else m.remaining)) + one_if (d && nat_le m.remaining 1) ≡ 1
    step true s true t = last_or_not m.remaining live
    step true s false t = let e = same_back key m.change.key s in absurd cc
    step false s true t = let e = same_back m.change.key key t in absurd cc
    step false s false t = ap (λ (b : Bool). one_if b + 0) live

older_is : (key : Key) (ms : List HeldChange)
    → count_by (λ h. lasts (aged key h)) (filter lasts ms) + drops key (filter lasts ms) ≡ length (filter lasts ms)
older_is key [] = refl
older_is key (m ∷ ms) = step (lasts m) refl (older_is key ms)
  where
    step : (b : Bool) → lasts m ≡ b
        → count_by (λ h. lasts (aged key h)) (filter lasts ms) + drops key (filter lasts ms) ≡ length (filter lasts ms)
        → count_by (λ h. lasts (aged key h)) (cond b (m ∷ filter lasts ms) (filter lasts ms))
        + drops key (cond b (m ∷ filter lasts ms) (filter lasts ms)) ≡ length (cond b (m ∷ filter lasts ms) (filter lasts ms))
    step true is rest =
        let one = ages key m is in
        omega (
          arith,
          one,
          rest,
          count_cons (λ (h : HeldChange). lasts (aged key h)) m (filter lasts ms),
          count_cons (λ (h : HeldChange). same_key h.change.key key && nat_le h.remaining 1) m (filter lasts ms),
        )
    step false is rest = rest

if_lives : (k : Key) (b : Bool) (h : HeldChange) (hs : List HeldChange) → lives k (cond b (h ∷ hs) hs)
    ≡ cond b (one_if (same_key h.change.key k)) 0 + lives k hs
if_lives k true h hs = count_cons (λ (x : HeldChange). same_key x.change.key k) h hs
if_lives k false h hs = omega arith

cond_none : (b : Bool) → ◌≡◌ {A = ℕ} (cond b 0 0) 0
cond_none true = refl
cond_none false = refl

cond_one : (b : Bool) → ◌≡◌ {A = ℕ} (cond b 1 0) (one_if b)
cond_one true = refl
cond_one false = refl

own_ages : (key : Key) (m : HeldChange) → lasts m ≡ true
    → cond (lasts (aged key m)) (one_if (same_key m.change.key key)) 0
    + one_if (same_key m.change.key key && nat_le m.remaining 1) ≡ one_if (same_key m.change.key key)
own_ages key m live = step (same_key m.change.key key) refl
  where
    step : (d : Bool) → same_key m.change.key key ≡ d
        → cond (lasts (aged key m)) (one_if d) 0 + one_if (d && nat_le m.remaining 1) ≡ one_if d
    step true t =
        let one = ages key m live in
        let here : one_if (same_key m.change.key key && nat_le m.remaining 1) ≡ one_if (nat_le m.remaining 1) =
        ap (λ (b : Bool). one_if (b && nat_le m.remaining 1)) t in
        let same = cond_one (lasts (aged key m)) in
        omega (arith, one, here, same)
    step false t = let none = cond_none (lasts (aged key m)) in omega (arith, none)

own_aged : (key : Key) (ms : List HeldChange)
    → lives key (filter lasts (map (aged key) (filter lasts ms))) + drops key (filter lasts ms)
    ≡ lives key (filter lasts ms)
own_aged key [] = refl
own_aged key (m ∷ ms) = step (lasts m) refl (own_aged key ms)
  where
    step : (b : Bool) → lasts m ≡ b
        → lives key (filter lasts (map (aged key) (filter lasts ms))) + drops key (filter lasts ms)
        ≡ lives key (filter lasts ms)
        → lives key (filter lasts (map (aged key) (cond b (m ∷ filter lasts ms) (filter lasts ms))))
        + drops key (cond b (m ∷ filter lasts ms) (filter lasts ms))
        ≡ lives key (cond b (m ∷ filter lasts ms) (filter lasts ms))
    step true is rest =
        let one = own_ages key m is in
        omega (
          arith,
          one,
          rest,
          if_lives key (lasts (aged key m)) (aged key m) (filter lasts (map (aged key) (filter lasts ms))),
          count_cons (λ (h : HeldChange). same_key h.change.key key && nat_le h.remaining 1) m (filter lasts ms),
          count_cons (λ (h : HeldChange). same_key h.change.key key) m (filter lasts ms),
        )
    step false is rest = rest

other_ages : (key k : Key) (m : HeldChange) → same_key key k ≡ false → lasts m ≡ true
    → cond (lasts (aged key m)) (one_if (same_key m.change.key k)) 0 ≡ one_if (same_key m.change.key k)
other_ages key k m apart live = step (same_key m.change.key k) refl
  where
    step : (d : Bool) → same_key m.change.key k ≡ d → cond (lasts (aged key m)) (one_if d) 0 ≡ one_if d
    step true t =
        let other : same_key key m.change.key ≡ false =
        subst (λ (q : Key). same_key key q ≡ false) (sym (key-same m.change.key k t)) apart in
        let stays : lasts (aged key m) ≡ true =
        ap (λ (b : Bool). nat_lt 0 (if b then m.remaining - 1 else m.remaining)) other ∙ live in
        ap (λ (b : Bool). cond b 1 0) stays
    step false t = cond_none (lasts (aged key m))

other_aged : (key k : Key) (ms : List HeldChange) → same_key key k ≡ false
    → lives k (filter lasts (map (aged key) (filter lasts ms))) ≡ lives k (filter lasts ms)
other_aged key k [] apart = refl
other_aged key k (m ∷ ms) apart = step (lasts m) refl (other_aged key k ms apart)
  where
    step : (b : Bool) → lasts m ≡ b
        → lives k (filter lasts (map (aged key) (filter lasts ms))) ≡ lives k (filter lasts ms)
        → lives k (filter lasts (map (aged key) (cond b (m ∷ filter lasts ms) (filter lasts ms))))
        ≡ lives k (cond b (m ∷ filter lasts ms) (filter lasts ms))
    step true is rest =
        let same = other_ages key k m apart is in
        omega (
          arith,
          same,
          rest,
          if_lives k (lasts (aged key m)) (aged key m) (filter lasts (map (aged key) (filter lasts ms))),
          count_cons (λ (h : HeldChange). same_key h.change.key k) m (filter lasts ms),
        )
    step false is rest = rest

-- ---- one entry more

rises_more : (n last : ℕ) (es : List Entry) (e : Entry) → RisesFrom n es → AreUpTo last es → e.number ≡ last + 1
    → n ≤ last + 1 → RisesFrom n (es ++ e ∷ [])
rises_more n last [] e h up is le = (omega arith, tt)
rises_more n last (x ∷ xs) e h up is le =
    (h.0, rises_more (x.number + 1) last xs e h.1 up.1 is (omega (arith, up.0)))

up_to_more : (last : ℕ) (es : List Entry) (e : Entry) → AreUpTo last es → e.number ≡ last + 1
    → AreUpTo (last + 1) (es ++ e ∷ [])
up_to_more last [] e up is = (omega arith, tt)
up_to_more last (x ∷ xs) e up is = (omega (arith, up.0), up_to_more last xs e up.1 is)

pub up_to_later : (last : ℕ) (es : List Entry) → AreUpTo last es → AreUpTo (last + 1) es
up_to_later last [] up = tt
up_to_later last (x ∷ xs) up = (omega (arith, up.0), up_to_later last xs up.1)

pub added_all : (last live after_live : ℕ) (c after : Counted) (es : List Entry) (e : Entry) → e.number ≡ last + 1
    → Holds last (record { policy = KeepAll; entries = es; counted = c; live = live })
    → Holds (last + 1) (record { policy = KeepAll; entries = es ++ e ∷ []; counted = after; live = after_live })
    × (held_by KeepAll after (es ++ e ∷ [])
    ≡ with_change KeepAll (held_by KeepAll c es) e.number e.change true)
added_all last live after_live c after es e is h = (
  record {
    rises = rises_more 0 last es e h.rises h.up_to is (omega arith);
    up_to = up_to_more last es e h.up_to is;
    fits = tt;
  },
  ap (λ (hs : List HeldChange). filter lasts hs) (map-append (held_as KeepAll c) es (e ∷ []))
      ∙ filter-append lasts (map (held_as KeepAll c) es) (held_as KeepAll c e ∷ []),
)

abbrev pub CountedMore : ℕ → Counted → Counted → Key → Type 0
CountedMore depth c after key =
    (k : Key) → count_in after k ≡ (if same_key key k then one_more depth (count_in c key) else count_in c k)

own_more : (depth : ℕ) (c after : Counted) (key k : Key) → CountedMore depth c after key → same_key key k ≡ true
    → count_in after k ≡ one_more depth (count_in c k)
own_more depth c after key k h is =
    h k ∙ ap (λ (b : Bool). if b then one_more depth (count_in c key) else count_in c k) is
    ∙ ap (λ (q : Key). one_more depth (count_in c q)) (key-same key k is)

other_more : (depth : ℕ) (c after : Counted) (key k : Key) → CountedMore depth c after key → same_key key k ≡ false
    → count_in after k ≡ count_in c k
other_more depth c after key k h is =
    h k ∙ ap (λ (b : Bool). if b then one_more depth (count_in c key) else count_in c k) is

no_fewer_turns : (depth : ℕ) (c after : Counted) (key k : Key) → CountedMore depth c after key
    → (count_in c k).turns ≤ (count_in after k).turns
no_fewer_turns depth c after key k h = step (same_key key k) refl
  where
    step : (b : Bool) → same_key key k ≡ b → (count_in c k).turns ≤ (count_in after k).turns
    step true is = let e = ap (λ (n : KeyCount). n.turns) (own_more depth c after key k h is) in omega (arith, e)
    step false is = let e = ap (λ (n : KeyCount). n.turns) (other_more depth c after key k h is) in omega (arith, e)

aged_as : (depth : ℕ) (c after : Counted) (key : Key) (e : Entry) → CountedMore depth c after key
    → held_as (KeepLast depth) after e ≡ aged key (held_as (KeepLast depth) c e)
aged_as depth c after key e h =
    ap (λ (r : ℕ). let x : HeldChange = record { number = e.number; change = e.change; remaining = r } in x)
    (step (same_key key e.change.key) refl)
  where
    step : (b : Bool) → same_key key e.change.key ≡ b
        → e.turn + depth - (count_in after e.change.key).turns
        ≡ (if b then e.turn + depth - (count_in c e.change.key).turns - 1
        else e.turn + depth - (count_in c e.change.key).turns)
    step true is =
        let more = ap (λ (n : KeyCount). n.turns) (own_more depth c after key e.change.key h is) in
        omega (arith, more)
    step false is =
        let same = ap (λ (n : KeyCount). n.turns) (other_more depth c after key e.change.key h is) in
        omega (arith, same)

aged_all : (depth : ℕ) (c after : Counted) (key : Key) (es : List Entry) → CountedMore depth c after key
    → map (held_as (KeepLast depth) after) es ≡ map (aged key) (map (held_as (KeepLast depth) c) es)
aged_all depth c after key [] h = refl
aged_all depth c after key (e ∷ es) h =
    let first = aged_as depth c after key e h in
    let rest = aged_all depth c after key es h in
    λ i. first i ∷ rest i

aged_lasts : (key : Key) (h : HeldChange) → lasts h ≡ false → lasts (aged key h) ≡ false
aged_lasts key h dead = step (same_key key h.change.key)
  where
    step : (b : Bool) → nat_lt 0 (if b then h.remaining - 1 else h.remaining) ≡ false
    step true = grind (arith, nat_tests)
    step false = dead

last_shown : (depth : ℕ) (after : Counted) (e : Entry) → e.turn ≡ (count_in after e.change.key).turns → 0 < depth
    → held_by (KeepLast depth) after (e ∷ [])
    ≡ (if nat_lt 0 depth && true then record { number = e.number; change = e.change; remaining = depth } ∷ [] else [])
last_shown depth after e newest some =
    let full : e.turn + depth - (count_in after e.change.key).turns ≡ depth = omega (arith, newest) in
    let here : nat_lt 0 depth ≡ true = grind (arith, nat_tests) in
    ap (λ (r : ℕ). let x : HeldChange = record { number = e.number; change = e.change; remaining = r } in
    cond (nat_lt 0 r) (x ∷ []) []) full
    ∙ (ap (λ (b : Bool). let x : HeldChange = record { number = e.number; change = e.change; remaining = depth } in
    cond b (x ∷ []) []) here
    ∙ ap (λ (b : Bool). let x : HeldChange = record { number = e.number; change = e.change; remaining = depth } in
    cond (b && true) (x ∷ []) []) (sym here))

shown_more : (depth : ℕ) (c after : Counted) (es : List Entry) (e : Entry) → CountedMore depth c after e.change.key
    → e.turn ≡ (count_in after e.change.key).turns → 0 < depth
    → held_by (KeepLast depth) after (es ++ e ∷ [])
    ≡ with_change (KeepLast depth) (held_by (KeepLast depth) c es) e.number e.change true
shown_more depth c after es e h newest some =
    let key : Key = e.change.key in
    let as_now : Entry → HeldChange = held_as (KeepLast depth) after in
    let as_was : Entry → HeldChange = held_as (KeepLast depth) c in
    ap (λ (hs : List HeldChange). filter lasts hs) (map-append as_now es (e ∷ []))
    ∙ (filter-append lasts (map as_now es) (as_now e ∷ [])
    ∙ (ap (λ (hs : List HeldChange). filter lasts hs ++ filter lasts (as_now e ∷ [])) (aged_all depth c after key es h)
    ∙ (ap (λ (hs : List HeldChange). hs ++ filter lasts (as_now e ∷ []))
    (sym (filter-changed lasts lasts (aged key) (aged_lasts key) (λ x is. refl) (map as_was es)))
    ∙ ap (λ (hs : List HeldChange). filter lasts (map (aged key) (filter lasts (map as_was es))) ++ hs)
    (last_shown depth after e newest some))))

precedes_more : (x : Entry) (es : List Entry) (e : Entry) → Precedes x es
    → (same_key x.change.key e.change.key ≡ true → x.turn < e.turn) → Precedes x (es ++ e ∷ [])
precedes_more x [] e h lt = (lt, tt)
precedes_more x (y ∷ ys) e h lt = (h.0, precedes_more x ys e h.1 lt)

counted_more : (depth : ℕ) (c after : Counted) (es : List Entry) (e : Entry) → CountedMore depth c after e.change.key
    → AreCounted c es → e.turn ≡ (count_in c e.change.key).turns + 1 → AreCounted after (es ++ e ∷ [])
counted_more depth c after [] e h counted newest =
    let own = ap (λ (n : KeyCount). n.turns)
    (own_more depth c after e.change.key e.change.key h (same_key-refl e.change.key)) in
    (omega (arith, newest), omega (arith, newest, own), tt, tt)
counted_more depth c after (x ∷ xs) e h counted newest =
    let more = no_fewer_turns depth c after e.change.key x.change.key h in
    let earlier : same_key x.change.key e.change.key ≡ true → x.turn < e.turn =
    λ same. let is = ap (λ (k : Key). (count_in c k).turns) (key-same x.change.key e.change.key same) in
    omega (arith, newest, is, counted.1) in (
      counted.0,
      omega (arith, more, counted.1),
      precedes_more x xs e counted.2 earlier,
      counted_more depth c after xs e h counted.3 newest,
    )

gains : (depth kept now left dropped : ℕ) → kept ≡ now → 0 < depth
    → dropped ≡ (if nat_lt 0 depth && now == depth then 1 else 0) → left + dropped ≡ now
    → (if kept == depth then kept else kept + 1) ≡ left + 1
gains depth kept now left dropped same some drop rest = grind (arith, nat_tests)

gains_live : (depth kept now dropped live older : ℕ) → kept ≡ now → 0 < depth
    → dropped ≡ (if nat_lt 0 depth && now == depth then 1 else 0) → older + dropped ≡ live
    → (if kept == depth then live else live + 1) ≡ older + 1
gains_live depth kept now dropped live older same some drop rest = grind (arith, nat_tests)

few_more : (n depth last : ℕ) → n ≤ last → (if n == depth then n else n + 1) ≤ last + 1
few_more n depth last le = step (n == depth)
  where
    step : (b : Bool) → (if b then n else n + 1) ≤ last + 1
    step true = omega arith
    step false = omega arith

pub added_last : (depth last live after_live : ℕ) (c after : Counted) (es : List Entry) (e : Entry)
    → e.number ≡ last + 1 → e.turn ≡ (count_in c e.change.key).turns + 1
    → CountedMore depth c after e.change.key
    → after_live ≡ (if (count_in c e.change.key).kept == depth then live else live + 1) → 0 < depth
    → AreRuns (KeepLast depth) (held_by (KeepLast depth) c es)
    → Holds last (record { policy = KeepLast depth; entries = es; counted = c; live = live })
    → Holds (last + 1)
    (record { policy = KeepLast depth; entries = es ++ e ∷ []; counted = after; live = after_live })
    × (held_by (KeepLast depth) after (es ++ e ∷ [])
    ≡ with_change (KeepLast depth) (held_by (KeepLast depth) c es) e.number e.change true)
added_last depth last live after_live c after es e is turn counted lives_on some runs h =
    let key : Key = e.change.key in
    let was : List HeldChange = map (held_as (KeepLast depth) c) es in
    let hs : List HeldChange = held_by (KeepLast depth) c es in
    let left : List HeldChange = filter lasts (map (aged key) hs) in
    let new : HeldChange = record { number = e.number; change = e.change; remaining = depth } in
    let own = own_more depth c after key key counted (same_key-refl key) in
    let newest : e.turn ≡ (count_in after key).turns = turn ∙ sym (ap (λ (n : KeyCount). n.turns) own) in
    let here : nat_lt 0 depth ≡ true = grind (arith, nat_tests) in
    let shown = shown_more depth c after es e counted newest some in
    let now : held_by (KeepLast depth) after (es ++ e ∷ []) ≡ left ++ new ∷ [] =
    shown ∙ ap (λ (b : Bool). left ++ cond (b && true) (new ∷ []) []) here in
    let kept = h.fits.kept key in
    let dropped = runs key in
    let owned = own_aged key was in
    let own_kept : (count_in after key).kept ≡ lives key (held_by (KeepLast depth) after (es ++ e ∷ [])) =
    ap (λ (n : KeyCount). n.kept) own
    ∙ (gains depth (count_in c key).kept (lives key hs) (lives key left) (drops key hs) kept some dropped owned
    ∙ (sym (lives_more key left new ∙ ap (λ (b : Bool). lives key left + one_if b) (same_key-refl key))
    ∙ ap (λ (xs : List HeldChange). lives key xs) (sym now))) in
    let older = older_is key was in
    let live_is : after_live ≡ length (held_by (KeepLast depth) after (es ++ e ∷ [])) =
    lives_on
    ∙ (gains_live depth (count_in c key).kept (lives key hs) (drops key hs) live (count_by (λ x. lasts (aged key x)) hs)
    kept some dropped (older ∙ sym h.fits.live)
    ∙ (sym (length-append left (new ∷ [])
    ∙ ap (λ (n : ℕ). n + 1) (length_left key hs))
    ∙ ap (λ (xs : List HeldChange). length xs) (sym now))) in (
      record {
        rises = rises_more 0 last es e h.rises h.up_to is (omega arith);
        up_to = up_to_more last es e h.up_to is;
        fits = record {
          counted = counted_more depth c after es e counted h.fits.counted turn;
          kept = λ k. each_kept k (same_key key k) refl own_kept now;
          live = live_is;
          few = record {
            turns = λ k. each_turns k (same_key key k) refl;
            kept = λ k. each_few k (same_key key k) refl;
            live = subst (λ (n : ℕ). n ≤ last + 1) (sym lives_on)
                (few_live ((count_in c key).kept == depth) h.fits.few.live);
          };
        };
      },
      shown,
    )
  where
    lives_more : (k : Key) (xs : List HeldChange) (x : HeldChange) → lives k (xs ++ x ∷ [])
        ≡ lives k xs + one_if (same_key x.change.key k)
    lives_more k xs x =
        let parts = sum_by-append (λ (h : HeldChange). one_if (same_key h.change.key k)) xs (x ∷ []) in
        omega (arith, parts, count_cons (λ (h : HeldChange). same_key h.change.key k) x [])

    length_left : (k : Key) (xs : List HeldChange) → length (filter lasts (map (aged k) xs))
        ≡ count_by (λ x. lasts (aged k x)) xs
    length_left k xs = length-filter lasts (map (aged k) xs) ∙ count_mapped lasts (aged k) xs

    each_kept : (k : Key) (b : Bool) → same_key e.change.key k ≡ b
        → (count_in after e.change.key).kept ≡ lives e.change.key (held_by (KeepLast depth) after (es ++ e ∷ []))
        → held_by (KeepLast depth) after (es ++ e ∷ [])
        ≡ filter lasts (map (aged e.change.key) (held_by (KeepLast depth) c es))
        ++ record { number = e.number; change = e.change; remaining = depth } ∷ []
        → (count_in after k).kept ≡ lives k (held_by (KeepLast depth) after (es ++ e ∷ []))
    each_kept k true same own now =
        subst (λ (q : Key). (count_in after q).kept ≡ lives q (held_by (KeepLast depth) after (es ++ e ∷ [])))
        (key-same e.change.key k same) own
    each_kept k false apart own now =
        ap (λ (n : KeyCount). n.kept) (other_more depth c after e.change.key k counted apart)
        ∙ (h.fits.kept k
        ∙ (sym (other_aged e.change.key k (map (held_as (KeepLast depth) c) es) apart)
        ∙ (sym (lives_more k (filter lasts (map (aged e.change.key) (held_by (KeepLast depth) c es)))
        (record { number = e.number; change = e.change; remaining = depth })
        ∙ (ap (λ (b : Bool). lives k (filter lasts (map (aged e.change.key) (held_by (KeepLast depth) c es))) + one_if b) apart
        ∙ omega arith))
        ∙ ap (λ (xs : List HeldChange). lives k xs) (sym now))))

    each_turns : (k : Key) (b : Bool) → same_key e.change.key k ≡ b → (count_in after k).turns ≤ last + 1
    each_turns k true same =
        let more = ap (λ (n : KeyCount). n.turns) (own_more depth c after e.change.key k counted same) in
        let few = h.fits.few.turns k in
        omega (arith, more, few)
    each_turns k false apart =
        let equal = ap (λ (n : KeyCount). n.turns) (other_more depth c after e.change.key k counted apart) in
        let few = h.fits.few.turns k in
        omega (arith, equal, few)

    each_few : (k : Key) (b : Bool) → same_key e.change.key k ≡ b → (count_in after k).kept ≤ last + 1
    each_few k true same =
        subst (λ (n : ℕ). n ≤ last + 1)
        (sym (ap (λ (n : KeyCount). n.kept) (own_more depth c after e.change.key k counted same)))
        (few_more (count_in c k).kept depth last (h.fits.few.kept k))
    each_few k false apart =
        let equal = ap (λ (n : KeyCount). n.kept) (other_more depth c after e.change.key k counted apart) in
        let few = h.fits.few.kept k in
        omega (arith, equal, few)

    few_live : (b : Bool) → live ≤ last → (if b then live else live + 1) ≤ last + 1
    few_live true le = omega arith
    few_live false le = omega arith

-- nothing of these counts where one more is not kept
pub later_holds : (last : ℕ) (s : KeptState) → Holds last s → Holds (last + 1) s
later_holds last s h = record {
  rises = h.rises;
  up_to = up_to_later last s.entries h.up_to;
  fits = later_fits s.policy h.fits;
}
  where
    later_fits : (p : HistoryQos) → FitsBy p last s → FitsBy p (last + 1) s
    later_fits KeepAll f = tt
    later_fits (KeepLast depth) f = record {
      counted = f.counted;
      kept = f.kept;
      live = f.live;
      few = record {
        turns = λ k. let few = f.few.turns k in omega (arith, few);
        kept = λ k. let few = f.few.kept k in omega (arith, few);
        live = let few = f.few.live in omega (arith, few);
      };
    }

-- how many stay kept, by the counts
pub older_counted : (depth last : ℕ) (s : KeptState) (key : Key) → Fits depth last s
    → AreRuns (KeepLast depth) (held_by (KeepLast depth) s.counted s.entries)
    → s.live - (if nat_lt 0 depth && (count_in s.counted key).kept == depth then 1 else 0)
    ≡ older_after (KeepLast depth) (held_by (KeepLast depth) s.counted s.entries) key
older_counted depth last s key f runs =
    let was : List HeldChange = map (held_as (KeepLast depth) s.counted) s.entries in
    let hs : List HeldChange = held_by (KeepLast depth) s.counted s.entries in
    let older = older_is key was in
    let dropped : drops key hs ≡ (if nat_lt 0 depth && (count_in s.counted key).kept == depth then 1 else 0) =
    runs key ∙ ap (λ (n : ℕ). if nat_lt 0 depth && n == depth then 1 else 0) (sym (f.kept key)) in
    ap (λ (n : ℕ). s.live - n) (sym dropped) ∙ omega (arith, older, f.live)

pub older_by : (depth last : ℕ) (s : KeptState) (key : Key) → s.policy ≡ KeepLast depth → Holds last s
    → AreRuns s.policy (held_by s.policy s.counted s.entries)
    → s.live - (if nat_lt 0 depth && (count_in s.counted key).kept == depth then 1 else 0)
    ≡ older_after s.policy (held_by s.policy s.counted s.entries) key
older_by depth last s key is h runs =
    subst (λ (p : HistoryQos). FitsBy p last s → AreRuns p (held_by p s.counted s.entries)
    → s.live - (if nat_lt 0 depth && (count_in s.counted key).kept == depth then 1 else 0)
    ≡ older_after p (held_by p s.counted s.entries) key) (sym is)
    (older_counted depth last s key) h.fits runs

pub older_all : (p : HistoryQos) (c : Counted) (es : List Entry) (key : Key) → p ≡ KeepAll
    → length es ≡ older_after p (held_by p c es) key
older_all p c es key is =
    subst (λ (q : HistoryQos). length es ≡ older_after q (held_by q c es) key) (sym is) (each es)
  where
    each : (xs : List Entry) → length xs ≡ length (held_by KeepAll c xs)
    each [] = refl
    each (x ∷ xs) = ap suc (each xs)

pub few_of : (p : HistoryQos) (last : ℕ) (s : KeptState) → FitsBy p last s → IsFewBy p last s
few_of KeepAll last s f = tt
few_of (KeepLast depth) last s f = f.few

pub not_taken : (p : HistoryQos) (hs : List HeldChange) (number : ℕ) (change : Change) (awaited : Bool)
    → (nat_lt 0 (granted p) && awaited) ≡ false → hs ≡ [] → hs ≡ with_change p hs number change awaited
not_taken p hs number change awaited out none =
    subst (λ (xs : List HeldChange). xs ≡ with_change p xs number change awaited) (sym none)
    (sym (ap (λ (b : Bool). aged_by p change.key []
    ++ cond b (record { number = number; change = change; remaining = granted p } ∷ []) []) out ∙ nothing p))
  where
    nothing : (q : HistoryQos) → aged_by q change.key [] ++ [] ≡ []
    nothing KeepAll = refl
    nothing (KeepLast depth) = refl

pub added_by : (p : HistoryQos) (last live : ℕ) (c : Counted) (es more : List Entry) (s : KeptState)
    (turn number : ℕ) (change : Change) → last + 1 ≡ number → 0 < granted p → AreRuns p (held_by p c es)
    → Holds last (record { policy = p; entries = es; counted = c; live = live })
    → IsCountedBy p change.key (record { policy = p; entries = es; counted = c; live = live }) s turn
    → more ≡ es ++ record { number = number; change = change; turn = turn } ∷ []
    → Holds number (record { policy = p; entries = more; counted = s.counted; live = s.live })
    × (held_by p s.counted more ≡ with_change p (held_by p c es) number change true)
added_by p last live c es more s turn number change next some runs h counted is =
    subst (λ (xs : List Entry). Holds number (record { policy = p; entries = xs; counted = s.counted; live = s.live })
    × (held_by p s.counted xs ≡ with_change p (held_by p c es) number change true)) (sym is)
    (subst (λ (n : ℕ). Holds n (record {
      policy = p;
      entries = es ++ record { number = number; change = change; turn = turn } ∷ [];
      counted = s.counted;
      live = s.live;
    })
    × (held_by p s.counted (es ++ record { number = number; change = change; turn = turn } ∷ [])
    ≡ with_change p (held_by p c es) number change true)) next
    (by p some runs h counted))
  where
    by : (q : HistoryQos) → 0 < granted q → AreRuns q (held_by q c es)
        → Holds last (record { policy = q; entries = es; counted = c; live = live })
        → IsCountedBy q change.key (record { policy = q; entries = es; counted = c; live = live }) s turn
        → Holds (last + 1) (record {
          policy = q;
          entries = es ++ record { number = number; change = change; turn = turn } ∷ [];
          counted = s.counted;
          live = s.live;
        })
        × (held_by q s.counted (es ++ record { number = number; change = change; turn = turn } ∷ [])
        ≡ with_change q (held_by q c es) number change true)
    by KeepAll some runs h counted =
        added_all last live s.live c s.counted es (record { number = number; change = change; turn = turn }) (sym next) h
    by (KeepLast depth) some runs h counted =
        added_last depth last live s.live c s.counted es (record { number = number; change = change; turn = turn })
        (sym next) counted.newest counted.counts counted.live some runs h
