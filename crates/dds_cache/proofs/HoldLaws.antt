-- Of which instances something is present is seen among what is kept, and so whether an entry ends a life.
use Rattle.std.proofs.Common.{◌≡◌, ℕ, ◌+◌, ◌-◌, ◌≤◌, List, [], ◌∷◌, length, filter, map, cond, Bool, true, false, not, ◌&&◌, ◌||◌, sym, ap, ◌∙◌, refl, Option, Some, arith, zero, suc, add-one, ⊎_elim, get_or, take, ◌<◌, ◌≢◌}
use Rattle.std.specs.Prelude.{if◌then◌else◌}
use Rattle.std.specs.List.{list_any, All}
use Rattle.std.proofs.lemmas.Bool.{and_right, cases_Bool, ltb-false, le-ltb}
use Rattle.std.proofs.lemmas.List.Elements.{All-filter, All-head, All-tail}
use Rattle.std.proofs.lemmas.List.Folds.{list_any-append}
use Rattle.dds_base.specs.declared.key.Key.{Key}
use Rattle.dds_base.specs.declared.happening.Arrival.{Arrival}
use Rattle.dds_base.specs.declared.happening.SamplePosition.{SamplePosition}
use Rattle.dds_base.specs.declared.happening.Happening.{Happening}
use Rattle.dds_base.specs.declared.happening.Happening.TheVariants.{Came, Took}
use Rattle.dds_base.specs.declared.qos.ReaderQos.{ReaderQos}
use Rattle.dds_base.specs.declared.qos.HistoryQos.{HistoryQos}
use Rattle.dds_base.specs.declared.qos.HistoryQos.TheVariants.{KeepAll, KeepLast}
use Rattle.dds_base.specs.Happening.{same_key, same_sample, as_of, is_taken}
use Rattle.dds_base.specs.Life.{accepted_writes, ends_life, ends_with_write, has_there, is_at, is_kept_write, is_nobody, is_there, keeps, last_marker, up_to}
use Rattle.dds_base.specs.Ownership.{registered_writers}
use Rattle.dds_base.specs.Presence.{is_present, marks}
use Rattle.dds_base.proofs.LifeLaws.{as_of-older, as_of-newest, ends-unmarked, marker-next, quiet-unmarked, up_to-like}
use Rattle.dds_base.proofs.KeyLaws.{key-same}
use Rattle.dds_instances.specs.Table.{Table}
use Rattle.dds_cache.specs.declared.kept.Kept.{Kept}
use Rattle.dds_cache.specs.Chains.{IsFirst}
use Rattle.dds_cache.specs.Finding.{Holds}
use Rattle.dds_cache.specs.Kept.{IsFresh, IsKept, is_among, is_here, out_if, position_of, positions_in, sample_at, taken}
use Rattle.dds_cache.proofs.PresenceLaws.{present-reached, reached}
use Rattle.dds_cache.proofs.StandingLaws.{apart-taken, holds-apart}
use Rattle.dds_base.specs.Instance.{is_known}
use Rattle.dds_cache.specs.Sweeping.{stays, stays_of}
use Rattle.dds_cache.proofs.SweepLaws.{IsApart, stays-present}

-- ---- whether something of an instance is present

is_some_of : {X : Type 0} → List X → Bool
is_some_of [] = false
is_some_of (x ∷ xs) = true

any-some : {X : Type 0} (p : X → Bool) (xs : List X) → list_any p xs ≡ is_some_of (filter p xs)
unfolding is_some_of
any-some p [] = refl
any-some {X = X} p (x ∷ xs) = one (p x) x (filter p xs) (list_any p xs) (any-some p xs)
  where
    one : (b : Bool) (x : X) (ys : List X) (rest : Bool) → rest ≡ is_some_of ys → (b || rest) ≡ is_some_of (cond b (x ∷ ys) ys)
    one true x ys rest is = refl
    one false x ys rest is = is

map-some : {X Y : Type 0} (f : X → Y) (xs : List X) → is_some_of (map f xs) ≡ is_some_of xs
unfolding is_some_of
map-some f [] = refl
map-some f (x ∷ xs) = refl

-- among what is kept, and among what is there
pub any-here : (q : ReaderQos) (h : List Happening) (i : Key) (ks : List Kept)
    → filter (is_present q h i) (up_to (length h)) ≡ positions_in q h i ks
    → list_any (is_here q h i) ks ≡ list_any (is_present q h i) (up_to (length h))
any-here q h i ks present =
    any-some (is_here q h i) ks
    ∙ (sym (map-some position_of (filter (is_here q h i) ks))
    ∙ (ap (λ (ps : List ℕ). is_some_of ps) (sym present) ∙ sym (any-some (is_present q h i) (up_to (length h)))))

-- a kept sample is of an instance and present, where a sweep leaves it
pub here-by : (q : ReaderQos) (h : List Happening) (i : Key) (k : Kept) (b : Bool) → IsKept q h k → b ≡ stays q h k
    → is_here q h i k ≡ (same_key k.sample.key i && b)
here-by q h i k b kept is =
    ⊎_elim
    (λ same. ap (λ (x : Key). same_key k.sample.key i && is_present q h x k.sample.position)
    (sym (key-same k.sample.key i same))
    ∙ ap (λ (x : Bool). same_key k.sample.key i && x) (sym (stays-present q h k kept) ∙ sym is))
    (λ other. ap (λ (x : Bool). x && is_present q h i k.sample.position) other
    ∙ sym (ap (λ (x : Bool). x && b) other))
    (cases_Bool (same_key k.sample.key i))

both-none : (a b : Bool) → (a || b) ≡ false → (a ≡ false) × (b ≡ false)
both-none false b none = (refl, none)
both-none true b none = absurd (let clash : true ≡ false = none in cc)

neither : (a b : Bool) → a ≡ false → b ≡ false → (a || b) ≡ false
neither a b no_a no_b = ap (λ (x : Bool). x || b) no_a ∙ no_b

-- where none of the first m is one, and none from there on below n is, none of the first n is
pub none-further : (p : Kept → Bool) (ks : List Kept) (m n : ℕ) → m ≤ n
    → ((j : ℕ) (d : Kept) → m ≤ j → j < n → j < length ks → p (get_or ks j d) ≡ false)
    → list_any p (take m ks) ≡ false → list_any p (take n ks) ≡ false
none-further p [] m zero le none before = refl
none-further p [] m (suc n) le none before = refl
none-further p (k ∷ ks) zero zero le none before = refl
none-further p (k ∷ ks) (suc m) zero le none before = absurd (omega (arith, le))
none-further p (k ∷ ks) zero (suc n) le none before =
    neither (p k) (list_any p (take n ks)) (none 0 k (omega arith) (omega arith) (omega arith))
    (none-further p ks zero n (omega arith)
    (λ j d from below within. none (suc j) d (omega arith) (omega (arith, below)) (omega (arith, within))) refl)
none-further p (k ∷ ks) (suc m) (suc n) le none before =
    neither (p k) (list_any p (take n ks)) (both-none (p k) (list_any p (take m ks)) before).0
    (none-further p ks m n (omega (arith, le))
    (λ j d from below within. none (suc j) d (omega (arith, from)) (omega (arith, below)) (omega (arith, within)))
    (both-none (p k) (list_any p (take m ks)) before).1)

-- no sample of an instance is present that is before its first one
pub none-before : (q : ReaderQos) (h : List Happening) (i : Key) (ks : List Kept) (first : ℕ) → All (IsKept q h) ks
    → IsFirst ks i first → (j : ℕ) (d : Kept) → j < first → j < length ks → is_here q h i (get_or ks j d) ≡ false
none-before q h i ks first each begins j d below within =
    ⊎_elim
    (λ own. let is : k.sample.key ≡ i = key-same k.sample.key i own in
    ⊎_elim
    (λ out. ap (λ (x : Key). same_key k.sample.key i && is_present q h x k.sample.position) (sym is)
    ∙ (ap (λ (b : Bool). same_key k.sample.key i && b) ((each j d within).out_is out)
    ∙ and_right (same_key k.sample.key i) false refl))
    (λ stays. let le : first ≤ j = begins j d within is stays in absurd (omega (arith, le, below)))
    (cases_Bool k.is_out))
    (λ other. ap (λ (b : Bool). b && is_present q h i k.sample.position) other)
    (cases_Bool (same_key k.sample.key i))
  where
    k : Kept
    k = get_or ks j d

-- nor is one of another instance
pub none-apart : (q : ReaderQos) (h : List Happening) (i : Key) (k : Kept) → k.sample.key ≢ i → is_here q h i k ≡ false
none-apart q h i k apart =
    ⊎_elim
    (λ own. absurd (apart (key-same k.sample.key i own)))
    (λ other. ap (λ (b : Bool). b && is_present q h i k.sample.position) other)
    (cases_Bool (same_key k.sample.key i))

-- one more sample is noted, if it is present
pub held-more : (same live before so_far here : Bool) → live ≡ true → before ≡ so_far → here ≡ (same && live)
    → (same || before) ≡ (so_far || here)
held-more true true before true here is same e = refl
held-more true true before false here is same e = sym e
held-more false true before true here is same e = same
held-more false true before false here is same e = same ∙ sym e
held-more s false before so_far here is same e = absurd (let clash : false ≡ true = is in cc)

pub held-same : (same live so_far here : Bool) → live ≡ false → here ≡ (same && live) → so_far ≡ (so_far || here)
held-same same live true here is e = refl
held-same true true false here is e = absurd (let clash : true ≡ false = is in cc)
held-same true false false here is e = sym e
held-same false live false here is e = sym e

-- ---- what a take leaves

-- a sample that a take did not return is there as it was
there-left : (q : ReaderQos) (ss : List SamplePosition) (h : List Happening) (i : Key) (m : Option ℕ) (j : ℕ)
    → j ≤ length h → list_any (same_sample (sample_at i j)) ss ≡ false
    → is_there q (Took ss ∷ h) i m j ≡ is_there q h i m j
there-left q ss h i m j older apart =
    let none : accepted_writes q i (Took ss ∷ h) ≡ accepted_writes q i h = omega arith in
    ap (λ (b : Bool). not (b || is_taken (sample_at i j) h) && (is_kept_write q (Took ss ∷ h) i j || is_at m j)) apart
    ∙ (ap (λ (g : List Happening). not (is_taken (sample_at i j) h) && ((ends_with_write q i g
    && keeps q.history (accepted_writes q i (Took ss ∷ h) - accepted_writes q i g)) || is_at m j))
    (as_of-older (Took ss) h j older)
    ∙ ap (λ (n : ℕ). not (is_taken (sample_at i j) h) && ((ends_with_write q i (as_of j h)
    && keeps q.history (n - accepted_writes q i (as_of j h))) || is_at m j)) none)

-- so it is as present as before, even where its life ends
here-left : (q : ReaderQos) (ss : List SamplePosition) (h : List Happening) (i : Key) (k : Kept)
    → k.sample.position ≤ length h → IsApart (Took ss) k → is_here q h i k ≡ is_here q (Took ss ∷ h) i k
here-left q ss h i k older apart =
    ⊎_elim
    (λ same. ap (λ (b : Bool). b && is_present q h i k.sample.position) same
    ∙ (sym (there-left q ss h i (last_marker q i h) k.sample.position older
    (ap (λ (x : Key). list_any (same_sample (sample_at x k.sample.position)) ss) (sym (key-same k.sample.key i same))
    ∙ apart.untaken))
    ∙ (sym (ap (λ (b : Bool). is_there q (Took ss ∷ h) i (if b then Some (length h + 1) else last_marker q i h)
    k.sample.position) (quiet-unmarked q i h (Took ss) refl refl))
    ∙ (sym (present-reached q (Took ss) h i k.sample.position (omega (arith, older)))
    ∙ sym (ap (λ (b : Bool). b && is_present q (Took ss ∷ h) i k.sample.position) same)))))
    (λ other. ap (λ (b : Bool). b && is_present q h i k.sample.position) other
    ∙ sym (ap (λ (b : Bool). b && is_present q (Took ss ∷ h) i k.sample.position) other))
    (cases_Bool (same_key k.sample.key i))

any-agree : {X : Type 0} (f g : X → Bool) (xs : List X) → All (λ (x : X). f x ≡ g x) xs → list_any f xs ≡ list_any g xs
any-agree f g [] same = refl
any-agree {X = X} f g (x ∷ xs) same =
    ap (λ (b : Bool). b || list_any f xs) (All-head (λ (y : X). f y ≡ g y) x xs same)
    ∙ ap (λ (b : Bool). g x || b) (any-agree f g xs (All-tail (λ (y : X). f y ≡ g y) x xs same))

-- something is left of an instance after a take, exactly where a kept sample that it did not return is present
pub left-there : (q : ReaderQos) (ss : List SamplePosition) (h : List Happening) (table : Table) (i : Key)
    (ks : List Kept) → Holds q table ks h
    → list_any (is_here q h i) (filter (λ k. not (is_among ss k)) ks)
    ≡ has_there q (Took ss ∷ h) i (last_marker q i h)
left-there q ss h table i ks holds =
    let g : List Happening = Took ss ∷ h in
    let left : List Kept = filter (λ k. not (is_among ss k)) ks in
    let each : All (IsKept q h) left = All-filter (λ k. not (is_among ss k)) (IsKept q h) ks holds.each in
    any-agree (is_here q h i) (is_here q g i) left
    (λ n d within. here-left q ss h i (get_or left n d) (each n d within).in_past (apart-taken ss ks n d within))
    ∙ (any-here q g i left (holds-apart q ss h table i ks holds)
    ∙ (up_to-like (is_present q g i) (is_there q g i (reached q i h (Took ss))) (length g)
    (λ j within. present-reached q (Took ss) h i j (omega (arith, within)))
    ∙ ap (λ (b : Bool). has_there q g i (if b then Some (length h + 1) else last_marker q i h))
    (quiet-unmarked q i h (Took ss) refl refl)))

-- what a sweep would leave of an instance, of what is kept, is what is present of it
pub any-stays : (q : ReaderQos) (h : List Happening) (i : Key) (ks : List Kept) → All (IsKept q h) ks
    → list_any (stays_of q h i) ks ≡ list_any (is_here q h i) ks
any-stays q h i ks each =
    any-agree (stays_of q h i) (is_here q h i) ks
    (λ n d within. sym (here-by q h i (get_or ks n d) (stays q h (get_or ks n d)) (each n d within) refl))

-- once those that a take returned are marked, it is what is present of the others
pub marked-there : (q : ReaderQos) (ss : List SamplePosition) (h : List Happening) (i : Key) (ks : List Kept)
    → All (IsKept q h) ks
    → list_any (stays_of q h i) (map (taken ss) ks) ≡ list_any (is_here q h i) (filter (λ k. not (is_among ss k)) ks)
marked-there q ss h i [] each = refl
marked-there q ss h i (k ∷ ks) each =
    one (is_among ss k) (here-by q h i k (stays q h k) (All-head (IsKept q h) k ks each) refl)
    (marked-there q ss h i ks (All-tail (IsKept q h) k ks each))
  where
    rest : List Kept
    rest = filter (λ x. not (is_among ss x)) ks

    gone : (a b : Bool) → (a && (b && false)) ≡ false
    gone true true = refl
    gone true false = refl
    gone false b = refl

    one : (b : Bool) → is_here q h i k ≡ (same_key k.sample.key i && stays q h k)
        → list_any (stays_of q h i) (map (taken ss) ks) ≡ list_any (is_here q h i) rest
        → (stays_of q h i (out_if b k) || list_any (stays_of q h i) (map (taken ss) ks))
        ≡ list_any (is_here q h i) (cond (not b) (k ∷ rest) rest)
    one true here later =
        ap (λ (x : Bool). x || list_any (stays_of q h i) (map (taken ss) ks))
        (gone (same_key k.sample.key i) (is_known q h k.sample.key))
        ∙ later
    one false here later =
        ap (λ (x : Bool). x || list_any (stays_of q h i) (map (taken ss) ks)) (sym here)
        ∙ ap (λ (x : Bool). is_here q h i k || x) later

-- ---- whether a change ends a life

or-none : (a : Bool) → (a || (false || false)) ≡ a
or-none true = refl
or-none false = refl

-- what has a sample at the newest position is not over
not-over : (q : ReaderQos) (e : Happening) (h : List Happening) (i : Key)
    → is_there q (e ∷ h) i (reached q i h e) (length h + 1) ≡ true → ends_life q i h e ≡ false
not-over q e h i there =
    let now : ℕ → Bool = is_there q (e ∷ h) i (reached q i h e) in
    let some : has_there q (e ∷ h) i (reached q i h e) ≡ true =
    list_any-append now (up_to (length h)) (suc (length h) ∷ [])
    ∙ (ap (λ (b : Bool). list_any now (up_to (length h)) || (b || false)) (ap now (sym (add-one (length h))) ∙ there)
    ∙ or-true (list_any now (up_to (length h)))) in
    ap (λ (b : Bool). is_nobody (registered_writers q i (e ∷ h)) && not b) some
    ∙ and_right (is_nobody (registered_writers q i (e ∷ h))) false refl
  where
    or-true : (a : Bool) → (a || true) ≡ true
    or-true true = refl
    or-true false = refl

-- a write that the history keeps does not end it
pub ends-written : (q : ReaderQos) (a : Arrival) (h : List Happening) → IsFresh h a.change.key
    → keeps q.history 0 ≡ true → ends_with_write q a.change.key (Came a ∷ h) ≡ true
    → ends_life q a.change.key h (Came a) ≡ false
ends-written q a h fresh keeping written =
    let i : Key = a.change.key in
    let g : List Happening = Came a ∷ h in
    let n : ℕ = length h + 1 in
    let m : Option ℕ = reached q i h (Came a) in
    let none : accepted_writes q i g - accepted_writes q i g ≡ 0 = omega arith in
    not-over q (Came a) h i
    (ap (λ (b : Bool). not b && (is_kept_write q g i n || is_at m n)) fresh.untaken
    ∙ (ap (λ (x : List Happening). (ends_with_write q i x
    && keeps q.history (accepted_writes q i g - accepted_writes q i x)) || is_at m n) (as_of-newest (Came a) h)
    ∙ (ap (λ (b : Bool). (b && keeps q.history (accepted_writes q i g - accepted_writes q i g)) || is_at m n) written
    ∙ (ap (λ (x : ℕ). keeps q.history x || is_at m n) none ∙ ap (λ (b : Bool). b || is_at m n) keeping))))

-- a history that does not keep the newest write keeps none
keeps-none : (history : HistoryQos) (n : ℕ) → keeps history 0 ≡ false → keeps history n ≡ false
keeps-none KeepAll n e = absurd (let clash : true ≡ false = e in cc)
keeps-none (KeepLast depth) n e = let none : depth ≤ 0 = ltb-false 0 depth e in le-ltb n depth (omega (arith, none))

-- with such a history the markers alone are there, after an entry as before
there-unkept : (q : ReaderQos) (a : Arrival) (h : List Happening) (i : Key) (m : Option ℕ) (j : ℕ)
    → keeps q.history 0 ≡ false → is_there q (Came a ∷ h) i m j ≡ is_there q h i m j
there-unkept q a h i m j unkept =
    ap (λ (b : Bool). not (is_taken (sample_at i j) h) && ((ends_with_write q i (as_of j (Came a ∷ h)) && b) || is_at m j))
    (keeps-none q.history _ unkept)
    ∙ (ap (λ (b : Bool). not (is_taken (sample_at i j) h) && (b || is_at m j))
    (and_right (ends_with_write q i (as_of j (Came a ∷ h))) false refl ∙ sym (and_right (ends_with_write q i (as_of j h)) false refl))
    ∙ sym (ap (λ (b : Bool). not (is_taken (sample_at i j) h) && ((ends_with_write q i (as_of j h) && b) || is_at m j))
    (keeps-none q.history _ unkept)))

-- of a change that leaves no sample, what was present before decides
pub ends-unkept : (q : ReaderQos) (a : Arrival) (h : List Happening)
    → marks q a.change.key h (Came a) ≡ false → keeps q.history 0 ≡ false
    → ends_life q a.change.key h (Came a)
    ≡ (is_nobody (registered_writers q a.change.key (Came a ∷ h))
    && not (has_there q h a.change.key (last_marker q a.change.key h)))
ends-unkept q a h unmarked unkept =
    let i : Key = a.change.key in
    let g : List Happening = Came a ∷ h in
    let m : Option ℕ = last_marker q i h in
    let nobody : Bool = is_nobody (registered_writers q i g) in
    let newest : is_there q g i m (suc (length h)) ≡ false =
    ap (λ (n : ℕ). is_there q g i m n) (sym (add-one (length h)))
    ∙ (there-unkept q a h i m (length h + 1) unkept
    ∙ (ap (λ (b : Bool). not (is_taken (sample_at i (length h + 1)) h) && ((ends_with_write q i (as_of (length h + 1) h)
    && b) || is_at m (length h + 1))) (keeps-none q.history _ unkept)
    ∙ (ap (λ (b : Bool). not (is_taken (sample_at i (length h + 1)) h)
    && ((ends_with_write q i (as_of (length h + 1) h) && false) || b)) (marker-next q i h)
    ∙ nothing (not (is_taken (sample_at i (length h + 1)) h)) (ends_with_write q i (as_of (length h + 1) h))))) in
    ap (λ (b : Bool). nobody && not (has_there q g i (if b then Some (length h + 1) else m))) unmarked
    ∙ ap (λ (b : Bool). nobody && not b)
    (list_any-append (is_there q g i m) (up_to (length h)) (suc (length h) ∷ [])
    ∙ (ap (λ (b : Bool). list_any (is_there q g i m) (up_to (length h)) || (b || false)) newest
    ∙ (or-none (list_any (is_there q g i m) (up_to (length h)))
    ∙ up_to-like (is_there q g i m) (is_there q h i m) (length h) (λ j within. there-unkept q a h i m j unkept))))
  where
    nothing : (a b : Bool) → (a && ((b && false) || false)) ≡ false
    nothing true true = refl
    nothing true false = refl
    nothing false b = refl

-- where nobody is left, no marker is, and no write that the history keeps, what is kept decides
pub ends-by-kept : (q : ReaderQos) (a : Arrival) (h : List Happening) (table : Table) (ks : List Kept) (w : Bool)
    → is_nobody (registered_writers q a.change.key (Came a ∷ h)) ≡ true → marks q a.change.key h (Came a) ≡ false
    → w ≡ ends_with_write q a.change.key (Came a ∷ h) → (keeps q.history 0 && w) ≡ false → Holds q table ks h
    → not (list_any (is_here q h a.change.key) ks) ≡ ends_life q a.change.key h (Came a)
ends-by-kept q a h table ks w nobody unmarked written unkept holds =
    let i : Key = a.change.key in
    let before : ends_life q i h (Came a) ≡ (is_nobody (registered_writers q i (Came a ∷ h))
    && not (has_there q h i (last_marker q i h))) = ⊎_elim
    (λ keeping. ends-unmarked q i h (Came a)
    (sym written ∙ (sym (ap (λ (b : Bool). b && w) keeping) ∙ unkept)) refl unmarked)
    (λ keeps_none. ends-unkept q a h unmarked keeps_none)
    (cases_Bool (keeps q.history 0)) in
    ap (λ (b : Bool). not b) (any-here q h i ks (holds.present i))
    ∙ (sym (ap (λ (b : Bool). b && not (has_there q h i (last_marker q i h))) nobody) ∙ sym before)
