-- There is as much room for a change once a run was passed over before it as without that.
use Rattle.std.proofs.Common.{◌≡◌, ℕ, zero, suc, ◌+◌, ◌-◌, ◌<◌, ◌≤◌, Bool, true, false, not, cond, ◌&&◌, ◌||◌, List, [], ◌∷◌, ◌++◌, length, map, filter, Option, None, Some, refl, sym, ap, ◌∙◌, arith}
use Rattle.std.specs.Prelude.{if◌then◌else◌, nat_le, is_some, IfSome}
use Rattle.std.specs.List.{flat_map, list_any}
use Rattle.std.proofs.lemmas.Bool.{eq-eqb, ne_eqb, le-leb, lt-leb}
use Rattle.std.proofs.lemmas.List.{append-nil, length-append}
use Rattle.std.proofs.lemmas.List.Concat.{flat_map-cons}
use Rattle.std.proofs.lemmas.List.Folds.{list_any-append}
use Rattle.std.proofs.lemmas.List.Elements.{filter-append}
use Rattle.std.proofs.lemmas.List.Sums.{length-filter}
use Rattle.dds_base.specs.declared.key.Key.{Key}
use Rattle.dds_base.specs.declared.change.ChangeKind.{ChangeKind}
use Rattle.dds_base.specs.declared.happening.Arrival.{Arrival}
use Rattle.dds_base.specs.declared.happening.Happening.{Happening}
use Rattle.dds_base.specs.declared.happening.Happening.TheVariants.{Came, Passed}
use Rattle.dds_base.specs.declared.happening.SamplePosition.{SamplePosition}
use Rattle.dds_base.specs.declared.qos.ReaderQos.{ReaderQos}
use Rattle.dds_base.specs.Happening.{arrivals, as_of, is_taken}
use Rattle.dds_base.specs.Instance.{introduced_by, is_known, known_instances}
use Rattle.dds_base.specs.Ownership.{accepted_kind, registered_writers}
use Rattle.dds_base.specs.Presence.{has_room, is_accepted, is_present, is_within, marks, present_of, present_samples, present_writes}
use Rattle.dds_base.specs.Life.{accepted_writes, ends_life, ends_with_write, has_there, is_at, is_kept_write, is_life_over, is_nobody, is_there, keeps, last_accepted, last_marker, marks_from, or_else, up_to}
use Rattle.dds_base.proofs.LifeLaws.{marker-below, quiet-accepted, quiet-marker, up_to-like}
use Rattle.rtps_reader.specs.Entering.{NoneTakenAhead}

-- ---- one sample

-- the sample of i at position j is present, and is a write
abbrev is_counted : ReaderQos → List Happening → Key → ℕ → Bool
is_counted q h i j = is_present q h i j && ends_with_write q i (as_of j h)

-- it is there, by whether it was taken, by how many writes were accepted in all and up to it, by whether it is the last
-- marker, and by whether it is a write
abbrev there : ReaderQos → Bool → ℕ → ℕ → Bool → Bool → Bool
there q taken total mine marker write = not taken && ((write && keeps q.history (total - mine)) || marker)

there_same : (q : ReaderQos) (taken taken2 : Bool) (total total2 mine mine2 : ℕ) (marker marker2 write write2 : Bool)
    → taken ≡ taken2 → total ≡ total2 → mine ≡ mine2 → marker ≡ marker2 → write ≡ write2
    → there q taken total mine marker write ≡ there q taken2 total2 mine2 marker2 write2
there_same q taken taken2 total total2 mine mine2 marker marker2 write write2 e f g m w =
    λ k. there q (e k) (f k) (g k) (m k) (w k)

and_false : (b : Bool) → (b && false) ≡ false
and_false true = refl
and_false false = refl

as_of_past : (e : Happening) (h : List Happening) (j : ℕ) → j ≤ length h → as_of j (e ∷ h) ≡ as_of j h
as_of_past e h j le = ap (λ (b : Bool). if b then as_of j h else e ∷ h) (le-leb j (length h) le)

as_of_now : (e : Happening) (h : List Happening) (j : ℕ) → length h < j → as_of j (e ∷ h) ≡ e ∷ h
as_of_now e h j lt = ap (λ (b : Bool). if b then as_of j h else e ∷ h) (lt-leb j (length h) lt)

-- an older position, with the run and without
past_same : (a : Arrival) (h : List Happening) (w first last j : ℕ) → j ≤ length h
    → as_of j (Came a ∷ Passed w first last ∷ h) ≡ as_of j (Came a ∷ h)
past_same a h w first last j le =
    as_of_past (Came a) (Passed w first last ∷ h) j (omega (arith, le)) ∙ (as_of_past (Passed w first last) h j le
    ∙ sym (as_of_past (Came a) h j le))

-- ---- markers

-- a run that is passed over leaves what was accepted of an instance, and its last marker
accepted_passed : (q : ReaderQos) (i : Key) (h : List Happening) (w first last : ℕ)
    → last_accepted q i (Passed w first last ∷ h) ≡ last_accepted q i h
accepted_passed q i h w first last = quiet-accepted q i h (Passed w first last) refl refl refl

last_same : (q : ReaderQos) (i : Key) (h : List Happening) (w first last : ℕ)
    → last_marker q i (Passed w first last ∷ h) ≡ last_marker q i h
last_same q i h w first last = quiet-marker q i h (Passed w first last) refl refl refl

-- so a change marks an instance as it did
marks_same : (q : ReaderQos) (a : Arrival) (h : List Happening) (w first last : ℕ) (i : Key)
    → marks q i (Passed w first last ∷ h) (Came a) ≡ marks q i h (Came a)
marks_same q a h w first last i =
    ap (λ (k : Option ChangeKind). marks_from q i h (Came a) k) (accepted_passed q i h w first last)

-- no marker is ahead
marker_ahead : (q : ReaderQos) (i : Key) (h : List Happening) (j : ℕ) → length h < j
    → is_at (last_marker q i h) j ≡ false
marker_ahead q i h j lt = off (last_marker q i h) (marker-below q i h)
  where
    off : (m : Option ℕ) → IfSome m (λ k. k ≤ length h) → is_at m j ≡ false
    off None below = refl
    off (Some k) below = ne_eqb k j (λ same. omega (arith, same, below, lt))

marker_old : (b : Bool) (n m j : ℕ) (o p : Option ℕ) → o ≡ p → j < n → j < m
    → is_at (if b then Some n else o) j ≡ is_at (if b then Some m else p) j
marker_old true n m j o p same lt less =
    ne_eqb n j (λ e. omega (arith, e, lt)) ∙ sym (ne_eqb m j (λ e. omega (arith, e, less)))
marker_old false n m j o p same lt less = ap (λ (x : Option ℕ). is_at x j) same

marker_new : (b : Bool) (n m j k : ℕ) (o p : Option ℕ) → n ≡ j → m ≡ k → is_at o j ≡ false → is_at p k ≡ false
    → is_at (if b then Some n else o) j ≡ is_at (if b then Some m else p) k
marker_new true n m j k o p here there none no_other = eq-eqb n j here ∙ sym (eq-eqb m k there)
marker_new false n m j k o p here there none no_other = none ∙ sym no_other

-- the last marker after an entry of this position, by whether that leaves one, and by whether it ends the life
abbrev next_marker : Bool → Bool → ℕ → Option ℕ → Option ℕ
next_marker ends marked n o = if ends then None else (if marked then Some n else o)

next_old : (ends marked : Bool) (n m j : ℕ) (o : Option ℕ) → j < n → j < m
    → is_at (next_marker ends marked n o) j ≡ is_at (next_marker ends marked m o) j
next_old true marked n m j o lt less = refl
next_old false marked n m j o lt less = marker_old marked n m j o o refl lt less

next_new : (ends marked : Bool) (n m j k : ℕ) (o : Option ℕ) → n ≡ j → m ≡ k → is_at o j ≡ false → is_at o k ≡ false
    → is_at (next_marker ends marked n o) j ≡ is_at (next_marker ends marked m o) k
next_new true marked n m j k o here there none no_other = refl
next_new false marked n m j k o here there none no_other = marker_new marked n m j k o o here there none no_other

next_between : (ends marked : Bool) (n j : ℕ) (o : Option ℕ) → j < n → is_at o j ≡ false
    → is_at (next_marker ends marked n o) j ≡ false
next_between true marked n j o lt none = refl
next_between false true n j o lt none = ne_eqb n j (λ e. omega (arith, e, lt))
next_between false false n j o lt none = none

-- ---- one sample, with the run and without

-- an older sample is there as it was
older : (q : ReaderQos) (a : Arrival) (h : List Happening) (w first last : ℕ) (i : Key) (with without : Option ℕ) (j : ℕ)
    → j ≤ length h → is_at with j ≡ is_at without j
    → is_there q (Came a ∷ Passed w first last ∷ h) i with j ≡ is_there q (Came a ∷ h) i without j
older q a h w first last i with without j le markers =
    let past = past_same a h w first last j le in
    there_same q (is_taken (record { key = i; position = j }) h) (is_taken (record { key = i; position = j }) h)
    (accepted_writes q i (Came a ∷ Passed w first last ∷ h)) (accepted_writes q i (Came a ∷ h))
    (accepted_writes q i (as_of j (Came a ∷ Passed w first last ∷ h))) (accepted_writes q i (as_of j (Came a ∷ h)))
    (is_at with j) (is_at without j)
    (ends_with_write q i (as_of j (Came a ∷ Passed w first last ∷ h))) (ends_with_write q i (as_of j (Came a ∷ h)))
    refl (omega arith) (ap (λ (g : List Happening). accepted_writes q i g) past) markers
    (ap (λ (g : List Happening). ends_with_write q i g) past)

-- at the run's position nothing has come
run_past : (a : Arrival) (h : List Happening) (w first last : ℕ)
    → as_of (suc (length h)) (Came a ∷ Passed w first last ∷ h) ≡ Passed w first last ∷ h
run_past a h w first last =
    as_of_past (Came a) (Passed w first last ∷ h) (suc (length h)) (omega arith)
    ∙ as_of_now (Passed w first last) h (suc (length h)) (omega arith)

-- the run leaves no sample
none_left : (q : ReaderQos) (a : Arrival) (h : List Happening) (w first last : ℕ) (i : Key) (marker : Option ℕ)
    → is_at marker (suc (length h)) ≡ false
    → is_there q (Came a ∷ Passed w first last ∷ h) i marker (suc (length h)) ≡ false
none_left q a h w first last i marker off =
    let g : List Happening = Came a ∷ Passed w first last ∷ h in
    let taken : Bool = is_taken (record { key = i; position = suc (length h) }) g in
    ap (λ (b : Bool). not taken && (is_kept_write q g i (suc (length h)) || b)) off
    ∙ (ap (λ (f : List Happening). not taken
    && ((ends_with_write q i f && keeps q.history (accepted_writes q i g - accepted_writes q i f)) || false))
    (run_past a h w first last) ∙ and_false (not taken))

-- the sample that the change leaves is there as it was
newest : (q : ReaderQos) (a : Arrival) (h : List Happening) (w first last : ℕ) (i : Key) (with without : Option ℕ)
    → NoneTakenAhead h → is_at with (suc (suc (length h))) ≡ is_at without (suc (length h))
    → is_there q (Came a ∷ Passed w first last ∷ h) i with (suc (suc (length h)))
    ≡ is_there q (Came a ∷ h) i without (suc (length h))
newest q a h w first last i with without untaken markers =
    let now : as_of (suc (suc (length h))) (Came a ∷ Passed w first last ∷ h) ≡ Came a ∷ Passed w first last ∷ h =
    as_of_now (Came a) (Passed w first last ∷ h) (suc (suc (length h))) (omega arith) in
    let then_ : as_of (suc (length h)) (Came a ∷ h) ≡ Came a ∷ h =
    as_of_now (Came a) h (suc (length h)) (omega arith) in
    let total : accepted_writes q i (Came a ∷ Passed w first last ∷ h) ≡ accepted_writes q i (Came a ∷ h) =
    omega arith in
    there_same q (is_taken (record { key = i; position = suc (suc (length h)) }) h)
    (is_taken (record { key = i; position = suc (length h) }) h)
    (accepted_writes q i (Came a ∷ Passed w first last ∷ h)) (accepted_writes q i (Came a ∷ h))
    (accepted_writes q i (as_of (suc (suc (length h))) (Came a ∷ Passed w first last ∷ h)))
    (accepted_writes q i (as_of (suc (length h)) (Came a ∷ h)))
    (is_at with (suc (suc (length h)))) (is_at without (suc (length h)))
    (ends_with_write q i (as_of (suc (suc (length h))) (Came a ∷ Passed w first last ∷ h)))
    (ends_with_write q i (as_of (suc (length h)) (Came a ∷ h)))
    (untaken i (suc (suc (length h))) (omega arith) ∙ sym (untaken i (suc (length h)) (omega arith)))
    total
    (ap (λ (g : List Happening). accepted_writes q i g) now
    ∙ (total ∙ sym (ap (λ (g : List Happening). accepted_writes q i g) then_)))
    markers
    (ap (λ (g : List Happening). ends_with_write q i g) now
    ∙ sym (ap (λ (g : List Happening). ends_with_write q i g) then_))

-- ---- lives

-- whether anything of an instance is there, with the run and without
has_there_same : (q : ReaderQos) (a : Arrival) (h : List Happening) (w first last : ℕ) (i : Key)
    (with without : Option ℕ) → NoneTakenAhead h → ((j : ℕ) → j ≤ length h → is_at with j ≡ is_at without j)
    → is_at with (suc (length h)) ≡ false → is_at with (suc (suc (length h))) ≡ is_at without (suc (length h))
    → has_there q (Came a ∷ Passed w first last ∷ h) i with ≡ has_there q (Came a ∷ h) i without
has_there_same q a h w first last i with without untaken old between new =
    let n : ℕ = length h in
    let more : ℕ → Bool = is_there q (Came a ∷ Passed w first last ∷ h) i with in
    let less : ℕ → Bool = is_there q (Came a ∷ h) i without in
    list_any-append more (up_to n ++ suc n ∷ []) (suc (suc n) ∷ [])
    ∙ (ap (λ (b : Bool). b || (more (suc (suc n)) || false)) (list_any-append more (up_to n) (suc n ∷ []))
    ∙ (ap (λ (b : Bool). (list_any more (up_to n) || (b || false)) || (more (suc (suc n)) || false))
    (none_left q a h w first last i with between)
    ∙ (ap (λ (b : Bool). (list_any more (up_to n) || (false || false)) || (b || false))
    (newest q a h w first last i with without untaken new)
    ∙ (ap (λ (b : Bool). (b || (false || false)) || (less (suc n) || false))
    (up_to-like more less n (λ j le. older q a h w first last i with without j le (old j le)))
    ∙ (ap (λ (b : Bool). b || (less (suc n) || false)) (or_none (list_any less (up_to n)))
    ∙ sym (list_any-append less (up_to n) (suc n ∷ [])))))))
  where
    or_none : (b : Bool) → (b || (false || false)) ≡ b
    or_none true = refl
    or_none false = refl

-- the change ends a life as it did
ends_same : (q : ReaderQos) (a : Arrival) (h : List Happening) (w first last : ℕ) (i : Key) → NoneTakenAhead h
    → ends_life q i (Passed w first last ∷ h) (Came a) ≡ ends_life q i h (Came a)
ends_same q a h w first last i untaken =
    let n : ℕ = length h in
    let o : Option ℕ = last_marker q i h in
    let marked : Bool = marks q i h (Came a) in
    let with : Option ℕ = next_marker false marked (suc n + 1) o in
    let without : Option ℕ = next_marker false marked (n + 1) o in
    ap (λ (m : Option ℕ). is_life_over q (Came a ∷ Passed w first last ∷ h) i m)
    (ap (λ (b : Bool). next_marker false b (suc n + 1) (last_marker q i (Passed w first last ∷ h)))
    (marks_same q a h w first last i)
    ∙ ap (λ (m : Option ℕ). next_marker false marked (suc n + 1) m) (last_same q i h w first last))
    ∙ ap (λ (b : Bool). is_nobody (registered_writers q i (Came a ∷ h)) && not b)
    (has_there_same q a h w first last i with without untaken
    (λ j le. next_old false marked (suc n + 1) (n + 1) j o (omega (arith, le)) (omega (arith, le)))
    (next_between false marked (suc n + 1) (suc n) o (omega arith) (marker_ahead q i h (suc n) (omega arith)))
    (next_new false marked (suc n + 1) (n + 1) (suc (suc n)) (suc n) o (omega arith) (omega arith)
    (marker_ahead q i h (suc (suc n)) (omega arith)) (marker_ahead q i h (suc n) (omega arith))))

-- the last marker after the change, with the run
marker_with : (q : ReaderQos) (a : Arrival) (h : List Happening) (w first last : ℕ) (i : Key) → NoneTakenAhead h
    → last_marker q i (Came a ∷ Passed w first last ∷ h)
    ≡ next_marker (ends_life q i h (Came a)) (marks q i h (Came a)) (suc (length h) + 1) (last_marker q i h)
marker_with q a h w first last i untaken =
    let g : List Happening = Passed w first last ∷ h in
    ap (λ (b : Bool). next_marker b (marks q i g (Came a)) (suc (length h) + 1) (last_marker q i g))
    (ends_same q a h w first last i untaken)
    ∙ (ap (λ (b : Bool). next_marker (ends_life q i h (Came a)) b (suc (length h) + 1) (last_marker q i g))
    (marks_same q a h w first last i)
    ∙ ap (λ (m : Option ℕ). next_marker (ends_life q i h (Came a)) (marks q i h (Came a)) (suc (length h) + 1) m)
    (last_same q i h w first last))

-- an instance is known after the change as it was
known_after : (q : ReaderQos) (a : Arrival) (h : List Happening) (w first last : ℕ) → NoneTakenAhead h → (i : Key)
    → is_known q (Came a ∷ Passed w first last ∷ h) i ≡ is_known q (Came a ∷ h) i
known_after q a h w first last untaken i =
    ap (λ (b : Bool). is_some (if b then None
    else or_else (accepted_kind q i h (Came a)) (last_accepted q i (Passed w first last ∷ h))))
    (ends_same q a h w first last i untaken)
    ∙ ap (λ (k : Option ChangeKind). is_some (if ends_life q i h (Came a) then None
    else or_else (accepted_kind q i h (Came a)) k)) (accepted_passed q i h w first last)

-- ---- the samples of one instance

-- those that pass two tests, one after the other
both_passed : {X Y : Type 0} (f : X → Y) (p : X → Bool) (t : Y → Bool) (xs : List X)
    → length (filter t (map f (filter p xs))) ≡ length (filter (λ x. p x && t (f x)) xs)
both_passed f p t [] = refl
both_passed {X} f p t (x ∷ xs) =
    one (p x) (t (f x)) (filter p xs) (filter (λ y. p y && t (f y)) xs) refl (both_passed f p t xs)
  where
    one : (a b : Bool) (ys zs : List X) → t (f x) ≡ b → length (filter t (map f ys)) ≡ length zs
        → length (filter t (map f (cond a (x ∷ ys) ys))) ≡ length (cond (a && b) (x ∷ zs) zs)
    one true true ys zs is rest =
        ap (λ (b : Bool). length (cond b (f x ∷ filter t (map f ys)) (filter t (map f ys)))) is ∙ ap suc rest
    one true false ys zs is rest =
        ap (λ (b : Bool). length (cond b (f x ∷ filter t (map f ys)) (filter t (map f ys)))) is ∙ rest
    one false b ys zs is rest = rest

-- the same passes of the positions up to one below which the tests agree
agree : (p t : ℕ → Bool) (n m : ℕ) → ((j : ℕ) → j ≤ m → p j ≡ t j) → n ≤ m → filter p (up_to n) ≡ filter t (up_to n)
agree p t zero m same le = refl
agree p t (suc n) m same le =
    filter-append p (up_to n) (suc n ∷ [])
    ∙ (ap (λ (js : List ℕ). js ++ filter p (suc n ∷ [])) (agree p t n m same (omega (arith, le)))
    ∙ (ap (λ (b : Bool). filter t (up_to n) ++ cond b (suc n ∷ []) []) (same (suc n) le)
    ∙ sym (filter-append t (up_to n) (suc n ∷ []))))

one_more : (p : ℕ → Bool) (js : List ℕ) (j : ℕ) → length (filter p (js ++ j ∷ []))
    ≡ length (filter p js) + length (cond (p j) (j ∷ []) [])
one_more p js j =
    ap length (filter-append p js (j ∷ [])) ∙ length-append (filter p js) (filter p (j ∷ []))

as_long : (b c : Bool) (j k : ℕ) → b ≡ c → length (cond b (j ∷ []) []) ≡ length (cond c (k ∷ []) [])
as_long true true j k e = refl
as_long false false j k e = refl
as_long true false j k e = absurd (cc)
as_long false true j k e = absurd (cc)

abbrev is_counted_sample : ReaderQos → List Happening → SamplePosition → Bool
is_counted_sample q h s = ends_with_write q s.key (as_of s.position h)

-- what counts of an instance, with the run and without
counted_older : (q : ReaderQos) (a : Arrival) (h : List Happening) (w first last : ℕ) → NoneTakenAhead h → (i : Key)
    (j : ℕ) → j ≤ length h → is_counted q (Came a ∷ Passed w first last ∷ h) i j ≡ is_counted q (Came a ∷ h) i j
counted_older q a h w first last untaken i j le =
    let g : List Happening = Came a ∷ Passed w first last ∷ h in
    let marker : is_at (last_marker q i g) j ≡ is_at (last_marker q i (Came a ∷ h)) j =
    ap (λ (m : Option ℕ). is_at m j) (marker_with q a h w first last i untaken)
    ∙ next_old (ends_life q i h (Came a)) (marks q i h (Came a)) (suc (length h) + 1) (length h + 1) j
    (last_marker q i h) (omega (arith, le)) (omega (arith, le)) in
    ap (λ (b : Bool). b && ends_with_write q i (as_of j g))
    (older q a h w first last i (last_marker q i g) (last_marker q i (Came a ∷ h)) j le marker)
    ∙ ap (λ (f : List Happening). is_present q (Came a ∷ h) i j && ends_with_write q i f)
    (past_same a h w first last j le)

counted_run : (q : ReaderQos) (a : Arrival) (h : List Happening) (w first last : ℕ) (i : Key)
    → is_counted q (Came a ∷ Passed w first last ∷ h) i (suc (length h)) ≡ false
counted_run q a h w first last i =
    ap (λ (g : List Happening). is_present q (Came a ∷ Passed w first last ∷ h) i (suc (length h))
    && ends_with_write q i g) (run_past a h w first last)
    ∙ and_false (is_present q (Came a ∷ Passed w first last ∷ h) i (suc (length h)))

counted_newest : (q : ReaderQos) (a : Arrival) (h : List Happening) (w first last : ℕ) → NoneTakenAhead h → (i : Key)
    → is_counted q (Came a ∷ Passed w first last ∷ h) i (suc (suc (length h)))
    ≡ is_counted q (Came a ∷ h) i (suc (length h))
counted_newest q a h w first last untaken i =
    let g : List Happening = Came a ∷ Passed w first last ∷ h in
    let n : ℕ = length h in
    let marker : is_at (last_marker q i g) (suc (suc n)) ≡ is_at (last_marker q i (Came a ∷ h)) (suc n) =
    ap (λ (m : Option ℕ). is_at m (suc (suc n))) (marker_with q a h w first last i untaken)
    ∙ next_new (ends_life q i h (Came a)) (marks q i h (Came a)) (suc n + 1) (n + 1) (suc (suc n)) (suc n)
    (last_marker q i h) (omega arith) (omega arith) (marker_ahead q i h (suc (suc n)) (omega arith))
    (marker_ahead q i h (suc n) (omega arith)) in
    ap (λ (b : Bool). b && ends_with_write q i (as_of (suc (suc n)) g))
    (newest q a h w first last i (last_marker q i g) (last_marker q i (Came a ∷ h)) untaken marker)
    ∙ ap (λ (b : Bool). is_present q (Came a ∷ h) i (suc n) && b)
    (ap (λ (f : List Happening). ends_with_write q i f)
    (as_of_now (Came a) (Passed w first last ∷ h) (suc (suc n)) (omega arith))
    ∙ sym (ap (λ (f : List Happening). ends_with_write q i f) (as_of_now (Came a) h (suc n) (omega arith))))

of_instance : (q : ReaderQos) (a : Arrival) (h : List Happening) (w first last : ℕ) → NoneTakenAhead h → (i : Key)
    → length (filter (is_counted_sample q (Came a ∷ Passed w first last ∷ h))
    (present_of q (Came a ∷ Passed w first last ∷ h) i))
    ≡ length (filter (is_counted_sample q (Came a ∷ h)) (present_of q (Came a ∷ h) i))
of_instance q a h w first last untaken i =
    let g : List Happening = Came a ∷ Passed w first last ∷ h in
    let n : ℕ = length h in
    let more : ℕ → Bool = is_counted q g i in
    let less : ℕ → Bool = is_counted q (Came a ∷ h) i in
    let old : length (filter more (up_to n)) ≡ length (filter less (up_to n)) =
    ap length (agree more less n n (λ j le. counted_older q a h w first last untaken i j le) (omega arith)) in
    let run : length (cond (more (suc n)) (suc n ∷ []) []) ≡ 0 =
    ap (λ (b : Bool). length (cond b (suc n ∷ []) [])) (counted_run q a h w first last i) in
    let new : length (cond (more (suc (suc n))) (suc (suc n) ∷ []) []) ≡ length (cond (less (suc n)) (suc n ∷ []) []) =
    as_long (more (suc (suc n))) (less (suc n)) (suc (suc n)) (suc n) (counted_newest q a h w first last untaken i) in
    let with = one_more more (up_to n ++ suc n ∷ []) (suc (suc n)) in
    let between = one_more more (up_to n) (suc n) in
    let without = one_more less (up_to n) (suc n) in
    let same : length (filter more (up_to (suc (suc n)))) ≡ length (filter less (up_to (suc n))) =
    omega (arith, old, run, new, with, between, without) in
    both_passed (λ (j : ℕ). record { key = i; position = j }) (is_present q g i) (is_counted_sample q g)
    (up_to (suc (suc n)))
    ∙ (same
    ∙ sym (both_passed (λ (j : ℕ). record { key = i; position = j }) (is_present q (Came a ∷ h) i)
    (is_counted_sample q (Came a ∷ h)) (up_to (suc n))))

-- ---- the samples of all instances

first_and_rest : (p : SamplePosition → Bool) (f : Key → List SamplePosition) (k : Key) (ks : List Key)
    → length (filter p (flat_map f (k ∷ ks))) ≡ length (filter p (f k)) + length (filter p (flat_map f ks))
first_and_rest p f k ks =
    ap (λ (ss : List SamplePosition). length (filter p ss)) (flat_map-cons f k ks)
    ∙ (ap length (filter-append p (f k) (flat_map f ks))
    ∙ length-append (filter p (f k)) (filter p (flat_map f ks)))

as_many : (p t : SamplePosition → Bool) (f g : Key → List SamplePosition) (ks : List Key)
    → ((k : Key) → length (filter p (f k)) ≡ length (filter t (g k)))
    → length (filter p (flat_map f ks)) ≡ length (filter t (flat_map g ks))
as_many p t f g [] same = refl
as_many p t f g (k ∷ ks) same =
    let left = first_and_rest p f k ks in
    let right = first_and_rest t g k ks in
    let one = same k in
    let rest = as_many p t f g ks same in
    omega (arith, left, right, one, rest)

-- two tests that agree leave the same
filter_like : (p t : Key → Bool) (ks : List Key) → ((k : Key) → p k ≡ t k) → filter p ks ≡ filter t ks
filter_like p t [] same = refl
filter_like p t (k ∷ ks) same =
    ap (λ (b : Bool). cond b (k ∷ filter p ks) (filter p ks)) (same k)
    ∙ ap (λ (xs : List Key). cond (t k) (k ∷ xs) xs) (filter_like p t ks same)

-- a test that was applied leaves all
filter_twice : (p : Key → Bool) (ks : List Key) → filter p (filter p ks) ≡ filter p ks
filter_twice p [] = refl
filter_twice p (k ∷ ks) = one p k (filter p ks) (p k) refl (filter_twice p ks)
  where
    one : (p : Key → Bool) (k : Key) (xs : List Key) (b : Bool) → p k ≡ b → filter p xs ≡ xs
        → filter p (cond b (k ∷ xs) xs) ≡ cond b (k ∷ xs) xs
    one p k xs true is rest =
        ap (λ (b : Bool). cond b (k ∷ filter p xs) (filter p xs)) is ∙ ap (λ (ys : List Key). k ∷ ys) rest
    one p k xs false is rest = rest

-- all that are listed are known
listed_known : (q : ReaderQos) (h : List Happening) → filter (is_known q h) (known_instances q h) ≡ known_instances q h
listed_known q [] = refl
listed_known q (e ∷ h) = filter_twice (is_known q (e ∷ h)) (known_instances q h ++ introduced_by q h e)

-- a run that is passed over leaves all known
known_passed : (q : ReaderQos) (h : List Happening) (w first last : ℕ)
    → known_instances q (Passed w first last ∷ h) ≡ known_instances q h
known_passed q h w first last =
    ap (λ (ks : List Key). filter (is_known q (Passed w first last ∷ h)) ks) (append-nil (known_instances q h))
    ∙ (filter_like (is_known q (Passed w first last ∷ h)) (is_known q h) (known_instances q h)
    (λ k. ap is_some (accepted_passed q k h w first last)) ∙ listed_known q h)

known_same : (q : ReaderQos) (a : Arrival) (h : List Happening) (w first last : ℕ) → NoneTakenAhead h
    → known_instances q (Came a ∷ Passed w first last ∷ h) ≡ known_instances q (Came a ∷ h)
known_same q a h w first last untaken =
    let g : List Happening = Passed w first last ∷ h in
    filter_like (is_known q (Came a ∷ g)) (is_known q (Came a ∷ h)) (known_instances q g ++ introduced_by q g (Came a))
    (λ k. known_after q a h w first last untaken k)
    ∙ (ap (λ (ks : List Key). filter (is_known q (Came a ∷ h)) (ks ++ introduced_by q g (Came a)))
    (known_passed q h w first last)
    ∙ ap (λ (k : Option ChangeKind). filter (is_known q (Came a ∷ h)) (known_instances q h
    ++ (if not (is_some k) && is_some (accepted_kind q a.change.key h (Came a)) then a.change.key ∷ [] else [])))
    (accepted_passed q a.change.key h w first last))

writes_same : (q : ReaderQos) (a : Arrival) (h : List Happening) (w first last : ℕ) → NoneTakenAhead h
    → present_writes q (Came a ∷ Passed w first last ∷ h) ≡ present_writes q (Came a ∷ h)
writes_same q a h w first last untaken =
    let g : List Happening = Came a ∷ Passed w first last ∷ h in
    sym (length-filter (is_counted_sample q g) (present_samples q g))
    ∙ (ap (λ (ks : List Key). length (filter (is_counted_sample q g) (flat_map (present_of q g) ks)))
    (known_same q a h w first last untaken)
    ∙ (as_many (is_counted_sample q g) (is_counted_sample q (Came a ∷ h)) (present_of q g) (present_of q (Came a ∷ h))
    (known_instances q (Came a ∷ h)) (of_instance q a h w first last untaken)
    ∙ length-filter (is_counted_sample q (Came a ∷ h)) (present_samples q (Came a ∷ h))))

-- there is as much room for the change
pub room_passed : (q : ReaderQos) (a : Arrival) (h : List Happening) (w first last : ℕ) → NoneTakenAhead h
    → has_room q (Passed w first last ∷ h) (Came a) ≡ has_room q h (Came a)
room_passed q a h w first last untaken =
    let writes = writes_same q a h w first last untaken in
    let known = known_same q a h w first last untaken in
    λ k. nat_le (arrivals (Came a ∷ h)) q.max_arrivals && (not (is_accepted q h (Came a))
    || (is_within q.max_samples (writes k) && is_within q.max_instances (length (known k))))
