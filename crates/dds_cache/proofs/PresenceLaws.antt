-- The present samples after one more entry.
use Rattle.std.proofs.Common.{◌≡◌, ℕ, ◌+◌, ◌-◌, ◌≤◌, ◌<◌, List, [], ◌∷◌, ◌++◌, length, map, filter, Bool, true, false, not, ◌&&◌, ◌||◌, sym, ap, ◌∙◌, refl, cond, Option, Some, None, arith, zero, suc, add-one, ⊎_elim}
use Rattle.std.specs.Prelude.{if◌then◌else◌, nat_le}
use Rattle.std.specs.List.{list_any, All}
use Rattle.std.proofs.lemmas.Bool.{and_right, cases_Bool, lt-ltb, ltb-true, eqb-true, and_parts, or_cases, or_right}
use Rattle.std.proofs.lemmas.List.{map-append}
use Rattle.std.proofs.lemmas.List.Elements.{filter-append, All-head, All-tail, All-nil, All-push, All-weaker}
use Rattle.dds_base.specs.declared.key.Key.{Key}
use Rattle.dds_base.specs.declared.happening.Happening.{Happening}
use Rattle.dds_base.specs.declared.qos.ReaderQos.{ReaderQos}
use Rattle.dds_base.specs.declared.qos.HistoryQos.{HistoryQos}
use Rattle.dds_base.specs.declared.qos.HistoryQos.TheVariants.{KeepAll, KeepLast}
use Rattle.dds_base.specs.Happening.{same_key, as_of, is_taken, taken_by, same_sample}
use Rattle.dds_base.specs.declared.change.ChangeKind.{ChangeKind}
use Rattle.dds_base.specs.declared.change.ChangeKind.TheVariants.{Write, Dispose, Unregister, DisposeUnregister}
use Rattle.dds_base.specs.declared.happening.Arrival.{Arrival}
use Rattle.dds_base.specs.declared.happening.Happening.TheVariants.{Came}
use Rattle.dds_base.specs.Ownership.{accepted_kind, is_registered, registered_writers, publication_handles}
use Rattle.dds_base.specs.Instance.{instance_state_of}
use Rattle.dds_base.specs.Life.{is_write, or_else, state_after, is_nobody, last_accepted, becomes_not_alive, is_kept_write, is_there, has_there, ends_life, keeps, later_writes, is_at, last_marker, accepted_writes, ends_with_write, up_to}
use Rattle.dds_base.proofs.LifeLaws.{accepted-other, registered-other, as_of-older, as_of-newest, is-over-none, marker-next, markers-gone, over-absent, quiet-unmarked, up_to-at}
use Rattle.dds_base.specs.Presence.{is_present, marks}
use Rattle.dds_cache.specs.declared.kept.Kept.{Kept}
use Rattle.dds_cache.specs.Kept.{sample_at, is_here, position_of, positions_in}
use Rattle.dds_cache.proofs.GroupLaws.{unequal}

-- a count that never falls was no greater as of a position
pub count-grew : (count : List Happening → ℕ) → ((e : Happening) (h : List Happening) → count h ≤ count (e ∷ h))
    → (j : ℕ) (h : List Happening) → count (as_of j h) ≤ count h
count-grew count grows j [] = omega arith
count-grew count grows j (e ∷ h) =
    ⊎_elim
    (λ older.
    let is : count (as_of j (e ∷ h)) ≡ count (as_of j h) =
    ap (λ (b : Bool). count (if b then as_of j h else e ∷ h)) older in
    omega (arith, is, count-grew count grows j h, grows e h))
    (λ newer.
    let is : count (as_of j (e ∷ h)) ≡ count (e ∷ h) =
    ap (λ (b : Bool). count (if b then as_of j h else e ∷ h)) newer in
    omega (arith, is))
    (cases_Bool (nat_le j (length h)))

-- a history that keeps a write keeps it where fewer follow
pub keeps-fewer : (history : HistoryQos) (m n : ℕ) → m ≤ n → keeps history n ≡ true → keeps history m ≡ true
keeps-fewer KeepAll m n fewer is = refl
keeps-fewer (KeepLast depth) m n fewer is =
    let within : n < depth = ltb-true n depth is in lt-ltb m depth (omega (arith, fewer, within))

-- ---- what an entry leaves, whether or not it ends a life

-- the last marker once the entry has happened, unless the life is over then
abbrev pub reached : ReaderQos → Key → List Happening → Happening → Option ℕ
reached q i h e = if marks q i h e then Some (length h + 1) else last_marker q i h

as_of-start : (h : List Happening) → as_of 0 h ≡ []
as_of-start [] = refl
as_of-start (e ∷ h) = as_of-older e h 0 (omega arith) ∙ as_of-start h

-- no marker is at the start
unmarked-start : (q : ReaderQos) (i : Key) (h : List Happening) → is_at (last_marker q i h) 0 ≡ false
unmarked-start q i [] = refl
unmarked-start q i (e ∷ h) =
    one (ends_life q i h e) (marks q i h e) (length h) (last_marker q i h) (unmarked-start q i h)
  where
    one : (ends marked : Bool) (n : ℕ) (m : Option ℕ) → is_at m 0 ≡ false
        → is_at (if ends then None else (if marked then Some (n + 1) else m)) 0 ≡ false
    one true marked n m off = refl
    one false true n m off = unequal (n + 1) 0 (λ same. omega (arith, same))
    one false false n m off = off

-- nothing is there at the start
there-start : (q : ReaderQos) (i : Key) (h : List Happening) (e : Happening)
    → is_there q (e ∷ h) i (reached q i h e) 0 ≡ false
there-start q i h e =
    let off : is_at (reached q i h e) 0 ≡ false =
    one (marks q i h e) (length h) (last_marker q i h) (unmarked-start q i h) in
    ap (λ (g : List Happening). not (is_taken (sample_at i 0) (e ∷ h))
    && ((ends_with_write q i g && keeps q.history (accepted_writes q i (e ∷ h) - accepted_writes q i g))
    || is_at (reached q i h e) 0)) (as_of-start (e ∷ h))
    ∙ (ap (λ (b : Bool). not (is_taken (sample_at i 0) (e ∷ h)) && (false || b)) off
    ∙ and_right (not (is_taken (sample_at i 0) (e ∷ h))) false refl)
  where
    one : (marked : Bool) (n : ℕ) (m : Option ℕ) → is_at m 0 ≡ false
        → is_at (if marked then Some (n + 1) else m) 0 ≡ false
    one true n m off = unequal (n + 1) 0 (λ same. omega (arith, same))
    one false n m off = off

-- what is present after an entry: by the last marker that it reaches, also where it ends the life
pub present-reached : (q : ReaderQos) (e : Happening) (h : List Happening) (i : Key) (j : ℕ) → j ≤ length h + 1
    → is_present q (e ∷ h) i j ≡ is_there q (e ∷ h) i (reached q i h e) j
present-reached q e h i j within =
    ⊎_elim
    (λ over. let none : is_there q (e ∷ h) i (reached q i h e) j ≡ false =
    absent q e h i j within (is-over-none (is_nobody (registered_writers q i (e ∷ h))) _ over) in
    ap (λ (b : Bool). is_there q (e ∷ h) i (if b then None else reached q i h e) j) over
    ∙ (markers-gone (not (is_taken (sample_at i j) (e ∷ h))) (is_kept_write q (e ∷ h) i j) (is_at (reached q i h e) j)
    none ∙ sym none))
    (λ goes_on. ap (λ (b : Bool). is_there q (e ∷ h) i (if b then None else reached q i h e) j) goes_on)
    (cases_Bool (ends_life q i h e))
  where
    absent : (q : ReaderQos) (e : Happening) (h : List Happening) (i : Key) (j : ℕ) → j ≤ length h + 1
        → has_there q (e ∷ h) i (reached q i h e) ≡ false → is_there q (e ∷ h) i (reached q i h e) j ≡ false
    absent q e h i zero within none = there-start q i h e
    absent q e h i (suc j) within none =
        up_to-at (is_there q (e ∷ h) i (reached q i h e)) (suc (length h)) (suc j) (omega arith) (omega (arith, within))
        none

-- of a life that is over nothing is present
pub ended-absent : (q : ReaderQos) (e : Happening) (h : List Happening) (i : Key) (j : ℕ) → ends_life q i h e ≡ true
    → j ≤ length h + 1 → is_present q (e ∷ h) i j ≡ false
ended-absent q e h i zero over within = present-reached q e h i 0 within ∙ there-start q i h e
ended-absent q e h i (suc j) over within = over-absent q i h e over (suc j) (omega arith) within

not-or : (a b : Bool) → not (a || b) ≡ true → b ≡ false
not-or true b e = absurd (let clash : false ≡ true = e in cc)
not-or false true e = absurd (let clash : false ≡ true = e in cc)
not-or false false e = refl

-- the last marker that the entry reaches, at an older position
pub marker-older : (q : ReaderQos) (e : Happening) (h : List Happening) (i : Key) (j : ℕ) → j ≤ length h
    → is_at (reached q i h e) j ≡ (not (marks q i h e) && is_at (last_marker q i h) j)
marker-older q e h i j older =
    ⊎_elim
    (λ marked. ap (λ (b : Bool). is_at (if b then Some (length h + 1) else last_marker q i h) j) marked
    ∙ (unequal (length h + 1) j (λ same. omega (arith, same, older))
    ∙ sym (ap (λ (b : Bool). not b && is_at (last_marker q i h) j) marked)))
    (λ unmarked. ap (λ (b : Bool). is_at (if b then Some (length h + 1) else last_marker q i h) j) unmarked
    ∙ sym (ap (λ (b : Bool). not b && is_at (last_marker q i h) j) unmarked))
    (cases_Bool (marks q i h e))

-- what is present of the past was so before: no entry brings a sample back
pub present-before : (q : ReaderQos) (e : Happening) (h : List Happening) (i : Key) (j : ℕ) → j ≤ length h
    → is_present q (e ∷ h) i j ≡ true → is_present q h i j ≡ true
present-before q e h i j older is =
    let parts =
    and_parts (not (is_taken (sample_at i j) (e ∷ h))) (is_kept_write q (e ∷ h) i j || is_at (reached q i h e) j)
    (sym (present-reached q e h i j (omega (arith, older))) ∙ is) in
    let untaken : is_taken (sample_at i j) h ≡ false =
    not-or (list_any (same_sample (sample_at i j)) (taken_by e)) (is_taken (sample_at i j) h) parts.0 in
    let past : as_of j (e ∷ h) ≡ as_of j h = as_of-older e h j older in
    let more : accepted_writes q i h ≤ accepted_writes q i (e ∷ h) = omega arith in
    ap (λ (b : Bool). not b && (is_kept_write q h i j || is_at (last_marker q i h) j)) untaken
    ∙ ⊎_elim
    (λ kept. let both = and_parts (ends_with_write q i (as_of j (e ∷ h)))
    (keeps q.history (later_writes q (e ∷ h) i j)) kept in
    let write : ends_with_write q i (as_of j h) ≡ true =
    ap (λ (g : List Happening). ends_with_write q i g) (sym past) ∙ both.0 in
    let later : keeps q.history (accepted_writes q i (e ∷ h) - accepted_writes q i (as_of j h)) ≡ true =
    ap (λ (g : List Happening). keeps q.history (accepted_writes q i (e ∷ h) - accepted_writes q i g)) (sym past)
    ∙ both.1 in
    ap (λ (b : Bool). (b && keeps q.history (later_writes q h i j)) || is_at (last_marker q i h) j) write
    ∙ ap (λ (b : Bool). b || is_at (last_marker q i h) j)
    (keeps-fewer q.history (later_writes q h i j) (accepted_writes q i (e ∷ h) - accepted_writes q i (as_of j h))
    (omega (arith, more)) later))
    (λ at. or_right (is_kept_write q h i j) (is_at (last_marker q i h) j) (marker-before q e h i j older at))
    (or_cases (is_kept_write q (e ∷ h) i j) (is_at (reached q i h e) j) parts.1)
  where
    marker-before : (q : ReaderQos) (e : Happening) (h : List Happening) (i : Key) (j : ℕ) → j ≤ length h
        → is_at (reached q i h e) j ≡ true → is_at (last_marker q i h) j ≡ true
    marker-before q e h i j older is =
        ⊎_elim
        (λ marked. let at : (length h + 1) ≡ j = eqb-true (length h + 1) j
        (sym (ap (λ (b : Bool). is_at (if b then Some (length h + 1) else last_marker q i h) j) marked)
        ∙ is) in absurd (omega (arith, at, older)))
        (λ unmarked. sym (ap (λ (b : Bool). is_at (if b then Some (length h + 1) else last_marker q i h) j) unmarked)
        ∙ is)
        (cases_Bool (marks q i h e))

-- so what is not present of the past is not so after one more entry either
pub absent-after : (q : ReaderQos) (e : Happening) (h : List Happening) (i : Key) (j : ℕ) → j ≤ length h
    → is_present q h i j ≡ false → is_present q (e ∷ h) i j ≡ false
absent-after q e h i j older gone =
    ⊎_elim
    (λ is. absurd (let clash : true ≡ false = sym (present-before q e h i j older is) ∙ gone in cc))
    (λ none. none)
    (cases_Bool (is_present q (e ∷ h) i j))

-- an entry that is no write of i and marks nothing leaves no sample of it
pub newest-absent : (q : ReaderQos) (e : Happening) (h : List Happening) (i : Key)
    → is_write (accepted_kind q i h e) ≡ false → marks q i h e ≡ false → is_present q (e ∷ h) i (length h + 1) ≡ false
newest-absent q e h i written marked =
    let n : ℕ = length h + 1 in
    let kept : is_kept_write q (e ∷ h) i n ≡ false =
    ap (λ (g : List Happening). ends_with_write q i g && keeps q.history (later_writes q (e ∷ h) i n))
    (as_of-newest e h) ∙ ap (λ (b : Bool). b && keeps q.history (later_writes q (e ∷ h) i n)) written in
    let at : is_at (reached q i h e) n ≡ false =
    ap (λ (b : Bool). is_at (if b then Some n else last_marker q i h) n) marked ∙ marker-next q i h in
    present-reached q e h i n (omega arith)
    ∙ (ap (λ (b : Bool). not (is_taken (sample_at i n) (e ∷ h)) && (b || is_at (reached q i h e) n)) kept
    ∙ (ap (λ (b : Bool). not (is_taken (sample_at i n) (e ∷ h)) && b) at
    ∙ and_right (not (is_taken (sample_at i n) (e ∷ h))) false refl))

-- ---- lists that are narrowed

-- a test that passes less can be tried after one that passes more
pub filter-narrow : {X : Type 0} (more less : X → Bool) (xs : List X) → All (λ x. less x ≡ true → more x ≡ true) xs
    → filter less (filter more xs) ≡ filter less xs
filter-narrow more less [] all = refl
filter-narrow {X = X} more less (x ∷ xs) all =
    let rest : filter less (filter more xs) ≡ filter less xs =
    filter-narrow more less xs (All-tail (λ (y : X). less y ≡ true → more y ≡ true) x xs all) in
    ⊎_elim
    (λ passes. ap (λ (b : Bool). filter less (cond b (x ∷ filter more xs) (filter more xs))) passes
    ∙ ap (λ (ys : List X). cond (less x) (x ∷ ys) ys) rest)
    (λ fails. let none : less x ≡ false = not-less (less x) (more x)
    (All-head (λ (y : X). less y ≡ true → more y ≡ true) x xs all) fails in
    ap (λ (b : Bool). filter less (cond b (x ∷ filter more xs) (filter more xs))) fails
    ∙ (rest ∙ sym (ap (λ (b : Bool). cond b (x ∷ filter less xs) (filter less xs)) none)))
    (cases_Bool (more x))
  where
    not-less : (l m : Bool) → (l ≡ true → m ≡ true) → m ≡ false → l ≡ false
    not-less true m up e = sym (up refl) ∙ e
    not-less false m up e = refl

-- the positions up to n are not above it
up_to-below : (n m : ℕ) → n ≤ m → All (λ (j : ℕ). j ≤ m) (up_to n)
up_to-below zero m within = All-nil (λ (j : ℕ). j ≤ m)
up_to-below (suc n) m within =
    All-push (λ (j : ℕ). j ≤ m) (up_to n) (suc n) (up_to-below n m (omega (arith, within))) within

-- ---- one more entry

pub here-append : (q : ReaderQos) (h : List Happening) (i : Key) (ks ns : List Kept)
    → positions_in q h i (ks ++ ns) ≡ positions_in q h i ks ++ positions_in q h i ns
here-append q h i ks ns =
    ap (λ (xs : List Kept). map position_of xs) (filter-append (is_here q h i) ks ns)
    ∙ map-append position_of (filter (is_here q h i) ks) (filter (is_here q h i) ns)

-- the kept samples of i that pass a test, by the test of their positions
narrow-kept : (o : Kept → Bool) (more less : ℕ → Bool) (ks : List Kept)
    → All (λ (k : Kept). less (position_of k) ≡ true → more (position_of k) ≡ true) ks
    → filter less (map position_of (filter (λ k. o k && more (position_of k)) ks))
    ≡ map position_of (filter (λ k. o k && less (position_of k)) ks)
narrow-kept o more less [] all = refl
narrow-kept o more less (k ∷ ks) all =
    narrow-one (o k) (more (position_of k)) (less (position_of k)) (position_of k) k
    (filter (λ x. o x && more (position_of x)) ks)
    (filter (λ x. o x && less (position_of x)) ks) less
    refl (All-head (λ (x : Kept). less (position_of x) ≡ true → more (position_of x) ≡ true) k ks all)
    (narrow-kept o more less ks
    (All-tail (λ (x : Kept). less (position_of x) ≡ true → more (position_of x) ≡ true) k ks all))
  where
    cond-map : (l : Bool) (k : Kept) (ys : List Kept) → cond l (position_of k ∷ map position_of ys) (map position_of ys)
        ≡ map position_of (cond l (k ∷ ys) ys)
    cond-map true k ys = refl
    cond-map false k ys = refl

    narrow-one : (b m l : Bool) (j : ℕ) (k : Kept) (xs ys : List Kept) (less : ℕ → Bool) → less (position_of k) ≡ l
        → (l ≡ true → m ≡ true) → filter less (map position_of xs) ≡ map position_of ys
        → filter less (map position_of (cond (b && m) (k ∷ xs) xs)) ≡ map position_of (cond (b && l) (k ∷ ys) ys)
    narrow-one false m l j k xs ys less is up rest = rest
    narrow-one true true l j k xs ys less is up rest =
        ap (λ (b : Bool). cond b (position_of k ∷ filter less (map position_of xs)) (filter less (map position_of xs)))
        is ∙ (ap (λ (ps : List ℕ). cond l (position_of k ∷ ps) ps) rest ∙ cond-map l k ys)
    narrow-one true false true j k xs ys less is up rest = absurd (let clash : false ≡ true = up refl in cc)
    narrow-one true false false j k xs ys less is up rest = rest

-- after one more entry the present samples of i are those that still are, and those that the entry left
pub present-next : (q : ReaderQos) (e : Happening) (h : List Happening) (i : Key) (ks ns : List Kept)
    → All (λ (k : Kept). position_of k ≤ length h) ks → filter (is_present q h i) (up_to (length h))
    ≡ positions_in q h i ks → filter (is_present q (e ∷ h) i) ((length h + 1) ∷ []) ≡ positions_in q (e ∷ h) i ns
    → filter (is_present q (e ∷ h) i) (up_to (length (e ∷ h))) ≡ positions_in q (e ∷ h) i (ks ++ ns)
present-next q e h i ks ns past before new =
    let more : ℕ → Bool = is_present q h i in
    let less : ℕ → Bool = is_present q (e ∷ h) i in
    let up : (j : ℕ) → j ≤ length h → less j ≡ true → more j ≡ true = λ j. present-before q e h i j in
    let last : filter less (suc (length h) ∷ []) ≡ positions_in q (e ∷ h) i ns =
    ap (λ (n : ℕ). filter less (n ∷ [])) (sym (add-one (length h))) ∙ new in
    filter-append less (up_to (length h)) (suc (length h) ∷ [])
    ∙ (ap (λ (ps : List ℕ). ps ++ filter less (suc (length h) ∷ []))
    (sym (filter-narrow more less (up_to (length h))
    (All-weaker (λ (j : ℕ). j ≤ length h) (λ (j : ℕ). less j ≡ true → more j ≡ true) up (up_to (length h))
    (up_to-below (length h) (length h) (omega arith)))))
    ∙ (ap (λ (ps : List ℕ). filter less ps ++ filter less (suc (length h) ∷ [])) before
    ∙ (ap (λ (ps : List ℕ). ps ++ filter less (suc (length h) ∷ []))
    (narrow-kept (λ k. same_key k.sample.key i) more less ks
    (All-weaker (λ (k : Kept). position_of k ≤ length h) (λ (k : Kept). less (position_of k) ≡ true
    → more (position_of k) ≡ true) (λ k. up (position_of k)) ks past))
    ∙ (ap (λ (ps : List ℕ). positions_in q (e ∷ h) i ks ++ ps) last ∙ sym (here-append q (e ∷ h) i ks ns)))))

-- kept samples of which none is present can be let go
pub present-dropped : (q : ReaderQos) (h : List Happening) (i : Key) (keep : Kept → Bool) (ks : List Kept)
    → All (λ (k : Kept). is_here q h i k ≡ true → keep k ≡ true) ks
    → positions_in q h i (filter keep ks) ≡ positions_in q h i ks
present-dropped q h i keep ks all =
    ap (λ (xs : List Kept). map position_of xs) (filter-narrow keep (is_here q h i) ks all)

-- ---- what the newest entry leaves

-- an entry that changes nothing of i leaves no sample of it
pub quiet-absent : (q : ReaderQos) (e : Happening) (h : List Happening) (i : Key) → accepted_kind q i h e ≡ None
    → registered_writers q i (e ∷ h) ≡ registered_writers q i h → is_present q (e ∷ h) i (length h + 1) ≡ false
quiet-absent q e h i none same =
    newest-absent q e h i (ap (λ (k : Option ChangeKind). is_write k) none) (quiet-unmarked q i h e none same)

filter-same : (f g : ℕ → Bool) (ws : List ℕ) → ((w : ℕ) → f w ≡ g w) → filter f ws ≡ filter g ws
filter-same f g [] same = refl
filter-same f g (w ∷ ws) same =
    ap (λ (b : Bool). cond b (w ∷ filter f ws) (filter f ws)) (same w)
    ∙ ap (λ (xs : List ℕ). cond (g w) (w ∷ xs) xs) (filter-same f g ws same)

-- a change of another instance leaves those who are registered for i
pub writers-other : (q : ReaderQos) (a : Arrival) (h : List Happening) (i : Key) → same_key a.change.key i ≡ false
    → registered_writers q i (Came a ∷ h) ≡ registered_writers q i h
writers-other q a h i other =
    filter-same (λ w. is_registered i w (Came a ∷ h)) (λ w. is_registered i w h) (publication_handles q h)
    (λ w. registered-other i w h a other)

-- it leaves no marker of i
pub unmarked-other : (q : ReaderQos) (a : Arrival) (h : List Happening) (i : Key) → same_key a.change.key i ≡ false
    → marks q i h (Came a) ≡ false
unmarked-other q a h i other =
    quiet-unmarked q i h (Came a) (accepted-other q i h a other) (writers-other q a h i other)

-- it leaves no sample of i
pub other-absent : (q : ReaderQos) (a : Arrival) (h : List Happening) (i : Key) → same_key a.change.key i ≡ false
    → is_present q (Came a ∷ h) i (length h + 1) ≡ false
other-absent q a h i other = quiet-absent q (Came a) h i (accepted-other q i h a other) (writers-other q a h i other)

pub unstated : (last : Option ChangeKind) (nobody : Bool) → state_after last nobody ≡ None → last ≡ None
unstated None nobody e = refl
unstated (Some Write) nobody e = absurd cc
unstated (Some Dispose) nobody e = absurd cc
unstated (Some Unregister) nobody e = absurd cc
unstated (Some DisposeUnregister) nobody e = absurd cc

or_else-none : (a b : Option ChangeKind) → or_else a b ≡ None → (a ≡ None) × (b ≡ None)
or_else-none None b e = (refl, e)
or_else-none (Some x) b e = absurd cc

-- of an instance that is unknown then the entry leaves no sample
pub unknown-absent : (q : ReaderQos) (e : Happening) (h : List Happening) (i : Key)
    → instance_state_of q i (e ∷ h) ≡ None → is_present q (e ∷ h) i (length h + 1) ≡ false
unknown-absent q e h i none =
    let last : last_accepted q i (e ∷ h) ≡ None =
    unstated (last_accepted q i (e ∷ h)) (is_nobody (registered_writers q i (e ∷ h))) none in
    ⊎_elim
    (λ over. ended-absent q e h i (length h + 1) over (omega arith))
    (λ goes_on. let parts = or_else-none (accepted_kind q i h e) (last_accepted q i h)
    (sym (ap (λ (b : Bool). if b then None else or_else (accepted_kind q i h e) (last_accepted q i h)) goes_on)
    ∙ last) in
    newest-absent q e h i (ap (λ (k : Option ChangeKind). is_write k) parts.0)
    (ap (λ (k : Option ChangeKind). becomes_not_alive (state_after k (is_nobody (registered_writers q i h)))
    (state_after (or_else (accepted_kind q i h e) k) (is_nobody (registered_writers q i (e ∷ h))))) parts.1
    ∙ ap (λ (k : Option ChangeKind). becomes_not_alive None
    (state_after (or_else k None) (is_nobody (registered_writers q i (e ∷ h))))) parts.0))
    (cases_Bool (ends_life q i h e))
