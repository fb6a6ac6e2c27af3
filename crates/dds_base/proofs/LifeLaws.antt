-- When the life of an instance goes on, and when it ends.
use Rattle.std.proofs.Common.{◌≡◌, ℕ, ◌+◌, ◌-◌, ◌≤◌, ◌<◌, List, [], ◌∷◌, length, Bool, true, false, not, ◌&&◌, ◌||◌, ◌==◌, sym, ap, ◌∙◌, refl, Option, Some, None, arith, zero, suc, add-one, ⊎_elim}
use Rattle.std.specs.Prelude.{if◌then◌else◌, is_some, IfSome}
use Rattle.std.specs.List.{list_any}
use Rattle.std.proofs.lemmas.Bool.{cases_Bool, cases_lt, le-leb, lt-leb, eqb-true}
use Rattle.std.proofs.lemmas.Bool.Decides.{Decides-eqb}
use Rattle.std.proofs.lemmas.List.Folds.{list_any-append}
use Rattle.dds_base.specs.declared.key.Key.{Key}
use Rattle.dds_base.specs.declared.change.ChangeKind.{ChangeKind}
use Rattle.dds_base.specs.declared.happening.Arrival.{Arrival}
use Rattle.dds_base.specs.declared.happening.SamplePosition.{SamplePosition}
use Rattle.dds_base.specs.declared.happening.Happening.{Happening}
use Rattle.dds_base.specs.declared.happening.Happening.TheVariants.{Came, Took}
use Rattle.dds_base.specs.declared.sample.InstanceState.{InstanceState}
use Rattle.dds_base.specs.declared.sample.InstanceState.TheVariants.{Alive, NotAliveDisposed, NotAliveNoWriters}
use Rattle.dds_base.specs.declared.qos.ReaderQos.{ReaderQos}
use Rattle.dds_base.specs.Access.{handle_of, lives_begun}
use Rattle.dds_base.specs.Happening.{same_key, same_sample, as_of, is_taken, taken_by}
use Rattle.dds_base.specs.Instance.{instance_state_of, is_known, introduces, introduced_by}
use Rattle.dds_base.specs.Life.{or_else, is_nobody, is_write, state_after, becomes_not_alive, accepted_writes, ends_with_write, keeps, is_kept_write, is_at, up_to, is_there, has_there, is_life_over, marker_reached, last_accepted, last_marker, ends_life}
use Rattle.dds_base.specs.Ownership.{accepted_kind, is_registered, registered_writers}
use Rattle.dds_base.specs.Presence.{is_present, marks}
use Rattle.dds_base.proofs.KeyLaws.{key-same, same_key-comm}

same_nat : (n : ℕ) → (n == n) ≡ true
same_nat n = (Decides-eqb n n).1 refl

-- ---- of an instance that is known

-- the last marker once the entry has happened, by what it was before
abbrev reached : ReaderQos → Key → List Happening → Happening → Option ℕ
reached q i h e = marker_reached q i h e (last_accepted q i h) (last_marker q i h)

-- the life of a known instance is not over
pub known-goes-on : (q : ReaderQos) (i : Key) (h : List Happening) → is_known q h i ≡ true
    → is_life_over q h i (last_marker q i h) ≡ false
known-goes-on q i [] known = absurd (let clash : false ≡ true = known in cc)
known-goes-on q i (e ∷ h) known =
    ⊎_elim
    (λ over. absurd (let clash : false ≡ true =
    sym (ap (λ (b : Bool). is_some (if b then None else or_else (accepted_kind q i h e) (last_accepted q i h))) over)
    ∙ known in cc))
    (λ on. ap (λ (m : Option ℕ). is_life_over q (e ∷ h) i m)
    (ap (λ (b : Bool). if b then None else reached q i h e) on) ∙ on)
    (cases_Bool (ends_life q i h e))

-- the last marker is of the past
pub marker-below : (q : ReaderQos) (i : Key) (h : List Happening) → IfSome (last_marker q i h) (λ m. m ≤ length h)
marker-below q i [] = tt
marker-below q i (e ∷ h) =
    one (ends_life q i h e) (marks q i h e) (length h) (last_marker q i h) (marker-below q i h)
  where
    more : (n : ℕ) (m : Option ℕ) → IfSome m (λ k. k ≤ n) → IfSome m (λ k. k ≤ suc n)
    more n None below = below
    more n (Some k) below = omega (arith, below)

    one : (ends marked : Bool) (n : ℕ) (m : Option ℕ) → IfSome m (λ k. k ≤ n)
        → IfSome (if ends then None else (if marked then Some (n + 1) else m)) (λ k. k ≤ suc n)
    one true marked n m below = tt
    one false true n m below = omega arith
    one false false n m below = more n m below

-- it is not what comes next
pub marker-next : (q : ReaderQos) (i : Key) (h : List Happening) → is_at (last_marker q i h) (length h + 1) ≡ false
marker-next q i h = off (last_marker q i h) (marker-below q i h)
  where
    off : (m : Option ℕ) → IfSome m (λ k. k ≤ length h) → is_at m (length h + 1) ≡ false
    off None below = refl
    off (Some k) below =
        ⊎_elim
        (λ same. let is : k ≡ length h + 1 = eqb-true k (length h + 1) same in absurd (omega (arith, is, below)))
        (λ other. other)
        (cases_Bool (k == length h + 1))

-- ---- changes of other instances

-- a change of another instance is not accepted for this one
pub accepted-other : (q : ReaderQos) (i : Key) (h : List Happening) (a : Arrival) → same_key a.change.key i ≡ false
    → accepted_kind q i h (Came a) ≡ None
accepted-other q i h a other = rw other refl

pub registered-other : (i : Key) (w : ℕ) (h : List Happening) (a : Arrival) → same_key a.change.key i ≡ false
    → is_registered i w (Came a ∷ h) ≡ is_registered i w h
registered-other i w h a other = rw other refl

-- ---- what an entry leaves present

pub as_of-older : (e : Happening) (h : List Happening) (j : ℕ) → j ≤ length h → as_of j (e ∷ h) ≡ as_of j h
as_of-older e h j older = ap (λ (b : Bool). if b then as_of j h else e ∷ h) (le-leb j (length h) older)

pub as_of-newest : (e : Happening) (h : List Happening) → as_of (length h + 1) (e ∷ h) ≡ e ∷ h
as_of-newest e h =
    ap (λ (b : Bool). if b then as_of (length h + 1) h else e ∷ h) (lt-leb (length h + 1) (length h) (omega arith))

-- where no sample of an instance is taken, none of its positions is
untaken-none : (i : Key) (j : ℕ) (ss : List SamplePosition)
    → list_any (λ (s : SamplePosition). same_key s.key i) ss ≡ false
    → list_any (same_sample (record { key = i; position = j })) ss ≡ false
untaken-none i j [] none = refl
untaken-none i j (s ∷ ss) none =
    let parts = both (same_key s.key i) (list_any (λ (x : SamplePosition). same_key x.key i) ss) none in
    ap (λ (b : Bool). (b && (j == s.position)) || list_any (same_sample (record { key = i; position = j })) ss)
    (same_key-comm i s.key ∙ parts.0)
    ∙ untaken-none i j ss parts.1
  where
    both : (a b : Bool) → (a || b) ≡ false → (a ≡ false) × (b ≡ false)
    both true b e = absurd cc
    both false b e = (refl, e)

-- an older sample is there as it was before, where the entry is no accepted write of its instance and takes none of it
pub there-older : (q : ReaderQos) (i : Key) (h : List Happening) (e : Happening) (m : Option ℕ) (j : ℕ)
    → is_write (accepted_kind q i h e) ≡ false
    → list_any (λ (s : SamplePosition). same_key s.key i) (taken_by e) ≡ false → j ≤ length h
    → is_there q (e ∷ h) i m j ≡ is_there q h i m j
there-older q i h e m j unwritten untaken older =
    let past : as_of j (e ∷ h) ≡ as_of j h = as_of-older e h j older in
    let count : accepted_writes q i (e ∷ h) ≡ accepted_writes q i h =
    ap (λ (b : Bool). accepted_writes q i h + (if b then 1 else 0)) unwritten
    ∙ (let same : accepted_writes q i h + 0 ≡ accepted_writes q i h = omega arith in same) in
    let kept : is_kept_write q (e ∷ h) i j ≡ is_kept_write q h i j =
    ap (λ (g : List Happening). ends_with_write q i g
    && keeps q.history (accepted_writes q i (e ∷ h) - accepted_writes q i g)) past
    ∙ ap (λ (n : ℕ). ends_with_write q i (as_of j h) && keeps q.history (n - accepted_writes q i (as_of j h))) count in
    ap (λ (b : Bool). not (b || is_taken (record { key = i; position = j }) h)
    && (is_kept_write q (e ∷ h) i j || is_at m j)) (untaken-none i j (taken_by e) untaken)
    ∙ ap (λ (b : Bool). not (is_taken (record { key = i; position = j }) h) && (b || is_at m j)) kept

-- a test of the positions up to n, by one that agrees there
pub up_to-like : (f g : ℕ → Bool) (n : ℕ) → ((j : ℕ) → j ≤ n → f j ≡ g j) → list_any f (up_to n) ≡ list_any g (up_to n)
up_to-like f g zero like = refl
up_to-like f g (suc n) like =
    list_any-append f (up_to n) (suc n ∷ [])
    ∙ (ap (λ (b : Bool). b || list_any f (suc n ∷ [])) (up_to-like f g n (λ j le. like j (omega (arith, le))))
    ∙ (ap (λ (b : Bool). list_any g (up_to n) || (b || false)) (like (suc n) (omega arith))
    ∙ sym (list_any-append g (up_to n) (suc n ∷ []))))

-- a position up to n that passes a test
pub up_to-at : (f : ℕ → Bool) (n j : ℕ) → 1 ≤ j → j ≤ n → list_any f (up_to n) ≡ false → f j ≡ false
up_to-at f zero j above below none = absurd (omega (arith, above, below))
up_to-at f (suc n) j above below none =
    let parts = both (list_any f (up_to n)) (f (suc n)) (sym (list_any-append f (up_to n) (suc n ∷ [])) ∙ none) in
    ⊎_elim
    (λ last. ap f (eqb-true j (suc n) last) ∙ parts.1)
    (λ other. up_to-at f n j above (before j n below other) parts.0)
    (cases_Bool (j == suc n))
  where
    both : (a b : Bool) → (a || (b || false)) ≡ false → (a ≡ false) × (b ≡ false)
    both true b e = absurd cc
    both false true e = absurd cc
    both false false e = (refl, refl)

    before : (j n : ℕ) → j ≤ suc n → (j == suc n) ≡ false → j ≤ n
    before j n below other =
        ⊎_elim
        (λ past. let same : j ≡ suc n = omega (arith, below, past) in
        absurd (let clash : true ≡ false = sym (ap (λ (k : ℕ). k == suc n) same ∙ same_nat (suc n)) ∙ other in cc))
        (λ le. le)
        (cases_lt n j)

or-none : (a : Bool) → (a || (false || false)) ≡ a
or-none true = refl
or-none false = refl

and-none : (a : Bool) → (a && (false || false)) ≡ false
and-none true = refl
and-none false = refl

-- what is there as a whole, where the entry is no accepted write of the instance, takes none of it, and no marker is of it
there-same : (q : ReaderQos) (i : Key) (h : List Happening) (e : Happening) (m : Option ℕ)
    → is_write (accepted_kind q i h e) ≡ false
    → list_any (λ (s : SamplePosition). same_key s.key i) (taken_by e) ≡ false → is_at m (length h + 1) ≡ false
    → has_there q (e ∷ h) i m ≡ has_there q h i m
there-same q i h e m unwritten untaken off =
    let now : ℕ → Bool = is_there q (e ∷ h) i m in
    let newest : now (suc (length h)) ≡ false =
    ap now (sym (add-one (length h)))
    ∙ (ap (λ (g : List Happening). not (is_taken (record { key = i; position = length h + 1 }) (e ∷ h))
    && ((ends_with_write q i g && keeps q.history (accepted_writes q i (e ∷ h) - accepted_writes q i g))
    || is_at m (length h + 1))) (as_of-newest e h)
    ∙ (ap (λ (b : Bool). not (is_taken (record { key = i; position = length h + 1 }) (e ∷ h))
    && ((b && keeps q.history (accepted_writes q i (e ∷ h) - accepted_writes q i (e ∷ h)))
    || is_at m (length h + 1))) unwritten
    ∙ (ap (λ (b : Bool). not (is_taken (record { key = i; position = length h + 1 }) (e ∷ h)) && (false || b)) off
    ∙ and-none (not (is_taken (record { key = i; position = length h + 1 }) (e ∷ h)))))) in
    list_any-append now (up_to (length h)) (suc (length h) ∷ [])
    ∙ (ap (λ (b : Bool). list_any now (up_to (length h)) || (b || false)) newest
    ∙ (or-none (list_any now (up_to (length h)))
    ∙ up_to-like now (is_there q h i m) (length h)
    (λ j older. there-older q i h e m j unwritten untaken older)))

or-true : (a : Bool) → (a || true) ≡ true
or-true true = refl
or-true false = refl

and-false : (a : Bool) → (a && false) ≡ false
and-false true = refl
and-false false = refl

-- ---- what ends a life

-- nothing does while somebody is registered
pub ends-registered : (q : ReaderQos) (i : Key) (h : List Happening) (e : Happening)
    → is_nobody (registered_writers q i (e ∷ h)) ≡ false → ends_life q i h e ≡ false
ends-registered q i h e somebody =
    ap (λ (b : Bool). b && not (has_there q (e ∷ h) i (reached q i h e))) somebody

-- nothing that leaves a marker does
pub ends-marked : (q : ReaderQos) (i : Key) (h : List Happening) (e : Happening) → marks q i h e ≡ true
    → is_taken (record { key = i; position = length h + 1 }) (e ∷ h) ≡ false → ends_life q i h e ≡ false
ends-marked q i h e marked untaken =
    let now : ℕ → Bool = is_there q (e ∷ h) i (Some (length h + 1)) in
    let there : now (suc (length h)) ≡ true =
    ap now (sym (add-one (length h)))
    ∙ (ap (λ (b : Bool). not b && (is_kept_write q (e ∷ h) i (length h + 1) || (length h + 1 == length h + 1))) untaken
    ∙ (ap (λ (b : Bool). is_kept_write q (e ∷ h) i (length h + 1) || b) (same_nat (length h + 1))
    ∙ or-true (is_kept_write q (e ∷ h) i (length h + 1)))) in
    let some : has_there q (e ∷ h) i (Some (length h + 1)) ≡ true =
    list_any-append now (up_to (length h)) (suc (length h) ∷ [])
    ∙ (ap (λ (b : Bool). list_any now (up_to (length h)) || (b || false)) there
    ∙ or-true (list_any now (up_to (length h)))) in
    ap (λ (m : Option ℕ). is_nobody (registered_writers q i (e ∷ h)) && not (has_there q (e ∷ h) i m))
    (ap (λ (b : Bool). if b then Some (length h + 1) else last_marker q i h) marked)
    ∙ (ap (λ (b : Bool). is_nobody (registered_writers q i (e ∷ h)) && not b) some
    ∙ and-false (is_nobody (registered_writers q i (e ∷ h))))

-- where none is left, what was present before decides, unless the entry is an accepted write or takes something
pub ends-unmarked : (q : ReaderQos) (i : Key) (h : List Happening) (e : Happening)
    → is_write (accepted_kind q i h e) ≡ false
    → list_any (λ (s : SamplePosition). same_key s.key i) (taken_by e) ≡ false → marks q i h e ≡ false
    → ends_life q i h e
    ≡ (is_nobody (registered_writers q i (e ∷ h)) && not (has_there q h i (last_marker q i h)))
ends-unmarked q i h e unwritten untaken unmarked =
    ap (λ (m : Option ℕ). is_nobody (registered_writers q i (e ∷ h)) && not (has_there q (e ∷ h) i m))
    (ap (λ (b : Bool). if b then Some (length h + 1) else last_marker q i h) unmarked)
    ∙ ap (λ (b : Bool). is_nobody (registered_writers q i (e ∷ h)) && not b)
    (there-same q i h e (last_marker q i h) unwritten untaken (marker-next q i h))

-- no state is another than it was
pub same-state : (s : Option InstanceState) → becomes_not_alive s s ≡ false
same-state None = refl
same-state (Some Alive) = refl
same-state (Some NotAliveDisposed) = refl
same-state (Some NotAliveNoWriters) = refl

-- an entry of which nothing is accepted, and that changes no registration, leaves no marker
pub quiet-unmarked : (q : ReaderQos) (i : Key) (h : List Happening) (e : Happening) → accepted_kind q i h e ≡ None
    → registered_writers q i (e ∷ h) ≡ registered_writers q i h → marks q i h e ≡ false
quiet-unmarked q i h e none same =
    let before : Option InstanceState = state_after (last_accepted q i h) (is_nobody (registered_writers q i h)) in
    ap (λ (k : Option ChangeKind). becomes_not_alive before
    (state_after (or_else k (last_accepted q i h)) (is_nobody (registered_writers q i (e ∷ h))))) none
    ∙ (ap (λ (ws : List ℕ). becomes_not_alive before (state_after (last_accepted q i h) (is_nobody ws))) same
    ∙ same-state before)

-- a take ends the lives of those for which nobody is registered, and of which nothing is left
pub ends-took : (q : ReaderQos) (i : Key) (h : List Happening) (ss : List SamplePosition) → ends_life q i h (Took ss)
    ≡ (is_nobody (registered_writers q i h) && not (has_there q (Took ss ∷ h) i (last_marker q i h)))
ends-took q i h ss =
    ap (λ (m : Option ℕ). is_nobody (registered_writers q i h) && not (has_there q (Took ss ∷ h) i m))
    (ap (λ (b : Bool). if b then Some (length h + 1) else last_marker q i h) (quiet-unmarked q i h (Took ss) refl refl))

-- an entry that says nothing of a known instance, and takes nothing of it, does not end its life
pub quiet-goes-on : (q : ReaderQos) (i : Key) (h : List Happening) (e : Happening) → accepted_kind q i h e ≡ None
    → registered_writers q i (e ∷ h) ≡ registered_writers q i h
    → list_any (λ (s : SamplePosition). same_key s.key i) (taken_by e) ≡ false → is_known q h i ≡ true
    → ends_life q i h e ≡ false
quiet-goes-on q i h e none same untaken known =
    ends-unmarked q i h e (ap is_write none) untaken (quiet-unmarked q i h e none same)
    ∙ (ap (λ (ws : List ℕ). is_nobody ws && not (has_there q h i (last_marker q i h))) same
    ∙ known-goes-on q i h known)

-- and makes no instance known
pub quiet-unknown : (q : ReaderQos) (i : Key) (h : List Happening) (e : Happening) → accepted_kind q i h e ≡ None
    → is_known q h i ≡ false → is_known q (e ∷ h) i ≡ false
quiet-unknown q i h e none unknown =
    ap (λ (k : Option ChangeKind). is_some (if ends_life q i h e then None else or_else k (last_accepted q i h))) none
    ∙ still (ends_life q i h e) (last_accepted q i h) unknown
  where
    still : (b : Bool) (k : Option ChangeKind) → is_some k ≡ false → is_some (if b then None else k) ≡ false
    still true k e = refl
    still false k e = e

unknown-none : (k : Option ChangeKind) → is_some k ≡ false → k ≡ None
unknown-none None is = refl
unknown-none (Some k) is = absurd cc

-- of what is accepted of an instance it leaves all as it was
pub quiet-accepted : (q : ReaderQos) (i : Key) (h : List Happening) (e : Happening) → accepted_kind q i h e ≡ None
    → registered_writers q i (e ∷ h) ≡ registered_writers q i h
    → list_any (λ (s : SamplePosition). same_key s.key i) (taken_by e) ≡ false
    → last_accepted q i (e ∷ h) ≡ last_accepted q i h
quiet-accepted q i h e none same untaken =
    ap (λ (k : Option ChangeKind). if ends_life q i h e then None else or_else k (last_accepted q i h)) none
    ∙ ⊎_elim
    (λ known. ap (λ (b : Bool). if b then None else last_accepted q i h)
    (quiet-goes-on q i h e none same untaken known))
    (λ unknown. either (ends_life q i h e) (last_accepted q i h) (unknown-none (last_accepted q i h) unknown))
    (cases_Bool (is_known q h i))
  where
    either : (b : Bool) (k : Option ChangeKind) → k ≡ None → (if b then None else k) ≡ k
    either true k is = sym is
    either false k is = refl

-- an unknown instance has no marker
pub unknown-unmarked : (q : ReaderQos) (i : Key) (h : List Happening) → last_accepted q i h ≡ None
    → last_marker q i h ≡ None
unknown-unmarked q i [] none = refl
unknown-unmarked q i (e ∷ h) none =
    ⊎_elim
    (λ over. ap (λ (b : Bool). if b then None else reached q i h e) over)
    (λ on. let parts = both (accepted_kind q i h e) (last_accepted q i h)
    (sym (ap (λ (b : Bool). if b then None else or_else (accepted_kind q i h e) (last_accepted q i h)) on) ∙ none) in
    let before : marks q i h e ≡ false =
    ap (λ (k : Option ChangeKind). becomes_not_alive (state_after k (is_nobody (registered_writers q i h)))
    (state_after (or_else (accepted_kind q i h e) k) (is_nobody (registered_writers q i (e ∷ h))))) parts.1
    ∙ ap (λ (k : Option ChangeKind). becomes_not_alive None
    (state_after (or_else k None) (is_nobody (registered_writers q i (e ∷ h))))) parts.0 in
    ap (λ (b : Bool). if b then None else reached q i h e) on
    ∙ (ap (λ (b : Bool). if b then Some (length h + 1) else last_marker q i h) before
    ∙ unknown-unmarked q i h parts.1))
    (cases_Bool (ends_life q i h e))
  where
    both : (a b : Option ChangeKind) → or_else a b ≡ None → (a ≡ None) × (b ≡ None)
    both None b is = (refl, is)
    both (Some k) b is = absurd cc

-- a quiet entry leaves the last marker where it was
pub quiet-marker : (q : ReaderQos) (i : Key) (h : List Happening) (e : Happening) → accepted_kind q i h e ≡ None
    → registered_writers q i (e ∷ h) ≡ registered_writers q i h
    → list_any (λ (s : SamplePosition). same_key s.key i) (taken_by e) ≡ false
    → last_marker q i (e ∷ h) ≡ last_marker q i h
quiet-marker q i h e none same untaken =
    ⊎_elim
    (λ known. ap (λ (b : Bool). if b then None else reached q i h e)
    (quiet-goes-on q i h e none same untaken known)
    ∙ ap (λ (b : Bool). if b then Some (length h + 1) else last_marker q i h) (quiet-unmarked q i h e none same))
    (λ unknown. let before : last_accepted q i h ≡ None = unknown-none (last_accepted q i h) unknown in
    unknown-unmarked q i (e ∷ h) (quiet-accepted q i h e none same untaken ∙ before)
    ∙ sym (unknown-unmarked q i h before))
    (cases_Bool (is_known q h i))

-- a known instance keeps its handle
pub handle-kept : (q : ReaderQos) (i : Key) (h : List Happening) (e : Happening) → is_known q (e ∷ h) i ≡ true
    → is_known q h i ≡ true → handle_of q (e ∷ h) i ≡ handle_of q h i
handle-kept q i h e now before =
    ap (λ (b : Bool). if not b then 0
    else (if introduces q i h e then lives_begun q (e ∷ h) else handle_of q h i)) now
    ∙ ap (λ (b : Bool). if not b && is_some (accepted_kind q i h e) then lives_begun q (e ∷ h) else handle_of q h i)
    before

-- one that becomes known is counted
begun-more : (q : ReaderQos) (i : Key) (h : List Happening) (e : Happening) → introduces q i h e ≡ true
    → lives_begun q (e ∷ h) ≡ lives_begun q h + 1
begun-more q i h (Came a) new =
    ⊎_elim
    (λ own. ap (λ (b : Bool). lives_begun q h + length (if b then a.change.key ∷ [] else []))
    (ap (λ (k : Key). introduces q k h (Came a)) (key-same a.change.key i own) ∙ new))
    (λ other. absurd (let clash : false ≡ true =
    sym (ap (λ (k : Option ChangeKind). not (is_known q h i) && is_some k) (accepted-other q i h a other)
    ∙ and-false (not (is_known q h i))) ∙ new in cc))
    (cases_Bool (same_key a.change.key i))
begun-more q i h e new = absurd (let clash : false ≡ true = sym (and-false (not (is_known q h i))) ∙ new in cc)

-- a handle is given to one life
pub handle-given : (q : ReaderQos) (i : Key) (h : List Happening) → handle_of q h i ≤ lives_begun q h
handle-given q i [] = omega arith
handle-given q i (e ∷ h) =
    one (is_known q (e ∷ h) i) (introduces q i h e) (handle_of q h i) (lives_begun q h) (length (introduced_by q h e))
    (handle-given q i h)
  where
    one : (known new : Bool) (n begun more : ℕ) → n ≤ begun
        → (if not known then 0 else (if new then begun + more else n)) ≤ begun + more
    one true true n begun more below = omega arith
    one true false n begun more below = omega (arith, below)
    one false new n begun more below = omega arith

pub handle-new : (q : ReaderQos) (i : Key) (h : List Happening) (e : Happening) → introduces q i h e ≡ true
    → is_known q (e ∷ h) i ≡ true → lives_begun q h < handle_of q (e ∷ h) i
handle-new q i h e new known =
    let is : handle_of q (e ∷ h) i ≡ lives_begun q (e ∷ h) =
    ap (λ (b : Bool). if not b then 0
    else (if introduces q i h e then lives_begun q (e ∷ h) else handle_of q h i)) known
    ∙ ap (λ (b : Bool). if b then lives_begun q (e ∷ h) else handle_of q h i) new in
    omega (arith, is, begun-more q i h e new)

-- ---- what is not present

-- an instance whose life the entry ends is unknown
pub over-unknown : (q : ReaderQos) (i : Key) (h : List Happening) (e : Happening) → ends_life q i h e ≡ true
    → is_known q (e ∷ h) i ≡ false
over-unknown q i h e over =
    ap (λ (b : Bool). is_some (if b then None else or_else (accepted_kind q i h e) (last_accepted q i h))) over

pub over-stateless : (q : ReaderQos) (i : Key) (h : List Happening) (e : Happening) → ends_life q i h e ≡ true
    → instance_state_of q i (e ∷ h) ≡ None
over-stateless q i h e over =
    ap (λ (b : Bool). state_after (if b then None else or_else (accepted_kind q i h e) (last_accepted q i h))
    (is_nobody (registered_writers q i (e ∷ h)))) over

pub over-handle : (q : ReaderQos) (i : Key) (h : List Happening) (e : Happening) → ends_life q i h e ≡ true
    → handle_of q (e ∷ h) i ≡ 0
over-handle q i h e over =
    ap (λ (b : Bool). if not b then 0
    else (if introduces q i h e then lives_begun q (e ∷ h) else handle_of q h i)) (over-unknown q i h e over)

-- a count of a life that is over
pub over-count : (n : ℕ) (b : Bool) → b ≡ true → (if b then 0 else n) ≡ 0
over-count n true is = refl
over-count n false is = absurd cc

-- a life that ends has none that is present
pub is-over-none : (nobody has : Bool) → (nobody && not has) ≡ true → has ≡ false
is-over-none true true e = absurd cc
is-over-none true false e = refl
is-over-none false has e = absurd cc

-- what is not there is not there either without a marker
pub markers-gone : (left written marker : Bool) → (left && (written || marker)) ≡ false
    → (left && (written || false)) ≡ false
markers-gone true true marker e = absurd cc
markers-gone true false marker e = refl
markers-gone false written marker e = refl

-- of a life that ended nothing is
pub over-absent : (q : ReaderQos) (i : Key) (h : List Happening) (e : Happening) → ends_life q i h e ≡ true → (j : ℕ)
    → 1 ≤ j → j ≤ length h + 1 → is_present q (e ∷ h) i j ≡ false
over-absent q i h e over j above below =
    let none : has_there q (e ∷ h) i (reached q i h e) ≡ false =
    is-over-none (is_nobody (registered_writers q i (e ∷ h))) (has_there q (e ∷ h) i (reached q i h e)) over in
    ap (λ (m : Option ℕ). is_there q (e ∷ h) i m j) (ap (λ (b : Bool). if b then None else reached q i h e) over)
    ∙ markers-gone (not (is_taken (record { key = i; position = j }) (e ∷ h))) (is_kept_write q (e ∷ h) i j)
    (is_at (reached q i h e) j)
    (up_to-at (is_there q (e ∷ h) i (reached q i h e)) (suc (length h)) j above (omega (arith, below)) none)
