-- The known instances stand by handle: at which place one of a handle stands, and the first one above it.
use Rattle.std.proofs.Common.{◌≡◌, ◌≢◌, ℕ, zero, suc, ◌+◌, ◌-◌, ◌≤◌, ◌<◌, List, [], ◌∷◌, length, get_or, take, map, Bool, true, false, ◌==◌, sym, ap, ◌∙◌, refl, subst, cond, arith, Option, Some, None, leb}
use Rattle.std.specs.Prelude.{find, slice_get, IfSome}
use Rattle.std.specs.Option.{option_map}
use Rattle.std.specs.List.{All, AllWithin}
use Rattle.std.specs.List.Sorted.{IsNonDecreasingBy}
use Rattle.std.proofs.lemmas.Bool.{eq-eqb, leb-false, leb-true, ne_eqb}
use Rattle.std.proofs.lemmas.List.{get_or-map, get_or-take, length-map, length-take, take-map}
use Rattle.std.proofs.lemmas.List.Elements.{All-cons, All-head, All-map, All-nil, All-tail, All-weaker}
use Rattle.std.proofs.lemmas.Option.{get_or_from_slice_get, slice_get_within}
use Rattle.dds_base.specs.declared.key.Key.{Key}
use Rattle.dds_base.specs.declared.happening.Happening.{Happening}
use Rattle.dds_base.specs.declared.qos.ReaderQos.{ReaderQos}
use Rattle.dds_base.specs.Access.{handle_of, instance_of, lives_begun}
use Rattle.dds_base.specs.Instance.{known_instances}
use Rattle.dds_instances.specs.declared.track.InstanceTrack.{InstanceTrack}
use Rattle.dds_instances.specs.Following.{key_of, Follows}
use Rattle.dds_instances.proofs.RiseLaws.{IsRising, handles-rise, rising-each}
use Rattle.dds_instances.proofs.StandingLaws.{at-place, instance-at, known-of}

-- ---- the tracks stand by handle

rising-sorted : (f : Key → ℕ) (a b : ℕ) (ks : List Key) → IsRising f a b ks → IsNonDecreasingBy f ks
rising-sorted f a b [] rising i j d before within = absurd (omega (arith, within))
rising-sorted f a b (k ∷ ks) rising zero zero d before within = omega arith
rising-sorted f a b (k ∷ ks) rising zero (suc j) d before within =
    let above : f k + 1 ≤ f (get_or ks j d) =
    rising-each f (f k + 1) b ks rising.2 j d (omega (arith, within)) in omega (arith, above)
rising-sorted f a b (k ∷ ks) rising (suc i) zero d before within = absurd (omega (arith, before))
rising-sorted f a b (k ∷ ks) rising (suc i) (suc j) d before within =
    rising-sorted f (f k + 1) b ks rising.2 i j d (omega (arith, before)) (omega (arith, within))

-- a track has the handle of its instance
handle-at : (q : ReaderQos) (h : List Happening) (ts : List InstanceTrack) → Follows q h ts
    → All (λ (t : InstanceTrack). t.handle ≡ handle_of q h t.key) ts
handle-at q h ts follows k d within = (follows.each k d within).handle_is (known-of q h ts follows k d within)

pub tracks-sorted : (q : ReaderQos) (h : List Happening) (ts : List InstanceTrack) → Follows q h ts
    → IsNonDecreasingBy (λ (t : InstanceTrack). t.handle) ts
tracks-sorted q h ts follows i j d before within =
    let count : length (map key_of ts) ≡ length ts = length-map ts key_of in
    let first : i < length ts = omega (arith, before, within) in
    let rise : IsNonDecreasingBy (handle_of q h) (map key_of ts) =
    subst (λ (ks : List Key). IsNonDecreasingBy (handle_of q h) ks) (sym follows.keys_are)
    (rising-sorted (handle_of q h) 1 (1 + lives_begun q h) (known_instances q h) (handles-rise q h)) in
    let number : (k : ℕ) → k < length ts → handle_of q h (get_or (map key_of ts) k d.key) ≡ (get_or ts k d).handle =
    λ k inside. ap (λ (x : Key). handle_of q h x) (get_or-map key_of ts k d d.key inside)
    ∙ sym (handle-at q h ts follows k d inside) in
    let below : handle_of q h (get_or (map key_of ts) i d.key) ≤ handle_of q h (get_or (map key_of ts) j d.key) =
    rise i j d.key before (omega (arith, within, count)) in
    omega (arith, below, number i first, number j within)

-- ---- the first instance above a handle

pub none-above : (q : ReaderQos) (h : List Happening) (ts : List InstanceTrack) (previous place : ℕ) → Follows q h ts
    → AllWithin (λ (t : InstanceTrack). leb t.handle previous ≡ true) ts 0 place
    → All (λ (i : Key). handle_of q h i ≤ previous) (take place (known_instances q h))
none-above q h ts previous place follows point =
    let P : Key → Type 0 = λ i. handle_of q h i ≤ previous in
    let each : All (λ (t : InstanceTrack). P t.key) (take place ts) =
    λ k d within. let count = length-take place ts in
    let inside : k < place = omega (arith, within, count) in
    let there : k < length ts = omega (arith, within, count) in
    subst (λ (t : InstanceTrack). P t.key) (sym (get_or-take place ts k d inside))
    (let below : (get_or ts k d).handle ≤ previous =
    leb-true (get_or ts k d).handle previous (point k d (omega arith) inside) in
    let number : (get_or ts k d).handle ≡ handle_of q h (get_or ts k d).key = handle-at q h ts follows k d there in
    let low : handle_of q h (get_or ts k d).key ≤ previous = omega (arith, below, number) in low) in
    subst (λ (ks : List Key). All P (take place ks)) follows.keys_are
    (subst (λ (ks : List Key). All P ks) (sym (take-map key_of place ts)) (All-map P key_of (take place ts) each))

pub one-above : (q : ReaderQos) (h : List Happening) (ts : List InstanceTrack) (previous place : ℕ) → Follows q h ts
    → AllWithin (λ (t : InstanceTrack). leb t.handle previous ≡ false) ts place (length ts)
    → IfSome (slice_get (known_instances q h) place) (λ i. previous < handle_of q h i)
one-above q h ts previous place follows point =
    subst (λ (o : Option Key). IfSome o (λ i. previous < handle_of q h i)) (instance-at q h ts place follows)
    (one (slice_get ts place) refl)
  where
    one : (o : Option InstanceTrack) → slice_get ts place ≡ o
        → IfSome (option_map key_of o) (λ i. previous < handle_of q h i)
    one None is = tt
    one (Some t) is =
        let within : place < length ts = slice_get_within ts place t is in
        let same : get_or ts place t ≡ t = get_or_from_slice_get ts place t t is in
        let above : previous < (get_or ts place t).handle =
        leb-false (get_or ts place t).handle previous (point place t (omega arith) within) in
        let number : (get_or ts place t).handle ≡ handle_of q h t.key =
        handle-at q h ts follows place t within ∙ ap (λ (x : InstanceTrack). handle_of q h x.key) same in
        omega (arith, above, number)

-- ---- the instance of a handle

-- of one that stands at a place, that is the first of its handle
find-rising : (f : Key → ℕ) (a b place : ℕ) (ks : List Key) (i : Key) → IsRising f a b ks → slice_get ks place ≡ Some i
    → find (λ k. f k == f i) ks ≡ Some i
find-rising f a b place [] i rising there = absurd cc
find-rising f a b zero (k ∷ ks) i rising there =
    let same : k ≡ i = cc in
    ap (λ (b : Bool). cond b (Some k) (find (λ x. f x == f i) ks)) (eq-eqb (f k) (f i) (ap f same)) ∙ ap Some same
find-rising f a b (suc place) (k ∷ ks) i rising there =
    let within : place < length ks = slice_get_within ks place i there in
    let above : f k + 1 ≤ f (get_or ks place i) = rising-each f (f k + 1) b ks rising.2 place i within in
    let same : f (get_or ks place i) ≡ f i = ap f (get_or_from_slice_get ks place i i there) in
    ap (λ (b : Bool). cond b (Some k) (find (λ x. f x == f i) ks))
    (ne_eqb (f k) (f i) (λ e. omega (arith, e, above, same)))
    ∙ find-rising f (f k + 1) b place ks i rising.2 there

find-none : (p : Key → Bool) (ks : List Key) → All (λ (k : Key). p k ≡ false) ks → find p ks ≡ None
find-none p [] none = refl
find-none p (k ∷ ks) none =
    ap (λ (b : Bool). cond b (Some k) (find p ks)) (All-head (λ (x : Key). p x ≡ false) k ks none)
    ∙ find-none p ks (All-tail (λ (x : Key). p x ≡ false) k ks none)

pub instance-there : (q : ReaderQos) (h : List Happening) (handle place : ℕ) (i : Key)
    → slice_get (known_instances q h) place ≡ Some i → handle_of q h i ≡ handle → Some i ≡ instance_of q h handle
instance-there q h zero place i there is =
    let ks : List Key = known_instances q h in
    let within : place < length ks = slice_get_within ks place i there in
    let above : 1 ≤ handle_of q h (get_or ks place i) =
    rising-each (handle_of q h) 1 (1 + lives_begun q h) ks (handles-rise q h) place i within in
    let same : handle_of q h (get_or ks place i) ≡ handle_of q h i =
    ap (λ (x : Key). handle_of q h x) (get_or_from_slice_get ks place i i there) in
    absurd (omega (arith, above, same, is))
instance-there q h (suc n) place i there is =
    sym (ap (λ (m : ℕ). find (λ k. handle_of q h k == m) (known_instances q h)) (sym is)
    ∙ find-rising (handle_of q h) 1 (1 + lives_begun q h) place (known_instances q h) i (handles-rise q h) there)

-- where those before a place are below a number, the one there is not, and does not have it, none has it
rising-none : (f : Key → ℕ) (a b n place : ℕ) (ks : List Key) → 1 ≤ a → IsRising f a b ks
    → All (λ (k : Key). f k ≤ n - 1) (take place ks) → IfSome (slice_get ks place) (λ k. n - 1 < f k)
    → IfSome (slice_get ks place) (λ k. (f k == n) ≡ false) → All (λ (k : Key). (f k == n) ≡ false) ks
rising-none f a b n place [] some rising before above other = All-nil (λ (k : Key). (f k == n) ≡ false)
rising-none f a b n zero (k ∷ ks) some rising before above other =
    All-cons (λ (x : Key). (f x == n) ≡ false) k ks other
    (All-weaker (λ (x : Key). f k + 1 ≤ f x) (λ (x : Key). (f x == n) ≡ false)
    (λ x later. ne_eqb (f x) n (λ same. omega (arith, above, later, same))) ks (rising-each f (f k + 1) b ks rising.2))
rising-none f a b n (suc place) (k ∷ ks) some rising before above other =
    let low : f k ≤ n - 1 = All-head (λ (x : Key). f x ≤ n - 1) k (take place ks) before in
    All-cons (λ (x : Key). (f x == n) ≡ false) k ks
    (ne_eqb (f k) n (λ same. omega (arith, low, some, rising.0, same)))
    (rising-none f (f k + 1) b n place ks (omega arith) rising.2
    (All-tail (λ (x : Key). f x ≤ n - 1) k (take place ks) before) above other)

-- likewise of handles
pub none-there : (q : ReaderQos) (h : List Happening) (handle place : ℕ)
    → All (λ (i : Key). handle_of q h i ≤ handle - 1) (take place (known_instances q h))
    → IfSome (slice_get (known_instances q h) place) (λ i. handle - 1 < handle_of q h i)
    → IfSome (slice_get (known_instances q h) place) (λ i. (handle_of q h i == handle) ≡ false)
    → All (λ (i : Key). (handle_of q h i == handle) ≡ false) (known_instances q h)
none-there q h handle place before above other =
    rising-none (handle_of q h) 1 (1 + lives_begun q h) handle place (known_instances q h) (omega arith)
    (handles-rise q h) before above other

pub no-instance : (q : ReaderQos) (h : List Happening) (handle : ℕ)
    → All (λ (i : Key). (handle_of q h i == handle) ≡ false) (known_instances q h) → None ≡ instance_of q h handle
no-instance q h zero none = refl
no-instance q h (suc n) none = sym (find-none (λ i. handle_of q h i == suc n) (known_instances q h) none)

-- ---- what is kept of it

key-at : (q : ReaderQos) (h : List Happening) (ts : List InstanceTrack) (place : ℕ) (t : InstanceTrack) → Follows q h ts
    → slice_get ts place ≡ Some t
    → (slice_get (known_instances q h) place ≡ Some t.key) × (handle_of q h t.key ≡ t.handle)
key-at q h ts place t follows is = (
  sym (instance-at q h ts place follows) ∙ ap (λ (o : Option InstanceTrack). option_map key_of o) is,
  sym (at-place (λ (x : InstanceTrack). x.handle ≡ handle_of q h x.key) ts place t (handle-at q h ts follows) is),
)

pub kept-there : (q : ReaderQos) (h : List Happening) (ts : List InstanceTrack) (handle place : ℕ) (t : InstanceTrack)
    → Follows q h ts → slice_get ts place ≡ Some t → t.handle ≡ handle → Some t.key ≡ instance_of q h handle
kept-there q h ts handle place t follows is same =
    let there = key-at q h ts place t follows is in instance-there q h handle place t.key there.0 (there.1 ∙ same)

pub none-kept : (q : ReaderQos) (h : List Happening) (ts : List InstanceTrack) (handle below place : ℕ)
    → Follows q h ts → below ≡ handle - 1
    → All (λ (i : Key). handle_of q h i ≤ below) (take place (known_instances q h))
    → IfSome (slice_get (known_instances q h) place) (λ i. below < handle_of q h i)
    → IfSome (slice_get ts place) (λ (t : InstanceTrack). t.handle ≢ handle) → None ≡ instance_of q h handle
none-kept q h ts handle below place follows is before above other =
    no-instance q h handle (none-there q h handle place
    (subst (λ (n : ℕ). All (λ (i : Key). handle_of q h i ≤ n) (take place (known_instances q h))) is before)
    (subst (λ (n : ℕ). IfSome (slice_get (known_instances q h) place) (λ i. n < handle_of q h i)) is above)
    (subst (λ (o : Option Key). IfSome o (λ i. (handle_of q h i == handle) ≡ false)) (instance-at q h ts place follows)
    (one (slice_get ts place) refl other)))
  where
    one : (o : Option InstanceTrack) → slice_get ts place ≡ o → IfSome o (λ (t : InstanceTrack). t.handle ≢ handle)
        → IfSome (option_map key_of o) (λ i. (handle_of q h i == handle) ≡ false)
    one None is differs = tt
    one (Some t) is differs =
        ne_eqb (handle_of q h t.key) handle (λ same. differs (sym (key-at q h ts place t follows is).1 ∙ same))
