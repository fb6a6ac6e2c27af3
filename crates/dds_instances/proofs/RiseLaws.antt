-- The handles of the known instances rise, and no two are the same.
use Rattle.std.proofs.Common.{◌≡◌, ℕ, ◌+◌, ◌≤◌, ◌<◌, List, [], ◌∷◌, ◌++◌, filter, length, Bool, true, false, not, ◌||◌, sym, ap, ◌∙◌, refl, subst, cond, arith, ⊎_elim}
use Rattle.std.specs.Prelude.{if◌then◌else◌}
use Rattle.std.specs.List.{list_any, All, AllByRecursion, IsDistinct}
use Rattle.std.proofs.lemmas.Bool.{cases_Bool}
use Rattle.std.proofs.lemmas.List.{append-nil}
use Rattle.std.proofs.lemmas.List.Elements.{All-cons, All-nil, All-weaker, filter-append}
use Rattle.std.proofs.lemmas.Map.Keys.{IsDistinct-cons}
use Rattle.dds_base.specs.declared.key.Key.{Key}
use Rattle.dds_base.specs.declared.happening.Arrival.{Arrival}
use Rattle.dds_base.specs.declared.happening.Happening.{Happening}
use Rattle.dds_base.specs.declared.happening.Happening.TheVariants.{Came, Passed, Heard, Died, Left, Joined, Read, Took, Looked}
use Rattle.dds_base.specs.declared.qos.ReaderQos.{ReaderQos}
use Rattle.dds_base.specs.Access.{handle_of, lives_begun}
use Rattle.dds_base.specs.Happening.{same_key}
use Rattle.dds_base.specs.Instance.{introduced_by, introduces, is_known, known_instances}
use Rattle.dds_base.proofs.KeyLaws.{key-same, same_key-refl}
use Rattle.dds_base.proofs.LifeLaws.{handle-kept}
use Rattle.dds_instances.proofs.KnownLaws.{known}

pub or-right : (a b : Bool) → b ≡ true → (a || b) ≡ true
or-right true b is = refl
or-right false b is = is

-- the numbers of some keys rise, from a on and below b
abbrev pub IsRising : (Key → ℕ) → ℕ → ℕ → List Key → Type 0
IsRising f a b [] = Unit
IsRising f a b (k ∷ ks) = (a ≤ f k) × (f k < b) × IsRising f (f k + 1) b ks

rising-lower : (f : Key → ℕ) (a c b : ℕ) (ks : List Key) → c ≤ a → IsRising f a b ks → IsRising f c b ks
rising-lower f a c b [] less rising = tt
rising-lower f a c b (k ∷ ks) less rising = (omega (arith, less, rising.0), rising.1, rising.2)

pub rising-upper : (f : Key → ℕ) (a b c : ℕ) (ks : List Key) → b ≤ c → IsRising f a b ks → IsRising f a c ks
rising-upper f a b c [] more rising = tt
rising-upper f a b c (k ∷ ks) more rising =
    (rising.0, omega (arith, more, rising.1), rising-upper f (f k + 1) b c ks more rising.2)

-- those that pass rise by another numbering that agrees on them
pub rising-passing : (f g : Key → ℕ) (p : Key → Bool) (a b : ℕ) (ks : List Key)
    → ((i : Key) → list_any (λ k. same_key k i) ks ≡ true → p i ≡ true → g i ≡ f i) → IsRising f a b ks
    → IsRising g a b (filter p ks)
rising-passing f g p a b [] agree rising = tt
rising-passing f g p a b (k ∷ ks) agree rising =
    let rest : IsRising g (f k + 1) b (filter p ks) =
    rising-passing f g p (f k + 1) b ks
    (λ i there. agree i (or-right (same_key k i) (list_any (λ x. same_key x i) ks) there)) rising.2 in
    ⊎_elim
    (λ passes. let is : g k ≡ f k =
    agree k (ap (λ (b : Bool). b || list_any (λ x. same_key x k) ks) (same_key-refl k)) passes in
    subst (λ (b' : Bool). IsRising g a b (cond b' (k ∷ filter p ks) (filter p ks))) (sym passes) (
      omega (arith, is, rising.0),
      omega (arith, is, rising.1),
      subst (λ (n : ℕ). IsRising g (n + 1) b (filter p ks)) (sym is) rest,
    ))
    (λ fails. subst (λ (b' : Bool). IsRising g a b (cond b' (k ∷ filter p ks) (filter p ks))) (sym fails)
    (rising-lower g (f k + 1) a b (filter p ks) (omega (arith, rising.0)) rest))
    (cases_Bool (p k))

-- one more, with the next number
pub rising-push : (f : Key → ℕ) (a b : ℕ) (ks : List Key) (k : Key) → a ≤ b → f k ≡ b → IsRising f a b ks
    → IsRising f a (b + 1) (ks ++ k ∷ [])
rising-push f a b [] k within is rising = (omega (arith, within, is), omega (arith, is), tt)
rising-push f a b (x ∷ ks) k within is rising = (
  rising.0,
  omega (arith, rising.1),
  rising-push f (f x + 1) b ks k (omega (arith, rising.1)) is rising.2,
)

-- the number of one of them is within the bounds
pub rising-within : (f : Key → ℕ) (a b : ℕ) (ks : List Key) (i : Key) → IsRising f a b ks
    → list_any (λ k. same_key k i) ks ≡ true → (a ≤ f i) × (f i < b)
rising-within f a b [] i rising there = absurd (let clash : false ≡ true = there in cc)
rising-within f a b (k ∷ ks) i rising there =
    ⊎_elim
    (λ same. let is : f k ≡ f i = ap f (key-same k i same) in
    (omega (arith, is, rising.0), omega (arith, is, rising.1)))
    (λ other. let rest = rising-within f (f k + 1) b ks i rising.2
    (sym (ap (λ (b : Bool). b || list_any (λ x. same_key x i) ks) other) ∙ there) in
    (omega (arith, rest.0, rising.0), rest.1))
    (cases_Bool (same_key k i))

-- one with a smaller number is none of them
apart-rising : (f : Key → ℕ) (a b : ℕ) (x : Key) (ks : List Key) → f x < a → IsRising f a b ks
    → AllByRecursion (λ y. same_key x y ≡ false) ks
apart-rising f a b x [] below rising = tt
apart-rising f a b x (y ∷ ks) below rising = (
  ⊎_elim
      (λ same. let is : f x ≡ f y = ap f (key-same x y same) in absurd (omega (arith, is, below, rising.0)))
      (λ other. other)
      (cases_Bool (same_key x y)),
  apart-rising f (f y + 1) b x ks (omega (arith, below, rising.0)) rising.2,
)

distinct-nil : IsDistinct same_key []
unfolding IsDistinct
distinct-nil = tt

pub rising-distinct : (f : Key → ℕ) (a b : ℕ) (ks : List Key) → IsRising f a b ks → IsDistinct same_key ks
rising-distinct f a b [] rising = distinct-nil
rising-distinct f a b (k ∷ ks) rising =
    IsDistinct-cons same_key k ks (apart-rising f (f k + 1) b k ks (omega arith) rising.2)
    (rising-distinct f (f k + 1) b ks rising.2)

pub rising-each : (f : Key → ℕ) (a b : ℕ) (ks : List Key) → IsRising f a b ks → All (λ (k : Key). a ≤ f k) ks
rising-each f a b [] rising = All-nil (λ (k : Key). a ≤ f k)
rising-each f a b (k ∷ ks) rising =
    All-cons (λ (x : Key). a ≤ f x) k ks rising.0
    (All-weaker (λ (x : Key). f k + 1 ≤ f x) (λ (x : Key). a ≤ f x) (λ x is. omega (arith, is, rising.0)) ks
    (rising-each f (f k + 1) b ks rising.2))

-- ---- the handles of the known instances

-- those that were known, and still are, have the handles that they had
rise-still : (q : ReaderQos) (e : Happening) (h : List Happening)
    → IsRising (handle_of q h) 1 (1 + lives_begun q h) (known_instances q h)
    → IsRising (handle_of q (e ∷ h)) 1 (1 + lives_begun q h) (filter (is_known q (e ∷ h)) (known_instances q h))
rise-still q e h before =
    rising-passing (handle_of q h) (handle_of q (e ∷ h)) (is_known q (e ∷ h)) 1 (1 + lives_begun q h)
    (known_instances q h) (λ i there lives. handle-kept q i h e lives (sym (known q h i) ∙ there)) before

rise-none : (q : ReaderQos) (e : Happening) (h : List Happening) → introduced_by q h e ≡ []
    → IsRising (handle_of q h) 1 (1 + lives_begun q h) (known_instances q h)
    → IsRising (handle_of q (e ∷ h)) 1 (1 + lives_begun q (e ∷ h)) (known_instances q (e ∷ h))
rise-none q e h none before =
    subst (λ (ks : List Key). IsRising (handle_of q (e ∷ h)) 1 (1 + (lives_begun q h + length ks))
    (filter (is_known q (e ∷ h)) (known_instances q h ++ ks))) (sym none)
    (subst (λ (ks : List Key). IsRising (handle_of q (e ∷ h)) 1 (1 + (lives_begun q h + 0))
    (filter (is_known q (e ∷ h)) ks)) (sym (append-nil (known_instances q h)))
    (rising-upper (handle_of q (e ∷ h)) 1 (1 + lives_begun q h) (1 + (lives_begun q h + 0))
    (filter (is_known q (e ∷ h)) (known_instances q h)) (omega arith) (rise-still q e h before)))

rise-one : (q : ReaderQos) (a : Arrival) (h : List Happening)
    → IsRising (handle_of q h) 1 (1 + lives_begun q h) (known_instances q h)
    → introduces q a.change.key h (Came a) ≡ true
    → IsRising (handle_of q (Came a ∷ h)) 1 (1 + lives_begun q (Came a ∷ h)) (known_instances q (Came a ∷ h))
rise-one q a h before new =
    let g : List Happening = Came a ∷ h in
    let x : Key = a.change.key in
    let old : List Key = filter (is_known q g) (known_instances q h) in
    let still : IsRising (handle_of q g) 1 (1 + lives_begun q h) old = rise-still q (Came a) h before in
    let begun : lives_begun q g ≡ lives_begun q h + 1 =
    ap (λ (b : Bool). lives_begun q h + length (cond b (x ∷ []) [])) new in
    subst (λ (b : Bool). IsRising (handle_of q g) 1 (1 + (lives_begun q h + length (cond b (x ∷ []) [])))
    (filter (is_known q g) (known_instances q h ++ cond b (x ∷ []) []))) (sym new)
    (subst (λ (ks : List Key). IsRising (handle_of q g) 1 (1 + (lives_begun q h + 1)) ks)
    (sym (filter-append (is_known q g) (known_instances q h) (x ∷ [])))
    (⊎_elim
    (λ lives. subst (λ (b : Bool). IsRising (handle_of q g) 1 (1 + (lives_begun q h + 1)) (old ++ cond b (x ∷ []) []))
    (sym lives) (rising-upper (handle_of q g) 1 (1 + lives_begun q h + 1) (1 + (lives_begun q h + 1)) (old ++ x ∷ [])
    (omega arith) (rising-push (handle_of q g) 1 (1 + lives_begun q h) old x (omega arith)
    (let number : handle_of q g x ≡ lives_begun q g =
    ap (λ (b : Bool). if not b then 0 else (if introduces q x h (Came a) then lives_begun q g else handle_of q h x)) lives
    ∙ ap (λ (b : Bool). if b then lives_begun q g else handle_of q h x) new in omega (arith, number, begun)) still)))
    (λ gone. subst (λ (b : Bool). IsRising (handle_of q g) 1 (1 + (lives_begun q h + 1)) (old ++ cond b (x ∷ []) []))
    (sym gone) (subst (λ (ks : List Key). IsRising (handle_of q g) 1 (1 + (lives_begun q h + 1)) ks)
    (sym (append-nil old)) (rising-upper (handle_of q g) 1 (1 + lives_begun q h) (1 + (lives_begun q h + 1)) old
    (omega arith) still)))
    (cases_Bool (is_known q g x))))

-- they rise, from 1 to the number of lives that have begun
pub handles-rise : (q : ReaderQos) (h : List Happening)
    → IsRising (handle_of q h) 1 (1 + lives_begun q h) (known_instances q h)
handles-rise q [] = tt
handles-rise q (Came a ∷ h) =
    ⊎_elim (rise-one q a h (handles-rise q h))
    (λ old. rise-none q (Came a) h (ap (λ (b : Bool). cond b (a.change.key ∷ []) []) old) (handles-rise q h))
    (cases_Bool (introduces q a.change.key h (Came a)))
handles-rise q (Passed w first last ∷ h) = rise-none q (Passed w first last) h refl (handles-rise q h)
handles-rise q (Heard w m ∷ h) = rise-none q (Heard w m) h refl (handles-rise q h)
handles-rise q (Died w m ∷ h) = rise-none q (Died w m) h refl (handles-rise q h)
handles-rise q (Left w m ∷ h) = rise-none q (Left w m) h refl (handles-rise q h)
handles-rise q (Joined m ∷ h) = rise-none q (Joined m) h refl (handles-rise q h)
handles-rise q (Read s ∷ h) = rise-none q (Read s) h refl (handles-rise q h)
handles-rise q (Took s ∷ h) = rise-none q (Took s) h refl (handles-rise q h)
handles-rise q (Looked k ∷ h) = rise-none q (Looked k) h refl (handles-rise q h)

pub known-distinct : (q : ReaderQos) (h : List Happening) → IsDistinct same_key (known_instances q h)
known-distinct q h =
    rising-distinct (handle_of q h) 1 (1 + lives_begun q h) (known_instances q h) (handles-rise q h)

pub handle-bounds : (q : ReaderQos) (h : List Happening) (i : Key)
    → list_any (λ k. same_key k i) (known_instances q h) ≡ true
    → (1 ≤ handle_of q h i) × (handle_of q h i < 1 + lives_begun q h)
handle-bounds q h i there =
    rising-within (handle_of q h) 1 (1 + lives_begun q h) (known_instances q h) i (handles-rise q h) there
