-- The known instances after one more entry: which of them still are, and how many; where there are no fewer than
-- before, no life has ended.
use Rattle.std.proofs.Common.{◌≡◌, ℕ, ◌+◌, ◌-◌, ◌≤◌, List, [], ◌∷◌, ◌++◌, length, filter, Bool, true, false, not, ◌&&◌, ◌||◌, sym, ap, ◌∙◌, refl, cond, Option, Some, None, arith, suc, ⊎_elim}
use Rattle.std.specs.Prelude.{if◌then◌else◌, is_some}
use Rattle.std.specs.List.{list_any, AllByRecursion, IsDistinct}
use Rattle.std.proofs.lemmas.Bool.{cases_Bool, and_parts}
use Rattle.std.proofs.lemmas.List.{length-append, append-nil}
use Rattle.std.proofs.lemmas.List.Elements.{filter-append}
use Rattle.std.proofs.lemmas.List.Sums.{count_by-le-length, length-filter}
use Rattle.dds_base.specs.declared.key.Key.{Key}
use Rattle.dds_base.specs.declared.change.ChangeKind.{ChangeKind}
use Rattle.dds_base.specs.declared.happening.Arrival.{Arrival}
use Rattle.dds_base.specs.declared.happening.Happening.{Happening}
use Rattle.dds_base.specs.declared.happening.Happening.TheVariants.{Came, Passed, Heard, Died, Left, Joined, Read, Took, Looked}
use Rattle.dds_base.specs.declared.qos.ReaderQos.{ReaderQos}
use Rattle.dds_base.specs.declared.happening.SamplePosition.{SamplePosition}
use Rattle.dds_base.specs.Happening.{same_key, taken_by}
use Rattle.dds_base.specs.Instance.{introduced_by, introduces, is_known, known_instances}
use Rattle.dds_base.specs.Life.{or_else, last_accepted, ends_life}
use Rattle.dds_base.specs.Ownership.{accepted_kind, registered_writers}
use Rattle.dds_base.proofs.KeyLaws.{key-same, same_key-comm, same_key-refl}
use Rattle.dds_base.proofs.LifeLaws.{accepted-other, quiet-goes-on}
use Rattle.dds_instances.specs.Track.{one_if}
use Rattle.dds_instances.proofs.KnownLaws.{known}
use Rattle.dds_instances.proofs.RiseLaws.{known-distinct, or-right}
use Rattle.std.proofs.lemmas.Map.Keys.{IsDistinct-head, IsDistinct-tail}
use Rattle.dds_cache.proofs.PresenceLaws.{writers-other}

-- ---- when an instance is known

-- no life of a known instance has ended just now
pub known-lives : (q : ReaderQos) (e : Happening) (h : List Happening) (i : Key) → is_known q (e ∷ h) i ≡ true
    → ends_life q i h e ≡ false
known-lives q e h i lives =
    ⊎_elim
    (λ over. absurd (let clash : false ≡ true =
    sym (ap (λ (b : Bool). is_some (if b then None else or_else (accepted_kind q i h e) (last_accepted q i h))) over)
    ∙ lives in cc))
    (λ goes_on. goes_on)
    (cases_Bool (ends_life q i h e))

-- where its life goes on, it is known if it was, or if something of it is accepted
pub known-next : (q : ReaderQos) (e : Happening) (h : List Happening) (i : Key) → ends_life q i h e ≡ false
    → is_known q (e ∷ h) i ≡ (is_known q h i || is_some (accepted_kind q i h e))
known-next q e h i goes_on =
    ap (λ (b : Bool). is_some (if b then None else or_else (accepted_kind q i h e) (last_accepted q i h))) goes_on
    ∙ either (accepted_kind q i h e) (last_accepted q i h)
  where
    either : (a b : Option ChangeKind) → is_some (or_else a b) ≡ (is_some b || is_some a)
    either None None = refl
    either None (Some y) = refl
    either (Some x) None = refl
    either (Some x) (Some y) = refl

pub still-known : (q : ReaderQos) (e : Happening) (h : List Happening) (i : Key) → ends_life q i h e ≡ false
    → is_known q h i ≡ true → is_known q (e ∷ h) i ≡ true
still-known q e h i goes_on known =
    known-next q e h i goes_on ∙ ap (λ (b : Bool). b || is_some (accepted_kind q i h e)) known

-- an entry that says nothing of i, and takes nothing of it, leaves it known
pub still-quiet : (q : ReaderQos) (e : Happening) (h : List Happening) (i : Key) → accepted_kind q i h e ≡ None
    → registered_writers q i (e ∷ h) ≡ registered_writers q i h
    → list_any (λ (s : SamplePosition). same_key s.key i) (taken_by e) ≡ false → is_known q h i ≡ true
    → is_known q (e ∷ h) i ≡ true
still-quiet q e h i none same untaken known =
    still-known q e h i (quiet-goes-on q i h e none same untaken known) known

-- a change of another instance leaves i known
pub known-other : (q : ReaderQos) (a : Arrival) (h : List Happening) (i : Key) → same_key a.change.key i ≡ false
    → is_known q h i ≡ true → is_known q (Came a ∷ h) i ≡ true
known-other q a h i other known =
    still-quiet q (Came a) h i (accepted-other q i h a other) (writers-other q a h i other) refl known

-- ---- how many are known

-- no more pass than there are
pub short : (p : Key → Bool) (ks : List Key) → length (filter p ks) ≤ length ks
short p ks = let count = length-filter p ks in let few = count_by-le-length p ks in omega (arith, count, few)

-- where no fewer pass, each does
all-pass : (p : Key → Bool) (ks : List Key) (i : Key) → length ks ≤ length (filter p ks)
    → list_any (λ k. same_key k i) ks ≡ true → p i ≡ true
all-pass p [] i many there = absurd (let clash : false ≡ true = there in cc)
all-pass p (k ∷ ks) i many there =
    ⊎_elim
    (λ passes. ⊎_elim
    (λ same. ap p (sym (key-same k i same)) ∙ passes)
    (λ other. all-pass p ks i
    (more (p k) k (length ks) (filter p ks) passes many)
    (sym (ap (λ (b : Bool). b || list_any (λ x. same_key x i) ks) other) ∙ there))
    (cases_Bool (same_key k i)))
    (λ fails. absurd (fewer p k ks fails many))
    (cases_Bool (p k))
  where
    more : (b : Bool) (k : Key) (n : ℕ) (xs : List Key) → b ≡ true → suc n ≤ length (cond b (k ∷ xs) xs)
        → n ≤ length xs
    more true k n xs is many = omega (arith, many)
    more false k n xs is many = absurd (let clash : false ≡ true = is in cc)

    fewer : (p : Key → Bool) (k : Key) (ks : List Key) → p k ≡ false → length (k ∷ ks) ≤ length (filter p (k ∷ ks)) → ⊥
    fewer p k ks fails many =
        let none : length (filter p (k ∷ ks)) ≡ length (filter p ks) =
        ap (λ (b : Bool). length (cond b (k ∷ filter p ks) (filter p ks))) fails in
        let few : length (filter p ks) ≤ length ks = short p ks in
        omega (arith, many, none, few)

-- where an entry makes none known, and no fewer are known, each still is
no-fewer : (q : ReaderQos) (e : Happening) (h : List Happening) (i : Key) → introduced_by q h e ≡ []
    → length (known_instances q h) ≤ length (known_instances q (e ∷ h)) → is_known q h i ≡ true
    → is_known q (e ∷ h) i ≡ true
no-fewer q e h i none many is =
    let whole : known_instances q h ++ introduced_by q h e ≡ known_instances q h =
    ap (λ (ks : List Key). known_instances q h ++ ks) none ∙ append-nil (known_instances q h) in
    let same : length (known_instances q (e ∷ h)) ≡ length (filter (is_known q (e ∷ h)) (known_instances q h)) =
    ap (λ (ks : List Key). length (filter (is_known q (e ∷ h)) ks)) whole in
    all-pass (is_known q (e ∷ h)) (known_instances q h) i (omega (arith, many, same)) (known q h i ∙ is)

-- where no fewer instances are known than before, each that was still is
pub still-known-by : (q : ReaderQos) (e : Happening) (h : List Happening) (i : Key)
    → length (known_instances q h) ≤ length (known_instances q (e ∷ h)) → is_known q h i ≡ true
    → is_known q (e ∷ h) i ≡ true
still-known-by q (Came a) h i many is =
    ⊎_elim
    (λ new. known-other q a h i (⊎_elim
    (λ same. absurd (let old : is_known q h a.change.key ≡ true =
    ap (λ (x : Key). is_known q h x) (key-same a.change.key i same) ∙ is in
    let fresh : not (is_known q h a.change.key) ≡ true =
    (and_parts (not (is_known q h a.change.key)) (is_some (accepted_kind q a.change.key h (Came a))) new).0 in
    let clash : false ≡ true = sym (ap (λ (b : Bool). not b) old) ∙ fresh in cc))
    (λ other. other)
    (cases_Bool (same_key a.change.key i))) is)
    (λ old. no-fewer q (Came a) h i (ap (λ (b : Bool). cond b (a.change.key ∷ []) []) old) many is)
    (cases_Bool (introduces q a.change.key h (Came a)))
still-known-by q (Passed w first last) h i many is = no-fewer q (Passed w first last) h i refl many is
still-known-by q (Heard w m) h i many is = no-fewer q (Heard w m) h i refl many is
still-known-by q (Died w m) h i many is = no-fewer q (Died w m) h i refl many is
still-known-by q (Left w m) h i many is = no-fewer q (Left w m) h i refl many is
still-known-by q (Joined m) h i many is = no-fewer q (Joined m) h i refl many is
still-known-by q (Read s) h i many is = no-fewer q (Read s) h i refl many is
still-known-by q (Took s) h i many is = no-fewer q (Took s) h i refl many is
still-known-by q (Looked k) h i many is = no-fewer q (Looked k) h i refl many is

-- ---- how many are known after a change

apart-none : (k : Key) (ks : List Key) → AllByRecursion (λ y. same_key k y ≡ false) ks
    → list_any (λ x. same_key x k) ks ≡ false
apart-none k [] apart = refl
apart-none k (x ∷ ks) apart =
    ap (λ (b : Bool). b || list_any (λ y. same_key y k) ks) (same_key-comm x k ∙ apart.0) ∙ apart-none k ks apart.1

-- where each passes, all are left
filter-whole : (p : Key → Bool) (ks : List Key)
    → ((k : Key) → list_any (λ x. same_key x k) ks ≡ true → p k ≡ true) → filter p ks ≡ ks
filter-whole p [] pass = refl
filter-whole p (k ∷ ks) pass =
    ap (λ (b : Bool). cond b (k ∷ filter p ks) (filter p ks))
    (pass k (ap (λ (b : Bool). b || list_any (λ x. same_key x k) ks) (same_key-refl k)))
    ∙ ap (λ (xs : List Key). k ∷ xs)
    (filter-whole p ks (λ y there. pass y (or-right (same_key k y) (list_any (λ x. same_key x y) ks) there)))

-- where each other one passes, one alone may be missing
filter-one : (p : Key → Bool) (i : Key) (ks : List Key) → IsDistinct same_key ks
    → list_any (λ x. same_key x i) ks ≡ true
    → ((k : Key) → list_any (λ x. same_key x k) ks ≡ true → same_key i k ≡ false → p k ≡ true)
    → length (filter p ks) + 1 ≡ length ks + one_if (p i)
filter-one p i [] distinct there pass = absurd (let clash : false ≡ true = there in cc)
filter-one p i (k ∷ ks) distinct there pass =
    ⊎_elim
    (λ same. let is : k ≡ i = key-same k i same in
    let rest : filter p ks ≡ ks = filter-whole p ks (λ y among. pass y
    (or-right (same_key k y) (list_any (λ x. same_key x y) ks) among) (⊎_elim
    (λ equal. absurd (let none : list_any (λ x. same_key x k) ks ≡ false =
    apart-none k ks (IsDistinct-head same_key k ks distinct) in
    let clash : true ≡ false = sym among
    ∙ (ap (λ (z : Key). list_any (λ x. same_key x z) ks) (sym (key-same i y equal) ∙ sym is) ∙ none) in cc))
    (λ other. other)
    (cases_Bool (same_key i y)))) in
    ap (λ (xs : List Key). length (cond (p k) (k ∷ xs) xs) + 1) rest
    ∙ (own (p k) k ks ∙ ap (λ (x : Key). length (k ∷ ks) + one_if (p x)) is))
    (λ other. let passes : p k ≡ true =
    pass k (ap (λ (b : Bool). b || list_any (λ x. same_key x k) ks) (same_key-refl k)) (same_key-comm i k ∙ other) in
    let rest = filter-one p i ks (IsDistinct-tail same_key k ks distinct)
    (sym (ap (λ (b : Bool). b || list_any (λ x. same_key x i) ks) other) ∙ there)
    (λ y among. pass y (or-right (same_key k y) (list_any (λ x. same_key x y) ks) among)) in
    ap (λ (b : Bool). length (cond b (k ∷ filter p ks) (filter p ks)) + 1) passes ∙ omega (arith, rest))
    (cases_Bool (same_key k i))
  where
    own : (b : Bool) (k : Key) (xs : List Key) → length (cond b (k ∷ xs) xs) + 1 ≡ length (k ∷ xs) + one_if b
    own true k xs = omega arith
    own false k xs = omega arith

-- an instance of which something is accepted is known then, unless its life ends
pub known-accepted : (q : ReaderQos) (e : Happening) (h : List Happening) (i : Key)
    → is_some (accepted_kind q i h e) ≡ true → is_known q (e ∷ h) i ≡ not (ends_life q i h e)
known-accepted q e h i accepted =
    ⊎_elim
    (λ over. ap (λ (b : Bool). is_some (if b then None else or_else (accepted_kind q i h e) (last_accepted q i h))) over
    ∙ sym (ap (λ (b : Bool). not b) over))
    (λ goes_on. known-next q e h i goes_on
    ∙ (or-right (is_known q h i) (is_some (accepted_kind q i h e)) accepted ∙ sym (ap (λ (b : Bool). not b) goes_on)))
    (cases_Bool (ends_life q i h e))

-- an accepted change leaves the other instances, and its own unless its life ends
pub instances-after : (q : ReaderQos) (a : Arrival) (h : List Happening) (others : ℕ)
    → is_some (accepted_kind q a.change.key h (Came a)) ≡ true
    → others ≡ (if is_known q h a.change.key then length (known_instances q h) - 1 else length (known_instances q h))
    → length (known_instances q (Came a ∷ h)) ≡ others + one_if (not (ends_life q a.change.key h (Came a)))
instances-after q a h others accepted is =
    let i : Key = a.change.key in
    let p : Key → Bool = is_known q (Came a ∷ h) in
    let ks : List Key = known_instances q h in
    let own : p i ≡ not (ends_life q i h (Came a)) = known-accepted q (Came a) h i accepted in
    ⊎_elim
    (λ old. let none : introduced_by q h (Came a) ≡ [] =
    ap (λ (b : Bool). cond (not b && is_some (accepted_kind q i h (Came a))) (i ∷ []) []) old in
    let whole : ks ++ introduced_by q h (Came a) ≡ ks = ap (λ (xs : List Key). ks ++ xs) none ∙ append-nil ks in
    let count : length (filter p ks) + 1 ≡ length ks + one_if (p i) =
    filter-one p i ks (known-distinct q h) (known q h i ∙ old)
    (λ k there other. known-other q a h k other (sym (known q h k) ∙ there)) in
    let before : others ≡ length ks - 1 = is ∙ ap (λ (b : Bool). if b then length ks - 1 else length ks) old in
    let one : one_if (p i) ≡ one_if (not (ends_life q i h (Came a))) = ap (λ (b : Bool). one_if b) own in
    let some : 1 ≤ length ks = there-some ks i (known q h i ∙ old) in
    ap (λ (xs : List Key). length (filter p xs)) whole ∙ omega (arith, count, before, one, some))
    (λ new. let named : introduced_by q h (Came a) ≡ i ∷ [] =
    ap (λ (b : Bool). cond (not b && is_some (accepted_kind q i h (Came a))) (i ∷ []) []) new
    ∙ ap (λ (b : Bool). cond b (i ∷ []) []) accepted in
    let rest : filter p ks ≡ ks = filter-whole p ks (λ k there. known-other q a h k (⊎_elim
    (λ same. absurd (let clash : true ≡ false = sym (sym (known q h k) ∙ there)
    ∙ (ap (λ (x : Key). is_known q h x) (sym (key-same i k same)) ∙ new) in cc))
    (λ other. other)
    (cases_Bool (same_key i k))) (sym (known q h k) ∙ there)) in
    let before : others ≡ length ks = is ∙ ap (λ (b : Bool). if b then length ks - 1 else length ks) new in
    ap (λ (xs : List Key). length (filter p (ks ++ xs))) named
    ∙ (ap length (filter-append p ks (i ∷ []))
    ∙ (length-append (filter p ks) (filter p (i ∷ []))
    ∙ (ap (λ (xs : List Key). length xs + length (filter p (i ∷ []))) rest
    ∙ (ap (λ (n : ℕ). n + length (filter p (i ∷ []))) (sym before)
    ∙ (ap (λ (n : ℕ). others + n) (single (p i) i) ∙ ap (λ (b : Bool). others + one_if b) own))))))
    (cases_Bool (is_known q h i))
  where
    single : (b : Bool) (k : Key) → length (cond b (k ∷ []) []) ≡ one_if b
    single true k = omega arith
    single false k = omega arith

    there-some : (ks : List Key) (i : Key) → list_any (λ k. same_key k i) ks ≡ true → 1 ≤ length ks
    there-some [] i there = absurd (let clash : false ≡ true = there in cc)
    there-some (k ∷ ks) i there = omega arith
