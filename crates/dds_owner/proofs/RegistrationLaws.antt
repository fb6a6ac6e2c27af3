-- What is kept answers for the writers that are registered for an instance.
use Rattle.std.proofs.Common.{◌≡◌, ℕ, ◌+◌, ◌-◌, ◌<◌, List, [], ◌∷◌, ◌++◌, length, get_or, set, map, take, drop, Bool, true, false, not, ◌==◌, ◌&&◌, ◌||◌, sym, ap, ◌∙◌, refl, cond, arith, append_assoc, zero, suc, ◌≤◌, ⊎_elim, slice_get}
use Rattle.std.proofs.lemmas.Bool.{cases_Bool, cases_lt, eqb-true}
use Rattle.std.specs.Prelude.{if◌then◌else◌, nat_le, nat_lt}
use Rattle.std.proofs.lemmas.Bool.Decides.{nat_tests}
use Rattle.std.proofs.lemmas.List.{append-nil, length-map}
use Rattle.std.proofs.lemmas.List.Folds.{list_any-append}
use Rattle.std.specs.List.{filter, list_any}
use Rattle.dds_base.specs.declared.key.Key.{Key}
use Rattle.dds_base.specs.declared.change.ChangeKind.{ChangeKind}
use Rattle.dds_base.specs.declared.change.ChangeKind.TheVariants.{Write, Dispose, Unregister, DisposeUnregister}
use Rattle.dds_base.specs.declared.happening.Arrival.{Arrival}
use Rattle.dds_base.specs.declared.happening.Happening.{Happening}
use Rattle.dds_base.specs.declared.happening.Happening.TheVariants.{Came, Passed, Heard, Died, Left, Joined, Read, Took, Looked}
use Rattle.dds_base.specs.declared.qos.MatchedWriter.{MatchedWriter}
use Rattle.dds_base.specs.declared.qos.ReaderQos.{ReaderQos}
use Rattle.dds_base.specs.Happening.{is_write_or_dispose, is_unregister, same_key}
use Rattle.dds_base.specs.Ownership.{IsMatched, joined_in, numbered_from, publication_handles, is_registered, registered_writers, writers_of}
use Rattle.dds_base.proofs.JoinLaws.{not-its, other-one, with-joined}
use Rattle.dds_base.specs.Life.{is_nobody}
use Rattle.dds_base.proofs.KeyLaws.{same_key-refl}
use Rattle.dds_owner.specs.declared.registration.Registration.{Registration}
use Rattle.dds_owner.specs.Registration.{registration_of, is_there, is_there_at, is_there_in, has_writer, entered, unregistered, blank_registrations}
use Rattle.dds_owner.specs.Standing.{Kept, StandsFor, first_handles, has_writers, places_of}

-- ---- where nothing has come

-- one more writer of which nothing has come
pub blank-step : (k at n : ℕ) (done whole : List Registration) → at < n
    → done ++ blank_registrations k (n - at) ≡ whole
    → (done ++ unregistered k ∷ []) ++ blank_registrations (k + 1) (n - (at + 1)) ≡ whole
blank-step k at n done whole within is =
    let more : n - at ≡ suc (n - (at + 1)) = omega arith in
    append_assoc done (unregistered k ∷ []) (blank_registrations (k + 1) (n - (at + 1)))
    ∙ (ap (λ (m : ℕ). done ++ blank_registrations k m) (sym more) ∙ is)

pub length-blank : (k n : ℕ) → length (blank_registrations k n) ≡ n
length-blank k zero = refl
length-blank k (suc n) = ap suc (length-blank (k + 1) n)

pub blank-nobody : (k n : ℕ) → list_any is_there (blank_registrations k n) ≡ false
blank-nobody k zero = refl
blank-nobody k (suc n) = blank-nobody (k + 1) n

-- blank registrations are those of as many writers, where nobody is registered
pub blank-stands : (i : Key) (h : List Happening) (k n : ℕ) (writers : List MatchedWriter) → n ≤ length writers
    → ((w : ℕ) → is_registered i w h ≡ false)
    → blank_registrations k n ≡ map (registration_of i h) (numbered_from k (take n writers))
blank-stands i h k zero writers few nobody = refl
blank-stands i h k (suc n) [] few nobody = absurd (omega (arith, few))
blank-stands i h k (suc n) (w ∷ writers) few nobody =
    ap (λ (b : Bool). (record { writer = k; is_registered = b }) ∷ blank_registrations (k + 1) n) (sym (nobody k))
    ∙ ap (λ (rs : List Registration). registration_of i h k ∷ rs)
    (blank-stands i h (k + 1) n writers (omega (arith, few)) nobody)

-- ---- the first of the matched writers

count-first : (i : Key) (h : List Happening) (k n : ℕ) (ws : List MatchedWriter)
    → length (map (registration_of i h) (numbered_from k (take n ws))) ≤ length ws
count-first i h k zero ws = omega arith
count-first i h k (suc n) [] = omega arith
count-first i h k (suc n) (w ∷ ws) = let rest = count-first i h (k + 1) n ws in omega (arith, rest)

pub take-fewer : (n : ℕ) (ws : List MatchedWriter) → length (take n ws) ≤ length ws
take-fewer zero ws = omega arith
take-fewer (suc n) [] = omega arith
take-fewer (suc n) (w ∷ ws) = let rest = take-fewer n ws in omega (arith, rest)

pub take-all-of : (n : ℕ) (ws : List MatchedWriter) → n ≤ length ws → length (take n ws) ≡ n
take-all-of zero ws few = refl
take-all-of (suc n) [] few = absurd (omega (arith, few))
take-all-of (suc n) (w ∷ ws) few = ap suc (take-all-of n ws (omega (arith, few)))

-- there are places for no more writers than are matched
pub few-places : (kept : Kept) (q : ReaderQos) (i : Key) (h : List Happening) → StandsFor kept q i h
    → places_of kept ≤ length (writers_of q h)
few-places kept q i h given =
    let count = ap (λ (rs : List Registration). length rs) given.registrations_are in
    omega (arith, count, count-first i h 1 (places_of kept) (writers_of q h))

take-front : (n : ℕ) (ws : List MatchedWriter) (m : MatchedWriter) → n ≤ length ws → take n (ws ++ m ∷ []) ≡ take n ws
take-front zero ws m few = refl
take-front (suc n) [] m few = absurd (omega (arith, few))
take-front (suc n) (w ∷ ws) m few = ap (λ (xs : List MatchedWriter). w ∷ xs) (take-front n ws m (omega (arith, few)))

-- one entry more leaves them the first
pub first-on : (q : ReaderQos) (e : Happening) (h : List Happening) (n : ℕ) → n ≤ length (writers_of q h)
    → first_handles q (e ∷ h) n ≡ first_handles q h n
first-on q (Joined m) h n few =
    ap (λ (ws : List MatchedWriter). numbered_from 1 (take n ws)) (with-joined q h m)
    ∙ ap (λ (ws : List MatchedWriter). numbered_from 1 ws) (take-front n (writers_of q h) m few)
first-on q (Came a) h n few = refl
first-on q (Passed w first last) h n few = refl
first-on q (Heard w now) h n few = refl
first-on q (Died w now) h n few = refl
first-on q (Left w now) h n few = refl
first-on q (Read samples) h n few = refl
first-on q (Took samples) h n few = refl
first-on q (Looked kind) h n few = refl

-- where no other one passes a test, those that do are among the first
pub pass-first : (p : ℕ → Bool) (k n : ℕ) (ws : List MatchedWriter)
    → ((w : ℕ) → k + n ≤ w → w < k + length ws → p w ≡ false)
    → filter p (numbered_from k ws) ≡ filter p (numbered_from k (take n ws))
pass-first p k zero [] none = refl
pass-first p k zero (w ∷ ws) none =
    ap (λ (b : Bool). cond b (k ∷ filter p (numbered_from (k + 1) ws)) (filter p (numbered_from (k + 1) ws)))
    (none k (omega arith) (omega arith))
    ∙ pass-first p (k + 1) zero ws (λ v low high. none v (omega (arith, low)) (omega (arith, high)))
pass-first p k (suc n) [] none = refl
pass-first p k (suc n) (w ∷ ws) none =
    ap (λ (vs : List ℕ). cond (p k) (k ∷ vs) vs)
    (pass-first p (k + 1) n ws (λ v low high. none v (omega (arith, low)) (omega (arith, high))))

pub registered-first : (kept : Kept) (q : ReaderQos) (i : Key) (h : List Happening) → StandsFor kept q i h
    → registered_writers q i h ≡ filter (λ w. is_registered i w h) (first_handles q h (places_of kept))
registered-first kept q i h given =
    pass-first (λ w. is_registered i w h) 1 (places_of kept) (writers_of q h)
    (λ w low high. given.others w (omega (arith, low)))

-- ---- more places

none-from : (i : Key) (h : List Happening) (k n : ℕ) (ws : List MatchedWriter)
    → ((w : ℕ) → k ≤ w → is_registered i w h ≡ false)
    → map (registration_of i []) (numbered_from k (take n ws)) ≡ map (registration_of i h) (numbered_from k (take n ws))
none-from i h k zero ws none = refl
none-from i h k (suc n) [] none = refl
none-from i h k (suc n) (w ∷ ws) none =
    ap (λ (b : Bool). (record { writer = k; is_registered = b })
    ∷ map (registration_of i []) (numbered_from (k + 1) (take n ws))) (sym (none k (omega arith)))
    ∙ ap (λ (rs : List Registration). registration_of i h k ∷ rs)
    (none-from i h (k + 1) n ws (λ v low. none v (omega (arith, low))))

-- those of the first writers, and behind them those of others, none of whom is registered
pub places-more : (i : Key) (h : List Happening) (k n m : ℕ) (ws : List MatchedWriter) → n ≤ m
    → ((w : ℕ) → k + n ≤ w → is_registered i w h ≡ false)
    → map (registration_of i h) (numbered_from k (take n ws))
    ++ drop n (map (registration_of i []) (numbered_from k (take m ws)))
    ≡ map (registration_of i h) (numbered_from k (take m ws))
places-more i h k zero m ws more none = none-from i h k m ws (λ w low. none w (omega (arith, low)))
places-more i h k (suc n) zero ws more none = absurd (omega (arith, more))
places-more i h k (suc n) (suc m) [] more none = refl
places-more i h k (suc n) (suc m) (w ∷ ws) more none =
    ap (λ (rs : List Registration). registration_of i h k ∷ rs)
    (places-more i h (k + 1) n m ws (omega (arith, more)) (λ v low. none v (omega (arith, low))))

pub none-dropped : (n : ℕ) (rs : List Registration) → list_any is_there rs ≡ false → list_any is_there (drop n rs) ≡ false
none-dropped zero rs none = none
none-dropped (suc n) [] none = refl
none-dropped (suc n) (r ∷ rs) none = none-dropped n rs (later r.is_registered (list_any is_there rs) none)
  where
    later : (a b : Bool) → (a || b) ≡ false → b ≡ false
    later true b e = absurd cc
    later false b e = e

-- nobody more is registered by them
pub somebody-more : (rs xs : List Registration) (n : ℕ) → list_any is_there xs ≡ false
    → list_any is_there (rs ++ drop n xs) ≡ list_any is_there rs
somebody-more rs xs n none =
    list_any-append is_there rs (drop n xs)
    ∙ (ap (λ (b : Bool). list_any is_there rs || b) (none-dropped n xs none) ∙ or-none (list_any is_there rs))
  where
    or-none : (b : Bool) → (b || false) ≡ b
    or-none true = refl
    or-none false = refl

-- ---- one more entry

-- the registrations are the same where no registration changes
pub same-registrations : (i : Key) (h g : List Happening) (ws : List ℕ)
    → ((w : ℕ) → is_registered i w g ≡ is_registered i w h)
    → map (registration_of i g) ws ≡ map (registration_of i h) ws
same-registrations i h g [] same = refl
same-registrations i h g (w ∷ ws) same =
    ap (λ (b : Bool). (record { writer = w; is_registered = b }) ∷ map (registration_of i g) ws) (same w)
    ∙ ap (λ (rs : List Registration). registration_of i h w ∷ rs) (same-registrations i h g ws same)

-- what does not unregister is a write or a dispose
writes-or-ends : (kind : ChangeKind) → is_unregister kind ≡ false → is_write_or_dispose kind ≡ true
writes-or-ends Write e = refl
writes-or-ends Dispose e = refl
writes-or-ends Unregister e = absurd cc
writes-or-ends DisposeUnregister e = absurd cc

entered-one : (s x u d r : Bool) → s ≡ true → (u ≡ false → d ≡ true)
    → (if x then not u else r) ≡ (not ((s && x) && u) && (((s && x) && d) || r))
entered-one true true true d r its ends = refl
entered-one true true false d r its ends = ap (λ (b : Bool). b || r) (sym (ends refl))
entered-one true false u d r its ends = refl
entered-one false x u d r its ends = absurd cc

came-each : (h : List Happening) (a : Arrival) (ws : List ℕ)
    → map (entered (not (is_unregister a.change.kind)) a.writer) (map (registration_of a.change.key h) ws)
    ≡ map (registration_of a.change.key (Came a ∷ h)) ws
came-each h a [] = refl
came-each h a (v ∷ ws) =
    let k : Key = a.change.key in
    let kind : ChangeKind = a.change.kind in
    ap (λ (b : Bool). (record { writer = v; is_registered = b })
    ∷ map (entered (not (is_unregister kind)) a.writer) (map (registration_of k h) ws))
    (entered-one (same_key k k) (a.writer == v) (is_unregister kind) (is_write_or_dispose kind)
    (is_registered k v h)
    (same_key-refl k) (writes-or-ends kind))
    ∙ ap (λ (rs : List Registration). registration_of k (Came a ∷ h) v ∷ rs) (came-each h a ws)

-- the registrations that have taken a change up are those after it
pub came-registrations : (h : List Happening) (a : Arrival) (ws : List ℕ) (rs : List Registration)
    → rs ≡ map (registration_of a.change.key h) ws
    → map (entered (not (is_unregister a.change.kind)) a.writer) rs
    ≡ map (registration_of a.change.key (Came a ∷ h)) ws
came-registrations h a ws rs is =
    ap (λ (xs : List Registration). map (entered (not (is_unregister a.change.kind)) a.writer) xs) is
    ∙ came-each h a ws

-- there are as many places as before
pub as-many : (f : Registration → Registration) (rs xs : List Registration) → xs ≡ map f rs → length xs ≡ length rs
as-many f rs xs put = ap (λ (ys : List Registration). length ys) put ∙ length-map rs f

-- a change was entered of a writer that is registered after it, or is not
pub came-stands : (q : ReaderQos) (h : List Happening) (a : Arrival) (w : ℕ) (ends : Bool)
    (rs xs : List Registration) → rs ≡ map (registration_of a.change.key h) (first_handles q h (length rs))
    → a.writer ≡ w → is_unregister a.change.kind ≡ ends → xs ≡ map (entered (not ends) w) rs
    → xs ≡ map (registration_of a.change.key (Came a ∷ h)) (first_handles q (Came a ∷ h) (length xs))
came-stands q h a w ends rs xs is writer kind put =
    put
    ∙ (ap (λ (v : ℕ). map (entered (not ends) v) rs) (sym writer)
    ∙ (ap (λ (b : Bool). map (entered (not b) a.writer) rs) (sym kind)
    ∙ (came-registrations h a (first_handles q h (length rs)) rs is
    ∙ ap (λ (n : ℕ). map (registration_of a.change.key (Came a ∷ h)) (first_handles q h n))
    (sym (as-many (entered (not ends) w) rs xs put)))))

died-one : (x r : Bool) → (if x then false else r) ≡ (not x && r)
died-one true r = refl
died-one false r = refl

died-each : (i : Key) (h : List Happening) (w now : ℕ) (ws : List ℕ)
    → map (entered false w) (map (registration_of i h) ws) ≡ map (registration_of i (Died w now ∷ h)) ws
died-each i h w now [] = refl
died-each i h w now (v ∷ ws) =
    ap (λ (b : Bool). (record { writer = v; is_registered = b })
    ∷ map (entered false w) (map (registration_of i h) ws))
    (died-one (w == v) (is_registered i v h))
    ∙ ap (λ (rs : List Registration). registration_of i (Died w now ∷ h) v ∷ rs) (died-each i h w now ws)

-- the registrations that have taken a death up are those after it
pub died-stands : (q : ReaderQos) (i : Key) (h : List Happening) (w now : ℕ) (rs xs : List Registration)
    → rs ≡ map (registration_of i h) (first_handles q h (length rs)) → xs ≡ map (entered false w) rs
    → xs ≡ map (registration_of i (Died w now ∷ h)) (first_handles q (Died w now ∷ h) (length xs))
died-stands q i h w now rs xs is put =
    put
    ∙ (ap (λ (ys : List Registration). map (entered false w) ys) is
    ∙ (died-each i h w now (first_handles q h (length rs))
    ∙ ap (λ (n : ℕ). map (registration_of i (Died w now ∷ h)) (first_handles q h n))
    (sym (as-many (entered false w) rs xs put))))

-- whom a death leaves registered was so before
pub left-before : (w : ℕ) (rs : List Registration) → list_any is_there (map (entered false w) rs) ≡ true
    → list_any is_there rs ≡ true
left-before w (r ∷ rs) left =
    one (w == r.writer) r.is_registered (list_any is_there (map (entered false w) rs))
    (list_any is_there rs) (left-before w rs) left
  where
    one : (a b c d : Bool) → (c ≡ true → d ≡ true) → ((if a then false else b) || c) ≡ true → (b || d) ≡ true
    one a true c d rest e = refl
    one true false c d rest e = rest e
    one false false c d rest e = rest e
left-before w [] left = absurd (cc)

-- ---- whether anybody is registered

nobody-one : (b : Bool) (w : ℕ) (ws : List ℕ) (rest : Bool) → rest ≡ not (is_nobody ws)
    → (b || rest) ≡ not (is_nobody (cond b (w ∷ ws) ws))
nobody-one true w ws rest e = refl
nobody-one false w ws rest e = e

somebody-each : (i : Key) (h : List Happening) (ws : List ℕ)
    → list_any is_there (map (registration_of i h) ws) ≡ not (is_nobody (filter (λ w. is_registered i w h) ws))
somebody-each i h [] = refl
somebody-each i h (w ∷ ws) =
    nobody-one (is_registered i w h) w (filter (λ v. is_registered i v h) ws)
    (list_any is_there (map (registration_of i h) ws)) (somebody-each i h ws)

-- somebody is registered where a registration is there
pub somebody-there : (kept : Kept) (q : ReaderQos) (i : Key) (h : List Happening) → StandsFor kept q i h
    → has_writers kept ≡ not (is_nobody (registered_writers q i h))
somebody-there kept q i h given =
    ap (λ (xs : List Registration). list_any is_there xs) given.registrations_are
    ∙ (somebody-each i h (first_handles q h (places_of kept))
    ∙ ap (λ (ws : List ℕ). not (is_nobody ws)) (sym (registered-first kept q i h given)))

pub not-not : (b c : Bool) → b ≡ not c → c ≡ not b
not-not b true e = ap not (sym e)
not-not b false e = ap not (sym e)

-- nobody is registered where nobody is kept as registered
pub nobody-kept : (kept : Kept) (q : ReaderQos) (i : Key) (h : List Happening) → StandsFor kept q i h
    → is_nobody (registered_writers q i h) ≡ not (has_writers kept)
nobody-kept kept q i h given = not-not _ _ (somebody-there kept q i h given)

any-map : (f : Registration → Registration) (rs : List Registration)
    → list_any (λ r. is_there (f r)) rs ≡ list_any is_there (map f rs)
any-map f [] = refl
any-map f (r ∷ rs) = ap (λ (b : Bool). is_there (f r) || b) (any-map f rs)

-- who is not registered is so only by a change of its own that does not unregister
pub none-by : (s x u d r : Bool) → (u ≡ false → x ≡ false) → r ≡ false → (not ((s && x) && u) && (((s && x) && d) || r)) ≡ false
none-by s x true d r other gone = ends (s && x) d r gone
  where
    ends : (b d r : Bool) → r ≡ false → (not (b && true) && ((b && d) || r)) ≡ false
    ends true d r gone = refl
    ends false d r gone = gone
none-by s x false d r other gone = not-its s x false d r (other refl) gone

-- somebody is registered once a change came where a registration is there then, if its writer has a place, or unregisters,
-- or is not matched
pub somebody-left : (kept : Kept) (q : ReaderQos) (h : List Happening) (a : Arrival)
    → StandsFor kept q a.change.key h
    → (is_unregister a.change.kind ≡ false → places_of kept < a.writer → length (writers_of q h) < a.writer)
    → list_any (λ r. is_there (entered (not (is_unregister a.change.kind)) a.writer r)) kept.registrations
    ≡ not (is_nobody (registered_writers q a.change.key (Came a ∷ h)))
somebody-left kept q h a given placed =
    let i : Key = a.change.key in
    let n : ℕ = places_of kept in
    any-map (entered (not (is_unregister a.change.kind)) a.writer) kept.registrations
    ∙ (ap (λ (xs : List Registration). list_any is_there xs)
    (came-registrations h a (first_handles q h n) kept.registrations given.registrations_are)
    ∙ (somebody-each i (Came a ∷ h) (first_handles q h n)
    ∙ ap (λ (ws : List ℕ). not (is_nobody ws))
    (sym (pass-first (λ w. is_registered i w (Came a ∷ h)) 1 n (writers_of q h)
    (λ w low high. none-by (same_key i i) (a.writer == w) (is_unregister a.change.kind)
    (is_write_or_dispose a.change.kind) (is_registered i w h)
    (λ stays. apart w low high stays) (given.others w (omega (arith, low))))))))
  where
    apart : (w : ℕ) → 1 + places_of kept ≤ w → w < 1 + length (writers_of q h) → is_unregister a.change.kind ≡ false
        → (a.writer == w) ≡ false
    apart w low high stays = ⊎_elim
        (λ same. let is : a.writer ≡ w = eqb-true a.writer w same in
        let beyond = placed stays (omega (arith, is, low)) in absurd (omega (arith, is, high, beyond)))
        (λ other. other)
        (cases_Bool (a.writer == w))

-- of numbers among which one passes a test, somebody does
pub somebody-by : (p : ℕ → Bool) (w k : ℕ) (xs : List MatchedWriter) → p w ≡ true → k ≤ w → w < k + length xs
    → is_nobody (filter p (numbered_from k xs)) ≡ false
somebody-by p w k [] passes low high = absurd (omega (arith, low, high))
somebody-by p w k (x ∷ xs) passes low high =
    let rest : List ℕ = filter p (numbered_from (k + 1) xs) in
    ⊎_elim (λ here. ap (λ (b : Bool). is_nobody (cond b (k ∷ rest) rest)) here)
    (λ gone. ap (λ (b : Bool). is_nobody (cond b (k ∷ rest) rest)) gone
    ∙ somebody-by p w (k + 1) xs passes (above k w low (apart gone)) (omega (arith, high)))
    (cases_Bool (p k))
  where
    apart : p k ≡ false → (w ≡ k → ⊥)
    apart gone same = let clash : true ≡ false = sym passes ∙ (ap p same ∙ gone) in absurd cc

    above : (k w : ℕ) → k ≤ w → (w ≡ k → ⊥) → k + 1 ≤ w
    above k w low differ = grind (arith, low)

-- so a matched writer is registered once a change of it came that does not unregister
pub somebody-new : (q : ReaderQos) (h : List Happening) (a : Arrival) → is_unregister a.change.kind ≡ false → 0 < a.writer
    → a.writer ≤ length (writers_of q h) → is_nobody (registered_writers q a.change.key (Came a ∷ h)) ≡ false
somebody-new q h a stays low high =
    let i : Key = a.change.key in
    somebody-by (λ w. is_registered i w (Came a ∷ h)) a.writer 1 (writers_of q h)
    (sym (entered-one (same_key i i) (a.writer == a.writer) (is_unregister a.change.kind)
    (is_write_or_dispose a.change.kind) (is_registered i a.writer h) (same_key-refl i)
    (writes-or-ends a.change.kind))
    ∙ (ap (λ (b : Bool). if b then not (is_unregister a.change.kind) else is_registered i a.writer h) (itself a.writer)
    ∙ ap not stays))
    (omega (arith, low)) (omega (arith, high))
  where
    itself : (w : ℕ) → (w == w) ≡ true
    itself w = grind (arith, nat_tests)

-- ---- whether one writer is registered

pub has-none : (i : Key) (h : List Happening) (w : ℕ) (ws : List ℕ) → is_registered i w h ≡ false
    → has_writer w (map (registration_of i h) ws) ≡ false
has-none i h w [] none = refl
has-none i h w (v ∷ ws) none =
    ap (λ (b : Bool). b || has_writer w (map (registration_of i h) ws))
    (one-none (v == w) (is_registered i v h)
    (λ same. ap (λ (x : ℕ). is_registered i x h) (eqb-true v w same) ∙ none))
    ∙ has-none i h w ws none
  where
    one-none : (same is : Bool) → (same ≡ true → is ≡ false) → (same && is) ≡ false
    one-none true is e = e refl
    one-none false is e = refl

there-in : (i : Key) (h : List Happening) (k at : ℕ) (writers : List MatchedWriter) → at < length writers
    → is_there_in (slice_get (map (registration_of i h) (numbered_from k writers)) at) ≡ is_registered i (k + at) h
there-in i h k at [] within = absurd (omega arith)
there-in i h k zero (x ∷ writers) within = ap (λ (w : ℕ). is_registered i w h) (let same : k ≡ k + 0 = omega arith in same)
there-in i h k (suc at) (x ∷ writers) within =
    there-in i h (k + 1) at writers (omega arith)
    ∙ ap (λ (w : ℕ). is_registered i w h) (let same : k + 1 + at ≡ k + suc at = omega arith in same)

there-out : (i : Key) (h : List Happening) (k at : ℕ) (writers : List MatchedWriter) → length writers ≤ at
    → is_there_in (slice_get (map (registration_of i h) (numbered_from k writers)) at) ≡ false
there-out i h k at [] out = refl
there-out i h k zero (x ∷ writers) out = absurd (omega arith)
there-out i h k (suc at) (x ∷ writers) out = there-out i h (k + 1) at writers (omega arith)

none-in : (i : Key) (h : List Happening) (k at : ℕ) (writers : List MatchedWriter) → is_registered i (k + at) h ≡ false
    → is_there_in (slice_get (map (registration_of i h) (numbered_from k writers)) at) ≡ false
none-in i h k at [] gone = refl
none-in i h k zero (x ∷ writers) gone =
    ap (λ (w : ℕ). is_registered i w h) (let same : k ≡ k + 0 = omega arith in same) ∙ gone
none-in i h k (suc at) (x ∷ writers) gone =
    none-in i h (k + 1) at writers
    (ap (λ (w : ℕ). is_registered i w h) (let same : k + 1 + at ≡ k + suc at = omega arith in same) ∙ gone)

-- a matched writer has a registration, which says whether it is registered
pub has-matched : (kept : Kept) (q : ReaderQos) (i : Key) (h : List Happening) (w : ℕ) → IsMatched q h w
    → StandsFor kept q i h → is_there_at kept.registrations w ≡ is_registered i w h
has-matched kept q i h zero matched given = absurd (omega (arith, matched.0))
has-matched kept q i h (suc at) matched given =
    let n : ℕ = places_of kept in
    let some : length (take n (writers_of q h)) ≡ n = take-all-of n (writers_of q h) (few-places kept q i h given) in
    ap (λ (xs : List Registration). is_there_in (slice_get xs at)) given.registrations_are
    ∙ ⊎_elim
    (λ within. there-in i h 1 at (take n (writers_of q h)) (omega (arith, within, some))
    ∙ ap (λ (w : ℕ). is_registered i w h) (let same : 1 + at ≡ suc at = omega arith in same))
    (λ out. there-out i h 1 at (take n (writers_of q h)) (omega (arith, out, some))
    ∙ sym (given.others (suc at) (omega (arith, out))))
    (cases_lt at n)

pub other-than : (v w : ℕ) → (v ≡ w → ⊥) → (v == w) ≡ false
other-than v w differ =
    ⊎_elim (λ same. absurd (differ (eqb-true v w same))) (λ other. other) (cases_Bool (v == w))

none-at : (ws : List MatchedWriter) (i : Key) (h : List Happening) (w : ℕ) (rs : List Registration)
    → rs ≡ map (registration_of i h) (numbered_from 1 ws) → is_registered i w h ≡ false → is_there_at rs w ≡ false
none-at ws i h zero rs is gone = refl
none-at ws i h (suc at) rs is gone =
    ap (λ (xs : List Registration). is_there_in (slice_get xs at)) is
    ∙ none-in i h 1 at ws
    (ap (λ (w : ℕ). is_registered i w h) (let same : 1 + at ≡ suc at = omega arith in same) ∙ gone)

-- a writer that has a registration which says so is registered
pub there-registered : (ws : List MatchedWriter) (i : Key) (h : List Happening) (w : ℕ) (rs : List Registration)
    → rs ≡ map (registration_of i h) (numbered_from 1 ws) → is_there_at rs w ≡ true → is_registered i w h ≡ true
there-registered ws i h w rs is there =
    ⊎_elim (λ yes_it. yes_it)
    (λ not_it. absurd (let e : true ≡ false = sym there ∙ not_there not_it in cc))
    (cases_Bool (is_registered i w h))
  where
    not_there : is_registered i w h ≡ false → is_there_at rs w ≡ false
    not_there gone = none-at ws i h w rs is gone

-- of one that is not matched there is none
pub has-unmatched : (kept : Kept) (q : ReaderQos) (i : Key) (h : List Happening) (w : ℕ) → (IsMatched q h w → ⊥)
    → StandsFor kept q i h → is_there_at kept.registrations w ≡ false
has-unmatched kept q i h zero out given = refl
has-unmatched kept q i h (suc at) out given =
    let n : ℕ = places_of kept in
    let beyond : length (writers_of q h) ≤ at =
    outside at (length (writers_of q h)) (λ within. out (omega (arith, within), omega (arith, within))) in
    ap (λ (xs : List Registration). is_there_in (slice_get xs at)) given.registrations_are
    ∙ there-out i h 1 at (take n (writers_of q h)) (omega (arith, take-fewer n (writers_of q h), beyond))
  where
    outside : (a n : ℕ) → (a < n → ⊥) → n ≤ a
    outside a n not_within = omega arith

-- ---- the registrations of the first writers, put over those of more

put-next : (s d : List Registration) (i : ℕ) (x : Registration) → i < length s → length s ≤ length d → x ≡ get_or s i x
    → set (take i s ++ drop i d) i x ≡ take (suc i) s ++ drop (suc i) d
put-next [] d i x within few is = absurd (omega (arith, within))
put-next (y ∷ s) [] i x within few is = absurd (omega (arith, few))
put-next (y ∷ s) (e ∷ d) zero x within few is = ap (λ (r : Registration). r ∷ d) is
put-next (y ∷ s) (e ∷ d) (suc i) x within few is =
    ap (λ (rs : List Registration). y ∷ rs) (put-next s d i x (omega (arith, within)) (omega (arith, few)) is)

-- one more of them
pub put-one : (s d : List Registration) (i : ℕ) (x : Registration) → i < length s → length s ≤ length d → x ≡ get_or s i x
    → set (take i s ++ drop i d) i x ≡ take (i + 1) s ++ drop (i + 1) d
put-one s d i x within few is =
    put-next s d i x within few is
    ∙ ap (λ (n : ℕ). take n s ++ drop n d) (let same : suc i ≡ i + 1 = omega arith in same)
