-- The kept samples stand in the order in which they came, and each that has data and is not gone is present, as entries
-- come.
use Rattle.std.proofs.Common.{◌≡◌, ℕ, ◌+◌, ◌-◌, ◌≤◌, ◌<◌, List, [], ◌∷◌, ◌++◌, length, map, filter, get_or, set, Bool, true, false, ◌||◌, not, sym, ap, ◌∙◌, refl, subst, Option, arith, ⊎_elim}
use Rattle.std.specs.Prelude.{if◌then◌else◌, nat_le, nat_lt, nat_eq}
use Rattle.std.specs.List.{list_any, All}
use Rattle.std.specs.List.Sorted.{IsNonDecreasingBy}
use Rattle.std.proofs.lemmas.Bool.{and_from, and_parts, cases_Bool, eqb-true, eqb-false, leb-true, ltb-true, ltb-false, or_cases, or_from, or_left}
use Rattle.std.proofs.lemmas.List.{get_or-append_right, get_or-map, get_or-set_other, get_or-set_same, get_or_append_left, get_or_default, length-append, length-map, length-set}
use Rattle.std.proofs.lemmas.List.Kept.{IsNonDecreasingBy-filter}
use Rattle.std.proofs.lemmas.List.Elements.{All-append, All-filter, All-weaker}
use Rattle.dds_base.specs.declared.key.Key.{Key}
use Rattle.dds_base.specs.declared.change.ChangeKind.{ChangeKind}
use Rattle.dds_base.specs.declared.happening.Arrival.{Arrival}
use Rattle.dds_base.specs.declared.happening.Happening.{Happening}
use Rattle.dds_base.specs.declared.happening.Happening.TheVariants.{Came}
use Rattle.dds_base.specs.declared.qos.ReaderQos.{ReaderQos}
use Rattle.dds_base.specs.Happening.{as_of, is_taken, same_key, same_sample, taken_by}
use Rattle.dds_base.specs.Instance.{known_instances}
use Rattle.dds_base.specs.Life.{accepted_writes, ends_with_write, is_at, is_kept_write, is_write, keeps, last_marker, later_writes}
use Rattle.dds_base.specs.Ownership.{AreOfMatched, accepted_kind}
use Rattle.dds_base.specs.Presence.{is_present, marks}
use Rattle.dds_base.proofs.LifeLaws.{accepted-other, as_of-older}
use Rattle.dds_cache.specs.declared.kept.Kept.{Kept}
use Rattle.dds_cache.specs.Kept.{Adds, IsKept, IsNewAt, IsUpToDate, has_data, position_of, sample_at}
use Rattle.dds_cache.specs.Room.{is_present_write}
use Rattle.dds_cache.specs.Sweeping.{left_since, stays}
use Rattle.dds_cache.proofs.KeptLaws.{not-true}
use Rattle.dds_cache.proofs.MarkerLaws.{marker-unwritten, present-kept}
use Rattle.dds_cache.proofs.PresenceLaws.{count-grew, keeps-fewer, marker-older, present-reached, reached}

-- ---- a write behind one that is present is present

-- no fewer writes were accepted up to a later position
writes-grow : (q : ReaderQos) (i : Key) (h : List Happening) (j k : ℕ) → j ≤ k
    → accepted_writes q i (as_of j h) ≤ accepted_writes q i (as_of k h)
writes-grow q i [] j k le = omega arith
writes-grow q i (e ∷ h) j k le =
    ⊎_elim
    (λ older. let within : k ≤ length h = leb-true k (length h) older in
    let former : accepted_writes q i (as_of j (e ∷ h)) ≡ accepted_writes q i (as_of j h) =
    ap (λ (g : List Happening). accepted_writes q i g) (as_of-older e h j (omega (arith, within, le))) in
    let later : accepted_writes q i (as_of k (e ∷ h)) ≡ accepted_writes q i (as_of k h) =
    ap (λ (g : List Happening). accepted_writes q i g) (as_of-older e h k within) in
    omega (arith, former, later, writes-grow q i h j k le))
    (λ newer. let later : accepted_writes q i (as_of k (e ∷ h)) ≡ accepted_writes q i (e ∷ h) =
    ap (λ (b : Bool). accepted_writes q i (if b then as_of k h else e ∷ h)) newer in
    omega (arith, later, count-grew (λ g. accepted_writes q i g) (λ e g. omega arith) j (e ∷ h)))
    (cases_Bool (nat_le k (length h)))

-- the history that keeps a write keeps each that came after it
kept-behind : (q : ReaderQos) (g : List Happening) (i : Key) (j k : ℕ) → j ≤ k
    → ends_with_write q i (as_of k g) ≡ true → is_kept_write q g i j ≡ true → is_kept_write q g i k ≡ true
kept-behind q g i j k le write kept =
    let grew = writes-grow q i g j k le in
    and_from (ends_with_write q i (as_of k g)) (keeps q.history (later_writes q g i k)) write
    (keeps-fewer q.history (later_writes q g i k) (later_writes q g i j) (omega (arith, grew))
    (and_parts (ends_with_write q i (as_of j g)) (keeps q.history (later_writes q g i j)) kept).1)

-- a write that the history keeps is present, where no take returned it
pub present-write : (q : ReaderQos) (g : List Happening) (i : Key) (j : ℕ) → is_taken (sample_at i j) g ≡ false
    → is_kept_write q g i j ≡ true → is_present q g i j ≡ true
present-write q g i j untaken kept =
    and_from (not (is_taken (sample_at i j) g)) (is_kept_write q g i j || is_at (last_marker q i g) j)
    (ap (λ (b : Bool). not b) untaken)
    (or_left (is_kept_write q g i j) (is_at (last_marker q i g) j) kept)

-- no take returned a kept sample with data that is not gone, and it is of a write
pub data-parts : (q : ReaderQos) (h : List Happening) (k : Kept) → IsKept q h k → has_data k ≡ true
    → (is_taken k.sample h ≡ false) × (ends_with_write q k.sample.key (as_of k.sample.position h) ≡ true)
data-parts q h k kept filled =
    let parts = and_parts (not k.is_out) k.valid_data filled in
    (kept.in_is (not-true k.is_out parts.0), sym kept.is_of.valid_is ∙ parts.1)

pub behind : (q : ReaderQos) (g : List Happening) (j k : Kept) → AreOfMatched q g → IsKept q g k
    → k.sample.key ≡ j.sample.key → position_of j ≤ position_of k → is_present_write q g j ≡ true → has_data k ≡ true
    → is_present q g k.sample.key k.sample.position ≡ true
behind q g j k matched kept same le there filled =
    let parts = data-parts q g k kept filled in
    present-write q g k.sample.key k.sample.position parts.0
    (kept-behind q g k.sample.key j.sample.position k.sample.position le parts.1
    (ap (λ (i : Key). is_kept_write q g i j.sample.position) same
    ∙ present-kept q j.sample.key g matched j.sample.position there))

-- ---- a write stays present where no other one of its instance is accepted

-- a kept sample with data that is up to date is one that the history keeps
held : (q : ReaderQos) (h : List Happening) (k : Kept) → AreOfMatched q h → IsKept q h k → has_data k ≡ true
    → IsUpToDate q h k → is_kept_write q h k.sample.key k.sample.position ≡ true
held q h k matched kept filled up =
    present-kept q k.sample.key h matched k.sample.position
    (and_from (is_present q h k.sample.key k.sample.position)
    (ends_with_write q k.sample.key (as_of k.sample.position h)) (up filled) (data-parts q h k kept filled).1)

pub write-stays : (q : ReaderQos) (e : Happening) (h : List Happening) (k : Kept) → AreOfMatched q h → IsKept q h k
    → has_data k ≡ true → IsUpToDate q h k → list_any (same_sample k.sample) (taken_by e) ≡ false
    → is_write (accepted_kind q k.sample.key h e) ≡ false
    → is_present q (e ∷ h) k.sample.key k.sample.position ≡ true
write-stays q e h k matched kept filled up untaken unwritten =
    let i : Key = k.sample.key in
    let j : ℕ = k.sample.position in
    let older : as_of j (e ∷ h) ≡ as_of j h = as_of-older e h j kept.in_past in
    let parts = and_parts (ends_with_write q i (as_of j h)) (keeps q.history (later_writes q h i j))
    (held q h k matched kept filled up) in
    let none : accepted_writes q i (e ∷ h) ≡ accepted_writes q i h =
    ap (λ (b : Bool). accepted_writes q i h + (if b then 1 else 0)) unwritten ∙ omega arith in
    present-write q (e ∷ h) i j
    (or_from (list_any (same_sample k.sample) (taken_by e)) (is_taken k.sample h) untaken (data-parts q h k kept filled).0)
    (and_from (ends_with_write q i (as_of j (e ∷ h))) (keeps q.history (later_writes q (e ∷ h) i j))
    (ap (λ (g : List Happening). ends_with_write q i g) older ∙ parts.0)
    (ap (λ (n : ℕ). keeps q.history (n - accepted_writes q i (as_of j (e ∷ h)))) none
    ∙ (ap (λ (g : List Happening). keeps q.history (accepted_writes q i h - accepted_writes q i g)) older ∙ parts.1)))

-- ---- the order

pub order-map : (f : Kept → Kept) (ks : List Kept) → ((k : Kept) → position_of (f k) ≡ position_of k)
    → IsNonDecreasingBy position_of ks → IsNonDecreasingBy position_of (map f ks)
order-map f ks same order i j d le within =
    let len : length (map f ks) ≡ length ks = length-map ks f in
    let first : position_of (get_or (map f ks) i d) ≡ position_of (get_or ks i d) =
    ap position_of (get_or-map f ks i d d (omega (arith, len, le, within))) ∙ same (get_or ks i d) in
    let second : position_of (get_or (map f ks) j d) ≡ position_of (get_or ks j d) =
    ap position_of (get_or-map f ks j d d (omega (arith, len, within))) ∙ same (get_or ks j d) in
    omega (arith, first, second, order i j d le (omega (arith, len, within)))

position-set : (ks : List Kept) (place : ℕ) (k v : Kept) (j : ℕ) (d : Kept) → place < length ks
    → k ≡ get_or ks place k → position_of v ≡ position_of k
    → position_of (get_or (set ks place v) j d) ≡ position_of (get_or ks j d)
position-set ks place k v j d within is same =
    ⊎_elim
    (λ here. let at : place ≡ j = eqb-true place j here in
    ap (λ (n : ℕ). position_of (get_or (set ks place v) n d)) (sym at)
    ∙ (ap position_of (get_or-set_same ks place v d within)
    ∙ (same ∙ (ap position_of (is ∙ get_or_default ks place k d within)
    ∙ ap (λ (n : ℕ). position_of (get_or ks n d)) at))))
    (λ other. ap position_of (get_or-set_other ks place j v d (λ here. eqb-false place j other (sym here))))
    (cases_Bool (nat_eq place j))

pub order-set : (ks : List Kept) (place : ℕ) (k v : Kept) → place < length ks → k ≡ get_or ks place k
    → position_of v ≡ position_of k → IsNonDecreasingBy position_of ks → IsNonDecreasingBy position_of (set ks place v)
order-set ks place k v within is same order i j d le inside =
    let len : length (set ks place v) ≡ length ks = length-set ks place v in
    omega (
      arith,
      position-set ks place k v i d within is same,
      position-set ks place k v j d within is same,
      order i j d le (omega (arith, len, inside)),
    )

pub order-since : (q : ReaderQos) (g : List Happening) (before : ℕ) (ks : List Kept)
    → IsNonDecreasingBy position_of ks → IsNonDecreasingBy position_of (left_since q g before ks)
order-since q g before ks order =
    one (nat_lt (length (known_instances q g)) before)
  where
    one : (b : Bool) → IsNonDecreasingBy position_of (if b then filter (stays q g) ks else ks)
    one true = IsNonDecreasingBy-filter position_of (stays q g) ks order
    one false = order

-- those that an entry leaves come last
pub order-added : (q : ReaderQos) (e : Happening) (h : List Happening) (left new : List Kept) → Adds q e h left new
    → All (λ (k : Kept). position_of k ≤ length h) left → IsNonDecreasingBy position_of left
    → IsNonDecreasingBy position_of new
order-added q e h left new adds past order =
    subst (λ (ks : List Kept). IsNonDecreasingBy position_of ks) (sym adds.are) joined
  where
    newest : (j : ℕ) (d : Kept) → length left ≤ j → j < length (left ++ adds.added)
        → position_of (get_or (left ++ adds.added) j d) ≡ length h + 1
    newest j d behind_left within =
        let len : length (left ++ adds.added) ≡ length left + length adds.added = length-append left adds.added in
        ap position_of (get_or-append_right left adds.added (length left) j d refl behind_left)
        ∙ (adds.new_are (j - length left) d (omega (arith, len, within, behind_left))).0

    older : (j : ℕ) (d : Kept) → j < length left
        → position_of (get_or (left ++ adds.added) j d) ≡ position_of (get_or left j d)
    older j d before = ap position_of (get_or_append_left left adds.added d j before)

    joined : IsNonDecreasingBy position_of (left ++ adds.added)
    joined i j d le within =
        ⊎_elim
        (λ second. let before : j < length left = ltb-true j (length left) second in
        omega (arith, older i d (omega (arith, before, le)), older j d before, order i j d le before))
        (λ second. let after : length left ≤ j = ltb-false j (length left) second in
        ⊎_elim
        (λ first. let before : i < length left = ltb-true i (length left) first in
        let low : position_of (get_or left i d) ≤ length h = past i d before in
        omega (arith, older i d before, low, newest j d after within))
        (λ first. let both : length left ≤ i = ltb-false i (length left) first in
        omega (arith, newest i d both (omega (arith, le, within)), newest j d after within))
        (cases_Bool (nat_lt i (length left))))
        (cases_Bool (nat_lt j (length left)))

-- ---- each of those that are left, and of those that are added

pub since-each : (P : Kept → Type 0) (q : ReaderQos) (g : List Happening) (before : ℕ) (ks : List Kept) → All P ks
    → All P (left_since q g before ks)
since-each P q g before ks all = one (nat_lt (length (known_instances q g)) before)
  where
    one : (b : Bool) → All P (if b then filter (stays q g) ks else ks)
    one true = All-filter (stays q g) P ks all
    one false = all

-- what an entry leaves is present
pub new-up-to-date : (q : ReaderQos) (g : List Happening) (n : ℕ) (k : Kept) → IsNewAt q g n k → IsUpToDate q g k
new-up-to-date q g n k new filled = ap (λ (j : ℕ). is_present q g k.sample.key j) new.0 ∙ new.1

pub added-each : (P : Kept → Type 0) (q : ReaderQos) (e : Happening) (h : List Happening) (left new : List Kept)
    → Adds q e h left new → ((k : Kept) → IsUpToDate q (e ∷ h) k → P k) → All P left → All P new
added-each P q e h left new adds from all =
    subst (λ (ks : List Kept). All P ks) (sym adds.are)
    (All-append P left adds.added all
    (All-weaker (IsNewAt q (e ∷ h) (length h + 1)) P
    (λ k is. from k (new-up-to-date q (e ∷ h) (length h + 1) k is)) adds.added adds.new_are))

-- after a change a write of another instance stays present
pub other-stays : (q : ReaderQos) (a : Arrival) (h : List Happening) (k : Kept) → AreOfMatched q h → IsKept q h k
    → IsUpToDate q h k → same_key a.change.key k.sample.key ≡ false → IsUpToDate q (Came a ∷ h) k
other-stays q a h k matched kept up other = λ filled.
    write-stays q (Came a) h k matched kept filled up refl
    (ap (λ (kind : Option ChangeKind). is_write kind) (accepted-other q k.sample.key h a other))

-- and one of its own instance does behind another one that does
pub after-behind : (q : ReaderQos) (a : Arrival) (h : List Happening) (j k : Kept) → AreOfMatched q h → IsKept q h j
    → IsKept q h k → k.sample.key ≡ j.sample.key → position_of j ≤ position_of k
    → is_present_write q (Came a ∷ h) j ≡ true → has_data k ≡ true → is_present_write q (Came a ∷ h) k ≡ true
after-behind q a h j k matched former kept same le there filled =
    let g : List Happening = Came a ∷ h in
    let i : Key = j.sample.key in
    let m : ℕ = j.sample.position in
    let n : ℕ = k.sample.position in
    let parts = data-parts q h k kept filled in
    let both = and_parts (is_present q g i m) (ends_with_write q i (as_of m g)) there in
    let write : ends_with_write q i (as_of m h) ≡ true =
    ap (λ (x : List Happening). ends_with_write q i x) (sym (as_of-older (Came a) h m former.in_past)) ∙ both.1 in
    let reaches = and_parts (not (is_taken (sample_at i m) g)) (is_kept_write q g i m || is_at (reached q i h (Came a)) m)
    (sym (present-reached q (Came a) h i m (omega (arith, former.in_past))) ∙ both.0) in
    let held : is_kept_write q g i m ≡ true = ⊎_elim (λ is. is)
    (λ at. absurd (let clash : true ≡ false = sym write ∙ marker-unwritten q i h matched m
    (and_parts (not (marks q i h (Came a))) (is_at (last_marker q i h) m)
    (sym (marker-older q (Came a) h i m former.in_past) ∙ at)).1 in cc))
    (or_cases (is_kept_write q g i m) (is_at (reached q i h (Came a)) m) reaches.1) in
    let written : ends_with_write q k.sample.key (as_of n g) ≡ true =
    ap (λ (x : List Happening). ends_with_write q k.sample.key x) (as_of-older (Came a) h n kept.in_past) ∙ parts.1 in
    and_from (is_present q g k.sample.key n) (ends_with_write q k.sample.key (as_of n g))
    (present-write q g k.sample.key n parts.0
    (kept-behind q g k.sample.key m n le written (ap (λ (x : Key). is_kept_write q g x m) same ∙ held))) written
