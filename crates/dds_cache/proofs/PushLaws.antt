-- What is kept holds on where samples that are no longer present are marked as gone: those of an instance before the first
-- of its writes that stays are all that a change pushed out.
use Rattle.std.proofs.Common.{◌≡◌, ◌≢◌, ℕ, ◌+◌, ◌≤◌, ◌<◌, List, [], ◌∷◌, ◌++◌, length, map, filter, get_or, set, Bool, true, false, ◌&&◌, not, sym, ap, ◌∙◌, refl, subst, cond, arith, zero, suc, ⊎_elim, inl, inr, None}
use Rattle.std.specs.Prelude.{nat_eq, nat_lt}
use Rattle.std.specs.List.{All}
use Rattle.std.proofs.lemmas.Bool.{and_from, and_parts, cases_Bool, eqb-true, eqb-false, ltb-true, ltb-false}
use Rattle.std.proofs.lemmas.List.{get_or-set_other, get_or-set_same, get_or_default}
use Rattle.std.proofs.lemmas.List.Elements.{All-set}
use Rattle.dds_base.specs.declared.key.Key.{Key}
use Rattle.dds_base.specs.declared.happening.SamplePosition.{SamplePosition}
use Rattle.dds_base.specs.declared.happening.Happening.{Happening}
use Rattle.dds_base.specs.declared.qos.ReaderQos.{ReaderQos}
use Rattle.dds_base.specs.declared.qos.HistoryQos.{HistoryQos}
use Rattle.dds_base.specs.declared.qos.HistoryQos.TheVariants.{KeepAll}
use Rattle.dds_base.specs.Happening.{as_of, same_key}
use Rattle.dds_base.specs.Instance.{instance_state_of}
use Rattle.dds_base.specs.Life.{ends_with_write, keeps, later_writes}
use Rattle.dds_base.specs.Presence.{is_present}
use Rattle.dds_base.proofs.KeyLaws.{key-same}
use Rattle.dds_instances.specs.Known.{IsKnown}
use Rattle.dds_instances.specs.Table.{Table}
use Rattle.dds_instances.specs.declared.known.KnownInstance.{KnownInstance}
use Rattle.dds_cache.specs.declared.kept.Kept.{Kept}
use Rattle.dds_cache.specs.Chains.{AreOthers, IsFirst}
use Rattle.dds_cache.specs.Finding.{Holds, HoldsBut, IsOfOrUpToDate, IsSmall}
use Rattle.dds_cache.specs.Kept.{Adds, IsKept, IsNewAt, IsOutAt, IsUpToDate, has_data, is_here, out_if, position_of, positions_in}
use Rattle.dds_cache.specs.Pushing.{IsLetAt}
use Rattle.dds_cache.proofs.ExactLaws.{behind, data-parts, order-set, present-write}
use Rattle.dds_cache.proofs.KeptLaws.{kept-let, kept-stated}

-- one sample in the place of another one leaves the positions, where it is the same sample
positions-set : (q : ReaderQos) (h : List Happening) (i : Key) (ks : List Kept) (place : ℕ) (k v : Kept)
    → place < length ks → k ≡ get_or ks place k → v.sample ≡ k.sample
    → positions_in q h i (set ks place v) ≡ positions_in q h i ks
positions-set q h i [] place k v within is same = absurd (omega (arith, within))
positions-set q h i (x ∷ ks) zero k v within is same =
    ap (λ (s : SamplePosition). map position_of (cond (same_key s.key i && is_present q h i s.position)
    (v ∷ filter (is_here q h i) ks) (filter (is_here q h i) ks))) (same ∙ ap (λ (y : Kept). y.sample) is)
    ∙ one (is_here q h i x)
  where
    one : (b : Bool) → map position_of (cond b (v ∷ filter (is_here q h i) ks) (filter (is_here q h i) ks))
        ≡ map position_of (cond b (x ∷ filter (is_here q h i) ks) (filter (is_here q h i) ks))
    one true = ap (λ (s : SamplePosition). s.position ∷ positions_in q h i ks) (same ∙ ap (λ (y : Kept). y.sample) is)
    one false = refl
positions-set q h i (x ∷ ks) (suc place) k v within is same =
    one (is_here q h i x) (positions-set q h i ks place k v (omega (arith, within)) is same)
  where
    one : (b : Bool) → positions_in q h i (set ks place v) ≡ positions_in q h i ks
        → map position_of (cond b (x ∷ filter (is_here q h i) (set ks place v))
        (filter (is_here q h i) (set ks place v)))
        ≡ map position_of (cond b (x ∷ filter (is_here q h i) ks) (filter (is_here q h i) ks))
    one true rest = ap (λ (ps : List ℕ). position_of x ∷ ps) rest
    one false rest = rest

-- what is so of the sample at a place is so of it whatever stands for a missing one, and the other way round
pub at-place : (P : Kept → Type 0) (ks : List Kept) (place : ℕ) (x d : Kept) → place < length ks → x ≡ get_or ks place x
    → P x → P (get_or ks place d)
at-place P ks place x d within is holds = subst P (is ∙ get_or_default ks place x d within) holds

pub placed-at : (P : Kept → Type 0) (ks : List Kept) (place : ℕ) (x d : Kept) → place < length ks → x ≡ get_or ks place x
    → P (get_or ks place d) → P x
placed-at P ks place x d within is holds = subst P (sym (is ∙ get_or_default ks place x d within)) holds

-- what holds of each holds of the one at a place
pub all-at : (P : Kept → Type 0) (ks : List Kept) (place : ℕ) (x : Kept) → place < length ks → x ≡ get_or ks place x
    → All P ks → P x
all-at P ks place x within is each = placed-at P ks place x x within is (each place x within)

-- what is kept holds on where a sample is marked as gone that is not present
holds-out : (q : ReaderQos) (table : Table) (h : List Happening) (i : Key) (ks new : List Kept) (place : ℕ)
    (value : List ℕ) → place < length ks → IsOutAt place ks value new
    → ((d : Kept) → IsKept q h (get_or ks place d)
    → is_present q h (get_or ks place d).sample.key (get_or ks place d).sample.position ≡ false)
    → HoldsBut q table ks h i → HoldsBut q table new h i
holds-out q table h i ks new place value within out absent holds =
    let k : Kept = out.before in
    let at : IsKept q h (get_or ks place k) = holds.each place k within in
    let kept : IsKept q h (out_if true k) = kept-let q h k (subst (λ (x : Kept). IsKept q h x) (sym out.before_is) at)
    (subst (λ (x : Kept). is_present q h x.sample.key x.sample.position ≡ false) (sym out.before_is) (absent k at)) in
    subst (λ (xs : List Kept). HoldsBut q table xs h i) (sym out.new_is) (record {
      instances = holds.instances;
      each = All-set (IsKept q h) ks place (out_if true k) kept holds.each;
      present = λ j. holds.present j
          ∙ sym (positions-set q h j ks place k (out_if true k) within out.before_is refl);
      in_order = order-set ks place k (out_if true k) within out.before_is refl holds.in_order;
      others = All-set (IsOfOrUpToDate q h i) ks place (out_if true k)
          (λ other filled. absurd (let clash : false ≡ true = filled in cc)) holds.others;
    })

-- so it does where the sample at a place is let go if it is past
pub holds-let : (q : ReaderQos) (table : Table) (h : List Happening) (known : KnownInstance) (i : Key)
    (ks new : List Kept) (place : ℕ) (stays : Bool) → place < length ks → IsKnown q h known
    → IsLetAt q known place ks stays new → HoldsBut q table ks h i → HoldsBut q table new h i
holds-let q table h known i ks new place stays within is_known goes holds =
    ⊎_elim
    (λ out. holds-out q table h i ks new place out.0 within out.1 (λ d kept. out.3 h d is_known kept) holds)
    (λ same. subst (λ (xs : List Kept). HoldsBut q table xs h i) (sym same.0) holds)
    goes

-- the counts of each can be added as before
pub small-let : (q : ReaderQos) (known : KnownInstance) (ks new : List Kept) (place : ℕ) (stays : Bool)
    → place < length ks → IsLetAt q known place ks stays new → All IsSmall ks → All IsSmall new
small-let q known ks new place stays within goes small =
    ⊎_elim
    (λ out. let k : Kept = out.1.before in
    subst (λ (xs : List Kept). All IsSmall xs) (sym out.1.new_is)
    (All-set IsSmall ks place (out_if true k) (subst IsSmall (sym out.1.before_is) (small place k within)) small))
    (λ same. subst (λ (xs : List Kept). All IsSmall xs) (sym same.0) small)
    goes

-- none of the samples of an instance before a place has data, but for those that are gone
abbrev pub AreNoneBefore : KnownInstance → List Kept → ℕ → Type 0
AreNoneBefore known ks place = (j : ℕ) (d : Kept) → j < place → j < length ks
    → same_key (get_or ks j d).sample.key known.key ≡ true → has_data (get_or ks j d) ≡ false

-- so where its first one stands there
pub none-first : (known : KnownInstance) (ks : List Kept) (first : ℕ) → IsFirst ks known.key first
    → AreNoneBefore known ks first
none-first known ks first begins j d before within own =
    ⊎_elim
    (λ out. ap (λ (b : Bool). not b && (get_or ks j d).valid_data) out)
    (λ stays. let le : first ≤ j = begins j d within (key-same (get_or ks j d).sample.key known.key own) stays in
    absurd (omega (arith, le, before)))
    (cases_Bool (get_or ks j d).is_out)

-- and so it is before the next one, where the one at the place does not stay
pub none-next : (q : ReaderQos) (known : KnownInstance) (ks new : List Kept) (place next : ℕ) → place < length ks
    → IsLetAt q known place ks false new → AreOthers new known.key place next → AreNoneBefore known ks place
    → AreNoneBefore known new next
none-next q known ks new place next within goes between none j d before inside own =
    ⊎_elim
    (λ at. let is : place ≡ j = eqb-true place j at in
    subst (λ (n : ℕ). has_data (get_or new n d) ≡ false) is
    (here goes (ap (λ (n : ℕ). same_key (get_or new n d).sample.key known.key) is ∙ own)))
    (λ apart. let other : place ≢ j = eqb-false place j apart in
    ⊎_elim
    (λ later. absurd (between j d (ltb-true place j later) before inside
    (key-same (get_or new j d).sample.key known.key own)))
    (λ earlier. let le : j ≤ place = ltb-false place j earlier in
    let same : get_or new j d ≡ get_or ks j d = unchanged goes (λ (is : j ≡ place). other (sym is)) in
    ap has_data same
    ∙ none j d (omega (arith, le, other)) (omega (arith, le, within))
    (ap (λ (k : Kept). same_key k.sample.key known.key) (sym same) ∙ own))
    (cases_Bool (nat_lt place j)))
    (cases_Bool (nat_eq place j))
  where
    here : IsLetAt q known place ks false new → same_key (get_or new place d).sample.key known.key ≡ true
        → has_data (get_or new place d) ≡ false
    here (inl out) mine =
        ap (λ (xs : List Kept). has_data (get_or xs place d)) out.1.new_is
        ∙ ap has_data (get_or-set_same ks place (out_if true out.1.before) d within)
    here (inr same) mine =
        ap (λ (xs : List Kept). has_data (get_or xs place d)) same.0
        ∙ sym (same.1 d ∙ ap (λ (b : Bool). b && has_data (get_or ks place d))
        (ap (λ (xs : List Kept). same_key (get_or xs place d).sample.key known.key) (sym same.0) ∙ mine))

    unchanged : IsLetAt q known place ks false new → (j ≡ place → ⊥) → get_or new j d ≡ get_or ks j d
    unchanged (inl out) other =
        ap (λ (xs : List Kept). get_or xs j d) out.1.new_is
        ∙ get_or-set_other ks place j (out_if true out.1.before) d other
    unchanged (inr same) other = ap (λ (xs : List Kept). get_or xs j d) same.0

-- what is kept holds whole where the samples of the instance are up to date too
holds-all : (q : ReaderQos) (table : Table) (h : List Happening) (i : Key) (ks : List Kept) → HoldsBut q table ks h i
    → ((j : ℕ) (d : Kept) → j < length ks → same_key (get_or ks j d).sample.key i ≡ true
    → IsUpToDate q h (get_or ks j d)) → Holds q table ks h
holds-all q table h i ks holds own = record {
  instances = holds.instances;
  each = holds.each;
  present = holds.present;
  in_order = holds.in_order;
  up_to_date = λ j d within. ⊎_elim (λ mine. own j d within mine) (λ other. holds.others j d within other)
      (cases_Bool (same_key (get_or ks j d).sample.key i));
}

-- so it does where none of them has data
pub holds-walked : (q : ReaderQos) (table : Table) (h : List Happening) (known : KnownInstance) (ks : List Kept)
    (place : ℕ) → length ks ≤ place → AreNoneBefore known ks place → HoldsBut q table ks h known.key
    → Holds q table ks h
holds-walked q table h known ks place whole none holds =
    holds-all q table h known.key ks holds
    (λ j d within mine filled. absurd (let clash : true ≡ false =
    sym filled ∙ none j d (omega (arith, within, whole)) within mine in cc))

-- and where those before a place have none, and the one that stands there stays
pub holds-stopped : (q : ReaderQos) (table : Table) (h : List Happening) (known : KnownInstance) (ks new : List Kept)
    (place : ℕ) → place < length ks → IsKnown q h known → IsLetAt q known place ks true new
    → AreNoneBefore known ks place → HoldsBut q table new h known.key → Holds q table new h
holds-stopped q table h known ks new place within is_known goes none holds =
    ⊎_elim
    (λ out. absurd (let clash : true ≡ false = out.2 in cc))
    (λ same. subst (λ (xs : List Kept). Holds q table xs h) (sym same.0)
    (stopped (subst (λ (xs : List Kept). HoldsBut q table xs h known.key) same.0 holds) same.1 same.2))
    goes
  where
    stopped : HoldsBut q table ks h known.key
        → ((d : Kept) → true ≡ (same_key (get_or ks place d).sample.key known.key && has_data (get_or ks place d)))
        → ((g : List Happening) (d : Kept) → IsKnown q g known → IsKept q g (get_or ks place d)
        → same_key (get_or ks place d).sample.key known.key ≡ true
        → is_present q g (get_or ks place d).sample.key (get_or ks place d).sample.position ≡ true)
        → Holds q table ks h
    stopped old told there = holds-all q table h known.key ks old (λ j d inside mine filled.
        let k : Kept = get_or ks place d in
        let kept : IsKept q h k = old.each place d within in
        let parts = and_parts (same_key k.sample.key known.key) (has_data k) (sym (told d)) in
        let present : is_present q h k.sample.key k.sample.position ≡ true = there h d is_known kept parts.0 in
        ⊎_elim
        (λ earlier. absurd (let clash : true ≡ false =
        sym filled ∙ none j d (ltb-true j place earlier) inside mine in cc))
        (λ later. let le : place ≤ j = ltb-false j place later in
        behind q h k (get_or ks j d) old.instances.follows.matched (old.each j d inside)
        (key-same (get_or ks j d).sample.key known.key mine ∙ sym (key-same k.sample.key known.key parts.0))
        (old.in_order place j d le inside)
        (and_from (is_present q h k.sample.key k.sample.position)
        (ends_with_write q k.sample.key (as_of k.sample.position h)) present (data-parts q h k kept parts.1).1) filled)
        (cases_Bool (nat_lt j place)))

-- a history that keeps all pushes none out
pub holds-keep_all : (q : ReaderQos) (table : Table) (h : List Happening) (i : Key) (ks : List Kept)
    → q.history ≡ KeepAll → HoldsBut q table ks h i → Holds q table ks h
holds-keep_all q table h i ks all holds =
    holds-all q table h i ks holds (λ j d within mine filled.
    let k : Kept = get_or ks j d in
    let parts = data-parts q h k (holds.each j d within) filled in
    present-write q h k.sample.key k.sample.position parts.0
    (and_from (ends_with_write q k.sample.key (as_of k.sample.position h))
    (keeps q.history (later_writes q h k.sample.key k.sample.position)) parts.1
    (ap (λ (history : HistoryQos). keeps history (later_writes q h k.sample.key k.sample.position)) all)))

-- where each is up to date, none is pushed out
pub holds-fresh : (q : ReaderQos) (table : Table) (h : List Happening) (i : Key) (ks : List Kept)
    → All (IsUpToDate q h) ks → HoldsBut q table ks h i → Holds q table ks h
holds-fresh q table h i ks up holds = holds-all q table h i ks holds (λ j d within mine. up j d within)

-- a sample that was added to none is up to date
pub alone-fresh : (q : ReaderQos) (e : Happening) (h : List Happening) (old new : List Kept)
    → old ≡ [] → Adds q e h old new → All (IsUpToDate q (e ∷ h)) new
alone-fresh q e h old new none adds = λ j d within filled.
    let are : new ≡ adds.added = adds.are ∙ ap (λ (ks : List Kept). ks ++ adds.added) none in
    let fresh : All (IsNewAt q (e ∷ h) (length h + 1)) new =
    subst (λ (ks : List Kept). All (IsNewAt q (e ∷ h) (length h + 1)) ks) (sym are) adds.new_are in
    let k : Kept = get_or new j d in
    let at = fresh j d within in
    subst (λ (n : ℕ). is_present q (e ∷ h) k.sample.key n ≡ true) (sym at.0) at.1

-- of an instance that is not known none is kept
pub holds-unknown : (q : ReaderQos) (table : Table) (h : List Happening) (i : Key) (ks : List Kept)
    → instance_state_of q i h ≡ None → HoldsBut q table ks h i → Holds q table ks h
holds-unknown q table h i ks none holds =
    holds-all q table h i ks holds (λ j d within mine filled.
    absurd (kept-stated q h (get_or ks j d) (holds.each j d within)
    (ap (λ (x : Key). instance_state_of q x h) (key-same (get_or ks j d).sample.key i mine) ∙ none)))
