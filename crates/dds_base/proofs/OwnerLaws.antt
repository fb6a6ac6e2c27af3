-- The owner among registered writers: there is one, it is the only one, and the definition that computes finds it.
use Rattle.std.proofs.Common.{◌≡◌, ◌≢◌, ℕ, zero, suc, ◌+◌, ◌<◌, ◌≤◌, List, [], ◌∷◌, length, get_or, Bool, true, false, IsTrue, ◌==◌, ◌||◌, Option, Some, None, IsSome, ◌⊎◌, inl, inr, ⊎_elim, refl, sym, ap, subst, ◌∙◌, cond, arith, eqb-true, slice_get}
use Rattle.std.specs.Prelude.{find, Contains}
use Rattle.std.specs.List.{filter, list_any, list_all}
use Rattle.std.specs.Option.{option_map}
use Rattle.std.specs.Cmp.{IsTotalOrder}
use Rattle.std.specs.Cmp.Lexicographic.{slice_cmp}
use Rattle.std.specs.Ordering.{nat_cmp, int_cmp, is_gt, ordering_then, ordering_reverse}
use Rattle.std.specs.declared.cmp.Ordering.{Ordering}
use Rattle.std.specs.declared.cmp.Ordering.TheVariants.{Less, Equal, Greater}
use Rattle.std.proofs.lemmas.Cmp.{nat_list_cmp_total, int_cmp_total, on_total, then_total, back_total}
use Rattle.std.proofs.lemmas.Map.Lookups.{exact_bytes}
use Rattle.std.proofs.lemmas.Bool.Decides.{nat_tests}
use Rattle.std.proofs.lemmas.Bool.{cases_Bool, and_parts, and_from, or_left, or_right, or_cases, eqb-false}
use Rattle.dds_base.specs.declared.key.Key.{Key}
use Rattle.dds_base.specs.declared.guid.Guid.{Guid}
use Rattle.dds_base.specs.declared.happening.Happening.{Happening}
use Rattle.dds_base.specs.declared.qos.MatchedWriter.{MatchedWriter}
use Rattle.dds_base.specs.declared.qos.ReaderQos.{ReaderQos}
use Rattle.dds_base.specs.Ownership.{numbered_from, IsMatched, is_registered, registered_writers, guid_cmp, Precedence, writer_cmp, precedence, precedence_of, writer_of, writers_of, is_above, outranks, outranks_all, IsOwner, owner_of, HaveOwnGuids}

-- ---- the order of writers

guid_total : IsTotalOrder guid_cmp
guid_total =
    then_total (on_total (λ (g : Guid). g.prefix.0) nat_list_cmp_total)
    (on_total (λ (g : Guid). g.entity.0) nat_list_cmp_total)

pub writer_total : IsTotalOrder writer_cmp
writer_total =
    then_total (on_total (λ (w : Precedence). w.strength) int_cmp_total)
    (back_total (on_total (λ (w : Precedence). w.guid) guid_total))

greater : (o : Ordering) → is_gt o ≡ true → o ≡ Greater
greater Less e = cc
greater Equal e = cc
greater Greater e = refl

reversed : (o p : Ordering) → o ≡ ordering_reverse p → o ≡ Greater → p ≡ Less
reversed o Less is e = refl
reversed o Equal is e = cc
reversed o Greater is e = cc

above-trans : (a b c : Precedence) → is_gt (writer_cmp a b) ≡ true → is_gt (writer_cmp b c) ≡ true
    → is_gt (writer_cmp a c) ≡ true
above-trans a b c ab bc =
    let ba : writer_cmp b a ≡ Less =
    reversed (writer_cmp a b) (writer_cmp b a) (writer_total.antisymm a b) (greater (writer_cmp a b) ab) in
    let cb : writer_cmp c b ≡ Less =
    reversed (writer_cmp b c) (writer_cmp c b) (writer_total.antisymm b c) (greater (writer_cmp b c) bc) in
    let ca : writer_cmp c a ≡ Less = writer_total.trans c b a cb ba in
    ap is_gt (writer_total.antisymm a c ∙ ap ordering_reverse ca)

above-one_way : (a b : Precedence) → is_gt (writer_cmp a b) ≡ true → is_gt (writer_cmp b a) ≡ true → ⊥
above-one_way a b ab ba =
    let less : writer_cmp b a ≡ Less =
    reversed (writer_cmp a b) (writer_cmp b a) (writer_total.antisymm a b) (greater (writer_cmp a b) ab) in
    let more : writer_cmp b a ≡ Greater = greater (writer_cmp b a) ba in
    let clash : Less ≡ Greater = sym less ∙ more in
    cc

then-equal : (o p : Ordering) → ordering_then o p ≡ Equal → (o ≡ Equal) × (p ≡ Equal)
then-equal Less p e = absurd cc
then-equal Equal p e = (refl, e)
then-equal Greater p e = absurd cc

guid-exact : (a b : Guid) → guid_cmp a b ≡ Equal → a ≡ b
guid-exact a b e =
    let parts = then-equal (slice_cmp nat_cmp a.prefix.0 b.prefix.0) (slice_cmp nat_cmp a.entity.0 b.entity.0) e in
    let prefix : a.prefix.0 ≡ b.prefix.0 = exact_bytes a.prefix.0 b.prefix.0 parts.0 in
    let entity : a.entity.0 ≡ b.entity.0 = exact_bytes a.entity.0 b.entity.0 parts.1 in
    ap (λ (xs : List ℕ). record { prefix = record { 0 = xs }; entity = a.entity }) prefix
    ∙ ap (λ (xs : List ℕ). record { prefix = b.prefix; entity = record { 0 = xs } }) entity

-- two writers with GUIDs of their own: one outranks the other
above-either : (a b : Precedence) (o : Ordering) → writer_cmp a b ≡ o → (a.guid ≡ b.guid → ⊥)
    → (is_gt (writer_cmp a b) ≡ true) ⊎ (is_gt (writer_cmp b a) ≡ true)
above-either a b Greater e differ = inl (ap is_gt e)
above-either a b Less e differ = inr (ap is_gt (writer_total.antisymm b a ∙ ap ordering_reverse e))
above-either a b Equal e differ =
    let parts = then-equal (int_cmp a.strength b.strength) (guid_cmp b.guid a.guid) e in
    absurd (differ (sym (guid-exact b.guid a.guid parts.1)))

-- ---- the order of publication handles

pub outranks-trans : (x y z : Option Precedence) → is_above x y ≡ true → is_above y z ≡ true → is_above x z ≡ true
outranks-trans (Some a) (Some b) (Some c) xy yz = above-trans a b c xy yz
outranks-trans (Some a) (Some b) None xy yz = cc
outranks-trans (Some a) None z xy yz = cc
outranks-trans None y z xy yz = cc

pub outranks-one_way : (x y : Option Precedence) → is_above x y ≡ true → is_above y x ≡ true → ⊥
outranks-one_way (Some a) (Some b) xy yx = above-one_way a b xy yx
outranks-one_way (Some a) None xy yx = cc
outranks-one_way None y xy yx = cc

slice_get-within : (ws : List MatchedWriter) (at : ℕ) → at < length ws
    → (w : MatchedWriter) × (slice_get ws at ≡ Some w)
slice_get-within [] at within = absurd (omega arith)
slice_get-within (w ∷ ws) zero within = (w, refl)
slice_get-within (w ∷ ws) (suc at) within = slice_get-within ws at (omega arith)

pub matched-writer : (q : ReaderQos) (h : List Happening) (v : ℕ) → IsMatched q h v
    → (w : MatchedWriter) × (writer_of (writers_of q h) v ≡ Some w)
matched-writer q h zero matched = absurd (omega (arith, matched.0))
matched-writer q h (suc at) matched = slice_get-within (writers_of q h) at (omega (arith, matched.1))

-- of two matched writers one outranks the other
outranks-either : (q : ReaderQos) (h : List Happening) (v w : ℕ) → HaveOwnGuids q h → IsMatched q h v → IsMatched q h w
    → v ≢ w → (outranks q h v w ≡ true) ⊎ (outranks q h w v ≡ true)
outranks-either q h v w own matched_v matched_w differ =
    let a = matched-writer q h v matched_v in
    let b = matched-writer q h w matched_w in
    let first : precedence_of q h v ≡ Some (precedence h v a.0) = ap (option_map (precedence h v)) a.1 in
    let second : precedence_of q h w ≡ Some (precedence h w b.0) = ap (option_map (precedence h w)) b.1 in
    ⊎_elim
    (λ e. inl (ap (λ (x : Option Precedence). is_above x (precedence_of q h w)) first
    ∙ (ap (λ (x : Option Precedence). is_above (Some (precedence h v a.0)) x) second ∙ e)))
    (λ e. inr (ap (λ (x : Option Precedence). is_above x (precedence_of q h v)) second
    ∙ (ap (λ (x : Option Precedence). is_above (Some (precedence h w b.0)) x) first ∙ e)))
    (above-either (precedence h v a.0) (precedence h w b.0) (writer_cmp (precedence h v a.0) (precedence h w b.0)) refl
    (λ same. differ (own v w a.0 b.0 a.1 b.1 same)))

-- ---- the greatest of a list

abbrev pub is_one_of : List ℕ → ℕ → Bool
is_one_of ws w = list_any (λ v. v == w) ws

abbrev AllMatched : ReaderQos → List Happening → List ℕ → Type 0
AllMatched q h [] = Unit {0}
AllMatched q h (w ∷ ws) = IsMatched q h w × AllMatched q h ws

-- what one writer outranks, another that outranks it outranks too
outranks_all-above : (q : ReaderQos) (h : List Happening) (ws : List ℕ) (v w : ℕ) → outranks q h w v ≡ true
    → outranks_all q h ws v ≡ true → outranks_all q h ws w ≡ true
outranks_all-above q h [] v w above all = refl
outranks_all-above q h (x ∷ ws) v w above all =
    let parts = and_parts ((x == v) || outranks q h v x) (outranks_all q h ws v) all in
    let here : ((x == w) || outranks q h w x) ≡ true =
    ⊎_elim
    (λ same. or_right (x == w) (outranks q h w x) (ap (λ (n : ℕ). outranks q h w n) (eqb-true x v same) ∙ above))
    (λ more. or_right (x == w) (outranks q h w x)
    (outranks-trans (precedence_of q h w) (precedence_of q h v) (precedence_of q h x) above more))
    (or_cases (x == v) (outranks q h v x) parts.0) in
    and_from ((x == w) || outranks q h w x) (outranks_all q h ws w) here (outranks_all-above q h ws v w above parts.1)

pub eqb-refl : (n : ℕ) → (n == n) ≡ true
eqb-refl n = grind (arith, nat_tests)

pub record Greatest (q : ReaderQos) (h : List Happening) (ws : List ℕ) : Type 0 where
  pub writer : ℕ
  pub matched : IsMatched q h writer
  pub among : is_one_of ws writer ≡ true
  pub above : outranks_all q h ws writer ≡ true

greatest : (q : ReaderQos) (h : List Happening) (w : ℕ) (ws : List ℕ) → HaveOwnGuids q h → AllMatched q h (w ∷ ws)
    → Greatest q h (w ∷ ws)
greatest q h w [] own matched = record {
  writer = w;
  matched = matched.0;
  among = or_left (w == w) false (eqb-refl w);
  above = and_from ((w == w) || outranks q h w w) true (or_left (w == w) (outranks q h w w) (eqb-refl w)) refl;
}
greatest q h w (v ∷ ws) own matched =
    let rest : Greatest q h (v ∷ ws) = greatest q h v ws own matched.1 in
    let m : ℕ = rest.writer in
    let keep : ((w == m) || outranks q h m w) ≡ true → Greatest q h (w ∷ v ∷ ws) =
    λ here. record {
      writer = m;
      matched = rest.matched;
      among = or_right (w == m)
          (is_one_of (v ∷ ws) m) rest.among;
      above = and_from ((w == m) || outranks q h m w)
          (outranks_all q h (v ∷ ws) m) here rest.above;
    } in
    ⊎_elim
    (λ same. keep (or_left (w == m) (outranks q h m w) same))
    (λ other. ⊎_elim
    (λ above. record {
      writer = w;
      matched = matched.0;
      among = or_left (w == w) (is_one_of (v ∷ ws) w) (eqb-refl w);
      above =
          and_from ((w == w) || outranks q h w w) (outranks_all q h (v ∷ ws) w)
          (or_left (w == w) (outranks q h w w) (eqb-refl w)) (outranks_all-above q h (v ∷ ws) m w above rest.above);
    })
    (λ below. keep (or_right (w == m) (outranks q h m w) below))
    (outranks-either q h w m own matched.0 rest.matched (eqb-false w m other)))
    (cases_Bool (w == m))

-- ---- a search of a list

any-at : (p : ℕ → Bool) (ws : List ℕ) (w : ℕ) → is_one_of ws w ≡ true → p w ≡ true → list_any p ws ≡ true
any-at p [] w among holds = among
any-at p (v ∷ ws) w among holds =
    ⊎_elim
    (λ same. or_left (p v) (list_any p ws) (ap p (eqb-true v w same) ∙ holds))
    (λ later. or_right (p v) (list_any p ws) (any-at p ws w later holds))
    (or_cases (v == w) (is_one_of ws w) among)

find-any : (p : ℕ → Bool) (ws : List ℕ) → list_any p ws ≡ true → IsSome (find p ws)
find-any p [] any = absurd cc
find-any p (w ∷ ws) any =
    ⊎_elim
    (λ here. subst (λ (b : Bool). IsSome (cond b (Some w) (find p ws))) (sym here) refl)
    (λ not_here. subst (λ (b : Bool). IsSome (cond b (Some w) (find p ws))) (sym not_here)
    (find-any p ws (let other : (p w || list_any p ws)
    ≡ list_any p ws = ap (λ (b : Bool). b || list_any p ws) not_here in sym other ∙ any)))
    (cases_Bool (p w))

record FoundAt (p : ℕ → Bool) (ws : List ℕ) (w : ℕ) : Type 0 where
  holds : p w ≡ true
  among : is_one_of ws w ≡ true

some-same : (v w : ℕ) → Some v ≡ Some w → v ≡ w
some-same v w e = cc

found-at : (p : ℕ → Bool) (ws : List ℕ) (w : ℕ) → find p ws ≡ Some w → FoundAt p ws w
found-at p [] w e = absurd cc
found-at p (v ∷ ws) w e =
    ⊎_elim
    (λ here. let same : v ≡ w = some-same v w (sym (ap (λ (b : Bool). cond b (Some v) (find p ws)) here) ∙ e) in
    record {
      holds = sym (ap p same) ∙ here;
      among = or_left (v == w) (is_one_of ws w)
          (ap (λ (n : ℕ). n == w) same ∙ eqb-refl w);
    })
    (λ not_here. let later : FoundAt p ws w = found-at p ws w
    (sym (ap (λ (b : Bool). cond b (Some v) (find p ws)) not_here) ∙ e) in
    record { holds = later.holds; among = or_right (v == w) (is_one_of ws w) later.among })
    (cases_Bool (p v))

contains-from : (ws : List ℕ) (w : ℕ) → is_one_of ws w ≡ true → Contains ws w
contains-from [] w e = absurd cc
contains-from (v ∷ ws) w e =
    ⊎_elim
    (λ same. (zero, omega arith, eqb-true v w same))
    (λ later. let rest = contains-from ws w later in (suc rest.0, omega (arith, rest.1), rest.2))
    (or_cases (v == w) (is_one_of ws w) e)

contains-at : (ws : List ℕ) (w k : ℕ) → k < length ws → get_or ws k w ≡ w → is_one_of ws w ≡ true
contains-at [] w k within is = absurd (omega arith)
contains-at (v ∷ ws) w zero within is = or_left (v == w) (is_one_of ws w) (ap (λ (n : ℕ). n == w) is ∙ eqb-refl w)
contains-at (v ∷ ws) w (suc k) within is = or_right (v == w) (is_one_of ws w) (contains-at ws w k (omega arith) is)

pub all-at : (p : ℕ → Bool) (ws : List ℕ) (w : ℕ) → list_all p ws ≡ true → is_one_of ws w ≡ true → p w ≡ true
all-at p [] w all among = absurd cc
all-at p (v ∷ ws) w all among =
    let parts = and_parts (p v) (list_all p ws) all in
    ⊎_elim
    (λ same. sym (ap p (eqb-true v w same)) ∙ parts.0)
    (λ later. all-at p ws w parts.1 later)
    (or_cases (v == w) (is_one_of ws w) among)

not-same : (v w : ℕ) → v ≢ w → (v == w) ≡ true → ⊥
not-same v w differ same = differ (eqb-true v w same)

-- a writer of a list that outranks each other one is its owner
pub owner-is : (q : ReaderQos) (h : List Happening) (ws : List ℕ) (w : ℕ) → is_one_of ws w ≡ true
    → outranks_all q h ws w ≡ true → IsOwner q h ws w
owner-is q h ws w among above = record {
  is_registered = contains-from ws w among;
  is_greatest =
      λ v other differ. ⊎_elim (λ same. absurd (not-same v w differ same)) (λ more. more)
      (or_cases (v == w) (outranks q h w v)
      (all-at (λ x. (x == w) || outranks q h w x) ws v above (contains-at ws v other.0 other.1 other.2)));
}

-- the owner that is computed is the owner
pub owner_of-found : (q : ReaderQos) (h : List Happening) (ws : List ℕ) (w : ℕ) → owner_of q h ws ≡ Some w
    → IsOwner q h ws w
owner_of-found q h ws w e =
    let found : FoundAt (outranks_all q h ws) ws w = found-at
    (outranks_all q h ws) ws w e in owner-is q h ws w found.among found.holds

-- there is no second owner
pub owner-one : (q : ReaderQos) (h : List Happening) (ws : List ℕ) (v w : ℕ) → IsOwner q h ws v → IsOwner q h ws w
    → v ≡ w
owner-one q h ws v w own_v own_w =
    ⊎_elim
    (λ same. eqb-true v w same)
    (λ other. let differ : v ≢ w = eqb-false v w other in absurd (outranks-one_way (precedence_of q h v)
    (precedence_of q h w) (own_v.is_greatest w own_w.is_registered (λ e. differ (sym e)))
    (own_w.is_greatest v own_v.is_registered differ)))
    (cases_Bool (v == w))

numbers-matched : (q : ReaderQos) (i : Key) (h : List Happening) (xs : List MatchedWriter) (k : ℕ) → 0 < k
    → k + length xs ≤ length (writers_of q h) + 1 → AllMatched q h (filter (λ w. is_registered i w h) (numbered_from k xs))
numbers-matched q i h [] k low high = tt
numbers-matched q i h (x ∷ xs) k low high =
    let rest : AllMatched q h (filter (λ w. is_registered i w h) (numbered_from (k + 1) xs)) =
    numbers-matched q i h xs (k + 1) (omega arith) (omega arith) in
    ⊎_elim
    (λ is_there. subst (λ (b : Bool). AllMatched q h
    (cond b (k ∷ filter (λ w. is_registered i w h) (numbered_from (k + 1) xs))
    (filter (λ w. is_registered i w h) (numbered_from (k + 1) xs)))) (sym is_there) ((low, omega arith), rest))
    (λ is_gone. subst (λ (b : Bool). AllMatched q h
    (cond b (k ∷ filter (λ w. is_registered i w h) (numbered_from (k + 1) xs))
    (filter (λ w. is_registered i w h) (numbered_from (k + 1) xs)))) (sym is_gone) rest)
    (cases_Bool (is_registered i k h))

exists-in : (q : ReaderQos) (h : List Happening) (ws : List ℕ) → HaveOwnGuids q h → AllMatched q h ws → ws ≢ []
    → IsSome (owner_of q h ws)
exists-in q h [] own matched some = absurd (some refl)
exists-in q h (w ∷ ws) own matched some =
    let top : Greatest q h (w ∷ ws) = greatest q h w ws own matched in find-any (outranks_all q h (w ∷ ws)) (w ∷ ws)
    (any-at (outranks_all q h (w ∷ ws)) (w ∷ ws) top.writer top.among top.above)

-- where somebody is registered, there is an owner
pub owner-exists : (q : ReaderQos) (i : Key) (h : List Happening) → HaveOwnGuids q h → registered_writers q i h ≢ []
    → IsSome (owner_of q h (registered_writers q i h))
owner-exists q i h own some =
    exists-in q h (registered_writers q i h) own (numbers-matched q i h (writers_of q h) 1 (omega arith) (omega arith)) some

-- a writer outranks each other one of a list exactly where it is the owner among them and itself
pub owner-among : (q : ReaderQos) (h : List Happening) (ws : List ℕ) (w : ℕ)
    → (IsTrue (outranks_all q h ws w) → IsOwner q h (w ∷ ws) w)
    × (IsOwner q h (w ∷ ws) w → IsTrue (outranks_all q h ws w))
owner-among q h ws w = (
  λ above. owner-is q h (w ∷ ws) w (or_left (w == w) (is_one_of ws w) (eqb-refl w))
      (and_from ((w == w) || outranks q h w w) (outranks_all q h ws w)
      (or_left (w == w) (outranks q h w w) (eqb-refl w)) above),
  λ owner. above-each q h ws w
      (λ v among differ. owner.is_greatest v
      (contains-from (w ∷ ws) v (or_right (w == v) (is_one_of ws v) among)) differ),
)
  where
    above-each : (q : ReaderQos) (h : List Happening) (ws : List ℕ) (w : ℕ)
        → ((v : ℕ) → is_one_of ws v ≡ true → v ≢ w → outranks q h w v ≡ true) → outranks_all q h ws w ≡ true
    above-each q h [] w each = refl
    above-each q h (v ∷ ws) w each =
        and_from ((v == w) || outranks q h w v) (outranks_all q h ws w)
        (⊎_elim
        (λ same. or_left (v == w) (outranks q h w v) same)
        (λ other. or_right (v == w) (outranks q h w v)
        (each v (or_left (v == v) (is_one_of ws v) (eqb-refl v)) (eqb-false v w other)))
        (cases_Bool (v == w)))
        (above-each q h ws w (λ x among differ. each x (or_right (v == x) (is_one_of ws x) among) differ))
