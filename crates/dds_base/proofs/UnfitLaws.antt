-- The set of policies that are not offered as they are asked for has a bit for each, whichever the others are.
use Rattle.std.proofs.Common.{◌≡◌, ℕ, ◌+◌, ◌<◌, ◌≤◌, ◌==◌, ◌&&◌, Bool, true, false, not, cond, List, [], ◌∷◌, ◌++◌, length, map, filter, drop, get_or, bit_or, refl, ap, sym, subst, ◌∙◌, append_assoc, length-append, arith}
use Rattle.std.specs.Prelude.{if◌then◌else◌, sum}
use Rattle.std.specs.List.{AllByRecursion}
use Rattle.std.proofs.lemmas.Bool.{eqb-true}
use Rattle.std.proofs.lemmas.List.{append-nil, drop_all, get_or_default}
use Rattle.bitflags.specs.Sets.{without}
use Rattle.dds_base.specs.Access.{has_bit}
use Rattle.dds_base.specs.Offers.{offers_reliability, offers_durability, offers_presentation, offers_deadline, offers_latency_budget, offers_ownership, offers_liveliness, offers_destination_order, unfit_policies, is_empty, Compared, compared, ids_of, has_policy}
use Rattle.dds_base.specs.declared.policies.Policies.{Policies}
use Rattle.dds_base.proofs.Lists.{drop-step}

-- ---- tests of eight policies

-- the test passes, whether the policy is offered or not
abbrev either : (Bool → Bool) → Bool
either test = test true && test false

passes : (first second : Bool) → (first && second) ≡ true → (first ≡ true) × (second ≡ true)
passes true second h = (refl, h)
passes false second h = absurd (cc)

either-is : (test : Bool → Bool) → either test ≡ true → (b : Bool) → test b ≡ true
either-is test h true = (passes (test true) (test false) h).0
either-is test h false = (passes (test true) (test false) h).1

-- what is said of eight policies, of each whether it is offered
abbrev pub Eight : Type 0 → Type 0
Eight X = Bool → Bool → Bool → Bool → Bool → Bool → Bool → Bool → X

abbrev all_pass : Eight Bool → Bool
all_pass test =
    either (λ a. either (λ b. either (λ c. either (λ d. either (λ e. either (λ f. either (λ g. either (λ h.
    test a b c d e f g h))))))))

all-is : (test : Eight Bool) → all_pass test ≡ true → (a b c d e f g h : Bool) → test a b c d e f g h ≡ true
all-is test is a b c d e f g h =
    let at-a = either-is (λ a. either (λ b. either (λ c. either (λ d. either (λ e. either (λ f. either (λ g. either
    (λ h. test a b c d e f g h)))))))) is a in
    let at-b = either-is (λ b. either (λ c. either (λ d. either (λ e. either (λ f. either (λ g. either (λ h.
    test a b c d e f g h))))))) at-a b in
    let at-c = either-is (λ c. either (λ d. either (λ e. either (λ f. either (λ g. either (λ h.
    test a b c d e f g h)))))) at-b c in
    let at-d = either-is (λ d. either (λ e. either (λ f. either (λ g. either (λ h. test a b c d e f g h))))) at-c d in
    let at-e = either-is (λ e. either (λ f. either (λ g. either (λ h. test a b c d e f g h)))) at-d e in
    let at-f = either-is (λ f. either (λ g. either (λ h. test a b c d e f g h))) at-e f in
    let at-g = either-is (λ g. either (λ h. test a b c d e f g h)) at-f g in
    either-is (λ h. test a b c d e f g h) at-g h

-- ---- the bits

-- the bit of a policy
abbrev bit_unless : Bool → ℕ → ℕ
bit_unless is_offered bit = if is_offered then 0 else bit

-- the sum of the bits
abbrev pub bits : Eight ℕ
bits a b c d e f g h = sum (bit_unless a 4 ∷ bit_unless b 8 ∷ bit_unless c 16 ∷ bit_unless d 32 ∷ bit_unless e 64
    ∷ bit_unless f 256 ∷ bit_unless g 2048 ∷ bit_unless h 4096 ∷ [])

-- a bit is set or cleared
after_set : Bool → ℕ → ℕ → ℕ
after_set value before bit = if value then bit_or before bit else without 32 before bit

-- the bits, each set or cleared in turn
set_in_turn : Eight ℕ
set_in_turn a b c d e f g h =
    after_set (not h) (after_set (not g) (after_set (not f) (after_set (not e) (after_set (not d) (after_set (not c)
    (after_set (not b) (after_set (not a) 0 4) 8) 16) 32) 64) 256) 2048) 4096

set_in_turn-bits : (a b c d e f g h : Bool) → set_in_turn a b c d e f g h ≡ bits a b c d e f g h
unfolding after_set set_in_turn
set_in_turn-bits a b c d e f g h = eqb-true (set_in_turn a b c d e f g h) (bits a b c d e f g h)
    (all-is (λ a b c d e f g h. set_in_turn a b c d e f g h == bits a b c d e f g h) refl a b c d e f g h)

-- so far the bits of these were set or cleared
pub SetSo : (before after bit : ℕ) → Bool → Type 0
SetSo before after bit is_offered = after ≡ after_set (not is_offered) before bit

pub set_so : (is_offered : Bool) (before after bit : ℕ)
    → after ≡ (if not is_offered then bit_or before bit else without 32 before bit)
    → (said : Bool) → is_offered ≡ said → SetSo before after bit said
unfolding SetSo after_set
set_so is_offered before after bit h said is =
    subst (λ (b : Bool). after ≡ (if not b then bit_or before bit else without 32 before bit)) is h

pub set_in_turn-is : (a b c d e f g h : Bool) (n0 n1 n2 n3 n4 n5 n6 n7 n8 : ℕ)
    → n0 ≡ 0 → SetSo n0 n1 4 a → SetSo n1 n2 8 b → SetSo n2 n3 16 c → SetSo n3 n4 32 d → SetSo n4 n5 64 e → SetSo n5 n6 256 f
    → SetSo n6 n7 2048 g → SetSo n7 n8 4096 h → n8 ≡ bits a b c d e f g h
unfolding SetSo set_in_turn
set_in_turn-is a b c d e f g h n0 n1 n2 n3 n4 n5 n6 n7 n8 e0 e1 e2 e3 e4 e5 e6 e7 e8 =
    let all : n8 ≡ set_in_turn a b c d e f g h = cc in all ∙ set_in_turn-bits a b c d e f g h

-- ---- what the bits say

same : Bool → Bool → Bool
same true b = b
same false b = not b

same-is : (a b : Bool) → same a b ≡ true → a ≡ b
unfolding same
same-is true b h = sym h
same-is false true h = absurd (cc)
same-is false false h = refl

-- the bits are those of the policies that are not offered
abbrev pub Tells : Bool → Bool → Bool → Bool → Bool → Bool → Bool → Bool → Type 0
Tells a b c d e f g h =
    ((bits a b c d e f g h == 0) ≡ (a && b && c && d && e && f && g && h))
    × (has_bit (bits a b c d e f g h) 4 ≡ not a)
    × (has_bit (bits a b c d e f g h) 8 ≡ not b)
    × (has_bit (bits a b c d e f g h) 16 ≡ not c)
    × (has_bit (bits a b c d e f g h) 32 ≡ not d)
    × (has_bit (bits a b c d e f g h) 64 ≡ not e)
    × (has_bit (bits a b c d e f g h) 256 ≡ not f)
    × (has_bit (bits a b c d e f g h) 2048 ≡ not g)
    × (has_bit (bits a b c d e f g h) 4096 ≡ not h)

-- this holds of the bits
of_all : (said is : Eight Bool) → all_pass (λ a b c d e f g h. same (said a b c d e f g h) (is a b c d e f g h)) ≡ true
    → (a b c d e f g h : Bool) → said a b c d e f g h ≡ is a b c d e f g h
of_all said is all a b c d e f g h = same-is (said a b c d e f g h) (is a b c d e f g h)
    (all-is (λ a b c d e f g h. same (said a b c d e f g h) (is a b c d e f g h)) all a b c d e f g h)

tells : (a b c d e f g h : Bool) → Tells a b c d e f g h
unfolding same
tells a b c d e f g h = (
  of_all (λ a b c d e f g h. bits a b c d e f g h == 0) (λ a b c d e f g h. a && b && c && d && e && f && g && h) refl
      a b c d e f g h,
  of_all (λ a b c d e f g h. has_bit (bits a b c d e f g h) 4) (λ a b c d e f g h. not a) refl a b c d e f g h,
  of_all (λ a b c d e f g h. has_bit (bits a b c d e f g h) 8) (λ a b c d e f g h. not b) refl a b c d e f g h,
  of_all (λ a b c d e f g h. has_bit (bits a b c d e f g h) 16) (λ a b c d e f g h. not c) refl a b c d e f g h,
  of_all (λ a b c d e f g h. has_bit (bits a b c d e f g h) 32) (λ a b c d e f g h. not d) refl a b c d e f g h,
  of_all (λ a b c d e f g h. has_bit (bits a b c d e f g h) 64) (λ a b c d e f g h. not e) refl a b c d e f g h,
  of_all (λ a b c d e f g h. has_bit (bits a b c d e f g h) 256) (λ a b c d e f g h. not f) refl a b c d e f g h,
  of_all (λ a b c d e f g h. has_bit (bits a b c d e f g h) 2048) (λ a b c d e f g h. not g) refl a b c d e f g h,
  of_all (λ a b c d e f g h. has_bit (bits a b c d e f g h) 4096) (λ a b c d e f g h. not h) refl a b c d e f g h,
)

-- ---- the set

pub unfit-bits : (w r : Policies) → (unfit_policies w r).0 ≡
    bits (offers_durability w r) (offers_presentation w r) (offers_deadline w r) (offers_latency_budget w r)
    (offers_ownership w r) (offers_liveliness w r) (offers_reliability w r) (offers_destination_order w r)
unfolding unfit_policies
unfit-bits w r = refl

tells_of : (w r : Policies) → Tells (offers_durability w r) (offers_presentation w r) (offers_deadline w r)
    (offers_latency_budget w r) (offers_ownership w r) (offers_liveliness w r) (offers_reliability w r)
    (offers_destination_order w r)
tells_of w r = tells (offers_durability w r) (offers_presentation w r) (offers_deadline w r)
    (offers_latency_budget w r) (offers_ownership w r) (offers_liveliness w r) (offers_reliability w r)
    (offers_destination_order w r)

-- the set is empty where each policy is offered as it is asked for
pub unfit-empty : (w r : Policies) → is_empty (unfit_policies w r) ≡
    (offers_durability w r && offers_presentation w r && offers_deadline w r && offers_latency_budget w r
    && offers_ownership w r && offers_liveliness w r && offers_reliability w r && offers_destination_order w r)
unfit-empty w r = ap (λ (n : ℕ). n == 0) (unfit-bits w r) ∙ (tells_of w r).0

-- a policy is there where it is not offered as it is asked for
pub record TellsEach (w r : Policies) : Type 0 where
  pub durability : has_policy (unfit_policies w r) 2 ≡ not (offers_durability w r)
  pub presentation : has_policy (unfit_policies w r) 3 ≡ not (offers_presentation w r)
  pub deadline : has_policy (unfit_policies w r) 4 ≡ not (offers_deadline w r)
  pub latency_budget : has_policy (unfit_policies w r) 5 ≡ not (offers_latency_budget w r)
  pub ownership : has_policy (unfit_policies w r) 6 ≡ not (offers_ownership w r)
  pub liveliness : has_policy (unfit_policies w r) 8 ≡ not (offers_liveliness w r)
  pub reliability : has_policy (unfit_policies w r) 11 ≡ not (offers_reliability w r)
  pub destination_order : has_policy (unfit_policies w r) 12 ≡ not (offers_destination_order w r)

pub tells_each : (w r : Policies) → TellsEach w r
tells_each w r =
    let has : (bit : ℕ) → has_bit (unfit_policies w r).0 bit ≡ has_bit (bits (offers_durability w r)
    (offers_presentation w r) (offers_deadline w r) (offers_latency_budget w r) (offers_ownership w r)
    (offers_liveliness w r) (offers_reliability w r) (offers_destination_order w r)) bit =
    λ bit. ap (λ (n : ℕ). has_bit n bit) (unfit-bits w r) in
    let told = tells_of w r in
    record {
      durability = has 4 ∙ told.1;
      presentation = has 8 ∙ told.2;
      deadline = has 16 ∙ told.3;
      latency_budget = has 32 ∙ told.4;
      ownership = has 64 ∙ told.5;
      liveliness = has 256 ∙ told.6;
      reliability = has 2048 ∙ told.7;
      destination_order = has 4096 ∙ told.8;
    }

-- the ids of policies
abbrev ids : List Compared → List ℕ
ids cs = map (λ (c : Compared). c.id) cs

-- those that are not offered as they are asked for
abbrev missed : List Compared → List Compared
missed cs = filter (λ (c : Compared). not c.is_offered) cs

kept : (c : Compared) (xs : List ℕ) (cs : List Compared) (is_wanted is_offered : Bool) → is_wanted ≡ not is_offered
    → xs ≡ ids cs → cond is_wanted (c.id ∷ xs) xs ≡ ids (cond (not is_offered) (c ∷ cs) cs)
kept c xs cs true true is h = absurd (cc)
kept c xs cs true false is h = ap (λ (ys : List ℕ). c.id ∷ ys) h
kept c xs cs false true is h = h
kept c xs cs false false is h = absurd (cc)

ids_by : (is_wanted : ℕ → Bool) (cs : List Compared)
    → AllByRecursion (λ (c : Compared). is_wanted c.id ≡ not c.is_offered) cs
    → filter is_wanted (ids cs) ≡ ids (missed cs)
ids_by is_wanted [] each = refl
ids_by is_wanted (c ∷ cs) each =
    kept c (filter is_wanted (ids cs)) (missed cs) (is_wanted c.id) c.is_offered each.0 (ids_by is_wanted cs each.1)

pub unfit-ids : (w r : Policies) → ids_of (unfit_policies w r)
    ≡ map (λ (c : Compared). c.id) (filter (λ (c : Compared). not c.is_offered) (compared w r))
unfolding ids_of
unfit-ids w r =
    let each : TellsEach w r = tells_each w r in
    ids_by (has_policy (unfit_policies w r)) (compared w r) (
      each.durability,
      (
        each.presentation,
        (
          each.deadline,
          (
            each.latency_budget,
            (
              each.ownership,
              (
                each.liveliness,
                (each.reliability, (each.destination_order, tt)),
              ),
            ),
          ),
        ),
      ),
    )

-- ---- ids one after another

-- with those that are left, what was found of a list is all that is wanted of it
pub record Found (is_wanted : ℕ → Bool) (xs found : List ℕ) (at : ℕ) : Type 0 where
  pub few : length found ≤ at
  pub all : found ++ filter is_wanted (drop at xs) ≡ filter is_wanted xs

pub found_none : (is_wanted : ℕ → Bool) (xs found : List ℕ) → found ≡ [] → Found is_wanted xs found 0
found_none is_wanted xs found none = record {
  few = rw none (omega arith);
  all = rw none refl;
}

keep_step : (is_wanted : ℕ → Bool) (x : ℕ) (rest : List ℕ) (b : Bool) → is_wanted x ≡ b
    → filter is_wanted (x ∷ rest) ≡ cond b (x ∷ filter is_wanted rest) (filter is_wanted rest)
keep_step is_wanted x rest b is = ap (λ (c : Bool). cond c (x ∷ filter is_wanted rest) (filter is_wanted rest)) is

left_is : (is_wanted : ℕ → Bool) (xs : List ℕ) (at x : ℕ) (b : Bool) → at < length xs → x ≡ get_or xs at 0
    → is_wanted x ≡ b → filter is_wanted (drop at xs) ≡
    cond b (x ∷ filter is_wanted (drop (at + 1) xs)) (filter is_wanted (drop (at + 1) xs))
left_is is_wanted xs at x b within is wanted =
    ap (λ (ys : List ℕ). filter is_wanted ys) (drop-step xs at x within (is ∙ get_or_default xs at 0 x within))
    ∙ keep_step is_wanted x (drop (at + 1) xs) b wanted

pub found_one : (is_wanted : ℕ → Bool) (xs found next : List ℕ) (at x : ℕ) → Found is_wanted xs found at
    → at < length xs → x ≡ get_or xs at 0 → is_wanted x ≡ true → next ≡ found ++ x ∷ []
    → Found is_wanted xs next (at + 1)
found_one is_wanted xs found next at x so_far within is wanted grown = record {
  few = rw grown (rw (length-append found (x ∷ [])) (omega (arith, so_far.few)));
  all = rw grown (append_assoc found (x ∷ []) (filter is_wanted (drop (at + 1) xs))
      ∙ (ap (λ (ys : List ℕ). found ++ ys) (sym (left_is is_wanted xs at x true within is wanted)) ∙ so_far.all));
}

pub found_other : (is_wanted : ℕ → Bool) (xs found next : List ℕ) (at x : ℕ) → Found is_wanted xs found at
    → at < length xs → x ≡ get_or xs at 0 → is_wanted x ≡ false → next ≡ found → Found is_wanted xs next (at + 1)
found_other is_wanted xs found next at x so_far within is wanted same = record {
  few = rw same (omega (arith, so_far.few));
  all = rw same (ap (λ (ys : List ℕ). found ++ ys) (sym (left_is is_wanted xs at x false within is wanted)) ∙ so_far.all);
}

pub found_all : (is_wanted : ℕ → Bool) (xs found : List ℕ) (at : ℕ) → Found is_wanted xs found at → length xs ≤ at
    → found ≡ filter is_wanted xs
found_all is_wanted xs found at so_far end =
    sym (append-nil found) ∙ (ap (λ (ys : List ℕ). found ++ filter is_wanted ys) (sym (drop_all at xs end)) ∙ so_far.all)
