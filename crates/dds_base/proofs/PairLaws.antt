-- What a configured writer offers fits what a configured reader asks for, but for OWNERSHIP, RELIABILITY and the lease
-- of LIVELINESS.
use Rattle.std.proofs.Common.{◌≡◌, ℕ, ◌+◌, ◌*◌, ◌/◌, ◌%◌, ◌^◌, ◌<◌, ◌==◌, Bool, true, false, not, ◌&&◌, ◌||◌, Option, Some, None, refl, ap, sym, ◌∙◌, arith}
use Rattle.std.specs.Prelude.{if◌then◌else◌, nat_le, nat_lt}
use Rattle.std.proofs.Math.Bool.{or_self}
use Rattle.std.proofs.lemmas.Bool.Decides.{nat_tests}
use Rattle.dds_base.specs.Access.{has_bit}
use Rattle.dds_base.specs.Checked.{are_incompatible, asks_for_more, differ, is_longer}
use Rattle.dds_base.specs.Matched.{is_reliable_reader}
use Rattle.dds_base.specs.Offered.{offered, requested}
use Rattle.dds_base.specs.Offers.{is_empty, is_within, unfit_policies}
use Rattle.dds_base.specs.Policies.{infinite, lasting, ownership_code, reliability_code, units_of}
use Rattle.dds_base.specs.declared.config.ReaderConfig.{ReaderConfig}
use Rattle.dds_base.specs.declared.config.WriterConfig.{WriterConfig}
use Rattle.dds_base.specs.declared.duration.Duration.{Duration}
use Rattle.dds_base.specs.declared.qos.OwnershipQos.{OwnershipQos}
use Rattle.dds_base.specs.declared.qos.OwnershipQos.TheVariants.{Shared, Exclusive}
use Rattle.dds_base.specs.declared.qos.ReliabilityQos.{ReliabilityQos}
use Rattle.dds_base.specs.declared.qos.ReliabilityQos.TheVariants.{BestEffort, Reliable}
use Rattle.dds_base.proofs.UnfitLaws.{unfit-empty, tells_each}

-- ---- leases

-- a time of this many units is short enough for a duration with an end
abbrev is_short : ℕ → Bool
is_short units = nat_lt (units / 2 ^ 32) 0x7fffffff

units_by : (units : ℕ) (short : Bool) → is_short units ≡ short
    → units_of (lasting (Some units)) ≡ (if short then Some units else None)
units_by units true h =
    let exact : Duration = record { seconds = units / 2 ^ 32; fraction = units % 2 ^ 32 } in
    let apart : (units / 2 ^ 32 == 0x7fffffff) ≡ false = grind (arith, nat_tests) in
    let whole : units / 2 ^ 32 * 2 ^ 32 + units % 2 ^ 32 ≡ units = omega arith in
    ap (λ (b : Bool). units_of (if b then exact else infinite)) h
    ∙ (ap (λ (b : Bool). if b then None else Some (units / 2 ^ 32 * 2 ^ 32 + units % 2 ^ 32)) apart
    ∙ ap (λ (n : ℕ). Some n) whole)
units_by units false h =
    let exact : Duration = record { seconds = units / 2 ^ 32; fraction = units % 2 ^ 32 } in
    ap (λ (b : Bool). units_of (if b then exact else infinite)) h

pub units-short : (units : ℕ) → units < 0x7fffffff * 2 ^ 32 → units_of (lasting (Some units)) ≡ Some units
units-short units h = units_by units true (grind (arith, nat_tests))

or_true : (b : Bool) → (b || true) ≡ true
or_true true = refl
or_true false = refl

-- a time that is not within another is longer
longer-is : (a b : Option ℕ) → not (is_within a b) ≡ is_longer a b
longer-is None None = refl
longer-is (Some a) None = refl
longer-is None (Some b) = refl
longer-is (Some a) (Some b) = grind (arith, nat_tests)

-- of two leases with an end
longer_by : (a b : ℕ) (short-a short-b : Bool) → is_short a ≡ short-a → is_short b ≡ short-b
    → (not (is_within (if short-a then Some a else None) (if short-b then Some b else None)) || nat_lt b a) ≡ nat_lt b a
longer_by a b true true ha hb =
    ap (λ (c : Bool). c || nat_lt b a) (longer-is (Some a) (Some b)) ∙ or_self (nat_lt b a)
longer_by a b false true ha hb = sym (grind (arith, nat_tests))
longer_by a b true false ha hb = refl
longer_by a b false false ha hb = refl

-- a lease that is not offered as it is asked for is longer
pub within_or : (a b : Option ℕ)
    → (not (is_within (units_of (lasting a)) (units_of (lasting b))) || is_longer a b) ≡ is_longer a b
within_or None None = refl
within_or (Some a) None = refl
within_or None (Some b) = or_true (not (is_within None (units_of (lasting (Some b)))))
within_or (Some a) (Some b) =
    ap (λ (o : Option ℕ). not (is_within o (units_of (lasting (Some b)))) || nat_lt b a) (units_by a (is_short a) refl)
    ∙ (ap (λ (o : Option ℕ). not (is_within (if is_short a then Some a else None) o) || nat_lt b a)
    (units_by b (is_short b) refl)
    ∙ longer_by a b (is_short a) (is_short b) refl refl)

-- leases are compared as they stand where durations say them
pub within_is : (a b : Option ℕ) → units_of (lasting a) ≡ a → units_of (lasting b) ≡ b
    → not (is_within (units_of (lasting a)) (units_of (lasting b))) ≡ is_longer a b
within_is a b ha hb =
    ap (λ (o : Option ℕ). not (is_within o (units_of (lasting b)))) ha
    ∙ (ap (λ (o : Option ℕ). not (is_within a o)) hb ∙ longer-is a b)

-- ---- what is offered, and what is asked for

own_is : (w r : OwnershipQos) → (ownership_code w == ownership_code r) ≡ not (differ w r)
own_is Shared Shared = refl
own_is Shared Exclusive = refl
own_is Exclusive Shared = refl
own_is Exclusive Exclusive = refl

more_is : (r w : ReliabilityQos) → nat_le (reliability_code r) (reliability_code w) ≡ not (asks_for_more r w)
more_is BestEffort BestEffort = refl
more_is BestEffort Reliable = refl
more_is Reliable BestEffort = refl
more_is Reliable Reliable = refl

-- a pair fits where its ownership is the same, and its lease and its reliability are offered
abbrev fit_parts : WriterConfig → ReaderConfig → Bool
fit_parts w r =
    (ownership_code w.ownership == ownership_code r.ownership)
    && is_within (units_of (lasting w.lease)) (units_of (lasting r.lease))
    && nat_le (reliability_code r.reliability) (reliability_code w.reliability)
    && true

fit-is : (w : WriterConfig) (r : ReaderConfig) → is_empty (unfit_policies (offered w) (requested r)) ≡ fit_parts w r
fit-is w r = unfit-empty (offered w) (requested r)

by_parts : (within differs more longer greater : Bool) → (not within || longer) ≡ longer
    → (not (not differs && within && not more && true) || (longer || greater))
    ≡ (differs || (more || (longer || greater)))
by_parts within true more longer greater h = refl
by_parts true false true longer greater h = refl
by_parts true false false longer greater h = refl
by_parts false false more true greater h = sym (or_true more)
by_parts false false more false greater h = absurd (cc)

pub incompatible-is : (w : WriterConfig) (r : ReaderConfig) → are_incompatible r w ≡
    (differ w.ownership r.ownership || (asks_for_more r.reliability w.reliability
    || (is_longer w.lease r.lease || nat_lt r.max_value w.max_value)))
incompatible-is w r =
    let rest : Bool = is_longer w.lease r.lease || nat_lt r.max_value w.max_value in
    let within : Bool = is_within (units_of (lasting w.lease)) (units_of (lasting r.lease)) in
    ap (λ (fit : Bool). not fit || rest) (fit-is w r)
    ∙ (ap (λ (own : Bool). not (own && within
    && nat_le (reliability_code r.reliability) (reliability_code w.reliability) && true) || rest)
    (own_is w.ownership r.ownership)
    ∙ (ap (λ (reliable : Bool). not (not (differ w.ownership r.ownership) && within && reliable && true) || rest)
    (more_is r.reliability w.reliability)
    ∙ by_parts within (differ w.ownership r.ownership) (asks_for_more r.reliability w.reliability)
    (is_longer w.lease r.lease) (nat_lt r.max_value w.max_value) (within_or w.lease r.lease)))

decided_by : (own within reliable longer greater : Bool) → not within ≡ longer
    → (not (own && within && reliable && true) || (longer || greater))
    ≡ (not (own && within && reliable && true) || greater)
decided_by own true reliable true greater h = absurd (cc)
decided_by own true reliable false greater h = refl
decided_by true false reliable longer greater h = refl
decided_by false false reliable longer greater h = refl

pub policies-decide : (w : WriterConfig) (r : ReaderConfig) → units_of (lasting w.lease) ≡ w.lease
    → units_of (lasting r.lease) ≡ r.lease
    → are_incompatible r w
    ≡ (not (is_empty (unfit_policies (offered w) (requested r))) || nat_lt r.max_value w.max_value)
policies-decide w r said asked =
    let rest : Bool = is_longer w.lease r.lease || nat_lt r.max_value w.max_value in
    ap (λ (fit : Bool). not fit || rest) (fit-is w r)
    ∙ (decided_by (ownership_code w.ownership == ownership_code r.ownership)
    (is_within (units_of (lasting w.lease)) (units_of (lasting r.lease)))
    (nat_le (reliability_code r.reliability) (reliability_code w.reliability)) (is_longer w.lease r.lease)
    (nat_lt r.max_value w.max_value) (within_is w.lease r.lease said asked)
    ∙ ap (λ (fit : Bool). not fit || nat_lt r.max_value w.max_value) (sym (fit-is w r)))

not_not : (b : Bool) → not (not b) ≡ b
not_not true = refl
not_not false = refl

pub unfit-owner : (w : WriterConfig) (r : ReaderConfig)
    → has_bit (unfit_policies (offered w) (requested r)).0 64 ≡ differ w.ownership r.ownership
unfit-owner w r =
    (tells_each (offered w) (requested r)).ownership
    ∙ (ap not (own_is w.ownership r.ownership) ∙ not_not (differ w.ownership r.ownership))

pub unfit-reliability : (w : WriterConfig) (r : ReaderConfig)
    → has_bit (unfit_policies (offered w) (requested r)).0 2048 ≡ asks_for_more r.reliability w.reliability
unfit-reliability w r =
    (tells_each (offered w) (requested r)).reliability
    ∙ (ap not (more_is r.reliability w.reliability) ∙ not_not (asks_for_more r.reliability w.reliability))

-- a reliable reader does not fit a best-effort writer
pub reliable-unfit : (w : WriterConfig) (r : ReaderConfig) → w.reliability ≡ BestEffort
    → is_reliable_reader r ≡ true → are_incompatible r w ≡ true
reliable-unfit w r best reliable =
    let more : asks_for_more r.reliability w.reliability ≡ true =
    ap (λ (k : ReliabilityQos). asks_for_more r.reliability k) best ∙ ap (λ (b : Bool). b && true) reliable in
    incompatible-is w r
    ∙ (ap (λ (b : Bool). differ w.ownership r.ownership || (b || (is_longer w.lease r.lease
    || nat_lt r.max_value w.max_value))) more ∙ or_true (differ w.ownership r.ownership))
