-- The owner that is kept goes on through what happens, and answers for all who are registered.
use Rattle.std.proofs.Common.{◌≡◌, ℕ, ◌+◌, ◌<◌, ◌≤◌, List, [], ◌∷◌, ◌++◌, length, map, take, drop, Bool, true, false, not, ◌==◌, ◌&&◌, ◌||◌, sym, ap, subst, ◌∙◌, refl, cond, Option, Some, None, ⊎_elim, arith}
use Rattle.std.specs.Prelude.{if◌then◌else◌, find, nat_lt, ℤ, suc}
use Rattle.std.specs.List.{filter, list_all, list_any}
use Rattle.std.proofs.lemmas.List.{append-nil, length-map}
use Rattle.std.proofs.lemmas.List.Folds.{list_all-append, list_any-append}
use Rattle.std.specs.Option.{option_map}
use Rattle.std.proofs.lemmas.Bool.{cases_Bool, and_from, and_parts, or_left, or_right, or_cases, eqb-true}
use Rattle.std.proofs.lemmas.Bool.Decides.{nat_tests}
use Rattle.dds_base.specs.declared.key.Key.{Key}
use Rattle.dds_base.specs.declared.happening.Arrival.{Arrival}
use Rattle.dds_base.specs.declared.happening.Happening.{Happening}
use Rattle.dds_base.specs.declared.happening.Happening.TheVariants.{Came, Died}
use Rattle.dds_base.specs.declared.qos.MatchedWriter.{MatchedWriter}
use Rattle.dds_base.specs.declared.qos.ReaderQos.{ReaderQos}
use Rattle.dds_base.specs.declared.qos.OwnershipQos.{OwnershipQos}
use Rattle.dds_base.specs.declared.qos.OwnershipQos.TheVariants.{Shared, Exclusive}
use Rattle.dds_base.specs.Happening.{is_unregister, is_write_or_dispose, same_key}
use Rattle.dds_base.specs.Ownership.{Precedence, accepted_kind, admits, is_above, is_registered, numbered_from, outranks_all, owner_of, precedence_of, registered_writers, writers_of}
use Rattle.dds_base.proofs.JoinLaws.{no-fewer-writers, not-its, other-one}
use Rattle.dds_base.proofs.KeyLaws.{same_key-refl}
use Rattle.dds_base.proofs.OwnerLaws.{eqb-refl, is_one_of, outranks-trans, owner-is, owner-one}
use Rattle.dds_owner.specs.declared.ranking.KeptOwner.{KeptOwner}
use Rattle.dds_owner.specs.declared.registration.Registration.{Registration}
use Rattle.dds_owner.specs.First.{ComesFirst, IsKeptOwner, gives_way}
use Rattle.dds_owner.specs.Ranking.{accepted_among, first_among, order_by, owner_before, owner_but, owner_by, owner_to_keep, leader_among, sole}
use Rattle.dds_owner.specs.Registration.{blank_registrations, registration_of, has_writer, is_there, is_there_at, entered}
use Rattle.dds_owner.specs.Restrengthening.{MAX_CHANGES, is_new_strength, strength_changes}
use Rattle.dds_owner.specs.Standing.{IsBlank, Kept, KeptStrengths, StandsFor, TellsStrengths, first_handles, kept_strength, places_of}
use Rattle.dds_owner.proofs.RankingLaws.{all-each, find-only, gives-same, owner-found}
use Rattle.dds_owner.proofs.RegistrationLaws.{as-many, blank-nobody, blank-stands, came-stands, died-stands, few-places, first-on, has-none, length-blank, none-by, none-dropped, places-more, registered-first, same-registrations, there-registered}
use Rattle.dds_owner.proofs.StrengthLaws.{above-on, changes-rise, order-came}

clash : {X : Type 0} (b : Bool) → b ≡ true → b ≡ false → X
clash b is_so is_not = absurd (let e : true ≡ false = sym is_so ∙ is_not in cc)

-- ---- one more entry

first-same : (o p : ℕ → Option Precedence) → ((w : ℕ) → o w ≡ p w) → (rs : List Registration) (w : ℕ)
    → ComesFirst o rs w → ComesFirst p rs w
first-same o p same rs w first = record {
  is_there = first.is_there;
  is_first = sym (gives-same o p same w rs) ∙ first.is_first;
}

-- who is above another one by one order is so by a second
abbrev GoesOn : (ℕ → Option Precedence) → (ℕ → Option Precedence) → Type 0
GoesOn o p = (v w : ℕ) → is_above (o v) (o w) ≡ true → is_above (p v) (p w) ≡ true

gives-on : (o p : ℕ → Option Precedence) → GoesOn o p → (w : ℕ) (rs : List Registration)
    → list_all (gives_way o w) rs ≡ true → list_all (gives_way p w) rs ≡ true
gives-on o p on w [] all = refl
gives-on o p on w (r ∷ rs) all =
    let parts = and_parts (gives_way o w r) (list_all (gives_way o w) rs) all in
    and_from (gives_way p w r) (list_all (gives_way p w) rs)
    (one (not r.is_registered) (r.writer == w) (is_above (o w) (o r.writer)) (is_above (p w) (p r.writer))
    (on w r.writer) parts.0)
    (gives-on o p on w rs parts.1)
  where
    one : (a b c d : Bool) → (c ≡ true → d ≡ true) → (a || (b || c)) ≡ true → (a || (b || d)) ≡ true
    one true b c d more e = refl
    one false true c d more e = refl
    one false false c d more e = more e

first-on-too : (o p : ℕ → Option Precedence) → GoesOn o p → (rs : List Registration) (w : ℕ) → ComesFirst o rs w
    → ComesFirst p rs w
first-on-too o p on rs w first = record {
  is_there = first.is_there;
  is_first = gives-on o p on w rs first.is_first;
}

-- the owner that is kept goes on, where it comes first of those that are registered then too
kept-on : (q : ReaderQos) (e : Happening) (h : List Happening) (owner : Option KeptOwner) (rs xs : List Registration)
    → ((order : ℕ → Option Precedence) (o : KeptOwner) → owner ≡ Some o → ComesFirst order rs o.writer
    → ComesFirst order xs o.writer)
    → IsKeptOwner owner q rs h → IsKeptOwner owner q xs (e ∷ h)
kept-on q e h None rs xs stays kept = tt
kept-on q e h (Some o) rs xs stays kept =
    let rise : strength_changes h ≤ strength_changes (e ∷ h) = changes-rise e h in
    let low : o.changes ≤ strength_changes h = kept.0 in (
      omega (arith, rise, low),
      λ (is : o.changes ≡ strength_changes (e ∷ h)).
          let same : strength_changes (e ∷ h) ≡ strength_changes h = omega (arith, rise, low, is) in
          stays (precedence_of q (e ∷ h)) o refl
          (first-on-too (precedence_of q h) (precedence_of q (e ∷ h)) (above-on q e h same) rs o.writer
          (kept.1 (is ∙ same))),
    )

-- what is kept stands for what changes no registration
pub other-stands : (kept : Kept) (q : ReaderQos) (i : Key) (e : Happening) (h : List Happening)
    → ((w : ℕ) → is_registered i w (e ∷ h) ≡ is_registered i w h) → StandsFor kept q i h → StandsFor kept q i (e ∷ h)
other-stands kept q i e h same given =
    record {
      registrations_are =
          given.registrations_are
          ∙ (sym (same-registrations i h (e ∷ h) (first_handles q h (places_of kept)) same)
          ∙ ap (λ (ws : List ℕ). map (registration_of i (e ∷ h)) ws)
          (sym (first-on q e h (places_of kept) (few-places kept q i h given))));
      others = λ w beyond. same w ∙ given.others w beyond;
      owner_is =
          kept-on q e h kept.owner kept.registrations kept.registrations (λ order o is first. first) given.owner_is;
    }

-- ---- whose registration ends

other-there : (w o v : ℕ) (r : Bool) → (o == w) ≡ false → ((v == o) && (if w == v then false else r)) ≡ ((v == o) && r)
other-there w o v r other =
    ⊎_elim
    (λ its. ap (λ (x : Bool). (v == o) && (if x then false else r)) (not-it its))
    (λ other_one. ap (λ (x : Bool). x && (if w == v then false else r)) other_one
    ∙ sym (ap (λ (x : Bool). x && r) other_one))
    (cases_Bool (v == o))
  where
    not-it : (v == o) ≡ true → (w == v) ≡ false
    not-it its = grind (arith, nat_tests)

still-there : (w o : ℕ) (rs : List Registration) → (o == w) ≡ false
    → has_writer o (map (entered false w) rs) ≡ has_writer o rs
still-there w o [] other = refl
still-there w o (r ∷ rs) other =
    ap (λ (b : Bool). b || has_writer o (map (entered false w) rs)) (other-there w o r.writer r.is_registered other)
    ∙ ap (λ (b : Bool). ((r.writer == o) && r.is_registered) || b) (still-there w o rs other)

still-gives : (ends r x : Bool) → (not r || x) ≡ true → (not (if ends then false else r) || x) ≡ true
still-gives true r x e = refl
still-gives false r x e = e

still-first : (order : ℕ → Option Precedence) (w o : ℕ) (rs : List Registration)
    → list_all (gives_way order o) rs ≡ true → list_all (gives_way order o) (map (entered false w) rs) ≡ true
still-first order w o [] all = refl
still-first order w o (r ∷ rs) all =
    let parts = and_parts (gives_way order o r) (list_all (gives_way order o) rs) all in
    and_from (gives_way order o (entered false w r)) (list_all (gives_way order o) (map (entered false w) rs))
    (still-gives (w == r.writer) r.is_registered ((r.writer == o) || is_above (order o) (order r.writer)) parts.0)
    (still-first order w o rs parts.1)

abbrev is_it : ℕ → Option KeptOwner → Bool
is_it w None = false
is_it w (Some x) = x.writer == w

but-one : (w : ℕ) (k o : KeptOwner) (b : Bool) → (k.writer == w) ≡ b → (if b then None else Some k) ≡ Some o
    → (Some k ≡ Some o) × ((o.writer == w) ≡ false)
but-one w k o true its e = absurd (cc)
but-one w k o false other e = (e, ap (is_it w) (sym e) ∙ other)

but-other : (w : ℕ) (owner : Option KeptOwner) (o : KeptOwner) → owner_but w owner ≡ Some o
    → (owner ≡ Some o) × ((o.writer == w) ≡ false)
but-other w None o is = absurd (cc)
but-other w (Some k) o is = but-one w k o (k.writer == w) refl is

but-kept : (q : ReaderQos) (rs : List Registration) (h : List Happening) (w : ℕ) (owner : Option KeptOwner)
    → IsKeptOwner owner q rs h → IsKeptOwner (owner_but w owner) q rs h
but-kept q rs h w None kept = tt
but-kept q rs h w (Some k) kept = one (k.writer == w)
  where
    one : (b : Bool) → IsKeptOwner (if b then None else Some k) q rs h
    one true = tt
    one false = kept

-- the owner that is kept, if it is another one, goes on where the registration of a writer ends
pub ended-kept : (q : ReaderQos) (e : Happening) (h : List Happening) (w : ℕ) (owner : Option KeptOwner)
    (rs : List Registration) → IsKeptOwner owner q rs h
    → IsKeptOwner (owner_but w owner) q (map (entered false w) rs) (e ∷ h)
ended-kept q e h w owner rs kept =
    kept-on q e h (owner_but w owner) rs (map (entered false w) rs)
    (λ order o is first. record {
      is_there = still-there w o.writer rs (but-other w owner o is).1 ∙ first.is_there;
      is_first = still-first order w o.writer rs first.is_first;
    })
    (but-kept q rs h w owner kept)

-- ---- who comes first

-- one that is above the first of all comes before all
all-above : (order : ℕ → Option Precedence) (o w : ℕ) (rs : List Registration)
    → list_all (gives_way order o) rs ≡ true → is_above (order w) (order o) ≡ true
    → list_all (gives_way order w) rs ≡ true
all-above order o w [] all above = refl
all-above order o w (r ∷ rs) all above =
    let parts = and_parts (gives_way order o r) (list_all (gives_way order o) rs) all in
    let over : is_above (order w) (order r.writer) ≡ true → gives_way order w r ≡ true =
    λ e. or_right (not r.is_registered) ((r.writer == w) || is_above (order w) (order r.writer))
    (or_right (r.writer == w) (is_above (order w) (order r.writer)) e) in
    and_from (gives_way order w r) (list_all (gives_way order w) rs)
    (⊎_elim
    (λ gone. or_left (not r.is_registered) ((r.writer == w) || is_above (order w) (order r.writer)) gone)
    (λ way. ⊎_elim
    (λ its. over (ap (λ (v : ℕ). is_above (order w) (order v)) (eqb-true r.writer o its) ∙ above))
    (λ below. over (outranks-trans (order w) (order o) (order r.writer) above below))
    (or_cases (r.writer == o) (is_above (order o) (order r.writer)) way))
    (or_cases (not r.is_registered) ((r.writer == o) || is_above (order o) (order r.writer)) parts.0))
    (all-above order o w rs parts.1 above)

-- one that is not above another that is registered does not
not-first : (order : ℕ → Option Precedence) (o w : ℕ) (rs : List Registration) → has_writer o rs ≡ true
    → (o == w) ≡ false → is_above (order w) (order o) ≡ false → list_all (gives_way order w) rs ≡ false
not-first order o w [] there other below = absurd (cc)
not-first order o w (r ∷ rs) there other below =
    ⊎_elim
    (λ here. let parts = and_parts (r.writer == o) r.is_registered here in
    ap (λ (b : Bool). b && list_all (gives_way order w) rs)
    (ap (λ (b : Bool). not b || ((r.writer == w) || is_above (order w) (order r.writer))) parts.1
    ∙ (ap (λ (v : ℕ). (v == w) || is_above (order w) (order v)) (eqb-true r.writer o parts.0)
    ∙ (ap (λ (b : Bool). b || is_above (order w) (order o)) other ∙ below))))
    (λ later. ap (λ (b : Bool). gives_way order w r && b) (not-first order o w rs later other below)
    ∙ and-false (gives_way order w r))
    (or_cases ((r.writer == o) && r.is_registered) (has_writer o rs) there)
  where
    and-false : (b : Bool) → (b && false) ≡ false
    and-false true = refl
    and-false false = refl

-- so whether a writer comes first is told by the one that does
beside-first : (order : ℕ → Option Precedence) (o w : ℕ) (rs : List Registration) → ComesFirst order rs o
    → ((o == w) || is_above (order w) (order o)) ≡ list_all (gives_way order w) rs
beside-first order o w rs first =
    ⊎_elim
    (λ same. or_left (o == w) (is_above (order w) (order o)) same
    ∙ sym (sym (ap (λ (v : ℕ). list_all (gives_way order v) rs) (eqb-true o w same)) ∙ first.is_first))
    (λ other. ap (λ (b : Bool). b || is_above (order w) (order o)) other
    ∙ ⊎_elim
    (λ above. above ∙ sym (all-above order o w rs first.is_first above))
    (λ below. below ∙ sym (not-first order o w rs first.is_there other below))
    (cases_Bool (is_above (order w) (order o))))
    (cases_Bool (o == w))

-- what is known of the owner that is kept, where it is the owner by the strengths that are kept
current : (q : ReaderQos) (h : List Happening) (kept : KeptStrengths) (owner : Option KeptOwner)
    (rs : List Registration) (w : ℕ) → TellsStrengths kept h → IsKeptOwner owner q rs h
    → owner_by kept owner ≡ Some w
    → (ComesFirst (precedence_of q h) rs w) × (kept.changes < MAX_CHANGES)
current q h kept None rs w tells is by = absurd (cc)
current q h kept (Some o) rs w tells is by =
    one ((kept.changes == o.changes) && nat_lt kept.changes MAX_CHANGES) refl by
  where
    below : nat_lt kept.changes MAX_CHANGES ≡ true → kept.changes < MAX_CHANGES
    below e = grind (arith, nat_tests)

    one : (b : Bool) → ((kept.changes == o.changes) && nat_lt kept.changes MAX_CHANGES) ≡ b
        → (if b then Some o.writer else None) ≡ Some w
        → (ComesFirst (precedence_of q h) rs w) × (kept.changes < MAX_CHANGES)
    one false is_not e = absurd (cc)
    one true is_so e =
        let parts = and_parts (kept.changes == o.changes) (nat_lt kept.changes MAX_CHANGES) is_so in
        let same : o.writer ≡ w = cc in
        let counted = tells.counts (below parts.1) in (
          subst (λ (v : ℕ). ComesFirst (precedence_of q h) rs v) same
              (is.1 (sym (eqb-true kept.changes o.changes parts.0) ∙ counted)),
          below parts.1,
        )

-- the writer of a change comes first by the owner that is kept where it comes first of all
pub first-is-all : (q : ReaderQos) (h : List Happening) (a : Arrival) (kept : KeptStrengths) (owner : Option KeptOwner)
    (rs : List Registration) → TellsStrengths kept h → IsKeptOwner owner q rs h
    → first_among (order_by q kept (Some a)) (owner_before kept owner a) rs a.writer
    ≡ list_all (gives_way (order_by q kept (Some a)) a.writer) rs
first-is-all q h a kept owner rs tells is =
    by_new (is_new_strength a.change.strength (kept_strength kept a.writer)) refl
  where
    by_owner : is_new_strength a.change.strength (kept_strength kept a.writer) ≡ false
        → (known : Option ℕ) → owner_by kept owner ≡ known
        → first_among (order_by q kept (Some a)) known rs a.writer
        ≡ list_all (gives_way (order_by q kept (Some a)) a.writer) rs
    by_owner old None by = refl
    by_owner old (Some w) by =
        let it = current q h kept owner rs w tells is by in
        let told = tells.tells a.writer in
        let same : strength_changes (Came a ∷ h) ≡ strength_changes h =
        ap (λ (b : Bool). if b then suc (strength_changes h) else strength_changes h)
        (sym (ap (λ (o : Option ℤ). is_new_strength a.change.strength o) told) ∙ old) in
        beside-first (order_by q kept (Some a)) w a.writer rs
        (first-same (precedence_of q (Came a ∷ h)) (order_by q kept (Some a))
        (λ v. sym (order-came q h a kept tells v)) rs w
        (first-on-too (precedence_of q h) (precedence_of q (Came a ∷ h)) (above-on q (Came a) h same) rs w it.0))

    by_new : (b : Bool) → is_new_strength a.change.strength (kept_strength kept a.writer) ≡ b
        → first_among (order_by q kept (Some a)) (if b then None else owner_by kept owner) rs a.writer
        ≡ list_all (gives_way (order_by q kept (Some a)) a.writer) rs
    by_new true new = refl
    by_new false old = by_owner old (owner_by kept owner) refl

-- ---- what is accepted

admits-same : (o : OwnershipQos) (b c : Bool) → (o ≡ Exclusive → b ≡ c) → admits o b ≡ admits o c
admits-same Shared b c same = refl
admits-same Exclusive b c same = same refl

-- what is accepted among the registrations is what is accepted
pub accepted-among : (q : ReaderQos) (h : List Happening) (a : Arrival) (kept : KeptStrengths)
    (was : Kept) → (q.ownership ≡ Exclusive → TellsStrengths kept h) → StandsFor was q a.change.key h
    → accepted_among (order_by q kept (Some a)) q (owner_before kept was.owner a) was.registrations a.writer a.change.kind
    ≡ accepted_kind q a.change.key h (Came a)
accepted-among q h a kept was tells given =
    let rs : List Registration = was.registrations in
    let owner : Option KeptOwner = was.owner in
    let ws : List ℕ = first_handles q h (places_of was) in
    ap (λ (b : Bool). if is_write_or_dispose a.change.kind && b then Some a.change.kind else None)
    (admits-same q.ownership
    (first_among (order_by q kept (Some a)) (owner_before kept owner a) rs a.writer)
    (outranks_all q (Came a ∷ h) (registered_writers q a.change.key h) a.writer)
    (λ exclusive. first-is-all q h a kept owner rs (tells exclusive) given.owner_is
    ∙ (gives-same (order_by q kept (Some a)) (precedence_of q (Came a ∷ h))
    (order-came q h a kept (tells exclusive)) a.writer rs
    ∙ (ap (λ (xs : List Registration). list_all (gives_way (precedence_of q (Came a ∷ h)) a.writer) xs)
    given.registrations_are
    ∙ (sym (all-each q a.change.key (Came a ∷ h) h a.writer ws)
    ∙ ap (λ (vs : List ℕ). outranks_all q (Came a ∷ h) vs a.writer)
    (sym (registered-first was q a.change.key h given)))))))
    ∙ ap (λ (b : Bool). if b && (is_write_or_dispose a.change.kind
    && admits q.ownership (outranks_all q (Came a ∷ h) (registered_writers q a.change.key h) a.writer))
    then Some a.change.kind else None)
    (sym (same_key-refl a.change.key))

-- ---- the owner that is to be kept

record FoundAt (p : ℕ → Bool) (ws : List ℕ) (w : ℕ) : Type 0 where
  holds : p w ≡ true
  among : is_one_of ws w ≡ true

found-here : (p : ℕ → Bool) (v w : ℕ) (ws : List ℕ) (b : Bool) → p v ≡ b → (find p ws ≡ Some w → FoundAt p ws w)
    → cond b (Some v) (find p ws) ≡ Some w → FoundAt p (v ∷ ws) w
found-here p v w ws true here rest is = let same : v ≡ w = cc in record {
  holds = sym (ap p same) ∙ here;
  among = or_left (v == w) (is_one_of ws w) (ap (λ (n : ℕ). n == w) same ∙ eqb-refl w);
}
found-here p v w ws false gone rest is = let later = rest is in record {
  holds = later.holds;
  among = or_right (v == w) (is_one_of ws w) later.among;
}

found-at : (p : ℕ → Bool) (ws : List ℕ) (w : ℕ) → find p ws ≡ Some w → FoundAt p ws w
found-at p [] w e = absurd (cc)
found-at p (v ∷ ws) w e = found-here p v w ws (p v) refl (found-at p ws w) e

there-one : (b x : Bool) (v w : ℕ) (ws : List ℕ) (rest : Bool) → is_one_of ws w ≡ rest
    → is_one_of (cond b (v ∷ ws) ws) w ≡ (((v == w) && b) || rest)
there-one true x v w ws rest e = ap (λ (y : Bool). (v == w) || y) e ∙ ap (λ (y : Bool). y || rest) (all-true (v == w))
  where
    all-true : (y : Bool) → y ≡ (y && true)
    all-true true = refl
    all-true false = refl
there-one false x v w ws rest e = e ∙ ap (λ (y : Bool). y || rest) (none-true (v == w))
  where
    none-true : (y : Bool) → false ≡ (y && false)
    none-true true = refl
    none-true false = refl

-- one of the registered writers has a registration
one-there : (i : Key) (h : List Happening) (w : ℕ) (ws : List ℕ)
    → is_one_of (filter (λ v. is_registered i v h) ws) w ≡ has_writer w (map (registration_of i h) ws)
one-there i h w [] = refl
one-there i h w (v ∷ ws) =
    there-one (is_registered i v h) true v w (filter (λ x. is_registered i x h) ws)
    (has_writer w (map (registration_of i h) ws)) (one-there i h w ws)

owner-first : (q : ReaderQos) (i : Key) (h : List Happening) (was : Kept) (w : ℕ) → StandsFor was q i h
    → owner_of q h (registered_writers q i h) ≡ Some w → ComesFirst (precedence_of q h) was.registrations w
owner-first q i h was w given owns =
    let ws : List ℕ = first_handles q h (places_of was) in
    let vs : List ℕ = filter (λ v. is_registered i v h) ws in
    let found = found-at (outranks_all q h vs) vs w
    (ap (λ (us : List ℕ). owner_of q h us) (sym (registered-first was q i h given)) ∙ owns) in
    record {
      is_there = ap (λ (xs : List Registration). has_writer w xs) given.registrations_are
          ∙ (sym (one-there i h w ws) ∙ found.among);
      is_first = ap (λ (xs : List Registration). list_all (gives_way (precedence_of q h) w) xs) given.registrations_are
          ∙ (sym (all-each q i h h w ws) ∙ found.holds);
    }

-- the leader may be kept, if it is the owner
owner-kept : (q : ReaderQos) (i : Key) (h : List Happening) (kept : KeptStrengths) (was : Kept)
    → TellsStrengths kept h → StandsFor was q i h
    → IsKeptOwner (owner_to_keep (order_by q kept None) kept was.registrations) q was.registrations h
owner-kept q i h kept was tells given = one (nat_lt kept.changes MAX_CHANGES) refl
  where
    rs : List Registration
    rs = was.registrations

    below : nat_lt kept.changes MAX_CHANGES ≡ true → kept.changes < MAX_CHANGES
    below e = grind (arith, nat_tests)

    by_leader : kept.changes < MAX_CHANGES → (s : Option ℕ)
        → s ≡ owner_of q h (registered_writers q i h)
        → IsKeptOwner (option_map (λ (w : ℕ). record { writer = w; changes = kept.changes }) s) q rs h
    by_leader within None owns = tt
    by_leader within (Some w) owns =
        let counted = tells.counts within in
        (omega (arith, counted), λ same. owner-first q i h was w given (sym owns))

    one : (b : Bool) → nat_lt kept.changes MAX_CHANGES ≡ b
        → IsKeptOwner (if b
        then option_map (λ (w : ℕ). record { writer = w; changes = kept.changes })
        (sole (leader_among (order_by q kept None) None rs))
        else None) q rs h
    one true is_so = by_leader (below is_so) (sole (leader_among (order_by q kept None) None rs))
        (owner-found q i h kept was tells given)
    one false is_not = tt

-- the owner that is kept is the owner, where no strength has changed since
pub owner-current : (q : ReaderQos) (i : Key) (h : List Happening) (kept : KeptStrengths) (was : Kept) (w : ℕ)
    → TellsStrengths kept h → StandsFor was q i h
    → owner_by kept was.owner ≡ Some w → owner_of q h (registered_writers q i h) ≡ Some w
owner-current q i h kept was w tells given by =
    let first = (current q h kept was.owner was.registrations w tells given.owner_is by).0 in
    let us : List ℕ = first_handles q h (places_of was) in
    let ws : List ℕ = filter (λ v. is_registered i v h) us in
    let among : is_one_of ws w ≡ true =
    one-there i h w us
    ∙ (sym (ap (λ (xs : List Registration). has_writer w xs) given.registrations_are) ∙ first.is_there) in
    let all : outranks_all q h ws w ≡ true =
    all-each q i h h w us
    ∙ (sym (ap (λ (xs : List Registration). list_all (gives_way (precedence_of q h) w) xs) given.registrations_are)
    ∙ first.is_first) in
    ap (λ (vs : List ℕ). owner_of q h vs) (registered-first was q i h given)
    ∙ find-only (outranks_all q h ws) ws w among all
    (λ u there holds. owner-one q h ws u w (owner-is q h ws u there holds) (owner-is q h ws w among all))

-- ---- what stands for what happened

-- a change came that registers a writer which was not registered: nobody is known to own
pub came-anew : (q : ReaderQos) (h : List Happening) (a : Arrival) (w : ℕ) (kept : Kept) (xs : List Registration)
    → w ≤ places_of kept → StandsFor kept q a.change.key h → a.writer ≡ w → is_unregister a.change.kind ≡ false
    → xs ≡ map (entered true w) kept.registrations
    → StandsFor (record { registrations = xs; owner = None }) q a.change.key (Came a ∷ h)
came-anew q h a w kept xs placed given writer kind put =
    let many = as-many (entered true w) kept.registrations xs put in
    record {
      registrations_are = came-stands q h a w false kept.registrations xs given.registrations_are writer kind put;
      others = λ v beyond. not-its (same_key a.change.key a.change.key) (a.writer == v) (is_unregister a.change.kind)
          (is_write_or_dispose a.change.kind) (is_registered a.change.key v h)
          (other-one a.writer v (places_of kept) (omega (arith, placed, writer)) (omega (arith, beyond, many)))
          (given.others v (omega (arith, beyond, many)));
      owner_is = tt;
    }

again-one : (x u d r : Bool) → u ≡ false → (x ≡ true → r ≡ true) → (not (x && u) && ((x && d) || r)) ≡ r
again-one true true d r e same = absurd (cc)
again-one true false true r e same = sym (same refl)
again-one true false false r e same = refl
again-one false u d r e same = refl

-- a change came that registers a writer which was registered
pub came-again : (q : ReaderQos) (h : List Happening) (a : Arrival) (w : ℕ) (kept : Kept)
    → StandsFor kept q a.change.key h → a.writer ≡ w → is_unregister a.change.kind ≡ false
    → is_there_at kept.registrations w ≡ true → StandsFor kept q a.change.key (Came a ∷ h)
came-again q h a w kept given writer kind there =
    let k : Key = a.change.key in
    other-stands kept q k (Came a) h
    (λ v. again-one (same_key k k && (a.writer == v)) (is_unregister a.change.kind) (is_write_or_dispose a.change.kind)
    (is_registered k v h) kind
    (λ its. let same : a.writer ≡ v = eqb-true a.writer v (and_parts (same_key k k) (a.writer == v) its).1 in
    ap (λ (u : ℕ). is_registered k u h) (sym same ∙ writer)
    ∙ there-registered (take (places_of kept) (writers_of q h)) k h w kept.registrations given.registrations_are there))
    given

-- a change came that ends a registration
pub came-ended : (q : ReaderQos) (h : List Happening) (a : Arrival) (w : ℕ) (kept : Kept) (xs : List Registration)
    → StandsFor kept q a.change.key h → a.writer ≡ w → is_unregister a.change.kind ≡ true
    → xs ≡ map (entered false w) kept.registrations
    → StandsFor (record { registrations = xs; owner = owner_but w kept.owner }) q a.change.key (Came a ∷ h)
came-ended q h a w kept xs given writer kind put =
    record {
      registrations_are = came-stands q h a w true kept.registrations xs given.registrations_are writer kind put;
      others = λ v beyond. none-by (same_key a.change.key a.change.key) (a.writer == v) (is_unregister a.change.kind)
          (is_write_or_dispose a.change.kind) (is_registered a.change.key v h)
          (λ stays. absurd (let clash : true ≡ false = sym kind ∙ stays in cc))
          (given.others v (omega (arith, beyond, as-many (entered false w) kept.registrations xs put)));
      owner_is =
          subst (λ (rs : List Registration). IsKeptOwner (owner_but w kept.owner) q rs (Came a ∷ h)) (sym put)
          (ended-kept q (Came a) h w kept.owner kept.registrations given.owner_is);
    }

and-none : (b : Bool) → (b && false) ≡ false
and-none true = refl
and-none false = refl

-- a writer died
pub died-ended : (q : ReaderQos) (i : Key) (h : List Happening) (w now : ℕ) (kept : Kept) (xs : List Registration)
    → StandsFor kept q i h → xs ≡ map (entered false w) kept.registrations
    → StandsFor (record { registrations = xs; owner = owner_but w kept.owner }) q i (Died w now ∷ h)
died-ended q i h w now kept xs given put =
    record {
      registrations_are = died-stands q i h w now kept.registrations xs given.registrations_are put;
      others = λ v beyond.
          ap (λ (b : Bool). not (w == v) && b)
          (given.others v (omega (arith, beyond, as-many (entered false w) kept.registrations xs put)))
          ∙ and-none (not (w == v));
      owner_is =
          subst (λ (rs : List Registration). IsKeptOwner (owner_but w kept.owner) q rs (Died w now ∷ h)) (sym put)
          (ended-kept q (Died w now) h w kept.owner kept.registrations given.owner_is);
    }

-- the owner that is kept anew
pub owner-anew : (q : ReaderQos) (i : Key) (h : List Happening) (kept : KeptStrengths) (was : Kept)
    → TellsStrengths kept h → StandsFor was q i h
    → StandsFor (record {
      registrations = was.registrations;
      owner = owner_to_keep (order_by q kept None) kept was.registrations;
    }) q i h
owner-anew q i h kept was tells given = record {
  registrations_are = given.registrations_are;
  others = given.others;
  owner_is = owner-kept q i h kept was tells given;
}

-- nobody is kept as the owner where nothing has come
none-owns : (q : ReaderQos) (i : Key) (ws : List ℕ) (owner : Option KeptOwner) (h : List Happening)
    → IsKeptOwner owner q (map (registration_of i []) ws) [] → (rs : List Registration) → IsKeptOwner owner q rs h
none-owns q i ws None h kept rs = tt
none-owns q i ws (Some o) h kept rs =
    let low : o.changes ≤ 0 = kept.0 in
    clash (has_writer o.writer (map (registration_of i []) ws)) (kept.1 (omega (arith, low))).is_there
    (has-none i [] o.writer ws refl)

-- the first of the matched writers are those of the opening, if there were so many
first-ever : (q : ReaderQos) (h : List Happening) (n : ℕ) → n ≤ length (writers_of q [])
    → first_handles q h n ≡ first_handles q [] n
first-ever q [] n few = refl
first-ever q (e ∷ h) n few =
    first-on q e h n (omega (arith, few, never-fewer q h)) ∙ first-ever q h n few
  where
    never-fewer : (q : ReaderQos) (g : List Happening) → length (writers_of q []) ≤ length (writers_of q g)
    never-fewer q [] = omega arith
    never-fewer q (e ∷ g) = omega (arith, never-fewer q g, no-fewer-writers q e g)

-- what stands for an instance of which nothing has come stands for one of which nobody is registered
pub stands-anew : (kept : Kept) (q : ReaderQos) (i : Key) (h : List Happening) → StandsFor kept q i []
    → ((w : ℕ) → is_registered i w h ≡ false) → StandsFor kept q i h
stands-anew kept q i h given nobody =
    let n : ℕ = places_of kept in
    record {
      registrations_are =
          given.registrations_are
          ∙ (sym (same-registrations i [] h (first_handles q [] n) nobody)
          ∙ ap (λ (ws : List ℕ). map (registration_of i h) ws)
          (sym (first-ever q h n (few-places kept q i [] given))));
      others = λ w beyond. nobody w;
      owner_is =
          none-owns q i (first_handles q [] n) kept.owner h
          (subst (λ (rs : List Registration). IsKeptOwner kept.owner q rs []) given.registrations_are given.owner_is)
          kept.registrations;
    }

-- owners that are blank stand for each instance for which nobody is registered
pub blank-owners : (n : ℕ) (rs : List Registration) → rs ≡ blank_registrations 1 n
    → IsBlank n (record { registrations = rs; owner = None })
blank-owners n rs are =
    let many : length rs ≡ n = ap (λ (xs : List Registration). length xs) are ∙ length-blank 1 n in
    record {
      places = many;
      nobody = ap (λ (xs : List Registration). list_any is_there xs) are ∙ blank-nobody 1 n;
      stands = λ q i h few nobody. record {
        registrations_are =
            are ∙ (blank-stands i h 1 n (writers_of q h) few nobody
            ∙ ap (λ (m : ℕ). map (registration_of i h) (first_handles q h m)) (sym many));
        others = λ w beyond. nobody w;
        owner_is = tt;
      };
    }

-- who is not registered need not be given way to
none-gives : (order : ℕ → Option Precedence) (w : ℕ) (rs : List Registration) → list_any is_there rs ≡ false
    → list_all (gives_way order w) rs ≡ true
none-gives order w [] none = refl
none-gives order w (r ∷ rs) none =
    let parts = both r.is_registered (list_any is_there rs) none in
    and_from (gives_way order w r) (list_all (gives_way order w) rs)
    (ap (λ (b : Bool). not b || ((r.writer == w) || is_above (order w) (order r.writer))) parts.0)
    (none-gives order w rs parts.1)
  where
    both : (a b : Bool) → (a || b) ≡ false → (a ≡ false) × (b ≡ false)
    both true b e = absurd cc
    both false b e = (refl, e)

-- so the owner that is kept goes on beside those
kept-with : (q : ReaderQos) (h : List Happening) (owner : Option KeptOwner) (rs xs : List Registration)
    → list_any is_there xs ≡ false → IsKeptOwner owner q rs h → IsKeptOwner owner q (rs ++ xs) h
kept-with q h None rs xs none kept = tt
kept-with q h (Some o) rs xs none kept = (
  kept.0,
  λ same. let first = kept.1 same in
      record {
        is_there =
            list_any-append (λ (r : Registration). (r.writer == o.writer) && r.is_registered) rs xs
            ∙ or_left (has_writer o.writer rs) (has_writer o.writer xs) first.is_there;
        is_first =
            list_all-append (gives_way (precedence_of q h) o.writer) rs xs
            ∙ and_from (list_all (gives_way (precedence_of q h) o.writer) rs)
            (list_all (gives_way (precedence_of q h) o.writer) xs) first.is_first
            (none-gives (precedence_of q h) o.writer xs none);
      },
)

-- a reader that is opened with these writers
abbrev opened_with : ReaderQos → List MatchedWriter → ReaderQos
opened_with q writers = record q { writers = writers }

-- more places, which blank owners have, stand for what fewer stood for
pub widened : (n : ℕ) (q : ReaderQos) (i : Key) (h : List Happening) (kept blank : Kept) (xs : List Registration)
    → IsBlank n blank → n ≤ length (writers_of q h) → places_of kept ≤ places_of blank
    → xs ≡ kept.registrations ++ drop (places_of kept) blank.registrations → StandsFor kept q i h
    → StandsFor (record { registrations = xs; owner = kept.owner }) q i h
widened n q i h kept blank xs is_blank few more put given =
    let o : ReaderQos = opened_with q (writers_of q h) in
    let ws : List MatchedWriter = writers_of q h in
    let all : writers_of o [] ≡ ws = append-nil ws in
    let stands : StandsFor blank o i [] =
    is_blank.stands o i [] (omega (arith, few, ap (λ (ys : List MatchedWriter). length ys) all)) (λ w. refl) in
    let blanks : blank.registrations ≡ map (registration_of i []) (numbered_from 1 (take (places_of blank) ws)) =
    stands.registrations_are
    ∙ ap (λ (ys : List MatchedWriter). map (registration_of i []) (numbered_from 1 (take (places_of blank) ys))) all in
    let are : xs ≡ map (registration_of i h) (numbered_from 1 (take (places_of blank) ws)) =
    put
    ∙ (ap (λ (rs : List Registration). rs ++ drop (places_of kept) blank.registrations) given.registrations_are
    ∙ (ap (λ (rs : List Registration). map (registration_of i h) (first_handles q h (places_of kept))
    ++ drop (places_of kept) rs) blanks
    ∙ places-more i h 1 (places_of kept) (places_of blank) ws more
    (λ w low. given.others w (omega (arith, low))))) in
    let many : length xs ≡ places_of blank =
    ap (λ (rs : List Registration). length rs) are
    ∙ (length-map (numbered_from 1 (take (places_of blank) ws)) (registration_of i h)
    ∙ (sym (length-map (numbered_from 1 (take (places_of blank) ws)) (registration_of i []))
    ∙ sym (ap (λ (rs : List Registration). length rs) blanks))) in
    record {
      registrations_are =
          are ∙ ap (λ (m : ℕ). map (registration_of i h) (first_handles q h m)) (sym many);
      others = λ w beyond. given.others w (omega (arith, beyond, many, more));
      owner_is =
          subst (λ (rs : List Registration). IsKeptOwner kept.owner q rs h) (sym put)
          (kept-with q h kept.owner kept.registrations (drop (places_of kept) blank.registrations)
          (none-dropped (places_of kept) blank.registrations is_blank.nobody) given.owner_is);
    }
