-- What is known goes on where no life ends.
use Rattle.std.proofs.Common.{◌≡◌, ℕ, ◌+◌, List, [], ◌∷◌, ◌++◌, length, Bool, true, false, not, ◌&&◌, ◌||◌, sym, ap, ◌∙◌, refl, cond, arith, ⊎_elim}
use Rattle.std.specs.Prelude.{is_some, if◌then◌else◌}
use Rattle.std.specs.List.{filter}
use Rattle.std.proofs.lemmas.Bool.{cases_Bool}
use Rattle.std.proofs.lemmas.List.{length-append}
use Rattle.std.proofs.lemmas.List.Elements.{filter-append}
use Rattle.dds_base.specs.declared.key.Key.{Key}
use Rattle.dds_base.specs.declared.happening.Arrival.{Arrival}
use Rattle.dds_base.specs.declared.happening.Happening.{Happening}
use Rattle.dds_base.specs.declared.happening.Happening.TheVariants.{Came}
use Rattle.dds_base.specs.declared.qos.ReaderQos.{ReaderQos}
use Rattle.dds_base.specs.Access.{lives_begun}
use Rattle.dds_base.specs.Instance.{introduced_by, introduces, is_known, known_instances}
use Rattle.dds_base.specs.Ownership.{accepted_kind}

-- a test that was applied leaves all, and so does one that it implies
filter-twice : (p t : Key → Bool) (ks : List Key) → ((k : Key) → p k ≡ true → t k ≡ true)
    → filter t (filter p ks) ≡ filter p ks
filter-twice p t [] more = refl
filter-twice p t (k ∷ ks) more = one p t k (filter p ks) (p k) refl (more k) (filter-twice p t ks more)
  where
    one : (p t : Key → Bool) (k : Key) (xs : List Key) (b : Bool) → p k ≡ b → (p k ≡ true → t k ≡ true)
        → filter t xs ≡ xs → filter t (cond b (k ∷ xs) xs) ≡ cond b (k ∷ xs) xs
    one p t k xs true is more rest =
        ap (λ (b : Bool). cond b (k ∷ filter t xs) (filter t xs)) (more is) ∙ ap (λ (ys : List Key). k ∷ ys) rest
    one p t k xs false is more rest = rest

or-left : (a b : Bool) → a ≡ true → (a || b) ≡ true
or-left true b is = refl
or-left false b is = absurd cc

or-right : (a b : Bool) → b ≡ true → (a || b) ≡ true
or-right true b is = refl
or-right false b is = is

and-right : (a b : Bool) → (a && b) ≡ true → b ≡ true
and-right true b is = is
and-right false b is = absurd cc

-- all that were known go on
kept : (q : ReaderQos) (h : List Happening) (t : Key → Bool) → ((k : Key) → is_known q h k ≡ true → t k ≡ true)
    → filter t (known_instances q h) ≡ known_instances q h
kept q [] t more = refl
kept q (e ∷ h) t more = filter-twice (is_known q (e ∷ h)) t (known_instances q h ++ introduced_by q h e) more

-- and one that becomes known is
added : (q : ReaderQos) (h : List Happening) (e : Happening) (t : Key → Bool)
    → ((k : Key) → is_some (accepted_kind q k h e) ≡ true → t k ≡ true)
    → filter t (introduced_by q h e) ≡ introduced_by q h e
added q h (Came a) t more =
    one (introduces q a.change.key h (Came a)) (is_known q h a.change.key)
    (is_some (accepted_kind q a.change.key h (Came a))) t a.change.key refl (more a.change.key)
  where
    one : (b known some : Bool) (t : Key → Bool) (k : Key) → b ≡ (not known && some) → (some ≡ true → t k ≡ true)
        → filter t (cond b (k ∷ []) []) ≡ cond b (k ∷ []) []
    one false known some t k is more = refl
    one true known some t k is more =
        ap (λ (x : Bool). cond x (k ∷ []) []) (more (and-right (not known) some (sym is)))
added q h e t more = refl

pub known-goes : (q : ReaderQos) (h : List Happening) (e : Happening)
    → ((i : Key) → is_known q (e ∷ h) i ≡ (is_known q h i || is_some (accepted_kind q i h e)))
    → known_instances q (e ∷ h) ≡ known_instances q h ++ introduced_by q h e
known-goes q h e on =
    filter-append (is_known q (e ∷ h)) (known_instances q h) (introduced_by q h e)
    ∙ (ap (λ (ks : List Key). ks ++ filter (is_known q (e ∷ h)) (introduced_by q h e))
    (kept q h (is_known q (e ∷ h)) (λ k is. on k ∙ or-left (is_known q h k) (is_some (accepted_kind q k h e)) is))
    ∙ ap (λ (ks : List Key). known_instances q h ++ ks)
    (added q h e (is_known q (e ∷ h))
    (λ k is. on k ∙ or-right (is_known q h k) (is_some (accepted_kind q k h e)) is)))

pub begun-goes : (q : ReaderQos) (h : List Happening) (e : Happening)
    → ((i : Key) → is_known q (e ∷ h) i ≡ (is_known q h i || is_some (accepted_kind q i h e)))
    → lives_begun q h ≡ length (known_instances q h)
    → lives_begun q (e ∷ h) ≡ length (known_instances q (e ∷ h))
begun-goes q h e on before =
    let all : length (known_instances q (e ∷ h)) ≡ length (known_instances q h) + length (introduced_by q h e) =
    ap length (known-goes q h e on) ∙ length-append (known_instances q h) (introduced_by q h e) in
    omega (arith, all, before)
