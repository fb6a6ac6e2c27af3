-- Lists whose elements are numbered from 1, walked from the front.
use Rattle.std.proofs.Common.{◌≡◌, ◌⊎◌, ℕ, zero, suc, ◌+◌, ◌-◌, ◌<◌, ◌≤◌, Bool, true, false, cond, ◌&&◌, List, [], ◌∷◌, ◌++◌, Some, drop, get_or, length, slice_get, refl, ap, sym, ◌∙◌, subst, arith, inl, inr, ⊎_elim, eqb-true, append_assoc}
use Rattle.std.proofs.lemmas.List.{drop_more}
use Rattle.std.proofs.lemmas.Option.{same_Some}
use Rattle.dds_base.specs.declared.config.PeerConfig.{PeerConfig}
use Rattle.dds_base.specs.declared.config.WriterConfig.{WriterConfig}
use Rattle.dds_base.specs.Matched.{same_topic, of_ends_in, of_matched_ends, of_matched_writers}
use Rattle.dds_base.specs.MatchedAt.{of_writers_in}
use Rattle.dds_protocol.specs.Claims.{IsNumbered}

-- what is left of a list, from the element of this number on
pub record IsRest {X : Type 0} (all : List X) (n : ℕ) (rest : List X) : Type 0 where
  pub low : 1 ≤ n
  pub there : (j : ℕ) (x : X) → slice_get rest j ≡ Some x → slice_get all (n + j - 1) ≡ Some x

pub rest_whole : {X : Type 0} (all : List X) → IsRest all 1 all
rest_whole all =
    record {
      low = omega arith;
      there = λ j x at. let same : 1 + j - 1
          ≡ j = omega arith in subst (λ (m : ℕ). slice_get all m ≡ Some x) (sym same) at;
    }

pub rest_first : {X : Type 0} (all : List X) (n : ℕ) (x : X) (xs : List X) → IsRest all n (x ∷ xs) → IsNumbered all n x
rest_first all n x xs h =
    let first : n + 0 - 1 ≡ n - 1 = omega arith in
    (h.low, subst (λ (m : ℕ). slice_get all m ≡ Some x) first (h.there zero x refl))

pub rest_later : {X : Type 0} (all : List X) (n : ℕ) (x : X) (xs : List X) → IsRest all n (x ∷ xs)
    → IsRest all (n + 1) xs
rest_later all n x xs h = record {
  low = omega arith;
  there =
      λ j y at. let low = h.low in let same : n + suc j - 1
      ≡ n + 1 + j - 1 = omega (arith, low) in subst (λ (m : ℕ). slice_get all m ≡ Some y) same (h.there (suc j) y at);
}

-- an element of a list that begins with this one, if so
pub cond_get : {X : Type 0} (b : Bool) (x : X) (xs : List X) (k : ℕ) (y : X) → slice_get (cond b (x ∷ xs) xs) k ≡ Some y
    → ((b ≡ true) × (x ≡ y)) ⊎ ((j : ℕ) × (slice_get xs j ≡ Some y))
cond_get true x xs zero y at = inl (refl, same_Some x y at)
cond_get true x xs (suc k) y at = inr (k, at)
cond_get false x xs k y at = inr (k, at)

-- an element of one list or of the other
pub append_get : {X : Type 0} (xs ys : List X) (k : ℕ) (y : X) → slice_get (xs ++ ys) k ≡ Some y
    → ((j : ℕ) × (slice_get xs j ≡ Some y)) ⊎ ((j : ℕ) × (slice_get ys j ≡ Some y))
append_get [] ys k y at = inr (k, at)
append_get (x ∷ xs) ys zero y at = inl (zero, at)
append_get (x ∷ xs) ys (suc k) y at = ⊎_elim (λ f. inl (suc f.0, f.1)) (λ f. inr f) (append_get xs ys k y at)

first_true : (a b : Bool) → (a && b) ≡ true → a ≡ true
first_true true b both = refl
first_true false b both = absurd cc

second_true : (a b : Bool) → (a && b) ≡ true → b ≡ true
second_true true b both = both
second_true false b both = absurd cc

-- what is told of matched ends is told of one of the topic
pub record IsTold {E X : Type 0} (all : List PeerConfig) (ends : PeerConfig → List E) (is_wanted : E → Bool)
    (topic_of : E → ℕ) (tell : ℕ → PeerConfig → ℕ → E → X) (topic : ℕ) (x : X) : Type 0 where
  pub number : ℕ
  pub peer : PeerConfig
  pub at_peer : IsNumbered all number peer
  pub end_number : ℕ
  pub end : E
  pub at_end : IsNumbered (ends peer) end_number end
  pub wanted : is_wanted end ≡ true
  pub same_topic : topic_of end ≡ topic
  pub told : tell number peer end_number end ≡ x

told_in : {E X : Type 0} (all : List PeerConfig) (ends : PeerConfig → List E) (is_wanted : E → Bool)
    (topic_of : E → ℕ) (tell : ℕ → PeerConfig → ℕ → E → X) (topic i : ℕ) (p : PeerConfig) (n : ℕ) (es : List E) → IsNumbered all i p
    → IsRest (ends p) n es
    → (k : ℕ) (x : X) → slice_get (of_ends_in is_wanted topic_of (tell i p) topic n es) k ≡ Some x
    → IsTold all ends is_wanted topic_of tell topic x
told_in all ends is_wanted topic_of tell topic i p n [] here rest k x at = absurd cc
told_in all ends is_wanted topic_of tell topic i p n (e ∷ es) here rest k x at =
    ⊎_elim (λ f. record {
      number = i;
      peer = p;
      at_peer = here;
      end_number = n;
      end = e;
      at_end = rest_first
          (ends p) n e es rest;
      wanted = first_true (is_wanted e) (same_topic (topic_of e) topic) f.0;
      same_topic = eqb-true (topic_of e) topic (second_true (is_wanted e) (same_topic (topic_of e) topic) f.0);
      told = f.1;
    })
    (λ f. told_in all ends is_wanted topic_of tell topic i p (n + 1) es here (rest_later (ends p) n e es rest) f.0 x f.1)
    (cond_get (is_wanted e && same_topic (topic_of e) topic) (tell i p n e)
    (of_ends_in is_wanted topic_of (tell i p) topic (n + 1) es) k x at)

pub is_told : {E X : Type 0} (all : List PeerConfig) (ends : PeerConfig → List E) (is_wanted : E → Bool)
    (topic_of : E → ℕ) (tell : ℕ → PeerConfig → ℕ → E → X) (topic i : ℕ) (ps : List PeerConfig) → IsRest all i ps
    → (k : ℕ) (x : X) → slice_get (of_matched_ends ends is_wanted topic_of tell topic i ps) k ≡ Some x
    → IsTold all ends is_wanted topic_of tell topic x
is_told all ends is_wanted topic_of tell topic i [] rest k x at = absurd cc
is_told all ends is_wanted topic_of tell topic i (p ∷ ps) rest k x at =
    ⊎_elim (λ f. told_in all ends is_wanted topic_of tell topic i p 1 (ends p) (rest_first all i p ps rest)
    (rest_whole (ends p)) f.0 x f.1)
    (λ f. is_told all ends is_wanted topic_of tell topic (i + 1) ps (rest_later all i p ps rest) f.0 x f.1)
    (append_get (of_ends_in is_wanted topic_of (tell i p) topic 1 (ends p))
    (of_matched_ends ends is_wanted topic_of tell topic (i + 1) ps) k x at)

-- what is told of the writers of one peer more, of this number
pub writers_on : {X : Type 0} (tell : ℕ → PeerConfig → ℕ → WriterConfig → X) (topic n next i : ℕ)
    (peers : List PeerConfig) (d : PeerConfig) (old new all : List X) → next ≡ n + 1 → i < length peers
    → new ≡ old ++ of_writers_in (tell n (get_or peers i d)) topic 1 (get_or peers i d).writers
    → old ++ of_matched_writers tell topic n (drop i peers) ≡ all
    → new ++ of_matched_writers tell topic next (drop (i + 1) peers) ≡ all
writers_on {X} tell topic n next i peers d old new all is lt more before =
    let p : PeerConfig = get_or peers i d in
    let rest : List X = of_matched_writers tell topic (n + 1) (drop (i + 1) peers) in
    ap (λ (m : ℕ). new ++ of_matched_writers tell topic m (drop (i + 1) peers)) is
    ∙ (ap (λ (xs : List X). xs ++ rest) more
    ∙ (append_assoc old (of_writers_in (tell n p) topic 1 p.writers) rest
    ∙ (sym (ap (λ (ps : List PeerConfig). old ++ of_matched_writers tell topic n ps) (drop_more peers i d lt))
    ∙ before)))
