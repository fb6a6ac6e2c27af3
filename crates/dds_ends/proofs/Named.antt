-- Whom a submessage names, and that each end of a topic is among those that are told of.
use Rattle.std.specs.Prelude.{IfNone}
use Rattle.rtps_wire.specs.declared.submessage.Submessage.{Submessage}
use Rattle.rtps_wire.specs.declared.submessage.Submessage.TheVariants.{Data, Heartbeat, Gap}
use Rattle.std.proofs.Common.{◌≡◌, Option, ℕ, zero, suc, ◌+◌, Bool, true, false, cond, ◌&&◌, List, [], ◌∷◌, ◌++◌, Some, None, slice_get, refl, ap, sym, ◌∙◌, arith, eq-eqb}
use Rattle.std.proofs.lemmas.Option.{same_Some}
use Rattle.std.proofs.lemmas.Bool.{and_from}
use Rattle.dds_base.specs.declared.config.PeerConfig.{PeerConfig}
use Rattle.dds_base.specs.declared.guid.EntityId.{EntityId}
use Rattle.dds_base.specs.declared.guid.GuidPrefix.{GuidPrefix}
use Rattle.dds_base.specs.Matched.{same_topic, of_ends_in, of_matched_ends}
use Rattle.dds_protocol.specs.Claims.{Receiver}
use Rattle.dds_ends.specs.Kept.{ReaderKept}
use Rattle.dds_ends.specs.Readiness.{IsFirstName, IsNamedFor, NamedBy, writer_guid}

-- an element that stands in a list stands in it with more before or after it
pub in_first : {X : Type 0} (xs ys : List X) (j : ℕ) (x : X) → slice_get xs j ≡ Some x
    → (k : ℕ) × (slice_get (xs ++ ys) k ≡ Some x)
in_first [] ys j x h = absurd cc
in_first (a ∷ as') ys zero x h = (zero, h)
in_first (a ∷ as') ys (suc j) x h = let r = in_first as' ys j x h in (suc r.0, r.1)

pub in_last : {X : Type 0} (xs ys : List X) (j : ℕ) (x : X) → slice_get ys j ≡ Some x
    → (k : ℕ) × (slice_get (xs ++ ys) k ≡ Some x)
in_last [] ys j x h = (j, h)
in_last (a ∷ as') ys j x h = let r = in_last as' ys j x h in (suc r.0, r.1)

in_more : {X : Type 0} (b : Bool) (a : X) (xs : List X) (j : ℕ) (x : X) → slice_get xs j ≡ Some x
    → (k : ℕ) × (slice_get (cond b (a ∷ xs) xs) k ≡ Some x)
in_more true a xs j x h = (suc j, h)
in_more false a xs j x h = (j, h)

in_here : {X : Type 0} (b : Bool) (a : X) (xs : List X) → b ≡ true
    → (k : ℕ) × (slice_get (cond b (a ∷ xs) xs) k ≡ Some a)
in_here true a xs h = (zero, refl)
in_here false a xs h = cc

-- each end of the topic is told of
told_end : {E X : Type 0} (is_wanted : E → Bool) (topic_of : E → ℕ) (tell : ℕ → E → X) (topic n : ℕ) (es : List E)
    (j : ℕ) (e : E) → slice_get es j ≡ Some e → is_wanted e ≡ true → topic_of e ≡ topic
    → (k : ℕ) × (slice_get (of_ends_in is_wanted topic_of tell topic n es) k ≡ Some (tell (n + j) e))
told_end is_wanted topic_of tell topic n [] j e at wanted is = absurd cc
told_end {X = X} is_wanted topic_of tell topic n (a ∷ as') zero e at wanted is =
    let same = same_Some a e at in
    let there =
    in_here (is_wanted a && same_topic (topic_of a) topic) (tell n a) (of_ends_in is_wanted topic_of tell topic (n + 1) as')
    (and_from (is_wanted a) (same_topic (topic_of a) topic) (ap is_wanted same ∙ wanted)
    (eq-eqb (topic_of a) topic (ap topic_of same ∙ is))) in
    let number : n ≡ n + 0 = omega arith in
    (there.0, there.1 ∙ (ap (λ x. Some (tell n x)) same ∙ ap (λ m. Some (tell m e)) number))
told_end is_wanted topic_of tell topic n (a ∷ as') (suc j) e at wanted is =
    let rest = told_end is_wanted topic_of tell topic (n + 1) as' j e at wanted is in
    let more =
    in_more (is_wanted a && same_topic (topic_of a) topic) (tell n a) (of_ends_in is_wanted topic_of tell topic (n + 1) as') rest.0 _ rest.1
    in
    let number : n + 1 + j ≡ n + suc j = omega arith in
    (more.0, more.1 ∙ ap (λ m. Some (tell m e)) number)

pub told : {E X : Type 0} (ends : PeerConfig → List E) (is_wanted : E → Bool) (topic_of : E → ℕ) (tell : ℕ → PeerConfig → ℕ → E → X)
    (topic i : ℕ) (ps : List PeerConfig) (h : ℕ) (p : PeerConfig) (j : ℕ) (e : E) → slice_get ps h ≡ Some p
    → slice_get (ends p) j ≡ Some e
    → is_wanted e ≡ true → topic_of e ≡ topic → (k : ℕ)
    × (slice_get (of_matched_ends ends is_wanted topic_of tell topic i ps) k ≡ Some (tell (i + h) p (1 + j) e))
told ends is_wanted topic_of tell topic i [] h p j e at_p at_e wanted is = absurd cc
told ends is_wanted topic_of tell topic i (q ∷ qs) zero p j e at_p at_e wanted is =
    let same = same_Some q p at_p in
    let here = told_end is_wanted topic_of (tell i q) topic 1 (ends q) j e (ap (λ x. slice_get (ends x) j) same ∙ at_e) wanted is in
    let first =
    in_first (of_ends_in is_wanted topic_of (tell i q) topic 1 (ends q))
    (of_matched_ends ends is_wanted topic_of tell topic (i + 1) qs) here.0 _ here.1 in
    let number : i ≡ i + 0 = omega arith in
    (first.0, first.1 ∙ (ap (λ x. Some (tell i x (1 + j) e)) same ∙ ap (λ m. Some (tell m p (1 + j) e)) number))
told ends is_wanted topic_of tell topic i (q ∷ qs) (suc h) p j e at_p at_e wanted is =
    let rest = told ends is_wanted topic_of tell topic (i + 1) qs h p j e at_p at_e wanted is in
    let last =
    in_last (of_ends_in is_wanted topic_of (tell i q) topic 1 (ends q))
    (of_matched_ends ends is_wanted topic_of tell topic (i + 1) qs) rest.0 _ rest.1 in
    let number : i + 1 + h ≡ i + suc h = omega arith in
    (last.0, last.1 ∙ ap (λ m. Some (tell m p (1 + j) e)) number)

-- the names of a submessage are one
pub names_one : (s : Submessage) (a b c d : EntityId) → NamedBy s a b → NamedBy s c d → (a ≡ c) × (b ≡ d)
names_one (Data x) a b c d f g = (f.0 ∙ sym g.0, f.1 ∙ sym g.1)
names_one (Gap x) a b c d f g = (f.0 ∙ sym g.0, f.1 ∙ sym g.1)
names_one (Heartbeat x) a b c d f g = (f.0 ∙ sym g.0, f.1 ∙ sym g.1)
names_one s a b c d f g = absurd f

-- where no writer of the name was found, the submessage is not for the reader
pub none_named : (own : GuidPrefix) (kept : ReaderKept) (at : Receiver) (reader_id writer_id : EntityId)
    (found : Option ℕ) → IfNone found ((k : ℕ) → IsFirstName kept.writers (writer_guid at writer_id) k → ⊥)
    → IfNone found ((k : ℕ) → IsNamedFor own kept at reader_id writer_id k → ⊥)
none_named own kept at reader_id writer_id None h = λ k f. h k f.first
none_named own kept at reader_id writer_id (Some k) h = tt
