-- The leader among the registrations is the owner, and what is accepted among them is what is accepted.
use Rattle.std.proofs.Common.{◌≡◌, ℕ, ◌+◌, ◌<◌, ◌≤◌, List, [], ◌∷◌, ◌++◌, length, map, take, Bool, true, false, not, ◌==◌, ◌&&◌, ◌||◌, sym, ap, subst, ◌∙◌, refl, cond, Option, Some, None, ◌⊎◌, inl, inr, arith, append_assoc, ⊎_elim}
use Rattle.std.specs.Prelude.{if◌then◌else◌, find}
use Rattle.std.specs.List.{filter, list_all}
use Rattle.std.specs.Option.{option_map}
use Rattle.std.specs.Ordering.{is_gt, ordering_reverse}
use Rattle.std.specs.declared.cmp.Ordering.{Ordering}
use Rattle.std.specs.declared.cmp.Ordering.TheVariants.{Less, Equal, Greater}
use Rattle.std.proofs.lemmas.Bool.{cases_Bool, and_from, or_left, or_right, or_cases, eqb-true}
use Rattle.std.proofs.lemmas.List.{append-nil}
use Rattle.std.proofs.lemmas.List.Folds.{list_all-append, list_any-append}
use Rattle.dds_base.specs.declared.key.Key.{Key}
use Rattle.dds_base.specs.declared.happening.Happening.{Happening}
use Rattle.dds_base.specs.declared.qos.MatchedWriter.{MatchedWriter}
use Rattle.dds_base.specs.declared.qos.ReaderQos.{ReaderQos}
use Rattle.dds_base.specs.Ownership.{IsMatched, is_above, is_registered, numbered_from, outranks, outranks_all, owner_of, Precedence, precedence, precedence_of, registered_writers, writer_cmp, writer_of, writers_of}
use Rattle.dds_base.proofs.OwnerLaws.{all-at, eqb-refl, is_one_of, matched-writer, outranks-one_way, outranks-trans, owner-is, owner-one, writer_total}
use Rattle.dds_owner.specs.declared.ranking.Leader.{Leader}
use Rattle.dds_owner.specs.declared.registration.Registration.{Registration}
use Rattle.dds_owner.specs.First.{gives_way}
use Rattle.dds_owner.specs.Ranking.{leader_after, leader_among, order_by, sole}
use Rattle.dds_owner.specs.Registration.{registration_of}
use Rattle.dds_owner.specs.Standing.{Kept, KeptStrengths, StandsFor, TellsStrengths, places_of}
use Rattle.dds_owner.proofs.RegistrationLaws.{other-than, registered-first, take-fewer}
use Rattle.dds_owner.proofs.StrengthLaws.{order-kept}

-- ---- who need not give way

all-one : (b good : Bool) (w : ℕ) (ws : List ℕ) (g : ℕ → Bool) (rest : Bool) → g w ≡ good
    → list_all g ws ≡ rest → list_all g (cond b (w ∷ ws) ws) ≡ ((not b || good) && rest)
all-one true good w ws g rest is e = ap (λ (x : Bool). x && list_all g ws) is ∙ ap (λ (x : Bool). good && x) e
all-one false good w ws g rest is e = e

pub all-each : (q : ReaderQos) (i : Key) (g h : List Happening) (w : ℕ) (ws : List ℕ)
    → outranks_all q g (filter (λ v. is_registered i v h) ws) w
    ≡ list_all (gives_way (precedence_of q g) w) (map (registration_of i h) ws)
all-each q i g h w [] = refl
all-each q i g h w (v ∷ ws) =
    all-one (is_registered i v h) ((v == w) || outranks q g w v) v (filter (λ x. is_registered i x h) ws)
    (λ x. (x == w) || outranks q g w x) (list_all (gives_way (precedence_of q g) w) (map (registration_of i h) ws)) refl
    (all-each q i g h w ws)

-- ---- orders that look at the same

above-same : (o p : ℕ → Option Precedence) → ((w : ℕ) → o w ≡ p w) → (v w : ℕ) → is_above (o v) (o w)
    ≡ is_above (p v) (p w)
above-same o p same v w =
    ap (λ (x : Option Precedence). is_above x (o w)) (same v)
    ∙ ap (λ (x : Option Precedence). is_above (p v) x) (same w)

pub gives-same : (o p : ℕ → Option Precedence) → ((w : ℕ) → o w ≡ p w) → (w : ℕ) (rs : List Registration)
    → list_all (gives_way o w) rs ≡ list_all (gives_way p w) rs
gives-same o p same w [] = refl
gives-same o p same w (r ∷ rs) =
    ap (λ (b : Bool). (not r.is_registered || ((r.writer == w) || b)) && list_all (gives_way o w) rs)
    (above-same o p same w r.writer)
    ∙ ap (λ (b : Bool). gives_way p w r && b) (gives-same o p same w rs)

after-same : (o p : ℕ → Option Precedence) → ((w : ℕ) → o w ≡ p w) → (leader : Option Leader) (w : ℕ)
    → leader_after o leader w ≡ leader_after p leader w
after-same o p same None w = refl
after-same o p same (Some l) w =
    ap (λ (b : Bool). if b then record { writer = w; is_sole = true }
    else record { writer = l.writer; is_sole = l.is_sole && is_above (o l.writer) (o w) })
    (above-same o p same w l.writer)
    ∙ ap (λ (b : Bool). if is_above (p w) (p l.writer) then record { writer = w; is_sole = true }
    else record { writer = l.writer; is_sole = l.is_sole && b }) (above-same o p same l.writer w)

among-same : (o p : ℕ → Option Precedence) → ((w : ℕ) → o w ≡ p w) → (leader : Option Leader)
    (rs : List Registration) → leader_among o leader rs ≡ leader_among p leader rs
among-same o p same leader [] = refl
among-same o p same leader (r ∷ rs) =
    ap (λ (l : Leader). leader_among o (if r.is_registered then Some l else leader) rs)
    (after-same o p same leader r.writer)
    ∙ among-same o p same (if r.is_registered then Some (leader_after p leader r.writer) else leader) rs

-- ---- the order of writers

-- no writer outranks itself
above-itself : (q : ReaderQos) (g : List Happening) (w : ℕ) → outranks q g w w ≡ false
above-itself q g w =
    ⊎_elim
    (λ above. absurd (outranks-one_way (precedence_of q g w) (precedence_of q g w) above above))
    (λ no. no)
    (cases_Bool (outranks q g w w))

-- of two writers the one that is above a third, as the other is not, is above that one too
below-chain : (u v w : Precedence) (o : Ordering) → writer_cmp v u ≡ o → is_gt (writer_cmp v w) ≡ true
    → is_gt (writer_cmp u w) ≡ false → is_gt (writer_cmp u v) ≡ false → is_gt (writer_cmp v u) ≡ true
below-chain u v w Greater is above not_w not_v = ap is_gt is
below-chain u v w Equal is above not_w not_v =
    absurd (let clash : true ≡ false = sym above ∙ (ap is_gt (writer_total.congr v u w is) ∙ not_w) in cc)
below-chain u v w Less is above not_w not_v =
    absurd (let clash : true ≡ false =
    sym (ap is_gt (writer_total.antisymm u v ∙ ap ordering_reverse is)) ∙ not_v in cc)

outranks-as : (q : ReaderQos) (g : List Happening) (v w : ℕ) (a b : MatchedWriter)
    → writer_of (writers_of q g) v ≡ Some a → writer_of (writers_of q g) w ≡ Some b → outranks q g v w ≡ is_gt (writer_cmp (precedence g v a) (precedence g w b))
outranks-as q g v w a b is_a is_b =
    ap (λ (x : Option MatchedWriter). is_above (option_map (precedence g v) x) (precedence_of q g w)) is_a
    ∙ ap (λ (x : Option MatchedWriter). is_above (Some (precedence g v a)) (option_map (precedence g w) x)) is_b

-- who outranks a writer that nobody of some outranks, outranks each of these
above-others : (q : ReaderQos) (g : List Happening) (v w u : ℕ) → IsMatched q g v → IsMatched q g w → IsMatched q g u
    → outranks q g v w ≡ true → outranks q g u w ≡ false → outranks q g v u ≡ true
above-others q g v w u matched_v matched_w matched_u above not_above =
    let a = matched-writer q g v matched_v in
    let b = matched-writer q g w matched_w in
    let c = matched-writer q g u matched_u in
    let not_back : outranks q g u v ≡ false =
    ⊎_elim
    (λ back. absurd (let clash : true ≡ false =
    sym (outranks-trans (precedence_of q g u) (precedence_of q g v) (precedence_of q g w) back above)
    ∙ not_above in cc))
    (λ no. no)
    (cases_Bool (outranks q g u v)) in
    outranks-as q g v u a.0 c.0 a.1 c.1
    ∙ below-chain (precedence g u c.0) (precedence g v a.0) (precedence g w b.0)
    (writer_cmp (precedence g v a.0) (precedence g u c.0)) refl
    (sym (outranks-as q g v w a.0 b.0 a.1 b.1) ∙ above)
    (sym (outranks-as q g u w c.0 b.0 c.1 b.1) ∙ not_above)
    (sym (outranks-as q g u v c.0 a.0 c.1 a.1) ∙ not_back)

-- ---- searches of a list

all-from : (p : ℕ → Bool) (ws : List ℕ) → ((u : ℕ) → is_one_of ws u ≡ true → p u ≡ true) → list_all p ws ≡ true
all-from p [] each = refl
all-from p (v ∷ ws) each =
    and_from (p v) (list_all p ws) (each v (or_left (v == v) (is_one_of ws v) (eqb-refl v)))
    (all-from p ws (λ u there. each u (or_right (v == u) (is_one_of ws u) there)))

find-none : (p : ℕ → Bool) (ws : List ℕ) → ((u : ℕ) → is_one_of ws u ≡ true → p u ≡ false) → find p ws ≡ None
find-none p [] each = refl
find-none p (v ∷ ws) each =
    ap (λ (b : Bool). cond b (Some v) (find p ws)) (each v (or_left (v == v) (is_one_of ws v) (eqb-refl v)))
    ∙ find-none p ws (λ u there. each u (or_right (v == u) (is_one_of ws u) there))

pub find-only : (p : ℕ → Bool) (ws : List ℕ) (w : ℕ) → is_one_of ws w ≡ true → p w ≡ true
    → ((u : ℕ) → is_one_of ws u ≡ true → p u ≡ true → u ≡ w) → find p ws ≡ Some w
find-only p [] w among holds only = absurd cc
find-only p (v ∷ ws) w among holds only =
    ⊎_elim
    (λ here. ap (λ (b : Bool). cond b (Some v) (find p ws)) here
    ∙ ap (λ (x : ℕ). Some x) (only v (or_left (v == v) (is_one_of ws v) (eqb-refl v)) here))
    (λ gone. ap (λ (b : Bool). cond b (Some v) (find p ws)) gone
    ∙ ⊎_elim
    (λ same. absurd (let clash : true ≡ false = sym holds ∙ (sym (ap p (eqb-true v w same)) ∙ gone) in cc))
    (λ later. find-only p ws w later holds (λ u there. only u (or_right (v == u) (is_one_of ws u) there)))
    (or_cases (v == w) (is_one_of ws w) among))
    (cases_Bool (p v))

-- one of a list with one more is that one, or was in the list
one-more : (ws : List ℕ) (v u : ℕ) → is_one_of (ws ++ v ∷ []) u ≡ true → (is_one_of ws u ≡ true) ⊎ (v ≡ u)
one-more ws v u there =
    ⊎_elim
    (λ before. inl before)
    (λ last. ⊎_elim (λ same. inr (eqb-true v u same)) (λ none. absurd (let clash : false ≡ true = none in cc))
    (or_cases (v == u) false last))
    (or_cases (is_one_of ws u) ((v == u) || false) (sym (list_any-append (λ x. x == u) ws (v ∷ [])) ∙ there))

-- ---- the leader of those that were looked at

-- one of these, which have numbers below k: it is not above writer w
record Seen (q : ReaderQos) (g : List Happening) (k w u : ℕ) : Type 0 where
  below : u < k
  matched : IsMatched q g u
  not_above : outranks q g u w ≡ false

record LeadsBy (q : ReaderQos) (g : List Happening) (k : ℕ) (seen : List ℕ) (l : Leader) : Type 0 where
  among : is_one_of seen l.writer ≡ true
  sole_is : l.is_sole ≡ outranks_all q g seen l.writer
  each : (u : ℕ) → is_one_of seen u ≡ true → Seen q g k l.writer u

abbrev Leads : ReaderQos → List Happening → ℕ → List ℕ → Option Leader → Type 0
Leads q g k seen None = seen ≡ []
Leads q g k seen (Some l) = LeadsBy q g k seen l

seen-itself : (q : ReaderQos) (g : List Happening) (k : ℕ) → IsMatched q g k → Seen q g (k + 1) k k
seen-itself q g k matched = record { below = omega arith; matched = matched; not_above = above-itself q g k }

-- the first that is looked at
leads-first : (q : ReaderQos) (g : List Happening) (k : ℕ) → IsMatched q g k
    → LeadsBy q g (k + 1) (k ∷ []) (record { writer = k; is_sole = true })
leads-first q g k matched = record {
  among = or_left (k == k) false (eqb-refl k);
  sole_is = sym
      (and_from ((k == k) || outranks q g k k) true (or_left (k == k) (outranks q g k k) (eqb-refl k)) refl);
  each = λ u there. ⊎_elim
      (λ same. subst (λ (x : ℕ). Seen q g (k + 1) k x) (eqb-true k u same) (seen-itself q g k matched))
      (λ none. absurd (let clash : false ≡ true = none in cc))
      (or_cases (k == u) false there);
}

-- one that outranks the leader takes its place
takes-over : (q : ReaderQos) (g : List Happening) (k : ℕ) (seen : List ℕ) (l : Leader) → LeadsBy q g k seen l
    → IsMatched q g k → outranks q g k l.writer ≡ true
    → LeadsBy q g (k + 1) (seen ++ k ∷ []) (record { writer = k; is_sole = true })
takes-over q g k seen l leads matched above = record {
  among = list_any-append (λ x. x == k) seen (k ∷ [])
      ∙ or_right (is_one_of seen k) ((k == k) || false) (or_left (k == k) false (eqb-refl k));
  sole_is = sym (list_all-append (λ v. (v == k) || outranks q g k v) seen (k ∷ [])
      ∙ and_from (outranks_all q g seen k) (((k == k) || outranks q g k k) && true)
      (all-from (λ v. (v == k) || outranks q g k v) seen (λ u there. or_right (u == k) (outranks q g k u)
      (above-others q g k l.writer u matched (leads.each l.writer leads.among).matched
      (leads.each u there).matched above (leads.each u there).not_above)))
      (and_from ((k == k) || outranks q g k k) true (or_left (k == k) (outranks q g k k) (eqb-refl k)) refl));
  each = λ u there. ⊎_elim
      (λ before. let s = leads.each u before in
      record {
        below = omega (arith, s.below);
        matched = s.matched;
        not_above = ⊎_elim
            (λ back. absurd (let clash : true ≡ false =
            sym (outranks-trans (precedence_of q g u) (precedence_of q g k) (precedence_of q g l.writer)
            back above)
            ∙ s.not_above in cc))
            (λ no. no)
            (cases_Bool (outranks q g u k));
      })
      (λ same. subst (λ (x : ℕ). Seen q g (k + 1) k x) same (seen-itself q g k matched))
      (one-more seen k u there);
}

last-only : (a x : Bool) → (a && ((false || x) && true)) ≡ (a && x)
last-only true true = refl
last-only true false = refl
last-only false x = refl

-- one that does not leaves it there
stays : (q : ReaderQos) (g : List Happening) (k : ℕ) (seen : List ℕ) (l : Leader) → LeadsBy q g k seen l → IsMatched q g k
    → outranks q g k l.writer ≡ false
    → LeadsBy q g (k + 1) (seen ++ k ∷ [])
    (record { writer = l.writer; is_sole = l.is_sole && outranks q g l.writer k })
stays q g k seen l leads matched not_above =
    let w : ℕ = l.writer in
    let own = leads.each w leads.among in
    let other : (k == w) ≡ false = other-than k w (λ same. omega (arith, same, own.below)) in
    record {
      among = list_any-append (λ x. x == w) seen (k ∷ [])
          ∙ or_left (is_one_of seen w) ((k == w) || false) leads.among;
      sole_is = ap (λ (b : Bool). b && outranks q g w k) leads.sole_is
          ∙ sym (list_all-append (λ v. (v == w) || outranks q g w v) seen (k ∷ [])
          ∙ (ap (λ (b : Bool). outranks_all q g seen w && ((b || outranks q g w k) && true)) other
          ∙ last-only (outranks_all q g seen w) (outranks q g w k)));
      each = λ u there. ⊎_elim
          (λ before. let s = leads.each u before in
          record { below = omega (arith, s.below); matched = s.matched; not_above = s.not_above })
          (λ same. subst (λ (x : ℕ). Seen q g (k + 1) w x) same
          (record { below = omega arith; matched = matched; not_above = not_above }))
          (one-more seen k u there);
    }

leads-next : (q : ReaderQos) (g : List Happening) (k : ℕ) (seen : List ℕ) (leader : Option Leader)
    → Leads q g k seen leader → IsMatched q g k → LeadsBy q g (k + 1) (seen ++ k ∷ []) (leader_after (precedence_of q g) leader k)
leads-next q g k seen None none matched =
    subst (λ (ws : List ℕ). LeadsBy q g (k + 1) (ws ++ k ∷ []) (record { writer = k; is_sole = true }))
    (sym none) (leads-first q g k matched)
leads-next q g k seen (Some l) leads matched =
    let after : Bool → Leader = λ b. if b then record { writer = k; is_sole = true }
    else record { writer = l.writer; is_sole = l.is_sole && outranks q g l.writer k } in
    ⊎_elim
    (λ above. subst (λ (b : Bool). LeadsBy q g (k + 1) (seen ++ k ∷ []) (after b)) (sym above)
    (takes-over q g k seen l leads matched above))
    (λ not_above. subst (λ (b : Bool). LeadsBy q g (k + 1) (seen ++ k ∷ []) (after b)) (sym not_above)
    (stays q g k seen l leads matched not_above))
    (cases_Bool (outranks q g k l.writer))

-- one that is not registered changes nothing
leads-still : (q : ReaderQos) (g : List Happening) (k : ℕ) (seen : List ℕ) (leader : Option Leader)
    → Leads q g k seen leader → Leads q g (k + 1) seen leader
leads-still q g k seen None none = none
leads-still q g k seen (Some l) leads = record {
  among = leads.among;
  sole_is = leads.sole_is;
  each = λ u there. let s = leads.each u there in
      record { below = omega (arith, s.below); matched = s.matched; not_above = s.not_above };
}

-- ---- the owner

-- the leader is the owner, if it outranks each other one; else there is none
sole-owns : (q : ReaderQos) (g : List Happening) (k : ℕ) (seen : List ℕ) (leader : Option Leader)
    → Leads q g k seen leader → sole leader ≡ owner_of q g seen
sole-owns q g k seen None none = sym (ap (λ (ws : List ℕ). owner_of q g ws) none)
sole-owns q g k seen (Some l) leads =
    let w : ℕ = l.writer in
    ⊎_elim
    (λ is. let all : outranks_all q g seen w ≡ true = sym leads.sole_is ∙ is in
    ap (λ (b : Bool). if b then Some w else None) is
    ∙ sym (find-only (outranks_all q g seen) seen w leads.among all
    (λ u there holds. owner-one q g seen u w (owner-is q g seen u there holds)
    (owner-is q g seen w leads.among all))))
    (λ tied. ap (λ (b : Bool). if b then Some w else None) tied
    ∙ sym (find-none (outranks_all q g seen) seen (λ u there. ⊎_elim
    (λ holds. ⊎_elim
    (λ same. absurd (let clash : true ≡ false = sym holds ∙ (sym (ap (outranks_all q g seen) (eqb-true w u same))
    ∙ (sym leads.sole_is ∙ tied)) in cc))
    (λ above. absurd (let clash : true ≡ false = sym above ∙ (leads.each u there).not_above in cc))
    (or_cases (w == u) (outranks q g u w)
    (all-at (λ v. (v == u) || outranks q g u v) seen w holds leads.among)))
    (λ no. no)
    (cases_Bool (outranks_all q g seen u)))))
    (cases_Bool l.is_sole)

leader-owns : (q : ReaderQos) (g : List Happening) (i : Key) (h : List Happening) (k : ℕ) (xs : List MatchedWriter)
    (seen : List ℕ) (leader : Option Leader) → 0 < k → k + length xs ≤ length (writers_of q g) + 1 → Leads q g k seen leader
    → sole (leader_among (precedence_of q g) leader (map (registration_of i h) (numbered_from k xs)))
    ≡ owner_of q g (seen ++ filter (λ w. is_registered i w h) (numbered_from k xs))
leader-owns q g i h k [] seen leader low high leads =
    sole-owns q g k seen leader leads ∙ ap (λ (ws : List ℕ). owner_of q g ws) (sym (append-nil seen))
leader-owns q g i h k (x ∷ xs) seen leader low high leads =
    let ws : List ℕ = filter (λ w. is_registered i w h) (numbered_from (k + 1) xs) in
    let rest : List Registration = map (registration_of i h) (numbered_from (k + 1) xs) in
    let next : Bool → Option ℕ =
    λ b. sole (leader_among (precedence_of q g) (if b then Some (leader_after (precedence_of q g) leader k) else leader)
    rest) in
    let owner : Bool → Option ℕ = λ b. owner_of q g (seen ++ cond b (k ∷ ws) ws) in
    ⊎_elim
    (λ there. ap next there
    ∙ (leader-owns q g i h (k + 1) xs (seen ++ k ∷ []) (Some (leader_after (precedence_of q g) leader k)) (omega arith)
    (omega (arith, high))
    (leads-next q g k seen leader leads (low, omega (arith, high)))
    ∙ (ap (λ (vs : List ℕ). owner_of q g vs) (append_assoc seen (k ∷ []) ws) ∙ ap owner (sym there))))
    (λ gone. ap next gone
    ∙ (leader-owns q g i h (k + 1) xs seen leader (omega arith) (omega (arith, high))
    (leads-still q g k seen leader leads)
    ∙ ap owner (sym gone)))
    (cases_Bool (is_registered i k h))

-- the leader among the registrations is the owner
pub owner-found : (q : ReaderQos) (i : Key) (h : List Happening) (kept : KeptStrengths) (was : Kept)
    → TellsStrengths kept h → StandsFor was q i h
    → sole (leader_among (order_by q kept None) None was.registrations) ≡ owner_of q h (registered_writers q i h)
owner-found q i h kept was tells given =
    let ws : List MatchedWriter = take (places_of was) (writers_of q h) in
    ap (λ (l : Option Leader). sole l)
    (among-same (order_by q kept None) (precedence_of q h) (order-kept q h kept tells) None was.registrations)
    ∙ (ap (λ (xs : List Registration). sole (leader_among (precedence_of q h) None xs)) given.registrations_are
    ∙ (leader-owns q h i h 1 ws [] None (omega arith) (omega (arith, take-fewer (places_of was) (writers_of q h))) refl
    ∙ ap (λ (vs : List ℕ). owner_of q h vs) (sym (registered-first was q i h given))))
