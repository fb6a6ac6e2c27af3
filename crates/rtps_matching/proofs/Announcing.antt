-- What is told of an announcement is so.
use Rattle.std.proofs.Common.{◌≡◌, ◌⊎◌, ◌∙◌, ℕ, ◌+◌, ◌≤◌, Bool, true, false, cond, List, [], ◌∷◌, Contains, Option, Some, refl, sym, ap, subst, inl, inr, ⊎_elim, arith}
use Rattle.std.specs.Prelude.{find}
use Rattle.std.specs.List.{count_by}
use Rattle.dds_base.specs.declared.guid.Guid.{Guid}
use Rattle.rtps_discovery.proofs.Members.{first_or_later, from_filter_map, is_first, is_later, nothing_in}
use Rattle.rtps_matching.specs.declared.end.End.{End}
use Rattle.rtps_matching.specs.declared.far.Far.{Far}
use Rattle.rtps_matching.specs.declared.told.Told.{Told}
use Rattle.rtps_matching.specs.declared.told.Told.TheVariants.{Changed, Matched, Unmatched}
use Rattle.rtps_matching.specs.Matches.{announced, change_of, changes, is_far, is_matched, is_named, same_guid, was_matched}
use Rattle.rtps_matching.specs.Steps.{Announced, Table, WhereSo, known_as, placed, says_again}
use Rattle.rtps_matching.specs.Laws.{AnnounceTells, AreIn, StandOnce, ToldIsSo}
use Rattle.rtps_matching.proofs.Members.{count-cons, counted, into_filter_map, only_one}
use Rattle.rtps_matching.proofs.Pairs.{Pair, from_matches, gains, guid_is, guid_same, into_matches, is_changed, is_gained, is_lost, loses}
use Rattle.rtps_matching.proofs.Telling.{renamed}

-- ---- where it stands

pub placed_new : (new : Far) (far : List Far) → Contains (placed new far) new
placed_new new [] = is_first new [] new refl
placed_new new (f ∷ far) = by_test (placed_new new far) (is_far new.guid f)
  where
    by_test : Contains (placed new far) new → (b : Bool) → Contains (cond b (new ∷ far) (f ∷ placed new far)) new
    by_test rest true = is_first new far new refl
    by_test rest false = is_later f (placed new far) new rest

pub placed_others : (new : Far) (far : List Far) (g : Far) → Contains far g → is_far new.guid g ≡ false
    → Contains (placed new far) g
placed_others new [] g c is = absurd (nothing_in g c)
placed_others new (f ∷ far) g c is =
    by_test (λ m. placed_others new far g m is) (is_far new.guid f) refl (first_or_later f far g c)
  where
    by_test : (Contains far g → Contains (placed new far) g) → (b : Bool) → is_far new.guid f ≡ b → (f ≡ g) ⊎ Contains far g
        → Contains (cond b (new ∷ far) (f ∷ placed new far)) g
    by_test rest true t (inl e) =
        let no : true ≡ false = sym t ∙ (ap (λ (h : Far). is_far new.guid h) e ∙ is) in absurd cc
    by_test rest true t (inr m) = is_later new far g m
    by_test rest false t (inl e) = is_first f (placed new far) g e
    by_test rest false t (inr m) = is_later f (placed new far) g (rest m)

pub from_placed : (new : Far) (far : List Far) (g : Far) → count_by (is_far new.guid) far ≤ 1
    → Contains (placed new far) g → (new ≡ g) ⊎ (Contains far g × (is_far new.guid g ≡ false))
from_placed new [] g few c =
    ⊎_elim (λ e. inl e) (λ m. absurd (nothing_in g m)) (first_or_later new [] g c)
from_placed new (f ∷ far) g few c =
    by_test (λ l m. from_placed new far g l m) (is_far new.guid f) refl
    (subst (λ (n : ℕ). n ≤ 1) (count-cons (is_far new.guid) f far) few) c
  where
    other : (b : Bool) → is_far new.guid g ≡ b → count_by (is_far new.guid) far ≤ 0 → Contains far g
        → is_far new.guid g ≡ false
    other true is none m = let some = counted (is_far new.guid) far g m is in absurd (omega (arith, some, none))
    other false is none m = is

    by_test : (count_by (is_far new.guid) far ≤ 1 → Contains (placed new far) g
        → (new ≡ g) ⊎ (Contains far g × (is_far new.guid g ≡ false))) → (b : Bool) → is_far new.guid f ≡ b
        → (cond b 1 0) + count_by (is_far new.guid) far ≤ 1
        → Contains (cond b (new ∷ far) (f ∷ placed new far)) g
        → (new ≡ g) ⊎ (Contains (f ∷ far) g × (is_far new.guid g ≡ false))
    by_test rest true t few c =
        ⊎_elim (λ e. inl e)
        (λ m. inr (is_later f far g m, other (is_far new.guid g) refl (omega (arith, few)) m))
        (first_or_later new far g c)
    by_test rest false t few c =
        ⊎_elim (λ (e : f ≡ g). inr (is_first f far g e, ap (λ (h : Far). is_far new.guid h) (sym e) ∙ t))
        (λ m. ⊎_elim (λ e. inl e) (λ at. inr (is_later f far g at.0, at.1))
        (rest (omega (arith, few)) m)) (first_or_later f (placed new far) g c)

-- ---- what was known of it

-- the far endpoint of this name that one of our own was matched with
pub record Before (o : End) (guid : Guid) (far : List Far) : Type 0 where
  pub other : Far
  pub there : Contains far other
  pub named : is_far guid other ≡ true
  pub together : is_matched o other ≡ true

pub was_before : (o : End) (guid : Guid) (far : List Far) → was_matched o (known_as guid far) ≡ true
    → Before o guid far
was_before o guid [] e = absurd cc
was_before o guid (f ∷ far) e = by_test (λ w. was_before o guid far w) (is_far guid f) refl e
  where
    by_test : (was_matched o (known_as guid far) ≡ true → Before o guid far) → (b : Bool) → is_far guid f ≡ b
        → was_matched o (cond b (Some f) (find (is_far guid) far)) ≡ true → Before o guid (f ∷ far)
    by_test rest true t e = record { other = f; there = is_first f far f refl; named = t; together = e }
    by_test rest false t e =
        let w = rest e in
        record { other = w.other; there = is_later f far w.other w.there; named = w.named; together = w.together }

pub before_was : (o : End) (guid : Guid) (far : List Far) → count_by (is_far guid) far ≤ 1 → (g : Far)
    → Contains far g → is_far guid g ≡ true → is_matched o g ≡ true → was_matched o (known_as guid far) ≡ true
before_was o guid [] few g c named together = absurd (nothing_in g c)
before_was o guid (f ∷ far) few g c named together =
    by_test (λ l m. before_was o guid far l g m named together) (is_far guid f) refl
    (subst (λ (n : ℕ). n ≤ 1) (count-cons (is_far guid) f far) few) (first_or_later f far g c)
  where
    by_test : (count_by (is_far guid) far ≤ 1 → Contains far g → was_matched o (known_as guid far) ≡ true) → (b : Bool)
        → is_far guid f ≡ b → (cond b 1 0) + count_by (is_far guid) far ≤ 1 → (f ≡ g) ⊎ Contains far g → was_matched o (cond b (Some f) (find (is_far guid) far)) ≡ true
    by_test rest true t few (inl e) = ap (λ (h : Far). is_matched o h) e ∙ together
    by_test rest true t few (inr m) =
        let some = counted (is_far guid) far g m named in absurd (omega (arith, some, few))
    by_test rest false t few (inl e) =
        let no : true ≡ false = sym named ∙ (ap (λ (h : Far). is_far guid h) (sym e) ∙ t) in absurd cc
    by_test rest false t few (inr m) = rest (omega (arith, few)) m

-- ---- what is told

told_of_new : (t : Table) (n : Far) → StandOnce t
    → ToldIsSo t (changes t.own (known_as n.guid t.far) n) (record { own = t.own; far = placed n t.far; most = t.most })
told_of_new t n once = record {
  matched = λ a b c.
      let m = from_filter_map (change_of known n) t.own (Matched a b) c in
      let g = is_gained m.0.endpoint.guid n.guid a b (was_matched m.0 known) (is_matched m.0 n) m.2 in (
        stands a b m.0 m.1 g.2 g.3 g.1,
        λ before.
            let q = from_matches t.own t.far a b before in
            let same : q.end ≡ m.0 = same_own a q.end m.0 q.here m.1 q.own_is g.2 in
            let named : is_far n.guid q.other ≡ true =
            ap (λ (x : Guid). same_guid x n.guid) (q.far_is ∙ sym g.3) ∙ guid_is n.guid in
            let was : was_matched q.end known ≡ true =
            before_was q.end n.guid t.far (once.far n.guid) q.other q.there named q.together in
            let not : was_matched m.0 known ≡ false = g.0 in
            let no : true ≡ false = sym was ∙ (ap (λ (o : End). was_matched o known) same ∙ not) in absurd cc,
      );
  unmatched = λ a b c.
      let m = from_filter_map (change_of known n) t.own (Unmatched a b) c in
      let l = is_lost m.0.endpoint.guid n.guid a b (was_matched m.0 known) (is_matched m.0 n) m.2 in (
        stood a b m.0 m.1 l.2 l.3 l.0,
        λ again.
            let q = from_matches t.own (placed n t.far) a b again in
            let same : q.end ≡ m.0 = same_own a q.end m.0 q.here m.1 q.own_is l.2 in
            ⊎_elim
            (λ (e : n ≡ q.other).
            let not : is_matched m.0 n ≡ false = l.1 in
            let together : is_matched m.0 n ≡ true =
            ap (λ (o : End). is_matched o n) (sym same) ∙ (ap (λ (f : Far). is_matched q.end f) e ∙ q.together) in
            let no : true ≡ false = sym together ∙ not in absurd cc)
            (λ (at : Contains t.far q.other × (is_far n.guid q.other ≡ false)).
            let named : is_far n.guid q.other ≡ true =
            ap (λ (x : Guid). same_guid x n.guid) (q.far_is ∙ sym l.3) ∙ guid_is n.guid in
            let no : true ≡ false = sym named ∙ at.1 in absurd cc)
            (from_placed n t.far q.other (once.far n.guid) q.there),
      );
  changed = λ a b c.
      let m = from_filter_map (change_of known n) t.own (Changed a b) c in
      let l = is_changed m.0.endpoint.guid n.guid a b (was_matched m.0 known) (is_matched m.0 n) m.2 in
      (stood a b m.0 m.1 l.2 l.3 l.0, stands a b m.0 m.1 l.2 l.3 l.1);
  gained = λ a b c.
      let q = from_matches t.own (placed n t.far) a b c in
      ⊎_elim
      (λ (e : n ≡ q.other).
      let together : is_matched q.end n ≡ true = ap (λ (f : Far). is_matched q.end f) e ∙ q.together in
      let far : n.guid ≡ b = ap (λ (f : Far). f.guid) e ∙ q.far_is in
      by_before a b q.end q.here q.own_is far together (was_matched q.end known) refl)
      (λ (at : Contains t.far q.other × (is_far n.guid q.other ≡ false)). inl (into_matches t.own t.far a b (record {
        end = q.end;
        other = q.other;
        here = q.here;
        there = at.0;
        together = q.together;
        own_is = q.own_is;
        far_is = q.far_is;
      })))
      (from_placed n t.far q.other (once.far n.guid) q.there);
  lost = λ a b c.
      let q = from_matches t.own t.far a b c in by_name a b q (is_far n.guid q.other) refl (is_matched q.end n) refl;
}
  where
    known : Option Far
    known = known_as n.guid t.far

    same_own : (a : Guid) (o p : End) → Contains t.own o → Contains t.own p → o.endpoint.guid ≡ a → p.endpoint.guid ≡ a
        → o ≡ p
    same_own a o p c d e f =
        only_one (is_named a) t.own o p (once.own a) c d (ap (λ (x : Guid). same_guid x a) e ∙ guid_is a)
        (ap (λ (x : Guid). same_guid x a) f ∙ guid_is a)

    stands : (a b : Guid) (o : End) → Contains t.own o → o.endpoint.guid ≡ a → n.guid ≡ b → is_matched o n ≡ true
        → AreIn (record { own = t.own; far = placed n t.far; most = t.most }) a b
    stands a b o here own far together = into_matches t.own (placed n t.far) a b (record {
      end = o;
      other = n;
      here = here;
      there = placed_new n t.far;
      together = together;
      own_is = own;
      far_is = far;
    })

    stood : (a b : Guid) (o : End) → Contains t.own o → o.endpoint.guid ≡ a → n.guid ≡ b
        → was_matched o (known_as n.guid t.far) ≡ true → AreIn t a b
    stood a b o here own far was =
        let w = was_before o n.guid t.far was in
        into_matches t.own t.far a b (record {
          end = o;
          other = w.other;
          here = here;
          there = w.there;
          together = w.together;
          own_is = own;
          far_is = guid_same w.other.guid n.guid w.named ∙ far;
        })

    by_before : (a b : Guid) (o : End) → Contains t.own o → o.endpoint.guid ≡ a → n.guid ≡ b → is_matched o n ≡ true
        → (was : Bool) → was_matched o (known_as n.guid t.far) ≡ was
        → AreIn t a b ⊎ Contains (changes t.own (known_as n.guid t.far) n) (Matched a b)
    by_before a b o here own far together true was = inl (stood a b o here own far was)
    by_before a b o here own far together false was =
        inr (into_filter_map (change_of (known_as n.guid t.far) n) t.own o (Matched a b) here
        (renamed o.endpoint.guid n.guid a b own far (λ g h. Matched g h) (change_of (known_as n.guid t.far) n o)
        (gains o.endpoint.guid n.guid (was_matched o (known_as n.guid t.far)) (is_matched o n) was together)))

    by_name : (a b : Guid) (q : Pair t.own t.far a b) (named : Bool) → is_far n.guid q.other ≡ named
        → (together : Bool) → is_matched q.end n ≡ together
        → AreIn (record { own = t.own; far = placed n t.far; most = t.most }) a b
        ⊎ Contains (changes t.own (known_as n.guid t.far) n) (Unmatched a b)
    by_name a b q false named x is = inl (into_matches t.own (placed n t.far) a b (record {
      end = q.end;
      other = q.other;
      here = q.here;
      there = placed_others n t.far q.other q.there named;
      together = q.together;
      own_is = q.own_is;
      far_is = q.far_is;
    }))
    by_name a b q true named true is =
        inl (stands a b q.end q.here q.own_is (sym (guid_same q.other.guid n.guid named) ∙ q.far_is) is)
    by_name a b q true named false is =
        let was = before_was q.end n.guid t.far (once.far n.guid) q.other q.there named q.together in
        inr (into_filter_map (change_of (known_as n.guid t.far) n) t.own q.end (Unmatched a b) q.here
        (renamed q.end.endpoint.guid n.guid a b q.own_is (sym (guid_same q.other.guid n.guid named) ∙ q.far_is)
        (λ g h. Unmatched g h) (change_of (known_as n.guid t.far) n q.end)
        (loses q.end.endpoint.guid n.guid (was_matched q.end (known_as n.guid t.far)) (is_matched q.end n) was is)))

-- nothing is told where nothing changed
nothing_told : (t : Table) → ToldIsSo t [] t
nothing_told t = record {
  matched = λ a b c. absurd (nothing_in (Matched a b) c);
  unmatched = λ a b c. absurd (nothing_in (Unmatched a b) c);
  changed = λ a b c. absurd (nothing_in (Changed a b) c);
  gained = λ a b c. inl c;
  lost = λ a b c. inl c;
}

pub announce_tells : AnnounceTells
announce_tells t guid kind payload new told once = by_test (says_again guid payload t)
  where
    by_test : (again : Bool) → WhereSo again ((new ≡ t) × (told ≡ [])) (Announced t guid kind payload new told)
        → ToldIsSo t told new
    by_test true h =
        subst (λ (n : Table). ToldIsSo t told n) (sym h.0)
        (subst (λ (ts : List Told). ToldIsSo t ts t) (sym h.1) (nothing_told t))
    by_test false h =
        subst (λ (n : Table). ToldIsSo t told n) (sym h.table)
        (subst (λ (ts : List Told). ToldIsSo t ts
        (record { own = t.own; far = placed (announced guid kind payload h.said) t.far; most = t.most })) (sym h.told_is)
        (told_of_new t (announced guid kind payload h.said) once))
