-- Names stand once, few of a participant are known, and others stay.
use Rattle.std.proofs.Common.{◌≡◌, ◌∙◌, ℕ, ◌+◌, ◌<◌, ◌≤◌, Bool, true, false, cond, List, [], ◌∷◌, Contains, refl, sym, ap, subst, ⊎_elim, arith}
use Rattle.std.specs.Prelude.{◌||◌, nat_eq, nat_le, not}
use Rattle.std.specs.List.{count_by, list_any}
use Rattle.std.proofs.lemmas.Bool.{leb-false}
use Rattle.std.proofs.lemmas.Bool.Decides.{Decides-eqb}
use Rattle.std.proofs.lemmas.Slice.Eq.{slice_eq-Decides}
use Rattle.dds_base.specs.declared.guid.Guid.{Guid}
use Rattle.dds_base.specs.declared.guid.GuidPrefix.{GuidPrefix}
use Rattle.dds_base.specs.Checked.{same_prefix}
use Rattle.rtps_discovery.proofs.Members.{first_or_later, is_first, is_later, nothing_in}
use Rattle.rtps_matching.specs.declared.far.Far.{Far}
use Rattle.rtps_matching.specs.Matches.{announced, is_far, is_named, is_of, same_guid}
use Rattle.rtps_matching.specs.Steps.{Announced, Table, WhereSo, placed, says_again, turned}
use Rattle.rtps_matching.specs.Laws.{AddsOnce, AnnouncesFew, AnnouncesOnce, IsFew, LeavesOnce, OpensOnce, OthersStay, RemovesOnce, StandOnce, TurnsOnce}
use Rattle.rtps_matching.proofs.Announcing.{placed_others}
use Rattle.rtps_matching.proofs.Counting.{count-append, few-filter, none-counted, same-map}
use Rattle.rtps_matching.proofs.Members.{count-cons}
use Rattle.rtps_matching.proofs.Pairs.{guid_is, guid_same}
use Rattle.rtps_matching.proofs.Telling.{turned_name}

-- ---- our own

pub opens_once : OpensOnce
opens_once most = record { own = λ guid. omega arith; far = λ guid. omega arith }

pub adds_once : AddsOnce
adds_once e t none once = record {
  own = λ guid. subst (λ (n : ℕ). n ≤ 1) (sym (count-append (is_named guid) t.own (e ∷ [])))
      (subst (λ (n : ℕ). count_by (is_named guid) t.own + n ≤ 1) (sym (count-cons (is_named guid) e []))
      (by_test guid (is_named guid e) refl));
  far = once.far;
}
  where
    by_test : (guid : Guid) (b : Bool) → is_named guid e ≡ b
        → count_by (is_named guid) t.own + ((cond b 1 0) + count_by (is_named guid) []) ≤ 1
    by_test guid true is =
        let same : e.endpoint.guid ≡ guid = guid_same e.endpoint.guid guid is in
        let zero : count_by (is_named guid) t.own ≡ 0 =
        none-counted (is_named guid) t.own (ap (λ (g : Guid). list_any (is_named g) t.own) (sym same) ∙ none) in
        omega (arith, zero)
    by_test guid false is = let one = once.own guid in omega (arith, one)

pub removes_once : RemovesOnce
removes_once guid t once = record {
  own = λ g.
      let few = few-filter (is_named g) (λ e. not (is_named guid e)) t.own in
      let one = once.own g in omega (arith, few, one);
  far = once.far;
}

-- ---- those of others

pub leaves_once : LeavesOnce
leaves_once leaves t once = record {
  own = once.own;
  far = λ g.
      let few = few-filter (is_far g) (λ f. not (leaves f)) t.far in let one = once.far g in omega (arith, few, one);
}

pub turns_once : TurnsOnce
turns_once prefix awake t once = record {
  own = once.own;
  far = λ g. subst (λ (n : ℕ). n ≤ 1)
      (sym (same-map (is_far g) (turned prefix awake)
      (λ f. ap (λ (x : Guid). same_guid x g) (turned_name prefix awake f)) t.far)) (once.far g);
}

-- how many pass a test with an announcement, if those of one name pass it alike
placed_count : (p : Far → Bool) (new : Far) → ((f : Far) → is_far new.guid f ≡ true → p f ≡ p new) → (far : List Far)
    → count_by p (placed new far)
    ≡ count_by p far + cond (list_any (is_far new.guid) far) 0 (cond (p new) 1 0)
placed_count p new named [] = let one = count-cons p new [] in omega (arith, one)
placed_count p new named (f ∷ far) =
    by_test (placed_count p new named far) (is_far new.guid f) refl
    ∙ ap (λ (n : ℕ). n + cond (list_any (is_far new.guid) (f ∷ far)) 0 (cond (p new) 1 0)) (sym (count-cons p f far))
  where
    by_test : count_by p (placed new far)
        ≡ count_by p far + cond (list_any (is_far new.guid) far) 0 (cond (p new) 1 0)
        → (b : Bool) → is_far new.guid f ≡ b
        → count_by p (cond b (new ∷ far) (f ∷ placed new far))
        ≡ ((cond (p f) 1 0) + count_by p far) + cond (b || list_any (is_far new.guid) far) 0 (cond (p new) 1 0)
    by_test rest true is =
        let same : (cond (p f) 1 0) + count_by p far ≡ (cond (p new) 1 0) + count_by p far =
        ap (λ (b : Bool). (cond b 1 0) + count_by p far) (named f is) in
        let all = count-cons p new far in omega (arith, same, all)
    by_test rest false is = let all = count-cons p f (placed new far) in omega (arith, rest, all)

one_more : (p : Far → Bool) (new : Far) (far : List Far) (most : ℕ)
    → ((f : Far) → is_far new.guid f ≡ true → p f ≡ p new) → count_by p far ≤ most
    → (list_any (is_far new.guid) far ≡ false → p new ≡ true → count_by p far + 1 ≤ most)
    → count_by p (placed new far) ≤ most
one_more p new far most named few room =
    subst (λ (n : ℕ). n ≤ most) (sym (placed_count p new named far))
    (by_test (list_any (is_far new.guid) far) refl (p new) refl)
  where
    by_test : (b : Bool) → list_any (is_far new.guid) far ≡ b → (c : Bool) → p new ≡ c
        → count_by p far + cond b 0 (cond c 1 0) ≤ most
    by_test true any c is = omega (arith, few)
    by_test false any true is = room any is
    by_test false any false is = omega (arith, few)

pub announces_once : AnnouncesOnce
announces_once t guid kind payload new told once = by_test (says_again guid payload t)
  where
    by_test : (again : Bool) → WhereSo again ((new ≡ t) × (told ≡ [])) (Announced t guid kind payload new told)
        → StandOnce new
    by_test true h = subst (λ (n : Table). StandOnce n) (sym h.0) once
    by_test false h =
        let n : Far = announced guid kind payload h.said in
        let after : Table = record { own = t.own; far = placed n t.far; most = t.most } in
        let stands : StandOnce after = record {
          own = once.own;
          far = λ g. one_more (is_far g) n t.far 1
              (λ f is. ap (λ (x : Guid). same_guid x g) (guid_same f.guid guid is)) (once.far g)
              (λ none is.
              let zero : count_by (is_far g) t.far ≡ 0 =
              none-counted (is_far g) t.far
              (ap (λ (x : Guid). list_any (is_far x) t.far) (sym (guid_same guid g is)) ∙ none) in
              omega (arith, zero));
        } in
        subst (λ (z : Table). StandOnce z) (sym h.table) stands

prefix_same : (a b : GuidPrefix) → same_prefix a b ≡ true → a ≡ b
prefix_same a b e =
    ap (λ (xs : List ℕ). let p : GuidPrefix = record { 0 = xs } in p)
    ((slice_eq-Decides {E = nat_eq} Decides-eqb a.0 b.0 (same_prefix a b) refl).0 e)

pub announces_few : AnnouncesFew
announces_few prefix t guid kind payload new told room few = by_test (says_again guid payload t)
  where
    by_test : (again : Bool) → WhereSo again ((new ≡ t) × (told ≡ [])) (Announced t guid kind payload new told)
        → IsFew prefix new
    by_test true h = subst (λ (n : Table). IsFew prefix n) (sym h.0) few
    by_test false h =
        let n : Far = announced guid kind payload h.said in
        let after : Table = record { own = t.own; far = placed n t.far; most = t.most } in
        let stands : IsFew prefix after = one_more (is_of prefix) n t.far t.most
        (λ f is. ap (λ (x : Guid). same_prefix x.prefix prefix) (guid_same f.guid guid is)) few
        (λ none is.
        let free : nat_le t.most (count_by (is_of prefix) t.far) ≡ false =
        ap (λ (x : GuidPrefix). nat_le t.most (count_by (is_of x) t.far)) (sym (prefix_same guid.prefix prefix is))
        ∙ room none in
        let less : count_by (is_of prefix) t.far < t.most =
        leb-false t.most (count_by (is_of prefix) t.far) free in omega (arith, less)) in
        subst (λ (z : Table). IsFew prefix z) (sym h.table) stands

-- ---- others stay

was_placed : (new : Far) (far : List Far) (g : Far) → Contains (placed new far) g → is_far new.guid g ≡ false
    → Contains far g
was_placed new [] g c is =
    ⊎_elim (λ (e : new ≡ g). let no : true ≡ false =
    sym (guid_is new.guid) ∙ (ap (λ (h : Far). is_far new.guid h) e ∙ is) in absurd cc)
    (λ m. absurd (nothing_in g m)) (first_or_later new [] g c)
was_placed new (f ∷ far) g c is = by_test (λ m. was_placed new far g m is) (is_far new.guid f) c
  where
    by_test : (Contains (placed new far) g → Contains far g) → (b : Bool)
        → Contains (cond b (new ∷ far) (f ∷ placed new far)) g → Contains (f ∷ far) g
    by_test rest true m =
        ⊎_elim (λ (e : new ≡ g). let no : true ≡ false =
        sym (guid_is new.guid) ∙ (ap (λ (h : Far). is_far new.guid h) e ∙ is) in absurd cc)
        (λ l. is_later f far g l) (first_or_later new far g m)
    by_test rest false m =
        ⊎_elim (λ (e : f ≡ g). is_first f far g e) (λ l. is_later f far g (rest l))
        (first_or_later f (placed new far) g m)

pub others_stay : OthersStay
others_stay t guid kind payload new told h f other = by_test (says_again guid payload t) h
  where
    by_test : (again : Bool) → WhereSo again ((new ≡ t) × (told ≡ [])) (Announced t guid kind payload new told)
        → (Contains t.far f → Contains new.far f) × (Contains new.far f → Contains t.far f)
    by_test true h =
        subst (λ (n : Table). (Contains t.far f → Contains n.far f) × (Contains n.far f → Contains t.far f)) (sym h.0)
        (λ c. c, λ c. c)
    by_test false h =
        let n : Far = announced guid kind payload h.said in
        subst (λ (z : Table). (Contains t.far f → Contains z.far f) × (Contains z.far f → Contains t.far f))
        (sym h.table) (λ c. placed_others n t.far f c other, λ c. was_placed n t.far f c other)
