-- What is told is so.
use Rattle.std.proofs.Common.{◌≡◌, ◌⊎◌, ◌∙◌, Bool, true, false, cond, List, [], ◌∷◌, ◌++◌, map, Contains, Option, Some, refl, sym, ap, subst, inl, inr, ⊎_elim, filter_map}
use Rattle.std.specs.Prelude.{◌&&◌, filter, flat_map, not}
use Rattle.std.specs.List.{list_any}
use Rattle.std.proofs.lemmas.List.Elements.{Contains-append_cases, Contains-append_left, Contains-append_right}
use Rattle.dds_base.specs.declared.guid.Guid.{Guid}
use Rattle.dds_base.specs.declared.guid.GuidPrefix.{GuidPrefix}
use Rattle.dds_base.specs.Checked.{same_prefix}
use Rattle.rtps_discovery.proofs.Members.{first_or_later, from_filter, from_filter_map, from_map, into_filter, into_map, is_first, nothing_in}
use Rattle.rtps_matching.specs.declared.end.End.{End}
use Rattle.rtps_matching.specs.declared.far.Far.{Far}
use Rattle.rtps_matching.specs.declared.told.Told.{Told}
use Rattle.rtps_matching.specs.declared.told.Told.TheVariants.{Changed, Matched, Unmatched}
use Rattle.rtps_matching.specs.Matches.{change_of, fits_what, is_far, is_matched, is_named, is_of, parting, same_guid}
use Rattle.rtps_matching.specs.Steps.{Table, is_asleep, meeting, meetings_with, partings_of, partings_with, turned, with_awake}
use Rattle.rtps_matching.specs.Laws.{AddTells, AreIn, LeaveTells, RemoveTells, SleepTells, ToldIsSo, WakeTells, WithdrawTells}
use Rattle.rtps_matching.proofs.Members.{any_of, filter_passes, from_flat_map, into_filter_map, into_flat_map, only_one}
use Rattle.rtps_matching.proofs.Pairs.{Pair, from_matches, gains, guid_is, into_matches, is_changed, is_gained, is_lost, loses}

not_true : (b : Bool) → not b ≡ true → b ≡ false
not_true true e = absurd cc
not_true false e = refl

not_false : (b : Bool) → b ≡ false → not b ≡ true
not_false true e = absurd cc
not_false false e = refl

pub renamed : (o f a b : Guid) → o ≡ a → f ≡ b → (make : Guid → Guid → Told) → (t : Option Told) → t ≡ Some (make o f)
    → t ≡ Some (make a b)
renamed o f a b own far make t is =
    is ∙ ap (λ (g : Guid). Some (make g f)) own ∙ ap (λ (g : Guid). Some (make a g)) far

-- ---- some far endpoints part

-- Those that pass a test of their names are matched with nobody afterwards, and all others stay.
parted : (t : Table) (p : Far → Bool) (after : List Far)
    → ((f g : Far) → f.guid ≡ g.guid → p f ≡ p g)
    → ((f : Far) → Contains t.far f → p f ≡ false → Contains after f)
    → ((o : End) (f : Far) → Contains after f → is_matched o f ≡ true → Contains t.far f × (p f ≡ false))
    → ToldIsSo t (flat_map (partings_with t.own) (filter p t.far)) (record { own = t.own; far = after; most = t.most })
parted t p after by_name stays from = record {
  matched = λ a b c.
      let m = from_flat_map (partings_with t.own) (filter p t.far) (Matched a b) c in
      let n = from_filter_map (λ (o : End). parting o m.0) t.own (Matched a b) m.2 in
      let g = is_gained n.0.endpoint.guid m.0.guid a b (is_matched n.0 m.0) false n.2 in
      let no : false ≡ true = g.1 in absurd cc;
  unmatched = λ a b c.
      let m = from_flat_map (partings_with t.own) (filter p t.far) (Unmatched a b) c in
      let n = from_filter_map (λ (o : End). parting o m.0) t.own (Unmatched a b) m.2 in
      let l = is_lost n.0.endpoint.guid m.0.guid a b (is_matched n.0 m.0) false n.2 in (
        into_matches t.own t.far a b (record {
          end = n.0;
          other = m.0;
          here = n.1;
          there = from_filter p t.far m.0 m.1;
          together = l.0;
          own_is = l.2;
          far_is = l.3;
        }),
        λ again.
            let q = from_matches t.own after a b again in
            let r = from q.end q.other q.there q.together in
            let passes : p m.0 ≡ true = filter_passes p t.far m.0 m.1 in
            let same : p m.0 ≡ p q.other = by_name m.0 q.other (l.3 ∙ sym q.far_is) in
            let not : p q.other ≡ false = r.1 in
            let no : true ≡ false = sym passes ∙ (same ∙ not) in absurd cc,
      );
  changed = λ a b c.
      let m = from_flat_map (partings_with t.own) (filter p t.far) (Changed a b) c in
      let n = from_filter_map (λ (o : End). parting o m.0) t.own (Changed a b) m.2 in
      let g = is_changed n.0.endpoint.guid m.0.guid a b (is_matched n.0 m.0) false n.2 in
      let no : false ≡ true = g.1 in absurd cc;
  gained = λ a b c.
      let q = from_matches t.own after a b c in
      let r = from q.end q.other q.there q.together in
      inl (into_matches t.own t.far a b (record {
        end = q.end;
        other = q.other;
        here = q.here;
        there = r.0;
        together = q.together;
        own_is = q.own_is;
        far_is = q.far_is;
      }));
  lost = λ a b c. by_test a b (from_matches t.own t.far a b c) (p (from_matches t.own t.far a b c).other) refl;
}
  where
    by_test : (a b : Guid) (q : Pair t.own t.far a b) (passes : Bool) → p q.other ≡ passes
        → AreIn (record { own = t.own; far = after; most = t.most }) a b
        ⊎ Contains (flat_map (partings_with t.own) (filter p t.far)) (Unmatched a b)
    by_test a b q true is =
        let lost = renamed q.end.endpoint.guid q.other.guid a b q.own_is q.far_is (λ g h. Unmatched g h)
        (parting q.end q.other) (loses q.end.endpoint.guid q.other.guid (is_matched q.end q.other) false q.together refl) in
        inr (into_flat_map (partings_with t.own) (filter p t.far) q.other (Unmatched a b)
        (into_filter p t.far q.other q.there is)
        (into_filter_map (λ (o : End). parting o q.other) t.own q.end (Unmatched a b) q.here lost))
    by_test a b q false is =
        inl (into_matches t.own after a b (record {
          end = q.end;
          other = q.other;
          here = q.here;
          there = stays q.other q.there is;
          together = q.together;
          own_is = q.own_is;
          far_is = q.far_is;
        }))

-- they are taken out
taken_out : (t : Table) (p : Far → Bool) → ((f g : Far) → f.guid ≡ g.guid → p f ≡ p g)
    → ToldIsSo t (flat_map (partings_with t.own) (filter p t.far))
    (record { own = t.own; far = filter (λ f. not (p f)) t.far; most = t.most })
taken_out t p by_name =
    parted t p (filter (λ f. not (p f)) t.far) by_name
    (λ f c is. into_filter (λ f. not (p f)) t.far f c (not_false (p f) is))
    (λ o f c together. (
      from_filter (λ f. not (p f)) t.far f c,
      not_true (p f) (filter_passes (λ f. not (p f)) t.far f c),
    ))

pub withdraw_tells : WithdrawTells
withdraw_tells guid t = taken_out t (is_far guid) (λ f g e. ap (λ (n : Guid). same_guid n guid) e)

of_name : (prefix : GuidPrefix) (f g : Far) → f.guid ≡ g.guid → is_of prefix f ≡ is_of prefix g
of_name prefix f g e = ap (λ (n : Guid). same_prefix n.prefix prefix) e

pub leave_tells : LeaveTells
leave_tells prefix t = taken_out t (is_of prefix) (of_name prefix)

-- ---- sleep

other_stays : (prefix : GuidPrefix) (awake : Bool) (f : Far) → is_of prefix f ≡ false → turned prefix awake f ≡ f
other_stays prefix awake f is = ap (λ (b : Bool). cond b (with_awake awake f) f) is

own_turns : (prefix : GuidPrefix) (awake : Bool) (f : Far) → is_of prefix f ≡ true
    → turned prefix awake f ≡ with_awake awake f
own_turns prefix awake f is = ap (λ (b : Bool). cond b (with_awake awake f) f) is

stays_awake : (prefix : GuidPrefix) (far : List Far) (f : Far) → Contains far f → is_of prefix f ≡ false
    → Contains (map (turned prefix false) far) f
stays_awake prefix far f c is =
    subst (λ (g : Far). Contains (map (turned prefix false) far) g) (other_stays prefix false f is)
    (into_map (turned prefix false) far f c)

sleepers : (prefix : GuidPrefix) (far : List Far) (o : End) (f : Far) → Contains (map (turned prefix false) far) f
    → is_matched o f ≡ true → Contains far f × (is_of prefix f ≡ false)
sleepers prefix far o f c together =
    let m = from_map (turned prefix false) far f c in by_test m.0 m.1 m.2 (is_of prefix m.0) refl
  where
    by_test : (g : Far) → Contains far g → turned prefix false g ≡ f → (b : Bool) → is_of prefix g ≡ b
        → Contains far f × (is_of prefix f ≡ false)
    by_test g c made true is =
        let asleep : is_matched o f ≡ false =
        ap (λ (h : Far). is_matched o h) (sym made ∙ own_turns prefix false g is) in
        let no : true ≡ false = sym together ∙ asleep in absurd cc
    by_test g c made false is =
        let same : g ≡ f = sym (other_stays prefix false g is) ∙ made in (
          subst (λ (h : Far). Contains far h) same c,
          ap (λ (h : Far). is_of prefix h) (sym same) ∙ is,
        )

pub sleep_tells : SleepTells
sleep_tells prefix t =
    parted t (is_of prefix) (map (turned prefix false) t.far) (of_name prefix) (stays_awake prefix t.far)
    (sleepers prefix t.far)

-- ---- one of our own goes, or comes

pub remove_tells : RemoveTells
remove_tells guid t = record {
  matched = λ a b c.
      let m = from_flat_map (partings_of t.far) (filter (is_named guid) t.own) (Matched a b) c in
      let n = from_filter_map (parting m.0) t.far (Matched a b) m.2 in
      let g = is_gained m.0.endpoint.guid n.0.guid a b (is_matched m.0 n.0) false n.2 in
      let no : false ≡ true = g.1 in absurd cc;
  unmatched = λ a b c.
      let m = from_flat_map (partings_of t.far) (filter (is_named guid) t.own) (Unmatched a b) c in
      let n = from_filter_map (parting m.0) t.far (Unmatched a b) m.2 in
      let l = is_lost m.0.endpoint.guid n.0.guid a b (is_matched m.0 n.0) false n.2 in (
        into_matches t.own t.far a b (record {
          end = m.0;
          other = n.0;
          here = from_filter (is_named guid) t.own m.0 m.1;
          there = n.1;
          together = l.0;
          own_is = l.2;
          far_is = l.3;
        }),
        λ again.
            let q = from_matches (filter (λ e. not (is_named guid e)) t.own) t.far a b again in
            let not : not (is_named guid q.end) ≡ true = filter_passes (λ e. not (is_named guid e)) t.own q.end q.here in
            let passes : is_named guid m.0 ≡ true = filter_passes (is_named guid) t.own m.0 m.1 in
            let same : is_named guid m.0 ≡ is_named guid q.end =
            ap (λ (n : Guid). same_guid n guid) (l.2 ∙ sym q.own_is) in
            let no : true ≡ false = sym passes ∙ (same ∙ not_true (is_named guid q.end) not) in absurd cc,
      );
  changed = λ a b c.
      let m = from_flat_map (partings_of t.far) (filter (is_named guid) t.own) (Changed a b) c in
      let n = from_filter_map (parting m.0) t.far (Changed a b) m.2 in
      let g = is_changed m.0.endpoint.guid n.0.guid a b (is_matched m.0 n.0) false n.2 in
      let no : false ≡ true = g.1 in absurd cc;
  gained = λ a b c.
      let q = from_matches (filter (λ e. not (is_named guid e)) t.own) t.far a b c in
      inl (into_matches t.own t.far a b (record {
        end = q.end;
        other = q.other;
        here = from_filter (λ e. not (is_named guid e)) t.own q.end q.here;
        there = q.there;
        together = q.together;
        own_is = q.own_is;
        far_is = q.far_is;
      }));
  lost = λ a b c.
      by_test a b (from_matches t.own t.far a b c) (is_named guid (from_matches t.own t.far a b c).end) refl;
}
  where
    by_test : (a b : Guid) (q : Pair t.own t.far a b) (passes : Bool) → is_named guid q.end ≡ passes
        → AreIn (record { own = filter (λ e. not (is_named guid e)) t.own; far = t.far; most = t.most }) a b
        ⊎ Contains (flat_map (partings_of t.far) (filter (is_named guid) t.own)) (Unmatched a b)
    by_test a b q true is =
        let lost = renamed q.end.endpoint.guid q.other.guid a b q.own_is q.far_is (λ g h. Unmatched g h)
        (parting q.end q.other) (loses q.end.endpoint.guid q.other.guid (is_matched q.end q.other) false q.together refl) in
        inr (into_flat_map (partings_of t.far) (filter (is_named guid) t.own) q.end (Unmatched a b)
        (into_filter (is_named guid) t.own q.end q.here is)
        (into_filter_map (parting q.end) t.far q.other (Unmatched a b) q.there lost))
    by_test a b q false is =
        inl (into_matches (filter (λ e. not (is_named guid e)) t.own) t.far a b (record {
          end = q.end;
          other = q.other;
          here = into_filter (λ e. not (is_named guid e)) t.own q.end q.here (not_false (is_named guid q.end) is);
          there = q.there;
          together = q.together;
          own_is = q.own_is;
          far_is = q.far_is;
        }))

none_named : (guid : Guid) (own : List End) → list_any (is_named guid) own ≡ false → (o : End) → Contains own o
    → o.endpoint.guid ≡ guid → ⊥
none_named guid own none o c e =
    let passes : is_named guid o ≡ true = ap (λ (n : Guid). same_guid n guid) e ∙ guid_is guid in
    let some : list_any (is_named guid) own ≡ true = any_of (is_named guid) own o c passes in
    let no : true ≡ false = sym some ∙ none in absurd cc

pub add_tells : AddTells
add_tells e t none = record {
  matched = λ a b c.
      let n = from_filter_map (meeting e) t.far (Matched a b) c in
      let g = is_gained e.endpoint.guid n.0.guid a b false (is_matched e n.0) n.2 in (
        into_matches (t.own ++ e ∷ []) t.far a b (record {
          end = e;
          other = n.0;
          here = Contains-append_right t.own (e ∷ []) e (is_first e [] e refl);
          there = n.1;
          together = g.1;
          own_is = g.2;
          far_is = g.3;
        }),
        λ before.
            let q = from_matches t.own t.far a b before in
            none_named e.endpoint.guid t.own none q.end q.here (q.own_is ∙ sym g.2),
      );
  unmatched = λ a b c.
      let n = from_filter_map (meeting e) t.far (Unmatched a b) c in
      let l = is_lost e.endpoint.guid n.0.guid a b false (is_matched e n.0) n.2 in
      let no : false ≡ true = l.0 in absurd cc;
  changed = λ a b c.
      let n = from_filter_map (meeting e) t.far (Changed a b) c in
      let l = is_changed e.endpoint.guid n.0.guid a b false (is_matched e n.0) n.2 in
      let no : false ≡ true = l.0 in absurd cc;
  gained = λ a b c.
      let q = from_matches (t.own ++ e ∷ []) t.far a b c in
      by_place a b q (Contains-append_cases t.own (e ∷ []) q.end q.here);
  lost = λ a b c.
      let q = from_matches t.own t.far a b c in
      inl (into_matches (t.own ++ e ∷ []) t.far a b (record {
        end = q.end;
        other = q.other;
        here = Contains-append_left t.own (e ∷ []) q.end q.here;
        there = q.there;
        together = q.together;
        own_is = q.own_is;
        far_is = q.far_is;
      }));
}
  where
    by_place : (a b : Guid) (q : Pair (t.own ++ e ∷ []) t.far a b) → Contains t.own q.end ⊎ Contains (e ∷ []) q.end
        → AreIn t a b ⊎ Contains (filter_map (meeting e) t.far) (Matched a b)
    by_place a b q (inl here) =
        inl (into_matches t.own t.far a b (record {
          end = q.end;
          other = q.other;
          here = here;
          there = q.there;
          together = q.together;
          own_is = q.own_is;
          far_is = q.far_is;
        }))
    by_place a b q (inr new) =
        let is : e ≡ q.end = ⊎_elim (λ same. same) (λ later. absurd (nothing_in q.end later)) (first_or_later e [] q.end new) in
        let together : is_matched e q.other ≡ true = ap (λ (o : End). is_matched o q.other) is ∙ q.together in
        let own : e.endpoint.guid ≡ a = ap (λ (o : End). o.endpoint.guid) is ∙ q.own_is in
        let gained = renamed e.endpoint.guid q.other.guid a b own q.far_is (λ g h. Matched g h) (meeting e q.other)
        (gains e.endpoint.guid q.other.guid false (is_matched e q.other) refl together) in
        inr (into_filter_map (meeting e) t.far q.other (Matched a b) q.there gained)

-- ---- wake

asleep_parts : (a b : Bool) → (a && not b) ≡ true → (a ≡ true) × (b ≡ false)
asleep_parts true false e = (refl, refl)
asleep_parts true true e = absurd cc
asleep_parts false b e = absurd cc

asleep_is : (a b : Bool) → a ≡ true → b ≡ false → (a && not b) ≡ true
asleep_is true false x y = refl
asleep_is true true x y = absurd cc
asleep_is false b x y = absurd cc

who_sleeps : (o : End) (f : Far) → f.is_awake ≡ false → is_matched o f ≡ false
who_sleeps o f e = ap (λ (b : Bool). b && fits_what o f.end) e

who_is_matched : (b c : Bool) → (b && c) ≡ true → (b ≡ true) × (c ≡ true)
who_is_matched true true e = (refl, refl)
who_is_matched true false e = absurd cc
who_is_matched false c e = absurd cc

-- who is matched is matched once its participant is there
stays_matched : (prefix : GuidPrefix) (o : End) (f : Far) → is_matched o f ≡ true
    → is_matched o (turned prefix true f) ≡ true
stays_matched prefix o f together = by_test (is_of prefix f) refl
  where
    by_test : (b : Bool) → is_of prefix f ≡ b → is_matched o (cond b (with_awake true f) f) ≡ true
    by_test true is = (who_is_matched f.is_awake (fits_what o f.end) together).1
    by_test false is = together

pub turned_name : (prefix : GuidPrefix) (awake : Bool) (f : Far) → (turned prefix awake f).guid ≡ f.guid
turned_name prefix awake f = by_test (is_of prefix f)
  where
    by_test : (b : Bool) → (let g : Far = cond b (with_awake awake f) f in g.guid) ≡ f.guid
    by_test true = refl
    by_test false = refl

pub wake_tells : WakeTells
wake_tells prefix t once = record {
  matched = λ a b c.
      let m = from_flat_map (meetings_with t.own) (filter (is_asleep prefix) t.far) (Matched a b) c in
      let n = from_filter_map (change_of (Some m.0) (with_awake true m.0)) t.own (Matched a b) m.2 in
      let g = is_gained n.0.endpoint.guid m.0.guid a b (is_matched n.0 m.0) (is_matched n.0 (with_awake true m.0)) n.2 in
      let sleeps = asleep_parts (is_of prefix m.0) m.0.is_awake (filter_passes (is_asleep prefix) t.far m.0 m.1) in (
        into_matches t.own (map (turned prefix true) t.far) a b (record {
          end = n.0;
          other = with_awake true m.0;
          here = n.1;
          there = subst (λ (f : Far). Contains (map (turned prefix true) t.far) f) (own_turns prefix true m.0 sleeps.0)
              (into_map (turned prefix true) t.far m.0 (from_filter (is_asleep prefix) t.far m.0 m.1));
          together = g.1;
          own_is = g.2;
          far_is = g.3;
        }),
        λ before.
            let q = from_matches t.own t.far a b before in
            let same : q.other ≡ m.0 = only_one (is_far b) t.far q.other m.0 (once.far b) q.there
            (from_filter (is_asleep prefix) t.far m.0 m.1)
            (ap (λ (g : Guid). same_guid g b) q.far_is ∙ guid_is b)
            (ap (λ (g : Guid). same_guid g b) g.3 ∙ guid_is b) in
            let asleep : is_matched q.end q.other ≡ false =
            ap (λ (f : Far). is_matched q.end f) same ∙ who_sleeps q.end m.0 sleeps.1 in
            let together : is_matched q.end q.other ≡ true = q.together in
            let no : true ≡ false = sym together ∙ asleep in absurd cc,
      );
  unmatched = λ a b c.
      let m = from_flat_map (meetings_with t.own) (filter (is_asleep prefix) t.far) (Unmatched a b) c in
      let n = from_filter_map (change_of (Some m.0) (with_awake true m.0)) t.own (Unmatched a b) m.2 in
      let l = is_lost n.0.endpoint.guid m.0.guid a b (is_matched n.0 m.0) (is_matched n.0 (with_awake true m.0)) n.2 in
      let sleeps = asleep_parts (is_of prefix m.0) m.0.is_awake (filter_passes (is_asleep prefix) t.far m.0 m.1) in
      let no : true ≡ false = sym l.0 ∙ who_sleeps n.0 m.0 sleeps.1 in absurd cc;
  changed = λ a b c.
      let m = from_flat_map (meetings_with t.own) (filter (is_asleep prefix) t.far) (Changed a b) c in
      let n = from_filter_map (change_of (Some m.0) (with_awake true m.0)) t.own (Changed a b) m.2 in
      let l = is_changed n.0.endpoint.guid m.0.guid a b (is_matched n.0 m.0) (is_matched n.0 (with_awake true m.0)) n.2 in
      let sleeps = asleep_parts (is_of prefix m.0) m.0.is_awake (filter_passes (is_asleep prefix) t.far m.0 m.1) in
      let no : true ≡ false = sym l.0 ∙ who_sleeps n.0 m.0 sleeps.1 in absurd cc;
  gained = λ a b c.
      let q = from_matches t.own (map (turned prefix true) t.far) a b c in
      let m = from_map (turned prefix true) t.far q.other q.there in
      let together : is_matched q.end (turned prefix true m.0) ≡ true =
      ap (λ (f : Far). is_matched q.end f) m.2 ∙ q.together in
      let name : m.0.guid ≡ b = sym (turned_name prefix true m.0) ∙ (ap (λ (f : Far). f.guid) m.2 ∙ q.far_is) in
      by_test a b q.end q.here q.own_is m.0 m.1 name together (is_of prefix m.0) refl m.0.is_awake refl;
  lost = λ a b c.
      let q = from_matches t.own t.far a b c in
      inl (into_matches t.own (map (turned prefix true) t.far) a b (record {
        end = q.end;
        other = turned prefix true q.other;
        here = q.here;
        there = into_map (turned prefix true) t.far q.other q.there;
        together = stays_matched prefix q.end q.other q.together;
        own_is = q.own_is;
        far_is = turned_name prefix true q.other ∙ q.far_is;
      }));
}
  where
    by_test : (a b : Guid) (o : End) → Contains t.own o → o.endpoint.guid ≡ a → (f : Far) → Contains t.far f
        → f.guid ≡ b → is_matched o (turned prefix true f) ≡ true → (of : Bool) → is_of prefix f ≡ of
        → (awake : Bool) → f.is_awake ≡ awake
        → AreIn t a b
        ⊎ Contains (flat_map (meetings_with t.own) (filter (is_asleep prefix) t.far)) (Matched a b)
    by_test a b o here own_is f there far_is together false of awake is =
        inl (into_matches t.own t.far a b (record {
          end = o;
          other = f;
          here = here;
          there = there;
          together = ap (λ (g : Far). is_matched o g) (sym (other_stays prefix true f of)) ∙ together;
          own_is = own_is;
          far_is = far_is;
        }))
    by_test a b o here own_is f there far_is together true of true is =
        let woken : is_matched o (with_awake true f) ≡ true =
        ap (λ (g : Far). is_matched o g) (sym (own_turns prefix true f of)) ∙ together in
        inl (into_matches t.own t.far a b (record {
          end = o;
          other = f;
          here = here;
          there = there;
          together = ap (λ (b : Bool). b && fits_what o f.end) is ∙ woken;
          own_is = own_is;
          far_is = far_is;
        }))
    by_test a b o here own_is f there far_is together true of false is =
        let woken : is_matched o (with_awake true f) ≡ true =
        ap (λ (g : Far). is_matched o g) (sym (own_turns prefix true f of)) ∙ together in
        let gained = renamed o.endpoint.guid f.guid a b own_is far_is (λ g h. Matched g h)
        (change_of (Some f) (with_awake true f) o)
        (gains o.endpoint.guid f.guid (is_matched o f) (is_matched o (with_awake true f)) (who_sleeps o f is) woken) in
        inr (into_flat_map (meetings_with t.own) (filter (is_asleep prefix) t.far) f (Matched a b)
        (into_filter (is_asleep prefix) t.far f there (asleep_is (is_of prefix f) f.is_awake of is))
        (into_filter_map (change_of (Some f) (with_awake true f)) t.own o (Matched a b) here gained))
