-- The links and the spans of the kept samples, as one is added, and as some are marked.
use Rattle.std.proofs.Common.{◌≡◌, ◌≢◌, ℕ, ◌+◌, ◌≤◌, ◌<◌, List, [], ◌∷◌, ◌++◌, length, get_or, set, Bool, true, false, cond, sym, ap, ◌∙◌, refl, subst, arith, ⊎_elim, ◌⊎◌, inl, inr, Option, Some, None, is_some, Result, Ok, Err, ◌||◌}
use Rattle.std.specs.Cmp.{IsEquivalence}
use Rattle.std.specs.Prelude.{OnOk, is_ok, nat_eq, nat_lt}
use Rattle.std.proofs.lemmas.Bool.{cases_Bool, eqb-true, eqb-false, ltb-true, ltb-false}
use Rattle.std.proofs.lemmas.List.{get_or_append_left, get_or_default, get_or_push, get_or-set_other, get_or-set_same, length-append, length-set}
use Rattle.indexmap.specs.IndexMap.{Updates, get}
use Rattle.dds_base.specs.declared.key.Key.{Key}
use Rattle.dds_base.specs.Happening.{same_key}
use Rattle.dds_base.proofs.KeyLaws.{key-Decides, key-same, same_key-comm, same_key-refl}
use Rattle.dds_cache.specs.declared.chains.Chains.{Chains}
use Rattle.dds_cache.specs.declared.chains.Latest.{Latest}
use Rattle.dds_cache.specs.declared.chains.Span.{Span}
use Rattle.dds_cache.specs.declared.kept.Kept.{Kept}
use Rattle.dds_cache.specs.Chains.{AreChainsOf, AreOthers, HasSpan, IsFirst, IsFirstUnread, IsLinked, IsSpan, Leads, is_latest, span_by, span_of, with_more}

-- two keys that the test tells apart are two
pub keys-apart : (i j : Key) → same_key i j ≡ false → i ≢ j
keys-apart i j other same = let clash : true ≡ false = sym ((key-Decides i j).1 same) ∙ other in cc

pub keys-equivalent : IsEquivalence same_key
keys-equivalent = record {
  refl = same_key-refl;
  symm = same_key-comm;
  congr = λ i j x same. ap (λ (y : Key). same_key y x) (key-same i j same);
}

-- what holds where a call succeeds holds once it has
pub where-ok : {A E : Type 0} (r : Result A E) (P : Type 0) → is_ok r ≡ true → OnOk r P → P
where-ok (Ok x) P is holds = holds
where-ok (Err e) P is holds = absurd (let clash : false ≡ true = is in cc)

-- an instance that is the latest now has the span that is said of it, and each other one what it had, if that was put back
pub has-latest : (old new : Chains) (latest : Latest) → new.latest ≡ Some latest
    → ((j : Key) → same_key latest.key j ≡ false → get same_key new.spans j ≡ span_of old j)
    → HasSpan old latest.key latest.span new
has-latest old new latest is others = λ j. here j ∙ one j (same_key latest.key j) refl
  where
    here : (j : Key)
        → span_of new j ≡ cond (same_key latest.key j) (Some latest.span) (get same_key new.spans j)
    here j = ap (λ (o : Option Latest). span_by o (get same_key new.spans j) j) is

    one : (j : Key) (b : Bool) → same_key latest.key j ≡ b
        → cond b (Some latest.span) (get same_key new.spans j) ≡ cond b (Some latest.span) (span_of old j)
    one j true own = refl
    one j false other = others j other

-- one that is not the latest has the span that is kept of it
pub kept-span : (chains : Chains) (i : Key) → is_latest chains.latest i ≡ false
    → span_of chains i ≡ get same_key chains.spans i
kept-span chains i apart = one chains.latest (get same_key chains.spans i) apart
  where
    one : (o : Option Latest) (kept : Option Span) → is_latest o i ≡ false → span_by o kept i ≡ kept
    one None kept apart = refl
    one (Some l) kept apart = ap (λ (b : Bool). cond b (Some l.span) kept) apart

-- where that is another one now, it has it
pub has-kept : (old new : Chains) (i : Key) (span : Span) → is_latest old.latest i ≡ false → new.latest ≡ old.latest
    → Updates same_key old.spans new.spans i (Some span) → HasSpan old i span new
has-kept old new i span apart latest updates = λ j.
    ap (λ (o : Option Latest). span_by o (get same_key new.spans j) j) latest
    ∙ (ap (λ (kept : Option Span). span_by old.latest kept j) (updates.0 j)
    ∙ one old.latest j (get same_key old.spans j) apart)
  where
    both : (l : Latest) (j : Key) (kept : Option Span) (own at : Bool) → same_key l.key j ≡ own → same_key i j ≡ at
        → same_key l.key i ≡ false
        → cond own (Some l.span) (cond at (Some span) kept) ≡ cond at (Some span) (cond own (Some l.span) kept)
    both l j kept false at is there apart = refl
    both l j kept true false is there apart = refl
    both l j kept true true is there apart =
        let clash : true ≡ false =
        sym is ∙ (ap (λ (k : Key). same_key l.key k) (sym (key-same i j there)) ∙ apart) in cc

    one : (o : Option Latest) (j : Key) (kept : Option Span) → is_latest o i ≡ false
        → span_by o (cond (same_key i j) (Some span) kept) j ≡ cond (same_key i j) (Some span) (span_by o kept j)
    one None j kept apart = refl
    one (Some l) j kept apart = both l j kept (same_key l.key j) (same_key i j) refl refl apart

-- a place among those with one more is an earlier one, or the last
earlier-or-last : (ks : List Kept) (k : Kept) (at : ℕ) → at < length (ks ++ k ∷ [])
    → (at < length ks) ⊎ (at ≡ length ks)
earlier-or-last ks k at within =
    let len : length (ks ++ k ∷ []) ≡ length ks + 1 = length-append ks (k ∷ []) in
    one (cases_Bool (nat_eq at (length ks))) (omega (arith, len, within))
  where
    one : (nat_eq at (length ks) ≡ true) ⊎ (nat_eq at (length ks) ≡ false) → at ≤ length ks
        → (at < length ks) ⊎ (at ≡ length ks)
    one (inl same) within = inr (eqb-true at (length ks) same)
    one (inr other) within =
        let apart : at ≢ length ks = eqb-false at (length ks) other in
        inl (omega (arith, within, apart))

-- where an instance has no span, none of the samples is of it
pub none-spanned : (ks : List Kept) (i : Key) (chains : Chains) → IsLinked ks chains → None ≡ span_of chains i
    → (at : ℕ) (d : Kept) → at < length ks → (get_or ks at d).sample.key ≢ i
none-spanned ks i chains linked none at d within own =
    let clash : true ≡ false =
    sym (linked.each at d within)
    ∙ (ap (λ (j : Key). is_some (span_of chains j)) own ∙ sym (ap is_some none)) in cc

-- with one more sample those of an instance end at its place, and begin no later than there, or than they did
more-last : (o : Option Span) (place : ℕ) → (with_more o place).last ≡ place
more-last None place = refl
more-last (Some b) place = refl

more-first : (o : Option Span) (place : ℕ) → (with_more o place).first ≤ place
more-first None place = omega arith
more-first (Some b) place = omega arith

more-unread : (o : Option Span) (place : ℕ) → (with_more o place).unread ≤ place
more-unread None place = omega arith
more-unread (Some b) place = omega arith

first-stays : (o : Option Span) (b : Span) (place : ℕ) → o ≡ Some b → (with_more o place).first ≤ b.first
first-stays None b place is = absurd (let clash : false ≡ true = ap is_some is in cc)
first-stays (Some a) b place is = let same : a.first ≡ b.first = cc in omega (arith, same)

unread-stays : (o : Option Span) (b : Span) (place : ℕ) → o ≡ Some b → (with_more o place).unread ≤ b.unread
unread-stays None b place is = absurd (let clash : false ≡ true = ap is_some is in cc)
unread-stays (Some a) b place is = let same : a.unread ≡ b.unread = cc in omega (arith, same)

module _ (ks : List Kept) (k : Kept) (old led new : Chains) (link : ℕ) (linked : IsLinked ks old)
    (leads : Leads old k.sample.key (length ks) led) (links : new.links.items ≡ led.links.items ++ link ∷ [])
    (spans : (i : Key) → span_of new i ≡ span_of led i) where
  abbrev had : Option Span
  had = span_of old k.sample.key

  abbrev span : Span
  span = with_more had (length ks)

  ends : span.last ≡ length ks
  ends = more-last had (length ks)

  spanned : (i : Key) → span_of new i
      ≡ cond (same_key k.sample.key i) (Some span) (span_of old i)
  spanned i = spans i ∙ leads.spans i

  earlier : (at : ℕ) (d : Kept) → at < length ks → (get_or (ks ++ k ∷ []) at d).sample.key ≡ (get_or ks at d).sample.key
  earlier at d within = ap (λ (x : Kept). x.sample.key) (get_or_append_left ks (k ∷ []) d at within)

  last : (at : ℕ) (d : Kept) → at ≡ length ks → get_or (ks ++ k ∷ []) at d ≡ k
  last at d is = get_or_push ks k d at (sym is)

  link-is : (at : ℕ) → at < length ks → get_or new.links.items at 0 ≡ get_or led.links.items at 0
  link-is at within =
      ap (λ (xs : List ℕ). get_or xs at 0) links
      ∙ get_or_append_left led.links.items (link ∷ []) 0 at (omega (arith, within, leads.len, linked.len))

  -- none of the instance was kept, or it had a span
  before : (at : ℕ) (d : Kept) → at < length ks → (get_or ks at d).sample.key ≡ k.sample.key
      → (b : Span) × (span_of old k.sample.key ≡ Some b)
  before at d within same = one (span_of old k.sample.key) refl
    where
      one : (o : Option Span) → span_of old k.sample.key ≡ o → (b : Span) × (span_of old k.sample.key ≡ Some b)
      one (Some b) is = (b, is)
      one None is = absurd (none-spanned ks k.sample.key old linked (sym is) at d within same)

  passes-none : (at j : ℕ) (d e : Kept) → at < length ks → at < j → j < get_or new.links.items at 0
      → j < length (ks ++ k ∷ []) → (get_or (ks ++ k ∷ []) j e).sample.key ≡ (get_or ks at d).sample.key → ⊥
  passes-none at j d e within behind below inside same = one (earlier-or-last ks k j inside) (ended (span_of old k.sample.key) refl)
    where
      ended : (o : Option Span) → span_of old k.sample.key ≡ o
          → ((b : Span) × (span_of old k.sample.key ≡ Some b) × (at ≡ b.last))
          ⊎ ((b : Span) → span_of old k.sample.key ≡ Some b → at ≢ b.last)
      ended None is = inr (λ b some. absurd (let clash : true ≡ false = sym (ap is_some some) ∙ ap is_some is in cc))
      ended (Some b) is = ⊎_elim
          (λ at_last. inl (b, is, eqb-true at b.last at_last))
          (λ other. inr (λ c some at_last. eqb-false at b.last other
          (at_last ∙ ap (λ (s : Span). s.last) (injected (sym some ∙ is)))))
          (cases_Bool (nat_eq at b.last))
        where
          injected : {s t : Span} → Some s ≡ Some t → s ≡ t
          injected same = cc

      one : (j < length ks) ⊎ (j ≡ length ks)
          → ((b : Span) × (span_of old k.sample.key ≡ Some b) × (at ≡ b.last))
          ⊎ ((b : Span) → span_of old k.sample.key ≡ Some b → at ≢ b.last) → ⊥
      one (inl there) (inl (b, is, at_last)) =
          let s : IsSpan ks k.sample.key b = linked.spans k.sample.key b is in
          let own : (get_or ks at d).sample.key ≡ k.sample.key = ap (λ (n : ℕ). (get_or ks n d).sample.key) at_last ∙ s.own d in
          let le : j ≤ b.last = s.last j e there (sym (earlier j e there) ∙ (same ∙ own)) in
          omega (arith, le, at_last, behind)
      one (inl there) (inr apart) =
          linked.links at d within j e behind
          (omega (arith, below, link-is at within, leads.same at apart)) there (sym (earlier j e there) ∙ same)
      one (inr new) (inl (b, is, at_last)) =
          let led_to : get_or led.links.items b.last 0 ≤ length ks = leads.led b is in
          let at_is : get_or led.links.items at 0 ≡ get_or led.links.items b.last 0 =
          ap (λ (n : ℕ). get_or led.links.items n 0) at_last in
          omega (arith, led_to, at_is, link-is at within, below, new)
      one (inr new) (inr apart) =
          let own : (get_or ks at d).sample.key ≡ k.sample.key = sym same ∙ ap (λ (x : Kept). x.sample.key) (last j e new) in
          let found = before at d within own in
          let s : IsSpan ks k.sample.key found.0 = linked.spans k.sample.key found.0 found.1 in
          let le : at ≤ found.0.last = s.last at d within own in
          let other : at ≢ found.0.last = apart found.0 found.1 in
          linked.links at d within found.0.last d (omega (arith, le, other))
          (omega (arith, below, link-is at within, leads.same at apart, s.within, new)) s.within
          (s.own d ∙ sym own)

  span-is : (i : Key) (s : Span) → span_of new i ≡ Some s → IsSpan (ks ++ k ∷ []) i s
  span-is i s is = one (cases_Bool (same_key k.sample.key i))
    where
      len : length (ks ++ k ∷ []) ≡ length ks + 1
      len = length-append ks (k ∷ [])

      one : (same_key k.sample.key i ≡ true) ⊎ (same_key k.sample.key i ≡ false) → IsSpan (ks ++ k ∷ []) i s
      one (inl own) =
          let key : k.sample.key ≡ i = key-same k.sample.key i own in
          let which : Some s ≡ Some span =
          sym is ∙ (spanned i ∙ ap (λ (b : Bool). cond b (Some span) (span_of old i)) own) in
          let same : s ≡ span = cc in
          subst (λ (x : Span). IsSpan (ks ++ k ∷ []) i x) (sym same) (record {
            within = omega (arith, len, ends);
            own = λ d. ap (λ (x : Kept). x.sample.key) (last span.last d ends) ∙ key;
            first = λ at d within is_own is_in. ⊎_elim
                (λ there.
                let own_old : (get_or ks at d).sample.key ≡ k.sample.key = sym (earlier at d there) ∙ (is_own ∙ sym key) in
                let found = before at d there own_old in
                let le : found.0.first ≤ at = (linked.spans k.sample.key found.0 found.1).first at d there own_old
                (ap (λ (x : Kept). x.is_out) (sym (get_or_append_left ks (k ∷ []) d at there)) ∙ is_in) in
                omega (arith, le, first-stays had found.0 (length ks) found.1))
                (λ new. omega (arith, new, more-first had (length ks))) (earlier-or-last ks k at within);
            unread = λ at d within is_own is_in is_new. ⊎_elim
                (λ there.
                let own_old : (get_or ks at d).sample.key ≡ k.sample.key = sym (earlier at d there) ∙ (is_own ∙ sym key) in
                let found = before at d there own_old in
                let same_one : get_or (ks ++ k ∷ []) at d ≡ get_or ks at d = get_or_append_left ks (k ∷ []) d at there in
                let le : found.0.unread ≤ at = (linked.spans k.sample.key found.0 found.1).unread at d there own_old
                (ap (λ (x : Kept). x.is_out) (sym same_one) ∙ is_in)
                (ap (λ (x : Kept). x.is_read) (sym same_one) ∙ is_new) in
                omega (arith, le, unread-stays had found.0 (length ks) found.1))
                (λ new. omega (arith, new, more-unread had (length ks))) (earlier-or-last ks k at within);
            last = λ at d within is_own. omega (arith, within, len, ends);
          })
      one (inr other) =
          let apart : k.sample.key ≢ i = keys-apart k.sample.key i other in
          let before_is : span_of old i ≡ Some s =
          sym (spanned i ∙ ap (λ (b : Bool). cond b (Some span) (span_of old i)) other) ∙ is in
          let was : IsSpan ks i s = linked.spans i s before_is in
          record {
            within = omega (arith, len, was.within);
            own = λ d. earlier s.last d was.within ∙ was.own d;
            first = λ at d within is_own is_in. ⊎_elim
                (λ there. was.first at d there (sym (earlier at d there) ∙ is_own)
                (ap (λ (x : Kept). x.is_out) (sym (get_or_append_left ks (k ∷ []) d at there)) ∙ is_in))
                (λ new. absurd (apart (sym (ap (λ (x : Kept). x.sample.key) (last at d new)) ∙ is_own)))
                (earlier-or-last ks k at within);
            unread = λ at d within is_own is_in is_new. ⊎_elim
                (λ there.
                let same_one : get_or (ks ++ k ∷ []) at d ≡ get_or ks at d = get_or_append_left ks (k ∷ []) d at there in
                was.unread at d there (sym (earlier at d there) ∙ is_own)
                (ap (λ (x : Kept). x.is_out) (sym same_one) ∙ is_in)
                (ap (λ (x : Kept). x.is_read) (sym same_one) ∙ is_new))
                (λ new. absurd (apart (sym (ap (λ (x : Kept). x.sample.key) (last at d new)) ∙ is_own)))
                (earlier-or-last ks k at within);
            last = λ at d within is_own. ⊎_elim
                (λ there. was.last at d there (sym (earlier at d there) ∙ is_own))
                (λ new. absurd (apart (sym (ap (λ (x : Kept). x.sample.key) (last at d new)) ∙ is_own)))
                (earlier-or-last ks k at within);
          }

  has-span : (i : Key) → (i ≡ k.sample.key) ⊎ (is_some (span_of old i) ≡ true)
      → is_some (span_of new i) ≡ true
  has-span i from = one (same_key k.sample.key i) refl from
    where
      one : (b : Bool) → same_key k.sample.key i ≡ b → (i ≡ k.sample.key) ⊎ (is_some (span_of old i) ≡ true)
          → is_some (span_of new i) ≡ true
      one true is from =
          ap is_some (spanned i ∙ ap (λ (b : Bool). cond b (Some span) (span_of old i)) is)
      one false is (inl same) = absurd (keys-apart k.sample.key i is (sym same))
      one false is (inr some) =
          ap is_some (spanned i ∙ ap (λ (b : Bool). cond b (Some span) (span_of old i)) is) ∙ some

  -- with one more sample the chains are those of all of them
  pub linked-more : IsLinked (ks ++ k ∷ []) new
  linked-more = record {
    len = ap length links ∙ (length-append led.links.items (link ∷ [])
        ∙ (ap (λ (n : ℕ). n + 1) (leads.len ∙ linked.len) ∙ sym (length-append ks (k ∷ []))));
    links = λ at d within j e behind below inside same. ⊎_elim
        (λ there. passes-none at j d e there behind below inside (same ∙ earlier at d there))
        (λ new. let len : length (ks ++ k ∷ []) ≡ length ks + 1 = length-append ks (k ∷ []) in
        omega (arith, len, new, behind, inside))
        (earlier-or-last ks k at within);
    spans = span-is;
    each = λ at d within. ⊎_elim
        (λ there. ap (λ (i : Key). is_some (span_of new i)) (earlier at d there)
        ∙ has-span (get_or ks at d).sample.key (inr (linked.each at d there)))
        (λ new. has-span (get_or (ks ++ k ∷ []) at d).sample.key (inl (ap (λ (x : Kept). x.sample.key) (last at d new))))
        (earlier-or-last ks k at within);
  }

-- the chains stay those of the samples where each keeps its key, and those that are gone stay so
pub chains-same : (old new : List Kept) (chains : Chains) → length new ≡ length old
    → ((at : ℕ) (d : Kept) → at < length old → (get_or new at d).sample.key ≡ (get_or old at d).sample.key)
    → ((at : ℕ) (d : Kept) → at < length old → (get_or new at d).is_out ≡ false → (get_or old at d).is_out ≡ false)
    → ((at : ℕ) (d : Kept) → at < length old → (get_or new at d).is_read ≡ false → (get_or old at d).is_read ≡ false)
    → AreChainsOf old chains → AreChainsOf new chains
chains-same old new chains len keys outs reads are = λ whole.
    let linked : IsLinked old chains = are whole in
    let within : (at : ℕ) → at < length new → at < length old = λ at inside. omega (arith, len, inside) in
    record {
      len = linked.len ∙ sym len;
      links = λ at d inside j e behind below there same. linked.links at d (within at inside) j e behind below
          (within j there) (sym (keys j e (within j there)) ∙ (same ∙ keys at d (within at inside)));
      spans = λ i span is. let was : IsSpan old i span = linked.spans i span is in
          record {
            within = omega (arith, len, was.within);
            own = λ d. keys span.last d was.within ∙ was.own d;
            first = λ at d inside own stays. was.first at d (within at inside)
                (sym (keys at d (within at inside)) ∙ own) (outs at d (within at inside) stays);
            unread = λ at d inside own stays new_one. was.unread at d (within at inside)
                (sym (keys at d (within at inside)) ∙ own) (outs at d (within at inside) stays)
                (reads at d (within at inside) new_one);
            last = λ at d inside own. was.last at d (within at inside) (sym (keys at d (within at inside)) ∙ own);
          };
      each = λ at d inside. ap (λ (i : Key). is_some (span_of chains i)) (keys at d (within at inside))
          ∙ linked.each at d (within at inside);
    }

-- so they do where one of them is changed that way
pub chains-set : (ks : List Kept) (at : ℕ) (k v : Kept) (chains : Chains) → at < length ks → k ≡ get_or ks at k
    → v.sample.key ≡ k.sample.key → (v.is_out ≡ false → k.is_out ≡ false) → (v.is_read ≡ false → k.is_read ≡ false)
    → AreChainsOf ks chains → AreChainsOf (set ks at v) chains
chains-set ks at k v chains within is key out read =
    chains-same ks (set ks at v) chains (length-set ks at v)
    (λ j d inside. one (λ x. x.sample.key ≡ (get_or ks j d).sample.key) j d inside
    (λ here. key ∙ (ap (λ (x : Kept). x.sample.key) (is ∙ old j d here))) refl)
    (λ j d inside. one (λ x. x.is_out ≡ false → (get_or ks j d).is_out ≡ false) j d inside
    (λ here stays. ap (λ (x : Kept). x.is_out) (sym (is ∙ old j d here)) ∙ out stays) (λ stays. stays))
    (λ j d inside. one (λ x. x.is_read ≡ false → (get_or ks j d).is_read ≡ false) j d inside
    (λ here stays. ap (λ (x : Kept). x.is_read) (sym (is ∙ old j d here)) ∙ read stays) (λ stays. stays))
  where
    old : (j : ℕ) (d : Kept) → at ≡ j → get_or ks at k ≡ get_or ks j d
    old j d here = get_or_default ks at k d within ∙ ap (λ (n : ℕ). get_or ks n d) here

    one : (P : Kept → Type 0) (j : ℕ) (d : Kept) → j < length ks → (at ≡ j → P v) → P (get_or ks j d)
        → P (get_or (set ks at v) j d)
    one P j d inside changed same =
        ⊎_elim
        (λ here. let is : at ≡ j = eqb-true at j here in
        subst P (sym (ap (λ (n : ℕ). get_or (set ks at v) n d) (sym is) ∙ get_or-set_same ks at v d within)) (changed is))
        (λ other. subst P (sym (get_or-set_other ks at j v d (λ here. eqb-false at j other (sym here)))) same) (cases_Bool (nat_eq at j))

-- behind one that is gone the others begin
pub first-after : (ks : List Kept) (i : Key) (at next : ℕ) (k : Kept) → at < length ks → (get_or ks at k).is_out ≡ true
    → IsFirst ks i at → AreOthers ks i at next → IsFirst ks i next
first-after ks i at next k within out begins others = λ j d inside own stays.
    let from : at ≤ j = begins j d inside own stays in
    ⊎_elim
    (λ here. let same : at ≡ j = eqb-true at j here in
    absurd (let clash : true ≡ false = sym out ∙ (ap (λ (x : Kept). x.is_out) (get_or_default ks at k d within
    ∙ ap (λ (m : ℕ). get_or ks m d) same) ∙ stays) in cc))
    (λ behind. let apart : at ≢ j = eqb-false at j behind in
    ⊎_elim
    (λ below. absurd (others j d (omega (arith, from, apart)) (ltb-true j next below) inside own))
    (λ reached. ltb-false j next reached) (cases_Bool (nat_lt j next)))
    (cases_Bool (nat_eq at j))

-- behind one that was returned those begin that were not read
pub unread-after : (ks : List Kept) (i : Key) (at next : ℕ) (k : Kept) → at < length ks
    → ((get_or ks at k).is_out || (get_or ks at k).is_read) ≡ true
    → IsFirstUnread ks i at → AreOthers ks i at next → IsFirstUnread ks i next
unread-after ks i at next k within returned begins others = λ j d inside own stays unread.
    let from : at ≤ j = begins j d inside own stays unread in
    ⊎_elim
    (λ here. let same : get_or ks at k ≡ get_or ks j d = get_or_default ks at k d within
    ∙ ap (λ (m : ℕ). get_or ks m d) (eqb-true at j here) in
    absurd (neither (get_or ks at k).is_out (get_or ks at k).is_read returned
    (ap (λ (x : Kept). x.is_out) same ∙ stays) (ap (λ (x : Kept). x.is_read) same ∙ unread)))
    (λ behind. let apart : at ≢ j = eqb-false at j behind in
    ⊎_elim
    (λ below. absurd (others j d (omega (arith, from, apart)) (ltb-true j next below) inside own))
    (λ reached. ltb-false j next reached) (cases_Bool (nat_lt j next)))
    (cases_Bool (nat_eq at j))
  where
    neither : (a b : Bool) → (a || b) ≡ true → a ≡ false → b ≡ false → ⊥
    neither true b some no_a no_b = let clash : true ≡ false = no_a in cc
    neither false true some no_a no_b = let clash : true ≡ false = no_b in cc
    neither false false some no_a no_b = let clash : false ≡ true = some in cc

-- the samples of an instance may begin at other places
pub linked-first : (ks : List Kept) (i : Key) (first unread : ℕ) (before : Span) (old new : Chains) → IsLinked ks old
    → new.links ≡ old.links → span_of old i ≡ Some before → IsFirst ks i first → IsFirstUnread ks i unread
    → HasSpan old i (record { first = first; unread = unread; last = before.last }) new → IsLinked ks new
linked-first ks i first unread before old new linked links was begins begins_unread has = record {
  len = ap (λ v. length v.items) links ∙ linked.len;
  links = λ at d within. subst (λ (m : ℕ). AreOthers ks (get_or ks at d).sample.key at m)
      (sym (ap (λ v. get_or v.items at 0) links)) (linked.links at d within);
  spans = λ j s is. one j s is (cases_Bool (same_key i j));
  each = λ at d within. still (get_or ks at d).sample.key (linked.each at d within) (cases_Bool (same_key i (get_or ks at d).sample.key));
}
  where
    span : Span
    span = record { first = first; unread = unread; last = before.last }

    one : (j : Key) (s : Span) → span_of new j ≡ Some s → (same_key i j ≡ true) ⊎ (same_key i j ≡ false)
        → IsSpan ks j s
    one j s is (inl own) =
        let which : Some s ≡ Some span = sym is
        ∙ (has j ∙ ap (λ (b : Bool). cond b (Some span) (span_of old j)) own) in
        let same : s ≡ span = cc in
        let old_span : IsSpan ks i before = linked.spans i before was in
        subst (λ (x : Key). IsSpan ks x s) (key-same i j own) (subst (λ (x : Span). IsSpan ks i x) (sym same) (record {
          within = old_span.within;
          own = old_span.own;
          first = begins;
          unread = begins_unread;
          last = old_span.last;
        }))
    one j s is (inr other) =
        linked.spans j s
        (sym (has j ∙ ap (λ (b : Bool). cond b (Some span) (span_of old j)) other) ∙ is)

    still : (j : Key) → is_some (span_of old j) ≡ true → (same_key i j ≡ true) ⊎ (same_key i j ≡ false)
        → is_some (span_of new j) ≡ true
    still j had (inl own) =
        ap is_some (has j ∙ ap (λ (b : Bool). cond b (Some span) (span_of old j)) own)
    still j had (inr other) =
        ap is_some (has j ∙ ap (λ (b : Bool). cond b (Some span) (span_of old j)) other) ∙ had
