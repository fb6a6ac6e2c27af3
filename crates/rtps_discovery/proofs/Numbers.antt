-- How many rows there are.
use Rattle.std.proofs.Common.{◌≡◌, ◌⊎◌, ◌∙◌, ℕ, suc, ◌+◌, ◌<◌, ◌≤◌, Bool, true, false, cond, List, [], ◌∷◌, ◌++◌, length, take, drop, map, get_or, set, max, Option, Some, None, refl, sym, ap, subst, inl, inr, ⊎_elim, arith}
use Rattle.std.specs.Prelude.{filter, not, remove, unwrap_or}
use Rattle.std.specs.List.{count_by, position, sum_by}
use Rattle.std.specs.Option.{option_map, option_map_or}
use Rattle.std.specs.Str.{bytes_eq}
use Rattle.std.proofs.lemmas.List.{length-map, length-set, length-append, length_push}
use Rattle.std.proofs.lemmas.List.Sums.{count_by-le-length, length-filter, sum_by-append, sum_by-cons, sum_by-set, sum_by_push}
use Rattle.dds_base.specs.declared.guid.GuidPrefix.{GuidPrefix}
use Rattle.rtps_announcements.specs.declared.participant.Participant.{Participant}
use Rattle.rtps_discovery.specs.declared.row.Row.{Row}
use Rattle.rtps_discovery.specs.declared.row.Limits.{Limits}
use Rattle.rtps_discovery.specs.declared.spdp.Said.{Said}
use Rattle.rtps_discovery.specs.declared.spdp.Said.TheVariants.{Announces, Leaves}
use Rattle.rtps_discovery.specs.Rows.{announced, entered, has_ended, has_row, heard, heard_row, is_from, is_row, is_row_at, new_row, slept_row, with_room}
use Rattle.rtps_discovery.specs.Steps.{State, Delivers, rows_after, ticked}
use Rattle.rtps_discovery.specs.Laws.{Delivery, IsFew, IsFewAt, FewAreKnown, FewAreKnownAt}
use Rattle.rtps_discovery.proofs.Members.{parts_at}
use Rattle.rtps_discovery.proofs.Standing.{Removed, Whole, both, position_passes, position_within, room_is, same_address}

-- ---- in all

one_less : {X : Type 0} (xs : List X) (i : ℕ) (d : X) → i < length xs → length (remove xs i) + 1 ≡ length xs
one_less xs i d l =
    omega (
      arith,
      ap length (parts_at xs i d l),
      length-append (take i xs) (get_or xs i d ∷ drop (suc i) xs),
      length-append (take i xs) (drop (suc i) xs),
    )

heard_long : (prefix : GuidPrefix) (address : List ℕ) (now : ℕ) (rows : List Row)
    → length (heard prefix address now rows) ≡ length rows
heard_long prefix address now rows = length-map rows (heard_row prefix address now)

announced_long : (p : Participant) (address : List ℕ) (now : ℕ) (rows : List Row)
    → length (announced p address now rows) ≡ length rows
announced_long p address now rows = by_place (position (is_row_at p.prefix address) rows)
  where
    by_place : (o : Option ℕ) → length (option_map_or (λ i. set rows i (new_row p address now)) o rows) ≡ length rows
    by_place None = refl
    by_place (Some i) = length-set rows i (new_row p address now)

entered_long : (limits : Limits) (p : Participant) (address : List ℕ) (now : ℕ) (rows : List Row)
    → length rows ≤ limits.of_all → length (entered limits p address now rows) ≤ limits.of_all
entered_long limits p address now rows few = by_room (with_room limits address rows) refl
  where
    by_kept : (kept : List Row) → Whole limits address rows kept ⊎ Removed limits address rows kept
        → length (kept ++ new_row p address now ∷ []) ≤ limits.of_all
    by_kept kept (inl w) =
        let less = w.few in omega (arith, length_push kept (new_row p address now), ap length w.is, less)
    by_kept kept (inr m) =
        omega (
          arith,
          few,
          length_push kept (new_row p address now),
          ap length m.is,
          one_less rows m.place (new_row p address now) m.within,
        )

    by_room : (o : Option (List Row)) → with_room limits address rows ≡ o
        → length (unwrap_or (option_map (λ (kept : List Row). kept ++ new_row p address now ∷ []) o) rows) ≤ limits.of_all
    by_room None is = few
    by_room (Some kept) is = by_kept kept (room_is limits address rows kept is)

few_after : (s : State) (source : GuidPrefix) (address : List ℕ) (now : ℕ) (o : Option Said)
    → length s.rows ≤ s.limits.of_all → length (rows_after s source address now o) ≤ s.limits.of_all
few_after s source address now None few = omega (arith, few, heard_long source address now s.rows)
few_after s source address now (Some Leaves) few =
    let there = heard source address now s.rows in
    let test : Row → Bool = λ (r : Row). not (is_row_at source address r) in
    omega (
      arith,
      few,
      heard_long source address now s.rows,
      length-filter (λ (r : Row). not (is_row_at source address r)) (heard source address now s.rows),
      count_by-le-length (λ (r : Row). not (is_row_at source address r)) (heard source address now s.rows),
    )
few_after s source address now (Some (Announces p)) few = by_test (has_row source s.rows)
  where
    by_test : (b : Bool)
        → length (cond b (announced p address now (heard source address now s.rows)) (entered s.limits p address now s.rows))
        ≤ s.limits.of_all
    by_test true =
        omega (
          arith,
          few,
          heard_long source address now s.rows,
          announced_long p address now (heard source address now s.rows),
        )
    by_test false = entered_long s.limits p address now s.rows few

few_delivered : (d : Delivery) → IsFew d.before → IsFew d.after
few_delivered d few = by_delivery d.delivers
  where
    by_delivery : Delivers d.before d.moment d.address d.bytes d.after d.told d.packet → IsFew d.after
    by_delivery (inl h) =
        subst (λ (z : State). IsFew z) (sym h.state)
        (few_after d.before h.source d.address (max d.before.time d.moment) h.said few)
    by_delivery (inr p) = subst (λ (z : State). IsFew z) (sym p.state) few

pub few_are_known : FewAreKnown
few_are_known = (
  λ p domain addresses limits. omega arith,
  few_delivered,
  λ s now few. omega (arith, few, length-map s.rows (slept_row now)),
)

-- ---- of one address

-- a row counts, or does not
abbrev weight : List ℕ → Row → ℕ
weight a r = cond (is_from a r) 1 0

count_map : (a : List ℕ) (f : Row → Row) → ((r : Row) → weight a (f r) ≡ weight a r) → (rows : List Row)
    → count_by (is_from a) (map f rows) ≡ count_by (is_from a) rows
count_map a f same [] = refl
count_map a f same (r ∷ rows) =
    let rest = count_map a f same rows in
    sum_by-cons (weight a) (f r) (map f rows)
    ∙ (ap (λ (n : ℕ). n + sum_by (weight a) (map f rows)) (same r)
    ∙ (ap (λ (n : ℕ). weight a r + n) rest ∙ sym (sum_by-cons (weight a) r rows)))

count_filter : (a : List ℕ) (keep : Row → Bool) (rows : List Row)
    → count_by (is_from a) (filter keep rows) ≤ count_by (is_from a) rows
count_filter a keep [] = omega arith
count_filter a keep (r ∷ rows) = by_test (keep r) (count_filter a keep rows)
  where
    by_test : (b : Bool) → sum_by (weight a) (filter keep rows) ≤ sum_by (weight a) rows
        → sum_by (weight a) (cond b (r ∷ filter keep rows) (filter keep rows)) ≤ sum_by (weight a) (r ∷ rows)
    by_test true rest =
        let one = sum_by-cons (weight a) r (filter keep rows) in
        let all = sum_by-cons (weight a) r rows in
        omega (arith, rest, one, all)
    by_test false rest = let all = sum_by-cons (weight a) r rows in omega (arith, rest, all)

count_removed : (a : List ℕ) (rows : List Row) (i : ℕ) (d : Row) → i < length rows
    → count_by (is_from a) (remove rows i) + weight a (get_or rows i d) ≡ count_by (is_from a) rows
count_removed a rows i d l =
    let whole = ap (sum_by (weight a)) (parts_at rows i d l) in
    let parts = sum_by-append (weight a) (take i rows) (get_or rows i d ∷ drop (suc i) rows) in
    let one = sum_by-cons (weight a) (get_or rows i d) (drop (suc i) rows) in
    let kept = sum_by-append (weight a) (take i rows) (drop (suc i) rows) in
    omega (arith, whole, parts, one, kept)

heard_weight : (a : List ℕ) (prefix : GuidPrefix) (address : List ℕ) (now : ℕ) (r : Row)
    → weight a (heard_row prefix address now r) ≡ weight a r
heard_weight a prefix address now r = by_test (is_row_at prefix address r)
  where
    by_test : (b : Bool)
        → weight a (cond b (record {
          participant = r.participant;
          source = r.source;
          heard = now;
          is_awake = true;
        }) r) ≡ weight a r
    by_test true = refl
    by_test false = refl

slept_weight : (a : List ℕ) (now : ℕ) (r : Row) → weight a (slept_row now r) ≡ weight a r
slept_weight a now r = by_test (has_ended now r)
  where
    by_test : (b : Bool)
        → weight a (cond b (record {
          participant = r.participant;
          source = r.source;
          heard = r.heard;
          is_awake = false;
        }) r) ≡ weight a r
    by_test true = refl
    by_test false = refl

heard_count : (a : List ℕ) (prefix : GuidPrefix) (address : List ℕ) (now : ℕ) (rows : List Row)
    → count_by (is_from a) (heard prefix address now rows) ≡ count_by (is_from a) rows
heard_count a prefix address now rows =
    count_map a (heard_row prefix address now) (heard_weight a prefix address now) rows

announced_count : (a : List ℕ) (p : Participant) (address : List ℕ) (now : ℕ) (rows : List Row)
    → count_by (is_from a) (announced p address now rows) ≡ count_by (is_from a) rows
announced_count a p address now rows = by_place (position (is_row_at p.prefix address) rows) refl
  where
    by_place : (o : Option ℕ) → position (is_row_at p.prefix address) rows ≡ o
        → count_by (is_from a) (option_map_or (λ i. set rows i (new_row p address now)) o rows)
        ≡ count_by (is_from a) rows
    by_place None is = refl
    by_place (Some i) is =
        let y = new_row p address now in
        let was = get_or rows i (new_row p address now) in
        let its = position_passes (is_row_at p.prefix address) rows i is (new_row p address now) in
        let at : was.source ≡ address = same_address was.source address (both (is_row p.prefix was) (is_from address was) its).1 in
        let same : weight a was ≡ weight a y = ap (λ (z : List ℕ). cond (bytes_eq z a) 1 0) at in
        let l = position_within (is_row_at p.prefix address) rows i is in
        let written = sum_by-set (weight a) rows i (new_row p address now) (new_row p address now) l in
        omega (arith, same, written)

entered_count : (a : List ℕ) (limits : Limits) (p : Participant) (address : List ℕ) (now : ℕ) (rows : List Row)
    → count_by (is_from a) rows ≤ limits.of_one_address
    → count_by (is_from a) (entered limits p address now rows) ≤ limits.of_one_address
entered_count a limits p address now rows few = by_room (with_room limits address rows) refl
  where
    y : Row
    y = new_row p address now

    at_its : (kept : List Row) → address ≡ a → Whole limits address rows kept ⊎ Removed limits address rows kept
        → count_by (is_from a) kept + 1 ≤ limits.of_one_address
    at_its kept same (inl w) =
        let less : count_by (is_from a) rows < limits.of_one_address =
        subst (λ (z : List ℕ). count_by (is_from z) rows < limits.of_one_address) same w.few_at in
        let kept_is = ap (sum_by (weight a)) w.is in omega (arith, less, kept_is)
    at_its kept same (inr m) =
        let d = new_row p address now in
        let was = get_or rows m.place (new_row p address now) in
        let one = count_removed a rows m.place (new_row p address now) m.within in
        let kept_is = ap (sum_by (weight a)) m.is in
        ⊎_elim
        (λ h. let less : count_by (is_from a) rows < limits.of_one_address =
        subst (λ (z : List ℕ). count_by (is_from z) rows < limits.of_one_address) same h in
        omega (arith, less, one, kept_is))
        (λ h. let its : is_from a was ≡ true = subst (λ (z : List ℕ). is_from z was ≡ true) same h in
        let weighs : weight a was ≡ 1 = ap (λ (b : Bool). cond b 1 0) its in
        omega (arith, few, one, weighs, kept_is))
        (m.counts (new_row p address now))

    no_more : (kept : List Row) → Whole limits address rows kept ⊎ Removed limits address rows kept
        → count_by (is_from a) kept ≤ limits.of_one_address
    no_more kept (inl w) = let kept_is = ap (sum_by (weight a)) w.is in omega (arith, few, kept_is)
    no_more kept (inr m) =
        let one = count_removed a rows m.place (new_row p address now) m.within in
        let kept_is = ap (sum_by (weight a)) m.is in omega (arith, few, one, kept_is)

    by_address : (kept : List Row) → Whole limits address rows kept ⊎ Removed limits address rows kept → (b : Bool)
        → bytes_eq address a ≡ b → count_by (is_from a) kept + cond b 1 0 ≤ limits.of_one_address
    by_address kept r true is = at_its kept (same_address address a is) r
    by_address kept r false is = let n = no_more kept r in omega (arith, n)

    by_room : (o : Option (List Row)) → with_room limits address rows ≡ o
        → count_by (is_from a) (unwrap_or (option_map (λ (kept : List Row). kept ++ new_row p address now ∷ []) o) rows)
        ≤ limits.of_one_address
    by_room None is = few
    by_room (Some kept) is =
        let pushed = sum_by_push (weight a) kept (new_row p address now) in
        let n = by_address kept (room_is limits address rows kept is) (bytes_eq address a) refl in
        omega (arith, pushed, n)

few_after_at : (a : List ℕ) (s : State) (source : GuidPrefix) (address : List ℕ) (now : ℕ) (o : Option Said)
    → IsFewAt a s → count_by (is_from a) (rows_after s source address now o) ≤ s.limits.of_one_address
few_after_at a s source address now None few =
    let same = heard_count a source address now s.rows in omega (arith, few, same)
few_after_at a s source address now (Some Leaves) few =
    let same = heard_count a source address now s.rows in
    let fewer = count_filter a (λ (r : Row). not (is_row_at source address r)) (heard source address now s.rows) in
    omega (arith, few, same, fewer)
few_after_at a s source address now (Some (Announces p)) few = by_test (has_row source s.rows)
  where
    by_test : (b : Bool)
        → count_by (is_from a)
        (cond b (announced p address now (heard source address now s.rows)) (entered s.limits p address now s.rows))
        ≤ s.limits.of_one_address
    by_test true =
        let same = heard_count a source address now s.rows in
        let also = announced_count a p address now (heard source address now s.rows) in omega (arith, few, same, also)
    by_test false = entered_count a s.limits p address now s.rows few

few_delivered_at : (a : List ℕ) (d : Delivery) → IsFewAt a d.before → IsFewAt a d.after
few_delivered_at a d few = by_delivery d.delivers
  where
    by_delivery : Delivers d.before d.moment d.address d.bytes d.after d.told d.packet → IsFewAt a d.after
    by_delivery (inl h) =
        subst (λ (z : State). IsFewAt a z) (sym h.state)
        (few_after_at a d.before h.source d.address (max d.before.time d.moment) h.said few)
    by_delivery (inr p) = subst (λ (z : State). IsFewAt a z) (sym p.state) few

few_ticked_at : (a : List ℕ) (s : State) (now : ℕ) → IsFewAt a s → IsFewAt a (ticked s now)
few_ticked_at a s now few =
    let same = count_map a (slept_row now) (slept_weight a now) s.rows in omega (arith, few, same)

pub few_are_known_at : FewAreKnownAt
few_are_known_at a = (λ p domain addresses limits. omega arith, few_delivered_at a, few_ticked_at a)
