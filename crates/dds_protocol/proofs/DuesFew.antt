-- A writer that is matched with none but the readers that it knows, once with each, is matched with no more of a peer than
-- it knows there; and it stays so where it is told of readers.
use Rattle.std.proofs.Common.{◌≡◌, ℕ, ◌+◌, ◌<◌, ◌≤◌, Bool, true, false, not, cond, ◌&&◌, ◌||◌, Option, eqb-true, List, [], ◌∷◌, ◌++◌, None, Some, map, filter, length, refl, subst, ap, sym, ◌∙◌, ⊎_elim, arith}
use Rattle.std.specs.Option.{option_or}
use Rattle.std.specs.Prelude.{if◌then◌else◌, is_some, nat_le, ◌==◌}
use Rattle.std.specs.List.{count_by, list_any}
use Rattle.std.proofs.lemmas.Bool.{and_parts, or_parts}
use Rattle.std.proofs.lemmas.List.Folds.{list_any-append}
use Rattle.std.proofs.lemmas.List.Sums.{sum_by-append, sum_by-cons}
use Rattle.std.proofs.lemmas.Map.Views.{any-filter_same}
use Rattle.std.proofs.lemmas.Bool.Decides.{nat_tests}
use Rattle.dds_base.specs.declared.code.Code.{Code}
use Rattle.dds_base.specs.declared.code.Code.TheVariants.{OutOfResources}
use Rattle.dds_base.specs.declared.endpoint.Endpoint.{Endpoint}
use Rattle.dds_base.specs.Bounds.{max_ends}
use Rattle.dds_machine.specs.Matching.{new_row, Telling, MatchReader, UnmatchReader, MatchWriter, UnmatchWriter, MeetReader, MeetWriter, TellStep, is_matched, joined, known_at, knows_reader, knows_reliable, knows_too_many, left, matching_refusal, max_known, may_meet_reader, met, telling_refusal}
use Rattle.dds_machine.specs.Part.{Part, ReaderProxy, TopicReader, Writer, no_writer, own_writer, row_of, same_endpoint}
use Rattle.dds_machine.proofs.Tables.{numbered-cases, same_is}
use Rattle.dds_protocol.specs.Contact.{Contact}
use Rattle.dds_protocol.specs.DueMessages.{is_told, readers_told}
use Rattle.dds_protocol.specs.Dues.{AreFew, MatchesFew, HasFewMatches}
use Rattle.dds_protocol.proofs.InOrder.{same_self}
use Rattle.dds_protocol.proofs.Told.{after_told}

-- ---- counting

abbrev one_if : Bool → ℕ
one_if b = cond b 1 0

count-cons : {X : Type 0} (test : X → Bool) (x : X) (xs : List X)
    → count_by test (x ∷ xs) ≡ one_if (test x) + count_by test xs
count-cons test x xs = sum_by-cons (λ y. one_if (test y)) x xs

-- a filter leaves no more
count-filter : {X : Type 0} (test keeps : X → Bool) (xs : List X)
    → count_by test (filter keeps xs) ≤ count_by test xs
count-filter test keeps [] = omega arith
count-filter {X} test keeps (x ∷ xs) = by (keeps x) (count-filter test keeps xs)
  where
    by : (b : Bool) → count_by test (filter keeps xs) ≤ count_by test xs
        → count_by test (cond b (x ∷ filter keeps xs) (filter keeps xs)) ≤ count_by test (x ∷ xs)
    by true le =
        let here = count-cons test x (filter keeps xs) in
        let all = count-cons test x xs in omega (arith, le, here, all)
    by false le = let all = count-cons test x xs in omega (arith, le, all)

-- what is nowhere is counted nowhere
count-none : {X : Type 0} (test : X → Bool) (xs : List X) → list_any test xs ≡ false → count_by test xs ≡ 0
count-none test [] none = refl
count-none {X} test (x ∷ xs) none = by (test x) refl none (λ e. count-none test xs e)
  where
    by : (b : Bool) → test x ≡ b → (b || list_any test xs) ≡ false
        → (list_any test xs ≡ false → count_by test xs ≡ 0) → count_by test (x ∷ xs) ≡ 0
    by true is e later = cc
    by false is e later =
        let all = count-cons test x xs in
        let here = ap one_if is in
        let rest = later e in omega (arith, all, here, rest)

-- what is somewhere is counted
count-some : {X : Type 0} (test : X → Bool) (xs : List X) → list_any test xs ≡ true → 1 ≤ count_by test xs
count-some test [] some = cc
count-some {X} test (x ∷ xs) some = by (test x) refl some (λ e. count-some test xs e)
  where
    by : (b : Bool) → test x ≡ b → (b || list_any test xs) ≡ true
        → (list_any test xs ≡ true → 1 ≤ count_by test xs) → 1 ≤ count_by test (x ∷ xs)
    by true is e later =
        let all = count-cons test x xs in let here = ap one_if is in omega (arith, all, here)
    by false is e later =
        let all = count-cons test x xs in let rest = later e in omega (arith, all, rest)

count-map : {X Y : Type 0} (test : Y → Bool) (f : X → Y) (xs : List X)
    → count_by test (map f xs) ≡ count_by (λ x. test (f x)) xs
count-map test f [] = refl
count-map test f (x ∷ xs) =
    let these = count-cons test (f x) (map f xs) in
    let those = count-cons (λ y. test (f y)) x xs in
    let rest = count-map test f xs in omega (arith, these, those, rest)

-- ---- ends

-- the tests of an end, and of the others
abbrev is_end : Endpoint → Endpoint → Bool
is_end r e = same_endpoint e r

abbrev is_other : Endpoint → Endpoint → Bool
is_other k e = not (same_endpoint e k)

flipped : (a b : Endpoint) → same_endpoint a b ≡ false → same_endpoint b a ≡ false
flipped a b apart = by (same_endpoint b a) refl
  where
    by : (c : Bool) → same_endpoint b a ≡ c → same_endpoint b a ≡ false
    by true same =
        let self = ap (λ (x : Endpoint). same_endpoint a x) (same_is b a same) ∙ same_self a in absurd cc
    by false same = same

-- those that pass are others than this end, or it
count-split : (test : Endpoint → Bool) (k : Endpoint) (here : Bool) (es : List Endpoint) → test k ≡ here
    → count_by test es ≤ count_by test (filter (is_other k) es) + cond here (count_by (is_end k) es) 0
count-split test k here [] is = omega arith
count-split test k here (e ∷ es) is = by (same_endpoint e k) here refl is (count-split test k here es is)
  where
    others : ℕ
    others = count_by test (filter (is_other k) es)

    by : (b c : Bool) → same_endpoint e k ≡ b → test k ≡ c
        → count_by test es ≤ others + cond c (count_by (is_end k) es) 0
        → count_by test (e ∷ es)
        ≤ count_by test (cond (not b) (e ∷ filter (is_other k) es) (filter (is_other k) es))
        + cond c (count_by (is_end k) (e ∷ es)) 0
    by true true same passes le =
        let all = count-cons test e es in
        let ends = count-cons (is_end k) e es in
        let one = ap one_if same in
        let first = ap (λ (x : Endpoint). one_if (test x)) (same_is e k same) in
        let passed = ap one_if passes in omega (arith, le, all, ends, one, first, passed)
    by true false same passes le =
        let all = count-cons test e es in
        let first = ap (λ (x : Endpoint). one_if (test x)) (same_is e k same) in
        let passed = ap one_if passes in omega (arith, le, all, first, passed)
    by false true other passes le =
        let all = count-cons test e es in
        let kept = count-cons test e (filter (is_other k) es) in
        let ends = count-cons (is_end k) e es in omega (arith, le, all, kept, ends)
    by false false other passes le =
        let all = count-cons test e es in
        let kept = count-cons test e (filter (is_other k) es) in omega (arith, le, all, kept)

-- what is named by an end stays but where it is taken out
kept_or_out : {X : Type 0} (name : X → Endpoint) (v r : Endpoint) (out : Bool) → same_endpoint r v ≡ out
    → (xs : List X) → count_by (λ x. same_endpoint (name x) r) (filter (λ x. not (same_endpoint (name x) v)) xs)
    ≡ cond out 0 (count_by (λ x. same_endpoint (name x) r) xs)
kept_or_out name v r true is [] = refl
kept_or_out name v r false is [] = refl
kept_or_out {X} name v r out is (x ∷ xs) = by out is (same_endpoint (name x) v) refl (kept_or_out name v r out is xs)
  where
    test : X → Bool
    test y = same_endpoint (name y) r

    left_over : List X
    left_over = filter (λ y. not (same_endpoint (name y) v)) xs

    by : (o : Bool) → same_endpoint r v ≡ o → (b : Bool) → same_endpoint (name x) v ≡ b
        → count_by test left_over ≡ cond o 0 (count_by test xs)
        → count_by test (cond (not b) (x ∷ left_over) left_over) ≡ cond o 0 (count_by test (x ∷ xs))
    by true same true here rest = rest
    by true same false here rest =
        let kept = count-cons test x left_over in
        let none = ap one_if (ap (λ (e : Endpoint). same_endpoint (name x) e) (same_is r v same) ∙ here) in
        omega (arith, kept, none, rest)
    by false same true here rest =
        let all = count-cons test x xs in
        let none = ap (λ (e : Endpoint). one_if (same_endpoint e r)) (same_is (name x) v here)
        ∙ ap one_if (flipped r v same) in
        omega (arith, all, none, rest)
    by false same false here rest =
        let all = count-cons test x xs in
        let kept = count-cons test x left_over in omega (arith, all, kept, rest)

-- another end than this one is found among the others
found_later : (k r : Endpoint) (ks : List Endpoint) → not (same_endpoint r k) ≡ true
    → list_any (is_end r) (k ∷ ks) ≡ true → list_any (is_end r) ks ≡ true
found_later k r ks other found = by (same_endpoint k r) refl found
  where
    by : (b : Bool) → same_endpoint k r ≡ b → (b || list_any (is_end r) ks) ≡ true → list_any (is_end r) ks ≡ true
    by true same e =
        let self = ap (λ (x : Endpoint). not (same_endpoint r x)) (same_is k r same)
        ∙ ap (λ (b : Bool). not b) (same_self r) in absurd cc
    by false same e = e

-- ends of which none stands twice, and each is found among others, are no more than those
few_found : (test : Endpoint → Bool) (ks es : List Endpoint)
    → ((r : Endpoint) → list_any (is_end r) es ≡ true → list_any (is_end r) ks ≡ true)
    → ((r : Endpoint) → count_by (is_end r) es ≤ 1) → count_by test es ≤ count_by test ks
few_found test [] [] found once = omega arith
few_found test [] (e ∷ es) found once =
    let here : list_any (is_end e) (e ∷ es) ≡ true = ap (λ (b : Bool). b || list_any (is_end e) es) (same_self e) in
    let none = found e here in absurd cc
few_found test (k ∷ ks) es found once =
    let rest = few_found test ks (filter (is_other k) es) later fewer in
    let all = count-split test k (test k) es refl in
    let first = count-cons test k ks in
    by (test k) rest all first
  where
    later : (r : Endpoint) → list_any (is_end r) (filter (is_other k) es) ≡ true → list_any (is_end r) ks ≡ true
    later r there =
        let same = any-filter_same (is_end r) (is_other k) (not (same_endpoint r k))
        (λ e is. ap (λ (x : Endpoint). not (same_endpoint x k)) (same_is e r is)) es in
        let both = and_parts (not (same_endpoint r k)) (list_any (is_end r) es) (sym same ∙ there) in
        found_later k r ks both.0 (found r both.1)

    fewer : (r : Endpoint) → count_by (is_end r) (filter (is_other k) es) ≤ 1
    fewer r = let le = count-filter (is_end r) (is_other k) es in let one = once r in omega (arith, le, one)

    by : (b : Bool) → count_by test (filter (is_other k) es) ≤ count_by test ks
        → count_by test es ≤ count_by test (filter (is_other k) es) + cond b (count_by (is_end k) es) 0
        → count_by test (k ∷ ks) ≡ one_if b + count_by test ks → count_by test es ≤ count_by test (k ∷ ks)
    by true rest all first = let one = once k in omega (arith, rest, all, first, one)
    by false rest all first = omega (arith, rest, all, first)

-- ---- the readers of a writer

known_any : (ks : List TopicReader) (r : Endpoint)
    → is_some (row_of (λ (k : TopicReader). k.reader) ks r)
    ≡ list_any (is_end r) (map (λ (k : TopicReader). k.reader) ks)
known_any [] r = refl
known_any (k ∷ ks) r = by (same_endpoint k.reader r) (known_any ks r)
  where
    by : (b : Bool)
        → is_some (row_of (λ (x : TopicReader). x.reader) ks r)
        ≡ list_any (is_end r) (map (λ (x : TopicReader). x.reader) ks)
        → is_some (cond b (Some k) (row_of (λ (x : TopicReader). x.reader) ks r))
        ≡ (b || list_any (is_end r) (map (λ (x : TopicReader). x.reader) ks))
    by true e = refl
    by false e = e

-- a writer is matched with few of each peer
pub matched_few : (w : Writer) → MatchesFew w → AreFew w.matched
matched_few w m peer =
    let test : Endpoint → Bool = λ r. r.peer == peer in
    let most = m.few peer in
    let le = few_found test (map (λ (k : TopicReader). k.reader) w.known) w.matched
    (λ r there. sym (known_any w.known r) ∙ m.known r there) m.once in
    omega (arith, le, most)

-- so few are told at a tick
pub told_few : (contacts : Endpoint → Contact) (w : Writer) → MatchesFew w → AreFew (readers_told contacts w)
told_few contacts w m peer =
    let test : Endpoint → Bool = λ r. r.peer == peer in
    let most = m.few peer in
    let le = few_found test (map (λ (k : TopicReader). k.reader) w.known) (readers_told contacts w) found once in
    omega (arith, le, most)
  where
    fewer : (r : Endpoint) → count_by (is_end r) (readers_told contacts w) ≤ count_by (is_end r) w.matched
    fewer r =
        let same = count-map (is_end r) (λ (p : ReaderProxy). p.reader) (filter (is_told contacts w) w.readers) in
        let le = count-filter (λ (p : ReaderProxy). same_endpoint p.reader r) (is_told contacts w) w.readers in
        let rows = m.rows r in omega (arith, same, le, rows)

    once : (r : Endpoint) → count_by (is_end r) (readers_told contacts w) ≤ 1
    once r = let le = fewer r in let one = m.once r in omega (arith, le, one)

    found : (r : Endpoint) → list_any (is_end r) (readers_told contacts w) ≡ true
        → list_any (is_end r) (map (λ (k : TopicReader). k.reader) w.known) ≡ true
    found r there = by (is_matched w r) refl
      where
        by : (b : Bool) → is_matched w r ≡ b
            → list_any (is_end r) (map (λ (k : TopicReader). k.reader) w.known) ≡ true
        by true is = sym (known_any w.known r) ∙ m.known r is
        by false is =
            let some = count-some (is_end r) (readers_told contacts w) there in
            let le = fewer r in
            let none = count-none (is_end r) w.matched is in absurd (omega (arith, some, le, none))

-- one match more
joined_few : (w : Writer) (v : Endpoint) (reliable : Bool) → knows_reader w v ≡ true → is_matched w v ≡ false
    → MatchesFew w → MatchesFew (joined w v reliable)
joined_few w v reliable knows apart m = record {
  few = m.few;
  known = λ r there. by_known r (same_endpoint v r) refl (sym (list_any-append (is_end r) w.matched (v ∷ [])) ∙ there);
  once = λ r.
      let all = sum_by-append (λ e. one_if (is_end r e)) w.matched (v ∷ []) in
      let last = count-cons (is_end r) v [] in
      by_once r (same_endpoint v r) refl all last;
  rows = λ r. by_rows r reliable;
}
  where
    by_known : (r : Endpoint) (b : Bool) → same_endpoint v r ≡ b
        → (list_any (is_end r) w.matched || list_any (is_end r) (v ∷ [])) ≡ true → knows_reader w r ≡ true
    by_known r true same e = ap (λ (x : Endpoint). knows_reader w x) (sym (same_is v r same)) ∙ knows
    by_known r false same e =
        m.known r (first (list_any (is_end r) w.matched) (same_endpoint v r) same e)
      where
        first : (a b : Bool) → b ≡ false → (a || (b || false)) ≡ true → a ≡ true
        first true b none h = refl
        first false true none h = cc
        first false false none h = h

    by_rows : (r : Endpoint) (b : Bool)
        → count_by (λ (p : ReaderProxy). same_endpoint p.reader r)
        (if b then w.readers ++ new_row w v ∷ [] else w.readers) ≤ count_by (is_end r) (w.matched ++ v ∷ [])
    by_rows r true =
        let before = m.rows r in
        let all = sum_by-append (λ e. one_if (is_end r e)) w.matched (v ∷ []) in
        let last = count-cons (is_end r) v [] in
        let rows = sum_by-append (λ (p : ReaderProxy). one_if (same_endpoint p.reader r)) w.readers (new_row w v ∷ []) in
        let row = count-cons (λ (p : ReaderProxy). same_endpoint p.reader r) (new_row w v) [] in
        omega (arith, before, all, last, rows, row)
    by_rows r false =
        let before = m.rows r in
        let all = sum_by-append (λ e. one_if (is_end r e)) w.matched (v ∷ []) in omega (arith, before, all)

    by_once : (r : Endpoint) (b : Bool) → same_endpoint v r ≡ b
        → count_by (is_end r) (w.matched ++ v ∷ []) ≡ count_by (is_end r) w.matched + count_by (is_end r) (v ∷ [])
        → count_by (is_end r) (v ∷ []) ≡ one_if (same_endpoint v r) + count_by (is_end r) []
        → count_by (is_end r) (w.matched ++ v ∷ []) ≤ 1
    by_once r true same all last =
        let one = ap one_if same in
        let before = ap (λ (x : Endpoint). count_by (is_end x) w.matched) (sym (same_is v r same))
        ∙ count-none (is_end v) w.matched apart in omega (arith, all, last, one, before)
    by_once r false same all last =
        let none = ap one_if same in
        let before = m.once r in omega (arith, all, last, none, before)

-- and one less
left_few : (w : Writer) (v : Endpoint) → MatchesFew w → MatchesFew (left w v)
left_few w v m = record {
  few = m.few;
  known = λ r there.
      let same = any-filter_same (is_end r) (is_other v) (not (same_endpoint r v))
      (λ e is. ap (λ (x : Endpoint). not (same_endpoint x v)) (same_is e r is)) w.matched in
      m.known r (and_parts (not (same_endpoint r v)) (list_any (is_end r) w.matched) (sym same ∙ there)).1;
  once = λ r. let le = count-filter (is_end r) (is_other v) w.matched in let one = m.once r in omega (arith, le, one);
  rows = λ r. by_rows r (same_endpoint r v) refl;
}
  where
    by_rows : (r : Endpoint) (b : Bool) → same_endpoint r v ≡ b
        → count_by (λ (p : ReaderProxy). same_endpoint p.reader r) (left w v).readers
        ≤ count_by (is_end r) (left w v).matched
    by_rows r true same =
        let none = kept_or_out (λ (p : ReaderProxy). p.reader) v r true same w.readers in omega (arith, none)
    by_rows r false same =
        let rows = kept_or_out (λ (p : ReaderProxy). p.reader) v r false same w.readers in
        let ends = kept_or_out (λ (e : Endpoint). e) v r false same w.matched in
        let before = m.rows r in omega (arith, rows, ends, before)

-- a reader more that a writer knows
row_known : (ks : List TopicReader) (k : TopicReader) (r : Endpoint)
    → is_some (row_of (λ (x : TopicReader). x.reader) (ks ++ k ∷ []) r)
    ≡ (is_some (row_of (λ (x : TopicReader). x.reader) ks r) || same_endpoint k.reader r)
row_known [] k r = by (same_endpoint k.reader r)
  where
    by : (b : Bool) → is_some (cond b (Some k) None) ≡ (false || b)
    by true = refl
    by false = refl
row_known (x ∷ xs) k r = by (same_endpoint x.reader r) (row_known xs k r)
  where
    by : (b : Bool)
        → is_some (row_of (λ (y : TopicReader). y.reader) (xs ++ k ∷ []) r)
        ≡ (is_some (row_of (λ (y : TopicReader). y.reader) xs r) || same_endpoint k.reader r)
        → is_some (cond b (Some x) (row_of (λ (y : TopicReader). y.reader) (xs ++ k ∷ []) r))
        ≡ (is_some (cond b (Some x) (row_of (λ (y : TopicReader). y.reader) xs r)) || same_endpoint k.reader r)
    by true e = refl
    by false e = e

-- it knows few of each peer still, where it did not know that one, and fewer than a peer has at most
more_few : (w : Writer) (v : Endpoint) (reliable : Bool) → known_at w v.peer < max_ends → MatchesFew w
    → MatchesFew (record w { known = w.known ++ record { reader = v; reliable = reliable } ∷ [] })
more_few w v reliable below m =
    let new : TopicReader = record { reader = v; reliable = reliable } in
    record {
      few = λ peer. by_peer peer (v.peer == peer) refl;
      known = λ r there.
          row_known w.known new r
          ∙ ap (λ (b : Bool). b || same_endpoint v r) (m.known r there);
      once = m.once;
      rows = m.rows;
    }
  where
    by_peer : (peer : ℕ) (b : Bool) → (v.peer == peer) ≡ b
        → count_by (λ (r : Endpoint). r.peer == peer)
        (map (λ (k : TopicReader). k.reader) (w.known ++ record { reader = v; reliable = reliable } ∷ [])) ≤ max_ends
    by_peer peer b same =
        let new : TopicReader = record { reader = v; reliable = reliable } in
        let test : Endpoint → Bool = λ r. r.peer == peer in
        let all = count-map test (λ (k : TopicReader). k.reader) (w.known ++ new ∷ []) in
        let sum = sum_by-append (λ (k : TopicReader). one_if (test k.reader)) w.known (new ∷ []) in
        let last = count-cons (λ (k : TopicReader). test k.reader) new [] in
        let before = m.few peer in
        let known = count-map test (λ (k : TopicReader). k.reader) w.known in
        by b same all sum last before known
      where
        by : (b : Bool) → (v.peer == peer) ≡ b
            → count_by (λ (r : Endpoint). r.peer == peer)
            (map (λ (k : TopicReader). k.reader) (w.known ++ record { reader = v; reliable = reliable } ∷ []))
            ≡ count_by (λ (k : TopicReader). k.reader.peer == peer)
            (w.known ++ record { reader = v; reliable = reliable } ∷ [])
            → count_by (λ (k : TopicReader). k.reader.peer == peer)
            (w.known ++ record { reader = v; reliable = reliable } ∷ [])
            ≡ count_by (λ (k : TopicReader). k.reader.peer == peer) w.known
            + count_by (λ (k : TopicReader). k.reader.peer == peer) (record { reader = v; reliable = reliable } ∷ [])
            → count_by (λ (k : TopicReader). k.reader.peer == peer) (record { reader = v; reliable = reliable } ∷ [])
            ≡ one_if (v.peer == peer) + count_by (λ (k : TopicReader). k.reader.peer == peer) []
            → count_by (λ (r : Endpoint). r.peer == peer) (map (λ (k : TopicReader). k.reader) w.known) ≤ max_ends
            → count_by (λ (r : Endpoint). r.peer == peer) (map (λ (k : TopicReader). k.reader) w.known)
            ≡ count_by (λ (k : TopicReader). k.reader.peer == peer) w.known
            → count_by (λ (r : Endpoint). r.peer == peer)
            (map (λ (k : TopicReader). k.reader) (w.known ++ record { reader = v; reliable = reliable } ∷ []))
            ≤ max_ends
        by true same all sum last before known =
            let one = ap one_if same in
            let here = ap (λ (p : ℕ). known_at w p) (eqb-true v.peer peer same) in
            omega (arith, all, sum, last, one, here, below)
        by false same all sum last before known =
            let one = ap one_if same in omega (arith, all, sum, last, one, before, known)

or_last : (a b : Bool) → b ≡ true → (a || b) ≡ true
or_last true b h = refl
or_last false b h = h

-- one match more, with a reader that the writer may not have known
met_few : (w : Writer) (v : Endpoint) (reliable : Bool) → knows_too_many w v ≡ false → is_matched w v ≡ false
    → MatchesFew w → MatchesFew (met w v reliable)
met_few w v reliable few apart m = by (knows_reader w v) refl few
  where
    new : TopicReader
    new = record { reader = v; reliable = reliable }

    after : Bool → Writer
    after b = if b then w else record w { known = w.known ++ new ∷ [] }

    by : (b : Bool) → knows_reader w v ≡ b
        → (not b && (nat_le max_ends (known_at w v.peer) || nat_le max_known (length w.known))) ≡ false
        → MatchesFew (joined (after b) v (knows_reliable (after b) v))
    by true knows few = joined_few w v (knows_reliable w v) knows apart m
    by false knows few =
        let here = (or_parts (nat_le max_ends (known_at w v.peer)) (nat_le max_known (length w.known)) few).0 in
        let below : known_at w v.peer < max_ends = grind (arith, nat_tests, here) in
        let more : MatchesFew (after false) = more_few w v reliable below m in
        let there : knows_reader (after false) v ≡ true =
        row_known w.known new v ∙ or_last (is_some (row_of (λ (k : TopicReader). k.reader) w.known v))
        (same_endpoint v v) (same_self v) in
        joined_few (after false) v (knows_reliable (after false) v) there apart more

-- ---- a telling

-- of two causes neither holds
pub or_none : (a b : Option Code) → option_or a b ≡ None → (a ≡ None) × (b ≡ None)
or_none None b h = (refl, h)
or_none (Some code) b h = absurd cc

not_many : (many : Bool) → ◌≡◌ {A = Option Code} (if many then Some OutOfResources else None) None → many ≡ false
not_many true h = absurd cc
not_many false h = refl

-- a match that is not refused is with a reader that is known, and not matched
allowed : (known told : Bool) → matching_refusal known told ≡ None → (known ≡ true) × (told ≡ false)
allowed true false h = (refl, refl)
allowed true true h = absurd cc
allowed false told h = absurd cc

after_few : (old : Part) (t : Telling) → telling_refusal old t ≡ None → HasFewMatches old
    → HasFewMatches (after_told old t)
after_few old (MatchReader k v reliable) none all n =
    ⊎_elim (λ e. subst (λ (w : Writer). MatchesFew w) (sym e) (all n))
    (λ s.
    let can = allowed (knows_reader (own_writer old k) v) (is_matched (own_writer old k) v) none in
    subst (λ (w : Writer). MatchesFew w) (sym s.1) (joined_few (own_writer old k) v reliable can.0 can.1 (all k)))
    (numbered-cases old.rtps.writers k (joined (own_writer old k) v reliable) n no_writer)
after_few old (UnmatchReader k v) none all n =
    ⊎_elim (λ e. subst (λ (w : Writer). MatchesFew w) (sym e) (all n))
    (λ s. subst (λ (w : Writer). MatchesFew w) (sym s.1) (left_few (own_writer old k) v (all k)))
    (numbered-cases old.rtps.writers k (left (own_writer old k) v) n no_writer)
after_few old (MatchWriter r w) none all n = all n
after_few old (UnmatchWriter r w) none all n = all n
after_few old (MeetReader k v) none all n =
    let w : Writer = own_writer old k in
    let both = or_none (matching_refusal (may_meet_reader old.rtps k v) (is_matched w v.end))
    (if knows_too_many w v.end then Some OutOfResources else None) none in
    ⊎_elim (λ e. subst (λ (x : Writer). MatchesFew x) (sym e) (all n))
    (λ s.
    let can = allowed (may_meet_reader old.rtps k v) (is_matched w v.end) both.0 in
    subst (λ (x : Writer). MatchesFew x) (sym s.1)
    (met_few w v.end v.reliable (not_many (knows_too_many w v.end) both.1) can.1 (all k)))
    (numbered-cases old.rtps.writers k (met w v.end v.reliable) n no_writer)
after_few old (MeetWriter r w as_writer) none all n = all n

pub few_told : (old : Part) (t : Telling) (new : Part) → TellStep old t None new → HasFewMatches old → HasFewMatches new
few_told old t new h all = subst (λ (p : Part). HasFewMatches p) (sym h.1) (after_few old t h.0 all)
