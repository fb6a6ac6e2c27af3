-- What a writer stands for once a reader has left, or one more is matched.
use Rattle.std.proofs.Common.{◌≡◌, ℕ, zero, suc, ◌+◌, ◌≤◌, Bool, true, false, not, ◌&&◌, ◌||◌, List, [], ◌∷◌, Option, Some, None, map, length, get_or, slice_get, refl, ap, sym, ◌∙◌, subst, arith}
use Rattle.std.specs.Prelude.{ℤ, filter}
use Rattle.std.specs.List.{list_any, remove}
use Rattle.std.proofs.lemmas.List.{length-map}
use Rattle.std.proofs.lemmas.List.Edits.{length-remove}
use Rattle.std.proofs.lemmas.List.Elements.{All-from_recursion, recursion_from_All}
use Rattle.rtps_writer.specs.Standing.{Kept, StandsFor as RtpsStandsFor, reader_count}
use Rattle.rtps_writer.specs.WriterState.{WriterState, left as rtps_left}
use Rattle.dds_base.specs.declared.endpoint.Endpoint.{Endpoint}
use Rattle.dds_machine.specs.Matching.{left, match_ended}
use Rattle.dds_machine.specs.Part.{Matches, ReaderProxy, Writer, peers_of, same_endpoint}
use Rattle.dds_protocol.proofs.InOrder.{same_self}
use Rattle.dds_protocol.proofs.Ways.{both_true}
use Rattle.dds_protocol.specs.Contact.{Contact}
use Rattle.dds_protocol.specs.Roster.{Roster}
use Rattle.dds_machine.proofs.Tables.{same_is}
use Rattle.dds_ends.specs.declared.matching.Destination.{Destination}
use Rattle.dds_ends.specs.declared.matching.LastCount.{LastCount}
use Rattle.dds_ends.specs.declared.matching.ReaderName.{ReaderName}
use Rattle.dds_ends.specs.declared.matching.TopicName.{TopicName}
use Rattle.dds_ends.specs.declared.match_counts.MatchCounts.{MatchCounts}
use Rattle.dds_ends.specs.Beating.{first_peers}
use Rattle.dds_ends.specs.Coming.{ForgetsRow, Leaves, rows_left, set_count, unmatched_kept, without}
use Rattle.dds_ends.specs.Kept.{WriterKept}
use Rattle.dds_ends.specs.MatchCounts.{CountsFor}
use Rattle.dds_ends.specs.MatchedEnds.{AreAmong, AreMatchedNow, AreNamedOnce, AreRows, IsNameOf, IsPeer, has_count, is_named, last_count, readers_of}
use Rattle.dds_ends.specs.Standing.{AreQuiet, CountsFrom1, IsFirstReader, IsWhole, WriterStands, state_of}
use Rattle.dds_ends.proofs.Acknowledging.{state_as}
use Rattle.dds_ends.proofs.FirstPeers.{first_peers_are, peer_from}
use Rattle.dds_ends.proofs.Joining.{answered_at, left_from}
use Rattle.dds_ends.proofs.Leaving.{AreOnce, all_left, count_kept, ends_left, ends_once, fewer_peers, map-remove, named_alike, named_without, once_without, one_left, others_kept, places_stay, still_all}
use Rattle.dds_ends.proofs.Lists.{map-get}
use Rattle.dds_ends.proofs.MatchedAt.{named_there}

abbrev is_other : Endpoint → Endpoint → Bool
is_other reader e = not (same_endpoint e reader)

abbrev row_is_other : Endpoint → ReaderProxy → Bool
row_is_other reader p = not (same_endpoint p.reader reader)

-- ---- a row is forgotten

-- the writer without the row of a reader of this name
abbrev pub forgotten : WriterKept → ℕ → Endpoint → Option ℤ → Kept → WriterKept
forgotten old row reader count writer =
    record old { readers = remove old.readers row; counts = set_count old.counts reader count; writer = writer }

and_true : (a b : Bool) → a ≡ true → b ≡ true → (a && b) ≡ true
and_true true b e f = f
and_true false b e f = absurd cc

rows_without : (matched readers : List ReaderName) (counts : List LastCount) (reader : Endpoint) (count : Option ℤ)
    → AreRows matched readers counts → AreRows matched (without readers reader) (set_count counts reader count)
rows_without matched readers counts reader count rows = record {
  once = once_without readers reader rows.once;
  among = λ e is. rows.among e (was e is);
  places = λ e is. places_stay counts reader e count ∙ rows.places e (was e is);
}
  where
    was : (e : Endpoint) → is_named (without readers reader) e ≡ true → is_named readers e ≡ true
    was e is =
        (both_true (is_named readers e) (not (same_endpoint e reader)) (sym (named_without readers reader e) ∙ is)).0

counted_without : (readers : List ReaderName) (counts : List LastCount) (reader : Endpoint) (count : Option ℤ)
    (answered : Endpoint → Contact) → has_count counts reader ≡ true → count ≡ (answered reader).count
    → ((e : Endpoint) → is_named readers e ≡ false → (answered e).count ≡ last_count counts e)
    → (e : Endpoint) → is_named (without readers reader) e ≡ false
    → (answered e).count ≡ last_count (set_count counts reader count) e
counted_without readers counts reader count answered place is others e none =
    by (same_endpoint e reader) refl (sym (named_without readers reader e) ∙ none)
  where
    all : (b : Bool) → (b && true) ≡ b
    all true = refl
    all false = refl

    by : (b : Bool) → same_endpoint e reader ≡ b → (is_named readers e && not b) ≡ false
        → (answered e).count ≡ last_count (set_count counts reader count) e
    by true same h =
        subst (λ (x : Endpoint). (answered x).count ≡ last_count (set_count counts reader count) x)
        (sym (same_is e reader same)) (sym is ∙ sym (count_kept counts reader count place))
    by false apart h =
        others e (sym (all (is_named readers e)) ∙ h) ∙ sym (others_kept counts reader e count apart)

gone_without : (names : List ReaderName) (reader : Endpoint) → is_named (without names reader) reader ≡ false
gone_without names reader =
    named_without names reader reader
    ∙ (ap (λ (b : Bool). is_named names reader && not b) (same_self reader) ∙ late (is_named names reader))
  where
    late : (b : Bool) → (b && false) ≡ false
    late true = refl
    late false = refl

-- one that has no row is not matched any more
rows_unmatched : (matched names : List ReaderName) (counts : List LastCount) (reader : Endpoint)
    → AreRows matched names counts → is_named names reader ≡ false → AreRows (without matched reader) names counts
rows_unmatched matched names counts reader rows gone = record {
  once = rows.once;
  among = λ e is.
      named_without matched reader e
      ∙ and_true (is_named matched e) (not (same_endpoint e reader)) (rows.among e is)
      (other e is (same_endpoint e reader) refl);
  places = rows.places;
}
  where
    other : (e : Endpoint) → is_named names e ≡ true → (b : Bool) → same_endpoint e reader ≡ b
        → not (same_endpoint e reader) ≡ true
    other e is false same = ap (λ (c : Bool). not c) same
    other e is true same =
        let here : is_named names reader ≡ true =
        ap (λ (x : Endpoint). is_named names x) (sym (same_is e reader same)) ∙ is in
        absurd (apart (is_named names reader) gone here)
      where
        apart : (c : Bool) → c ≡ false → c ≡ true → ⊥
        apart true f g = absurd cc
        apart false f g = absurd cc

-- without a reader that has left
quiet_without : (matched names : List ReaderName) (reader : Endpoint) (answered : Endpoint → Contact)
    → AreQuiet matched names answered → AreQuiet (without matched reader) (without names reader) answered
quiet_without matched names reader answered quiet e there none =
    let left =
    both_true (is_named matched e) (not (same_endpoint e reader)) (sym (named_without matched reader e) ∙ there) in
    quiet e left.0
    (all (is_named names e)
    ∙ (sym (ap (λ (b : Bool). is_named names e && b) left.1) ∙ (sym (named_without names reader e) ∙ none)))
  where
    all : (b : Bool) → b ≡ (b && true)
    all true = refl
    all false = refl

pub forgets : (old : WriterKept) (reader : Endpoint) (row : ℕ) (name : ReaderName) (count : Option ℤ) (writer : Kept)
    → slice_get old.readers row ≡ Some name → name.reader ≡ reader
    → ((s : WriterState) → RtpsStandsFor old.writer s → RtpsStandsFor writer (rtps_left s row))
    → ((s : WriterState) → RtpsStandsFor old.writer s → count ≡ get_or s.counts row None)
    → (w : Writer) (answered : Endpoint → Contact) → WriterStands old w answered
    → WriterStands (unmatched_kept (forgotten old row reader count writer) reader) (rows_left w reader) answered
forgets old reader row name count writer at is leaves counts w answered s = record {
  autodispose = s.autodispose;
  values = s.values;
  known = s.known;
  matched =
      ap (λ (es : List Endpoint). filter (is_other reader) es) s.matched
      ∙ sym (ends_left (λ (n : ReaderName). n.reader) reader old.matched);
  readers =
      ends_left (λ (p : ReaderProxy). p.reader) reader w.readers
      ∙ (ap (λ (es : List Endpoint). filter (is_other reader) es) s.readers
      ∙ (sym (ends_left (λ (n : ReaderName). n.reader) reader old.readers)
      ∙ ap (λ (ns : List ReaderName). readers_of ns) names_left));
  writer =
      subst (λ (x : WriterState). RtpsStandsFor writer x) state_left (leaves (state_of w answered) s.writer);
  begun =
      All-from_recursion CountsFrom1 (filter (row_is_other reader) w.readers)
      (still_all CountsFrom1 (row_is_other reader) w.readers (recursion_from_All CountsFrom1 w.readers s.begun));
  rows =
      subst (λ (ns : List ReaderName). AreRows (without old.matched reader) ns (set_count old.counts reader count))
      names_left
      (rows_unmatched old.matched (without old.readers reader) (set_count old.counts reader count) reader
      (rows_without old.matched old.readers old.counts reader count s.rows) (gone_without old.readers reader));
  counted =
      subst (λ (ns : List ReaderName). (e : Endpoint) → is_named ns e ≡ false
      → (answered e).count ≡ last_count (set_count old.counts reader count) e) names_left
      (counted_without old.readers old.counts reader count answered
      (s.rows.places reader (named_there old.readers row name reader at is)) last s.counted);
  quiet =
      subst (λ (ns : List ReaderName). AreQuiet (without old.matched reader) ns answered) names_left
      (quiet_without old.matched old.readers reader answered s.quiet);
  matches = s.matches;
}
  where
    name_at : slice_get (readers_of old.readers) row ≡ Some reader
    name_at = map-get (λ (n : ReaderName). n.reader) old.readers row name at ∙ ap (λ (e : Endpoint). Some e) is

    row_at : slice_get (map (λ (p : ReaderProxy). p.reader) w.readers) row ≡ Some reader
    row_at = ap (λ (es : List Endpoint). slice_get es row) s.readers ∙ name_at

    names_left : without old.readers reader ≡ remove old.readers row
    names_left =
        one_left (λ (n : ReaderName). n.reader) reader old.readers row name_at (ends_once old.readers s.rows.once)

    proxies_left : filter (row_is_other reader) w.readers ≡ remove w.readers row
    proxies_left =
        one_left (λ (p : ReaderProxy). p.reader) reader w.readers row row_at
        (subst (λ (es : List Endpoint). AreOnce es) (sym s.readers) (ends_once old.readers s.rows.once))

    part_left : {Y : Type 0} (g : ReaderProxy → Y)
        → remove (map g w.readers) row ≡ map g (filter (row_is_other reader) w.readers)
    part_left g =
        sym (map-remove g w.readers row) ∙ ap (λ (ps : List ReaderProxy). map g ps) (sym proxies_left)

    state_left : rtps_left (state_of w answered) row ≡ state_of (rows_left w reader) answered
    state_left =
        state_as (state_of w answered) _ _ _ _ _ _ _ _ _ _ (part_left (λ (p : ReaderProxy). p.first))
        (part_left (λ (p : ReaderProxy). p.acknowledged)) (part_left (λ (p : ReaderProxy). (answered p.reader).count))
        (part_left (λ (p : ReaderProxy). (answered p.reader).asks))
        (part_left (λ (p : ReaderProxy). (answered p.reader).silent))

    last : count ≡ (answered reader).count
    last = counts (state_of w answered) s.writer ∙ answered_at answered w.readers row reader row_at

-- where no row is of the reader, it is not named
nobody : (names : List ReaderName) (reader : Endpoint)
    → ((k : ℕ) (n : ReaderName) → slice_get names k ≡ Some n → n.reader ≡ reader → ⊥)
    → is_named names reader ≡ false
nobody [] reader h = refl
nobody (n ∷ ns) reader h =
    ap (λ (b : Bool). b || is_named ns reader) (apart (same_endpoint n.reader reader) refl)
    ∙ nobody ns reader (λ k m at. h (suc k) m at)
  where
    apart : (b : Bool) → same_endpoint n.reader reader ≡ b → same_endpoint n.reader reader ≡ false
    apart true e = absurd (h zero n refl (same_is n.reader reader e))
    apart false e = e

-- and none is forgotten
pub forgets_none : (old : WriterKept) (reader : Endpoint)
    → ((k : ℕ) (n : ReaderName) → slice_get old.readers k ≡ Some n → n.reader ≡ reader → ⊥)
    → (w : Writer) (answered : Endpoint → Contact) → WriterStands old w answered
    → WriterStands (unmatched_kept old reader) (rows_left w reader) answered
forgets_none old reader none w answered s =
    subst (λ (ps : List ReaderProxy). WriterStands (unmatched_kept old reader) (with_rows ps) answered)
    (sym (all_left (λ (p : ReaderProxy). p.reader) reader w.readers
    (ap (λ (es : List Endpoint). list_any (λ e. same_endpoint e reader) es) s.readers
    ∙ (named_alike old.readers reader ∙ gone))))
    (record {
      autodispose = s.autodispose;
      values = s.values;
      known = s.known;
      matched =
          ap (λ (es : List Endpoint). filter (is_other reader) es) s.matched
          ∙ sym (ends_left (λ (n : ReaderName). n.reader) reader old.matched);
      readers = s.readers;
      writer = s.writer;
      begun = s.begun;
      rows = rows_unmatched old.matched old.readers old.counts reader s.rows gone;
      counted = s.counted;
      quiet = λ e there absent. s.quiet e
          (both_true (is_named old.matched e) (not (same_endpoint e reader))
          (sym (named_without old.matched reader e) ∙ there)).0 absent;
      matches = s.matches;
    })
  where
    gone : is_named old.readers reader ≡ false
    gone = nobody old.readers reader none

    with_rows : List ReaderProxy → Writer
    with_rows ps =
        record w { matched = filter (λ (e : Endpoint). not (same_endpoint e reader)) w.matched; readers = ps }

-- ---- a match ends

-- a writer whose reader is not matched any more, once its row is forgotten
abbrev pub unmatched : WriterKept → Endpoint → List Destination → MatchCounts → WriterKept
unmatched k reader to counts = record k { matched = without k.matched reader; destinations = to; matches = counts }

pub leaves_match : (k : WriterKept) (reader : Endpoint) (to : List Destination) (counts : MatchCounts)
    → ((m : Matches) → CountsFor k.matches m → CountsFor counts (match_ended m reader)) → (w : Writer)
    (answered : Endpoint → Contact) → WriterStands (unmatched_kept k reader) (rows_left w reader) answered
    → WriterStands (unmatched k reader to counts) (left w reader) answered
leaves_match k reader to counts ends w answered s = record {
  autodispose = s.autodispose;
  values = s.values;
  known = s.known;
  matched = s.matched;
  readers = s.readers;
  writer = s.writer;
  begun = s.begun;
  rows = s.rows;
  counted = s.counted;
  quiet = s.quiet;
  matches = ends w.matches s.matches;
}

-- whom it is matched with is known as it was
pub ends_leave : (roster : Roster) (writer : Endpoint) (matched readers names : List ReaderName)
    (to : List Destination) (reader : Endpoint)
    → ((k : ℕ) (n : ReaderName) → slice_get names k ≡ Some n → (j : ℕ) × (slice_get readers j ≡ Some n))
    → AreMatchedNow roster writer matched to readers
    → AreMatchedNow roster writer (without matched reader) (first_peers (without matched reader)) names
ends_leave roster writer matched readers names to reader were ends = record {
  readers = there;
  sent_to = first_peers_are (without matched reader);
  prefixes = λ k d at.
      let f = peer_from (without matched reader) k d at in
      let n = there f.0 f.1 f.2 in
      subst (λ (x : Destination). IsPeer roster x) f.3 n.is.same_prefix;
  named = λ k n at. let f = were k n at in ends.named f.0 n f.1;
}
  where
    there : (k : ℕ) (n : ReaderName) → slice_get (without matched reader) k ≡ Some n → IsNameOf roster writer n
    there k n at =
        let f = left_from (λ (x : ReaderName). not (same_endpoint x.reader reader)) matched k n at in
        ends.readers f.0 n f.1

-- no more peers are sent to
pub no_more_peers : (matched : List ReaderName) (to : List Destination) (reader : Endpoint)
    → peers_of (readers_of matched) ≡ map (λ (d : Destination). d.peer) to
    → length (first_peers (without matched reader)) ≤ length to
no_more_peers matched to reader told =
    let before = fewer_peers reader (readers_of matched) in
    let same =
    ap (λ (ns : List ℕ). length ns) (ap (λ (es : List Endpoint). peers_of es)
    (sym (ends_left (λ (n : ReaderName). n.reader) reader matched)) ∙ first_peers_are (without matched reader)) in
    let left_size = length-map (first_peers (without matched reader)) (λ (d : Destination). d.peer) in
    let size = length-map to (λ (d : Destination). d.peer) in
    let was = ap (λ (ns : List ℕ). length ns) told in
    omega (arith, before, same, left_size, size, was)

-- ---- what the functions do

-- what is left when one is taken out was there
pub was_there : {X : Type 0} (xs : List X) (row k : ℕ) (x : X) → slice_get (remove xs row) k ≡ Some x
    → (j : ℕ) × (slice_get xs j ≡ Some x)
was_there [] zero k x at = absurd cc
was_there [] (suc row) k x at = absurd cc
was_there (y ∷ ys) zero k x at = (suc k, at)
was_there (y ∷ ys) (suc row) zero x at = (zero, at)
was_there (y ∷ ys) (suc row) (suc k) x at = let f = was_there ys row k x at in (suc f.0, f.1)

-- one that is left was named
was_named : (names : List ReaderName) (reader e : Endpoint) → is_named (without names reader) e ≡ true
    → is_named names e ≡ true
was_named names reader e is =
    (both_true (is_named names e) (not (same_endpoint e reader)) (sym (named_without names reader e) ∙ is)).0

-- those that are left are among them as before
pub among_without : (known : List TopicName) (names : List ReaderName) (reader : Endpoint) → AreAmong known names
    → AreAmong known (without names reader)
among_without known names reader are = record {
  once = once_without names reader are.once;
  there = λ e is. are.there e (was_named names reader e is);
}

-- all but the first of this reader's name
pub without_first : (names : List ReaderName) (reader : Endpoint) (row : ℕ) (name : ReaderName)
    → slice_get names row ≡ Some name → name.reader ≡ reader → AreNamedOnce names
    → without names reader ≡ remove names row
without_first names reader row name at is once =
    one_left (λ (n : ReaderName). n.reader) reader names row
    (map-get (λ (n : ReaderName). n.reader) names row name at ∙ ap (λ (e : Endpoint). Some e) is)
    (ends_once names once)

-- a writer without a row is whole
pub whole_left : (most : ℕ) (known : List TopicName) (matched : List ReaderName) (to : List Destination)
    (readers names : List ReaderName) (old after : Kept) (reader : Endpoint) (row : ℕ)
    → IsWhole most known matched to readers old → IsFirstReader readers reader row
    → names ≡ remove readers row → reader_count after + 1 ≡ reader_count old
    → ((s : WriterState) → RtpsStandsFor old s → RtpsStandsFor after (rtps_left s row))
    → IsWhole most known matched to names after
whole_left most known matched to readers names old after reader row whole first are fewer leaves =
    let within = first.within in
    let size = ap (λ (ns : List ReaderName). length ns) are in
    let cut = length-remove readers row within in
    let count = whole.count in
    let many = whole.many in
    let left : without readers reader ≡ names =
    without_first readers reader row first.name first.at first.is whole.once ∙ sym are in
    record {
      limited = whole.limited;
      few_at = whole.few_at;
      matched_are = whole.matched_are;
      once = subst (λ (ns : List ReaderName). AreNamedOnce ns) left (once_without readers reader whole.once);
      among = λ e is.
          whole.among e (was_named readers reader e (ap (λ (ns : List ReaderName). is_named ns e) left ∙ is));
      told = whole.told;
      few = whole.few;
      many = omega (arith, size, cut, many);
      count = omega (arith, size, cut, count, fewer);
      state = rtps_left whole.state row;
      stands = leaves whole.state whole.stands;
      short = whole.short;
    }

-- the one that is taken out is no longer named
forgets_at : (kept : WriterKept) (reader : Endpoint) (row : ℕ) (count : Option ℤ) (writer : Kept)
    → IsFirstReader kept.readers reader row → AreNamedOnce kept.readers
    → ((s : WriterState) → RtpsStandsFor kept.writer s → RtpsStandsFor writer (rtps_left s row))
    → ((s : WriterState) → RtpsStandsFor kept.writer s → count ≡ get_or s.counts row None)
    → ForgetsRow kept reader (forgotten kept row reader count writer)
forgets_at kept reader row count writer first once leaves counts = record {
  same = refl;
  names = λ k n at. was_there kept.readers row k n at;
  gone =
      ap (λ (ns : List ReaderName). is_named ns reader)
      (sym (without_first kept.readers reader row first.name first.at first.is once))
      ∙ gone_without kept.readers reader;
  stands = λ w answered s.
      forgets kept reader row first.name count writer first.at first.is leaves counts w answered s;
}

abbrev with_rows_of : WriterKept → List ReaderName → List LastCount → Kept → WriterKept
with_rows_of kept names counts writer = record kept { readers = names; counts = counts; writer = writer }

pub forgets_row : (kept now : WriterKept) (reader : Endpoint) (row : ℕ) (names : List ReaderName)
    (lasts : List LastCount) (count : Option ℤ) (writer : Kept) → kept ≡ now → IsFirstReader kept.readers reader row
    → AreNamedOnce kept.readers → names ≡ remove kept.readers row → lasts ≡ set_count kept.counts reader count
    → ((s : WriterState) → RtpsStandsFor kept.writer s → RtpsStandsFor writer (rtps_left s row))
    → ((s : WriterState) → RtpsStandsFor kept.writer s → count ≡ get_or s.counts row None)
    → ForgetsRow now reader (with_rows_of kept names lasts writer)
forgets_row kept now reader row names lasts count writer same first once are set leaves counts =
    subst (λ (k : WriterKept). ForgetsRow k reader (with_rows_of kept names lasts writer)) same
    (subst (λ (ns : List ReaderName). ForgetsRow kept reader (with_rows_of kept ns lasts writer)) (sym are)
    (subst (λ (cs : List LastCount). ForgetsRow kept reader (with_rows_of kept (remove kept.readers row) cs writer))
    (sym set) (forgets_at kept reader row count writer first once leaves counts)))

pub forgets_nothing : (kept now : WriterKept) (reader : Endpoint) → kept ≡ now
    → ((k : ℕ) (n : ReaderName) → slice_get kept.readers k ≡ Some n → n.reader ≡ reader → ⊥)
    → ForgetsRow now reader now
forgets_nothing kept now reader same none =
    subst (λ (k : WriterKept). ForgetsRow k reader k) same
    (record {
      same = refl;
      names = λ k n at. (k, at);
      gone = nobody kept.readers reader none;
      stands = λ w answered s. forgets_none kept reader none w answered s;
    })

-- a writer that sends to the peers of those that are left, and is whole
pub whole_without : (most : ℕ) (known : List TopicName) (matched left_names : List ReaderName)
    (to peers : List Destination) (readers : List ReaderName) (writer : Kept) (reader : Endpoint)
    → IsWhole most known matched to readers writer → is_named readers reader ≡ false
    → left_names ≡ without matched reader → peers ≡ first_peers left_names
    → IsWhole most known left_names peers readers writer
whole_without most known matched left_names to peers readers writer reader whole gone are sent =
    let size = ap (λ (ds : List Destination). length ds) (sent ∙ ap (λ (ns : List ReaderName). first_peers ns) are) in
    let fewer = no_more_peers matched to reader whole.told in
    let few = whole.few in
    record {
      limited = whole.limited;
      few_at = whole.few_at;
      matched_are =
          subst (λ (ns : List ReaderName). AreAmong known ns) (sym are)
          (among_without known matched reader whole.matched_are);
      once = whole.once;
      among = λ e is.
          ap (λ (ns : List ReaderName). is_named ns e) are
          ∙ (named_without matched reader e
          ∙ and_true (is_named matched e) (not (same_endpoint e reader)) (whole.among e is)
          (apart e is (same_endpoint e reader) refl));
      told =
          first_peers_are left_names ∙ ap (λ (ds : List Destination). map (λ (d : Destination). d.peer) ds) (sym sent);
      few = omega (arith, size, fewer, few);
      many = whole.many;
      count = whole.count;
      state = whole.state;
      stands = whole.stands;
      short = whole.short;
    }
  where
    never : (b : Bool) → b ≡ false → b ≡ true → ⊥
    never true f g = absurd cc
    never false f g = absurd cc

    apart : (e : Endpoint) → is_named readers e ≡ true → (b : Bool) → same_endpoint e reader ≡ b
        → not (same_endpoint e reader) ≡ true
    apart e is false other = ap (λ (c : Bool). not c) other
    apart e is true same =
        absurd (never (is_named readers reader) gone
        (ap (λ (x : Endpoint). is_named readers x) (sym (same_is e reader same)) ∙ is))

abbrev with_matched : WriterKept → List ReaderName → List Destination → MatchCounts → WriterKept
with_matched k matched to counts = record k { matched = matched; destinations = to; matches = counts }

leaves_at : (old k : WriterKept) (reader : Endpoint) (counts : MatchCounts) → ForgetsRow old reader k
    → ((m : Matches) → CountsFor k.matches m → CountsFor counts (match_ended m reader))
    → Leaves old reader (with_matched k (without k.matched reader) (first_peers (without k.matched reader)) counts)
leaves_at old k reader counts f counted = record {
  same = record {
    entity = ap (λ (x : WriterKept). x.entity) f.same;
    autodispose = ap (λ (x : WriterKept). x.autodispose) f.same;
    max_value = ap (λ (x : WriterKept). x.max_value) f.same;
    known = ap (λ (x : WriterKept). x.known) f.same;
  };
  stands = λ w answered s.
      leaves_match k reader (first_peers (without k.matched reader)) counts counted w answered (f.stands w answered s);
  ends = λ roster writer ends.
      subst (λ (ns : List ReaderName). AreMatchedNow roster writer (without ns reader) (first_peers (without ns reader))
      k.readers) (sym (ap (λ (x : WriterKept). x.matched) f.same))
      (ends_leave roster writer old.matched old.readers k.readers old.destinations reader f.names ends);
}

pub leaves_by : (old k : WriterKept) (reader : Endpoint) (matched : List ReaderName) (to : List Destination)
    (counts : MatchCounts) → ForgetsRow old reader k → matched ≡ without k.matched reader → to ≡ first_peers matched
    → ((m : Matches) → CountsFor k.matches m → CountsFor counts (match_ended m reader))
    → Leaves old reader (with_matched k matched to counts)
leaves_by old k reader matched to counts f are sent counted =
    subst (λ (ds : List Destination). Leaves old reader (with_matched k matched ds counts)) (sym sent)
    (subst (λ (ns : List ReaderName). Leaves old reader (with_matched k ns (first_peers ns) counts)) (sym are)
    (leaves_at old k reader counts f counted))
