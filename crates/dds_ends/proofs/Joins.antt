-- What a writer stands for once one more reader is matched.
use Rattle.std.proofs.Common.{◌≡◌, ℕ, zero, suc, ◌+◌, ◌≤◌, Bool, true, false, ◌&&◌, ◌||◌, List, [], ◌∷◌, ◌++◌, Option, Some, map, length, slice_get, refl, ap, sym, ◌∙◌, subst, arith, ⊎_elim, inl, inr, ◌⊎◌, ◌==◌, not, cond}
use Rattle.std.specs.Prelude.{ℤ, filter, if◌then◌else◌}
use Rattle.std.specs.List.{list_any}
use Rattle.std.specs.Option.{option_map_or}
use Rattle.std.proofs.lemmas.List.{length-map, map-append}
use Rattle.std.proofs.lemmas.List.Elements.{All-push}
use Rattle.std.proofs.lemmas.Option.{same_Some}
use Rattle.dds_base.specs.Written.{changes_of}
use Rattle.rtps_writer.specs.Standing.{Kept, StandsFor as RtpsStandsFor, reader_count}
use Rattle.rtps_writer.specs.WriterState.{WriterState, joined as rtps_joined}
use Rattle.dds_base.specs.declared.endpoint.Endpoint.{Endpoint}
use Rattle.dds_machine.specs.Matching.{is_matched, joined, knows_reliable, match_made, new_row}
use Rattle.dds_machine.specs.Part.{Matches, ReaderProxy, TopicReader, Writer, peers_of, row_of, same_endpoint}
use Rattle.dds_machine.proofs.Tables.{same_is}
use Rattle.dds_protocol.specs.Contact.{Contact}
use Rattle.dds_protocol.specs.Roster.{Roster}
use Rattle.dds_protocol.proofs.InOrder.{same_self}
use Rattle.dds_ends.specs.declared.matching.Destination.{Destination}
use Rattle.dds_ends.specs.declared.matching.LastCount.{LastCount}
use Rattle.dds_ends.specs.declared.matching.ReaderName.{ReaderName}
use Rattle.dds_ends.specs.declared.matching.TopicName.{TopicName}
use Rattle.dds_ends.specs.declared.match_counts.MatchCounts.{MatchCounts}
use Rattle.dds_ends.specs.Beating.{first_peers, peer_of}
use Rattle.dds_ends.specs.Coming.{Joins, matched_anew, with_peer, with_place}
use Rattle.dds_ends.specs.Kept.{WriterKept}
use Rattle.dds_ends.specs.MatchCounts.{CountsFor}
use Rattle.dds_ends.specs.MatchedEnds.{AreAmong, AreMatchedNow, AreRows, IsNameOf, IsPeer, IsReliableName, has_count, is_named, known_as, last_count, names_of, readers_of, topic_reader}
use Rattle.dds_ends.specs.Standing.{AreQuiet, AreShort, CountsFrom1, IsWhole, WriterStands, state_of}
use Rattle.dds_ends.proofs.Acknowledging.{state_as}
use Rattle.dds_ends.proofs.Joining.{any_more, counts_stay, once_more, place_there}
use Rattle.dds_ends.proofs.Among.{as_few, is_known_as, row_known, rows_are}
use Rattle.dds_ends.proofs.FirstPeers.{any-map, first_peers_are, first_peers_last}
use Rattle.dds_ends.proofs.Leaving.{named_alike}
use Rattle.dds_ends.proofs.MatchedAt.{IsNamedSo, known_so}
use Rattle.dds_ends.proofs.Numbered.{append_get}

either : (a b c d : Bool) → (a || b) ≡ true → (a ≡ true → c ≡ true) → (b ≡ true → d ≡ true) → (c || d) ≡ true
either true b c d h first rest = ap (λ (x : Bool). x || d) (first refl)
either false b c d h first rest = late c (rest h)
  where
    late : (x : Bool) → d ≡ true → (x || d) ≡ true
    late true e = refl
    late false e = e

neither : (a b : Bool) → (a || b) ≡ false → a ≡ false
neither true b h = absurd cc
neither false b h = refl

rest_neither : (a b : Bool) → (a || b) ≡ false → b ≡ false
rest_neither true b h = absurd cc
rest_neither false b h = h

first_of_two : (a b : Bool) → (a || b) ≡ true → b ≡ false → a ≡ true
first_of_two true b h k = refl
first_of_two false true h k = absurd cc
first_of_two false false h k = absurd cc

never : (b : Bool) → b ≡ false → b ≡ true → ⊥
never true f g = absurd cc
never false f g = absurd cc

-- with one reader more, which has a row, or is not silent
quiet_more : (matched readers : List ReaderName) (name : ReaderName) (is_reliable : Bool)
    (answered : Endpoint → Contact) → AreQuiet matched readers answered
    → (is_reliable ≡ false → (answered name.reader).silent ≡ false)
    → AreQuiet (matched ++ name ∷ []) (if is_reliable then readers ++ name ∷ [] else readers) answered
quiet_more matched readers name is_reliable answered quiet heard e there none =
    by is_reliable (same_endpoint name.reader e) refl heard none
  where
    among : (is_named matched e || same_endpoint name.reader e) ≡ true
    among = sym (any_more (λ (n : ReaderName). same_endpoint n.reader e) matched name) ∙ there

    by : (r b : Bool) → same_endpoint name.reader e ≡ b → (r ≡ false → (answered name.reader).silent ≡ false)
        → is_named (if r then readers ++ name ∷ [] else readers) e ≡ false → (answered e).silent ≡ false
    by true b is heard none =
        let apart = sym (any_more (λ (n : ReaderName). same_endpoint n.reader e) readers name) ∙ none in
        let other = rest_neither (is_named readers e) (same_endpoint name.reader e) apart in
        quiet e (first_of_two (is_named matched e) (same_endpoint name.reader e) among other)
        (neither (is_named readers e) (same_endpoint name.reader e) apart)
    by false true is heard none =
        subst (λ (x : Endpoint). (answered x).silent ≡ false) (same_is name.reader e is) (heard refl)
    by false false is heard none =
        quiet e (first_of_two (is_named matched e) (same_endpoint name.reader e) among is) none

-- the rows and places, with one more
rows_more : (matched readers : List ReaderName) (counts : List LastCount) (name : ReaderName)
    → AreRows matched readers counts → is_named readers name.reader ≡ false
    → AreRows (matched ++ name ∷ []) (readers ++ name ∷ []) (with_place counts name.reader)
rows_more matched readers counts name rows none = record {
  once = once_more readers name rows.once none;
  among = λ e is.
      any_more (λ (n : ReaderName). same_endpoint n.reader e) matched name
      ∙ either (is_named readers e) (same_endpoint name.reader e) (is_named matched e) (same_endpoint name.reader e)
      (sym (any_more (λ (n : ReaderName). same_endpoint n.reader e) readers name) ∙ is) (rows.among e) (λ h. h);
  places = λ e is.
      place_there counts name.reader e
      ∙ either (is_named readers e) (same_endpoint name.reader e) (has_count counts e) (same_endpoint name.reader e)
      (sym (any_more (λ (n : ReaderName). same_endpoint n.reader e) readers name) ∙ is) (rows.places e) (λ h. h);
}

-- the same, where no row comes
rows_same : (matched readers : List ReaderName) (counts : List LastCount) (name : ReaderName)
    → AreRows matched readers counts → AreRows (matched ++ name ∷ []) readers counts
rows_same matched readers counts name rows = record {
  once = rows.once;
  among = λ e is.
      any_more (λ (n : ReaderName). same_endpoint n.reader e) matched name
      ∙ ap (λ (b : Bool). b || same_endpoint name.reader e) (rows.among e is);
  places = rows.places;
}

-- whom a writer is not matched with has no row
no_row : (old : WriterKept) (reader : Endpoint) (w : Writer) (answered : Endpoint → Contact)
    → WriterStands old w answered → is_matched w reader ≡ false → is_named old.readers reader ≡ false
no_row old reader w answered s none = by (is_named old.readers reader) refl
  where
    apart : is_named old.matched reader ≡ false
    apart =
        sym (named_alike old.matched reader)
        ∙ (ap (λ (es : List Endpoint). list_any (λ e. same_endpoint e reader) es) (sym s.matched) ∙ none)

    by : (b : Bool) → is_named old.readers reader ≡ b → is_named old.readers reader ≡ false
    by false is = is
    by true is = absurd (never (is_named old.matched reader) apart (s.rows.among reader is))

-- what is known of others stays
other_met : (answered : Endpoint → Contact) (reader : Endpoint) (silent : Bool) (e : Endpoint)
    → same_endpoint e reader ≡ false → matched_anew answered reader silent e ≡ answered e
other_met answered reader silent e apart =
    ap (λ (b : Bool). if b then record (answered reader) { asks = false; silent = silent } else answered e) apart

-- a reader without a row may be known to be silent or not, and to ask for nothing
met_map : {X : Type 0} (f : Contact → X) (answered : Endpoint → Contact) (reader : Endpoint) (silent : Bool)
    (rows : List ReaderProxy) → list_any (λ (p : ReaderProxy). same_endpoint p.reader reader) rows ≡ false
    → map (λ (p : ReaderProxy). f (matched_anew answered reader silent p.reader)) rows
    ≡ map (λ (p : ReaderProxy). f (answered p.reader)) rows
met_map f answered reader silent [] none = refl
met_map f answered reader silent (p ∷ ps) none =
    let others = list_any (λ (q : ReaderProxy). same_endpoint q.reader reader) ps in
    ap (λ (c : Contact). f c ∷ map (λ (q : ReaderProxy). f (matched_anew answered reader silent q.reader)) ps)
    (other_met answered reader silent p.reader (neither (same_endpoint p.reader reader) others none))
    ∙ ap (λ xs. f (answered p.reader) ∷ xs)
    (met_map f answered reader silent ps (rest_neither (same_endpoint p.reader reader) others none))

met_count : (answered : Endpoint → Contact) (reader : Endpoint) (silent : Bool) (e : Endpoint)
    → (matched_anew answered reader silent e).count ≡ (answered e).count
met_count answered reader silent e = by (same_endpoint e reader) refl
  where
    by : (b : Bool) → same_endpoint e reader ≡ b
        → (if b then record (answered reader) { asks = false; silent = silent } else answered e).count
        ≡ (answered e).count
    by true is = ap (λ (r : Endpoint). (answered r).count) (sym (same_is e reader is))
    by false is = refl

pub stands_met : (k : WriterKept) (reader : Endpoint) (silent : Bool) (w : Writer) (answered : Endpoint → Contact)
    → WriterStands k w answered → is_named k.readers reader ≡ false → is_named k.matched reader ≡ false
    → WriterStands k w (matched_anew answered reader silent)
stands_met k reader silent w answered s none unmatched = record {
  autodispose = s.autodispose;
  values = s.values;
  known = s.known;
  matched = s.matched;
  readers = s.readers;
  writer =
      subst (λ (x : WriterState). RtpsStandsFor k.writer x)
      (state_as (state_of w answered) _ _ _ _ _ _ _ _ _ _ refl refl
      (sym (met_map (λ (c : Contact). c.count) answered reader silent w.readers apart))
      (sym (met_map (λ (c : Contact). c.asks) answered reader silent w.readers apart))
      (sym (met_map (λ (c : Contact). c.silent) answered reader silent w.readers apart)))
      s.writer;
  begun = s.begun;
  rows = s.rows;
  counted = λ e absent. met_count answered reader silent e ∙ s.counted e absent;
  quiet = λ e there absent.
      ap (λ (c : Contact). c.silent)
      (other_met answered reader silent e (another e there (same_endpoint e reader) refl))
      ∙ s.quiet e there absent;
  matches = s.matches;
}
  where
    another : (e : Endpoint) → is_named k.matched e ≡ true → (b : Bool) → same_endpoint e reader ≡ b
        → same_endpoint e reader ≡ false
    another e there false is = is
    another e there true is =
        absurd (never (is_named k.matched reader) unmatched
        (ap (λ (x : Endpoint). is_named k.matched x) (sym (same_is e reader is)) ∙ there))

    apart : list_any (λ (p : ReaderProxy). same_endpoint p.reader reader) w.readers ≡ false
    apart =
        sym (any-map (λ (p : ReaderProxy). p.reader) (λ e. same_endpoint e reader) w.readers)
        ∙ (ap (λ (es : List Endpoint). list_any (λ e. same_endpoint e reader) es) s.readers
        ∙ (any-map (λ (n : ReaderName). n.reader) (λ e. same_endpoint e reader) k.readers ∙ none))

-- a writer that has one row more, of the reader of this name, where that is reliable, and nothing else
pub record AddsRow (old : WriterKept) (name : ReaderName) (is_reliable greeted : Bool) (new : WriterKept)
    : Type 0 where
  pub same : record new { readers = old.readers; counts = old.counts; writer = old.writer } ≡ old
  pub readers : new.readers ≡ (if is_reliable then old.readers ++ name ∷ [] else old.readers)
  pub counts : new.counts ≡ (if is_reliable then with_place old.counts name.reader else old.counts)
  pub writer : (s : WriterState) → RtpsStandsFor old.writer s
      → RtpsStandsFor new.writer
      (if is_reliable then rtps_joined s (last_count old.counts name.reader) greeted else s)

-- a writer that has this name last
abbrev pub with_name : WriterKept → ReaderName → List Destination → MatchCounts → WriterKept
with_name k name to matches = record k { matched = k.matched ++ name ∷ []; destinations = to; matches = matches }

pub joins : (old k : WriterKept) (name : ReaderName) (is_reliable greeted : Bool) (to : List Destination)
    (matches : MatchCounts) → AddsRow old name is_reliable greeted k
    → ((m : Matches) → CountsFor old.matches m → CountsFor matches (match_made m name.reader))
    → (w : Writer) (answered : Endpoint → Contact) → WriterStands old w answered
    → is_matched w name.reader ≡ false → (answered name.reader).asks ≡ false
    → (answered name.reader).silent ≡ (greeted && is_reliable)
    → WriterStands (with_name k name to matches) (joined w name.reader is_reliable) answered
joins old k name true greeted to matches a makes w answered s none asks_none silent = record {
  autodispose = s.autodispose ∙ sym (ap (λ (x : WriterKept). x.autodispose) a.same);
  values = s.values ∙ sym (ap (λ (x : WriterKept). x.max_value) a.same);
  known = s.known ∙ ap (λ (x : WriterKept). map topic_reader x.known) (sym a.same);
  matched =
      ap (λ (es : List Endpoint). es ++ name.reader ∷ [])
      (s.matched ∙ ap (λ (x : WriterKept). readers_of x.matched) (sym a.same))
      ∙ sym (map-append (λ (n : ReaderName). n.reader) k.matched (name ∷ []));
  readers =
      map-append (λ (p : ReaderProxy). p.reader) w.readers (new_row w name.reader ∷ [])
      ∙ (ap (λ (es : List Endpoint). es ++ name.reader ∷ []) s.readers
      ∙ (sym (map-append (λ (n : ReaderName). n.reader) old.readers (name ∷ []))
      ∙ ap (λ (ns : List ReaderName). readers_of ns) (sym a.readers)));
  writer =
      subst (λ (x : WriterState). RtpsStandsFor k.writer x) state_joined (a.writer (state_of w answered) s.writer);
  begun = All-push CountsFrom1 w.readers (new_row w name.reader) s.begun (omega arith);
  rows =
      subst (λ (ns : List ReaderName). AreRows (k.matched ++ name ∷ []) ns k.counts) (sym a.readers)
      (subst (λ (cs : List LastCount). AreRows (k.matched ++ name ∷ []) (old.readers ++ name ∷ []) cs) (sym a.counts)
      (subst (λ (x : WriterKept). AreRows (x.matched ++ name ∷ []) (old.readers ++ name ∷ [])
      (with_place old.counts name.reader)) (sym a.same)
      (rows_more old.matched old.readers old.counts name s.rows absent)));
  counted =
      subst (λ (ns : List ReaderName). (e : Endpoint) → is_named ns e ≡ false
      → (answered e).count ≡ last_count k.counts e)
      (sym a.readers)
      (λ e none_of. s.counted e (neither (is_named old.readers e) (same_endpoint name.reader e)
      (sym (any_more (λ (n : ReaderName). same_endpoint n.reader e) old.readers name) ∙ none_of))
      ∙ (sym (counts_stay old.counts name.reader e)
      ∙ ap (λ (cs : List LastCount). last_count cs e) (sym a.counts)));
  quiet =
      subst (λ (ns : List ReaderName). AreQuiet (k.matched ++ name ∷ []) ns answered) (sym a.readers)
      (subst (λ (x : WriterKept). AreQuiet (x.matched ++ name ∷ []) (old.readers ++ name ∷ []) answered) (sym a.same)
      (quiet_more old.matched old.readers name true answered s.quiet (λ no. absurd cc)));
  matches = makes w.matches s.matches;
}
  where
    absent : is_named old.readers name.reader ≡ false
    absent = no_row old name.reader w answered s none

    all : (b : Bool) → (b && true) ≡ b
    all true = refl
    all false = refl

    state_joined : rtps_joined (state_of w answered) (last_count old.counts name.reader) greeted
        ≡ state_of (joined w name.reader true) answered
    state_joined =
        state_as (state_of w answered) _ _ _ _ _ _ _ _ _ _
        (sym (map-append (λ (p : ReaderProxy). p.first) w.readers (new_row w name.reader ∷ [])))
        (sym (map-append (λ (p : ReaderProxy). p.acknowledged) w.readers (new_row w name.reader ∷ [])))
        (ap (λ (o : Option ℤ). map (λ (p : ReaderProxy). (answered p.reader).count) w.readers ++ o ∷ [])
        (sym (s.counted name.reader absent))
        ∙ sym (map-append (λ (p : ReaderProxy). (answered p.reader).count) w.readers (new_row w name.reader ∷ [])))
        (ap (λ (b : Bool). map (λ (p : ReaderProxy). (answered p.reader).asks) w.readers ++ b ∷ []) (sym asks_none)
        ∙ sym (map-append (λ (p : ReaderProxy). (answered p.reader).asks) w.readers (new_row w name.reader ∷ [])))
        (ap (λ (b : Bool). map (λ (p : ReaderProxy). (answered p.reader).silent) w.readers ++ b ∷ [])
        (sym (silent ∙ all greeted))
        ∙ sym (map-append (λ (p : ReaderProxy). (answered p.reader).silent) w.readers (new_row w name.reader ∷ [])))
joins old k name false greeted to matches a makes w answered s none asks_none silent = record {
  autodispose = s.autodispose ∙ sym (ap (λ (x : WriterKept). x.autodispose) a.same);
  values = s.values ∙ sym (ap (λ (x : WriterKept). x.max_value) a.same);
  known = s.known ∙ ap (λ (x : WriterKept). map topic_reader x.known) (sym a.same);
  matched =
      ap (λ (es : List Endpoint). es ++ name.reader ∷ [])
      (s.matched ∙ ap (λ (x : WriterKept). readers_of x.matched) (sym a.same))
      ∙ sym (map-append (λ (n : ReaderName). n.reader) k.matched (name ∷ []));
  readers = s.readers ∙ ap (λ (ns : List ReaderName). readers_of ns) (sym a.readers);
  writer = a.writer (state_of w answered) s.writer;
  begun = s.begun;
  rows =
      subst (λ (ns : List ReaderName). AreRows (k.matched ++ name ∷ []) ns k.counts) (sym a.readers)
      (subst (λ (cs : List LastCount). AreRows (k.matched ++ name ∷ []) old.readers cs) (sym a.counts)
      (subst (λ (x : WriterKept). AreRows (x.matched ++ name ∷ []) old.readers old.counts) (sym a.same)
      (rows_same old.matched old.readers old.counts name s.rows)));
  counted =
      subst (λ (ns : List ReaderName). (e : Endpoint) → is_named ns e ≡ false
      → (answered e).count ≡ last_count k.counts e)
      (sym a.readers)
      (λ e none_of. s.counted e none_of ∙ ap (λ (cs : List LastCount). last_count cs e) (sym a.counts));
  quiet =
      subst (λ (ns : List ReaderName). AreQuiet (k.matched ++ name ∷ []) ns answered) (sym a.readers)
      (subst (λ (x : WriterKept). AreQuiet (x.matched ++ name ∷ []) old.readers answered) (sym a.same)
      (quiet_more old.matched old.readers name false answered s.quiet (λ so. silent ∙ late greeted)));
  matches = makes w.matches s.matches;
}
  where
    late : (b : Bool) → (b && false) ≡ false
    late true = refl
    late false = refl

-- ---- whom it is matched with

-- the peers of these readers with one more, by those that are sent to
with_alike : (ds es : List Destination) (d : Destination)
    → map (λ (x : Destination). x.peer) ds ≡ map (λ (x : Destination). x.peer) es
    → map (λ (x : Destination). x.peer) (with_peer ds d) ≡ map (λ (x : Destination). x.peer) (with_peer es d)
with_alike ds es d same =
    by (list_any (λ (x : Destination). x.peer == d.peer) ds) (list_any (λ (x : Destination). x.peer == d.peer) es)
    (sym (any-map (λ (x : Destination). x.peer) (λ n. n == d.peer) ds)
    ∙ (ap (λ (ns : List ℕ). list_any (λ n. n == d.peer) ns) same
    ∙ any-map (λ (x : Destination). x.peer) (λ n. n == d.peer) es))
  where
    by : (b c : Bool) → b ≡ c
        → map (λ (x : Destination). x.peer) (if b then ds else ds ++ d ∷ [])
        ≡ map (λ (x : Destination). x.peer) (if c then es else es ++ d ∷ [])
    by true true is = same
    by false false is =
        map-append (λ (x : Destination). x.peer) ds (d ∷ [])
        ∙ (ap (λ (ns : List ℕ). ns ++ d.peer ∷ []) same ∙ sym (map-append (λ (x : Destination). x.peer) es (d ∷ [])))
    by true false is = absurd cc
    by false true is = absurd cc

pub peers_more : (matched : List ReaderName) (name : ReaderName) (to : List Destination)
    → peers_of (readers_of matched) ≡ map (λ (d : Destination). d.peer) to
    → peers_of (readers_of (matched ++ name ∷ [])) ≡ map (λ (d : Destination). d.peer) (with_peer to (peer_of name))
peers_more matched name to told =
    first_peers_are (matched ++ name ∷ [])
    ∙ (ap (λ (ds : List Destination). map (λ (d : Destination). d.peer) ds) (first_peers_last matched name)
    ∙ with_alike (first_peers matched) to (peer_of name) (sym (first_peers_are matched) ∙ told))

-- each of them with one more is one of them, or that one
one_of : (ds : List Destination) (d x : Destination) (k : ℕ) → slice_get (with_peer ds d) k ≡ Some x
    → ((j : ℕ) × (slice_get ds j ≡ Some x)) ⊎ (d ≡ x)
one_of ds d x k at = by (list_any (λ (y : Destination). y.peer == d.peer) ds) at
  where
    alone : (j : ℕ) → slice_get (d ∷ []) j ≡ Some x → d ≡ x
    alone zero h = same_Some d x h
    alone (suc j) h = absurd cc

    by : (b : Bool) → slice_get (if b then ds else ds ++ d ∷ []) k ≡ Some x
        → ((j : ℕ) × (slice_get ds j ≡ Some x)) ⊎ (d ≡ x)
    by true h = inl (k, h)
    by false h = ⊎_elim (λ f. inl (f.0, f.1)) (λ f. inr (alone f.0 f.1)) (append_get ds (d ∷ []) k x h)

-- whom it is matched with is known as it was, and the new one too
pub ends_join : (roster : Roster) (writer : Endpoint) (matched readers names : List ReaderName)
    (to : List Destination) (name : ReaderName) (is_reliable : Bool)
    → names ≡ (if is_reliable then readers ++ name ∷ [] else readers) → IsNamedSo roster writer name is_reliable
    → AreMatchedNow roster writer matched to readers
    → AreMatchedNow roster writer (matched ++ name ∷ []) (with_peer to (peer_of name)) names
ends_join roster writer matched readers names to name is_reliable are is ends = record {
  readers = there;
  sent_to = peers_more matched name to ends.sent_to;
  prefixes = λ k d at.
      ⊎_elim (λ f. ends.prefixes f.0 d f.1)
      (λ e. subst (λ (x : Destination). IsPeer roster x) e (one is_reliable is).is.same_prefix)
      (one_of to (peer_of name) d k at);
  named = λ k n at. rows is_reliable is k n (subst (λ (ns : List ReaderName). slice_get ns k ≡ Some n) are at);
}
  where
    alone : (k : ℕ) (n : ReaderName) → slice_get (name ∷ []) k ≡ Some n → name ≡ n
    alone zero n at = same_Some name n at
    alone (suc k) n at = absurd cc

    one : (b : Bool) → IsNamedSo roster writer name b → IsNameOf roster writer name
    one true h = h.name_is
    one false h = h

    there : (k : ℕ) (n : ReaderName) → slice_get (matched ++ name ∷ []) k ≡ Some n → IsNameOf roster writer n
    there k n at =
        ⊎_elim (λ f. ends.readers f.0 n f.1)
        (λ f. subst (λ (x : ReaderName). IsNameOf roster writer x) (alone f.0 n f.1) (one is_reliable is))
        (append_get matched (name ∷ []) k n at)

    rows : (b : Bool) → IsNamedSo roster writer name b → (k : ℕ) (n : ReaderName)
        → slice_get (if b then readers ++ name ∷ [] else readers) k ≡ Some n → IsReliableName roster writer n
    rows true h k n at =
        ⊎_elim (λ f. ends.named f.0 n f.1)
        (λ f. subst (λ (x : ReaderName). IsReliableName roster writer x) (alone f.0 n f.1) h)
        (append_get readers (name ∷ []) k n at)
    rows false h k n at = ends.named k n at

-- there are no more peers than readers
fewer_filtered : {X : Type 0} (b : X → Bool) (xs : List X) → length (filter b xs) ≤ length xs
fewer_filtered b [] = omega arith
fewer_filtered b (x ∷ xs) = by (b x) (fewer_filtered b xs)
  where
    by : (c : Bool) → length (filter b xs) ≤ length xs → length (cond c (x ∷ filter b xs) (filter b xs)) ≤ suc (length xs)
    by true h = omega (arith, h)
    by false h = omega (arith, h)

peers_few : (es : List Endpoint) → length (peers_of es) ≤ length es
peers_few [] = omega arith
peers_few (e ∷ es) =
    let rest = peers_few es in
    let fewer = fewer_filtered (λ n. not (n == e.peer)) (peers_of es) in
    omega (arith, rest, fewer)

peers_fit : (names : List ReaderName) → length (peers_of (readers_of names)) ≤ length names
peers_fit names =
    let few = peers_few (readers_of names) in
    let size = length-map names (λ (n : ReaderName). n.reader) in
    omega (arith, few, size)

-- ---- what the functions do

abbrev if_joined : (is_reliable greeted : Bool) → WriterState → Option ℤ → WriterState
if_joined is_reliable greeted s count = if is_reliable then rtps_joined s count greeted else s

-- one name more of one that is known
among_more : (known : List TopicName) (names : List ReaderName) (name : ReaderName) → AreAmong known names
    → is_named names name.reader ≡ false → is_named (names_of known) name.reader ≡ true
    → AreAmong known (names ++ name ∷ [])
among_more known names name are none there = record {
  once = once_more names name are.once none;
  there = λ e is.
      by e (is_named names e) (same_endpoint name.reader e) (are.there e) refl
      (sym (any_more (λ (n : ReaderName). same_endpoint n.reader e) names name) ∙ is);
}
  where
    by : (e : Endpoint) (a b : Bool) → (a ≡ true → is_named (names_of known) e ≡ true) → same_endpoint name.reader e ≡ b
        → (a || b) ≡ true → is_named (names_of known) e ≡ true
    by e true b first is h = first refl
    by e false true first is h =
        ap (λ (x : Endpoint). is_named (names_of known) x) (sym (same_is name.reader e is)) ∙ there
    by e false false first is h = absurd cc

-- a writer with one reader more is whole
pub whole_more : (most : ℕ) (known : List TopicName) (matched more : List ReaderName) (to peers : List Destination)
    (readers names : List ReaderName) (old after : Kept) (name : ReaderName) (is_reliable greeted : Bool)
    (count : Option ℤ) → IsWhole most known matched to readers old → is_named matched name.reader ≡ false
    → is_named (names_of known) name.reader ≡ true
    → more ≡ matched ++ name ∷ [] → peers ≡ with_peer to (peer_of name)
    → names ≡ (if is_reliable then readers ++ name ∷ [] else readers)
    → reader_count after + length readers ≡ reader_count old + length names
    → ((s : WriterState) → RtpsStandsFor old s → RtpsStandsFor after (if_joined is_reliable greeted s count))
    → IsWhole most known more peers names after
whole_more most known matched more to peers readers names old after name is_reliable greeted count whole unmatched there
    are sent rows counted joins_state =
    let limit = whole.limited in
    let was = whole.count in
    let matched_are : AreAmong known more =
    subst (λ (ns : List ReaderName). AreAmong known ns) (sym are)
    (among_more known matched name whole.matched_are unmatched there) in
    let names_are : AreAmong known names =
    subst (λ (ns : List ReaderName). AreAmong known ns) (sym rows) (more_rows is_reliable) in
    let told : peers_of (readers_of more) ≡ map (λ (d : Destination). d.peer) peers =
    ap (λ (ns : List ReaderName). peers_of (readers_of ns)) are
    ∙ (peers_more matched name to whole.told
    ∙ ap (λ (ds : List Destination). map (λ (d : Destination). d.peer) ds) (sym sent)) in
    let few_matched = as_few known more matched_are in
    let few_rows = as_few known names names_are in
    let few_peers = peers_fit more in
    let same = ap (λ (ns : List ℕ). length ns) told in
    let size = length-map peers (λ (d : Destination). d.peer) in
    record {
      limited = limit;
      few_at = whole.few_at;
      matched_are = matched_are;
      once = names_are.once;
      among = λ e is.
          ap (λ (ns : List ReaderName). is_named ns e) are
          ∙ still is_reliable e (ap (λ (ns : List ReaderName). is_named ns e) (sym rows) ∙ is);
      told = told;
      few = omega (arith, limit, few_matched, few_peers, same, size);
      many = omega (arith, limit, few_rows);
      count = omega (arith, was, counted);
      state = if_joined is_reliable greeted whole.state count;
      stands = joins_state whole.state whole.stands;
      short = by is_reliable;
    }
  where
    by : (b : Bool) → AreShort most (changes_of (if_joined b greeted whole.state count).written)
    by true = whole.short
    by false = whole.short

    no_row_of : (b : Bool) → is_named readers name.reader ≡ b → is_named readers name.reader ≡ false
    no_row_of false is = is
    no_row_of true is = absurd (never (is_named matched name.reader) unmatched (whole.among name.reader is))

    more_rows : (b : Bool) → AreAmong known (if b then readers ++ name ∷ [] else readers)
    more_rows true =
        among_more known readers name (rows_are whole) (no_row_of (is_named readers name.reader) refl) there
    more_rows false = rows_are whole

    still : (b : Bool) (e : Endpoint) → is_named (if b then readers ++ name ∷ [] else readers) e ≡ true
        → is_named (matched ++ name ∷ []) e ≡ true
    still true e is =
        any_more (λ (n : ReaderName). same_endpoint n.reader e) matched name
        ∙ either (is_named readers e) (same_endpoint name.reader e) (is_named matched e) (same_endpoint name.reader e)
        (sym (any_more (λ (n : ReaderName). same_endpoint n.reader e) readers name) ∙ is) (whole.among e) (λ h. h)
    still false e is =
        any_more (λ (n : ReaderName). same_endpoint n.reader e) matched name
        ∙ ap (λ (b : Bool). b || same_endpoint name.reader e) (whole.among e is)

abbrev with_reader : WriterKept → List ReaderName → List Destination → List ReaderName → List LastCount → MatchCounts
    → Kept → WriterKept
with_reader k matched to readers counts matches writer = record k {
  matched = matched;
  destinations = to;
  readers = readers;
  counts = counts;
  matches = matches;
  writer = writer;
}

-- the writer knows this reader so, and is not matched with it
pub record MayJoin (kept : WriterKept) (reader : Endpoint) (k : TopicName) : Type 0 where
  pub known : known_as kept.known reader ≡ Some k
  pub unmatched : is_named kept.matched reader ≡ false

joins_at : (kept : WriterKept) (reader : Endpoint) (greeted : Bool) (k : TopicName) (readers : List ReaderName)
    (counts : List LastCount) (matches : MatchCounts) (writer : Kept) → MayJoin kept reader k
    → readers ≡ (if k.is_reliable then kept.readers ++ k.name ∷ [] else kept.readers)
    → counts ≡ (if k.is_reliable then with_place kept.counts k.name.reader else kept.counts)
    → ((m : Matches) → CountsFor kept.matches m → CountsFor matches (match_made m reader))
    → ((s : WriterState) → RtpsStandsFor kept.writer s
    → RtpsStandsFor writer (if_joined k.is_reliable greeted s (last_count kept.counts k.name.reader)))
    → Joins kept reader greeted
    (with_reader kept (kept.matched ++ k.name ∷ []) (with_peer kept.destinations (peer_of k.name)) readers counts matches
    writer)
joins_at kept reader greeted k readers counts matches writer may rows places makes state = record {
  same = record { entity = refl; autodispose = refl; max_value = refl; known = refl };
  stands = λ w answered s.
      let silent : Bool = greeted && knows_reliable w reader in
      let met : Endpoint → Contact = matched_anew answered reader silent in
      let still : WriterStands kept w met =
      stands_met kept reader silent w answered s (absent w answered s) may.unmatched in
      let here : met k.name.reader ≡ record (answered reader) { asks = false; silent = silent } =
      ap met found.0
      ∙ ap (λ (b : Bool). if b then record (answered reader) { asks = false; silent = silent } else answered reader)
      (same_self reader) in
      subst (λ (e : Endpoint). WriterStands new (joined w e (knows_reliable w reader)) met) found.0
      (subst (λ (b : Bool). WriterStands new (joined w k.name.reader b) met) (sym (reliable w answered s))
      (joins kept (record kept { readers = readers; counts = counts; writer = writer }) k.name k.is_reliable greeted
      (with_peer kept.destinations (peer_of k.name)) matches
      (record { same = refl; readers = rows; counts = places; writer = state })
      (λ m h. subst (λ (e : Endpoint). CountsFor matches (match_made m e)) (sym found.0) (makes m h))
      w met still (none w answered s) (ap (λ (c : Contact). c.asks) here)
      (ap (λ (c : Contact). c.silent) here ∙ ap (λ (b : Bool). greeted && b) (reliable w answered s))));
  ends = λ roster own is ends.
      ends_join roster own kept.matched kept.readers readers kept.destinations k.name k.is_reliable rows
      (known_so roster own k (is found.2.0 k found.2.1)) ends;
}
  where
    found : (k.name.reader ≡ reader) × (is_named (names_of kept.known) reader ≡ true)
        × ((j : ℕ) × (slice_get kept.known j ≡ Some k))
    found = is_known_as kept.known reader k may.known

    new : WriterKept
    new =
        with_reader kept (kept.matched ++ k.name ∷ []) (with_peer kept.destinations (peer_of k.name)) readers counts
        matches writer

    none : (w : Writer) (answered : Endpoint → Contact) → WriterStands kept w answered
        → is_matched w k.name.reader ≡ false
    none w answered s =
        ap (λ (e : Endpoint). is_matched w e) found.0
        ∙ (ap (λ (es : List Endpoint). list_any (λ e. same_endpoint e reader) es) s.matched
        ∙ (named_alike kept.matched reader ∙ may.unmatched))

    absent : (w : Writer) (answered : Endpoint → Contact) → WriterStands kept w answered
        → is_named kept.readers reader ≡ false
    absent w answered s =
        ap (λ (e : Endpoint). is_named kept.readers e) (sym found.0)
        ∙ no_row kept k.name.reader w answered s (none w answered s)

    reliable : (w : Writer) (answered : Endpoint → Contact) → WriterStands kept w answered
        → knows_reliable w reader ≡ k.is_reliable
    reliable w answered s =
        ap (λ (ks : List TopicReader). option_map_or (λ (t : TopicReader). t.reliable)
        (row_of (λ (t : TopicReader). t.reader) ks reader) false) s.known
        ∙ (row_known kept.known reader (Some k) may.known).1

pub joins_by : (kept now : WriterKept) (reader : Endpoint) (greeted : Bool) (k : TopicName) (matched : List ReaderName)
    (to : List Destination) (readers : List ReaderName) (counts : List LastCount) (matches : MatchCounts) (writer : Kept)
    → kept ≡ now → MayJoin kept reader k
    → matched ≡ kept.matched ++ k.name ∷ [] → to ≡ with_peer kept.destinations (peer_of k.name)
    → readers ≡ (if k.is_reliable then kept.readers ++ k.name ∷ [] else kept.readers)
    → counts ≡ (if k.is_reliable then with_place kept.counts k.name.reader else kept.counts)
    → ((m : Matches) → CountsFor kept.matches m → CountsFor matches (match_made m reader))
    → ((s : WriterState) → RtpsStandsFor kept.writer s
    → RtpsStandsFor writer (if_joined k.is_reliable greeted s (last_count kept.counts k.name.reader)))
    → Joins now reader greeted (with_reader kept matched to readers counts matches writer)
joins_by kept now reader greeted k matched to readers counts matches writer same may are sent rows places makes state =
    subst (λ (x : WriterKept). Joins x reader greeted (with_reader kept matched to readers counts matches writer)) same
    (subst (λ (ds : List Destination). Joins kept reader greeted
    (with_reader kept matched ds readers counts matches writer))
    (sym sent)
    (subst (λ (ns : List ReaderName). Joins kept reader greeted
    (with_reader kept ns (with_peer kept.destinations (peer_of k.name)) readers counts matches writer)) (sym are)
    (joins_at kept reader greeted k readers counts matches writer may rows places makes state)))
