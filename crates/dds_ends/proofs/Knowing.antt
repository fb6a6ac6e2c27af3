-- A reader of the peer knows one writer more: it stands for the reader of the machine that has a row of that one too.
use Rattle.std.proofs.Common.{◌≡◌, ◌⊎◌, ℕ, zero, suc, ◌+◌, ◌<◌, ◌≤◌, Bool, true, false, cond, List, [], ◌∷◌, ◌++◌, Option, Some, None, length, slice_get, refl, ap, sym, ◌∙◌, subst, arith, inl, inr, ⊎_elim}
use Rattle.std.specs.Option.{option_map, option_map_or}
use Rattle.std.proofs.lemmas.List.{map-append}
use Rattle.std.proofs.lemmas.Option.{same_Some}
use Rattle.dds_base.specs.declared.endpoint.Endpoint.{Endpoint}
use Rattle.dds_base.specs.declared.happening.Happening.{Happening}
use Rattle.dds_base.specs.declared.happening.Happening.TheVariants.{Joined}
use Rattle.dds_base.specs.declared.qos.MatchedWriter.{MatchedWriter}
use Rattle.dds_base.specs.declared.qos.ReaderQos.{ReaderQos}
use Rattle.dds_base.specs.Matched.{is_reliable}
use Rattle.dds_cache.specs.Standing.{qos_of}
use Rattle.rtps_reader.specs.declared.attachment.Attachment.{Attachment as AttachmentOf}
use Rattle.rtps_reader.specs.Attached.{HasOneMore}
use Rattle.rtps_reader.specs.Reader.{Proxies, Tracks, count_of, how_at}
use Rattle.rtps_reader.specs.Tracked.{Tracked, fresh}
use Rattle.dds_machine.specs.Matching.{attached_count, match_made, max_known}
use Rattle.dds_machine.specs.Part.{Away, Matches, Reader, WriterProxy, how_of, is_attached, place_of, row_of, same_endpoint}
use Rattle.dds_machine.proofs.Tables.{same_is}
use Rattle.dds_protocol.proofs.InOrder.{same_self}
use Rattle.dds_ends.specs.declared.match_counts.MatchCounts.{MatchCounts}
use Rattle.dds_ends.specs.declared.matching.WriterName.{WriterName}
use Rattle.dds_ends.specs.Kept.{ReaderKept}
use Rattle.dds_ends.specs.Knowing.{KnowsMore, new_proxy}
use Rattle.dds_ends.specs.MatchCounts.{CountsFor}
use Rattle.dds_ends.specs.Parting.{joined_here}
use Rattle.dds_ends.specs.Standing.{HasNoRow, IsFirstRow, ReaderStands, stood_as}
use Rattle.dds_ends.specs.Stored.{StoreKept}
use Rattle.dds_ends.specs.Storing.{Holds}
use Rattle.dds_ends.proofs.Alike.{last-cases}
use Rattle.dds_ends.proofs.Attachments.{count_cons, count_few, one_if}
use Rattle.dds_ends.proofs.Lists.{get-map, get-within}
use Rattle.dds_ends.proofs.Rows.{IsFirstOf, is_first_of, no_row, proxied, writers_of}

abbrev of_writer : WriterProxy → Endpoint
of_writer p = p.writer

-- ---- the names with one more

-- an element of a list is one of a longer list
get_on : {X : Type 0} (xs : List X) (x : X) (j : ℕ) (y : X) → slice_get xs j ≡ Some y
    → slice_get (xs ++ x ∷ []) j ≡ Some y
get_on {X = X} [] x j y at = absurd (let nothing : ◌≡◌ {A = Option X} None (Some y) = at in cc)
get_on (a ∷ xs) x zero y at = at
get_on (a ∷ xs) x (suc j) y at = get_on xs x j y at

-- who has no row among more has none among these
pub no_row_before : (names : List WriterName) (name : WriterName) (w : Endpoint) → HasNoRow (names ++ name ∷ []) w
    → HasNoRow names w
no_row_before names name w none j n at is = none j n (get_on names name j n at) is

-- the first row among more is one of these, or the last one, which was added
pub row_before : (names : List WriterName) (name : WriterName) (w : Endpoint) (k : ℕ)
    → IsFirstRow (names ++ name ∷ []) w k
    → ((k ≡ length names) × (name.writer ≡ w) × HasNoRow names w) ⊎ ((k < length names) × IsFirstRow names w k)
row_before names name w k first =
    ⊎_elim
    (λ last. inl (
      last.0,
      ap (λ (n : WriterName). n.writer) last.1 ∙ first.is,
      λ j n at is. first.first j n
          (let within = get-within names j n at in let end = last.0 in omega (arith, within, end))
          (get_on names name j n at) is,
    ))
    (λ within. inr (
      within.0,
      record {
        name = first.name;
        at = within.1;
        is = first.is;
        first = λ j n lt at is. first.first j n lt (get_on names name j n at) is;
      },
    ))
    (last-cases names name k first.name first.at)

-- ---- the rows with one more

-- who has no row has none at the machine
pub none_there : (names : List WriterName) (proxies : List WriterProxy) (w : Endpoint)
    → proxied proxies ≡ writers_of names → HasNoRow names w → row_of of_writer proxies w ≡ None
none_there names proxies w same none =
    no_row of_writer proxies w
    (λ j at.
    let there = get-map (λ (n : WriterName). n.writer) names j w
    (subst (λ (es : List Endpoint). slice_get es j ≡ Some w) same at) in
    none j there.0 there.1 there.2)

-- with more rows, the row of a writer without one is the first of those that were added
row_added : (rows more : List WriterProxy) (w : Endpoint) → row_of of_writer rows w ≡ None
    → row_of of_writer (rows ++ more) w ≡ row_of of_writer more w
row_added [] more w none = refl
row_added (q ∷ qs) more w none = by (same_endpoint q.writer w) none (row_added qs more w)
  where
    by : (b : Bool) → cond b (Some q) (row_of of_writer qs w) ≡ None
        → (row_of of_writer qs w ≡ None → row_of of_writer (qs ++ more) w ≡ row_of of_writer more w)
        → cond b (Some q) (row_of of_writer (qs ++ more) w) ≡ row_of of_writer more w
    by true e rest = absurd (let clash : Some q ≡ None = e in cc)
    by false e rest = rest e

-- any other row stays
row_kept : (rows more : List WriterProxy) (w : Endpoint) (k : ℕ) → IsFirstOf (proxied rows) w k
    → row_of of_writer (rows ++ more) w ≡ row_of of_writer rows w
row_kept [] more w k first = absurd first
row_kept (q ∷ qs) more w zero first =
    by (same_endpoint q.writer w) (row_of of_writer (qs ++ more) w) (row_of of_writer qs w) first
  where
    by : (b : Bool) (x y : Option WriterProxy) → b ≡ true → cond b (Some q) x ≡ cond b (Some q) y
    by true x y e = refl
    by false x y e = absurd (let clash : false ≡ true = e in cc)
row_kept (q ∷ qs) more w (suc k) first =
    ap (λ (o : Option WriterProxy). cond (same_endpoint q.writer w) (Some q) o) (row_kept qs more w k first.1)

row_stays : (rows more : List WriterProxy) (w : Endpoint) (p : WriterProxy) → row_of of_writer rows w ≡ Some p
    → row_of of_writer (rows ++ more) w ≡ Some p
row_stays [] more w p at = absurd (let nothing : None ≡ Some p = at in cc)
row_stays (q ∷ qs) more w p at = by (same_endpoint q.writer w) at (row_stays qs more w p)
  where
    by : (b : Bool) → cond b (Some q) (row_of of_writer qs w) ≡ Some p
        → (row_of of_writer qs w ≡ Some p → row_of of_writer (qs ++ more) w ≡ Some p)
        → cond b (Some q) (row_of of_writer (qs ++ more) w) ≡ Some p
    by true e rest = e
    by false e rest = rest e

row_here : (p : WriterProxy) (w : Endpoint) → p.writer ≡ w → row_of of_writer (p ∷ []) w ≡ Some p
row_here p w is = by (same_endpoint p.writer w) (ap (λ (e : Endpoint). same_endpoint e w) is ∙ same_self w)
  where
    by : (b : Bool) → b ≡ true → cond b (Some p) None ≡ Some p
    by true e = refl
    by false e = absurd (let clash : false ≡ true = e in cc)

-- the place of a new row is 1
place_here : (e w : Endpoint) (p : ℕ)
    → option_map (λ (q : WriterProxy). q.place) (row_of of_writer (new_proxy e ∷ []) w) ≡ Some p → (e ≡ w) × (1 ≡ p)
place_here e w p at = by (same_endpoint e w) refl at
  where
    by : (b : Bool) → same_endpoint e w ≡ b
        → option_map (λ (q : WriterProxy). q.place) (cond b (Some (new_proxy e)) None) ≡ Some p → (e ≡ w) × (1 ≡ p)
    by true is has = (same_is e w is, same_Some 1 p has)
    by false is has = absurd (let nothing : ◌≡◌ {A = Option ℕ} None (Some p) = has in cc)

count_more : (rows : List WriterProxy) (e : Endpoint) → attached_count (rows ++ new_proxy e ∷ []) ≡ attached_count rows + 1
count_more [] e = refl
count_more (q ∷ qs) e =
    count_cons q (qs ++ new_proxy e ∷ [])
    ∙ (ap (λ (n : ℕ). one_if (is_attached q.how) + n) (count_more qs e)
    ∙ more (one_if (is_attached q.how)) (attached_count qs) (attached_count (q ∷ qs)) (count_cons q qs))
  where
    more : (i n x : ℕ) → x ≡ i + n → i + (n + 1) ≡ x + 1
    more i n x is = omega (arith, is)

-- ---- the reader

same_rows : (proxies : List WriterProxy) (names : List WriterName) (name : WriterName)
    → proxied proxies ≡ writers_of names
    → proxied (proxies ++ new_proxy name.writer ∷ []) ≡ writers_of (names ++ name ∷ [])
same_rows proxies names name same =
    map-append of_writer proxies (new_proxy name.writer ∷ [])
    ∙ (ap (λ (es : List Endpoint). es ++ name.writer ∷ []) same
    ∙ sym (map-append (λ (n : WriterName). n.writer) names (name ∷ [])))

places_more : (kept : ReaderKept) (name : WriterName) (proxies : List WriterProxy) (r : Reader)
    (tracked : Endpoint → Tracked) → HasNoRow kept.writers name.writer → ReaderStands kept proxies r tracked
    → (w : Endpoint) (p : ℕ) → place_of (proxies ++ new_proxy name.writer ∷ []) w ≡ Some p → (tracked w).place ≡ p
places_more kept name proxies r tracked none s w p at = by (row_of of_writer proxies w) refl
  where
    row : List WriterProxy
    row = new_proxy name.writer ∷ []

    by : (o : Option WriterProxy) → row_of of_writer proxies w ≡ o → (tracked w).place ≡ p
    by None e =
        let here = place_here name.writer w p
        (sym (ap (λ (o : Option WriterProxy). option_map (λ (q : WriterProxy). q.place) o)
        (row_added proxies row w e)) ∙ at) in
        ap (λ (t : Tracked). t.place)
        (s.others w (subst (λ (x : Endpoint). HasNoRow kept.writers x) here.0 none))
        ∙ here.1
    by (Some q) e =
        let stays : place_of (proxies ++ row) w ≡ place_of proxies w =
        ap (λ (o : Option WriterProxy). option_map (λ (x : WriterProxy). x.place) o)
        (row_stays proxies row w q e ∙ sym e) in
        s.places w p (sym stays ∙ at)

hows_more : (kept : ReaderKept) (name : WriterName) (reader : Proxies) (proxies : List WriterProxy) (r : Reader)
    (tracked : Endpoint → Tracked) → HasOneMore kept.reader reader → count_of kept.reader ≡ length kept.writers
    → HasNoRow kept.writers name.writer → ReaderStands kept proxies r tracked → (w : Endpoint) (k : ℕ)
    → IsFirstRow (kept.writers ++ name ∷ []) w k
    → how_of (proxies ++ new_proxy name.writer ∷ []) w ≡ stood_as (how_at reader k)
hows_more kept name reader proxies r tracked one count none s w k first =
    ⊎_elim
    (λ last.
    ap (λ (o : Option WriterProxy). option_map_or (λ (q : WriterProxy). q.how) o Away)
    (row_added proxies (new_proxy name.writer ∷ []) w (none_there kept.writers proxies w s.writers_are last.2)
    ∙ row_here (new_proxy name.writer) w last.1)
    ∙ sym (ap (λ (a : AttachmentOf). stood_as a)
    (ap (λ (n : ℕ). how_at reader n) (last.0 ∙ sym count) ∙ one.here)))
    (λ before.
    ap (λ (o : Option WriterProxy). option_map_or (λ (q : WriterProxy). q.how) o Away)
    (row_kept proxies (new_proxy name.writer ∷ []) w k
    (subst (λ (es : List Endpoint). IsFirstOf es w k) (sym s.writers_are) (is_first_of kept.writers w k before.1)))
    ∙ (s.hows w k before.1
    ∙ sym (ap (λ (a : AttachmentOf). stood_as a)
    (one.others k (let within = before.0 in λ e. omega (arith, within, e, count))))))
    (row_before kept.writers name w k first)

knows_more : (kept : ReaderKept) (name : WriterName) (reader : Proxies) (proxies : List WriterProxy) (r : Reader)
    (tracked : Endpoint → Tracked) → HasOneMore kept.reader reader → count_of kept.reader ≡ length kept.writers
    → ReaderStands kept proxies r tracked → (w : Endpoint) (k : ℕ) → IsFirstRow (kept.writers ++ name ∷ []) w k
    → Tracks reader k (tracked w)
knows_more kept name reader proxies r tracked one count s w k first =
    ⊎_elim
    (λ last.
    subst (λ (t : Tracked). Tracks reader k t) (sym (s.others w last.2))
    (subst (λ (n : ℕ). Tracks reader n fresh) (count ∙ sym last.0) one.fresh_here))
    (λ before. one.known k (tracked w) (s.knows w k before.1)) (row_before kept.writers name w k first)

here_more : (kept : ReaderKept) (name : WriterName) (proxies : List WriterProxy) (r : Reader)
    (tracked : Endpoint → Tracked) → length kept.writers < max_known → ReaderStands kept proxies r tracked
    → joined_here false kept.here ≡ attached_count (proxies ++ new_proxy name.writer ∷ [])
here_more kept name proxies r tracked few s =
    by kept.here (attached_count proxies) (attached_count (proxies ++ new_proxy name.writer ∷ []))
    (length kept.writers) s.here_is
    (count_more proxies name.writer) (count_few proxies kept.writers s.writers_are) few
  where
    by : (here old new count : ℕ) → here ≡ old → new ≡ old + 1 → old ≤ count → count < max_known
        → joined_here false here ≡ new
    by here old new count is more old_few count_few = omega (arith, is, more, old_few, count_few)

-- it stands for the reader with one row more, at which the writer joined
pub knows_one_more : (kept : ReaderKept) (name : WriterName) (as_writer : MatchedWriter) (reader : Proxies)
    (store : StoreKept) (matches : MatchCounts) → HasOneMore kept.reader reader
    → count_of kept.reader ≡ length kept.writers → length kept.writers < max_known
    → qos_of store.cache ≡ qos_of kept.store.cache
    → ((h : List Happening) → Holds kept.store h → Holds store (Joined as_writer ∷ h))
    → ((m : Matches) → CountsFor kept.matches m → CountsFor matches (match_made m name.writer))
    → KnowsMore kept name as_writer
    (record kept {
      writers = kept.writers ++ name ∷ [];
      reader = reader;
      store = store;
      matches = matches;
      here = joined_here false kept.here;
    })
knows_one_more kept name as_writer reader store matches one count few qos joins made = record {
  entity = refl;
  reliable = ap (λ (q : ReaderQos). is_reliable q.reliability) qos;
  writers = refl;
  stands = λ none proxies r tracked s. record {
    writers_are = same_rows proxies kept.writers name s.writers_are;
    places = places_more kept name proxies r tracked none s;
    knows = knows_more kept name reader proxies r tracked one count s;
    others = λ w h. s.others w (no_row_before kept.writers name w h);
    qos_is = s.qos_is ∙ sym qos;
    holds = joins r.happened s.holds;
    seen_is = s.seen_is;
    hows = hows_more kept name reader proxies r tracked one count none s;
    counts = made r.matches s.counts;
    here_is = here_more kept name proxies r tracked few s;
  };
}
