-- A writer at its opening, and after what happens there.
use Rattle.std.proofs.Common.{◌≡◌, ℕ, zero, suc, ◌-◌, ◌⊎◌, ⊎_elim, inl, inr, Bool, true, false, List, [], ◌∷◌, ◌++◌, Option, None, Some, slice_get, map, replicate, length, get_or, refl, ap, sym, ◌∙◌, subst, arith, Contains}
use Rattle.std.specs.Prelude.{◌+◌, ◌≤◌, ◌||◌, nat_le, nat_lt, if◌then◌else◌, ℤ, Result, Ok, Err, IfOk, IfErr, OnErr, OnOk}
use Rattle.std.specs.List.{AllByRecursion, list_any}
use Rattle.std.proofs.lemmas.List.{length-map}
use Rattle.std.proofs.lemmas.List.Elements.{All-from_recursion}
use Rattle.std.proofs.lemmas.Option.{same_Some}
use Rattle.dds_base.specs.declared.change.Change.{Change}
use Rattle.dds_base.specs.declared.code.Code.{Code}
use Rattle.dds_base.specs.declared.config.PeerConfig.{PeerConfig}
use Rattle.dds_base.specs.declared.config.WriterConfig.{WriterConfig}
use Rattle.dds_base.specs.declared.guid.EntityId.{EntityId}
use Rattle.dds_base.specs.Kept.{append_refusal}
use Rattle.dds_base.specs.Ownership.{carried}
use Rattle.dds_base.specs.Refusal.{Refuses}
use Rattle.dds_base.specs.Written.{Written, Changed, Ticked, changes_of}
use Rattle.rtps_writer.specs.Standing.{Kept, StandsFor as RtpsStandsFor, reader_count}
use Rattle.rtps_writer.specs.WriterState.{WriterState, entering, history_of, is_asked, is_behind, last_of, opening, ticked, unasked as rtps_unasked}
use Rattle.dds_base.specs.declared.endpoint.Endpoint.{Endpoint}
use Rattle.dds_machine.specs.Opening.{matched_readers, reliable_readers}
use Rattle.dds_machine.specs.Matching.{seen_matches}
use Rattle.dds_machine.specs.Part.{Matches, Writer, ReaderProxy, opened_with, peers_of, same_endpoint, writer_changes, history_of as writer_history, is_behind as is_writer_behind}
use Rattle.dds_machine.specs.Ticks.{ticked as writer_ticked}
use Rattle.dds_protocol.specs.Contact.{Contact}
use Rattle.dds_base.specs.Checked.{check_refusal, limit_of}
use Rattle.dds_protocol.specs.Dues.{AreFew}
use Rattle.dds_ends.specs.declared.matching.Destination.{Destination}
use Rattle.dds_ends.specs.declared.matching.LastCount.{LastCount}
use Rattle.dds_ends.specs.declared.matching.ReaderName.{ReaderName}
use Rattle.dds_ends.specs.declared.matching.TopicName.{TopicName}
use Rattle.dds_ends.specs.declared.match_counts.MatchCounts.{MatchCounts}
use Rattle.dds_ends.specs.Coming.{LooksAtMatches}
use Rattle.dds_ends.specs.Kept.{WriterKept}
use Rattle.dds_ends.specs.Identity.{WriterIdentity, writer_identity}
use Rattle.dds_ends.specs.Matching.{destinations}
use Rattle.dds_ends.specs.EndNames.{all_names, reader_name, reader_names, topic_name, topic_names}
use Rattle.dds_ends.specs.MatchCounts.{CountsFor}
use Rattle.dds_ends.specs.MatchedEnds.{AreNamedOnce, AreRows, first_count, has_count, is_named, last_count, names_of, readers_of, topic_reader}
use Rattle.dds_ends.specs.OpeningEnds.{OpensWriter}
use Rattle.dds_ends.specs.Standing.{AreShort, CountsFrom1, IsShort, IsWhole, WriterStands, state_of}
use Rattle.dds_ends.specs.Stepping.{Enters, Ticks, some_await}
use Rattle.dds_ends.proofs.Acknowledging.{state_as}
use Rattle.dds_ends.proofs.FewAt.{few_opened}
use Rattle.dds_ends.proofs.FirstPeers.{any-map}
use Rattle.dds_ends.proofs.Lists.{any_either}
use Rattle.dds_ends.proofs.MatchedAt.{matched_opened, named_at, named_is, once_named, sent_opened}
use Rattle.dds_ends.proofs.Once.{all_once, named_once}
use Rattle.dds_ends.proofs.Tables.{map-matched_readers, map-reliable_readers, told_alike}

-- a writer at its opening

abbrev identity_of : WriterConfig → List TopicName → List ReaderName → List Destination → List ReaderName → List LastCount
    → WriterIdentity
identity_of w known matched destinations readers counts = record {
  entity = w.entity;
  autodispose = w.autodispose;
  max_value = w.max_value;
  known = known;
  matched = matched;
  destinations = destinations;
  readers = readers;
  counts = counts;
}

identity_as : (w : WriterConfig) (ks ls : List TopicName) (es fs : List ReaderName) (a b : List Destination)
    (c d : List ReaderName) (ms ns : List LastCount) → ks ≡ ls → es ≡ fs → a ≡ b → c ≡ d → ms ≡ ns
    → identity_of w ks es a c ms ≡ identity_of w ls fs b d ns
identity_as w ks ls es fs a b c d ms ns k e f g h = cc

-- of a reader that never left there is no count, and a place for one
never_left : (names : List ReaderName) (reader : Endpoint) → None ≡ last_count (map first_count names) reader
never_left [] reader = refl
never_left (n ∷ ns) reader = by (same_endpoint n.reader reader) (never_left ns reader)
  where
    by : (b : Bool) → None ≡ last_count (map first_count ns) reader
        → None ≡ (if b then None else last_count (map first_count ns) reader)
    by true h = refl
    by false h = h

count_there : (names : List ReaderName) (reader : Endpoint) → is_named names reader ≡ true
    → has_count (map first_count names) reader ≡ true
count_there names reader is = same names ∙ is
  where
    same : (ns : List ReaderName) → has_count (map first_count ns) reader ≡ is_named ns reader
    same [] = refl
    same (n ∷ ns) = ap (λ (b : Bool). same_endpoint n.reader reader || b) (same ns)

rows_opened : (topic first : ℕ) (peers : List PeerConfig)
    → AreRows (all_names topic first peers) (reader_names topic first peers)
    (map first_count (reader_names topic first peers))
rows_opened topic first peers = record {
  once = once_named (reader_names topic first peers) (named_once topic first peers);
  among = λ reader is.
      let f = named_at (reader_names topic first peers) reader is in
      named_is (all_names topic first peers) reader
      (subst (λ (e : Endpoint). Contains (readers_of (all_names topic first peers)) e) f.3
      (matched_opened topic first peers f.0 f.1 f.2));
  places = λ reader is. count_there (reader_names topic first peers) reader is;
}

-- the names of the readers of the topic
names_opened : (topic first : ℕ) (peers : List PeerConfig) (known : List TopicName)
    → known ≡ topic_names topic first peers → names_of known ≡ all_names topic first peers
names_opened topic first peers known knows =
    ap (λ (ks : List TopicName). names_of ks) knows
    ∙ map-matched_readers (λ (k : TopicName). k.name) topic_name topic first peers

-- what looks alike of each row is of one value
rows_begun : (rows : List ReaderProxy) (count : ℕ) → map (λ (p : ReaderProxy). p.acknowledged) rows ≡ replicate count 1
    → AllByRecursion CountsFrom1 rows
rows_begun [] count same = tt
rows_begun (p ∷ ps) zero same = absurd cc
rows_begun (p ∷ ps) (suc count) same =
    let acknowledged : p.acknowledged ≡ 1 =
    first p.acknowledged (map (λ (q : ReaderProxy). q.acknowledged) ps) (replicate count 1) same in
    (omega (arith, acknowledged), rows_begun ps count (rest p.acknowledged _ _ same))
  where
    first : (a : ℕ) (xs ys : List ℕ) → a ∷ xs ≡ 1 ∷ ys → a ≡ 1
    first a xs ys e = ap (λ (ns : List ℕ). get_or ns 0 0) e

    rest : (a : ℕ) (xs ys : List ℕ) → a ∷ xs ≡ 1 ∷ ys → xs ≡ ys
    rest a xs ys e = cc

pub opens_writer : (first : ℕ) (peers : List PeerConfig) (w : WriterConfig) (known : List TopicName) (es : List ReaderName)
    (ds : List Destination) (names : List ReaderName) (lasts : List LastCount) (matches : MatchCounts) (limit : Option ℕ)
    (strength : Option ℤ) (kept : Kept) (count : ℕ) → count ≡ length names → known ≡ topic_names w.topic first peers
    → es ≡ names_of known → CountsFor matches (opened_with (readers_of es)) → lasts ≡ map first_count names
    → ds ≡ destinations w.topic first peers → names ≡ reader_names w.topic first peers → limit ≡ limit_of w.max_samples
    → strength ≡ carried w.ownership w.strength
    → RtpsStandsFor kept (opening w.history limit w.lease strength count)
    → OpensWriter first peers w
    (record {
      entity = w.entity;
      autodispose = w.autodispose;
      max_value = w.max_value;
      known = known;
      matched = es;
      destinations = ds;
      readers = names;
      counts = lasts;
      matches = matches;
      writer = kept;
    })
opens_writer first peers w known es ds names lasts matches limit strength kept count counted knows named opened nobody sent
    matched limited carries stands =
    let rows : List ReaderProxy = reliable_readers w.topic first peers in
    let ends : es ≡ all_names w.topic first peers = named ∙ names_opened w.topic first peers known knows in
    let matched_are : map (λ (n : ReaderName). n.reader) es ≡ matched_readers w.topic first peers =
    ap (λ (ns : List ReaderName). readers_of ns) ends
    ∙ map-matched_readers (λ (n : ReaderName). n.reader) reader_name w.topic first peers in
    let many : length (reader_names w.topic first peers) ≡ count =
    sym (counted ∙ ap (λ (ns : List ReaderName). length ns) matched) in
    let acknowledged : map (λ (p : ReaderProxy). p.acknowledged) rows ≡ replicate count 1 =
    map-reliable_readers (λ (p : ReaderProxy). p.acknowledged) _ w.topic first peers
    ∙ (told_alike 1 reader_name w.topic first peers ∙ ap (λ (n : ℕ). replicate n 1) many) in
    let owed : map (λ (p : ReaderProxy). p.first) rows ≡ replicate count 1 =
    map-reliable_readers (λ (p : ReaderProxy). p.first) _ w.topic first peers
    ∙ (told_alike 1 reader_name w.topic first peers ∙ ap (λ (n : ℕ). replicate n 1) many) in
    let none : Option ℤ = None in
    let counts : map (λ (p : ReaderProxy). none) rows ≡ replicate count none =
    map-reliable_readers (λ (p : ReaderProxy). none) _ w.topic first peers
    ∙ (told_alike none reader_name w.topic first peers ∙ ap (λ (n : ℕ). replicate n none) many) in
    let asks : map (λ (p : ReaderProxy). false) rows ≡ replicate count false =
    map-reliable_readers (λ (p : ReaderProxy). false) _ w.topic first peers
    ∙ (told_alike false reader_name w.topic first peers ∙ ap (λ (n : ℕ). replicate n false) many) in
    record {
      identity =
          identity_as w known _ es _ ds _ names _ lasts _ knows ends sent matched
          (nobody ∙ ap (λ (ns : List ReaderName). map first_count ns) matched);
      stands = record {
        autodispose = refl;
        values = refl;
        known =
            sym (ap (λ (ks : List TopicName). map topic_reader ks) knows
            ∙ map-matched_readers topic_reader topic_name w.topic first peers);
        matched = sym matched_are;
        readers = map-reliable_readers (λ (p : ReaderProxy). p.reader) _ w.topic first peers
            ∙ sym (ap (λ (ns : List ReaderName). map (λ (n : ReaderName). n.reader) ns) matched
            ∙ map-reliable_readers (λ (n : ReaderName). n.reader) reader_name w.topic first peers);
        writer =
            subst (λ (s : WriterState). RtpsStandsFor kept s)
            (state_as (opening w.history (limit_of w.max_samples) w.lease (carried w.ownership w.strength) count)
            (replicate count 1) _ (replicate count 1) _ (replicate count none) _ (replicate count false) _
            (replicate count false) _ (sym owed) (sym acknowledged) (sym counts) (sym asks) (sym asks))
            (subst (λ (z : Option ℤ). RtpsStandsFor kept
            (opening w.history (limit_of w.max_samples) w.lease z count)) carries
            (subst (λ (o : Option ℕ). RtpsStandsFor kept
            (opening w.history o w.lease strength count)) limited stands));
        begun = All-from_recursion CountsFrom1 rows (rows_begun rows count acknowledged);
        rows =
            subst (λ (ns : List ReaderName). AreRows ns names lasts) (sym ends)
            (subst (λ (ns : List ReaderName). AreRows (all_names w.topic first peers) ns lasts) (sym matched)
            (subst (λ (ls : List LastCount). AreRows (all_names w.topic first peers) (reader_names w.topic first peers) ls)
            (sym (nobody ∙ ap (λ (ns : List ReaderName). map first_count ns) matched))
            (rows_opened w.topic first peers)));
        quiet = λ reader is none. refl;
        counted = λ reader none. never_left names reader ∙ ap (λ (ls : List LastCount). last_count ls reader) (sym nobody);
        matches = subst (λ (rs : List Endpoint). CountsFor matches (opened_with rs)) matched_are opened;
      };
    }

-- a writer that has written nothing is whole

nothing_short : (most : ℕ) → AreShort most []
nothing_short most number change at = by (nat_lt 0 number) (slice_get [] (number - 1)) refl at
  where
    by : (b : Bool) (o : Option Change) → o ≡ None → (if b then o else None) ≡ Some change → IsShort most change.value
    by true o none h = absurd cc
    by false o none h = absurd cc

pub whole_opened : (first : ℕ) (peers : List PeerConfig) (w : WriterConfig) (known : List TopicName) (es : List ReaderName)
    (ds : List Destination) (names : List ReaderName) (limit : Option ℕ) (strength : Option ℤ) (kept : Kept) (count : ℕ)
    → check_refusal peers ≡ None → known ≡ topic_names w.topic first peers → length known ≤ 256 → es ≡ names_of known
    → ds ≡ destinations w.topic first peers → length ds ≤ 16 → names ≡ reader_names w.topic first peers → length names ≤ 256
    → reader_count kept ≡ count → count ≡ length names
    → RtpsStandsFor kept (opening w.history limit w.lease strength count)
    → IsWhole w.max_value known es ds names kept
whole_opened first peers w known es ds names limit strength kept count fits knows limited named sent few matched many rows
    counted stands = record {
      limited = omega (arith, limited);
      few_at =
          subst (λ (ns : List ReaderName). AreFew (readers_of ns)) (sym ends ∙ named) (few_opened w.topic first peers fits);
      matched_are = record {
        once =
            subst (λ (ns : List ReaderName). AreNamedOnce ns) (sym ends)
            (once_named (all_names w.topic first peers) (all_once w.topic first peers));
        there = λ e is. ap (λ (ns : List ReaderName). is_named ns e) (sym named) ∙ is;
      };
      once =
          subst (λ (ns : List ReaderName). AreNamedOnce ns) (sym matched)
          (once_named (reader_names w.topic first peers) (named_once w.topic first peers));
      among = λ e is.
          ap (λ (ns : List ReaderName). is_named ns e) ends
          ∙ (rows_opened w.topic first peers).among e (ap (λ (ns : List ReaderName). is_named ns e) (sym matched) ∙ is);
      told =
          ap (λ (ns : List ReaderName). peers_of (readers_of ns)) ends
          ∙ (sent_opened w.topic first peers
          ∙ sym (ap (λ (xs : List Destination). map (λ (d : Destination). d.peer) xs) sent));
      few = omega (arith, few);
      many = omega (arith, many);
      count = rows ∙ counted;
      state = opening w.history limit w.lease strength count;
      stands = stands;
      short = nothing_short w.max_value;
    }
  where
    ends : es ≡ all_names w.topic first peers
    ends = named ∙ names_opened w.topic first peers known knows

-- a writer, by what its end has once it is open
abbrev pub kept_as : EntityId → Bool → ℕ → List TopicName → List ReaderName → List Destination → List ReaderName → List LastCount
    → MatchCounts → Kept → WriterKept
kept_as entity autodispose most known matched destinations readers counts matches writer = record {
  entity = entity;
  autodispose = autodispose;
  max_value = most;
  known = known;
  matched = matched;
  destinations = destinations;
  readers = readers;
  counts = counts;
  matches = matches;
  writer = writer;
}

-- what stands for a writer does so under another name
pub stands_there : (kept now : WriterKept) (w : Writer) (answered : Endpoint → Contact) → kept ≡ now
    → WriterStands now w answered → WriterStands kept w answered
stands_there kept now w answered same s = subst (λ (k : WriterKept). WriterStands k w answered) (sym same) s

-- a writer at which this happened besides

pub enters : (kept : WriterKept) (entry : Written) (after : Kept)
    → ((s : WriterState) → RtpsStandsFor kept.writer s → RtpsStandsFor after (entering s entry))
    → Enters kept entry (record kept { writer = after })
enters kept entry after more = record {
  same = refl;
  stands =
      λ w answered s. record {
        autodispose = s.autodispose;
        values = s.values;
        known = s.known;
        matched = s.matched;
        readers = s.readers;
        writer = more
            (state_of w answered) s.writer;
        begun = s.begun;
        rows = s.rows;
        counted = s.counted;
        quiet = s.quiet;
        matches = s.matches;
      };
}

-- the same, where it was not refused
pub enters_if : {A B : Type 0} (result : Result A B) (kept now : WriterKept) (entry : Written) (after : Kept)
    → kept ≡ now → ((s : WriterState) → RtpsStandsFor kept.writer s
    → OnOk result (RtpsStandsFor after (entering s entry)))
    → OnOk result (Enters now entry (record kept { writer = after }))
enters_if (Ok x) kept now entry after same more =
    subst (λ (k : WriterKept). Enters k entry (record kept { writer = after })) same (enters kept entry after more)
enters_if (Err e) kept now entry after same more = tt

-- a change that was accepted, and one that was refused

pub accepts_if : (result : Result ℕ Code) (kept now : WriterKept) (change : Change) → kept ≡ now
    → ((s : WriterState) → RtpsStandsFor kept.writer s
    → IfOk result (λ number. (append_refusal (history_of s) change ≡ None) × (number ≡ last_of s + 1)))
    → IfOk result (λ number. (w : Writer) (answered : Endpoint → Contact) → WriterStands now w answered
    → (append_refusal (writer_history w) change ≡ None) × (number ≡ length (writer_changes w) + 1))
accepts_if (Ok n) kept now change same accepts =
    λ w answered s. accepts (state_of w answered) (stands_there kept now w answered same s).writer
accepts_if (Err e) kept now change same accepts = tt

pub refuses_if : (result : Result ℕ Code) (kept now : WriterKept) (change : Change) → kept ≡ now
    → ((s : WriterState) → RtpsStandsFor kept.writer s → IfErr result (Refuses (append_refusal (history_of s) change)))
    → IfErr result (λ code. (w : Writer) (answered : Endpoint → Contact) → WriterStands now w answered
    → Refuses (append_refusal (writer_history w) change) code)
refuses_if (Ok n) kept now change same refuses = tt
refuses_if (Err e) kept now change same refuses =
    λ w answered s. refuses (state_of w answered) (stands_there kept now w answered same s).writer

-- a tick

-- a writer of the machine is behind where its state is
pub behind_same : (w : Writer) (answered : Endpoint → Contact) → is_behind (state_of w answered) ≡ is_writer_behind w
behind_same w answered = any_same w.readers (length (writer_changes w))
  where
    any_same : (rows : List ReaderProxy) (last : ℕ)
        → list_any (λ a. nat_le a last) (map (λ (p : ReaderProxy). p.acknowledged) rows)
        ≡ list_any (λ (p : ReaderProxy). nat_le p.acknowledged last) rows
    any_same [] last = refl
    any_same (p ∷ ps) last = ap (λ (b : Bool). nat_le p.acknowledged last || b) (any_same ps last)

-- some reader asks for a HEARTBEAT, or is silent, where one of its state does or is
pub asked_same : (w : Writer) (answered : Endpoint → Contact) → is_asked (state_of w answered) ≡ some_await w answered
asked_same w answered =
    let asks : ReaderProxy → Bool = λ p. (answered p.reader).asks in
    let silent : ReaderProxy → Bool = λ p. (answered p.reader).silent in
    ap (λ (b : Bool). b || list_any (λ s. s) (map silent w.readers)) (any-map asks (λ a. a) w.readers)
    ∙ (ap (λ (b : Bool). list_any asks w.readers || b) (any-map silent (λ s. s) w.readers)
    ∙ any_either asks silent w.readers)

-- the state once all were told
told_same : (w : Writer) (answered : Endpoint → Contact) (s : WriterState)
    → s.asks ≡ map (λ (p : ReaderProxy). (answered p.reader).asks) w.readers
    → rtps_unasked s ≡ record s { asks = map (λ (p : ReaderProxy). false) w.readers }
told_same w answered s is =
    ap (λ (bs : List Bool). record s { asks = bs })
    (ap (λ (bs : List Bool). map (λ (b : Bool). false) bs) is ∙ none w.readers)
  where
    none : (rows : List ReaderProxy)
        → map (λ (b : Bool). false) (map (λ (p : ReaderProxy). (answered p.reader).asks) rows)
        ≡ map (λ (p : ReaderProxy). false) rows
    none [] = refl
    none (p ∷ ps) = ap (λ (bs : List Bool). false ∷ bs) (none ps)

-- the state that a writer's parts stand for after the tick, before it has told anybody
pub ticked_there : (w : Writer) (answered : Endpoint → Contact) (now : ℕ) (after : Kept)
    → RtpsStandsFor after (ticked (state_of w answered) now)
    → RtpsStandsFor after (state_of (writer_ticked now (some_await w answered) w) answered)
ticked_there w answered now after stands =
    let state : WriterState = state_of w answered in
    subst (λ (b : Bool). RtpsStandsFor after (entering state (Ticked now (is_writer_behind w || b)))) (asked_same w answered)
    (subst (λ (b : Bool). RtpsStandsFor after (entering state (Ticked now (b || is_asked state)))) (behind_same w answered)
    stands)

pub ticks : (kept current : WriterKept) (now : ℕ) (after told : Kept) → kept ≡ current
    → ((s : WriterState) → RtpsStandsFor kept.writer s → RtpsStandsFor after (ticked s now))
    → ((s : WriterState) → RtpsStandsFor after s → RtpsStandsFor told (rtps_unasked s))
    → Ticks current now (record kept { writer = told })
ticks kept current now after told same more tells = record {
  same = ap writer_identity same;
  stands = λ w answered s.
      let here = stands_there kept current w answered same s in
      let new : Writer = writer_ticked now (some_await w answered) w in
      record {
        autodispose = here.autodispose;
        values = here.values;
        known = here.known;
        matched = here.matched;
        readers = here.readers;
        writer =
            subst (λ (x : WriterState). RtpsStandsFor told x) (told_same w answered (state_of new answered) refl)
            (tells (state_of new answered) (ticked_there w answered now after (more (state_of w answered) here.writer)));
        begun = here.begun;
        rows = here.rows;
        counted = here.counted;
        quiet = here.quiet;
        matches = here.matches;
      };
}

-- a writer that took up a change, or refused it, is whole

-- what is at a place of a list with one more is there without it, or is the last
last_or : {X : Type 0} (xs : List X) (last x : X) (k : ℕ) → slice_get (xs ++ last ∷ []) k ≡ Some x
    → (slice_get xs k ≡ Some x) ⊎ (last ≡ x)
last_or [] last x zero at = inr (same_Some last x at)
last_or [] last x (suc k) at = absurd cc
last_or (y ∷ ys) last x zero at = inl at
last_or (y ∷ ys) last x (suc k) at = last_or ys last x k at

short_more : (most : ℕ) (cs : List Change) (c : Change) → AreShort most cs → IsShort most c.value
    → AreShort most (cs ++ c ∷ [])
short_more most cs c short last = λ number x at. one (nat_lt 0 number) (number - 1) x (λ there. short number x there) at
  where
    one : (b : Bool) (k : ℕ) (x : Change)
        → ((if b then slice_get cs k else None) ≡ Some x → IsShort most x.value)
        → (if b then slice_get (cs ++ c ∷ []) k else None) ≡ Some x → IsShort most x.value
    one true k x old at =
        ⊎_elim (λ there. old there) (λ is. subst (λ (y : Change). IsShort most y.value) is last) (last_or cs c x k at)
    one false k x old at = absurd cc

pub whole_if : (result : Result ℕ Code) (most : ℕ) (known : List TopicName) (matched : List ReaderName)
    (destinations : List Destination)
    (readers : List ReaderName) (old after : Kept) (change : Change)
    → IsWhole most known matched destinations readers old → IsShort most change.value
    → reader_count after ≡ reader_count old
    → ((s : WriterState) → RtpsStandsFor old s → OnOk result (RtpsStandsFor after (entering s (Changed change))))
    → OnErr result (after ≡ old) → IsWhole most known matched destinations readers after
whole_if (Ok n) most known matched destinations readers old after change whole short counted more same = record {
  limited = whole.limited;
  few_at = whole.few_at;
  matched_are = whole.matched_are;
  once = whole.once;
  among = whole.among;
  told = whole.told;
  few = whole.few;
  many = whole.many;
  count = counted ∙ whole.count;
  state = entering whole.state (Changed change);
  stands = more whole.state whole.stands;
  short = short_more most (changes_of whole.state.written) change whole.short short;
}
whole_if (Err e) most known matched destinations readers old after change whole short counted more same =
    subst (λ (k : Kept). IsWhole most known matched destinations readers k) (sym same) whole

-- a look at its matches
pub looks_at_matches : (kept now : WriterKept) (after : MatchCounts) → kept ≡ now
    → ((m : Matches) → CountsFor kept.matches m → CountsFor after (seen_matches m (length kept.matched)))
    → LooksAtMatches now (record kept { matches = after })
looks_at_matches kept now after view seen =
    subst (λ (k : WriterKept). LooksAtMatches k (record kept { matches = after })) view
    (record {
      same = refl;
      stands = λ w answered s. record {
        autodispose = s.autodispose;
        values = s.values;
        known = s.known;
        matched = s.matched;
        readers = s.readers;
        writer = s.writer;
        begun = s.begun;
        rows = s.rows;
        counted = s.counted;
        quiet = s.quiet;
        matches =
            subst (λ (n : ℕ). CountsFor after (seen_matches w.matches n))
            (sym (ap (λ (es : List Endpoint). length es) s.matched
            ∙ length-map kept.matched (λ (n : ReaderName). n.reader))) (seen w.matches s.matches);
      };
    })
