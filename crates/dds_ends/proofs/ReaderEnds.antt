-- A reader at its opening.
use Rattle.std.proofs.Common.{◌≡◌, ℕ, ◌+◌, ◌<◌, ◌≤◌, true, cond, Bool, false, List, [], ◌∷◌, ◌++◌, Option, None, Some, map, length, refl, ap, sym, ◌∙◌, subst, arith}
use Rattle.std.specs.Option.{option_map}
use Rattle.std.proofs.lemmas.List.{length-map}
use Rattle.dds_base.specs.declared.config.PeerConfig.{PeerConfig}
use Rattle.dds_base.specs.declared.config.ReaderConfig.{ReaderConfig}
use Rattle.dds_base.specs.declared.config.WriterConfig.{WriterConfig}
use Rattle.dds_base.specs.declared.qos.MatchedWriter.{MatchedWriter}
use Rattle.dds_base.specs.declared.qos.ReaderQos.{ReaderQos}
use Rattle.dds_base.specs.Matched.{any_writer, same_topic, is_reliable, is_reliable_reader, of_ends_in, of_matched_writers}
use Rattle.dds_cache.specs.Standing.{qos_of}
use Rattle.dds_lease.specs.Standing.{writer_count}
use Rattle.rtps_reader.specs.declared.attachment.Attachment.{Attachment as AttachmentOf}
use Rattle.rtps_reader.specs.declared.attachment.Attachment.TheVariants as standing
use Rattle.rtps_reader.specs.Reader.{Proxies, Tracks, count_of, how_at}
use Rattle.rtps_reader.specs.Tracked.{fresh}
use Rattle.dds_base.specs.declared.endpoint.Endpoint.{Endpoint}
use Rattle.dds_base.specs.Checked.{limit_of}
use Rattle.dds_protocol.proofs.Opened.{writers_in}
use Rattle.dds_machine.specs.Opening.{matched_writers}
use Rattle.dds_machine.specs.Part.{Begun, WriterProxy, same_endpoint, row_of, place_of, nothing_seen, opened_with}
use Rattle.dds_protocol.proofs.OwnGuids.{as_many}
use Rattle.dds_ends.specs.declared.matching.WriterName.{WriterName}
use Rattle.dds_ends.proofs.Rows.{AllBegun, IsFirstOf, how_there, is_first_of, proxied, writers_of}
use Rattle.dds_ends.specs.Identity.{FitsWriters, reliable_in}
use Rattle.dds_ends.specs.EndNames.{writer_name, matched_writer}
use Rattle.dds_ends.specs.OpeningEnds.{OpensReader}
use Rattle.dds_ends.specs.Standing.{stood_as}
use Rattle.dds_ends.specs.Stored.{StoreKept}
use Rattle.dds_ends.specs.Storing.{Holds}
use Rattle.dds_ends.specs.declared.match_counts.MatchCounts.{MatchCounts}
use Rattle.dds_ends.specs.MatchCounts.{CountsFor}
use Rattle.dds_ends.proofs.Attachments.{count_begun}
use Rattle.dds_ends.proofs.Identities.{identity_as}
use Rattle.dds_ends.proofs.Lists.{get-within}
use Rattle.dds_ends.proofs.Tables.{map-matched_writers}

-- the policies of a reader, with these matched writers
abbrev pub qos_with : ReaderConfig → List MatchedWriter → ReaderQos
qos_with r writers =
    record {
      ownership = r.ownership;
      reliability = r.reliability;
      history = r.history;
      max_samples = limit_of r.max_samples;
      max_instances = limit_of r.max_instances;
      max_arrivals = r.max_arrivals;
      writers = writers;
    }

pub qos_as : (r : ReaderConfig) (samples instances : Option ℕ) (writers matched : List MatchedWriter)
    → samples ≡ limit_of r.max_samples → instances ≡ limit_of r.max_instances → writers ≡ matched
    → ◌≡◌ {A = ReaderQos}
    (record {
      ownership = r.ownership;
      reliability = r.reliability;
      history = r.history;
      max_samples = samples;
      max_instances = instances;
      max_arrivals = r.max_arrivals;
      writers = writers;
    }) (qos_with r matched)
qos_as r samples instances writers matched e f g = cc

-- ---- each place is 1

one_there : (p : WriterProxy) (row : Option WriterProxy) (k : ℕ) (b : Bool) → p.place ≡ 1
    → option_map (λ (q : WriterProxy). q.place) (cond b (Some p) row) ≡ Some k
    → (option_map (λ (q : WriterProxy). q.place) row ≡ Some k → 1 ≡ k) → 1 ≡ k
one_there p row k true one h f = sym one ∙ same_some p.place k h
  where
    same_some : (a b : ℕ) → Some a ≡ Some b → a ≡ b
    same_some a b e = cc
one_there p row k false one h f = f h

-- all of these places are 1
abbrev AreOnes : List WriterProxy → Type 0
AreOnes [] = Unit {0}
AreOnes (p ∷ ps) = (p.place ≡ 1) × AreOnes ps

place_is_one : (ps : List WriterProxy) (w : Endpoint) (k : ℕ) → AreOnes ps → place_of ps w ≡ Some k → 1 ≡ k
place_is_one [] w k all h = cc
place_is_one (p ∷ ps) w k all h =
    one_there p (row_of (λ (q : WriterProxy). q.writer) ps w) k (same_endpoint p.writer w) all.0 h
    (λ e. place_is_one ps w k all.1 e)

ones_both : (xs ys : List WriterProxy) → AreOnes xs → AreOnes ys → AreOnes (xs ++ ys)
ones_both [] ys f g = g
ones_both (x ∷ xs) ys f g = (f.0, ones_both xs ys f.1 g)

ones_in : (topic peer number : ℕ) (ws : List WriterConfig) → AreOnes (writers_in topic peer number ws)
ones_in topic peer number [] = tt
ones_in topic peer number (w ∷ ws) = by (same_topic w.topic topic) (ones_in topic peer (number + 1) ws)
  where
    by : (b : Bool) → AreOnes (writers_in topic peer (number + 1) ws)
        → AreOnes
        (cond b (record { writer = record { peer = peer; number = number }; place = 1; heard = None; how = Begun }
        ∷ writers_in topic peer (number + 1) ws) (writers_in topic peer (number + 1) ws))
    by true h = (refl, h)
    by false h = h

are_ones : (topic peer : ℕ) (ps : List PeerConfig) → AreOnes (matched_writers topic peer ps)
are_ones topic peer [] = tt
are_ones topic peer (p ∷ ps) =
    ones_both (writers_in topic peer 1 p.writers) (matched_writers topic (peer + 1) ps) (ones_in topic peer 1 p.writers)
    (are_ones topic (peer + 1) ps)

-- ---- each place has begun

begun_both : (xs ys : List WriterProxy) → AllBegun xs → AllBegun ys → AllBegun (xs ++ ys)
begun_both [] ys f g = g
begun_both (x ∷ xs) ys f g = (f.0, begun_both xs ys f.1 g)

begun_in : (topic peer number : ℕ) (ws : List WriterConfig) → AllBegun (writers_in topic peer number ws)
begun_in topic peer number [] = tt
begun_in topic peer number (w ∷ ws) = by (same_topic w.topic topic) (begun_in topic peer (number + 1) ws)
  where
    by : (b : Bool) → AllBegun (writers_in topic peer (number + 1) ws)
        → AllBegun
        (cond b (record { writer = record { peer = peer; number = number }; place = 1; heard = None; how = Begun }
        ∷ writers_in topic peer (number + 1) ws) (writers_in topic peer (number + 1) ws))
    by true h = (refl, h)
    by false h = h

all_begun : (topic peer : ℕ) (ps : List PeerConfig) → AllBegun (matched_writers topic peer ps)
all_begun topic peer [] = tt
all_begun topic peer (p ∷ ps) =
    begun_both (writers_in topic peer 1 p.writers) (matched_writers topic (peer + 1) ps)
    (begun_in topic peer 1 p.writers) (all_begun topic (peer + 1) ps)

-- ---- the reader

-- what is said of writers does not go by the numbers of their peers
said_alike : (topic m n : ℕ) (ps : List PeerConfig)
    → of_matched_writers matched_writer topic m ps ≡ of_matched_writers matched_writer topic n ps
said_alike topic m n [] = refl
said_alike topic m n (p ∷ ps) =
    ap (λ (ws : List MatchedWriter). of_ends_in any_writer (λ (w : WriterConfig). w.topic) (matched_writer m p) topic 1
    p.writers ++ ws) (said_alike topic (m + 1) (n + 1) ps)

pub opens_reader : (first : ℕ) (peers : List PeerConfig) (r : ReaderConfig) (names : List WriterName) (writers : List MatchedWriter)
    (reader : Proxies) (store : StoreKept)
    → names ≡ of_matched_writers writer_name r.topic first peers
    → writers ≡ of_matched_writers matched_writer r.topic first peers
    → ((index : ℕ) → index < length names → Tracks reader index fresh)
    → ((index : ℕ) → index < length names → how_at reader index ≡ standing.Begun)
    → qos_of store.cache ≡ qos_with r writers → Holds store [] → (matches : MatchCounts) (here : ℕ)
    → CountsFor matches (opened_with (writers_of names)) → here ≡ length names
    → OpensReader first peers r
    (record {
      entity = r.entity;
      writers = names;
      reader = reader;
      store = store;
      seen = nothing_seen;
      matches = matches;
      here = here;
    })
opens_reader first peers r names writers reader store matched told nothing begun qos stands matches here counts here_is =
    record {
      identity =
          identity_as r.entity r.entity names _ (reliable_in store) (is_reliable_reader r) refl matched
          (ap (λ (q : ReaderQos). is_reliable q.reliability) qos);
      stands = record {
        writers_are = same;
        places = λ w k h. place_is_one (matched_writers r.topic first peers) w k (are_ones r.topic first peers) h;
        knows = λ w k f. nothing k (get-within names k f.name f.at);
        others = λ w none. refl;
        qos_is = sym (qos
            ∙ ap (λ (ws : List MatchedWriter). qos_with r ws) (told ∙ said_alike r.topic first 1 peers));
        holds = stands;
        seen_is = refl;
        hows = λ w k f.
            how_there (matched_writers r.topic first peers) w k
            (subst (λ (es : List Endpoint). IsFirstOf es w k) (sym same) (is_first_of names w k f))
            (all_begun r.topic first peers)
            ∙ sym (ap (λ (x : AttachmentOf). stood_as x) (begun k (get-within names k f.name f.at)));
        counts = subst (λ (es : List Endpoint). CountsFor matches (opened_with es)) (sym same) counts;
        here_is = here_is ∙ (as_named ∙ sym (count_begun (matched_writers r.topic first peers) (all_begun r.topic first peers)));
      };
    }
  where
    same : proxied (matched_writers r.topic first peers) ≡ writers_of names
    same =
        map-matched_writers (λ (p : WriterProxy). p.writer) _ r.topic first peers
        ∙ sym (ap (λ (ns : List WriterName). map (λ (n : WriterName). n.writer) ns) matched
        ∙ map-matched_writers (λ (n : WriterName). n.writer) writer_name r.topic first peers)

    as_named : length names ≡ length (matched_writers r.topic first peers)
    as_named =
        sym (length-map names (λ (n : WriterName). n.writer))
        ∙ (ap (λ (es : List Endpoint). length es) (sym same)
        ∙ length-map (matched_writers r.topic first peers) (λ (p : WriterProxy). p.writer))

-- there are as many names as writers in the policies, and no more than 256
pub names_few : (first : ℕ) (peers : List PeerConfig) (r : ReaderConfig) (names : List WriterName) (writers : List MatchedWriter)
    → names ≡ of_matched_writers writer_name r.topic first peers → writers ≡ of_matched_writers matched_writer r.topic first peers
    → length writers ≤ 256 → length names ≤ 256
names_few first peers r names writers matched told many =
    let same = as_many writer_name matched_writer r.topic first peers in
    let a : length names ≡ length (of_matched_writers writer_name r.topic first peers) =
    ap (λ (ns : List WriterName). length ns) matched in
    let b : length writers ≡ length (of_matched_writers matched_writer r.topic first peers) =
    ap (λ (ws : List MatchedWriter). length ws) told in
    omega (arith, same, a, b, many)

-- there are as many rows as writers in the policies
pub rows_fit : (first : ℕ) (peers : List PeerConfig) (r : ReaderConfig) (names : List WriterName) (writers : List MatchedWriter)
    (reader : Proxies) (store : StoreKept) → names ≡ of_matched_writers writer_name r.topic first peers
    → writers ≡ of_matched_writers matched_writer r.topic first peers → count_of reader ≡ length names
    → qos_of store.cache ≡ qos_with r writers → writer_count store.leases ≡ length writers → length writers ≤ 256
    → (reliable : Bool)
    → reliable ≡ is_reliable_reader r → FitsWriters names reader store reliable
rows_fit first peers r names writers reader store matched told count qos counted many reliable is =
    let same = as_many writer_name matched_writer r.topic first peers in
    let a : length names ≡ length (of_matched_writers writer_name r.topic first peers) =
    ap (λ (ns : List WriterName). length ns) matched in
    let b : length writers ≡ length (of_matched_writers matched_writer r.topic first peers) =
    ap (λ (ws : List MatchedWriter). length ws) told in
    record {
      policy = ap (λ (q : ReaderQos). is_reliable q.reliability) qos ∙ sym is;
      count = count;
      fits = counted ∙ omega (arith, same, a, b);
      many = omega (arith, same, a, b, many);
    }
