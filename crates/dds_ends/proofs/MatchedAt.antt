-- Whom a writer is matched with: by the configuration at the opening, and where names stand among others.
use Rattle.std.proofs.Common.{◌≡◌, ℕ, zero, suc, ◌+◌, Bool, true, false, ◌&&◌, ◌||◌, List, [], ◌∷◌, ◌++◌, Some, Contains, map, slice_get, refl, ap, sym, ◌∙◌, subst, arith, ⊎_elim, eq-eqb}
use Rattle.std.specs.Prelude.{if◌then◌else◌}
use Rattle.std.proofs.lemmas.Option.{same_Some}
use Rattle.dds_base.specs.declared.config.Config.{Config}
use Rattle.dds_base.specs.declared.config.PeerConfig.{PeerConfig}
use Rattle.dds_base.specs.declared.config.ReaderConfig.{ReaderConfig}
use Rattle.dds_base.specs.declared.config.WriterConfig.{WriterConfig}
use Rattle.dds_base.specs.Matched.{any_reader, is_reliable_reader, of_ends_in, same_topic}
use Rattle.dds_base.specs.declared.endpoint.Endpoint.{Endpoint}
use Rattle.dds_machine.specs.Part.{peers_of, same_endpoint}
use Rattle.dds_machine.proofs.Tables.{same_is}
use Rattle.dds_protocol.specs.Roster.{Roster, roster_of}
use Rattle.dds_protocol.proofs.Composed.{front_or_rest}
use Rattle.dds_protocol.proofs.InOrder.{same_self}
use Rattle.dds_protocol.proofs.Listed.{StandsIn, matched_is, reader_named, reliable_is}
use Rattle.dds_ends.specs.declared.matching.Destination.{Destination}
use Rattle.dds_ends.specs.declared.matching.ReaderName.{ReaderName}
use Rattle.dds_ends.specs.declared.matching.TopicName.{TopicName}
use Rattle.dds_ends.specs.EndNames.{all_names, reader_name, reader_names, topic_name, topic_names}
use Rattle.dds_ends.specs.Matching.{destinations}
use Rattle.dds_ends.specs.MatchedEnds.{AreKnownReaders, AreMatchedNow, AreNamedOnce, IsKnownReader, IsNameOf, IsReliableName, is_named, readers_of}
use Rattle.dds_ends.proofs.Destinations.{among_at, is_peer, peers_are}
use Rattle.dds_ends.proofs.Lists.{map-get}
use Rattle.dds_ends.proofs.Named.{in_first, in_last}
use Rattle.dds_ends.proofs.Numbered.{IsRest, IsTold, append_get, is_told}
use Rattle.dds_ends.proofs.Once.{Once}
use Rattle.dds_ends.proofs.Tables.{map-matched_readers}

-- ---- names among others

or_first : (a b : Bool) → (a || b) ≡ false → a ≡ false
or_first true b h = absurd cc
or_first false b h = refl

or_rest : (a b : Bool) → (a || b) ≡ false → b ≡ false
or_rest true b h = absurd cc
or_rest false b h = h

no_both : (b : Bool) → b ≡ false → b ≡ true → ⊥
no_both true f g = absurd cc
no_both false f g = absurd cc

-- whose name stands there is named
pub named_there : (names : List ReaderName) (row : ℕ) (name : ReaderName) (reader : Endpoint)
    → slice_get names row ≡ Some name → name.reader ≡ reader → is_named names reader ≡ true
named_there [] row name reader at is = absurd cc
named_there (n ∷ ns) zero name reader at is =
    ap (λ (b : Bool). b || is_named ns reader)
    (ap (λ (e : Endpoint). same_endpoint e reader) (ap (λ (x : ReaderName). x.reader) (same_Some n name at) ∙ is)
    ∙ same_self reader)
named_there (n ∷ ns) (suc row) name reader at is =
    late (same_endpoint n.reader reader) (named_there ns row name reader at is)
  where
    late : (b : Bool) → is_named ns reader ≡ true → (b || is_named ns reader) ≡ true
    late true h = refl
    late false h = h

pub not_named : (names : List ReaderName) (row : ℕ) (name : ReaderName) (reader : Endpoint)
    → slice_get names row ≡ Some name → name.reader ≡ reader → is_named names reader ≡ false → ⊥
not_named names row name reader at is none =
    no_both (is_named names reader) none (named_there names row name reader at is)

-- where the name of one that is named stands
pub named_at : (names : List ReaderName) (reader : Endpoint) → is_named names reader ≡ true
    → (k : ℕ) × (n : ReaderName) × (slice_get names k ≡ Some n) × (n.reader ≡ reader)
named_at [] reader is = absurd cc
named_at (n ∷ ns) reader is = by (same_endpoint n.reader reader) refl is (λ h. named_at ns reader h)
  where
    by : (b : Bool) → same_endpoint n.reader reader ≡ b → (b || is_named ns reader) ≡ true
        → (is_named ns reader ≡ true
        → (k : ℕ) × (m : ReaderName) × (slice_get ns k ≡ Some m) × (m.reader ≡ reader))
        → (k : ℕ) × (m : ReaderName) × (slice_get (n ∷ ns) k ≡ Some m) × (m.reader ≡ reader)
    by true e h later = (zero, n, refl, same_is n.reader reader e)
    by false e h later = let f = later h in (suc f.0, f.1, f.2, f.3)

pub named_is : (names : List ReaderName) (reader : Endpoint) → Contains (readers_of names) reader
    → is_named names reader ≡ true
named_is [] reader among = let lt = among.1 in absurd (omega (arith, lt))
named_is (n ∷ ns) reader among =
    ⊎_elim
    (λ e. ap (λ (b : Bool). b || is_named ns reader)
    (ap (λ (x : Endpoint). same_endpoint x reader) e ∙ same_self reader))
    (λ later. late (same_endpoint n.reader reader) (named_is ns reader later))
    (front_or_rest n.reader (readers_of ns) reader among.0 among.1 among.2)
  where
    late : (b : Bool) → is_named ns reader ≡ true → (b || is_named ns reader) ≡ true
    late true h = refl
    late false h = h

-- that each is named once, by where they stand
pub once_named : (names : List ReaderName) → Once (λ (n : ReaderName). n.reader) names → AreNamedOnce names
once_named [] once = tt
once_named (n ∷ ns) once = (
  none (is_named ns n.reader) refl,
  once_named ns (λ j k x y at_x at_y same.
      let e = once (suc j) (suc k) x y at_x at_y same in omega (arith, e)),
)
  where
    none : (b : Bool) → is_named ns n.reader ≡ b → is_named ns n.reader ≡ false
    none true is =
        let f = named_at ns n.reader is in
        let e = once zero (suc f.0) n f.1 refl f.2 (sym f.3) in absurd (omega (arith, e))
    none false is = is

pub once_at : (names : List ReaderName) → AreNamedOnce names → Once (λ (n : ReaderName). n.reader) names
once_at [] once j k x y at_x at_y same = absurd cc
once_at (n ∷ ns) once zero zero x y at_x at_y same = refl
once_at (n ∷ ns) once zero (suc k) x y at_x at_y same =
    absurd (not_named ns k y n.reader at_y (sym (ap (λ (m : ReaderName). m.reader) (same_Some n x at_x) ∙ same)) once.0)
once_at (n ∷ ns) once (suc j) zero x y at_x at_y same =
    absurd (not_named ns j x n.reader at_x (same ∙ sym (ap (λ (m : ReaderName). m.reader) (same_Some n y at_y))) once.0)
once_at (n ∷ ns) once (suc j) (suc k) x y at_x at_y same = ap suc (once_at ns once.1 j k x y at_x at_y same)

-- ---- at the opening

-- what is told of the readers of a writer's topic is told of one that the roster matches with it
name_told : {X : Type 0} (config : Config) (writer : Endpoint) (w : WriterConfig) (is_wanted : ReaderConfig → Bool)
    (tell : ℕ → PeerConfig → ℕ → ReaderConfig → X) (x : X)
    → StandsIn (λ (p : PeerConfig). p.writers) config.peers writer w
    → (t : IsTold config.peers (λ (p : PeerConfig). p.readers) is_wanted (λ (r : ReaderConfig). r.topic) tell w.topic x)
    → IsNameOf (roster_of config) writer (reader_name t.number t.peer t.end_number t.end)
name_told config writer w is_wanted tell x own t =
    let reader : Endpoint = record { peer = t.number; number = t.end_number } in
    record {
      is = reader_named config reader t.peer t.end t.at_peer t.at_end;
      matched =
          matched_is config writer reader own.peer t.peer w t.end own.at_peer own.at_end t.at_peer t.at_end
          ∙ eq-eqb w.topic t.end.topic (sym t.same_topic);
    }

-- a reader of the topic, where the configuration has these peers from this number on
any_opened : (config : Config) (first : ℕ) (peers : List PeerConfig) → IsRest config.peers first peers
    → (writer : Endpoint) (w : WriterConfig) (k : ℕ) (name : ReaderName)
    → StandsIn (λ (p : PeerConfig). p.writers) config.peers writer w
    → slice_get (all_names w.topic first peers) k ≡ Some name → IsNameOf (roster_of config) writer name
any_opened config first peers rest writer w k name own at =
    let t =
    is_told config.peers (λ (p : PeerConfig). p.readers) any_reader (λ (r : ReaderConfig). r.topic) reader_name w.topic
    first peers rest k name at in
    subst (λ (x : ReaderName). IsNameOf (roster_of config) writer x) t.told
    (name_told config writer w any_reader reader_name name own t)

-- a reliable one
name_opened : (config : Config) (first : ℕ) (peers : List PeerConfig) → IsRest config.peers first peers
    → (writer : Endpoint) (w : WriterConfig) (k : ℕ) (name : ReaderName)
    → StandsIn (λ (p : PeerConfig). p.writers) config.peers writer w
    → slice_get (reader_names w.topic first peers) k ≡ Some name → IsReliableName (roster_of config) writer name
name_opened config first peers rest writer w k name own at =
    let t =
    is_told config.peers (λ (p : PeerConfig). p.readers) is_reliable_reader (λ (r : ReaderConfig). r.topic) reader_name
    w.topic first peers rest k name at in
    subst (λ (x : ReaderName). IsReliableName (roster_of config) writer x) t.told
    (record {
      name_is = name_told config writer w is_reliable_reader reader_name name own t;
      reliable =
          reliable_is config (record { peer = t.number; number = t.end_number }) t.peer t.end t.at_peer t.at_end
          ∙ t.wanted;
    })

-- this name is of a reader that is matched with the writer, which is reliable or not
abbrev pub IsNamedSo : Roster → Endpoint → ReaderName → Bool → Type 0
IsNamedSo roster writer name true = IsReliableName roster writer name
IsNamedSo roster writer name false = IsNameOf roster writer name

-- what is known of the readers of the topic is so
pub all_opened : (config : Config) (first : ℕ) (peers : List PeerConfig) → IsRest config.peers first peers
    → (writer : Endpoint) (w : WriterConfig) → StandsIn (λ (p : PeerConfig). p.writers) config.peers writer w
    → AreKnownReaders (roster_of config) writer (topic_names w.topic first peers)
all_opened config first peers rest writer w own k known at =
    let t =
    is_told config.peers (λ (p : PeerConfig). p.readers) any_reader (λ (r : ReaderConfig). r.topic) topic_name w.topic
    first peers rest k known at in
    subst (λ (x : TopicName). IsKnownReader (roster_of config) writer x) t.told
    (record {
      name_is = name_told config writer w any_reader topic_name known own t;
      as_reliable =
          reliable_is config (record { peer = t.number; number = t.end_number }) t.peer t.end t.at_peer t.at_end;
    })

-- what is known of a reader is so of its name
pub known_so : (roster : Roster) (writer : Endpoint) (known : TopicName) → IsKnownReader roster writer known
    → IsNamedSo roster writer known.name known.is_reliable
known_so roster writer known is = by known.is_reliable is.as_reliable
  where
    by : (b : Bool) → roster.is_reliable known.name.reader ≡ b → IsNamedSo roster writer known.name b
    by true reliable = record { name_is = is.name_is; reliable = reliable }
    by false reliable = is.name_is

-- a reliable reader of the topic is one of all
reliable_in : (tell : ℕ → ReaderConfig → ReaderName) (topic n : ℕ) (rs : List ReaderConfig) (k : ℕ) (x : ReaderName)
    → slice_get (of_ends_in is_reliable_reader (λ (r : ReaderConfig). r.topic) tell topic n rs) k ≡ Some x
    → (j : ℕ) × (slice_get (of_ends_in any_reader (λ (r : ReaderConfig). r.topic) tell topic n rs) j ≡ Some x)
reliable_in tell topic n [] k x at = absurd cc
reliable_in tell topic n (r ∷ rs) k x at =
    by (is_reliable_reader r) (same_topic r.topic topic) k (λ i later. reliable_in tell topic (n + 1) rs i x later) at
  where
    few : List ReaderName
    few = of_ends_in is_reliable_reader (λ (c : ReaderConfig). c.topic) tell topic (n + 1) rs

    each : List ReaderName
    each = of_ends_in any_reader (λ (c : ReaderConfig). c.topic) tell topic (n + 1) rs

    by : (a b : Bool) (i : ℕ)
        → ((h : ℕ) → slice_get few h ≡ Some x → (j : ℕ) × (slice_get each j ≡ Some x))
        → slice_get (if a && b then tell n r ∷ few else few) i ≡ Some x
        → (j : ℕ) × (slice_get (if b then tell n r ∷ each else each) j ≡ Some x)
    by true true zero later here = (zero, here)
    by true true (suc i) later here = let f = later i here in (suc f.0, f.1)
    by true false i later here = later i here
    by false true i later here = let f = later i here in (suc f.0, f.1)
    by false false i later here = later i here

among_all : (topic i : ℕ) (ps : List PeerConfig) (k : ℕ) (x : ReaderName)
    → slice_get (reader_names topic i ps) k ≡ Some x
    → (j : ℕ) × (slice_get (all_names topic i ps) j ≡ Some x)
among_all topic i [] k x at = absurd cc
among_all topic i (p ∷ ps) k x at =
    let few : List ReaderName =
    of_ends_in is_reliable_reader (λ (r : ReaderConfig). r.topic) (reader_name i p) topic 1 p.readers in
    let each : List ReaderName =
    of_ends_in any_reader (λ (r : ReaderConfig). r.topic) (reader_name i p) topic 1 p.readers in
    ⊎_elim
    (λ f.
    let g = reliable_in (reader_name i p) topic 1 p.readers f.0 x f.1 in
    in_first each (all_names topic (i + 1) ps) g.0 x g.1)
    (λ f. let g = among_all topic (i + 1) ps f.0 x f.1 in in_last each (all_names topic (i + 1) ps) g.0 x g.1)
    (append_get few (reader_names topic (i + 1) ps) k x at)

-- so it is matched
pub matched_opened : (topic first : ℕ) (peers : List PeerConfig) (k : ℕ) (name : ReaderName)
    → slice_get (reader_names topic first peers) k ≡ Some name
    → Contains (readers_of (all_names topic first peers)) name.reader
matched_opened topic first peers k name at =
    let f = among_all topic first peers k name at in
    among_at (readers_of (all_names topic first peers)) f.0 name.reader
    (map-get (λ (x : ReaderName). x.reader) (all_names topic first peers) f.0 name f.1)

-- the peers of all are those that are sent to
pub sent_opened : (topic first : ℕ) (peers : List PeerConfig)
    → peers_of (readers_of (all_names topic first peers))
    ≡ map (λ (d : Destination). d.peer) (destinations topic first peers)
sent_opened topic first peers =
    ap (λ (es : List Endpoint). peers_of es)
    (map-matched_readers (λ (n : ReaderName). n.reader) reader_name topic first peers) ∙ peers_are topic first peers

-- whom a writer is matched with
pub ends_opened : (config : Config) (first : ℕ) (peers : List PeerConfig) → IsRest config.peers first peers
    → (writer : Endpoint) (w : WriterConfig) → StandsIn (λ (p : PeerConfig). p.writers) config.peers writer w
    → AreMatchedNow (roster_of config) writer (all_names w.topic first peers) (destinations w.topic first peers)
    (reader_names w.topic first peers)
ends_opened config first peers rest writer w own = record {
  readers = λ k n at. any_opened config first peers rest writer w k n own at;
  sent_to = sent_opened w.topic first peers;
  prefixes = λ k d at. is_peer config w.topic first peers rest k d at;
  named = λ k n at. name_opened config first peers rest writer w k n own at;
}
