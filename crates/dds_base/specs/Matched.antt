-- Which writers and readers are matched: those of one topic, each reader's writers and each writer's readers in the
-- order of the configuration.
--
-- DDS 1.4, 2.2.2.3 (a Topic is what publications and subscriptions have in common), 2.2.3 (RELIABILITY); RTPS 2.5, 8.4
-- (matched_writers, matched_readers).
use Rattle.std.specs.Prelude.{ℕ, ◌+◌, ◌==◌, Bool, true, false, ◌&&◌, if◌then◌else◌, List, [], ◌∷◌, ◌++◌}
use Rattle.dds_base.specs.declared.config.PeerConfig.{PeerConfig}
use Rattle.dds_base.specs.declared.config.WriterConfig.{WriterConfig}
use Rattle.dds_base.specs.declared.config.ReaderConfig.{ReaderConfig}
use Rattle.dds_base.specs.declared.qos.ReliabilityQos.{ReliabilityQos}
use Rattle.dds_base.specs.declared.qos.ReliabilityQos.TheVariants.{BestEffort, Reliable}

-- two topic numbers name one topic
abbrev pub same_topic : ℕ → ℕ → Bool
same_topic a b = a == b

-- what is told of each end of the topic among these that is of the wanted kind, by its number, which counts on from
-- this one
abbrev pub of_ends_in : {E X : Type 0} → (E → Bool) → (E → ℕ) → (ℕ → E → X) → ℕ → ℕ → List E → List X
of_ends_in is_wanted topic_of tell topic number [] = []
of_ends_in is_wanted topic_of tell topic number (e ∷ es) =
    if is_wanted e && same_topic (topic_of e) topic
    then tell number e ∷ of_ends_in is_wanted topic_of tell topic (number + 1) es
    else of_ends_in is_wanted topic_of tell topic (number + 1) es

-- the same of each such end at these peers, by its peer's number, its peer and its number there: by peer, then by end
abbrev pub of_matched_ends : {E X : Type 0} → (PeerConfig → List E) → (E → Bool) → (E → ℕ)
    → (ℕ → PeerConfig → ℕ → E → X) → ℕ → ℕ → List PeerConfig → List X
of_matched_ends ends is_wanted topic_of tell topic peer [] = []
of_matched_ends ends is_wanted topic_of tell topic peer (p ∷ ps) =
    of_ends_in is_wanted topic_of (tell peer p) topic 1 (ends p)
    ++ of_matched_ends ends is_wanted topic_of tell topic (peer + 1) ps

-- each writer is matched: one that does not fit a reader of its topic is in no configuration that is taken (`Checked`)
abbrev pub any_writer : WriterConfig → Bool
any_writer w = true

-- what is told of each matched writer of a reader of the topic, at all of these peers; the first of them has this
-- number; so a reader's matched writers come in the order of its publication handles (DDS 1.4, 2.2.2.5,
-- publication_handle)
abbrev pub of_matched_writers : {X : Type 0} → (ℕ → PeerConfig → ℕ → WriterConfig → X) → ℕ → ℕ → List PeerConfig
    → List X
of_matched_writers = of_matched_ends (λ (p : PeerConfig). p.writers) any_writer (λ (w : WriterConfig). w.topic)

-- a reader of this policy is reliable: it asks for what it misses, and acknowledges what came; a writer of this policy
-- offers that (2.2.3, RELIABILITY)
abbrev pub is_reliable : ReliabilityQos → Bool
is_reliable BestEffort = false
is_reliable Reliable = true

-- a reader is reliable
abbrev pub is_reliable_reader : ReaderConfig → Bool
is_reliable_reader r = is_reliable r.reliability

-- each reader is matched: a configuration in which a writer offers less than a reader of its topic asks for is refused
-- (`Checked`)
abbrev pub any_reader : ReaderConfig → Bool
any_reader r = true

-- what is told of each matched reader of a writer of the topic, at all of these peers; the first of them has this number
abbrev pub of_matched_readers : {X : Type 0} → (ℕ → PeerConfig → ℕ → ReaderConfig → X) → ℕ → ℕ → List PeerConfig
    → List X
of_matched_readers = of_matched_ends (λ (p : PeerConfig). p.readers) any_reader (λ (r : ReaderConfig). r.topic)

-- what is told of each matched reliable reader of a writer of the topic, at all of these peers; the first of them has
-- this number
abbrev pub of_reliable_readers : {X : Type 0} → (ℕ → PeerConfig → ℕ → ReaderConfig → X) → ℕ → ℕ → List PeerConfig
    → List X
of_reliable_readers = of_matched_ends (λ (p : PeerConfig). p.readers) is_reliable_reader (λ (r : ReaderConfig). r.topic)

-- the matched writers of a reader
abbrev pub matched_writers_of : List PeerConfig → ReaderConfig → List WriterConfig
matched_writers_of peers r = of_matched_writers (λ peer p number w. w) r.topic 1 peers
