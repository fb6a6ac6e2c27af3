-- What a configuration tells of matched ends, told in another way.
use Rattle.std.proofs.Common.{◌≡◌, ℕ, ◌+◌, Bool, true, false, ◌&&◌, cond, List, [], ◌∷◌, ◌++◌, map, replicate, length, refl, ap, sym, ◌∙◌}
use Rattle.std.proofs.lemmas.List.{map-append}
use Rattle.dds_base.specs.declared.config.PeerConfig.{PeerConfig}
use Rattle.dds_base.specs.declared.config.WriterConfig.{WriterConfig}
use Rattle.dds_base.specs.declared.config.ReaderConfig.{ReaderConfig}
use Rattle.dds_base.specs.Matched.{same_topic, any_reader, any_writer, is_reliable_reader, of_ends_in, of_matched_ends, of_matched_readers, of_matched_writers, of_reliable_readers}

map-cond : {X Y : Type 0} (f : X → Y) (b : Bool) (x : X) (xs : List X) (ys : List Y) → map f xs ≡ ys
    → map f (cond b (x ∷ xs) xs) ≡ cond b (f x ∷ ys) ys
map-cond f true x xs ys same = ap (λ zs. f x ∷ zs) same
map-cond f false x xs ys same = same

map-ends_in : {E X Y : Type 0} (is_wanted : E → Bool) (topic_of : E → ℕ) (f : X → Y) (tell : ℕ → E → X) (topic n : ℕ) (es : List E)
    → map f (of_ends_in is_wanted topic_of tell topic n es) ≡ of_ends_in is_wanted topic_of (λ k e. f (tell k e)) topic n es
map-ends_in is_wanted topic_of f tell topic n [] = refl
map-ends_in is_wanted topic_of f tell topic n (e ∷ es) =
    map-cond f (is_wanted e && same_topic (topic_of e) topic) (tell n e) (of_ends_in is_wanted topic_of tell topic (n + 1) es) _
    (map-ends_in is_wanted topic_of f tell topic (n + 1) es)

map-matched_ends : {E X Y : Type 0} (ends : PeerConfig → List E) (is_wanted : E → Bool) (topic_of : E → ℕ) (f : X → Y)
    (tell : ℕ → PeerConfig → ℕ → E → X) (topic n : ℕ) (ps : List PeerConfig)
    → map f (of_matched_ends ends is_wanted topic_of tell topic n ps)
    ≡ of_matched_ends ends is_wanted topic_of (λ i p k e. f (tell i p k e)) topic n ps
map-matched_ends ends is_wanted topic_of f tell topic n [] = refl
map-matched_ends ends is_wanted topic_of f tell topic n (p ∷ ps) =
    map-append f (of_ends_in is_wanted topic_of (tell n p) topic 1 (ends p)) (of_matched_ends ends is_wanted topic_of tell topic (n + 1) ps)
    ∙ (ap (λ xs. xs ++ map f (of_matched_ends ends is_wanted topic_of tell topic (n + 1) ps))
    (map-ends_in is_wanted topic_of f (tell n p) topic 1 (ends p))
    ∙ ap (λ xs. of_ends_in is_wanted topic_of (λ k e. f (tell n p k e)) topic 1 (ends p) ++ xs)
    (map-matched_ends ends is_wanted topic_of f tell topic (n + 1) ps))

pub map-reliable_readers : {X Y : Type 0} (f : X → Y) (tell : ℕ → PeerConfig → ℕ → ReaderConfig → X) (topic n : ℕ)
    (ps : List PeerConfig)
    → map f (of_reliable_readers tell topic n ps) ≡ of_reliable_readers (λ i p k r. f (tell i p k r)) topic n ps
map-reliable_readers = map-matched_ends (λ (p : PeerConfig). p.readers) is_reliable_reader (λ (r : ReaderConfig). r.topic)

pub map-matched_readers : {X Y : Type 0} (f : X → Y) (tell : ℕ → PeerConfig → ℕ → ReaderConfig → X) (topic n : ℕ)
    (ps : List PeerConfig)
    → map f (of_matched_readers tell topic n ps) ≡ of_matched_readers (λ i p k r. f (tell i p k r)) topic n ps
map-matched_readers = map-matched_ends (λ (p : PeerConfig). p.readers) any_reader (λ (r : ReaderConfig). r.topic)

pub map-matched_writers : {X Y : Type 0} (f : X → Y) (tell : ℕ → PeerConfig → ℕ → WriterConfig → X) (topic n : ℕ)
    (ps : List PeerConfig)
    → map f (of_matched_writers tell topic n ps) ≡ of_matched_writers (λ i p k w. f (tell i p k w)) topic n ps
map-matched_writers = map-matched_ends (λ (p : PeerConfig). p.writers) any_writer (λ (w : WriterConfig). w.topic)

-- a list of one thing
constant : {X Y : Type 0} (y : Y) (xs : List X) → map (λ (x : X). y) xs ≡ replicate (length xs) y
constant y [] = refl
constant y (x ∷ xs) = ap (λ zs. y ∷ zs) (constant y xs)

-- where each end is told alike, as many are told as there are
pub told_alike : {X Y : Type 0} (y : Y) (tell : ℕ → PeerConfig → ℕ → ReaderConfig → X) (topic n : ℕ)
    (ps : List PeerConfig)
    → of_reliable_readers (λ i p k r. y) topic n ps ≡ replicate (length (of_reliable_readers tell topic n ps)) y
told_alike {X} y tell topic n ps =
    sym (map-reliable_readers (λ (x : X). y) tell topic n ps) ∙ constant y (of_reliable_readers tell topic n ps)
