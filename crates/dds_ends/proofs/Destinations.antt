-- Whom a writer sends to: each peer with a matched reader, once.
use Rattle.std.proofs.Common.{◌≡◌, ℕ, zero, suc, ◌+◌, ◌<◌, ◌==◌, Bool, true, false, cond, not, ◌||◌, List, [], ◌∷◌, ◌++◌, Some, Contains, map, slice_get, refl, ap, ◌∙◌, subst, arith, ⊎_elim, eqb-true, eq-eqb}
use Rattle.std.proofs.lemmas.Option.{same_Some}
use Rattle.std.specs.List.{list_any}
use Rattle.dds_base.specs.declared.config.Config.{Config}
use Rattle.dds_base.specs.declared.config.PeerConfig.{PeerConfig}
use Rattle.dds_base.specs.declared.config.ReaderConfig.{ReaderConfig}
use Rattle.dds_base.specs.Matched.{any_reader, of_ends_in, same_topic}
use Rattle.dds_machine.specs.Opening.{matched_readers}
use Rattle.dds_base.specs.declared.endpoint.Endpoint.{Endpoint}
use Rattle.dds_machine.specs.Part.{peers_of}
use Rattle.dds_protocol.proofs.Composed.{front_or_rest}
use Rattle.dds_protocol.specs.Roster.{roster_of}
use Rattle.dds_protocol.proofs.Listed.{prefix_is}
use Rattle.dds_protocol.proofs.PeersOf.{has, without}
use Rattle.dds_ends.specs.declared.matching.Destination.{Destination}
use Rattle.dds_ends.specs.Matching.{has_reader, destinations}
use Rattle.dds_ends.specs.MatchedEnds.{IsPeer}
use Rattle.dds_ends.proofs.Numbered.{IsRest, rest_first, rest_later, cond_get}

-- a reader, by the numbers of its peer and its own
abbrev name_at : ℕ → ℕ → ReaderConfig → Endpoint
name_at peer number r = record { peer = peer; number = number }

-- the readers of the topic among those of one peer, reliable or not
abbrev ends_in : ℕ → ℕ → ℕ → List ReaderConfig → List Endpoint
ends_in topic peer n rs = of_ends_in any_reader (λ (r : ReaderConfig). r.topic) (name_at peer) topic n rs

-- where the number is not among them, all are left without it
all_without : (m : ℕ) (ns : List ℕ) → has m ns ≡ false → without m ns ≡ ns
all_without m [] none = refl
all_without m (n ∷ ns) none = by (n == m) none (all_without m ns)
  where
    by : (b : Bool) → (b || has m ns) ≡ false → (has m ns ≡ false → without m ns ≡ ns)
        → cond (not b) (n ∷ without m ns) (without m ns) ≡ n ∷ ns
    by true h later = absurd cc
    by false h later = ap (λ (ms : List ℕ). n ∷ ms) (later h)

-- the number of a peer before the numbers of its readers and of others
one_peer : (any : Bool) (peer : ℕ) (numbers : List ℕ) → has peer numbers ≡ false
    → (peer ∷ without peer (cond any (peer ∷ numbers) numbers)) ≡ peer ∷ numbers
one_peer true peer numbers none =
    ap (λ (b : Bool). peer ∷ cond (not b) (peer ∷ without peer numbers) (without peer numbers)) (eq-eqb peer peer refl)
    ∙ ap (λ (ns : List ℕ). peer ∷ ns) (all_without peer numbers none)
one_peer false peer numbers none = ap (λ (ns : List ℕ). peer ∷ ns) (all_without peer numbers none)

peers_row : (b : Bool) (topic peer n : ℕ) (r : ReaderConfig) (rs : List ReaderConfig) (rest : List Endpoint)
    → same_topic r.topic topic ≡ b → has peer (peers_of rest) ≡ false
    → peers_of (ends_in topic peer (n + 1) rs ++ rest)
    ≡ cond (has_reader topic rs) (peer ∷ peers_of rest) (peers_of rest)
    → peers_of (cond b (name_at peer n r ∷ ends_in topic peer (n + 1) rs)
    (ends_in topic peer (n + 1) rs) ++ rest)
    ≡ cond (b || has_reader topic rs) (peer ∷ peers_of rest) (peers_of rest)
peers_row true topic peer n r rs rest is none h =
    ap (λ (ns : List ℕ). peer ∷ without peer ns) h ∙ one_peer (has_reader topic rs) peer (peers_of rest) none
peers_row false topic peer n r rs rest is none h = h

peers_of_one : (topic peer n : ℕ) (rs : List ReaderConfig) (rest : List Endpoint)
    → list_any (λ p. p == peer) (peers_of rest) ≡ false
    → peers_of (ends_in topic peer n rs ++ rest)
    ≡ cond (has_reader topic rs) (peer ∷ peers_of rest) (peers_of rest)
peers_of_one topic peer n [] rest none = refl
peers_of_one topic peer n (r ∷ rs) rest none =
    peers_row (same_topic r.topic topic) topic peer n r rs rest refl none (peers_of_one topic peer (n + 1) rs rest none)

-- numbers go on
is_other : (a b : ℕ) → a < b → (b == a) ≡ false
is_other a b lt = other (b == a) refl
  where
    other : (c : Bool) → (b == a) ≡ c → (b == a) ≡ false
    other true is = let same = eqb-true b a is in absurd (omega (arith, lt, same))
    other false is = is

none_before : (topic peer n : ℕ) (ps : List PeerConfig) → peer < n
    → list_any (λ p. p == peer) (map (λ (d : Destination). d.peer) (destinations topic n ps)) ≡ false
none_before topic peer n [] lt = refl
none_before topic peer n (p ∷ ps) lt =
    before (has_reader topic p.readers) (none_before topic peer (n + 1) ps (omega (arith, lt)))
  where
    before : (b : Bool) → list_any (λ q. q == peer) (map (λ (d : Destination). d.peer) (destinations topic (n + 1) ps))
        ≡ false
        → list_any (λ q. q == peer)
        (map (λ (d : Destination). d.peer)
        (cond b (record { peer = n; prefix = p.prefix } ∷ destinations topic (n + 1) ps)
        (destinations topic (n + 1) ps))) ≡ false
    before true h =
        ap (λ (c : Bool). c || list_any (λ q. q == peer)
        (map (λ (d : Destination). d.peer) (destinations topic (n + 1) ps))) (is_other peer n lt) ∙ h
    before false h = h

map-cond : (b : Bool) (d : Destination) (ds : List Destination)
    → cond b (d.peer ∷ map (λ (x : Destination). x.peer) ds) (map (λ (x : Destination). x.peer) ds)
    ≡ map (λ (x : Destination). x.peer) (cond b (d ∷ ds) ds)
map-cond true d ds = refl
map-cond false d ds = refl

-- the peers of a writer's matched readers are those that it sends to
pub peers_are : (topic n : ℕ) (ps : List PeerConfig) → peers_of (matched_readers topic n ps)
    ≡ map (λ (d : Destination). d.peer) (destinations topic n ps)
peers_are topic n [] = refl
peers_are topic n (p ∷ ps) =
    let later = peers_are topic (n + 1) ps in
    let rest : List Endpoint = matched_readers topic (n + 1) ps in
    let none : list_any (λ q. q == n) (peers_of rest) ≡ false =
    ap (λ ns. list_any (λ q. q == n) ns) later ∙ none_before topic n (n + 1) ps (omega arith) in
    peers_of_one topic n 1 p.readers rest none
    ∙ (ap (λ ns. cond (has_reader topic p.readers) (n ∷ ns) ns) later
    ∙ map-cond (has_reader topic p.readers) (record { peer = n; prefix = p.prefix })
    (destinations topic (n + 1) ps))

-- a destination is a peer of the configuration
pub is_peer : (config : Config) (topic n : ℕ) (ps : List PeerConfig) → IsRest config.peers n ps → (k : ℕ)
    (d : Destination) → slice_get (destinations topic n ps) k ≡ Some d → IsPeer (roster_of config) d
is_peer config topic n [] rest k d at = absurd cc
is_peer config topic n (p ∷ ps) rest k d at =
    ⊎_elim
    (λ f. subst (λ (x : Destination). IsPeer (roster_of config) x) f.1
    (prefix_is config n p (rest_first config.peers n p ps rest)))
    (λ f. is_peer config topic (n + 1) ps (rest_later config.peers n p ps rest) f.0 d f.1)
    (cond_get (has_reader topic p.readers) (record { peer = n; prefix = p.prefix })
    (destinations topic (n + 1) ps) k d at)

-- where an element stands
pub at_some : {X : Type 0} (xs : List X) (x : X) → Contains xs x → (k : ℕ) × (slice_get xs k ≡ Some x)
at_some [] x among = let lt = among.1 in absurd (omega (arith, lt))
at_some {X = X} (y ∷ ys) x among =
    ⊎_elim (λ e. (zero, ap (λ (z : X). Some z) e)) (λ later. let f = at_some ys x later in (suc f.0, f.1))
    (front_or_rest y ys x among.0 among.1 among.2)

-- an element of a list is among it
pub among_at : {X : Type 0} (xs : List X) (k : ℕ) (x : X) → slice_get xs k ≡ Some x → Contains xs x
among_at [] k x at = absurd cc
among_at (y ∷ ys) zero x at = (zero, omega arith, same_Some y x at)
among_at (y ∷ ys) (suc k) x at =
    let c = among_at ys k x at in let lt = c.1 in (suc c.0, omega (arith, lt), c.2)
