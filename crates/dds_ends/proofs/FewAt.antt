-- How many of the readers that a writer knows, or is matched with, are at a peer.
use Rattle.std.proofs.Common.{◌≡◌, ℕ, suc, ◌+◌, ◌<◌, ◌≤◌, ◌==◌, Bool, true, false, cond, ◌&&◌, ◌||◌, List, [], ◌∷◌, ◌++◌, None, map, length, refl, ap, arith, eqb-true}
use Rattle.std.specs.Prelude.{if◌then◌else◌, nat_lt}
use Rattle.std.specs.List.{count_by, list_any}
use Rattle.std.proofs.lemmas.Bool.{or_parts}
use Rattle.std.proofs.lemmas.Bool.Decides.{nat_tests}
use Rattle.std.proofs.lemmas.List.Sums.{sum_by-append, sum_by-cons}
use Rattle.dds_base.specs.declared.config.PeerConfig.{PeerConfig}
use Rattle.dds_base.specs.declared.config.ReaderConfig.{ReaderConfig}
use Rattle.dds_base.specs.declared.endpoint.Endpoint.{Endpoint}
use Rattle.dds_base.specs.Checked.{check_refusal, is_bad_peer}
use Rattle.dds_base.specs.Matched.{any_reader, of_ends_in, of_matched_readers, same_topic}
use Rattle.dds_protocol.specs.Dues.{AreFew}
use Rattle.dds_protocol.proofs.Rosters.{configs_are_good}
use Rattle.dds_ends.specs.declared.matching.ReaderName.{ReaderName}
use Rattle.dds_ends.specs.Beating.{names_at}
use Rattle.dds_ends.specs.EndNames.{all_names, reader_name}
use Rattle.dds_ends.specs.MatchedEnds.{readers_of}

-- ---- counting

abbrev pub one_if : Bool → ℕ
one_if b = cond b 1 0

pub count-cons : {X : Type 0} (test : X → Bool) (x : X) (xs : List X)
    → count_by test (x ∷ xs) ≡ one_if (test x) + count_by test xs
count-cons test x xs = sum_by-cons (λ y. one_if (test y)) x xs

pub count-map : {X Y : Type 0} (test : Y → Bool) (f : X → Y) (xs : List X)
    → count_by test (map f xs) ≡ count_by (λ x. test (f x)) xs
count-map test f [] = refl
count-map test f (x ∷ xs) =
    let these = count-cons test (f x) (map f xs) in
    let those = count-cons (λ y. test (f y)) x xs in
    let rest = count-map test f xs in omega (arith, these, those, rest)

-- with one more, last
pub count-last : {X : Type 0} (test : X → Bool) (xs : List X) (x : X)
    → count_by test (xs ++ x ∷ []) ≡ count_by test xs + one_if (test x)
count-last test xs x =
    let all = sum_by-append (λ y. one_if (test y)) xs (x ∷ []) in
    let one = count-cons test x [] in omega (arith, all, one)

-- the test of a reader's name
abbrev pub is_at : ℕ → ReaderName → Bool
is_at peer n = n.reader.peer == peer

-- few of a peer, by the names
pub few_names : (names : List ReaderName) → ((peer : ℕ) → names_at names peer ≤ 16) → AreFew (readers_of names)
few_names names few peer =
    let here = count-map (λ (e : Endpoint). e.peer == peer) (λ (n : ReaderName). n.reader) names in
    let most = few peer in omega (arith, here, most)

pub few_at : (names : List ReaderName) (peer : ℕ) → AreFew (readers_of names) → names_at names peer ≤ 16
few_at names peer few =
    let here = count-map (λ (e : Endpoint). e.peer == peer) (λ (n : ReaderName). n.reader) names in
    let most = few peer in omega (arith, here, most)

-- ---- at the opening

-- the readers of a topic at one peer
few_in : (i : ℕ) (p : PeerConfig) (topic n : ℕ) (rs : List ReaderConfig) (peer : ℕ)
    → names_at (of_ends_in any_reader (λ (r : ReaderConfig). r.topic) (reader_name i p) topic n rs) peer
    ≤ cond (i == peer) (length rs) 0
few_in i p topic n [] peer = omega arith
few_in i p topic n (r ∷ rs) peer =
    by (any_reader r && same_topic r.topic topic) (i == peer) refl (few_in i p topic (n + 1) rs peer)
  where
    later : List ReaderName
    later = of_ends_in any_reader (λ (x : ReaderConfig). x.topic) (reader_name i p) topic (n + 1) rs

    by : (b c : Bool) → (i == peer) ≡ c → names_at later peer ≤ cond c (length rs) 0
        → names_at (if b then reader_name i p n r ∷ later else later) peer ≤ cond c (suc (length rs)) 0
    by true true is few =
        let all = count-cons (is_at peer) (reader_name i p n r) later in
        let one = ap one_if is in omega (arith, all, one, few)
    by true false is few =
        let all = count-cons (is_at peer) (reader_name i p n r) later in
        let one = ap one_if is in omega (arith, all, one, few)
    by false true is few = omega (arith, few)
    by false false is few = few

-- a good peer has few
good_has_few : (p : PeerConfig) → is_bad_peer p ≡ false → length p.readers ≤ 16
good_has_few p good =
    let sizes = (or_parts (nat_lt 16 (length p.writers) || nat_lt 16 (length p.readers)) _ good).0 in
    let few : nat_lt 16 (length p.readers) ≡ false =
    (or_parts (nat_lt 16 (length p.writers)) (nat_lt 16 (length p.readers)) sizes).1 in
    grind (arith, nat_tests, few)

-- of good peers, the first of which has this number, each has few
few_from : (topic i : ℕ) (ps : List PeerConfig) → list_any is_bad_peer ps ≡ false → (peer : ℕ)
    → (names_at (of_matched_readers reader_name topic i ps) peer ≤ 16)
    × (peer < i → names_at (of_matched_readers reader_name topic i ps) peer ≡ 0)
few_from topic i [] good peer = (omega arith, λ lt. refl)
few_from topic i (p ∷ ps) good peer =
    let parts = or_parts (is_bad_peer p) (list_any is_bad_peer ps) good in
    by (i == peer) refl (few_in i p topic 1 p.readers peer) (good_has_few p parts.0)
    (few_from topic (i + 1) ps parts.1 peer)
  where
    here : List ReaderName
    here = of_ends_in any_reader (λ (r : ReaderConfig). r.topic) (reader_name i p) topic 1 p.readers

    later : List ReaderName
    later = of_matched_readers reader_name topic (i + 1) ps

    all : names_at (here ++ later) peer ≡ names_at here peer + names_at later peer
    all = sum_by-append (λ (n : ReaderName). one_if (is_at peer n)) here later

    by : (b : Bool) → (i == peer) ≡ b → names_at here peer ≤ cond b (length p.readers) 0 → length p.readers ≤ 16
        → (names_at later peer ≤ 16) × (peer < i + 1 → names_at later peer ≡ 0)
        → (names_at (here ++ later) peer ≤ 16) × (peer < i → names_at (here ++ later) peer ≡ 0)
    by true is few size rest =
        let same : i ≡ peer = eqb-true i peer is in
        let none = rest.1 (omega (arith, same)) in
        let sum = all in (omega (arith, few, size, none, sum), λ lt. absurd (omega (arith, lt, same)))
    by false is few size rest =
        let sum = all in
        let most = rest.0 in (
          omega (arith, few, most, sum),
          λ lt. let none = rest.1 (omega (arith, lt)) in omega (arith, few, none, sum),
        )

-- the readers of a topic, in a configuration that is not refused
pub few_opened : (topic first : ℕ) (peers : List PeerConfig) → check_refusal peers ≡ None
    → AreFew (readers_of (all_names topic first peers))
few_opened topic first peers fits =
    let good = configs_are_good (record { peers = peers }) fits in
    few_names (all_names topic first peers) (λ peer. (few_from topic first peers good.each peer).0)
