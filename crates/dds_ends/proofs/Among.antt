-- How many readers can be named, each once, where so many are known; and what is known of one.
use Rattle.std.proofs.Common.{◌≡◌, ℕ, zero, suc, ◌+◌, ◌<◌, ◌≤◌, ◌==◌, Bool, true, false, ◌||◌, List, [], ◌∷◌, Option, Some, map, drop, length, get_or, slice_get, refl, ap, sym, ◌∙◌, arith}
use Rattle.std.specs.Prelude.{if◌then◌else◌, is_some}
use Rattle.std.specs.Option.{option_map_or}
use Rattle.std.proofs.lemmas.List.{length-map}
use Rattle.std.proofs.lemmas.Option.{same_Some}
use Rattle.dds_base.specs.declared.endpoint.Endpoint.{Endpoint}
use Rattle.dds_machine.specs.Matching.{max_known}
use Rattle.dds_machine.specs.Part.{TopicReader, row_of, same_endpoint}
use Rattle.dds_machine.proofs.Tables.{same_is}
use Rattle.dds_protocol.specs.Dues.{AreFew}
use Rattle.dds_protocol.proofs.InOrder.{same_self}
use Rattle.rtps_writer.specs.Standing.{Kept}
use Rattle.dds_ends.specs.declared.matching.Destination.{Destination}
use Rattle.dds_ends.specs.declared.matching.ReaderName.{ReaderName}
use Rattle.dds_ends.specs.declared.matching.TopicName.{TopicName}
use Rattle.dds_ends.specs.Beating.{names_at}
use Rattle.dds_ends.specs.Standing.{IsWhole}
use Rattle.dds_ends.specs.MatchedEnds.{AreAmong, AreNamedOnce, is_named, known_as, names_of, readers_of, topic_reader}
use Rattle.dds_ends.proofs.FewAt.{count-cons, few_at, few_names, is_at, one_if}

-- ---- how many

-- names without the first one of a reader
cut : Endpoint → List ReaderName → List ReaderName
cut reader [] = []
cut reader (n ∷ ns) = if same_endpoint n.reader reader then ns else n ∷ cut reader ns

shorter : (reader : Endpoint) (ns : List ReaderName) → is_named ns reader ≡ true
    → length (cut reader ns) + 1 ≡ length ns
unfolding cut
shorter reader [] is = absurd cc
shorter reader (n ∷ ns) is = by (same_endpoint n.reader reader) is (shorter reader ns)
  where
    by : (b : Bool) → (b || is_named ns reader) ≡ true
        → (is_named ns reader ≡ true → length (cut reader ns) + 1 ≡ length ns)
        → length (if b then ns else n ∷ cut reader ns) + 1 ≡ length (n ∷ ns)
    by true h later = omega arith
    by false h later = let l = later h in omega (arith, l)

still_named : (reader e : Endpoint) (ns : List ReaderName) → same_endpoint reader e ≡ false → is_named ns e ≡ true
    → is_named (cut reader ns) e ≡ true
unfolding cut
still_named reader e [] apart is = absurd cc
still_named reader e (n ∷ ns) apart is =
    by (same_endpoint n.reader reader) (same_endpoint n.reader e) refl refl is (still_named reader e ns apart)
  where
    by : (a b : Bool) → same_endpoint n.reader reader ≡ a → same_endpoint n.reader e ≡ b
        → (b || is_named ns e) ≡ true → (is_named ns e ≡ true → is_named (cut reader ns) e ≡ true)
        → is_named (if a then ns else n ∷ cut reader ns) e ≡ true
    by true true p q h later =
        let same : same_endpoint reader e ≡ true =
        ap (λ (x : Endpoint). same_endpoint x e) (sym (same_is n.reader reader p)) ∙ q in absurd cc
    by true false p q h later = h
    by false true p q h later = ap (λ (b : Bool). b || is_named (cut reader ns) e) q
    by false false p q h later = ap (λ (b : Bool). b || is_named (cut reader ns) e) q ∙ later h

-- the first of these is named, and so are the others, each but once
named_first : (n : ReaderName) (ns : List ReaderName) → is_named (n ∷ ns) n.reader ≡ true
named_first n ns = ap (λ (b : Bool). b || is_named ns n.reader) (same_self n.reader)

named_later : (n : ReaderName) (ns : List ReaderName) (e : Endpoint) → is_named ns e ≡ true
    → is_named (n ∷ ns) e ≡ true
named_later n ns e is = late (same_endpoint n.reader e) is
  where
    late : (b : Bool) → is_named ns e ≡ true → (b || is_named ns e) ≡ true
    late true h = refl
    late false h = h

named_apart : (n : ReaderName) (ns : List ReaderName) → is_named ns n.reader ≡ false → (e : Endpoint)
    → is_named ns e ≡ true → same_endpoint n.reader e ≡ false
named_apart n ns none e is = by (same_endpoint n.reader e) refl
  where
    by : (b : Bool) → same_endpoint n.reader e ≡ b → same_endpoint n.reader e ≡ false
    by false h = h
    by true h =
        let again : is_named ns n.reader ≡ true =
        ap (λ (x : Endpoint). is_named ns x) (same_is n.reader e h) ∙ is in absurd cc

no_more : (ns ms : List ReaderName) → AreNamedOnce ns
    → ((e : Endpoint) → is_named ns e ≡ true → is_named ms e ≡ true) → length ns ≤ length ms
no_more [] ms once there = omega arith
no_more (n ∷ ns) ms once there =
    let here = there n.reader (named_first n ns) in
    let less = shorter n.reader ms here in
    let rest =
    no_more ns (cut n.reader ms) once.1
    (λ e is. still_named n.reader e ms (named_apart n ns once.0 e is) (there e (named_later n ns e is))) in
    omega (arith, less, rest)

-- the same of those at a peer
shorter_at : (reader : Endpoint) (peer : ℕ) (ns : List ReaderName) → is_named ns reader ≡ true
    → names_at (cut reader ns) peer + one_if (reader.peer == peer) ≡ names_at ns peer
unfolding cut
shorter_at reader peer [] is = absurd cc
shorter_at reader peer (n ∷ ns) is = by (same_endpoint n.reader reader) refl is (shorter_at reader peer ns)
  where
    by : (b : Bool) → same_endpoint n.reader reader ≡ b → (b || is_named ns reader) ≡ true
        → (is_named ns reader ≡ true → names_at (cut reader ns) peer + one_if (reader.peer == peer) ≡ names_at ns peer)
        → names_at (if b then ns else n ∷ cut reader ns) peer + one_if (reader.peer == peer) ≡ names_at (n ∷ ns) peer
    by true same h later =
        let all = count-cons (is_at peer) n ns in
        let here = ap (λ (e : Endpoint). one_if (e.peer == peer)) (same_is n.reader reader same) in
        omega (arith, all, here)
    by false same h later =
        let rest = later h in
        let all = count-cons (is_at peer) n ns in
        let left = count-cons (is_at peer) n (cut reader ns) in omega (arith, rest, all, left)

no_more_at : (peer : ℕ) (ns ms : List ReaderName) → AreNamedOnce ns
    → ((e : Endpoint) → is_named ns e ≡ true → is_named ms e ≡ true) → names_at ns peer ≤ names_at ms peer
no_more_at peer [] ms once there = omega arith
no_more_at peer (n ∷ ns) ms once there =
    let here = there n.reader (named_first n ns) in
    let less = shorter_at n.reader peer ms here in
    let all = count-cons (is_at peer) n ns in
    let rest =
    no_more_at peer ns (cut n.reader ms) once.1
    (λ e is. still_named n.reader e ms (named_apart n ns once.0 e is) (there e (named_later n ns e is))) in
    omega (arith, less, all, rest)

-- no more readers are named than are known
pub as_few : (known : List TopicName) (names : List ReaderName) → AreAmong known names → length names ≤ length known
as_few known names are =
    let fewer = no_more names (names_of known) are.once are.there in
    let size = length-map known (λ (k : TopicName). k.name) in
    omega (arith, fewer, size)

-- nor more at a peer
pub as_few_at : (known : List TopicName) (names : List ReaderName) → AreAmong known names
    → AreFew (readers_of (names_of known)) → AreFew (readers_of names)
as_few_at known names are few =
    few_names names (λ peer.
    let fewer = no_more_at peer names (names_of known) are.once are.there in
    let most = few_at (names_of known) peer few in omega (arith, fewer, most))

-- the reliable readers of a whole writer are among those that it knows
pub rows_are : {most : ℕ} {known : List TopicName} {matched : List ReaderName} {to : List Destination}
    {readers : List ReaderName} {writer : Kept} → IsWhole most known matched to readers writer
    → AreAmong known readers
rows_are whole = record { once = whole.once; there = λ e is. whole.matched_are.there e (whole.among e is) }

-- so many readers a whole writer is matched with
pub few_matched : {most : ℕ} {known : List TopicName} {matched : List ReaderName} {to : List Destination}
    {readers : List ReaderName} {writer : Kept} → IsWhole most known matched to readers writer
    → length matched ≤ max_known
few_matched {known = known} {matched = matched} whole =
    let few = as_few known matched whole.matched_are in
    let limit = whole.limited in
    omega (arith, few, limit)

-- ---- what is known of one

-- from a row on
pub known_from : (known : List TopicName) (row : ℕ) (reader : Endpoint) (d : TopicName) (b : Bool)
    → row < length known → same_endpoint (get_or known row d).name.reader reader ≡ b
    → known_as (drop row known) reader ≡ (if b then Some (get_or known row d) else known_as (drop (row + 1) known) reader)
known_from [] row reader d b lt is = absurd (omega (arith, lt))
known_from (k ∷ ks) zero reader d b lt is = ap (λ (x : Bool). if x then Some k else known_as ks reader) is
known_from (k ∷ ks) (suc row) reader d b lt is =
    let next : suc row + 1 ≡ suc (row + 1) = omega arith in
    known_from ks row reader d b (omega (arith, lt)) is
    ∙ ap (λ (n : ℕ). if b then Some (get_or ks row d) else known_as (drop n (k ∷ ks)) reader) (sym next)

-- one that is known is among the names, and is at some row
pub is_known_as : (known : List TopicName) (reader : Endpoint) (k : TopicName) → known_as known reader ≡ Some k
    → (k.name.reader ≡ reader) × (is_named (names_of known) reader ≡ true)
    × ((j : ℕ) × (slice_get known j ≡ Some k))
is_known_as [] reader k is = absurd cc
is_known_as (x ∷ xs) reader k is =
    by (same_endpoint x.name.reader reader) refl is (λ h. is_known_as xs reader k h)
  where
    by : (b : Bool) → same_endpoint x.name.reader reader ≡ b → (if b then Some x else known_as xs reader) ≡ Some k
        → (known_as xs reader ≡ Some k → (k.name.reader ≡ reader) × (is_named (names_of xs) reader ≡ true)
        × ((j : ℕ) × (slice_get xs j ≡ Some k)))
        → (k.name.reader ≡ reader) × (is_named (names_of (x ∷ xs)) reader ≡ true)
        × ((j : ℕ) × (slice_get (x ∷ xs) j ≡ Some k))
    by true same h later =
        let one = same_Some x k h in (
          ap (λ (y : TopicName). y.name.reader) (sym one) ∙ same_is x.name.reader reader same,
          ap (λ (b : Bool). b || is_named (names_of xs) reader) same,
          (zero, h),
        )
    by false other h later =
        let f = later h in (
          f.0,
          ap (λ (b : Bool). b || is_named (names_of xs) reader) other ∙ f.1,
          (suc f.2.0, f.2.1),
        )

-- what the machine has of it
pub row_known : (known : List TopicName) (reader : Endpoint) (found : Option TopicName)
    → known_as known reader ≡ found
    → (is_some (row_of (λ (k : TopicReader). k.reader) (map topic_reader known) reader) ≡ is_some found)
    × (option_map_or (λ (k : TopicReader). k.reliable)
    (row_of (λ (k : TopicReader). k.reader) (map topic_reader known) reader) false
    ≡ option_map_or (λ (k : TopicName). k.is_reliable) found false)
row_known [] reader found is =
    (ap is_some is, ap (λ (o : Option TopicName). option_map_or (λ (k : TopicName). k.is_reliable) o false) is)
row_known (x ∷ xs) reader found is =
    by (same_endpoint x.name.reader reader) is (λ h. row_known xs reader found h)
  where
    by : (b : Bool) → (if b then Some x else known_as xs reader) ≡ found
        → (known_as xs reader ≡ found → (is_some (row_of (λ (k : TopicReader). k.reader) (map topic_reader xs) reader)
        ≡ is_some found)
        × (option_map_or (λ (k : TopicReader). k.reliable)
        (row_of (λ (k : TopicReader). k.reader) (map topic_reader xs) reader) false
        ≡ option_map_or (λ (k : TopicName). k.is_reliable) found false))
        → (is_some (if b then Some (topic_reader x)
        else row_of (λ (k : TopicReader). k.reader) (map topic_reader xs) reader) ≡ is_some found)
        × (option_map_or (λ (k : TopicReader). k.reliable) (if b then Some (topic_reader x)
        else row_of (λ (k : TopicReader). k.reader) (map topic_reader xs) reader) false
        ≡ option_map_or (λ (k : TopicName). k.is_reliable) found false)
    by true h later =
        (ap is_some h, ap (λ (o : Option TopicName). option_map_or (λ (k : TopicName). k.is_reliable) o false) h)
    by false h later = later h
