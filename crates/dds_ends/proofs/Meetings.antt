-- A writer that knows one reader more, what it then stands for, and why it refuses one that it may not know.
use Rattle.std.proofs.Common.{◌≡◌, ⊎_elim, inl, ℕ, ◌+◌, ◌<◌, ◌≤◌, ◌==◌, Bool, true, false, not, ◌&&◌, ◌||◌, List, [], ◌∷◌, ◌++◌, Option, Some, None, map, length, refl, ap, sym, ◌∙◌, subst, arith, eqb-true, length-append}
use Rattle.std.specs.Prelude.{if◌then◌else◌, is_some, nat_le}
use Rattle.std.specs.List.{count_by}
use Rattle.std.specs.Option.{option_or}
use Rattle.std.proofs.lemmas.Bool.{or_parts}
use Rattle.std.proofs.lemmas.Bool.Decides.{nat_tests}
use Rattle.std.proofs.lemmas.List.{length-map, map-append}
use Rattle.dds_base.specs.Bounds.{max_ends}
use Rattle.dds_base.specs.declared.code.Code.TheVariants.{OutOfResources}
use Rattle.dds_base.specs.declared.endpoint.Endpoint.{Endpoint}
use Rattle.rtps_writer.specs.Standing.{Kept}
use Rattle.dds_machine.specs.Matching.{joined, known_at, knowing, knows_reader, knows_reliable, knows_too_many, matching_refusal, max_known}
use Rattle.dds_machine.specs.Part.{TopicReader, Writer, same_endpoint}
use Rattle.dds_protocol.specs.Contact.{Contact}
use Rattle.dds_protocol.proofs.InOrder.{same_self}
use Rattle.dds_ends.specs.declared.matching.Destination.{Destination}
use Rattle.dds_ends.specs.declared.matching.ReaderName.{ReaderName}
use Rattle.dds_ends.specs.declared.matching.TopicName.{TopicName}
use Rattle.dds_ends.specs.Beating.{names_at}
use Rattle.dds_ends.specs.Coming.{Joins, RefusesSo, matched_anew}
use Rattle.dds_ends.specs.Kept.{WriterKept}
use Rattle.dds_ends.specs.MatchedEnds.{AreKnownReaders, is_named, known_as, names_of, topic_reader}
use Rattle.dds_ends.specs.Meeting.{MayKnow, MayMeet, Meets, is_full, learned, meeting_refusal, with_known}
use Rattle.dds_ends.specs.Standing.{IsWhole, WriterStands}
use Rattle.dds_ends.proofs.Among.{is_known_as}
use Rattle.dds_ends.proofs.FewAt.{count-last, count-map, few_at, few_names, is_at, one_if}
use Rattle.dds_ends.proofs.Joining.{any_more}
use Rattle.dds_ends.proofs.Refusing.{Is, knows_as, matched_as}

-- ---- which readers it knows then

-- who is named is known
named_as : (known : List TopicName) (reader : Endpoint)
    → is_named (names_of known) reader ≡ is_some (known_as known reader)
named_as [] reader = refl
named_as (k ∷ ks) reader = by (same_endpoint k.name.reader reader) (named_as ks reader)
  where
    by : (b : Bool) → is_named (names_of ks) reader ≡ is_some (known_as ks reader)
        → (b || is_named (names_of ks) reader) ≡ is_some (if b then Some k else known_as ks reader)
    by true h = refl
    by false h = h

-- those that it knows, where it knows the reader so, under whatever name
known_stay : (known : List TopicName) (name : ReaderName) (reliable : Bool) (k : TopicName)
    → known_as known name.reader ≡ Some k → with_known known name reliable ≡ known
known_stay known name reliable k is =
    ap (λ (b : Bool). if b then known else known ++ record { name = name; is_reliable = reliable } ∷ [])
    (named_as known name.reader ∙ ap is_some is)

-- and that one last, where it does not
known_more : (known : List TopicName) (k : TopicName) → known_as known k.name.reader ≡ None
    → with_known known k.name k.is_reliable ≡ known ++ k ∷ []
known_more known k none =
    ap (λ (b : Bool). if b then known else known ++ k ∷ []) (named_as known k.name.reader ∙ ap is_some none)

known_last : (known : List TopicName) (k : TopicName) → known_as known k.name.reader ≡ None
    → known_as (known ++ k ∷ []) k.name.reader ≡ Some k
known_last [] k none = ap (λ (b : Bool). if b then Some k else None) (same_self k.name.reader)
known_last (x ∷ xs) k none = by (same_endpoint x.name.reader k.name.reader) none (λ h. known_last xs k h)
  where
    by : (b : Bool) → (if b then Some x else known_as xs k.name.reader) ≡ None
        → (known_as xs k.name.reader ≡ None → known_as (xs ++ k ∷ []) k.name.reader ≡ Some k)
        → (if b then Some x else known_as (xs ++ k ∷ []) k.name.reader) ≡ Some k
    by true h later = absurd cc
    by false h later = later h

-- it knows the reader so
pub knows_learned : (known : List TopicName) (k : TopicName) → MayKnow known k
    → known_as (with_known known k.name k.is_reliable) k.name.reader ≡ Some k
knows_learned known k may =
    ⊎_elim
    (λ is. ap (λ (ks : List TopicName). known_as ks k.name.reader) (known_stay known k.name k.is_reliable k is) ∙ is)
    (λ room. ap (λ (ks : List TopicName). known_as ks k.name.reader) (known_more known k room.0)
    ∙ known_last known k room.0)
    may

-- whom it knows, or has room for, it may be matched with
pub may_join : (kept : WriterKept) (reader : Endpoint) (k : TopicName) → known_as kept.known reader ≡ Some k
    → is_named kept.matched reader ≡ false → MayMeet kept k
may_join kept reader k known unmatched =
    let found = is_known_as kept.known reader k known in
    record {
      unmatched = ap (λ (e : Endpoint). is_named kept.matched e) found.0 ∙ unmatched;
      known = inl (ap (λ (e : Endpoint). known_as kept.known e) found.0 ∙ known);
    }

-- ---- that it is whole

whole_new : (most : ℕ) (known : List TopicName) (k : TopicName) (matched : List ReaderName) (to : List Destination)
    (readers : List ReaderName) (writer : Kept) → is_full known k.name.reader.peer ≡ false
    → IsWhole most known matched to readers writer → IsWhole most (known ++ k ∷ []) matched to readers writer
whole_new most known k matched to readers writer room whole = record {
  limited = omega (arith, below, size);
  few_at = few_names (names_of (known ++ k ∷ [])) few;
  matched_are = record { once = whole.matched_are.once; there = λ e is. still e (whole.matched_are.there e is) };
  once = whole.once;
  among = whole.among;
  told = whole.told;
  few = whole.few;
  many = whole.many;
  count = whole.count;
  state = whole.state;
  stands = whole.stands;
  short = whole.short;
}
  where
    here : ℕ
    here = count_by (λ (x : TopicName). x.name.reader.peer == k.name.reader.peer) known

    rooms : (nat_le max_ends here ≡ false) × (nat_le max_known (length known) ≡ false)
    rooms = or_parts (nat_le max_ends here) (nat_le max_known (length known)) room

    below : length known < max_known
    below = let past = rooms.1 in grind (arith, nat_tests, past)

    size : length (known ++ k ∷ []) ≡ length known + 1
    size = length-append known (k ∷ [])

    named : names_of (known ++ k ∷ []) ≡ names_of known ++ k.name ∷ []
    named = map-append (λ (x : TopicName). x.name) known (k ∷ [])

    few : (peer : ℕ) → names_at (names_of (known ++ k ∷ [])) peer ≤ 16
    few peer = by (is_at peer k.name) refl
      where
        all : names_at (names_of (known ++ k ∷ [])) peer ≡ names_at (names_of known) peer + one_if (is_at peer k.name)
        all =
            ap (λ (ns : List ReaderName). names_at ns peer) named ∙ count-last (is_at peer) (names_of known) k.name

        by : (b : Bool) → is_at peer k.name ≡ b → names_at (names_of (known ++ k ∷ [])) peer ≤ 16
        by true is =
            let there : k.name.reader.peer ≡ peer = eqb-true k.name.reader.peer peer is in
            let same : names_at (names_of known) k.name.reader.peer ≡ names_at (names_of known) peer =
            ap (λ (p : ℕ). names_at (names_of known) p) there in
            let counted = count-map (is_at k.name.reader.peer) (λ (x : TopicName). x.name) known in
            let past : nat_le 16 here ≡ false = rooms.0 in
            let less : here < 16 = grind (arith, nat_tests, past) in
            let sum = all in
            let one = ap one_if is in omega (arith, same, counted, less, sum, one)
        by false is =
            let before = few_at (names_of known) peer whole.few_at in
            let sum = all in
            let none = ap one_if is in omega (arith, before, sum, none)

    still : (e : Endpoint) → is_named (names_of known) e ≡ true → is_named (names_of (known ++ k ∷ [])) e ≡ true
    still e is =
        ap (λ (ns : List ReaderName). is_named ns e) named
        ∙ (any_more (λ (n : ReaderName). same_endpoint n.reader e) (names_of known) k.name
        ∙ ap (λ (b : Bool). b || same_endpoint k.name.reader e) is)

pub whole_learned : (most : ℕ) (known : List TopicName) (k : TopicName) (matched : List ReaderName)
    (to : List Destination) (readers : List ReaderName) (writer : Kept) → MayKnow known k
    → IsWhole most known matched to readers writer
    → IsWhole most (with_known known k.name k.is_reliable) matched to readers writer
whole_learned most known k matched to readers writer may whole =
    ⊎_elim
    (λ is. subst (λ (ks : List TopicName). IsWhole most ks matched to readers writer)
    (sym (known_stay known k.name k.is_reliable k is)) whole)
    (λ room. subst (λ (ks : List TopicName). IsWhole most ks matched to readers writer)
    (sym (known_more known k room.0)) (whole_new most known k matched to readers writer room.1 whole))
    may

-- ---- what it stands for

learned_stands : (kept : WriterKept) (k : TopicName) (w : Writer) (answered : Endpoint → Contact)
    → WriterStands kept w answered
    → WriterStands (learned kept k) (knowing w k.name.reader k.is_reliable) answered
learned_stands kept k w answered s =
    by (knows_reader w k.name.reader) (is_named (names_of kept.known) k.name.reader)
    (knows_as kept k.name.reader (known_as kept.known k.name.reader) w answered s refl
    ∙ sym (named_as kept.known k.name.reader))
  where
    by : (b c : Bool) → b ≡ c
        → WriterStands (record kept { known = if c then kept.known else kept.known ++ k ∷ [] })
        (if b then w else record w { known = w.known ++ topic_reader k ∷ [] }) answered
    by true true same = s
    by false false same = record {
      autodispose = s.autodispose;
      values = s.values;
      known =
          ap (λ (ks : List TopicReader). ks ++ topic_reader k ∷ []) s.known
          ∙ sym (map-append topic_reader kept.known (k ∷ []));
      matched = s.matched;
      readers = s.readers;
      writer = s.writer;
      begun = s.begun;
      rows = s.rows;
      counted = s.counted;
      quiet = s.quiet;
      matches = s.matches;
    }
    by true false same = absurd cc
    by false true same = absurd cc

-- a writer that knows these readers
abbrev knowing_these : WriterKept → List TopicName → WriterKept
knowing_these k known = record k { known = known }

-- one that it knew joins
pub joins_known : (old : WriterKept) (reader : Endpoint) (k : TopicName) (greeted : Bool) (new : WriterKept)
    → known_as old.known reader ≡ Some k → Joins (learned old k) k.name.reader greeted new
    → Joins old reader greeted new
joins_known old reader k greeted new is joins =
    let found = is_known_as old.known reader k is in
    let known : known_as old.known k.name.reader ≡ Some k =
    ap (λ (e : Endpoint). known_as old.known e) found.0 ∙ is in
    let same : learned old k ≡ old =
    ap (knowing_these old) (known_stay old.known k.name k.is_reliable k known) in
    subst (λ (e : Endpoint). Joins old e greeted new) found.0
    (subst (λ (x : WriterKept). Joins x k.name.reader greeted new) same joins)

-- it meets one that it knew, under whatever name ..
pub meets_known : (old : WriterKept) (name : ReaderName) (reliable : Bool) (k : TopicName) (greeted : Bool)
    (new : WriterKept) → known_as old.known name.reader ≡ Some k → Joins (learned old k) k.name.reader greeted new
    → Meets old name reliable greeted new
meets_known old name reliable k greeted new is learns =
    let joins : Joins old name.reader greeted new = joins_known old name.reader k greeted new is learns in
    record {
      entity = joins.same.entity;
      autodispose = joins.same.autodispose;
      max_value = joins.same.max_value;
      known = joins.same.known ∙ sym (known_stay old.known name reliable k is);
      stands = λ w answered s.
          subst (λ (x : Writer). WriterStands new (joined x name.reader (knows_reliable x name.reader))
          (matched_anew answered name.reader (greeted && knows_reliable x name.reader)))
          (sym (knows_it w (knows_as old name.reader (Some k) w answered s is))) (joins.stands w answered s);
      ends = λ roster writer are ends.
          joins.ends roster writer
          (subst (λ (ks : List TopicName). AreKnownReaders roster writer ks) joins.same.known are) ends;
    }
  where
    knows_it : (w : Writer) → knows_reader w name.reader ≡ true → knowing w name.reader reliable ≡ w
    knows_it w so =
        ap (λ (b : Bool). if b then w
        else record w { known = w.known ++ record { reader = name.reader; reliable = reliable } ∷ [] }) so

-- .. and one that it did not
pub meets_new : (old : WriterKept) (k : TopicName) (greeted : Bool) (new : WriterKept)
    → Joins (learned old k) k.name.reader greeted new → Meets old k.name k.is_reliable greeted new
meets_new old k greeted new joins = record {
  entity = joins.same.entity;
  autodispose = joins.same.autodispose;
  max_value = joins.same.max_value;
  known = joins.same.known;
  stands = λ w answered s.
      joins.stands (knowing w k.name.reader k.is_reliable) answered (learned_stands old k w answered s);
  ends = λ roster writer are ends.
      joins.ends roster writer (subst (λ (ks : List TopicName). AreKnownReaders roster writer ks) joins.same.known are)
      ends;
}

-- ---- why it refuses one

-- it is full where the machine's writer is
full_as : (kept : WriterKept) (peer : ℕ) (w : Writer) (answered : Endpoint → Contact) → WriterStands kept w answered
    → (nat_le max_ends (known_at w peer) || nat_le max_known (length w.known)) ≡ is_full kept.known peer
full_as kept peer w answered s =
    ap (λ (ks : List TopicReader). nat_le max_ends (count_by (λ (k : TopicReader). k.reader.peer == peer) ks)
    || nat_le max_known (length ks)) s.known
    ∙ (ap (λ (n : ℕ). nat_le max_ends n || nat_le max_known (length (map topic_reader kept.known)))
    (count-map (λ (k : TopicReader). k.reader.peer == peer) topic_reader kept.known)
    ∙ ap (λ (n : ℕ). nat_le max_ends (count_by (λ (k : TopicName). k.name.reader.peer == peer) kept.known)
    || nat_le max_known n) (length-map kept.known topic_reader))

-- what was found of those that were looked through is so of those that the writer knows
pub full_now : {kept now : WriterKept} {known : List TopicName} (peer : ℕ) (found b : Bool) → kept ≡ now
    → known ≡ kept.known → found ≡ is_full known peer → found ≡ b → is_full now.known peer ≡ b
full_now peer found b view is looked so =
    ap (λ (k : WriterKept). is_full k.known peer) (sym view)
    ∙ (ap (λ (ks : List TopicName). is_full ks peer) (sym is) ∙ (sym looked ∙ so))

-- by who is known, and matched, and whether there is room
pub meeting_by : (kept now : WriterKept) (reader : Endpoint) (found : Option TopicName) (b full : Bool) → kept ≡ now
    → known_as kept.known reader ≡ found → is_named kept.matched reader ≡ b → is_full kept.known reader.peer ≡ full
    → RefusesSo meeting_refusal now reader
    (Is (option_or (matching_refusal true b) (if not (is_some found) && full then Some OutOfResources else None)))
meeting_by kept now reader found b full same known named is_it = λ w answered given.
    let s : WriterStands kept w answered =
    subst (λ (x : WriterKept). WriterStands x w answered) (sym same) given in
    let too_many : knows_too_many w reader ≡ (not (is_some found) && full) =
    ap (λ (x : Bool). not x && (nat_le max_ends (known_at w reader.peer) || nat_le max_known (length w.known)))
    (knows_as kept reader found w answered s known)
    ∙ ap (λ (x : Bool). not (is_some found) && x) (full_as kept reader.peer w answered s ∙ is_it) in
    ap (λ (x : Bool). option_or (matching_refusal true x)
    (if knows_too_many w reader then Some OutOfResources else None))
    (matched_as kept reader w answered s ∙ named)
    ∙ ap (λ (x : Bool). option_or (matching_refusal true b) (if x then Some OutOfResources else None)) too_many
