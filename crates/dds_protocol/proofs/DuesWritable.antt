-- The messages that are due can be written: their numbers are small, and they are short.
use Rattle.std.proofs.Common.{◌≡◌, ℕ, zero, suc, ◌+◌, ◌-◌, ◌*◌, ◌^◌, ◌<◌, ◌≤◌, Bool, true, false, cond, List, [], ◌∷◌, ◌++◌, Option, Some, None, length, length-append, map, max, nat_lt, refl, subst, sym, arith}
use Rattle.std.specs.Prelude.{FitsSigned, filter, find, if◌then◌else◌, nat_le, pos, slice_get, ◌==◌}
use Rattle.std.proofs.Math.Nat.{suc-mul}
use Rattle.std.specs.Int.{w32}
use Rattle.std.specs.List.{All, AllByRecursion, count_by, flat_map}
use Rattle.std.specs.Option.{option_map_or, unwrap_or}
use Rattle.std.proofs.lemmas.Bool.Decides.{nat_tests}
use Rattle.std.proofs.lemmas.Int.{fits_signed_from_abs}
use Rattle.std.proofs.lemmas.List.{length-map}
use Rattle.std.proofs.lemmas.List.Elements.{All-head, All-tail}
use Rattle.std.proofs.lemmas.List.Sums.{length-filter}
use Rattle.dds_base.specs.declared.change.Change.{Change}
use Rattle.dds_protocol.specs.Roster.{Roster}
use Rattle.dds_base.specs.declared.endpoint.Endpoint.{Endpoint}
use Rattle.dds_base.specs.declared.guid.EntityId.{EntityId}
use Rattle.dds_base.specs.declared.guid.GuidPrefix.{GuidPrefix}
use Rattle.dds_base.specs.Bounds.{max_ends}
use Rattle.dds_base.specs.Kept.{WriterHistory, change_at, is_kept, first_kept, numbers_from}
use Rattle.rtps_reader.specs.declared.step.AckNackDue.{AckNackDue}
use Rattle.rtps_reader.specs.Answer.{AnswersHeartbeat}
use Rattle.rtps_reader.specs.Tracked.{Tracked}
use Rattle.rtps_wire.specs.declared.data.Data.{Data as DataBody}
use Rattle.rtps_wire.specs.declared.heartbeat.Heartbeat.{Heartbeat as HeartbeatBody}
use Rattle.rtps_wire.specs.declared.message.Message.{Message}
use Rattle.rtps_wire.specs.declared.submessage.Submessage.{Submessage}
use Rattle.rtps_wire.specs.declared.submessage.Submessage.TheVariants.{InfoDst, Heartbeat}
use Rattle.rtps_wire.specs.Content.{content_of}
use Rattle.rtps_wire.specs.Data.{IsContent, IsData}
use Rattle.rtps_wire.specs.Fields.{IsEntityId}
use Rattle.rtps_wire.specs.Heartbeat.{IsHeartbeat}
use Rattle.rtps_wire.specs.Messages.{IsWritable}
use Rattle.rtps_wire.specs.Sets.{IsSet}
use Rattle.rtps_wire.specs.Submessages.{IsSpellable, all_value_octets}
use Rattle.rtps_wire.proofs.ContentLaws.{content_octets}
use Rattle.rtps_wire.proofs.LengthLaws.{short_writable}
use Rattle.rtps_writer.specs.declared.answer.Answer.{Answer}
use Rattle.rtps_writer.specs.declared.answer.Answer.TheVariants.{Data as AnswersData, Gap as AnswersGap}
use Rattle.dds_machine.specs.Part.{ReaderProxy, Writer, row_of, writer_changes, heartbeats_used, history_of}
use Rattle.dds_protocol.specs.Contact.{Contact}
use Rattle.dds_protocol.specs.DueMessages.{acknack_message, answer_message, data_of, submessages_of, reader_entity, writer_entity, owed_to, begins_at, ends_at, is_one_for_all, heartbeat_from, heartbeats_due_to}
use Rattle.dds_protocol.specs.Claims.{every_reader}
use Rattle.dds_protocol.specs.Protocol.{answers_per}
use Rattle.dds_protocol.proofs.BeatsTo.{beat_body}
use Rattle.dds_protocol.proofs.Growth.{change_at-within}

-- a count from 1 to 2^31 - 1
count_fits : (n : ℕ) → n < 2 ^ 31 - 1 → FitsSigned w32 (pos (n + 1))
count_fits n less = fits_signed_from_abs w32 (pos (n + 1)) (omega (arith, less))

-- whom a message is from, and whom it is for
pub record Ends (own to : GuidPrefix) (reader writer : EntityId) : Type 0 where
  pub own_octets : length own.0 ≡ 12
  pub to_octets : length to.0 ≡ 12
  pub reader_octets : IsEntityId reader
  pub writer_octets : IsEntityId writer

-- ---- an ACKNACK

-- One that tells what is known can be written, where its set has all its places.
pub acknack_writable : (own to : GuidPrefix) (reader writer : EntityId) → Ends own to reader writer
    → (t : Tracked) (last : ℕ) (is_final : Bool) (due : AckNackDue) → AnswersHeartbeat t last is_final (Some due)
    → 1 ≤ t.place
    → length due.missing.members ≡ 256 → IsWritable (acknack_message own to reader writer due)
acknack_writable own to reader writer ends t last is_final due a low places =
    let base = a.3.set_base in
    let most = a.0 in
    let count : FitsSigned w32 due.count = subst (λ z. FitsSigned w32 z) (sym a.3.count) (count_fits t.acknacks a.1) in
    let set : IsSet due.missing =
    record { first = omega (arith, base, low); small = omega (arith, base, most); places = places } in
    short_writable (acknack_message own to reader writer due) ends.own_octets
    (ends.to_octets, ((record { reader = ends.reader_octets; writer = ends.writer_octets; count = count }, set), tt))
    (omega arith)

-- ---- a HEARTBEAT

found_here : (p : ℕ → Bool) (from count : ℕ) (b : Bool) (rest : Option ℕ)
    → (from + 1 ≤ unwrap_or rest ((from + 1) + count)) × (unwrap_or rest ((from + 1) + count) ≤ (from + 1) + count)
    → (from ≤ unwrap_or (cond b (Some from) rest) ((from + 1) + count))
    × (unwrap_or (cond b (Some from) rest) ((from + 1) + count) ≤ (from + 1) + count)
found_here p from count true rest h = (omega arith, omega arith)
found_here p from count false rest h = let low = h.0 in (omega (arith, low), h.1)

-- the first number that passes is one of them, or the one past the last
found_within : (p : ℕ → Bool) (from count : ℕ)
    → (from ≤ unwrap_or (find p (numbers_from from count)) (from + count))
    × (unwrap_or (find p (numbers_from from count)) (from + count) ≤ from + count)
found_within p from zero = (omega arith, omega arith)
found_within p from (suc count) =
    let over : (from + 1) + count ≡ from + suc count = omega arith in
    subst (λ (n : ℕ). (from ≤ unwrap_or (find p (numbers_from from (suc count))) n) × (unwrap_or
    (find p (numbers_from from (suc count))) n ≤ n)) over
    (found_here p from count (p from) (find p (numbers_from (from + 1) count)) (found_within p (from + 1) count))

first_within : (w : WriterHistory) → (1 ≤ first_kept w) × (first_kept w ≤ length w.changes + 1)
first_within w =
    let count : 1 + length w.changes ≡ length w.changes + 1 = omega arith in
    let test : ℕ → Bool = λ n. is_kept w n in
    subst (λ (n : ℕ). (1 ≤ unwrap_or (find test (numbers_from 1 (length w.changes))) n) × (unwrap_or
    (find test (numbers_from 1 (length w.changes))) n ≤ n)) count (found_within test 1 (length w.changes))

-- these numbers go up to no more than the writer's last, and may be none
pub record IsRun (w : Writer) (first last : ℕ) : Type 0 where
  pub low : 1 ≤ first
  pub order : first ≤ last + 1
  pub high : last ≤ length (writer_changes w)

-- One of a writer with fewer than 2^62 changes can be written, while there are counts left.
pub beat_spellable : (final liveliness : Bool) (reader writer : EntityId) (first last : ℕ) (w : Writer)
    → IsEntityId reader → IsEntityId writer → IsRun w first last → length (writer_changes w) < 2 ^ 62
    → heartbeats_used w < 2 ^ 31 - 1 → IsSpellable (heartbeat_from final liveliness reader writer first last w)
beat_spellable final liveliness reader writer first last w of_reader of_writer run few left =
    let low = run.low in
    let order = run.order in
    let high = run.high in
    record {
      reader = of_reader;
      writer = of_writer;
      first = low;
      not_past = order;
      first_small = omega (arith, order, high, few);
      last_small = omega (arith, high, few);
      count = count_fits (heartbeats_used w) left;
    }

-- where it begins: no later than at the number of the next change
begins_within : (w : Writer) (r : Endpoint) → (1 ≤ begins_at w r) × (begins_at w r ≤ length (writer_changes w) + 1)
begins_within w r = by (row_of (λ (p : ReaderProxy). p.reader) w.readers r)
  where
    first : (1 ≤ first_kept (history_of w)) × (first_kept (history_of w) ≤ length (writer_changes w) + 1)
    first = first_within (history_of w)

    by : (o : Option ReaderProxy) → (1 ≤ max (first_kept (history_of w)) (option_map_or (owed_to w) o 0))
        × (max (first_kept (history_of w)) (option_map_or (owed_to w) o 0) ≤ length (writer_changes w) + 1)
    by None = let low = first.0 in let high = first.1 in (omega (arith, low), omega (arith, high))
    by (Some p) = let low = first.0 in let high = first.1 in (omega (arith, low), omega (arith, high))

-- the numbers to all readers, and to one
all_run : (w : Writer) → IsRun w (first_kept (history_of w)) (length (writer_changes w))
all_run w =
    let first = first_within (history_of w) in record { low = first.0; order = first.1; high = omega arith }

named_run : (contacts : Endpoint → Contact) (w : Writer) (r : Endpoint)
    → IsRun w (begins_at w r) (ends_at contacts w r)
named_run contacts w r = by (contacts r).silent
  where
    by : (b : Bool) → IsRun w (begins_at w r) (if b then begins_at w r - 1 else length (writer_changes w))
    by true =
        let begins = begins_within w r in
        let low = begins.0 in
        let high = begins.1 in
        record { low = low; order = omega (arith, low); high = omega (arith, high) }
    by false = let begins = begins_within w r in record { low = begins.0; order = begins.1; high = omega arith }

-- these are HEARTBEATs that can be written
record AreWritten (ss : List Submessage) : Type 0 where
  each : AllByRecursion IsSpellable ss
  light : all_value_octets ss ≡ 0

-- those by name
named_written : {X : Type 0} (beat : X → HeartbeatBody) → ((x : X) → IsHeartbeat (beat x)) → (xs : List X)
    → AreWritten (map (λ x. Heartbeat (beat x)) xs)
named_written beat each [] = record { each = tt; light = refl }
named_written beat each (x ∷ xs) =
    let rest = named_written beat each xs in
    let light = rest.light in record { each = (each x, rest.each); light = omega (arith, light) }

-- The message with those to a peer can be written, where that one has few of the readers.
pub heartbeats_writable : (roster : Roster) (final liveliness : Bool) (peer number to : ℕ)
    (contacts : Endpoint → Contact) (w : Writer) (readers : List Endpoint) → length (roster.prefix peer).0 ≡ 12
    → length (roster.prefix to).0 ≡ 12
    → IsEntityId (writer_entity roster peer number)
    → ((r : Endpoint) → IsEntityId (reader_entity roster r.peer r.number))
    → count_by (λ (r : Endpoint). r.peer == to) readers ≤ max_ends → length (writer_changes w) < 2 ^ 62
    → heartbeats_used w < 2 ^ 31 - 1
    → IsWritable (heartbeats_due_to roster final liveliness peer number contacts w readers to).message
heartbeats_writable roster final liveliness peer number to contacts w readers own_octets to_octets of_writer of_reader
    few small left = by (is_one_for_all contacts w to)
  where
    entity : EntityId
    entity = writer_entity roster peer number

    here : List Endpoint
    here = filter (λ (r : Endpoint). r.peer == to) readers

    beats : Bool → List Submessage
    beats b =
        if b
        then heartbeat_from final liveliness every_reader entity (first_kept (history_of w)) (length (writer_changes w))
        w ∷ []
        else map (λ (r : Endpoint). heartbeat_from final liveliness (reader_entity roster r.peer r.number) entity
        (begins_at w r) (ends_at contacts w r) w) here

    message : Bool → Message
    message b = record { prefix = roster.prefix peer; submessages = InfoDst (roster.prefix to) ∷ beats b }

    by : (b : Bool) → IsWritable (message b)
    by true =
        short_writable (message true) own_octets (
          to_octets,
          (
            beat_spellable final liveliness every_reader entity (first_kept (history_of w)) (length (writer_changes w))
                w refl of_writer (all_run w) small left,
            tt,
          ),
        ) (omega arith)
    by false =
        let written : AreWritten (beats false) =
        named_written (λ (r : Endpoint). beat_body final liveliness (reader_entity roster r.peer r.number) entity
        (begins_at w r) (ends_at contacts w r) w)
        (λ r. beat_spellable final liveliness (reader_entity roster r.peer r.number) entity (begins_at w r)
        (ends_at contacts w r) w (of_reader r) of_writer (named_run contacts w r) small left) here in
        let light = written.light in
        let same = length-map here (λ (r : Endpoint). heartbeat_from final liveliness
        (reader_entity roster r.peer r.number) entity (begins_at w r) (ends_at contacts w r) w) in
        let count = length-filter (λ (r : Endpoint). r.peer == to) readers in
        short_writable (message false) own_octets (to_octets, written.each) (omega (arith, light, same, count, few))

-- ---- answers

-- a change that a DATA can be written for
pub record IsDatable (c : Change) : Type 0 where
  pub content : IsContent (content_of c)
  pub moment : c.source_timestamp < 2 ^ 64

-- a GAP's numbers lie from 1 on, below 2^62
abbrev pub HasSmallGap : Answer → Type 0
HasSmallGap (AnswersData n) = Unit {0}
HasSmallGap (AnswersGap first last) = (1 ≤ first) × (first ≤ last) × (last < 2 ^ 62)

-- these submessages can be written, are no more than so many, and their values have no more than so many octets
record AreShort (ss : List Submessage) (most octets : ℕ) : Type 0 where
  each : AllByRecursion IsSpellable ss
  few : length ss ≤ most
  light : all_value_octets ss ≤ octets

both_spellable : (xs ys : List Submessage) → AllByRecursion IsSpellable xs → AllByRecursion IsSpellable ys
    → AllByRecursion IsSpellable (xs ++ ys)
both_spellable [] ys h k = k
both_spellable (x ∷ xs) ys h k = (h.0, both_spellable xs ys h.1 k)

both_octets : (xs ys : List Submessage) → all_value_octets (xs ++ ys) ≡ all_value_octets xs + all_value_octets ys
both_octets [] ys = omega arith
both_octets (x ∷ xs) ys = let rest = both_octets xs ys in omega (arith, rest)

both_short : (xs ys : List Submessage) (m n k l : ℕ) → AreShort xs m k → AreShort ys n l
    → AreShort (xs ++ ys) (m + n) (k + l)
both_short xs ys m n k l f g =
    let all = length-append xs ys in
    let first = f.few in
    let second = g.few in
    let octets = both_octets xs ys in
    let light = f.light in
    let more = g.light in
    record {
      each = both_spellable xs ys f.each g.each;
      few = omega (arith, all, first, second);
      light = omega (arith, octets, light, more);
    }

-- a number of a change is from 1 on
positive_number : (changes : List Change) (n : ℕ) (c : Change) → change_at changes n ≡ Some c → 1 ≤ n
positive_number changes n c h = by (nat_lt 0 n) refl h
  where
    by : (b : Bool) → nat_lt 0 n ≡ b → (if b then slice_get changes (n - 1) else None) ≡ Some c → 1 ≤ n
    by true e k = grind (arith, nat_tests)
    by false e k = absurd cc

-- the value of no change has more than so many octets
abbrev HaveValues : List Change → ℕ → Type 0
HaveValues changes most = (n : ℕ) (c : Change) → change_at changes n ≡ Some c → length c.value ≤ most

data_short : (reader writer : EntityId) (changes : List Change) (n : ℕ) (o : Option Change) → IsEntityId reader
    → IsEntityId writer → length changes < 2 ^ 62 → ((c : Change) → change_at changes n ≡ Some c → IsDatable c)
    → (most : ℕ) → HaveValues changes most
    → change_at changes n ≡ o → AreShort (data_of reader writer n o) 2 most
data_short reader writer changes n None of_reader of_writer few datable most values at =
    record { each = tt; few = omega arith; light = omega arith }
data_short reader writer changes n (Some c) of_reader of_writer few datable most values at =
    let d = datable c at in
    let within = change_at-within changes n c at in
    let value = values n c at in
    let octets = content_octets c in
    let body : DataBody = record { reader_id = reader; writer_id = writer; writer_sn = n; content = content_of c } in
    let valid : IsData body = record {
      reader = of_reader;
      writer = of_writer;
      first = positive_number changes n c at;
      small = omega (arith, within, few);
    } in
    record {
      each = (d.moment, ((valid, d.content), tt));
      few = omega arith;
      light = omega (arith, octets, value);
    }

gap_short : (reader writer : EntityId) (first last : ℕ) → IsEntityId reader → IsEntityId writer
    → (1 ≤ first) × (first ≤ last) × (last < 2 ^ 62) → (most : ℕ)
    → AreShort (submessages_of [] reader writer (AnswersGap first last)) 2 most
gap_short reader writer first last of_reader of_writer h most =
    let low = h.0 in
    let order = h.1 in
    let high = h.2 in
    record {
      each = (
        (
          record { reader = of_reader; writer = of_writer; first = low; small = omega (arith, order, high) },
          record { first = omega arith; small = omega (arith, high); places = refl },
        ),
        tt,
      );
      few = omega arith;
      light = omega arith;
    }

-- what stands in a message for an answer
answer_short : (reader writer : EntityId) (changes : List Change) → IsEntityId reader → IsEntityId writer
    → length changes < 2 ^ 62 → ((n : ℕ) (c : Change) → change_at changes n ≡ Some c → IsDatable c)
    → (most : ℕ) → HaveValues changes most → (a : Answer) → HasSmallGap a
    → AreShort (submessages_of changes reader writer a) 2 most
answer_short reader writer changes of_reader of_writer few datable most values (AnswersData n) small =
    data_short reader writer changes n (change_at changes n) of_reader of_writer few (λ c at. datable n c at) most values
    refl
answer_short reader writer changes of_reader of_writer few datable most values (AnswersGap first last) small =
    gap_short reader writer first last of_reader of_writer small most

answers_short : (reader writer : EntityId) (changes : List Change) → IsEntityId reader → IsEntityId writer
    → length changes < 2 ^ 62 → ((n : ℕ) (c : Change) → change_at changes n ≡ Some c → IsDatable c)
    → (most : ℕ) → HaveValues changes most → (answers : List Answer) → All HasSmallGap answers
    → AreShort (flat_map (submessages_of changes reader writer) answers) (length answers * 2) (length answers * most)
answers_short reader writer changes of_reader of_writer few datable most values [] small =
    record { each = tt; few = omega arith; light = omega arith }
answers_short reader writer changes of_reader of_writer few datable most values (a ∷ rest) small =
    let count : 2 + length rest * 2 ≡ suc (length rest) * 2 = omega arith in
    let next = suc-mul (length rest) most in
    let octets : most + length rest * most ≡ suc (length rest) * most = omega (arith, next) in
    subst (λ (m : ℕ). AreShort (submessages_of changes reader writer a ++ flat_map
    (submessages_of changes reader writer) rest) m (suc (length rest) * most)) count
    (subst (λ (k : ℕ). AreShort (submessages_of changes reader writer a ++ flat_map
    (submessages_of changes reader writer) rest) (2 + length rest * 2) k) octets
    (both_short (submessages_of changes reader writer a)
    (flat_map (submessages_of changes reader writer) rest) 2 (length rest * 2) most (length rest * most)
    (answer_short reader writer changes of_reader of_writer few datable most values a
    (All-head HasSmallGap a rest small))
    (answers_short reader writer changes of_reader of_writer few datable most values rest
    (All-tail HasSmallGap a rest small))))

-- As many answers as stand in a message can be written, where the changes can.
pub answers_writable : (own to : GuidPrefix) (reader writer : EntityId) → Ends own to reader writer
    → (changes : List Change) → length changes < 2 ^ 62
    → ((n : ℕ) (c : Change) → change_at changes n ≡ Some c → IsDatable c)
    → (most : ℕ) → most ≤ 65000 → ((n : ℕ) (c : Change) → change_at changes n ≡ Some c → length c.value ≤ most)
    → (answers : List Answer) → All HasSmallGap answers → length answers ≤ answers_per most
    → IsWritable (answer_message own to reader writer changes answers)
answers_writable own to reader writer ends changes few datable most limited values answers small =
    by (nat_le most 1024) refl
  where
    each : (bound : ℕ) → HaveValues changes bound
        → AreShort (flat_map (submessages_of changes reader writer) answers) (length answers * 2)
        (length answers * bound)
    each bound within =
        answers_short reader writer changes ends.reader_octets ends.writer_octets few datable bound within answers small

    by : (b : Bool) → nat_le most 1024 ≡ b → length answers ≤ (if b then 8 else 1)
        → IsWritable (answer_message own to reader writer changes answers)
    by true usual eight =
        let low : most ≤ 1024 = grind (arith, nat_tests) in
        let short = each 1024 (λ n c at. let value = values n c at in omega (arith, value, low)) in
        let count = short.few in
        let light = short.light in
        short_writable (answer_message own to reader writer changes answers) ends.own_octets (ends.to_octets, short.each)
        (omega (arith, count, light, eight))
    by false long one =
        let short = each 65000 (λ n c at. let value = values n c at in omega (arith, value, limited)) in
        let count = short.few in
        let light = short.light in
        short_writable (answer_message own to reader writer changes answers) ends.own_octets (ends.to_octets, short.each)
        (omega (arith, count, light, one))
