-- What a writer answers to an ACKNACK is true: a DATA tells a change of its list, and a GAP names what the reader that
-- asked may pass over.
use Rattle.std.proofs.Common.{◌≡◌, ◌⊎◌, ℕ, zero, suc, ◌+◌, ◌^◌, ◌<◌, ◌≤◌, max, Bool, true, false, List, [], ◌∷◌, ◌++◌, Option, Some, None, length, get_or, map, nat_lt, refl, subst, ap, sym, ◌∙◌, inl, inr, ⊎_elim, arith}
use Rattle.std.specs.Prelude.{if◌then◌else◌, nat_le, ◌&&◌}
use Rattle.std.specs.List.{All, flat_map}
use Rattle.std.proofs.lemmas.Bool.{and_parts, cases_lt, leb-true}
use Rattle.std.proofs.lemmas.Bool.Decides.{nat_tests}
use Rattle.std.proofs.lemmas.List.Elements.{All-cons, All-head, All-map, All-nil, All-tail, All-weaker, filter_passes}
use Rattle.dds_base.specs.declared.change.Change.{Change}
use Rattle.dds_protocol.specs.Roster.{IsRoster, Roster}
use Rattle.dds_base.specs.declared.guid.EntityId.{EntityId}
use Rattle.dds_base.specs.declared.guid.GuidPrefix.{GuidPrefix}
use Rattle.dds_base.specs.Kept.{WriterHistory, change_at, is_kept, numbers_from}
use Rattle.rtps_sets.specs.NumberSet.{NumberSet, has_number, empty_from}
use Rattle.rtps_sets.proofs.MemberLaws.{empty_has_none}
use Rattle.rtps_wire.specs.declared.acknack.AckNack.{AckNack as AckNackBody}
use Rattle.rtps_wire.specs.declared.submessage.Submessage.{Submessage}
use Rattle.rtps_wire.specs.declared.submessage.Submessage.TheVariants.{InfoTs, Data, Gap}
use Rattle.rtps_wire.specs.Content.{content_of, change_in}
use Rattle.rtps_wire.proofs.ContentLaws.{change_in-content_of}
use Rattle.rtps_writer.specs.declared.answer.Answer.{Answer}
use Rattle.rtps_writer.specs.declared.answer.Answer.TheVariants.{Data as AnswersData, Gap as AnswersGap}
use Rattle.rtps_writer.specs.Answers.{GapsAre, IsRight, answer_before, answers_to, is_requested, requested}
use Rattle.rtps_writer.proofs.AnswerFacts.{answers-right}
use Rattle.dds_base.specs.declared.endpoint.Endpoint.{Endpoint}
use Rattle.dds_machine.specs.declared.reply.Move.{Move}
use Rattle.dds_machine.specs.Numbered.{HasNumber}
use Rattle.dds_machine.specs.Part.{IsBelow, Part, Writer, no_writer, own_writer, acknowledged_of, owed_from, writer_changes, history_of, at_writer}
use Rattle.dds_protocol.specs.Claims.{Receiver, is_for, stamp_of, after_submessage, StandsAt, IsReader, IsWriter, IsToReader, IsToWriter, Claim, ChangeIs, MayPass, PlaceReached, Asserts, Says}
use Rattle.dds_protocol.specs.Peer.{IsTrueAt}
use Rattle.dds_protocol.specs.DueMessages.{Due, answer_message, data_of, submessages_of}
use Rattle.dds_protocol.specs.Protocol.{State, TakesAckNack, WriterTakes, AreGrouped, answered_from, has_for}
use Rattle.dds_protocol.specs.Dues.{IsTellable, AreTellable, IsTruthful, AreTruthful}
use Rattle.dds_protocol.proofs.Dues.{addressed, told_to, ts_says}
use Rattle.dds_protocol.proofs.DuesAcknacks.{none_due}
use Rattle.dds_protocol.proofs.DuesUnkept.{Passes, unkept_dropped}
use Rattle.dds_protocol.proofs.OneName.{one_named, one_writer}
use Rattle.dds_protocol.proofs.RuledReaders.{Coming}
use Rattle.dds_machine.proofs.Tables.{numbered-same, acknowledged-hits}

-- a writer that answers, which the configuration has, and whose changes can be told
pub record Answering : Type 0 where
  pub roster : Roster
  pub checked : IsRoster roster
  pub peer : ℕ
  pub number : ℕ
  pub part : Part
  pub own : GuidPrefix
  pub entity : EntityId
  pub name : IsWriter roster own entity (record { peer = peer; number = number })
  pub writer : Writer
  pub is : own_writer part number ≡ writer
  pub tellable : (n : ℕ) (c : Change) → change_at (writer_changes writer) n ≡ Some c → IsTellable c
  -- the reader that asked, with its prefix and its entity id
  pub reader : Endpoint
  pub to : GuidPrefix
  pub reader_entity : EntityId
  pub asks : IsReader roster to reader_entity reader

-- the message is from the writer's peer, and this part of it for the reader's
abbrev IsBetweenPeers : Answering → Receiver → Type 0
IsBetweenPeers x r = (r.source_guid_prefix ≡ x.own) × (r.dest_guid_prefix ≡ x.to)

-- the reader that a GAP names is the one that asked
asked_by : (x : Answering) (far : GuidPrefix) (at : Receiver) → at.dest_guid_prefix ≡ x.to → (w r : Endpoint)
    → IsToReader x.roster far at x.reader_entity x.entity w r → r ≡ x.reader
asked_by x far at dest w r h =
    one_named x.roster x.to x.reader_entity x.entity far at w r x.reader x.checked dest x.asks h

-- the name in a submessage is that of the writer
named : (x : Answering) (prefix : GuidPrefix) → prefix ≡ x.own → (w : Endpoint) → IsWriter x.roster prefix x.entity w
    → w ≡ record { peer = x.peer; number = x.number }
named x prefix source w h =
    one_writer x.roster x.own x.entity w (record { peer = x.peer; number = x.number }) x.checked
    (subst (λ (p : GuidPrefix). IsWriter x.roster p x.entity w) source h) x.name

-- the writer of that name, as the part has it
written_there : (x : Answering) (w : Endpoint) → w ≡ record { peer = x.peer; number = x.number }
    → own_writer x.part w.number ≡ x.writer
written_there x w same = ap (λ (e : Endpoint). own_writer x.part e.number) same ∙ x.is

-- the DATA with a change, and the GAP from one number to another
abbrev data_with : Answering → EntityId → ℕ → Change → Submessage
data_with x reader n c =
    Data (record { reader_id = reader; writer_id = x.entity; writer_sn = n; content = content_of c })

abbrev gap_with : Answering → EntityId → ℕ → ℕ → Submessage
gap_with x reader first last =
    Gap (record { reader_id = reader; writer_id = x.entity; gap_start = first; gap_list = empty_from (last + 1) })

-- a DATA tells the change
data_says : (x : Answering) (reader : EntityId) (far : GuidPrefix) (at : Receiver) (n : ℕ) (c : Change)
    → at.source_guid_prefix ≡ x.own → (is_for at far ≡ true → at.timestamp ≡ c.source_timestamp)
    → change_at (writer_changes x.writer) n ≡ Some c → (claim : Claim)
    → Says x.roster far at (data_with x reader n c) claim → IsTrueAt x.peer x.part claim
data_says x reader far at n c source time there (MayPass w r k) h = absurd h
data_says x reader far at n c source time there (PlaceReached w r b) h = absurd h
data_says x reader far at n c source time there (Asserts w r k) h = absurd h
data_says x reader far at n c source time there (ChangeIs w r k d) h =
    let same = named x at.source_guid_prefix source w h.0.from in
    let change : d ≡ c =
    h.2
    ∙ (ap (λ (t : ℕ). change_in (content_of c) t) (time h.0.is_for)
    ∙ change_in-content_of c (x.tellable n c there).empty) in (
      ap (λ (e : Endpoint). e.peer) same,
      ap (λ (y : Writer). change_at (writer_changes y) k) (written_there x w same)
          ∙ (ap (λ (m : ℕ). change_at (writer_changes x.writer) m) h.1
          ∙ (there ∙ ap (λ (y : Change). Some y) (sym change))),
    )

-- a GAP from one number to another names no others
gap_says : (x : Answering) (far : GuidPrefix) (at : Receiver) (first last : ℕ) → IsBetweenPeers x at
    → ((n : ℕ) → first ≤ n → n ≤ last → Passes x.writer x.reader n) → (claim : Claim)
    → Says x.roster far at (gap_with x x.reader_entity first last) claim → IsTrueAt x.peer x.part claim
gap_says x far at first last between passes (ChangeIs w r n c) h = absurd h
gap_says x far at first last between passes (PlaceReached w r b) h = absurd h
gap_says x far at first last between passes (Asserts w r k) h = absurd h
gap_says x far at first last between passes (MayPass w r n) h =
    let same = named x at.source_guid_prefix between.0 w h.0.is_to.from in
    let asked = asked_by x far at between.1 w r h.0.is_to in
    let within : Passes x.writer x.reader n =
    ⊎_elim
    (λ (i : (first ≤ n) × (n < last + 1)). let high = i.1 in passes n i.0 (omega (arith, high)))
    (λ member. let none = empty_has_none (last + 1) n in absurd cc) h.2 in (
      ap (λ (e : Endpoint). e.peer) same,
      subst (λ (y : Writer). Passes y r n) (sym (written_there x w same))
          (subst (λ (e : Endpoint). Passes x.writer e n) (sym asked) within),
    )

-- ---- the submessages for the answers

-- an INFO_TS leaves the source of the message, and gives its moment to all for whom what follows is
sourced : (b : Bool) (r : Receiver) (stamp : ℕ)
    → (if b then record r { timestamp = stamp } else r).source_guid_prefix ≡ r.source_guid_prefix
sourced true r stamp = refl
sourced false r stamp = refl

-- and whom it is for
destined : (b : Bool) (r : Receiver) (stamp : ℕ)
    → (if b then record r { timestamp = stamp } else r).dest_guid_prefix ≡ r.dest_guid_prefix
destined true r stamp = refl
destined false r stamp = refl

stamped : (b : Bool) (far : GuidPrefix) (r : Receiver) (stamp : ℕ) → is_for r far ≡ b
    → is_for (if b then record r { timestamp = stamp } else r) far ≡ true
    → (if b then record r { timestamp = stamp } else r).timestamp ≡ stamp
stamped true far r stamp is for = refl
stamped false far r stamp is for = absurd cc

early_is : (moment : ℕ) → moment < 2 ^ 63 → stamp_of (Some moment) ≡ moment
early_is moment early =
    let is : nat_lt moment (2 ^ 63) ≡ true = grind (arith, nat_tests) in ap (λ (b : Bool). if b then moment else 0) is

abbrev ArePassed : Answering → Answer → Type 0
ArePassed x a = GapsAre (λ n. Passes x.writer x.reader n) a

abbrev told_of : Answering → EntityId → List Answer → List Submessage
told_of x reader answers = flat_map (submessages_of (writer_changes x.writer) reader x.entity) answers

-- whatever one of these submessages says at this receiver is true
abbrev SayTrue : Answering → GuidPrefix → Receiver → List Submessage → Type 0
SayTrue x far r ss =
    (index : ℕ) (at : Receiver) (s : Submessage) → StandsAt far r ss index at s → (claim : Claim)
    → Says x.roster far at s claim → IsTrueAt x.peer x.part claim

-- the submessages for a change, and what follows
data_first : (x : Answering) (reader : EntityId) (far : GuidPrefix) (r : Receiver) (n : ℕ) (o : Option Change)
    (rest : List Submessage) → IsBetweenPeers x r → change_at (writer_changes x.writer) n ≡ o
    → ((after : Receiver) → IsBetweenPeers x after → SayTrue x far after rest)
    → SayTrue x far r (data_of reader x.entity n o ++ rest)
data_first x reader far r n None rest between there later index at s stands claim h =
    later r between index at s stands claim h
data_first x reader far r n (Some c) rest between there later zero at s stands claim h =
    absurd (ts_says x.roster far at (Some c.source_timestamp) claim
    (subst (λ (y : Submessage). Says x.roster far at y claim) stands.1 h))
data_first x reader far r n (Some c) rest between there later (suc zero) at s stands claim h =
    let after : Receiver = after_submessage far r (InfoTs (Some c.source_timestamp)) in
    let from : after.source_guid_prefix ≡ x.own =
    sourced (is_for r far) r (stamp_of (Some c.source_timestamp)) ∙ between.0 in
    let time : is_for at far ≡ true → at.timestamp ≡ c.source_timestamp = λ for.
    ap (λ (y : Receiver). y.timestamp) stands.0
    ∙ (stamped (is_for r far) far r (stamp_of (Some c.source_timestamp)) refl
    (ap (λ (y : Receiver). is_for y far) (sym stands.0) ∙ for)
    ∙ early_is c.source_timestamp (x.tellable n c there).early) in
    data_says x reader far at n c (ap (λ (y : Receiver). y.source_guid_prefix) stands.0 ∙ from) time there claim
    (subst (λ (y : Submessage). Says x.roster far at y claim) stands.1 h)
data_first x reader far r n (Some c) rest between there later (suc (suc index)) at s stands claim h =
    later (after_submessage far r (InfoTs (Some c.source_timestamp))) (
      sourced (is_for r far) r (stamp_of (Some c.source_timestamp)) ∙ between.0,
      destined (is_for r far) r (stamp_of (Some c.source_timestamp)) ∙ between.1,
    ) index at s stands claim h

gap_first : (x : Answering) (far : GuidPrefix) (r : Receiver) (first last : ℕ) (rest : List Submessage)
    → IsBetweenPeers x r → ((n : ℕ) → first ≤ n → n ≤ last → Passes x.writer x.reader n) → SayTrue x far r rest
    → SayTrue x far r (gap_with x x.reader_entity first last ∷ rest)
gap_first x far r first last rest between passes later zero at s stands claim h =
    gap_says x far at first last (
      ap (λ (y : Receiver). y.source_guid_prefix) stands.0 ∙ between.0,
      ap (λ (y : Receiver). y.dest_guid_prefix) stands.0 ∙ between.1,
    ) passes claim (subst (λ (y : Submessage). Says x.roster far at y claim) stands.1 h)
gap_first x far r first last rest between passes later (suc index) at s stands claim h =
    later index at s stands claim h

answers_say : (x : Answering) (far : GuidPrefix) (answers : List Answer)
    → All (ArePassed x) answers → (r : Receiver) → IsBetweenPeers x r
    → SayTrue x far r (told_of x x.reader_entity answers)
answers_say x far [] passed r between index at s stands claim h = absurd stands
answers_say x far (AnswersData n ∷ rest) passed r between index at s stands claim h =
    data_first x x.reader_entity far r n (change_at (writer_changes x.writer) n) (told_of x x.reader_entity rest)
    between refl
    (λ after next. answers_say x far rest (All-tail (ArePassed x) (AnswersData n) rest passed) after next)
    index at s stands claim h
answers_say x far (AnswersGap first last ∷ rest) passed r between index at s stands claim h =
    gap_first x far r first last (told_of x x.reader_entity rest) between
    (All-head (ArePassed x) (AnswersGap first last) rest passed)
    (answers_say x far rest (All-tail (ArePassed x) (AnswersGap first last) rest passed) r between)
    index at s stands claim h

-- the message with them, to the peer of this number
abbrev answers_due : Answering → ℕ → List Answer → Due
answers_due x peer answers =
    record { to = peer; message = answer_message x.own x.to x.reader_entity x.entity (writer_changes x.writer) answers }

-- That message is true.
answers_truthful : (x : Answering) (peer : ℕ) (answers : List Answer)
    → All (ArePassed x) answers → IsTruthful x.roster x.peer x.part (answers_due x peer answers)
answers_truthful x peer answers passed claim writable says =
    let t = told_to x.roster x.own x.to (told_of x x.reader_entity answers) claim writable says in
    answers_say x t.far answers passed (addressed x.own x.to) (refl, refl) t.index t.at t.submessage t.stands claim t.says

-- ---- the answers to an ACKNACK

all_front : {X : Type 0} (P : X → Type 0) (xs ys : List X) → All P (xs ++ ys) → All P xs
all_front P [] ys h = All-nil P
all_front P (x ∷ xs) ys h = All-cons P x xs (All-head P x (xs ++ ys) h) (all_front P xs ys (All-tail P x (xs ++ ys) h))

all_back : {X : Type 0} (P : X → Type 0) (xs ys : List X) → All P (xs ++ ys) → All P ys
all_back P [] ys h = h
all_back P (x ∷ xs) ys h = all_back P xs ys (All-tail P x (xs ++ ys) h)

-- what is so of all answers is so of those in each group
pub all_grouped : (P : Answer → Type 0) (per : ℕ) (answers : List Answer) (groups : List (List Answer))
    → AreGrouped per answers groups
    → All P answers → All (All P) groups
all_grouped P per answers [] g h = All-nil (All P)
all_grouped P per answers (group ∷ groups) g h =
    let all : All P (group ++ g.0) = subst (λ (all : List Answer). All P all) g.1 h in
    All-cons (All P) group groups (all_front P group g.0 all) (all_grouped P per g.0 groups g.5 (all_back P group g.0 all))

-- what a reader asks a writer for: a number from the base of its set on, and from what it has acknowledged to the last
abbrev pub IsAskedOf : Writer → NumberSet → ℕ → ℕ → Type 0
IsAskedOf w set from n = (set.base ≤ n) × (from ≤ n) × (n ≤ length (writer_changes w))

asked_of : (w : Writer) (set : NumberSet) (from n : ℕ) → is_requested set from (length (writer_changes w)) n ≡ true
    → IsAskedOf w set from n
asked_of w set from n h =
    let parts = and_parts (has_number set n) (nat_le from n && nat_le n (length (writer_changes w))) h in
    let range = and_parts (nat_le from n) (nat_le n (length (writer_changes w))) parts.1 in (
      leb-true set.base n (and_parts (nat_le set.base n) _ parts.0).0,
      leb-true from n range.0,
      leb-true n (length (writer_changes w)) range.1,
    )

-- the answers of a writer to what is requested of it, for this reader
abbrev pub answers_of : Writer → Endpoint → NumberSet → ℕ → List Answer
answers_of w r set from = answers_to (has_for w r) (requested set from (length (writer_changes w)))

-- they are right
pub answers_of-right : (w : Writer) (r : Endpoint) (set : NumberSet) (from : ℕ)
    → All (IsRight (λ n. has_for w r n) (IsAskedOf w set from)) (answers_of w r set from)
answers_of-right w r set from =
    let ns : List ℕ = requested set from (length (writer_changes w)) in
    answers-right (λ n. has_for w r n) (IsAskedOf w set from) ns
    (All-weaker (λ n. is_requested set from (length (writer_changes w)) n ≡ true) (IsAskedOf w set from)
    (λ n h. asked_of w set from n h) ns
    (filter_passes (is_requested set from (length (writer_changes w))) (numbers_from set.base 256)))

-- where all is owed, the answers are those to what is kept, from what is acknowledged on

none_kept : (h : WriterHistory) → is_kept h 0 ≡ false
none_kept h = refl

and_true : (b : Bool) → (b && true) ≡ b
and_true true = refl
and_true false = refl

all_has : (w : Writer) (r : Endpoint) (n : ℕ) → owed_from w r ≤ 1 → is_kept (history_of w) n ≡ has_for w r n
all_has w r zero all =
    none_kept (history_of w)
    ∙ sym (ap (λ (b : Bool). b && nat_le (owed_from w r) zero) (none_kept (history_of w)))
all_has w r (suc n) all =
    let low : nat_le (owed_from w r) (suc n) ≡ true = grind (arith, nat_tests) in
    sym (ap (λ (b : Bool). is_kept (history_of w) (suc n) && b) low ∙ and_true (is_kept (history_of w) (suc n)))

alike : (p q : ℕ → Bool) → ((n : ℕ) → p n ≡ q n) → (ns : List ℕ) → answers_to p ns ≡ answers_to q ns
alike p q same [] = refl
alike p q same (n ∷ ns) =
    ap (λ (b : Bool). answer_before b n (answers_to p ns)) (same n)
    ∙ ap (λ (rest : List Answer). answer_before (q n) n rest) (alike p q same ns)

pub answers_owed_all : (w : Writer) (r : Endpoint) (set : NumberSet) (acked base : ℕ) → owed_from w r ≤ 1
    → answers_to (is_kept (history_of w)) (requested set (max acked base) (length (writer_changes w)))
    ≡ answers_to (has_for w r) (requested set (answered_from (owed_from w r) acked base) (length (writer_changes w)))
answers_owed_all w r set acked base all =
    let none : nat_lt 1 (owed_from w r) ≡ false = grind (arith, nat_tests) in
    let from : max acked base ≡ answered_from (owed_from w r) acked base =
    sym (ap (λ (b : Bool). if b && nat_lt base (owed_from w r) then base else max acked base) none) in
    let last : ℕ = length (writer_changes w) in
    ap (λ (k : ℕ). answers_to (is_kept (history_of w)) (requested set k last)) from
    ∙ alike (is_kept (history_of w)) (has_for w r) (λ n. all_has w r n all)
    (requested set (answered_from (owed_from w r) acked base) last)

-- what a writer has not for a reader is not kept, or not owed
not_for : (kept : Bool) (owed n : ℕ) → (kept && nat_le owed n) ≡ false → (kept ≡ false) ⊎ (n < owed)
not_for true owed n h = inr (grind (arith, nat_tests, h))
not_for false owed n h = inl refl

-- the reader may pass over what is asked of the writer, which has it not for that one
gap_passes : (w : Writer) (r : Endpoint) (set : NumberSet) (from acked : ℕ) → acknowledged_of w.readers r ≡ Some acked
    → 1 ≤ set.base → (a : Answer) → IsRight (λ n. has_for w r n) (IsAskedOf w set from) a
    → GapsAre (λ n. Passes w r n) a
gap_passes w r set from acked is low (AnswersData n) right = tt
gap_passes w r set from acked is low (AnswersGap first last) right = λ n least most.
    let one = right.1 n least most in
    let base = one.1.0 in
    ⊎_elim
    (λ unkept.
    ⊎_elim (λ less. inr (inr (subst (λ (o : Option ℕ). IsBelow n o) (sym is) less)))
    (λ more. inl (unkept_dropped w r acked n is more (omega (arith, low, base)) one.1.2 unkept)) (cases_lt n acked))
    (λ below. inr (inl below)) (not_for (is_kept (history_of w) n) (owed_from w r) n one.0)

gaps_pass : (w : Writer) (r : Endpoint) (set : NumberSet) (from acked : ℕ) → acknowledged_of w.readers r ≡ Some acked
    → 1 ≤ set.base → All (GapsAre (λ n. Passes w r n)) (answers_of w r set from)
gaps_pass w r set from acked is low =
    All-weaker (IsRight (λ n. has_for w r n) (IsAskedOf w set from))
    (GapsAre (λ n. Passes w r n)) (λ a right. gap_passes w r set from acked is low a right)
    (answers_of w r set from) (answers_of-right w r set from)

-- a writer with a matched reader is there
has_writer : (part : Part) (w a : ℕ) (r : Endpoint) → acknowledged_of (own_writer part w).readers r ≡ Some a
    → HasNumber part.rtps.writers w
has_writer part zero a r h = cc
has_writer part (suc i) a r h = (omega arith, within part.rtps.writers i h)
  where
    within : (ws : List Writer) (i : ℕ) → acknowledged_of (get_or ws i no_writer).readers r ≡ Some a → suc i ≤ length ws
    within [] i h = cc
    within (x ∷ xs) zero h = omega arith
    within (x ∷ xs) (suc i) h = let k = within xs i h in omega (arith, k)

-- what a writer answers to an ACKNACK is true
acknack_answered : (c : Coming) (a : AckNackBody) (w : ℕ) (r : Endpoint)
    (is : IsToWriter c.roster c.own c.at a.reader_id a.writer_id (record { peer = c.peer; number = w }) r)
    → 1 ≤ a.reader_sn_state.base
    → (old : State) (made : List Move) (dues : List Due) (new : State) → AreTellable old.part
    → TakesAckNack c.own c.at old w r is.entity a made dues new → AreTruthful c.roster c.peer new.part dues
acknack_answered c a w r is low old made dues new tellable k =
    let before : Writer = own_writer old.part w in
    let acked : ℕ = max k.acknowledged a.reader_sn_state.base in
    let part : Part = at_writer old.part w k.there in
    let here : own_writer part w ≡ k.there =
    numbered-same old.part.rtps.writers w k.there no_writer (has_writer old.part w k.acknowledged r k.matched) in
    let x : Answering = record {
      roster = c.roster;
      checked = c.checked;
      peer = c.peer;
      number = w;
      part = part;
      own = c.own;
      entity = a.writer_id;
      name = is.to;
      writer = k.there;
      is = here;
      tellable = λ n change at. tellable w n change
          (ap (λ (y : Writer). change_at (writer_changes y) n) (sym k.there_is) ∙ at);
      reader = r;
      to = c.at.source_guid_prefix;
      reader_entity = is.entity;
      asks = is.from;
    } in
    let row : acknowledged_of k.there.readers r ≡ Some acked =
    ap (λ (y : Writer). acknowledged_of y.readers r) k.there_is
    ∙ acknowledged-hits before.readers r k.acknowledged acked k.matched in
    let passed =
    all_grouped (ArePassed x) _ _ k.groups k.grouped
    (gaps_pass k.there r a.reader_sn_state
    (answered_from (owed_from k.there r) k.acknowledged a.reader_sn_state.base) acked row low) in
    let message : List Answer → Due =
    λ group. record {
      to = r.peer;
      message = answer_message c.own c.at.source_guid_prefix is.entity a.writer_id
          (writer_changes k.there) group;
    } in
    let sent : AreTruthful c.roster c.peer part (map message k.groups) =
    All-map (IsTruthful c.roster c.peer part) message k.groups
    (All-weaker (All (ArePassed x)) (λ (group : List Answer). IsTruthful c.roster c.peer part (message group))
    (λ group all. answers_truthful x r.peer group all) k.groups passed) in
    subst (λ (ds : List Due). AreTruthful c.roster c.peer new.part ds) (sym k.dues_are)
    (subst (λ (s : State). AreTruthful c.roster c.peer s.part (map message k.groups)) (sym k.after) sent)

-- what is due once a writer took an ACKNACK up is true
pub writer_truthful : (c : Coming) (a : AckNackBody) → 1 ≤ a.reader_sn_state.base
    → (w : ℕ) (r : Endpoint) (old : State) (made : List Move) (dues : List Due) (new : State) → AreTellable old.part
    → WriterTakes c.roster c.own c.peer c.at a w r old made dues new → AreTruthful c.roster c.peer new.part dues
writer_truthful c a low w r old made dues new tellable (inl h) =
    acknack_answered c a w r h.0 low old made dues new tellable h.2
writer_truthful c a low w r old made dues new tellable (inr h) = none_due c new.part dues h.1.1
