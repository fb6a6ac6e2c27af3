-- The answers of a writer, and the messages with them.
use Rattle.std.proofs.Common.{◌≡◌, ℕ, zero, suc, ◌+◌, ◌-◌, ◌*◌, ◌^◌, ◌<◌, ◌≤◌, Bool, true, false, List, [], ◌∷◌, ◌++◌, Option, Some, None, map, take, length, get_or, slice_get, refl, ap, sym, ◌∙◌, subst, arith, ⊎_elim, length-append, append_assoc, append-nil, nat_lt, ◌==◌, ◌&&◌, not, min}
use Rattle.std.specs.Prelude.{ℤ, if◌then◌else◌, is_some, nat_le, slice_index_or}
use Rattle.std.specs.List.{All, AllByRecursion, flat_map}
use Rattle.std.proofs.Math.Nat.{mul-le-mul_left, suc-mul}
use Rattle.std.proofs.lemmas.Bool.Decides.{nat_tests}
use Rattle.std.proofs.lemmas.Grind.{flat_map-append}
use Rattle.std.proofs.lemmas.List.{take_more}
use Rattle.std.proofs.lemmas.List.Concat.{flat_map-cons}
use Rattle.std.proofs.lemmas.List.Elements.{All-nil, All-tail, All-weaker}
use Rattle.std.proofs.lemmas.Option.{same_Some, slice_get-get_or}
use Rattle.dds_base.specs.declared.change.Change.{Change}
use Rattle.dds_base.specs.declared.guid.EntityId.{EntityId}
use Rattle.dds_base.specs.declared.guid.GuidPrefix.{GuidPrefix}
use Rattle.dds_base.specs.Kept.{WriterHistory, change_at, is_awaited, is_dropped, is_kept, kept_change, numbers_from}
use Rattle.dds_base.specs.Written.{changes_of}
use Rattle.rtps_sets.specs.NumberSet.{NumberSet, has_number}
use Rattle.rtps_wire.specs.declared.acknack.AckNack.{AckNack as AckNackBody}
use Rattle.rtps_wire.specs.declared.submessage.Submessage.{Submessage}
use Rattle.rtps_wire.specs.declared.submessage.Submessage.TheVariants.{InfoDst}
use Rattle.rtps_wire.specs.Data.{IsStrength}
use Rattle.rtps_wire.specs.Messages.{IsWritable}
use Rattle.rtps_wire.specs.Submessages.{IsSpellable, all_value_octets}
use Rattle.rtps_wire.proofs.ContentLaws.{content_octets, content_valid}
use Rattle.rtps_wire.proofs.LengthLaws.{short_writable}
use Rattle.rtps_writer.specs.declared.answer.Answer.{Answer}
use Rattle.rtps_writer.specs.declared.answer.Answer.TheVariants.{Data as AnswersData, Gap as AnswersGap}
use Rattle.rtps_writer.specs.Acknack.{acknack_answers, after_acknack, answers_after, applied, asked_from, has_for, is_applied, newly_acknowledged}
use Rattle.rtps_writer.specs.Answers.{IsBetween, IsRight, answer_before, answers_to, is_requested, requested}
use Rattle.rtps_writer.specs.Standing.{Kept, StandsFor as RtpsStandsFor}
use Rattle.rtps_writer.specs.WriterState.{WriterState, history_of, last_of, owed_from}
use Rattle.rtps_writer.proofs.AnswerFacts.{answers_after-right}
use Rattle.dds_protocol.specs.Claims.{Receiver}
use Rattle.dds_protocol.specs.DueMessages.{Due, data_of, submessages_of}
use Rattle.dds_protocol.specs.Protocol.{AreGrouped, answers_per, asks_for_heartbeat}
use Rattle.dds_protocol.proofs.PairFew.{count_numbers, filter_few}
use Rattle.dds_ends.specs.declared.answering.Answering.{Answering}
use Rattle.dds_ends.specs.declared.answering.Room.{Room}
use Rattle.dds_ends.specs.declared.matching.ReaderName.{ReaderName}
use Rattle.dds_ends.specs.declared.sending.Announced.{Announced}
use Rattle.dds_ends.specs.Answering.{AreAnswerable, IsAnswerableIn, IsRoom, SendsAnswers, SpellsMore, TakesAckNack, answer_due, heard_if}
use Rattle.dds_ends.specs.Beating.{AddsTo}
use Rattle.dds_ends.specs.Kept.{WriterKept}
use Rattle.dds_ends.specs.Standing.{AreShort, IsShort}
use Rattle.dds_ends.proofs.Beating.{adds_none, adds_on}
use Rattle.dds_ends.proofs.Alike.{last-cases}

-- ---- the room for answers

-- one more of the readers was looked at
pub rooms_more : (own : GuidPrefix) (entity : EntityId) (at : Receiver) (a : AckNackBody) (names : List ReaderName)
    (rooms rooms' : List (Option Room)) (i : ℕ) (d : ReaderName) (one : Option Room) → i < length names
    → length rooms ≡ i → rooms' ≡ rooms ++ one ∷ []
    → ((j : ℕ) (name : ReaderName) (room : Option Room) → slice_get names j ≡ Some name → slice_get rooms j ≡ Some room
    → IsRoom own entity at a name room) → IsRoom own entity at a (get_or names i d) one
    → (j : ℕ) (name : ReaderName) (room : Option Room) → slice_get names j ≡ Some name → slice_get rooms' j ≡ Some room
    → IsRoom own entity at a name room
rooms_more own entity at a names rooms rooms' i d one lt count is each new j name room at_name at_room =
    ⊎_elim
    (λ t.
    let there : slice_get names j ≡ Some (get_or names i d) =
    ap (λ (n : ℕ). slice_get names n) (t.0 ∙ count) ∙ slice_get-get_or names i d lt in
    subst (λ (x : Option Room). IsRoom own entity at a name x) t.1
    (subst (λ (x : ReaderName). IsRoom own entity at a x one)
    (same_Some (get_or names i d) name (sym there ∙ at_name)) new))
    (λ t. each j name room at_name t.1)
    (last-cases rooms one j room (subst (λ (rs : List (Option Room)). slice_get rs j ≡ Some room) is at_room))

-- ---- what can be written

pub more_spells : (old more : List Submessage) → AllByRecursion IsSpellable more → AllByRecursion IsSpellable old
    → AllByRecursion IsSpellable (old ++ more)
more_spells [] more h k = h
more_spells (x ∷ xs) more h k = (k.0, more_spells xs more h k.1)

pub both_octets : (old more : List Submessage) → all_value_octets (old ++ more)
    ≡ all_value_octets old + all_value_octets more
both_octets [] more = omega arith
both_octets (x ∷ xs) more = let rest = both_octets xs more in omega (arith, rest)

spells_more : (most : ℕ) (old more new : List Submessage) → new ≡ old ++ more → length more ≤ 2
    → all_value_octets more ≤ most → all_value_octets more ≤ 65000 → AllByRecursion IsSpellable more
    → SpellsMore most old new
spells_more most old more new is few light short h =
    let count = length-append old more in
    let size = ap (λ (ss : List Submessage). length ss) is in
    let octets = both_octets old more in
    let sum = ap (λ (ss : List Submessage). all_value_octets ss) is in
    record {
      each = λ k. subst (λ (ss : List Submessage). AllByRecursion IsSpellable ss) (sym is) (more_spells old more h k);
      few = omega (arith, count, size, few);
      light = omega (arith, octets, sum, light);
      short = omega (arith, octets, sum, short);
    }

pub data_spells : (most : ℕ) (reader writer : EntityId) (number : ℕ) (change : Change) (old new : List Submessage)
    → length reader.0 ≡ 4 → length writer.0 ≡ 4 → length change.key.0 ≡ 16 → IsShort most change.value
    → IsStrength change.strength → 1 ≤ number → number ≤ 2 ^ 62
    → change.source_timestamp < 2 ^ 64 → new ≡ old ++ data_of reader writer number (Some change)
    → SpellsMore most old new
data_spells most reader writer number change old new of_reader of_writer of_key short fits first small moment is =
    let octets = content_octets change in
    let light = short.0 in
    let limited = short.1 in
    spells_more most old (data_of reader writer number (Some change)) new is (omega arith) (omega (arith, octets, light))
    (omega (arith, octets, limited)) (
      moment,
      (
        (
          record { reader = of_reader; writer = of_writer; first = first; small = small },
          content_valid
              change.kind change.key change.value change.strength of_key limited fits,
        ),
        tt,
      ),
    )

pub gap_spells : (most : ℕ) (reader writer : EntityId) (first last : ℕ) (old new : List Submessage) → length reader.0 ≡ 4
    → length writer.0 ≡ 4 → 1 ≤ first → first ≤ last → last < 2 ^ 62
    → new ≡ old ++ submessages_of [] reader writer (AnswersGap first last) → SpellsMore most old new
gap_spells most reader writer first last old new of_reader of_writer from order small is =
    spells_more most old (submessages_of [] reader writer (AnswersGap first last)) new is (omega arith) (omega arith)
    (omega arith) (
      (
        record { reader = of_reader; writer = of_writer; first = from; small = omega (arith, order, small) },
        record { first = omega arith; small = omega (arith, small); places = refl },
      ),
      tt,
    )

-- what stands for each of some, one after the other, stands for one more
pub stands_more : {X Y : Type 0} (f : X → List Y) (head : Y) (old new : List Y) (xs : List X) (i : ℕ) (x : X)
    → i < length xs → x ≡ get_or xs i x
    → old ≡ head ∷ flat_map f (take i xs) → new ≡ old ++ f x → new ≡ head ∷ flat_map f (take (i + 1) xs)
stands_more f head old new xs i x lt is before after =
    let one : flat_map f (get_or xs i x ∷ []) ≡ f x =
    flat_map-cons f (get_or xs i x) [] ∙ (append-nil (f (get_or xs i x)) ∙ ap f (sym is)) in
    let all : flat_map f (take (i + 1) xs) ≡ flat_map f (take i xs) ++ f x =
    ap (flat_map f) (take_more xs i x lt)
    ∙ (flat_map-append f (take i xs) (get_or xs i x ∷ []) ∙ ap (λ ys. flat_map f (take i xs) ++ ys) one) in
    after ∙ (ap (λ ys. ys ++ f x) before ∙ ap (λ ys. head ∷ ys) (sym all))

-- a kept change is one of the changes
pub kept_there : (h : WriterHistory) (number : ℕ) (change : Change) → kept_change h number ≡ Some change
    → change_at h.changes number ≡ Some change
kept_there h number change is = at_change (is_kept h number) is
  where
    at_change : (b : Bool) → (if b then change_at h.changes number else None) ≡ Some change
        → change_at h.changes number ≡ Some change
    at_change true e = e
    at_change false e = absurd cc

-- so is its number
pub kept_within : (h : WriterHistory) (number : ℕ) (change : Change) → kept_change h number ≡ Some change
    → (1 ≤ number) × (number ≤ length h.changes)
kept_within h number change is = inside (nat_lt 0 number) refl (kept_there h number change is)
  where
    short_of : (xs : List Change) (i : ℕ) → slice_get xs i ≡ Some change → i < length xs
    short_of [] i e = absurd cc
    short_of (x ∷ xs) zero e = omega arith
    short_of (x ∷ xs) (suc i) e = let lt = short_of xs i e in omega (arith, lt)

    inside : (b : Bool) → nat_lt 0 number ≡ b → (if b then slice_get h.changes (number - 1) else None) ≡ Some change
        → (1 ≤ number) × (number ≤ length h.changes)
    inside true e k =
        let low : 1 ≤ number = grind (arith, nat_tests) in let lt = short_of h.changes (number - 1) k in
        (low, omega (arith, low, lt))
    inside false e k = absurd cc

-- ---- a message with answers

flat_one : (f : Answer → List Submessage) (xs : List Answer) (x : Answer)
    → flat_map f (xs ++ x ∷ []) ≡ flat_map f xs ++ f x
flat_one f [] x = append-nil (f x)
flat_one f (y ∷ ys) x =
    ap (λ (ss : List Submessage). f y ++ ss) (flat_one f ys x) ∙ sym (append_assoc (f y) (flat_map f ys) (f x))

-- one answer more
pub says_more : (f : Answer → List Submessage) (to : GuidPrefix) (answers : List Answer) (i : ℕ) (d : Answer)
    (old new : List Submessage) → i < length answers → old ≡ InfoDst to ∷ flat_map f (take i answers)
    → new ≡ old ++ f (get_or answers i d)
    → new ≡ InfoDst to ∷ flat_map f (take (i + 1) answers)
says_more f to answers i d old new lt before is =
    is ∙ (ap (λ (ss : List Submessage). ss ++ f (get_or answers i d)) before
    ∙ ap (λ (ss : List Submessage). InfoDst to ∷ ss)
    (sym (flat_one f (take i answers) (get_or answers i d))
    ∙ ap (λ (xs : List Answer). flat_map f xs) (sym (take_more answers i d lt))))

-- the octets of the values after one answer more
pub light_more : (i most old new : ℕ) → old ≤ i * most → new ≤ old + most → new ≤ (i + 1) * most
light_more i most old new before more =
    let next = suc-mul i most in
    let one : suc i ≡ i + 1 = omega arith in
    subst (λ (n : ℕ). new ≤ n * most) one (omega (arith, next, before, more))

pub answers_writable : (own : GuidPrefix) (submessages : List Submessage) (count most : ℕ) → length own.0 ≡ 12
    → AllByRecursion IsSpellable submessages → count ≤ answers_per most → length submessages ≤ 1 + 2 * count
    → all_value_octets submessages ≤ count * most → all_value_octets submessages ≤ count * 65000
    → IsWritable (record { prefix = own; submessages = submessages })
answers_writable own submessages count most of_own each within few light short = by (nat_le most 1024) refl within
  where
    by : (b : Bool) → nat_le most 1024 ≡ b → count ≤ (if b then 8 else 1)
        → IsWritable (record { prefix = own; submessages = submessages })
    by true usual eight =
        let low : most ≤ 1024 = grind (arith, nat_tests) in
        let all : count * most ≤ count * 1024 = mul-le-mul_left count low in
        short_writable (record { prefix = own; submessages = submessages }) of_own each
        (omega (arith, few, light, all, eight))
    by false long one =
        short_writable (record { prefix = own; submessages = submessages }) of_own each (omega (arith, few, short, one))

-- ---- so many in a packet

-- the answers before these ones were sent
pub record SentBefore (answering : Answering) (changes : List Change) (answers rest : List Answer)
    (sent gone : Announced) : Type 0 where
  pub groups : List (List Answer)
  pub on : (later : List (List Answer)) → AreGrouped (answers_per answering.max_value) rest later
      → AreGrouped (answers_per answering.max_value) answers (groups ++ later)
  pub adds : AddsTo (map (answer_due answering changes) groups) sent gone

pub sent_none : (answering : Answering) (changes : List Change) (answers : List Answer) (sent : Announced)
    → SentBefore answering changes answers answers sent sent
sent_none answering changes answers sent =
    record { groups = []; on = λ later g. g; adds = adds_none sent.packets.items sent.unsent }

map_last : {X Y : Type 0} (f : X → Y) (xs : List X) (x : X) → map f (xs ++ x ∷ []) ≡ map f xs ++ f x ∷ []
map_last f [] x = refl
map_last f (y ∷ ys) x = ap (λ zs. f y ∷ zs) (map_last f ys x)

-- one group more was sent
pub sent_more : (answering : Answering) (changes : List Change) (answers rest group after : List Answer)
    (sent mid gone : Announced) → SentBefore answering changes answers rest sent mid → rest ≡ group ++ after
    → 1 ≤ length group → length group ≤ answers_per answering.max_value
    → ((after ≡ [] → ⊥) → length group ≡ answers_per answering.max_value) → AddsTo (answer_due answering changes group ∷ []) mid gone
    → SentBefore answering changes answers after sent gone
sent_more answering changes answers rest group after sent mid gone h is some few full adds = record {
  groups = h.groups ++ group ∷ [];
  on = λ later g.
      subst (λ (gs : List (List Answer)). AreGrouped (answers_per answering.max_value) answers gs)
      (sym (append_assoc h.groups (group ∷ []) later))
      (h.on (group ∷ later) (after, is, some, few, full, g));
  adds = subst (λ (ds : List Due). AddsTo ds sent gone) (sym (map_last (answer_due answering changes) h.groups group))
      (adds_on (map (answer_due answering changes) h.groups)
      (answer_due answering changes group ∷ []) sent.packets.items mid.packets.items gone.packets.items sent.unsent
      mid.unsent gone.unsent h.adds adds);
}

-- all were sent
pub sent_all : (answering : Answering) (changes : List Change) (answers rest : List Answer) (sent gone : Announced)
    → SentBefore answering changes answers rest sent gone → rest ≡ [] → SendsAnswers answering changes answers sent gone
sent_all answering changes answers rest sent gone h none = record {
  groups = h.groups;
  grouped = subst (λ (gs : List (List Answer)). AreGrouped (answers_per answering.max_value) answers gs)
      (append-nil h.groups) (h.on [] none);
  adds = h.adds;
}

all_after : {X : Type 0} (P : X → Type 0) (group after : List X) → All P (group ++ after) → All P after
all_after P [] after h = h
all_after P (x ∷ xs) after h = all_after P xs after (All-tail P x (xs ++ after) h)

-- the answers after others can be given where all can
pub answerable_after : (most : ℕ) (kept : Kept) (rest group after : List Answer) → rest ≡ group ++ after → AreAnswerable most kept rest
    → AreAnswerable most kept after
answerable_after most kept rest group after is h = record {
  state = h.state;
  stands = h.stands;
  few = h.few;
  each =
      all_after (IsAnswerableIn most h.state) group after
      (subst (λ (xs : List Answer). All (IsAnswerableIn most h.state) xs) is h.each);
}

-- ---- the answers of a writer that took an ACKNACK

-- an ACKNACK writes nothing
pub after-changes : (s : WriterState) (row base : ℕ) (count : ℤ)
    → changes_of (after_acknack s row base count).written ≡ changes_of s.written
after-changes s row base count = by (is_applied s row base count)
  where
    by : (b : Bool) → changes_of (if b then applied s row base count else s).written ≡ changes_of s.written
    by true = refl
    by false = refl

number_from : (set : NumberSet) (n : ℕ) → has_number set n ≡ true → set.base ≤ n
number_from set n is = first (nat_le set.base n) refl is
  where
    first : (b : Bool) → nat_le set.base n ≡ b → (b && slice_index_or set.members (n - set.base) false) ≡ true
        → set.base ≤ n
    first true e h = grind (arith, nat_tests)
    first false e h = absurd cc

-- a right answer can be given
right_answerable : (most : ℕ) (s : WriterState) (row from : ℕ) (set : NumberSet) → AreShort most (changes_of s.written)
    → 1 ≤ set.base → length (changes_of s.written) < 2 ^ 62 → (a : Answer)
    → IsRight (has_for s row) (IsBetween set from (last_of s)) a → IsAnswerableIn most s a
right_answerable most s row from set short low few (AnswersData n) right = found (change_at (changes_of s.written) n) refl
  where
    first_of : (a b : Bool) → (a && b) ≡ true → a ≡ true
    first_of true b h = refl
    first_of false b h = absurd cc

    kept : is_kept (history_of s) n ≡ true
    kept = first_of (is_kept (history_of s) n) (nat_le (owed_from s row) n) right.0

    kept_is : kept_change (history_of s) n ≡ change_at (changes_of s.written) n
    kept_is = ap (λ (b : Bool). if b then change_at (changes_of s.written) n else None) kept

    some_of : (o : Option Change) (b c : Bool) → (is_some o && b && c) ≡ true → is_some o ≡ true
    some_of (Some x) b c h = refl
    some_of None b c h = absurd cc

    found : (o : Option Change) → change_at (changes_of s.written) n ≡ o
        → (change : Change) × (kept_change (history_of s) n ≡ Some change) × IsShort most change.value
    found (Some x) e = (x, kept_is ∙ e, short n x e)
    found None e =
        let some : is_some (change_at (changes_of s.written) n) ≡ true =
        some_of (change_at (changes_of s.written) n) (not (is_dropped (history_of s) n))
        (is_awaited (history_of s) n) kept in
        let none : is_some (change_at (changes_of s.written) n) ≡ false = ap (λ (o : Option Change). is_some o) e in
        absurd cc
right_answerable most s row from set short low few (AnswersGap first last) right =
    let order = right.0 in
    let least = number_from set first (right.1 first (omega arith) order).1.2 in
    let most = (right.1 last order (omega arith)).1.1 in
    (omega (arith, low, least), order, omega (arith, most, few))

pub answerable : (most : ℕ) (new : Kept) (s : WriterState) (row base : ℕ) (set : NumberSet) (count : ℤ) (answers : List Answer)
    → RtpsStandsFor new (after_acknack s row base count) → AreShort most (changes_of s.written) → 1 ≤ set.base
    → answers ≡ acknack_answers s row base set count → AreAnswerable most new answers
answerable most new s row base set count answers stands short low is = by (is_applied s row base count) refl
  where
    few : length (changes_of s.written) < 2 ^ 62
    few =
        let size = stands.history.few in let last = stands.history.last in let same =
        ap (λ (cs : List Change). length cs) (after-changes s row base count) in omega (arith, size, last, same)

    by : (b : Bool) → is_applied s row base count ≡ b → AreAnswerable most new answers
    by true e = record {
      state = applied s row base count;
      stands = subst (λ (b : Bool). RtpsStandsFor new (if b then applied s row base count else s)) e stands;
      few = few;
      each = subst (λ (xs : List Answer). All (IsAnswerableIn most (applied s row base count)) xs)
          (sym (is ∙ ap (λ (b : Bool). if b then answers_after (applied s row base count) row base set else []) e))
          (All-weaker (IsRight (has_for (applied s row base count) row)
          (IsBetween set (asked_from (applied s row base count) row base) (last_of s)))
          (IsAnswerableIn most (applied s row base count))
          (λ a right. right_answerable most (applied s row base count) row
          (asked_from (applied s row base count) row base) set short low few a right)
          (answers_after (applied s row base count) row base set)
          (answers_after-right (applied s row base count) row base set));
    }
    by false e = record {
      state = s;
      stands = subst (λ (b : Bool). RtpsStandsFor new (if b then applied s row base count else s)) e stands;
      few = few;
      each =
          subst (λ (xs : List Answer). All (IsAnswerableIn most s) xs)
          (sym (is ∙ ap (λ (b : Bool). if b then answers_after (applied s row base count) row base set else []) e))
          (All-nil (IsAnswerableIn most s));
    }

-- there are 256 answers at most
answers_few : (kept : ℕ → Bool) (ns : List ℕ) → length (answers_to kept ns) ≤ length ns
answers_few kept [] = omega arith
answers_few kept (n ∷ ns) = one_more (kept n) (answers_to kept ns) (answers_few kept ns)
  where
    one_more : (b : Bool) (rest : List Answer) → length rest ≤ length ns
        → length (answer_before b n rest) ≤ suc (length ns)
    one_more true rest h = omega (arith, h)
    one_more false [] h = omega (arith, h)
    one_more false (AnswersData m ∷ rest) h = omega (arith, h)
    one_more false (AnswersGap first last ∷ rest) h = gap (first == n + 1)
      where
        gap : (b : Bool)
            → length (if b then AnswersGap n last ∷ rest else AnswersGap n n ∷ AnswersGap first last ∷ rest)
            ≤ suc (length ns)
        gap true = omega (arith, h)
        gap false = omega (arith, h)

pub few_answers : (s : WriterState) (row base : ℕ) (set : NumberSet) (count : ℤ)
    → length (acknack_answers s row base set count) ≤ 256
few_answers s row base set count = by (is_applied s row base count)
  where
    after : WriterState
    after = applied s row base count

    asked : List ℕ
    asked = requested set (asked_from after row base) (last_of after)

    by : (b : Bool) → length (if b then answers_after after row base set else []) ≤ 256
    by true =
        let first = answers_few (has_for after row) asked in
        let second =
        filter_few (is_requested set (asked_from after row base) (last_of after)) (numbers_from set.base 256) in
        let third = count_numbers set.base 256 in
        omega (arith, first, second, third)
    by false = omega arith

-- an ACKNACK was taken, its answers were sent, and its reader asks for a HEARTBEAT by it, or has answered
pub acknack_taken : (old : WriterKept) (own : GuidPrefix) (row : ℕ) (a : AckNackBody) (sent : Announced) (new last : Kept)
    (acknowledged : Option ℕ) (gone : Announced) (base : ℕ) (count : ℤ) (is_taken : Bool) (answers : List Answer)
    (answering : Answering) → base ≡ a.reader_sn_state.base → count ≡ a.count
    → ((s : WriterState) → RtpsStandsFor old.writer s
    → is_taken ≡ is_applied s row base count)
    → ((s : WriterState) → RtpsStandsFor old.writer s → RtpsStandsFor new (after_acknack s row base count))
    → ((s : WriterState) → RtpsStandsFor old.writer s → acknowledged
    ≡ newly_acknowledged s (after_acknack s row base count) row)
    → ((s : WriterState) → RtpsStandsFor old.writer s → answers ≡ acknack_answers s row base a.reader_sn_state count)
    → ((s : WriterState) → RtpsStandsFor new s → SendsAnswers answering (changes_of s.written) answers sent gone)
    → ((s : WriterState) → RtpsStandsFor new s → RtpsStandsFor last (heard_if is_taken (asks_for_heartbeat a) s row))
    → ((name : ReaderName) → slice_get old.readers row ≡ Some name
    → answering ≡ record { own = own; entity = old.entity; reader = name; max_value = old.max_value })
    → TakesAckNack old own row a sent (record old { writer = last }) acknowledged gone
acknack_taken old own row a sent new last acknowledged gone base count is_taken answers answering same_base same_count is_so
    stands newly answered sends marked who s given =
    let now : RtpsStandsFor new (after_acknack s row base count) = stands s given in
    let taken : RtpsStandsFor new (after_acknack s row a.reader_sn_state.base a.count) =
    subst (λ (n : ℕ). RtpsStandsFor new (after_acknack s row n a.count)) same_base
    (subst (λ (z : ℤ). RtpsStandsFor new (after_acknack s row base z)) same_count now) in
    record {
      stands =
          subst (λ (b : Bool). RtpsStandsFor last
          (heard_if b (asks_for_heartbeat a) (after_acknack s row a.reader_sn_state.base a.count) row))
          (is_so s given ∙ (ap (λ (n : ℕ). is_applied s row n count) same_base
          ∙ ap (λ (z : ℤ). is_applied s row a.reader_sn_state.base z) same_count))
          (marked (after_acknack s row a.reader_sn_state.base a.count) taken);
      acknowledged_is = newly s given
          ∙ (ap (λ (n : ℕ). newly_acknowledged s (after_acknack s row n count) row) same_base
          ∙ ap (λ (z : ℤ). newly_acknowledged s (after_acknack s row a.reader_sn_state.base z) row) same_count);
      sends = λ name at.
          let all : answers ≡ acknack_answers s row a.reader_sn_state.base a.reader_sn_state a.count =
          answered s given ∙ (ap (λ (n : ℕ). acknack_answers s row n a.reader_sn_state count) same_base
          ∙ ap (λ (z : ℤ). acknack_answers s row a.reader_sn_state.base a.reader_sn_state z) same_count) in
          subst (λ (x : Answering). SendsAnswers x (changes_of s.written)
          (acknack_answers s row a.reader_sn_state.base a.reader_sn_state a.count) sent gone) (who name at)
          (subst (λ (xs : List Answer). SendsAnswers answering (changes_of s.written) xs sent gone) all
          (subst (λ (cs : List Change). SendsAnswers answering cs answers sent gone) (after-changes s row base count)
          (sends (after_acknack s row base count) now)));
    }

-- a group before others is full
full_group : (per : ℕ) (rest group after : List Answer) (size : ℕ) → rest ≡ group ++ after → length group ≡ size
    → size ≡ min (length rest) per → (after ≡ [] → ⊥) → length group ≡ per
full_group per rest group [] size is count least some = absurd (some refl)
full_group per rest group (x ∷ xs) size is count least some =
    let all = ap (λ (as' : List Answer). length as') is in
    let both = length-append group (x ∷ xs) in
    omega (arith, all, both, count, least)

pub full_group_as : (most per : ℕ) → per ≡ answers_per most → (rest group after : List Answer) (size : ℕ)
    → rest ≡ group ++ after → length group ≡ size → size ≡ min (length rest) per → (after ≡ [] → ⊥)
    → length group ≡ answers_per most
full_group_as most per same rest group after size is count least some =
    full_group per rest group after size is count least some ∙ same

pub nothing_left : (rest : List Answer) (size : ℕ) → length rest ≡ 0 → rest ≡ []
nothing_left [] size none = refl
nothing_left (x ∷ xs) size none = absurd (omega (arith, none))
