-- Which counts of HEARTBEATs and of ACKNACKs stand in a written message.
use Rattle.std.proofs.Common.{◌≡◌, ℕ, ℤ, zero, suc, List, [], ◌∷◌, ◌++◌, Option, Some, None, subst, ap, sym, ◌∙◌, Contains, map, flat_map, refl, ⊎_elim, arith}
use Rattle.std.specs.List.{AllByRecursion}
use Rattle.dds_base.specs.declared.change.Change.{Change}
use Rattle.dds_protocol.specs.Roster.{Roster}
use Rattle.dds_base.specs.declared.guid.EntityId.{EntityId}
use Rattle.dds_base.specs.declared.guid.GuidPrefix.{GuidPrefix}
use Rattle.dds_base.specs.Kept.{change_at}
use Rattle.rtps_wire.specs.declared.acknack.AckNack.{AckNack as AckNackBody}
use Rattle.rtps_wire.specs.declared.heartbeat.Heartbeat.{Heartbeat as HeartbeatBody}
use Rattle.rtps_wire.specs.declared.message.Message.{Message}
use Rattle.rtps_wire.specs.declared.submessage.Submessage.{Submessage}
use Rattle.rtps_wire.specs.declared.submessage.Submessage.TheVariants.{InfoDst, Heartbeat, AckNack}
use Rattle.rtps_wire.specs.declared.seek.Sought.{Sought}
use Rattle.rtps_wire.specs.Messages.{IsWritable, spelling_of}
use Rattle.rtps_wire.specs.Sought.{IsSought, HasSought}
use Rattle.rtps_writer.specs.declared.answer.Answer.{Answer}
use Rattle.rtps_writer.specs.declared.answer.Answer.TheVariants.{Data as AnswersData, Gap as AnswersGap}
use Rattle.dds_base.specs.declared.endpoint.Endpoint.{Endpoint}
use Rattle.dds_protocol.specs.Claims.{Receiver, receiver_of, after_submessage, StandsAt, StandsIn, IsToWriter}
use Rattle.dds_protocol.specs.DueMessages.{Due, data_of, submessages_of}
use Rattle.dds_protocol.specs.Fresh.{HasHeartbeat, HasAckNack}
use Rattle.dds_protocol.proofs.Composed.{front_or_rest, later_in}
use Rattle.dds_protocol.proofs.Dues.{addressed, message_to, stands_again}

-- what is so of all submessages is so of each that stands there
pub stands_all : (P : Submessage → Type 0) (own : GuidPrefix) (from : Receiver) (ss : List Submessage) (index : ℕ)
    (at : Receiver) (s : Submessage) → AllByRecursion P ss → StandsAt own from ss index at s → P s
stands_all P own from [] index at s all h = absurd h
stands_all P own from (x ∷ xs) zero at s all h = subst (λ (y : Submessage). P y) (sym h.1) all.0
stands_all P own from (x ∷ xs) (suc index) at s all h =
    stands_all P own (after_submessage own from x) xs index at s all.1 h

-- neither a HEARTBEAT nor an ACKNACK
abbrev pub IsPlain : Submessage → Type 0
IsPlain (Heartbeat h) = ⊥
IsPlain (AckNack a) = ⊥
IsPlain other = Unit {0}

-- of a message without one neither is found
plain_at : (message : Message) (own : GuidPrefix) (at : Receiver) (s : Submessage) → IsWritable message
    → AllByRecursion IsPlain message.submessages → StandsIn (spelling_of message) own at s → IsPlain s
plain_at message own at s writable plain there =
    stands_all IsPlain own (receiver_of message.prefix) message.submessages there.index at s plain
    (stands_again message own at s writable there)

pub plain_beats : (roster : Roster) (message : Message) (w : Endpoint) (count : ℤ) → IsWritable message
    → AllByRecursion IsPlain message.submessages → HasHeartbeat roster (spelling_of message) w count → ⊥
plain_beats roster message w count writable plain h =
    plain_at message h.own h.at (Heartbeat h.heartbeat) writable plain h.there

pub plain_asks : (roster : Roster) (message : Message) (w r : Endpoint) (count : ℤ) → IsWritable message
    → AllByRecursion IsPlain message.submessages → HasAckNack roster (spelling_of message) w r count → ⊥
plain_asks roster message w r count writable plain h =
    plain_at message h.own h.at (AckNack h.acknack) writable plain h.there

-- ---- answers, and changes that are announced

all_both : (P : Submessage → Type 0) (xs ys : List Submessage) → AllByRecursion P xs → AllByRecursion P ys
    → AllByRecursion P (xs ++ ys)
all_both P [] ys f g = g
all_both P (x ∷ xs) ys f g = (f.0, all_both P xs ys f.1 g)

pub plain_data : (reader writer : EntityId) (number : ℕ) (change : Option Change)
    → AllByRecursion IsPlain (data_of reader writer number change)
plain_data reader writer number None = tt
plain_data reader writer number (Some change) = (tt, (tt, tt))

plain_answer : (changes : List Change) (reader writer : EntityId) (a : Answer)
    → AllByRecursion IsPlain (submessages_of changes reader writer a)
plain_answer changes reader writer (AnswersData n) = plain_data reader writer n (change_at changes n)
plain_answer changes reader writer (AnswersGap first last) = (tt, tt)

pub plain_answers : (changes : List Change) (reader writer : EntityId) (answers : List Answer)
    → AllByRecursion IsPlain (flat_map (submessages_of changes reader writer) answers)
plain_answers changes reader writer [] = tt
plain_answers changes reader writer (a ∷ as') =
    all_both IsPlain (submessages_of changes reader writer a) (flat_map (submessages_of changes reader writer) as')
    (plain_answer changes reader writer a) (plain_answers changes reader writer as')

-- ---- a message with one submessage

-- of a message for one peer with a single submessage it is this one that stands there, besides the INFO_DST
alone : (own to : GuidPrefix) (x : Submessage) (far : GuidPrefix) (index : ℕ) (at : Receiver) (s : Submessage)
    → StandsAt far (receiver_of own) (InfoDst to ∷ x ∷ []) index at s
    → (s ≡ InfoDst to → ⊥) → (at ≡ addressed own to) × (s ≡ x)
alone own to x far zero at s h other = absurd (other h.1)
alone own to x far (suc zero) at s h other = h
alone own to x far (suc (suc index)) at s h other = absurd h

-- so it is once the message was written and is read again
read_alone : (own to : GuidPrefix) (x : Submessage) (far : GuidPrefix) (at : Receiver) (s : Submessage)
    → IsWritable (message_to own to (x ∷ [])) → StandsIn (spelling_of (message_to own to (x ∷ []))) far at s
    → (s ≡ InfoDst to → ⊥) → (at ≡ addressed own to) × (s ≡ x)
read_alone own to x far at s writable there other =
    alone own to x far there.index at s (stands_again (message_to own to (x ∷ [])) far at s writable there) other

no_beat : (h : HeartbeatBody) (to : GuidPrefix) → Heartbeat h ≡ InfoDst to → ⊥
no_beat h to e = cc

no_ask : (a : AckNackBody) (to : GuidPrefix) → AckNack a ≡ InfoDst to → ⊥
no_ask a to e = cc

ask_of : AckNackBody → Submessage → AckNackBody
ask_of d (AckNack a) = a
ask_of d _ = d

-- an ACKNACK alone
pub one_ask : (roster : Roster) (own to : GuidPrefix) (body : AckNackBody) (w r : Endpoint) (count : ℤ)
    → IsWritable (message_to own to (AckNack body ∷ []))
    → HasAckNack roster (spelling_of (message_to own to (AckNack body ∷ []))) w r count
    → (far : GuidPrefix) × IsToWriter roster far (addressed own to) body.reader_id body.writer_id w r
    × (count ≡ body.count)
unfolding ask_of
one_ask roster own to body w r count writable h =
    let here =
    read_alone own to (AckNack body) h.own h.at (AckNack h.acknack) writable h.there (no_ask h.acknack to) in
    let is : h.acknack ≡ body = ap (λ (s : Submessage). ask_of body s) here.1 in (
      h.own,
      subst (λ (b : AckNackBody). IsToWriter roster h.own (addressed own to) b.reader_id b.writer_id w r) is
          (subst (λ (x : Receiver). IsToWriter roster h.own x h.acknack.reader_id h.acknack.writer_id w r) here.0
          h.is_to),
      sym h.same_count ∙ ap (λ (b : AckNackBody). b.count) is,
    )

-- a submessage that is looked for in such a message is the one
pub one_sought : (wanted : Sought) (to : GuidPrefix) (x : Submessage) → (IsSought wanted (InfoDst to) → ⊥)
    → HasSought wanted (InfoDst to ∷ x ∷ []) → IsSought wanted x
one_sought wanted to x other h =
    ⊎_elim (λ first. absurd (other (subst (λ (s : Submessage). IsSought wanted s) (sym first) h.2)))
    (λ (later : Contains (x ∷ []) h.0).
    ⊎_elim (λ is. subst (λ (s : Submessage). IsSought wanted s) (sym is) h.2)
    (λ (none : Contains [] h.0). let lt = none.1 in absurd (omega (arith, lt)))
    (front_or_rest x [] h.0 later.0 later.1 later.2))
    (front_or_rest (InfoDst to) (x ∷ []) h.0 h.1.0 h.1.1 h.1.2)

pub one_ask_beats : (roster : Roster) (own to : GuidPrefix) (body : AckNackBody) (w : Endpoint) (count : ℤ)
    → IsWritable (message_to own to (AckNack body ∷ []))
    → HasHeartbeat roster (spelling_of (message_to own to (AckNack body ∷ []))) w count → ⊥
one_ask_beats roster own to body w count writable h =
    let here =
    read_alone own to (AckNack body) h.own h.at (Heartbeat h.heartbeat) writable h.there (no_beat h.heartbeat to) in
    let e = here.1 in absurd cc

-- ---- lists of messages

-- what is so of each message is so of those in a list
pub each_of : {X : Type 0} (P : Due → Type 0) (f : X → Due) → ((x : X) → P (f x)) → (xs : List X) (due : Due)
    → Contains (map f xs) due → P due
each_of P f all [] due among = let lt = among.1 in absurd (omega (arith, lt))
each_of {X = X} P f all (x ∷ xs) due among =
    ⊎_elim (λ e. subst (λ (d : Due). P d) e (all x)) (λ rest. each_of P f all xs due rest)
    (front_or_rest (f x) (map f xs) due among.0 among.1 among.2)

pub contains_map : {X Y : Type 0} (f : X → Y) (xs : List X) (x : X) → Contains xs x → Contains (map f xs) (f x)
contains_map f [] x h = let lt = h.1 in absurd (omega (arith, lt))
contains_map {X = X} f (y ∷ ys) x h =
    ⊎_elim (λ e. subst (λ (z : X). Contains (map f (y ∷ ys)) (f z)) e (0, omega arith, refl))
    (λ later. later_in (f y) (map f ys) (f x) (contains_map f ys x later))
    (front_or_rest y ys x h.0 h.1 h.2)
