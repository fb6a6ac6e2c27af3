-- What a written message claims, and that what is true of a peer's part stays true while the part grows.
use Rattle.std.proofs.Common.{◌≡◌, ℕ, zero, suc, List, [], ◌∷◌, Option, length, subst}
use Rattle.dds_protocol.specs.Roster.{Roster}
use Rattle.dds_base.specs.declared.guid.GuidPrefix.{GuidPrefix}
use Rattle.rtps_wire.specs.declared.message.Message.{Message}
use Rattle.rtps_wire.specs.declared.submessage.Submessage.{Submessage}
use Rattle.rtps_wire.specs.declared.submessage.Submessage.TheVariants.{InfoDst, InfoTs}
use Rattle.rtps_wire.specs.Messages.{IsWritable, ReadsMessage, spelling_of}
use Rattle.rtps_wire.proofs.MessageLaws.{message_one}
use Rattle.rtps_wire.proofs.SpellingLaws.{message_again}
use Rattle.dds_protocol.specs.Claims.{Receiver, receiver_of, StandsAt, StandsIn, Says, Claim, ChangeIs, MayPass, PlaceReached, Asserts, Claims}

-- a submessage of the message says it
pub record Told (roster : Roster) (message : Message) (claim : Claim) : Type 0 where
  pub own : GuidPrefix
  pub index : ℕ
  pub at : Receiver
  pub submessage : Submessage
  pub stands : StandsAt own (receiver_of message.prefix) message.submessages index at submessage
  pub says : Says roster own at submessage claim

-- a message that was written is read as itself
pub read_again : (message other : Message) (offset : ℕ) → IsWritable message
    → ReadsMessage (spelling_of message) other offset → other ≡ message
read_again message other offset writable h =
    (message_one (spelling_of message) other message offset (length (spelling_of message)) h
    (message_again message writable)).0

-- what stands in the octets of a message that was written stands in it
pub stands_again : (message : Message) (own : GuidPrefix) (at : Receiver) (s : Submessage) → IsWritable message
    → (there : StandsIn (spelling_of message) own at s)
    → StandsAt own (receiver_of message.prefix) message.submessages there.index at s
stands_again message own at s writable there =
    subst (λ (m : Message). StandsAt own (receiver_of m.prefix) m.submessages there.index at s)
    (read_again message there.message there.offset writable there.is_read) there.stands

-- and the other way round
unfoldable pub stands_in : (message : Message) (own : GuidPrefix) (index : ℕ) (at : Receiver) (s : Submessage)
    → IsWritable message → StandsAt own (receiver_of message.prefix) message.submessages index at s
    → StandsIn (spelling_of message) own at s
stands_in message own index at s writable stands = record {
  message = message;
  offset = length (spelling_of message);
  is_read = message_again message writable;
  index = index;
  stands = stands;
}

-- what a message was written as claims only what its submessages say
pub told : (roster : Roster) (message : Message) (claim : Claim) → IsWritable message
    → Claims roster (spelling_of message) claim → Told roster message claim
told roster message claim writable h = record {
  own = h.own;
  index = h.there.index;
  at = h.at;
  submessage = h.submessage;
  stands = stands_again message h.own h.at h.submessage writable h.there;
  says = h.says;
}

-- an INFO_DST claims nothing
pub dst_says : (roster : Roster) (own : GuidPrefix) (at : Receiver) (prefix : GuidPrefix) (claim : Claim)
    → Says roster own at (InfoDst prefix) claim → ⊥
dst_says roster own at prefix (ChangeIs w r n c) h = h
dst_says roster own at prefix (MayPass w r n) h = h
dst_says roster own at prefix (PlaceReached w r b) h = h
dst_says roster own at prefix (Asserts w r k) h = h

-- nor does an INFO_TS
pub ts_says : (roster : Roster) (own : GuidPrefix) (at : Receiver) (moment : Option ℕ) (claim : Claim)
    → Says roster own at (InfoTs moment) claim → ⊥
ts_says roster own at moment (ChangeIs w r n c) h = h
ts_says roster own at moment (MayPass w r n) h = h
ts_says roster own at moment (PlaceReached w r b) h = h
ts_says roster own at moment (Asserts w r k) h = h

-- ---- messages for one peer

-- the receiver once an INFO_DST said whom a message is for
abbrev pub addressed : GuidPrefix → GuidPrefix → Receiver
addressed own to = record (receiver_of own) { dest_guid_prefix = to }

-- a message for one peer
abbrev pub message_to : GuidPrefix → GuidPrefix → List Submessage → Message
message_to own to ss = record { prefix = own; submessages = InfoDst to ∷ ss }

-- one of the submessages that follow the INFO_DST says it
pub record ToldTo (roster : Roster) (own to : GuidPrefix) (ss : List Submessage) (claim : Claim) : Type 0 where
  pub far : GuidPrefix
  pub index : ℕ
  pub at : Receiver
  pub submessage : Submessage
  pub stands : StandsAt far (addressed own to) ss index at submessage
  pub says : Says roster far at submessage claim

-- a message for one peer claims what the submessages after its INFO_DST say
pub told_to : (roster : Roster) (own to : GuidPrefix) (ss : List Submessage) (claim : Claim)
    → IsWritable (message_to own to ss) → Claims roster (spelling_of (message_to own to ss)) claim
    → ToldTo roster own to ss claim
told_to roster own to ss claim writable h =
    let t = told roster (message_to own to ss) claim writable h in by t.own t.index t.at t.submessage t.stands t.says
  where
    by : (far : GuidPrefix) (index : ℕ) (at : Receiver) (s : Submessage)
        → StandsAt far (receiver_of own) (InfoDst to ∷ ss) index at s → Says roster far at s claim
        → ToldTo roster own to ss claim
    by far zero at s stands k =
        absurd (dst_says roster far at to claim (subst (λ (x : Submessage). Says roster far at x claim) stands.1 k))
    by far (suc index) at s stands k =
        record { far = far; index = index; at = at; submessage = s; stands = stands; says = k }

-- one with a single submessage claims what that says
pub told_alone : (roster : Roster) (own to : GuidPrefix) (s : Submessage) (claim : Claim)
    → IsWritable (message_to own to (s ∷ [])) → Claims roster (spelling_of (message_to own to (s ∷ []))) claim
    → (far : GuidPrefix) × Says roster far (addressed own to) s claim
told_alone roster own to s claim writable h =
    let t = told_to roster own to (s ∷ []) claim writable h in by t.far t.index t.at t.submessage t.stands t.says
  where
    by : (far : GuidPrefix) (index : ℕ) (at : Receiver) (x : Submessage)
        → StandsAt far (addressed own to) (s ∷ []) index at x → Says roster far at x claim
        → (far : GuidPrefix) × Says roster far (addressed own to) s claim
    by far zero at x stands k = (
      far,
      subst (λ (r : Receiver). Says roster far r s claim) stands.0
          (subst (λ (y : Submessage). Says roster far at y claim) stands.1 k),
    )
    by far (suc index) at x stands k = absurd stands
