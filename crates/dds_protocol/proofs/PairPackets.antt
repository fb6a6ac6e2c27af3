-- A written message is taken up as it was meant: submessage by submessage, where memory is not lacking.
use Rattle.std.proofs.Common.{◌≡◌, ℕ, ◌+◌, List, [], ◌∷◌, ◌++◌, Option, None, length, subst, ap, sym, ◌∙◌, inl, inr}
use Rattle.dds_protocol.specs.Roster.{Roster}
use Rattle.dds_base.specs.declared.guid.GuidPrefix.{GuidPrefix}
use Rattle.dds_base.specs.Kept.{numbers_from}
use Rattle.rtps_wire.specs.declared.message.Message.{Message}
use Rattle.rtps_wire.specs.declared.submessage.Submessage.{Submessage}
use Rattle.rtps_wire.specs.declared.submessage.Submessage.TheVariants.{InfoDst, InfoTs}
use Rattle.rtps_wire.specs.Messages.{IsWritable, spelling_of}
use Rattle.rtps_wire.proofs.SpellingLaws.{message_again}
use Rattle.dds_machine.specs.declared.reply.Move.{Move}
use Rattle.dds_machine.specs.declared.reply.Report.{Report}
use Rattle.dds_protocol.specs.Claims.{Receiver, receiver_of, after_submessage}
use Rattle.dds_protocol.specs.DueMessages.{Due}
use Rattle.dds_protocol.specs.Protocol.{State, InTurn, Idles, ReaderTakes, Takes, FollowsMessage, TakesPacket}
use Rattle.dds_protocol.proofs.Dues.{addressed, message_to, read_again}
use Rattle.dds_machine.proofs.Tables.{append_nothing}

-- the packet is that message, all of which is taken up
pub read_whole : (roster : Roster) (peer : ℕ) (message : Message) (old : State) (report : Report) (dues : List Due)
    (new : State)
    → IsWritable message → report.refused ≡ None → TakesPacket roster peer (spelling_of message) old report dues new
    → FollowsMessage roster (roster.prefix peer) peer 0
    (receiver_of message.prefix) message.submessages old report.moves None dues new
read_whole roster peer message old report dues new writable whole (inl h) =
    subst (λ (o : Option ℕ). FollowsMessage roster (roster.prefix peer) peer 0
    (receiver_of message.prefix) message.submessages old report.moves o dues new) whole
    (subst (λ (m : Message). FollowsMessage roster (roster.prefix peer) peer 0
    (receiver_of m.prefix) m.submessages old report.moves report.refused dues new)
    (read_again message h.message h.offset writable h.is_read) h.follows)
read_whole roster peer message old report dues new writable whole (inr h) =
    absurd (h.0.unread message (length (spelling_of message)) (message_again message writable))

-- steps that all do nothing
pub idle_turns : {X : Type 0} (step : X → State → List Move → List Due → State → Type 0)
    → ((x : X) (old : State) (moves : List Move) (dues : List Due) (new : State) → step x old moves dues new
    → Idles old moves dues new)
    → (xs : List X) (old : State) (moves : List Move) (dues : List Due) (new : State)
    → InTurn step xs old moves dues new → Idles old moves dues new
idle_turns step each [] old moves dues new h = h
idle_turns step each (x ∷ xs) old moves dues new h =
    let one = each x old h.0 h.2 h.4 h.7 in
    let rest = idle_turns step each xs h.4 h.1 h.3 new h.8 in (
      h.5 ∙ (ap (λ (ms : List Move). ms ++ h.1) one.0 ∙ rest.0),
      h.6 ∙ (ap (λ (ds : List Due). ds ++ h.3) one.1 ∙ rest.1),
      rest.2 ∙ one.2,
    )

-- what follows a submessage that does nothing, with some moves
pub record FollowsOn (roster : Roster) (own : GuidPrefix) (peer index : ℕ) (at : Receiver) (ss : List Submessage)
    (old : State) (dues : List Due) (new : State) : Type 0 where
  pub moves : List Move
  pub follows : FollowsMessage roster own peer index at ss old moves None dues new

pub idle_head : (roster : Roster) (own : GuidPrefix) (peer index : ℕ) (at : Receiver) (s : Submessage)
    (ss : List Submessage) (old : State) (moves : List Move) (dues : List Due) (new : State)
    → ((made : List Move) (first : List Due) (mid : State) → Takes roster own peer at s old made first mid
    → Idles old made first mid)
    → FollowsMessage roster own peer index at (s ∷ ss) old moves None dues new
    → FollowsOn roster own peer (index + 1) (after_submessage own at s) ss old dues new
idle_head roster own peer index at s ss old moves dues new idle (inl h) = let none = h.0 in absurd cc
idle_head roster own peer index at s ss old moves dues new idle (inr h) =
    let nothing = idle h.0 h.2 h.4 h.7 in
    record {
      moves = h.1;
      follows =
          subst (λ (ds : List Due). FollowsMessage roster own peer (index + 1)
          (after_submessage own at s) ss old h.1 None ds new)
          (sym (h.6 ∙ ap (λ (ds : List Due). ds ++ h.3) nothing.1))
          (subst (λ (x : State). FollowsMessage roster own peer (index + 1)
          (after_submessage own at s) ss x h.1 None h.3 new) nothing.2 h.8);
    }

pub dst_idle : (roster : Roster) (own : GuidPrefix) (peer : ℕ) (at : Receiver) (to : GuidPrefix) (old : State)
    (made : List Move) (first : List Due) (mid : State)
    → Takes roster own peer at (InfoDst to) old made first mid → Idles old made first mid
dst_idle roster own peer at to old made first mid h =
    idle_turns (ReaderTakes roster own peer at (InfoDst to)) (λ x o m d n k. k)
    (numbers_from 1 (length old.part.rtps.readers)) old made first mid h

pub ts_idle : (roster : Roster) (own : GuidPrefix) (peer : ℕ) (at : Receiver) (moment : Option ℕ) (old : State)
    (made : List Move) (first : List Due) (mid : State)
    → Takes roster own peer at (InfoTs moment) old made first mid → Idles old made first mid
ts_idle roster own peer at moment old made first mid h =
    idle_turns (ReaderTakes roster own peer at (InfoTs moment)) (λ x o m d n k. k)
    (numbers_from 1 (length old.part.rtps.readers)) old made first mid h

-- a message for this peer is taken up as what follows its INFO_DST
pub read_addressed : (roster : Roster) (own : GuidPrefix) (peer : ℕ) → own ≡ roster.prefix peer
    → (from to : GuidPrefix) (ss : List Submessage) (old : State) (report : Report) (dues : List Due) (new : State)
    → IsWritable (message_to from to ss) → report.refused ≡ None
    → TakesPacket roster peer (spelling_of (message_to from to ss)) old report dues new
    → FollowsOn roster own peer 1 (addressed from to) ss old dues new
read_addressed roster own peer is from to ss old report dues new writable whole takes =
    idle_head roster own peer 0 (receiver_of from) (InfoDst to) ss old report.moves dues new
    (λ made first mid k. dst_idle roster own peer (receiver_of from) to old made first mid k)
    (subst (λ (p : GuidPrefix). FollowsMessage roster p peer 0
    (receiver_of from) (InfoDst to ∷ ss) old report.moves None dues new) (sym is)
    (read_whole roster peer (message_to from to ss) old report dues new writable whole takes))

-- a submessage that comes first, and those that follow
pub record TakesFirst (roster : Roster) (own : GuidPrefix) (peer index : ℕ) (at : Receiver) (s : Submessage)
    (ss : List Submessage) (old : State) (dues : List Due) (new : State) : Type 0 where
  pub made : List Move
  pub first : List Due
  pub mid : State
  pub takes : Takes roster own peer at s old made first mid
  pub later : List Move
  pub rest : List Due
  pub all : dues ≡ first ++ rest
  pub follows : FollowsMessage roster own peer (index + 1) (after_submessage own at s) ss mid later None rest new

pub first_head : (roster : Roster) (own : GuidPrefix) (peer index : ℕ) (at : Receiver) (s : Submessage)
    (ss : List Submessage) (old : State) (moves : List Move) (dues : List Due) (new : State)
    → FollowsMessage roster own peer index at (s ∷ ss) old moves None dues new
    → TakesFirst roster own peer index at s ss old dues new
first_head roster own peer index at s ss old moves dues new (inl h) = let none = h.0 in absurd cc
first_head roster own peer index at s ss old moves dues new (inr h) =
    record { made = h.0; first = h.2; mid = h.4; takes = h.7; later = h.1; rest = h.3; all = h.6; follows = h.8 }

-- a submessage that stands alone at the end
pub record TakesLast (roster : Roster) (own : GuidPrefix) (peer : ℕ) (at : Receiver) (s : Submessage) (old : State)
    (dues : List Due) (new : State) : Type 0 where
  pub moves : List Move
  pub takes : Takes roster own peer at s old moves dues new

pub last_head : (roster : Roster) (own : GuidPrefix) (peer index : ℕ) (at : Receiver) (s : Submessage) (old : State)
    (moves : List Move) (dues : List Due) (new : State)
    → FollowsMessage roster own peer index at (s ∷ []) old moves None dues new
    → TakesLast roster own peer at s old dues new
last_head roster own peer index at s old moves dues new h =
    let f : TakesFirst roster own peer index at s [] old dues new =
    first_head roster own peer index at s [] old moves dues new h in
    record {
      moves = f.made;
      takes =
          subst (λ (ds : List Due). Takes roster own peer at s old f.made ds new)
          (sym (f.all ∙ (ap (λ (ds : List Due). f.first ++ ds) f.follows.1.1 ∙ append_nothing f.first)))
          (subst (λ (x : State). Takes roster own peer at s old f.made f.first x) (sym f.follows.1.2) f.takes);
    }
