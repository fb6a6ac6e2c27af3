-- What a submessage makes a peer know: at one reader, of one writer.
use Rattle.std.proofs.Common.{◌≡◌, ℕ, ℤ, Bool, true, false, List, [], Some, max, ap, ◌∙◌, ◌⊎◌, inl, inr}
use Rattle.dds_base.specs.declared.guid.EntityId.{EntityId}
use Rattle.dds_base.specs.declared.guid.GuidPrefix.{GuidPrefix}
use Rattle.dds_base.specs.declared.happening.Happening.{Happening}
use Rattle.dds_base.specs.declared.happening.PassedRun.{PassedRun}
use Rattle.dds_base.specs.Places.{Match}
use Rattle.rtps_reader.specs.Tracked.{Tracked}
use Rattle.rtps_reader.specs.Answer.{answered}
use Rattle.rtps_wire.specs.declared.heartbeat.Heartbeat.{Heartbeat as HeartbeatBody}
use Rattle.dds_base.specs.declared.endpoint.Endpoint.{Endpoint}
use Rattle.dds_machine.specs.declared.reply.Move.{Move}
use Rattle.dds_machine.specs.Part.{Attachment}
use Rattle.dds_protocol.specs.Claims.{Receiver}
use Rattle.dds_protocol.specs.DueMessages.{Due}
use Rattle.dds_protocol.specs.Protocol.{Known, State, GoesBy, Asserting, HearsAlone, Starts, StartsAt, TakesHeartbeat, stands_to}
use Rattle.dds_protocol.proofs.Framing.{tracked_here, tracked_elsewhere}
use Rattle.dds_protocol.proofs.Ways.{started}

-- of this writer the reader knows this now, and of others what it knew
pub record Learns (old : State) (w : Endpoint) (r : ℕ) (t : Tracked) (new : State) : Type 0 where
  pub here : new.known.tracked w r ≡ t
  pub elsewhere : (v : Endpoint) (k : ℕ) → ((v ≡ w) × (k ≡ r) → ⊥) → new.known.tracked v k ≡ old.known.tracked v k
  pub answered : (v : ℕ) (x : Endpoint) → new.known.answered v x ≡ old.known.answered v x

pub way_learns : {Way : Match → List Happening → ℕ → List PassedRun → Tracked → List Happening → Type 0}
    → (old : State) (w : Endpoint) (r : ℕ) (moves : List Move) (new : State)
    → (g : GoesBy Way old w r moves new) → Learns old w r g.known new
way_learns old w r moves new g = record {
  here = ap (λ (s : State). s.known.tracked w r) g.after ∙ tracked_here old.known w r g.known;
  elsewhere = λ v k apart.
      ap (λ (s : State). s.known.tracked v k) g.after ∙ tracked_elsewhere old.known w r g.known v k apart;
  answered = λ v x. ap (λ (s : State). s.known.answered v x) g.after;
}

-- that a writer is heard makes nothing known
pub asserting_known : (flag : Bool) (old : State) (w : Endpoint) (r : ℕ) (count : ℤ) (moves : List Move) (new : State)
    → Asserting flag old w r count moves new → new.known ≡ old.known
asserting_known true old w r count moves new h = ap (λ (s : State). s.known) h.0.after
asserting_known false old w r count moves new h = ap (λ (s : State). s.known) h.1

-- where a place begins, nothing but the place is another
pub starts_learns : (old : State) (w : Endpoint) (r number : ℕ) (moves : List Move) (new : State)
    → (h : StartsAt old w r number moves new)
    → Learns old w r (record (old.known.tracked w r) { place = max h.place number }) new
starts_learns old w r number moves new h = record {
  here = ap (λ (s : State). s.known.tracked w r) h.after ∙ tracked_here old.known w r t;
  elsewhere = λ v k apart.
      ap (λ (s : State). s.known.tracked v k) h.after ∙ tracked_elsewhere old.known w r t v k apart;
  answered = λ v x. ap (λ (s : State). s.known.answered v x) h.after;
}
  where
    t : Tracked
    t = record (old.known.tracked w r) { place = max h.place number }

-- what is known of the writer beside the place, and of others, is as it was
pub record KnowsAsMuch (old : State) (w : Endpoint) (r : ℕ) (new : State) : Type 0 where
  pub count : (new.known.tracked w r).count ≡ (old.known.tracked w r).count
  pub acknacks : (new.known.tracked w r).acknacks ≡ (old.known.tracked w r).acknacks
  pub elsewhere : (v : Endpoint) (k : ℕ) → ((v ≡ w) × (k ≡ r) → ⊥) → new.known.tracked v k ≡ old.known.tracked v k
  pub answered : (v : ℕ) (x : Endpoint) → new.known.answered v x ≡ old.known.answered v x

pub starts_known : (how : Attachment) (old : State) (w : Endpoint) (r number : ℕ) (moves : List Move) (new : State)
    → Starts how old w r number moves new → KnowsAsMuch old w r new
starts_known how old w r number moves new h = by (started how old w r number moves new h)
  where
    by : StartsAt old w r number moves new ⊎ ((moves ≡ []) × (new ≡ old)) → KnowsAsMuch old w r new
    by (inl x) =
        let l = starts_learns old w r number moves new x in
        record {
          count = ap (λ (t : Tracked). t.count) l.here;
          acknacks = ap (λ (t : Tracked). t.acknacks) l.here;
          elsewhere = l.elsewhere;
          answered = l.answered;
        }
    by (inr x) = record {
      count = ap (λ (s : State). (s.known.tracked w r).count) x.1;
      acknacks = ap (λ (s : State). (s.known.tracked w r).acknacks) x.1;
      elsewhere = λ v k apart. ap (λ (s : State). s.known.tracked v k) x.1;
      answered = λ v y. ap (λ (s : State). s.known.answered v y) x.1;
    }

-- a HEARTBEAT by which the writer is heard alone tells its count
pub alone_learns : (old : State) (w : Endpoint) (r : ℕ) (h : HeartbeatBody) (moves : List Move) (new : State)
    → HearsAlone old w r h moves new
    → Learns old w r (record (old.known.tracked w r) { count = Some h.count }) new
alone_learns old w r h moves new k = record {
  here = ap (λ (s : State). s.known.tracked w r) k.after
      ∙ (tracked_here k.heard.known w r (record (k.heard.known.tracked w r) { count = Some h.count })
      ∙ ap (λ (x : Known). let t : Tracked = record (x.tracked w r) { count = Some h.count } in t) heard);
  elsewhere = λ v j apart.
      ap (λ (s : State). s.known.tracked v j) k.after
      ∙ (tracked_elsewhere k.heard.known w r (record (k.heard.known.tracked w r) { count = Some h.count }) v j apart
      ∙ ap (λ (x : Known). x.tracked v j) heard);
  answered = λ v x. ap (λ (s : State). s.known.answered v x) k.after ∙ ap (λ (y : Known). y.answered v x) heard;
}
  where
    heard : k.heard.known ≡ old.known
    heard = asserting_known h.liveliness_flag old w r h.count moves k.heard k.asserts

pub heartbeat_learns : (own : GuidPrefix) (at : Receiver) (old : State) (w : Endpoint) (r : ℕ) (entity : EntityId)
    (h : HeartbeatBody) (moves : List Move) (dues : List Due) (new : State)
    → (k : TakesHeartbeat own at old w r entity h moves dues new) → Learns old w r (answered k.answer k.goes.known) new
heartbeat_learns own at old w r entity h moves dues new k = record {
  here = ap (λ (s : State). s.known.tracked w r) k.after
      ∙ (tracked_here k.there.known w r (answered k.answer (k.there.known.tracked w r))
      ∙ ap (λ (t : Tracked). answered k.answer t) gone.here);
  elsewhere = λ v j apart.
      ap (λ (s : State). s.known.tracked v j) k.after
      ∙ (tracked_elsewhere k.there.known w r (answered k.answer (k.there.known.tracked w r)) v j apart
      ∙ (gone.elsewhere v j apart ∙ (begun.elsewhere v j apart ∙ ap (λ (x : Known). x.tracked v j) heard)));
  answered = λ v x.
      ap (λ (s : State). s.known.answered v x) k.after
      ∙ (gone.answered v x ∙ (begun.answered v x ∙ ap (λ (y : Known). y.answered v x) heard));
}
  where
    gone : Learns k.started w r k.goes.known k.there
    gone = way_learns k.started w r k.going k.there k.goes

    begun : KnowsAsMuch k.heard w r k.started
    begun = starts_known (stands_to old w r) k.heard w r h.first_sn k.starting k.started k.starts

    heard : k.heard.known ≡ old.known
    heard = asserting_known h.liveliness_flag old w r h.count k.hearing k.heard k.asserts
