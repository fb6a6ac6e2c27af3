-- A submessage whose body is not read yet is taken up as the one that it is.
use Rattle.std.proofs.Common.{◌≡◌, ℕ, List, Option, refl, inl}
use Rattle.std.specs.Prelude.{Result, Ok, Err, OnErr, OnOk}
use Rattle.dds_base.specs.declared.guid.GuidPrefix.{GuidPrefix}
use Rattle.rtps_wire.specs.declared.acknack.AckNack.{AckNack as AckNackBody}
use Rattle.rtps_wire.specs.declared.submessage.Submessage.{Submessage}
use Rattle.rtps_wire.specs.declared.submessage.Submessage.TheVariants.{Pad, InfoDst, InfoTs, Data, Heartbeat, AckNack, Gap, Other}
use Rattle.rtps_wire.specs.Submessages.{Reads}
use Rattle.dds_protocol.specs.Claims.{Receiver, after_submessage}
use Rattle.dds_core.specs.declared.effects.Effects.{Effects}
use Rattle.dds_core.specs.Kept.{PeerKept}
use Rattle.dds_ends.specs.Readiness.{NamesNobody}
use Rattle.dds_core.specs.Receiving.{FrameNeedsMemory, NeedsMemory, TakesFrame, TakesOneMore}
use Rattle.dds_core.proofs.Taking.{readers_take}
use Rattle.dds_core.proofs.Turns.{nobody_told}

-- one that names nobody is taken up, and nothing is done
pub nothing_taken : (old : PeerKept) (at : Receiver) (s : Submessage) (effects : Effects)
    → ((a : AckNackBody) → s ≡ AckNack a → ⊥) → NamesNobody s → TakesOneMore old at s effects old effects
nothing_taken old at s effects other nobody =
    readers_take old old at s effects effects other
    (nobody_told old at s effects (λ i k there. inl (λ reader_id writer_id by row named. nobody reader_id writer_id by)))

-- one that speaks to the receiver alone is taken up, and nothing is done
pub takes_for_receiver : (old : PeerKept) (at : Receiver) (id flags : ℕ) (body : List ℕ) (s : Submessage)
    (effects : Effects) (left : Receiver) → ((a : AckNackBody) → s ≡ AckNack a → ⊥) → NamesNobody s
    → Reads id flags body s → left ≡ after_submessage old.prefix at s
    → TakesFrame old at id flags body effects old effects left
takes_for_receiver old at id flags body s effects left other nobody read leaves = record {
  submessage = s;
  is_read = read;
  takes = nothing_taken old at s effects other nobody;
  leaves = leaves;
}

-- any other one leaves the receiver as it was
pub stays : (own : GuidPrefix) (at : Receiver) (id flags : ℕ) (body : List ℕ) (s : Submessage) → Reads id flags body s
    → ((prefix : GuidPrefix) → Reads id flags body (InfoDst prefix) → ⊥)
    → ((moment : Option ℕ) → Reads id flags body (InfoTs moment) → ⊥) → at ≡ after_submessage own at s
stays own at id flags body (InfoDst prefix) read no_dst no_ts = absurd (no_dst prefix read)
stays own at id flags body (InfoTs moment) read no_dst no_ts = absurd (no_ts moment read)
stays own at id flags body Pad read no_dst no_ts = refl
stays own at id flags body (Data d) read no_dst no_ts = refl
stays own at id flags body (Heartbeat h) read no_dst no_ts = refl
stays own at id flags body (AckNack a) read no_dst no_ts = refl
stays own at id flags body (Gap g) read no_dst no_ts = refl
stays own at id flags body (Other n) read no_dst no_ts = refl

pub takes_other_if : {A B : Type 0} (answer : Result A B) (old new : PeerKept) (at : Receiver) (id flags : ℕ)
    (body : List ℕ) (s : Submessage) (effects after : Effects) → Reads id flags body s
    → ((prefix : GuidPrefix) → Reads id flags body (InfoDst prefix) → ⊥)
    → ((moment : Option ℕ) → Reads id flags body (InfoTs moment) → ⊥)
    → OnOk answer (TakesOneMore old at s effects new after)
    → OnOk answer (TakesFrame old at id flags body effects new after at)
takes_other_if (Ok x) old new at id flags body s effects after read no_dst no_ts takes = record {
  submessage = s;
  is_read = read;
  takes = takes;
  leaves = stays old.prefix at id flags body s read no_dst no_ts;
}
takes_other_if (Err e) old new at id flags body s effects after read no_dst no_ts takes = tt

pub needs_if_other : {A B : Type 0} (answer : Result A B) (old : PeerKept) (at : Receiver) (id flags : ℕ)
    (body : List ℕ) (s : Submessage) → Reads id flags body s → OnErr answer (NeedsMemory old at s)
    → OnErr answer (FrameNeedsMemory old at id flags body)
needs_if_other (Ok x) old at id flags body s read needs = tt
needs_if_other (Err e) old at id flags body s read needs = record { submessage = s; is_read = read; needs = needs }
