-- The sums of what a datagram holds: reader after reader, and submessage after submessage, as they are read.
use Rattle.std.proofs.Common.{◌≡◌, ℕ, suc, ◌+◌, ◌-◌, ◌<◌, List, [], ◌∷◌, ◌++◌, length, take, get_or, slice_get, Option, Some, subst, ap, sym, ◌∙◌, refl, inl, inr, ⊎_elim, arith}
use Rattle.std.proofs.lemmas.List.{take_more}
use Rattle.dds_protocol.specs.Roster.{Roster}
use Rattle.dds_base.specs.declared.guid.EntityId.{EntityId}
use Rattle.dds_base.specs.declared.guid.GuidPrefix.{GuidPrefix}
use Rattle.dds_base.specs.Kept.{numbers_from}
use Rattle.rtps_wire.specs.declared.data.Data.{Data as DataBody}
use Rattle.rtps_wire.specs.declared.heartbeat.Heartbeat.{Heartbeat as HeartbeatBody}
use Rattle.rtps_wire.specs.declared.message.Message.{Message}
use Rattle.rtps_wire.specs.declared.submessage.Submessage.{Submessage}
use Rattle.rtps_wire.specs.declared.submessage.Submessage.TheVariants.{Data, Heartbeat}
use Rattle.rtps_wire.specs.Frames.{IsEnd}
use Rattle.rtps_wire.specs.Messages.{ReadsFirst, HasHeader, ReadsMessage}
use Rattle.rtps_wire.proofs.MessageLaws.{reads_on, message_read}
use Rattle.dds_base.specs.declared.endpoint.Endpoint.{Endpoint}
use Rattle.dds_protocol.specs.Claims.{Receiver, receiver_of, after_submessage}
use Rattle.dds_protocol.specs.Peer.{Peer}
use Rattle.dds_core.specs.declared.observing.Observed.{Observed}
use Rattle.dds_ends.specs.Kept.{ReaderKept}
use Rattle.dds_core.specs.Kept.{PeerKept}
use Rattle.dds_core.specs.Observing.{Sums, Counts, Observes, OldAt, OldData, OldHeartbeats, ToNobody, one_where}
use Rattle.dds_ends.specs.ObservingKept.{IsOldAtRow}
use Rattle.dds_core.specs.ObservingKept.{CountsOld, ObservesBody, ObservesAll, ObservesFrame, ObservesSubmessage, OldToReaders, SumsBody, ToNobodyOf}
use Rattle.dds_ends.specs.Readiness.{IsNamedFor, NamedBy, writer_guid}
use Rattle.dds_core.specs.Standing.{StandsFor}
use Rattle.dds_ends.proofs.Named.{names_one}
use Rattle.dds_core.proofs.KnownWriters.{row_known, unknown_to}
use Rattle.dds_core.proofs.Named.{first_row, is_to}

-- ---- the readers of a peer

-- one more at the end
sums_last : {X : Type 0} (says : X → ℕ → Type 0) (xs : List X) (x : X) (n m : ℕ) → Sums says xs n → says x m
    → Sums says (xs ++ x ∷ []) (n + m)
sums_last says [] x n m none one = (m, 0, omega (arith, none), one, refl)
sums_last says (y ∷ ys) x n m sum one =
    let parts = sum.2 in
    (sum.0, sum.1 + m, omega (arith, parts), sum.3, sums_last says ys x sum.1 m sum.4 one)

-- one more from the front
pub sums_more : {X : Type 0} (says : X → ℕ → Type 0) (xs : List X) (i : ℕ) (x d : X) (n m : ℕ) → i < length xs
    → x ≡ get_or xs i d → Sums says (take i xs) n → says x m → Sums says (take (i + 1) xs) (n + m)
sums_more says xs i x d n m lt is sum one =
    subst (λ ys. Sums says ys (n + m)) (sym (take_more xs i d lt))
    (sums_last says (take i xs) (get_or xs i d) n m sum (subst (λ y. says y m) is one))

-- to a reader of the peer the submessage is old, as what it keeps of its writer says
old_at : (roster : Roster) (peer : Peer) (kept : PeerKept) (s : StandsFor kept roster peer) (i : ℕ) (k : ReaderKept)
    → slice_get kept.readers i ≡ Some k → (of : Option Endpoint) (at : Receiver) (submessage : Submessage)
    (reader_id writer_id : EntityId)
    → NamedBy submessage reader_id writer_id → (n : ℕ) → CountsOld kept.prefix of at submessage k n
    → OldAt roster kept.prefix peer of at reader_id writer_id submessage (suc i) n
old_at roster peer kept s i k at_k of at submessage reader_id writer_id by n h =
    ⊎_elim
    (λ (f : IsOldAtRow kept.prefix of at submessage k h.0).
    let one = names_one submessage f.named.reader_id f.named.writer_id reader_id writer_id f.named.by by in
    let here : IsNamedFor kept.prefix k at reader_id writer_id f.row =
    subst (λ (w : EntityId). IsNamedFor kept.prefix k at reader_id w f.row) one.1
    (subst (λ (r : EntityId). IsNamedFor kept.prefix k at r f.named.writer_id f.row) one.0 f.named.named) in
    let first = first_row roster peer kept s i k at_k (writer_guid at writer_id) f.row here.first in
    inl (
      here.first.name.writer,
      is_to roster peer kept s i k at_k at reader_id writer_id f.row here,
      row_known roster peer kept s i k at_k f.row here.first.name here.first.at,
      h.2 ∙ ap one_where (f.is here.first.name here.first.at (peer.known.tracked here.first.name.writer (suc i))
          ((s.readers.each i k at_k).knows here.first.name.writer f.row first)),
    ))
    (λ u. inr (
      λ w to. unknown_to roster peer kept s i k at_k at reader_id writer_id w to (u.0 reader_id writer_id by),
      h.2 ∙ ap one_where u.1,
    )) h.1

-- from the readers that a peer keeps to their numbers
of_readers : (roster : Roster) (peer : Peer) (kept : PeerKept) (s : StandsFor kept roster peer) (of : Option Endpoint)
    (at : Receiver) (submessage : Submessage) (reader_id writer_id : EntityId) → NamedBy submessage reader_id writer_id
    → (i : ℕ) (ks : List ReaderKept)
    → ((j : ℕ) (k : ReaderKept) → slice_get ks j ≡ Some k → slice_get kept.readers (i + j) ≡ Some k) → (n : ℕ)
    → Sums (CountsOld kept.prefix of at submessage) ks n
    → Sums (OldAt roster kept.prefix peer of at reader_id writer_id submessage) (numbers_from (1 + i) (length ks)) n
of_readers roster peer kept s of at submessage reader_id writer_id by i [] there n h = h
of_readers roster peer kept s of at submessage reader_id writer_id by i (k ∷ ks) there n h =
    let here : i + 0 ≡ i = omega arith in
    let number : suc i ≡ 1 + i = omega arith in
    let next : 1 + (i + 1) ≡ 1 + i + 1 = omega arith in (
      h.0,
      h.1,
      h.2,
      subst (λ (m : ℕ). OldAt roster kept.prefix peer of at reader_id writer_id submessage m h.0) number
          (old_at roster peer kept s i k
          (subst (λ (m : ℕ). slice_get kept.readers m ≡ Some k) here (there 0 k refl)) of at submessage reader_id writer_id
          by h.0 h.3),
      subst (λ (m : ℕ). Sums (OldAt roster kept.prefix peer of at reader_id writer_id submessage)
          (numbers_from m (length ks)) h.1) next
          (of_readers roster peer kept s of at submessage reader_id writer_id by (i + 1) ks
          (λ j x at_x. subst (λ (m : ℕ). slice_get kept.readers m ≡ Some x) (later j) (there (suc j) x at_x)) h.1 h.4),
    )
  where
    later : (j : ℕ) → i + suc j ≡ i + 1 + j
    later j = omega arith

-- what the readers that a peer keeps say is so of each peer that they stand for
pub old_to_readers : (kept : PeerKept) (of : Option Endpoint) (at : Receiver) (submessage : Submessage) (n : ℕ)
    → Sums (CountsOld kept.prefix of at submessage) kept.readers n → OldToReaders kept of at submessage n
old_to_readers kept of at submessage n sum roster peer s reader_id writer_id by =
    subst (λ (m : ℕ). Sums (OldAt roster kept.prefix peer of at reader_id writer_id submessage) (numbers_from 1 m) n)
    (sym s.readers.rows)
    (of_readers roster peer kept s of at submessage reader_id writer_id by 0 kept.readers
    (λ j k there. subst (λ (m : ℕ). slice_get kept.readers m ≡ Some k) (whole j) there) n sum)
  where
    whole : (j : ℕ) → j ≡ 0 + j
    whole j = omega arith

-- ---- the submessages of a message

-- so much was counted from the front of a body up to what is left: whatever that brings, it is added
abbrev pub CountedTo : GuidPrefix → (Receiver → Submessage → ℕ → Type 0) → GuidPrefix → List ℕ → List ℕ → Receiver → ℕ
    → Type 0
CountedTo own says source body left at n =
    (rest : ℕ) → SumsBody own says at left rest → SumsBody own says (receiver_of source) body (n + rest)

counted_none : (own : GuidPrefix) (says : Receiver → Submessage → ℕ → Type 0) (source : GuidPrefix) (body : List ℕ)
    (at : Receiver) → at ≡ receiver_of source → CountedTo own says source body body at 0
counted_none own says source body at begins rest h =
    let same : rest ≡ 0 + rest = omega arith in
    subst (λ (m : ℕ). SumsBody own says (receiver_of source) body m) same
    (subst (λ (r : Receiver). SumsBody own says r body rest) begins h)

counted_more : (own : GuidPrefix) (says : Receiver → Submessage → ℕ → Type 0) (source : GuidPrefix)
    (body left rest : List ℕ) (at : Receiver) (s : Submessage) (n m total : ℕ) → CountedTo own says source body left at n
    → ReadsFirst left s rest → says at s m → total ≡ n + m
    → CountedTo own says source body rest (after_submessage own at s) total
counted_more own says source body left rest at s n m total so first one is more h =
    let same : n + (m + more) ≡ total + more = omega (arith, is) in
    subst (λ (k : ℕ). SumsBody own says (receiver_of source) body k) same
    (so (m + more) (record {
      submessages = s ∷ h.submessages;
      left = h.left;
      is_read = reads_on left s rest h.submessages h.left first h.is_read;
      sums = (m, more, refl, one, h.sums);
    }))

counted_all : (own : GuidPrefix) (says : Receiver → Submessage → ℕ → Type 0) (source : GuidPrefix)
    (body left : List ℕ) (at : Receiver) (n : ℕ) → CountedTo own says source body left at n → IsEnd left
    → SumsBody own says (receiver_of source) body n
counted_all own says source body left at n so ends =
    let same : n + 0 ≡ n = omega arith in
    subst (λ (k : ℕ). SumsBody own says (receiver_of source) body k) same
    (so 0 (record { submessages = []; left = left; is_read = (ends, refl); sums = refl }))

-- the same of each count
pub record ObservedTo (roster : Roster) (own source : GuidPrefix) (peer : Peer) (of : Option Endpoint)
    (body left : List ℕ) (at : Receiver) (seen : Observed) : Type 0 where
  pub old_data : CountedTo own (OldData roster own peer of) source body left at seen.old_data
  pub old_heartbeats : CountedTo own (OldHeartbeats roster own peer of) source body left at seen.old_heartbeats
  pub to_nobody : CountedTo own (ToNobody roster own peer) source body left at seen.to_nobody

-- the same, for each peer that the values stand for
abbrev pub ObservesTo : PeerKept → Option Endpoint → GuidPrefix → List ℕ → List ℕ → Receiver → Observed → Type 0
ObservesTo kept of source body left at seen =
    (roster : Roster) (peer : Peer) → StandsFor kept roster peer
    → ObservedTo roster kept.prefix source peer of body left at seen

-- two observations together
pub record IsBoth (a b both : Observed) : Type 0 where
  pub old_data : both.old_data ≡ a.old_data + b.old_data
  pub old_heartbeats : both.old_heartbeats ≡ a.old_heartbeats + b.old_heartbeats
  pub to_nobody : both.to_nobody ≡ a.to_nobody + b.to_nobody

abbrev pub nothing : Observed
nothing = record { old_data = 0; old_heartbeats = 0; to_nobody = 0 }

pub observed_none : (kept : PeerKept) (of : Option Endpoint) (source : GuidPrefix) (body : List ℕ) (at : Receiver)
    → at ≡ receiver_of source → ObservesTo kept of source body body at nothing
observed_none kept of source body at begins roster peer s = record {
  old_data = counted_none kept.prefix (OldData roster kept.prefix peer of) source body at begins;
  old_heartbeats = counted_none kept.prefix (OldHeartbeats roster kept.prefix peer of) source body at begins;
  to_nobody = counted_none kept.prefix (ToNobody roster kept.prefix peer) source body at begins;
}

pub observed_more : (kept : PeerKept) (of : Option Endpoint) (source : GuidPrefix) (body left rest : List ℕ) (at now : Receiver)
    (id flags : ℕ) (frame : List ℕ) (seen more both : Observed) → ObservesTo kept of source body left at seen
    → (f : ObservesFrame kept of at id flags frame more now) → ReadsFirst left f.submessage rest → IsBoth seen more both
    → ObservesTo kept of source body rest now both
observed_more kept of source body left rest at now id flags frame seen more both so f first is roster peer s =
    subst (λ (r : Receiver). ObservedTo roster kept.prefix source peer of body rest r both) (sym f.leaves) (record {
      old_data =
          counted_more kept.prefix (OldData roster kept.prefix peer of) source body left rest at f.submessage
          seen.old_data more.old_data both.old_data (so roster peer s).old_data first
          (f.observes roster peer s).old_data is.old_data;
      old_heartbeats =
          counted_more kept.prefix (OldHeartbeats roster kept.prefix peer of) source body left rest at f.submessage
          seen.old_heartbeats more.old_heartbeats both.old_heartbeats (so roster peer s).old_heartbeats first
          (f.observes roster peer s).old_heartbeats is.old_heartbeats;
      to_nobody =
          counted_more kept.prefix (ToNobody roster kept.prefix peer) source body left rest at f.submessage
          seen.to_nobody more.to_nobody both.to_nobody (so roster peer s).to_nobody first
          (f.observes roster peer s).to_nobody is.to_nobody;
    })

pub observed_all : (kept : PeerKept) (of : Option Endpoint) (source : GuidPrefix) (body left : List ℕ) (at : Receiver) (seen : Observed)
    → ObservesTo kept of source body left at seen → IsEnd left → ObservesBody kept of source body seen
observed_all kept of source body left at seen so ends roster peer s = record {
  old_data =
      counted_all kept.prefix (OldData roster kept.prefix peer of) source body left at seen.old_data
      (so roster peer s).old_data ends;
  old_heartbeats =
      counted_all kept.prefix (OldHeartbeats roster kept.prefix peer of) source body left at seen.old_heartbeats
      (so roster peer s).old_heartbeats ends;
  to_nobody =
      counted_all kept.prefix (ToNobody roster kept.prefix peer) source body left at seen.to_nobody
      (so roster peer s).to_nobody ends;
}

-- ---- one submessage

pub observed_data : (kept : PeerKept) (of : Option Endpoint) (at : Receiver) (s : Submessage) (d : DataBody) (n m : ℕ) → s ≡ Data d
    → OldToReaders kept of at s n → ToNobodyOf kept at s m
    → ObservesSubmessage kept of at s (record { old_data = n; old_heartbeats = 0; to_nobody = m })
observed_data kept of at (Data x) d n m is old nobody roster peer stands = record {
  old_data = old roster peer stands x.reader_id x.writer_id (refl, refl);
  old_heartbeats = refl;
  to_nobody = nobody roster peer stands;
}
observed_data kept of at s d n m is old nobody roster peer stands = absurd cc

pub observed_heartbeat : (kept : PeerKept) (of : Option Endpoint) (at : Receiver) (s : Submessage) (h : HeartbeatBody) (n m : ℕ)
    → s ≡ Heartbeat h → OldToReaders kept of at s n → ToNobodyOf kept at s m
    → ObservesSubmessage kept of at s (record { old_data = 0; old_heartbeats = n; to_nobody = m })
observed_heartbeat kept of at (Heartbeat x) h n m is old nobody roster peer stands = record {
  old_data = refl;
  old_heartbeats = old roster peer stands x.reader_id x.writer_id (refl, refl);
  to_nobody = nobody roster peer stands;
}
observed_heartbeat kept of at s h n m is old nobody roster peer stands = absurd cc

pub observed_other : (kept : PeerKept) (of : Option Endpoint) (at : Receiver) (s : Submessage) (m : ℕ) → ((d : DataBody) → s ≡ Data d → ⊥)
    → ((h : HeartbeatBody) → s ≡ Heartbeat h → ⊥) → ToNobodyOf kept at s m
    → ObservesSubmessage kept of at s (record { old_data = 0; old_heartbeats = 0; to_nobody = m })
observed_other kept of at (Data x) m no_data no_heartbeat nobody roster peer stands = absurd (no_data x refl)
observed_other kept of at (Heartbeat x) m no_data no_heartbeat nobody roster peer stands = absurd (no_heartbeat x refl)
observed_other kept of at s m no_data no_heartbeat nobody roster peer stands =
    record { old_data = refl; old_heartbeats = refl; to_nobody = nobody roster peer stands }

-- ---- the whole of a datagram

in_message : (own : GuidPrefix) (says : Receiver → Submessage → ℕ → Type 0) (bytes : List ℕ) (source : GuidPrefix)
    (body : List ℕ) (n : ℕ) → HasHeader bytes source body → SumsBody own says (receiver_of source) body n
    → Counts own says bytes n
in_message own says bytes source body n header b = inl (record {
  message = record { prefix = source; submessages = b.submessages };
  offset = length bytes - length b.left;
  is_read = message_read bytes body b.left source b.submessages header b.is_read;
  sums = b.sums;
})

pub observes_message : (kept : PeerKept) (of : Option Endpoint) (bytes : List ℕ) (source : GuidPrefix) (body : List ℕ) (seen : Observed)
    → HasHeader bytes source body → ObservesBody kept of source body seen → (roster : Roster) (peer : Peer)
    → StandsFor kept roster peer → Observes roster peer of bytes seen
observes_message kept of bytes source body seen header h roster peer s =
    let own = sym s.is_peer.prefix in
    let all : ObservesAll roster kept.prefix source peer of body seen = h roster peer s in
    record {
      old_data =
          subst (λ (p : GuidPrefix). Counts p (OldData roster p peer of) bytes seen.old_data) own
          (in_message kept.prefix (OldData roster kept.prefix peer of) bytes source body seen.old_data header all.old_data);
      old_heartbeats =
          subst (λ (p : GuidPrefix). Counts p (OldHeartbeats roster p peer of) bytes seen.old_heartbeats) own
          (in_message kept.prefix (OldHeartbeats roster kept.prefix peer of) bytes source body seen.old_heartbeats header
          all.old_heartbeats);
      to_nobody =
          subst (λ (p : GuidPrefix). Counts p (ToNobody roster p peer) bytes seen.to_nobody) own
          (in_message kept.prefix (ToNobody roster kept.prefix peer) bytes source body seen.to_nobody header
          all.to_nobody);
    }

pub observes_nothing : (of : Option Endpoint) (bytes : List ℕ)
    → ((source : GuidPrefix) (body : List ℕ) → HasHeader bytes source body → ⊥) → (roster : Roster) (peer : Peer)
    → Observes roster peer of bytes nothing
observes_nothing of bytes none roster peer = record {
  old_data = inr (unread, refl);
  old_heartbeats = inr (unread, refl);
  to_nobody = inr (unread, refl);
}
  where
    unread : (message : Message) (offset : ℕ) → ReadsMessage bytes message offset → ⊥
    unread message offset r = none message.prefix r.body r.header
