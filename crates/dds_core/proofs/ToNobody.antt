-- Whether a submessage concerns somebody at a peer: by the rows that the peer keeps, and by the roster.
use Rattle.std.proofs.Common.{◌≡◌, ℕ, zero, suc, List, [], Some, None, Option, Bool, true, false, map, get_or, slice_get, subst, ap, sym, refl, inl, inr, ⊎_elim, arith}
use Rattle.std.specs.Prelude.{IsSome}
use Rattle.dds_protocol.specs.Roster.{Roster}
use Rattle.dds_base.specs.declared.guid.EntityId.{EntityId}
use Rattle.dds_base.specs.declared.guid.GuidPrefix.{GuidPrefix}
use Rattle.rtps_wire.specs.declared.acknack.AckNack.{AckNack as AckNackBody}
use Rattle.rtps_wire.specs.declared.submessage.Submessage.{Submessage}
use Rattle.rtps_wire.specs.declared.submessage.Submessage.TheVariants.{Pad, InfoDst, InfoTs, Data, Heartbeat, AckNack, Gap, Other}
use Rattle.dds_base.specs.declared.endpoint.Endpoint.{Endpoint}
use Rattle.dds_machine.specs.Matching.{is_known}
use Rattle.dds_machine.specs.Numbered.{HasNumber}
use Rattle.dds_machine.specs.Part.{ReaderProxy, Writer, WriterProxy, acknowledged_of, no_writer, own_writer}
use Rattle.dds_machine.proofs.Tables.{number_there}
use Rattle.dds_protocol.specs.Claims.{Receiver, is_for, IsToReader, IsToWriter}
use Rattle.dds_protocol.specs.Peer.{Peer}
use Rattle.dds_ends.specs.declared.matching.ReaderName.{ReaderName}
use Rattle.dds_ends.specs.declared.matching.WriterName.{WriterName}
use Rattle.dds_ends.specs.Kept.{ReaderKept, WriterKept}
use Rattle.dds_core.specs.Kept.{PeerKept}
use Rattle.dds_core.specs.Observing.{ConcernsPeer, IsToKnowing, knows_writer, speaks}
use Rattle.dds_core.specs.ObservingKept.{IsNamedReader, NamesNoReader, IsNamedWriter, NamesNoWriter, ToNobodyOf}
use Rattle.dds_ends.specs.Readiness.{NamedBy, NamesNobody}
use Rattle.dds_core.specs.Standing.{StandsFor}
use Rattle.dds_ends.proofs.Lists.{element, map-get}
use Rattle.dds_core.proofs.KnownWriters.{row_known, unknown_to}
use Rattle.dds_core.proofs.Named.{is_to}
use Rattle.dds_core.proofs.Names.{own_end}
use Rattle.dds_core.proofs.Pairs.{not_among, some_row}
use Rattle.dds_core.proofs.RowsAnswered.{IsOwn, own_is, to_writer, from_reader}

-- ---- a submessage of a writer

speaks_named : (s : Submessage) (r w : EntityId) → NamedBy s r w → speaks s ≡ true
speaks_named (Data d) r w by = refl
speaks_named (Gap g) r w by = refl
speaks_named (Heartbeat h) r w by = refl
speaks_named s r w by = absurd by

-- whom a submessage of a writer concerns, by the ids that it names
concerns_named : (roster : Roster) (own : GuidPrefix) (peer : Peer) (at : Receiver) (s : Submessage) (r w : EntityId)
    → NamedBy s r w → IsToKnowing roster own peer at r w → ConcernsPeer roster own peer at s
concerns_named roster own peer at (Data d) r w by to =
    subst (λ (x : EntityId). IsToKnowing roster own peer at x d.writer_id) by.0
    (subst (λ (x : EntityId). IsToKnowing roster own peer at r x) by.1 to)
concerns_named roster own peer at (Gap d) r w by to =
    subst (λ (x : EntityId). IsToKnowing roster own peer at x d.writer_id) by.0
    (subst (λ (x : EntityId). IsToKnowing roster own peer at r x) by.1 to)
concerns_named roster own peer at (Heartbeat d) r w by to =
    subst (λ (x : EntityId). IsToKnowing roster own peer at x d.writer_id) by.0
    (subst (λ (x : EntityId). IsToKnowing roster own peer at r x) by.1 to)
concerns_named roster own peer at s r w by to = absurd by

named_concerns : (roster : Roster) (own : GuidPrefix) (peer : Peer) (at : Receiver) (s : Submessage) (r w : EntityId)
    → NamedBy s r w → ConcernsPeer roster own peer at s → IsToKnowing roster own peer at r w
named_concerns roster own peer at (Data d) r w by c =
    subst (λ (x : EntityId). IsToKnowing roster own peer at x w) (sym by.0)
    (subst (λ (x : EntityId). IsToKnowing roster own peer at d.reader_id x) (sym by.1) c)
named_concerns roster own peer at (Gap d) r w by c =
    subst (λ (x : EntityId). IsToKnowing roster own peer at x w) (sym by.0)
    (subst (λ (x : EntityId). IsToKnowing roster own peer at d.reader_id x) (sym by.1) c)
named_concerns roster own peer at (Heartbeat d) r w by c =
    subst (λ (x : EntityId). IsToKnowing roster own peer at x w) (sym by.0)
    (subst (λ (x : EntityId). IsToKnowing roster own peer at d.reader_id x) (sym by.1) c)
named_concerns roster own peer at s r w by c = absurd by

not_both : (b : Bool) → b ≡ true → b ≡ false → ⊥
not_both b is none = cc

-- it names a reader that the peer keeps
pub somebody_named : (kept : PeerKept) (at : Receiver) (s : Submessage) (r w : EntityId) (index : ℕ) → NamedBy s r w
    → IsNamedReader kept.prefix at r w kept.readers index → ToNobodyOf kept at s 0
somebody_named kept at s r w index by named roster peer stands =
    let name : WriterName = named.named.first.name in
    inr (
      refl,
      inr (inr (concerns_named roster kept.prefix peer at s r w by (
        name.writer,
        record { peer = peer.number; number = suc index },
        is_to roster peer kept stands index named.reader named.there at r w named.row named.named,
        refl,
        row_known roster peer kept stands index named.reader named.there named.row name named.named.first.at,
      ))),
    )

-- a reader of the peer that knows some writer, as the peer keeps it
knowing_reader : (roster : Roster) (peer : Peer) (kept : PeerKept) → StandsFor kept roster peer → (number : ℕ)
    (writer : Endpoint) → knows_writer peer number writer ≡ true
    → (i : ℕ) × (number ≡ suc i) × (k : ReaderKept) × (slice_get kept.readers i ≡ Some k)
knowing_reader roster peer kept s zero writer knows = absurd (let clash : false ≡ true = knows in cc)
knowing_reader roster peer kept s (suc i) writer knows =
    ⊎_elim
    (λ (there : HasNumber peer.part.rtps.readers (suc i)).
    let high = there.1 in
    let rows = s.readers.rows in
    let k = element kept.readers i (omega (arith, high, rows)) in (i, refl, k.0, k.1))
    (λ none. absurd
    (not_both (knows_writer peer (suc i) writer) knows (ap (λ (ps : List WriterProxy). is_known ps writer) none)))
    (number_there peer.part.rtps.readers (suc i) [])

-- it names none
pub nobody_named : (kept : PeerKept) (at : Receiver) (s : Submessage) (r w : EntityId) → NamedBy s r w
    → is_for at kept.prefix ≡ true → NamesNoReader kept.prefix at r w kept.readers → ToNobodyOf kept at s 1
nobody_named kept at s r w by here none roster peer stands =
    inl (
      refl,
      speaks_named s r w by,
      here,
      λ c.
          let h : IsToKnowing roster kept.prefix peer at r w = named_concerns roster kept.prefix peer at s r w by c in
          let f = knowing_reader roster peer kept stands h.1.number h.0 h.4 in
          let to : IsToReader roster kept.prefix at r w h.0 (record { peer = peer.number; number = suc f.0 }) =
          subst (λ (m : ℕ). IsToReader roster kept.prefix at r w h.0 (record { peer = peer.number; number = m })) f.1
          (subst (λ (m : ℕ). IsToReader roster kept.prefix at r w h.0 (record { peer = m; number = h.1.number })) h.3
          h.2) in
          not_both (knows_writer peer h.1.number h.0) h.4
          (subst (λ (m : ℕ). knows_writer peer m h.0 ≡ false) (sym f.1)
          (unknown_to roster peer kept stands f.0 f.2 f.3 at r w h.0 to
          (λ row named. none f.0 f.2 f.3 row named))),
    )

-- ---- an ACKNACK

-- it is from a reader of a writer that the peer keeps
pub somebody_asked : (kept : PeerKept) (at : Receiver) (a : AckNackBody) (index : ℕ)
    → IsNamedWriter kept.prefix at a kept.writers index → ToNobodyOf kept at (AckNack a) 0
somebody_asked kept at a index named roster peer stands =
    let k : WriterKept = named.writer in
    let o : IsOwn roster kept peer.number index k = own_is roster peer kept stands index k named.at_writer in
    let name : ReaderName = named.from.name in
    let w : Writer = get_or peer.part.rtps.writers index no_writer in
    let rows = (stands.writers.each index k named.at_writer).readers in
    let there : slice_get (map (λ (p : ReaderProxy). p.reader) w.readers) named.row ≡ Some name.reader =
    subst (λ (es : List Endpoint). slice_get es named.row ≡ Some name.reader) (sym rows)
    (map-get (λ (n : ReaderName). n.reader) k.readers named.row name named.from.there) in
    inr (
      refl,
      inr (inr (
        suc index,
        name.reader,
        to_writer roster peer kept index k o at a name (o.named named.row name named.from.there) named.from.from,
        some_row w.readers name.reader named.row there,
      )),
    )

not_some : (o : Option ℕ) → o ≡ None → IsSome o → ⊥
not_some None is h = cc
not_some (Some n) is h = cc

-- a writer of the peer that is matched with some reader, as the peer keeps it
matched_writer : (roster : Roster) (peer : Peer) (kept : PeerKept) → StandsFor kept roster peer → (number : ℕ)
    (reader : Endpoint) → IsSome (acknowledged_of (own_writer peer.part number).readers reader)
    → (i : ℕ) × (number ≡ suc i) × (k : WriterKept) × (slice_get kept.writers i ≡ Some k)
matched_writer roster peer kept s zero reader matched = absurd (let clash : false ≡ true = matched in cc)
matched_writer roster peer kept s (suc i) reader matched =
    ⊎_elim
    (λ (there : HasNumber peer.part.rtps.writers (suc i)).
    let high = there.1 in
    let count = s.writers.count in
    let k = element kept.writers i (omega (arith, high, count)) in (i, refl, k.0, k.1))
    (λ none. absurd
    (not_some (acknowledged_of (own_writer peer.part (suc i)).readers reader)
    (ap (λ (w : Writer). acknowledged_of w.readers reader) none) matched))
    (number_there peer.part.rtps.writers (suc i) no_writer)

-- it is from none
pub nobody_asked : (kept : PeerKept) (at : Receiver) (a : AckNackBody) → is_for at kept.prefix ≡ true
    → NamesNoWriter kept.prefix at a kept.writers → ToNobodyOf kept at (AckNack a) 1
nobody_asked kept at a here none roster peer stands =
    inl (
      refl,
      refl,
      here,
      λ c.
          let f = matched_writer roster peer kept stands c.0 c.1 c.3 in
          let i : ℕ = f.0 in
          let k : WriterKept = f.2 in
          let next = f.1 in
          let o : IsOwn roster kept peer.number i k = own_is roster peer kept stands i k f.3 in
          let to : IsToWriter roster kept.prefix at a.reader_id a.writer_id (own_end peer.number i) c.1 =
          subst (λ (m : ℕ). IsToWriter roster kept.prefix at a.reader_id a.writer_id
          (record { peer = peer.number; number = m }) c.1) next c.2 in
          not_some (acknowledged_of (own_writer peer.part c.0).readers c.1)
          (not_among kept i c.0 k c.1 (omega (arith, next)) f.3
          (λ j n there same. none i k f.3 j n there
          (from_reader roster peer kept i k o at a n (o.named j n there)
          (subst (λ (e : Endpoint). IsToWriter roster kept.prefix at a.reader_id a.writer_id (own_end peer.number i) e)
          (sym same) to))) roster peer stands) c.3,
    )

-- ---- what concerns nobody

-- this part of the message is for another peer
pub for_another : (kept : PeerKept) (at : Receiver) (s : Submessage) → is_for at kept.prefix ≡ false
    → ToNobodyOf kept at s 0
for_another kept at s other roster peer stands = inr (refl, inr (inl other))

-- it speaks to no end
pub says_nothing : (kept : PeerKept) (at : Receiver) (s : Submessage) → ((a : AckNackBody) → s ≡ AckNack a → ⊥)
    → NamesNobody s → ToNobodyOf kept at s 0
says_nothing kept at (Data d) other nobody roster peer stands = absurd (nobody d.reader_id d.writer_id (refl, refl))
says_nothing kept at (Gap d) other nobody roster peer stands = absurd (nobody d.reader_id d.writer_id (refl, refl))
says_nothing kept at (Heartbeat d) other nobody roster peer stands =
    absurd (nobody d.reader_id d.writer_id (refl, refl))
says_nothing kept at (AckNack a) other nobody roster peer stands = absurd (other a refl)
says_nothing kept at Pad other nobody roster peer stands = inr (refl, inl refl)
says_nothing kept at (InfoDst p) other nobody roster peer stands = inr (refl, inl refl)
says_nothing kept at (InfoTs t) other nobody roster peer stands = inr (refl, inl refl)
says_nothing kept at (Other n) other nobody roster peer stands = inr (refl, inl refl)
