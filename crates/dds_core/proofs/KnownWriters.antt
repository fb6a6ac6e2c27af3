-- Which writers of the roster a reader of a peer knows: those that it has a row of. To any other it does not stand.
use Rattle.std.proofs.Common.{◌≡◌, ℕ, zero, suc, Bool, true, false, List, [], ◌∷◌, Option, Some, slice_get, refl, ap, sym, ◌∙◌, subst, inl, inr, ⊎_elim}
use Rattle.std.proofs.lemmas.Option.{same_Some}
use Rattle.std.specs.Prelude.{if◌then◌else◌, is_some}
use Rattle.dds_protocol.specs.Roster.{Roster}
use Rattle.dds_base.specs.declared.endpoint.Endpoint.{Endpoint}
use Rattle.dds_base.specs.declared.guid.EntityId.{EntityId}
use Rattle.dds_machine.specs.Matching.{is_known}
use Rattle.dds_machine.specs.Part.{WriterProxy, own_proxies, row_of, same_endpoint}
use Rattle.dds_protocol.specs.Claims.{IsToReader, Receiver}
use Rattle.dds_protocol.specs.Peer.{Peer}
use Rattle.dds_protocol.proofs.InOrder.{same_self}
use Rattle.dds_ends.specs.declared.matching.WriterName.{WriterName}
use Rattle.dds_ends.specs.Identity.{IsReaderOf, reader_identity}
use Rattle.dds_ends.specs.Kept.{ReaderKept}
use Rattle.dds_ends.specs.MatchedEnds.{IsWriterNamed}
use Rattle.dds_ends.specs.Readiness.{IsNamedFor, writer_guid}
use Rattle.dds_ends.specs.Standing.{HasNoRow}
use Rattle.dds_ends.proofs.Lists.{get-map, map-get}
use Rattle.dds_ends.proofs.Rows.{no_row, proxied, writers_of}
use Rattle.dds_core.specs.Kept.{PeerKept}
use Rattle.dds_core.specs.Standing.{StandsFor}
use Rattle.dds_core.proofs.Named.{first_name}
use Rattle.dds_core.proofs.Names.{one_guid, own_end, own_reader_is}

-- ---- by the rows

-- one that some row is of is known
among : (rows : List WriterProxy) (j : ℕ) (writer : Endpoint) → slice_get (proxied rows) j ≡ Some writer
    → is_known rows writer ≡ true
among [] j writer at = absurd cc
among (p ∷ ps) zero writer at =
    ap (λ (b : Bool). is_some (if b then Some p else row_of (λ (q : WriterProxy). q.writer) ps writer))
    (ap (λ (e : Endpoint). same_endpoint e writer) (same_Some p.writer writer at) ∙ same_self writer)
among (p ∷ ps) (suc j) writer at = by (same_endpoint p.writer writer) (among ps j writer at)
  where
    by : (b : Bool) → is_known ps writer ≡ true
        → is_some (if b then Some p else row_of (λ (q : WriterProxy). q.writer) ps writer) ≡ true
    by true later = refl
    by false later = later

-- the names of the rows say so too
nowhere : (names : List WriterName) (rows : List WriterProxy) (writer : Endpoint)
    → proxied rows ≡ writers_of names → HasNoRow names writer → (j : ℕ) → slice_get (proxied rows) j ≡ Some writer → ⊥
nowhere names rows writer same none j at =
    let f =
    get-map (λ (n : WriterName). n.writer) names j writer
    (subst (λ (es : List Endpoint). slice_get es j ≡ Some writer) same at) in
    none j f.0 f.1 f.2

-- one that no row is of is not known
pub not_known : (rows : List WriterProxy) (names : List WriterName) (writer : Endpoint)
    → proxied rows ≡ writers_of names → HasNoRow names writer → is_known rows writer ≡ false
not_known rows names writer same none =
    ap (λ (o : Option WriterProxy). is_some o)
    (no_row (λ (p : WriterProxy). p.writer) rows writer (nowhere names rows writer same none))

-- ---- by the peer

-- a reader knows the writer of a row
pub row_known : (roster : Roster) (peer : Peer) (kept : PeerKept) → StandsFor kept roster peer → (i : ℕ)
    (k : ReaderKept) → slice_get kept.readers i ≡ Some k → (row : ℕ) (name : WriterName)
    → slice_get k.writers row ≡ Some name → is_known (own_proxies peer.part (suc i)) name.writer ≡ true
row_known roster peer kept s i k at_k row name at =
    let rows : List WriterProxy = own_proxies peer.part (suc i) in
    among rows row name.writer
    (subst (λ (es : List Endpoint). slice_get es row ≡ Some name.writer) (sym (s.readers.each i k at_k).writers_are)
    (map-get (λ (n : WriterName). n.writer) k.writers row name at))

-- it knows no writer that it has no row of
unknown_there : (roster : Roster) (peer : Peer) (kept : PeerKept) → StandsFor kept roster peer → (i : ℕ)
    (k : ReaderKept) → slice_get kept.readers i ≡ Some k → (writer : Endpoint) → HasNoRow k.writers writer
    → is_known (own_proxies peer.part (suc i)) writer ≡ false
unknown_there roster peer kept s i k at_k writer none =
    not_known (own_proxies peer.part (suc i)) k.writers writer (s.readers.each i k at_k).writers_are none

-- ---- by the roster

-- a reader has no row of a writer of whose submessage it is told nothing, though that is to it
has_none : (roster : Roster) (peer : Peer) (kept : PeerKept) (s : StandsFor kept roster peer) (i : ℕ)
    (k : ReaderKept) → slice_get kept.readers i ≡ Some k
    → (at : Receiver) (reader_id writer_id : EntityId) (w : Endpoint)
    → IsToReader roster kept.prefix at reader_id writer_id w (record { peer = peer.number; number = suc i })
    → ((n : ℕ) → IsNamedFor kept.prefix k at reader_id writer_id n → ⊥) → HasNoRow k.writers w
has_none roster peer kept s i k at_k at reader_id writer_id w to none j name at_j is =
    let own : IsReaderOf roster (own_end peer.number i) (reader_identity k) =
    own_reader_is roster peer.number kept s.is_peer i k at_k in
    let entity : to.entity ≡ k.entity = same_Some to.entity k.entity (sym to.to.at_reader ∙ own.entity) in
    let named : IsWriterNamed roster (own_end peer.number i) name = own.writers j name at_j in
    let guid : name.guid ≡ writer_guid at writer_id =
    one_guid roster name.guid (writer_guid at writer_id) name.writer w named.is to.from is in
    first_name k.writers (writer_guid at writer_id) j name at_j guid
    (λ n f. none n
    (record { is_for = to.is_for; named = ⊎_elim (λ e. inl (e ∙ entity)) (λ u. inr u) to.named; first = f }))

-- and so it does not know that one
pub unknown_to : (roster : Roster) (peer : Peer) (kept : PeerKept) (s : StandsFor kept roster peer) (i : ℕ)
    (k : ReaderKept) → slice_get kept.readers i ≡ Some k
    → (at : Receiver) (reader_id writer_id : EntityId) (w : Endpoint)
    → IsToReader roster kept.prefix at reader_id writer_id w (record { peer = peer.number; number = suc i })
    → ((n : ℕ) → IsNamedFor kept.prefix k at reader_id writer_id n → ⊥)
    → is_known (own_proxies peer.part (suc i)) w ≡ false
unknown_to roster peer kept s i k at_k at reader_id writer_id w to none =
    unknown_there roster peer kept s i k at_k w
    (has_none roster peer kept s i k at_k at reader_id writer_id w to none)
