-- A writer of a peer and a reader that has a row at it are a pair of the roster.
use Rattle.std.proofs.Common.{◌≡◌, ℕ, zero, suc, Bool, true, false, cond, List, [], ◌∷◌, Some, map, get_or, slice_get, refl, ap, subst, arith}
use Rattle.std.specs.Option.{option_map}
use Rattle.dds_protocol.specs.Roster.{Roster}
use Rattle.dds_base.specs.declared.endpoint.Endpoint.{Endpoint}
use Rattle.dds_machine.specs.Part.{ReaderProxy, Writer, acknowledged_of, no_writer, own_writer, row_of, same_endpoint}
use Rattle.dds_machine.proofs.Tables.{same_is}
use Rattle.dds_protocol.specs.Claims.{IsWriter}
use Rattle.dds_protocol.specs.DueMessages.{writer_entity}
use Rattle.dds_protocol.specs.Peer.{Peer}
use Rattle.dds_protocol.proofs.DuesMatched.{own_name}
use Rattle.dds_protocol.proofs.PairAsked.{has_writer}
use Rattle.dds_protocol.proofs.PairNamed.{PairOf}
use Rattle.dds_ends.specs.declared.matching.ReaderName.{ReaderName}
use Rattle.dds_ends.specs.Kept.{WriterKept}
use Rattle.dds_core.specs.Kept.{PeerKept}
use Rattle.dds_ends.specs.MatchedEnds.{IsReliableName}
use Rattle.dds_core.specs.Standing.{StandsFor}
use Rattle.dds_core.proofs.BeatsDue.{part_of}
use Rattle.dds_ends.proofs.Lists.{element, get-map}
use Rattle.dds_core.proofs.Names.{own_end, own_writer_is}

abbrev reader_of : ReaderProxy → Endpoint
reader_of p = p.reader

-- where a reader's row stands
row_at : (rows : List ReaderProxy) (r : Endpoint) (a : ℕ) → acknowledged_of rows r ≡ Some a
    → (m : ℕ) × (slice_get (map reader_of rows) m ≡ Some r)
row_at [] r a h = absurd cc
row_at (p ∷ ps) r a h = by (same_endpoint p.reader r) refl h (λ k. row_at ps r a k)
  where
    by : (b : Bool) → same_endpoint p.reader r ≡ b
        → option_map (λ (q : ReaderProxy). q.acknowledged)
        (cond b (Some p) (row_of (λ (q : ReaderProxy). q.reader) ps r)) ≡ Some a
        → (acknowledged_of ps r ≡ Some a → (m : ℕ) × (slice_get (map reader_of ps) m ≡ Some r))
        → (m : ℕ) × (slice_get (p.reader ∷ map reader_of ps) m ≡ Some r)
    by true e k later = (zero, ap (λ (x : Endpoint). Some x) (same_is p.reader r e))
    by false e k later = let f = later k in (suc f.0, f.1)

-- a writer of the roster, and a reliable reader that it is matched with
pair_with : (roster : Roster) (writer : Endpoint) (n : ReaderName) → IsWriter roster (roster.prefix writer.peer)
    (writer_entity roster writer.peer writer.number) writer → IsReliableName roster writer n
    → PairOf roster writer n.reader
pair_with roster writer n own name = record {
  pair = record {
    writer_entity = writer_entity roster writer.peer writer.number;
    is_writer = own;
    reader_entity = n.guid.entity;
    is_reader = record { same_prefix = refl; at_reader = name.name_is.is.at_reader };
    matched = name.name_is.matched;
    reliable = name.reliable;
  };
  writer_is = refl;
}

pub pair_kept : (roster : Roster) (peer : Peer) (kept : PeerKept) → StandsFor kept roster peer → (number : ℕ)
    (reader : Endpoint) (a : ℕ) → acknowledged_of (own_writer peer.part number).readers reader ≡ Some a
    → PairOf roster (record { peer = peer.number; number = number }) reader
pair_kept roster peer kept s zero reader a row = absurd cc
pair_kept roster peer kept s (suc j) reader a row =
    let there = has_writer peer.part (suc j) reader (a, row) in
    let high = there.1 in
    let count = s.writers.count in
    let f = element kept.writers j (omega (arith, high, count)) in
    let k : WriterKept = f.0 in
    let w : Writer = get_or peer.part.rtps.writers j no_writer in
    let at = row_at w.readers reader a row in
    let n =
    get-map (λ (x : ReaderName). x.reader) k.readers at.0 reader
    (subst (λ (es : List Endpoint). slice_get es at.0 ≡ Some reader) (s.writers.each j k f.1).readers at.1) in
    let own = (own_name roster peer.number peer.part (part_of roster peer kept s) (suc j) there).name in
    let name : IsReliableName roster (own_end peer.number j) n.0 =
    (own_writer_is roster peer.number kept s.is_peer j k f.1).ends.named at.0 n.0 n.1 in
    subst (λ (e : Endpoint). PairOf roster (own_end peer.number j) e) n.2
    (pair_with roster (own_end peer.number j) n.0 own name)
