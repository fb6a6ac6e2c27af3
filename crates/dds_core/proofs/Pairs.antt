-- A writer and a reader that it is matched with, and the place of a reader, by what a peer keeps.
use Rattle.std.proofs.Common.{◌≡◌, ℕ, zero, suc, ◌+◌, ◌<◌, ◌≤◌, Bool, true, false, cond, List, [], ◌∷◌, Option, Some, None, map, length, get_or, slice_get, refl, ap, sym, ◌∙◌, subst, arith}
use Rattle.std.specs.Prelude.{◌&&◌, nat_lt, nat_le, IsSome, slice_index}
use Rattle.std.specs.Option.{option_map, option_map_or}
use Rattle.std.proofs.lemmas.Bool.Decides.{nat_tests}
use Rattle.std.proofs.lemmas.Option.{same_Some}
use Rattle.dds_protocol.specs.Roster.{Roster}
use Rattle.dds_base.specs.declared.guid.EntityId.{EntityId}
use Rattle.rtps_reader.specs.Tracked.{Tracked}
use Rattle.dds_base.specs.declared.endpoint.Endpoint.{Endpoint}
use Rattle.dds_machine.specs.Part.{ReaderProxy, Writer, WriterProxy, no_writer, own_proxies, same_endpoint, row_of, acknowledged_of, is_reader_behind, place_of, writer_changes}
use Rattle.dds_protocol.specs.Peer.{Peer}
use Rattle.dds_protocol.specs.DueMessages.{reader_entity, writer_entity}
use Rattle.dds_machine.proofs.Tables.{same_is}
use Rattle.dds_protocol.proofs.InOrder.{same_self}
use Rattle.dds_protocol.specs.Contact.{Contact}
use Rattle.dds_ends.specs.declared.matching.ReaderName.{ReaderName}
use Rattle.dds_ends.specs.declared.matching.WriterName.{WriterName}
use Rattle.dds_core.specs.declared.pairing.Pair.{Pair}
use Rattle.dds_ends.specs.Kept.{ReaderKept, WriterKept}
use Rattle.dds_core.specs.Kept.{PeerKept}
use Rattle.dds_core.specs.Pairs.{IsPair}
use Rattle.dds_ends.specs.Readiness.{IsPlaceAt}
use Rattle.dds_ends.specs.Standing.{WriterStands, IsFirstReader, IsFirstRow}
use Rattle.dds_core.specs.Standing.{StandsFor}
use Rattle.dds_core.proofs.BeatsDue.{named_reader, readers_named, writer_named}
use Rattle.dds_ends.proofs.Lists.{get-map, map-get, past_end}
use Rattle.dds_core.proofs.Names.{own_end}
use Rattle.dds_ends.proofs.Rows.{IsFirstOf, is_first_of, no_row, place_there, proxied}

-- rows of matched readers

abbrev reader_of : ReaderProxy → Endpoint
reader_of p = p.reader

-- a reader that a row is of
first_row : (b : Bool) (r : ReaderProxy) (rs : List ReaderProxy) (reader : Endpoint)
    → (b ≡ false → IsSome (acknowledged_of rs reader))
    → IsSome (option_map (λ (p : ReaderProxy). p.acknowledged) (cond b (Some r) (row_of reader_of rs reader)))
first_row true r rs reader rest = refl
first_row false r rs reader rest = rest refl

pub some_row : (rows : List ReaderProxy) (reader : Endpoint) (j : ℕ) → slice_get (map reader_of rows) j ≡ Some reader
    → IsSome (acknowledged_of rows reader)
some_row [] reader j at = absurd cc
some_row (r ∷ rs) reader zero at =
    let same : same_endpoint r.reader reader ≡ true =
    subst (λ (e : Endpoint). same_endpoint r.reader e ≡ true) (same_Some r.reader reader at) (same_self r.reader)
    in
    first_row (same_endpoint r.reader reader) r rs reader (λ other. absurd cc)
some_row (r ∷ rs) reader (suc j) at =
    first_row (same_endpoint r.reader reader) r rs reader (λ other. some_row rs reader j at)

-- what the first row of a reader says of it
behind_later : (b : Bool) (r : ReaderProxy) (rs : List ReaderProxy) (reader : Endpoint) (last a : ℕ)
    → same_endpoint r.reader reader ≡ b → (r.reader ≡ reader → ⊥)
    → option_map_or (λ x. nat_le x last) (acknowledged_of rs reader) false ≡ nat_le a last
    → option_map_or (λ x. nat_le x last)
    (option_map (λ (p : ReaderProxy). p.acknowledged) (cond b (Some r) (row_of reader_of rs reader))) false
    ≡ nat_le a last
behind_later true r rs reader last a is other rest = absurd (other (same_is r.reader reader is))
behind_later false r rs reader last a is other rest = rest

behind_at : (rows : List ReaderProxy) (reader : Endpoint) (k last : ℕ) → slice_get (map reader_of rows) k ≡ Some reader
    → ((j : ℕ) → j < k → slice_get (map reader_of rows) j ≡ Some reader → ⊥)
    → option_map_or (λ x. nat_le x last) (acknowledged_of rows reader) false
    ≡ nat_le (slice_index (map (λ (p : ReaderProxy). p.acknowledged) rows) k) last
behind_at [] reader k last at first = absurd cc
behind_at (r ∷ rs) reader zero last at first =
    let same : same_endpoint r.reader reader ≡ true =
    subst (λ (e : Endpoint). same_endpoint r.reader e ≡ true) (same_Some r.reader reader at) (same_self r.reader)
    in
    ap (λ (b : Bool). option_map_or (λ x. nat_le x last)
    (option_map (λ (p : ReaderProxy). p.acknowledged) (cond b (Some r) (row_of reader_of rs reader))) false) same
behind_at (r ∷ rs) reader (suc k) last at first =
    behind_later (same_endpoint r.reader reader) r rs reader last
    (slice_index (map (λ (p : ReaderProxy). p.acknowledged) rs) k) refl
    (λ same. first zero (omega arith) (ap (λ (e : Endpoint). Some e) same))
    (behind_at rs reader k last at (λ j low there. first (suc j) (omega (arith, low)) there))

-- no writer has this number, or no reader

past_last : (n count : ℕ) → (nat_lt 0 (suc n) && nat_le (suc n) count) ≡ false → count ≤ n
past_last n count none = grind (arith, nat_tests, none)

pub no_writer_pair : (kept : PeerKept) (number : ℕ) (reader : Endpoint)
    → (nat_lt 0 number && nat_le number (length kept.writers)) ≡ false → (roster : Roster) (peer : Peer)
    → StandsFor kept roster peer → IsPair roster peer number reader None
no_writer_pair kept zero reader none roster peer s = refl
no_writer_pair kept (suc n) reader none roster peer s =
    let count = s.writers.count in
    let past = past_last n (length kept.writers) none in
    ap (λ (w : Writer). acknowledged_of w.readers reader)
    (past_end peer.part.rtps.writers n no_writer (omega (arith, count, past)))

pub no_reader_place : (kept : PeerKept) (number : ℕ) (writer : Endpoint)
    → (nat_lt 0 number && nat_le number (length kept.readers)) ≡ false
    → (roster : Roster) (peer : Peer) → StandsFor kept roster peer
    → None ≡ place_of (own_proxies peer.part number) writer
no_reader_place kept zero writer none roster peer s = refl
no_reader_place kept (suc n) writer none roster peer s =
    let rows = s.readers.rows in
    let past = past_last n (length kept.readers) none in
    sym (ap (λ (ps : List WriterProxy). place_of ps writer)
    (past_end peer.part.rtps.readers n [] (omega (arith, rows, past))))

-- a writer has this number, and the reader is one of its matched readers, or is not

pub not_among : (kept : PeerKept) (i number : ℕ) (k : WriterKept) (reader : Endpoint) → number ≡ i + 1
    → slice_get kept.writers i ≡ Some k
    → ((j : ℕ) (n : ReaderName) → slice_get k.readers j ≡ Some n → n.reader ≡ reader → ⊥)
    → (roster : Roster) (peer : Peer) → StandsFor kept roster peer → IsPair roster peer number reader None
not_among kept i number k reader is at none roster peer s =
    let w : Writer = get_or peer.part.rtps.writers i no_writer in
    let rows = (s.writers.each i k at).readers in
    let nobody : acknowledged_of w.readers reader ≡ None =
    ap (λ (o : Option ReaderProxy). option_map (λ (p : ReaderProxy). p.acknowledged) o)
    (no_row reader_of w.readers reader
    (λ j there.
    let f =
    get-map (λ (r : ReaderName). r.reader) k.readers j reader
    (subst (λ (es : List Endpoint). slice_get es j ≡ Some reader) rows there) in
    none j f.0 f.1 f.2)) in
    let next : suc i ≡ number = omega (arith, is) in
    subst (λ (m : ℕ). IsPair roster peer m reader None) next nobody

-- a pair, by what the peer keeps of the writer
abbrev pair_of : WriterKept → EntityId → Bool → ℕ → Pair
pair_of k entity behind last = record { writer = k.entity; reader = entity; is_behind = behind; last = last }

pub is_among : (kept : PeerKept) (i number : ℕ) (k : WriterKept) (reader : Endpoint) (row : ℕ) (behind : Bool)
    (last : ℕ)
    → number ≡ i + 1 → slice_get kept.writers i ≡ Some k
    → (f : IsFirstReader k.readers reader row)
    → ((w : Writer) (answered : Endpoint → Contact) → WriterStands k w answered
    → behind ≡ nat_le (slice_index (map (λ (p : ReaderProxy). p.acknowledged) w.readers) row)
    (length (writer_changes w)))
    → ((w : Writer) (answered : Endpoint → Contact) → WriterStands k w answered → last ≡ length (writer_changes w))
    → (roster : Roster) (peer : Peer) → StandsFor kept roster peer
    → IsPair roster peer number reader (Some (pair_of k f.name.guid.entity behind last))
is_among kept i number k reader row behind last is at f is_behind is_last roster peer s =
    let w : Writer = get_or peer.part.rtps.writers i no_writer in
    let stands = s.writers.each i k at in
    let rows = stands.readers in
    let reader_at : (j : ℕ) (n : ReaderName) → slice_get k.readers j ≡ Some n
    → slice_get (map reader_of w.readers) j ≡ Some n.reader = λ j n there.
    subst (λ (es : List Endpoint). slice_get es j ≡ Some n.reader) (sym rows)
    (map-get (λ (r : ReaderName). r.reader) k.readers j n there) in
    let there : slice_get (map reader_of w.readers) row ≡ Some reader =
    reader_at row f.name f.at ∙ ap (λ (e : Endpoint). Some e) f.is in
    let none : (j : ℕ) → j < row → slice_get (map reader_of w.readers) j ≡ Some reader → ⊥ = λ j low found.
    let g =
    get-map (λ (r : ReaderName). r.reader) k.readers j reader
    (subst (λ (es : List Endpoint). slice_get es j ≡ Some reader) rows found) in
    f.first j g.0 low g.1 g.2 in
    let next : suc i ≡ number = omega (arith, is) in
    let first : 1 + i ≡ suc i = omega arith in
    let own : k.entity ≡ writer_entity roster peer.number (suc i) =
    subst (λ (m : ℕ). k.entity ≡ writer_entity roster peer.number m) first
    (sym (writer_named roster peer kept s i k at)) in
    let far : f.name.guid.entity ≡ reader_entity roster reader.peer reader.number =
    subst (λ (e : Endpoint). f.name.guid.entity ≡ reader_entity roster e.peer e.number) f.is
    (named_reader roster (own_end peer.number i) f.name
    (readers_named roster peer kept s i k at row f.name f.at).name_is) in
    let still : behind ≡ is_reader_behind w reader =
    is_behind w (peer.known.answered (suc i)) stands
    ∙ sym (behind_at w.readers reader row (length (writer_changes w)) there none) in
    let made : last ≡ length (writer_changes w) = is_last w (peer.known.answered (suc i)) stands in
    let pair : IsPair roster peer (suc i) reader (Some (pair_of k f.name.guid.entity behind last)) =
    (some_row w.readers reader row there, own, far, still, made) in
    subst (λ (m : ℕ). IsPair roster peer m reader (Some (pair_of k f.name.guid.entity behind last))) next pair

-- a reader has this number, and the writer is one of its matched writers, or is not

pub no_place : (kept : PeerKept) (i number : ℕ) (k : ReaderKept) (writer : Endpoint) → number ≡ i + 1
    → slice_get kept.readers i ≡ Some k
    → ((j : ℕ) (n : WriterName) → slice_get k.writers j ≡ Some n → n.writer ≡ writer → ⊥)
    → (roster : Roster) (peer : Peer) → StandsFor kept roster peer
    → None ≡ place_of (own_proxies peer.part number) writer
no_place kept i number k writer is at none roster peer s =
    let proxies : List WriterProxy = get_or peer.part.rtps.readers i [] in
    let names = (s.readers.each i k at).writers_are in
    let nobody : place_of proxies writer ≡ None =
    ap (λ (o : Option WriterProxy). option_map (λ (p : WriterProxy). p.place) o)
    (no_row (λ (p : WriterProxy). p.writer) proxies writer
    (λ j there.
    let same = subst (λ (es : List Endpoint). slice_get es j ≡ Some writer) names there in
    let f = get-map (λ (n : WriterName). n.writer) k.writers j writer same in
    none j f.0 f.1 f.2)) in
    let next : suc i ≡ number = omega (arith, is) in
    subst (λ (m : ℕ). None ≡ place_of (own_proxies peer.part m) writer) next (sym nobody)

pub place_found : (kept : PeerKept) (i number : ℕ) (k : ReaderKept) (writer : Endpoint) (row place : ℕ) → number ≡ i + 1
    → slice_get kept.readers i ≡ Some k → IsFirstRow k.writers writer row → ((t : Tracked) → IsPlaceAt k row t place)
    → (roster : Roster) (peer : Peer) → StandsFor kept roster peer
    → Some place ≡ place_of (own_proxies peer.part number) writer
place_found kept i number k writer row place is at first is_place roster peer s =
    let proxies : List WriterProxy = get_or peer.part.rtps.readers i [] in
    let stands = s.readers.each i k at in
    let here : IsFirstOf (proxied proxies) writer row =
    subst (λ (es : List Endpoint). IsFirstOf es writer row) (sym stands.writers_are)
    (is_first_of k.writers writer row first) in
    let there = place_there proxies writer row here in
    let known : place ≡ there.0 =
    is_place (peer.known.tracked writer (suc i)) (stands.knows writer row first) ∙ stands.places writer there.0 there.1
    in
    let next : suc i ≡ number = omega (arith, is) in
    subst (λ (m : ℕ). Some place ≡ place_of (own_proxies peer.part m) writer) next
    (ap (λ (n : ℕ). Some n) known ∙ sym there.1)
