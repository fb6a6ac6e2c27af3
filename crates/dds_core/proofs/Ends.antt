-- A step of one of the peer's own writers or readers is a step of the peer.
use Rattle.std.proofs.Common.{◌≡◌, ℕ, zero, suc, List, [], ◌∷◌, arith, Some, map, set, get_or, slice_get, length-set, refl, subst, ap, sym, ◌∙◌}
use Rattle.dds_protocol.specs.Roster.{Roster}
use Rattle.dds_base.specs.Written.{Written}
use Rattle.dds_base.specs.declared.endpoint.Endpoint.{Endpoint}
use Rattle.dds_protocol.specs.Dues.{AreTellable}
use Rattle.dds_machine.specs.Numbered.{with_numbered}
use Rattle.dds_machine.specs.Part.{Part, Dds, Writer, Reader, ReaderProxy, WriterProxy, no_writer, no_reader, at_writer, own_proxies}
use Rattle.dds_machine.specs.Calls.{writes, effect, with_written}
use Rattle.dds_protocol.specs.Peer.{Peer}
use Rattle.dds_protocol.specs.Contact.{Contact}
use Rattle.dds_protocol.specs.Protocol.{Known}
use Rattle.rtps_reader.specs.Tracked.{Tracked}
use Rattle.rtps_reader.specs.Reader.{Tracks}
use Rattle.rtps_writer.specs.Standing.{StandsFor as RtpsStandsFor}
use Rattle.rtps_writer.specs.WriterState.{WriterState}
use Rattle.dds_ends.specs.Kept.{WriterKept, ReaderKept}
use Rattle.dds_core.specs.Kept.{PeerKept}
use Rattle.dds_ends.specs.Identity.{WriterIdentity, ReaderIdentity, writer_identity, reader_identity}
use Rattle.dds_core.specs.Identity.{Identity, IsPeerOf, KnowsNames, identity_of}
use Rattle.dds_core.specs.Receiving.{with_state}
use Rattle.dds_ends.specs.Standing.{WriterStands, WritersStand, ReaderStands, state_of}
use Rattle.dds_core.specs.Standing.{StandsFor}
use Rattle.dds_ends.specs.Stepping.{Enters}
use Rattle.dds_ends.proofs.Acknowledging.{state_as}
use Rattle.dds_ends.proofs.Lists.{each_set_at, map-set_same, set_back}

-- what is kept, with another writer or reader of this index

abbrev pub with_writer : PeerKept → ℕ → WriterKept → PeerKept
with_writer kept i k = record kept { writers = set kept.writers i k }

abbrev pub with_reader : PeerKept → ℕ → ReaderKept → PeerKept
with_reader kept i k = record kept { readers = set kept.readers i k }

abbrev made : Identity → List WriterIdentity → List ReaderIdentity → Identity
made identity writers readers = record { prefix = identity.prefix; writers = writers; readers = readers }

pub same_with_writer : (kept : PeerKept) (i : ℕ) (k k' : WriterKept) → slice_get kept.writers i ≡ Some k
    → writer_identity k' ≡ writer_identity k → identity_of (with_writer kept i k') ≡ identity_of kept
same_with_writer kept i k k' at same =
    ap (λ (ws : List WriterIdentity). made (identity_of kept) ws (map reader_identity kept.readers))
    (map-set_same writer_identity kept.writers i k k' at same)

pub same_with_reader : (kept : PeerKept) (i : ℕ) (k k' : ReaderKept) → slice_get kept.readers i ≡ Some k
    → reader_identity k' ≡ reader_identity k → identity_of (with_reader kept i k') ≡ identity_of kept
same_with_reader kept i k k' at same =
    ap (λ (rs : List ReaderIdentity). made (identity_of kept) (map writer_identity kept.writers) rs)
    (map-set_same reader_identity kept.readers i k k' at same)

-- the peer with another thing that happened at its writer of this number
abbrev pub entered_at : Peer → ℕ → Written → Peer
entered_at peer writer entry =
    record peer { part = record peer.part { rtps = effect peer.part.rtps (writes writer entry) } }

-- a writer that was put back as it was changes nothing
pub unchanged_with : (kept : PeerKept) (i : ℕ) (k k' : WriterKept) → slice_get kept.writers i ≡ Some k → k' ≡ k
    → with_writer kept i k' ≡ kept
unchanged_with kept i k k' at same =
    ap (λ (ws : List WriterKept). changed kept ws) (set_back kept.writers i k k' at same)
  where
    changed : PeerKept → List WriterKept → PeerKept
    changed x ws = record x { writers = ws }

-- what is known of its readers is the same, said by another function
pub writer_stands_on : (k : WriterKept) (w : Writer) (old new : Endpoint → Contact)
    → ((r : Endpoint) → new r ≡ old r) → WriterStands k w old → WriterStands k w new
writer_stands_on k w old new same s = record {
  autodispose = s.autodispose;
  values = s.values;
  known = s.known;
  matched = s.matched;
  readers = s.readers;
  writer =
      subst (λ (x : WriterState). RtpsStandsFor k.writer x)
      (state_as (state_of w old) _ _ _ _ _ _ _ _ _ _ refl refl (sym (each (λ (c : Contact). c.count) w.readers))
      (sym (each (λ (c : Contact). c.asks) w.readers)) (sym (each (λ (c : Contact). c.silent) w.readers)))
      s.writer;
  begun = s.begun;
  rows = s.rows;
  counted = λ reader none. ap (λ (c : Contact). c.count) (same reader) ∙ s.counted reader none;
  quiet = λ reader there none. ap (λ (c : Contact). c.silent) (same reader) ∙ s.quiet reader there none;
  matches = s.matches;
}
  where
    each : {X : Type 0} (f : Contact → X) (rows : List ReaderProxy) → map (λ (p : ReaderProxy). f (new p.reader)) rows
        ≡ map (λ (p : ReaderProxy). f (old p.reader)) rows
    each f [] = refl
    each f (p ∷ ps) =
        ap (λ (c : Contact). f c ∷ map (λ (q : ReaderProxy). f (new q.reader)) ps) (same p.reader)
        ∙ ap (λ xs. f (old p.reader) ∷ xs) (each f ps)

-- own writer n has become another one of the roster, and what is known of its readers has changed
pub own_writer_put : (roster : Roster) (peer : Peer) (kept : PeerKept) → StandsFor kept roster peer
    → (i : ℕ) (k k' : WriterKept) → slice_get kept.writers i ≡ Some k
    → IsPeerOf roster peer.number (identity_of (with_writer kept i k'))
    → KnowsNames roster peer.number (identity_of (with_writer kept i k')) kept.names
    → (w : Writer) (answered : ℕ → Endpoint → Contact)
    → WriterStands k' w (answered (suc i))
    → ((j : ℕ) → (j ≡ i → ⊥) → (r : Endpoint) → answered (suc j) r ≡ peer.known.answered (suc j) r)
    → AreTellable (at_writer peer.part (suc i) w)
    → StandsFor (with_writer kept i k') roster
    (with_state peer
    (record { part = at_writer peer.part (suc i) w; known = record peer.known { answered = answered } }))
own_writer_put roster peer kept s i k k' at is_peer knows w answered stands others tellable =
    let ws : List Writer = peer.part.rtps.writers in
    record {
      is_peer = is_peer;
      knows = knows;
      moment = s.moment;
      early = s.early;
      names = s.names;
      watch = s.watch;
      writers = record {
        count = length-set ws i w ∙ (s.writers.count ∙ sym (length-set kept.writers i k'));
        each =
            each_set_at (λ (j : ℕ) (x : WriterKept) (y : Writer) (z : Writer). WriterStands x y (answered (suc j)))
            kept.writers ws ws i k' w no_writer w no_writer s.writers.count s.writers.count
            (λ j x apart there. writer_stands_on x (get_or ws j no_writer) (peer.known.answered (suc j))
            (answered (suc j)) (others j apart) (s.writers.each j x there)) stands;
      };
      readers = record { rows = s.readers.rows; count = s.readers.count; each = s.readers.each };
      tellable = tellable;
    }

-- the same of one that is named as it was
pub writer_put : (roster : Roster) (peer : Peer) (kept : PeerKept) → StandsFor kept roster peer
    → (i : ℕ) (k k' : WriterKept) → slice_get kept.writers i ≡ Some k → writer_identity k' ≡ writer_identity k
    → (w : Writer) (answered : ℕ → Endpoint → Contact)
    → WriterStands k' w (answered (suc i))
    → ((j : ℕ) → (j ≡ i → ⊥) → (r : Endpoint) → answered (suc j) r ≡ peer.known.answered (suc j) r)
    → AreTellable (at_writer peer.part (suc i) w)
    → StandsFor (with_writer kept i k') roster
    (with_state peer
    (record { part = at_writer peer.part (suc i) w; known = record peer.known { answered = answered } }))
writer_put roster peer kept s i k k' at same w answered stands others tellable =
    own_writer_put roster peer kept s i k k' at
    (subst (λ (x : Identity). IsPeerOf roster peer.number x) (sym (same_with_writer kept i k k' at same)) s.is_peer)
    (subst (λ (x : Identity). KnowsNames roster peer.number x kept.names)
    (sym (same_with_writer kept i k k' at same)) s.knows)
    w answered stands others tellable

-- own writer n stepped
pub own_writer_stepped : (kept : PeerKept) (i : ℕ) (k k' : WriterKept) (entry : Written) (roster : Roster) (peer : Peer)
    → StandsFor kept roster peer → slice_get kept.writers i ≡ Some k → Enters k entry k'
    → AreTellable (entered_at peer (suc i) entry).part
    → StandsFor (with_writer kept i k') roster (entered_at peer (suc i) entry)
own_writer_stepped kept i k k' entry roster peer s at enters tellable =
    let w : Writer = get_or peer.part.rtps.writers i no_writer in
    writer_put roster peer kept s i k k' at enters.same (with_written w entry) peer.known.answered
    (enters.stands w (peer.known.answered (suc i)) (s.writers.each i k at)) (λ j apart r. refl) tellable

-- the part of a peer with another reader of this number
abbrev pub with_read : Part → ℕ → List WriterProxy → Reader → Part
with_read part reader proxies r = record part {
  rtps = record part.rtps { readers = with_numbered part.rtps.readers reader proxies };
  dds = record part.dds { readers = with_numbered part.dds.readers reader r };
}

-- what is known is the same, said by another function
pub reader_stands_on : (k : ReaderKept) (proxies : List WriterProxy) (r : Reader) (old new : Endpoint → Tracked)
    → ((w : Endpoint) → new w ≡ old w) → ReaderStands k proxies r old → ReaderStands k proxies r new
reader_stands_on k proxies r old new same s = record {
  writers_are = s.writers_are;
  places = λ w p at. ap (λ (t : Tracked). t.place) (same w) ∙ s.places w p at;
  knows = λ w j first. subst (λ (t : Tracked). Tracks k.reader j t) (sym (same w)) (s.knows w j first);
  others = λ w none. same w ∙ s.others w none;
  qos_is = s.qos_is;
  holds = s.holds;
  seen_is = s.seen_is;
  hows = s.hows;
  counts = s.counts;
  here_is = s.here_is;
}

-- own reader n has become another one of the roster, and knows what it knows now
pub own_reader_put : (kept : PeerKept) (i : ℕ) (k' : ReaderKept) (proxies : List WriterProxy) (r : Reader)
    (known : Known) (roster : Roster) (peer : Peer) → StandsFor kept roster peer
    → IsPeerOf roster peer.number (identity_of (with_reader kept i k'))
    → KnowsNames roster peer.number (identity_of (with_reader kept i k')) kept.names
    → known.answered ≡ peer.known.answered
    → ((w : Endpoint) (n : ℕ) → (n ≡ suc i → ⊥) → known.tracked w n ≡ peer.known.tracked w n)
    → ReaderStands k' proxies r (λ w. known.tracked w (suc i))
    → StandsFor (with_reader kept i k') roster
    (record peer { part = with_read peer.part (suc i) proxies r; known = known })
own_reader_put kept i k' proxies r known roster peer s is_peer knows counts others stands =
    let ps : List (List WriterProxy) = peer.part.rtps.readers in
    let rs : List Reader = peer.part.dds.readers in
    record {
      is_peer = is_peer;
      knows = knows;
      moment = s.moment;
      early = s.early;
      names = s.names;
      watch = s.watch;
      writers =
          subst (λ (answered : ℕ → Endpoint → Contact). WritersStand kept.writers peer.part.rtps.writers answered)
          (sym counts) s.writers;
      readers = record {
        rows = length-set ps i proxies ∙ (s.readers.rows ∙ sym (length-set kept.readers i k'));
        count = length-set rs i r ∙ (s.readers.count ∙ sym (length-set kept.readers i k'));
        each =
            each_set_at (λ (j : ℕ) (x : ReaderKept) (y : List WriterProxy) (z : Reader). ReaderStands x y z
            (λ w. known.tracked w (suc j))) kept.readers ps rs i k' proxies
            [] r no_reader s.readers.rows s.readers.count
            (λ j x apart there. reader_stands_on x (get_or ps j []) (get_or rs j no_reader)
            (λ w. peer.known.tracked w (suc j)) (λ w. known.tracked w (suc j))
            (λ w. others w (suc j) (λ e. apart (omega (arith, e)))) (s.readers.each j x there))
            stands;
      };
      tellable = s.tellable;
    }

-- own reader n stepped, and knows what it knows now
pub own_reader_stepped : (kept : PeerKept) (i : ℕ) (k k' : ReaderKept) (proxies : List WriterProxy) (r : Reader)
    (known : Known) (roster : Roster) (peer : Peer) → StandsFor kept roster peer → slice_get kept.readers i ≡ Some k
    → reader_identity k' ≡ reader_identity k → known.answered ≡ peer.known.answered
    → ((w : Endpoint) (n : ℕ) → (n ≡ suc i → ⊥) → known.tracked w n ≡ peer.known.tracked w n)
    → ReaderStands k' proxies r (λ w. known.tracked w (suc i))
    → StandsFor (with_reader kept i k') roster
    (record peer { part = with_read peer.part (suc i) proxies r; known = known })
own_reader_stepped kept i k k' proxies r known roster peer s at same counts others stands =
    own_reader_put kept i k' proxies r known roster peer s
    (subst (λ (x : Identity). IsPeerOf roster peer.number x) (sym (same_with_reader kept i k k' at same)) s.is_peer)
    (subst (λ (x : Identity). KnowsNames roster peer.number x kept.names)
    (sym (same_with_reader kept i k k' at same)) s.knows)
    counts others stands

-- setting what is there changes nothing
set_same : {X : Type 0} (xs : List X) (i : ℕ) (d : X) → set xs i (get_or xs i d) ≡ xs
set_same [] i d = refl
set_same (x ∷ xs) zero d = refl
set_same (x ∷ xs) (suc i) d = ap (λ ys. x ∷ ys) (set_same xs i d)

abbrev with_rows : Part → List (List WriterProxy) → Dds → Part
with_rows part rows dds = record { rtps = record part.rtps { readers = rows }; dds = dds }

-- a peer's readers, with another one of this number
abbrev pub readers_with : Part → ℕ → Reader → Dds
readers_with part reader r = record part.dds { readers = with_numbered part.dds.readers reader r }

-- own reader n stepped, and knows of its writers what it knew
pub own_reader_changed : (kept : PeerKept) (i : ℕ) (k k' : ReaderKept) (r : Reader) (roster : Roster) (peer : Peer)
    → StandsFor kept roster peer → slice_get kept.readers i ≡ Some k → reader_identity k' ≡ reader_identity k
    → ReaderStands k' (own_proxies peer.part (suc i)) r (λ w. peer.known.tracked w (suc i))
    → StandsFor (with_reader kept i k') roster
    (record peer { part = record peer.part { dds = readers_with peer.part (suc i) r } })
own_reader_changed kept i k k' r roster peer s at same one =
    let rows : set peer.part.rtps.readers i (own_proxies peer.part (suc i)) ≡ peer.part.rtps.readers =
    set_same peer.part.rtps.readers i [] in
    subst (λ (ps : List (List WriterProxy)). StandsFor (with_reader kept i k') roster
    (record peer { part = with_rows peer.part ps (readers_with peer.part (suc i) r) })) rows
    (own_reader_stepped kept i k k' (own_proxies peer.part (suc i)) r peer.known roster peer s at same
    refl (λ w n apart. refl) one)
