-- What a peer stands for in one roster it stands for in another one of which it is the same peer; and what it knows was
-- claimed there too, by the same packets, once what is known of writers without a row is let go.
use Rattle.std.proofs.Common.{◌≡◌, ℕ, zero, suc, ◌≤◌, Bool, true, false, Option, None, Some, ℤ, List, [], ◌∷◌, map, length, slice_get, refl, ap, sym, ◌∙◌, subst, arith, ⊎_elim}
use Rattle.std.specs.Prelude.{Contains, if◌then◌else◌, is_some, nat_lt}
use Rattle.std.specs.Option.{option_map, option_map_or}
use Rattle.std.proofs.lemmas.Bool.Decides.{nat_tests}
use Rattle.std.proofs.lemmas.Option.{slice_get_cases}
use Rattle.dds_base.specs.declared.change.Change.{Change}
use Rattle.dds_base.specs.declared.endpoint.Endpoint.{Endpoint}
use Rattle.dds_base.specs.declared.guid.EntityId.{EntityId}
use Rattle.dds_base.specs.declared.guid.GuidPrefix.{GuidPrefix}
use Rattle.dds_base.specs.Counts.{is_later}
use Rattle.rtps_reader.specs.Tracked.{Held, Missing, Slot, Tracked, fresh, is_passable}
use Rattle.rtps_wire.specs.declared.submessage.Submessage.{Submessage}
use Rattle.rtps_wire.specs.declared.submessage.Submessage.TheVariants.{AckNack, Data, Gap, Heartbeat, InfoDst, InfoTs, Other, Pad}
use Rattle.dds_machine.specs.Matching.{is_known}
use Rattle.dds_machine.specs.Numbered.{HasNumber, numbered}
use Rattle.dds_machine.specs.Part.{Attachment, Away, Part, WriterProxy, heard_of, how_of, is_attached, own_proxies, place_of, row_of, same_endpoint}
use Rattle.dds_machine.proofs.Tables.{same_is}
use Rattle.dds_protocol.specs.Backed.{IsBacked, IsClaimed, TookNone, reader_at}
use Rattle.dds_protocol.specs.Claims.{ChangeIs, Claimed, Claims, IsReader, IsToReader, IsToReliable, IsWriter, MayPass, Receiver, Says}
use Rattle.dds_protocol.specs.Peer.{Delivery, IsApplied, Peer, packets_of, state_of}
use Rattle.dds_protocol.specs.Protocol.{Known}
use Rattle.dds_protocol.specs.Roster.{Roster}
use Rattle.dds_ends.specs.declared.matching.WriterName.{WriterName}
use Rattle.dds_ends.specs.Identity.{IsReaderOf, reader_identity}
use Rattle.dds_ends.specs.Kept.{ReaderKept}
use Rattle.dds_ends.specs.MatchedEnds.{IsWriterNamed}
use Rattle.dds_ends.proofs.Lists.{get-map, past_end}
use Rattle.dds_ends.proofs.Rows.{proxied, writers_of}
use Rattle.dds_core.specs.Identity.{IsPeerOf, KnowsNames, identity_of}
use Rattle.dds_core.specs.Kept.{PeerKept}
use Rattle.dds_core.specs.Ruling.{IsSound}
use Rattle.dds_core.specs.Standing.{StandsFor}
use Rattle.dds_core.proofs.Ends.{reader_stands_on}
use Rattle.dds_core.proofs.KnownWriters.{row_known}
use Rattle.dds_core.proofs.Names.{own_end, own_reader_is}

-- ---- what is known by rows alone

-- what is known of the writers of rows, and of no others
abbrev pub known_by_rows : Part → Known → Known
known_by_rows part known =
    record known { tracked = λ w r. if is_known (own_proxies part r) w then known.tracked w r else fresh }

-- the peer, which knows nothing more
abbrev pub by_rows : Peer → Peer
by_rows peer = record peer { known = known_by_rows peer.part peer.known }

tracked_there : (part : Part) (known : Known) (w : Endpoint) (r : ℕ) → is_known (own_proxies part r) w ≡ true
    → (known_by_rows part known).tracked w r ≡ known.tracked w r
tracked_there part known w r is = ap (λ (b : Bool). if b then known.tracked w r else fresh) is

tracked_nowhere : (part : Part) (known : Known) (w : Endpoint) (r : ℕ) → is_known (own_proxies part r) w ≡ false
    → (known_by_rows part known).tracked w r ≡ fresh
tracked_nowhere part known w r is = ap (λ (b : Bool). if b then known.tracked w r else fresh) is

-- ---- rows

-- a writer that is known has a row
row_there : (rows : List WriterProxy) (w : Endpoint) → is_known rows w ≡ true
    → (j : ℕ) × (slice_get (proxied rows) j ≡ Some w)
row_there [] w h = absurd cc
row_there (p ∷ ps) w h = by (same_endpoint p.writer w) refl h (λ k. row_there ps w k)
  where
    by : (b : Bool) → same_endpoint p.writer w ≡ b
        → is_some (if b then Some p else row_of (λ (q : WriterProxy). q.writer) ps w) ≡ true
        → (is_known ps w ≡ true → (j : ℕ) × (slice_get (proxied ps) j ≡ Some w))
        → (j : ℕ) × (slice_get (p.writer ∷ proxied ps) j ≡ Some w)
    by true is k later = (zero, ap (λ (e : Endpoint). Some e) (same_is p.writer w is))
    by false is k later = let f = later k in (suc f.0, f.1)

is_there : {X : Type 0} (of : WriterProxy → X) (x : X) (o : Option WriterProxy) → option_map of o ≡ Some x
    → is_some o ≡ true
is_there of x None h = absurd cc
is_there of x (Some p) h = refl

is_nowhere : {X : Type 0} (of : WriterProxy → X) (o : Option WriterProxy) → option_map of o ≡ None
    → is_some o ≡ false
is_nowhere of None h = refl
is_nowhere of (Some p) h = absurd cc

-- one that a reader is matched with is known
attached_there : (o : Option WriterProxy) → is_attached (option_map_or (λ (p : WriterProxy). p.how) o Away) ≡ true
    → is_some o ≡ true
attached_there None h = absurd cc
attached_there (Some p) h = refl

-- a reader of the peer has a row of the writer, with its name
pub record HasRow (kept : PeerKept) (w : Endpoint) (r : ℕ) : Type 0 where
  pub i : ℕ
  pub number : r ≡ suc i
  pub reader : ReaderKept
  pub at_reader : slice_get kept.readers i ≡ Some reader
  pub row : ℕ
  pub name : WriterName
  pub at : slice_get reader.writers row ≡ Some name
  pub is : name.writer ≡ w

has_row : (kept : PeerKept) (roster : Roster) (peer : Peer) → StandsFor kept roster peer → (w : Endpoint) (r : ℕ)
    → is_known (own_proxies peer.part r) w ≡ true → HasRow kept w r
has_row kept roster peer s w zero h = absurd cc
has_row kept roster peer s w (suc i) h =
    ⊎_elim
    (λ there.
    let j = row_there (own_proxies peer.part (suc i)) w h in
    let f =
    get-map (λ (n : WriterName). n.writer) there.0.writers j.0 w
    (subst (λ (es : List Endpoint). slice_get es j.0 ≡ Some w) (s.readers.each i there.0 there.2).writers_are j.1) in
    record {
      i = i;
      number = refl;
      reader = there.0;
      at_reader = there.2;
      row = j.0;
      name = f.0;
      at = f.1;
      is = f.2;
    })
    (λ past.
    let rows = s.readers.rows in
    let end = past.0 in
    absurd
    (let none : is_known [] w ≡ true =
    subst (λ (ps : List WriterProxy). is_known ps w ≡ true)
    (past_end peer.part.rtps.readers i [] (omega (arith, rows, end))) h in cc))
    (slice_get_cases kept.readers i).1

-- ---- two rosters of which it is the same peer

module _ (kept : PeerKept) (number : ℕ) (x y : Roster) (at_x : IsPeerOf x number (identity_of kept))
    (at_y : IsPeerOf y number (identity_of kept)) (w : Endpoint) (r : ℕ) (has : HasRow kept w r) where
  named_in : (z : Roster) → IsPeerOf z number (identity_of kept) → IsWriterNamed z (own_end number has.i) has.name
  named_in z at_z =
      (own_reader_is z number kept at_z has.i has.reader has.at_reader).writers has.row has.name has.at

  reader_in : (z : Roster) → IsPeerOf z number (identity_of kept)
      → IsReaderOf z (own_end number has.i) (reader_identity has.reader)
  reader_in z at_z = own_reader_is z number kept at_z has.i has.reader has.at_reader

  -- the writer has the same GUID
  writer_too : (prefix : GuidPrefix) (entity : EntityId) → IsWriter x prefix entity w → IsWriter y prefix entity w
  writer_too prefix entity =
      subst (λ (v : Endpoint). IsWriter x prefix entity v → IsWriter y prefix entity v) has.is
      (λ h. record {
        same_prefix = (named_in y at_y).is.same_prefix ∙ (sym (named_in x at_x).is.same_prefix ∙ h.same_prefix);
        at_writer = (named_in y at_y).is.at_writer ∙ (sym (named_in x at_x).is.at_writer ∙ h.at_writer);
      })

  -- and so has the reader
  reader_too : (prefix : GuidPrefix) (entity : EntityId) → IsReader x prefix entity (reader_at number r)
      → IsReader y prefix entity (reader_at number r)
  reader_too prefix entity =
      subst (λ (n : ℕ). IsReader x prefix entity (reader_at number n) → IsReader y prefix entity (reader_at number n))
      (sym has.number)
      (λ h. record {
        same_prefix = at_y.prefix ∙ (sym at_x.prefix ∙ h.same_prefix);
        at_reader = (reader_in y at_y).entity ∙ (sym (reader_in x at_x).entity ∙ h.at_reader);
      })

  -- they are matched
  matched_too : y.are_matched w (reader_at number r) ≡ true
  matched_too =
      subst (λ (n : ℕ). y.are_matched w (reader_at number n) ≡ true) (sym has.number)
      (subst (λ (v : Endpoint). y.are_matched v (own_end number has.i) ≡ true) has.is (named_in y at_y).matched)

  reliable_too : x.is_reliable (reader_at number r) ≡ true → y.is_reliable (reader_at number r) ≡ true
  reliable_too =
      subst (λ (n : ℕ). x.is_reliable (reader_at number n) ≡ true → y.is_reliable (reader_at number n) ≡ true)
      (sym has.number) (λ h. (reader_in y at_y).reliable ∙ (sym (reader_in x at_x).reliable ∙ h))

  pub to_reader_too : (own : GuidPrefix) (at : Receiver) (reader_id writer_id : EntityId)
      → IsToReader x own at reader_id writer_id w (reader_at number r)
      → IsToReader y own at reader_id writer_id w (reader_at number r)
  to_reader_too own at reader_id writer_id h = record {
    from = writer_too at.source_guid_prefix writer_id h.from;
    is_for = h.is_for;
    entity = h.entity;
    to = reader_too own h.entity h.to;
    named = h.named;
    matched = matched_too;
  }

  to_reliable_too : (own : GuidPrefix) (at : Receiver) (reader_id writer_id : EntityId)
      → IsToReliable x own at reader_id writer_id w (reader_at number r)
      → IsToReliable y own at reader_id writer_id w (reader_at number r)
  to_reliable_too own at reader_id writer_id h = record {
    is_to = to_reader_too own at reader_id writer_id h.is_to;
    reliable = reliable_too h.reliable;
  }

  -- a submessage says the same of them
  change_too : (own : GuidPrefix) (at : Receiver) (s : Submessage) (n : ℕ) (c : Change)
      → Says x own at s (ChangeIs w (reader_at number r) n c) → Says y own at s (ChangeIs w (reader_at number r) n c)
  change_too own at (Data d) n c h = (to_reader_too own at d.reader_id d.writer_id h.0, h.1, h.2)
  change_too own at (Gap g) n c h = h
  change_too own at (Heartbeat b) n c h = h
  change_too own at (AckNack a) n c h = h
  change_too own at (InfoDst p) n c h = h
  change_too own at (InfoTs t) n c h = h
  change_too own at (Other o) n c h = h
  change_too own at Pad n c h = h

  pass_too : (own : GuidPrefix) (at : Receiver) (s : Submessage) (n : ℕ)
      → Says x own at s (MayPass w (reader_at number r) n) → Says y own at s (MayPass w (reader_at number r) n)
  pass_too own at (Data d) n h = h
  pass_too own at (Gap g) n h = (to_reliable_too own at g.reader_id g.writer_id h.0, h.1, h.2)
  pass_too own at (Heartbeat b) n h = (to_reliable_too own at b.reader_id b.writer_id h.0, h.1, h.2)
  pass_too own at (AckNack a) n h = h
  pass_too own at (InfoDst p) n h = h
  pass_too own at (InfoTs t) n h = h
  pass_too own at (Other o) n h = h
  pass_too own at Pad n h = h

  pub claimed_too : (packets : List (List ℕ)) (t : Tracked) → IsClaimed x number packets w r t
      → IsClaimed y number packets w r t
  claimed_too packets t is = record {
    from = is.from;
    change = λ n c later held.
        let claim = is.change n c later held in
        record {
          packet = claim.packet;
          among = claim.among;
          claims = record {
            own = claim.claims.own;
            at = claim.claims.at;
            submessage = claim.claims.submessage;
            there = claim.claims.there;
            says = change_too claim.claims.own claim.claims.at claim.claims.submessage n c claim.claims.says;
          };
        };
    pass = λ n later passable.
        let claim = is.pass n later passable in
        record {
          packet = claim.packet;
          among = claim.among;
          claims = record {
            own = claim.claims.own;
            at = claim.claims.at;
            submessage = claim.claims.submessage;
            there = claim.claims.there;
            says = pass_too claim.claims.own claim.claims.at claim.claims.submessage n claim.claims.says;
          };
        };
  }

  -- a HEARTBEAT that was applied by the one roster was by the other
  pub applied_too : (d : Delivery) (count : ℤ) → IsApplied x d w (reader_at number r) count
      → IsApplied y d w (reader_at number r) count
  applied_too d count is = record {
    own = is.own;
    at = is.at;
    heartbeat = is.heartbeat;
    there = is.there;
    before = is.before;
    is_to = to_reader_too is.own is.at is.heartbeat.reader_id is.heartbeat.writer_id is.is_to;
    same_count = is.same_count;
    met = is.met;
  }

-- ---- nothing is known of a writer without a row

none_below : (n : ℕ) → nat_lt n 0 ≡ false
none_below n = grind (arith, nat_tests)

nothing_claimed : (roster : Roster) (number : ℕ) (packets : List (List ℕ)) (w : Endpoint) (r : ℕ)
    → IsClaimed roster number packets w r fresh
nothing_claimed roster number packets w r = record {
  from = omega arith;
  change = λ n c later held. absurd (let none : ◌≡◌ {A = Slot} Missing (Held c) = held in cc);
  pass = λ n later passable.
      absurd (let none : true ≡ false = sym passable ∙ none_below n in cc);
}

-- ---- the peer

module _ (kept : PeerKept) (x y : Roster) (peer : Peer) (s : StandsFor kept x peer)
    (at_y : IsPeerOf y peer.number (identity_of kept)) where
  unknown_same : (i : ℕ) (k : ReaderKept) → slice_get kept.readers i ≡ Some k → (w : Endpoint)
      → (known_by_rows peer.part peer.known).tracked w (suc i) ≡ peer.known.tracked w (suc i)
  unknown_same i k at w = by (is_known (own_proxies peer.part (suc i)) w) refl
    where
      by : (b : Bool) → is_known (own_proxies peer.part (suc i)) w ≡ b
          → (if b then peer.known.tracked w (suc i) else fresh) ≡ peer.known.tracked w (suc i)
      by true is = refl
      by false is =
          sym ((s.readers.each i k at).others w
          (λ j n at_n same.
          absurd (let clash : true ≡ false =
          sym (row_known x peer kept s i k at j n at_n)
          ∙ (ap (λ (e : Endpoint). is_known (own_proxies peer.part (suc i)) e) same ∙ is) in cc)))

  pub stands_elsewhere : KnowsNames y peer.number (identity_of kept) kept.names → StandsFor kept y (by_rows peer)
  stands_elsewhere knows = record {
    is_peer = at_y;
    knows = knows;
    moment = s.moment;
    early = s.early;
    writers = s.writers;
    readers = record {
      rows = s.readers.rows;
      count = s.readers.count;
      each = λ i k at.
          reader_stands_on k _ _ (λ w. peer.known.tracked w (suc i))
          (λ w. (known_by_rows peer.part peer.known).tracked w (suc i)) (unknown_same i k at)
          (s.readers.each i k at);
    };
    names = s.names;
    tellable = s.tellable;
    watch = s.watch;
  }

  claimed_by_rows : IsSound x peer → (w : Endpoint) (r : ℕ)
      → IsClaimed y peer.number (packets_of peer.delivered) w r ((known_by_rows peer.part peer.known).tracked w r)
  claimed_by_rows sound w r = by (is_known (own_proxies peer.part r) w) refl
    where
      by : (b : Bool) → is_known (own_proxies peer.part r) w ≡ b
          → IsClaimed y peer.number (packets_of peer.delivered) w r (if b then peer.known.tracked w r else fresh)
      by true is =
          claimed_too kept peer.number x y s.is_peer at_y w r (has_row kept x peer s w r is)
          (packets_of peer.delivered) (peer.known.tracked w r) (sound.claimed w r)
      by false is = nothing_claimed y peer.number (packets_of peer.delivered) w r

  -- a writer of which a HEARTBEAT was applied is known still
  still_there : IsSound x peer → (w : Endpoint) (r : ℕ) (d : Delivery) (count : ℤ) → Contains peer.delivered d
      → IsApplied y d w (reader_at peer.number r) count → is_known (own_proxies peer.part r) w ≡ true
  still_there sound w r d count among is =
      sound.then d r w among
      (attached_there (row_of (λ (p : WriterProxy). p.writer) (numbered d.rows r []) w) is.met)

  newest_by_rows : IsSound x peer → (w : Endpoint) (r : ℕ) → HasNumber peer.part.rtps.readers r
      → TookNone y peer.number peer.delivered w r ((known_by_rows peer.part peer.known).tracked w r)
  newest_by_rows sound w r there d count among is =
      let known : is_known (own_proxies peer.part r) w ≡ true = still_there sound w r d count among is in
      ap (λ (t : Tracked). is_later t.count count) (tracked_there peer.part peer.known w r known)
      ∙ sound.newest w r there d count among
      (applied_too kept peer.number y x at_y s.is_peer w r (has_row kept x peer s w r known) d count is)

  pub sound_elsewhere : IsSound x peer → IsSound y (by_rows peer)
  sound_elsewhere sound = record {
    place = λ w r p at.
        ap (λ (t : Tracked). t.place)
        (tracked_there peer.part peer.known w r (is_there (λ (q : WriterProxy). q.place) p _ at))
        ∙ sound.place w r p at;
    unknown = λ w r none.
        ap (λ (t : Tracked). t.place)
        (tracked_nowhere peer.part peer.known w r (is_nowhere (λ (q : WriterProxy). q.place) _ none));
    claimed = claimed_by_rows sound;
    newest = newest_by_rows sound;
    heard = λ w r count at.
        ap (λ (t : Tracked). is_later t.count count)
        (tracked_there peer.part peer.known w r (is_there (λ (q : WriterProxy). q.heard) (Some count) _ at))
        ∙ sound.heard w r count at;
    then = sound.then;
  }
