-- What a reader that meets a writer does to a peer: the roster has the writer, or it is refused.
use Rattle.std.proofs.Common.{◌≡◌, ◌⊎◌, ℕ, zero, suc, ◌+◌, ◌<◌, ◌&&◌, ◌||◌, Bool, true, false, not, List, [], ◌∷◌, ◌++◌, Option, None, Some, length, slice_get, refl, ap, sym, subst, ◌∙◌, arith, ⊎_elim}
use Rattle.std.specs.Prelude.{if◌then◌else◌}
use Rattle.std.specs.Option.{option_map_or, option_or}
use Rattle.std.proofs.lemmas.Option.{same_Some}
use Rattle.dds_base.specs.declared.code.Code.{Code}
use Rattle.dds_base.specs.declared.code.Code.TheVariants.{BadParameter, Memory, OutOfResources}
use Rattle.dds_base.specs.declared.endpoint.Endpoint.{Endpoint}
use Rattle.dds_base.specs.declared.guid.EntityId.{EntityId}
use Rattle.dds_base.specs.Checked.{is_bad_lease}
use Rattle.dds_base.specs.Number.{is_number}
use Rattle.dds_base.specs.Refusal.{Refuses}
use Rattle.dds_machine.specs.declared.call.Call.TheVariants as call
use Rattle.dds_machine.specs.declared.far.FarWriter.{FarWriter}
use Rattle.dds_machine.specs.declared.reply.Reply.TheVariants.{InstanceHandle, Refused}
use Rattle.dds_machine.specs.Calls.{as_matched, far_writer_told}
use Rattle.dds_machine.specs.Matching.{has_too_many, matching_refusal, may_meet_writer, reader_met, telling_refusal, with_match}
use Rattle.dds_machine.specs.Naming.{is_name_among, with_name}
use Rattle.dds_machine.specs.Numbered.{has_element}
use Rattle.dds_machine.specs.Part.{Name, Names, Part, Reader, WriterProxy, how_of, is_attached, own_proxies, own_reader, same_endpoint}
use Rattle.dds_protocol.specs.declared.event.Event.TheVariants as event
use Rattle.dds_protocol.specs.declared.event.Output.{Output}
use Rattle.dds_protocol.specs.Claims.{IsWriter}
use Rattle.dds_protocol.specs.Meetings.{MeetsByRoster}
use Rattle.dds_protocol.specs.Peer.{Peer}
use Rattle.dds_protocol.specs.Roster.{Roster}
use Rattle.dds_protocol.proofs.InOrder.{same_self}
use Rattle.dds_ends.specs.declared.matching.WriterName.{WriterName}
use Rattle.dds_ends.specs.Identity.{IsReaderOf, reader_identity}
use Rattle.dds_ends.specs.Kept.{ReaderKept}
use Rattle.dds_ends.specs.MatchedEnds.{AreKnownWriters, IsWriterNamed}
use Rattle.dds_ends.specs.Meeting.{MeetsWriter, RefusesWriterSo, has_row, with_row_of, writer_meeting_refusal}
use Rattle.dds_ends.specs.Standing.{ReaderStands}
use Rattle.dds_ends.proofs.Alike.{last-cases}
use Rattle.dds_ends.proofs.Lists.{map-get, set_back}
use Rattle.dds_ends.proofs.MeetingWriters.{handle_once_met}
use Rattle.dds_core.specs.Identity.{AreRowsOnce, IsPeerOf, KnowsNames, identity_of}
use Rattle.dds_core.specs.Kept.{PeerKept}
use Rattle.dds_core.specs.Ruling.{IsSound}
use Rattle.dds_core.specs.Somewhere.{MeetsSomewhere, Somewhere}
use Rattle.dds_core.specs.Standing.{StandsFor}
use Rattle.dds_core.proofs.CallSteps.{no_such, number_is, refused_call, there_is}
use Rattle.dds_core.proofs.Ends.{own_reader_put, with_read, with_reader}
use Rattle.dds_core.proofs.MetReaders.{FollowsMeeting, as_indexed, named_so, naming, same_named, with_names}
use Rattle.dds_core.proofs.ReaderSteps.{each_of}
use Rattle.dds_core.proofs.Taking.{silent}
use Rattle.dds_core.proofs.Agreeing.{has_prefix, one_writer_more, readers_beside, writer_named, writers_agree}
use Rattle.dds_core.proofs.Elsewhere.{by_rows, sound_elsewhere, stands_elsewhere}
use Rattle.dds_core.proofs.WithEnds.{AgreeOnEnds, AgreeOnPeers, has_writer, matches_writer, prefix_stays, roster_with_writer, with_writer_end, within_with_writer, writer_within}
use Rattle.dds_core.proofs.Within.{peer_in_whole}

-- ---- the writer that is met

-- the name of it ..
abbrev pub far_writer_name : FarWriter → Name
far_writer_name far = record { end = far.endpoint; guid = far.guid; reliable = true }

-- .. as a reader has it
abbrev pub writer_name : FarWriter → WriterName
writer_name far = record { writer = far.endpoint; guid = far.guid }

-- the peer's reader of this index, by its number
abbrev reader_end : ℕ → ℕ → Endpoint
reader_end number i = record { peer = number; number = i + 1 }

-- the roster has the writer that the reader of this index meets
far_named : (roster : Roster) (peer : Peer) (i handle : ℕ) (far : FarWriter)
    → MeetsByRoster roster peer.number (event.Call (call.MeetWriter (suc i) far)) (InstanceHandle handle)
    → IsWriterNamed roster (reader_end peer.number i) (writer_name far)
far_named roster peer i handle far has = record {
  is = has.0;
  matched =
      subst (λ (n : ℕ). roster.are_matched far.endpoint (record { peer = peer.number; number = n }) ≡ true)
      (as_indexed i) has.1;
}

-- ---- the rows of a reader

-- a reader that has a row of it too has rows of writers that the roster matches with it
rows_with : (roster : Roster) (reader : Endpoint) (rows : List WriterName) (name : WriterName)
    → AreKnownWriters roster reader rows → IsWriterNamed roster reader name
    → AreKnownWriters roster reader (with_row_of rows name)
rows_with roster reader rows name are one = by (has_row rows name.writer)
  where
    by : (b : Bool) → AreKnownWriters roster reader (if b then rows else rows ++ name ∷ [])
    by true = are
    by false = λ i n at.
        ⊎_elim (λ last. subst (λ (x : WriterName). IsWriterNamed roster reader x) last.1 one)
        (λ before. are i n before.1) (last-cases rows name i n at)

-- a writer of which there is no row is none of the rows'
no_row_of : (rows : List WriterName) (writer : Endpoint) → has_row rows writer ≡ false → (j : ℕ) (n : WriterName)
    → slice_get rows j ≡ Some n → n.writer ≡ writer → ⊥
no_row_of [] writer none j n at is = absurd (let nothing : ◌≡◌ {A = Option WriterName} None (Some n) = at in cc)
no_row_of (x ∷ xs) writer none zero n at is =
    let there : same_endpoint x.writer writer ≡ true =
    ap (λ (y : WriterName). same_endpoint y.writer writer) (same_Some x n at)
    ∙ (ap (λ (e : Endpoint). same_endpoint e writer) is ∙ same_self writer) in
    absurd (let clash : true ≡ false =
    sym (ap (λ (b : Bool). b || has_row xs writer) there) ∙ none in cc)
no_row_of (x ∷ xs) writer none (suc j) n at is =
    no_row_of xs writer (later (same_endpoint x.writer writer) (has_row xs writer) none) j n at is
  where
    later : (a b : Bool) → (a || b) ≡ false → b ≡ false
    later true b e = absurd (let clash : true ≡ false = e in cc)
    later false b e = e

-- no two rows are of one writer then, where none were
once_with : (rows : List WriterName) (name : WriterName) → AreRowsOnce rows → AreRowsOnce (with_row_of rows name)
once_with rows name once = by (has_row rows name.writer) refl
  where
    apart : has_row rows name.writer ≡ false → (j : ℕ) (n : WriterName) → slice_get rows j ≡ Some n
        → n.writer ≡ name.writer → ⊥
    apart none j n at is = no_row_of rows name.writer none j n at is

    each : has_row rows name.writer ≡ false → (i j : ℕ) (a b : WriterName)
        → ((i ≡ length rows) × (name ≡ a)) ⊎ ((i < length rows) × (slice_get rows i ≡ Some a))
        → ((j ≡ length rows) × (name ≡ b)) ⊎ ((j < length rows) × (slice_get rows j ≡ Some b))
        → a.writer ≡ b.writer → i ≡ j
    each none i j a b first second same =
        ⊎_elim
        (λ last.
        ⊎_elim (λ also. last.0 ∙ sym also.0)
        (λ before.
        absurd (apart none j b before.1 (sym same ∙ sym (ap (λ (n : WriterName). n.writer) last.1)))) second)
        (λ here.
        ⊎_elim
        (λ also.
        absurd (apart none i a here.1 (same ∙ sym (ap (λ (n : WriterName). n.writer) also.1))))
        (λ before. once i j a b here.1 before.1 same) second)
        first

    by : (b : Bool) → has_row rows name.writer ≡ b → AreRowsOnce (if b then rows else rows ++ name ∷ [])
    by true is = once
    by false is = λ i j a b at_i at_j same.
        each is i j a b (last-cases rows name i a at_i) (last-cases rows name j b at_j) same

-- ---- who the readers are

-- another reader of the roster in the place of one, which knows each writer by one row
peer_of_reader : (kept : PeerKept) (i : ℕ) (k k' : ReaderKept) (roster : Roster) (number : ℕ)
    → slice_get kept.readers i ≡ Some k
    → (IsReaderOf roster (reader_end number i) (reader_identity k)
    → IsReaderOf roster (reader_end number i) (reader_identity k'))
    → AreRowsOnce k'.writers → IsPeerOf roster number (identity_of kept)
    → IsPeerOf roster number (identity_of (with_reader kept i k'))
peer_of_reader kept i k k' roster number at still once is = record {
  is_roster = is.is_roster;
  prefix = is.prefix;
  writers = is.writers;
  limited = is.limited;
  readers = each_of reader_identity kept.readers i k' (λ j x. IsReaderOf roster (reader_end number j) x)
      (still (is.readers i (reader_identity k) (map-get reader_identity kept.readers i k at))) is.readers;
  once = each_of reader_identity kept.readers i k' (λ j x. AreRowsOnce x.writers) once is.once;
}

-- the reader is one of the roster as it was
reader_met_so : (roster : Roster) (reader : Endpoint) (k k' : ReaderKept) (far : FarWriter) (row : ℕ)
    → IsWriterNamed roster reader (writer_name far) → MeetsWriter k (writer_name far) (as_matched far) row k'
    → IsReaderOf roster reader (reader_identity k) → IsReaderOf roster reader (reader_identity k')
reader_met_so roster reader k k' far row one m is = record {
  entity = is.entity ∙ ap (λ (e : EntityId). Some e) (sym m.entity);
  reliable = is.reliable ∙ sym m.reliable;
  writers =
      subst (λ (ns : List WriterName). AreKnownWriters roster reader ns) (sym m.writers)
      (rows_with roster reader k.writers (writer_name far) is.writers one);
}

-- ---- the names that it knows then

-- the part of the roster that the peer knows by name, with the writer
module _ (kept : PeerKept) (i : ℕ) (k : ReaderKept) (far : FarWriter) (roster : Roster) (peer : Peer)
    (s : StandsFor kept roster peer) (at : slice_get kept.readers i ≡ Some k)
    (may : is_name_among 2 kept.names.writers kept.names.readers (far_writer_name far) ≡ true) where
  abbrev old : Roster
  old = s.knows.known

  abbrev own : Endpoint
  own = reader_end peer.number i

  abbrev pub with_met : Roster
  with_met = with_writer_end old far.endpoint far.guid own

  agree : AgreeOnEnds old.prefix old.writers far.endpoint far.guid
  agree = writers_agree old kept.names (far_writer_name far) own s.knows.named may

  beside : AgreeOnPeers old.prefix old.readers far.endpoint far.guid
  beside = readers_beside old kept.names (far_writer_name far) own s.knows.named may

  -- the peer is one of it
  pub peer_with_met : IsPeerOf with_met peer.number (identity_of kept)
  peer_with_met =
      peer_in_whole old with_met (within_with_writer old far.endpoint far.guid own agree beside)
      peer.number (identity_of kept)
      (roster_with_writer old far.endpoint far.guid own agree beside s.knows.is_peer.is_roster
      (has_prefix 2 kept.names.writers kept.names.readers (far_writer_name far) may))
      (prefix_stays old.prefix old.readers far.endpoint far.guid beside own k.entity
      (s.knows.is_peer.readers i (reader_identity k) (map-get reader_identity kept.readers i k at)).entity)
      s.knows.is_peer

  -- it has whom the peer meets
  met_writer : IsWriter with_met far.guid.prefix far.guid.entity far.endpoint
  met_writer = has_writer old far.endpoint far.guid own agree beside

  met_matched : with_met.are_matched far.endpoint own ≡ true
  met_matched = matches_writer old far.endpoint far.guid own agree beside

  -- by the names of before it is that peer there, too
  knows_there : KnowsNames with_met peer.number (identity_of kept) kept.names
  knows_there = record {
    known = old;
    is_peer = s.knows.is_peer;
    is_within = within_with_writer old far.endpoint far.guid own agree beside;
    named = s.knows.named;
  }

  -- so there is a roster that has whom it meets
  pub writer_somewhere : (handle : ℕ) → IsSound roster peer
      → Somewhere (StandsFor kept) peer (event.Call (call.MeetWriter (suc i) far)) (InstanceHandle handle)
  writer_somewhere handle sound = record {
    roster = with_met;
    alike = by_rows peer;
    number = refl;
    part = refl;
    stands = stands_elsewhere kept roster with_met peer s peer_with_met knows_there;
    sound = sound_elsewhere kept roster with_met peer s peer_with_met sound;
    has = (
      met_writer,
      subst (λ (n : ℕ). with_met.are_matched far.endpoint (record { peer = peer.number; number = n }) ≡ true)
          (sym (as_indexed i)) met_matched,
    );
  }

  -- once the reader has met the writer, the peer knows its name
  pub knows_once_met : (row : ℕ) (k' : ReaderKept) (handle : ℕ) → AreRowsOnce k'.writers
      → MeetsWriter k (writer_name far) (as_matched far) row k'
      → MeetsByRoster roster peer.number (event.Call (call.MeetWriter (suc i) far)) (InstanceHandle handle)
      → KnowsNames roster peer.number (identity_of (with_reader kept i k'))
      (record kept.names { writers = with_name kept.names.writers (far_writer_name far) })
  knows_once_met row k' handle once m has =
      let there = far_named roster peer i handle far has in
      record {
        known = with_met;
        is_peer =
            peer_of_reader kept i k k' with_met peer.number at
            (reader_met_so with_met own k k' far row (record { is = met_writer; matched = met_matched }) m) once
            peer_with_met;
        is_within =
            writer_within old far.endpoint far.guid own agree beside roster s.knows.is_within there.is there.matched;
        named = writer_named old kept.names (far_writer_name far) own s.knows.named may;
      }

-- the same, by what is known of it
knows_writer_met : (kept : PeerKept) (i row : ℕ) (k k' : ReaderKept) (far : FarWriter) (handle : ℕ) (roster : Roster)
    (peer : Peer) → StandsFor kept roster peer → slice_get kept.readers i ≡ Some k
    → is_name_among 2 kept.names.writers kept.names.readers (far_writer_name far) ≡ true → AreRowsOnce k'.writers
    → MeetsWriter k (writer_name far) (as_matched far) row k'
    → MeetsByRoster roster peer.number (event.Call (call.MeetWriter (suc i) far)) (InstanceHandle handle)
    → KnowsNames roster peer.number (identity_of (with_reader kept i k'))
    (record kept.names { writers = with_name kept.names.writers (far_writer_name far) })
knows_writer_met kept i row k k' far handle roster peer s at may once m has =
    knows_once_met kept i k far roster peer s at may row k' handle once m has

-- a name more does no harm
writer_named_too : (kept : PeerKept) (far : FarWriter) (roster : Roster) (peer : Peer) → StandsFor kept roster peer
    → KnowsNames roster peer.number (identity_of kept)
    (record kept.names { writers = with_name kept.names.writers (far_writer_name far) })
writer_named_too kept far roster peer s = record {
  known = s.knows.known;
  is_peer = s.knows.is_peer;
  is_within = s.knows.is_within;
  named = one_writer_more s.knows.known kept.names (far_writer_name far) s.knows.named;
}

-- ---- why it is refused

-- the peer has the reader, may call the writer so, and a writer may have its lease
may_be_called : (part : Part) (names : Names) (reader : ℕ) (far : FarWriter) → part.rtps.names ≡ names
    → has_element part.rtps.readers reader ≡ true
    → is_name_among 2 names.writers names.readers (far_writer_name far) ≡ true
    → is_bad_lease (as_matched far).lease ≡ false
    → may_meet_writer part.rtps reader far.endpoint (as_matched far) ≡ true
may_be_called part names reader far same there called lease =
    ap (λ (b : Bool). b && is_name_among 2 part.rtps.names.writers part.rtps.names.readers (far_writer_name far)
    && not (is_bad_lease (as_matched far).lease)) there
    ∙ (ap (λ (ns : Names). is_name_among 2 ns.writers ns.readers (far_writer_name far)
    && not (is_bad_lease (as_matched far).lease)) same
    ∙ (ap (λ (b : Bool). b && not (is_bad_lease (as_matched far).lease)) called ∙ ap (λ (b : Bool). not b) lease))

-- it is refused so, as it may be met or not
refusal_if : (part : Part) (reader : ℕ) (far : FarWriter) (may : Bool)
    → may_meet_writer part.rtps reader far.endpoint (as_matched far) ≡ may
    → telling_refusal part (far_writer_told reader far)
    ≡ option_or (matching_refusal may (is_attached (how_of (own_proxies part reader) far.endpoint)))
    (if has_too_many (own_proxies part reader) far.endpoint then Some OutOfResources else None)
refusal_if part reader far may is =
    ap (λ (b : Bool). option_or (matching_refusal b (is_attached (how_of (own_proxies part reader) far.endpoint)))
    (if has_too_many (own_proxies part reader) far.endpoint then Some OutOfResources else None)) is

refused_meeting : (kept : PeerKept) (reader : ℕ) (far : FarWriter) (code : Code) (roster : Roster) (peer : Peer)
    → StandsFor kept roster peer → Refuses (telling_refusal peer.part (far_writer_told reader far)) code
    → FollowsMeeting kept roster peer (event.Call (call.MeetWriter reader far)) (silent (Refused code))
refused_meeting kept reader far code roster peer s refuses by_roster =
    refused_call kept roster peer s (call.MeetWriter reader far) code (refuses, λ memory. tt, refl)

-- where the writer may not be met
refused_at_once : (kept : PeerKept) (reader : ℕ) (far : FarWriter) (roster : Roster) (peer : Peer)
    → StandsFor kept roster peer → may_meet_writer peer.part.rtps reader far.endpoint (as_matched far) ≡ false
    → FollowsMeeting kept roster peer (event.Call (call.MeetWriter reader far)) (silent (Refused BadParameter))
refused_at_once kept reader far roster peer s may =
    refused_meeting kept reader far BadParameter roster peer s
    (subst (λ (o : Option Code). Refuses o BadParameter) (sym (refusal_if peer.part reader far false may)) refl)

-- the peer has no such reader
pub no_reader_meets : (kept : PeerKept) (reader : ℕ) (far : FarWriter) (roster : Roster) (peer : Peer)
    → StandsFor kept roster peer → is_number reader (length kept.readers) ≡ false
    → FollowsMeeting kept roster peer (event.Call (call.MeetWriter reader far)) (silent (Refused BadParameter))
no_reader_meets kept reader far roster peer s none =
    let names = peer.part.rtps.names in
    refused_at_once kept reader far roster peer s
    (ap (λ (b : Bool). b && is_name_among 2 names.writers names.readers (far_writer_name far)
    && not (is_bad_lease (as_matched far).lease))
    (no_such peer.part.rtps.readers reader (length kept.readers) s.readers.rows none))

-- it may not call the writer so, or no writer may have its lease
pub not_to_be_met : (kept : PeerKept) (reader : ℕ) (far : FarWriter) (roster : Roster) (peer : Peer)
    → StandsFor kept roster peer
    → (is_name_among 2 kept.names.writers kept.names.readers (far_writer_name far) ≡ false)
    ⊎ (is_bad_lease (as_matched far).lease ≡ true)
    → FollowsMeeting kept roster peer (event.Call (call.MeetWriter reader far)) (silent (Refused BadParameter))
not_to_be_met kept reader far roster peer s bad =
    refused_at_once kept reader far roster peer s
    (ap (λ (ns : Names). has_element peer.part.rtps.readers reader
    && is_name_among 2 ns.writers ns.readers (far_writer_name far)
    && not (is_bad_lease (as_matched far).lease)) s.names
    ∙ ⊎_elim
    (λ name. unnamed (has_element peer.part.rtps.readers reader && called) good
    (neither (has_element peer.part.rtps.readers reader) called name))
    (λ lease. neither (has_element peer.part.rtps.readers reader && called) good (ap (λ (b : Bool). not b) lease)) bad)
  where
    called : Bool
    called = is_name_among 2 kept.names.writers kept.names.readers (far_writer_name far)

    good : Bool
    good = not (is_bad_lease (as_matched far).lease)

    unnamed : (b c : Bool) → b ≡ false → (b && c) ≡ false
    unnamed true c e = absurd (let clash : true ≡ false = e in cc)
    unnamed false c e = refl

    neither : (b c : Bool) → c ≡ false → (b && c) ≡ false
    neither true c e = e
    neither false c e = refl

-- ---- what the reader of an index does

-- The peer stands for a state; it has a reader of this index, may call the writer so, and a writer may have its lease.
pub record AtReader (kept : PeerKept) (i : ℕ) (k : ReaderKept) (far : FarWriter) (roster : Roster) (peer : Peer)
    : Type 0 where
  pub stands : StandsFor kept roster peer
  pub at : slice_get kept.readers i ≡ Some k
  pub within : i < length kept.readers
  pub called : is_name_among 2 kept.names.writers kept.names.readers (far_writer_name far) ≡ true
  pub lease : is_bad_lease (as_matched far).lease ≡ false

-- it may then be met
may_be_met : (kept : PeerKept) (i : ℕ) (k : ReaderKept) (far : FarWriter) (roster : Roster) (peer : Peer)
    → AtReader kept i k far roster peer
    → may_meet_writer peer.part.rtps (suc i) far.endpoint (as_matched far) ≡ true
may_be_met kept i k far roster peer a =
    let count = a.stands.readers.rows in
    let within = a.within in
    may_be_called peer.part kept.names (suc i) far a.stands.names
    (there_is peer.part.rtps.readers i (omega (arith, within, count))) a.called a.lease

-- the reader of this index refuses it
refused_by : (kept : PeerKept) (i : ℕ) (k : ReaderKept) (far : FarWriter) (code : Code) (roster : Roster) (peer : Peer)
    → AtReader kept i k far roster peer → RefusesWriterSo k far.endpoint (λ refusal. Refuses refusal code)
    → FollowsMeeting kept roster peer (event.Call (call.MeetWriter (suc i) far)) (silent (Refused code))
refused_by kept i k far code roster peer a refused =
    refused_meeting kept (suc i) far code roster peer a.stands
    (subst (λ (o : Option Code). Refuses o code)
    (sym (refusal_if peer.part (suc i) far true (may_be_met kept i k far roster peer a)))
    (refused (own_proxies peer.part (suc i)) (own_reader peer.part (suc i)) (λ w. peer.known.tracked w (suc i))
    (a.stands.readers.each i k a.at)))

-- the writer is met
meets : (kept : PeerKept) (i row : ℕ) (k k' : ReaderKept) (names : Names) (far : FarWriter) (handle : ℕ)
    (roster : Roster) (peer : Peer) → AtReader kept i k far roster peer
    → RefusesWriterSo k far.endpoint (λ refusal. refusal ≡ None)
    → MeetsWriter k (writer_name far) (as_matched far) row k' → handle ≡ row + 1
    → names ≡ record kept.names { writers = with_name kept.names.writers (far_writer_name far) }
    → FollowsMeeting (with_names (with_reader kept i k') names) roster peer
    (event.Call (call.MeetWriter (suc i) far)) (silent (InstanceHandle handle))
meets kept i row k k' names far handle roster peer a accepted m same is_now has = (
  naming stepped (record peer.part.rtps.names { writers = with_name peer.part.rtps.names.writers (far_writer_name far) }),
  record {
    same_number = refl;
    knows = refl;
    step = (
      record {
        answers = (
          refusal_if peer.part (suc i) far true (may_be_met kept i k far roster peer a)
              ∙ accepted rows r (λ w. peer.known.tracked w (suc i)) stands,
          ap InstanceHandle
              (same ∙ ap (λ (o : Option ℕ). option_map_or (λ (n : ℕ). n) o 0)
              (sym (handle_once_met k k' (writer_name far) (as_matched far) row rows r
              (λ w. peer.known.tracked w (suc i)) m stands))),
          refl,
        );
        rtps = refl;
      },
      refl,
    );
    sent = λ p x among h. absurd (omega (arith, among.1));
  },
  now,
)
  where
    rows : List WriterProxy
    rows = own_proxies peer.part (suc i)

    r : Reader
    r = own_reader peer.part (suc i)

    stands : ReaderStands k rows r (λ w. peer.known.tracked w (suc i))
    stands = a.stands.readers.each i k a.at

    stepped : Peer
    stepped =
        record peer {
          part =
              with_read peer.part (suc i) (with_match rows far.endpoint)
              (reader_met rows r far.endpoint (as_matched far));
        }

    once : AreRowsOnce k'.writers
    once =
        subst (λ (ns : List WriterName). AreRowsOnce ns) (sym m.writers)
        (once_with k.writers (writer_name far)
        (a.stands.is_peer.once i (reader_identity k) (map-get reader_identity kept.readers i k a.at)))

    now_names : Names
    now_names = record peer.part.rtps.names { writers = with_name peer.part.rtps.names.writers (far_writer_name far) }

    named : StandsFor (with_names kept names) roster (naming peer now_names)
    named =
        named_so kept names roster peer now_names a.stands
        (ap (λ (ns : Names). record ns { writers = with_name ns.writers (far_writer_name far) }) a.stands.names
        ∙ sym is_now)
        (subst (λ (ns : Names). KnowsNames roster peer.number (identity_of kept) ns) (sym is_now)
        (writer_named_too kept far roster peer a.stands))

    now : StandsFor (with_reader (with_names kept names) i k') roster
        (record (naming peer now_names) {
          part =
              with_read (naming peer now_names).part (suc i) (with_match rows far.endpoint)
              (reader_met rows r far.endpoint (as_matched far));
        })
    now =
        own_reader_put (with_names kept names) i k' (with_match rows far.endpoint)
        (reader_met rows r far.endpoint (as_matched far)) peer.known roster (naming peer now_names) named
        (peer_of_reader kept i k k' roster peer.number a.at
        (reader_met_so roster (reader_end peer.number i) k k' far row (far_named roster peer i handle far has) m) once
        a.stands.is_peer)
        (subst (λ (ns : Names). KnowsNames roster peer.number (identity_of (with_reader kept i k')) ns) (sym is_now)
        (knows_writer_met kept i row k k' far handle roster peer a.stands a.at a.called once m has))
        refl (λ w n apart. refl) (m.stands rows r (λ w. peer.known.tracked w (suc i)) stands)

-- ---- the calls, by the index of their reader

pub meets_at : (kept : PeerKept) (reader i row : ℕ) (k k' : ReaderKept) (names : Names) (far : FarWriter) (handle : ℕ)
    (roster : Roster) (peer : Peer) → AtReader kept i k far roster peer → reader ≡ i + 1
    → RefusesWriterSo k far.endpoint (λ refusal. refusal ≡ None)
    → MeetsWriter k (writer_name far) (as_matched far) row k' → handle ≡ row + 1
    → names ≡ record kept.names { writers = with_name kept.names.writers (far_writer_name far) }
    → FollowsMeeting (with_names (with_reader kept i k') names) roster peer
    (event.Call (call.MeetWriter reader far)) (silent (InstanceHandle handle))
meets_at kept reader i row k k' names far handle roster peer a is accepted m same is_now =
    subst (λ (n : ℕ). FollowsMeeting (with_names (with_reader kept i k') names) roster peer
    (event.Call (call.MeetWriter n far)) (silent (InstanceHandle handle))) (number_is reader i is)
    (meets kept i row k k' names far handle roster peer a accepted m same is_now)

-- some roster has the writer, once it is met
pub met_at : (kept now : PeerKept) (reader i : ℕ) (k : ReaderKept) (far : FarWriter) (handle : ℕ) (o : Output)
    → kept ≡ now → slice_get kept.readers i ≡ Some k → reader ≡ i + 1
    → is_name_among 2 kept.names.writers kept.names.readers (far_writer_name far) ≡ true
    → o ≡ silent (InstanceHandle handle) → MeetsSomewhere now (event.Call (call.MeetWriter reader far)) o.reply
met_at kept now reader i k far handle o view at is called same =
    subst (λ (x : Output). MeetsSomewhere now (event.Call (call.MeetWriter reader far)) x.reply) (sym same)
    (subst (λ (n : ℕ). MeetsSomewhere now (event.Call (call.MeetWriter n far)) (InstanceHandle handle))
    (number_is reader i is)
    (subst (λ (x : PeerKept). MeetsSomewhere x (event.Call (call.MeetWriter (suc i) far)) (InstanceHandle handle)) view
    (λ roster peer s sound. writer_somewhere kept i k far roster peer s at called handle sound)))

-- the reader of this index refuses it, and nothing was done
pub refused_at : (kept : PeerKept) (reader i : ℕ) (k : ReaderKept) (far : FarWriter) (code : Code) (roster : Roster)
    (peer : Peer) → AtReader kept i k far roster peer → reader ≡ i + 1
    → RefusesWriterSo k far.endpoint (λ refusal. Refuses refusal code)
    → FollowsMeeting kept roster peer (event.Call (call.MeetWriter reader far)) (silent (Refused code))
refused_at kept reader i k far code roster peer a is refused =
    subst (λ (n : ℕ). FollowsMeeting kept roster peer (event.Call (call.MeetWriter n far)) (silent (Refused code)))
    (number_is reader i is) (refused_by kept i k far code roster peer a refused)

-- the same, where the name was not taken
pub not_named : (kept : PeerKept) (reader i : ℕ) (k : ReaderKept) (names : Names) (far : FarWriter) (code : Code)
    (roster : Roster) (peer : Peer) → AtReader kept i k far roster peer → reader ≡ i + 1
    → RefusesWriterSo k far.endpoint (λ refusal. Refuses refusal code) → names ≡ kept.names
    → FollowsMeeting (with_names kept names) roster peer (event.Call (call.MeetWriter reader far)) (silent (Refused code))
not_named kept reader i k names far code roster peer a is refused back =
    subst (λ (x : PeerKept). FollowsMeeting x roster peer (event.Call (call.MeetWriter reader far)) (silent (Refused code)))
    (sym (same_named kept names back)) (refused_at kept reader i k far code roster peer a is refused)

-- the reader refuses it, or no memory is left, and all is put back as it was
pub meets_not : (kept : PeerKept) (reader i : ℕ) (k k' : ReaderKept) (names : Names) (far : FarWriter) (code : Code)
    (roster : Roster) (peer : Peer) → AtReader kept i k far roster peer → reader ≡ i + 1
    → RefusesWriterSo k far.endpoint (λ refusal. Refuses refusal code) → k' ≡ k → names ≡ kept.names
    → FollowsMeeting (with_names (with_reader kept i k') names) roster peer
    (event.Call (call.MeetWriter reader far)) (silent (Refused code))
meets_not kept reader i k k' names far code roster peer a is refused same back =
    subst (λ (rs : List ReaderKept). FollowsMeeting (with_names (record kept { readers = rs }) names) roster peer
    (event.Call (call.MeetWriter reader far)) (silent (Refused code)))
    (sym (set_back kept.readers i k k' a.at same))
    (not_named kept reader i k names far code roster peer a is refused back)

-- the reader has this cause
pub caused : (k : ReaderKept) (writer : Endpoint) (code : Code) (cause : Option Code)
    → RefusesWriterSo k writer (λ refusal. refusal ≡ cause) → cause ≡ Some code
    → RefusesWriterSo k writer (λ refusal. Refuses refusal code)
caused k writer code cause so is proxies r tracked s =
    subst (λ (o : Option Code). Refuses o code) (sym (so proxies r tracked s ∙ is)) refl

-- it has none, and no memory is left
pub wants_memory : (k : ReaderKept) (writer : Endpoint) (code : Code) (cause : Option Code)
    → RefusesWriterSo k writer (λ refusal. refusal ≡ cause) → cause ≡ None → code ≡ Memory
    → RefusesWriterSo k writer (λ refusal. Refuses refusal code)
wants_memory k writer code cause so is memory proxies r tracked s =
    subst (λ (o : Option Code). Refuses o code) (sym (so proxies r tracked s ∙ is)) memory
