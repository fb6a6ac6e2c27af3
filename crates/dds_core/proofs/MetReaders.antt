-- What a writer that meets a reader does to a peer: the roster has the reader, or it is refused.
use Rattle.std.proofs.Common.{◌≡◌, ℕ, suc, ◌+◌, ◌<◌, ◌&&◌, Bool, true, false, List, [], ◌∷◌, ◌++◌, Option, None, Some, length, slice_get, refl, ap, sym, subst, ◌∙◌, arith, ⊎_elim}
use Rattle.std.specs.Prelude.{if◌then◌else◌}
use Rattle.std.specs.Option.{option_or}
use Rattle.dds_base.specs.declared.code.Code.{Code}
use Rattle.dds_base.specs.declared.code.Code.TheVariants.{BadParameter, Memory, OutOfResources}
use Rattle.dds_base.specs.declared.endpoint.Endpoint.{Endpoint}
use Rattle.dds_base.specs.declared.guid.EntityId.{EntityId}
use Rattle.dds_base.specs.Matched.{is_reliable}
use Rattle.dds_base.specs.Number.{is_number}
use Rattle.dds_base.specs.Refusal.{Refuses}
use Rattle.dds_machine.specs.declared.call.Call.TheVariants as call
use Rattle.dds_machine.specs.declared.far.FarReader.{FarReader}
use Rattle.dds_machine.specs.declared.reply.Reply.TheVariants.{Done, Refused}
use Rattle.dds_machine.specs.Calls.{far_reader_told}
use Rattle.dds_machine.specs.Matching.{is_matched, knows_reader, knows_too_many, matching_refusal, may_meet_reader, meets_reliable, met, telling_refusal}
use Rattle.dds_machine.specs.Naming.{is_name_among, with_name}
use Rattle.dds_machine.specs.Numbered.{has_element}
use Rattle.dds_machine.specs.Part.{Name, Names, Part, Writer, at_writer, own_writer, writer_changes}
use Rattle.dds_protocol.specs.declared.event.Event.{Event}
use Rattle.dds_protocol.specs.declared.event.Event.TheVariants as event
use Rattle.dds_protocol.specs.declared.event.Output.{Output}
use Rattle.dds_protocol.specs.Claims.{IsReader}
use Rattle.dds_protocol.specs.Meetings.{MeetsByRoster}
use Rattle.dds_protocol.specs.Peer.{Peer, known_once_told}
use Rattle.dds_protocol.specs.Protocol.{Known}
use Rattle.dds_protocol.specs.Roster.{Roster}
use Rattle.dds_ends.specs.declared.matching.ReaderName.{ReaderName}
use Rattle.dds_ends.specs.declared.matching.TopicName.{TopicName}
use Rattle.dds_ends.specs.Coming.{RefusesSo, matched_anew}
use Rattle.dds_ends.specs.Identity.{IsWriterOf, writer_identity}
use Rattle.dds_ends.specs.Kept.{WriterKept}
use Rattle.dds_ends.specs.MatchedEnds.{AreKnownReaders, IsKnownReader, is_named, names_of}
use Rattle.dds_ends.specs.Meeting.{Meets, meeting_refusal, with_known}
use Rattle.dds_ends.specs.Standing.{WriterStands}
use Rattle.dds_ends.proofs.Alike.{last-cases}
use Rattle.dds_ends.proofs.Lists.{map-get}
use Rattle.dds_core.specs.Identity.{IsPeerOf, KnowsNames, identity_of}
use Rattle.dds_core.specs.Kept.{PeerKept}
use Rattle.dds_core.specs.Ruling.{IsSound}
use Rattle.dds_core.specs.Somewhere.{MeetsSomewhere, Somewhere}
use Rattle.dds_core.specs.Standing.{StandsFor}
use Rattle.dds_core.proofs.CallSteps.{Follows, no_such, number_is, refused_call, there_is}
use Rattle.dds_core.proofs.Ends.{unchanged_with, with_writer, writer_stands_on}
use Rattle.dds_core.proofs.ReaderSteps.{peer_of_writer, told_elsewhere, told_here, writer_end, writer_told}
use Rattle.dds_core.proofs.Taking.{silent}
use Rattle.dds_core.proofs.Agreeing.{has_its_kind, has_prefix, one_reader_more, reader_named, readers_agree, reliable_before, writers_beside}
use Rattle.dds_core.proofs.Elsewhere.{by_rows, sound_elsewhere, stands_elsewhere}
use Rattle.dds_core.proofs.WithEnds.{AgreeOnEnds, AgreeOnPeers, has_reader, matches_reader, prefix_stays, reader_within, reliable_here, roster_with_reader, with_reader_end, within_with_reader}
use Rattle.dds_core.proofs.Within.{peer_in_whole}

-- ---- whom the roster has

-- what follows an event by which the peer meets nobody but whom the roster has
abbrev pub FollowsMeeting : PeerKept → Roster → Peer → Event → Output → Type 0
FollowsMeeting kept roster peer ev output =
    MeetsByRoster roster peer.number ev output.reply → Follows kept roster peer ev output

-- the same of another name for the output
pub meeting_as : (kept : PeerKept) (roster : Roster) (peer : Peer) (ev : Event) (o p : Output) → p ≡ o
    → FollowsMeeting kept roster peer ev o → FollowsMeeting kept roster peer ev p
meeting_as kept roster peer ev o p same h =
    subst (λ (x : Output). FollowsMeeting kept roster peer ev x) (sym same) h

-- the end of this index has the number after it
pub as_indexed : (i : ℕ) → suc i ≡ i + 1
as_indexed i = omega arith

-- ---- names

-- the names that are kept have changed, and nothing else
abbrev pub with_names : PeerKept → Names → PeerKept
with_names kept names = record kept { names = names }

-- a peer that knows these names
abbrev pub naming : Peer → Names → Peer
naming peer names =
    record peer { part = record peer.part { rtps = record peer.part.rtps { names = names } } }

pub named_so : (kept : PeerKept) (names : Names) (roster : Roster) (peer : Peer) (now : Names)
    → StandsFor kept roster peer → now ≡ names → KnowsNames roster peer.number (identity_of kept) names
    → StandsFor (with_names kept names) roster (naming peer now)
named_so kept names roster peer now s same knows = record {
  is_peer = s.is_peer;
  knows = knows;
  moment = s.moment;
  early = s.early;
  writers = s.writers;
  readers = s.readers;
  names = same;
  tellable = s.tellable;
  watch = s.watch;
}

-- names that were put back as they were change nothing
pub same_named : (kept : PeerKept) (names : Names) → names ≡ kept.names → with_names kept names ≡ kept
same_named kept names same = ap (λ (ns : Names). with_names kept ns) same

-- ---- the reader that is met

-- whether it asks for all changes
abbrev pub far_reliable : FarReader → Bool
far_reliable far = is_reliable far.requested.reliability

-- the name of it, by what was read of that ..
abbrev pub name_by : FarReader → Bool → Name
name_by far reliable = record { end = far.endpoint; guid = far.guid; reliable = reliable }

-- .. which is so ..
abbrev pub far_name : FarReader → Name
far_name far = name_by far (far_reliable far)

-- .. as a writer has it
abbrev pub reader_name : FarReader → ReaderName
reader_name far = record { reader = far.endpoint; guid = far.guid }

-- a writer that knows it too knows readers that the roster matches with it
known_with : (roster : Roster) (writer : Endpoint) (known : List TopicName) (name : ReaderName) (reliable : Bool)
    → AreKnownReaders roster writer known
    → IsKnownReader roster writer (record { name = name; is_reliable = reliable })
    → AreKnownReaders roster writer (with_known known name reliable)
known_with roster writer known name reliable are one = by (is_named (names_of known) name.reader)
  where
    more : TopicName
    more = record { name = name; is_reliable = reliable }

    by : (b : Bool) → AreKnownReaders roster writer (if b then known else known ++ more ∷ [])
    by true = are
    by false = λ i k at.
        ⊎_elim (λ last. subst (λ (x : TopicName). IsKnownReader roster writer x) last.1 one)
        (λ before. are i k before.1) (last-cases known more i k at)

-- the writer is one of the roster as it was
writer_met : (roster : Roster) (writer : Endpoint) (k k' : WriterKept) (far : FarReader) (greeted : Bool)
    → IsKnownReader roster writer (record { name = reader_name far; is_reliable = far_reliable far })
    → Meets k (reader_name far) (far_reliable far) greeted k'
    → IsWriterOf roster writer (writer_identity k) → IsWriterOf roster writer (writer_identity k')
writer_met roster writer k k' far greeted one m is =
    let known : AreKnownReaders roster writer k'.known =
    subst (λ (ks : List TopicName). AreKnownReaders roster writer ks) (sym m.known)
    (known_with roster writer k.known (reader_name far) (far_reliable far) is.known one) in
    record {
      entity = is.entity ∙ ap (λ (e : EntityId). Some e) (sym m.entity);
      known = known;
      ends = m.ends roster writer known is.ends;
    }

-- the roster has the reader that the writer of this index meets
far_known : (roster : Roster) (peer : Peer) (i : ℕ) (far : FarReader) (greeted : Bool)
    → MeetsByRoster roster peer.number (event.Call (call.MeetReader (suc i) far greeted)) Done
    → IsKnownReader roster (writer_end peer.number i) (record { name = reader_name far; is_reliable = far_reliable far })
far_known roster peer i far greeted has = record {
  name_is = record {
    is = has.0;
    matched =
        subst (λ (n : ℕ). roster.are_matched (record { peer = peer.number; number = n }) far.endpoint ≡ true)
        (as_indexed i) has.1;
  };
  as_reliable = has.2;
}

-- ---- the names that it knows then

-- the part of the roster that the peer knows by name, with the reader
module _ (kept : PeerKept) (i : ℕ) (k : WriterKept) (far : FarReader) (roster : Roster) (peer : Peer)
    (s : StandsFor kept roster peer) (at : slice_get kept.writers i ≡ Some k)
    (may : is_name_among 7 kept.names.readers kept.names.writers (far_name far) ≡ true) where
  abbrev old : Roster
  old = s.knows.known

  abbrev own : Endpoint
  own = writer_end peer.number i

  abbrev pub with_met : Roster
  with_met = with_reader_end old far.endpoint far.guid (far_reliable far) own

  beside : AgreeOnPeers old.prefix old.writers far.endpoint far.guid
  beside = writers_beside old kept.names (far_name far) own s.knows.named may

  agree : AgreeOnEnds old.prefix old.readers far.endpoint far.guid
  agree = readers_agree old kept.names (far_name far) own s.knows.named may

  as_before : (entity : EntityId) → old.readers far.endpoint ≡ Some entity
      → far_reliable far ≡ old.is_reliable far.endpoint
  as_before = reliable_before old kept.names (far_name far) own s.knows.named may

  -- the peer is one of it
  pub peer_with_met : IsPeerOf with_met peer.number (identity_of kept)
  peer_with_met =
      peer_in_whole old with_met
      (within_with_reader old far.endpoint far.guid (far_reliable far) own beside agree as_before)
      peer.number (identity_of kept)
      (roster_with_reader old far.endpoint far.guid (far_reliable far) own beside agree as_before
      s.knows.is_peer.is_roster
      (has_prefix 7 kept.names.readers kept.names.writers (far_name far) may)
      (has_its_kind 7 kept.names.readers kept.names.writers (far_name far) may))
      (prefix_stays old.prefix old.writers far.endpoint far.guid beside own k.entity
      (s.knows.is_peer.writers i (writer_identity k) (map-get writer_identity kept.writers i k at)).entity)
      s.knows.is_peer

  -- it has whom the peer meets
  met_reader : IsReader with_met far.guid.prefix far.guid.entity far.endpoint
  met_reader = has_reader old far.endpoint far.guid (far_reliable far) own beside agree as_before

  met_matched : with_met.are_matched own far.endpoint ≡ true
  met_matched = matches_reader old far.endpoint far.guid (far_reliable far) own beside agree as_before

  met_reliable : with_met.is_reliable far.endpoint ≡ far_reliable far
  met_reliable = reliable_here old far.endpoint far.guid (far_reliable far) own beside agree as_before

  -- by the names of before it is that peer there, too
  knows_there : KnowsNames with_met peer.number (identity_of kept) kept.names
  knows_there = record {
    known = old;
    is_peer = s.knows.is_peer;
    is_within = within_with_reader old far.endpoint far.guid (far_reliable far) own beside agree as_before;
    named = s.knows.named;
  }

  -- so there is a roster that has whom it meets
  pub reader_somewhere : (greeted : Bool) → IsSound roster peer
      → Somewhere (StandsFor kept) peer (event.Call (call.MeetReader (suc i) far greeted)) Done
  reader_somewhere greeted sound = record {
    roster = with_met;
    alike = by_rows peer;
    number = refl;
    part = refl;
    stands = stands_elsewhere kept roster with_met peer s peer_with_met knows_there;
    sound = sound_elsewhere kept roster with_met peer s peer_with_met sound;
    has = (
      met_reader,
      subst (λ (n : ℕ). with_met.are_matched (record { peer = peer.number; number = n }) far.endpoint ≡ true)
          (sym (as_indexed i)) met_matched,
      met_reliable,
    );
  }

  -- once the writer has met the reader, the peer knows its name
  pub knows_once_met : (k' : WriterKept) (greeted : Bool) → Meets k (reader_name far) (far_reliable far) greeted k'
      → MeetsByRoster roster peer.number (event.Call (call.MeetReader (suc i) far greeted)) Done
      → KnowsNames roster peer.number (identity_of (with_writer kept i k'))
      (record kept.names { readers = with_name kept.names.readers (far_name far) })
  knows_once_met k' greeted m has =
      let there = far_known roster peer i far greeted has in
      record {
        known = with_met;
        is_peer =
            peer_of_writer kept i k k' with_met peer.number at m.max_value
            (writer_met with_met own k k' far greeted
            (record { name_is = record { is = met_reader; matched = met_matched }; as_reliable = met_reliable }) m)
            peer_with_met;
        is_within =
            reader_within old far.endpoint far.guid (far_reliable far) own beside agree as_before roster
            s.knows.is_within there.name_is.is there.as_reliable there.name_is.matched;
        named = reader_named old kept.names (far_name far) own s.knows.named may;
      }

-- the same, by what is known of it
knows_reader_met : (kept : PeerKept) (i : ℕ) (k k' : WriterKept) (far : FarReader) (greeted : Bool) (roster : Roster)
    (peer : Peer) → StandsFor kept roster peer → slice_get kept.writers i ≡ Some k
    → is_name_among 7 kept.names.readers kept.names.writers (far_name far) ≡ true
    → Meets k (reader_name far) (far_reliable far) greeted k'
    → MeetsByRoster roster peer.number (event.Call (call.MeetReader (suc i) far greeted)) Done
    → KnowsNames roster peer.number (identity_of (with_writer kept i k'))
    (record kept.names { readers = with_name kept.names.readers (far_name far) })
knows_reader_met kept i k k' far greeted roster peer s at may m has =
    knows_once_met kept i k far roster peer s at may k' greeted m has

-- a name more does no harm
reader_named_too : (kept : PeerKept) (far : FarReader) (roster : Roster) (peer : Peer) → StandsFor kept roster peer
    → KnowsNames roster peer.number (identity_of kept)
    (record kept.names { readers = with_name kept.names.readers (far_name far) })
reader_named_too kept far roster peer s = record {
  known = s.knows.known;
  is_peer = s.knows.is_peer;
  is_within = s.knows.is_within;
  named = one_reader_more s.knows.known kept.names (far_name far) s.knows.named;
}

-- ---- why it is refused

-- the peer has the writer, and may call the reader so
may_be_called : (part : Part) (names : Names) (writer : ℕ) (name : Name) → part.rtps.names ≡ names
    → has_element part.rtps.writers writer ≡ true → is_name_among 7 names.readers names.writers name ≡ true
    → may_meet_reader part.rtps writer name ≡ true
may_be_called part names writer name same there called =
    ap (λ (b : Bool). b && is_name_among 7 part.rtps.names.readers part.rtps.names.writers name) there
    ∙ (ap (λ (ns : Names). is_name_among 7 ns.readers ns.writers name) same ∙ called)

-- it is refused so, as it may be called so or not
refusal_if : (part : Part) (writer : ℕ) (far : FarReader) (may : Bool)
    → may_meet_reader part.rtps writer (far_name far) ≡ may
    → telling_refusal part (far_reader_told writer far)
    ≡ option_or (matching_refusal may (is_matched (own_writer part writer) far.endpoint))
    (if knows_too_many (own_writer part writer) far.endpoint then Some OutOfResources else None)
refusal_if part writer far may is =
    ap (λ (b : Bool). option_or (matching_refusal b (is_matched (own_writer part writer) far.endpoint))
    (if knows_too_many (own_writer part writer) far.endpoint then Some OutOfResources else None)) is

refused_meeting : (kept : PeerKept) (writer : ℕ) (far : FarReader) (greeted : Bool) (code : Code) (roster : Roster)
    (peer : Peer) → StandsFor kept roster peer → Refuses (telling_refusal peer.part (far_reader_told writer far)) code
    → FollowsMeeting kept roster peer (event.Call (call.MeetReader writer far greeted)) (silent (Refused code))
refused_meeting kept writer far greeted code roster peer s refuses by_roster =
    refused_call kept roster peer s (call.MeetReader writer far greeted) code (refuses, λ memory. tt, refl)

-- where the reader may not be met
refused_at_once : (kept : PeerKept) (writer : ℕ) (far : FarReader) (greeted : Bool) (roster : Roster) (peer : Peer)
    → StandsFor kept roster peer → may_meet_reader peer.part.rtps writer (far_name far) ≡ false
    → FollowsMeeting kept roster peer (event.Call (call.MeetReader writer far greeted)) (silent (Refused BadParameter))
refused_at_once kept writer far greeted roster peer s may =
    refused_meeting kept writer far greeted BadParameter roster peer s
    (subst (λ (o : Option Code). Refuses o BadParameter) (sym (refusal_if peer.part writer far false may)) refl)

-- the peer has no such writer
pub no_writer_meets : (kept : PeerKept) (writer : ℕ) (far : FarReader) (greeted : Bool) (roster : Roster) (peer : Peer)
    → StandsFor kept roster peer → is_number writer (length kept.writers) ≡ false
    → FollowsMeeting kept roster peer (event.Call (call.MeetReader writer far greeted)) (silent (Refused BadParameter))
no_writer_meets kept writer far greeted roster peer s none =
    let names = peer.part.rtps.names in
    refused_at_once kept writer far greeted roster peer s
    (ap (λ (b : Bool). b && is_name_among 7 names.readers names.writers (far_name far))
    (no_such peer.part.rtps.writers writer (length kept.writers) s.writers.count none))

-- it may not call the reader so
pub not_called_so : (kept : PeerKept) (writer : ℕ) (far : FarReader) (reliable greeted : Bool) (roster : Roster)
    (peer : Peer) → StandsFor kept roster peer → reliable ≡ far_reliable far
    → is_name_among 7 kept.names.readers kept.names.writers (name_by far reliable) ≡ false
    → FollowsMeeting kept roster peer (event.Call (call.MeetReader writer far greeted)) (silent (Refused BadParameter))
not_called_so kept writer far reliable greeted roster peer s read none =
    refused_at_once kept writer far greeted roster peer s
    (ap (λ (ns : Names). has_element peer.part.rtps.writers writer
    && is_name_among 7 ns.readers ns.writers (far_name far)) s.names
    ∙ neither (has_element peer.part.rtps.writers writer)
    (is_name_among 7 kept.names.readers kept.names.writers (far_name far))
    (subst (λ (b : Bool). is_name_among 7 kept.names.readers kept.names.writers (name_by far b) ≡ false) read none))
  where
    neither : (a b : Bool) → b ≡ false → (a && b) ≡ false
    neither true b is = is
    neither false b is = refl

-- ---- what the writer of an index does

-- The peer stands for a state; it has a writer of this index, and may call the reader so, by what was read of it.
pub record AtWriter (kept : PeerKept) (i : ℕ) (k : WriterKept) (far : FarReader) (reliable : Bool) (roster : Roster)
    (peer : Peer) : Type 0 where
  pub stands : StandsFor kept roster peer
  pub at : slice_get kept.writers i ≡ Some k
  pub within : i < length kept.writers
  pub read : reliable ≡ far_reliable far
  pub called : is_name_among 7 kept.names.readers kept.names.writers (name_by far reliable) ≡ true

-- it may then be met
may_be_met : (kept : PeerKept) (i : ℕ) (k : WriterKept) (far : FarReader) (reliable : Bool) (roster : Roster)
    (peer : Peer) → AtWriter kept i k far reliable roster peer
    → may_meet_reader peer.part.rtps (suc i) (far_name far) ≡ true
may_be_met kept i k far reliable roster peer a =
    let count = a.stands.writers.count in
    let within = a.within in
    may_be_called peer.part kept.names (suc i) (far_name far) a.stands.names
    (there_is peer.part.rtps.writers i (omega (arith, within, count)))
    (subst (λ (b : Bool). is_name_among 7 kept.names.readers kept.names.writers (name_by far b) ≡ true) a.read a.called)

-- the writer of this index refuses it
refused_by : (kept : PeerKept) (i : ℕ) (k : WriterKept) (far : FarReader) (reliable greeted : Bool) (code : Code)
    (roster : Roster) (peer : Peer) → AtWriter kept i k far reliable roster peer
    → RefusesSo meeting_refusal k far.endpoint (λ refusal. Refuses refusal code)
    → FollowsMeeting kept roster peer (event.Call (call.MeetReader (suc i) far greeted)) (silent (Refused code))
refused_by kept i k far reliable greeted code roster peer a refused =
    refused_meeting kept (suc i) far greeted code roster peer a.stands
    (subst (λ (o : Option Code). Refuses o code)
    (sym (refusal_if peer.part (suc i) far true (may_be_met kept i k far reliable roster peer a)))
    (refused (own_writer peer.part (suc i)) (peer.known.answered (suc i)) (a.stands.writers.each i k a.at)))

-- the changes of the writer are those of before
changes_stay : (w : Writer) (reader : Endpoint) (reliable : Bool)
    → writer_changes (met w reader reliable) ≡ writer_changes w
changes_stay w reader reliable = by (knows_reader w reader)
  where
    by : (b : Bool)
        → writer_changes
        (if b then w else record w { known = w.known ++ record { reader = reader; reliable = reliable } ∷ [] })
        ≡ writer_changes w
    by true = refl
    by false = refl

-- the reader is met
meets : (kept : PeerKept) (i : ℕ) (k k' : WriterKept) (names : Names) (far : FarReader) (reliable greeted : Bool)
    (roster : Roster) (peer : Peer) → AtWriter kept i k far reliable roster peer
    → RefusesSo meeting_refusal k far.endpoint (λ refusal. refusal ≡ None)
    → Meets k (reader_name far) (far_reliable far) greeted k'
    → names ≡ record kept.names { readers = with_name kept.names.readers (far_name far) }
    → FollowsMeeting (with_names (with_writer kept i k') names) roster peer
    (event.Call (call.MeetReader (suc i) far greeted)) (silent Done)
meets kept i k k' names far reliable greeted roster peer a accepted m is_now has = (
  naming stepped (record peer.part.rtps.names { readers = with_name peer.part.rtps.names.readers (far_name far) }),
  record {
    same_number = refl;
    knows = refl;
    step = (
      record {
        answers = (
          refusal_if peer.part (suc i) far true (may_be_met kept i k far reliable roster peer a)
              ∙ accepted w (peer.known.answered (suc i)) stands,
          refl,
          refl,
        );
        rtps = refl;
      },
      refl,
    );
    sent = λ p x among h. absurd (omega (arith, among.1));
  },
  now,
)
  where
    w : Writer
    w = own_writer peer.part (suc i)

    stands : WriterStands k w (peer.known.answered (suc i))
    stands = a.stands.writers.each i k a.at

    quiet : Bool
    quiet = greeted && meets_reliable w far.endpoint (far_reliable far)

    known : Known
    known = known_once_told peer.known (suc i) far.endpoint quiet

    after : Writer
    after = met w far.endpoint (far_reliable far)

    stepped : Peer
    stepped = record peer { part = at_writer peer.part (suc i) after; known = known }

    now_names : Names
    now_names = record peer.part.rtps.names { readers = with_name peer.part.rtps.names.readers (far_name far) }

    may : is_name_among 7 kept.names.readers kept.names.writers (far_name far) ≡ true
    may =
        subst (λ (b : Bool). is_name_among 7 kept.names.readers kept.names.writers (name_by far b) ≡ true) a.read
        a.called

    named : StandsFor (with_names kept names) roster (naming peer now_names)
    named =
        named_so kept names roster peer now_names a.stands
        (ap (λ (ns : Names). record ns { readers = with_name ns.readers (far_name far) }) a.stands.names ∙ sym is_now)
        (subst (λ (ns : Names). KnowsNames roster peer.number (identity_of kept) ns) (sym is_now)
        (reader_named_too kept far roster peer a.stands))

    now : StandsFor (with_writer (with_names kept names) i k') roster
        (record (naming peer now_names) {
          part = at_writer (naming peer now_names).part (suc i) after;
          known = known;
        })
    now =
        writer_told (with_names kept names) i k k' roster (naming peer now_names) named a.at m.max_value
        (writer_met roster (writer_end peer.number i) k k' far greeted (far_known roster peer i far greeted has) m)
        (subst (λ (ns : Names). KnowsNames roster peer.number (identity_of (with_writer kept i k')) ns) (sym is_now)
        (knows_reader_met kept i k k' far greeted roster peer a.stands a.at may m has))
        after known.answered
        (writer_stands_on k' after (matched_anew (peer.known.answered (suc i)) far.endpoint quiet)
        (known.answered (suc i)) (told_here peer.known i far.endpoint quiet)
        (m.stands w (peer.known.answered (suc i)) stands))
        (told_elsewhere peer.known i far.endpoint quiet)
        (changes_stay w far.endpoint (far_reliable far))

-- ---- the calls, by the index of their writer

pub meets_at : (kept : PeerKept) (writer i : ℕ) (k k' : WriterKept) (names : Names) (far : FarReader)
    (reliable greeted : Bool) (roster : Roster) (peer : Peer) → AtWriter kept i k far reliable roster peer
    → writer ≡ i + 1 → RefusesSo meeting_refusal k far.endpoint (λ refusal. refusal ≡ None)
    → Meets k (reader_name far) reliable greeted k'
    → names ≡ record kept.names { readers = with_name kept.names.readers (name_by far reliable) }
    → FollowsMeeting (with_names (with_writer kept i k') names) roster peer
    (event.Call (call.MeetReader writer far greeted)) (silent Done)
meets_at kept writer i k k' names far reliable greeted roster peer a is accepted m is_now =
    subst (λ (n : ℕ). FollowsMeeting (with_names (with_writer kept i k') names) roster peer
    (event.Call (call.MeetReader n far greeted)) (silent Done)) (number_is writer i is)
    (meets kept i k k' names far reliable greeted roster peer a accepted
    (subst (λ (b : Bool). Meets k (reader_name far) b greeted k') a.read m)
    (is_now ∙ ap (λ (b : Bool). record kept.names { readers = with_name kept.names.readers (name_by far b) }) a.read))

-- some roster has the reader, once it is met
pub met_at : (kept now : PeerKept) (writer i : ℕ) (k : WriterKept) (far : FarReader) (reliable greeted : Bool)
    (o : Output) → kept ≡ now → slice_get kept.writers i ≡ Some k → writer ≡ i + 1 → reliable ≡ far_reliable far
    → is_name_among 7 kept.names.readers kept.names.writers (name_by far reliable) ≡ true → o ≡ silent Done
    → MeetsSomewhere now (event.Call (call.MeetReader writer far greeted)) o.reply
met_at kept now writer i k far reliable greeted o view at is read called same =
    subst (λ (x : Output). MeetsSomewhere now (event.Call (call.MeetReader writer far greeted)) x.reply) (sym same)
    (subst (λ (n : ℕ). MeetsSomewhere now (event.Call (call.MeetReader n far greeted)) Done) (number_is writer i is)
    (subst (λ (x : PeerKept). MeetsSomewhere x (event.Call (call.MeetReader (suc i) far greeted)) Done) view
    (λ roster peer s sound.
    reader_somewhere kept i k far roster peer s at
    (subst (λ (b : Bool). is_name_among 7 kept.names.readers kept.names.writers (name_by far b) ≡ true) read called)
    greeted sound)))

-- the writer of this index refuses it, and nothing was done
pub refused_at : (kept : PeerKept) (writer i : ℕ) (k : WriterKept) (far : FarReader) (reliable greeted : Bool)
    (code : Code) (roster : Roster) (peer : Peer) → AtWriter kept i k far reliable roster peer → writer ≡ i + 1
    → RefusesSo meeting_refusal k far.endpoint (λ refusal. Refuses refusal code)
    → FollowsMeeting kept roster peer (event.Call (call.MeetReader writer far greeted)) (silent (Refused code))
refused_at kept writer i k far reliable greeted code roster peer a is refused =
    subst (λ (n : ℕ). FollowsMeeting kept roster peer (event.Call (call.MeetReader n far greeted)) (silent (Refused code)))
    (number_is writer i is) (refused_by kept i k far reliable greeted code roster peer a refused)

-- the same, where the name was not taken
pub not_named : (kept : PeerKept) (writer i : ℕ) (k : WriterKept) (names : Names) (far : FarReader)
    (reliable greeted : Bool) (code : Code) (roster : Roster) (peer : Peer)
    → AtWriter kept i k far reliable roster peer → writer ≡ i + 1
    → RefusesSo meeting_refusal k far.endpoint (λ refusal. Refuses refusal code) → names ≡ kept.names
    → FollowsMeeting (with_names kept names) roster peer (event.Call (call.MeetReader writer far greeted))
    (silent (Refused code))
not_named kept writer i k names far reliable greeted code roster peer a is refused back =
    subst (λ (x : PeerKept). FollowsMeeting x roster peer (event.Call (call.MeetReader writer far greeted))
    (silent (Refused code))) (sym (same_named kept names back))
    (refused_at kept writer i k far reliable greeted code roster peer a is refused)

-- the writer refuses it, or no memory is left, and all is put back as it was
pub meets_not : (kept : PeerKept) (writer i : ℕ) (k k' : WriterKept) (names : Names) (far : FarReader)
    (reliable greeted : Bool) (code : Code) (roster : Roster) (peer : Peer)
    → AtWriter kept i k far reliable roster peer → writer ≡ i + 1
    → RefusesSo meeting_refusal k far.endpoint (λ refusal. Refuses refusal code) → k' ≡ k → names ≡ kept.names
    → FollowsMeeting (with_names (with_writer kept i k') names) roster peer
    (event.Call (call.MeetReader writer far greeted)) (silent (Refused code))
meets_not kept writer i k k' names far reliable greeted code roster peer a is refused same back =
    subst (λ (x : PeerKept). FollowsMeeting (with_names x names) roster peer
    (event.Call (call.MeetReader writer far greeted)) (silent (Refused code)))
    (sym (unchanged_with kept i k k' a.at same))
    (not_named kept writer i k names far reliable greeted code roster peer a is refused back)

-- the writer has this cause
pub caused : (k : WriterKept) (reader : Endpoint) (code : Code) (cause : Option Code)
    → RefusesSo meeting_refusal k reader (λ refusal. refusal ≡ cause) → cause ≡ Some code
    → RefusesSo meeting_refusal k reader (λ refusal. Refuses refusal code)
caused k reader code cause so is w answered s =
    subst (λ (o : Option Code). Refuses o code) (sym (so w answered s ∙ is)) refl

-- it has none, and no memory is left
pub wants_memory : (k : WriterKept) (reader : Endpoint) (code : Code) (cause : Option Code)
    → RefusesSo meeting_refusal k reader (λ refusal. refusal ≡ cause) → cause ≡ None → code ≡ Memory
    → RefusesSo meeting_refusal k reader (λ refusal. Refuses refusal code)
wants_memory k reader code cause so is memory w answered s =
    subst (λ (o : Option Code). Refuses o code) (sym (so w answered s ∙ is)) memory
