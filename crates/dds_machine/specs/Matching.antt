-- A peer is told that a writer and a reader are matched from now on, or no longer: what its part then is. Each side is
-- told for itself, at any moment, whatever the other side knows. An end may be one of the opening, or one that was not
-- known before: a writer then knows one reader more, and a reader has one row more, the last one.
--
-- RTPS 2.5, 8.4.7.4 (StatefulWriter, matched_reader_add, matched_reader_remove), 8.4.10.3 (StatefulReader,
-- matched_writer_add, matched_writer_remove); DDS 1.4, 2.2.3 (DURABILITY: VOLATILE), 2.2.4.1
-- (PUBLICATION_MATCHED, SUBSCRIPTION_MATCHED), 2.2.1.1 (return codes).
use Rattle.std.specs.Prelude.{◌≡◌, ℕ, ◌+◌, ◌-◌, ◌^◌, ◌<◌, ◌==◌, ◌&&◌, ◌||◌, nat_le, nat_lt, min, pos, ◌-ℤ◌, Bool, true, false, not, if◌then◌else◌, List, [], ◌∷◌, ◌++◌, length, filter, count_by, Option, Some, None, is_some}
use Rattle.std.specs.List.{list_any}
use Rattle.std.specs.Option.{option_map_or, option_or}
use Rattle.dds_base.specs.declared.code.Code.{Code}
use Rattle.dds_base.specs.declared.code.Code.TheVariants.{BadParameter, Memory, OutOfResources, PreconditionNotMet}
use Rattle.dds_base.specs.declared.happening.Happening.{Happening}
use Rattle.dds_base.specs.declared.happening.Happening.TheVariants.{Joined}
use Rattle.dds_base.specs.declared.qos.MatchedWriter.{MatchedWriter}
use Rattle.dds_base.specs.Bounds.{max_ends}
use Rattle.dds_base.specs.Checked.{is_bad_lease}
use Rattle.dds_base.specs.Liveliness.{after_parting}
use Rattle.dds_base.specs.Refusal.{Refuses}
use Rattle.dds_base.specs.declared.endpoint.Endpoint.{Endpoint}
use Rattle.dds_base.specs.declared.status.MatchedStatus.{MatchedStatus}
use Rattle.dds_machine.specs.Numbered.{has_element, numbered, with_numbered}
use Rattle.dds_machine.specs.Naming.{is_name_among, with_name}
use Rattle.dds_machine.specs.Part.{Attachment, Away, Waiting, Matches, Name, ReaderProxy, TopicReader, WriterProxy, Writer, Reader, Rtps, Dds, Part, own_writer, own_proxies, own_reader, writer_changes, same_endpoint, row_of, with_row, how_of, is_attached, publication_among, with_reader, with_writer}

-- ---- at a writer

-- the writer is matched with the reader
abbrev pub is_matched : Writer → Endpoint → Bool
is_matched w reader = list_any (λ e. same_endpoint e reader) w.matched

-- the reader is one of the writer's topic
abbrev pub knows_reader : Writer → Endpoint → Bool
knows_reader w reader = is_some (row_of (λ (k : TopicReader). k.reader) w.known reader)

-- and it is a reliable one
abbrev pub knows_reliable : Writer → Endpoint → Bool
knows_reliable w reader =
    option_map_or (λ (k : TopicReader). k.reliable) (row_of (λ (k : TopicReader). k.reader) w.known reader) false

-- one match more, with this end
abbrev pub match_made : Matches → Endpoint → Matches
match_made matches end = record matches { made = matches.made + 1; last = Some end }

-- one match less, with this end
abbrev pub match_ended : Matches → Endpoint → Matches
match_ended matches end = record matches { last = Some end }

-- what a writer has of a reliable reader that it is told of: what it has made is not owed, and counts as acknowledged
abbrev pub new_row : Writer → Endpoint → ReaderProxy
new_row w reader = record {
  reader = reader;
  first = length (writer_changes w) + 1;
  acknowledged = length (writer_changes w) + 1;
}

-- the writer, once it is told of a reader, which is reliable or not: the reader comes last
abbrev pub joined : Writer → Endpoint → Bool → Writer
joined w reader reliable = record w {
  matched = w.matched ++ reader ∷ [];
  readers = if reliable then w.readers ++ new_row w reader ∷ [] else w.readers;
  matches = match_made w.matches reader;
}

-- the writer, once it is told that a reader has left: it has nothing more of that one
abbrev pub left : Writer → Endpoint → Writer
left w reader = record w {
  matched = filter (λ e. not (same_endpoint e reader)) w.matched;
  readers = filter (λ (p : ReaderProxy). not (same_endpoint p.reader reader)) w.readers;
  matches = match_ended w.matches reader;
}

-- the readers of the writer's topic that it knows of this peer
abbrev pub known_at : Writer → ℕ → ℕ
known_at w peer = count_by (λ (k : TopicReader). k.reader.peer == peer) w.known

-- the writer, which knows now that there is this reader of its topic
abbrev pub knowing : Writer → Endpoint → Bool → Writer
knowing w reader reliable =
    if knows_reader w reader then w
    else record w { known = w.known ++ record { reader = reader; reliable = reliable } ∷ [] }

-- it then takes the reader for a reliable one: of one that it knew already it knew that
abbrev pub meets_reliable : Writer → Endpoint → Bool → Bool
meets_reliable w reader reliable = knows_reliable (knowing w reader reliable) reader

-- the writer, once it is told of a reader that it may not know, which is reliable or not
abbrev pub met : Writer → Endpoint → Bool → Writer
met w reader reliable = joined (knowing w reader reliable) reader (meets_reliable w reader reliable)

-- ---- at a reader

-- these rows, once the reader stands so to this writer, which it knows
abbrev pub with_how : List WriterProxy → Endpoint → Attachment → List WriterProxy
with_how rows writer how =
    with_row (λ (p : WriterProxy). p.writer) (λ (p : WriterProxy). record p { how = how }) rows writer

-- the reader knows the writer: it is or was matched with it
abbrev pub is_known : List WriterProxy → Endpoint → Bool
is_known rows writer = is_some (row_of (λ (p : WriterProxy). p.writer) rows writer)

-- these rows, once the reader is told of a writer: one that it knows keeps its place there, a new one comes last
abbrev pub with_match : List WriterProxy → Endpoint → List WriterProxy
with_match rows writer =
    if is_known rows writer then with_how rows writer Waiting
    else rows ++ record { writer = writer; place = 1; heard = None; how = Waiting } ∷ []

-- how many writers the reader is matched with
abbrev pub attached_count : List WriterProxy → ℕ
attached_count rows = count_by (λ (p : WriterProxy). is_attached p.how) rows

-- what has happened at a reader once the writer of this publication handle, if it has one, left at this moment
abbrev pub happened_after : Option ℕ → ℕ → List Happening → List Happening
happened_after None now h = h
happened_after (Some writer) now h = after_parting writer now h

-- the reader, once it is told of a writer
abbrev pub reader_joined : Reader → Endpoint → Reader
reader_joined r writer = record r { matches = match_made r.matches writer }

-- the reader, at which this has happened once it is told that a writer has left
abbrev pub reader_left : Reader → Endpoint → List Happening → Reader
reader_left r writer happened = record r { happened = happened; matches = match_ended r.matches writer }

-- what has happened at a reader once it is told of a writer that it knows, or of one that it does not know, and that
-- joins it so
abbrev pub happened_once_met : Bool → MatchedWriter → List Happening → List Happening
happened_once_met known writer h = if known then h else Joined writer ∷ h

-- the reader, which knows these writers, once it is told of one that it may not know
abbrev pub reader_met : List WriterProxy → Reader → Endpoint → MatchedWriter → Reader
reader_met rows r writer as_writer = record (reader_joined r writer)
    { happened = happened_once_met (is_known rows writer) as_writer r.happened }

-- ---- statuses

-- the matches, of which there are so many, once the application has looked at them
abbrev pub seen_matches : Matches → ℕ → Matches
seen_matches matches here = record matches { made_seen = matches.made; here_seen = here }

-- a number of matches as the statuses tell it: in 64 bits, where it stays at the greatest number
abbrev pub told_matches : ℕ → ℕ
told_matches n = min n (2 ^ 64 - 1)

-- the status of these matches, of which there are so many (DDS 1.4, 2.2.4.1)
abbrev pub matched_status : Matches → ℕ → MatchedStatus
matched_status matches here = record {
  total_count = told_matches matches.made;
  total_count_change = told_matches matches.made - told_matches matches.made_seen;
  current_count = pos here;
  current_count_change = pos here -ℤ pos matches.here_seen;
  last = matches.last;
}

-- PUBLICATION_MATCHED of a writer
abbrev pub publication_matched : Writer → MatchedStatus
publication_matched w = matched_status w.matches (length w.matched)

-- SUBSCRIPTION_MATCHED of a reader that knows these writers
abbrev pub subscription_matched : List WriterProxy → Reader → MatchedStatus
subscription_matched rows r = matched_status r.matches (attached_count rows)

-- one of the counts of these matches, of which there are so many, has changed since the application looked at them
abbrev pub is_match_flagged : Matches → ℕ → Bool
is_match_flagged matches here =
    nat_lt (told_matches matches.made_seen) (told_matches matches.made) || not (here == matches.here_seen)

-- a writer, once the application has looked at its matches
abbrev pub writer_looked_at : Writer → Writer
writer_looked_at w = record w { matches = seen_matches w.matches (length w.matched) }

-- a reader that knows these writers, once the application has looked at its matches
abbrev pub reader_looked_at : List WriterProxy → Reader → Reader
reader_looked_at rows r = record r { matches = seen_matches r.matches (attached_count rows) }

-- ---- tellings

-- What a peer is told: its writer of a reader, which is reliable or not, or that a reader has left; its reader of a
-- writer, or that a writer has left. It meets one that it may not know: a reader by its name, which says whether it is
-- reliable, and a writer by the name and the GUID of it.
pub data Telling : Type 0 where
  MatchReader : (writer : ℕ) (reader : Endpoint) (reliable : Bool) → Telling
  UnmatchReader : (writer : ℕ) (reader : Endpoint) → Telling
  MatchWriter : (reader : ℕ) (writer : Endpoint) → Telling
  UnmatchWriter : (reader : ℕ) (writer : Endpoint) → Telling
  MeetReader : (writer : ℕ) (reader : Name) → Telling
  MeetWriter : (reader : ℕ) (writer : Endpoint) (as_writer : MatchedWriter) → Telling

-- the end knows none of that name; or the two are matched already, or are not, as the telling has it
abbrev pub matching_refusal : Bool → Bool → Option Code
matching_refusal known as_told =
    if not known then Some BadParameter else (if as_told then Some PreconditionNotMet else None)

-- the name of the writer
abbrev pub name_of : Endpoint → MatchedWriter → Name
name_of writer as_writer = record { end = writer; guid = as_writer.guid; reliable = true }

-- the peer has the writer, and may call the reader so
abbrev pub may_meet_reader : Rtps → ℕ → Name → Bool
may_meet_reader rtps writer reader =
    has_element rtps.writers writer && is_name_among 7 rtps.names.readers rtps.names.writers reader

-- the peer has the reader, may call the writer so, and the lease of that one is none that is refused
abbrev pub may_meet_writer : Rtps → ℕ → Endpoint → MatchedWriter → Bool
may_meet_writer rtps reader writer as_writer =
    has_element rtps.readers reader
    && is_name_among 2 rtps.names.writers rtps.names.readers (name_of writer as_writer)
    && not (is_bad_lease as_writer.lease)

-- the most readers that a writer knows, and the most writers that a reader knows: as many as a status counts (DDS 1.4,
-- 2.2.4.1, LivelinessChangedStatus; 2.3.3: a long)
abbrev pub max_known : ℕ
max_known = 2 ^ 31 - 1

-- the writer does not know the reader, and knows as many of its peer as a peer has at most, or as many as can be
abbrev pub knows_too_many : Writer → Endpoint → Bool
knows_too_many w reader = not (knows_reader w reader)
    && (nat_le max_ends (known_at w reader.peer) || nat_le max_known (length w.known))

-- the reader, which knows these writers, does not know this one, and knows as many as can be
abbrev pub has_too_many : List WriterProxy → Endpoint → Bool
has_too_many rows writer = not (is_known rows writer) && nat_le max_known (length rows)

-- why a telling is refused: no such writer or reader here, or none of its topic of that name; or the two are matched
-- there already, or are not; or the end that is met can't be called so, or is one too many
abbrev pub telling_refusal : Part → Telling → Option Code
telling_refusal part (MatchReader writer reader reliable) =
    matching_refusal (knows_reader (own_writer part writer) reader) (is_matched (own_writer part writer) reader)
telling_refusal part (UnmatchReader writer reader) =
    matching_refusal (knows_reader (own_writer part writer) reader) (not (is_matched (own_writer part writer) reader))
telling_refusal part (MatchWriter reader writer) =
    matching_refusal (is_known (own_proxies part reader) writer) (is_attached (how_of (own_proxies part reader) writer))
telling_refusal part (UnmatchWriter reader writer) =
    matching_refusal (is_known (own_proxies part reader) writer)
    (not (is_attached (how_of (own_proxies part reader) writer)))
telling_refusal part (MeetReader writer reader) =
    option_or (matching_refusal (may_meet_reader part.rtps writer reader) (is_matched (own_writer part writer) reader.end))
    (if knows_too_many (own_writer part writer) reader.end then Some OutOfResources else None)
telling_refusal part (MeetWriter reader writer as_writer) =
    option_or (matching_refusal (may_meet_writer part.rtps reader writer as_writer)
    (is_attached (how_of (own_proxies part reader) writer)))
    (if has_too_many (own_proxies part reader) writer then Some OutOfResources else None)

-- what a telling does to a peer's writers and to the rows of its readers
abbrev pub after_telling : Rtps → Telling → Rtps
after_telling old (MatchReader writer reader reliable) = with_writer old writer (λ w. joined w reader reliable)
after_telling old (UnmatchReader writer reader) = with_writer old writer (λ w. left w reader)
after_telling old (MatchWriter reader writer) =
    record old { readers = with_numbered old.readers reader (with_match (numbered old.readers reader []) writer) }
after_telling old (UnmatchWriter reader writer) =
    record old { readers = with_numbered old.readers reader (with_how (numbered old.readers reader []) writer Away) }
after_telling old (MeetReader writer reader) =
    record (with_writer old writer (λ w. met w reader.end reader.reliable))
    { names = record old.names { readers = with_name old.names.readers reader } }
after_telling old (MeetWriter reader writer as_writer) = record old {
  readers = with_numbered old.readers reader (with_match (numbered old.readers reader []) writer);
  names = record old.names { writers = with_name old.names.writers (name_of writer as_writer) };
}

-- what has happened at the peer's reader once this writer left
abbrev pub parted_at : Part → ℕ → Endpoint → List Happening
parted_at part reader writer =
    happened_after (publication_among (own_proxies part reader) writer) part.dds.moment
    (own_reader part reader).happened

-- what it does to what the peer's own calls see
abbrev pub seen_after_telling : Part → Telling → Dds
seen_after_telling old (MatchWriter reader writer) =
    with_reader old.dds reader (reader_joined (own_reader old reader) writer)
seen_after_telling old (UnmatchWriter reader writer) =
    with_reader old.dds reader (reader_left (own_reader old reader) writer (parted_at old reader writer))
seen_after_telling old (MeetWriter reader writer as_writer) = with_reader old.dds reader
    (reader_met (own_proxies old reader) (own_reader old reader) writer as_writer)
seen_after_telling old other = old.dds

-- A writer that is told of a reader may want memory, and so may who meets an end. That a writer has left does so only
-- where more would have happened at the reader than can be counted, and nothing else ever does.
abbrev pub TellingMayWantMemory : Part → Telling → Type 0
TellingMayWantMemory part (MatchReader writer reader reliable) = Unit {0}
TellingMayWantMemory part (UnmatchWriter reader writer) = 2 ^ 64 - 1 < length (parted_at part reader writer)
TellingMayWantMemory part (MeetReader writer reader) = Unit {0}
TellingMayWantMemory part (MeetWriter reader writer as_writer) = Unit {0}
TellingMayWantMemory part other = ⊥

-- One telling at a peer: it is done; or the first cause refuses it, or want of memory where there is none, and nothing
-- changes.
abbrev pub TellStep : Part → Telling → Option Code → Part → Type 0
TellStep old telling None new =
    (telling_refusal old telling ≡ None)
    × (new ≡ record { rtps = after_telling old.rtps telling; dds = seen_after_telling old telling })
TellStep old telling (Some code) new =
    Refuses (telling_refusal old telling) code × (code ≡ Memory → TellingMayWantMemory old telling) × (new ≡ old)
