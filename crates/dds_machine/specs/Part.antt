-- A peer's part of the machine without packets: its writers and its readers, with a place and an acknowledgement for
-- each matched pair. What other peers may learn of stands apart from what only its own calls ask for.
--
-- RTPS 2.5, 8.4.7 (StatefulWriter, ReaderProxy), 8.4.10 (StatefulReader, WriterProxy).
use Rattle.std.specs.Prelude.{ℕ, ◌+◌, ◌-◌, ◌<◌, ◌≤◌, Bool, true, false, not, if◌then◌else◌, ◌==◌, nat_le, nat_lt, min, ◌⊎◌, List, [], ◌∷◌, length, map, filter, slice_get, Option, Some, None, ℤ, pos, negsuc}
use Rattle.std.specs.List.{list_any}
use Rattle.std.specs.Option.{option_map, option_map_or}
use Rattle.dds_base.specs.declared.change.Change.{Change}
use Rattle.dds_base.specs.declared.happening.Happening.{Happening}
use Rattle.dds_base.specs.declared.qos.HistoryQos.{HistoryQos}
use Rattle.dds_base.specs.declared.qos.HistoryQos.TheVariants.{KeepAll}
use Rattle.dds_base.specs.declared.qos.OwnershipQos.TheVariants.{Shared}
use Rattle.dds_base.specs.declared.qos.ReliabilityQos.TheVariants.{Reliable}
use Rattle.dds_base.specs.declared.qos.ReaderQos.{ReaderQos}
use Rattle.dds_base.specs.Bounds.{usual_arrivals, usual_value}
use Rattle.dds_base.specs.Written.{Written, changes_of, counts_of}
use Rattle.dds_base.specs.Kept.{WriterHistory}
use Rattle.dds_conditions.specs.Watched.{Watched, opened as nothing_watched}
use Rattle.dds_notices.specs.Listeners.{Places, nobody}
use Rattle.dds_base.specs.declared.endpoint.Endpoint.{Endpoint}
use Rattle.dds_base.specs.declared.guid.Guid.{Guid}
use Rattle.dds_machine.specs.Numbered.{numbered, with_numbered}

-- two names are of one endpoint
abbrev pub same_endpoint : Endpoint → Endpoint → Bool
same_endpoint a b = if a.peer == b.peer then a.number == b.number else false

-- what a writer knows of a matched reliable reader: the number of the first change that it made since it was told of it,
-- and that it has acknowledged all changes below this number
pub record ReaderProxy : Type 0 where
  pub reader : Endpoint
  pub first : ℕ
  pub acknowledged : ℕ

-- how a reader stands to a writer that it knows: not matched; matched, and its place has not begun since; or begun
pub data Attachment : Type 0 where
  Away : Attachment
  Waiting : Attachment
  Begun : Attachment

-- the matches of a writer or a reader: how many there were, with whom the last one was made or ended, and how many there
-- had been and were when the application looked at them last (DDS 1.4, 2.2.4.1)
pub record Matches : Type 0 where
  pub made : ℕ
  pub last : Option Endpoint
  pub made_seen : ℕ
  pub here_seen : ℕ

-- the matches with these ends, which the opening made in this order, and of which nothing is new
abbrev pub opened_with : List Endpoint → Matches
opened_with ends = record {
  made = length ends;
  last = slice_get ends (length ends - 1);
  made_seen = length ends;
  here_seen = length ends;
}

-- what a reader knows of a writer: its place there, the number of the next change; the count of the last HEARTBEAT by
-- which it heard the writer assert its liveliness, if there was one; and how it stands to it
pub record WriterProxy : Type 0 where
  pub writer : Endpoint
  pub place : ℕ
  pub heard : Option ℤ
  pub how : Attachment

-- a reader of a writer's topic, and whether it is a reliable one
pub record TopicReader : Type 0 where
  pub reader : Endpoint
  pub reliable : Bool

-- a writer: its policy, limit and lease, the strength that it was configured with, none of a writer of shared ownership,
-- whether an unregister disposes too, how many octets a value has at most, the readers of its topic, what happened there,
-- the newest first, its matched readers, what it knows of those that are reliable, and its matches
pub record Writer : Type 0 where
  pub policy : HistoryQos
  pub max_samples : Option ℕ
  pub lease : Option ℕ
  pub strength : Option ℤ
  pub autodispose : Bool
  pub max_value : ℕ
  pub known : List TopicReader
  pub written : List Written
  pub matched : List Endpoint
  pub readers : List ReaderProxy
  pub matches : Matches

-- the name by which a peer speaks of a writer or of a reader, the GUID of that one (RTPS 2.5, 8.2: GUID_t), and whether
-- it is a reliable reader (DDS 1.4, 2.2.3, RELIABILITY: it can't change); of a writer's name this is always true
pub record Name : Type 0 where
  pub end : Endpoint
  pub guid : Guid
  pub reliable : Bool

-- the names that a peer knows, of writers and of readers
pub record Names : Type 0 where
  pub writers : List Name
  pub readers : List Name

-- before a name is known
abbrev pub no_names : Names
no_names = record { writers = []; readers = [] }

-- a peer's writers, for each of its readers the writers that it knows, in the order of their publication handles, and
-- the names that it knows
pub record Rtps : Type 0 where
  pub writers : List Writer
  pub readers : List (List WriterProxy)
  pub names : Names

-- what a reader's statuses said when each was looked at last, by a call or as a listener was told, and how many entries
-- there were then: the total of SAMPLE_LOST; nothing of DATA_AVAILABLE; and by LIVELINESS_CHANGED how many matched
-- writers were alive and not alive (DDS 1.4, 2.2.4.1)
pub record Seen : Type 0 where
  pub lost : ℕ
  pub entries_at_lost : ℕ
  pub entries_at_data : ℕ
  pub alive : ℕ
  pub not_alive : ℕ
  pub entries_at_turn : ℕ

-- before the first looks
abbrev pub nothing_seen : Seen
nothing_seen =
    record { lost = 0; entries_at_lost = 0; entries_at_data = 0; alive = 0; not_alive = 0; entries_at_turn = 0 }

-- a reader as its own calls see it: its QoS, what happened there, the newest first, what was seen of its statuses, and
-- its matches
pub record Reader : Type 0 where
  pub qos : ReaderQos
  pub happened : List Happening
  pub seen : Seen
  pub matches : Matches

-- a peer's moment, its readers, what its application watches, and the places of its listeners
pub record Dds : Type 0 where
  pub moment : ℕ
  pub readers : List Reader
  pub watch : Watched
  pub listeners : Places

-- a peer's part: what other peers may learn of, and what only its own calls ask for
pub record Part : Type 0 where
  pub rtps : Rtps
  pub dds : Dds

-- in the place of a writer that is not there: one that has done nothing, and is matched with nobody
abbrev pub no_writer : Writer
no_writer = record {
  policy = KeepAll;
  max_samples = None;
  lease = None;
  strength = None;
  autodispose = false;
  max_value = usual_value;
  known = [];
  written = [];
  matched = [];
  readers = [];
  matches = opened_with [];
}

-- in the place of a reader that is not there: one at which nothing has happened, and that is matched with nobody
abbrev pub no_reader : Reader
no_reader = record {
  qos = record {
    ownership = Shared;
    reliability = Reliable;
    history = KeepAll;
    max_samples = None;
    max_instances = None;
    max_arrivals = usual_arrivals;
    writers = [];
  };
  happened = [];
  seen = nothing_seen;
  matches = opened_with [];
}

-- in the place of the part of a peer that is not there: it has no writers and no readers
abbrev pub no_part : Part
no_part = record {
  rtps = record { writers = []; readers = []; names = no_names };
  dds = record { moment = 0; readers = []; watch = nothing_watched 0 0; listeners = nobody 0 0 };
}

-- a peer's own writer, by its number
abbrev pub own_writer : Part → ℕ → Writer
own_writer part writer = numbered part.rtps.writers writer no_writer

-- the writers that a peer's own reader knows, by the reader's number
abbrev pub own_proxies : Part → ℕ → List WriterProxy
own_proxies part reader = numbered part.rtps.readers reader []

-- a peer's own reader, by its number
abbrev pub own_reader : Part → ℕ → Reader
own_reader part reader = numbered part.dds.readers reader no_reader

-- a writer's changes, in the order of their numbers
abbrev pub writer_changes : Writer → List Change
writer_changes w = changes_of w.written

-- a writer's history, with what each matched reliable reader has acknowledged
abbrev pub history_of : Writer → WriterHistory
history_of w = record {
  policy = w.policy;
  max_samples = w.max_samples;
  changes = changes_of w.written;
  acknowledged = map (λ (p : ReaderProxy). p.acknowledged) w.readers;
}

-- the first of these rows of this name
abbrev pub row_of : {X : Type 0} → (X → Endpoint) → List X → Endpoint → Option X
row_of name [] end = None
row_of name (x ∷ xs) end = if same_endpoint (name x) end then Some x else row_of name xs end

-- the rows with another one in the place of the first of this name
abbrev pub with_row : {X : Type 0} → (X → Endpoint) → (X → X) → List X → Endpoint → List X
with_row name change [] end = []
with_row name change (x ∷ xs) end =
    if same_endpoint (name x) end then change x ∷ xs else x ∷ with_row name change xs end

-- the number below which this reader has acknowledged all changes, if it is matched
abbrev pub acknowledged_of : List ReaderProxy → Endpoint → Option ℕ
acknowledged_of rows reader =
    option_map (λ (p : ReaderProxy). p.acknowledged) (row_of (λ (p : ReaderProxy). p.reader) rows reader)

-- these rows, once this reader has acknowledged all changes below the number
abbrev pub with_acknowledged : List ReaderProxy → Endpoint → ℕ → List ReaderProxy
with_acknowledged rows reader to =
    with_row (λ (p : ReaderProxy). p.reader) (λ (p : ReaderProxy). record p { acknowledged = to }) rows reader

-- From this number on the writer owes a reliable reader its changes: those that it makes while the two are matched
-- there. To one that it is not matched with it owes none that it has made.
abbrev pub owed_from : Writer → Endpoint → ℕ
owed_from w reader =
    min (option_map_or (λ (p : ReaderProxy). p.first) (row_of (λ (p : ReaderProxy). p.reader) w.readers reader)
    (length (writer_changes w) + 1)) (length (writer_changes w) + 1)

-- the place in this writer's list, if the reader knows it
abbrev pub place_of : List WriterProxy → Endpoint → Option ℕ
place_of rows writer = option_map (λ (p : WriterProxy). p.place) (row_of (λ (p : WriterProxy). p.writer) rows writer)

-- these rows, once the place in this writer's list is the number
abbrev pub with_place : List WriterProxy → Endpoint → ℕ → List WriterProxy
with_place rows writer to =
    with_row (λ (p : WriterProxy). p.writer) (λ (p : WriterProxy). record p { place = to }) rows writer

-- the count by which this writer was heard last, if the reader knows it
abbrev pub heard_of : List WriterProxy → Endpoint → Option (Option ℤ)
heard_of rows writer = option_map (λ (p : WriterProxy). p.heard) (row_of (λ (p : WriterProxy). p.writer) rows writer)

-- these rows, once this writer was heard by a HEARTBEAT of this count
abbrev pub with_heard : List WriterProxy → Endpoint → ℤ → List WriterProxy
with_heard rows writer count =
    with_row (λ (p : WriterProxy). p.writer) (λ (p : WriterProxy). record p { heard = Some count }) rows writer

-- how the reader stands to this writer; not matched where it has no row
abbrev pub how_of : List WriterProxy → Endpoint → Attachment
how_of rows writer =
    option_map_or (λ (p : WriterProxy). p.how) (row_of (λ (p : WriterProxy). p.writer) rows writer) Away

-- the reader is matched with the writer to which it stands so
abbrev pub is_attached : Attachment → Bool
is_attached Away = false
is_attached Waiting = true
is_attached Begun = true

-- these rows, once the place in this writer's list has begun at the number
abbrev pub with_begun : List WriterProxy → Endpoint → ℕ → List WriterProxy
with_begun rows writer to =
    with_row (λ (p : WriterProxy). p.writer) (λ (p : WriterProxy). record p { place = to; how = Begun }) rows writer

-- the number of the first row of this writer in a list that is numbered from n on
abbrev pub publication_from : ℕ → List WriterProxy → Endpoint → Option ℕ
publication_from n [] writer = None
publication_from n (p ∷ ps) writer =
    if same_endpoint p.writer writer then Some n else publication_from (n + 1) ps writer

-- the publication handle of this writer, if the reader knows it (DDS 1.4, 2.2.2.5, publication_handle)
abbrev pub publication_among : List WriterProxy → Endpoint → Option ℕ
publication_among rows writer = publication_from 1 rows writer

-- the number lies below this one, which is there
abbrev pub IsBelow : ℕ → Option ℕ → Type 0
IsBelow number None = ⊥
IsBelow number (Some bound) = number < bound

-- the number is at most this one, which is there
abbrev pub IsAtMost : ℕ → Option ℕ → Type 0
IsAtMost number None = ⊥
IsAtMost number (Some bound) = number ≤ bound

-- where the first number is there, the second is too, and is no less
abbrev pub NoLess : Option ℕ → Option ℕ → Type 0
NoLess None second = Unit {0}
NoLess (Some first) second = IsAtMost first second

-- what is acknowledged, if anything is, ends where the reader begins to be owed, or before that, or no later than its
-- place, which is there
abbrev pub IsCovered : Option ℕ → ℕ → Option ℕ → Type 0
IsCovered None owed place = Unit {0}
IsCovered (Some acknowledged) owed place = (acknowledged ≤ owed) ⊎ IsAtMost acknowledged place

-- this reader is matched, and has not acknowledged all changes of the writer
abbrev pub is_reader_behind : Writer → Endpoint → Bool
is_reader_behind w reader =
    option_map_or (λ acknowledged. nat_le acknowledged (length (writer_changes w)))
    (acknowledged_of w.readers reader) false

-- some matched reliable reader has not acknowledged all changes of the writer
abbrev pub is_behind : Writer → Bool
is_behind w = list_any (λ (p : ReaderProxy). nat_le p.acknowledged (length (writer_changes w))) w.readers

-- the peers of these endpoints, each once, where its first endpoint stands
abbrev pub peers_of : List Endpoint → List ℕ
peers_of [] = []
peers_of (e ∷ es) = e.peer ∷ filter (λ peer. not (peer == e.peer)) (peers_of es)

-- the writer has a matched reader
abbrev pub has_readers : Writer → Bool
has_readers w = nat_lt 0 (length w.matched)

-- how many HEARTBEAT counts a writer has used
abbrev pub heartbeats_used : Writer → ℕ
heartbeats_used w = length (counts_of w.written)

-- the count numbers an assertion of the writer
abbrev pub is_assertion : Writer → ℤ → Bool
is_assertion w (pos n) = numbered (counts_of w.written) n false
is_assertion w (negsuc n) = false

-- what a peer's own calls see, once its reader of this number is as given
abbrev pub with_reader : Dds → ℕ → Reader → Dds
with_reader dds n r = record dds { readers = with_numbered dds.readers n r }

-- a peer's reader knows these writers, and this happened there
abbrev pub at_reader : Part → ℕ → List WriterProxy → List Happening → Part
at_reader part reader proxies happened = record part {
  rtps = record part.rtps { readers = with_numbered part.rtps.readers reader proxies };
  dds = with_reader part.dds reader (record (own_reader part reader) { happened = happened });
}

-- a peer's writers and places, once this was done to its writer of this number
abbrev pub with_writer : Rtps → ℕ → (Writer → Writer) → Rtps
with_writer old n change = record old { writers = with_numbered old.writers n (change (numbered old.writers n no_writer)) }

-- a peer's writer has become this one
abbrev pub at_writer : Part → ℕ → Writer → Part
at_writer part writer after =
    record part { rtps = record part.rtps { writers = with_numbered part.rtps.writers writer after } }
