-- Ends that nobody knew before, computed: the names by which they may be called, a writer that meets readers, and a
-- reader that meets writers.
use Rattle.std.proofs.Common.{◌≡◌, ℕ, true, false, List, [], ◌∷◌, Some, None, length, refl}
use Rattle.std.specs.Prelude.{pos, replicate}
use Rattle.dds_base.specs.declared.change.Change.{Change}
use Rattle.dds_base.specs.declared.change.ChangeKind.TheVariants.{Write as Writes}
use Rattle.dds_base.specs.declared.code.Code.TheVariants.{BadParameter, OutOfResources, PreconditionNotMet}
use Rattle.dds_base.specs.declared.endpoint.Endpoint.{Endpoint}
use Rattle.dds_base.specs.declared.guid.GuidPrefix.{GuidPrefix}
use Rattle.dds_base.specs.declared.happening.Happening.TheVariants.{Joined}
use Rattle.dds_base.specs.declared.policies.LivelinessKind.TheVariants.{Automatic, ManualByTopic}
use Rattle.dds_base.specs.declared.qos.MatchedWriter.{MatchedWriter}
use Rattle.dds_base.specs.Checked.{unknown_prefix}
use Rattle.dds_base.specs.Written.{Changed}
use Rattle.dds_machine.specs.Calls.{handle_once_met, lease_by}
use Rattle.dds_machine.specs.Matching.{MatchReader, MeetReader, MeetWriter, Telling, UnmatchReader, UnmatchWriter, after_telling, knows_reader, knows_reliable, seen_after_telling, telling_refusal}
use Rattle.dds_machine.specs.Naming.{is_name_among, with_name}
use Rattle.dds_machine.specs.Part.{Name, Part, acknowledged_of, no_part, no_reader, no_writer, own_proxies, own_reader, own_writer, owed_from, place_of}

-- a prefix of twelve of this octet
abbrev prefix : ℕ → GuidPrefix
prefix octet = record { 0 = replicate 12 octet }

-- the name of a reliable end of this kind: its participant's number and its own, a prefix, and a key
abbrev name : ℕ → ℕ → ℕ → GuidPrefix → ℕ → Name
name kind peer number p key = record {
  end = record { peer = peer; number = number };
  guid = record { prefix = p; entity = record { 0 = 0 ∷ 0 ∷ key ∷ kind ∷ [] } };
  reliable = true;
}

-- the name of the same reader, as a best-effort one
abbrev at_best_effort : Name → Name
at_best_effort name = record name { reliable = false }

-- ---- names of readers

-- 2.1 is known, of prefix 5, and 2.1 of the same participant's writers
abbrev readers : List Name
readers = name 7 2 1 (prefix 5) 1 ∷ []

abbrev writers : List Name
writers = name 2 2 1 (prefix 5) 9 ∷ []

same : is_name_among 7 readers writers (name 7 2 1 (prefix 5) 1) ≡ true
same = refl

other_guid : is_name_among 7 readers writers (name 7 2 1 (prefix 5) 2) ≡ false
other_guid = refl

as_best_effort : is_name_among 7 readers writers (at_best_effort (name 7 2 1 (prefix 5) 1)) ≡ false
as_best_effort = refl

as_reliable : is_name_among 7 (at_best_effort (name 7 2 1 (prefix 5) 1) ∷ []) writers (name 7 2 1 (prefix 5) 1) ≡ false
as_reliable = refl

next_at_best_effort : is_name_among 7 readers writers (at_best_effort (name 7 2 2 (prefix 5) 2)) ≡ true
next_at_best_effort = refl

guid_of_another : is_name_among 7 readers writers (name 7 2 2 (prefix 5) 1) ≡ false
guid_of_another = refl

guid_of_another_peer : is_name_among 7 readers writers (name 7 3 1 (prefix 5) 1) ≡ false
guid_of_another_peer = refl

other_prefix : is_name_among 7 readers writers (name 7 2 2 (prefix 6) 2) ≡ false
other_prefix = refl

prefix_of_another : is_name_among 7 readers writers (name 7 3 1 (prefix 5) 2) ≡ false
prefix_of_another = refl

prefix_of_its_writers : is_name_among 7 [] writers (name 7 2 2 (prefix 6) 2) ≡ false
prefix_of_its_writers = refl

next_one : is_name_among 7 readers writers (name 7 2 2 (prefix 5) 2) ≡ true
next_one = refl

next_peer : is_name_among 7 readers writers (name 7 3 1 (prefix 6) 1) ≡ true
next_peer = refl

no_prefix : is_name_among 7 [] [] (name 7 2 1 unknown_prefix 1) ≡ false
no_prefix = refl

other_kind : is_name_among 7 [] [] (name 2 2 1 (prefix 5) 1) ≡ false
other_kind = refl

no_peer : is_name_among 7 [] [] (name 7 0 1 (prefix 5) 1) ≡ false
no_peer = refl

no_end : is_name_among 7 [] [] (name 7 2 0 (prefix 5) 1) ≡ false
no_end = refl

known_once : with_name readers (name 7 2 1 (prefix 5) 1) ≡ readers
known_once = refl

known_next : length (with_name readers (name 7 2 2 (prefix 5) 2)) ≡ 2
known_next = refl

-- ---- a writer

abbrev change : Change
change = record { kind = Writes; key = record { 0 = 1 ∷ [] }; value = []; source_timestamp = 0; strength = None }

-- a peer with a writer that knows nobody, and has made one change
abbrev alone : Part
alone = record no_part {
  rtps = record no_part.rtps { writers = record no_writer { written = Changed change ∷ [] } ∷ [] };
}

abbrev told : Part → Telling → Part
told part t = record { rtps = after_telling part.rtps t; dds = seen_after_telling part t }

abbrev r1 : Name
r1 = name 7 2 1 (prefix 5) 1

abbrev r2 : Name
r2 = name 7 2 2 (prefix 5) 2

met-unknown : telling_refusal alone (MeetReader 1 r1) ≡ None
met-unknown = refl

matched-unknown : telling_refusal alone (MatchReader 1 r1.end true) ≡ Some BadParameter
matched-unknown = refl

no_writer_there : telling_refusal alone (MeetReader 2 r1) ≡ Some BadParameter
no_writer_there = refl

abbrev one : Part
one = told alone (MeetReader 1 r1)

owed-later : owed_from (own_writer one 1) r1.end ≡ 2
owed-later = refl

acknowledged-later : acknowledged_of (own_writer one 1).readers r1.end ≡ Some 2
acknowledged-later = refl

known-then : knows_reliable (own_writer one 1) r1.end ≡ true
known-then = refl

met-twice : telling_refusal one (MeetReader 1 r1) ≡ Some PreconditionNotMet
met-twice = refl

left-then : telling_refusal one (UnmatchReader 1 r1.end) ≡ None
left-then = refl

-- one that it knows is known as it was, and may come again by either telling
abbrev apart : Part
apart = told one (UnmatchReader 1 r1.end)

again : telling_refusal apart (MeetReader 1 r1) ≡ None
again = refl

again-matched : telling_refusal apart (MatchReader 1 r1.end true) ≡ None
again-matched = refl

still-reliable : acknowledged_of (own_writer (told apart (MeetReader 1 r1)) 1).readers r1.end ≡ Some 2
still-reliable = refl

-- its reliability can't change
other_reliability : telling_refusal apart (MeetReader 1 (at_best_effort r1)) ≡ Some BadParameter
other_reliability = refl

-- a best-effort one has no row
best_effort : acknowledged_of (own_writer (told one (MeetReader 1 (at_best_effort r2))) 1).readers r2.end ≡ None
best_effort = refl

best_effort-known : knows_reader (own_writer (told one (MeetReader 1 (at_best_effort r2))) 1) r2.end ≡ true
best_effort-known = refl

-- sixteen of one participant are known, and no more
abbrev many : Part
many = record no_part {
  rtps = record no_part.rtps {
    writers = record no_writer
        { known = replicate 16 (record { reader = record { peer = 2; number = 9 }; reliable = true }) } ∷ [];
  };
}

too_many : telling_refusal many (MeetReader 1 r1) ≡ Some OutOfResources
too_many = refl

of_another : telling_refusal many (MeetReader 1 (name 7 3 1 (prefix 6) 1)) ≡ None
of_another = refl

one_of_them : telling_refusal many (MeetReader 1 (name 7 2 9 (prefix 5) 1)) ≡ None
one_of_them = refl

-- ---- a reader

-- a peer with a reader that knows nobody
abbrev listening : Part
listening = record {
  rtps = record no_part.rtps { readers = [] ∷ [] };
  dds = record no_part.dds { readers = no_reader ∷ [] };
}

abbrev w1 : Endpoint
w1 = record { peer = 3; number = 1 }

abbrev w2 : Endpoint
w2 = record { peer = 2; number = 1 }

-- a writer of this prefix
abbrev writer : GuidPrefix → MatchedWriter
writer p = record { guid = (name 2 0 0 p 1).guid; strength = pos 5; lease = Some 10 }

met-writer : telling_refusal listening (MeetWriter 1 w1 (writer (prefix 6))) ≡ None
met-writer = refl

no_reader_there : telling_refusal listening (MeetWriter 2 w1 (writer (prefix 6))) ≡ Some BadParameter
no_reader_there = refl

no_lease : telling_refusal listening (MeetWriter 1 w1 (record (writer (prefix 6)) { lease = Some 0 })) ≡ Some BadParameter
no_lease = refl

-- it meets w1, and then w2
abbrev first : Part
first = told listening (MeetWriter 1 w1 (writer (prefix 6)))

abbrev second : Part
second = told first (MeetWriter 1 w2 (writer (prefix 5)))

handle-first : handle_once_met listening 1 w1 ≡ 1
handle-first = refl

handle-second : handle_once_met first 1 w2 ≡ 2
handle-second = refl

joined : (own_reader second 1).happened ≡ Joined (writer (prefix 5)) ∷ Joined (writer (prefix 6)) ∷ []
joined = refl

place-first : place_of (own_proxies second 1) w2 ≡ Some 1
place-first = refl

-- one that left comes again by its handle, and joins no more
abbrev third : Part
third = told (told second (UnmatchWriter 1 w1)) (MeetWriter 1 w1 (writer (prefix 6)))

handle-again : handle_once_met (told second (UnmatchWriter 1 w1)) 1 w1 ≡ 1
handle-again = refl

rows-again : length (own_proxies third 1) ≡ 2
rows-again = refl

guid_of_w1 : telling_refusal second (MeetWriter 1 (record { peer = 4; number = 1 }) (writer (prefix 6))) ≡ Some BadParameter
guid_of_w1 = refl

met-writer_twice : telling_refusal second (MeetWriter 1 w1 (writer (prefix 6))) ≡ Some PreconditionNotMet
met-writer_twice = refl

-- ---- leases

by_topic : lease_by ManualByTopic (Some 10) ≡ Some 10
by_topic = refl

by_itself : lease_by Automatic (Some 10) ≡ None
by_itself = refl
