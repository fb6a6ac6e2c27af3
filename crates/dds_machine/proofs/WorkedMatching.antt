-- Who is matched with whom, computed: a writer that a reader joins, leaves and joins again, and a reader that is told
-- of writers, and that one has left.
use Rattle.std.proofs.Common.{◌≡◌, true, false, List, [], ◌∷◌, Some, None, length, refl}
use Rattle.std.specs.Prelude.{negsuc, pos}
use Rattle.dds_base.specs.declared.change.Change.{Change}
use Rattle.dds_base.specs.declared.change.ChangeKind.TheVariants.{Write as Writes}
use Rattle.dds_base.specs.declared.code.Code.TheVariants.{BadParameter, PreconditionNotMet}
use Rattle.dds_base.specs.declared.happening.Happening.TheVariants.{Died, Heard, Left}
use Rattle.dds_base.specs.Written.{Changed}
use Rattle.dds_base.specs.declared.endpoint.Endpoint.{Endpoint}
use Rattle.dds_machine.specs.Matching.{MatchReader, MatchWriter, UnmatchReader, after_telling, attached_count, happened_after, is_matched, joined, knows_reliable, left, matched_status, seen_matches, telling_refusal, with_how, with_match}
use Rattle.dds_machine.specs.Part.{Away, Begun, Matches, Waiting, Part, Writer, WriterProxy, acknowledged_of, has_readers, how_of, no_part, no_writer, opened_with, owed_from, own_writer, place_of, publication_among}

abbrev r1 : Endpoint
r1 = record { peer = 2; number = 1 }

abbrev r2 : Endpoint
r2 = record { peer = 3; number = 1 }

-- ---- a writer

abbrev change : Change
change = record { kind = Writes; key = record { 0 = 1 ∷ [] }; value = []; source_timestamp = 0; strength = None }

-- it makes one change more
abbrev writing : Writer → Writer
writing w = record w { written = Changed change ∷ w.written }

-- r1 joins it before its first change, and r2 after two
abbrev two_here : Writer
two_here = joined (writing (writing (joined no_writer r1 true))) r2 true

owed-all : owed_from two_here r1 ≡ 1
owed-all = refl

owed-later : owed_from two_here r2 ≡ 3
owed-later = refl

acknowledged-later : acknowledged_of two_here.readers r2 ≡ Some 3
acknowledged-later = refl

-- r1 leaves it, and one change is made meanwhile
abbrev one_here : Writer
one_here = writing (left two_here r1)

owed-none : owed_from one_here r1 ≡ 4
owed-none = refl

owed-still : owed_from one_here r2 ≡ 3
owed-still = refl

matched-no_more : is_matched one_here r1 ≡ false
matched-no_more = refl

no_row : acknowledged_of one_here.readers r1 ≡ None
no_row = refl

-- it comes again: what was made meanwhile is not owed to it
owed-again : owed_from (writing (joined one_here r1 true)) r1 ≡ 4
owed-again = refl

order-again : (joined one_here r1 true).matched ≡ r2 ∷ r1 ∷ []
order-again = refl

-- a best-effort reader has no row
best_effort : (joined no_writer r1 false).readers ≡ []
best_effort = refl

best_effort-matched : has_readers (joined no_writer r1 false) ≡ true
best_effort-matched = refl

matches-counted : (joined one_here r1 true).matches.made ≡ 3
matches-counted = refl

matches-last : (left two_here r1).matches.last ≡ Some r1
matches-last = refl

-- the application looks at the status before r1 leaves, and after
abbrev looked : Matches
looked = seen_matches two_here.matches (length two_here.matched)

status-first : matched_status two_here.matches (length two_here.matched)
    ≡ record {
      total_count = 2;
      total_count_change = 2;
      current_count = pos 2;
      current_count_change = pos 2;
      last = Some r2;
    }
status-first = refl

status-left : matched_status (left (record two_here { matches = looked }) r1).matches (length one_here.matched)
    ≡ record {
      total_count = 2;
      total_count_change = 0;
      current_count = pos 1;
      current_count_change = negsuc 0;
      last = Some r1;
    }
status-left = refl

-- before that, of two that the opening made, the last of these is named, and nothing is new
status-opened : matched_status (opened_with (r1 ∷ r2 ∷ [])) 2
    ≡ record {
      total_count = 2;
      total_count_change = 0;
      current_count = pos 2;
      current_count_change = pos 0;
      last = Some r2;
    }
status-opened = refl

status-of_nobody : (matched_status (opened_with []) 0).last ≡ None
status-of_nobody = refl

-- ---- a reader

abbrev w1 : Endpoint
w1 = record { peer = 1; number = 1 }

abbrev w2 : Endpoint
w2 = record { peer = 1; number = 2 }

-- at w1 it has begun, and is at 4
abbrev rows : List WriterProxy
rows = record { writer = w1; place = 4; heard = None; how = Begun } ∷ []

-- it is told of w2, and that w1 has left
abbrev told : List WriterProxy
told = with_how (with_match rows w2) w1 Away

place-stays : place_of told w1 ≡ Some 4
place-stays = refl

place-new : place_of told w2 ≡ Some 1
place-new = refl

away : how_of told w1 ≡ Away
away = refl

waiting-new : how_of told w2 ≡ Waiting
waiting-new = refl

handle-new : publication_among told w2 ≡ Some 2
handle-new = refl

count-told : attached_count told ≡ 1
count-told = refl

-- w1 comes again, where it was, by its handle
again : with_match told w1 ≡ record { writer = w1; place = 4; heard = None; how = Waiting }
    ∷ record { writer = w2; place = 1; heard = None; how = Waiting } ∷ []
again = refl

-- a writer that is alive dies as it leaves, and one that nobody heard doesn't
parting-alive : happened_after (Some 1) 7 (Heard 1 5 ∷ []) ≡ Left 1 7 ∷ Died 1 7 ∷ Heard 1 5 ∷ []
parting-alive = refl

parting-unheard : happened_after (Some 1) 7 [] ≡ Left 1 7 ∷ []
parting-unheard = refl

-- ---- refusals

-- a peer with this writer, of whose topic r1 and r2 are
abbrev part : Writer → Part
part w = record no_part {
  rtps = record no_part.rtps {
    writers = record w {
      known = record { reader = r1; reliable = true } ∷ record { reader = r2; reliable = false } ∷ [];
    } ∷ [];
  };
}

refused-no_writer : telling_refusal (part no_writer) (MatchReader 2 r1 true) ≡ Some BadParameter
refused-no_writer = refl

refused-no_reader : telling_refusal (part no_writer) (MatchWriter 1 w1) ≡ Some BadParameter
refused-no_reader = refl

refused-unknown : telling_refusal (part no_writer) (MatchReader 1 w2 true) ≡ Some BadParameter
refused-unknown = refl

reliable-known : knows_reliable (own_writer (part no_writer) 1) r1 ≡ true
reliable-known = refl

best_effort-known : knows_reliable (own_writer (part no_writer) 1) r2 ≡ false
best_effort-known = refl

refused-twice : telling_refusal (part two_here) (MatchReader 1 r1 true) ≡ Some PreconditionNotMet
refused-twice = refl

refused-unmatched : telling_refusal (part one_here) (UnmatchReader 1 r1) ≡ Some PreconditionNotMet
refused-unmatched = refl

taken : telling_refusal (part one_here) (UnmatchReader 1 r2) ≡ None
taken = refl

taken-leaves : (own_writer (record no_part { rtps = after_telling (part one_here).rtps (UnmatchReader 1 r2) }) 1).readers
    ≡ []
taken-leaves = refl
