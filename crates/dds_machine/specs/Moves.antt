-- What a delivery may do at a peer: a reader's place begins, and goes on over changes that come and changes that are
-- passed over, a reader acknowledges changes, or some that were never made, and a writer is heard to assert its
-- liveliness (RTPS 2.5, 8.4: reliable StatefulWriter and StatefulReader; 8.7.2.2, LIVELINESS). A reader's places go on so
-- too where they are tried again.
use Rattle.std.specs.Prelude.{◌≡◌, ℕ, ◌+◌, ◌<◌, ◌≤◌, true, List, [], ◌∷◌, length, Option, Some, None, ℤ, ◌<ℤ◌}
use Rattle.dds_base.specs.declared.change.Change.{Change}
use Rattle.dds_base.specs.declared.code.Code.TheVariants.{BadParameter}
use Rattle.dds_base.specs.declared.happening.Happening.TheVariants.{Heard as WasHeard}
use Rattle.dds_base.specs.declared.happening.PassedRun.{PassedRun}
use Rattle.dds_base.specs.Places.{WriterGrounds, Match, PlaceWith, GoesTo, MayPassOver}
use Rattle.dds_base.specs.declared.endpoint.Endpoint.{Endpoint}
use Rattle.dds_machine.specs.declared.reply.Move.{Move}
use Rattle.dds_machine.specs.declared.reply.Move.TheVariants.{Place, Acknowledged, Heard, Begun as HasBegun, Strange}
use Rattle.dds_machine.specs.declared.reply.Reply.{Reply}
use Rattle.dds_machine.specs.declared.reply.Reply.TheVariants.{Refused, Reported}
use Rattle.dds_machine.specs.Numbered.{HasNumber}
use Rattle.dds_machine.specs.Part.{is_attached, Waiting, Begun, how_of, with_begun, Part, own_writer, own_proxies, own_reader, acknowledged_of, with_acknowledged, place_of, with_place, heard_of, with_heard, publication_among, at_reader, at_writer, writer_changes}

-- What moves at one peer may rest on. A far end is an endpoint, an own one a number.
pub record Grounds : Type 1 where
  -- the writer's change of this number, which is for the reader, is this
  pub is_change : Endpoint → ℕ → ℕ → Change → Type 0
  -- the reader may pass over the writer's change of this number
  pub may_pass : Endpoint → ℕ → ℕ → Type 0
  -- the place of the reader in the own writer's list is at least this
  pub has_place : ℕ → Endpoint → ℕ → Type 0
  -- this count numbers an assertion of the writer, of which the reader may learn
  pub may_hear : Endpoint → ℕ → ℤ → Type 0

-- what the reader of this number may rest on as to the writer
abbrev pub as_to : Grounds → Endpoint → ℕ → WriterGrounds
as_to grounds writer reader =
    record { is_change = grounds.is_change writer reader; may_pass = grounds.may_pass writer reader }

-- the peer's reader, with a matched writer of this publication handle
abbrev pub match_of : Part → ℕ → ℕ → Match
match_of part reader publication =
    record { qos = (own_reader part reader).qos; publication = publication; moment = part.dds.moment }

-- the peer's reader is matched with the writer, which has this publication handle there, and it is at this place, which
-- has begun
pub record IsMatchedAt (part : Part) (writer : Endpoint) (reader publication place : ℕ) : Type 0 where
  pub handle : publication_among (own_proxies part reader) writer ≡ Some publication
  pub at : place_of (own_proxies part reader) writer ≡ Some place
  pub begun : how_of (own_proxies part reader) writer ≡ Begun

-- the peer's reader of this number, at this place in a writer's list, with what happened there so far
abbrev pub position_at : Part → ℕ → ℕ → PlaceWith
position_at part reader place = record { place = place; happened = (own_reader part reader).happened }

-- the place of the peer's reader in the list of a matched writer goes on
pub record Places (grounds : Grounds) (old : Part) (writer : Endpoint) (reader to : ℕ) (passed : List PassedRun)
    (new : Part) : Type 0 where
  pub publication : ℕ
  pub place : ℕ
  pub matched : IsMatchedAt old writer reader publication place
  pub forward : place < to
  pub end : PlaceWith
  pub goes : GoesTo (as_to grounds writer reader) (match_of old reader publication)
      (position_at old reader place) passed to end
  pub after : new ≡ at_reader old reader (with_place (own_proxies old reader) writer to) end.happened

-- the place of a matched reader begins, where it was or further on, over what it may pass over; nothing of that is
-- entered as lost
pub record Begins (grounds : Grounds) (old : Part) (writer : Endpoint) (reader place to : ℕ) (new : Part) : Type 0 where
  pub waits : how_of (own_proxies old reader) writer ≡ Waiting
  pub at : place_of (own_proxies old reader) writer ≡ Some place
  pub no_less : place ≤ to
  pub may_pass : (number : ℕ) → place ≤ number → number < to
      → MayPassOver (as_to grounds writer reader) (own_reader old reader).qos number
  pub after : new ≡ at_reader old reader (with_begun (own_proxies old reader) writer to) (own_reader old reader).happened

-- a matched reader of the peer's writer has acknowledged more, and no more than it has
pub record Acknowledges (grounds : Grounds) (old : Part) (writer : ℕ) (reader : Endpoint) (to : ℕ)
    (new : Part) : Type 0 where
  pub acknowledged : ℕ
  pub matched : acknowledged_of (own_writer old writer).readers reader ≡ Some acknowledged
  pub forward : acknowledged < to
  pub has_place : grounds.has_place writer reader to
  pub after : new ≡ at_writer old writer
      (record (own_writer old writer) { readers = with_acknowledged (own_writer old writer).readers reader to })

-- a matched reader of the peer's writer has acknowledged changes that the writer has not made: it knows another one of
-- that name, and nothing changes
pub record IsStrange (grounds : Grounds) (old : Part) (writer : ℕ) (reader : Endpoint) (new : Part) : Type 0 where
  pub acknowledged : ℕ
  pub matched : acknowledged_of (own_writer old writer).readers reader ≡ Some acknowledged
  pub base : ℕ
  pub has_place : grounds.has_place writer reader base
  pub beyond : length (writer_changes (own_writer old writer)) + 1 < base
  pub after : new ≡ old

-- a count is above the one by which a writer was heard last; the first is so always
abbrev pub IsLater : Option ℤ → ℤ → Type 0
IsLater None count = Unit {0}
IsLater (Some heard) count = heard <ℤ count

-- the peer's reader hears that a matched writer has asserted its liveliness
pub record Hears (grounds : Grounds) (old : Part) (writer : Endpoint) (reader : ℕ) (new : Part) : Type 0 where
  pub publication : ℕ
  pub matched : publication_among (own_proxies old reader) writer ≡ Some publication
  pub here : is_attached (how_of (own_proxies old reader) writer) ≡ true
  pub heard : Option ℤ
  pub last : heard_of (own_proxies old reader) writer ≡ Some heard
  pub count : ℤ
  pub later : IsLater heard count
  pub may_hear : grounds.may_hear writer reader count
  pub after : new ≡ at_reader old reader (with_heard (own_proxies old reader) writer count)
      (WasHeard publication old.dds.moment ∷ (own_reader old reader).happened)

-- one move is legal
abbrev pub IsMove : Grounds → Part → Move → Part → Type 0
IsMove grounds old (Place writer reader to passed) new = Places grounds old writer reader to passed new
IsMove grounds old (Acknowledged writer reader to) new = Acknowledges grounds old writer reader to new
IsMove grounds old (Heard writer reader) new = Hears grounds old writer reader new
IsMove grounds old (HasBegun writer reader from to) new = Begins grounds old writer reader from to new
IsMove grounds old (Strange writer reader) new = IsStrange grounds old writer reader new

-- moves taken in turn
abbrev pub AreMoves : Grounds → Part → List Move → Part → Type 0
AreMoves grounds old [] new = new ≡ old
AreMoves grounds old (m ∷ ms) new = (mid : Part) × IsMove grounds old m mid × AreMoves grounds mid ms new

-- a delivery is answered by a report of legal moves
abbrev pub DeliveryStep : Grounds → Part → Reply → Part → Type 0
DeliveryStep grounds old (Reported report) new = AreMoves grounds old report.moves new
DeliveryStep grounds old reply new = ⊥

-- each of these moves is of a place of the peer's reader of this number
abbrev pub ArePlaces : ℕ → List Move → Type 0
ArePlaces reader [] = Unit {0}
ArePlaces reader (Place writer r to passed ∷ moves) = (r ≡ reader) × ArePlaces reader moves
ArePlaces reader (m ∷ moves) = ⊥

-- where the places of a reader are tried again it is answered by a report of legal moves of these alone, or refused, as
-- there is no such reader
abbrev pub ResumeStep : Grounds → Part → ℕ → Reply → Part → Type 0
ResumeStep grounds old reader (Reported report) new =
    HasNumber old.dds.readers reader × ArePlaces reader report.moves × AreMoves grounds old report.moves new
ResumeStep grounds old reader (Refused code) new =
    (HasNumber old.dds.readers reader → ⊥) × (code ≡ BadParameter) × (new ≡ old)
ResumeStep grounds old reader reply new = ⊥
