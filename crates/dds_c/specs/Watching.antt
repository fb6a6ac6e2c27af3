-- What filters and recorders of a caller are.
--
-- DDS 1.4, 2.2.2.1 (Entity, set_listener), 2.2.2.5 (QueryCondition), 2.2.4.1 (communication statuses), 2.3.3 (their bits).
use Rattle.std.specs.Prelude.{◌≡◌, ◌⊎◌, ℕ, ◌==◌, if◌then◌else◌, pos, List, slice_get, Option, Some, None}
use Rattle.dds_base.specs.declared.code.Code.{Code}
use Rattle.dds_base.specs.declared.entity.Entity.{Entity}
use Rattle.dds_base.specs.declared.entity.Entity.TheVariants.{Participant, Reader, Writer}
use Rattle.dds_core.specs.Listening.{Adds, RefusesFilter, RefusesListener, Sets}
use Rattle.dds_notices.specs.Masks.{status_bit}
use Rattle.dds_notices.specs.Notices.{Recording}
use Rattle.dds_notices.specs.declared.mask.StatusMask.{StatusMask}
use Rattle.dds_notices.specs.declared.notice.Notice.{Notice}
use Rattle.dds_notices.specs.declared.notice.Status.{Status}
use Rattle.dds_notices.specs.declared.notice.Status.TheVariants.{LivelinessChanged, LivelinessLost, PublicationMatched, SampleLost, SubscriptionMatched}
use Rattle.dds_script.specs.declared.prefix.Prefix.{Prefix}
use Rattle.dds_c.specs.Answering.{refusing_number}
use Rattle.dds_c.specs.Fetching.{changed_of, matched_of}
use Rattle.dds_c.specs.Meaning.{recorder_notices, recorder_capacity, recorder_becomes}
use Rattle.dds_c.specs.declared.out.FlatChanged.{FlatChanged}
use Rattle.dds_c.specs.declared.out.FlatMatched.{FlatMatched}
use Rattle.dds_c.specs.declared.out.FlatTotal.{FlatTotal}
use Rattle.dds_c.specs.declared.session.Session.{Session}
use Rattle.dds_c.specs.declared.watching.FlatNotice.{FlatNotice}

-- what is there before and after, where there is something
abbrev pub Between : (Session → Session → Type 0) → Option Session → Option Session → Type 0
Between Holds (Some old) (Some new) = Holds old new
Between Holds _ _ = ⊥

-- the filter by these octets
abbrev pub prefix_of : List ℕ → Prefix
prefix_of octets = record { 0 = octets }

-- a filter was added by this number, and nothing else changed
pub record FilterIsAdded (filter : Prefix) (number : ℕ) (old new : Session) : Type 0 where
  pub adds : Adds recorder_notices recorder_capacity recorder_becomes old.core filter number new.core
  pub last : new.last ≡ old.last
  pub side : new.side ≡ old.side
  pub told : new.told ≡ old.told

-- the entity of a kind (0 the participant, 1 a writer, 2 a reader) and a number, if there is such a kind
abbrev pub entity_of : ℕ → ℕ → Option Entity
entity_of kind number =
    if kind == 0 then Some Participant
    else (if kind == 1 then Some (Writer number) else (if kind == 2 then Some (Reader number) else None))

-- a listener was set at an entity, or taken away there; what was there before is kept aside, and nothing else changed
pub record ListenerIsSet (entity : Entity) (mask : StatusMask) (recorder : Option Recording) (old new : Session) : Type 0 where
  pub sets : Sets recorder_notices recorder_capacity recorder_becomes old.core entity mask recorder
      new.told new.core
  pub last : new.last ≡ old.last
  pub side : new.side ≡ old.side

-- the same at the entity of a kind and a number
abbrev pub SetAt : Option Entity → StatusMask → Option Recording → Session → Session → Type 0
SetAt (Some entity) mask recorder old new = ListenerIsSet entity mask recorder old new
SetAt None mask recorder old new = ⊥

-- the number of a code that refuses so
pub record RefusesWith (Refused : Code → Type 0) (number : ℕ) : Type 0 where
  pub code : Code
  pub refused : Refused code
  pub numbered : number ≡ refusing_number code

-- why a filter is not added: for want of a number, or of memory, also for its octets; the number is 4 where no peer is
-- open
abbrev pub RefusesToAdd : Option Session → ℕ → Type 0
RefusesToAdd (Some s) number =
    RefusesWith (RefusesFilter recorder_notices recorder_capacity recorder_becomes s.core) number ⊎ (number ≡ 100)
RefusesToAdd None number = (number ≡ 4) ⊎ (number ≡ 100)

-- why a listener is not set at an entity, or not taken away: the number is 3 where there is no such kind, and 4 where no
-- peer is open
abbrev pub RefusesToSet : Option Entity → Option Recording → Option Session → ℕ → Type 0
RefusesToSet None recorder old number = number ≡ 3
RefusesToSet (Some entity) recorder (Some s) number =
    RefusesWith (RefusesListener recorder_notices recorder_capacity recorder_becomes s.core entity recorder) number
RefusesToSet (Some entity) recorder None number = number ≡ 4

-- nothing of a total, or of a change
abbrev pub no_total : FlatTotal
no_total = record { total_count = 0; total_count_change = 0 }

-- nothing of a change
abbrev pub no_change : FlatChanged
no_change = record {
  alive_count = pos 0;
  not_alive_count = pos 0;
  alive_count_change = pos 0;
  not_alive_count_change = pos 0;
  last_publication_handle = 0;
}

-- nothing of matches
abbrev pub no_match : FlatMatched
no_match = record {
  total_count = 0;
  total_count_change = 0;
  current_count = pos 0;
  current_count_change = pos 0;
  last_peer = 0;
  last_number = 0;
}

-- the kind of an entity, and its number
abbrev pub kind_of : Entity → ℕ
kind_of Participant = 0
kind_of (Writer number) = 1
kind_of (Reader number) = 2

-- the number of an entity, 0 of the participant
abbrev pub number_of : Entity → ℕ
number_of Participant = 0
number_of (Writer number) = number
number_of (Reader number) = number

-- the total of a status that is one
abbrev pub total_in : Status → FlatTotal
total_in (SampleLost status) = record { total_count = status.total_count; total_count_change = status.total_count_change }
total_in (LivelinessLost status) = record { total_count = status.total_count; total_count_change = status.total_count_change }
total_in _ = no_total

-- LIVELINESS_CHANGED
abbrev pub changed_in : Status → FlatChanged
changed_in (LivelinessChanged status) = changed_of status
changed_in _ = no_change

-- PUBLICATION_MATCHED, or SUBSCRIPTION_MATCHED
abbrev pub matched_in : Status → FlatMatched
matched_in (PublicationMatched status) = matched_of status
matched_in (SubscriptionMatched status) = matched_of status
matched_in _ = no_match

-- a notice: whose status it is, which, and its values
abbrev pub notice_of : Notice → FlatNotice
notice_of n = record {
  entity_kind = kind_of n.entity;
  entity_number = number_of n.entity;
  status = status_bit n.status;
  total = total_in n.status;
  changed = changed_in n.status;
  matched = matched_in n.status;
}

-- the notice of this place that a recorder keeps, if there is one
abbrev pub kept_at : Option Recording → ℕ → Option Notice
kept_at (Some recorder) at = slice_get recorder.notices at
kept_at None at = None

-- a notice is written where there is one; else the code is 11, and nothing is written
abbrev pub NoticeWritten : Option Notice → FlatNotice → FlatNotice → ℕ → Type 0
NoticeWritten (Some n) old new code = (new ≡ notice_of n) × (code ≡ 0)
NoticeWritten None old new code = (new ≡ old) × (code ≡ 11)

-- the same of the recorder that was set aside; the code is 4 where no peer is open
abbrev pub NoticeFetched : Option Session → ℕ → FlatNotice → FlatNotice → ℕ → Type 0
NoticeFetched (Some s) at old new code = NoticeWritten (kept_at s.told at) old new code
NoticeFetched None at old new code = (new ≡ old) × (code ≡ 4)
