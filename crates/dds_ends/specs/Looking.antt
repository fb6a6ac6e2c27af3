-- What a call at a reader answers by what the reader keeps: an access, a look at a status, a condition's match. Inner
-- functions alone cite this: nothing here has to be believed.
--
-- DDS 1.4, 2.2.2.5 (read, take; get_sample_lost_status, get_liveliness_changed_status,
-- get_subscription_matched_status), 2.2.4.1, 2.2.4.2.
use Rattle.std.specs.Prelude.{◌≡◌, Bool, ℕ, List, length, Result, Ok, Err}
use Rattle.dds_base.specs.declared.code.Code.{Code}
use Rattle.dds_base.specs.declared.happening.Happening.{Happening}
use Rattle.dds_base.specs.declared.mask.Masks.{Masks}
use Rattle.dds_base.specs.declared.sample.Sample.{Sample}
use Rattle.dds_base.specs.declared.status.LivelinessChangedStatus.{LivelinessChangedStatus}
use Rattle.dds_base.specs.declared.status.MatchedStatus.{MatchedStatus}
use Rattle.dds_base.specs.declared.status.SampleLostStatus.{SampleLostStatus}
use Rattle.dds_base.specs.declared.key.Key.{Key}
use Rattle.dds_base.specs.Access.{has_match}
use Rattle.dds_base.specs.Liveliness.{alive_count, not_alive_count, liveliness_changed_status}
use Rattle.dds_base.specs.Statuses.{lost_count, sample_lost_status}
use Rattle.dds_cache.specs.Standing.{qos_of}
use Rattle.rtps_reader.specs.Tracked.{Tracked}
use Rattle.dds_notices.specs.declared.mask.StatusMask.{StatusMask}
use Rattle.dds_base.specs.declared.endpoint.Endpoint.{Endpoint}
use Rattle.dds_machine.specs.declared.reply.Reply.{Reply}
use Rattle.dds_machine.specs.declared.reply.Reply.TheVariants.{Samples, Refused}
use Rattle.dds_machine.specs.Matching.{reader_looked_at, subscription_matched}
use Rattle.dds_machine.specs.Part.{Reader, Seen, WriterProxy}
use Rattle.dds_machine.specs.Watching.{reader_statuses}
use Rattle.dds_ends.specs.Identity.{reader_identity}
use Rattle.dds_ends.specs.Kept.{ReaderKept}
use Rattle.dds_ends.specs.Storing.{Holds}
use Rattle.dds_ends.specs.Standing.{ReaderStands}

-- the reply to an access that its cache answers so
abbrev pub access_reply : Result (List Sample) Code → Reply
access_reply (Ok samples) = Samples samples
access_reply (Err code) = Refused code

-- nothing but the cache has changed, and its policies have not
pub record TakesOnly (old new : ReaderKept) : Type 0 where
  pub entity : new.entity ≡ old.entity
  pub writers : new.writers ≡ old.writers
  pub reader : new.reader ≡ old.reader
  pub lost : new.store.lost ≡ old.store.lost
  pub passed : new.store.passed ≡ old.store.passed
  pub turned : new.store.turned ≡ old.store.turned
  pub leases : new.store.leases ≡ old.store.leases
  pub qos : qos_of new.store.cache ≡ qos_of old.store.cache
  pub seen : new.seen ≡ old.seen
  pub matches : new.matches ≡ old.matches
  pub here : new.here ≡ old.here

-- the answer to a look at SAMPLE_LOST, and what is seen then
abbrev pub TellsLost : ReaderKept → SampleLostStatus → Seen → Type 0
TellsLost kept status seen = (h : List Happening) → Holds kept.store h
    → (status ≡ sample_lost_status h kept.seen.lost)
    × (seen ≡ record kept.seen { lost = lost_count h; entries_at_lost = length h })

-- the answer to a look at LIVELINESS_CHANGED, and what is seen then
abbrev pub TellsLiveliness : ReaderKept → LivelinessChangedStatus → Seen → Type 0
TellsLiveliness kept status seen = (h : List Happening) → Holds kept.store h
    → (status ≡ liveliness_changed_status (qos_of kept.store.cache) h kept.seen.alive kept.seen.not_alive)
    × (seen ≡ record kept.seen {
      alive = alive_count (qos_of kept.store.cache) h;
      not_alive = not_alive_count (qos_of kept.store.cache) h;
      entries_at_turn = length h;
    })

-- the answer to a look at SUBSCRIPTION_MATCHED
abbrev pub TellsMatches : ReaderKept → MatchedStatus → Type 0
TellsMatches kept status = (proxies : List WriterProxy) (r : Reader) (tracked : Endpoint → Tracked)
    → ReaderStands kept proxies r tracked → status ≡ subscription_matched proxies r

-- the reader after that look
pub record SeesMatches (old new : ReaderKept) : Type 0 where
  pub same : reader_identity new ≡ reader_identity old
  pub stands : (proxies : List WriterProxy) (r : Reader) (tracked : Endpoint → Tracked)
      → ReaderStands old proxies r tracked → ReaderStands new proxies (reader_looked_at proxies r) tracked

-- whether the statuses of a reader are flagged, as it is kept
abbrev pub TellsFlags : ReaderKept → StatusMask → Type 0
TellsFlags kept mask = (proxies : List WriterProxy) (r : Reader) (tracked : Endpoint → Tracked)
    → ReaderStands kept proxies r tracked
    → mask ≡ reader_statuses proxies r

-- whether a present sample of a reader meets the masks and passes the test, as it is kept
abbrev pub TellsMatch : ReaderKept → Masks → (Key → List ℕ → Bool) → Bool → Type 0
TellsMatch kept masks test answer =
    (proxies : List WriterProxy) (r : Reader) (tracked : Endpoint → Tracked) → ReaderStands kept proxies r tracked
    → answer ≡ has_match r.qos r.happened masks test
