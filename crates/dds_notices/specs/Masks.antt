-- Which statuses a mask names.
--
-- DDS 1.4, 2.3.3 (StatusMask, SAMPLE_LOST_STATUS and kin).
use Rattle.std.specs.Prelude.{ℕ, Bool}
use Rattle.dds_base.specs.Access.{has_bit}
use Rattle.dds_notices.specs.declared.mask.StatusMask.{StatusMask}
use Rattle.dds_notices.specs.declared.notice.Status.{Status}
use Rattle.dds_notices.specs.declared.notice.Status.TheVariants.{SampleLost, DataAvailable, LivelinessLost, LivelinessChanged, PublicationMatched, SubscriptionMatched}

-- SAMPLE_LOST_STATUS
abbrev pub sample_lost_bit : ℕ
sample_lost_bit = 128

-- DATA_AVAILABLE_STATUS
abbrev pub data_available_bit : ℕ
data_available_bit = 1024

-- LIVELINESS_LOST_STATUS
abbrev pub liveliness_lost_bit : ℕ
liveliness_lost_bit = 2048

-- LIVELINESS_CHANGED_STATUS
abbrev pub liveliness_changed_bit : ℕ
liveliness_changed_bit = 4096

-- PUBLICATION_MATCHED_STATUS
abbrev pub publication_matched_bit : ℕ
publication_matched_bit = 8192

-- SUBSCRIPTION_MATCHED_STATUS
abbrev pub subscription_matched_bit : ℕ
subscription_matched_bit = 16384

-- the bit of a status, whichever its values are
abbrev pub status_bit : Status → ℕ
status_bit (SampleLost values) = sample_lost_bit
status_bit DataAvailable = data_available_bit
status_bit (LivelinessLost values) = liveliness_lost_bit
status_bit (LivelinessChanged values) = liveliness_changed_bit
status_bit (PublicationMatched values) = publication_matched_bit
status_bit (SubscriptionMatched values) = subscription_matched_bit

-- the mask names the status
abbrev pub names : StatusMask → Status → Bool
names mask status = has_bit mask.0 (status_bit status)
