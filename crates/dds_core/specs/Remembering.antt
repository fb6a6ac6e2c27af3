-- Which conditions found nothing, as a peer remembers it, and when that is right. Inner functions alone cite this, and
-- what is kept of a peer: nothing here has to be believed.
--
-- DDS 1.4, 2.2.2.5 (ReadCondition, QueryCondition: get_trigger_value).
use Rattle.std.specs.Prelude.{◌≡◌, ◌⊎◌, ℕ, ◌≤◌, Bool, false, List, length, All, Contains}
use Rattle.dds_protocol.specs.Roster.{Roster}
use Rattle.dds_base.specs.declared.key.Key.{Key}
use Rattle.dds_base.specs.Access.{has_match}
use Rattle.dds_conditions.specs.Filtered.{tests_of}
use Rattle.dds_notices.specs.declared.notice.Notice.{Notice}
use Rattle.dds_notices.specs.Listeners.{ByEntity}
use Rattle.dds_machine.specs.Part.{Part, own_reader}
use Rattle.dds_machine.specs.Watching.{Tests, test_of}
use Rattle.dds_protocol.specs.Peer.{Peer}
use Rattle.dds_core.specs.declared.misses.Miss.{Miss}
use Rattle.dds_core.specs.Kept.{PeerKept}
use Rattle.dds_core.specs.Listening.{CoreKept, StandsFor as CoreStandsFor}
use Rattle.dds_core.specs.Ruling.{IsSound}
use Rattle.dds_core.specs.Standing.{StandsFor}

-- each of the new ones is this one, or was there
abbrev pub AddsMiss : List Miss → Miss → List Miss → Type 0
AddsMiss old miss new = All (λ (m : Miss). (m ≡ miss) ⊎ Contains old m) new

-- so many entries have happened at the reader, and while no more have, no present sample meets the masks and passes the
-- test
pub record IsMiss (tests : Tests) (part : Part) (miss : Miss) : Type 0 where
  pub past : miss.entries ≤ length (own_reader part miss.reader).happened
  pub none : length (own_reader part miss.reader).happened ≡ miss.entries
      → has_match (own_reader part miss.reader).qos (own_reader part miss.reader).happened miss.masks
      (test_of tests miss.filter) ≡ false

-- so it is of each of these in each state that a peer stands for
abbrev pub AreMisses : Tests → PeerKept → List Miss → Type 0
AreMisses tests kept misses =
    (roster : Roster) (peer : Peer) → StandsFor kept roster peer → All (IsMiss tests peer.part) misses

-- there is a state that a core stands for, of which all that is known was claimed, and in which each of these is so
pub record Remembers {F L : Type 0} (notices : L → List Notice) (capacity : L → ℕ) (becomes : L → Notice → L → Type 0)
    (meaning : F → Key → List ℕ → Bool) (kept : CoreKept F L) (misses : List Miss) : Type 0 where
  pub given : ByEntity L
  pub roster : Roster
  pub peer : Peer
  pub stands : CoreStandsFor notices capacity becomes given kept roster peer
  pub sound : IsSound roster peer
  pub right : All (IsMiss (tests_of meaning kept.filtered.filters) peer.part) misses
