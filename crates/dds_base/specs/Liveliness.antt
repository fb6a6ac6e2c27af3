-- Which matched writers are alive at a reader, when their leases run out, and what LIVELINESS_CHANGED says.
--
-- DDS 1.4, 2.2.3 (LIVELINESS), 2.2.4.1 (LIVELINESS_CHANGED).
use Rattle.std.specs.Prelude.{ℕ, pos, ◌-ℤ◌, List, [], ◌∷◌, Bool, false, ◌&&◌, ◌||◌, ◌==◌, not, Option, None, Some, is_some, if◌then◌else◌, filter, count_by}
use Rattle.dds_base.specs.declared.happening.Happening.{Happening}
use Rattle.dds_base.specs.declared.happening.Happening.TheVariants.{Came, Heard, Died, Left}
use Rattle.dds_base.specs.declared.qos.MatchedWriter.{MatchedWriter}
use Rattle.dds_base.specs.declared.qos.ReaderQos.{ReaderQos}
use Rattle.dds_base.specs.declared.status.LivelinessChangedStatus.{LivelinessChangedStatus}
use Rattle.dds_base.specs.Life.{or_else}
use Rattle.dds_base.specs.Ownership.{publication_handles, writer_of, writers_of}
use Rattle.dds_base.specs.Written.{is_over}

-- the moment at which the entry asserts w: a change of it came, or it was heard
abbrev pub assertion_of : ℕ → Happening → Option ℕ
assertion_of w (Came a) = if a.writer == w then Some a.moment else None
assertion_of w (Heard v moment) = if v == w then Some moment else None
assertion_of w _ = None

-- the entry is the death of w
abbrev pub is_death_of : ℕ → Happening → Bool
is_death_of w (Died v moment) = v == w
is_death_of w _ = false

-- the entry says that w left
abbrev pub is_parting_of : ℕ → Happening → Bool
is_parting_of w (Left v moment) = v == w
is_parting_of w _ = false

-- the moment of the last assertion of w since its last death, none where it is not alive
abbrev pub alive_since : ℕ → List Happening → Option ℕ
alive_since w [] = None
alive_since w (e ∷ h) = if is_death_of w e then None else or_else (assertion_of w e) (alive_since w h)

-- w is alive: it was asserted, and has not died since
abbrev pub is_alive : ℕ → List Happening → Bool
is_alive w h = is_some (alive_since w h)

-- w has died since it was matched last
abbrev pub has_died : ℕ → List Happening → Bool
has_died w [] = false
has_died w (e ∷ h) = if is_parting_of w e then false else (is_death_of w e || has_died w h)

-- w is not alive: it has died, and was not asserted since. A writer that was never asserted is neither, and so is one that
-- died and left (2.2.4.1, not_alive_count).
abbrev pub is_dead : ℕ → List Happening → Bool
is_dead w h = has_died w h && not (is_alive w h)

-- the lease of a matched writer, none where it never ends
abbrev pub lease_of : Option MatchedWriter → Option ℕ
lease_of None = None
lease_of (Some writer) = writer.lease

-- the lease of w is over at this moment
abbrev pub is_overdue : ReaderQos → ℕ → List Happening → ℕ → Bool
is_overdue q now h w = is_over (lease_of (writer_of (writers_of q h) w)) (alive_since w h) now

-- the writers that die at a tick of this moment, by handle
abbrev pub dead_at : ReaderQos → ℕ → List Happening → List ℕ
dead_at q now h = filter (is_overdue q now h) (publication_handles q h)

-- what has happened once these died in turn, at this moment: the last of them is the newest entry
abbrev pub with_deaths : ℕ → List ℕ → List Happening → List Happening
with_deaths now [] h = h
with_deaths now (w ∷ ws) h = with_deaths now ws (Died w now ∷ h)

-- what has happened once a tick of this moment entered its deaths
abbrev pub after_deaths : ReaderQos → ℕ → List Happening → List Happening
after_deaths q now h = with_deaths now (dead_at q now h) h

-- what has happened once w left at this moment: one that is alive dies first, so it is registered for nothing any more
abbrev pub after_parting : ℕ → ℕ → List Happening → List Happening
after_parting w now h = Left w now ∷ (if is_alive w h then Died w now ∷ h else h)

-- the entry changes how many writers are alive, or how many are not alive
abbrev pub turns_alive : List Happening → Happening → Bool
turns_alive h (Came a) = not (is_alive a.writer h)
turns_alive h (Heard w moment) = not (is_alive w h)
turns_alive h (Died w moment) = not (is_dead w h)
turns_alive h (Left w moment) = is_dead w h
turns_alive h _ = false

-- the writer that the entry asserts, whose death it is, or that left; 0 for none
abbrev pub writer_in : Happening → ℕ
writer_in (Came a) = a.writer
writer_in (Heard w moment) = w
writer_in (Died w moment) = w
writer_in (Left w moment) = w
writer_in _ = 0

-- how many matched writers are alive
abbrev pub alive_count : ReaderQos → List Happening → ℕ
alive_count q h = count_by (λ w. is_alive w h) (publication_handles q h)

-- how many matched writers are not alive
abbrev pub not_alive_count : ReaderQos → List Happening → ℕ
not_alive_count q h = count_by (λ w. is_dead w h) (publication_handles q h)

-- the writer that last changed one of the counts, 0 for none: a look at the status does not clear it
abbrev pub last_turned : List Happening → ℕ
last_turned [] = 0
last_turned (e ∷ h) = if turns_alive h e then writer_in e else last_turned h

-- LIVELINESS_CHANGED after this happened, where its counts were these when it was looked at last
abbrev pub liveliness_changed_status : ReaderQos → List Happening → ℕ → ℕ → LivelinessChangedStatus
liveliness_changed_status q h alive_seen not_alive_seen = record {
  alive_count = pos (alive_count q h);
  not_alive_count = pos (not_alive_count q h);
  alive_count_change = pos (alive_count q h) -ℤ pos alive_seen;
  not_alive_count_change = pos (not_alive_count q h) -ℤ pos not_alive_seen;
  last_publication_handle = last_turned h;
}
