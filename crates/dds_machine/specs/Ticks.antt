-- What a tick does: the time of a peer goes on, and whoever was not heard of for as long as its lease dies at its
-- readers.
--
-- DDS 1.4, 2.2.3 (LIVELINESS: lease_duration).
use Rattle.std.specs.Prelude.{◌≡◌, ℕ, ◌+◌, ◌-◌, ◌^◌, ◌||◌, Bool, true, List, [], ◌∷◌, map, length, Option, Some, None, nat_le, nat_lt, if◌then◌else◌}
use Rattle.std.specs.List.{list_any}
use Rattle.dds_base.specs.declared.code.Code.{Code}
use Rattle.dds_base.specs.declared.code.Code.TheVariants.{BadParameter, Memory}
use Rattle.dds_base.specs.Bounds.{end_of_moments}
use Rattle.dds_base.specs.Liveliness.{after_deaths, dead_at}
use Rattle.dds_base.specs.Refusal.{Refuses}
use Rattle.dds_base.specs.Written.{Ticked}
use Rattle.dds_machine.specs.declared.reply.Reply.{Reply}
use Rattle.dds_machine.specs.declared.reply.Reply.TheVariants.{Done, Refused}
use Rattle.dds_machine.specs.Part.{Part, Reader, Writer, is_behind}
use Rattle.dds_machine.specs.Calls.{with_written}

-- why a moment is refused: it lies before the peer's, or is none, from 2^63 on
abbrev pub tick_refusal : Part → ℕ → Option Code
tick_refusal part now = if nat_lt now part.dds.moment || nat_le end_of_moments now then Some BadParameter else None

-- a writer, after its peer's time went on to this moment: a reader had asked it for a HEARTBEAT, or none had
abbrev pub ticked : ℕ → Bool → Writer → Writer
ticked now asked w = with_written w (Ticked now (is_behind w || asked))

-- the same of these writers, the first of which has this number
abbrev pub writers_ticked : ℕ → (ℕ → Bool) → ℕ → List Writer → List Writer
writers_ticked now asked n [] = []
writers_ticked now asked n (w ∷ ws) = ticked now (asked n) w ∷ writers_ticked now asked (n + 1) ws

-- a reader, after its peer's time went on to this moment: the writers whose leases are then over have died there
abbrev pub reader_ticked : ℕ → Reader → Reader
reader_ticked now r = record r { happened = after_deaths r.qos now r.happened }

-- The part of a peer whose time went on to this moment: first writers die at its readers; then it enters so at each of
-- its writers, and whether a reader was behind. These of them had been asked for a HEARTBEAT.
abbrev pub after_tick : (ℕ → Bool) → Part → ℕ → Part
after_tick asked old now = record {
  rtps = record old.rtps { writers = writers_ticked now asked 1 old.rtps.writers };
  dds = record old.dds { moment = now; readers = map (reader_ticked now) old.dds.readers };
}

-- at some reader of the peer more would have happened by its deaths than can be counted
abbrev pub is_past_counting : Part → ℕ → Bool
is_past_counting part now =
    list_any (λ (r : Reader). nat_lt (2 ^ 64 - 1) (length r.happened + length (dead_at r.qos now r.happened)))
    part.dds.readers

-- why a tick is refused: for its moment; or for want of memory, which no death needs, but where one can't be counted
abbrev pub RefusesTick : Part → ℕ → Code → Type 0
RefusesTick old now code = Refuses (tick_refusal old now) code × (code ≡ Memory → is_past_counting old now ≡ true)

-- the time of a peer, these of whose writers had been asked for a HEARTBEAT, goes on to this moment, exactly unless
-- that is refused
abbrev pub TicksAsked : (ℕ → Bool) → Part → ℕ → Reply → Part → Type 0
TicksAsked asked old now Done new = (tick_refusal old now ≡ None) × (new ≡ after_tick asked old now)
TicksAsked asked old now (Refused code) new = RefusesTick old now code × (new ≡ old)
TicksAsked asked old now reply new = ⊥

-- The same, whichever they are: which readers ask is known by packets alone. Nothing shows it but the number of counts
-- that are left for assertions.
abbrev pub TickStep : Part → ℕ → Reply → Part → Type 0
TickStep old now reply new = (asked : ℕ → Bool) × TicksAsked asked old now reply new
