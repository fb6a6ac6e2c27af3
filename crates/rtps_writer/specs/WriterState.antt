-- The state of a writer with its matched reliable readers, which are named by an index from 0
-- (RTPS 2.5, 8.4.7: StatefulWriter, ReaderProxy).
use Rattle.std.specs.Prelude.{◌≡◌, ◌⊎◌, ℕ, ◌+◌, ◌-◌, ◌^◌, ◌&&◌, ◌||◌, true, false, Bool, List, [], ◌∷◌, ◌++◌, length, map, max, min, replicate, get_or, slice_index, slice_set, nat_le, nat_lt, Option, None, Some, ℤ, pos, if◌then◌else◌}
use Rattle.std.specs.List.{list_any, remove}
use Rattle.dds_base.specs.declared.qos.HistoryQos.{HistoryQos}
use Rattle.dds_base.specs.declared.change.Change.{Change}
use Rattle.dds_base.specs.Happening.{is_unregister}
use Rattle.dds_base.specs.Kept.{WriterHistory, appended, first_kept, is_awaited, is_kept}
use Rattle.dds_base.specs.Written.{Written, Ticked, changes_of, counts_of, is_key_registered}
use Rattle.rtps_writer.specs.declared.heartbeat.HeartbeatDue.{HeartbeatDue}

-- a writer: its policy, limit and lease, the strength that it was configured with, none of a writer of shared ownership,
-- what happened there, the newest first, and of each matched reliable reader the number of the first change that was made
-- since it was matched, the number below which it has acknowledged all, the count of the last ACKNACK that was applied,
-- whether it asks for a HEARTBEAT, and whether it is silent: it was greeted, and has not answered yet
pub record WriterState : Type 0 where
  pub policy : HistoryQos
  pub max_samples : Option ℕ
  pub lease : Option ℕ
  pub strength : Option ℤ
  pub written : List Written
  pub firsts : List ℕ
  pub acknowledged : List ℕ
  pub counts : List (Option ℤ)
  pub asks : List Bool
  pub silents : List Bool

-- a writer of this policy, limit, lease and strength, with so many matched reliable readers, at which nothing has happened
abbrev pub opening : HistoryQos → Option ℕ → Option ℕ → Option ℤ → ℕ → WriterState
opening policy max_samples lease strength readers =
    record {
      policy = policy;
      max_samples = max_samples;
      lease = lease;
      strength = strength;
      written = [];
      firsts = replicate readers 1;
      acknowledged = replicate readers 1;
      counts = replicate readers None;
      asks = replicate readers false;
      silents = replicate readers false;
    }

-- the writer once this has happened besides
abbrev pub entering : WriterState → Written → WriterState
entering s entry = record s { written = entry ∷ s.written }

-- its history
abbrev pub history_of : WriterState → WriterHistory
history_of s = record {
  policy = s.policy;
  max_samples = s.max_samples;
  changes = changes_of s.written;
  acknowledged = s.acknowledged;
}

-- the number of its last change; 0 before the first
abbrev pub last_of : WriterState → ℕ
last_of s = length (changes_of s.written)

-- a change wants room: it is one to be kept, or it registers an instance that is not registered
abbrev pub WantsRoom : WriterState → Change → Type 0
WantsRoom s change =
    (is_kept (appended (history_of s) change) (last_of s + 1) ≡ true)
    ⊎ ((is_unregister change.kind ≡ false) × (is_key_registered change.key s.written ≡ false))

-- the writer once one more reliable reader is matched, of whose ACKNACKs this was the last count that was applied, and
-- which is silent or not: it comes last, is owed what is made from now on, counts as one that has acknowledged what was
-- made, and asks for nothing
abbrev pub joined : WriterState → Option ℤ → (silent : Bool) → WriterState
joined s count silent = record s {
  firsts = s.firsts ++ (last_of s + 1) ∷ [];
  acknowledged = s.acknowledged ++ (last_of s + 1) ∷ [];
  counts = s.counts ++ count ∷ [];
  asks = s.asks ++ false ∷ [];
  silents = s.silents ++ silent ∷ [];
}

-- the writer once the reader of this index, from 0, is not matched any more: those behind it move down by one
abbrev pub left : WriterState → ℕ → WriterState
left s reader = record s {
  firsts = remove s.firsts reader;
  acknowledged = remove s.acknowledged reader;
  counts = remove s.counts reader;
  asks = remove s.asks reader;
  silents = remove s.silents reader;
}

-- the writer once this reader asks for a HEARTBEAT
abbrev pub asking : WriterState → ℕ → WriterState
asking s reader = record s { asks = slice_set s.asks reader true }

-- the writer once this reader has answered
abbrev pub answering : WriterState → ℕ → WriterState
answering s reader = record s { silents = slice_set s.silents reader false }

-- the writer once no reader asks for a HEARTBEAT any longer
abbrev pub unasked : WriterState → WriterState
unasked s = record s { asks = map (λ asks. false) s.asks }

-- from this number on this reader is owed the changes: those that were made since it was matched
abbrev pub owed_from : WriterState → ℕ → ℕ
owed_from s reader = min (slice_index s.firsts reader) (last_of s + 1)

-- the first number that a HEARTBEAT to this reader alone may name: it is owed nothing below, or nothing there is kept
abbrev pub first_for : WriterState → ℕ → ℕ
first_for s reader = max (owed_from s reader) (first_kept (history_of s))

-- this reader is silent
abbrev pub is_reader_silent : WriterState → ℕ → Bool
is_reader_silent s reader = get_or s.silents reader false

-- the last number that a HEARTBEAT to this reader alone names: of a silent one the number before the first, so that it
-- names none
abbrev pub last_for : WriterState → ℕ → ℕ
last_for s reader = if is_reader_silent s reader then first_for s reader - 1 else last_of s

-- the number below which this reader has acknowledged all
abbrev pub acknowledged_by : WriterState → ℕ → ℕ
acknowledged_by s reader = slice_index s.acknowledged reader

-- this reader has not acknowledged all changes
abbrev pub is_reader_behind : WriterState → ℕ → Bool
is_reader_behind s reader = nat_le (acknowledged_by s reader) (last_of s)

-- some reader has not acknowledged all changes
abbrev pub is_behind : WriterState → Bool
is_behind s = is_awaited (history_of s) (last_of s)

-- some reader asks for a HEARTBEAT, or is silent
abbrev pub is_asked : WriterState → Bool
is_asked s = list_any (λ asks. asks) s.asks || list_any (λ silent. silent) s.silents

-- the next tick's HEARTBEAT is for this reader: it has not acknowledged all changes, asks for one, or is silent
abbrev pub is_reader_told : WriterState → ℕ → Bool
is_reader_told s reader = is_reader_behind s reader || (get_or s.asks reader false || is_reader_silent s reader)

-- the next tick's HEARTBEAT is for some reader: one has not acknowledged all changes, asks for one, or is silent
abbrev pub is_told : WriterState → Bool
is_told s = is_behind s || is_asked s

-- how many HEARTBEAT counts were due so far
abbrev pub counts_due : WriterState → ℕ
counts_due s = length (counts_of s.written)

-- a tick of its peer: what happened besides
abbrev pub ticked : WriterState → ℕ → WriterState
ticked s now = entering s (Ticked now (is_told s))

-- the HEARTBEAT that this tick asks for: none where it would be for nobody, or the counts 1 to 2^31 - 1 are used up
abbrev pub heartbeat_due : WriterState → ℕ → Option HeartbeatDue
heartbeat_due s now =
    if is_told s && nat_lt (counts_due (ticked s now)) (2 ^ 31)
    then Some (record { first = first_kept (history_of s); last = last_of s; count = pos (counts_due (ticked s now)) })
    else None
