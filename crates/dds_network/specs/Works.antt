-- What is to be done at a network, and how far it has come (RTPS 2.5, 8.5.4: SEDP; 8.4.13: participant messages).
use Rattle.std.specs.Prelude.{ℕ, ◌+◌, ◌-◌, ◌*◌, ◌^◌, ◌||◌, Bool, true, false, not, nat_le, nat_lt, min, Option, Some, None, if◌then◌else◌}
use Rattle.dds_network.specs.declared.work.Task.{Task}
use Rattle.dds_network.specs.declared.work.Task.TheVariants.{Tick, Assert, Unregister, Write, Speak}
use Rattle.dds_network.specs.declared.work.Work.{Work}

-- A network that was just opened has all endpoints of ours to be written, and is not told of those that were taken out before.
abbrev pub new_work : ℕ → Work
new_work removed = record {
  is_awake = true;
  ticks = true;
  asserted = 0;
  removed = removed;
  written = 0;
  wrote = 0;
  speaks = false;
  waits = false;
}

-- What is done next: time goes on; each of the three builtin writers is asserted once; then, unless memory is waited for, who is no
-- more is unregistered, who is there is written, and a message of liveliness. Nothing is done while the participant sleeps.
abbrev pub task_of : ℕ → ℕ → Work → Option Task
task_of own removed w =
    if not w.is_awake then None
    else if w.ticks then Some Tick
    else if nat_lt w.asserted 3 then Some (Assert (w.asserted + 1))
    else if w.waits then None
    else if nat_lt w.removed removed then Some Unregister
    else if nat_lt w.written own then Some Write
    else if w.speaks then Some Speak
    else None

-- 60 seconds, in units of 2^-32 second
abbrev pub rewritten_after : ℕ
rewritten_after = 60 * 2 ^ 32

-- Time went on: what waited is tried again, what was written so long ago is written again, and where it is time for a message of
-- liveliness it is to be written.
abbrev pub gone_on : ℕ → Bool → Work → Work
gone_on time speaks w = record w {
  ticks = true;
  written = if nat_le rewritten_after (time - w.wrote) then 0 else w.written;
  speaks = speaks || w.speaks;
  waits = false;
}

-- Its participant sleeps, or is there again; then all endpoints of ours are written again.
abbrev pub turned_work : Bool → Work → Work
turned_work awake w = record w { is_awake = awake; written = 0 }

-- A task was done, unless it found no memory and waits.
abbrev pub after_task : ℕ → Bool → Task → Work → Work
after_task time waits Tick w = record w { ticks = false }
after_task time waits (Assert writer) w = record w { asserted = writer }
after_task time true task w = record w { waits = true }
after_task time false Unregister w = record w { removed = min (w.removed + 1) (2 ^ 64 - 1) }
after_task time false Write w = record w { written = min (w.written + 1) (2 ^ 64 - 1); wrote = time }
after_task time false Speak w = record w { speaks = false }
