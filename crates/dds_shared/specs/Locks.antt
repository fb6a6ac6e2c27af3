-- What lies under the lock of a shared peer.
--
-- Inner functions alone cite this: nothing here has to be believed.
use Rattle.std.specs.Prelude.{◌≡◌, ◌↔◌, ℕ, Bool, ◌+◌, ◌≤◌, ◌<◌, List, [], ◌∷◌, ◌++◌, length, sum_by, IsTrue}
use Rattle.dds_base.specs.declared.code.Code.TheVariants.{Memory}
use Rattle.dds_base.specs.declared.config.Config.{Config}
use Rattle.dds_base.specs.declared.key.Key.{Key}
use Rattle.dds_conditions.specs.Filtered.{tests_of}
use Rattle.dds_machine.specs.declared.reply.Reply.{Reply}
use Rattle.dds_machine.specs.declared.reply.Reply.TheVariants.{Done, Refused, Waiting}
use Rattle.dds_notices.specs.declared.notice.Notice.{Notice}
use Rattle.dds_notices.specs.Listeners.{Slotted}
use Rattle.dds_protocol.specs.declared.event.Event.{Event}
use Rattle.dds_protocol.specs.declared.event.Output.{Output}
use Rattle.dds_core.specs.Listening.{CoreKept, Steps}
use Rattle.dds_trace.specs.declared.trace.Entry.{Entry}
use Rattle.dds_trace.specs.History.{IsHistoryOf, entry_of}
use Rattle.dds_trace.specs.Uses.{in_use_of}
use Rattle.dds_shared.specs.Passes.{Carried, Lists}
use Rattle.dds_shared.specs.declared.said.Said.{Said}
use Rattle.dds_shared.specs.Seeds.{listeners_in, slots_shown}

-- a locked peer: its core, its entries, and how many passes can still be made
pub record Kept (F L : Type 0) : Type 0 where
  pub core : CoreKept F L
  pub entries : List Entry
  pub left : ℕ

-- What was done is a history of the core beside it. The core has the filters that it was shared with, and at each entity
-- the listener's statuses and room. What is stored has room for the end of each wait, and the word can count these. The
-- rest of the ledger, and the seats that nobody has, are of those passes that can still be made.
pub record IsKept {F L : Type 0} (meaning : F → Key → List ℕ → Bool) (notices : L → List Notice) (capacity : L → ℕ)
    (becomes : L → Notice → L → Type 0) (filters : List F) (slots : Slotted L) (config : Config) (number : ℕ)
    (core : CoreKept F L) (log : List Entry) (spare parts amount left next : ℕ) : Type 0 where
  pub history : IsHistoryOf meaning notices capacity becomes (listeners_in slots) config number log core
  pub same_filters : core.filtered.filters ≡ filters
  pub same_slots : slots_shown capacity core.listeners ≡ slots_shown capacity slots
  pub room : in_use_of core ≤ spare
  pub countable : in_use_of core + length log ≤ 18446744073709551615
  pub rest : parts ≡ left
  pub nothing : amount ≡ 0
  pub few : left ≤ 4294967295
  pub seats : next + left ≡ 4294967296

-- one event: a step of the core, entered at the end of the trace and of the pass's list, at a place that the pass had
-- not seen before
pub record Adds {F L : Type 0} (meaning : F → Key → List ℕ → Bool) (notices : L → List Notice) (capacity : L → ℕ)
    (becomes : L → Notice → L → Type 0) (old new : Kept F L) (was after : Carried) (event : Event) (o : Output)
    : Type 0 where
  pub step : Steps notices capacity becomes (tests_of meaning old.core.filtered.filters) old.core event o new.core
  pub kept : new ≡ record old { core = new.core; entries = old.entries ++ entry_of was.seat event o ∷ [] }
  pub list : Lists was after event o
  pub above : was.front < length new.entries
  pub seen : after.front ≡ length new.entries

-- all passes are here
abbrev pub HasAll : {F L : Type 0} → Kept F L → List Carried → Type 0
HasAll kept ps = sum_by (λ (p : Carried). p.parts) ps + kept.left ≡ 4294967295

-- what a reply says to one who waits
abbrev pub Says : Reply → Said → Type 0
Says reply said =
    (IsTrue said.done ↔ (reply ≡ Done)) × (IsTrue said.waiting ↔ (reply ≡ Waiting))
    × (IsTrue said.memory ↔ (reply ≡ Refused Memory))

-- one event was done with this output, of which the caller has this, and it says this to one who waits
abbrev pub Did : {F L A : Type 0} → (F → Key → List ℕ → Bool) → (L → List Notice) → (L → ℕ) → (L → Notice → L → Type 0)
    → (A → Output → Type 0) → Kept F L → Kept F L → Carried → Carried → Event → A → Output → Said → Type 0
Did meaning notices capacity becomes answers old new was after event answer o said =
    Adds meaning notices capacity becomes old new was after event o × answers answer o × Says o.reply said
