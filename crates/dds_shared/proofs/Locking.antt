-- What lies under the lock stays as it has to be, as events are done.
use Rattle.std.proofs.Common.{◌≡◌, ℕ, ◌+◌, ◌≤◌, Bool, List, [], ◌∷◌, ◌++◌, length, sym, ap, ◌∙◌, subst, arith, length-append, drop}
use Rattle.std.proofs.Math.Seq.{drop-append_seam}
use Rattle.dds_base.specs.declared.config.Config.{Config}
use Rattle.dds_base.specs.declared.key.Key.{Key}
use Rattle.dds_conditions.specs.Filtered.{tests_of}
use Rattle.dds_notices.specs.declared.notice.Notice.{Notice}
use Rattle.dds_notices.specs.Listeners.{Slotted}
use Rattle.dds_protocol.specs.declared.event.Event.{Event}
use Rattle.dds_protocol.specs.declared.event.Output.{Output}
use Rattle.dds_core.specs.Listening.{CoreKept, Steps}
use Rattle.dds_trace.specs.declared.trace.Entry.{Entry}
use Rattle.dds_trace.specs.History.{IsHistoryOf, entry_of}
use Rattle.dds_trace.specs.Uses.{in_use_of}
use Rattle.dds_trace.proofs.Adding.{extends}
use Rattle.dds_shared.specs.Locks.{IsKept}
use Rattle.dds_shared.specs.Seeds.{listeners_in}
use Rattle.dds_shared.proofs.Given.{keeps_slots}

-- lists that are equal, and begin with as many elements, end alike
pub same_end : (xs ys first rest : List Entry) → xs ++ ys ≡ first ++ rest → length xs ≡ length first → ys ≡ rest
same_end xs ys first rest same long =
    sym (drop-append_seam xs ys) ∙ ap (λ (es : List Entry). drop (length xs) es) same
    ∙ ap (λ (n : ℕ). drop n (first ++ rest)) long ∙ drop-append_seam first rest

module _ {F L : Type 0} (meaning : F → Key → List ℕ → Bool) (notices : L → List Notice) (capacity : L → ℕ)
    (becomes : L → Notice → L → Type 0) (filters : List F) (slots : Slotted L) (config : Config) (number : ℕ) where
  -- one event more, where there is room for the ends of all waits afterwards
  pub goes_on : (old new : CoreKept F L) (log after : List Entry) (room more parts amount left next later seat : ℕ)
      (event : Event) (o : Output) → IsKept meaning notices capacity becomes filters slots config number old log room parts amount left next
      → Steps notices capacity becomes (tests_of meaning old.filtered.filters) old event o new
      → after ≡ log ++ entry_of seat event o ∷ [] → in_use_of new ≤ more
      → in_use_of new + length log + 1 ≤ 18446744073709551615 → later ≡ next
      → IsKept meaning notices capacity becomes filters slots config number new after more parts amount left later
  goes_on old new log after room more parts amount left next later seat event o kept step is enough countable same =
      let given = listeners_in slots in
      let tests = tests_of meaning old.filtered.filters in
      let peer = kept.history.peer in
      let entry = entry_of seat event o in
      let P : List Entry → Type 0 = λ es. IsHistoryOf meaning notices capacity becomes given config number es new in
      record {
        history = subst P (sym is)
            (extends meaning notices capacity becomes given config number log old new seat event o kept.history step);
        same_filters = step.filters ∙ kept.same_filters;
        same_slots = keeps_slots notices capacity becomes given kept.history.roster tests peer old new event o kept.history.stands
            kept.history.sound step ∙ kept.same_slots;
        room = enough;
        countable = omega (
          arith,
          countable,
          ap (λ (es : List Entry). length es) is,
          length-append log (entry ∷ []),
        );
        rest = kept.rest;
        nothing = kept.nothing;
        few = kept.few;
        seats = omega (arith, same, kept.seats);
      }

  -- nothing happens, and room for the ends of all waits is made anew
  pub stays : (core : CoreKept F L) (log after : List Entry) (room more parts amount left next later : ℕ)
      → IsKept meaning notices capacity becomes filters slots config number core log room parts amount left next
      → after ≡ log → later ≡ next → in_use_of core ≤ more
      → IsKept meaning notices capacity becomes filters slots config number core after more parts amount left later
  stays core log after room more parts amount left next later kept is same enough =
      let P : List Entry → Type 0 =
      λ es. IsHistoryOf meaning notices capacity becomes (listeners_in slots) config number es core in
      record {
        history = subst P (sym is) kept.history;
        same_filters = kept.same_filters;
        same_slots = kept.same_slots;
        room = enough;
        countable = omega (arith, kept.countable, ap (λ (es : List Entry). length es) is);
        rest = kept.rest;
        nothing = kept.nothing;
        few = kept.few;
        seats = omega (arith, same, kept.seats);
      }
