-- The listeners of a core: before anything happened they are those that it was given, and no event sets another one.
use Rattle.std.proofs.Common.{◌≡◌, ℕ, zero, suc, Bool, List, [], ◌∷◌, get_or, map, length, false, ◌==◌, ◌-◌, refl, sym, ap, ◌∙◌, subst, arith}
use Rattle.std.specs.Prelude.{Option, Some, None, if◌then◌else◌}
use Rattle.std.specs.List.{FoldsTo}
use Rattle.dds_base.specs.declared.config.Config.{Config}
use Rattle.dds_base.specs.declared.entity.Entity.TheVariants as entity
use Rattle.dds_base.specs.declared.key.Key.{Key}
use Rattle.dds_base.specs.Number.{at_number}
use Rattle.dds_notices.specs.declared.mask.StatusMask.{StatusMask}
use Rattle.dds_notices.specs.declared.notice.Notice.{Notice}
use Rattle.dds_notices.specs.Listeners.{ByEntity, Place, Places, Slot, Slotted, StandsAt, StandsFor as SlotsStandFor, shown}
use Rattle.dds_machine.specs.Watching.{Tests}
use Rattle.dds_protocol.specs.declared.event.Event.{Event}
use Rattle.dds_protocol.specs.declared.event.Output.{Output}
use Rattle.dds_protocol.specs.Noticing.{peer_at_end}
use Rattle.dds_protocol.specs.Peer.{Peer}
use Rattle.dds_protocol.specs.Roster.{Roster}
use Rattle.dds_protocol.proofs.FiltersKept.{keeps_listeners}
use Rattle.dds_core.specs.Listening.{CoreKept, StandsFor, Steps}
use Rattle.dds_core.specs.Ruling.{IsSound}
use Rattle.dds_trace.specs.History.{IsHistoryOf, emptied, emptied_place}
use Rattle.dds_trace.proofs.Adding.{first_of_all}
use Rattle.dds_trace.proofs.Places.{end_places}
use Rattle.dds_shared.specs.Seeds.{listener_in, listeners_in, slot_shown, slots_shown}

-- ---- lists

cons_same : {X : Type 0} (x y : X) (xs ys : List X) → x ≡ y → xs ≡ ys → x ∷ xs ≡ y ∷ ys
cons_same {X} x y xs ys e f = ap (λ (z : X). z ∷ xs) e ∙ ap (λ (zs : List X). y ∷ zs) f

-- lists of equal length with equal elements are equal
same_row : {X : Type 0} (xs ys : List (Option X)) → length xs ≡ length ys
    → ((n : ℕ) → get_or xs n None ≡ get_or ys n None) → xs ≡ ys
same_row [] [] same each = refl
same_row [] (y ∷ ys) same each = absurd (omega (arith, same))
same_row (x ∷ xs) [] same each = absurd (omega (arith, same))
same_row (x ∷ xs) (y ∷ ys) same each =
    cons_same x y xs ys (each 0) (same_row xs ys (omega (arith, same)) (λ n. each (suc n)))

mapped_at : {X Y : Type 0} (f : Option X → Option Y) → f None ≡ None → (xs : List (Option X)) (n : ℕ)
    → get_or (map f xs) n None ≡ f (get_or xs n None)
mapped_at f none [] n = sym none
mapped_at f none (x ∷ xs) zero = refl
mapped_at f none (x ∷ xs) (suc n) = mapped_at f none xs n

mapped_length : {X Y : Type 0} (f : X → Y) (xs : List X) → length (map f xs) ≡ length xs
mapped_length f [] = refl
mapped_length f (x ∷ xs) = ap suc (mapped_length f xs)

at_next : {X : Type 0} (xs : List (Option X)) (n : ℕ) → at_number xs (suc n) ≡ get_or xs n None
at_next xs n =
    let positive : (suc n == 0) ≡ false = grind (arith) in
    let before : suc n - 1 ≡ n = omega arith in
    ap (λ (b : Bool). if b then None else get_or xs (suc n - 1) None) positive ∙ ap (λ (k : ℕ). get_or xs k None) before

-- ---- one place

abbrev told_of : Option Place → List Notice
told_of None = []
told_of (Some place) = place.sent

abbrev places_shown : Places → ByEntity (StatusMask × ℕ)
places_shown places = record {
  participant = shown places.participant;
  writers = map shown places.writers;
  readers = map shown places.readers;
}

shown_emptied : (place : Option Place) → shown (emptied_place place) ≡ shown place
shown_emptied None = refl
shown_emptied (Some place) = refl

row_emptied : (places : List (Option Place)) → map shown (map emptied_place places) ≡ map shown places
row_emptied [] = refl
row_emptied (p ∷ ps) =
    cons_same (shown (emptied_place p)) (shown p) (map shown (map emptied_place ps)) (map shown ps) (shown_emptied p)
    (row_emptied ps)

by_entity : {X : Type 0} (a b : ByEntity X) → a.participant ≡ b.participant → a.writers ≡ b.writers
    → a.readers ≡ b.readers → a ≡ b
by_entity {X} a b p w r =
    λ i. let c : ByEntity X = record { participant = p i; writers = w i; readers = r i } in c

all_emptied : (places : Places) → places_shown (emptied places) ≡ places_shown places
all_emptied places =
    by_entity (places_shown (emptied places)) (places_shown places) (shown_emptied places.participant)
    (row_emptied places.writers) (row_emptied places.readers)

module _ {L : Type 0} (notices : L → List Notice) (capacity : L → ℕ) (becomes : L → Notice → L → Type 0) where
  -- ---- what was given

  -- the places of numbers, from 0
  next_at : (given : List (Option L)) (slots : List (Option (Slot L))) (places : List (Option Place)) (n : ℕ)
      → StandsAt notices capacity becomes (at_number given (suc n)) (at_number slots (suc n)) (at_number places (suc n))
      → StandsAt notices capacity becomes (get_or given n None) (get_or slots n None) (get_or places n None)
  next_at given slots places n stands =
      subst (λ (g : Option L). StandsAt notices capacity becomes g (get_or slots n None) (get_or places n None))
      (at_next given n)
      (subst (λ (s : Option (Slot L)). StandsAt notices capacity becomes (at_number given (suc n)) s (get_or places n None))
      (at_next slots n)
      (subst (λ (p : Option Place).
      StandsAt notices capacity becomes (at_number given (suc n)) (at_number slots (suc n)) p) (at_next places n) stands))

  given_at : (given : Option L) (slot : Option (Slot L)) (place : Option Place)
      → StandsAt notices capacity becomes given slot place → emptied_place place ≡ place → given ≡ listener_in slot
  given_at None None None stands empty = refl
  given_at (Some given) (Some slot) (Some place) stands empty =
      let none : place.sent ≡ [] = sym (ap told_of empty) in
      ap (λ (l : L). Some l) (subst (λ (sent : List Notice). FoldsTo becomes given sent slot.listener) none stands.1.told)
  given_at None None (Some place) stands empty = absurd stands
  given_at None (Some slot) None stands empty = absurd stands
  given_at None (Some slot) (Some place) stands empty = absurd stands
  given_at (Some given) None None stands empty = absurd stands
  given_at (Some given) None (Some place) stands empty = absurd stands
  given_at (Some given) (Some slot) None stands empty = absurd stands

  row_given : (given : List (Option L)) (slots : List (Option (Slot L))) (places : List (Option Place))
      → length given ≡ length slots
      → ((n : ℕ) → StandsAt notices capacity becomes (get_or given n None) (get_or slots n None) (get_or places n None))
      → map emptied_place places ≡ places → given ≡ map listener_in slots
  row_given given slots places same stands empty =
      same_row given (map listener_in slots) (same ∙ sym (mapped_length listener_in slots)) (λ n.
      given_at (get_or given n None) (get_or slots n None) (get_or places n None) (stands n)
      (sym (mapped_at emptied_place refl places n) ∙ ap (λ (ps : List (Option Place)). get_or ps n None) empty)
      ∙ sym (mapped_at listener_in refl slots n))

  all_given : (given : ByEntity L) (kept : Slotted L) (places : Places)
      → SlotsStandFor notices capacity becomes given kept places → emptied places ≡ places → given ≡ listeners_in kept
  all_given given kept places stands empty =
      by_entity given (listeners_in kept)
      (given_at given.participant kept.participant places.participant (stands.each entity.Participant)
      (ap (λ (p : Places). p.participant) empty))
      (row_given given.writers kept.writers places.writers stands.given_writers
      (λ n. next_at given.writers kept.writers places.writers n (stands.each (entity.Writer (suc n)))) (ap (λ (p : Places). p.writers) empty))
      (row_given given.readers kept.readers places.readers stands.given_readers
      (λ n. next_at given.readers kept.readers places.readers n (stands.each (entity.Reader (suc n)))) (ap (λ (p : Places). p.readers) empty))

  -- ---- what stays

  shown_at : (given : Option L) (slot : Option (Slot L)) (place : Option Place)
      → StandsAt notices capacity becomes given slot place → slot_shown capacity slot ≡ shown place
  shown_at None None None stands = refl
  shown_at (Some given) (Some slot) (Some place) stands =
      ap (λ (m : StatusMask). Some (m, capacity slot.listener)) stands.0
      ∙ ap (λ (n : ℕ). Some (place.mask, n)) stands.1.room
  shown_at None None (Some place) stands = absurd stands
  shown_at None (Some slot) None stands = absurd stands
  shown_at None (Some slot) (Some place) stands = absurd stands
  shown_at (Some given) None None stands = absurd stands
  shown_at (Some given) None (Some place) stands = absurd stands
  shown_at (Some given) (Some slot) None stands = absurd stands

  row_shown : (given : List (Option L)) (slots : List (Option (Slot L))) (places : List (Option Place))
      → length places ≡ length slots
      → ((n : ℕ) → StandsAt notices capacity becomes (get_or given n None) (get_or slots n None) (get_or places n None))
      → map (slot_shown capacity) slots ≡ map shown places
  row_shown given slots places same stands =
      same_row (map (slot_shown capacity) slots) (map shown places)
      (mapped_length (slot_shown capacity) slots ∙ sym same ∙ sym (mapped_length shown places)) (λ n.
      mapped_at (slot_shown capacity) refl slots n
      ∙ shown_at (get_or given n None) (get_or slots n None) (get_or places n None) (stands n)
      ∙ sym (mapped_at shown refl places n))

  all_shown : (given : ByEntity L) (kept : Slotted L) (places : Places)
      → SlotsStandFor notices capacity becomes given kept places → slots_shown capacity kept ≡ places_shown places
  all_shown given kept places stands =
      by_entity (slots_shown capacity kept) (places_shown places)
      (shown_at given.participant kept.participant places.participant (stands.each entity.Participant))
      (row_shown given.writers kept.writers places.writers stands.writers (λ n. next_at given.writers kept.writers places.writers n (stands.each (entity.Writer (suc n)))))
      (row_shown given.readers kept.readers places.readers stands.readers (λ n. next_at given.readers kept.readers places.readers n (stands.each (entity.Reader (suc n)))))

module _ {F L : Type 0} (notices : L → List Notice) (capacity : L → ℕ) (becomes : L → Notice → L → Type 0)
    (given : ByEntity L) (roster : Roster) where
  -- an event leaves at each entity the statuses that its listener is told of, and its room
  pub keeps_slots : (tests : Tests) (peer : Peer) (old new : CoreKept F L) (event : Event) (o : Output)
      → StandsFor notices capacity becomes given old roster peer → IsSound roster peer
      → Steps notices capacity becomes tests old event o new
      → slots_shown capacity new.listeners ≡ slots_shown capacity old.listeners
  keeps_slots tests peer old new event o stands sound steps =
      let m = steps.meets given roster peer stands sound in
      let before : Peer = m.alike in
      let r = steps.step given m.roster before m.stands m.sound m.has in
      let stepped : Peer = r.0 in
      let after : Peer = peer_at_end before stepped in
      let same : emptied after.part.dds.listeners ≡ emptied before.part.dds.listeners =
      end_places before.part stepped.part
      ∙ ap (λ (p : Places). emptied p) (keeps_listeners m.roster tests before event o stepped r.1) in
      all_shown notices capacity becomes given new.listeners after.part.dds.listeners r.3.listeners
      ∙ sym (all_emptied after.part.dds.listeners)
      ∙ ap (λ (p : Places). places_shown p) same
      ∙ all_emptied before.part.dds.listeners
      ∙ sym (all_shown notices capacity becomes given old.listeners before.part.dds.listeners m.stands.listeners)

module _ {F L : Type 0} (meaning : F → Key → List ℕ → Bool) (notices : L → List Notice) (capacity : L → ℕ)
    (becomes : L → Notice → L → Type 0) (given : ByEntity L) (config : Config) (number : ℕ) where
  -- a history without entries is one with the listeners that are set
  pub is_given : (core : CoreKept F L)
      → IsHistoryOf meaning notices capacity becomes given config number [] core
      → IsHistoryOf meaning notices capacity becomes (listeners_in core.listeners) config number [] core
  is_given core h =
      let own = h.in_rosters config (first_of_all config) h.good tt in
      let empty : emptied own.peer.part.dds.listeners ≡ own.peer.part.dds.listeners =
      ap (λ (p : Peer). p.part.dds.listeners) own.history in
      subst (λ (g : ByEntity L). IsHistoryOf meaning notices capacity becomes g config number [] core)
      (all_given notices capacity becomes given core.listeners own.peer.part.dds.listeners own.stands.listeners empty) h
