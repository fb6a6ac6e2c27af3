-- What stands at an entity once another one was put somewhere.
use Rattle.std.proofs.Common.{◌≡◌, ◌≢◌, ℕ, zero, suc, ◌+◌, ◌-◌, ◌<◌, ◌≤◌, ⊎_elim, Bool, true, false, is_some, List, [], ◌∷◌, ◌++◌, take, slice_get, Option, Some, None, refl, ap, sym, ◌∙◌, set, drop, length, subst, if◌then◌else◌, arith, length-set}
use Rattle.std.specs.List.{FoldsTo}
use Rattle.std.proofs.lemmas.Grind.{common_steps}
use Rattle.std.proofs.lemmas.Option.{same_Some}
use Rattle.std.proofs.lemmas.List.{take_all}
use Rattle.std.proofs.lemmas.List.{drop-append-le, drop-drop, get_or-set_same, get_or-set_other, length-append, length-drop, set-get_or}
use Rattle.std.proofs.lemmas.Bool.Decides.{eqb_tells}
use Rattle.dds_base.specs.declared.entity.Entity.{Entity}
use Rattle.dds_base.specs.declared.entity.Entity.TheVariants.{Participant, Writer, Reader}
use Rattle.dds_notices.specs.declared.mask.StatusMask.{StatusMask}
use Rattle.dds_notices.specs.declared.notice.Notice.{Notice}
use Rattle.dds_notices.specs.declared.notice.Status.{Status}
use Rattle.dds_notices.specs.Notices.{keep_last, told}
use Rattle.dds_notices.specs.Slotted.{listener_of}
use Rattle.dds_base.specs.Number.{at_number, is_number}
use Rattle.dds_base.specs.EachEntity.{EachEntity}
use Rattle.dds_notices.specs.Listeners.{ByEntity, has_entity, with_entity, HandedBack, Place, Places, Sets, Slot, Slotted, StandsAt, StandsFor, after_notice, at_entity, is_empty, is_fresh, listener_place, slot_of, taker_of, takes, with_notice}

-- ---- by number

in_range : (n count : ℕ) → is_number n count ≡ true → (1 ≤ n) × (n ≤ count)
in_range n count h = grind (arith, common_steps)

set_same : {X : Type 0} (xs : List (Option X)) (n : ℕ) (x : Option X) → is_number n (length xs) ≡ true
    → at_number (set xs (n - 1) x) n ≡ x
set_same xs n x h = grind (arith, common_steps, in_range n (length xs) h, get_or-set_same)

set_other : {X : Type 0} (xs : List (Option X)) (n k : ℕ) (x : Option X) → is_number n (length xs) ≡ true → k ≢ n
    → at_number (set xs (n - 1) x) k ≡ at_number xs k
set_other xs n k x h d = grind (arith, common_steps, in_range n (length xs) h, get_or-set_other)

itself : {X : Type 0} (xs : List (Option X)) (n : ℕ) → is_number n (length xs) ≡ true
    → set xs (n - 1) (at_number xs n) ≡ xs
itself xs n h = grind (arith, common_steps, in_range n (length xs) h, set-get_or)

-- what stands at an entity is put there again
with_itself : {X : Type 0} (all : ByEntity X) (entity : Entity) → has_entity all entity ≡ true
    → with_entity all entity (at_entity all entity) ≡ all
with_itself all Participant h = refl
with_itself all (Writer n) h = ap (λ ws. record all { writers = ws }) (itself all.writers n h)
with_itself all (Reader n) h = ap (λ rs. record all { readers = rs }) (itself all.readers n h)

-- another one is put where one was put before
set_again : {X : Type 0} (xs : List X) (i : ℕ) (x y : X) → set (set xs i x) i y ≡ set xs i y
set_again [] i x y = refl
set_again (z ∷ zs) zero x y = refl
set_again (z ∷ zs) (suc i) x y = ap (λ (ys : List _). z ∷ ys) (set_again zs i x y)

with_again : {X : Type 0} (all : EachEntity X) (entity : Entity) (x y : X)
    → with_entity (with_entity all entity x) entity y ≡ with_entity all entity y
with_again all Participant x y = refl
with_again all (Writer n) x y = ap (λ ws. record all { writers = ws }) (set_again all.writers (n - 1) x y)
with_again all (Reader n) x y = ap (λ rs. record all { readers = rs }) (set_again all.readers (n - 1) x y)

-- ---- who takes a status

if_taken : (x : Entity) (b : Bool) → is_some (if b then Some x else None) ≡ b
if_taken x true = refl
if_taken x false = refl

pub taker-else : (places : Places) (entity : Entity) (status : Status) → takes (at_entity places entity) status ≡ false
    → takes places.participant status ≡ is_some (taker_of places entity status)
taker-else places entity status own = simp own (sym (if_taken Participant (takes places.participant status)))

-- ---- listeners that are told, and set

drop_none : (n : ℕ) → drop {A = Notice} n [] ≡ []
drop_none zero = refl
drop_none (suc n) = refl

keep_none : (room : ℕ) → [] ≡ keep_last {X = Notice} room []
keep_none room = sym (drop_none (0 - room))

-- the last ones of the last ones, and of one more, are the last ones of all
told_again : (room : ℕ) (all : List Notice) (notice : Notice)
    → told room (keep_last room all) notice ≡ keep_last room (all ++ notice ∷ [])
told_again room all notice =
    let k = length all - room in
    let kept = drop k all in
    let few : k ≤ length all = omega arith in
    let all_of = length-drop k all in
    let one = length-append kept (notice ∷ []) in
    let more = length-append all (notice ∷ []) in
    ap (λ (ns : List Notice). drop (length (kept ++ notice ∷ []) - room) ns) (sym (drop-append-le k all (notice ∷ []) few))
    ∙ drop-drop (length (kept ++ notice ∷ []) - room) k (all ++ notice ∷ [])
    ∙ ap (λ (n : ℕ). drop n (all ++ notice ∷ [])) (omega (arith, all_of, one, more))

-- one more is told, after all of these
told_last : {P A : Type 0} (R : P → A → P → Type 0) (p : P) (xs : List A) (x : A) (q r : P) → FoldsTo R p xs q → R q x r
    → FoldsTo R p (xs ++ x ∷ []) r
told_last R p [] x q r at last = (r, subst (λ z. R z x r) (sym at) last, refl)
told_last R p (y ∷ ys) x q r all last = (all.0, all.1, told_last R all.0 ys x q r all.2 last)

-- one element more of a list, where there is one more
pub taken_more : {X : Type 0} (xs : List X) (i n : ℕ) (x : X) → n ≡ i + 1 → slice_get xs i ≡ Some x
    → take n xs ≡ take i xs ++ x ∷ []
taken_more {X} xs i n x is at = let next : n ≡ suc i = omega (arith, is) in rw next (more xs i at)
  where
    more : (ys : List X) (j : ℕ) → slice_get ys j ≡ Some x → take (suc j) ys ≡ take j ys ++ x ∷ []
    more [] j h = absurd cc
    more (y ∷ ys) zero h = ap (λ z. z ∷ []) (same_Some y x h)
    more (y ∷ ys) (suc j) h = ap (λ zs. y ∷ zs) (more ys j h)

-- and where there is none
pub taken_all : {X : Type 0} (xs : List X) (i n : ℕ) → n ≡ i + 1 → slice_get xs i ≡ None → take n xs ≡ take i xs
taken_all {X} xs i n is at = let next : n ≡ suc i = omega (arith, is) in rw next (all xs i at)
  where
    all : (ys : List X) (j : ℕ) → slice_get ys j ≡ None → take (suc j) ys ≡ take j ys
    all [] zero h = refl
    all [] (suc j) h = refl
    all (y ∷ ys) zero h = absurd cc
    all (y ∷ ys) (suc j) h = ap (λ zs. y ∷ zs) (all ys j h)

-- where an element stands, some are taken
pub some_taken : {X : Type 0} (xs : List X) (n at : ℕ) (x : X) → slice_get xs at ≡ Some x → at < n → take n xs ≢ []
some_taken [] n at x there within none = absurd cc
some_taken (y ∷ ys) zero at x there within none = absurd (omega (arith, within))
some_taken (y ∷ ys) (suc n) at x there within none = absurd cc

-- the last ones fit
all_fit : {X : Type 0} (room : ℕ) (xs : List X) → take room (keep_last room xs) ≡ keep_last room xs
all_fit room xs =
    let few = length-drop (length xs - room) xs in
    take_all room (keep_last room xs) (omega (arith, few))

module _ {L : Type 0} (notices : L → List Notice) (capacity : L → ℕ) (becomes : L → Notice → L → Type 0) where
  number_stands : (zs : List (Option L)) (xs : List (Option (Slot L))) (ys : List (Option Place)) (n : ℕ)
      (given : Option L) (slot : Option (Slot L)) (place : Option Place)
      → length zs ≡ length xs → length ys ≡ length xs → is_number n (length xs) ≡ true
      → StandsAt notices capacity becomes given slot place
      → ((k : ℕ) → StandsAt notices capacity becomes (at_number zs k) (at_number xs k) (at_number ys k))
      → (k : ℕ) → StandsAt notices capacity becomes (at_number (set zs (n - 1) given) k)
      (at_number (set xs (n - 1) slot) k) (at_number (set ys (n - 1) place) k)
  number_stands zs xs ys n given slot place d e h stands each k =
      let here = subst (λ (count : ℕ). is_number n count ≡ true) (sym d) h in
      let there = subst (λ (count : ℕ). is_number n count ≡ true) (sym e) h in
      ⊎_elim
      (λ same. rw (same.1, set_same zs n given here, set_same xs n slot h, set_same ys n place there) stands)
      (λ other. rw (
        set_other zs n k given here other.1,
        set_other xs n k slot h other.1,
        set_other ys n k place there other.1,
      ) (each k))
      (eqb_tells k n)

  -- another listener stands, for a place of its own
  pub entity_stands : (given : ByEntity L) (kept : Slotted L) (places : Places) (entity : Entity)
      (own : Option L) (slot : Option (Slot L)) (place : Option Place)
      → StandsFor notices capacity becomes given kept places → has_entity kept entity ≡ true
      → StandsAt notices capacity becomes own slot place
      → StandsFor notices capacity becomes (with_entity given entity own) (with_entity kept entity slot)
      (with_entity places entity place)
  entity_stands given kept places Participant own slot place all h stands = record {
    writers = all.writers;
    readers = all.readers;
    given_writers = all.given_writers;
    given_readers = all.given_readers;
    each = elim [ Participant ↦ stands | Writer k ↦ all.each (Writer k) | Reader k ↦ all.each (Reader k) ];
  }
  entity_stands given kept places (Writer n) own slot place all h stands = record {
    writers = length-set places.writers (n - 1) place ∙ all.writers ∙ sym (length-set kept.writers (n - 1) slot);
    readers = all.readers;
    given_writers =
        length-set given.writers (n - 1) own ∙ all.given_writers ∙ sym (length-set kept.writers (n - 1) slot);
    given_readers = all.given_readers;
    each = elim [
      | Participant ↦ all.each Participant
      | Writer k ↦
          number_stands given.writers kept.writers places.writers n own slot place all.given_writers all.writers h
          stands (λ j. all.each (Writer j)) k
      | Reader k ↦ all.each (Reader k)
    ];
  }
  entity_stands given kept places (Reader n) own slot place all h stands = record {
    writers = all.writers;
    readers = length-set places.readers (n - 1) place ∙ all.readers ∙ sym (length-set kept.readers (n - 1) slot);
    given_writers = all.given_writers;
    given_readers =
        length-set given.readers (n - 1) own ∙ all.given_readers ∙ sym (length-set kept.readers (n - 1) slot);
    each = elim [
      | Participant ↦ all.each Participant
      | Writer k ↦ all.each (Writer k)
      | Reader k ↦
          number_stands given.readers kept.readers places.readers n own slot place all.given_readers all.readers h
          stands (λ j. all.each (Reader j)) k
    ];
  }

  is_given : (given : ByEntity L) (kept : Slotted L) (entity : Entity)
      → length given.writers ≡ length kept.writers → length given.readers ≡ length kept.readers
      → has_entity kept entity ≡ true → has_entity given entity ≡ true
  is_given given kept Participant ws rs h = refl
  is_given given kept (Writer n) ws rs h = subst (λ (count : ℕ). is_number n count ≡ true) (sym ws) h
  is_given given kept (Reader n) ws rs h = subst (λ (count : ℕ). is_number n count ≡ true) (sym rs) h

  -- what was given stays where a listener is told
  given_stays : (given : ByEntity L) (kept : Slotted L) (places : Places) (entity : Entity)
      (slot : Option (Slot L)) (place : Option Place)
      → StandsFor notices capacity becomes given kept places → has_entity kept entity ≡ true
      → StandsAt notices capacity becomes (at_entity given entity) slot place
      → StandsFor notices capacity becomes given (with_entity kept entity slot) (with_entity places entity place)
  given_stays given kept places entity slot place all h stands =
      let there = is_given given kept entity all.given_writers all.given_readers h in
      subst (λ (g : ByEntity L). StandsFor notices capacity becomes g (with_entity kept entity slot)
      (with_entity places entity place)) (with_itself given entity there)
      (entity_stands given kept places entity (at_entity given entity) slot place all h stands)

  -- the listener that stands at an entity is told, and another slot stands there for the place that keeps the notice
  pub entity_tells : (old between new : Slotted L) (entity : Entity) (none slot slot' : Option (Slot L))
      (notice : Notice)
      → has_entity old entity ≡ true → slot ≡ at_entity old entity → between ≡ with_entity old entity none
      → ((given : Option L) (place : Option Place) → StandsAt notices capacity becomes given slot place
      → StandsAt notices capacity becomes given slot' (with_notice place notice))
      → new ≡ with_entity between entity slot'
      → (given : ByEntity L) (places : Places) → StandsFor notices capacity becomes given old places
      → StandsFor notices capacity becomes given new
      (with_entity places entity (with_notice (at_entity places entity) notice))
  entity_tells old between new entity none slot slot' notice there at taken told put given places all =
      let stands : StandsAt notices capacity becomes (at_entity given entity) slot (at_entity places entity) =
      subst (λ (o : Option (Slot L)). StandsAt notices capacity becomes (at_entity given entity) o
      (at_entity places entity)) (sym at) (all.each entity) in
      let again : with_entity old entity slot' ≡ new =
      sym (put ∙ ap (λ (k : Slotted L). with_entity k entity slot') taken ∙ with_again old entity none slot') in
      subst (λ (k : Slotted L). StandsFor notices capacity becomes given k
      (with_entity places entity (with_notice (at_entity places entity) notice))) again
      (given_stays given old places entity slot' (with_notice (at_entity places entity) notice) all there
      (told (at_entity given entity) (at_entity places entity) stands))

  -- the listener of a slot is told of one more
  pub slot_tells : (given : Option L) (old new : Slot L) (place : Option Place) (notice : Notice) → new.mask ≡ old.mask
      → notices new.listener ≡ told (capacity old.listener) (notices old.listener) notice
      → capacity new.listener ≡ capacity old.listener → becomes old.listener notice new.listener
      → StandsAt notices capacity becomes given (Some old) place
      → StandsAt notices capacity becomes given (Some new) (with_notice place notice)
  slot_tells None old new place notice mask kept room to h = absurd h
  slot_tells (Some given) old new None notice mask kept room to h = absurd h
  slot_tells (Some given) old new (Some place) notice mask kept room to h = (
    mask ∙ h.0,
    record {
      room = room ∙ h.1.room;
      kept = kept ∙ ap (λ (r : ℕ). told r (notices old.listener) notice) h.1.room
          ∙ ap (λ (ns : List Notice). told place.room ns notice) h.1.kept ∙ told_again place.room place.sent notice;
      told = told_last becomes given place.sent notice old.listener new.listener h.1.told to;
    },
  )

  -- what a listener keeps, as far as it has room, is what its place says
  pub kept_stands : (given : L) (slot : Slot L) (place : Place) (items : List Notice)
      → items ≡ take (capacity slot.listener) (notices slot.listener)
      → StandsAt notices capacity becomes (Some given) (Some slot) (Some place) → items ≡ keep_last place.room place.sent
  kept_stands given slot place items is h =
      is ∙ ap (λ (n : ℕ). take n (notices slot.listener)) h.1.room
      ∙ ap (λ (ns : List Notice). take place.room ns) h.1.kept ∙ all_fit place.room place.sent

  -- where an entity's own listener takes the status, it is the one that is told
  pub tells_own : (given : ByEntity L) (new : Slotted L) (places : Places) (notice : Notice)
      → takes (at_entity places notice.entity) notice.status ≡ true
      → StandsFor notices capacity becomes given new
      (with_entity places notice.entity (with_notice (at_entity places notice.entity) notice))
      → StandsFor notices capacity becomes given new (after_notice places notice)
  tells_own given new places notice own h = rw own h

  handed_back : (given : Option L) (slot : Option (Slot L)) (place : Option Place)
      → StandsAt notices capacity becomes given slot place
      → HandedBack notices capacity becomes given (listener_of slot) place
  handed_back None None None h = h
  handed_back None None (Some place) h = h
  handed_back None (Some slot) place h = h
  handed_back (Some given) None place h = h
  handed_back (Some given) (Some slot) None h = h
  handed_back (Some given) (Some slot) (Some place) h = h.1

  nothing : (ns : List Notice) → is_empty ns ≡ true → ns ≡ []
  nothing [] h = refl
  nothing (n ∷ ns) h = cc

  fresh_stands : (mask : StatusMask) (listener : Option L) → is_fresh notices listener ≡ true
      → StandsAt notices capacity becomes listener (slot_of mask listener) (listener_place capacity mask listener)
  fresh_stands mask None h = tt
  fresh_stands mask (Some listener) h = (
    refl,
    record {
      room = refl;
      kept = nothing (notices listener) h ∙ keep_none (capacity listener);
      told = refl;
    },
  )

  -- what is set at an entity that there is
  pub sets : (old : Slotted L) (entity : Entity) (mask : StatusMask) (listener : Option L)
      → has_entity old entity ≡ true → is_fresh notices listener ≡ true
      → Sets notices capacity becomes old entity mask listener (listener_of (at_entity old entity))
      (with_entity old entity (slot_of mask listener))
  sets old entity mask listener there fresh = record {
    accepted = simp (there, fresh);
    set = refl;
    back = λ given places stands. (
      handed_back (at_entity given entity) (at_entity old entity) (at_entity places entity) (stands.each entity),
      entity_stands given old places entity listener (slot_of mask listener) (listener_place capacity mask listener) stands there
          (fresh_stands mask listener fresh),
    );
  }
