-- What does nothing at a reader: a change that it had, or that lies outside its window, while it waits at its place.
use Rattle.std.proofs.Common.{◌≡◌, ℕ, Bool, true, false, ◌&&◌, not, List, [], refl, ap, sym, subst, ◌∙◌, arith}
use Rattle.std.specs.Prelude.{◌||◌, ◌==◌, nat_le, if◌then◌else◌, None}
use Rattle.std.proofs.lemmas.Bool.Decides.{nat_tests}
use Rattle.dds_base.specs.declared.change.Change.{Change}
use Rattle.dds_base.specs.declared.happening.Happening.{Happening}
use Rattle.dds_base.specs.Places.{Match, coming}
use Rattle.dds_base.specs.Presence.{has_room}
use Rattle.rtps_reader.specs.declared.step.Step.{Step}
use Rattle.rtps_reader.specs.Tracked.{Slot, Missing, Held, Irrelevant, Tracked, is_missing, is_open, is_passable_slot, is_waiting, may_take, with_data}
use Rattle.rtps_reader.specs.Jump.{JumpsIf, jumped_to}
use Rattle.rtps_reader.specs.Reader.{MovesOn, JumpsOn}
use Rattle.rtps_reader.proofs.MoveLaws.{same_is}

-- what is done where nothing is
abbrev pub idle_step : Tracked → Step
idle_step t = record { begun = None; to = t.place; passed = []; heard = false; acknack = None }

both_of : (a b : Bool) → (not a || b) ≡ false → (a ≡ true) × (b ≡ false)
both_of true false is = (refl, refl)
both_of true true is = absurd cc
both_of false b is = absurd cc

and_of : (a b : Bool) → (a && b) ≡ true → (a ≡ true) × (b ≡ true)
and_of true true is = (refl, refl)
and_of true false is = absurd cc
and_of false b is = absurd cc

-- of a number of which nothing is known, and which is not below the first one, the place stays
not_passed : (first n : ℕ) (slot : Slot) → is_missing slot ≡ true → nat_le first n ≡ true
    → is_passable_slot first n slot ≡ false
not_passed first n Missing missing low = grind (arith, nat_tests)
not_passed first n (Held change) missing low = absurd (let clash : false ≡ true = missing in cc)
not_passed first n Irrelevant missing low = absurd (let clash : false ≡ true = missing in cc)

not_held : (slot : Slot) (change : Change) → is_missing slot ≡ true → slot ≡ Held change → false ≡ true
not_held slot change missing is = ap (λ (x : Slot). is_missing x) (sym is) ∙ missing

slot_same : (same is_open : Bool) (slot : Slot) (change : Change) → (same ≡ true → is_open ≡ false)
    → slot ≡ (if same && is_open then Held change else slot)
slot_same false is_open slot change closed = refl
slot_same true true slot change closed = absurd (let clash : true ≡ false = closed refl in cc)
slot_same true false slot change closed = refl

-- a change of a number that is not open makes nothing known
nothing_known : (number : ℕ) (change : Change) (t : Tracked) → is_open t number ≡ false
    → with_data number change t ≡ t
nothing_known number change t closed =
    same_is t (with_data number change t) (record {
      place = refl;
      slots = λ n. sym (slot_same (number == n) (is_open t n) (t.slot n) change
          (λ same. let e : number ≡ n = grind (arith, nat_tests) in ap (λ (k : ℕ). is_open t k) (sym e) ∙ closed));
      first = refl;
      count = refl;
      acknacks = refl;
    })

-- where nothing moves the place by what is known already, it stays where it is
pub waits_still : (match : Match) (t : Tracked) (h : List Happening) (Knows : Tracked → Type 0)
    (Has : List Happening → Type 0) → is_waiting t ≡ true → Knows t → Has h → MovesOn match t h (idle_step t) Knows Has
waits_still match t h Knows Has is knows has =
    let waits = and_of (is_missing (t.slot t.place)) (nat_le t.first t.place) is in
    record {
      new = t;
      after = h;
      advances = record {
        goes = ([], refl, refl);
        stops = record {
          not_passable = not_passed t.first t.place (t.slot t.place) waits.0 waits.1;
          no_room = λ change held.
              absurd (let clash : false ≡ true = not_held (t.slot t.place) change waits.0 held in cc);
        };
        place = refl;
        stays = record { slots = λ n low. refl; first = refl; count = refl; acknacks = refl };
      };
      known = knows;
      stands = has;
      heard = refl;
      acknack = refl;
    }

-- so a reliable reader stays where it is
pub stays_with : (number : ℕ) (change : Change) (match : Match) (t : Tracked) (h : List Happening)
    (Knows : Tracked → Type 0) (Has : List Happening → Type 0) → may_take t number ≡ false → Knows t → Has h
    → MovesOn match (with_data number change t) h (idle_step t) Knows Has
stays_with number change match t h Knows Has is knows has =
    let both = both_of (is_waiting t) (is_open t number) is in
    subst (λ (x : Tracked). MovesOn match x h (idle_step t) Knows Has) (sym (nothing_known number change t both.1))
    (waits_still match t h Knows Has both.0 knows has)

-- a change below the place does nothing at a best-effort reader
pub jumps_nowhere : (number : ℕ) (change : Change) (match : Match) (t : Tracked) (h : List Happening)
    (Knows : Tracked → Type 0) (Has : List Happening → Type 0) → nat_le t.place number ≡ false → Knows t → Has h
    → JumpsOn match t h number change (idle_step t) Knows Has
jumps_nowhere number change match t h Knows Has is knows has = record {
  new = t;
  after = h;
  jumps = subst (λ (b : Bool). JumpsIf b match t h number change t.place [] t h)
      (sym (ap (λ (b : Bool). b && has_room match.qos (jumped_to match t.place h number).happened
      (coming match (jumped_to match t.place h number) change)) is)) (record {
        there = refl;
        none = refl;
        same = record { place = refl; slots = λ n. refl; first = refl; count = refl; acknacks = refl };
        idle = refl;
      });
  known = knows;
  stands = has;
  heard = refl;
  acknack = refl;
}
