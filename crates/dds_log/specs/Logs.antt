-- The rule of a word that counts what happened, in proofs the list of it, and what its steps tell.
--
-- Logs are this project's own. What `entries_of` says and which word it is apart, inner functions alone cite this.
use Rattle.std.specs.Prelude.{◌≡◌, ◌≢◌, ℕ, ◌+◌, ◌≤◌, true, false, List, [], ◌∷◌, ◌++◌, ◌==◌, if◌then◌else◌, length, max, Option, None, Some}
use mathlib.Core.Option.{some}
use lib.ListN.{get_elem?}
use Rattle.atomic_table.specs.Seated.{TableId}
use Rattle.atomic_table.specs.Table.{State, Step, Me}
use Rattle.dds_log.specs.declared.rule.View.{View}

-- the entries of one seat, in order
abbrev pub entries_of : {E : Type 0} → (E → ℕ) → ℕ → List E → List E
entries_of seat_of seat [] = []
entries_of seat_of seat (e ∷ es) =
    if seat_of e == seat then e ∷ entries_of seat_of seat es else entries_of seat_of seat es

-- what a hand shows: a number that the word has reached, its seat, and the entries that it has
pub record Held (E : Type 0) : Type 0 where
  pub at : ℕ
  pub seat : Option ℕ
  pub list : List E

-- what a keeper shows: all entries, the first seat that nobody has, and the seat and the entries that it took in
pub record Logged (E : Type 0) : Type 0 where
  pub log : List E
  pub next : ℕ
  pub seat : Option ℕ
  pub list : List E

-- the first of two seats, if it is there
abbrev pub either_seat : Option ℕ → Option ℕ → Option ℕ
either_seat None other = other
either_seat (Some seat) other = Some seat

-- one that has seen so many, in this seat, with these entries
abbrev pub hand_of : {E : Type 0} → ℕ → Option ℕ → List E → View E
hand_of at seat list = record {
  keeps = false;
  count = 0;
  at = at;
  next = 0;
  seat = seat;
  list = list;
  log = [];
  written = [];
}

-- the keeper of these entries
abbrev pub keeper_of : {E : Type 0} → ℕ → List E → View E
keeper_of next log = record {
  keeps = true;
  count = length log;
  at = length log;
  next = next;
  seat = None;
  list = [];
  log = log;
  written = [];
}

-- what another is told: what this one has seen
abbrev pub told : {E : Type 0} → View E → View E
told v = hand_of v.at None []

-- one that has handed on what it had, and what it handed on
abbrev pub emptied : {E : Type 0} → View E → View E
emptied v = record v { seat = None; list = [] }

abbrev pub handed : {E : Type 0} → View E → View E
handed v = hand_of v.at v.seat v.list

-- a keeper that has given a seat, and who got it
abbrev pub one_less : {E : Type 0} → View E → View E
one_less v = record v { next = v.next + 1 }

abbrev pub newcomer : {E : Type 0} → View E → View E
newcomer v = hand_of 0 (Some v.next) []

-- one takes in what another has seen and has
abbrev pub joined : {E : Type 0} → View E → View E → View E
joined v w = record v { at = max v.at w.at; seat = either_seat v.seat w.seat; list = v.list ++ w.list }

-- another is told what was handed out
abbrev pub shown : {E : Type 0} → View E → View E
shown v = record (told v) { written = v.written }

-- the keeper hands out all entries
abbrev pub written_out : {E : Type 0} → View E → View E
written_out v = record (told v) { written = v.log }

-- one takes in what another has seen and has, and what that handed out
abbrev pub read_in : {E : Type 0} → View E → View E → View E
read_in v w = record (joined v w) { written = w.written }

abbrev pub nobody : {E : Type 0} → View E
nobody = hand_of 0 None []

-- how many entries stand with all of them
abbrev pub held_by : {E : Type 0} → List (View E) → ℕ
held_by [] = 0
held_by (v ∷ vs) = length v.list + held_by vs

-- the keeper knows all entries, and that nobody has a seat from the next one on
pub record Keeps {E : Type 0} (log : List E) (keeper : ℕ) (home : ℕ → ℕ) (id : ℕ) (v : View E) : Type 0 where
  pub only : id ≡ keeper
  pub all : v.log ≡ log
  pub counted : v.count ≡ length log
  pub fresh : (seat : ℕ) → v.next ≤ seat → home seat ≡ 0

-- a list begins with another
abbrev pub BeginsWith : {E : Type 0} → List E → List E → Type 0
BeginsWith {E} all first = (rest : List E) × (all ≡ first ++ rest)

-- What is known fits these entries: a number that they reached, and of each seat that is at home here (`home` has the
-- number of whom it is at home with, from 1) its entries, of each other none. What was handed out are the first entries.
pub record Fits {E : Type 0} (seat_of : E → ℕ) (log : List E) (keeper : ℕ) (home : ℕ → ℕ) (id : ℕ) (v : View E)
    : Type 0 where
  pub seen : v.at ≤ length log
  pub keeps : v.keeps ≡ true → Keeps log keeper home id v
  pub here : (seat : ℕ) → home seat ≡ id + 1 → entries_of seat_of seat v.list ≡ entries_of seat_of seat log
  pub elsewhere : (seat : ℕ) → home seat ≢ id + 1 → entries_of seat_of seat v.list ≡ []
  pub own : (seat : ℕ) → v.seat ≡ Some seat → home seat ≡ id + 1
  pub wrote : BeginsWith log v.written

-- The word counts the entries, each of which stands with one, and what anybody knows fits them.
pub record IsLogged {E : Type 0} (seat_of : E → ℕ) (s : State ℕ (View E)) : Type 0 where
  pub log : List E
  pub keeper : ℕ
  pub home : ℕ → ℕ
  pub word : s.words ≡ length log ∷ []
  pub each : held_by s.views ≡ length log
  pub none : (seat : ℕ) → home seat ≡ 0 → entries_of seat_of seat log ≡ []
  pub within : (seat : ℕ) → home seat ≤ length s.views
  pub fit : (id : ℕ) (v : View E) → get_elem? s.views id ≡ some v → Fits seat_of log keeper home id v

-- a look finds a number that is not below what was seen; of a keeper it is what this has counted
abbrev pub Looks : {E : Type 0} → Step ℕ → Me ℕ (View E) → ℕ → Me ℕ (View E) → Type 0
Looks s v found w =
    (v.0.at ≤ found) × (v.0.keeps ≡ true → found ≡ v.0.count) × (w ≡ (record v.0 { at = found }, v.1))

-- the keeper adds what happened, to all entries and to those that it took in
abbrev pub Counts : {E : Type 0} → List E → Step ℕ → Me ℕ (View E) → ℕ → Me ℕ (View E) → Type 0
Counts more s v found w =
    (v.0.at ≤ found)
    × (w ≡ (
      record v.0 {
        count = v.0.count + 1;
        at = v.0.count + 1;
        log = v.0.log ++ more;
        list = v.0.list ++ more;
      },
      v.1,
    ))

-- a keeper that has as many entries as there are has those of each seat, in order
abbrev pub Settles : {E : Type 0} → (E → ℕ) → Step ℕ → Me ℕ (View E) → ℕ → Me ℕ (View E) → Type 0
Settles seat_of s v found w =
    (v.0.keeps ≡ true → found ≡ v.0.count)
    × (v.0.keeps ≡ true → length v.0.list ≡ length v.0.log
    → (seat : ℕ) → entries_of seat_of seat v.0.list ≡ entries_of seat_of seat v.0.log)
    × (w ≡ (record v.0 { at = found }, v.1))

-- a keeper that knows what was handed out finds that the entries begin with it
abbrev pub Compares : {E : Type 0} → Step ℕ → Me ℕ (View E) → ℕ → Me ℕ (View E) → Type 0
Compares s v found w =
    (v.0.keeps ≡ true → (found ≡ v.0.count) × BeginsWith v.0.log v.0.written)
    × (w ≡ (record v.0 { at = found }, v.1))

-- which word it is
abbrev pub WordName : Type 0
WordName = TableId

-- the word of a name that no program has
abbrev pub no_word : WordName
no_word = record { words = 0; slots = 0; views_name = 0; atom = 0; block = 0; offset = 0; slot_names = [] }
