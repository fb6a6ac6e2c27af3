-- What a writer owes a reader begins no lower later, whatever happens there.
use Rattle.std.proofs.Common.{◌≡◌, ℕ, ◌+◌, ◌≤◌, ◌⊎◌, Bool, true, false, not, cond, Option, None, Some, List, [], ◌∷◌, ◌++◌, filter, length, length-append, append_assoc, refl, ap, sym, ◌∙◌, subst, inl, inr, ⊎_elim, arith}
use Rattle.std.specs.Prelude.{if◌then◌else◌, min}
use Rattle.std.specs.Option.{option_map, option_map_or}
use Rattle.std.proofs.Math.Nat.{min-le_left, min-le_right, le-min}
use Rattle.dds_base.specs.declared.change.Change.{Change}
use Rattle.dds_base.specs.Written.{Written, Registered, Changed, Asserted, LookedAt, StrengthSet, Ticked, changes_of}
use Rattle.dds_base.specs.declared.endpoint.Endpoint.{Endpoint}
use Rattle.dds_machine.specs.Matching.{joined, knowing, knows_reader, knows_reliable, left, met, new_row}
use Rattle.dds_machine.specs.Part.{same_endpoint, acknowledged_of, IsAtMost, IsCovered, NoLess, ReaderProxy, TopicReader, Writer, row_of, with_acknowledged, owed_from, writer_changes}
use Rattle.dds_machine.proofs.Tables.{acknowledged-cases, append_nothing, at_most_on, row-append, row-cases, same_is}

-- changes grow at their end

pub changes-more : (more written : List Written) → (later : List Change)
    × (changes_of (more ++ written) ≡ changes_of written ++ later)
changes-more [] written = ([], sym (append_nothing (changes_of written)))
changes-more (Registered key ∷ more) written = changes-more more written
changes-more (Asserted moment ∷ more) written = changes-more more written
changes-more (LookedAt ∷ more) written = changes-more more written
changes-more (StrengthSet strength ∷ more) written = changes-more more written
changes-more (Ticked now behind ∷ more) written = changes-more more written
changes-more (Changed change ∷ more) written =
    let r = changes-more more written in (
      r.0 ++ change ∷ [],
      ap (λ (cs : List Change). cs ++ change ∷ []) r.1
          ∙ append_assoc (changes_of written) r.0 (change ∷ []),
    )

-- one thing more that happened leaves no fewer changes
pub no_fewer : (entry : Written) (written : List Written)
    → length (changes_of written) ≤ length (changes_of (entry ∷ written))
no_fewer entry written =
    let more = changes-more (entry ∷ []) written in
    let is = ap (λ (xs : List Change). length xs) more.1 in
    let sum = length-append (changes_of written) more.0 in
    omega (arith, is, sum)

-- the first number of a row, or the one given where there is no row
abbrev pub first_or : Option ReaderProxy → ℕ → ℕ
first_or o none = option_map_or (λ (p : ReaderProxy). p.first) o none

abbrev row : List ReaderProxy → Endpoint → Option ReaderProxy
row rows r = row_of (λ (p : ReaderProxy). p.reader) rows r

abbrev acks : Option ReaderProxy → Option ℕ
acks o = option_map (λ (p : ReaderProxy). p.acknowledged) o

-- what is at most the first number before, and at most the next number then, is so later
abbrev FirstsOn : Option ReaderProxy → ℕ → Option ReaderProxy → ℕ → Type 0
FirstsOn o n o' n' = (a : ℕ) → a ≤ first_or o (n + 1) → a ≤ n + 1 → a ≤ first_or o' (n' + 1)

owed_on : (o o' : Option ReaderProxy) (n n' : ℕ) → n ≤ n' → FirstsOn o n o' n'
    → min (first_or o (n + 1)) (n + 1) ≤ min (first_or o' (n' + 1)) (n' + 1)
owed_on o o' n n' le h =
    let a = min-le_left (first_or o (n + 1)) (n + 1) in
    let b = min-le_right (first_or o (n + 1)) (n + 1) in
    le-min (h (min (first_or o (n + 1)) (n + 1)) a b) (omega (arith, le, b))

-- of the same row, and of one that acknowledged more
firsts_same : (o : Option ReaderProxy) (n n' : ℕ) → n ≤ n' → FirstsOn o n o n'
firsts_same None n n' le a h k = omega (arith, le, k)
firsts_same (Some p) n n' le a h k = h

firsts_gone : (o : Option ReaderProxy) (n n' : ℕ) → n ≤ n' → FirstsOn o n None n'
firsts_gone o n n' le a h k = omega (arith, le, k)

firsts_acknowledged : (o : Option ReaderProxy) (to n : ℕ)
    → FirstsOn o n (option_map (λ (p : ReaderProxy). record p { acknowledged = to }) o) n
firsts_acknowledged None to n a h k = h
firsts_acknowledged (Some p) to n a h k = h

firsts_new : (n : ℕ) (p : ReaderProxy) → p.first ≡ n + 1 → FirstsOn None n (Some p) n
firsts_new n p is a h k = omega (arith, is, k)

-- where the rows are the same
pub owed_same : (old new : Writer) → new.readers ≡ old.readers
    → length (writer_changes old) ≤ length (writer_changes new) → (r : Endpoint) → owed_from old r ≤ owed_from new r
owed_same old new rows le r =
    let n = length (writer_changes old) in
    let n' = length (writer_changes new) in
    subst (λ (xs : List ReaderProxy). owed_from old r ≤ min (first_or (row xs r) (n' + 1)) (n' + 1)) (sym rows)
    (owed_on (row old.readers r) (row old.readers r) n n' le (firsts_same (row old.readers r) n n' le))

-- where a reader acknowledges more
pub owed_acknowledged : (w : Writer) (v : Endpoint) (to : ℕ) (r : Endpoint)
    → owed_from w r ≤ owed_from (record w { readers = with_acknowledged w.readers v to }) r
owed_acknowledged w v to r =
    let n = length (writer_changes w) in
    let change : ReaderProxy → ReaderProxy = λ (p : ReaderProxy). record p { acknowledged = to } in
    let goal : Option ReaderProxy → Type 0 = λ o. owed_from w r ≤ min (first_or o (n + 1)) (n + 1) in
    let le : n ≤ n = omega arith in
    ⊎_elim (λ e. subst goal (sym e) (owed_on (row w.readers r) (row w.readers r) n n le (firsts_same (row w.readers r) n n le)))
    (λ s.
    subst goal (sym s.1)
    (subst (λ (x : Endpoint). owed_from w x ≤ min (first_or (option_map change (row w.readers v)) (n + 1)) (n + 1)) (sym s.0)
    (owed_on (row w.readers v) (option_map change (row w.readers v)) n n le (firsts_acknowledged (row w.readers v) to n))))
    (row-cases (λ (p : ReaderProxy). p.reader) change (λ p. refl) w.readers v r)

-- where the writer is told of a reader
pub owed_joined : (w : Writer) (v : Endpoint) (reliable : Bool) (r : Endpoint)
    → owed_from w r ≤ owed_from (joined w v reliable) r
owed_joined w v false r =
    let n = length (writer_changes w) in
    let le : n ≤ n = omega arith in
    owed_on (row w.readers r) (row w.readers r) n n le (firsts_same (row w.readers r) n n le)
owed_joined w v true r =
    let n = length (writer_changes w) in
    let le : n ≤ n = omega arith in
    let new : ReaderProxy = new_row w v in
    let goal : Option ReaderProxy → Type 0 = λ o. owed_from w r ≤ min (first_or o (n + 1)) (n + 1) in
    ⊎_elim (λ e. subst goal (sym e) (owed_on (row w.readers r) (row w.readers r) n n le (firsts_same (row w.readers r) n n le)))
    (λ s.
    subst goal (sym s.1)
    (subst (λ (o : Option ReaderProxy). min (first_or o (n + 1)) (n + 1) ≤ min (first_or (Some new) (n + 1)) (n + 1)) (sym s.0)
    (owed_on None (Some new) n n le (firsts_new n new refl))))
    (row-append (λ (p : ReaderProxy). p.reader) w.readers new r)

-- rows without those of one reader

-- ---- a writer that may know one reader more

-- what holds whichever readers it knows holds of it then
pub knowing_of : (P : Writer → Type 0) (w : Writer) (v : Endpoint) (reliable : Bool)
    → ((ks : List TopicReader) → P (record w { known = ks })) → P (knowing w v reliable)
knowing_of P w v reliable each = by (knows_reader w v)
  where
    by : (b : Bool)
        → P (if b then w else record w { known = w.known ++ record { reader = v; reliable = reliable } ∷ [] })
    by true = each w.known
    by false = each (w.known ++ record { reader = v; reliable = reliable } ∷ [])

-- so it is once it was told of that one
pub met_of : (P : Writer → Type 0) (w : Writer) (v : Endpoint) (reliable : Bool)
    → ((ks : List TopicReader) (b : Bool) → P (joined (record w { known = ks }) v b)) → P (met w v reliable)
met_of P w v reliable each =
    knowing_of (λ x. P (joined x v (knows_reliable x v))) w v reliable
    (λ ks. each ks (knows_reliable (record w { known = ks }) v))

-- what it owes begins no earlier
pub owed_met : (w : Writer) (v : Endpoint) (reliable : Bool) (r : Endpoint) → owed_from w r ≤ owed_from (met w v reliable) r
owed_met w v reliable r =
    met_of (λ x. owed_from w r ≤ owed_from x r) w v reliable (λ ks b. owed_joined (record w { known = ks }) v b r)

abbrev without : List ReaderProxy → Endpoint → List ReaderProxy
without rows v = filter (λ (p : ReaderProxy). not (same_endpoint p.reader v)) rows

row-none : (xs : List ReaderProxy) (v : Endpoint) → row (without xs v) v ≡ None
row-none [] v = refl
row-none (x ∷ xs) v = by (same_endpoint x.reader v) refl (row-none xs v)
  where
    by : (b : Bool) → same_endpoint x.reader v ≡ b → row (without xs v) v ≡ None
        → row (cond (not b) (x ∷ without xs v) (without xs v)) v ≡ None
    by true is h = h
    by false is h = ap (λ (c : Bool). cond c (Some x) (row (without xs v) v)) is ∙ h

row-filter : (xs : List ReaderProxy) (v r : Endpoint)
    → (row (without xs v) r ≡ row xs r) ⊎ (row (without xs v) r ≡ None)
row-filter [] v r = inl refl
row-filter (x ∷ xs) v r = by (same_endpoint x.reader v) (same_endpoint x.reader r) refl refl (row-filter xs v r)
  where
    by : (b c : Bool) → same_endpoint x.reader v ≡ b → same_endpoint x.reader r ≡ c
        → (row (without xs v) r ≡ row xs r) ⊎ (row (without xs v) r ≡ None)
        → (row (cond (not b) (x ∷ without xs v) (without xs v)) r ≡ cond c (Some x) (row xs r))
        ⊎ (row (cond (not b) (x ∷ without xs v) (without xs v)) r ≡ None)
    by false true is here h = inl (ap (λ (d : Bool). cond d (Some x) (row (without xs v) r)) here)
    by false false is here h =
        ⊎_elim (λ e. inl (ap (λ (d : Bool). cond d (Some x) (row (without xs v) r)) here ∙ e))
        (λ e. inr (ap (λ (d : Bool). cond d (Some x) (row (without xs v) r)) here ∙ e)) h
    by true false is here h = h
    by true true is here h =
        let same : r ≡ v = sym (same_is x.reader r here) ∙ same_is x.reader v is in
        inr (ap (λ (e : Endpoint). row (without xs v) e) same ∙ row-none xs v)

-- where it is told that one has left
pub owed_left : (w : Writer) (v r : Endpoint) → owed_from w r ≤ owed_from (left w v) r
owed_left w v r =
    let n = length (writer_changes w) in
    let le : n ≤ n = omega arith in
    let goal : Option ReaderProxy → Type 0 = λ o. owed_from w r ≤ min (first_or o (n + 1)) (n + 1) in
    ⊎_elim (λ e. subst goal (sym e) (owed_on (row w.readers r) (row w.readers r) n n le (firsts_same (row w.readers r) n n le)))
    (λ e. subst goal (sym e) (owed_on (row w.readers r) None n n le (firsts_gone (row w.readers r) n n le)))
    (row-filter w.readers v r)

-- nothing is owed that is not made, or made next
pub owed_within : (w : Writer) (r : Endpoint) → owed_from w r ≤ length (writer_changes w) + 1
owed_within w r = min-le_right (first_or (row w.readers r) (length (writer_changes w) + 1)) (length (writer_changes w) + 1)

-- to a reader without a row nothing is owed that is made
pub owed_apart : (w : Writer) (r : Endpoint) → acknowledged_of w.readers r ≡ None
    → length (writer_changes w) + 1 ≤ owed_from w r
owed_apart w r none = by (row w.readers r) none
  where
    n : ℕ
    n = length (writer_changes w)

    by : (o : Option ReaderProxy) → acks o ≡ None → n + 1 ≤ min (first_or o (n + 1)) (n + 1)
    by None e = let all : n + 1 ≤ n + 1 = omega arith in le-min all all
    by (Some p) e = cc

-- ---- what is acknowledged is not owed, or the reader has it

-- it is so with what is owed later, and at a place further on
pub covered_on : (a : Option ℕ) (owed owed' : ℕ) (p p' : Option ℕ) → owed ≤ owed' → NoLess p p' → IsCovered a owed p
    → IsCovered a owed' p'
covered_on None owed owed' p p' le further h = tt
covered_on (Some a) owed owed' p p' le further h =
    ⊎_elim (λ q. inl (omega (arith, q, le))) (λ q. inr (at_most_on a p p' q further)) h

pub covered_below : (a p : Option ℕ) (owed : ℕ) → NoLess a p → IsCovered a owed p
covered_below None p owed h = tt
covered_below (Some a) p owed h = inr h

-- so it is of the writer and the reader, whose place is this
abbrev pub Covered : Writer → Endpoint → Option ℕ → Type 0
Covered w r place = IsCovered (acknowledged_of w.readers r) (owed_from w r) place

pub covered_same : (old new : Writer) (r : Endpoint) (place : Option ℕ) → new.readers ≡ old.readers
    → owed_from old r ≤ owed_from new r → NoLess place place → Covered old r place → Covered new r place
covered_same old new r place rows le self h =
    subst (λ (xs : List ReaderProxy). IsCovered (acknowledged_of xs r) (owed_from new r) place) (sym rows)
    (covered_on (acknowledged_of old.readers r) (owed_from old r) (owed_from new r) place place le self h)

pub covered_joined : (w : Writer) (v : Endpoint) (reliable : Bool) (r : Endpoint) (place : Option ℕ)
    → NoLess place place → Covered w r place → Covered (joined w v reliable) r place
covered_joined w v false r place self h =
    covered_same w (joined w v false) r place refl (owed_joined w v false r) self h
covered_joined w v true r place self h =
    let n = length (writer_changes w) in
    let new : ReaderProxy = new_row w v in
    let owed = owed_from (joined w v true) r in
    ⊎_elim (λ e. subst (λ (o : Option ReaderProxy). IsCovered (acks o) owed place) (sym e)
    (covered_on (acknowledged_of w.readers r) (owed_from w r) owed place place (owed_joined w v true r) self h))
    (λ s.
    let all : n + 1 ≤ n + 1 = omega arith in
    let is : owed_from (joined w v true) r ≡ min (first_or (Some new) (n + 1)) (n + 1) =
    ap (λ (o : Option ReaderProxy). min (first_or o (n + 1)) (n + 1)) s.1 in
    let covers : n + 1 ≤ min (first_or (Some new) (n + 1)) (n + 1) = le-min all all in
    subst (λ (o : Option ReaderProxy). IsCovered (acks o) owed place) (sym s.1) (inl (omega (arith, is, covers))))
    (row-append (λ (p : ReaderProxy). p.reader) w.readers new r)

pub covered_left : (w : Writer) (v r : Endpoint) (place : Option ℕ)
    → NoLess place place → Covered w r place → Covered (left w v) r place
covered_left w v r place self h =
    let owed = owed_from (left w v) r in
    ⊎_elim (λ e. subst (λ (o : Option ReaderProxy). IsCovered (acks o) owed place) (sym e)
    (covered_on (acknowledged_of w.readers r) (owed_from w r) owed place place (owed_left w v r) self h))
    (λ e. subst (λ (o : Option ReaderProxy). IsCovered (acks o) owed place) (sym e) tt)
    (row-filter w.readers v r)

pub covered_met : (w : Writer) (v : Endpoint) (reliable : Bool) (r : Endpoint) (place : Option ℕ)
    → NoLess place place → Covered w r place → Covered (met w v reliable) r place
covered_met w v reliable r place self h =
    met_of (λ x. Covered x r place) w v reliable
    (λ ks b. covered_joined (record w { known = ks }) v b r place self h)

-- where a reader acknowledges no more than it has
pub covered_acknowledged : (w : Writer) (v : Endpoint) (from to : ℕ) (r : Endpoint) (place : Endpoint → Option ℕ)
    → acknowledged_of w.readers v ≡ Some from → IsAtMost to (place v) → NoLess (place r) (place r)
    → Covered w r (place r) → Covered (record w { readers = with_acknowledged w.readers v to }) r (place r)
covered_acknowledged w v from to r place is has self h =
    let after : Writer = record w { readers = with_acknowledged w.readers v to } in
    let owed = owed_from after r in
    ⊎_elim (λ e. subst (λ (a : Option ℕ). IsCovered a owed (place r)) (sym e)
    (covered_on (acknowledged_of w.readers r) (owed_from w r) owed (place r) (place r) (owed_acknowledged w v to r) self h))
    (λ s. subst (λ (a : Option ℕ). IsCovered a owed (place r)) (sym s.1)
    (inr (subst (λ (x : Endpoint). IsAtMost to (place x)) (sym s.0) has)))
    (acknowledged-cases w.readers v from to r is)
