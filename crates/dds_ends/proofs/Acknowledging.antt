-- A writer's state once it took an ACKNACK of one of its readers, by the rows of the machine.
use Rattle.std.proofs.Common.{◌≡◌, ℕ, zero, suc, ◌+◌, ◌<◌, ◌≤◌, Bool, true, false, cond, ◌&&◌, ◌||◌, List, [], ◌∷◌, Option, Some, None, map, not, set, max, min, length, get_or, slice_get, refl, ap, sym, ◌∙◌, subst, arith, nat_lt}
use Rattle.std.specs.Prelude.{ℤ, if◌then◌else◌, nat_le, slice_index, All}
use Rattle.std.specs.List.{AllByRecursion}
use Rattle.std.proofs.lemmas.Bool.Decides.{nat_tests}
use Rattle.std.proofs.lemmas.List.{length-map}
use Rattle.std.proofs.lemmas.List.Elements.{All-from_recursion, recursion_from_All}
use Rattle.std.proofs.lemmas.Option.{same_Some}
use Rattle.rtps_wire.specs.declared.acknack.AckNack.{AckNack as AckNackBody}
use Rattle.rtps_writer.specs.Acknack.{applied, is_applied, if_later, newly_acknowledged}
use Rattle.rtps_writer.specs.Answers.{answered_from as rtps_answered_from}
use Rattle.rtps_writer.specs.WriterState.{WriterState, acknowledged_by, owed_from as rtps_owed_from}
use Rattle.dds_base.specs.declared.endpoint.Endpoint.{Endpoint}
use Rattle.std.specs.Option.{option_map}
use Rattle.dds_base.specs.Counts.{is_later}
use Rattle.dds_machine.specs.declared.reply.Move.TheVariants.{Acknowledged}
use Rattle.dds_machine.specs.Part.{ReaderProxy, Writer, same_endpoint, row_of, acknowledged_of, with_acknowledged, owed_from, writer_changes}
use Rattle.dds_ends.specs.Answering.{acknowledged_moves, heard_if}
use Rattle.dds_protocol.specs.Contact.{Contact}
use Rattle.dds_protocol.specs.Protocol.{acknowledging, answered_from, asks_for_heartbeat, contact_after}
use Rattle.dds_protocol.proofs.InOrder.{same_self}
use Rattle.dds_protocol.proofs.Owing.{first_or}
use Rattle.dds_machine.proofs.Tables.{same_is}
use Rattle.dds_ends.specs.Standing.{CountsFrom1, state_of}

-- none of these rows is the reader's
abbrev pub IsNone : List ReaderProxy → Endpoint → Type 0
IsNone rows e = (k : ℕ) (p : ReaderProxy) → slice_get rows k ≡ Some p → p.reader ≡ e → ⊥

-- of these rows this one is the reader's, and no other one is
abbrev pub IsOnly : List ReaderProxy → Endpoint → ℕ → ReaderProxy → Type 0
IsOnly [] e n p = ⊥
IsOnly (q ∷ qs) e zero p = (q ≡ p) × (p.reader ≡ e) × IsNone qs e
IsOnly (q ∷ qs) e (suc n) p = (q.reader ≡ e → ⊥) × IsOnly qs e n p

pub only_row : (rows : List ReaderProxy) (e : Endpoint) (n : ℕ) (p : ReaderProxy) → slice_get rows n ≡ Some p
    → p.reader ≡ e → ((k : ℕ) (q : ReaderProxy) → slice_get rows k ≡ Some q → q.reader ≡ e → k ≡ n) → IsOnly rows e n p
only_row [] e n p at is one = absurd cc
only_row (q ∷ qs) e zero p at is one =
    (same_Some q p at, is, λ k r at_r of_r. let same = one (suc k) r at_r of_r in omega (arith, same))
only_row (q ∷ qs) e (suc n) p at is one = (
  λ of_q. let same = one zero q refl of_q in omega (arith, same),
  only_row qs e n p at is
      (λ k r at_r of_r. let same = one (suc k) r at_r of_r in omega (arith, same)),
)

pub not_same : (a e : Endpoint) → (a ≡ e → ⊥) → same_endpoint a e ≡ false
not_same a e other = by (same_endpoint a e) refl
  where
    by : (b : Bool) → same_endpoint a e ≡ b → same_endpoint a e ≡ false
    by true is = absurd (other (same_is a e is))
    by false is = is

is_same : (a e : Endpoint) → a ≡ e → same_endpoint a e ≡ true
is_same a e is = subst (λ (x : Endpoint). same_endpoint a x ≡ true) is (same_self a)

-- ---- what is acknowledged, and the counts

-- a row with another value of its reader's
abbrev set_row : ReaderProxy → List ReaderProxy → Endpoint → ℕ → Bool → List ReaderProxy
set_row q qs e to b = cond b (record q { acknowledged = to } ∷ qs) (q ∷ with_acknowledged qs e to)

first_row : (q : ReaderProxy) (e : Endpoint) (p : ReaderProxy) → q ≡ p → p.reader ≡ e → same_endpoint q.reader e ≡ true
first_row q e p is of_e = is_same q.reader e (ap (λ (x : ReaderProxy). x.reader) is ∙ of_e)

pub acknowledged_is : (rows : List ReaderProxy) (e : Endpoint) (n : ℕ) (p : ReaderProxy) → IsOnly rows e n p
    → acknowledged_of rows e ≡ Some p.acknowledged
acknowledged_is [] e n p h = absurd h
acknowledged_is (q ∷ qs) e zero p h =
    ap (λ (b : Bool). option_map (λ (x : ReaderProxy). x.acknowledged)
    (cond b (Some q) (row_of (λ (x : ReaderProxy). x.reader) qs e))) (first_row q e p h.0 h.1)
    ∙ ap (λ (x : ReaderProxy). Some x.acknowledged) h.0
acknowledged_is (q ∷ qs) e (suc n) p h =
    ap (λ (b : Bool). option_map (λ (x : ReaderProxy). x.acknowledged)
    (cond b (Some q) (row_of (λ (x : ReaderProxy). x.reader) qs e))) (not_same q.reader e h.0)
    ∙ acknowledged_is qs e n p h.1

pub acknowledged_set : (rows : List ReaderProxy) (e : Endpoint) (n : ℕ) (p : ReaderProxy) (to : ℕ) → IsOnly rows e n p
    → map (λ (x : ReaderProxy). x.acknowledged) (with_acknowledged rows e to)
    ≡ set (map (λ (x : ReaderProxy). x.acknowledged) rows) n to
acknowledged_set [] e n p to h = absurd h
acknowledged_set (q ∷ qs) e zero p to h =
    ap (λ (b : Bool). map (λ (x : ReaderProxy). x.acknowledged) (set_row q qs e to b)) (first_row q e p h.0 h.1)
acknowledged_set (q ∷ qs) e (suc n) p to h =
    ap (λ (b : Bool). map (λ (x : ReaderProxy). x.acknowledged) (set_row q qs e to b)) (not_same q.reader e h.0)
    ∙ ap (λ (xs : List ℕ). q.acknowledged ∷ xs) (acknowledged_set qs e n p to h.1)

pub acknowledged_at : (rows : List ReaderProxy) (e : Endpoint) (n : ℕ) (p : ReaderProxy) → IsOnly rows e n p
    → slice_index (map (λ (x : ReaderProxy). x.acknowledged) rows) n ≡ p.acknowledged
acknowledged_at [] e n p h = absurd h
acknowledged_at (q ∷ qs) e zero p h = ap (λ (x : ReaderProxy). x.acknowledged) h.0
acknowledged_at (q ∷ qs) e (suc n) p h = acknowledged_at qs e n p h.1

-- the rows name whom they named
pub readers_same : (rows : List ReaderProxy) (e : Endpoint) (to : ℕ)
    → map (λ (x : ReaderProxy). x.reader) (with_acknowledged rows e to) ≡ map (λ (x : ReaderProxy). x.reader) rows
readers_same [] e to = refl
readers_same (q ∷ qs) e to = by (same_endpoint q.reader e) (readers_same qs e to)
  where
    by : (b : Bool) → map (λ (x : ReaderProxy). x.reader) (with_acknowledged qs e to)
        ≡ map (λ (x : ReaderProxy). x.reader) qs → map (λ (x : ReaderProxy). x.reader) (set_row q qs e to b)
        ≡ q.reader ∷ map (λ (x : ReaderProxy). x.reader) qs
    by true h = refl
    by false h = ap (λ (es : List Endpoint). q.reader ∷ es) h

-- and owe from where they owed
firsts_same : (rows : List ReaderProxy) (e : Endpoint) (to : ℕ)
    → map (λ (x : ReaderProxy). x.first) (with_acknowledged rows e to) ≡ map (λ (x : ReaderProxy). x.first) rows
firsts_same [] e to = refl
firsts_same (q ∷ qs) e to = by (same_endpoint q.reader e) (firsts_same qs e to)
  where
    by : (b : Bool) → map (λ (x : ReaderProxy). x.first) (with_acknowledged qs e to)
        ≡ map (λ (x : ReaderProxy). x.first) qs → map (λ (x : ReaderProxy). x.first) (set_row q qs e to b)
        ≡ q.first ∷ map (λ (x : ReaderProxy). x.first) qs
    by true h = refl
    by false h = ap (λ (ns : List ℕ). q.first ∷ ns) h

map_readers : {X : Type 0} (f : Endpoint → X) (rows : List ReaderProxy)
    → map (λ (x : ReaderProxy). f x.reader) rows ≡ map f (map (λ (x : ReaderProxy). x.reader) rows)
map_readers f [] = refl
map_readers f (q ∷ qs) = ap (λ os. f q.reader ∷ os) (map_readers f qs)

others_same : {X : Type 0} (f g : Endpoint → X) (rows : List ReaderProxy) (e : Endpoint)
    → ((r : Endpoint) → (r ≡ e → ⊥) → g r ≡ f r) → IsNone rows e
    → map (λ (x : ReaderProxy). g x.reader) rows ≡ map (λ (x : ReaderProxy). f x.reader) rows
others_same f g [] e same none = refl
others_same f g (q ∷ qs) e same none =
    ap (λ o. o ∷ map (λ (x : ReaderProxy). g x.reader) qs) (same q.reader (λ is. none zero q refl is))
    ∙ ap (λ os. f q.reader ∷ os) (others_same f g qs e same (λ k p at is. none (suc k) p at is))

counts_here : {X : Type 0} (f g : Endpoint → X) (rows : List ReaderProxy) (e : Endpoint) (n : ℕ) (p : ReaderProxy)
    (count : X) → g e ≡ count → ((r : Endpoint) → (r ≡ e → ⊥) → g r ≡ f r) → IsOnly rows e n p
    → map (λ (x : ReaderProxy). g x.reader) rows ≡ set (map (λ (x : ReaderProxy). f x.reader) rows) n count
counts_here f g [] e n p count is same h = absurd h
counts_here f g (q ∷ qs) e zero p count is same h =
    ap (λ (r : Endpoint). g r ∷ map (λ (x : ReaderProxy). g x.reader) qs) (ap (λ (x : ReaderProxy). x.reader) h.0 ∙ h.1)
    ∙ (ap (λ o. o ∷ map (λ (x : ReaderProxy). g x.reader) qs) is
    ∙ ap (λ os. count ∷ os) (others_same f g qs e same h.2))
counts_here f g (q ∷ qs) e (suc n) p count is same h =
    ap (λ o. o ∷ map (λ (x : ReaderProxy). g x.reader) qs) (same q.reader h.0)
    ∙ ap (λ os. f q.reader ∷ os) (counts_here f g qs e n p count is same h.1)

-- the counts of the rows, or their marks, once that of the reader is this one
pub counts_set : {X : Type 0} (f g : Endpoint → X) (rows : List ReaderProxy) (e : Endpoint) (n : ℕ) (p : ReaderProxy)
    (to : ℕ) (count : X) → g e ≡ count → ((r : Endpoint) → (r ≡ e → ⊥) → g r ≡ f r) → IsOnly rows e n p
    → map (λ (x : ReaderProxy). g x.reader) (with_acknowledged rows e to)
    ≡ set (map (λ (x : ReaderProxy). f x.reader) rows) n count
counts_set f g rows e n p to count is same h =
    map_readers g (with_acknowledged rows e to)
    ∙ (ap (λ (es : List Endpoint). map g es) (readers_same rows e to)
    ∙ (sym (map_readers g rows) ∙ counts_here f g rows e n p count is same h))

pub count_at : {X : Type 0} (f : Endpoint → X) (rows : List ReaderProxy) (e : Endpoint) (n : ℕ) (p : ReaderProxy)
    (none : X) → IsOnly rows e n p → get_or (map (λ (x : ReaderProxy). f x.reader) rows) n none ≡ f e
count_at f [] e n p none h = absurd h
count_at f (q ∷ qs) e zero p none h = ap f (ap (λ (x : ReaderProxy). x.reader) h.0 ∙ h.1)
count_at f (q ∷ qs) e (suc n) p none h = count_at f qs e n p none h.1

-- a mark that the reader has, set once more
mark_again : (f : Endpoint → Bool) (rows : List ReaderProxy) (e : Endpoint) (n : ℕ) (p : ReaderProxy)
    → IsOnly rows e n p → set (map (λ (x : ReaderProxy). f x.reader) rows) n (f e) ≡ map (λ (x : ReaderProxy). f x.reader) rows
mark_again f [] e n p h = absurd h
mark_again f (q ∷ qs) e zero p h =
    ap (λ (r : Endpoint). f r ∷ map (λ (x : ReaderProxy). f x.reader) qs)
    (sym (ap (λ (x : ReaderProxy). x.reader) h.0 ∙ h.1))
mark_again f (q ∷ qs) e (suc n) p h = ap (λ (bs : List Bool). f q.reader ∷ bs) (mark_again f qs e n p h.1)

only_within : (rows : List ReaderProxy) (e : Endpoint) (n : ℕ) (p : ReaderProxy) → IsOnly rows e n p → n < length rows
only_within [] e n p h = absurd h
only_within (q ∷ qs) e zero p h = omega arith
only_within (q ∷ qs) e (suc n) p h = let lt = only_within qs e n p h.1 in omega (arith, lt)

begun_on : (rows : List ReaderProxy) (e : Endpoint) (to : ℕ) → 1 ≤ to
    → AllByRecursion CountsFrom1 rows
    → AllByRecursion CountsFrom1 (with_acknowledged rows e to)
begun_on [] e to low h = tt
begun_on (q ∷ qs) e to low h = by (same_endpoint q.reader e) (begun_on qs e to low h.1)
  where
    by : (b : Bool) → AllByRecursion CountsFrom1 (with_acknowledged qs e to)
        → AllByRecursion CountsFrom1 (set_row q qs e to b)
    by true k = (low, h.1)
    by false k = (h.0, k)

pub still_begun : (rows : List ReaderProxy) (e : Endpoint) (to : ℕ) → 1 ≤ to
    → All CountsFrom1 rows
    → All CountsFrom1 (with_acknowledged rows e to)
still_begun rows e to low h =
    All-from_recursion CountsFrom1 (with_acknowledged rows e to)
    (begun_on rows e to low (recursion_from_All CountsFrom1 rows h))

-- ---- the state

-- a state in which the rows are others
pub state_as : (s : WriterState) (f g a b : List ℕ) (c d : List (Option ℤ)) (x y u v : List Bool) → f ≡ g → a ≡ b
    → c ≡ d → x ≡ y → u ≡ v
    → ◌≡◌ {A = WriterState} (record s { firsts = f; acknowledged = a; counts = c; asks = x; silents = u })
    (record s { firsts = g; acknowledged = b; counts = d; asks = y; silents = v })
state_as s f g a b c d x y u v i j k l m = cc

-- what the writer knows of a reader of which this ACKNACK is taken
pub record IsCounted (old new : Endpoint → Contact) (e : Endpoint) (a : AckNackBody) : Type 0 where
  pub here : new e ≡ contact_after (old e) a
  pub others : (r : Endpoint) → (r ≡ e → ⊥) → new r ≡ old r

-- the marks of the rows, once that of the reader is one more
asks_set : (f g : Endpoint → Bool) (rows : List ReaderProxy) (e : Endpoint) (n : ℕ) (p : ReaderProxy) (to : ℕ)
    (b : Bool) → g e ≡ (f e || b) → ((r : Endpoint) → (r ≡ e → ⊥) → g r ≡ f r) → IsOnly rows e n p
    → map (λ (x : ReaderProxy). g x.reader) (with_acknowledged rows e to)
    ≡ (if b then set (map (λ (x : ReaderProxy). f x.reader) rows) n true
    else map (λ (x : ReaderProxy). f x.reader) rows)
asks_set f g rows e n p to true here same only = counts_set f g rows e n p to true (here ∙ late (f e)) same only
  where
    late : (b : Bool) → (b || true) ≡ true
    late true = refl
    late false = refl
asks_set f g rows e n p to false here same only =
    counts_set f g rows e n p to (f e) (here ∙ late (f e)) same only ∙ mark_again f rows e n p only
  where
    late : (b : Bool) → (b || false) ≡ b
    late true = refl
    late false = refl

-- the same of those that are silent: one that is answered by so is none
silents_set : (f g : Endpoint → Bool) (rows : List ReaderProxy) (e : Endpoint) (n : ℕ) (p : ReaderProxy) (to : ℕ)
    (b : Bool) → g e ≡ (f e && b) → ((r : Endpoint) → (r ≡ e → ⊥) → g r ≡ f r) → IsOnly rows e n p
    → map (λ (x : ReaderProxy). g x.reader) (with_acknowledged rows e to)
    ≡ (if not b then set (map (λ (x : ReaderProxy). f x.reader) rows) n false
    else map (λ (x : ReaderProxy). f x.reader) rows)
silents_set f g rows e n p to false here same only = counts_set f g rows e n p to false (here ∙ late (f e)) same only
  where
    late : (b : Bool) → (b && false) ≡ false
    late true = refl
    late false = refl
silents_set f g rows e n p to true here same only =
    counts_set f g rows e n p to (f e) (here ∙ late (f e)) same only ∙ mark_again f rows e n p only
  where
    late : (b : Bool) → (b && true) ≡ b
    late true = refl
    late false = refl

pub state_applied : (w : Writer) (answered new : Endpoint → Contact) (e : Endpoint) (n : ℕ) (p : ReaderProxy)
    (base : ℕ) (a : AckNackBody) → IsOnly w.readers e n p → IsCounted answered new e a
    → state_of (acknowledging w e (max p.acknowledged base)) new
    ≡ heard_if true (asks_for_heartbeat a) (applied (state_of w answered) n base a.count) n
state_applied w answered new e n p base a only counted =
    let rows : List ReaderProxy = w.readers in
    let to : ℕ = max p.acknowledged base in
    let at : slice_index (map (λ (x : ReaderProxy). x.acknowledged) rows) n ≡ p.acknowledged =
    acknowledged_at rows e n p only in
    state_as (state_of w answered) _ _ _ _ _ _ _ _ _ _ (firsts_same rows e to)
    (acknowledged_set rows e n p to only
    ∙ ap (λ (m : ℕ). set (map (λ (x : ReaderProxy). x.acknowledged) rows) n (max m base)) (sym at))
    (counts_set (λ (r : Endpoint). (answered r).count) (λ (r : Endpoint). (new r).count) rows e n p to (Some a.count)
    (ap (λ (x : Contact). x.count) counted.here)
    (λ r apart. ap (λ (x : Contact). x.count) (counted.others r apart)) only)
    (asks_set (λ (r : Endpoint). (answered r).asks) (λ (r : Endpoint). (new r).asks) rows e n p to
    (asks_for_heartbeat a) (ap (λ (x : Contact). x.asks) counted.here)
    (λ r apart. ap (λ (x : Contact). x.asks) (counted.others r apart)) only)
    (silents_set (λ (r : Endpoint). (answered r).silent) (λ (r : Endpoint). (new r).silent) rows e n p to
    (asks_for_heartbeat a) (ap (λ (x : Contact). x.silent) counted.here)
    (λ r apart. ap (λ (x : Contact). x.silent) (counted.others r apart)) only)

-- the ACKNACK is applied where it is taken
pub applied_is : (w : Writer) (answered : Endpoint → Contact) (e : Endpoint) (n : ℕ) (p : ReaderProxy) (base : ℕ)
    (count : ℤ) → IsOnly w.readers e n p
    → is_applied (state_of w answered) n base count
    ≡ (is_later (answered e).count count && nat_le base (length (writer_changes w) + 1))
applied_is w answered e n p base count only =
    ap (λ (o : Option ℤ). is_later o count && nat_le base (length (writer_changes w) + 1))
    (count_at (λ (r : Endpoint). (answered r).count) w.readers e n p None only)

set_index : (xs : List ℕ) (n to : ℕ) → n < length xs → slice_index (set xs n to) n ≡ to
set_index [] n to lt = absurd (omega (arith, lt))
set_index (x ∷ xs) zero to lt = refl
set_index (x ∷ xs) (suc n) to lt = set_index xs n to (omega (arith, lt))

-- the number below which the reader has then acknowledged all
pub acknowledged_then : (w : Writer) (answered : Endpoint → Contact) (e : Endpoint) (n : ℕ) (p : ReaderProxy)
    (base : ℕ) (count : ℤ) → IsOnly w.readers e n p
    → acknowledged_by (applied (state_of w answered) n base count) n ≡ max p.acknowledged base
acknowledged_then w answered e n p base count only =
    let rows : List ReaderProxy = w.readers in
    let lt = only_within rows e n p only in
    let size = length-map rows (λ (x : ReaderProxy). x.acknowledged) in
    set_index (map (λ (x : ReaderProxy). x.acknowledged) rows) n
    (max (slice_index (map (λ (x : ReaderProxy). x.acknowledged) rows) n) base) (omega (arith, lt, size))
    ∙ ap (λ (m : ℕ). max m base) (acknowledged_at rows e n p only)

-- the move of an acknowledgement
pub moves_then : (w : Writer) (answered : Endpoint → Contact) (e : Endpoint) (n : ℕ) (p : ReaderProxy) (base : ℕ)
    (count : ℤ) (writer : ℕ) → IsOnly w.readers e n p
    → acknowledged_moves writer e
    (newly_acknowledged (state_of w answered) (applied (state_of w answered) n base count) n)
    ≡ (if nat_lt p.acknowledged base then Acknowledged writer e base ∷ [] else [])
moves_then w answered e n p base count writer only =
    ap (λ (m : ℕ). acknowledged_moves writer e
    (if_later m (acknowledged_by (applied (state_of w answered) n base count) n)))
    (acknowledged_at w.readers e n p only)
    ∙ (ap (λ (m : ℕ). acknowledged_moves writer e (if_later p.acknowledged m))
    (acknowledged_then w answered e n p base count only) ∙ by (nat_lt p.acknowledged base) refl)
  where
    by : (b : Bool) → nat_lt p.acknowledged base ≡ b
        → acknowledged_moves writer e (if_later p.acknowledged (max p.acknowledged base))
        ≡ (if nat_lt p.acknowledged base then Acknowledged writer e base ∷ [] else [])
    by true is =
        let forward : p.acknowledged < base = grind (arith, nat_tests) in
        let most : max p.acknowledged base ≡ base = omega (arith, forward) in
        ap (λ (m : ℕ). acknowledged_moves writer e (if_later p.acknowledged m)) most
        ∙ (ap (λ (b : Bool). acknowledged_moves writer e (if b then Some base else None)) is
        ∙ ap (λ (b : Bool). if b then Acknowledged writer e base ∷ [] else []) (sym is))
    by false is =
        let low : base ≤ p.acknowledged = grind (arith, nat_tests) in
        let most : max p.acknowledged base ≡ p.acknowledged = omega (arith, low) in
        let still : nat_lt p.acknowledged p.acknowledged ≡ false = grind (arith, nat_tests) in
        ap (λ (m : ℕ). acknowledged_moves writer e (if_later p.acknowledged m)) most
        ∙ (ap (λ (b : Bool). acknowledged_moves writer e (if b then Some p.acknowledged else None)) still
        ∙ ap (λ (b : Bool). if b then Acknowledged writer e base ∷ [] else []) (sym is))

-- what was acknowledged, or more, is from 1 on
pub low_of : (rows : List ReaderProxy) (e : Endpoint) (n : ℕ) (p : ReaderProxy) (base : ℕ) → IsOnly rows e n p
    → All CountsFrom1 rows → 1 ≤ max p.acknowledged base
low_of rows e n p base only begun =
    let low =
    lowest rows n p (recursion_from_All CountsFrom1 rows begun) only in
    omega (arith, low)
  where
    lowest : (rows : List ReaderProxy) (n : ℕ) (p : ReaderProxy)
        → AllByRecursion CountsFrom1 rows → IsOnly rows e n p → 1 ≤ p.acknowledged
    lowest [] n p h k = absurd k
    lowest (q ∷ qs) zero p h k = subst (λ (x : ReaderProxy). 1 ≤ x.acknowledged) k.0 h.0
    lowest (q ∷ qs) (suc n) p h k = lowest qs n p h.1 k.1

-- ---- what is owed

first_at : (rows : List ReaderProxy) (e : Endpoint) (n : ℕ) (p : ReaderProxy) → IsOnly rows e n p
    → slice_index (map (λ (x : ReaderProxy). x.first) rows) n ≡ p.first
first_at [] e n p h = absurd h
first_at (q ∷ qs) e zero p h = ap (λ (x : ReaderProxy). x.first) h.0
first_at (q ∷ qs) e (suc n) p h = first_at qs e n p h.1

first_hits : (rows : List ReaderProxy) (e : Endpoint) (n : ℕ) (p : ReaderProxy) (to none : ℕ) → IsOnly rows e n p
    → first_or (row_of (λ (x : ReaderProxy). x.reader) (with_acknowledged rows e to) e) none ≡ p.first
first_hits [] e n p to none h = absurd h
first_hits (q ∷ qs) e zero p to none h =
    let here = first_row q e p h.0 h.1 in
    ap (λ (b : Bool). first_or (row_of (λ (x : ReaderProxy). x.reader) (set_row q qs e to b) e) none) here
    ∙ (ap (λ (b : Bool). first_or (cond b (Some (record q { acknowledged = to }))
    (row_of (λ (x : ReaderProxy). x.reader) qs e)) none) here
    ∙ ap (λ (x : ReaderProxy). x.first) h.0)
first_hits (q ∷ qs) e (suc n) p to none h =
    let other = not_same q.reader e h.0 in
    ap (λ (b : Bool). first_or (row_of (λ (x : ReaderProxy). x.reader) (set_row q qs e to b) e) none) other
    ∙ (ap (λ (b : Bool). first_or (cond b (Some q)
    (row_of (λ (x : ReaderProxy). x.reader) (with_acknowledged qs e to) e)) none) other
    ∙ first_hits qs e n p to none h.1)

-- the row owes from where the writer owes its reader
pub owed_same : (w : Writer) (answered : Endpoint → Contact) (e : Endpoint) (n : ℕ) (p : ReaderProxy) (to : ℕ)
    → IsOnly w.readers e n p
    → rtps_owed_from (state_of (acknowledging w e to) answered) n ≡ owed_from (acknowledging w e to) e
owed_same w answered e n p to only =
    let next : ℕ = length (writer_changes w) + 1 in
    ap (λ (ns : List ℕ). min (slice_index ns n) next) (firsts_same w.readers e to)
    ∙ (ap (λ (k : ℕ). min k next) (first_at w.readers e n p only)
    ∙ sym (ap (λ (k : ℕ). min k next) (first_hits w.readers e n p to next only)))

-- an ACKNACK is answered from where it is by what was acknowledged before
pub answered_then : (owed acknowledged base : ℕ) → rtps_answered_from owed (max acknowledged base) base
    ≡ answered_from owed acknowledged base
answered_then owed acknowledged base =
    let same : max (max acknowledged base) base ≡ max acknowledged base = omega arith in
    ap (λ (n : ℕ). if nat_lt 1 owed && nat_lt base owed then base else n) same
