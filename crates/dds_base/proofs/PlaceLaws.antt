-- How a place goes on: one way is joined to the next, and a way on some grounds is one on grounds that say as much.
use Rattle.std.proofs.Common.{◌≡◌, ℕ, ◌+◌, ◌<◌, ◌≤◌, List, [], ◌∷◌, ◌++◌, refl, sym, ◌∙◌, subst, ap, inl, inr, arith}
use Rattle.dds_base.specs.declared.change.Change.{Change}
use Rattle.dds_base.specs.declared.happening.PassedRun.{PassedRun}
use Rattle.dds_base.specs.declared.qos.ReaderQos.{ReaderQos}
use Rattle.dds_base.specs.Places.{WriterGrounds, Match, PlaceWith, Comes, AllCome, Passes, IsApart, GoesTo, MayPassOver}

-- from this number on the second grounds say what the first do
pub record SayAsMuch (first second : WriterGrounds) (from : ℕ) : Type 0 where
  pub is_change : (number : ℕ) (change : Change) → from ≤ number → first.is_change number change
      → second.is_change number change
  pub may_pass : (number : ℕ) → from ≤ number → first.may_pass number → second.may_pass number

pub all_come_on : (g k : WriterGrounds) (from : ℕ) → SayAsMuch g k from
    → (match : Match) (old : PlaceWith) (changes : List Change) (new : PlaceWith) → from ≤ old.place
    → AllCome g match old changes new → AllCome k match old changes new × (from ≤ new.place)
all_come_on g k from m match old [] new low h = (h, let e = ap (λ (p : PlaceWith). p.place) h in omega (arith, e, low))
all_come_on g k from m match old (c ∷ cs) new low h =
    let next = ap (λ (p : PlaceWith). p.place) h.1.after in
    let rest = all_come_on g k from m match h.0 cs new (omega (arith, next, low)) h.2 in (
      (
        h.0,
        record { is_change = m.is_change old.place c low h.1.is_change; room = h.1.room; after = h.1.after },
        rest.0,
      ),
      rest.1,
    )

-- so what may be passed over on the first may be on the second
passed_over_on : (g k : WriterGrounds) (from : ℕ) → SayAsMuch g k from → (qos : ReaderQos) (n : ℕ) → from ≤ n
    → MayPassOver g qos n → MayPassOver k qos n
passed_over_on g k from m qos n low (inl h) = inl (m.may_pass n low h)
passed_over_on g k from m qos n low (inr h) =
    let before = h.1.before in
    inr (
      h.0,
      record {
        later = h.1.later;
        change = h.1.change;
        is_change = m.is_change h.1.later h.1.change (omega (arith, low, before)) h.1.is_change;
        before = h.1.before;
      },
    )

pub passes_on : (g k : WriterGrounds) (from : ℕ) → SayAsMuch g k from
    → (match : Match) (old : PlaceWith) (run : PassedRun) (new : PlaceWith) → from ≤ old.place
    → Passes g match old run new → Passes k match old run new × (from ≤ new.place)
passes_on g k from m match old run new low h =
    let begins = h.begins in
    let ordered = h.ordered in
    let next = ap (λ (p : PlaceWith). p.place) h.after in (
      record {
        begins = h.begins;
        ordered = h.ordered;
        may_pass = λ n above below.
            passed_over_on g k from m match.qos n (omega (arith, begins, low, above)) (h.may_pass n above below);
        after = h.after;
      },
      omega (arith, begins, ordered, next, low),
    )

-- a way on some grounds is one on grounds that say as much
pub goes_on : (g k : WriterGrounds) (from : ℕ) → SayAsMuch g k from
    → (match : Match) (old : PlaceWith) (runs : List PassedRun) (to : ℕ) (new : PlaceWith) → from ≤ old.place
    → GoesTo g match old runs to new → GoesTo k match old runs to new
goes_on g k from m match old [] to new low h = (h.0, (all_come_on g k from m match old h.0 new low h.1).0, h.2)
goes_on g k from m match old (run ∷ runs) to new low h =
    let before = all_come_on g k from m match old h.2.0 h.0 low h.2.1 in
    let passed = passes_on g k from m match h.0 run h.1 before.1 h.3 in
    (h.0, h.1, (h.2.0, before.0, h.2.2), passed.0, h.4, goes_on g k from m match h.1 runs to new passed.1 h.5)

-- changes that come take the place on, each by one
pub come_forward : (g : WriterGrounds) (match : Match) (old : PlaceWith) (changes : List Change) (new : PlaceWith)
    → AllCome g match old changes new → old.place ≤ new.place
come_forward g match old [] new h = let same = ap (λ (p : PlaceWith). p.place) h in omega (arith, same)
come_forward g match old (c ∷ cs) new h =
    let next = ap (λ (p : PlaceWith). p.place) h.1.after in
    let rest = come_forward g match h.0 cs new h.2 in
    omega (arith, next, rest)

-- a place does not go back
pub goes_forward : (g : WriterGrounds) (match : Match) (old : PlaceWith) (runs : List PassedRun) (to : ℕ)
    (new : PlaceWith) → GoesTo g match old runs to new → (old.place ≤ to) × (new.place ≡ to)
goes_forward g match old [] to new h =
    let rest = come_forward g match old h.0 new h.1 in let end = h.2 in (omega (arith, rest, end), h.2)
goes_forward g match old (run ∷ runs) to new h =
    let before = come_forward g match old h.2.0 h.0 h.2.1 in
    let begins = h.3.begins in
    let ordered = h.3.ordered in
    let next = ap (λ (p : PlaceWith). p.place) h.3.after in
    let at = h.2.2 in
    let rest = goes_forward g match h.1 runs to new h.5 in
    (omega (arith, before, begins, ordered, next, at, rest.0), rest.1)

-- one that does not go on has passed nothing, and nothing came
pub goes_nowhere : (g : WriterGrounds) (match : Match) (old : PlaceWith) (runs : List PassedRun) (to : ℕ)
    (new : PlaceWith) → GoesTo g match old runs to new → to ≤ old.place → (new ≡ old) × (runs ≡ [])
goes_nowhere g match old [] to new h low = (none h.0 h.1 h.2, refl)
  where
    none : (changes : List Change) → AllCome g match old changes new → new.place ≡ to → new ≡ old
    none [] c e = c
    none (x ∷ xs) c e =
        let next = ap (λ (p : PlaceWith). p.place) c.1.after in
        let rest = come_forward g match c.0 xs new c.2 in
        absurd (omega (arith, next, rest, e, low))
goes_nowhere g match old (run ∷ runs) to new h low =
    let before = come_forward g match old h.2.0 h.0 h.2.1 in
    let begins = h.3.begins in
    let ordered = h.3.ordered in
    let next = ap (λ (p : PlaceWith). p.place) h.3.after in
    let rest = goes_forward g match h.1 runs to new h.5 in
    absurd (omega (arith, before, begins, ordered, next, rest.0, low))

-- one more change comes after these
all_come_more : (g : WriterGrounds) (match : Match) (old : PlaceWith) (changes : List Change) (mid : PlaceWith)
    (change : Change) (new : PlaceWith)
    → AllCome g match old changes mid → Comes g match mid change new → AllCome g match old (changes ++ change ∷ []) new
all_come_more g match old [] mid change new all comes =
    (new, subst (λ (p : PlaceWith). Comes g match p change new) all comes, refl)
all_come_more g match old (c ∷ cs) mid change new all comes =
    (all.0, all.1, all_come_more g match all.0 cs mid change new all.2 comes)

-- a way, and then one more change that comes
pub come_more : (g : WriterGrounds) (match : Match) (old : PlaceWith) (runs : List PassedRun) (to : ℕ) (mid : PlaceWith)
    (change : Change) (new : PlaceWith)
    → mid.place ≡ to → GoesTo g match old runs to mid → Comes g match mid change new
    → GoesTo g match old runs (to + 1) new
come_more g match old [] to mid change new at way comes = (
  way.0 ++ change ∷ [],
  all_come_more g match old way.0 mid change new way.1 comes,
  ap (λ (p : PlaceWith). p.place) comes.after ∙ ap (λ (n : ℕ). n + 1) at,
)
come_more g match old (run ∷ runs) to mid change new at way comes =
    (way.0, way.1, way.2, way.3, way.4, come_more g match way.1 runs to mid change new at way.5 comes)

-- each of the runs ends below the number before this one
abbrev pub EndBelow : List PassedRun → ℕ → Type 0
EndBelow [] place = Unit {0}
EndBelow (run ∷ runs) place = (run.last + 1 < place) × EndBelow runs place

pub end_below_on : (runs : List PassedRun) (place further : ℕ) → place ≤ further → EndBelow runs place
    → EndBelow runs further
end_below_on [] place further le below = tt
end_below_on (run ∷ runs) place further le below =
    let here = below.0 in (omega (arith, here, le), end_below_on runs place further le below.1)

pub end_below_more : (runs : List PassedRun) (run : PassedRun) (place : ℕ) → EndBelow runs place → run.last + 1 < place
    → EndBelow (runs ++ run ∷ []) place
end_below_more [] run place below last = (last, tt)
end_below_more (r ∷ runs) run place below last = (below.0, end_below_more runs run place below.1 last)

apart_more : (first : PassedRun) (runs : List PassedRun) (run : PassedRun) → IsApart first runs
    → first.last + 1 < run.first → IsApart first (runs ++ run ∷ [])
apart_more first [] run apart below = below
apart_more first (next ∷ runs) run apart below = apart

-- a way whose runs all end well below, and then one more run that is passed over
pub pass_more : (g : WriterGrounds) (match : Match) (old : PlaceWith) (runs : List PassedRun) (to : ℕ) (mid : PlaceWith)
    (run : PassedRun) (new : PlaceWith)
    → mid.place ≡ to → EndBelow runs to → GoesTo g match old runs to mid → Passes g match mid run new
    → GoesTo g match old (runs ++ run ∷ []) (run.last + 1) new
pass_more g match old [] to mid run new at below way passes =
    (mid, new, (way.0, way.1, sym passes.begins), passes, tt, ([], refl, ap (λ (p : PlaceWith). p.place) passes.after))
pass_more g match old (r ∷ runs) to mid run new at below way passes =
    let begins = passes.begins in
    let here = below.0 in (
      way.0,
      way.1,
      way.2,
      way.3,
      apart_more r runs run way.4 (omega (arith, begins, at, here)),
      pass_more g match way.1 runs to mid run new at below.1 way.5 passes,
    )
