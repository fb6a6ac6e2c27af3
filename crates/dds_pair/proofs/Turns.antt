-- What a worker leaves, turn by turn.
use Rattle.std.proofs.Common.{◌≡◌, ℕ, ◌+◌, ◌<◌, List, [], ◌∷◌, ◌++◌, length, get_or, take, refl, sym, ap, ◌∙◌, subst, append-nil, arith}
use Rattle.std.specs.List.{FoldsTo}
use Rattle.std.proofs.lemmas.List.{take_more}
use Rattle.dds_trace.specs.declared.trace.Entry.{Entry}
use Rattle.dds_shared.specs.Passes.{Carried, Grows}
use Rattle.dds_shared.proofs.Looks.{Grows-twice}
use Rattle.dds_pair.specs.declared.turn.Turn.{Turn}
use Rattle.dds_pair.specs.Serving.{IsTaken, Receiving, Saying, Sending, Served}

folds_last : {P A : Type 0} (R : P → A → P → Type 0) (p : P) (xs : List A) (x : A) (q r : P) → FoldsTo R p xs q → R q x r
    → FoldsTo R p (xs ++ x ∷ []) r
folds_last R p [] x q r at last = (r, subst (λ z. R z x r) (sym at) last, refl)
folds_last R p (y ∷ ys) x q r all last = (all.0, all.1, folds_last R all.0 ys x q r all.2 last)

-- one element of a list more
pub folds_more : {P A : Type 0} (R : P → A → P → Type 0) (p : P) (xs : List A) (i : ℕ) (x : A) (q r : P) → i < length xs
    → x ≡ get_or xs i x → FoldsTo R p (take i xs) q → R q x r → FoldsTo R p (take (i + 1) xs) r
folds_more {P} {A} R p xs i x q r within is all last =
    let more : take (i + 1) xs ≡ take i xs ++ x ∷ [] =
    take_more xs i x within ∙ ap (λ (y : A). take i xs ++ y ∷ []) (sym is) in
    subst (λ (ys : List A). FoldsTo R p ys r) (sym more) (folds_last R p (take i xs) x q r all last)

-- a pass grows by nothing
pub Grows-none : (was : Carried) → Grows was was []
Grows-none was =
    ap (λ (es : List Entry). let p : Carried = record was { list = es } in p) (sym (append-nil was.list))

-- nothing was done yet
pub served_none : {K G : Type 0} (sends : Sending K) (receives : Receiving K) (says : Saying G) (was : Carried) (link : K) (gate : G)
    → (served : Served sends receives says was was link gate link gate) × (length served.turns ≡ 0)
served_none sends receives says was link gate = (
  record {
    turns = [];
    entries = [];
    list = Grows-none was;
    taken = (refl, refl, refl);
  },
  refl,
)

-- one turn more
pub served_more : {K G : Type 0} (sends : Sending K) (receives : Receiving K) (says : Saying G) (was mid last : Carried)
    (link : K) (gate : G) (before : K) (at : G) (turn : Turn) (to : K) (next : G) (es : List Entry) (count : ℕ)
    → ((served : Served sends receives says was mid link gate before at) × (length served.turns ≡ count))
    → says at turn next → Grows mid last es → IsTaken sends receives mid.seat turn before es to
    → (served : Served sends receives says was last link gate to next) × (length served.turns ≡ count + 1)
served_more {K} {G} sends receives says was mid last link gate before at turn to next es count served said grows taken =
    let done = served.0 in
    let P : ℕ → Type 0 = λ seat. IsTaken sends receives seat turn before es to in (
      record {
        turns = turn ∷ done.turns;
        entries = done.entries ++ es;
        list = Grows-twice was mid last done.entries es done.list grows;
        taken = (before, at, done.entries, es, done.taken, said, subst P (ap (λ (p : Carried). p.seat) done.list) taken, refl);
      },
      omega (arith, served.1),
    )

-- nothing more was done
pub served_same : {K G : Type 0} (sends : Sending K) (receives : Receiving K) (says : Saying G) (was mid last : Carried)
    (link : K) (gate : G) (before : K) (at : G) (to : K) (count : ℕ)
    → ((served : Served sends receives says was mid link gate before at) × (length served.turns ≡ count))
    → last ≡ mid → to ≡ before
    → (served : Served sends receives says was last link gate to at) × (length served.turns ≡ count)
served_same {K} {G} sends receives says was mid last link gate before at to count served same still =
    subst (λ (k : K). (done : Served sends receives says was last link gate k at) × (length done.turns ≡ count)) (sym still)
    (subst (λ (p : Carried). (done : Served sends receives says was p link gate before at) × (length done.turns ≡ count)) (sym same)
    served)
