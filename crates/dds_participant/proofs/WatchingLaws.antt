-- Laws of what a watcher prints.
use Rattle.std.proofs.Common.{◌≡◌, ◌<◌, ◌+◌, ◌||◌, ℕ, Bool, true, false, List, [], ◌∷◌, ◌++◌, append_assoc, append-nil, ap, cond, filter, get_or, length, refl, subst, sym, take, ◌∙◌}
use Rattle.std.specs.List.{flat_map, list_any}
use Rattle.std.proofs.lemmas.Bool.{false≢true}
use Rattle.std.proofs.lemmas.List.Concat.{flat_map-append}
use Rattle.std.proofs.lemmas.List.Elements.{filter_more}
use Rattle.std.proofs.lemmas.List.{take_more}
use Rattle.std.proofs.lemmas.List.Folds.{list_any_more}
use Rattle.rtps_discovery.specs.declared.row.Row.{Row}
use Rattle.rtps_discovery.specs.declared.row.Told.{Told as Presence}
use Rattle.dds_participant.specs.Watching.{Lists, Presents, PresentsAll}

-- one that passes, or not, after those so far
pub kept_more : {X : Type 0} (f : X → List ℕ) (p : X → Bool) (xs : List X) (i : ℕ) (x : X) (before out new : List ℕ)
    → i < length xs → x ≡ get_or xs i x → out ≡ before ++ flat_map f (filter p (take i xs))
    → new ≡ out ++ flat_map f (cond (p x) (x ∷ []) [])
    → new ≡ before ++ flat_map f (filter p (take (i + 1) xs))
kept_more {X} f p xs i x before out new lt at so_far step =
    let one : X → List X = λ (y : X). cond (p y) (y ∷ []) [] in
    let front : List X = filter p (take i xs) in
    let whole : filter p (take (i + 1) xs) ≡ front ++ one x =
    filter_more p xs i x lt ∙ ap (λ (y : X). front ++ one y) (sym at) in
    step ∙ ap (λ (o : List ℕ). o ++ flat_map f (one x)) so_far
    ∙ append_assoc before (flat_map f front) (flat_map f (one x))
    ∙ ap (λ (t : List ℕ). before ++ t) (sym (flat_map-append f front (one x)) ∙ ap (flat_map f) (sym whole))

-- one that passes is printed
pub kept : {X : Type 0} (f : X → List ℕ) (p : X → Bool) (xs : List X) (i : ℕ) (x : X) (before out new : List ℕ)
    → i < length xs → x ≡ get_or xs i x → out ≡ before ++ flat_map f (filter p (take i xs)) → p x ≡ true
    → new ≡ out ++ f x → new ≡ before ++ flat_map f (filter p (take (i + 1) xs))
kept {X} f p xs i x before out new lt at so_far passes step =
    kept_more f p xs i x before out new lt at so_far
    (step ∙ ap (λ (t : List ℕ). out ++ t) (sym (append-nil (f x)))
    ∙ ap (λ (b : Bool). out ++ flat_map f (cond b (x ∷ []) [])) (sym passes))

-- one that does not, is not
pub dropped : {X : Type 0} (f : X → List ℕ) (p : X → Bool) (xs : List X) (i : ℕ) (x : X) (before out : List ℕ)
    → i < length xs → x ≡ get_or xs i x → out ≡ before ++ flat_map f (filter p (take i xs)) → p x ≡ false
    → out ≡ before ++ flat_map f (filter p (take (i + 1) xs))
dropped {X} f p xs i x before out lt at so_far fails =
    kept_more f p xs i x before out out lt at so_far
    (sym (append-nil out) ∙ ap (λ (b : Bool). out ++ flat_map f (cond b (x ∷ []) [])) (sym fails))

-- ---- what is listed

-- nothing
pub lists_none : (there : Bool) (xs : List ℕ) → Lists there xs xs
lists_none there xs = ([], λ _. refl, sym (append-nil xs))

-- two lists are one
pub lists_both : (a b : Bool) (x y z : List ℕ) → Lists a x y → Lists b y z → Lists (a || b) x z
lists_both true b x y z first second = (
  first.0 ++ second.0,
  λ none. absurd (false≢true (sym none)),
  second.2 ∙ ap (λ (t : List ℕ). t ++ second.0) first.2 ∙ append_assoc x first.0 second.0,
)
lists_both false b x y z first second = (
  first.0 ++ second.0,
  λ none. ap (λ (t : List ℕ). t ++ second.0) (first.1 refl) ∙ second.1 none,
  second.2 ∙ ap (λ (t : List ℕ). t ++ second.0) first.2 ∙ append_assoc x first.0 second.0,
)

-- one more is listed, or is none that is
pub lists_more : {X : Type 0} (p : X → Bool) (xs : List X) (i : ℕ) (x : X) (before out new : List ℕ) → i < length xs
    → x ≡ get_or xs i x → Lists (list_any p (take i xs)) before out → Lists (p x) out new
    → Lists (list_any p (take (i + 1) xs)) before new
lists_more {X} p xs i x before out new lt at so_far step =
    subst (λ (b : Bool). Lists b before new)
    (ap (λ (y : X). list_any p (take i xs) || p y) at ∙ sym (list_any_more p xs i x lt))
    (lists_both (list_any p (take i xs)) (p x) before out new so_far step)

-- ---- who is there

-- one more
pub presents_more : (told : List Presence) (t : Presence) (rows : List Row) (a b c : List ℕ)
    → PresentsAll told rows a b → Presents t rows b c → PresentsAll (told ++ t ∷ []) rows a c
presents_more [] t rows a b c so_far step = (c, subst (λ (x : List ℕ). Presents t rows x c) so_far step, refl)
presents_more (u ∷ told) t rows a b c so_far step =
    (so_far.0, so_far.1, presents_more told t rows so_far.0 b c so_far.2 step)

-- one more of those told
pub presents_next : (told : List Presence) (i : ℕ) (d : Presence) (rows : List Row) (a b c : List ℕ) → i < length told
    → PresentsAll (take i told) rows a b → Presents (get_or told i d) rows b c → PresentsAll (take (i + 1) told) rows a c
presents_next told i d rows a b c lt so_far step =
    subst (λ (all : List Presence). PresentsAll all rows a c) (sym (take_more told i d lt))
    (presents_more (take i told) (get_or told i d) rows a b c so_far step)
