-- Lists with one element changed, and the rows of matched pairs.
use Rattle.std.proofs.Common.{◌≡◌, ℕ, zero, suc, ◌==◌, ◌⊎◌, Option, None, ℤ, Bool, true, false, cond, List, [], ◌∷◌, ◌++◌, Some, refl, ap, sym, subst, ◌∙◌, inl, inr, ⊎_elim, arith, length, slice_get, get_or, set, map, eqb-true, length-set, get_or-set_same}
use Rattle.std.specs.Option.{option_map}
use Rattle.std.proofs.lemmas.List.{map-set}
use Rattle.dds_base.specs.declared.endpoint.Endpoint.{Endpoint}
use Rattle.dds_machine.specs.Numbered.{numbered, with_numbered, HasNumber}
use Rattle.dds_machine.specs.Matching.{with_how}
use Rattle.dds_machine.specs.Part.{Attachment, Begun, with_begun, same_endpoint, ReaderProxy, WriterProxy, row_of, with_row, acknowledged_of, with_acknowledged, place_of, with_place, with_heard, IsBelow, IsAtMost, NoLess}

get-cases : {X : Type 0} (xs : List X) (i : ℕ) (x : X) (j : ℕ) (d : X)
    → (get_or (set xs i x) j d ≡ get_or xs j d) ⊎ ((j ≡ i) × (get_or (set xs i x) j d ≡ x))
get-cases [] i x j d = inl refl
get-cases (a ∷ as') zero x zero d = inr (refl, refl)
get-cases (a ∷ as') zero x (suc j) d = inl refl
get-cases (a ∷ as') (suc i) x zero d = inl refl
get-cases (a ∷ as') (suc i) x (suc j) d = ⊎_elim (λ s. inl s) (λ o. inr (ap suc o.0, o.1)) (get-cases as' i x j d)

-- after a change of one element, another is as before, and that one is the new one
pub numbered-cases : {X : Type 0} (xs : List X) (i : ℕ) (x : X) (j : ℕ) (d : X)
    → (numbered (with_numbered xs i x) j d ≡ numbered xs j d) ⊎ ((j ≡ i) × (numbered (with_numbered xs i x) j d ≡ x))
numbered-cases xs zero x j d = inl refl
numbered-cases xs (suc i) x zero d = inl refl
numbered-cases xs (suc i) x (suc j) d = ⊎_elim (λ s. inl s) (λ o. inr (ap suc o.0, o.1)) (get-cases xs i x j d)

get-map : {X Y : Type 0} (f : X → Y) (xs : List X) (i : ℕ) (d : X) → get_or (map f xs) i (f d) ≡ f (get_or xs i d)
get-map f [] i d = refl
get-map f (x ∷ xs) zero d = refl
get-map f (x ∷ xs) (suc i) d = get-map f xs i d

pub numbered-map : {X Y : Type 0} (f : X → Y) (xs : List X) (i : ℕ) (d : X)
    → numbered (map f xs) i (f d) ≡ f (numbered xs i d)
numbered-map f xs zero d = refl
numbered-map f xs (suc i) d = get-map f xs i d

pub map-with_numbered : {X Y : Type 0} (f : X → Y) (xs : List X) (i : ℕ) (x : X)
    → map f (with_numbered xs i x) ≡ with_numbered (map f xs) i (f x)
map-with_numbered f xs zero x = refl
map-with_numbered f xs (suc i) x = map-set f xs i x

pub length-with_numbered : {X : Type 0} (xs : List X) (i : ℕ) (x : X) → length (with_numbered xs i x) ≡ length xs
length-with_numbered xs zero x = refl
length-with_numbered xs (suc i) x = length-set xs i x

pub numbered-same : {X : Type 0} (xs : List X) (i : ℕ) (x d : X) → HasNumber xs i
    → numbered (with_numbered xs i x) i d ≡ x
numbered-same xs zero x d h = absurd (omega (arith, h.0))
numbered-same xs (suc i) x d h = get_or-set_same xs i x d (omega (arith, h.1))

get_there : {X : Type 0} (xs : List X) (i : ℕ) (d : X) → HasNumber xs (suc i) ⊎ (get_or xs i d ≡ d)
get_there [] i d = inr refl
get_there (x ∷ xs) zero d = inl (omega arith, omega arith)
get_there (x ∷ xs) (suc i) d =
    ⊎_elim (λ h. let lt = h.1 in inl (omega arith, omega (arith, lt))) (λ e. inr e) (get_there xs i d)

-- there is an element of this number, or else the one given is answered
pub number_there : {X : Type 0} (xs : List X) (n : ℕ) (d : X) → HasNumber xs n ⊎ (numbered xs n d ≡ d)
number_there xs zero d = inr refl
number_there xs (suc i) d = get_there xs i d

pub append_nothing : {X : Type 0} (xs : List X) → xs ++ [] ≡ xs
append_nothing [] = refl
append_nothing (x ∷ xs) = ap (λ ys. x ∷ ys) (append_nothing xs)

pub slice_get-append : {X : Type 0} (xs ys : List X) (i : ℕ) (x : X) → slice_get xs i ≡ Some x
    → slice_get (xs ++ ys) i ≡ Some x
slice_get-append [] ys i x h = cc
slice_get-append (a ∷ as') ys zero x h = h
slice_get-append (a ∷ as') ys (suc i) x h = slice_get-append as' ys i x h

-- endpoints

endpoint : ℕ → ℕ → Endpoint
endpoint peer number = record { peer = peer; number = number }

both : (a b : Bool) → cond a b false ≡ true → (a ≡ true) × (b ≡ true)
both true b h = (refl, h)
both false b h = cc

pub same_is : (a b : Endpoint) → same_endpoint a b ≡ true → a ≡ b
unfolding endpoint
same_is a b h =
    let e = both (a.peer == b.peer) (a.number == b.number) h in
    ap (λ (x : ℕ). endpoint x a.number) (eqb-true a.peer b.peer e.0)
    ∙ ap (λ (y : ℕ). endpoint b.peer y) (eqb-true a.number b.number e.1)

-- a mapped list, past whose end nothing is
get-map-cases : {X : Type 0} (f : X → X) (xs : List X) (i : ℕ) (d : X)
    → (get_or (map f xs) i d ≡ f (get_or xs i d)) ⊎ ((get_or (map f xs) i d ≡ d) × (get_or xs i d ≡ d))
get-map-cases f [] i d = inr (refl, refl)
get-map-cases f (x ∷ xs) zero d = inl refl
get-map-cases f (x ∷ xs) (suc i) d = get-map-cases f xs i d

pub numbered-map-cases : {X : Type 0} (f : X → X) (xs : List X) (i : ℕ) (d : X)
    → (numbered (map f xs) i d ≡ f (numbered xs i d)) ⊎ ((numbered (map f xs) i d ≡ d) × (numbered xs i d ≡ d))
numbered-map-cases f xs zero d = inr (refl, refl)
numbered-map-cases f xs (suc i) d = get-map-cases f xs i d

-- numbers that may be there

pub no_less_same : (a : Option ℕ) → NoLess a a
no_less_same None = tt
no_less_same (Some n) = omega arith

pub at_most_on : (n : ℕ) (a b : Option ℕ) → IsAtMost n a → NoLess a b → IsAtMost n b
at_most_on n None b h le = absurd h
at_most_on n (Some x) None h le = absurd le
at_most_on n (Some x) (Some y) h le = omega (arith, h, le)

pub below_on : (n : ℕ) (a b : Option ℕ) → IsBelow n a → NoLess a b → IsBelow n b
below_on n None b h le = absurd h
below_on n (Some x) None h le = absurd le
below_on n (Some x) (Some y) h le = omega (arith, h, le)

pub no_less_on : (a b c : Option ℕ) → NoLess a b → NoLess b c → NoLess a c
no_less_on None b c f g = tt
no_less_on (Some x) b c f g = at_most_on x b c f g

pub none_on : (a b : Option ℕ) → NoLess a b → b ≡ None → a ≡ None
none_on None b le e = refl
none_on (Some x) None le e = absurd le
none_on (Some x) (Some y) le e = absurd cc

-- rows of matched ends

hit_or_not : {X : Type 0} (a : Bool) (x y : X) (rest : Option X) (V : Type 0) → (a ≡ true → V)
    → (cond a (Some y) rest ≡ cond a (Some x) rest) ⊎ (V × (cond a (Some y) rest ≡ Some y))
hit_or_not true x y rest V f = inr (f refl, refl)
hit_or_not false x y rest V f = inl refl

row_step : {X : Type 0} (name : X → Endpoint) (change : X → X) (x : X) (xs : List X) (w v : Endpoint) (b : Bool)
    → name (change x) ≡ name x → same_endpoint (name x) w ≡ b
    → (row_of name (with_row name change xs w) v ≡ row_of name xs v)
    ⊎ ((v ≡ w) × (row_of name (with_row name change xs w) v ≡ option_map change (row_of name xs w)))
    → (row_of name (cond b (change x ∷ xs) (x ∷ with_row name change xs w)) v ≡ row_of name (x ∷ xs) v)
    ⊎ ((v ≡ w) × (row_of name (cond b (change x ∷ xs) (x ∷ with_row name change xs w)) v
    ≡ option_map change (cond b (Some x) (row_of name xs w))))
row_step {X = X} name change x xs w v true kept is h =
    let to : row_of name (change x ∷ xs) v ≡ cond (same_endpoint (name x) v) (Some (change x)) (row_of name xs v) =
    ap (λ (e : Endpoint). cond (same_endpoint e v) (Some (change x)) (row_of name xs v)) kept in
    ⊎_elim (λ e. inl (to ∙ e)) (λ o. inr (o.0, to ∙ o.1))
    (hit_or_not (same_endpoint (name x) v) x (change x) (row_of name xs v) (v ≡ w)
    (λ f. sym (same_is (name x) v f) ∙ same_is (name x) w is))
row_step {X = X} name change x xs w v false kept is h =
    ⊎_elim (λ e. inl (ap (λ (o : Option X). cond (same_endpoint (name x) v) (Some x) o) e))
    (λ o.
    let miss : same_endpoint (name x) v ≡ false = ap (λ (e : Endpoint). same_endpoint (name x) e) o.0 ∙ is in
    inr (o.0, ap (λ (c : Bool). cond c (Some x) (row_of name (with_row name change xs w) v)) miss ∙ o.1)) h

-- after a change of one row, another is as before, and that one is the changed one
pub row-cases : {X : Type 0} (name : X → Endpoint) (change : X → X) → ((x : X) → name (change x) ≡ name x)
    → (xs : List X) (w v : Endpoint)
    → (row_of name (with_row name change xs w) v ≡ row_of name xs v)
    ⊎ ((v ≡ w) × (row_of name (with_row name change xs w) v ≡ option_map change (row_of name xs w)))
row-cases name change kept [] w v = inl refl
row-cases name change kept (x ∷ xs) w v =
    row_step name change x xs w v (same_endpoint (name x) w) (kept x) refl (row-cases name change kept xs w v)

hit_step : {X : Type 0} (name : X → Endpoint) (change : X → X) (x : X) (xs : List X) (w : Endpoint) (b : Bool)
    → name (change x) ≡ name x → same_endpoint (name x) w ≡ b
    → row_of name (with_row name change xs w) w ≡ option_map change (row_of name xs w)
    → row_of name (cond b (change x ∷ xs) (x ∷ with_row name change xs w)) w
    ≡ option_map change (cond b (Some x) (row_of name xs w))
hit_step name change x xs w true kept is h =
    ap (λ (e : Endpoint). cond (same_endpoint e w) (Some (change x)) (row_of name xs w)) kept
    ∙ ap (λ (c : Bool). cond c (Some (change x)) (row_of name xs w)) is
hit_step name change x xs w false kept is h =
    ap (λ (c : Bool). cond c (Some x) (row_of name (with_row name change xs w) w)) is ∙ h

-- the row that was to be changed is
pub row-hits : {X : Type 0} (name : X → Endpoint) (change : X → X) → ((x : X) → name (change x) ≡ name x)
    → (xs : List X) (w : Endpoint) → row_of name (with_row name change xs w) w ≡ option_map change (row_of name xs w)
row-hits name change kept [] w = refl
row-hits name change kept (x ∷ xs) w =
    hit_step name change x xs w (same_endpoint (name x) w) (kept x) refl (row-hits name change kept xs w)

length_step : {X : Type 0} (name : X → Endpoint) (change : X → X) (x : X) (xs : List X) (w : Endpoint) (b : Bool)
    → length (with_row name change xs w) ≡ length xs
    → length (cond b (change x ∷ xs) (x ∷ with_row name change xs w)) ≡ length (x ∷ xs)
length_step name change x xs w true h = refl
length_step name change x xs w false h = omega (arith, h)

pub length-with_row : {X : Type 0} (name : X → Endpoint) (change : X → X) (xs : List X) (w : Endpoint)
    → length (with_row name change xs w) ≡ length xs
length-with_row name change [] w = refl
length-with_row name change (x ∷ xs) w =
    length_step name change x xs w (same_endpoint (name x) w) (length-with_row name change xs w)

-- a field that the change sets
set_field : {X V : Type 0} (change : X → X) (field : X → V) (to : V) → ((x : X) → field (change x) ≡ to)
    → (o : Option X) (from : V) → option_map field o ≡ Some from → option_map field (option_map change o) ≡ Some to
set_field change field to sets None from h = cc
set_field change field to sets (Some x) from h = ap Some (sets x)

-- after it, the field of another row is as before, and that of this one is what was set
field-cases : {X V : Type 0} (name : X → Endpoint) (change : X → X) (field : X → V) (to : V)
    → ((x : X) → name (change x) ≡ name x)
    → ((x : X) → field (change x) ≡ to) → (rows : List X) (w : Endpoint) (from : V) (v : Endpoint)
    → option_map field (row_of name rows w) ≡ Some from
    → (option_map field (row_of name (with_row name change rows w) v) ≡ option_map field (row_of name rows v))
    ⊎ ((v ≡ w) × (option_map field (row_of name (with_row name change rows w) v) ≡ Some to))
field-cases {X = X} name change field to kept sets rows w from v h =
    ⊎_elim (λ e. inl (ap (λ (o : Option X). option_map field o) e))
    (λ s. inr (
      s.0,
      ap (λ (o : Option X). option_map field o) s.1
          ∙ set_field change field to sets (row_of name rows w) from h,
    ))
    (row-cases name change kept rows w v)

field-hits : {X V : Type 0} (name : X → Endpoint) (change : X → X) (field : X → V) (to : V)
    → ((x : X) → name (change x) ≡ name x)
    → ((x : X) → field (change x) ≡ to) → (rows : List X) (w : Endpoint) (from : V)
    → option_map field (row_of name rows w) ≡ Some from
    → option_map field (row_of name (with_row name change rows w) w) ≡ Some to
field-hits {X = X} name change field to kept sets rows w from h =
    ap (λ (o : Option X). option_map field o) (row-hits name change kept rows w)
    ∙ set_field change field to sets (row_of name rows w) from h

pub place-cases : (rows : List WriterProxy) (w : Endpoint) (from to : ℕ) (v : Endpoint) → place_of rows w ≡ Some from
    → (place_of (with_place rows w to) v ≡ place_of rows v) ⊎ ((v ≡ w) × (place_of (with_place rows w to) v ≡ Some to))
place-cases rows w from to v h =
    field-cases (λ (p : WriterProxy). p.writer) (λ (p : WriterProxy). record p { place = to })
    (λ (p : WriterProxy). p.place) to
    (λ p. refl) (λ p. refl) rows w from v h

pub place-hits : (rows : List WriterProxy) (w : Endpoint) (from to : ℕ) → place_of rows w ≡ Some from
    → place_of (with_place rows w to) w ≡ Some to
place-hits rows w from to h =
    field-hits (λ (p : WriterProxy). p.writer) (λ (p : WriterProxy). record p { place = to })
    (λ (p : WriterProxy). p.place) to
    (λ p. refl) (λ p. refl) rows w from h

pub begun-cases : (rows : List WriterProxy) (w : Endpoint) (from to : ℕ) (v : Endpoint) → place_of rows w ≡ Some from
    → (place_of (with_begun rows w to) v ≡ place_of rows v) ⊎ ((v ≡ w) × (place_of (with_begun rows w to) v ≡ Some to))
begun-cases rows w from to v h =
    field-cases (λ (p : WriterProxy). p.writer) (λ (p : WriterProxy). record p { place = to; how = Begun })
    (λ (p : WriterProxy). p.place) to
    (λ p. refl) (λ p. refl) rows w from v h

pub begun-hits : (rows : List WriterProxy) (w : Endpoint) (from to : ℕ) → place_of rows w ≡ Some from
    → place_of (with_begun rows w to) w ≡ Some to
begun-hits rows w from to h =
    field-hits (λ (p : WriterProxy). p.writer) (λ (p : WriterProxy). record p { place = to; how = Begun })
    (λ (p : WriterProxy). p.place) to
    (λ p. refl) (λ p. refl) rows w from h

-- a field that the change leaves
same_field : {X V : Type 0} (change : X → X) (field : X → V) → ((x : X) → field (change x) ≡ field x) → (o : Option X)
    → option_map field (option_map change o) ≡ option_map field o
same_field change field stays None = refl
same_field change field stays (Some x) = ap Some (stays x)

-- after it, the field of each row is as before
pub field-stays : {X V : Type 0} (name : X → Endpoint) (change : X → X) (field : X → V)
    → ((x : X) → name (change x) ≡ name x) → ((x : X) → field (change x) ≡ field x)
    → (rows : List X) (w v : Endpoint)
    → option_map field (row_of name (with_row name change rows w) v) ≡ option_map field (row_of name rows v)
field-stays {X = X} name change field kept stays rows w v =
    ⊎_elim (λ e. ap (λ (o : Option X). option_map field o) e)
    (λ s.
    ap (λ (o : Option X). option_map field o) s.1
    ∙ (same_field change field stays (row_of name rows w)
    ∙ ap (λ (e : Endpoint). option_map field (row_of name rows e)) (sym s.0)))
    (row-cases name change kept rows w v)

-- a hearing changes no place
pub place-heard : (rows : List WriterProxy) (w : Endpoint) (count : ℤ) (v : Endpoint)
    → place_of (with_heard rows w count) v ≡ place_of rows v
place-heard rows w count v =
    field-stays (λ (p : WriterProxy). p.writer) (λ (p : WriterProxy). record p { heard = Some count })
    (λ (p : WriterProxy). p.place) (λ p. refl) (λ p. refl) rows w v

-- nor does how the reader stands to its writer
pub place-how : (rows : List WriterProxy) (w : Endpoint) (how : Attachment) (v : Endpoint)
    → place_of (with_how rows w how) v ≡ place_of rows v
place-how rows w how v =
    field-stays (λ (p : WriterProxy). p.writer) (λ (p : WriterProxy). record p { how = how })
    (λ (p : WriterProxy). p.place) (λ p. refl) (λ p. refl) rows w v

-- with a row more at the end another name has the row that it had, and a name without one may have that
pub row-append : {X : Type 0} (name : X → Endpoint) (xs : List X) (x : X) (v : Endpoint)
    → (row_of name (xs ++ x ∷ []) v ≡ row_of name xs v)
    ⊎ ((row_of name xs v ≡ None) × (row_of name (xs ++ x ∷ []) v ≡ Some x))
row-append {X = X} name [] x v = by (same_endpoint (name x) v)
  where
    by : (b : Bool)
        → ◌≡◌ {A = Option X} (cond b (Some x) None) None
        ⊎ (◌≡◌ {A = Option X} None None × (cond b (Some x) None ≡ Some x))
    by true = inr (refl, refl)
    by false = inl refl
row-append {X = X} name (y ∷ ys) x v = by (same_endpoint (name y) v) (row-append name ys x v)
  where
    by : (b : Bool)
        → (row_of name (ys ++ x ∷ []) v ≡ row_of name ys v)
        ⊎ ((row_of name ys v ≡ None) × (row_of name (ys ++ x ∷ []) v ≡ Some x))
        → (cond b (Some y) (row_of name (ys ++ x ∷ []) v) ≡ cond b (Some y) (row_of name ys v))
        ⊎ ((cond b (Some y) (row_of name ys v) ≡ None) × (cond b (Some y) (row_of name (ys ++ x ∷ []) v) ≡ Some x))
    by true h = inl refl
    by false h = h

-- no place goes back by a row more
pub place-append : (rows : List WriterProxy) (new : WriterProxy) (v : Endpoint)
    → NoLess (place_of rows v) (place_of (rows ++ new ∷ []) v)
place-append rows new v =
    let place : Option WriterProxy → Option ℕ = λ o. option_map (λ (p : WriterProxy). p.place) o in
    ⊎_elim
    (λ e. subst (λ (o : Option WriterProxy). NoLess (place_of rows v) (place o)) (sym e)
    (no_less_same (place_of rows v)))
    (λ s. subst (λ (o : Option WriterProxy). NoLess (place o) (place_of (rows ++ new ∷ []) v)) (sym s.0) tt)
    (row-append (λ (p : WriterProxy). p.writer) rows new v)

-- and leaves each that is there
pub place-stays : (rows : List WriterProxy) (new : WriterProxy) (v : Endpoint) (p : ℕ) → place_of rows v ≡ Some p
    → place_of (rows ++ new ∷ []) v ≡ Some p
place-stays rows new v p h =
    let place : Option WriterProxy → Option ℕ = λ o. option_map (λ (q : WriterProxy). q.place) o in
    ⊎_elim (λ e. ap place e ∙ h)
    (λ s. let none = ap place s.0 in absurd (let no : ◌≡◌ {A = Option ℕ} None (Some p) = sym none ∙ h in cc))
    (row-append (λ (q : WriterProxy). q.writer) rows new v)

pub acknowledged-cases : (rows : List ReaderProxy) (r : Endpoint) (from to : ℕ) (v : Endpoint)
    → acknowledged_of rows r ≡ Some from
    → (acknowledged_of (with_acknowledged rows r to) v ≡ acknowledged_of rows v)
    ⊎ ((v ≡ r) × (acknowledged_of (with_acknowledged rows r to) v ≡ Some to))
acknowledged-cases rows r from to v h =
    field-cases (λ (p : ReaderProxy). p.reader) (λ (p : ReaderProxy). record p { acknowledged = to })
    (λ (p : ReaderProxy). p.acknowledged) to (λ p. refl) (λ p. refl) rows r from v h

pub acknowledged-hits : (rows : List ReaderProxy) (r : Endpoint) (from to : ℕ) → acknowledged_of rows r ≡ Some from
    → acknowledged_of (with_acknowledged rows r to) r ≡ Some to
acknowledged-hits rows r from to h =
    field-hits (λ (p : ReaderProxy). p.reader) (λ (p : ReaderProxy). record p { acknowledged = to })
    (λ (p : ReaderProxy). p.acknowledged) to (λ p. refl) (λ p. refl) rows r from h
