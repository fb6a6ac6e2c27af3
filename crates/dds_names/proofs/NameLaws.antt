-- What is kept of names says what they stand for.
use Rattle.std.proofs.Common.{◌≡◌, ℕ, ◌+◌, ◌-◌, ◌&&◌, ◌||◌, Bool, true, false, not, List, [], ◌∷◌, ◌++◌, length, length-append, map, take, refl, ap, sym, ◌∙◌, arith}
use Rattle.std.specs.Prelude.{IfOk, Result, Err, Ok, if◌then◌else◌}
use Rattle.std.specs.List.{list_all, list_any}
use Rattle.std.proofs.lemmas.List.{length-map, map-append, take-map}
use Rattle.std.proofs.Math.Seq.{take-append_seam}
use Rattle.std.proofs.lemmas.List.Folds.{list_all-map}
use Rattle.dds_machine.specs.Naming.{agree_on_ends, agree_on_peers, is_name_among, is_no_name, with_name}
use Rattle.dds_machine.specs.Part.{Name, same_endpoint}
use Rattle.dds_names.specs.declared.named_end.NamedEnd.{NamedEnd}
use Rattle.dds_names.specs.Known.{goes_with, has_end, name_of, with_end, without_new}

any-map : {X Y : Type 0} (test : X → Bool) (f : Y → X) (ys : List Y)
    → list_any test (map f ys) ≡ list_any (λ y. test (f y)) ys
any-map test f [] = refl
any-map test f (y ∷ ys) = ap (λ (b : Bool). test (f y) || b) (any-map test f ys)

-- whether a name goes with those that are kept
pub goes_is : (kind : ℕ) (known others : List NamedEnd) (name : NamedEnd)
    → goes_with kind known others name ≡ is_name_among kind (map name_of known) (map name_of others) (name_of name)
goes_is kind known others name =
    let n : Name = name_of name in
    ap (λ (b : Bool). not (is_no_name kind n) && b && list_all (λ k. agree_on_peers (name_of k) n) others)
    (sym (list_all-map (λ k. agree_on_peers k n && agree_on_ends k n) name_of known))
    ∙ ap (λ (b : Bool). not (is_no_name kind n)
    && list_all (λ k. agree_on_peers k n && agree_on_ends k n) (map name_of known) && b)
    (sym (list_all-map (λ k. agree_on_peers k n) name_of others))

-- those that are kept, with one more
pub with_end_is : (known : List NamedEnd) (name : NamedEnd)
    → map name_of (with_end known name) ≡ with_name (map name_of known) (name_of name)
with_end_is known name =
    by (list_any (λ (k : NamedEnd). same_endpoint k.end name.end) known)
    ∙ sym (ap (λ (b : Bool). if b then map name_of known else map name_of known ++ name_of name ∷ [])
    (any-map (λ (k : Name). same_endpoint k.end name.end) name_of known))
  where
    by : (b : Bool)
        → map name_of (if b then known else known ++ name ∷ [])
        ≡ (if b then map name_of known else map name_of known ++ name_of name ∷ [])
    by true = refl
    by false = map-append name_of known (name ∷ [])

-- one that is not among them comes last
pub with_new : (known : List NamedEnd) (name : NamedEnd) → has_end known name ≡ false
    → known ++ name ∷ [] ≡ with_end known name
with_new known name is = ap (λ (b : Bool). if b then known else known ++ name ∷ []) (sym is)

-- one that is changes nothing
pub with_known : (known : List NamedEnd) (name : NamedEnd) → has_end known name ≡ true → known ≡ with_end known name
with_known known name is = ap (λ (b : Bool). if b then known else known ++ name ∷ []) (sym is)

-- without the one that came last, they are those of before
pub without_last : {X : Type 0} (known more : List X) (name : X) → more ≡ known ++ name ∷ []
    → without_new true more ≡ known
without_last known more name is =
    ap (λ xs. take (length xs - 1) xs) is
    ∙ (ap (λ n. take n (known ++ name ∷ [])) (shorter (length known) _ (length-append known (name ∷ [])))
    ∙ take-append_seam known (name ∷ []))
  where
    shorter : (n m : ℕ) → m ≡ n + 1 → m - 1 ≡ n
    shorter n m is = omega (arith, is)

-- by what is kept of them
pub without_new_is : (is_new : Bool) (known : List NamedEnd)
    → map name_of (without_new is_new known) ≡ without_new is_new (map name_of known)
without_new_is true known =
    sym (take-map name_of (length known - 1) known)
    ∙ ap (λ n. take (n - 1) (map name_of known)) (sym (length-map known name_of))
without_new_is false known = refl

-- those that were kept before stand for those of before
pub without_before : {E : Type 0} (result : Result Bool E) (old new : List NamedEnd)
    → IfOk result (λ is_new. without_new is_new new ≡ old)
    → IfOk result (λ is_new. without_new is_new (map name_of new) ≡ map name_of old)
without_before (Ok is_new) old new is = sym (without_new_is is_new new) ∙ ap (λ ns. map name_of ns) is
without_before (Err e) old new is = tt
