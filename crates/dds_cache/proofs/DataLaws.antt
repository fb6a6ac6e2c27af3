-- Whether the newest entry has brought a sample, by how many samples are kept before and after it.
use Rattle.std.proofs.Common.{◌≡◌, ℕ, ◌+◌, ◌≤◌, List, [], ◌∷◌, ◌++◌, length, filter, Option, Some, Bool, false, ◌==◌, ◌&&◌, ◌||◌, sym, ap, ◌∙◌, refl, arith}
use Rattle.std.specs.Prelude.{if◌then◌else◌, nat_lt}
use Rattle.std.specs.List.{list_any, All}
use Rattle.std.proofs.lemmas.Bool.{and_right, lt-ltb, le-ltb, eq-eqb}
use Rattle.std.proofs.lemmas.List.{length-append}
use Rattle.std.proofs.lemmas.List.Folds.{list_any-append, list_any_none}
use Rattle.std.proofs.lemmas.List.Elements.{All-head, All-weaker}
use Rattle.dds_base.specs.declared.key.Key.{Key}
use Rattle.dds_base.specs.declared.happening.SamplePosition.{SamplePosition}
use Rattle.dds_base.specs.declared.happening.Happening.{Happening}
use Rattle.dds_base.specs.declared.qos.ReaderQos.{ReaderQos}
use Rattle.dds_base.specs.Presence.{is_present}
use Rattle.dds_base.specs.Life.{up_to}
use Rattle.dds_base.specs.StatusFlags.{brings_sample}
use Rattle.dds_cache.specs.declared.kept.Kept.{Kept}
use Rattle.dds_cache.specs.Finding.{passes}
use Rattle.dds_cache.specs.Kept.{Adds, IsKept, IsNewAt, position_of, positions_in}
use Rattle.dds_cache.proofs.CountLaws.{present-any}
use Rattle.dds_cache.proofs.GroupLaws.{unequal}

-- the newest entry has brought a sample exactly where more samples are kept after it
pub brings-added : (q : ReaderQos) (e : Happening) (h : List Happening) (old new : List Kept)
    → All (λ (k : Kept). position_of k ≤ length h) old → Adds q e h old new → All (IsKept q (e ∷ h)) new
    → ((i : Key) → filter (is_present q (e ∷ h) i) (up_to (length (e ∷ h))) ≡ positions_in q (e ∷ h) i new)
    → brings_sample q (e ∷ h) ≡ nat_lt (length old) (length new)
brings-added q e h old new past adds kept present =
    let g : List Happening = e ∷ h in
    let test : SamplePosition → Bool = λ (s : SamplePosition). s.position == length g in
    let none : list_any (passes q g test) old ≡ false =
    list_any_none (passes q g test) old
    (All-weaker (λ (k : Kept). position_of k ≤ length h) (λ (k : Kept). passes q g test k ≡ false)
    (λ k before. older q e h k before) old past) in
    present-any q g test new kept present
    ∙ (ap (λ (ks : List Kept). list_any (passes q g test) ks) adds.are
    ∙ (list_any-append (passes q g test) old adds.added
    ∙ (ap (λ (b : Bool). b || list_any (passes q g test) adds.added) none
    ∙ (some q e h old adds.added adds.new_are
    ∙ ap (λ (ks : List Kept). nat_lt (length old) (length ks)) (sym adds.are)))))
  where
    older : (q : ReaderQos) (e : Happening) (h : List Happening) (k : Kept) → position_of k ≤ length h
        → (is_present q (e ∷ h) k.sample.key k.sample.position && (k.sample.position == length (e ∷ h))) ≡ false
    older q e h k before =
        ap (λ (b : Bool). is_present q (e ∷ h) k.sample.key k.sample.position && b)
        (unequal k.sample.position (length (e ∷ h)) (λ same. omega (arith, same, before)))
        ∙ and_right (is_present q (e ∷ h) k.sample.key k.sample.position) false refl

    some : (q : ReaderQos) (e : Happening) (h : List Happening) (old added : List Kept)
        → All (IsNewAt q (e ∷ h) (length h + 1)) added
        → list_any (passes q (e ∷ h) (λ (s : SamplePosition). s.position == length (e ∷ h))) added
        ≡ nat_lt (length old) (length (old ++ added))
    some q e h old [] all =
        let none : List Kept = [] in let whole = length-append old none in
        sym (le-ltb (length old) (length (old ++ [])) (omega (arith, whole)))
    some q e h old (k ∷ ks) all =
        let first : IsNewAt q (e ∷ h) (length h + 1) k = All-head (IsNewAt q (e ∷ h) (length h + 1)) k ks all in
        let at : k.sample.position ≡ length (e ∷ h) = omega (arith, first.0) in
        let rest : Bool = list_any (passes q (e ∷ h) (λ (s : SamplePosition). s.position == length (e ∷ h))) ks in
        let whole = length-append old (k ∷ ks) in
        ap (λ (n : ℕ). (is_present q (e ∷ h) k.sample.key n && (k.sample.position == length (e ∷ h))) || rest) first.0
        ∙ (ap (λ (b : Bool). (b && (k.sample.position == length (e ∷ h))) || rest) first.1
        ∙ (ap (λ (n : ℕ). (n == length (e ∷ h)) || rest) at
        ∙ (ap (λ (b : Bool). b || rest) (eq-eqb (length (e ∷ h)) (length (e ∷ h)) refl)
        ∙ sym (lt-ltb (length old) (length (old ++ k ∷ ks)) (omega (arith, whole))))))

-- an entry that adds none leaves what was known
pub none-noted : (n : ℕ) (now before : Option ℕ) → before ≡ (if nat_lt n n then now else before)
none-noted n now before = sym (ap (λ (b : Bool). if b then now else before) (le-ltb n n (omega arith)))

-- what is known by numbers that are the same
pub noted-by : (a b c x y z : ℕ) (now : Option ℕ) → a ≡ x → b ≡ y → c ≡ z
    → (if nat_lt a b then Some c else now) ≡ (if nat_lt x y then Some z else now)
noted-by a b c x y z now first second third =
    ap (λ (n : ℕ). if nat_lt n b then Some c else now) first
    ∙ (ap (λ (n : ℕ). if nat_lt x n then Some c else now) second
    ∙ ap (λ (n : ℕ). if nat_lt x y then Some n else now) third)
