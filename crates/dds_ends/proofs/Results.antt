-- What is said of an answer, or of other values, said in other words.
use Rattle.std.proofs.Common.{◌≡◌, Result, Ok, Err, refl, sym, subst}
use Rattle.std.specs.Prelude.{IfErr, IfOk, OnOk}

pub ok_as : {X E : Type 0} {P Q : X → Type 0} (result : Result X E) → ((x : X) → P x → Q x) → IfOk result P
    → IfOk result Q
ok_as (Ok x) as_well h = as_well x h
ok_as (Err e) as_well h = h

-- what is said of each value that would be answered is said of the one that is
pub ok_if : {X E : Type 0} {Q : X → Type 0} (result : Result X E) → ((x : X) → result ≡ Ok x → Q x) → IfOk result Q
ok_if (Ok x) each = each x refl
ok_if (Err e) each = tt

-- what is so anyhow is so where a value is answered
pub on_ok : {X E P : Type 0} (result : Result X E) → P → OnOk result P
on_ok (Ok x) h = h
on_ok (Err e) h = tt

pub ok_from : {X E P Q : Type 0} (result : Result X E) → (P → Q) → OnOk result P → OnOk result Q
ok_from (Ok x) as_well h = as_well h
ok_from (Err e) as_well h = tt

pub err_as : {X E : Type 0} {P Q : E → Type 0} (result : Result X E) → ((e : E) → P e → Q e) → IfErr result P
    → IfErr result Q
err_as (Ok x) as_well h = h
err_as (Err e) as_well h = as_well e h

-- what is said of two values is said of two others that they are
pub of_two : {X Y : Type 0} {a b : X} {c d : Y} (P : X → Y → Type 0) → b ≡ a → d ≡ c → P a c → P b d
of_two {a = a} {d = d} P first second h = subst (λ x. P x d) (sym first) (subst (λ y. P a y) (sym second) h)
