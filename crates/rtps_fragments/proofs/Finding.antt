-- A DATA_FRAG finds its number, or begins it.
use Rattle.std.proofs.Common.{◌≡◌, ◌∙◌, ℕ, List, Option, Some, None, get_or, refl, sym, ap}
use Rattle.std.specs.List.{position}
use Rattle.rtps_fragments.specs.DataFrag.{Fragment}
use Rattle.rtps_fragments.specs.Keeping.{Kept, nothing_of, with_fragments, is_number, begun, heard_at, heard}

same_position : (kept xs : List Kept) (m n : ℕ) (o : Option ℕ) → xs ≡ kept → m ≡ n → o ≡ position (is_number m) xs
    → position (is_number n) kept ≡ o
same_position kept xs m n o same number e =
    sym (e ∙ ap (λ (z : ℕ). position (is_number z) xs) number ∙ ap (position (is_number n)) same)

pub heard_found : (kept xs : List Kept) (f : Fragment) (stamp : Option ℕ) (sn i : ℕ) → xs ≡ kept → sn ≡ f.writer_sn
    → Some i ≡ position (is_number sn) xs → heard_at kept i (get_or kept i (nothing_of f)) f stamp ≡ heard kept f stamp
heard_found kept xs f stamp sn i same number e =
    let found = same_position kept xs sn f.writer_sn (Some i) same number e in
    rw found refl

pub heard_none : (kept xs : List Kept) (f : Fragment) (stamp : Option ℕ) (sn : ℕ) → xs ≡ kept → sn ≡ f.writer_sn
    → None ≡ position (is_number sn) xs → begun kept (with_fragments (nothing_of f) f stamp) ≡ heard kept f stamp
heard_none kept xs f stamp sn same number e =
    let none = same_position kept xs sn f.writer_sn None same number e in
    rw none refl
