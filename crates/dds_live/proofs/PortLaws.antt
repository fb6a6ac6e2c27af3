-- Laws of the ports of a machine.
use Rattle.std.proofs.Common.{◌≡◌, ◌+◌, ℕ, List, [], ◌∷◌, ◌++◌, append_assoc, ap, map, sym, zero-add, ◌∙◌}
use Rattle.std.specs.List.{range_with_len}
use Rattle.std.proofs.lemmas.List.FromFn.{map-range_with_len_more}
use Rattle.rtps_announcements.specs.declared.locator.Locator.{Locator}
use Rattle.dds_live.specs.Ports.{unicast_port}

-- one port more
pub put_more : (address : List ℕ) (domain n port : ℕ) (before out new : List Locator)
    → out ≡ before ++ map (λ (index : ℕ). record { address = address; port = unicast_port domain index }) (range_with_len 0 n)
    → port ≡ unicast_port domain n → new ≡ out ++ record { address = address; port = port } ∷ []
    → new ≡ before
    ++ map (λ (index : ℕ). record { address = address; port = unicast_port domain index }) (range_with_len 0 (n + 1))
put_more address domain n port before out new so_far is_port step =
    let at : ℕ → Locator = λ index. record { address = address; port = unicast_port domain index } in
    let made : ℕ → Locator = λ p. record { address = address; port = p } in
    step ∙ ap (λ (o : List Locator). o ++ made port ∷ []) so_far
    ∙ ap (λ (p : ℕ). (before ++ map at (range_with_len 0 n)) ++ made p ∷ []) is_port
    ∙ append_assoc before (map at (range_with_len 0 n)) (at n ∷ [])
    ∙ ap (λ (t : List Locator). before ++ t) (sym (map-range_with_len_more at 0 n n (zero-add n)))
