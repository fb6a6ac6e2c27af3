-- The changes of a peer's writers can be told by what a DATA says: at its opening, and after each thing that happens
-- there.
use Rattle.std.proofs.Common.{◌≡◌, ◌⊎◌, ℕ, zero, suc, ◌+◌, ◌-◌, Bool, true, false, List, [], ◌∷◌, ◌++◌, Some, None, map, get_or, slice_get, refl, ap, sym, ◌∙◌, subst, inl, inr, ⊎_elim, arith, nat_lt}
use Rattle.std.specs.Prelude.{if◌then◌else◌}
use Rattle.std.proofs.lemmas.Bool.Decides.{nat_tests}
use Rattle.std.proofs.lemmas.Option.{same_Some}
use Rattle.dds_base.specs.declared.change.Change.{Change}
use Rattle.dds_base.specs.declared.config.PeerConfig.{PeerConfig}
use Rattle.dds_base.specs.declared.config.WriterConfig.{WriterConfig}
use Rattle.dds_base.specs.Kept.{change_at}
use Rattle.dds_base.specs.Written.{Written, Registered, Changed}
use Rattle.dds_machine.specs.Ticks.{writers_ticked, after_tick}
use Rattle.dds_machine.specs.Calls.{with_written}
use Rattle.dds_protocol.specs.Dues.{IsTellable, AreTellable}
use Rattle.dds_machine.specs.Opening.{part_from, writer_from}
use Rattle.dds_machine.specs.Part.{Part, Writer, no_writer, own_writer, at_writer, writer_changes}
use Rattle.dds_protocol.specs.Peer.{Peer}
use Rattle.dds_machine.proofs.Tables.{numbered-cases}
use Rattle.dds_core.proofs.Ends.{entered_at}

-- each of these changes is such a one
abbrev AreTold : List Change → Type 0
AreTold changes = (number : ℕ) (change : Change) → change_at changes number ≡ Some change → IsTellable change

-- what happens at a writer, where it is a change that can be told
abbrev pub IsTold : Written → Type 0
IsTold (Changed change) = IsTellable change
IsTold entry = Unit {0}

last_or_before : (xs : List Change) (c : Change) (i : ℕ) (x : Change) → slice_get (xs ++ c ∷ []) i ≡ Some x
    → (slice_get xs i ≡ Some x) ⊎ (c ≡ x)
last_or_before [] c zero x at = inr (same_Some c x at)
last_or_before [] c (suc i) x at = absurd cc
last_or_before (y ∷ ys) c zero x at = inl at
last_or_before (y ∷ ys) c (suc i) x at = last_or_before ys c i x at

-- a change by its number is one by its index
by_index : (xs : List Change) (n : ℕ) → change_at xs (suc n) ≡ slice_get xs n
by_index xs n =
    let positive : nat_lt 0 (suc n) ≡ true = grind (arith, nat_tests) in
    let index : suc n - 1 ≡ n = omega arith in
    ap (λ (b : Bool). if b then slice_get xs (suc n - 1) else None) positive ∙ ap (λ (m : ℕ). slice_get xs m) index

told_one_more : (xs : List Change) (c : Change) → AreTold xs → IsTellable c → AreTold (xs ++ c ∷ [])
told_one_more xs c all one zero x at = none (nat_lt 0 0) (grind (arith, nat_tests)) at
  where
    none : (b : Bool) → b ≡ false → (if b then slice_get (xs ++ c ∷ []) (0 - 1) else None) ≡ Some x → IsTellable x
    none false is h = absurd cc
    none true is h = absurd cc
told_one_more xs c all one (suc n) x at =
    ⊎_elim (λ before. all (suc n) x (by_index xs n ∙ before)) (λ same. subst IsTellable same one)
    (last_or_before xs c n x (sym (by_index (xs ++ c ∷ []) n) ∙ at))

told_more : (w : Writer) (entry : Written) → AreTold (writer_changes w) → IsTold entry
    → AreTold (writer_changes (with_written w entry))
told_more w (Changed change) all one = told_one_more (writer_changes w) change all one
told_more w (Registered key) all one = all
told_more w entry all one = all

-- another thing happened at one of the writers
pub tellable_entered : (peer : Peer) (writer : ℕ) (entry : Written) → AreTellable peer.part → IsTold entry
    → AreTellable (entered_at peer writer entry).part
tellable_entered peer writer entry all one k =
    let ws : List Writer = peer.part.rtps.writers in
    let w : Writer = own_writer peer.part writer in
    ⊎_elim
    (λ e. subst (λ (x : Writer). AreTold (writer_changes x)) (sym e) (all k))
    (λ s. subst (λ (x : Writer). AreTold (writer_changes x)) (sym s.1) (told_more w entry (all writer) one))
    (numbered-cases ws writer (with_written w entry) k no_writer)

-- the time went on
numbered_ticked : (now : ℕ) (asked : ℕ → Bool) (n : ℕ) (ws : List Writer) (k : ℕ)
    → writer_changes (get_or (writers_ticked now asked n ws) k no_writer) ≡ writer_changes (get_or ws k no_writer)
numbered_ticked now asked n [] k = refl
numbered_ticked now asked n (w ∷ ws) zero = refl
numbered_ticked now asked n (w ∷ ws) (suc k) = numbered_ticked now asked (n + 1) ws k

pub tellable_ticked : (part : Part) (asked : ℕ → Bool) (now : ℕ) → AreTellable part
    → AreTellable (after_tick asked part now)
tellable_ticked part asked now all zero = all zero
tellable_ticked part asked now all (suc k) =
    subst (λ (cs : List Change). AreTold cs) (sym (numbered_ticked now asked 1 part.rtps.writers k)) (all (suc k))

-- nothing was written yet
none_written : (first : ℕ) (peers : List PeerConfig) (ws : List WriterConfig) (k : ℕ)
    → writer_changes (get_or (map (writer_from first peers) ws) k no_writer) ≡ []
none_written first peers [] k = refl
none_written first peers (w ∷ ws) zero = refl
none_written first peers (w ∷ ws) (suc k) = none_written first peers ws k

none_told : (changes : List Change) → changes ≡ [] → AreTold changes
none_told changes none n c at = nothing (nat_lt 0 n) (subst (λ (cs : List Change). change_at cs n ≡ Some c) none at)
  where
    nothing : (b : Bool) → (if b then slice_get {X = Change} [] (n - 1) else None) ≡ Some c → IsTellable c
    nothing true h = absurd cc
    nothing false h = absurd cc

pub tellable_opening : (first : ℕ) (peers : List PeerConfig) (own : PeerConfig)
    → AreTellable (part_from first peers own)
tellable_opening first peers own zero = none_told [] refl
tellable_opening first peers own (suc k) = none_told _ (none_written first peers own.writers k)

-- one of the writers became another one with the same changes
pub tellable_put : (part : Part) (writer : ℕ) (w : Writer) → AreTellable part
    → writer_changes w ≡ writer_changes (own_writer part writer) → AreTellable (at_writer part writer w)
tellable_put part writer w all same k =
    ⊎_elim
    (λ e. subst (λ (x : Writer). AreTold (writer_changes x)) (sym e) (all k))
    (λ s. subst (λ (x : Writer). AreTold (writer_changes x)) (sym s.1)
    (subst (λ (cs : List Change). AreTold cs) (sym same) (all writer)))
    (numbered-cases part.rtps.writers writer w k no_writer)
