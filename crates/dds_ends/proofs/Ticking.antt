-- The writers of a peer whose time goes on.
use Rattle.std.proofs.Common.{◌≡◌, Bool, ℕ, zero, suc, ◌+◌, ◌<◌, ◌≤◌, List, [], ◌∷◌, Some, map, set, drop, length, get_or, slice_get, refl, ap, sym, ◌∙◌, subst, arith}
use Rattle.std.proofs.lemmas.Option.{same_Some}
use Rattle.dds_base.specs.declared.endpoint.Endpoint.{Endpoint}
use Rattle.dds_machine.specs.Part.{Writer, no_writer}
use Rattle.dds_machine.specs.Ticks.{ticked, writers_ticked as all_ticked}
use Rattle.dds_protocol.specs.Contact.{Contact}
use Rattle.dds_ends.specs.Kept.{WriterKept}
use Rattle.dds_ends.specs.Identity.{WriterIdentity, writer_identity}
use Rattle.dds_ends.specs.Standing.{WriterStands, WritersStand}
use Rattle.dds_ends.specs.Stepping.{Ticks, AllTick, some_await, unasked}

-- the first of these writers have ticked, and the others are as they were
abbrev pub TickedTo : ℕ → ℕ → List WriterKept → List WriterKept → Type 0
TickedTo now zero old new = new ≡ old
TickedTo now (suc n) [] new = new ≡ []
TickedTo now (suc n) (k ∷ ks) [] = ⊥
TickedTo now (suc n) (k ∷ ks) (x ∷ xs) = Ticks k now x × TickedTo now n ks xs

-- the others are as they were
pub untouched : (now n : ℕ) (old new : List WriterKept) (d : WriterKept) → n < length old → TickedTo now n old new
    → get_or new n d ≡ get_or old n d
untouched now zero old new d lt h = ap (λ (ks : List WriterKept). get_or ks 0 d) h
untouched now (suc n) [] new d lt h = absurd (omega (arith, lt))
untouched now (suc n) (k ∷ ks) [] d lt h = absurd h
untouched now (suc n) (k ∷ ks) (x ∷ xs) d lt h = untouched now n ks xs d (omega (arith, lt)) h.1

more_ticked : (now n : ℕ) (old new : List WriterKept) (d k : WriterKept) → n < length old → TickedTo now n old new
    → Ticks (get_or new n d) now k → TickedTo now (suc n) old (set new n k)
more_ticked now zero [] new d k lt h t = absurd (omega (arith, lt))
more_ticked now zero (x ∷ xs) [] d k lt h t = absurd cc
more_ticked now zero (x ∷ xs) (y ∷ ys) d k lt h t = (
  subst (λ (z : WriterKept). Ticks z now k)
      (ap (λ (zs : List WriterKept). get_or zs 0 d) h) t,
  ap (λ (zs : List WriterKept). drop 1 zs) h,
)
more_ticked now (suc n) [] new d k lt h t = absurd (omega (arith, lt))
more_ticked now (suc n) (x ∷ xs) [] d k lt h t = absurd h
more_ticked now (suc n) (x ∷ xs) (y ∷ ys) d k lt h t = (h.0, more_ticked now n xs ys d k (omega (arith, lt)) h.1 t)

pub ticked_more : (now n : ℕ) (old new : List WriterKept) (d k : WriterKept) → n < length old → TickedTo now n old new
    → Ticks (get_or new n d) now k → TickedTo now (n + 1) old (set new n k)
ticked_more now n old new d k lt h t =
    let next : suc n ≡ n + 1 = omega arith in subst (λ (m : ℕ). TickedTo now m old (set new n k)) next
    (more_ticked now n old new d k lt h t)

pub ticked_all : (now n : ℕ) (old new : List WriterKept) → length old ≤ n → length new ≡ length old
    → TickedTo now n old new → AllTick old now new
ticked_all now zero [] [] le count h = tt
ticked_all now zero [] (x ∷ xs) le count h = absurd (omega (arith, count))
ticked_all now zero (k ∷ ks) new le count h = absurd (omega (arith, le))
ticked_all now (suc n) [] [] le count h = tt
ticked_all now (suc n) [] (x ∷ xs) le count h = absurd (omega (arith, count))
ticked_all now (suc n) (k ∷ ks) [] le count h = absurd h
ticked_all now (suc n) (k ∷ ks) (x ∷ xs) le count h =
    (h.0, ticked_all now n ks xs (omega (arith, le)) (omega (arith, count)) h.1)

-- the peer's writers stand as before, each with the tick

pub same_names : (now : ℕ) (old new : List WriterKept) → AllTick old now new
    → map writer_identity new ≡ map writer_identity old
same_names now [] [] h = refl
same_names now [] (x ∷ xs) h = absurd h
same_names now (k ∷ ks) [] h = absurd h
same_names now (k ∷ ks) (x ∷ xs) h =
    ap (λ (i : WriterIdentity). i ∷ map writer_identity xs) h.0.same
    ∙ ap (λ (is : List WriterIdentity). writer_identity k ∷ is) (same_names now ks xs h.1)

same_count : (now : ℕ) (old new : List WriterKept) → AllTick old now new → length new ≡ length old
same_count now [] [] h = refl
same_count now [] (x ∷ xs) h = absurd h
same_count now (k ∷ ks) [] h = absurd h
same_count now (k ∷ ks) (x ∷ xs) h = let rest = same_count now ks xs h.1 in omega (arith, rest)

-- a tick of so many writers, the first of which has this number, is one of each
same_length : (now : ℕ) (asked : ℕ → Bool) (n : ℕ) (ws : List Writer)
    → length (all_ticked now asked n ws) ≡ length ws
same_length now asked n [] = refl
same_length now asked n (w ∷ ws) = let rest = same_length now asked (n + 1) ws in omega (arith, rest)

still : (now : ℕ) (asked : ℕ → Bool) (n : ℕ) (old new : List WriterKept) (ws : List Writer)
    (answered : ℕ → Endpoint → Contact) → AllTick old now new → length ws ≡ length old
    → ((j : ℕ) (k : WriterKept) → slice_get old j ≡ Some k
    → WriterStands k (get_or ws j no_writer) (answered (n + j)))
    → ((j : ℕ) → some_await (get_or ws j no_writer) (answered (n + j)) ≡ asked (n + j))
    → (i : ℕ) (x : WriterKept) → slice_get new i ≡ Some x
    → WriterStands x (get_or (all_ticked now asked n ws) i no_writer) (unasked (answered (n + i)))
still now asked n [] [] ws answered h count each are i x at = absurd cc
still now asked n [] (y ∷ ys) ws answered h count each are i x at = absurd h
still now asked n (k ∷ ks) [] ws answered h count each are i x at = absurd h
still now asked n (k ∷ ks) (y ∷ ys) [] answered h count each are i x at = absurd (omega (arith, count))
still now asked n (k ∷ ks) (y ∷ ys) (w ∷ ws) answered h count each are zero x at =
    let here : n + 0 ≡ n = omega arith in
    let so : some_await w (answered (n + 0)) ≡ asked n = are zero ∙ ap (λ (m : ℕ). asked m) here in
    subst (λ (b : Bool). WriterStands x (ticked now b w) (unasked (answered (n + 0)))) so
    (subst (λ (z : WriterKept). WriterStands z (ticked now (some_await w (answered (n + 0))) w)
    (unasked (answered (n + 0)))) (same_Some y x at)
    (h.0.stands w (answered (n + 0)) (each zero k refl)))
still now asked n (k ∷ ks) (y ∷ ys) (w ∷ ws) answered h count each are (suc i) x at =
    subst (λ (m : ℕ). WriterStands x (get_or (all_ticked now asked (n + 1) ws) i no_writer) (unasked (answered m)))
    (past i)
    (still now asked (n + 1) ks ys ws answered h.1 (omega (arith, count))
    (λ j z there. subst (λ (m : ℕ). WriterStands z (get_or ws j no_writer) (answered m)) (sym (past j))
    (each (suc j) z there))
    (λ j. subst (λ (m : ℕ). some_await (get_or ws j no_writer) (answered m) ≡ asked m) (sym (past j)) (are (suc j)))
    i x at)
  where
    past : (j : ℕ) → n + 1 + j ≡ n + suc j
    past j = omega arith

pub writers_ticked : (now : ℕ) (asked : ℕ → Bool) (old new : List WriterKept) (ws : List Writer)
    (answered : ℕ → Endpoint → Contact) → AllTick old now new → WritersStand old ws answered
    → ((j : ℕ) → some_await (get_or ws j no_writer) (answered (suc j)) ≡ asked (suc j))
    → WritersStand new (all_ticked now asked 1 ws) (λ n. unasked (answered n))
writers_ticked now asked old new ws answered h s are = record {
  count = same_length now asked 1 ws ∙ (s.count ∙ sym (same_count now old new h));
  each = λ i x at. subst (λ (m : ℕ). WriterStands x (get_or (all_ticked now asked 1 ws) i no_writer) (unasked (answered m)))
      (next i)
      (still now asked 1 old new ws answered h s.count
      (λ j k there. subst (λ (m : ℕ). WriterStands k (get_or ws j no_writer) (answered m)) (sym (next j))
      (s.each j k there))
      (λ j. subst (λ (m : ℕ). some_await (get_or ws j no_writer) (answered m) ≡ asked m) (sym (next j)) (are j)) i x at);
}
  where
    next : (j : ℕ) → 1 + j ≡ suc j
    next j = omega arith
