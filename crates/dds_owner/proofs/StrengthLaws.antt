-- What is kept of the strengths follows what happens, and orders the writers as the definitions do.
use Rattle.std.proofs.Common.{◌≡◌, ℕ, zero, suc, ◌+◌, ◌<◌, ◌≤◌, List, [], ◌∷◌, ◌++◌, length, Bool, true, false, not, ◌==◌, ap, sym, ◌∙◌, refl, ⊎_elim, Option, Some, None, slice_get, arith}
use Rattle.std.specs.Prelude.{ℤ, if◌then◌else◌, slice_index_or, unwrap_or}
use Rattle.std.specs.Option.{option_map, option_or}
use Rattle.std.specs.Ordering.{int_eq}
use Rattle.std.proofs.lemmas.Bool.{cases_Bool, eqb-true}
use Rattle.std.proofs.lemmas.Bool.Decides.{Decides-int_eq, nat_tests}
use Rattle.dds_base.specs.declared.happening.Arrival.{Arrival}
use Rattle.dds_base.specs.declared.happening.Happening.{Happening}
use Rattle.dds_base.specs.declared.happening.Happening.TheVariants.{Came, Died, Heard, Joined, Left, Looked, Passed, Read, Took}
use Rattle.dds_base.specs.declared.qos.MatchedWriter.{MatchedWriter}
use Rattle.dds_base.specs.declared.qos.ReaderQos.{ReaderQos}
use Rattle.dds_base.specs.Ownership.{Precedence, is_above, joined_in, precedence_of, told_strength, writer_of, writers_of}
use Rattle.dds_base.proofs.JoinLaws.{with-joined}
use Rattle.dds_owner.specs.Ranking.{order_by, own_precedence, strength_by, with_strength}
use Rattle.dds_owner.specs.Restrengthening.{MAX_CHANGES, is_new_strength, strength_changes}
use Rattle.dds_owner.specs.Standing.{KeptStrengths, TellsStrengths, kept_strength}

-- what a change says of a writer, by whether it is its own
abbrev told_next : Option ℤ → Option ℤ → Bool → Option ℤ
told_next strength before is_its = if is_its then option_or strength before else before

-- ---- the order of writers by what is kept

order-at : (q : ReaderQos) (h : List Happening) (kept : KeptStrengths) (w : ℕ) (told is : Option ℤ)
    → kept.joined ≡ joined_in h → told ≡ is
    → option_map own_precedence (option_map (with_strength told) (writer_of (q.writers ++ kept.joined) w))
    ≡ option_map (λ (m : MatchedWriter). record { strength = unwrap_or is m.strength; guid = m.guid })
    (writer_of (writers_of q h) w)
order-at q h kept w told is joined same =
    each (writer_of (q.writers ++ kept.joined) w)
    ∙ ap (λ (ws : List MatchedWriter). option_map
    (λ (m : MatchedWriter). record { strength = unwrap_or is m.strength; guid = m.guid })
    (writer_of (q.writers ++ ws) w)) joined
  where
    each : (writer : Option MatchedWriter) → option_map own_precedence (option_map (with_strength told) writer)
        ≡ option_map (λ (m : MatchedWriter). record { strength = unwrap_or is m.strength; guid = m.guid }) writer
    each None = refl
    each (Some m) =
        ap (λ (o : Option ℤ). Some (record { strength = unwrap_or o m.strength; guid = m.guid })) same

-- before a change it is that of the definitions
pub order-kept : (q : ReaderQos) (h : List Happening) (kept : KeptStrengths) → TellsStrengths kept h → (w : ℕ)
    → order_by q kept None w ≡ precedence_of q h w
order-kept q h kept tells w =
    order-at q h kept w (kept_strength kept w) (told_strength w h) tells.joined_are (tells.tells w)

-- so it is once it has come
pub order-came : (q : ReaderQos) (h : List Happening) (a : Arrival) (kept : KeptStrengths) → TellsStrengths kept h
    → (w : ℕ) → order_by q kept (Some a) w ≡ precedence_of q (Came a ∷ h) w
order-came q h a kept tells w =
    order-at q h kept w (strength_by kept (Some a) w) (told_strength w (Came a ∷ h)) tells.joined_are
    (ap (λ (o : Option ℤ). told_next a.change.strength o (a.writer == w)) (tells.tells w))

-- ---- changes of strengths

-- a strength that is not new is that of before
told-again : (s t : Option ℤ) → is_new_strength s t ≡ false → option_or s t ≡ t
told-again None t e = refl
told-again (Some a) None e = absurd (cc)
told-again (Some a) (Some b) e = ap (λ (x : ℤ). Some x) ((Decides-int_eq a b).0 (not-false (int_eq a b) e))
  where
    not-false : (b : Bool) → not b ≡ false → b ≡ true
    not-false true e = refl
    not-false false e = absurd (cc)

told-same : (a : Arrival) (h : List Happening) → is_new_strength a.change.strength (told_strength a.writer h) ≡ false
    → (w : ℕ) → told_strength w (Came a ∷ h) ≡ told_strength w h
told-same a h old w =
    ⊎_elim
    (λ same. ap (λ (b : Bool). told_next a.change.strength (told_strength w h) b) same
    ∙ (ap (λ (v : ℕ). option_or a.change.strength (told_strength v h)) (sym (eqb-true a.writer w same))
    ∙ (told-again a.change.strength (told_strength a.writer h) old
    ∙ ap (λ (v : ℕ). told_strength v h) (eqb-true a.writer w same))))
    (λ other. ap (λ (b : Bool). told_next a.change.strength (told_strength w h) b) other)
    (cases_Bool (a.writer == w))

abbrev count_next : ℕ → Bool → ℕ
count_next n is_new = if is_new then suc n else n

count-rises : (n : ℕ) (is_new : Bool) → n ≤ count_next n is_new
count-rises n true = omega arith
count-rises n false = omega arith

-- no entry takes a change of a strength back
pub changes-rise : (e : Happening) (h : List Happening) → strength_changes h ≤ strength_changes (e ∷ h)
changes-rise (Came a) h =
    count-rises (strength_changes h) (is_new_strength a.change.strength (told_strength a.writer h))
changes-rise (Passed w first last) h = omega arith
changes-rise (Heard w now) h = omega arith
changes-rise (Died w now) h = omega arith
changes-rise (Left w now) h = omega arith
changes-rise (Joined m) h = omega arith
changes-rise (Read samples) h = omega arith
changes-rise (Took samples) h = omega arith
changes-rise (Looked kind) h = omega arith

old-count : (n : ℕ) (is_new : Bool) → count_next n is_new ≡ n → is_new ≡ false
old-count n true e = absurd (omega (arith, e))
old-count n false e = refl

-- an entry that changes no strength says nothing of how strong a writer is
pub told-on : (e : Happening) (h : List Happening) → strength_changes (e ∷ h) ≡ strength_changes h → (w : ℕ)
    → told_strength w (e ∷ h) ≡ told_strength w h
told-on (Came a) h same w =
    told-same a h
    (old-count (strength_changes h) (is_new_strength a.change.strength (told_strength a.writer h)) same) w
told-on (Passed v first last) h same w = refl
told-on (Heard v now) h same w = refl
told-on (Died v now) h same w = refl
told-on (Left v now) h same w = refl
told-on (Joined m) h same w = refl
told-on (Read samples) h same w = refl
told-on (Took samples) h same w = refl
told-on (Looked kind) h same w = refl

-- one that is matched is the same once one more is
same-writer : (ws : List MatchedWriter) (m x : MatchedWriter) (w : ℕ) → writer_of ws w ≡ Some x
    → writer_of (ws ++ m ∷ []) w ≡ Some x
same-writer ws m x zero is = is
same-writer [] m x (suc at) is = absurd cc
same-writer (y ∷ ws) m x (suc zero) is = is
same-writer (y ∷ ws) m x (suc (suc at)) is = same-writer ws m x (suc at) is

still-writer : (q : ReaderQos) (e : Happening) (h : List Happening) (w : ℕ) (x : MatchedWriter)
    → writer_of (writers_of q h) w ≡ Some x → writer_of (writers_of q (e ∷ h)) w ≡ Some x
still-writer q (Joined m) h w x is =
    ap (λ (ws : List MatchedWriter). writer_of ws w) (with-joined q h m) ∙ same-writer (writers_of q h) m x w is
still-writer q (Came a) h w x is = is
still-writer q (Passed v first last) h w x is = is
still-writer q (Heard v now) h w x is = is
still-writer q (Died v now) h w x is = is
still-writer q (Left v now) h w x is = is
still-writer q (Read samples) h w x is = is
still-writer q (Took samples) h w x is = is
still-writer q (Looked kind) h w x is = is

-- so what the order of writers looks at stays
pub order-on : (q : ReaderQos) (e : Happening) (h : List Happening) → strength_changes (e ∷ h) ≡ strength_changes h
    → (w : ℕ) (p : Precedence) → precedence_of q h w ≡ Some p → precedence_of q (e ∷ h) w ≡ Some p
order-on q e h same w p is =
    ap (λ (o : Option ℤ). option_map
    (λ (m : MatchedWriter). record { strength = unwrap_or o m.strength; guid = m.guid })
    (writer_of (writers_of q (e ∷ h)) w)) (told-on e h same w)
    ∙ one (writer_of (writers_of q h) w) refl is
  where
    seen : Option MatchedWriter → Option Precedence
    seen o = option_map
        (λ (m : MatchedWriter). record { strength = unwrap_or (told_strength w h) m.strength; guid = m.guid }) o

    one : (o : Option MatchedWriter) → writer_of (writers_of q h) w ≡ o → seen o ≡ Some p
        → seen (writer_of (writers_of q (e ∷ h)) w) ≡ Some p
    one None there e_is = absurd cc
    one (Some x) there e_is = ap seen (still-writer q e h w x there) ∙ e_is

-- and who is above another one stays so
pub above-on : (q : ReaderQos) (e : Happening) (h : List Happening) → strength_changes (e ∷ h) ≡ strength_changes h
    → (v w : ℕ) → is_above (precedence_of q h v) (precedence_of q h w) ≡ true
    → is_above (precedence_of q (e ∷ h) v) (precedence_of q (e ∷ h) w) ≡ true
above-on q e h same v w above =
    both (precedence_of q h v) (precedence_of q h w) refl refl above
  where
    both : (a b : Option Precedence) → precedence_of q h v ≡ a → precedence_of q h w ≡ b → is_above a b ≡ true
        → is_above (precedence_of q (e ∷ h) v) (precedence_of q (e ∷ h) w) ≡ true
    both None b a_is b_is is = absurd cc
    both (Some a) None a_is b_is is = absurd cc
    both (Some a) (Some b) a_is b_is is =
        ap (λ (o : Option Precedence). is_above o (precedence_of q (e ∷ h) w)) (order-on q e h same v a a_is)
        ∙ (ap (λ (o : Option Precedence). is_above (Some a) o) (order-on q e h same w b b_is) ∙ is)

-- ---- a strength that is set

told-by : (a b : KeptStrengths) → a.told ≡ b.told → (v : ℕ) → kept_strength a v ≡ kept_strength b v
told-by a b same zero = refl
told-by a b same (suc at) = ap (λ (told : List (Option ℤ)). slice_index_or told at None) same

told-one : (w v : ℕ) (s : ℤ) (told : Option ℤ) → (if v == w then Some s else told) ≡ (if w == v then Some s else told)
told-one w v s told = ap (λ (b : Bool). if b then Some s else told) (let same : (v == w) ≡ (w == v) = grind (arith, nat_tests) in same)

-- a change of a writer came that had another strength than was kept of it
pub set-tells : (old mid new : KeptStrengths) (h : List Happening) (a : Arrival) (w : ℕ) (s : ℤ) → TellsStrengths old h
    → a.writer ≡ w → a.change.strength ≡ Some s → is_new_strength (Some s) (kept_strength old w) ≡ true
    → ((v : ℕ) → kept_strength mid v ≡ (if v == w then Some s else kept_strength old v)) → new.told ≡ mid.told
    → new.joined ≡ old.joined → (new.changes < MAX_CHANGES → new.changes ≡ old.changes + 1)
    → TellsStrengths new (Came a ∷ h)
set-tells old mid new h a w s tells writer strength is_new put told joined counted = record {
  tells = λ v.
      told-by new mid told v
      ∙ (put v
      ∙ (told-one w v s (kept_strength old v)
      ∙ (ap (λ (o : Option ℤ). if w == v then Some s else o) (tells.tells v)
      ∙ (ap (λ (o : Option ℤ). if w == v then option_or o (told_strength v h) else told_strength v h) (sym strength)
      ∙ ap (λ (u : ℕ). if u == v then option_or a.change.strength (told_strength v h) else told_strength v h)
      (sym writer)))));
  joined_are = joined ∙ tells.joined_are;
  counts = λ below.
      let more = counted below in
      let before : old.changes ≡ strength_changes h = tells.counts (omega (arith, below, more)) in
      let counts : is_new_strength a.change.strength (told_strength a.writer h) ≡ true =
      ap (λ (o : Option ℤ). is_new_strength o (told_strength a.writer h)) strength
      ∙ (ap (λ (u : ℕ). is_new_strength (Some s) (told_strength u h)) writer
      ∙ (ap (λ (o : Option ℤ). is_new_strength (Some s) o) (sym (tells.tells w)) ∙ is_new)) in
      more
      ∙ (let one : old.changes + 1 ≡ suc (strength_changes h) = omega (arith, before) in one
      ∙ ap (λ (b : Bool). count_next (strength_changes h) b) (sym counts));
}
