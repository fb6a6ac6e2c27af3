-- A writer that joins has the next publication handle, and is none that an entry has named before.
use Rattle.std.proofs.Common.{◌≡◌, ℕ, zero, suc, ◌+◌, ◌<◌, ◌≤◌, List, [], ◌∷◌, ◌++◌, length, Bool, true, false, not, ◌==◌, ◌&&◌, ◌||◌, Option, Some, None, ap, sym, ◌∙◌, refl, cond, arith, add-one, append_assoc, ⊎_elim, slice_get}
use Rattle.std.specs.Prelude.{if◌then◌else◌, is_some, ℤ, unwrap_or}
use Rattle.std.specs.List.{filter, count_by}
use Rattle.std.specs.Option.{option_map, option_or}
use Rattle.std.proofs.lemmas.Bool.{cases_lt}
use Rattle.std.proofs.lemmas.Bool.Decides.{nat_tests}
use Rattle.std.proofs.lemmas.List.{append-nil, length-append}
use Rattle.std.proofs.lemmas.List.Elements.{filter-append, filter_agree}
use Rattle.std.proofs.lemmas.List.Sums.{sum_by_push}
use Rattle.dds_base.specs.declared.key.Key.{Key}
use Rattle.dds_base.specs.declared.change.ChangeKind.{ChangeKind}
use Rattle.dds_base.specs.declared.happening.Happening.{Happening}
use Rattle.dds_base.specs.declared.happening.Happening.TheVariants.{Came, Passed, Heard, Died, Left, Joined, Read, Took, Looked}
use Rattle.dds_base.specs.declared.qos.MatchedWriter.{MatchedWriter}
use Rattle.dds_base.specs.declared.qos.ReaderQos.{ReaderQos}
use Rattle.dds_base.specs.Happening.{same_key, is_unregister, is_write_or_dispose}
use Rattle.dds_base.specs.Instance.{instance_state_of}
use Rattle.dds_base.specs.Life.{is_nobody, last_accepted, or_else, state_after}
use Rattle.dds_base.specs.Liveliness.{after_parting, alive_count, alive_since, assertion_of, has_died, is_alive, is_dead, is_death_of, is_parting_of, not_alive_count, with_deaths}
use Rattle.dds_base.specs.Ownership.{AreOfMatched, IsMatched, is_registered, joined_in, numbered_from, precedence, precedence_of, publication_handles, registered_writers, told_strength, writer_of, writers_of}
use Rattle.dds_base.proofs.LifeLaws.{quiet-accepted}

-- ---- the matched writers once one more entry has happened

-- where nobody joined, they are those of the opening
pub nobody-joined : (q : ReaderQos) (h : List Happening) → joined_in h ≡ [] → writers_of q h ≡ q.writers
nobody-joined q h none = ap (λ (ws : List MatchedWriter). q.writers ++ ws) none ∙ append-nil q.writers

-- one that joins comes last
pub with-joined : (q : ReaderQos) (h : List Happening) (m : MatchedWriter)
    → writers_of q (Joined m ∷ h) ≡ writers_of q h ++ m ∷ []
with-joined q h m = sym (append_assoc q.writers (joined_in h) (m ∷ []))

pub count-joined : (q : ReaderQos) (h : List Happening) (m : MatchedWriter)
    → length (writers_of q (Joined m ∷ h)) ≡ length (writers_of q h) + 1
count-joined q h m =
    ap (λ (ws : List MatchedWriter). length ws) (with-joined q h m) ∙ length-append (writers_of q h) (m ∷ [])

-- no entry takes one out
pub no-fewer-writers : (q : ReaderQos) (e : Happening) (h : List Happening)
    → length (writers_of q h) ≤ length (writers_of q (e ∷ h))
no-fewer-writers q (Joined m) h = omega (arith, count-joined q h m)
no-fewer-writers q (Came a) h = omega arith
no-fewer-writers q (Passed w first last) h = omega arith
no-fewer-writers q (Heard w now) h = omega arith
no-fewer-writers q (Died w now) h = omega arith
no-fewer-writers q (Left w now) h = omega arith
no-fewer-writers q (Read samples) h = omega arith
no-fewer-writers q (Took samples) h = omega arith
no-fewer-writers q (Looked kind) h = omega arith

-- so who was matched is
pub still-matched : (q : ReaderQos) (e : Happening) (h : List Happening) (w : ℕ) → IsMatched q h w → IsMatched q (e ∷ h) w
still-matched q e h w matched = (matched.0, omega (arith, matched.1, no-fewer-writers q e h))

-- a writer of the opening is matched, whatever has happened since
pub still-of-opening : (q : ReaderQos) (h : List Happening) (w : ℕ) → 0 < w → w ≤ length q.writers
    → IsMatched q h w
still-of-opening q h w low within = (low, omega (arith, within, length-append q.writers (joined_in h)))

get-front : (ws : List MatchedWriter) (m : MatchedWriter) (at : ℕ) → at < length ws
    → slice_get (ws ++ m ∷ []) at ≡ slice_get ws at
get-front [] m at within = absurd (omega (arith, within))
get-front (x ∷ ws) m zero within = refl
get-front (x ∷ ws) m (suc at) within = get-front ws m at (omega (arith, within))

get-last : (ws : List MatchedWriter) (m : MatchedWriter) → slice_get (ws ++ m ∷ []) (length ws) ≡ Some m
get-last [] m = refl
get-last (x ∷ ws) m = get-last ws m

-- it keeps its handle
pub kept-writer : (q : ReaderQos) (h : List Happening) (m : MatchedWriter) (w : ℕ) → IsMatched q h w
    → writer_of (writers_of q (Joined m ∷ h)) w ≡ writer_of (writers_of q h) w
kept-writer q h m zero matched = absurd (omega (arith, matched.0))
kept-writer q h m (suc at) matched =
    ap (λ (ws : List MatchedWriter). slice_get ws at) (with-joined q h m)
    ∙ get-front (writers_of q h) m at (omega (arith, matched.1))

-- one that joins has the next
pub next-writer : (q : ReaderQos) (h : List Happening) (m : MatchedWriter)
    → writer_of (writers_of q (Joined m ∷ h)) (length (writers_of q h) + 1) ≡ Some m
next-writer q h m =
    ap (λ (w : ℕ). writer_of (writers_of q (Joined m ∷ h)) w) (add-one (length (writers_of q h)))
    ∙ (ap (λ (ws : List MatchedWriter). slice_get ws (length (writers_of q h))) (with-joined q h m)
    ∙ get-last (writers_of q h) m)

numbered-last : (k : ℕ) (ws : List MatchedWriter) (m : MatchedWriter)
    → numbered_from k (ws ++ m ∷ []) ≡ numbered_from k ws ++ (k + length ws) ∷ []
numbered-last k [] m = ap (λ (w : ℕ). w ∷ []) (let same : k ≡ k + 0 = omega arith in same)
numbered-last k (x ∷ ws) m =
    ap (λ (vs : List ℕ). k ∷ vs) (numbered-last (k + 1) ws m
    ∙ ap (λ (w : ℕ). numbered_from (k + 1) ws ++ w ∷ [])
    (let same : k + 1 + length ws ≡ k + suc (length ws) = omega arith in same))

pub handles-joined : (q : ReaderQos) (h : List Happening) (m : MatchedWriter)
    → publication_handles q (Joined m ∷ h) ≡ publication_handles q h ++ (length (writers_of q h) + 1) ∷ []
handles-joined q h m =
    ap (λ (ws : List MatchedWriter). numbered_from 1 ws) (with-joined q h m)
    ∙ (numbered-last 1 (writers_of q h) m
    ∙ ap (λ (w : ℕ). publication_handles q h ++ w ∷ [])
    (let same : 1 + length (writers_of q h) ≡ length (writers_of q h) + 1 = omega arith in same))

-- ---- partings and deaths

pub joined-parted : (w now : ℕ) (h : List Happening) → joined_in (after_parting w now h) ≡ joined_in h
joined-parted w now h = by-alive (is_alive w h)
  where
    by-alive : (alive : Bool) → joined_in (if alive then Died w now ∷ h else h) ≡ joined_in h
    by-alive true = refl
    by-alive false = refl

pub of_matched-parted : (q : ReaderQos) (w now : ℕ) (h : List Happening) → IsMatched q h w → AreOfMatched q h
    → AreOfMatched q (after_parting w now h)
of_matched-parted q w now h matched before = by-alive (is_alive w h)
  where
    by-alive : (alive : Bool) → AreOfMatched q (Left w now ∷ (if alive then Died w now ∷ h else h))
    by-alive true = (matched, (matched, before))
    by-alive false = (matched, before)

pub joined-deaths : (now : ℕ) (ds : List ℕ) (h : List Happening) → joined_in (with_deaths now ds h) ≡ joined_in h
joined-deaths now [] h = refl
joined-deaths now (d ∷ ds) h = joined-deaths now ds (Died d now ∷ h)

-- ---- no entry names a writer beyond the matched ones

pub other-one : (v w n : ℕ) → v ≤ n → n < w → (v == w) ≡ false
other-one v w n low high = grind (arith, nat_tests)

and-false : (b : Bool) → (b && false) ≡ false
and-false true = refl
and-false false = refl

pub not-its : (s x u d r : Bool) → x ≡ false → r ≡ false → (not ((s && x) && u) && (((s && x) && d) || r)) ≡ false
not-its true x u d r x_is r_is = ap (λ (b : Bool). not (b && u) && ((b && d) || r)) x_is ∙ r_is
not-its false x u d r x_is r_is = r_is

-- so it is registered for nothing
pub unregistered-beyond : (q : ReaderQos) (i : Key) (h : List Happening) (w : ℕ) → AreOfMatched q h
    → length (writers_of q h) < w → is_registered i w h ≡ false
unregistered-beyond q i [] w of_matched beyond = refl
unregistered-beyond q i (Came a ∷ h) w of_matched beyond =
    not-its (same_key a.change.key i) (a.writer == w) (is_unregister a.change.kind) (is_write_or_dispose a.change.kind)
    (is_registered i w h) (other-one a.writer w (length (writers_of q h)) of_matched.0.1 beyond)
    (unregistered-beyond q i h w of_matched.1 beyond)
unregistered-beyond q i (Died v now ∷ h) w of_matched beyond =
    ap (λ (b : Bool). not (v == w) && b) (unregistered-beyond q i h w of_matched.1 beyond) ∙ and-false (not (v == w))
unregistered-beyond q i (Joined m ∷ h) w of_matched beyond =
    unregistered-beyond q i h w of_matched.1 (omega (arith, beyond, count-joined q h m))
unregistered-beyond q i (Passed v first last ∷ h) w of_matched beyond = unregistered-beyond q i h w of_matched.1 beyond
unregistered-beyond q i (Heard v now ∷ h) w of_matched beyond = unregistered-beyond q i h w of_matched.1 beyond
unregistered-beyond q i (Left v now ∷ h) w of_matched beyond = unregistered-beyond q i h w of_matched.1 beyond
unregistered-beyond q i (Read samples ∷ h) w of_matched beyond = unregistered-beyond q i h w of_matched.1 beyond
unregistered-beyond q i (Took samples ∷ h) w of_matched beyond = unregistered-beyond q i h w of_matched.1 beyond
unregistered-beyond q i (Looked kind ∷ h) w of_matched beyond = unregistered-beyond q i h w of_matched.1 beyond

-- and whoever is registered is matched
pub registered-matched : (q : ReaderQos) (i : Key) (h : List Happening) (w : ℕ) → AreOfMatched q h
    → is_registered i w h ≡ true → w ≤ length (writers_of q h)
registered-matched q i h w of_matched is =
    ⊎_elim
    (λ beyond. absurd (let clash : true ≡ false = sym is ∙ unregistered-beyond q i h w of_matched beyond in cc))
    (λ within. within)
    (cases_lt (length (writers_of q h)) w)

other-nil : (v : ℕ) → 0 < v → (v == 0) ≡ false
other-nil v low = grind (arith, nat_tests)

-- no entry names handle 0
pub unregistered-nil : (q : ReaderQos) (i : Key) (h : List Happening) → AreOfMatched q h → is_registered i 0 h ≡ false
unregistered-nil q i [] of_matched = refl
unregistered-nil q i (Came a ∷ h) of_matched =
    not-its (same_key a.change.key i) (a.writer == 0) (is_unregister a.change.kind) (is_write_or_dispose a.change.kind)
    (is_registered i 0 h) (other-nil a.writer of_matched.0.0) (unregistered-nil q i h of_matched.1)
unregistered-nil q i (Died v now ∷ h) of_matched =
    ap (λ (b : Bool). not (v == 0) && b) (unregistered-nil q i h of_matched.1) ∙ and-false (not (v == 0))
unregistered-nil q i (Joined m ∷ h) of_matched = unregistered-nil q i h of_matched.1
unregistered-nil q i (Passed v first last ∷ h) of_matched = unregistered-nil q i h of_matched.1
unregistered-nil q i (Heard v now ∷ h) of_matched = unregistered-nil q i h of_matched.1
unregistered-nil q i (Left v now ∷ h) of_matched = unregistered-nil q i h of_matched.1
unregistered-nil q i (Read samples ∷ h) of_matched = unregistered-nil q i h of_matched.1
unregistered-nil q i (Took samples ∷ h) of_matched = unregistered-nil q i h of_matched.1
unregistered-nil q i (Looked kind ∷ h) of_matched = unregistered-nil q i h of_matched.1

-- no strength was told of it
pub untold-beyond : (q : ReaderQos) (h : List Happening) (w : ℕ) → AreOfMatched q h → length (writers_of q h) < w
    → told_strength w h ≡ None
untold-beyond q [] w of_matched beyond = refl
untold-beyond q (Came a ∷ h) w of_matched beyond =
    ap (λ (b : Bool). if b then option_or a.change.strength (told_strength w h) else told_strength w h)
    (other-one a.writer w (length (writers_of q h)) of_matched.0.1 beyond)
    ∙ untold-beyond q h w of_matched.1 beyond
untold-beyond q (Joined m ∷ h) w of_matched beyond =
    untold-beyond q h w of_matched.1 (omega (arith, beyond, count-joined q h m))
untold-beyond q (Died v now ∷ h) w of_matched beyond = untold-beyond q h w of_matched.1 beyond
untold-beyond q (Passed v first last ∷ h) w of_matched beyond = untold-beyond q h w of_matched.1 beyond
untold-beyond q (Heard v now ∷ h) w of_matched beyond = untold-beyond q h w of_matched.1 beyond
untold-beyond q (Left v now ∷ h) w of_matched beyond = untold-beyond q h w of_matched.1 beyond
untold-beyond q (Read samples ∷ h) w of_matched beyond = untold-beyond q h w of_matched.1 beyond
untold-beyond q (Took samples ∷ h) w of_matched beyond = untold-beyond q h w of_matched.1 beyond
untold-beyond q (Looked kind ∷ h) w of_matched beyond = untold-beyond q h w of_matched.1 beyond

-- it was not asserted, and has not died
pub record IsUnheard (w : ℕ) (h : List Happening) : Type 0 where
  pub silent : alive_since w h ≡ None
  pub deathless : has_died w h ≡ false

-- an entry that is of another writer leaves it so
unheard-next : (w : ℕ) (e : Happening) (h : List Happening) → is_death_of w e ≡ false → assertion_of w e ≡ None
    → IsUnheard w h → IsUnheard w (e ∷ h)
unheard-next w e h lives silent before = record {
  silent =
      ap (λ (b : Bool). if b then None else or_else (assertion_of w e) (alive_since w h)) lives
      ∙ (ap (λ (o : Option ℕ). or_else o (alive_since w h)) silent ∙ before.silent);
  deathless =
      ap (λ (b : Bool). if is_parting_of w e then false else (b || has_died w h)) lives
      ∙ (ap (λ (b : Bool). if is_parting_of w e then false else b) before.deathless ∙ either (is_parting_of w e));
}
  where
    either : (b : Bool) → (if b then false else false) ≡ false
    either true = refl
    either false = refl

pub unheard-beyond : (q : ReaderQos) (h : List Happening) (w : ℕ) → AreOfMatched q h → length (writers_of q h) < w
    → IsUnheard w h
unheard-beyond q [] w of_matched beyond = record { silent = refl; deathless = refl }
unheard-beyond q (Came a ∷ h) w of_matched beyond =
    unheard-next w (Came a) h refl
    (ap (λ (b : Bool). if b then Some a.moment else None)
    (other-one a.writer w (length (writers_of q h)) of_matched.0.1 beyond))
    (unheard-beyond q h w of_matched.1 beyond)
unheard-beyond q (Heard v now ∷ h) w of_matched beyond =
    unheard-next w (Heard v now) h refl
    (ap (λ (b : Bool). if b then Some now else None)
    (other-one v w (length (writers_of q h)) of_matched.0.1 beyond))
    (unheard-beyond q h w of_matched.1 beyond)
unheard-beyond q (Died v now ∷ h) w of_matched beyond =
    unheard-next w (Died v now) h (other-one v w (length (writers_of q h)) of_matched.0.1 beyond) refl
    (unheard-beyond q h w of_matched.1 beyond)
unheard-beyond q (Joined m ∷ h) w of_matched beyond =
    unheard-next w (Joined m) h refl refl
    (unheard-beyond q h w of_matched.1 (omega (arith, beyond, count-joined q h m)))
unheard-beyond q (Passed v first last ∷ h) w of_matched beyond =
    unheard-next w (Passed v first last) h refl refl (unheard-beyond q h w of_matched.1 beyond)
unheard-beyond q (Left v now ∷ h) w of_matched beyond =
    unheard-next w (Left v now) h refl refl (unheard-beyond q h w of_matched.1 beyond)
unheard-beyond q (Read samples ∷ h) w of_matched beyond =
    unheard-next w (Read samples) h refl refl (unheard-beyond q h w of_matched.1 beyond)
unheard-beyond q (Took samples ∷ h) w of_matched beyond =
    unheard-next w (Took samples) h refl refl (unheard-beyond q h w of_matched.1 beyond)
unheard-beyond q (Looked kind ∷ h) w of_matched beyond =
    unheard-next w (Looked kind) h refl refl (unheard-beyond q h w of_matched.1 beyond)

-- ---- what a newcomer is

-- the same of the next one, which joins
pub newcomer-unheard : (q : ReaderQos) (h : List Happening) (m : MatchedWriter) → AreOfMatched q h
    → IsUnheard (length (writers_of q h) + 1) (Joined m ∷ h)
newcomer-unheard q h m of_matched =
    let before = unheard-beyond q h (length (writers_of q h) + 1) of_matched (omega arith) in
    unheard-next (length (writers_of q h) + 1) (Joined m) h refl refl before

-- it is as strong as it was announced
pub newcomer-strength : (q : ReaderQos) (h : List Happening) (m : MatchedWriter) → AreOfMatched q h
    → precedence_of q (Joined m ∷ h) (length (writers_of q h) + 1)
    ≡ Some (record { strength = m.strength; guid = m.guid })
newcomer-strength q h m of_matched =
    let w : ℕ = length (writers_of q h) + 1 in
    ap (λ (o : Option MatchedWriter). option_map (precedence (Joined m ∷ h) w) o) (next-writer q h m)
    ∙ ap (λ (o : Option ℤ). Some (record { strength = unwrap_or o m.strength; guid = m.guid }))
    (untold-beyond q h w of_matched (omega arith))

-- it is registered for nothing
pub registered-joined : (q : ReaderQos) (i : Key) (h : List Happening) (m : MatchedWriter) → AreOfMatched q h
    → registered_writers q i (Joined m ∷ h) ≡ registered_writers q i h
registered-joined q i h m of_matched =
    let p : ℕ → Bool = λ w. is_registered i w h in
    let next : ℕ = length (writers_of q h) + 1 in
    ap (λ (ws : List ℕ). filter p ws) (handles-joined q h m)
    ∙ (filter-append p (publication_handles q h) (next ∷ [])
    ∙ (ap (λ (b : Bool). registered_writers q i h ++ cond b (next ∷ []) [])
    (unregistered-beyond q i h next of_matched (omega arith))
    ∙ append-nil (registered_writers q i h)))

-- an entry that registers nobody and lets nobody go leaves the same writers registered
pub registered-on : (q : ReaderQos) (i : Key) (e : Happening) (h : List Happening) → AreOfMatched q h
    → ((w : ℕ) → is_registered i w (e ∷ h) ≡ is_registered i w h)
    → registered_writers q i (e ∷ h) ≡ registered_writers q i h
registered-on q i (Joined m) h of_matched same = registered-joined q i h m of_matched
registered-on q i (Came a) h of_matched same =
    filter_agree (λ w. is_registered i w (Came a ∷ h)) (λ w. is_registered i w h) same (publication_handles q h)
registered-on q i (Died v now) h of_matched same =
    filter_agree (λ w. is_registered i w (Died v now ∷ h)) (λ w. is_registered i w h) same (publication_handles q h)
registered-on q i (Passed v first last) h of_matched same = refl
registered-on q i (Heard v now) h of_matched same = refl
registered-on q i (Left v now) h of_matched same = refl
registered-on q i (Read samples) h of_matched same = refl
registered-on q i (Took samples) h of_matched same = refl
registered-on q i (Looked kind) h of_matched same = refl

-- so the state of each instance is as it was
pub state-joined : (q : ReaderQos) (i : Key) (h : List Happening) (m : MatchedWriter) → AreOfMatched q h
    → instance_state_of q i (Joined m ∷ h) ≡ instance_state_of q i h
state-joined q i h m of_matched =
    ap (λ (k : Option ChangeKind). state_after k (is_nobody (registered_writers q i (Joined m ∷ h))))
    (quiet-accepted q i h (Joined m) refl (registered-joined q i h m of_matched) refl)
    ∙ ap (λ (ws : List ℕ). state_after (last_accepted q i h) (is_nobody ws)) (registered-joined q i h m of_matched)

-- a count of those that pass a test, where the next one does not
count-last : (p : ℕ → Bool) (q : ReaderQos) (h : List Happening) (m : MatchedWriter)
    → p (length (writers_of q h) + 1) ≡ false
    → count_by p (publication_handles q (Joined m ∷ h)) ≡ count_by p (publication_handles q h)
count-last p q h m fails =
    let next : ℕ = length (writers_of q h) + 1 in
    ap (λ (ws : List ℕ). count_by p ws) (handles-joined q h m)
    ∙ (sum_by_push (λ (w : ℕ). cond (p w) 1 0) (publication_handles q h) next
    ∙ (ap (λ (b : Bool). count_by p (publication_handles q h) + cond b 1 0) fails
    ∙ (let same : count_by p (publication_handles q h) + 0 ≡ count_by p (publication_handles q h) = omega arith in same)))

pub alive-joined : (q : ReaderQos) (h : List Happening) (m : MatchedWriter) → AreOfMatched q h
    → alive_count q (Joined m ∷ h) ≡ alive_count q h
alive-joined q h m of_matched =
    count-last (λ w. is_alive w h) q h m
    (ap (λ (o : Option ℕ). is_some o)
    (unheard-beyond q h (length (writers_of q h) + 1) of_matched (omega arith)).silent)

pub dead-joined : (q : ReaderQos) (h : List Happening) (m : MatchedWriter) → AreOfMatched q h
    → not_alive_count q (Joined m ∷ h) ≡ not_alive_count q h
dead-joined q h m of_matched =
    let w : ℕ = length (writers_of q h) + 1 in
    count-last (λ v. is_dead v h) q h m
    (ap (λ (b : Bool). b && not (is_alive w h)) (unheard-beyond q h w of_matched (omega arith)).deathless)
