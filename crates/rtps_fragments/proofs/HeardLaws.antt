-- What is claimed of each number of a writer is so after one more DATA_FRAG.
use Rattle.std.proofs.Common.{◌≡◌, ℕ, suc, ◌≤◌, Bool, true, false, cond, ltb, List, [], ◌∷◌, ◌++◌, length, get_or, take, drop, set, Option, Some, None, refl, sym, eq-eqb, arith}
use Rattle.std.specs.Prelude.{IfSome, remove}
use Rattle.std.specs.Option.{option_map_or}
use Rattle.std.specs.List.{All, position}
use Rattle.std.proofs.lemmas.Bool.{eqb-true, ltb-false}
use Rattle.std.proofs.lemmas.List.{length-append, length-take, length-drop, length-set}
use Rattle.std.proofs.lemmas.List.Elements.{All-append, All-take, All-drop, All-push, All-set, All-weaker}
use Rattle.std.proofs.lemmas.List.Quantifiers.{position-Some}
use Rattle.rtps_fragments.specs.DataFrag.{Fragment}
use Rattle.rtps_fragments.specs.Keeping.{Kept, Heard, begun, gone_on, heard, heard_at, is_alike, is_number, is_whole, latest, nothing_of, with_fragments}

-- what is claimed of what was heard
pub record Leaves (Q : Kept → Type 0) (sn : ℕ) (before : List Kept) (h : Heard) : Type 0 where
  pub kept : All Q h.kept
  pub whole : IfSome h.whole (λ k. Q k × (is_whole k ≡ true) × (k.writer_sn ≡ sn))
  pub few : length before ≤ 16 → length h.kept ≤ 16

length-remove : {A : Type 0} (xs : List A) (i : ℕ) → length (remove xs i) ≤ length xs
length-remove xs i =
    omega (arith, length-append (take i xs) (drop (suc i) xs), length-take i xs, length-drop (suc i) xs)

All-remove : {A : Type 0} (P : A → Type 0) (xs : List A) (i : ℕ) → All P xs → All P (remove xs i)
All-remove P xs i all =
    All-append P (take i xs) (drop (suc i) xs) (All-take P i xs all) (All-drop P (suc i) xs all)

latest_all : (P : Kept → Type 0) (xs : List Kept) → All P xs → All P (latest xs)
latest_all P xs all = by_room (ltb 16 (length xs))
  where
    by_room : (b : Bool) → All P (cond b (drop 1 xs) xs)
    by_room true = All-drop P 1 xs all
    by_room false = all

latest_few : (xs : List Kept) → length xs ≤ 17 → length (latest xs) ≤ 16
latest_few xs le = by_room (ltb 16 (length xs)) refl
  where
    by_room : (b : Bool) → ltb 16 (length xs) ≡ b → length (cond b (drop 1 xs) xs) ≤ 16
    by_room true e = omega (arith, le, length-drop 1 xs)
    by_room false e = ltb-false 16 (length xs) e

begun_leaves : (Q : Kept → Type 0) (sn : ℕ) (kept : List Kept) (k : Kept) → All Q kept → Q k → k.writer_sn ≡ sn
    → Leaves Q sn kept (begun kept k)
begun_leaves Q sn kept k all q number = by_whole (is_whole k) refl
  where
    by_whole : (b : Bool) → is_whole k ≡ b
        → Leaves Q sn kept (cond b (record { kept = kept; whole = Some k })
        (record { kept = latest (kept ++ k ∷ []); whole = None }))
    by_whole true e = record { kept = all; whole = (q, e, number); few = λ le. le }
    by_whole false e = record {
      kept = latest_all Q (kept ++ k ∷ []) (All-push Q kept k all q);
      whole = tt;
      few = λ le. latest_few (kept ++ k ∷ []) (omega (arith, le, length-append kept (k ∷ [])));
    }

gone_on_leaves : (Q : Kept → Type 0) (sn : ℕ) (kept : List Kept) (i : ℕ) (k : Kept) → All Q kept → Q k
    → k.writer_sn ≡ sn → Leaves Q sn kept (gone_on kept i k)
gone_on_leaves Q sn kept i k all q number = by_whole (is_whole k) refl
  where
    by_whole : (b : Bool) → is_whole k ≡ b
        → Leaves Q sn kept (cond b (record { kept = remove kept i; whole = Some k })
        (record { kept = set kept i k; whole = None }))
    by_whole true e = record {
      kept = All-remove Q kept i all;
      whole = (q, e, number);
      few = λ le. omega (arith, le, length-remove kept i);
    }
    by_whole false e = record {
      kept = All-set Q kept i k q all;
      whole = tt;
      few = λ le. omega (arith, le, length-set kept i k);
    }

heard_at_leaves : (Q : Kept → Type 0) (sn : ℕ) (kept : List Kept) (i : ℕ) (k : Kept) (f : Fragment)
    (timestamp : Option ℕ) → All Q kept → (is_alike k f ≡ true → Q (with_fragments k f timestamp)) → k.writer_sn ≡ sn
    → Leaves Q sn kept (heard_at kept i k f timestamp)
heard_at_leaves Q sn kept i k f timestamp all added number = by_likeness (is_alike k f) refl
  where
    by_likeness : (b : Bool) → is_alike k f ≡ b
        → Leaves Q sn kept (cond b (gone_on kept i (with_fragments k f timestamp)) (record { kept = kept; whole = None }))
    by_likeness true e = gone_on_leaves Q sn kept i (with_fragments k f timestamp) all (added e) number
    by_likeness false e = record { kept = all; whole = tt; few = λ le. le }

alike_itself : (f : Fragment) → is_alike (nothing_of f) f ≡ true
alike_itself f =
    let a = eq-eqb f.fragment_size f.fragment_size refl in
    let b = eq-eqb f.sample_size f.sample_size refl in
    rw (a, b) refl

pub heard_leaves : (P Q : Kept → Type 0) (kept : List Kept) (f : Fragment) (timestamp : Option ℕ) → All P kept
    → ((k : Kept) → P k → Q k)
    → ((k : Kept) → P k → is_alike k f ≡ true → f.writer_sn ≡ k.writer_sn → Q (with_fragments k f timestamp))
    → P (nothing_of f) → Leaves Q f.writer_sn kept (heard kept f timestamp)
heard_leaves P Q kept f timestamp all weaker added nothing = by_place (position (is_number f.writer_sn) kept) refl
  where
    by_place : (o : Option ℕ) → position (is_number f.writer_sn) kept ≡ o
        → Leaves Q f.writer_sn kept (option_map_or (λ i. heard_at kept i (get_or kept i (nothing_of f)) f timestamp) o
        (begun kept (with_fragments (nothing_of f) f timestamp)))
    by_place None e =
        begun_leaves Q f.writer_sn kept (with_fragments (nothing_of f) f timestamp) (All-weaker P Q weaker kept all)
        (added (nothing_of f) nothing (alike_itself f) refl) refl
    by_place (Some i) e =
        let there = position-Some (is_number f.writer_sn) kept i (nothing_of f) e in
        heard_at_leaves Q f.writer_sn kept i (get_or kept i (nothing_of f)) f timestamp (All-weaker P Q weaker kept all)
        (λ alike. added (get_or kept i (nothing_of f)) (all i (nothing_of f) there.0) alike
        (sym (eqb-true _ _ there.1))) (eqb-true _ _ there.1)
