-- What the forms of an access find, cut to their maximum, is what the definitions pick.
use Rattle.std.proofs.Common.{◌≡◌, ℕ, List, [], ◌∷◌, map, filter, Bool, true, false, ◌==◌, sym, ap, ◌∙◌, refl, subst, cond, Option, Some, None}
use Rattle.std.specs.Prelude.{nat_lt, if◌then◌else◌}
use Rattle.std.specs.List.{All}
use Rattle.std.specs.List.Sorted.{IsNonDecreasingBy}
use Rattle.std.proofs.lemmas.List.Kept.{IsNonDecreasingBy-filter}
use Rattle.std.proofs.lemmas.List.Sorted.{IsNonDecreasingBy-take}
use Rattle.std.proofs.lemmas.List.Elements.{All-filter, All-head, All-tail, All-weaker}
use Rattle.dds_base.specs.declared.key.Key.{Key}
use Rattle.dds_base.specs.declared.happening.SamplePosition.{SamplePosition}
use Rattle.dds_base.specs.declared.happening.Happening.{Happening}
use Rattle.dds_base.specs.declared.mask.Masks.{Masks}
use Rattle.dds_base.specs.declared.sample.Picked.{Picked}
use Rattle.dds_base.specs.declared.qos.ReaderQos.{ReaderQos}
use Rattle.dds_base.specs.declared.selection.Selection.{Selection}
use Rattle.dds_base.specs.declared.selection.Selection.TheVariants.{Any, Instance, NextInstance, NextSample}
use Rattle.dds_base.specs.Access.{at_most, matching_samples, handle_of, next_handle}
use Rattle.dds_base.specs.Selection.{picked_by, selection_refusal}
use Rattle.dds_cache.specs.declared.access.Candidate.{Candidate}
use Rattle.dds_cache.specs.declared.kept.Kept.{Kept}
use Rattle.dds_cache.specs.Finding.{IsCandidate, Finds, sample_in, handle_in}
use Rattle.dds_cache.specs.First.{AreOfForm, of_form}
use Rattle.dds_cache.specs.Picking.{limit_in, masks_in, test_in, of_selection, has_handle, first_above, Picks}
use Rattle.dds_cache.proofs.FirstLaws.{at_most-all, at_most-map}

-- the handle of a candidate is that of its instance
abbrev pub IsOfHandle : ReaderQos → List Happening → Candidate → Type 0
IsOfHandle q h c = handle_in c ≡ handle_of q h c.sample.key

handles : (q : ReaderQos) (h : List Happening) (ks : List Kept) (cs : List Candidate) → All (IsCandidate q h ks) cs
    → All (IsOfHandle q h) cs
handles q h ks cs each =
    All-weaker (IsCandidate q h ks) (IsOfHandle q h)
    (λ c is. ap (λ (p : Picked). p.instance_handle) is.picked_is) cs each

-- ---- the candidates of one instance

map-cond : (b : Bool) (c : Candidate) (cs : List Candidate)
    → map sample_in (cond b (c ∷ cs) cs) ≡ cond b (c.sample ∷ map sample_in cs) (map sample_in cs)
map-cond true c cs = refl
map-cond false c cs = refl

of-handle : (q : ReaderQos) (h : List Happening) (n : ℕ) (cs : List Candidate) → All (IsOfHandle q h) cs
    → map sample_in (filter (has_handle n) cs)
    ≡ filter (λ (s : SamplePosition). handle_of q h s.key == n) (map sample_in cs)
of-handle q h n [] each = refl
of-handle q h n (c ∷ cs) each =
    map-cond (handle_in c == n) c (filter (has_handle n) cs)
    ∙ (ap (λ (m : ℕ). cond (m == n) (c.sample ∷ map sample_in (filter (has_handle n) cs))
    (map sample_in (filter (has_handle n) cs))) (All-head (IsOfHandle q h) c cs each)
    ∙ ap (λ (ss : List SamplePosition). cond (handle_of q h c.sample.key == n) (c.sample ∷ ss) ss)
    (of-handle q h n cs (All-tail (IsOfHandle q h) c cs each)))

above : (q : ReaderQos) (h : List Happening) (n : ℕ) (cs : List Candidate) → All (IsOfHandle q h) cs
    → first_above n cs ≡ next_handle q h n (map sample_in cs)
above q h n [] each = refl
above q h n (c ∷ cs) each =
    ap (λ (m : ℕ). if nat_lt n m then m else first_above n cs) (All-head (IsOfHandle q h) c cs each)
    ∙ ap (λ (m : ℕ). if nat_lt n (handle_of q h c.sample.key) then handle_of q h c.sample.key else m)
    (above q h n cs (All-tail (IsOfHandle q h) c cs each))

-- the samples of those that an access asks for
asked-of : (q : ReaderQos) (h : List Happening) (selection : Selection) (cs : List Candidate) → All (IsOfHandle q h) cs
    → map sample_in (of_selection selection cs) ≡ of_form q h selection (map sample_in cs)
asked-of q h (Any max masks) cs each = refl
asked-of q h (Instance handle max masks) cs each = of-handle q h handle cs each
asked-of q h (NextInstance previous max masks) cs each =
    of-handle q h (first_above previous cs) cs each
    ∙ ap (λ (n : ℕ). filter (λ (s : SamplePosition). handle_of q h s.key == n) (map sample_in cs))
    (above q h previous cs each)
asked-of q h NextSample cs each = refl

-- what holds of each holds of those
pub asked-all : (P : Candidate → Type 0) (selection : Selection) (cs : List Candidate) → All P cs
    → All P (of_selection selection cs)
asked-all P (Any max masks) cs all = all
asked-all P (Instance handle max masks) cs all = All-filter (has_handle handle) P cs all
asked-all P (NextInstance previous max masks) cs all = All-filter (has_handle (first_above previous cs)) P cs all
asked-all P NextSample cs all = all

-- ---- what is picked

by-form : (q : ReaderQos) (h : List Happening) (selection : Selection) (test : Key → List ℕ → Bool)
    → at_most (limit_in selection)
    (of_form q h selection (matching_samples q h (masks_in selection) (test_in selection test)))
    ≡ picked_by q h selection test
by-form q h (Any max masks) test = refl
by-form q h (Instance handle max masks) test = refl
by-form q h (NextInstance previous max masks) test = refl
by-form q h NextSample test = refl

pub picked : (q : ReaderQos) (h : List Happening) (selection : Selection) (test : Key → List ℕ → Bool) (masks : Masks)
    (limit : Option ℕ) (ks : List Kept) (found restricted new : List Candidate) → selection_refusal q h selection ≡ None
    → limit ≡ limit_in selection → masks ≡ masks_in selection
    → Finds q h masks (test_in selection test) ks found → restricted ≡ of_selection selection found
    → new ≡ at_most limit restricted → Picks q h selection test ks new
picked q h selection test masks limit ks found restricted new good limited masked finds of cut =
    let whole : new ≡ at_most limit (of_selection selection found) =
    cut ∙ ap (λ (cs : List Candidate). at_most limit cs) of in
    record {
      good = good;
      samples_are = ap (λ (cs : List Candidate). map sample_in cs) whole
          ∙ (at_most-map limit (of_selection selection found)
          ∙ (ap (λ (ss : List SamplePosition). at_most limit ss)
          (asked-of q h selection found (handles q h ks found finds.each)
          ∙ ap (λ (ss : List SamplePosition). of_form q h selection ss)
          (finds.samples_are ∙ ap (λ (m : Masks). matching_samples q h m (test_in selection test)) masked))
          ∙ (ap (λ (l : Option ℕ). at_most l
          (of_form q h selection (matching_samples q h (masks_in selection) (test_in selection test)))) limited
          ∙ by-form q h selection test)));
      each =
          subst (λ (cs : List Candidate). All (IsCandidate q h ks) cs) (sym whole)
          (at_most-all (IsCandidate q h ks) limit (of_selection selection found)
          (asked-all (IsCandidate q h ks) selection found finds.each));
    }

-- what the first instance that is asked for tells is picked
pub picked-first : (q : ReaderQos) (h : List Happening) (selection : Selection) (test : Key → List ℕ → Bool)
    (masks : Masks) (limit : Option ℕ) (ks : List Kept) (found : List Candidate) → selection_refusal q h selection ≡ None
    → limit ≡ limit_in selection → masks ≡ masks_in selection
    → AreOfForm q h selection masks (test_in selection test) limit ks found → Picks q h selection test ks found
picked-first q h selection test masks limit ks found good limited masked of = record {
  good = good;
  samples_are =
      of.samples_are
      ∙ (ap (λ (m : Masks). at_most limit (of_form q h selection (matching_samples q h m (test_in selection test)))) masked
      ∙ (ap (λ (l : Option ℕ). at_most l
      (of_form q h selection (matching_samples q h (masks_in selection) (test_in selection test)))) limited
      ∙ by-form q h selection test));
  each = of.each;
}

-- what holds of each that was found holds of each that is picked
pub picked-all : (P : Candidate → Type 0) (selection : Selection) (limit : Option ℕ)
    (found restricted new : List Candidate) → restricted ≡ of_selection selection found → new ≡ at_most limit restricted
    → All P found → All P new
picked-all P selection limit found restricted new of cut all =
    subst (λ (cs : List Candidate). All P cs) (sym (cut ∙ ap (λ (cs : List Candidate). at_most limit cs) of))
    (at_most-all P limit (of_selection selection found) (asked-all P selection found all))

-- what is picked stands by handle
pub picked-sorted : (selection : Selection) (limit : Option ℕ) (found restricted new : List Candidate)
    → restricted ≡ of_selection selection found → new ≡ at_most limit restricted → IsNonDecreasingBy handle_in found
    → IsNonDecreasingBy handle_in new
picked-sorted selection limit found restricted new of cut sorted =
    subst (λ (cs : List Candidate). IsNonDecreasingBy handle_in cs)
    (sym (cut ∙ ap (λ (cs : List Candidate). at_most limit cs) of))
    (few limit (of_selection selection found) (asked selection))
  where
    asked : (selection : Selection) → IsNonDecreasingBy handle_in (of_selection selection found)
    asked (Any max masks) = sorted
    asked (Instance handle max masks) = IsNonDecreasingBy-filter handle_in (has_handle handle) found sorted
    asked (NextInstance previous max masks) =
        IsNonDecreasingBy-filter handle_in (has_handle (first_above previous found)) found sorted
    asked NextSample = sorted

    few : (limit : Option ℕ) (cs : List Candidate) → IsNonDecreasingBy handle_in cs
        → IsNonDecreasingBy handle_in (at_most limit cs)
    few None cs by_handle = by_handle
    few (Some n) cs by_handle = IsNonDecreasingBy-take handle_in n cs by_handle
