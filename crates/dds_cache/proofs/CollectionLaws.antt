-- The collection of picked samples, one sample after another.
use Rattle.std.proofs.Common.{◌≡◌, ℕ, ◌+◌, ◌-◌, ◌<◌, ◌≤◌, ◌^◌, List, [], ◌∷◌, ◌++◌, Bool, true, ◌==◌, set, ⊎_elim, length, get_or, map, drop, reverse, sym, ap, ◌∙◌, refl, subst, arith, zero, suc, Option}
use Rattle.std.specs.Prelude.{slice_get, nat_lt, if◌then◌else◌}
use Rattle.std.proofs.lemmas.Bool.{cases_Bool, eqb-true, eqb-false}
use Rattle.std.proofs.lemmas.Bool.Decides.{nat_tests}
use Rattle.std.specs.List.{All}
use Rattle.std.specs.List.Sorted.{IsNonDecreasingBy}
use Rattle.std.proofs.lemmas.List.{get_or-drop, get_or-map, get_or-set_other, get_or-set_same, get_or_default, length-drop, length-map, same_lists}
use Rattle.std.proofs.lemmas.List.Elements.{All-head, All-tail}
use Rattle.std.proofs.lemmas.Grind.{reverse_onto}
use Rattle.std.proofs.lemmas.Option.{slice_get-get_or}
use Rattle.dds_base.specs.declared.happening.SamplePosition.{SamplePosition}
use Rattle.dds_base.specs.declared.happening.Happening.{Happening}
use Rattle.dds_base.specs.declared.sample.Picked.{Picked}
use Rattle.dds_base.specs.declared.sample.Sample.{Sample}
use Rattle.dds_base.specs.declared.qos.ReaderQos.{ReaderQos}
use Rattle.dds_base.specs.Access.{picked_of, with_ranks, value_of, collection_of}
use Rattle.dds_base.specs.Presence.{is_present}
use Rattle.dds_base.proofs.Lists.{drop-step}
use Rattle.dds_info.specs.declared.ranks.Next.{Next}
use Rattle.dds_info.specs.Ranking.{AreTold, StandsBefore}
use Rattle.dds_cache.specs.declared.access.Candidate.{Candidate}
use Rattle.dds_cache.specs.declared.access_kind.AccessKind.{AccessKind}
use Rattle.dds_cache.specs.declared.access_kind.AccessKind.TheVariants.{Read, Take}
use Rattle.dds_cache.specs.declared.kept.Kept.{Kept}
use Rattle.dds_cache.specs.Kept.{IsKept}
use Rattle.dds_cache.specs.Finding.{IsCandidate, handle_in, sample_in, picked_in}
use Rattle.dds_cache.specs.Picking.{as_sample, collected, value_at, value_for}
use Rattle.dds_cache.proofs.KeptLaws.{present-in, some_kept}

-- what is known of candidates is what the definitions say of their samples
described : (q : ReaderQos) (h : List Happening) (ks : List Kept) (cs : List Candidate) → All (IsCandidate q h ks) cs
    → map picked_in cs ≡ map (picked_of q h) (map sample_in cs)
described q h ks [] each = refl
described q h ks (c ∷ cs) each =
    ap (λ (p : Picked). p ∷ map picked_in cs) (All-head (IsCandidate q h ks) c cs each).picked_is
    ∙ ap (λ (ps : List Picked). picked_of q h c.sample ∷ ps)
    (described q h ks cs (All-tail (IsCandidate q h ks) c cs each))

-- the value of a candidate is that of its kept sample
value-in : (q : ReaderQos) (h : List Happening) (ks : List Kept) (c : Candidate) → All (IsKept q h) ks
    → IsCandidate q h ks c → value_at Read (slice_get ks c.at) ≡ value_of q h c.sample
value-in q h ks c kept is =
    let d : Kept = some_kept c.sample in
    let one : IsKept q h (get_or ks c.at d) = kept c.at d is.within in
    ap (λ (k : Option Kept). value_at Read k) (slice_get-get_or ks c.at d is.within)
    ∙ (one.is_of.value_is (present-in q h (get_or ks c.at d) one
    (ap (λ (s : SamplePosition). is_present q h s.key s.position) (is.there d) ∙ is.present)) ∙ ap (λ (s : SamplePosition). value_of q h s) (is.there d))

-- the collection of candidates is that of their samples
pub collected-is : (q : ReaderQos) (h : List Happening) (ks : List Kept) (cs : List Candidate) → All (IsKept q h) ks
    → All (IsCandidate q h ks) cs → collected Read ks cs ≡ collection_of q h (map sample_in cs)
collected-is q h ks [] kept each = refl
collected-is q h ks (c ∷ cs) kept each =
    let is : IsCandidate q h ks c = All-head (IsCandidate q h ks) c cs each in
    let later : All (IsCandidate q h ks) cs = All-tail (IsCandidate q h ks) c cs each in
    ap (λ (v : List ℕ). record { key = c.sample.key; value = v; info = with_ranks c.picked (map picked_in cs) }
    ∷ collected Read ks cs) (value-in q h ks c kept is)
    ∙ (ap (λ (p : Picked). record { key = c.sample.key; value = value_of q h c.sample; info = with_ranks p (map picked_in cs) }
    ∷ collected Read ks cs) is.picked_is
    ∙ (ap (λ (ps : List Picked). record {
      key = c.sample.key;
      value = value_of q h c.sample;
      info = with_ranks (picked_of q h c.sample) ps;
    } ∷ collected Read ks cs) (described q h ks cs later)
    ∙ ap (λ (xs : List Sample). record {
      key = c.sample.key;
      value = value_of q h c.sample;
      info = with_ranks (picked_of q h c.sample) (map (picked_of q h) (map sample_in cs));
    } ∷ xs) (collected-is q h ks cs kept later)))

-- there is a sample of each candidate
pub length-collected : (kind : AccessKind) (ks : List Kept) (cs : List Candidate)
    → length (collected kind ks cs) ≡ length cs
length-collected kind ks [] = refl
length-collected kind ks (c ∷ cs) = ap (λ (n : ℕ). suc n) (length-collected kind ks cs)

-- what is known of candidates from one of them on stands by handle
pub sorted-drop : (c : Candidate) (cs : List Candidate) (at : ℕ) → IsNonDecreasingBy handle_in cs
    → IsNonDecreasingBy (λ (x : Picked). x.instance_handle) (map picked_in (drop at cs))
sorted-drop c cs at sorted = λ i j d le within.
    let rest : List Candidate = drop at cs in
    let count : length (map picked_in rest) ≡ length cs - at = length-map rest picked_in ∙ length-drop at cs in
    let first : get_or (map picked_in rest) i d ≡ picked_in (get_or cs (at + i) c) =
    get_or-map picked_in rest i c d (omega (arith, le, within, count, length-drop at cs))
    ∙ ap picked_in (get_or-drop at cs i c) in
    let second : get_or (map picked_in rest) j d ≡ picked_in (get_or cs (at + j) c) =
    get_or-map picked_in rest j c d (omega (arith, within, count, length-drop at cs)) ∙ ap picked_in (get_or-drop at cs j c) in
    subst (λ (p : Picked). p.instance_handle ≤ (get_or (map picked_in rest) j d).instance_handle) (sym first)
    (subst (λ (p : Picked). (get_or cs (at + i) c).picked.instance_handle ≤ p.instance_handle) (sym second)
    (sorted (at + i) (at + j) c (omega (arith, le)) (omega (arith, within, count))))

-- one more sample of a collection, from the last one on
pub record CollectsMore (kind : AccessKind) (ks : List Kept) (cs : List Candidate) (done : ℕ) (next : Option Next)
    (samples : List Sample) : Type 0 where
  pub items : samples ≡ reverse (collected kind ks (drop (length cs - done) cs))
  pub told : AreTold (map picked_in (drop (length cs - done) cs)) next

-- what is told of the candidates so far stands behind the one before them
pub stands-before : (kind : AccessKind) (ks : List Kept) (cs : List Candidate) (done : ℕ) (next : Option Next)
    (samples : List Sample) (c : Candidate) → done < length cs → length cs < 2 ^ 64 → IsNonDecreasingBy handle_in cs
    → c ≡ get_or cs (length cs - 1 - done) c → CollectsMore kind ks cs done next samples
    → StandsBefore c.picked (map picked_in (drop (length cs - done) cs)) next
stands-before kind ks cs done next samples c within few sorted c_is so_far =
    let at : ℕ = length cs - 1 - done in
    let after : at + 1 ≡ length cs - done = omega (arith, within) in
    let split : drop at cs ≡ c ∷ drop (length cs - done) cs =
    drop-step cs at c (omega (arith, within)) c_is ∙ ap (λ (m : ℕ). c ∷ drop m cs) after in
    record {
      told = so_far.told;
      sorted =
          subst (λ (xs : List Candidate). IsNonDecreasingBy (λ (x : Picked). x.instance_handle) (map picked_in xs)) split
          (sorted-drop c cs at sorted);
      few = omega (
        arith,
        within,
        few,
        length-map (drop (length cs - done) cs) picked_in,
        length-drop (length cs - done) cs,
      );
    }

-- the sample of the one before them comes next
pub collects-more : (kind : AccessKind) (ks : List Kept) (cs : List Candidate) (done : ℕ) (next new : Option Next)
    (samples : List Sample) (c : Candidate) (k : Kept) (one : Sample) (value : List ℕ) → done < length cs
    → c ≡ get_or cs (length cs - 1 - done) c → c.at < length ks → k ≡ get_or ks c.at k → value ≡ value_for kind k
    → one ≡ record {
      key = c.sample.key;
      value = value;
      info = with_ranks c.picked (map picked_in (drop (length cs - done) cs));
    }
    → AreTold (c.picked ∷ map picked_in (drop (length cs - done) cs)) new
    → CollectsMore kind ks cs done next samples → CollectsMore kind ks cs (done + 1) new (samples ++ one ∷ [])
collects-more kind ks cs done next new samples c k one value within c_is inside k_is value_is one_is told so_far =
    let at : ℕ = length cs - 1 - done in
    let rest : List Candidate = drop (length cs - done) cs in
    let after : at + 1 ≡ length cs - done = omega (arith, within) in
    let here : length cs - (done + 1) ≡ at = omega (arith, within) in
    let split : drop (length cs - (done + 1)) cs ≡ c ∷ rest = ap (λ (m : ℕ). drop m cs) here
    ∙ (drop-step cs at c (omega (arith, within)) c_is ∙ ap (λ (m : ℕ). c ∷ drop m cs) after) in
    let shown : value_at kind (slice_get ks c.at) ≡ value =
    ap (λ (x : Option Kept). value_at kind x) (slice_get-get_or ks c.at k inside)
    ∙ (ap (λ (x : Kept). value_for kind x) (sym k_is) ∙ sym value_is) in
    let is : one ≡ as_sample kind ks c rest =
    one_is ∙ ap (λ (v : List ℕ). record { key = c.sample.key; value = v; info = with_ranks c.picked (map picked_in rest) })
    (sym shown) in
    record {
      items = ap (λ (x : Sample). samples ++ x ∷ []) is
          ∙ (ap (λ (xs : List Sample). xs ++ as_sample kind ks c rest ∷ []) so_far.items
          ∙ (sym (reverse_onto (collected kind ks rest) (as_sample kind ks c rest) [])
          ∙ ap (λ (xs : List Candidate). reverse (collected kind ks xs)) (sym split)));
      told = subst (λ (xs : List Candidate). AreTold (map picked_in xs) new) (sym split) told;
    }

-- with its value, a sample is that of a read
pub collected-at : (ks : List Kept) (cs : List Candidate) (at : ℕ) (c : Candidate) (d : Sample) → at < length cs
    → get_or (collected Read ks cs) at d
    ≡ record (get_or (collected Take ks cs) at d) { value = value_at Read (slice_get ks (get_or cs at c).at) }
collected-at ks [] at c d within = absurd (omega (arith, within))
collected-at ks (x ∷ cs) zero c d within = refl
collected-at ks (x ∷ cs) (suc at) c d within = collected-at ks cs at c d (omega (arith, within))

-- the sample of a take, with the value that was taken out, is that of a read
pub value-read : (ks : List Kept) (cs : List Candidate) (at : ℕ) (c : Candidate) (y : Sample) (k : Kept) (v : List ℕ)
    → at < length cs → c ≡ get_or cs at c → c.at < length ks → k ≡ get_or ks c.at k → v ≡ k.value
    → y ≡ get_or (collected Take ks cs) at y
    → record y { value = v } ≡ get_or (collected Read ks cs) at (record y { value = v })
value-read ks cs at c y k v within c_is inside k_is v_is y_is =
    let new : Sample = record y { value = v } in
    let shown : value_at Read (slice_get ks (get_or cs at c).at) ≡ v =
    ap (λ (z : Candidate). value_at Read (slice_get ks z.at)) (sym c_is)
    ∙ (ap (λ (o : Option Kept). value_at Read o) (slice_get-get_or ks c.at k inside)
    ∙ (ap (λ (x : Kept). x.value) (sym k_is) ∙ sym v_is)) in
    sym (get_or_default (collected Read ks cs) at new y (omega (arith, within, length-collected Read ks cs))
    ∙ (collected-at ks cs at c y within
    ∙ (ap (λ (s : Sample). record s { value = value_at Read (slice_get ks (get_or cs at c).at) }) (sym y_is)
    ∙ ap (λ (w : List ℕ). record y { value = w }) shown)))

-- of two lists the first gives one element more
pub values-more : (reads takes now : List Sample) (at : ℕ) (new : Sample) → at < length now → at < length reads
    → ((k : ℕ) (d : Sample) → k < length now → get_or now k d ≡ get_or (if nat_lt k at then reads else takes) k d)
    → new ≡ get_or reads at new
    → (k : ℕ) (d : Sample) → k < length now
    → get_or (set now at new) k d ≡ get_or (if nat_lt k (at + 1) then reads else takes) k d
values-more reads takes now at new inside within so_far new_is k d below =
    ⊎_elim (λ same. here (eqb-true k at same)) (λ other. there (eqb-false k at other)) (cases_Bool (k == at))
  where
    just-below : (n : ℕ) → nat_lt n (n + 1) ≡ true
    just-below n = grind (arith, nat_tests)

    as-before : (k at : ℕ) → (k ≡ at → ⊥) → nat_lt k at ≡ nat_lt k (at + 1)
    as-before k at other = grind (arith, nat_tests)

    here : k ≡ at → get_or (set now at new) k d ≡ get_or (if nat_lt k (at + 1) then reads else takes) k d
    here same =
        ap (λ (n : ℕ). get_or (set now at new) n d) same
        ∙ (get_or-set_same now at new d inside
        ∙ (new_is
        ∙ (get_or_default reads at new d within
        ∙ (ap (λ (b : Bool). get_or (if b then reads else takes) at d) (sym (just-below at))
        ∙ ap (λ (n : ℕ). get_or (if nat_lt n (at + 1) then reads else takes) n d) (sym same)))))

    there : (k ≡ at → ⊥) → get_or (set now at new) k d ≡ get_or (if nat_lt k (at + 1) then reads else takes) k d
    there other =
        get_or-set_other now at k new d other
        ∙ (so_far k d below
        ∙ ap (λ (b : Bool). get_or (if b then reads else takes) k d) (as-before k at other))

-- all of them are those of the first
pub values-all : (reads takes now : List Sample) (at : ℕ) → length now ≡ length reads → length now ≤ at
    → ((k : ℕ) (d : Sample) → k < length now → get_or now k d ≡ get_or (if nat_lt k at then reads else takes) k d)
    → now ≡ reads
values-all reads takes now at same all so_far =
    same_lists now reads same (λ k d within. so_far k d within
    ∙ ap (λ (b : Bool). get_or (if b then reads else takes) k d) (below k at (omega (arith, within, all))))
  where
    below : (k at : ℕ) → k < at → nat_lt k at ≡ true
    below k at less = grind (arith, nat_tests, less)
