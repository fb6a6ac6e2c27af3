-- What a track takes up of samples that were returned.
use Rattle.std.proofs.Common.{◌≡◌, ℕ, ◌<◌, List, [], ◌∷◌, ◌++◌, length, get_or, set, map, Bool, true, false, ◌&&◌, ◌||◌, sym, ap, ◌∙◌, refl, subst, arith}
use Rattle.std.specs.Prelude.{nat_le}
use Rattle.std.specs.List.{All, list_any}
use Rattle.std.proofs.lemmas.List.Elements.{All-set}
use Rattle.std.proofs.lemmas.List.Folds.{list_any-append}
use Rattle.dds_base.specs.declared.happening.SamplePosition.{SamplePosition}
use Rattle.dds_base.specs.Happening.{same_key}
use Rattle.dds_base.specs.Instance.{is_since}
use Rattle.dds_instances.specs.declared.track.InstanceTrack.{InstanceTrack}
use Rattle.dds_instances.specs.Track.{Fits, seen_at, seen_in}

pub or-none : (b : Bool) → (b || false) ≡ b
or-none true = refl
or-none false = refl

-- of one sample: where it is of the instance its position is looked at, and else nothing is
abbrev pub saw : Bool → ℕ → InstanceTrack → InstanceTrack
saw true position t = seen_at position t
saw false position t = t

pub saw-one : (s : SamplePosition) (t : InstanceTrack) (own : Bool) → same_key s.key t.key ≡ own
    → saw own s.position t ≡ seen_in (s ∷ []) t
saw-one s t true is =
    ap (λ (b : Bool). record t { is_seen = t.is_seen || b })
    (sym (or-none (is_since t.key t.latest_rebirth s) ∙ ap (λ (b : Bool). b && nat_le t.latest_rebirth s.position) is))
saw-one s t false is =
    ap (λ (b : Bool). record t { is_seen = b })
    (sym (ap (λ (b : Bool). t.is_seen || ((b && nat_le t.latest_rebirth s.position) || false)) is ∙ or-none t.is_seen))

pub saw-more : (ss : List SamplePosition) (s : SamplePosition) (ts : List InstanceTrack)
    → map (seen_in (s ∷ [])) (map (seen_in ss) ts) ≡ map (seen_in (ss ++ s ∷ [])) ts
saw-more ss s [] = refl
saw-more ss s (t ∷ ts) =
    ap (λ (b : Bool). (record t { is_seen = b }) ∷ map (seen_in (s ∷ [])) (map (seen_in ss) ts))
    (or-assoc t.is_seen (list_any (is_since t.key t.latest_rebirth) ss) (is_since t.key t.latest_rebirth s || false)
    ∙ ap (λ (b : Bool). t.is_seen || b) (sym (list_any-append (is_since t.key t.latest_rebirth) ss (s ∷ []))))
    ∙ ap (λ (us : List InstanceTrack). seen_in (ss ++ s ∷ []) t ∷ us) (saw-more ss s ts)
  where
    or-assoc : (a b c : Bool) → ((a || b) || c) ≡ (a || (b || c))
    or-assoc true b c = refl
    or-assoc false b c = refl

pub saw-step : (ss : List SamplePosition) (s : SamplePosition) (ts now new : List InstanceTrack) → now ≡ map (seen_in ss) ts
    → new ≡ map (seen_in (s ∷ [])) now → new ≡ map (seen_in (ss ++ s ∷ [])) ts
saw-step ss s ts now new before step =
    step ∙ (ap (λ (us : List InstanceTrack). map (seen_in (s ∷ [])) us) before ∙ saw-more ss s ts)

-- before any is
pub saw-none : (ts : List InstanceTrack) → ts ≡ map (seen_in []) ts
saw-none [] = refl
saw-none (t ∷ ts) =
    ap (λ (b : Bool). (record t { is_seen = b }) ∷ ts) (sym (or-none t.is_seen))
    ∙ ap (λ (us : List InstanceTrack). seen_in [] t ∷ us) (saw-none ts)

pub fits-saw : (n : ℕ) (ts : List InstanceTrack) (at position : ℕ) (t x : InstanceTrack) → at < length ts
    → t ≡ get_or ts at t → x ≡ seen_at position t → All (Fits n) ts → All (Fits n) (set ts at x)
fits-saw n ts at position t x inside is sees fits =
    let before : Fits n t = subst (λ (y : InstanceTrack). Fits n y) (sym is) (fits at t inside) in
    let after : Fits n (seen_at position t) =
    record { writes = before.writes; generations = before.generations; marker = before.marker } in
    All-set (Fits n) ts at x (subst (λ (y : InstanceTrack). Fits n y) (sym sees) after) fits

-- a list of one sample
pub one-sample : (ss : List SamplePosition) (d : SamplePosition) → length ss ≡ 1 → ss ≡ get_or ss 0 d ∷ []
one-sample [] d one = absurd (omega (arith, one))
one-sample (s ∷ []) d one = refl
one-sample (s ∷ t ∷ ss) d one = absurd (omega (arith, one))
