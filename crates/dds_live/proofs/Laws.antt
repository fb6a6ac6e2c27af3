-- What comes one after the other.
use Rattle.std.proofs.Common.{◌≡◌, ◌<◌, ◌≤◌, ◌+◌, ◌∙◌, ℕ, suc, List, [], ◌∷◌, ◌++◌, add-one, ap, get_or, length, refl, subst, sym, take}
use Rattle.std.specs.List.{fold}
use Rattle.std.proofs.lemmas.List.{length-append, take_more}
use Rattle.dds_base.specs.declared.guid.GuidPrefix.{GuidPrefix}
use Rattle.dds_base.specs.declared.mask.Masks.{Masks}
use Rattle.dds_domain.specs.declared.opening.OurEnd.{OurEnd}
use Rattle.dds_domain.specs.Opening.{no_parts, with_end}
use Rattle.dds_domain.specs.Participants.{IsOpened, State as Participant}
use Rattle.dds_domain.specs.Turns.{State as Turn}
use Rattle.rtps_discovery.specs.declared.discovery.Settings.{Settings}
use Rattle.dds_live.specs.declared.ends.EndSettings.{EndSettings}
use Rattle.dds_live.specs.Ends.{AreEnds, IsEnd, more as next, none as nothing}
use Rattle.dds_live.specs.Openings.{IsBegun, participant_at}
use Rattle.dds_live.specs.States.{Binding, State}
use Rattle.dds_live.specs.Turns.{HearsAll, Hearings, HearsOne, more}

-- one datagram more
pub heard_next : (n : ℕ) (masks : Masks) (moment : ℕ) (a : State) (t : Turn) (b : State) (u : Turn) (c : State) (v : Turn)
    → Hearings n masks moment a t b u → HearsOne masks moment b u c v → Hearings (n + 1) masks moment a t c v
heard_next n masks moment a t b u c v so_far one =
    subst (λ (m : ℕ). Hearings m masks moment a t c v) (sym (add-one n)) (more n masks moment a t b u c v so_far one)

-- every state of each kind
abbrev pub any : Masks
any = record { samples = record { 0 = 65535 }; views = record { 0 = 65535 }; instances = record { 0 = 65535 } }

-- then none was there
pub heard_all : (n : ℕ) (masks : Masks) (moment : ℕ) (a : State) (t : Turn) (b : State) (u : Turn) (c : State) (v : Turn)
    → n ≤ 64 → Hearings n masks moment a t b u → (c ≡ b) × (v ≡ u) → HearsAll masks moment a t c v
heard_all n masks moment a t b u c v few so_far same = record {
  count = n;
  bounded = few;
  hearings = subst (λ (s : State). Hearings n masks moment a t s v) (sym same.0)
      (subst (λ (w : Turn). Hearings n masks moment a t b w) (sym same.1) so_far);
}

-- as many as may be
pub heard_through : (n : ℕ) (masks : Masks) (moment : ℕ) (a : State) (t : Turn) (b : State) (u : Turn) → n ≤ 64
    → Hearings n masks moment a t b u → HearsAll masks moment a t b u
heard_through n masks moment a t b u few so_far = record { count = n; bounded = few; hearings = so_far }

-- ---- the opening

-- it begins with these settings
pub begun : (prefix : GuidPrefix) (b : Binding) (ours : List OurEnd) (l : State) (s : Settings) (p : Participant)
    → IsOpened s 128 (fold with_end no_parts ours) p
    → l ≡ record { participant = p; locator = b.locator; moments = b.moments } → s.participant ≡ participant_at prefix b.locator
    → s.domain ≡ b.domain → s.addresses.items ≡ b.addresses → s.limits ≡ record { of_all = 64; of_one_address = 64 }
    → IsBegun prefix b ours l
begun prefix b ours l s p opened same participant domain addresses limits =
    subst (λ (x : State). IsBegun prefix b ours x) (sym same) (record {
      settings = s;
      said = record { participant = participant; domain = domain; addresses = addresses; limits = limits };
      opened = opened;
      locator = refl;
      moments = refl;
    })

-- ---- endpoints

-- none yet
pub ends_none : (prefix : GuidPrefix) (es : List EndSettings) (os : List OurEnd) → os ≡ []
    → AreEnds prefix (take 0 es) os × (length os ≡ 0)
ends_none prefix es os empty =
    (subst (λ (xs : List OurEnd). AreEnds prefix [] xs) (sym empty) (nothing prefix), ap length empty)

-- one more
ends_and_one : (prefix : GuidPrefix) (es : List EndSettings) (i : ℕ) (d : EndSettings) (os : List OurEnd) (o : OurEnd)
    (number : ℕ) → i < length es → length os ≡ i → number ≡ i + 1 → AreEnds prefix (take i es) os
    → IsEnd prefix number (get_or es i d) o → AreEnds prefix (take (i + 1) es) (os ++ o ∷ [])
ends_and_one prefix es i d os o number within same numbered so_far is =
    let follows : number ≡ suc (length os) = numbered ∙ (add-one i ∙ ap suc (sym same)) in
    subst (λ (xs : List EndSettings). AreEnds prefix xs (os ++ o ∷ [])) (sym (take_more es i d within))
    (next prefix (take i es) (get_or es i d) os o so_far
    (subst (λ (n : ℕ). IsEnd prefix n (get_or es i d) o) follows is))

-- it stands behind those so far
pub ends_more : (prefix : GuidPrefix) (es : List EndSettings) (i : ℕ) (d : EndSettings) (os new : List OurEnd) (o : OurEnd)
    (number : ℕ) → new ≡ os ++ o ∷ [] → i < length es → number ≡ i + 1
    → AreEnds prefix (take i es) os × (length os ≡ i) → IsEnd prefix number (get_or es i d) o
    → AreEnds prefix (take (i + 1) es) new × (length new ≡ i + 1)
ends_more prefix es i d os new o number pushed within numbered so_far is = (
  subst (λ (xs : List OurEnd). AreEnds prefix (take (i + 1) es) xs) (sym pushed)
      (ends_and_one prefix es i d os o number within so_far.1 numbered so_far.0 is),
  ap length pushed ∙ (length-append os (o ∷ []) ∙ ap (λ (n : ℕ). n + 1) so_far.1),
)
