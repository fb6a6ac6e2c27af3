-- Our endpoints, while they are announced.
use Rattle.std.proofs.Common.{◌≡◌, ◌⊎◌, ◌<◌, ◌∙◌, suc, true, false, List, [], ◌∷◌, ◌++◌, ap, drop, get_or, inl, inr, length, refl, subst, sym, take}
use Rattle.std.proofs.Math.Seq.{split_at}
use Rattle.std.proofs.lemmas.List.{append_assoc, append-nil}
use Rattle.std.specs.List.{fold, list_any}
use Rattle.dds_base.specs.declared.code.Code.{Code}
use Rattle.dds_base.specs.Checked.{same_prefix}
use Rattle.rtps_matching.specs.declared.end.End.{End}
use Rattle.rtps_matching.specs.Matches.{is_named}
use Rattle.rtps_matching.specs.Steps.{has_own}
use Rattle.dds_discovery.specs.States.{State}
use Rattle.dds_domain.specs.Participants.{CantBeAdded, adding}

-- they stand behind those that there were
owns : (es : List End) (d : State) → (fold adding d es).endpoints.own ≡ d.endpoints.own ++ es
owns [] d = sym (append-nil d.endpoints.own)
owns (e ∷ es) d = owns es (adding d e) ∙ append_assoc d.endpoints.own (e ∷ []) es

-- and we are who we were
is_ours : (es : List End) (d : State) → (fold adding d es).own ≡ d.own
is_ours [] d = refl
is_ours (e ∷ es) d = is_ours es (adding d e)

-- One is refused behind those so far, so all are.
pub refused_at : (first now : State) (ends so_far : List End) (end : End) (code : Code) → first.endpoints.own ≡ []
    → now ≡ fold adding first so_far → so_far ≡ take (length so_far) ends
    → (length so_far < length ends) × (end ≡ get_or ends (length so_far) end)
    → ((code ≡ Code.BadParameter) × (same_prefix end.endpoint.guid.prefix now.own ≡ false))
    ⊎ (((code ≡ Code.PreconditionNotMet) × (has_own end.endpoint.guid now.endpoints ≡ true)) ⊎ (code ≡ Code.Memory))
    → (code ≡ Code.Memory) ⊎ CantBeAdded first.own ends code
refused_at first now ends so_far end code none goes front at cause = by cause
  where
    own : now.own ≡ first.own
    own = ap (λ (s : State). s.own) goes ∙ is_ours so_far first

    before : now.endpoints.own ≡ so_far
    before =
        ap (λ (s : State). s.endpoints.own) goes ∙ owns so_far first ∙ ap (λ (es : List End). es ++ so_far) none

    stands : ends ≡ so_far ++ end ∷ drop (suc (length so_far)) ends
    stands =
        split_at ends (length so_far) end at.0
        ∙ ap (λ (es : List End). es ++ get_or ends (length so_far) end ∷ drop (suc (length so_far)) ends) (sym front)
        ∙ ap (λ (e : End). so_far ++ e ∷ drop (suc (length so_far)) ends) (sym at.1)

    by : ((code ≡ Code.BadParameter) × (same_prefix end.endpoint.guid.prefix now.own ≡ false))
        ⊎ (((code ≡ Code.PreconditionNotMet) × (has_own end.endpoint.guid now.endpoints ≡ true)) ⊎ (code ≡ Code.Memory))
        → (code ≡ Code.Memory) ⊎ CantBeAdded first.own ends code
    by (inl bad) = inr (record {
      before = so_far;
      end = end;
      rest = drop (suc (length so_far)) ends;
      stands = stands;
      cause = inl (bad.0, subst (λ p. same_prefix end.endpoint.guid.prefix p ≡ false) own bad.1);
    })
    by (inr (inl twice)) = inr (record {
      before = so_far;
      end = end;
      rest = drop (suc (length so_far)) ends;
      stands = stands;
      cause = inr (twice.0, subst (λ (es : List End). list_any (is_named end.endpoint.guid) es ≡ true) before twice.1);
    })
    by (inr (inr memory)) = inl memory
