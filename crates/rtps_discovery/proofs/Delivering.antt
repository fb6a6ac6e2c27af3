-- What is passed over.
use Rattle.std.proofs.Common.{◌≡◌, ◌∙◌, ℕ, false, max, List, None, sym, ap, refl, inr}
use Rattle.dds_base.specs.declared.guid.GuidPrefix.{GuidPrefix}
use Rattle.dds_base.proofs.FieldLaws.{some_is}
use Rattle.rtps_wire.specs.Messages.{HasHeader}
use Rattle.rtps_wire.proofs.MessageLaws.{header_again}
use Rattle.rtps_discovery.specs.Steps.{State, Delivers, is_other, with_rows}

-- time goes on, and nothing else
pub goes_on : (inside old new : State) (time moment : ℕ) → inside ≡ old → time ≡ max inside.time moment
    → new ≡ with_rows inside inside.rows time inside.next → new ≡ with_rows old old.rows (max old.time moment) old.next
goes_on inside old new time moment same is made =
    made ∙ ap (λ (t : ℕ). with_rows inside inside.rows t inside.next) is
    ∙ ap (λ (s : State). with_rows s s.rows (max s.time moment) s.next) same

pub passes_none : (s : State) (moment : ℕ) (address bytes : List ℕ) (new : State)
    → ((source : GuidPrefix) (body : List ℕ) → HasHeader bytes source body → ⊥)
    → new ≡ with_rows s s.rows (max s.time moment) s.next → Delivers s moment address bytes new None None
passes_none s moment address bytes new none state = inr (record {
  none = λ source body header. absurd (none source body header);
  state = state;
  told_is = refl;
  packet_is = refl;
})

pub passes_own : (s : State) (moment : ℕ) (address bytes : List ℕ) (new : State) (source : GuidPrefix) (body : List ℕ)
    → HasHeader bytes source body → is_other s source ≡ false
    → new ≡ with_rows s s.rows (max s.time moment) s.next → Delivers s moment address bytes new None None
passes_own s moment address bytes new source body header own state = inr (record {
  none = λ other rest also.
      let same =
      some_is (other, rest) (source, body)
      (sym (header_again bytes other rest also) ∙ header_again bytes source body header) in
      ap (λ (x : GuidPrefix × List ℕ). is_other s x.0) same ∙ own;
  state = state;
  told_is = refl;
  packet_is = refl;
})
