use Rattle.std.proofs.Common.{◌≡◌, ℕ, ◌≤◌, Bool, List, Option, Some, IsTrue, sym, subst, ◌∙◌, length, take}
use Rattle.std.specs.Bool.{Decides}
use Rattle.std.proofs.lemmas.Slice.Eq.{slice_eq-Decides}
use Rattle.std.proofs.lemmas.Bool.Decides.{Decides-eqb}
use Rattle.dds_base.specs.declared.guid.GuidPrefix.{GuidPrefix}
use Rattle.rtps_announcements.specs.Values.{IsOfSender}
use Rattle.rtps_announcements.proofs.ValueLaws.{sender_found, sender_only}
use Rattle.rtps_announcements.proofs.endpoint.is_of_sender.Goals as goal

-- a value that is long enough is of the sender where its front is the prefix
by_front : (b : Bool) (source : GuidPrefix) (v prefix : List ℕ) (o : Option (List ℕ)) → Decides b (take 12 v ≡ prefix)
    → prefix ≡ source.0 → length source.0 ≡ 12 → 16 ≤ length v → Some v ≡ o
    → (IsTrue b → IsOfSender source o) × (IsOfSender source o → IsTrue b)
by_front b source v prefix o decides same twelve long e =
    subst (λ (w : Option (List ℕ)). (IsTrue b → IsOfSender source w) × (IsOfSender source w → IsTrue b)) e (
      λ t. sender_found source.0 v twelve long (decides.0 t ∙ same),
      λ h. decides.1 ((sender_only source.0 v twelve h).1 ∙ sym same),
    )

pub returns-then-value : goal.returns-then-value
returns-then-value c =
    by_front c.eq.result c.args.source c.in-Some.value.now c.as_slice.result.now _
    (slice_eq-Decides Decides-eqb _ _ _ c.eq.ensures) c.as_slice.ensures.same c.as_slice.ensures.len c.if-value.true
    c.in-Some.ensures
