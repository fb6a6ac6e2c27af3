-- What a strength that is set does to a peer.
use Rattle.std.proofs.Common.{◌≡◌, ◌≢◌, ℕ, suc, ◌+◌, ◌<◌, Bool, true, false, Option, None, Some, length, slice_get, refl, ap, sym, subst, ◌∙◌, arith}
use Rattle.std.specs.Prelude.{if◌then◌else◌, ℤ, not, is_some}
use Rattle.dds_base.specs.declared.code.Code.{Code}
use Rattle.dds_base.specs.declared.code.Code.TheVariants.{BadParameter, PreconditionNotMet}
use Rattle.dds_protocol.specs.Roster.{Roster}
use Rattle.dds_base.specs.Written.{StrengthSet}
use Rattle.dds_machine.specs.declared.call.Call.TheVariants as call
use Rattle.dds_base.specs.declared.endpoint.Endpoint.{Endpoint}
use Rattle.dds_machine.specs.declared.reply.Reply.TheVariants.{Done, Refused}
use Rattle.dds_machine.specs.Numbered.{has_element}
use Rattle.dds_machine.specs.Part.{Writer, own_writer}
use Rattle.dds_machine.specs.Refusals.{strength_refusal}
use Rattle.dds_protocol.specs.declared.event.Event.TheVariants as event
use Rattle.dds_protocol.specs.Peer.{Peer}
use Rattle.dds_protocol.specs.Contact.{Contact}
use Rattle.dds_ends.specs.Kept.{WriterKept}
use Rattle.dds_core.specs.Kept.{PeerKept}
use Rattle.dds_ends.specs.Standing.{WriterStands}
use Rattle.dds_core.specs.Standing.{StandsFor}
use Rattle.dds_ends.specs.Stepping.{Enters}
use Rattle.dds_core.proofs.Ends.{entered_at, with_writer, own_writer_stepped, unchanged_with}
use Rattle.dds_core.proofs.Tellable.{tellable_entered}
use Rattle.dds_core.proofs.Taking.{silent}
use Rattle.dds_core.proofs.CallSteps.{Follows, answered_as, refused_as, refused_call, there_is, number_is}

-- the writer has a strength, or it has none
by_strength : (known : Bool) (strength : Option ℤ) → known ≡ true → strength ≢ None
    → (if not known then Some BadParameter else (if not (is_some strength) then Some PreconditionNotMet else None)) ≡ None
by_strength true (Some z) is some = refl
by_strength true None is some = absurd (some refl)
by_strength false strength is some = absurd cc

shared_refused : (known : Bool) (strength : Option ℤ) → known ≡ true → strength ≡ None
    → (if not known then Some BadParameter else (if not (is_some strength) then Some PreconditionNotMet else None))
    ≡ Some PreconditionNotMet
shared_refused true None is none = refl
shared_refused true (Some z) is none = absurd cc
shared_refused false strength is none = absurd cc

-- the writer of this index takes it
sets : (kept : PeerKept) (i : ℕ) (k k' : WriterKept) (strength : ℤ) (roster : Roster) (peer : Peer)
    → StandsFor kept roster peer → slice_get kept.writers i ≡ Some k → i < length kept.writers
    → ((w : Writer) (answered : Endpoint → Contact) → WriterStands k w answered → w.strength ≢ None)
    → Enters k (StrengthSet strength) k'
    → Follows (with_writer kept i k') roster peer (event.Call (call.SetStrength (suc i) strength)) (silent Done)
sets kept i k k' strength roster peer s at lt exclusive enters =
    let count = s.writers.count in
    let known : has_element peer.part.rtps.writers (suc i) ≡ true =
    there_is peer.part.rtps.writers i (omega (arith, lt, count)) in
    let w : Writer = own_writer peer.part (suc i) in
    let none : strength_refusal peer.part (suc i) ≡ None =
    by_strength (has_element peer.part.rtps.writers (suc i)) w.strength known
    (exclusive w (peer.known.answered (suc i)) (s.writers.each i k at)) in (
      entered_at peer (suc i) (StrengthSet strength),
      record {
        same_number = refl;
        knows = refl;
        step = (
          record { answers = answered_as _ Done peer.part.dds peer.part _ none refl; rtps = refl },
          refl,
        );
        sent = λ p x m h.
            absurd (omega (arith, m.1));
      },
      own_writer_stepped kept i k k' (StrengthSet strength) roster peer s at enters
          (tellable_entered peer (suc i) (StrengthSet strength) s.tellable tt),
    )

-- so does the one of a number
pub sets_at : (kept : PeerKept) (writer i : ℕ) (k k' : WriterKept) (strength : ℤ) (roster : Roster) (peer : Peer)
    → StandsFor kept roster peer → writer ≡ i + 1 → slice_get kept.writers i ≡ Some k → i < length kept.writers
    → ((w : Writer) (answered : Endpoint → Contact) → WriterStands k w answered → w.strength ≢ None)
    → Enters k (StrengthSet strength) k'
    → Follows (with_writer kept i k') roster peer (event.Call (call.SetStrength writer strength)) (silent Done)
sets_at kept writer i k k' strength roster peer s is at lt exclusive enters =
    subst (λ (n : ℕ). Follows (with_writer kept i k') roster peer (event.Call (call.SetStrength n strength))
    (silent Done)) (number_is writer i is) (sets kept i k k' strength roster peer s at lt exclusive enters)

-- one of shared ownership refuses it
pub shared_at : (kept : PeerKept) (writer i : ℕ) (k k' : WriterKept) (strength : ℤ) (code : Code) (roster : Roster)
    (peer : Peer) → StandsFor kept roster peer → writer ≡ i + 1 → slice_get kept.writers i ≡ Some k
    → i < length kept.writers
    → ((w : Writer) (answered : Endpoint → Contact) → WriterStands k w answered
    → (w.strength ≡ None) × (code ≡ PreconditionNotMet)) → k' ≡ k
    → Follows (with_writer kept i k') roster peer (event.Call (call.SetStrength writer strength)) (silent (Refused code))
shared_at kept writer i k k' strength code roster peer s is at lt refuses same =
    let count = s.writers.count in
    let w : Writer = own_writer peer.part (suc i) in
    let r = refuses w (peer.known.answered (suc i)) (s.writers.each i k at) in
    let some : strength_refusal peer.part (suc i) ≡ Some PreconditionNotMet =
    shared_refused (has_element peer.part.rtps.writers (suc i)) w.strength
    (there_is peer.part.rtps.writers i (omega (arith, lt, count))) r.0 in
    subst (λ (x : PeerKept). Follows x roster peer (event.Call (call.SetStrength writer strength))
    (silent (Refused code))) (sym (unchanged_with kept i k k' at same))
    (subst (λ (n : ℕ). Follows kept roster peer (event.Call (call.SetStrength n strength)) (silent (Refused code)))
    (number_is writer i is)
    (refused_call kept roster peer s (call.SetStrength (suc i) strength) code
    (refused_as _ Done peer.part.dds peer.part code (some ∙ ap (λ (x : Code). Some x) (sym r.1)))))
