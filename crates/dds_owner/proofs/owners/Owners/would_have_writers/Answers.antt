use Rattle.std.proofs.Common.{◌≡◌, ◌<◌, Bool, List, length, not, true, false, ap, sym, ◌∙◌, arith}
use Rattle.std.specs.List.{list_any}
use Rattle.dds_base.specs.declared.happening.Happening.{Happening}
use Rattle.dds_base.specs.declared.qos.ReaderQos.{ReaderQos}
use Rattle.dds_base.specs.Happening.{is_unregister}
use Rattle.dds_base.specs.Ownership.{writers_of}
use Rattle.dds_owner.specs.declared.registration.Registration.{Registration}
use Rattle.dds_owner.specs.Registration.{entered, is_there}
use Rattle.dds_owner.specs.Standing.{Kept, places_of}
use Rattle.dds_owner.proofs.RegistrationLaws.{somebody-left, somebody-new}
use Rattle.dds_owner.proofs.owners.Owners.would_have_writers.Goals as goal
use Rattle.dds_owner.proofs.owners.Owners.would_have_writers.Goals.{else-is_entered-via-then-is_entered+then-len-writer+else-writer-writers, else-is_entered-via-then-is_entered+else-len-writer, else-is_entered-via-else-is_entered}

-- its writer has no place, and is matched
pub returns-then-writer-writers : goal.returns-then-writer-writers
returns-then-writer-writers c = record {
  anybody = λ q h given many.
      sym (ap not (somebody-new q h c.args.arrival.now
      (sym c.is_unregister-is_entered.ensures.kind ∙ c.if-is_entered.true)
      (omega (arith, c.if-len-writer.true, c.number-writer.ensures.number))
      (omega (arith, c.if-writer-writers.true, c.number-writer.ensures.number, many))));
}

pub returns : goal.returns
returns c = record {
  anybody = λ q h given many.
      let kept = ap (λ (k : Kept). places_of k) c.self.view_is in
      let placed : is_unregister c.args.arrival.now.change.kind ≡ false → places_of c.args.self.now < c.args.arrival.now.writer
      → length (writers_of q h) < c.args.arrival.now.writer =
      λ stays low. elim c.else-is_entered.branch [
        | else-is_entered-via-then-is_entered+then-len-writer+else-writer-writers w ↦
            omega (arith, w.if-writer-writers.false, c.number-writer.ensures.number, many)
        | else-is_entered-via-then-is_entered+else-len-writer w ↦
            absurd (omega (
              arith,
              w.if-len-writer.false,
              w.len.ensures,
              c.number-writer.ensures.number,
              low,
              kept,
              c.self.inside.registrations.ok.0,
            ))
        | else-is_entered-via-else-is_entered w ↦
            absurd (let clash : true ≡ false =
            sym w.if-is_entered.false ∙ (c.is_unregister-is_entered.ensures.kind ∙ stays) in cc)
      ] in
      c.would_anybody_be_there.ensures
      ∙ (ap
      (λ (b : Bool). list_any (λ r. is_there (entered (not b) c.args.arrival.now.writer r)) c.deref.result.now)
      c.is_unregister-is_entered.ensures.kind
      ∙ (ap
      (λ (rs : List Registration).
      list_any (λ r. is_there (entered (not (is_unregister c.args.arrival.now.change.kind)) c.args.arrival.now.writer r)) rs)
      (c.deref.ensures.value ∙ ap (λ (k : Kept). k.registrations) c.self.view_is)
      ∙ somebody-left c.args.self.now q h c.args.arrival.now given placed));
}
