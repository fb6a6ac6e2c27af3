-- Across a call, whoever is told by it who is matched: what a peer knows stays claimed, and what is due rests on the same.
use Rattle.std.proofs.Common.{◌≡◌, ℕ, List, [], Option, None, Some, ℤ, length, refl, subst, ap, sym, ◌∙◌, inl, ⊎_elim, arith}
use Rattle.std.proofs.lemmas.Option.{same_Some}
use Rattle.dds_base.specs.declared.change.Change.{Change}
use Rattle.dds_protocol.specs.Roster.{Roster}
use Rattle.dds_base.specs.Kept.{change_at}
use Rattle.dds_base.specs.declared.endpoint.Endpoint.{Endpoint}
use Rattle.dds_machine.specs.declared.call.Call.{Call}
use Rattle.dds_machine.specs.declared.reply.Reply.{Reply}
use Rattle.dds_machine.specs.Calls.{CallStep, Effect, effect, effect_of, tells}
use Rattle.dds_machine.specs.Matching.{Telling, TellStep}
use Rattle.dds_machine.specs.Numbered.{numbered}
use Rattle.dds_machine.specs.Part.{Part, Rtps, WriterProxy, heard_of, no_writer, own_proxies, own_writer, place_of, writer_changes}
use Rattle.dds_machine.specs.Watching.{Tests}
use Rattle.dds_protocol.specs.Backed.{IsBacked}
use Rattle.dds_protocol.specs.Dues.{AreSmall, StaysDue}
use Rattle.dds_protocol.specs.Peer.{Delivery}
use Rattle.dds_protocol.specs.Protocol.{State}
use Rattle.dds_protocol.proofs.DuesFew.{few_told}
use Rattle.dds_protocol.proofs.DuesParts.{call_part}
use Rattle.dds_protocol.proofs.Growth.{CallStep-grows, CallStep-rows, Untold, none_before}
use Rattle.dds_protocol.proofs.KnownRows.{known_on}
use Rattle.dds_protocol.proofs.Told.{OrNew, telling_keeps, telling_places, telling_readers, telling_rows, told_so, untold_or_told}

-- what is there of the rows of readers was there, or is that of a new row; and there are as many readers
record RowsStay (old new : Part) : Type 0 where
  places : (r : ℕ) (w : Endpoint) → OrNew (place_of (own_proxies new r) w) (place_of (own_proxies old r) w) 1
  heard : (r : ℕ) (w : Endpoint) → OrNew (heard_of (own_proxies new r) w) (heard_of (own_proxies old r) w) None
  count : length new.rtps.readers ≡ length old.rtps.readers

rows_as : (old new : Part) → new.rtps.readers ≡ old.rtps.readers → RowsStay old new
rows_as old new is = record {
  places = λ r w. inl (ap (λ (rows : List (List WriterProxy)). place_of (numbered rows r []) w) is);
  heard = λ r w. inl (ap (λ (rows : List (List WriterProxy)). heard_of (numbered rows r []) w) is);
  count = ap (λ (rows : List (List WriterProxy)). length rows) is;
}

rows_told : (old new : Part) (t : Telling) → TellStep old t None new → RowsStay old new
rows_told old new t h = told_so RowsStay old t (rows_as old old refl) (record {
  places = λ r w. telling_places old.rtps t r w;
  heard = λ r w. telling_rows (λ (p : WriterProxy). p.heard) None (λ p how. refl) (λ v. refl) old.rtps t r w;
  count = telling_readers old.rtps t;
}) None new h

rows_stay : (tests : Tests) (old : Part) (c : Call) (reply : Reply) (new : Part) → CallStep tests old c reply new
    → RowsStay old new
rows_stay tests old c reply new h =
    ⊎_elim (λ untold. rows_as old new (CallStep-rows tests old c reply new h untold))
    (λ told. rows_told old new told.0 told.1) (untold_or_told tests old c reply new h)

-- ---- what a peer knows

pub call_backed : (roster : Roster) (peer : ℕ) (packets : List (List ℕ)) (deliveries : List Delivery) (old : State)
    (tests : Tests) (c : Call) (reply : Reply) (after : Part) → CallStep tests old.part c reply after
    → IsBacked roster peer packets deliveries old
    → IsBacked roster peer packets deliveries (record old { part = after })
call_backed roster peer packets deliveries old tests c reply after h b =
    let rows : RowsStay old.part after = rows_stay tests old.part c reply after h in
    record {
      place = λ w r p e.
          ⊎_elim (λ same. b.place w r p (sym same ∙ e))
          (λ fresh. b.unknown w r fresh.0 ∙ same_Some 1 p (sym fresh.1 ∙ e)) (rows.places r w);
      unknown = λ w r e.
          b.unknown w r
          (none_before old.part.rtps after.rtps (CallStep-grows tests old.part c reply after h) r w e);
      claimed = b.claimed;
      newest = λ w r has.
          let low = has.0 in
          let high = has.1 in
          let count = rows.count in b.newest w r (omega (arith, low), omega (arith, high, count));
      heard = λ w r count e.
          ⊎_elim (λ same. b.heard w r count (sym same ∙ e))
          (λ fresh. absurd (let no : ◌≡◌ {A = Option (Option ℤ)} (Some None) (Some (Some count)) = sym fresh.1 ∙ e in cc))
          (rows.heard r w);
      then = λ d r w among found.
          known_on old.part.rtps after.rtps (CallStep-grows tests old.part c reply after h) r w
          (b.then d r w among found);
    }

-- ---- what is due

pub call_stays_due : (roster : Roster) (peer : ℕ) (tests : Tests) (old : Part) (c : Call) (reply : Reply) (new : Part)
    (t : Telling) → effect_of old c reply ≡ tells t → CallStep tests old c reply new → StaysDue roster peer old new
call_stays_due roster peer tests old c reply new t is h = record {
  part = call_part roster peer tests old c reply new h;
  tellable = λ all w n x at. all w n x (ap (λ (xs : List Change). change_at xs n) (sym (changes w)) ∙ at);
  small = λ all w.
      subst (λ (most : ℕ). AreSmall most (writer_changes (own_writer new w)))
      (sym ((CallStep-grows tests old c reply new h).writers w).values)
      (subst (λ (xs : List Change). AreSmall (own_writer old w).max_value xs) (sym (changes w)) (all w));
  few = λ all.
      ⊎_elim (λ untold. absurd (subst (λ (e : Effect). Untold e) is untold))
      (λ told. few_told old told.0 new told.1 all) (untold_or_told tests old c reply new h);
}
  where
    changes : (w : ℕ) → writer_changes (own_writer new w) ≡ writer_changes (own_writer old w)
    changes w =
        ap (λ (r : Rtps). writer_changes (numbered r.writers w no_writer))
        (h.rtps ∙ ap (λ e. effect old.rtps e) is)
        ∙ telling_keeps writer_changes (λ x v b. refl) (λ x v. refl) (λ x ks. refl) old.rtps t w
