-- What the submessages of small packets claim, computed: a DATA, GAPs, HEARTBEATs and ACKNACKs between the writer w1 of
-- peer 1 and the readers r1, r2 and r3 of peer 2, of which r2 is of another topic.
use Rattle.std.proofs.Common.{◌≡◌, ℕ, Bool, true, false, List, [], ◌∷◌, ◌++◌, replicate, refl, ap, inl, inr, ⊎_elim, arith}
use Rattle.std.specs.Prelude.{ℤ, pos, Some, None}
use Rattle.dds_base.specs.declared.change.Change.{Change}
use Rattle.dds_base.specs.declared.change.ChangeKind.TheVariants as kind
use Rattle.dds_base.specs.declared.guid.GuidPrefix.{GuidPrefix}
use Rattle.dds_base.specs.declared.guid.EntityId.{EntityId}
use Rattle.dds_base.specs.declared.key.Key.{Key}
use Rattle.rtps_sets.specs.NumberSet.{empty_from}
use Rattle.rtps_wire.specs.declared.acknack.AckNack.{AckNack as AckNackBody}
use Rattle.rtps_wire.specs.declared.data.Data.{Data as DataBody}
use Rattle.rtps_wire.specs.declared.data.ChangeBody.TheVariants.{Write, Dispose, Unregister, DisposeUnregister}
use Rattle.rtps_wire.specs.declared.gap.Gap.{Gap as GapBody}
use Rattle.rtps_wire.specs.declared.heartbeat.Heartbeat.{Heartbeat as HeartbeatBody}
use Rattle.rtps_wire.specs.declared.submessage.Submessage.TheVariants.{Data, Heartbeat, AckNack, Gap}
use Rattle.dds_protocol.specs.Claims.{ChangeIs, MayPass, PlaceReached, Asserts, Receiver, every_reader, IsInGap, Says}
use Rattle.rtps_wire.specs.Content.{change_in}
use Rattle.dds_protocol.proofs.WorkedReceivers.{prefix_1, prefix_2, w1_id, r1_id, network, w1, r1, r2, r3, to_2, to_1, to_r1, to_reliable_r1, to_r3, not_to_r2, not_to_r3, from_r1, from_r3}

-- ---- DATA

abbrev pub key : ℕ → Key
key n = record { 0 = replicate 15 0 ++ n ∷ [] }

-- the change of number 2, to all readers
abbrev data_2 : DataBody
data_2 =
    record {
      reader_id = every_reader;
      writer_id = w1_id;
      writer_sn = 2;
      content = record { body = Write (record { key = key 1; value = 2 ∷ [] }); strength = None };
    }

-- a write of this value, made at this moment by a writer of shared ownership
abbrev pub written : ℕ → List ℕ → ℕ → Change
written n value moment =
    record { kind = kind.Write; key = key n; value = value; source_timestamp = moment; strength = None }

data-says : Says network prefix_2 (record to_2 { timestamp = 5 }) (Data data_2)
    (ChangeIs w1 r1 2 (written 1 (2 ∷ []) 5))
data-says = (to_r1 every_reader 5 (inr refl), refl, refl)

data-to_r3 : Says network prefix_2 to_2 (Data data_2) (ChangeIs w1 r3 2 (written 1 (2 ∷ []) 0))
data-to_r3 = (to_r3, refl, refl)

-- of no other number
data-not_1 : (own : GuidPrefix) (at : Receiver) (change : Change)
    → Says network own at (Data data_2) (ChangeIs w1 r1 1 change) → ⊥
data-not_1 own at change h = let e = h.1 in absurd (omega arith)

-- another time is another change
data-not_so : (own : GuidPrefix) → Says network own to_2 (Data data_2) (ChangeIs w1 r1 2 (written 1 (2 ∷ []) 5)) → ⊥
data-not_so own h = let e = ap (λ (c : Change). c.source_timestamp) h.2 in absurd (omega arith)

-- what it says of the instance: the value of a write alone
change-dispose : change_in (record { body = Dispose (key 1); strength = None }) 5
    ≡ record { kind = kind.Dispose; key = key 1; value = []; source_timestamp = 5; strength = None }
change-dispose = refl

change-unregister : change_in (record { body = Unregister (key 1); strength = None }) 5
    ≡ record { kind = kind.Unregister; key = key 1; value = []; source_timestamp = 5; strength = None }
change-unregister = refl

change-dispose_unregister : change_in (record { body = DisposeUnregister (key 1); strength = None }) 5
    ≡ record { kind = kind.DisposeUnregister; key = key 1; value = []; source_timestamp = 5; strength = None }
change-dispose_unregister = refl

-- what it says of the strength its change has
change-strength : change_in (record { body = Dispose (key 1); strength = Some (pos 9) }) 5
    ≡ record { kind = kind.Dispose; key = key 1; value = []; source_timestamp = 5; strength = Some (pos 9) }
change-strength = refl

-- ---- GAP

-- to r1, gapStart 2, the empty set from 3 on
abbrev pub gap_2 : GapBody
gap_2 = record { reader_id = r1_id; writer_id = w1_id; gap_start = 2; gap_list = empty_from 3 }

pub gap-names_2 : Says network prefix_2 to_2 (Gap gap_2) (MayPass w1 r1 2)
gap-names_2 = (to_reliable_r1 r1_id (inl refl), omega arith, inl (omega arith, omega arith))

-- it names no number below gapStart, nor the set's base
gap-not_1 : (own : GuidPrefix) (at : Receiver) → Says network own at (Gap gap_2) (MayPass w1 r1 1) → ⊥
gap-not_1 own at h = ⊎_elim (λ below. let low = below.0 in absurd (omega arith)) (λ member. absurd cc) h.2

gap-not_3 : (own : GuidPrefix) (at : Receiver) → Says network own at (Gap gap_2) (MayPass w1 r1 3) → ⊥
gap-not_3 own at h = ⊎_elim (λ below. let high = below.1 in absurd (omega arith)) (λ member. absurd cc) h.2

-- another reader may not pass what it names
gap-not_to_r3 : (own : GuidPrefix) (at : Receiver) (number : ℕ) → Says network own at (Gap gap_2) (MayPass w1 r3 number)
    → ⊥
gap-not_to_r3 own at number h = not_to_r3 own at w1_id h.0.is_to

-- gapStart 2, the set from 4 on with 6
abbrev gap_2_3_6 : GapBody
gap_2_3_6 =
    record {
      reader_id = r1_id;
      writer_id = w1_id;
      gap_start = 2;
      gap_list = record {
        base = 4;
        members = false ∷ false
            ∷ true ∷ replicate 253 false;
      };
    }

gap-begins_at_2 : IsInGap gap_2_3_6 2
gap-begins_at_2 = inl (omega arith, omega arith)

gap-goes_on_to_3 : IsInGap gap_2_3_6 3
gap-goes_on_to_3 = inl (omega arith, omega arith)

gap-member_6 : IsInGap gap_2_3_6 6
gap-member_6 = inr refl

gap-leaves_4 : IsInGap gap_2_3_6 4 → ⊥
gap-leaves_4 h = ⊎_elim (λ below. let high = below.1 in absurd (omega arith)) (λ member. absurd cc) h

gap-leaves_5 : IsInGap gap_2_3_6 5 → ⊥
gap-leaves_5 h = ⊎_elim (λ below. let high = below.1 in absurd (omega arith)) (λ member. absurd cc) h

gap-leaves_7 : IsInGap gap_2_3_6 7 → ⊥
gap-leaves_7 h = ⊎_elim (λ below. let high = below.1 in absurd (omega arith)) (λ member. absurd cc) h

-- ---- HEARTBEAT

-- to all readers, with these numbers and this count, with flag L or without
abbrev heartbeat : ℕ → ℕ → ℤ → Bool → HeartbeatBody
heartbeat first last count asserts =
    record {
      reader_id = every_reader;
      writer_id = w1_id;
      first_sn = first;
      last_sn = last;
      count = count;
      final_flag = false;
      liveliness_flag = asserts;
    }

-- where the writer keeps all of 1 to 3, nothing may be passed
heartbeat-passes_none : (own : GuidPrefix) (at : Receiver) (number : ℕ)
    → Says network own at (Heartbeat (heartbeat 1 3 (pos 1) false)) (MayPass w1 r1 number) → ⊥
heartbeat-passes_none own at number h = let low = h.1 in let high = h.2 in absurd (omega arith)

-- where it keeps 3 alone, 1 and 2 may be
heartbeat-passes_1 : Says network prefix_2 to_2 (Heartbeat (heartbeat 3 3 (pos 1) false)) (MayPass w1 r1 1)
heartbeat-passes_1 = (to_reliable_r1 every_reader (inr refl), omega arith, omega arith)

heartbeat-passes_2 : Says network prefix_2 to_2 (Heartbeat (heartbeat 3 3 (pos 1) false)) (MayPass w1 r1 2)
heartbeat-passes_2 = (to_reliable_r1 every_reader (inr refl), omega arith, omega arith)

heartbeat-not_3 : (own : GuidPrefix) (at : Receiver)
    → Says network own at (Heartbeat (heartbeat 3 3 (pos 1) false)) (MayPass w1 r1 3) → ⊥
heartbeat-not_3 own at h = let high = h.2 in absurd (omega arith)

-- there is no change 0
heartbeat-not_0 : (own : GuidPrefix) (at : Receiver)
    → Says network own at (Heartbeat (heartbeat 3 3 (pos 1) false)) (MayPass w1 r1 0) → ⊥
heartbeat-not_0 own at h = let low = h.1 in absurd (omega arith)

-- to a reader of another topic it says nothing
heartbeat-not_to_r2 : (own : GuidPrefix) (at : Receiver) (number : ℕ)
    → Says network own at (Heartbeat (heartbeat 3 3 (pos 1) false)) (MayPass w1 r2 number) → ⊥
heartbeat-not_to_r2 own at number h = not_to_r2 own at every_reader w1_id h.0.is_to

-- with flag L its count numbers an assertion, without it none
heartbeat-asserts : Says network prefix_2 to_2 (Heartbeat (heartbeat 1 3 (pos 7) true)) (Asserts w1 r1 (pos 7))
heartbeat-asserts = (to_r1 every_reader 0 (inr refl), refl, refl)

heartbeat-not_8 : (own : GuidPrefix) (at : Receiver)
    → Says network own at (Heartbeat (heartbeat 1 3 (pos 7) true)) (Asserts w1 r1 (pos 8)) → ⊥
heartbeat-not_8 own at h = let e = h.2 in absurd cc

heartbeat-asserts_nothing : (own : GuidPrefix) (at : Receiver) (count : ℤ)
    → Says network own at (Heartbeat (heartbeat 1 3 (pos 7) false)) (Asserts w1 r1 count) → ⊥
heartbeat-asserts_nothing own at count h = let e = h.1 in absurd cc

-- ---- ACKNACK

-- of a reader of peer 2, base 2, the set with 2: it has what is below 2, and misses 2
abbrev pub acknack_2 : EntityId → AckNackBody
acknack_2 reader_id =
    record {
      reader_id = reader_id;
      writer_id = w1_id;
      reader_sn_state = record {
        base = 2;
        members = true
            ∷ replicate 255 false;
      };
      count = pos 1;
      final_flag = false;
    }

pub acknack-reached_2 : Says network prefix_1 to_1 (AckNack (acknack_2 r1_id)) (PlaceReached w1 r1 2)
acknack-reached_2 = (from_r1 r1_id (inl refl), refl)

acknack-not_1 : (own : GuidPrefix) (at : Receiver)
    → Says network own at (AckNack (acknack_2 r1_id)) (PlaceReached w1 r1 1) → ⊥
acknack-not_1 own at h = let e = h.1 in absurd (omega arith)

acknack-not_3 : (own : GuidPrefix) (at : Receiver)
    → Says network own at (AckNack (acknack_2 r1_id)) (PlaceReached w1 r1 3) → ⊥
acknack-not_3 own at h = let e = h.1 in absurd (omega arith)

-- with a readerId of zeros it speaks for each matched reader of its sender
acknack-for_r1 : Says network prefix_1 to_1 (AckNack (acknack_2 every_reader)) (PlaceReached w1 r1 2)
acknack-for_r1 = (from_r1 every_reader (inr refl), refl)

acknack-for_r3 : Says network prefix_1 to_1 (AckNack (acknack_2 every_reader)) (PlaceReached w1 r3 2)
acknack-for_r3 = (from_r3, refl)

-- but not for one of another topic, nor with the readerId of r1 for r3
acknack-not_for_r2 : (own : GuidPrefix) (at : Receiver) (base : ℕ)
    → Says network own at (AckNack (acknack_2 every_reader)) (PlaceReached w1 r2 base) → ⊥
acknack-not_for_r2 own at base h = let no : false ≡ true = h.0.matched in absurd cc

-- it says nothing of what may be passed
acknack-passes_none : (own : GuidPrefix) (at : Receiver) (number : ℕ)
    → Says network own at (AckNack (acknack_2 r1_id)) (MayPass w1 r1 number) → ⊥
acknack-passes_none own at number h = h
