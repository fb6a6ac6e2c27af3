-- What a peer acknowledges, what it hears and what it may say of itself, computed at two peers. Peer 1 has a writer w1,
-- peer 2 a matched reader r1.
use Rattle.std.proofs.Common.{◌≡◌, ℕ, zero, suc, true, false, Option, Some, None, List, [], ◌∷◌, refl, sym, subst, inl, inr, ⊎_elim, arith}
use Rattle.std.proofs.lemmas.Int.{ints}
use Rattle.std.specs.Prelude.{ℤ, pos, negsuc, ◌<ℤ◌}
use Rattle.dds_base.specs.declared.change.Change.{Change}
use Rattle.dds_base.specs.declared.code.Code.TheVariants.{Timeout}
use Rattle.dds_base.specs.declared.happening.Happening.TheVariants.{Heard as WasHeard}
use Rattle.dds_base.specs.declared.qos.HistoryQos.TheVariants.{KeepAll, KeepLast}
use Rattle.dds_base.specs.Written.{Written, Registered, Changed, Asserted, Ticked, counts_of}
use Rattle.dds_machine.specs.declared.reply.Move.TheVariants.{Acknowledged, Heard}
use Rattle.dds_machine.specs.declared.reply.Reply.TheVariants.{Reported}
use Rattle.dds_machine.specs.Part.{Part, Writer, is_assertion}
use Rattle.dds_machine.specs.Moves.{Grounds, Acknowledges, IsLater, Hears, DeliveryStep}
use Rattle.dds_machine.specs.Refusals.{change_refusal}
use Rattle.dds_machine.specs.Machine.{grounds_of}
use Rattle.dds_protocol.specs.Claims.{ChangeIs, MayPass, PlaceReached, Asserts}
use Rattle.dds_protocol.specs.Peer.{IsTrueAt}
use Rattle.dds_protocol.proofs.WorkedReceivers.{w1, r1, some_is}
use Rattle.dds_protocol.proofs.WorkedExamples.{key}
use Rattle.dds_protocol.proofs.WorkedMoves.{owing_3, writing, part_1, part_2, machine, write_of, kept, came_1, one_dropped, Delivers}

-- ---- acknowledgements

-- the writer, of which r1 has acknowledged all below this number
abbrev acknowledged : ℕ → Writer
acknowledged number = writing KeepAll None kept.written number

-- what a delivery at peer 1 may rest on, where r1 is at 2
abbrev at_place_2 : Grounds
at_place_2 = grounds_of (machine kept (part_2 2 None came_1)) 1

-- r1 has the first change: w1 learns so, and no more
acknowledges-2 : DeliveryStep at_place_2 (part_1 (acknowledged 1))
    (Reported (record { moves = Acknowledged 1 r1 2 ∷ []; refused = None })) (part_1 (acknowledged 2))
acknowledges-2 = (
  part_1 (acknowledged 2),
  record { acknowledged = 1; matched = refl; forward = omega arith; has_place = omega arith; after = refl },
  refl,
)

acknowledges-not_3 : (new : Part) → Acknowledges at_place_2 (part_1 (acknowledged 1)) 1 r1 3 new → ⊥
acknowledges-not_3 new h = absurd (omega (arith, h.has_place))

-- nor again, nor for a reader that is not matched
acknowledges-not_again : (new : Part) → Acknowledges at_place_2 (part_1 (acknowledged 2)) 1 r1 2 new → ⊥
acknowledges-not_again new h =
    let is = some_is 2 h.acknowledged h.matched in let forward = h.forward in absurd (omega arith)

acknowledges-not_unmatched : (to : ℕ) (new : Part)
    → Acknowledges at_place_2 (part_1 (acknowledged 1)) 1 (record { peer = 2; number = 2 }) to new → ⊥
acknowledges-not_unmatched to new h = let matched = h.matched in absurd cc

-- a writer with room for two changes refuses the third until the first is acknowledged
abbrev full : ℕ → Part
full acknowledged =
    part_1 (writing KeepAll (Some 2) (Changed (write_of 1 2) ∷ Changed (write_of 1 1) ∷ []) acknowledged)

refusal-full : change_refusal (full 1) 1 (write_of 1 3) ≡ Some Timeout
refusal-full = refl

refusal-acknowledged : change_refusal (full 2) 1 (write_of 1 3) ≡ None
refusal-acknowledged = refl

-- ---- assertions that are heard

-- two assertions, a write, a tick at which r1 was behind, one at which it was not, a register and a third assertion:
-- each assertion takes a HEARTBEAT count, and each tick with a reader behind
abbrev asserting : List Written
asserting =
    Asserted 20 ∷ Registered (key 2) ∷ Ticked 10 false ∷ Ticked 5 true ∷ Changed (write_of 1 1) ∷ Asserted 0
    ∷ Asserted 0 ∷ []

counts-in_order : counts_of asserting ≡ true ∷ true ∷ false ∷ true ∷ []
counts-in_order = refl

-- a tick at which nobody is behind takes none
counts-not_behind : counts_of (Asserted 20 ∷ Ticked 10 false ∷ Asserted 0 ∷ []) ≡ true ∷ true ∷ []
counts-not_behind = refl

assertion-1 : is_assertion (writing KeepAll None asserting 1) (pos 1) ≡ true
assertion-1 = refl

assertion-4 : is_assertion (writing KeepAll None asserting 1) (pos 4) ≡ true
assertion-4 = refl

-- the count of a tick, one that was not taken yet, and one below 1 number none
assertion-not_3 : is_assertion (writing KeepAll None asserting 1) (pos 3) ≡ false
assertion-not_3 = refl

assertion-not_5 : is_assertion (writing KeepAll None asserting 1) (pos 5) ≡ false
assertion-not_5 = refl

assertion-not_0 : is_assertion (writing KeepAll None asserting 1) (pos 0) ≡ false
assertion-not_0 = refl

assertion-not_negative : is_assertion (writing KeepAll None asserting 1) (negsuc 0) ≡ false
assertion-not_negative = refl

later-than_none : IsLater None (pos 1)
later-than_none = tt

later-not_itself : IsLater (Some (pos 2)) (pos 2) → ⊥
later-not_itself h = absurd (omega (arith, ints, h))

-- one assertion, which is heard once
abbrev asserted : Writer
asserted = writing (KeepLast 1) None (Asserted 0 ∷ []) 1

hears-1 : Delivers asserted (part_2 1 None []) (Heard w1 1 ∷ []) (part_2 1 (Some (pos 1)) (WasHeard 1 0 ∷ []))
hears-1 = (
  part_2 1 (Some (pos 1)) (WasHeard 1 0 ∷ []),
  record {
    publication = 1;
    matched = refl;
    here = refl;
    heard = None;
    last = refl;
    count = pos 1;
    later = tt;
    may_hear = refl;
    after = refl;
  },
  refl,
)

none_after_1 : (count : ℤ) → is_assertion asserted count ≡ true → pos 1 <ℤ count → ⊥
none_after_1 (pos zero) is later = absurd cc
none_after_1 (pos (suc zero)) is later = absurd (omega (arith, ints, later))
none_after_1 (pos (suc (suc n))) is later = absurd cc
none_after_1 (negsuc n) is later = absurd cc

hears-not_again : (new : Part) → Hears (grounds_of (machine asserted (part_2 1 (Some (pos 1)) (WasHeard 1 0 ∷ []))) 2)
    (part_2 1 (Some (pos 1)) (WasHeard 1 0 ∷ [])) w1 1 new → ⊥
hears-not_again new h =
    none_after_1 h.count h.may_hear
    (subst (λ (heard : Option ℤ). IsLater heard h.count) (sym (some_is (Some (pos 1)) h.heard h.last)) h.later)

-- ---- what is true of a peer's own lists and places

-- a change may be passed that its writer has dropped, or that the reader has acknowledged
true-dropped_2 : IsTrueAt 1 (part_1 one_dropped) (MayPass w1 r1 2)
true-dropped_2 = (refl, inl refl)

true-not_3 : IsTrueAt 1 (part_1 one_dropped) (MayPass w1 r1 3) → ⊥
true-not_3 h =
    ⊎_elim (λ dropped. absurd cc)
    (λ o. ⊎_elim (λ owed. absurd (omega (arith, owed))) (λ below. absurd (omega (arith, below))) o) h.1

true-acknowledged_1 : IsTrueAt 1 (part_1 (acknowledged 2)) (MayPass w1 r1 1)
true-acknowledged_1 = (refl, inr (inr (omega arith)))

true-not_2 : IsTrueAt 1 (part_1 (acknowledged 2)) (MayPass w1 r1 2) → ⊥
true-not_2 h =
    ⊎_elim (λ dropped. absurd cc)
    (λ o. ⊎_elim (λ owed. absurd (omega (arith, owed))) (λ below. absurd (omega (arith, below))) o) h.1

-- and one that is not owed, whatever the reader has acknowledged
true-not_owed_2 : IsTrueAt 1 (part_1 owing_3) (MayPass w1 r1 2)
true-not_owed_2 = (refl, inr (inl (omega arith)))

true-owed_3 : IsTrueAt 1 (part_1 owing_3) (MayPass w1 r1 3) → ⊥
true-owed_3 h =
    ⊎_elim (λ dropped. absurd cc)
    (λ o. ⊎_elim (λ owed. absurd (omega (arith, owed))) (λ below. absurd (omega (arith, below))) o) h.1

-- of another peer's writer a peer may say nothing
true-not_of_another : IsTrueAt 2 (part_1 one_dropped) (MayPass w1 r1 2) → ⊥
true-not_of_another h = absurd (omega (arith, h.0))

-- a change is that of its number
true-change_1 : IsTrueAt 1 (part_1 kept) (ChangeIs w1 r1 1 (write_of 1 1))
true-change_1 = (refl, refl)

true-not_change_4 : (change : Change) → IsTrueAt 1 (part_1 kept) (ChangeIs w1 r1 4 change) → ⊥
true-not_change_4 change h = let is = h.1 in absurd cc

-- a place is reached up to where the reader stands
true-reached_2 : IsTrueAt 2 (part_2 2 None came_1) (PlaceReached w1 r1 2)
true-reached_2 = (refl, omega arith)

true-reached_1 : IsTrueAt 2 (part_2 2 None came_1) (PlaceReached w1 r1 1)
true-reached_1 = (refl, omega arith)

true-not_reached_3 : IsTrueAt 2 (part_2 2 None came_1) (PlaceReached w1 r1 3) → ⊥
true-not_reached_3 h = absurd (omega (arith, h.1))

-- a HEARTBEAT may assert by the count of an assertion
true-asserts_1 : IsTrueAt 1 (part_1 asserted) (Asserts w1 r1 (pos 1))
true-asserts_1 = (refl, refl)

true-not_asserts_2 : IsTrueAt 1 (part_1 asserted) (Asserts w1 r1 (pos 2)) → ⊥
true-not_asserts_2 h = let is = h.1 in absurd cc
