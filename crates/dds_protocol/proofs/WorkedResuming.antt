-- What becomes of places that are tried again, computed at two peers. Peer 1 has a writer w1, peer 2 a matched reader r1.
use Rattle.std.proofs.Common.{ℕ, ◌==◌, List, [], ◌∷◌, None, Some, Option, refl, inl, inr, arith}
use Rattle.std.specs.Prelude.{if◌then◌else◌}
use Rattle.dds_base.specs.declared.code.Code.{Code}
use Rattle.dds_base.specs.declared.code.Code.TheVariants.{BadParameter}
use Rattle.rtps_reader.specs.Tracked.{Missing, Held, Tracked, fresh}
use Rattle.dds_machine.specs.declared.reply.Move.{Move}
use Rattle.dds_machine.specs.declared.reply.Move.TheVariants.{Place}
use Rattle.dds_machine.specs.declared.reply.Reply.TheVariants.{Refused, Reported}
use Rattle.dds_machine.specs.declared.reply.Report.{Report}
use Rattle.dds_machine.specs.Part.{Part}
use Rattle.dds_machine.specs.Machine.{grounds_of}
use Rattle.dds_machine.specs.Moves.{ResumeStep}
use Rattle.dds_protocol.specs.Protocol.{Known, State, knows_nothing, with_tracked}
use Rattle.dds_protocol.specs.Resuming.{Resumes}
use Rattle.dds_protocol.proofs.WorkedMoves.{came_1, comes_next, kept, machine, part_2, position, waiting, write_of}
use Rattle.dds_protocol.proofs.WorkedReceivers.{w1}

-- at this place r1 holds the first change of w1, and nothing else is known
abbrev holding : ℕ → Tracked
holding place =
    record fresh { place = place; slot = λ n. if n == 1 then Held (write_of 1 1) else Missing }

abbrev knowing : ℕ → Known
knowing place = with_tracked knows_nothing w1 1 (holding place)

abbrev state : Part → Known → State
state part known = record { part = part; known = known }

abbrev reported : List Move → Option ℕ → Report
reported moves refused = record { moves = moves; refused = refused }

-- the change that is held at r1's place comes where there is room by now
held-comes : Resumes 1 (state (part_2 1 None []) (knowing 1)) (reported (Place w1 1 2 [] ∷ []) None)
    (state (part_2 2 None came_1) (with_tracked (knowing 1) w1 1 (holding 2)))
held-comes = inr (
  Place w1 1 2 [] ∷ [],
  [],
  state (part_2 2 None came_1) (with_tracked (knowing 1) w1 1 (holding 2)),
  refl,
  record {
    publication = 1;
    place = 1;
    matched = record { handle = refl; at = refl; begun = refl };
    to = 2;
    passed = [];
    known = holding 2;
    happened = came_1;
    advances = record {
      goes = (
        write_of 1 1 ∷ [],
        (position 2 came_1, record { is_change = refl; room = refl; after = refl }, refl),
        refl,
      );
      stops = record { not_passable = refl; no_room = λ change held. absurd cc };
      place = refl;
      stays = record { slots = λ n low. refl; first = refl; count = refl; acknacks = refl };
    };
    moves_are = refl;
    after = refl;
  },
  (refl, refl, refl),
)

-- or memory was wanting for it, at the writer of index 0: nothing is done
held-waits_for_memory : Resumes 1 (state (part_2 1 None []) (knowing 1)) (reported [] (Some 0))
    (state (part_2 1 None []) (knowing 1))
held-waits_for_memory = inl (refl, refl, refl, (refl, refl))

-- where the place waits it is not tried
waits-stays : Resumes 1 (state (waiting 1) (knowing 1)) (reported [] None) (state (waiting 1) (knowing 1))
waits-stays = inr ([], [], state (waiting 1) (knowing 1), refl, (refl, refl), (refl, refl, refl))

-- and no memory is asked for
waits-asks_for_none : (index : ℕ) (moves : List Move) (new : State)
    → Resumes 1 (state (waiting 1) (knowing 1)) (reported moves (Some index)) new → ⊥
waits-asks_for_none index moves new (inl h) = let begun = h.3.0 in cc
waits-asks_for_none index moves new (inr h) = let none = h.5.1 in cc

-- the machine has the step, and only of a reader that is there
resumes-r1 : ResumeStep (grounds_of (machine kept (part_2 1 None [])) 2) (part_2 1 None []) 1
    (Reported (reported (Place w1 1 2 [] ∷ []) None)) (part_2 2 None came_1)
resumes-r1 = (
  (omega arith, omega arith),
  (refl, tt),
  comes_next (grounds_of (machine kept (part_2 1 None [])) 2) 1 (write_of 1 1) [] refl refl,
)

resumes-no_r2 : ResumeStep (grounds_of (machine kept (part_2 1 None [])) 2) (part_2 1 None []) 2 (Refused BadParameter)
    (part_2 1 None [])
resumes-no_r2 = ((λ there. let most = there.1 in absurd (omega (arith, most))), refl, refl)

resumes-not_refused : (code : Code) (new : Part)
    → ResumeStep (grounds_of (machine kept (part_2 1 None [])) 2) (part_2 1 None []) 1 (Refused code) new → ⊥
resumes-not_refused code new h = h.0 (omega arith, omega arith)
