-- Ticks of a small peer at which writers die, an assertion of a writer, and HEARTBEATs by name, computed.
use Rattle.std.proofs.Common.{◌≡◌, ℕ, Bool, true, false, List, [], ◌∷◌, Some, None, refl}
use Rattle.std.specs.Prelude.{pos}
use Rattle.dds_base.specs.declared.code.Code.TheVariants.{BadParameter, Memory}
use Rattle.dds_base.specs.declared.guid.EntityId.{EntityId}
use Rattle.dds_base.specs.declared.happening.Happening.TheVariants.{Heard, Died}
use Rattle.dds_base.specs.declared.qos.HistoryQos.TheVariants.{KeepAll}
use Rattle.dds_base.specs.declared.qos.MatchedWriter.{MatchedWriter}
use Rattle.dds_base.specs.declared.qos.OwnershipQos.TheVariants.{Shared}
use Rattle.dds_base.specs.declared.qos.ReliabilityQos.TheVariants.{Reliable}
use Rattle.dds_base.specs.Bounds.{usual_arrivals}
use Rattle.dds_base.specs.Written.{Asserted, Changed, Ticked}
use Rattle.rtps_wire.specs.declared.submessage.Submessage.{Submessage}
use Rattle.rtps_wire.specs.declared.submessage.Submessage.TheVariants.{InfoDst, Heartbeat}
use Rattle.rtps_sets.specs.NumberSet.{empty_from}
use Rattle.dds_machine.specs.declared.call.Call.TheVariants.{MatchReader}
use Rattle.dds_machine.specs.declared.reply.Reply.TheVariants.{Done}
use Rattle.dds_machine.specs.Ticks.{RefusesTick, after_tick, is_past_counting, tick_refusal, ticked}
use Rattle.dds_machine.specs.Calls.{with_written}
use Rattle.dds_protocol.specs.Claims.{every_reader, participant_entity}
use Rattle.dds_machine.specs.Part.{opened_with, Part, Writer, heartbeats_used, is_assertion, no_part, no_writer, nothing_seen, own_reader, no_names}
use Rattle.dds_protocol.specs.Contact.{no_contact}
use Rattle.dds_protocol.specs.DueMessages.{Due, assertions_due, heartbeats_of, reader_entity}
use Rattle.dds_protocol.specs.Peer.{Peer, known_after, no_peer}
use Rattle.dds_protocol.specs.Protocol.{Known, asked_no_more, contact_after, knows_nothing, with_answered}
use Rattle.dds_protocol.proofs.WorkedMoves.{kept, write_of, writing}
use Rattle.dds_protocol.proofs.WorkedReceivers.{network, prefix_1, prefix_2, r1, r1_id, r2, r2_id, r3, r3_id, w1, w1_id}

-- ---- deaths

abbrev leased : MatchedWriter
leased = record {
  guid = record { prefix = record { 0 = 1 ∷ [] }; entity = record { 0 = 2 ∷ [] } };
  strength = pos 0;
  lease = Some 10;
}

-- a reader of two writers, of which the first was heard at 2 and the second at 5
abbrev part : Part
part = record no_part {
  dds = record no_part.dds {
    moment = 5;
    readers = record {
      qos =
          record {
            ownership = Shared;
            reliability = Reliable;
            history = KeepAll;
            max_samples = None;
            max_instances = None;
            max_arrivals = usual_arrivals;
            writers = leased
                ∷ leased ∷ [];
          };
      happened = Heard 2 5 ∷ Heard 1 2 ∷ [];
      seen = nothing_seen;
      matches = opened_with (w1 ∷ record { peer = 1; number = 2 } ∷ []);
    } ∷ [];
  };
}

tick-nobody_dies : (own_reader (after_tick (λ n. false) part 11) 1).happened ≡ Heard 2 5 ∷ Heard 1 2 ∷ []
tick-nobody_dies = refl

tick-one_dies : (own_reader (after_tick (λ n. false) part 12) 1).happened ≡ Died 1 12 ∷ Heard 2 5 ∷ Heard 1 2 ∷ []
tick-one_dies = refl

-- the one of the greater handle dies later
tick-both_die : (own_reader (after_tick (λ n. false) part 15) 1).happened
    ≡ Died 2 15 ∷ Died 1 15 ∷ Heard 2 5 ∷ Heard 1 2 ∷ []
tick-both_die = refl

-- and nobody dies twice
tick-once : (own_reader (after_tick (λ n. false) (after_tick (λ n. false) part 12) 15) 1).happened
    ≡ Died 2 15 ∷ Died 1 12 ∷ Heard 2 5 ∷ Heard 1 2 ∷ []
tick-once = refl

-- no tick lacks memory, also where somebody dies
tick-wants_none : RefusesTick part 15 Memory → ⊥
tick-wants_none h = let over : is_past_counting part 15 ≡ true = h.1 refl in absurd cc

tick-back : tick_refusal part 4 ≡ Some BadParameter
tick-back = refl

-- ---- an assertion

-- a writer of two readers of one peer, which has used a count at a tick
abbrev writer : Writer
writer = record no_writer {
  matched = r1 ∷ r3 ∷ [];
  readers = record { reader = r1; first = 1; acknowledged = 1 } ∷ record { reader = r3; first = 1; acknowledged = 1 } ∷ [];
  written = Ticked 0 true ∷ [];
}

-- the peer is told once, with the next count
assertion-is_told : assertions_due network (knows_nothing.answered 1) w1 writer ≡ record {
  to = 2;
  message = record {
    prefix = prefix_1;
    submessages = InfoDst prefix_2 ∷ Heartbeat (record {
      reader_id = every_reader;
      writer_id = w1_id;
      first_sn = 1;
      last_sn = 0;
      count = pos 2;
      final_flag = true;
      liveliness_flag = true;
    }) ∷ [];
  };
} ∷ []
assertion-is_told = refl

-- that count numbers the assertion once it was made; the one before it was that of a tick
assertion-counts : is_assertion (with_written writer (Asserted 5)) (pos 2) ≡ true
assertion-counts = refl

assertion-not_the_tick : is_assertion (with_written writer (Asserted 5)) (pos 1) ≡ false
assertion-not_the_tick = refl

assertion-uses_one : heartbeats_used (with_written writer (Asserted 5)) ≡ 2
assertion-uses_one = refl

-- ---- two readers at one peer, which are owed different changes

-- w1 has made three changes: r1 has the first; r3 was matched after the second, and is owed the third alone
abbrev later_one : Writer
later_one = record kept {
  matched = r1 ∷ r2 ∷ r3 ∷ [];
  readers = record { reader = r1; first = 1; acknowledged = 2 } ∷ record { reader = r3; first = 3; acknowledged = 3 } ∷ [];
}

-- its HEARTBEAT to this reader, from this number to that
abbrev beat_from : (asserts : Bool) → EntityId → ℕ → ℕ → Submessage
beat_from asserts reader first last = Heartbeat (record {
  reader_id = reader;
  writer_id = w1_id;
  first_sn = first;
  last_sn = last;
  count = pos 1;
  final_flag = asserts;
  liveliness_flag = asserts;
})

-- the message with these, to peer 2
abbrev to_peer_2 : List Submessage → Due
to_peer_2 beats = record { to = 2; message = record { prefix = prefix_1; submessages = InfoDst prefix_2 ∷ beats } }

-- each of them is told by name, in one message, where it begins
tick-by_name : heartbeats_of network knows_nothing.answered 1 1 later_one
    ≡ to_peer_2 (beat_from false r1_id 2 3 ∷ beat_from false r3_id 3 3 ∷ []) ∷ []
tick-by_name = refl

-- the one that has acknowledged all is not told; the other is told by name all the same
tick-the_one_behind : heartbeats_of network knows_nothing.answered 1 1 (record later_one {
  readers = record { reader = r1; first = 1; acknowledged = 2 } ∷ record { reader = r3; first = 3; acknowledged = 4 } ∷ [];
}) ≡ to_peer_2 (beat_from false r1_id 2 3 ∷ []) ∷ []
tick-the_one_behind = refl

-- once r1 has the second too, all that is kept is owed to both: one HEARTBEAT is for all
tick-for_all : heartbeats_of network knows_nothing.answered 1 1 (record later_one {
  readers = record { reader = r1; first = 1; acknowledged = 3 } ∷ record { reader = r3; first = 3; acknowledged = 3 } ∷ [];
}) ≡ to_peer_2 (beat_from false every_reader 3 3 ∷ []) ∷ []
tick-for_all = refl

-- ---- a reader that asks for a HEARTBEAT

-- r1 alone asks w1 for one
abbrev r1_asks : Known
r1_asks = with_answered knows_nothing 1 r1 (record { count = Some (pos 1); asks = true; silent = false })

-- both readers have acknowledged all
abbrev none_behind : Writer
none_behind = record later_one {
  readers = record { reader = r1; first = 1; acknowledged = 4 } ∷ record { reader = r3; first = 3; acknowledged = 4 } ∷ [];
}

-- nobody is told where none asks
tick-none_told : heartbeats_of network knows_nothing.answered 1 1 none_behind ≡ []
tick-none_told = refl

-- r1 is told though it is not behind: at its peer, as nothing is kept, one HEARTBEAT is for all
tick-one_asks : heartbeats_of network r1_asks.answered 1 1 none_behind
    ≡ to_peer_2 (beat_from false every_reader 4 3 ∷ []) ∷ []
tick-one_asks = refl

-- the tick uses the count of that HEARTBEAT
tick-asked_uses_one : heartbeats_used (ticked 11 true none_behind) ≡ 1
tick-asked_uses_one = refl

-- after it r1 asks no more
tick-asks_no_more : ((asked_no_more r1_asks).answered 1 r1).asks ≡ false
tick-asks_no_more = refl

-- ---- a reader that is greeted

-- w1 has made one change, and is told of r1 then
abbrev one_made : Writer
one_made = record (writing KeepAll None (Changed (write_of 1 1) ∷ []) 2) {
  readers = record { reader = r1; first = 2; acknowledged = 2 } ∷ [];
}

-- its peer, which knows so much
abbrev knowing : Known → Peer
knowing known =
    record no_peer { part = record no_part { rtps = record { writers = one_made ∷ []; readers = []; names = no_names } }; known = known }

abbrev greeted : Known
greeted = known_after (knowing knows_nothing) (MatchReader 1 r1 true) Done

match-greeted : greeted.answered 1 r1 ≡ record { count = None; asks = false; silent = true }
match-greeted = refl

-- one that is no reliable reader of the topic is never silent
match-no_reliable : (known_after (knowing knows_nothing) (MatchReader 1 r2 true) Done).answered 1 r2 ≡ no_contact
match-no_reliable = refl

-- a reader that is matched anew asks no more
match-asks_no_more : ((known_after (knowing r1_asks) (MatchReader 1 r1 false) Done).answered 1 r1).asks ≡ false
match-asks_no_more = refl

-- it is told by name where it begins, and of no change
tick-greeted : heartbeats_of network greeted.answered 1 1 one_made ≡ to_peer_2 (beat_from false r1_id 2 1 ∷ []) ∷ []
tick-greeted = refl

-- w1 has made a second change, and has taken an ACKNACK of r1 without a member, which is final or not
abbrev two_made : Writer
two_made = record one_made { written = Changed (write_of 1 2) ∷ one_made.written }

abbrev hearing : (final : Bool) → Known
hearing final =
    with_answered greeted 1 r1 (contact_after (greeted.answered 1 r1) (record {
      reader_id = r1_id;
      writer_id = w1_id;
      reader_sn_state = empty_from 2;
      count = pos 1;
      final_flag = final;
    }))

-- a final one is an answer: r1 is told of that change
tick-answered : heartbeats_of network (hearing true).answered 1 1 two_made
    ≡ to_peer_2 (beat_from false every_reader 2 2 ∷ []) ∷ []
tick-answered = refl

-- one that asks for a HEARTBEAT is none
tick-silent : heartbeats_of network (hearing false).answered 1 1 two_made
    ≡ to_peer_2 (beat_from false r1_id 2 1 ∷ []) ∷ []
tick-silent = refl

-- nor is r1 told more by an assertion
assertion-silent : assertions_due network (greeted.answered 1) w1 two_made
    ≡ to_peer_2 (beat_from true r1_id 2 1 ∷ []) ∷ []
assertion-silent = refl

-- ---- all that are matched

-- an assertion is told to all that are matched: to r2, a best-effort reader, from the first kept number on
assertion-by_name : assertions_due network (knows_nothing.answered 1) w1 later_one
    ≡ to_peer_2 (beat_from true r1_id 2 3 ∷ beat_from true r2_id 2 3 ∷ beat_from true r3_id 3 3 ∷ []) ∷ []
assertion-by_name = refl

-- one to a reader that the roster does not have names none
tick-nobody : reader_entity network 2 4 ≡ participant_entity
tick-nobody = refl

tick-nobody_0 : reader_entity network 0 1 ≡ participant_entity
tick-nobody_0 = refl
