-- What three packets claim, from their bytes on: one with a GAP, one with an ACKNACK and one with a HEARTBEAT that
-- asserts its writer, of which the reader hears once. Each begins with an INFO_DST.
use Rattle.std.proofs.Common.{◌≡◌, ℕ, ◌+◌, ◌^◌, length, sym, true, Some, None, List, [], ◌∷◌, ◌++◌, refl, inl, inr, arith, codes}
use Rattle.std.proofs.lemmas.Int.{ints}
use Rattle.std.proofs.lemmas.List.{append-nil, length-append}
use Rattle.std.specs.Prelude.{pos}
use Rattle.dds_base.specs.declared.guid.GuidPrefix.{GuidPrefix}
use Rattle.rtps_wire.specs.declared.heartbeat.Heartbeat.{Heartbeat as HeartbeatBody}
use Rattle.rtps_wire.specs.declared.message.Message.{Message}
use Rattle.rtps_wire.specs.declared.submessage.Submessage.{Submessage}
use Rattle.rtps_wire.specs.declared.submessage.Submessage.TheVariants.{InfoDst, Gap, Heartbeat, AckNack}
use Rattle.rtps_wire.specs.Messages.{ReadsMessage}
use Rattle.rtps_wire.specs.Frames.{IsFrame}
use Rattle.rtps_wire.specs.Submessages.{IsKnownKind, Reads}
use Rattle.rtps_wire.specs.Sets.{set_of, bits_below}
use Rattle.dds_machine.specs.declared.reply.Move.TheVariants.{Heard}
use Rattle.dds_machine.specs.Part.{Away, Begun}
use Rattle.dds_protocol.specs.Claims.{Claim, MayPass, PlaceReached, Asserts, Claims, Receiver, Says, StandsAt, every_reader, receiver_of}
use Rattle.dds_protocol.specs.Peer.{Delivery, IsApplied, IsNewest}
use Rattle.dds_protocol.proofs.WorkedReceivers.{prefix_1, prefix_2, w1_id, r1_id, w1, r1, to_2, to_1, network, to_r1}
use Rattle.dds_protocol.proofs.WorkedExamples.{gap_2, gap-names_2, acknack_2, acknack-reached_2}

-- an INFO_DST and a submessage with 28 octets of body, from one peer to the other
abbrev packet : GuidPrefix → GuidPrefix → ℕ → ℕ → List ℕ → List ℕ
packet from to id flags body =
    codes "RTPS" ++ 2 ∷ 5 ∷ 0 ∷ 0 ∷ (from.0 ++ 0x0e ∷ 1 ∷ 12 ∷ 0 ∷ (to.0 ++ id ∷ flags ∷ 28 ∷ 0 ∷ body))

abbrev message : GuidPrefix → GuidPrefix → Submessage → Message
message from to submessage = record { prefix = from; submessages = InfoDst to ∷ submessage ∷ [] }

octets : (from to body : List ℕ) (id flags : ℕ) → length from ≡ 12 → length to ≡ 12 → length body ≡ 28
    → 68 + 0 ≡ length (codes "RTPS" ++ 2 ∷ 5 ∷ 0 ∷ 0 ∷ (from ++ 0x0e ∷ 1 ∷ 12 ∷ 0 ∷ (to ++ id ∷ flags ∷ 28 ∷ 0 ∷ body)))
octets from to body id flags source destination long =
    let last : List ℕ = id ∷ flags ∷ 28 ∷ 0 ∷ body in
    let all = length-append from (0x0e ∷ 1 ∷ 12 ∷ 0 ∷ (to ++ last)) in
    let rest = length-append to last in
    omega (arith, all, rest, source, destination, long)

-- such a packet is such a message, and is read to its end
packet-read : (from to : GuidPrefix) (id flags : ℕ) (body : List ℕ) (submessage : Submessage) → length from.0 ≡ 12
    → length to.0 ≡ 12 → length body ≡ 28
    → IsFrame (id ∷ flags ∷ 28 ∷ 0 ∷ body) id flags body [] → Reads id flags body submessage
    → ReadsMessage (packet from to id flags body) (message from to submessage) 68
packet-read from to id flags body submessage source destination long frame reads = record {
  body = 0x0e ∷ 1 ∷ 12 ∷ 0 ∷ (to.0 ++ id ∷ flags ∷ 28 ∷ 0 ∷ body);
  left = [];
  header = record {
    minor = 5;
    vendor = 0 ∷ 0 ∷ [];
    two = refl;
    prefix = source;
    header = refl;
    short = let all = octets from.0 to.0 body id flags source destination long in omega (arith, all);
  };
  submessages = (
    id ∷ flags ∷ 28 ∷ 0 ∷ body,
    (
      0x0e,
      1,
      to.0,
      record { len = 12; small = omega arith; text = refl; extent = destination },
      record { kind = refl; flags_are = tt; body_is = ([], sym (append-nil to.0)); valid = destination },
    ),
    ([], (id, flags, body, frame, reads), (inl (omega arith), refl)),
  );
  stop = octets from.0 to.0 body id flags source destination long;
}

-- and it claims what the submessage says to a peer, where the receiver is so
packet-claims : (from to own : GuidPrefix) (id flags : ℕ) (body : List ℕ) (submessage : Submessage) (at : Receiver)
    (claim : Claim) → ReadsMessage (packet from to id flags body) (message from to submessage) 68
    → StandsAt own (receiver_of from) (InfoDst to ∷ submessage ∷ []) 1 at submessage
    → Says network own at submessage claim → Claims network (packet from to id flags body) claim
packet-claims from to own id flags body submessage at claim reads stands says = record {
  own = own;
  at = at;
  submessage = submessage;
  there =
      record { message = message from to submessage; offset = 68; is_read = reads; index = 1; stands = stands };
  says = says;
}

-- ---- the GAP of gapStart 2 and the empty set from 3 on

abbrev gap_body : List ℕ
gap_body =
    0 ∷ 0 ∷ 1 ∷ 7 ∷ 0 ∷ 0 ∷ 1 ∷ 2 ∷ 0 ∷ 0 ∷ 0 ∷ 0 ∷ 2 ∷ 0 ∷ 0 ∷ 0 ∷ 0 ∷ 0 ∷ 0 ∷ 0 ∷ 3 ∷ 0 ∷ 0 ∷ 0 ∷ 0 ∷ 0 ∷ 0 ∷ 0 ∷ []

gap-known : IsKnownKind 0x08 1 gap_body (Gap gap_2)
unfolding set_of bits_below
gap-known = record {
  kind = refl;
  flags_are = tt;
  body_is = record {
    from_set = 0 ∷ 0 ∷ 0 ∷ 0 ∷ 3 ∷ 0 ∷ 0 ∷ 0 ∷ 0 ∷ 0 ∷ 0 ∷ 0 ∷ [];
    rest = [];
    head = refl;
    set = record {
      field = record { base = 3; num_bits = 0; words = [] };
      valid = record { first = omega arith; small = omega arith; few = omega arith; enough = refl; each = tt };
      text = refl;
      set = refl;
    };
  };
  valid = record { reader = refl; writer = refl; first = omega arith; small = omega arith };
}

gap-read : ReadsMessage (packet prefix_1 prefix_2 0x08 1 gap_body) (message prefix_1 prefix_2 (Gap gap_2)) 68
gap-read =
    packet-read prefix_1 prefix_2 0x08 1 gap_body
    (Gap gap_2) refl refl refl (record { len = 28; small = omega arith; text = refl; extent = refl }) gap-known

-- so the packet lets r1 pass 2
gap-claims : Claims network (packet prefix_1 prefix_2 0x08 1 gap_body) (MayPass w1 r1 2)
gap-claims =
    packet-claims prefix_1 prefix_2 prefix_2 0x08 1 gap_body (Gap gap_2) to_2 (MayPass w1 r1 2) gap-read (refl, refl)
    gap-names_2

-- ---- the ACKNACK of base 2 and the set with 2

abbrev acknack_body : List ℕ
acknack_body =
    0 ∷ 0 ∷ 1 ∷ 7 ∷ 0 ∷ 0 ∷ 1 ∷ 2 ∷ 0 ∷ 0 ∷ 0 ∷ 0 ∷ 2 ∷ 0 ∷ 0 ∷ 0 ∷ 1 ∷ 0 ∷ 0 ∷ 0 ∷ 0 ∷ 0 ∷ 0 ∷ 0x80 ∷ 1 ∷ 0 ∷ 0 ∷ 0
    ∷ []

acknack-known : IsKnownKind 0x06 1 acknack_body (AckNack (acknack_2 r1_id))
unfolding set_of bits_below
acknack-known = record {
  kind = refl;
  flags_are = refl;
  body_is = record {
    from_set = 0 ∷ 0 ∷ 0 ∷ 0 ∷ 2 ∷ 0 ∷ 0 ∷ 0 ∷ 1 ∷ 0 ∷ 0 ∷ 0 ∷ 0 ∷ 0 ∷ 0 ∷ 0x80 ∷ 1 ∷ 0 ∷ 0 ∷ 0 ∷ [];
    from_count = 1 ∷ 0 ∷ 0 ∷ 0 ∷ [];
    rest = [];
    ids = refl;
    set = record {
      field = record { base = 2; num_bits = 1; words = 2 ^ 31 ∷ [] };
      valid =
          record {
            first = omega arith;
            small = omega arith;
            few = omega arith;
            enough = refl;
            each = (omega arith, tt);
          };
      text = refl;
      set = refl;
    };
    count = refl;
  };
  valid = record { reader = refl; writer = refl; count = omega (arith, ints) };
}

acknack-read : ReadsMessage (packet prefix_2 prefix_1 0x06 1 acknack_body)
    (message prefix_2 prefix_1 (AckNack (acknack_2 r1_id))) 68
acknack-read =
    packet-read prefix_2 prefix_1 0x06 1 acknack_body
    (AckNack (acknack_2 r1_id)) refl refl refl (record { len = 28; small = omega arith; text = refl; extent = refl })
    acknack-known

-- so r1 has reached 2
acknack-claims : Claims network (packet prefix_2 prefix_1 0x06 1 acknack_body) (PlaceReached w1 r1 2)
acknack-claims =
    packet-claims prefix_2 prefix_1 prefix_1 0x06 1 acknack_body (AckNack (acknack_2 r1_id)) to_1 (PlaceReached w1 r1 2)
    acknack-read (refl, refl) acknack-reached_2

-- ---- the first HEARTBEAT of a writer without changes, with the flags F and L

abbrev heartbeat_body : List ℕ
heartbeat_body =
    0 ∷ 0 ∷ 0 ∷ 0 ∷ 0 ∷ 0 ∷ 1 ∷ 2 ∷ 0 ∷ 0 ∷ 0 ∷ 0 ∷ 1 ∷ 0 ∷ 0 ∷ 0 ∷ 0 ∷ 0 ∷ 0 ∷ 0 ∷ 0 ∷ 0 ∷ 0 ∷ 0 ∷ 1 ∷ 0 ∷ 0 ∷ 0 ∷ []

abbrev heartbeat : HeartbeatBody
heartbeat =
    record {
      reader_id = every_reader;
      writer_id = w1_id;
      first_sn = 1;
      last_sn = 0;
      count = pos 1;
      final_flag = true;
      liveliness_flag = true;
    }

abbrev heartbeat_packet : List ℕ
heartbeat_packet = packet prefix_1 prefix_2 0x07 7 heartbeat_body

heartbeat-known : IsKnownKind 0x07 7 heartbeat_body (Heartbeat heartbeat)
heartbeat-known = record {
  kind = refl;
  flags_are = (refl, refl);
  body_is = ([], refl);
  valid =
      record {
        reader = refl;
        writer = refl;
        first = omega arith;
        not_past = omega arith;
        first_small = omega arith;
        last_small = omega arith;
        count = omega (arith, ints);
      };
}

heartbeat-read : ReadsMessage heartbeat_packet (message prefix_1 prefix_2 (Heartbeat heartbeat)) 68
heartbeat-read =
    packet-read prefix_1 prefix_2 0x07 7 heartbeat_body
    (Heartbeat heartbeat) refl refl refl (record { len = 28; small = omega arith; text = refl; extent = refl })
    heartbeat-known

heartbeat-claims : Claims network heartbeat_packet (Asserts w1 r1 (pos 1))
heartbeat-claims =
    packet-claims prefix_1 prefix_2 prefix_2 0x07 7 heartbeat_body (Heartbeat heartbeat) to_2 (Asserts w1 r1 (pos 1))
    heartbeat-read (refl, refl) (to_r1 every_reader 0 (inr refl), refl, refl)

-- once it was applied at r1, its count is no longer the newest: the same packet is not heard again
abbrev delivery : Delivery
delivery = record {
  packet = heartbeat_packet;
  rows = (record { writer = w1; place = 1; heard = None; how = Begun } ∷ []) ∷ [];
  report = record { moves = Heard w1 1 ∷ []; refused = None };
}

heartbeat-applied : IsApplied network delivery w1 r1 (pos 1)
heartbeat-applied = record {
  own = prefix_2;
  at = to_2;
  heartbeat = heartbeat;
  there = record {
    message = message prefix_1 prefix_2 (Heartbeat heartbeat);
    offset = 68;
    is_read = heartbeat-read;
    index = 1;
    stands = (refl, refl);
  };
  before = tt;
  is_to = to_r1 every_reader 0 (inr refl);
  same_count = refl;
  met = refl;
}

newest-before : IsNewest network [] w1 r1 (pos 1)
newest-before earlier count among applied = absurd (omega (arith, among.1))

newest-not_again : IsNewest network (delivery ∷ []) w1 r1 (pos 1) → ⊥
newest-not_again newest = absurd (omega (arith, ints, newest delivery (pos 1) (0, omega arith, refl) heartbeat-applied))

-- a HEARTBEAT that found no memory, or stands behind what found none, was not applied
applied-not_from_the_refused : IsApplied network
    (record { packet = heartbeat_packet; rows = delivery.rows; report = record { moves = []; refused = Some 0 } }) w1 r1
    (pos 1) → ⊥
applied-not_from_the_refused h = absurd (omega (arith, h.before))

-- nor one that came while the two were not matched
applied-not_while_away : IsApplied network
    (record delivery { rows = (record { writer = w1; place = 1; heard = None; how = Away } ∷ []) ∷ [] }) w1 r1 (pos 1)
    → ⊥
applied-not_while_away h = let met = h.met in cc
