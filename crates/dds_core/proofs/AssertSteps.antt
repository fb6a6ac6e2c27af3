-- What an assertion of one of the peer's writers does.
use Rattle.std.proofs.Common.{◌≡◌, ℕ, suc, ◌+◌, ◌-◌, ◌^◌, ◌<◌, Bool, true, false, not, List, Some, None, length, slice_get, refl, ap, sym, ◌∙◌, subst, arith}
use Rattle.std.specs.Prelude.{nat_le, if◌then◌else◌}
use Rattle.dds_base.specs.declared.code.Code.{Code}
use Rattle.dds_base.specs.declared.code.Code.TheVariants.{BadParameter, OutOfResources}
use Rattle.dds_protocol.specs.Roster.{Roster}
use Rattle.dds_base.specs.declared.guid.GuidPrefix.{GuidPrefix}
use Rattle.dds_base.specs.Written.{Asserted}
use Rattle.dds_base.specs.declared.endpoint.Endpoint.{Endpoint}
use Rattle.dds_machine.specs.declared.call.Call.TheVariants as call
use Rattle.dds_protocol.specs.declared.event.Event.TheVariants as event
use Rattle.dds_protocol.specs.declared.event.Packet.{Packet}
use Rattle.dds_machine.specs.declared.reply.Reply.TheVariants.{Done, Refused}
use Rattle.dds_machine.specs.Refusals.{assert_refusal}
use Rattle.dds_machine.specs.Calls.{CallStep}
use Rattle.dds_machine.specs.Numbered.{has_element}
use Rattle.dds_conditions.specs.NoFilters.{no_filters}
use Rattle.dds_machine.specs.Part.{Writer, heartbeats_used, own_writer}
use Rattle.dds_protocol.specs.Peer.{Peer}
use Rattle.dds_protocol.specs.Contact.{Contact}
use Rattle.dds_protocol.specs.DueMessages.{Due, AreSent, assertions_due, heartbeats_for}
use Rattle.dds_protocol.proofs.DuesAssertions.{assertions_true}
use Rattle.dds_ends.specs.Beating.{HasNoCount, TellsOf, assertions_of}
use Rattle.dds_ends.specs.Kept.{WriterKept}
use Rattle.dds_core.specs.Kept.{PeerKept}
use Rattle.dds_core.specs.Standing.{StandsFor}
use Rattle.dds_ends.specs.Stepping.{Enters}
use Rattle.dds_ends.proofs.Begins.{EndsAlike, ends_alike}
use Rattle.dds_core.proofs.BeatsDue.{IsNamed, all_named, named, named_reader, part_of, sent_are_due, sent_true}
use Rattle.dds_core.proofs.CallSteps.{Follows, answered_as, number_is, refused_as, refused_call, there_is}
use Rattle.dds_core.proofs.Ends.{with_writer, entered_at, own_writer_stepped, unchanged_with}
use Rattle.dds_ends.proofs.MatchedAt.{named_there}
use Rattle.dds_core.proofs.Taking.{silent}
use Rattle.dds_core.proofs.Tellable.{tellable_entered}

-- what tells an assertion, by the roster
pub assertions_are : (roster : Roster) (peer : ℕ) (prefix : GuidPrefix) (number : ℕ) (k : WriterKept) (w : Writer)
    (answered : Endpoint → Contact) → IsNamed roster peer prefix number k w → EndsAlike k w answered
    → assertions_of prefix k w answered ≡ assertions_due roster answered (record { peer = peer; number = number }) w
assertions_are roster peer prefix number k w answered is alike =
    sent_are_due roster true peer prefix number k.entity w answered k.matched k.destinations is.own is.entity
    (λ j n at. named_reader roster (record { peer = peer; number = number }) n (is.ends.readers j n at))
    (λ j n at. alike n.reader (λ none. named_there k.matched j n n.reader at refl))
    is.ends.sent_to
    (all_named roster (record { peer = peer; number = number }) k.matched k.destinations k.readers is.ends)
    ∙ ap (λ (es : List Endpoint). heartbeats_for roster true true peer number answered w es) (sym is.matched)

-- the peer's writer of this index, and what is told of it
told_at : (kept : PeerKept) (i : ℕ) (k : WriterKept) (roster : Roster) (peer : Peer)
    → (s : StandsFor kept roster peer) → slice_get kept.writers i ≡ Some k
    → (packets : List Packet) (unsent : ℕ) → TellsOf kept.prefix k packets unsent
    → (nat_le (2 ^ 31 - 1) (heartbeats_used (own_writer peer.part (suc i))) ≡ false)
    × AreSent (assertions_due roster (peer.known.answered (suc i)) (record { peer = peer.number; number = suc i })
    (own_writer peer.part (suc i))) packets unsent
told_at kept i k roster peer s at packets unsent tells =
    let w : Writer = own_writer peer.part (suc i) in
    let answered : Endpoint → Contact = peer.known.answered (suc i) in
    let stands = s.writers.each i k at in
    let told = tells w answered stands in
    let next : 1 + i ≡ suc i = omega arith in
    let is : IsNamed roster peer.number kept.prefix (suc i) k w =
    subst (λ (n : ℕ). IsNamed roster peer.number kept.prefix n k w) next (named roster peer kept s i k at) in (
      told.0,
      subst (λ (dues : List Due). AreSent dues packets unsent)
          (assertions_are roster peer.number kept.prefix (suc i) k w answered is (ends_alike k w answered stands))
          told.1,
    )

asserts : (kept : PeerKept) (i : ℕ) (k k' : WriterKept) (roster : Roster) (peer : Peer)
    → StandsFor kept roster peer → slice_get kept.writers i ≡ Some k → i < length kept.writers
    → Enters k (Asserted kept.moment) k'
    → (packets : List Packet) (unsent : ℕ) → TellsOf kept.prefix k packets unsent
    → Follows (with_writer kept i k') roster peer (event.Call (call.AssertLiveliness (suc i)))
    (record { reply = Done; packets = packets; unsent = unsent })
asserts kept i k k' roster peer s at lt enters packets unsent tells =
    let count = s.writers.count in
    let known : has_element peer.part.rtps.writers (suc i) ≡ true =
    there_is peer.part.rtps.writers i (omega (arith, lt, count)) in
    let w : Writer = own_writer peer.part (suc i) in
    let now : ℕ = peer.part.dds.moment in
    let told = told_at kept i k roster peer s at packets unsent tells in
    let accepted : assert_refusal peer.part (suc i) ≡ None =
    ap (λ (b : Bool). if not b then Some BadParameter else (if nat_le (2 ^ 31 - 1)
    (heartbeats_used w) then Some OutOfResources else None)) known
    ∙ ap (λ (b : Bool). if b then Some OutOfResources else None) told.0 in
    let entered : Enters k (Asserted now) k' = subst (λ (m : ℕ). Enters k (Asserted m) k') (sym s.moment) enters in
    let after : Peer = entered_at peer (suc i) (Asserted now) in
    let step : CallStep no_filters peer.part (call.AssertLiveliness (suc i)) Done after.part =
    record { answers = answered_as _ Done peer.part.dds peer.part Done accepted refl; rtps = refl } in
    let truthful =
    assertions_true roster no_filters (peer.known.answered (suc i)) peer.number (suc i) peer.part after.part
    s.is_peer.is_roster (part_of roster peer kept s) step in (
      after,
      record {
        same_number = refl;
        knows = refl;
        step = (step, refl);
        sent =
            sent_true roster peer.number after.part
            (assertions_due roster (peer.known.answered (suc i)) (record { peer = peer.number; number = suc i }) w)
            packets unsent truthful told.1;
      },
      own_writer_stepped kept i k k' (Asserted now) roster peer s at entered
          (tellable_entered peer (suc i) (Asserted now) s.tellable tt),
    )

-- so it is of the writer of a number
pub asserts_at : (kept : PeerKept) (writer i : ℕ) (k k' : WriterKept) (roster : Roster) (peer : Peer)
    → StandsFor kept roster peer → writer ≡ i + 1 → slice_get kept.writers i ≡ Some k → i < length kept.writers
    → Enters k (Asserted kept.moment) k' → (packets : List Packet) (unsent : ℕ)
    → TellsOf kept.prefix k packets unsent
    → Follows (with_writer kept i k') roster peer (event.Call (call.AssertLiveliness writer))
    (record { reply = Done; packets = packets; unsent = unsent })
asserts_at kept writer i k k' roster peer s is at lt enters packets unsent tells =
    subst (λ (n : ℕ). Follows (with_writer kept i k') roster peer (event.Call (call.AssertLiveliness n))
    (record { reply = Done; packets = packets; unsent = unsent }))
    (number_is writer i is) (asserts kept i k k' roster peer s at lt enters packets unsent tells)

pub asserts_sends : (kept : PeerKept) (writer i : ℕ) (k : WriterKept) (roster : Roster) (peer : Peer)
    → StandsFor kept roster peer → writer ≡ i + 1 → slice_get kept.writers i ≡ Some k
    → (packets : List Packet) (unsent : ℕ) → TellsOf kept.prefix k packets unsent
    → AreSent (assertions_due roster (peer.known.answered writer) (record { peer = peer.number; number = writer })
    (own_writer peer.part writer)) packets unsent
asserts_sends kept writer i k roster peer s is at packets unsent tells =
    subst (λ (n : ℕ). AreSent
    (assertions_due roster (peer.known.answered n) (record { peer = peer.number; number = n }) (own_writer peer.part n))
    packets unsent)
    (number_is writer i is) (told_at kept i k roster peer s at packets unsent tells).1

-- where its counts are used up, nothing happens
refuses : (kept : PeerKept) (i : ℕ) (k : WriterKept) (roster : Roster) (peer : Peer)
    → StandsFor kept roster peer → slice_get kept.writers i ≡ Some k → i < length kept.writers → HasNoCount k
    → Follows kept roster peer (event.Call (call.AssertLiveliness (suc i))) (silent (Refused OutOfResources))
refuses kept i k roster peer s at lt used =
    let count = s.writers.count in
    let known : has_element peer.part.rtps.writers (suc i) ≡ true =
    there_is peer.part.rtps.writers i (omega (arith, lt, count)) in
    let w : Writer = own_writer peer.part (suc i) in
    let is : assert_refusal peer.part (suc i) ≡ Some OutOfResources =
    ap (λ (b : Bool). if not b then Some BadParameter else (if nat_le (2 ^ 31 - 1)
    (heartbeats_used w) then Some OutOfResources else None)) known
    ∙ ap (λ (b : Bool). if b then Some OutOfResources else None)
    (used w (peer.known.answered (suc i)) (s.writers.each i k at)) in
    refused_call kept roster peer s (call.AssertLiveliness (suc i)) OutOfResources
    (refused_as _ Done peer.part.dds peer.part OutOfResources is)

pub refuses_at : (kept : PeerKept) (writer i : ℕ) (k k' : WriterKept) (code : Code) (roster : Roster) (peer : Peer)
    → StandsFor kept roster peer → writer ≡ i + 1 → slice_get kept.writers i ≡ Some k → i < length kept.writers
    → (code ≡ OutOfResources) × HasNoCount k → k' ≡ k
    → Follows (with_writer kept i k') roster peer (event.Call (call.AssertLiveliness writer)) (silent (Refused code))
refuses_at kept writer i k k' code roster peer s is at lt used same =
    subst (λ (x : PeerKept). Follows x roster peer (event.Call (call.AssertLiveliness writer)) (silent (Refused code)))
    (sym (unchanged_with kept i k k' at same))
    (subst (λ (n : ℕ). Follows kept roster peer (event.Call (call.AssertLiveliness n)) (silent (Refused code)))
    (number_is writer i is)
    (subst (λ (x : Code). Follows kept roster peer (event.Call (call.AssertLiveliness (suc i))) (silent (Refused x)))
    (sym used.0) (refuses kept i k roster peer s at lt used.1)))
