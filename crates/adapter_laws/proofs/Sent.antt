-- What a network has sent is what its peers wrote.
use Rattle.std.proofs.Common.{◌≡◌, ◌⊎◌, ◌≤◌, ℕ, List, [], ◌∷◌, ◌++◌, length, Contains, subst, sym, ap, ◌∙◌, refl, ⊎_elim, arith}
use Rattle.std.specs.List.{AllByRecursion}
use Rattle.std.proofs.lemmas.List.Elements.{Contains-append_cases}
use Rattle.dds_protocol.specs.Roster.{Roster}
use Rattle.rtps_wire.specs.declared.message.Message.{Message}
use Rattle.rtps_wire.specs.Messages.{spelling_of}
use Rattle.rtps_adapter.specs.declared.direction.Direction.TheVariants.{Inward, Outward}
use Rattle.rtps_adapter.specs.declared.direction.Way.TheVariants.{Filling}
use Rattle.rtps_adapter.specs.declared.kinds.WriterKind.{WriterKind}
use Rattle.rtps_adapter.specs.Adapting.{Adapts, Makes}
use Rattle.rtps_adapter.specs.ComesBack.{Fits, IsShort}
use Rattle.rtps_adapter.proofs.MessageRounds.{comes_back, comes_back_filled, no_longer}
use Rattle.dds_machine.specs.declared.event.WorldEvent.{WorldEvent}
use Rattle.dds_machine.specs.declared.reply.Reply.{Reply}
use Rattle.dds_machine.specs.Machine.{AllTests}
use Rattle.dds_protocol.specs.declared.event.Packet.{Packet}
use Rattle.dds_protocol.specs.DueMessages.{Due, AreSent, packet_of}
use Rattle.dds_protocol.specs.Noticing.{world_ended}
use Rattle.dds_protocol.specs.Rules.{CountedStep, RuledRun}
use Rattle.dds_protocol.specs.World.{WorldState}
use Rattle.dds_protocol.proofs.Composed.{is_alone}
use Rattle.adapter_laws.specs.Networks.{IsWrittenAs, PassesAdapters, StaysAMessage}

-- each of these packets is the written form of some message
abbrev pub AreWritten : List Packet → Type 0
AreWritten packets = (packet : Packet) → Contains packets packet → (m : Message) × IsWrittenAs packet m

none_written : AreWritten []
none_written packet in_none = let lt = in_none.1 in absurd (omega (arith, lt))

-- what is sent of what is due
sent_written : (dues : List Due) (packets : List Packet) (unsent : ℕ) → AreSent dues packets unsent → AreWritten packets
sent_written [] packets unsent sent = subst AreWritten (sym sent.0) none_written
sent_written (due ∷ dues) packets unsent sent =
    ⊎_elim
    (λ s. subst AreWritten (sym s.1) (λ packet here.
    ⊎_elim
    (λ alone. (
      due.message,
      record {
        writable = s.2;
        bytes = sym (ap (λ (p : Packet). p.bytes) (is_alone (packet_of due) packet alone));
      },
    ))
    (λ later. sent_written dues s.0 unsent s.3 packet later)
    (Contains-append_cases (packet_of due ∷ []) s.0 packet here)))
    (λ f. sent_written dues packets f.0 f.2) sent

-- what is sent, with what was sent before
step_written : (roster : Roster) (tests : AllTests) (old : WorldState) (unsent : ℕ) (event : WorldEvent) (reply : Reply)
    (new : WorldState) (next : ℕ) → CountedStep roster tests old unsent event reply new next → AreWritten old.sent
    → AreWritten new.sent
step_written roster tests old unsent event reply new next step before =
    subst AreWritten (sym step.ruled.sent) (λ packet here.
    ⊎_elim (before packet)
    (sent_written step.ruled.dues step.ruled.packets step.lost step.ruled.are_sent packet)
    (Contains-append_cases old.sent step.ruled.packets packet here))

run_written : (roster : Roster) (tests : AllTests) (old : WorldState) (unsent : ℕ) (events : List WorldEvent)
    (replies : List Reply) (new : WorldState) (last : ℕ) → RuledRun roster tests old unsent events replies new last
    → AreWritten old.sent → AreWritten new.sent
run_written roster tests old unsent [] [] new last run before =
    subst (λ (w : WorldState). AreWritten w.sent) (sym run.0) before
run_written roster tests old unsent (event ∷ events) (reply ∷ replies) new last run before =
    run_written roster tests (world_ended old event run.0) run.1 events replies new last run.3
    (step_written roster tests old unsent event reply run.0 run.1 run.2 before)
run_written roster tests old unsent [] (reply ∷ replies) new last run before = absurd run
run_written roster tests old unsent (event ∷ events) [] new last run before = absurd run

-- the written form of a message passes adapters
written_passes : (kinds : List WriterKind) (packet : Packet) (m : Message) → IsWrittenAs packet m
    → AllByRecursion (Fits kinds m.prefix) m.submessages → PassesAdapters kinds m packet
written_passes kinds packet m is fit out back turned short returned =
    let went = subst (λ (bytes : List ℕ). Adapts Outward kinds bytes out) is.bytes turned in
    ⊎_elim
    (λ r. (comes_back kinds m out back is.writable fit went r).1 short ∙ sym is.bytes)
    (λ r. comes_back_filled kinds m out back is.writable fit r.0 went r.1 short ∙ sym is.bytes) returned

-- and gets no longer
written_stays : (kinds : List WriterKind) (packet : Packet) (m : Message) → IsWrittenAs packet m
    → AllByRecursion (Fits kinds m.prefix) m.submessages → AllByRecursion (IsShort kinds m.prefix) m.submessages
    → StaysAMessage kinds packet
written_stays kinds packet m is fit all out turned =
    let went = subst (λ (bytes : List ℕ). Adapts Outward kinds bytes out) is.bytes turned in
    let less : length out ≤ length (spelling_of m) = no_longer kinds m out is.writable fit went all in
    omega (arith, less, ap length is.bytes)

pub sent_passes : (kinds : List WriterKind) (roster : Roster) (tests : AllTests) (old : WorldState) (unsent : ℕ)
    (events : List WorldEvent) (replies : List Reply) (new : WorldState) (last : ℕ) → old.sent ≡ []
    → RuledRun roster tests old unsent events replies new last → (packet : Packet) → Contains new.sent packet
    → (m : Message) × IsWrittenAs packet m
    × (AllByRecursion (Fits kinds m.prefix) m.submessages
    → PassesAdapters kinds m packet
    × (AllByRecursion (IsShort kinds m.prefix) m.submessages → StaysAMessage kinds packet))
sent_passes kinds roster tests old unsent events replies new last begins run packet here =
    let w = run_written roster tests old unsent events replies new last run
    (subst AreWritten (sym begins) none_written) packet here in
    (w.0, w.1, λ fit. (written_passes kinds packet w.0 w.1 fit, written_stays kinds packet w.0 w.1 fit))
