-- What a peer answers twice: replies without lists, and outputs of whose packets some are lost.
use Rattle.std.proofs.Common.{◌≡◌, ℕ, ◌+◌, true, false, List, [], ◌∷◌, length, subst, sym, ◌∙◌, refl, inl, inr, ⊎_elim, arith}
use Rattle.dds_base.specs.declared.change.Change.{Change}
use Rattle.dds_protocol.specs.Roster.{Roster}
use Rattle.dds_base.specs.Written.{Registered, Changed, Asserted, LookedAt, StrengthSet, Ticked}
use Rattle.dds_base.specs.declared.endpoint.Endpoint.{Endpoint}
use Rattle.dds_machine.specs.declared.reply.Reply.{Reply}
use Rattle.dds_machine.specs.Calls.{Effect, nothing, writes, effect_of, looks_at_matches, tells}
use Rattle.dds_machine.specs.Part.{own_writer, writer_changes}
use Rattle.dds_machine.specs.Watching.{Tests}
use Rattle.dds_notices.specs.declared.notice.Notice.{Notice}
use Rattle.dds_protocol.specs.declared.event.Event.{Event}
use Rattle.dds_protocol.specs.declared.event.Event.TheVariants as event
use Rattle.dds_protocol.specs.declared.event.Output.{Output}
use Rattle.dds_protocol.specs.declared.event.Packet.{Packet}
use Rattle.dds_protocol.specs.DueMessages.{Due, AreSent, assertions_due, changes_due}
use Rattle.dds_protocol.specs.Meetings.{MeetsByRoster}
use Rattle.dds_protocol.specs.Peer.{Knows, Peer, PeerStep, EventStep, state_of as network_of}
use Rattle.dds_ends.specs.declared.twin.Twin.{Twin}
use Rattle.dds_ends.specs.declared.twin.Twin.TheVariants.{Unasked, Asked, Kept}
use Rattle.dds_core.specs.Listening.{CoreKept, Steps}
use Rattle.dds_ends.specs.Sending.{AreMessages}
use Rattle.dds_core.specs.Sending.{SendsChange, SendsFor, SendsNothing, due_at_tick}
use Rattle.dds_core.specs.Ruling.{KeepsRules, ResumesByRules}
use Rattle.dds_ends.specs.Twins.{AreLeft, IsPlain, IsTwin, Leaves, LosesPackets, wants_two}
use Rattle.dds_ends.proofs.PacketsLeft.{left_count}

-- ---- replies without lists

-- a reply without a list needs nothing once more
pub plain_twin : (twin : Twin) (reply : Reply) → IsPlain reply → wants_two twin ≡ true → IsTwin twin reply
plain_twin Unasked reply plain asked = absurd (let clash : false ≡ true = asked in cc)
plain_twin Asked reply plain asked = plain
plain_twin (Kept again) reply plain asked = absurd (let clash : false ≡ true = asked in cc)

-- ---- packets that are left

-- of no packets none are left out
pub leaves_none : Leaves [] []
leaves_none = record { lost = 0; are_left = (refl, refl); of_packets = λ p c. c; fewer = omega arith; different = λ d. d }

-- what of no packets is left
left_none : (packets left : List Packet) (lost : ℕ) → packets ≡ [] → AreLeft packets left lost
    → (left ≡ []) × (lost ≡ 0)
left_none packets left lost none h = subst (λ (ps : List Packet). AreLeft ps left lost) none h

-- of what is sent for these messages, some are left
left_sent : (dues : List Due) (packets left : List Packet) (unsent lost : ℕ) → AreSent dues packets unsent
    → AreLeft packets left lost → AreSent dues left (unsent + lost)
left_sent [] packets left unsent lost h p =
    let none = left_none packets left lost h.0 p in
    let first = h.1 in
    let second = none.1 in
    (none.0, omega (arith, first, second))
left_sent (due ∷ dues) packets left unsent lost (inl f) p =
    ⊎_elim (λ k. inl (k.0, k.1, f.2, left_sent dues f.0 k.0 unsent lost f.3 k.2))
    (λ k. let fewer = k.1 in inr (unsent + k.0, omega (arith, fewer), left_sent dues f.0 left unsent k.0 f.3 k.2))
    (subst (λ (ps : List Packet). AreLeft ps left lost) f.1 p)
left_sent (due ∷ dues) packets left unsent lost (inr g) p =
    let fewer = g.1 in inr (g.0 + lost, omega (arith, fewer), left_sent dues packets left g.0 lost g.2 p)

-- ---- outputs of whose packets some are lost

-- what is sent for these messages is sent, but for what is lost
dues_sent : (dues : List Due) (output less : Output) → LosesPackets output less
    → AreSent dues output.packets output.unsent → AreSent dues less.packets less.unsent
dues_sent dues output less l are =
    subst (λ (n : ℕ). AreSent dues less.packets n) (sym l.unsent)
    (left_sent dues output.packets less.packets output.unsent l.leaves.lost are l.leaves.are_left)

nothing_sent : (output less : Output) → LosesPackets output less → SendsNothing output → SendsNothing less
nothing_sent output less l none =
    let left = left_none output.packets less.packets l.leaves.lost none.packets l.leaves.are_left in
    let first = l.unsent in
    let second = none.unsent in
    let third = left.1 in
    record { packets = left.0; unsent = omega (arith, first, second, third) }

change_sent : (roster : Roster) (writer : Endpoint) (readers : List Endpoint) (number : ℕ) (change : Change)
    (output less : Output) → LosesPackets output less → SendsChange roster writer readers number change output
    → SendsChange roster writer readers number change less
change_sent roster writer readers number change output less l one =
    let count = left_count output.packets less.packets l.leaves.lost l.leaves.are_left in
    let unsent = l.unsent in
    let all = one.counted in
    record {
      counted = omega (arith, count, unsent, all);
      are_sent = dues_sent (changes_due roster writer readers number change) output less l one.are_sent;
      to_peers = λ packet m. one.to_peers packet (l.leaves.of_packets packet m);
      says = λ packet reader m same matched. one.says packet reader (l.leaves.of_packets packet m) same matched;
      different = l.leaves.different one.different;
    }

effect_sent : (roster : Roster) (peer : Peer) (effect : Effect) (output less : Output) → LosesPackets output less
    → SendsFor roster peer effect output → SendsFor roster peer effect less
effect_sent roster peer (writes w (Changed change)) output less l one =
    change_sent roster (record { peer = peer.number; number = w }) (own_writer peer.part w).matched
    (length (writer_changes (own_writer peer.part w)) + 1) change output less l one
effect_sent roster peer (writes w (Registered key)) output less l none = nothing_sent output less l none
effect_sent roster peer (writes w (Asserted moment)) output less l are =
    dues_sent
    (assertions_due roster (peer.known.answered w) (record { peer = peer.number; number = w }) (own_writer peer.part w))
    output less l are
effect_sent roster peer (writes w LookedAt) output less l none = nothing_sent output less l none
effect_sent roster peer (writes w (StrengthSet strength)) output less l none = nothing_sent output less l none
effect_sent roster peer (writes w (Ticked now behind)) output less l none = nothing_sent output less l none
effect_sent roster peer (tells telling) output less l none = nothing_sent output less l none
effect_sent roster peer (looks_at_matches w) output less l none = nothing_sent output less l none
effect_sent roster peer nothing output less l none = nothing_sent output less l none

pub loses_messages : (output less : Output) → LosesPackets output less → AreMessages output.packets
    → AreMessages less.packets
loses_messages output less l messages = λ packet m. messages packet (l.leaves.of_packets packet m)

loses_step : (roster : Roster) (tests : Tests) (old : Peer) (e : Event) (output less : Output) (new : Peer)
    → LosesPackets output less → PeerStep roster tests old e output new → PeerStep roster tests old e less new
loses_step roster tests old e output less new l s = record {
  same_number = s.same_number;
  knows = subst (λ (r : Reply). Knows old e r new) (sym l.reply) s.knows;
  step = subst (λ (r : Reply). EventStep roster tests old e r new) (sym l.reply) s.step;
  sent = λ packet claim m claims. s.sent packet claim (l.leaves.of_packets packet m) claims;
}

loses_rules : (roster : Roster) (old : Peer) (e : Event) (output less : Output) (new : Peer) → LosesPackets output less
    → KeepsRules roster old e output new → KeepsRules roster old e less new
loses_rules roster old (event.Call call) output less new l k =
    subst (λ (r : Reply). SendsFor roster old (effect_of old.part call r) less) (sym l.reply)
    (effect_sent roster old (effect_of old.part call output.reply) output less l k)
loses_rules roster old (event.Tick now) output less new l k =
    subst (λ (r : Reply). AreSent (due_at_tick roster old r) less.packets less.unsent) (sym l.reply)
    (dues_sent (due_at_tick roster old output.reply) output less l k)
loses_rules roster old (event.Deliver packet) output less new l k = record {
  report = k.report;
  reply = l.reply ∙ k.reply;
  dues = k.dues;
  takes = k.takes;
  sent = dues_sent k.dues output less l k.sent;
}
loses_rules roster old (event.Resume reader) output less new l k = (
  nothing_sent output less l k.0,
  subst (λ (r : Reply). ResumesByRules reader (network_of old) r (network_of new)) (sym l.reply) k.1,
)

-- the step is one with what is left
pub loses_steps : {F L : Type 0} (notices : L → List Notice) (capacity : L → ℕ) (becomes : L → Notice → L → Type 0)
    (tests : Tests) (old : CoreKept F L) (e : Event) (output less : Output) (new : CoreKept F L)
    → LosesPackets output less
    → Steps notices capacity becomes tests old e output new → Steps notices capacity becomes tests old e less new
loses_steps notices capacity becomes tests old e output less new l s = record {
  step = λ given roster peer stands sound met.
      let k =
      s.step given roster peer stands sound
      (subst (λ (r : Reply). MeetsByRoster roster peer.number e r) l.reply met) in (
        k.0,
        loses_step roster tests peer e output less k.0 l k.1,
        loses_rules roster peer e output less k.0 l k.2,
        k.3,
        k.4,
      );
  meets = λ given roster peer stands sound.
      let m = s.meets given roster peer stands sound in
      record {
        roster = m.roster;
        alike = m.alike;
        number = m.number;
        part = m.part;
        stands = m.stands;
        sound = m.sound;
        has = subst (λ (r : Reply). MeetsByRoster m.roster m.alike.number e r) (sym l.reply) m.has;
      };
  filters = s.filters;
}
