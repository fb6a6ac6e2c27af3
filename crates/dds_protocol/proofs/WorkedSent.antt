-- Which packets are sent of what is due, and what is counted as unsent: of nothing, of one message and of two.
use Rattle.std.proofs.Common.{◌≡◌, ◌⊎◌, ℕ, suc, ◌+◌, List, [], ◌∷◌, length, refl, ap, ◌∙◌, inl, inr, arith}
use Rattle.rtps_wire.specs.Messages.{IsWritable}
use Rattle.dds_protocol.specs.declared.event.Packet.{Packet}
use Rattle.dds_protocol.specs.DueMessages.{AreSent, Due, packet_of}

-- ---- nothing is due

nothing-is_sent : AreSent [] [] 0
nothing-is_sent = (refl, refl)

nothing-not_counted : (packets : List Packet) (unsent : ℕ) → AreSent [] packets (suc unsent) → ⊥
nothing-not_counted packets unsent h = let none = h.1 in absurd (omega (arith, none))

nothing-no_packet : (first : Packet) (packets : List Packet) (unsent : ℕ) → AreSent [] (first ∷ packets) unsent → ⊥
nothing-no_packet first packets unsent h = let none = h.0 in absurd cc

-- ---- one message is due

one-is_sent : (due : Due) → IsWritable due.message → AreSent (due ∷ []) (packet_of due ∷ []) 0
one-is_sent due writable = inl ([], refl, writable, (refl, refl))

one-is_unsent : (due : Due) → AreSent (due ∷ []) [] 1
one-is_unsent due = inr (0, refl, (refl, refl))

-- each message that is due is sent or counted, and none is both
pub sent_or_counted : (dues : List Due) (packets : List Packet) (unsent : ℕ) → AreSent dues packets unsent
    → length packets + unsent ≡ length dues
sent_or_counted [] packets unsent h =
    let none = ap (λ (ps : List Packet). length ps) h.0 in let uncounted = h.1 in omega (arith, none, uncounted)
sent_or_counted (due ∷ dues) packets unsent (inl s) =
    let first = ap (λ (ps : List Packet). length ps) s.1 in let rest = sent_or_counted dues s.0 unsent s.3 in
    omega (arith, first, rest)
sent_or_counted (due ∷ dues) packets unsent (inr s) =
    let counted = s.1 in let rest = sent_or_counted dues packets s.0 s.2 in omega (arith, counted, rest)

-- one is sent, or counts 1
pub one_sent_or_counted : (due : Due) (packets : List Packet) (unsent : ℕ) → AreSent (due ∷ []) packets unsent
    → ((packets ≡ packet_of due ∷ []) × (unsent ≡ 0)) ⊎ ((packets ≡ []) × (unsent ≡ 1))
one_sent_or_counted due packets unsent (inl s) =
    inl (s.1 ∙ ap (λ (ps : List Packet). packet_of due ∷ ps) s.3.0, s.3.1)
one_sent_or_counted due packets unsent (inr s) =
    let counted = s.1 in let rest = s.2.1 in inr (s.2.0, omega (arith, counted, rest))

one-not_forgotten : (due : Due) → AreSent (due ∷ []) [] 0 → ⊥
one-not_forgotten due h = let all = sent_or_counted (due ∷ []) [] 0 h in absurd (omega (arith, all))

one-not_both : (due : Due) (first : Packet) → AreSent (due ∷ []) (first ∷ []) 1 → ⊥
one-not_both due first h = let all = sent_or_counted (due ∷ []) (first ∷ []) 1 h in absurd (omega (arith, all))

-- ---- two are due

-- they are sent in their order; and where the first found no memory, the second may still be sent
two-are_sent : (first second : Due) → IsWritable first.message → IsWritable second.message
    → AreSent (first ∷ second ∷ []) (packet_of first ∷ packet_of second ∷ []) 0
two-are_sent first second a b = inl (packet_of second ∷ [], refl, a, inl ([], refl, b, (refl, refl)))

two-second_alone : (first second : Due) → IsWritable second.message
    → AreSent (first ∷ second ∷ []) (packet_of second ∷ []) 1
two-second_alone first second writable = inr (0, refl, inl ([], refl, writable, (refl, refl)))
