-- Packets that are left where some find no memory.
use Rattle.std.proofs.Common.{◌≡◌, ◌≢◌, ℕ, suc, ◌+◌, ◌<◌, Bool, true, false, List, [], ◌∷◌, ◌++◌, length, get_or, subst, ap, sym, ◌∙◌, refl, inl, inr, ⊎_elim, arith, length-append}
use Rattle.std.specs.Prelude.{if◌then◌else◌, Contains, AllPairs}
use Rattle.std.specs.List.{All}
use Rattle.std.proofs.lemmas.List.{get_or_append_left, get_or_at}
use Rattle.std.proofs.lemmas.List.Elements.{All-push, Contains-append_left, Contains-append_right, Contains-append_cases}
use Rattle.std.proofs.lemmas.List.Kept.{AllPairs-cons}
use Rattle.dds_protocol.specs.declared.event.Output.{Output}
use Rattle.dds_protocol.specs.declared.event.Packet.{Packet}
use Rattle.dds_ends.specs.Twins.{AreLeft, Leaves, LosesPackets}

-- ---- lists of which any two elements differ

last_apart : (R : Packet → Packet → Type 0) (qs : List Packet) (p : Packet) → AllPairs R (qs ++ p ∷ []) → (x : Packet)
    → Contains qs x → R x p
last_apart R qs p all x c =
    let total = length-append qs (p ∷ []) in
    let within : length qs < length (qs ++ p ∷ []) = omega (arith, total) in
    let here : get_or (qs ++ p ∷ []) c.0 x ≡ x = get_or_append_left qs (p ∷ []) x c.0 c.1 ∙ c.2 in
    let last : get_or (qs ++ p ∷ []) (length qs) x ≡ p = get_or_at qs p [] x (length qs) refl in
    subst (λ (y : Packet). R y p) here
    (subst (λ (y : Packet). R (get_or (qs ++ p ∷ []) c.0 x) y) last (all c.0 (length qs) x c.1 within))

front_apart : (R : Packet → Packet → Type 0) (qs : List Packet) (p : Packet) → AllPairs R (qs ++ p ∷ []) → AllPairs R qs
front_apart R qs p all i j d lt within =
    let total = length-append qs (p ∷ []) in
    let low : i < length qs = omega (arith, lt, within) in
    let here : get_or (qs ++ p ∷ []) i d ≡ get_or qs i d = get_or_append_left qs (p ∷ []) d i low in
    let there : get_or (qs ++ p ∷ []) j d ≡ get_or qs j d = get_or_append_left qs (p ∷ []) d j within in
    subst (λ (y : Packet). R y (get_or qs j d)) here
    (subst (λ (y : Packet). R (get_or (qs ++ p ∷ []) i d) y) there (all i j d lt (omega (arith, within, total))))

more_apart : (R : Packet → Packet → Type 0) (ps : List Packet) (p : Packet) → AllPairs R ps
    → ((x : Packet) → Contains ps x → R x p) → AllPairs R (ps ++ p ∷ [])
more_apart R [] p all each = λ i j d lt within. absurd (omega (arith, lt, within))
more_apart R (x ∷ ps) p all each =
    let first : All (R x) ps = λ k d lt. all 0 (suc k) d (omega arith) (omega (arith, lt)) in
    let rest : AllPairs R ps = λ i j d lt within. all (suc i) (suc j) d (omega (arith, lt)) (omega (arith, within)) in
    AllPairs-cons R x (ps ++ p ∷ []) (All-push (R x) ps p first (each x (0, omega arith, refl)))
    (more_apart R ps p rest (λ y c. each y (suc c.0, omega (arith, c.1), c.2)))

-- ---- packets that are left

one_left : (packets left : List Packet) (packet : Packet) (lost : ℕ) → AreLeft packets left lost
    → AreLeft (packets ++ packet ∷ []) (left ++ packet ∷ []) lost
one_left [] left packet lost h = inl ([], ap (λ (ps : List Packet). ps ++ packet ∷ []) h.0, (refl, h.1))
one_left (p ∷ ps) left packet lost (inl f) =
    inl (f.0 ++ packet ∷ [], ap (λ (xs : List Packet). xs ++ packet ∷ []) f.1, one_left ps f.0 packet lost f.2)
one_left (p ∷ ps) left packet lost (inr g) = inr (g.0, g.1, one_left ps left packet g.0 g.2)

one_lost : (packets left : List Packet) (packet : Packet) (lost : ℕ) → AreLeft packets left lost
    → AreLeft (packets ++ packet ∷ []) left (lost + 1)
one_lost [] left packet lost h = inr (lost, refl, h)
one_lost (p ∷ ps) left packet lost (inl f) = inl (f.0, f.1, one_lost ps f.0 packet lost f.2)
one_lost (p ∷ ps) left packet lost (inr g) =
    inr (
      lost,
      refl,
      subst (λ (n : ℕ). AreLeft (ps ++ packet ∷ []) left n) (sym g.1) (one_lost ps left packet g.0 g.2),
    )

-- one more packet is left, or lost
pub leaves_more : (packets left new : List Packet) (packet : Packet) (b : Bool) → Leaves packets left
    → new ≡ (if b then left ++ packet ∷ [] else left) → Leaves (packets ++ packet ∷ []) new
leaves_more packets left new packet true h is =
    let count = length-append left (packet ∷ []) in
    let total = length-append packets (packet ∷ []) in
    let fewer = h.fewer in
    subst (λ (ps : List Packet). Leaves (packets ++ packet ∷ []) ps) (sym is) (record {
      lost = h.lost;
      are_left = one_left packets left packet h.lost h.are_left;
      of_packets =
          λ p c. ⊎_elim (λ o. Contains-append_left packets (packet ∷ []) p (h.of_packets p o))
          (λ o. Contains-append_right packets (packet ∷ []) p o) (Contains-append_cases left (packet ∷ []) p c);
      fewer = omega (arith, count, total, fewer);
      different = λ d.
          more_apart (λ (a b : Packet). a.to ≢ b.to) left packet
          (h.different (front_apart (λ (a b : Packet). a.to ≢ b.to) packets packet d))
          (λ x c. last_apart (λ (a b : Packet). a.to ≢ b.to) packets packet d x (h.of_packets x c));
    })
leaves_more packets left new packet false h is =
    let total = length-append packets (packet ∷ []) in
    let fewer = h.fewer in
    subst (λ (ps : List Packet). Leaves (packets ++ packet ∷ []) ps) (sym is) (record {
      lost = h.lost + 1;
      are_left = one_lost packets left packet h.lost h.are_left;
      of_packets = λ p c. Contains-append_left packets (packet ∷ []) p (h.of_packets p c);
      fewer = omega (arith, total, fewer);
      different = λ d. h.different (front_apart (λ (a b : Packet). a.to ≢ b.to) packets packet d);
    })

pub left_count : (packets left : List Packet) (lost : ℕ) → AreLeft packets left lost → length left + lost ≡ length packets
left_count [] left lost h =
    let first = ap (λ (ps : List Packet). length ps) h.0 in let second = h.1 in omega (arith, first, second)
left_count (p ∷ ps) left lost (inl f) =
    let first = ap (λ (xs : List Packet). length xs) f.1 in let later = left_count ps f.0 lost f.2 in
    omega (arith, first, later)
left_count (p ∷ ps) left lost (inr g) =
    let fewer = g.1 in let later = left_count ps left g.0 g.2 in omega (arith, fewer, later)

-- how many were lost
lost_is : (packets left : List Packet) (lost : ℕ) (leaves : Leaves packets left)
    → length left + lost ≡ length packets → lost ≡ leaves.lost
lost_is packets left lost leaves counted =
    let all = left_count packets left leaves.lost leaves.are_left in omega (arith, all, counted)

-- an output with what is left
pub loses : (output : Output) (packets left given : List Packet) (lost : ℕ) → given ≡ output.packets → packets ≡ left
    → Leaves given left → length left + lost ≡ length given
    → LosesPackets output (record { reply = output.reply; packets = packets; unsent = output.unsent + lost })
loses output packets left given lost same is leaves counted =
    let here : Leaves output.packets packets =
    subst (λ (ps : List Packet). Leaves ps packets) same
    (subst (λ (ps : List Packet). Leaves given ps) (sym is) leaves) in
    let count : length packets + lost ≡ length output.packets =
    ap (λ (ps : List Packet). length ps + lost) is ∙ (counted ∙ ap (λ (ps : List Packet). length ps) same) in
    record {
      reply = refl;
      leaves = here;
      unsent = ap (λ (n : ℕ). output.unsent + n) (lost_is output.packets packets lost here count);
    }
