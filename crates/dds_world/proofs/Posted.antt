-- What of the packets of a peer is sent in a network, and how many are lost on the way.
use Rattle.std.proofs.Common.{◌≡◌, ℕ, ◌+◌, ◌-◌, ◌^◌, min, List, [], ◌∷◌, inl, inr, ⊎_elim, length, subst, ap, ◌∙◌, arith, length-append}
use Rattle.dds_protocol.specs.declared.event.Output.{Output}
use Rattle.dds_protocol.specs.declared.event.Packet.{Packet}
use Rattle.dds_protocol.specs.DueMessages.{Due, AreSent}
use Rattle.dds_world.specs.WorldStanding.{Hearing, WorldKept}
use Rattle.dds_world.specs.Posting.{ArePosted, Posts}
use Rattle.dds_world.specs.Acting.{Counts}

-- how many packets found no memory, at the peer or on the way
pub lost_in_all : (posted packets lost unsent total : ℕ) → posted + lost ≡ packets → packets + unsent ≡ total
    → posted + (unsent + lost) ≡ total
lost_in_all posted packets lost unsent total a b = omega (arith, a, b)

unsent_in_all : (old unsent lost new : ℕ) → new ≡ min (old + unsent + lost) (2 ^ 64 - 1)
    → new ≡ min (old + (unsent + lost)) (2 ^ 64 - 1)
unsent_in_all old unsent lost new is =
    let same : old + unsent + lost ≡ old + (unsent + lost) = omega arith in is ∙ ap (λ (n : ℕ). min n (2 ^ 64 - 1)) same

-- of what a peer sends, some is sent in the network
pub posted_on : (dues : List Due) (packets posted : List Packet) (unsent lost : ℕ) → AreSent dues packets unsent
    → ArePosted packets posted lost → AreSent dues posted (unsent + lost)
posted_on [] packets posted unsent lost h p =
    let none : ArePosted [] posted lost = subst (λ (ps : List Packet). ArePosted ps posted lost) h.0 p in
    let first = h.1 in
    let second = none.1 in
    (none.0, omega (arith, first, second))
posted_on (due ∷ dues) packets posted unsent lost (inl f) p =
    ⊎_elim (λ k. inl (k.0, k.1, f.2, posted_on dues f.0 k.0 unsent lost f.3 k.2))
    (λ k. let fewer = k.1 in inr (unsent + k.0, omega (arith, fewer), posted_on dues f.0 posted unsent k.0 f.3 k.2))
    (subst (λ (ps : List Packet). ArePosted ps posted lost) f.1 p)
posted_on (due ∷ dues) packets posted unsent lost (inr g) p =
    let fewer = g.1 in inr (g.0 + lost, omega (arith, fewer), posted_on dues packets posted g.0 lost g.2 p)

pub posted_count : (packets posted : List Packet) (lost : ℕ) → ArePosted packets posted lost
    → length posted + lost ≡ length packets
posted_count [] posted lost h =
    let first = ap (λ (ps : List Packet). length ps) h.0 in let second = h.1 in omega (arith, first, second)
posted_count (p ∷ ps) posted lost (inl f) =
    let first = ap (λ (xs : List Packet). length xs) f.1 in let later = posted_count ps f.0 lost f.2 in
    omega (arith, first, later)
posted_count (p ∷ ps) posted lost (inr g) =
    let fewer = g.1 in let later = posted_count ps posted g.0 g.2 in omega (arith, fewer, later)

-- of what is lost on the way all is counted
pub lost_is : {hearing : Hearing} → (kept new : WorldKept hearing) (output : Output)
    (posts : Posts kept.sent output.packets new.sent)
    (counts : Counts kept output new) → new.unsent ≡ min (kept.unsent + (output.unsent + posts.lost)) (2 ^ 64 - 1)
lost_is kept new output posts counts =
    let count = ap (λ (ps : List Packet). length ps) posts.sent in
    let total = length-append kept.sent posts.posted in
    let parts = posted_count output.packets posts.posted posts.lost posts.are_posted in
    let all = counts.1 in
    let same : counts.0 ≡ posts.lost = omega (arith, count, total, parts, all) in
    unsent_in_all kept.unsent output.unsent posts.lost new.unsent
    (counts.2 ∙ ap (λ (n : ℕ). min (kept.unsent + output.unsent + n) (2 ^ 64 - 1)) same)
