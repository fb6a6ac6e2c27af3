-- The packets that announce a change.
use Rattle.std.proofs.Common.{◌≡◌, ℕ, ◌+◌, ◌^◌, ◌<◌, ◌≤◌, List, [], ◌∷◌, ◌++◌, take, length, get_or, refl, ap, sym, subst, arith, inl, inr, ⊎_elim, length-append}
use Rattle.std.proofs.lemmas.List.{take_more}
use Rattle.rtps_wire.specs.declared.data.Data.{Data}
use Rattle.rtps_wire.specs.declared.data.DataContent.{DataContent}
use Rattle.rtps_wire.specs.Data.{IsContent}
use Rattle.rtps_wire.specs.Messages.{IsWritable}
use Rattle.rtps_wire.proofs.LengthLaws.{change_octets_le, short_writable}
use Rattle.dds_protocol.specs.declared.event.Packet.{Packet}
use Rattle.dds_ends.specs.declared.matching.Destination.{Destination}
use Rattle.dds_ends.specs.declared.sending.Sender.{Sender}
use Rattle.dds_ends.specs.Announcing.{message_of, announcement, IsAnnouncement, AreAnnouncements, AddsOctets, AddsPacket}

-- the message of a change can be written
pub writable_so : (sender : Sender) (to : Destination) (change : Data) → length sender.prefix.0 ≡ 12
    → length to.prefix.0 ≡ 12 → length change.reader_id.0 ≡ 4 → length change.writer_id.0 ≡ 4
    → sender.moment < 2 ^ 64 → 1 ≤ change.writer_sn → change.writer_sn ≤ 2 ^ 48 → IsContent change.content
    → IsWritable (message_of sender to change)
writable_so sender to change prefix other reader writer moment first small valid =
    let octets = change_octets_le change.content.body valid.body in
    short_writable (message_of sender to change) prefix (
      other,
      (moment, ((record { reader = reader; writer = writer; first = first; small = omega (arith, small) }, valid), tt)),
    ) (omega (arith, octets))

-- one more destination, to which a packet went or not

skip_one : (sender : Sender) (number : ℕ) (c : DataContent) (ds : List Destination) (ps : List Packet) (d : Destination)
    → AreAnnouncements sender number c ds ps → AreAnnouncements sender number c (ds ++ d ∷ []) ps
skip_one sender number c ds [] d h = tt
skip_one sender number c [] (p ∷ ps) d h = absurd h
skip_one sender number c (e ∷ es) (p ∷ ps) d h =
    ⊎_elim (λ f. inl (f.0, skip_one sender number c es ps d f.1))
    (λ g. inr (skip_one sender number c es (p ∷ ps) d g)) h

add_one : (sender : Sender) (number : ℕ) (c : DataContent) (ds : List Destination) (ps : List Packet) (d : Destination)
    (p : Packet) → AreAnnouncements sender number c ds ps → IsAnnouncement sender d number c p
    → AreAnnouncements sender number c (ds ++ d ∷ []) (ps ++ p ∷ [])
add_one sender number c [] [] d p h is = inl (is, tt)
add_one sender number c [] (q ∷ qs) d p h is = absurd h
add_one sender number c (e ∷ es) [] d p h is = inr (add_one sender number c es [] d p tt is)
add_one sender number c (e ∷ es) (q ∷ qs) d p h is =
    ⊎_elim (λ f. inl (f.0, add_one sender number c es qs d p f.1 is))
    (λ g. inr (add_one sender number c es (q ∷ qs) d p g is)) h

announces_one : (sender : Sender) (number : ℕ) (c : DataContent) (d : Destination) (before after : List Packet)
    (ds : List Destination) → IsWritable (announcement sender d number c)
    → AddsPacket before (announcement sender d number c) d.peer after
    → AreAnnouncements sender number c ds before → AreAnnouncements sender number c (ds ++ d ∷ []) after
announces_one sender number c d before after ds can (inl same) h =
    subst (λ (ps : List Packet). AreAnnouncements sender number c (ds ++ d ∷ []) ps) (sym same)
    (skip_one sender number c ds before d h)
announces_one sender number c d before after ds can (inr more) h =
    subst (λ (ps : List Packet). AreAnnouncements sender number c (ds ++ d ∷ []) ps) (sym more)
    (add_one sender number c ds before d _ h (record { to_is = refl; writable = can; bytes = refl }))

pub announces_more : (sender : Sender) (number : ℕ) (c : DataContent) (d : Destination) (before after : List Packet)
    (ds : List Destination) (i : ℕ) → i < length ds → IsWritable (announcement sender (get_or ds i d) number c)
    → AddsPacket before (announcement sender (get_or ds i d) number c) (get_or ds i d).peer after
    → AreAnnouncements sender number c (take i ds) before → AreAnnouncements sender number c (take (i + 1) ds) after
announces_more sender number c d before after ds i lt can adds h =
    subst (λ (es : List Destination). AreAnnouncements sender number c es after) (sym (take_more ds i d lt))
    (announces_one sender number c (get_or ds i d) before after (take i ds) can adds h)

pub few_more : (before after : List Packet) (octets : List ℕ) (to i : ℕ) → AddsOctets before octets to after
    → length before ≤ i → length after ≤ i + 1
few_more before after octets to i (inl same) few =
    let count = ap (λ (ps : List Packet). length ps) same in omega (arith, count, few)
few_more before after octets to i (inr more) few =
    let count = ap (λ (ps : List Packet). length ps) more in
    let total = length-append before (record { to = to; bytes = octets } ∷ []) in
    omega (arith, count, total, few)
