-- What announces a change is what is due.
use Rattle.std.proofs.Common.{◌≡◌, ℕ, ◌+◌, ◌-◌, ◌≤◌, List, [], ◌∷◌, map, length, refl, ap, sym, ◌∙◌, subst, arith, inl, inr}
use Rattle.dds_base.specs.declared.change.Change.{Change}
use Rattle.dds_protocol.specs.Roster.{Roster}
use Rattle.dds_base.specs.declared.guid.EntityId.{EntityId}
use Rattle.dds_base.specs.declared.guid.GuidPrefix.{GuidPrefix}
use Rattle.rtps_wire.specs.declared.data.DataContent.{DataContent}
use Rattle.rtps_wire.specs.Content.{content_of}
use Rattle.rtps_wire.specs.Messages.{spelling_of}
use Rattle.dds_protocol.specs.declared.event.Packet.{Packet}
use Rattle.dds_machine.specs.Part.{Writer}
use Rattle.dds_protocol.specs.DueMessages.{Due, AreSent, change_message, changes_due, writer_entity}
use Rattle.dds_ends.specs.declared.matching.Destination.{Destination}
use Rattle.dds_ends.specs.declared.sending.Sender.{Sender}
use Rattle.dds_ends.specs.Beating.{due_to}
use Rattle.dds_ends.specs.Kept.{WriterKept}
use Rattle.dds_ends.specs.Announcing.{announcement, AreAnnouncements}
use Rattle.dds_core.proofs.BeatsDue.{IsNamed, all_named, by_number, sends_to}

-- a packet is what it is addressed to and its bytes
packet_as : (p : Packet) (to : ℕ) (bytes : List ℕ) → p.to ≡ to → p.bytes ≡ bytes → p ≡ record { to = to; bytes = bytes }
packet_as p to bytes e f =
    ap (λ (n : ℕ). let q : Packet = record { to = n; bytes = p.bytes } in q) e
    ∙ ap (λ (b : List ℕ). let q : Packet = record { to = to; bytes = b } in q) f

-- no more packets than destinations
few : (sender : Sender) (number : ℕ) (content : DataContent) (ds : List Destination) (ps : List Packet)
    → AreAnnouncements sender number content ds ps → length ps ≤ length ds
few sender number content ds [] h = omega arith
few sender number content [] (p ∷ ps) h = absurd h
few sender number content (d ∷ ds) (p ∷ ps) (inl f) =
    let later = few sender number content ds ps f.1 in omega (arith, later)
few sender number content (d ∷ ds) (p ∷ ps) (inr g) =
    let later = few sender number content ds (p ∷ ps) g in omega (arith, later)

abbrev announced_to : Sender → ℕ → DataContent → List Destination → List Due
announced_to sender number content ds =
    map (λ (d : Destination). due_to d.peer (announcement sender d number content)) ds

announced_sent : (sender : Sender) (number : ℕ) (content : DataContent) (ds : List Destination) (ps : List Packet)
    (unsent : ℕ) → AreAnnouncements sender number content ds ps → length ps + unsent ≡ length ds
    → AreSent (announced_to sender number content ds) ps unsent
announced_sent sender number content [] [] unsent h count = (refl, omega (arith, count))
announced_sent sender number content [] (p ∷ ps) unsent h count = absurd h
announced_sent sender number content (d ∷ ds) [] unsent h count =
    inr (length ds, omega (arith, count), announced_sent sender number content ds [] (length ds) tt (omega arith))
announced_sent sender number content (d ∷ ds) (p ∷ ps) unsent (inl f) count =
    inl (
      ps,
      ap (λ (q : Packet). q ∷ ps)
          (packet_as p d.peer (spelling_of (announcement sender d number content)) f.0.to_is f.0.bytes),
      f.0.writable,
      announced_sent sender number content ds ps unsent f.1 (omega (arith, count)),
    )
announced_sent sender number content (d ∷ ds) (p ∷ ps) unsent (inr g) count =
    let short = few sender number content ds (p ∷ ps) g in
    inr (
      unsent - 1,
      omega (arith, count, short),
      announced_sent sender number content ds (p ∷ ps) (unsent - 1) g
          (omega (arith, count, short)),
    )

-- what a writer of the roster announces is due
pub change_sent : (roster : Roster) (peer : ℕ) (prefix : GuidPrefix) (number sn : ℕ) (k : WriterKept) (w : Writer)
    (change : Change) (packets : List Packet) (unsent : ℕ) → IsNamed roster peer prefix number k w
    → AreAnnouncements (record { prefix = prefix; entity = k.entity; moment = change.source_timestamp }) sn
    (content_of change) k.destinations packets → length packets + unsent ≡ length k.destinations
    → AreSent (changes_due roster (record { peer = peer; number = number }) w.matched sn change) packets unsent
change_sent roster peer prefix number sn k w change packets unsent is are count =
    let ds : List Destination = k.destinations in
    let message = λ (own : GuidPrefix) (entity : EntityId) (to : GuidPrefix). change_message own to entity sn change in
    let own : GuidPrefix = roster.prefix peer in
    let entity : EntityId = writer_entity roster peer number in
    let peers = sends_to roster peer prefix number k w is in
    let all : changes_due roster (record { peer = peer; number = number }) w.matched sn change
    ≡ map (λ (d : Destination). due_to d.peer (message prefix k.entity d.prefix)) ds =
    ap (λ (ns : List ℕ). map (λ (to : ℕ). due_to to (message own entity (roster.prefix to))) ns) peers
    ∙ (by_number roster (λ to. message own entity) ds
    (all_named roster (record { peer = peer; number = number }) k.matched ds k.readers is.ends)
    ∙ (ap (λ (p : GuidPrefix). map (λ (d : Destination). due_to d.peer (message p entity d.prefix)) ds) is.own
    ∙ ap (λ (e : EntityId). map (λ (d : Destination). due_to d.peer (message prefix e d.prefix)) ds) is.entity)) in
    subst (λ (dues : List Due). AreSent dues packets unsent) (sym all)
    (announced_sent (record { prefix = prefix; entity = k.entity; moment = change.source_timestamp }) sn
    (content_of change) ds packets unsent are count)
