-- What is sent claims the change to each matched reader, and nothing but the truth.
use Rattle.std.proofs.Common.{◌≡◌, ◌≢◌, ℕ, zero, suc, ◌+◌, ◌^◌, ◌<◌, Bool, true, false, ◌||◌, List, [], ◌∷◌, Some, map, length, slice_get, refl, ap, sym, ◌∙◌, subst, arith, inl, inr, Contains, ◌==◌, eq-eqb}
use Rattle.std.specs.Prelude.{nat_lt, nat_eq, if◌then◌else◌, AllPairs}
use Rattle.std.specs.List.{AllByRecursion}
use Rattle.std.proofs.lemmas.Bool.Decides.{nat_tests, Decides-eqb}
use Rattle.std.proofs.lemmas.Slice.Eq.{slice_eq-Decides}
use Rattle.std.proofs.lemmas.List.Elements.{All-from_recursion}
use Rattle.std.proofs.lemmas.List.Kept.{AllPairs-cons}
use Rattle.std.proofs.lemmas.List.{length-map}
use Rattle.std.proofs.lemmas.Option.{same_Some}
use Rattle.dds_base.specs.declared.change.Change.{Change}
use Rattle.dds_protocol.specs.Roster.{Roster}
use Rattle.dds_base.specs.declared.guid.GuidPrefix.{GuidPrefix}
use Rattle.dds_base.specs.Checked.{same_prefix}
use Rattle.dds_base.specs.Kept.{change_at}
use Rattle.rtps_wire.specs.declared.data.DataContent.{DataContent}
use Rattle.rtps_wire.specs.declared.message.Message.{Message}
use Rattle.rtps_wire.specs.declared.submessage.Submessage.{Submessage}
use Rattle.rtps_wire.specs.declared.submessage.Submessage.TheVariants.{InfoDst, InfoTs, Data}
use Rattle.rtps_wire.specs.Content.{change_in}
use Rattle.dds_base.specs.declared.endpoint.Endpoint.{Endpoint}
use Rattle.dds_protocol.specs.declared.event.Packet.{Packet}
use Rattle.dds_protocol.specs.declared.event.Output.{Output}
use Rattle.dds_machine.specs.Part.{Part, own_writer, writer_changes}
use Rattle.dds_protocol.specs.Claims.{Claim, ChangeIs, MayPass, PlaceReached, Asserts, Receiver, receiver_of, every_peer, every_reader, is_for, stamp_of, after_submessage, StandsAt, StandsIn, IsWriter, IsReader, IsToReader, Says, Claims}
use Rattle.dds_protocol.specs.Peer.{IsTrueAt}
use Rattle.dds_protocol.proofs.PeersOf.{has}
use Rattle.dds_protocol.proofs.Dues.{stands_in, told, dst_says, ts_says}
use Rattle.dds_protocol.specs.DueMessages.{AreSent, changes_due}
use Rattle.dds_ends.specs.declared.matching.Destination.{Destination}
use Rattle.dds_ends.specs.declared.matching.ReaderName.{ReaderName}
use Rattle.dds_ends.specs.declared.sending.Sender.{Sender}
use Rattle.dds_ends.specs.MatchedEnds.{AreMatchedNow, IsNameOf, IsPeer, readers_of}
use Rattle.dds_ends.proofs.Destinations.{at_some}
use Rattle.dds_ends.proofs.FirstPeers.{Differ, peers_differ}
use Rattle.dds_ends.proofs.Lists.{get-map}
use Rattle.dds_core.specs.Sending.{SendsChange}
use Rattle.dds_ends.specs.Announcing.{announcement, IsAnnouncement, AreAnnouncements}
use Rattle.dds_ends.proofs.SentMessages.{target}

abbrev data_of : Sender → ℕ → DataContent → Submessage
data_of sender number content =
    Data (record {
      reader_id = every_reader;
      writer_id = sender.entity;
      writer_sn = number;
      content = content;
    })

-- a moment below 2^63 is one
early_is : (moment : ℕ) → moment < 2 ^ 63 → (if nat_lt moment (2 ^ 63) then moment else 0) ≡ moment
early_is moment early =
    let is : nat_lt moment (2 ^ 63) ≡ true = grind (arith, nat_tests) in ap (λ (b : Bool). if b then moment else 0) is

-- ---- what is claimed is true

-- the sender is this writer, and no other
abbrev pub IsOnly : Roster → Sender → Endpoint → Type 0
IsOnly roster sender own = (w : Endpoint) → IsWriter roster sender.prefix sender.entity w → w ≡ own

-- the change stands at the writer under this number
abbrev pub IsThere : Part → Endpoint → ℕ → DataContent → ℕ → Type 0
IsThere part own number content moment =
    change_at (writer_changes (own_writer part own.number)) number ≡ Some (change_in content moment)

data_says : (roster : Roster) (sender : Sender) (own : Endpoint) (part : Part) (prefix : GuidPrefix) (at : Receiver)
    (number : ℕ) (content : DataContent) (claim : Claim) → IsOnly roster sender own
    → at.source_guid_prefix ≡ sender.prefix
    → (is_for at prefix ≡ true → at.timestamp ≡ sender.moment) → IsThere part own number content sender.moment
    → Says roster prefix at (data_of sender number content) claim → IsTrueAt own.peer part claim
data_says roster sender own part prefix at number content (ChangeIs w r n c) only source time there h =
    let name : IsWriter roster sender.prefix sender.entity w =
    subst (λ (p : GuidPrefix). IsWriter roster p sender.entity w) source h.0.from in
    let w_is : w ≡ own = only w name in
    let c_is : c ≡ change_in content sender.moment = h.2 ∙ ap (λ (t : ℕ). change_in content t) (time h.0.is_for) in (
      ap (λ (e : Endpoint). e.peer) w_is,
      ap (λ (e : Endpoint). change_at (writer_changes (own_writer part e.number)) n) w_is
          ∙ (ap (λ (k : ℕ). change_at (writer_changes (own_writer part own.number)) k) h.1
          ∙ (there ∙ ap (λ (x : Change). Some x) (sym c_is))),
    )
data_says roster sender own part prefix at number content (MayPass w r n) only source time there h = absurd h
data_says roster sender own part prefix at number content (PlaceReached w r b) only source time there h = absurd h
data_says roster sender own part prefix at number content (Asserts w r k) only source time there h = absurd h

-- the INFO_TS counts for whom the DATA is
stamped : (b : Bool) (own : GuidPrefix) (r at : Receiver) (stamp : ℕ) → is_for r own ≡ b
    → at ≡ (if b then record r { timestamp = stamp } else r) → is_for at own ≡ true → at.timestamp ≡ stamp
stamped true own r at stamp is same for = ap (λ (x : Receiver). x.timestamp) same
stamped false own r at stamp is same for =
    let not_for : is_for at own ≡ false = ap (λ (x : Receiver). is_for x own) same ∙ is in absurd cc

sourced : (b : Bool) (r at : Receiver) (stamp : ℕ) → at ≡ (if b then record r { timestamp = stamp } else r)
    → at.source_guid_prefix ≡ r.source_guid_prefix
sourced true r at stamp same = ap (λ (x : Receiver). x.source_guid_prefix) same
sourced false r at stamp same = ap (λ (x : Receiver). x.source_guid_prefix) same

message_says : (roster : Roster) (sender : Sender) (to : Destination) (own : Endpoint) (part : Part)
    (prefix : GuidPrefix) (index : ℕ) (at : Receiver) (submessage : Submessage) (number : ℕ) (content : DataContent)
    (claim : Claim) → IsOnly roster sender own
    → sender.moment < 2 ^ 63 → IsThere part own number content sender.moment
    → StandsAt prefix (receiver_of sender.prefix)
    (announcement sender to number content).submessages index at submessage → Says roster prefix at submessage claim
    → IsTrueAt own.peer part claim
message_says roster sender to own part prefix zero at submessage number content claim only early there h says =
    absurd (dst_says roster prefix at to.prefix claim
    (subst (λ (x : Submessage). Says roster prefix at x claim) h.1 says))
message_says roster sender to own part prefix (suc zero) at submessage number content claim only early there h says =
    absurd (ts_says roster prefix at (Some sender.moment) claim
    (subst (λ (x : Submessage). Says roster prefix at x claim) h.1 says))
message_says roster sender to own part prefix
    (suc (suc zero)) at submessage number content claim only early there h says =
    let r : Receiver = after_submessage prefix (receiver_of sender.prefix) (InfoDst to.prefix) in
    let stamp : ℕ = stamp_of (Some sender.moment) in
    data_says roster sender own part prefix at number content claim only (sourced (is_for r prefix) r at stamp h.0)
    (λ for. stamped (is_for r prefix) prefix r at stamp refl h.0 for ∙ early_is sender.moment early) there
    (subst (λ (x : Submessage). Says roster prefix at x claim) h.1 says)
message_says roster sender to own part prefix
    (suc (suc (suc index))) at submessage number content claim only early there h says = absurd h

-- what an announcement claims is true
announcement_true : (roster : Roster) (sender : Sender) (to : Destination) (own : Endpoint) (part : Part) (number : ℕ)
    (content : DataContent) (packet : Packet) (claim : Claim) → IsOnly roster sender own → sender.moment < 2 ^ 63
    → IsThere part own number content sender.moment → IsAnnouncement sender to number content packet
    → Claims roster packet.bytes claim → IsTrueAt own.peer part claim
announcement_true roster sender to own part number content packet claim only early there is h =
    let m : Message = announcement sender to number content in
    let t = told roster m claim is.writable (subst (λ (b : List ℕ). Claims roster b claim) is.bytes h) in
    message_says roster sender to own part t.own t.index t.at t.submessage number content claim only early there
    t.stands t.says

-- ---- what is claimed

-- a prefix names its own peer
same_prefix-refl : (a : GuidPrefix) → same_prefix a a ≡ true
same_prefix-refl a = (slice_eq-Decides {E = nat_eq} Decides-eqb a.0 a.0 (same_prefix a a) refl).1 refl

for_own : (receiver : Receiver) (own : GuidPrefix) → receiver.dest_guid_prefix ≡ own → is_for receiver own ≡ true
for_own receiver own same =
    ap (λ (p : GuidPrefix). same_prefix p own || same_prefix p every_peer) same
    ∙ ap (λ (b : Bool). b || same_prefix own every_peer) (same_prefix-refl own)

-- the announcement claims the change to a reader that the writer is matched with, at the peer that it goes to
announces : (roster : Roster) (sender : Sender) (to : Destination) (own : Endpoint) (name : ReaderName) (number : ℕ)
    (content : DataContent) (packet : Packet) → IsWriter roster sender.prefix sender.entity own → IsPeer roster to
    → IsNameOf roster own name
    → name.reader.peer ≡ to.peer → sender.moment < 2 ^ 63 → IsAnnouncement sender to number content packet
    → Claims roster packet.bytes (ChangeIs own name.reader number (change_in content sender.moment))
announces roster sender to own name number content packet from there of same early is =
    let m : Message = announcement sender to number content in
    let prefix : GuidPrefix = to.prefix in
    let before : Receiver = after_submessage prefix (receiver_of sender.prefix) (InfoDst to.prefix) in
    let at : Receiver = record before { timestamp = stamp_of (Some sender.moment) } in
    let for : is_for before prefix ≡ true = for_own before prefix refl in
    let after : after_submessage prefix before (InfoTs (Some sender.moment)) ≡ at =
    ap (λ (b : Bool). if b then at else before) for in
    let target : IsReader roster prefix name.guid.entity name.reader =
    record { same_prefix = ap (λ (n : ℕ). roster.prefix n) same ∙ there; at_reader = of.is.at_reader } in
    let speaks : IsToReader roster prefix at every_reader sender.entity own name.reader =
    record {
      from = from;
      is_for = for_own at prefix refl;
      entity = name.guid.entity;
      to = target;
      named = inr refl;
      matched = of.matched;
    } in
    record {
      own = prefix;
      at = at;
      submessage = data_of sender number content;
      there =
          subst (λ (b : List ℕ). StandsIn b prefix at (data_of sender number content)) (sym is.bytes)
          (stands_in m prefix 2 at (data_of sender number content) is.writable (sym after, refl));
      says = (speaks, refl, ap (λ (t : ℕ). change_in content t) (sym (early_is sender.moment early)));
    }

-- ---- the packets to all destinations

neither : (a b : Bool) → (a || b) ≡ false → (a ≡ false) × (b ≡ false)
neither true b h = absurd cc
neither false b h = (refl, h)

not_both : (b : Bool) → b ≡ false → b ≡ true → ⊥
not_both true f g = absurd cc
not_both false f g = absurd cc

abbrev peers_to : List Destination → List ℕ
peers_to ds = map (λ (d : Destination). d.peer) ds

others : (sender : Sender) (number : ℕ) (content : DataContent) (m : ℕ) (ds : List Destination) (ps : List Packet)
    → has m (peers_to ds) ≡ false → AreAnnouncements sender number content ds ps
    → AllByRecursion (λ (q : Packet). m ≢ q.to) ps
others sender number content m ds [] none h = tt
others sender number content m [] (p ∷ ps) none h = absurd h
others sender number content m (d ∷ ds) (p ∷ ps) none (inl f) =
    let apart = neither (d.peer == m) (has m (peers_to ds)) none in (
      λ same. not_both (d.peer == m) apart.0 (eq-eqb d.peer m (sym (same ∙ f.0.to_is))),
      others sender number content m ds ps apart.1 f.1,
    )
others sender number content m (d ∷ ds) (p ∷ ps) none (inr g) =
    others sender number content m ds (p ∷ ps) (neither (d.peer == m) (has m (peers_to ds)) none).1 g

different : (sender : Sender) (number : ℕ) (content : DataContent) (ds : List Destination) (ps : List Packet)
    → Differ (peers_to ds) → AreAnnouncements sender number content ds ps
    → AllPairs (λ (a b : Packet). a.to ≢ b.to) ps
different sender number content ds [] once h = λ i j d lt within. absurd (omega (arith, within))
different sender number content [] (p ∷ ps) once h = absurd h
different sender number content (d ∷ ds) (p ∷ ps) once (inl f) =
    AllPairs-cons (λ (a b : Packet). a.to ≢ b.to) p ps
    (All-from_recursion (λ (q : Packet). p.to ≢ q.to) ps
    (others sender number content p.to ds ps
    (subst (λ (m : ℕ). has m (peers_to ds) ≡ false) (sym f.0.to_is) once.0) f.1))
    (different sender number content ds ps once.1 f.1)
different sender number content (d ∷ ds) (p ∷ ps) once (inr g) =
    different sender number content ds (p ∷ ps) once.1 g

pub contains_map : (ds : List Destination) (k : ℕ) (d : Destination) → slice_get ds k ≡ Some d
    → Contains (map (λ (x : Destination). x.peer) ds) d.peer
contains_map [] k d at = absurd cc
contains_map (x ∷ xs) zero d at = (zero, omega arith, ap (λ (y : Destination). y.peer) (same_Some x d at))
contains_map (x ∷ xs) (suc k) d at = let c = contains_map xs k d at in let lt = c.1 in (suc c.0, omega (arith, lt), c.2)

-- a matched reader has a name
pub name_of : (roster : Roster) (own : Endpoint) (names : List ReaderName) (reader : Endpoint)
    → ((k : ℕ) (n : ReaderName) → slice_get names k ≡ Some n → IsNameOf roster own n)
    → Contains (readers_of names) reader → (n : ReaderName) × IsNameOf roster own n × (n.reader ≡ reader)
name_of roster own names reader named among =
    let f = at_some (readers_of names) reader among in
    let n = get-map (λ (x : ReaderName). x.reader) names f.0 reader f.1 in (n.0, named f.0 n.0 n.1, n.2)

pub sends_change : (roster : Roster) (sender : Sender) (own : Endpoint) (all : List ReaderName)
    (ds : List Destination) (names : List ReaderName) (number : ℕ) (content : DataContent) (output : Output)
    → IsWriter roster sender.prefix sender.entity own → AreMatchedNow roster own all ds names
    → sender.moment < 2 ^ 63 → AreAnnouncements sender number content ds output.packets
    → length output.packets + output.unsent ≡ length ds
    → AreSent (changes_due roster own (readers_of all) number (change_in content sender.moment)) output.packets
    output.unsent → SendsChange roster own (readers_of all) number (change_in content sender.moment) output
sends_change roster sender own all ds names number content output from matched early are counted are_sent =
    let peers = matched.sent_to in
    record {
      counted =
          counted ∙ (sym (length-map ds (λ (d : Destination). d.peer)) ∙ ap (λ (ns : List ℕ). length ns) (sym peers));
      are_sent = are_sent;
      to_peers = λ packet among.
          let t = target sender number content ds output.packets are packet among in
          subst (λ (ns : List ℕ). Contains ns packet.to) (sym peers)
          (subst (λ (n : ℕ). Contains (map (λ (x : Destination). x.peer) ds) n) (sym t.is.to_is)
          (contains_map ds t.index t.to t.at));
      says = λ packet reader among same there.
          let t = target sender number content ds output.packets are packet among in
          let n = name_of roster own all reader matched.readers there in
          subst (λ (e : Endpoint). Claims roster packet.bytes (ChangeIs own e number (change_in content sender.moment)))
          n.2
          (announces roster sender t.to own n.0 number content packet from (matched.prefixes t.index t.to t.at) n.1
          (ap (λ (e : Endpoint). e.peer) n.2 ∙ (same ∙ t.is.to_is)) early t.is);
      different =
          different sender number content ds output.packets
          (subst (λ (ns : List ℕ). Differ ns) peers (peers_differ (readers_of all))) are;
    }

-- what is sent claims the truth
pub sent_true : (roster : Roster) (sender : Sender) (own : Endpoint) (part : Part) (ds : List Destination) (number : ℕ)
    (content : DataContent) (packets : List Packet) → IsOnly roster sender own → sender.moment < 2 ^ 63
    → IsThere part own number content sender.moment → AreAnnouncements sender number content ds packets
    → (packet : Packet) (claim : Claim) → Contains packets packet → Claims roster packet.bytes claim
    → IsTrueAt own.peer part claim
sent_true roster sender own part ds number content packets only early there are packet claim among h =
    let t = target sender number content ds packets are packet among in
    announcement_true roster sender t.to own part number content packet claim only early there t.is h
