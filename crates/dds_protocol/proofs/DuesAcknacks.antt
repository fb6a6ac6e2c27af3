-- An ACKNACK that is due to a writer claims no more than the place of the reader in that writer's list.
use Rattle.std.proofs.Common.{◌≡◌, ◌⊎◌, ℕ, Bool, true, false, List, [], Option, Some, None, subst, ap, sym, ◌∙◌, inl, inr, ⊎_elim, arith}
use Rattle.std.proofs.lemmas.List.Elements.{All-cons, All-nil}
use Rattle.dds_protocol.specs.Roster.{IsRoster, Roster}
use Rattle.dds_base.specs.declared.guid.EntityId.{EntityId}
use Rattle.dds_base.specs.declared.guid.GuidPrefix.{GuidPrefix}
use Rattle.dds_base.specs.Checked.{same_prefix}
use Rattle.rtps_reader.specs.declared.step.AckNackDue.{AckNackDue}
use Rattle.rtps_reader.specs.Answer.{AnswersHeartbeat}
use Rattle.rtps_reader.specs.Tracked.{Tracked}
use Rattle.rtps_wire.specs.declared.acknack.AckNack.{AckNack as AckNackBody}
use Rattle.rtps_wire.specs.declared.heartbeat.Heartbeat.{Heartbeat as HeartbeatBody}
use Rattle.rtps_wire.specs.declared.submessage.Submessage.{Submessage}
use Rattle.rtps_wire.specs.declared.submessage.Submessage.TheVariants.{Pad, InfoDst, InfoTs, Data, Heartbeat, AckNack, Gap, Other}
use Rattle.dds_base.specs.declared.endpoint.Endpoint.{Endpoint}
use Rattle.dds_machine.specs.declared.reply.Move.{Move}
use Rattle.dds_machine.specs.Numbered.{numbered, with_numbered}
use Rattle.dds_machine.specs.Part.{Part, WriterProxy, own_proxies, place_of, with_place, IsAtMost}
use Rattle.dds_protocol.specs.Claims.{Receiver, every_peer, Names, IsWriter, IsReader, IsToReader, IsToWriter, Claim, ChangeIs, MayPass, PlaceReached, Asserts, Says}
use Rattle.dds_protocol.specs.Peer.{IsTrueAt}
use Rattle.dds_protocol.specs.DueMessages.{Due, acknack_message, acknacks_due}
use Rattle.dds_protocol.specs.Protocol.{State, heard_as, TakesHeartbeat, ReaderTakes, HearsAlone, Idles, stands_to}
use Rattle.dds_protocol.proofs.Ways.{Went, goes_went, met_heartbeat}
use Rattle.dds_protocol.specs.Backed.{reader_at}
use Rattle.dds_protocol.specs.Dues.{IsTruthful, AreTruthful}
use Rattle.dds_protocol.proofs.Dues.{addressed, told_alone}
use Rattle.dds_protocol.proofs.Framing.{has_reader, tracked_here}
use Rattle.dds_protocol.proofs.OneName.{first_of, one_writer, one_reader, not_every_reader, not_every_peer}
use Rattle.dds_protocol.proofs.OwnGuids.{prefix-Decides}
use Rattle.dds_protocol.proofs.RuledReaders.{Coming}
use Rattle.dds_machine.proofs.Tables.{numbered-same, place-hits}

-- the ACKNACK of a reader, as it is written
abbrev pub ask_body : EntityId → EntityId → AckNackDue → AckNackBody
ask_body reader writer x =
    record {
      reader_id = reader;
      writer_id = writer;
      reader_sn_state = x.missing;
      count = x.count;
      final_flag = x.is_final;
    }

-- an ACKNACK that is due to a submessage of a writer, whose base is the reader's place in the writer's list
pub record Asking : Type 0 where
  pub roster : Roster
  pub checked : IsRoster roster
  pub own : GuidPrefix
  pub from : Receiver
  pub reader_id : EntityId
  pub writer_id : EntityId
  pub writer : Endpoint
  pub reader : Endpoint
  pub is : IsToReader roster own from reader_id writer_id writer reader
  pub due : AckNackDue
  pub part : Part
  pub there : place_of (own_proxies part reader.number) writer ≡ Some due.missing.base

-- as it is written
abbrev acknack : Asking → AckNackBody
acknack x = ask_body x.is.entity x.writer_id x.due

-- an ACKNACK names the writer and the reader that the submessage named which it answers, and no others
pub answer_names : (roster : Roster) → IsRoster roster → (own : GuidPrefix) (from : Receiver)
    (reader_id writer_id : EntityId) (writer reader : Endpoint)
    (is : IsToReader roster own from reader_id writer_id writer reader) (far : GuidPrefix) (w r : Endpoint)
    → IsToWriter roster far (addressed own from.source_guid_prefix) is.entity writer_id w r
    → (w ≡ writer) × (r ≡ reader)
answer_names roster checked own from reader_id writer_id writer reader is far w r h =
    let dest : GuidPrefix = from.source_guid_prefix in
    let unknown : same_prefix dest every_peer ≡ false = not_every_peer roster dest writer_id writer checked is.from in
    let same : dest ≡ far =
    (prefix-Decides dest far).0 (first_of (same_prefix dest far) (same_prefix dest every_peer) h.is_for unknown) in
    let to : IsWriter roster dest writer_id w =
    subst (λ (p : GuidPrefix). IsWriter roster p writer_id w) (sym same) h.to in
    (one_writer roster dest writer_id w writer checked to is.from, by h.entity h.named h.from)
  where
    by : (entity : EntityId) → Names is.entity entity → IsReader roster own entity r → r ≡ reader
    by entity (inl e) named =
        one_reader roster own is.entity r reader checked
        (subst (λ (i : EntityId). IsReader roster own i r) (sym e) named) is.to
    by entity (inr every) named = absurd (not_every_reader roster own is.entity reader checked is.to every)

acknack_names : (x : Asking) (far : GuidPrefix) (w r : Endpoint)
    → IsToWriter x.roster far (addressed x.own x.from.source_guid_prefix) x.is.entity x.writer_id w r
    → (w ≡ x.writer) × (r ≡ x.reader)
acknack_names x far w r h =
    answer_names x.roster x.checked x.own x.from x.reader_id x.writer_id x.writer x.reader x.is far w r h

-- it claims the base of its set, which is the reader's place
acknack_says : (x : Asking) (far : GuidPrefix) (claim : Claim)
    → Says x.roster far (addressed x.own x.from.source_guid_prefix) (AckNack (acknack x)) claim
    → IsTrueAt x.reader.peer x.part claim
acknack_says x far (ChangeIs w r n c) h = absurd h
acknack_says x far (MayPass w r n) h = absurd h
acknack_says x far (Asserts w r k) h = absurd h
acknack_says x far (PlaceReached w r base) h =
    let names = acknack_names x far w r h.0 in
    let place : place_of (own_proxies x.part r.number) w ≡ Some x.due.missing.base =
    ap (λ (e : Endpoint). place_of (own_proxies x.part e.number) w) names.1
    ∙ (ap (λ (e : Endpoint). place_of (own_proxies x.part x.reader.number) e) names.0 ∙ x.there) in
    (ap (λ (e : Endpoint). e.peer) names.1, subst (λ (o : Option ℕ). IsAtMost base o) (sym place) (omega (arith, h.1)))

-- the message with it, to the peer of this number
abbrev pub acknack_due : Asking → ℕ → Due
acknack_due x to =
    record { to = to; message = acknack_message x.own x.from.source_guid_prefix x.is.entity x.writer_id x.due }

-- That message is true.
pub acknack_truthful : (x : Asking) (to : ℕ) → IsTruthful x.roster x.reader.peer x.part (acknack_due x to)
acknack_truthful x to claim writable says =
    let t = told_alone x.roster x.own x.from.source_guid_prefix (AckNack (acknack x)) claim writable says in
    acknack_says x t.0 claim t.1

-- where a place has gone to, the reader is, and knows so
pub goes_there : (old : State) (w : Endpoint) (r : ℕ) (t : Tracked) (moves : List Move) (new : State)
    → Went old w r t moves new → place_of (own_proxies new.part r) w ≡ Some (new.known.tracked w r).place
goes_there old w r t moves new g =
    let rows : List WriterProxy = with_place (own_proxies old.part r) w g.to in
    let here : numbered (with_numbered old.part.rtps.readers r rows) r [] ≡ rows =
    numbered-same old.part.rtps.readers r rows [] (has_reader old.part r g.place w g.matched.at) in
    let known : new.known.tracked w r ≡ g.known =
    ap (λ (s : State). s.known.tracked w r) g.after ∙ tracked_here old.known w r g.known in
    ap (λ (s : State). place_of (own_proxies s.part r) w) g.after
    ∙ (ap (λ (xs : List WriterProxy). place_of xs w) here
    ∙ (place-hits (own_proxies old.part r) w g.place g.to g.matched.at ∙ ap (λ (n : ℕ). Some n)
    (sym (ap (λ (x : Tracked). x.place) known ∙ g.advances.place))))

-- what a reader answers to a HEARTBEAT is true
heartbeat_answered : (c : Coming) (h : HeartbeatBody) (w : Endpoint) (r : ℕ)
    (is : IsToReader c.roster c.own c.at h.reader_id h.writer_id w (reader_at c.peer r)) (old : State)
    (made : List Move) (dues : List Due) (new : State)
    → TakesHeartbeat c.own c.at old w r is.entity h made dues new → AreTruthful c.roster c.peer new.part dues
heartbeat_answered c h w r is old made dues new k =
    subst (λ (ds : List Due). AreTruthful c.roster c.peer new.part ds) (sym k.dues_are) (by k.answer k.answers)
  where
    by : (answer : Option AckNackDue) → AnswersHeartbeat (k.there.known.tracked w r) h.last_sn h.final_flag answer
        → AreTruthful c.roster c.peer new.part
        (acknacks_due c.own c.at.source_guid_prefix w.peer is.entity h.writer_id answer)
    by None a = All-nil (IsTruthful c.roster c.peer new.part)
    by (Some due) a =
        let x : Asking = record {
          roster = c.roster;
          checked = c.checked;
          own = c.own;
          from = c.at;
          reader_id = h.reader_id;
          writer_id = h.writer_id;
          writer = w;
          reader = reader_at c.peer r;
          is = is;
          due = due;
          part = new.part;
          there = ap (λ (s : State). place_of (own_proxies s.part r) w) k.after
              ∙ (goes_there k.started w r _ k.going k.there (goes_went k.started w r _ k.going k.there k.goes) ∙ ap (λ (n : ℕ). Some n) (sym a.3.set_base));
        } in
        All-cons (IsTruthful c.roster c.peer new.part) (acknack_due x w.peer) [] (acknack_truthful x w.peer)
        (All-nil (IsTruthful c.roster c.peer new.part))

-- nothing is due
pub none_due : (c : Coming) (part : Part) (dues : List Due) → dues ≡ [] → AreTruthful c.roster c.peer part dues
none_due c part dues none =
    subst (λ (ds : List Due). AreTruthful c.roster c.peer part ds) (sym none)
    (All-nil (IsTruthful c.roster c.peer part))

-- what is due once a reader took a submessage up is true
pub reader_truthful : (c : Coming) (s : Submessage) (r : ℕ) (old : State) (made : List Move) (dues : List Due)
    (new : State) → ReaderTakes c.roster c.own c.peer c.at s r old made dues new
    → AreTruthful c.roster c.peer new.part dues
reader_truthful c (Data d) r old made dues new h = none_due c new.part dues (⊎_elim (λ t. t.3.1) (λ n. n.1.1) h)
reader_truthful c (Gap g) r old made dues new h = none_due c new.part dues (⊎_elim (λ t. t.3.1) (λ n. n.1.1) h)
reader_truthful c (Heartbeat b) r old made dues new h =
    ⊎_elim (λ t. by t.0 t.1 (c.roster.is_reliable (reader_at c.peer r))
    (met_heartbeat (stands_to old t.0 r) (c.roster.is_reliable (reader_at c.peer r)) c.own c.at old t.0 r t.1.entity b made dues new
    t.3)) (λ n. none_due c new.part dues n.1.1) h
  where
    by : (w : Endpoint) (is : IsToReader c.roster c.own c.at b.reader_id b.writer_id w (reader_at c.peer r))
        (reliable : Bool)
        → TakesHeartbeat c.own c.at old w r is.entity (heard_as reliable b) made dues new
        ⊎ (HearsAlone old w r b made new × (dues ≡ [])) ⊎ Idles old made dues new
        → AreTruthful c.roster c.peer new.part dues
    by w is true (inl k) = heartbeat_answered c b w r is old made dues new k
    by w is false (inl k) = heartbeat_answered c (heard_as false b) w r is old made dues new k
    by w is reliable (inr (inl k)) = none_due c new.part dues k.1
    by w is reliable (inr (inr n)) = none_due c new.part dues n.1
reader_truthful c (AckNack a) r old made dues new h = none_due c new.part dues h.1
reader_truthful c Pad r old made dues new h = none_due c new.part dues h.1
reader_truthful c (InfoDst x) r old made dues new h = none_due c new.part dues h.1
reader_truthful c (InfoTs x) r old made dues new h = none_due c new.part dues h.1
reader_truthful c (Other x) r old made dues new h = none_due c new.part dues h.1
