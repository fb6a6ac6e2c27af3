-- What a peer and its listeners stand for, as they are told of what was raised at its writers.
use Rattle.std.proofs.Common.{◌≡◌, ℕ, suc, ◌<◌, ◌≤◌, ◌==◌, Bool, true, false, List, Option, Some, None, is_some, length, slice_get, arith, refl, ap, sym, ◌∙◌, subst}
use Rattle.std.specs.Prelude.{nat_lt, if◌then◌else◌}
use Rattle.std.proofs.lemmas.Bool.Decides.{nat_tests}
use Rattle.std.proofs.lemmas.List.{length-map}
use Rattle.dds_base.specs.declared.endpoint.Endpoint.{Endpoint}
use Rattle.dds_base.specs.declared.entity.Entity.TheVariants as entity
use Rattle.dds_base.specs.declared.status.LivelinessLostStatus.{LivelinessLostStatus}
use Rattle.dds_base.specs.declared.status.MatchedStatus.{MatchedStatus}
use Rattle.dds_base.specs.Written.{liveliness_lost_status}
use Rattle.dds_notices.specs.declared.notice.Notice.{Notice}
use Rattle.dds_notices.specs.declared.notice.Status.{Status}
use Rattle.dds_notices.specs.declared.notice.Status.TheVariants.{LivelinessLost, PublicationMatched}
use Rattle.dds_notices.specs.Listeners.{ByEntity, Places, Slotted, StandsFor as SlotsStandFor, after_notice, taker_of}
use Rattle.dds_machine.specs.Matching.{publication_matched}
use Rattle.dds_machine.specs.Noticing.{looked_at, loss_raised, losses_of, publication_raised, told}
use Rattle.dds_machine.specs.Part.{Part, Writer, at_writer, own_writer, writer_changes}
use Rattle.dds_protocol.specs.Contact.{Contact}
use Rattle.dds_ends.specs.declared.marks.WriterMark.{WriterMark}
use Rattle.dds_ends.specs.declared.matching.ReaderName.{ReaderName}
use Rattle.dds_ends.specs.Kept.{WriterKept}
use Rattle.dds_core.specs.Kept.{PeerKept}
use Rattle.dds_ends.specs.Noticing.{IsWriterMarkOf, WriterRaisesSo, WriterSeesStatus, writer_seen_by}
use Rattle.dds_core.specs.Noticing.{Tells}
use Rattle.dds_ends.specs.Standing.{WriterStands}
use Rattle.dds_core.specs.Standing.{StandsFor}
use Rattle.dds_core.proofs.Ends.{with_writer, writer_put}
use Rattle.dds_core.proofs.Notified.{tells_as, told_by}
use Rattle.dds_core.proofs.Tellable.{tellable_put}

-- a look at a status of a writer changes that writer alone
looked_is : (part : Part) (n : ℕ) (status : Status) → looked_at part (entity.Writer n) status
    ≡ at_writer part n (writer_seen_by (own_writer part n) status)
looked_is part n (PublicationMatched values) = refl
looked_is part n other = refl

-- and none of its changes
seen_changes : (w : Writer) (status : Status) → writer_changes (writer_seen_by w status) ≡ writer_changes w
seen_changes w (PublicationMatched values) = refl
seen_changes w other = refl

module _ {L : Type 0} (notices : L → List Notice) (capacity : L → ℕ) (becomes : L → Notice → L → Type 0) where
  -- a status of the writer of this number, at the peer that was opened
  pub tells_writer : (raised : Option Status) (status : Status) (inside old : PeerKept) (slots : Slotted L) (n i : ℕ)
      (k k' : WriterKept) (after : Slotted L) → raised ≡ Some status → inside ≡ old → suc i ≡ n
      → slice_get inside.writers i ≡ Some k → WriterSeesStatus k status k'
      → ((given : ByEntity L) (places : Places) → SlotsStandFor notices capacity becomes given slots places
      → true ≡ is_some (taker_of places (entity.Writer n) status))
      → ((given : ByEntity L) (places : Places) → SlotsStandFor notices capacity becomes given slots places
      → SlotsStandFor notices capacity becomes given after
      (after_notice places (record { entity = entity.Writer n; status = status })))
      → Tells notices capacity becomes (λ part. told part (entity.Writer n) raised) old slots (with_writer inside i k') after
  tells_writer raised status inside old slots n i k k' after so view is at sees takes tell =
      subst (λ (o : Option Status). Tells notices capacity becomes (λ part. told part (entity.Writer n) o) old slots
      (with_writer inside i k') after) (sym so)
      (told_by notices capacity becomes (entity.Writer n) status old slots (with_writer inside i k') after takes tell
      (λ roster peer given.
      let s : StandsFor inside roster peer = subst (λ (x : PeerKept). StandsFor x roster peer) (sym view) given in
      let w : Writer = own_writer peer.part (suc i) in
      subst (λ (m : ℕ). StandsFor (with_writer inside i k') roster
      (record peer { part = looked_at peer.part (entity.Writer m) status })) is
      (subst (λ (p : Part). StandsFor (with_writer inside i k') roster (record peer { part = p }))
      (sym (looked_is peer.part (suc i) status))
      (writer_put roster peer inside s i k k' at sees.same (writer_seen_by w status) peer.known.answered
      (sees.stands w (peer.known.answered (suc i)) (s.writers.each i k at)) (λ j apart r. refl)
      (tellable_put peer.part (suc i) (writer_seen_by w status) s.tellable (seen_changes w status))))))

  -- what was raised at the writer of this number, in turn
  pub writer_raised : (raised : Writer → Writer → Option Status) (status : Option Status) (before : Part)
      (mark : WriterMark) (old : PeerKept) (slots : Slotted L)
      (n i : ℕ) (k : WriterKept) (new : PeerKept) (after : Slotted L) → suc i ≡ n → slice_get old.writers i ≡ Some k
      → IsWriterMarkOf mark (own_writer before n)
      → WriterRaisesSo raised k mark status
      → Tells notices capacity becomes (λ part. told part (entity.Writer n) status) old slots new after
      → Tells notices capacity becomes (λ part. told part (entity.Writer n) (raised (own_writer before n) (own_writer part n)))
      old slots new after
  writer_raised raised status before mark old slots n i k new after is at marked so h =
      tells_as notices capacity becomes (λ part. told part (entity.Writer n) status)
      (λ part. told part (entity.Writer n) (raised (own_writer before n) (own_writer part n))) old slots new after
      (λ roster peer s.
      ap (λ (o : Option Status). told peer.part (entity.Writer n) o)
      (subst (λ (m : ℕ). status ≡ raised (own_writer before n) (own_writer peer.part m)) is
      (so (own_writer before n) marked (own_writer peer.part (suc i)) (peer.known.answered (suc i))
      (s.writers.each i k at)))) h

-- ---- what was raised

-- a writer's liveliness was lost, or not
pub lost_so : (before w : Writer) (values : LivelinessLostStatus) (losses : ℕ)
    → values ≡ liveliness_lost_status w.lease w.written → losses ≡ losses_of before
    → losses < values.total_count → Some (LivelinessLost values) ≡ loss_raised before w
lost_so before w values losses is mark lt =
    let more : nat_lt (losses_of before) (losses_of w) ≡ true =
    ap (λ (n : ℕ). nat_lt n (losses_of w)) (sym mark)
    ∙ (ap (λ (v : LivelinessLostStatus). nat_lt losses v.total_count) (sym is) ∙ less losses values.total_count lt)
    in
    ap (λ (v : LivelinessLostStatus). Some (LivelinessLost v)) is
    ∙ sym (ap (λ (b : Bool). if b then Some (LivelinessLost (liveliness_lost_status w.lease w.written)) else None) more)
  where
    less : (a b : ℕ) → a < b → nat_lt a b ≡ true
    less a b lt' = grind (arith, nat_tests, lt')

pub not_lost : (before w : Writer) (values : LivelinessLostStatus) (losses : ℕ)
    → values ≡ liveliness_lost_status w.lease w.written → losses ≡ losses_of before
    → values.total_count ≤ losses → None ≡ loss_raised before w
not_lost before w values losses is mark le =
    let more : nat_lt (losses_of before) (losses_of w) ≡ false =
    ap (λ (n : ℕ). nat_lt n (losses_of w)) (sym mark)
    ∙ (ap (λ (v : LivelinessLostStatus). nat_lt losses v.total_count) (sym is)
    ∙ not_less losses values.total_count le) in
    sym (ap (λ (b : Bool). if b then Some (LivelinessLost (liveliness_lost_status w.lease w.written)) else None) more)
  where
    not_less : (a b : ℕ) → b ≤ a → nat_lt a b ≡ false
    not_less a b le' = grind (arith, nat_tests, le')

-- more or fewer readers are matched with it, or as many
pub matches_so : (b : Bool) (kept : WriterKept) (before w : Writer) (answered : Endpoint → Contact) (here there : ℕ)
    (values : MatchedStatus) → WriterStands kept w answered → here ≡ length kept.matched → there ≡ length before.matched
    → values ≡ publication_matched w → (here == there) ≡ b
    → (if b then None else Some (PublicationMatched values)) ≡ publication_raised before w
matches_so b kept before w answered here there values s size mark is same =
    let count : length w.matched ≡ here =
    ap (λ (es : List Endpoint). length es) s.matched
    ∙ (length-map kept.matched (λ (n : ReaderName). n.reader) ∙ sym size) in
    ap (λ (v : MatchedStatus). if b then None else Some (PublicationMatched v)) is
    ∙ sym (ap (λ (x : Bool). if x then None else Some (PublicationMatched (publication_matched w)))
    (ap (λ (n : ℕ). n == length before.matched) count ∙ (ap (λ (n : ℕ). here == n) (sym mark) ∙ same)))
