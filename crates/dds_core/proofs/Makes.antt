-- A change of one of the peer's writers is made and announced, or refused.
use Rattle.std.proofs.Common.{◌≡◌, ℕ, zero, suc, ◌+◌, ◌-◌, ◌<◌, true, List, [], ◌∷◌, ◌++◌, Some, None, set, length, slice_get, refl, ap, sym, ◌∙◌, subst, arith, get_or, get_or-set_same}
use Rattle.std.specs.Prelude.{nat_lt, if◌then◌else◌, Option, ℤ}
use Rattle.std.proofs.lemmas.Bool.Decides.{nat_tests}
use Rattle.std.proofs.lemmas.Option.{slice_get-get_or}
use Rattle.dds_base.specs.declared.change.Change.{Change}
use Rattle.dds_base.specs.declared.change.ChangeKind.{ChangeKind}
use Rattle.dds_base.specs.declared.code.Code.{Code}
use Rattle.dds_protocol.specs.Roster.{Roster}
use Rattle.dds_base.specs.declared.guid.EntityId.{EntityId}
use Rattle.dds_base.specs.declared.key.Key.{Key}
use Rattle.dds_base.specs.Kept.{change_at, append_refusal}
use Rattle.dds_base.specs.Refusal.{Refuses}
use Rattle.dds_base.specs.Written.{Changed, changes_of}
use Rattle.rtps_wire.specs.Content.{content_of, change_in}
use Rattle.rtps_wire.proofs.ContentLaws.{change_in-content_of}
use Rattle.dds_base.specs.declared.endpoint.Endpoint.{Endpoint}
use Rattle.dds_protocol.specs.declared.event.Output.{Output}
use Rattle.dds_protocol.specs.declared.event.Packet.{Packet}
use Rattle.dds_machine.specs.declared.reply.Reply.TheVariants.{Done, Refused}
use Rattle.dds_machine.specs.Part.{Writer, no_writer, own_writer, history_of, writer_changes}
use Rattle.dds_machine.specs.Refusals.{change_made, change_refusal, strength_of}
use Rattle.dds_machine.specs.Calls.{with_written}
use Rattle.dds_protocol.specs.Claims.{IsWriter}
use Rattle.dds_protocol.specs.Peer.{Peer}
use Rattle.dds_protocol.specs.DueMessages.{AreSent, changes_due}
use Rattle.dds_protocol.proofs.OneName.{one_writer}
use Rattle.dds_protocol.specs.Contact.{Contact}
use Rattle.dds_ends.specs.declared.matching.Destination.{Destination}
use Rattle.dds_ends.specs.declared.sending.Sender.{Sender}
use Rattle.dds_ends.specs.Kept.{WriterKept}
use Rattle.dds_core.specs.Kept.{PeerKept}
use Rattle.dds_ends.specs.Identity.{WriterIdentity, writer_identity, IsWriterOf}
use Rattle.dds_core.specs.Making.{IsMade, IsNotMade, IsValueOf, entered}
use Rattle.dds_core.specs.Sending.{SendsChange}
use Rattle.dds_ends.specs.Announcing.{AreAnnouncements}
use Rattle.dds_ends.specs.Standing.{WriterStands}
use Rattle.dds_core.specs.Standing.{StandsFor}
use Rattle.dds_ends.specs.Stepping.{Enters}
use Rattle.dds_core.proofs.BeatsDue.{IsNamed, named, named_again}
use Rattle.dds_core.proofs.ChangesDue.{change_sent}
use Rattle.dds_core.proofs.Ends.{with_writer, own_writer_stepped, unchanged_with}
use Rattle.dds_core.proofs.Tellable.{tellable_entered}
use Rattle.dds_ends.proofs.Lists.{get-within}
use Rattle.dds_core.proofs.Names.{own_end, own_writer_is}
use Rattle.dds_core.proofs.Sent.{IsOnly, IsThere, sends_change, sent_true}

-- the writer of this index, as the peer that is open has it
pub writer_at : {inside kept : PeerKept} {i : ℕ} {k : WriterKept} → inside ≡ kept → i < length kept.writers
    → k ≡ get_or inside.writers i k → slice_get inside.writers i ≡ Some k
writer_at {inside} {i = i} {k} view within is =
    slice_get-get_or inside.writers i k (subst (λ (x : PeerKept). i < length x.writers) (sym view) within)
    ∙ ap (λ (x : WriterKept). Some x) (sym is)

-- the last change of a list
slice_get-last : {X : Type 0} (xs : List X) (x : X) → slice_get (xs ++ x ∷ []) (length xs) ≡ Some x
slice_get-last [] x = refl
slice_get-last (y ∷ ys) x = slice_get-last ys x

change_at-last : (cs : List Change) (c : Change) → change_at (cs ++ c ∷ []) (length cs + 1) ≡ Some c
change_at-last cs c =
    let positive : nat_lt 0 (length cs + 1) ≡ true = grind (arith, nat_tests) in
    let index : length cs + 1 - 1 ≡ length cs = omega arith in
    ap (λ b. if b then slice_get (cs ++ c ∷ []) (length cs + 1 - 1) else None) positive
    ∙ (ap (λ (k : ℕ). slice_get (cs ++ c ∷ []) k) index ∙ slice_get-last cs c)

pub set_get : {X : Type 0} (xs : List X) (i : ℕ) (x y : X) → slice_get xs i ≡ Some x → slice_get (set xs i y) i ≡ Some y
set_get [] i x y at = absurd cc
set_get (a ∷ xs) zero x y at = refl
set_get (a ∷ xs) (suc i) x y at = set_get xs i x y at

abbrev pub made_by : ChangeKind → Key → List ℕ → ℕ → Option ℤ → Change
made_by kind key value moment strength =
    record { kind = kind; key = key; value = value; source_timestamp = moment; strength = strength }

-- the writer's changes carry this strength
abbrev pub Carries : WriterKept → Option ℤ → Type 0
Carries k strength =
    (w : Writer) (answered : Endpoint → Contact) → WriterStands k w answered → strength ≡ strength_of w

-- it is the change that a call of the writer of this index makes
made_is : (old : PeerKept) (i : ℕ) (k : WriterKept) (kind : ChangeKind) (key : Key) (value : List ℕ)
    (strength : Option ℤ) (roster : Roster) (peer : Peer) → StandsFor old roster peer
    → slice_get old.writers i ≡ Some k → Carries k strength
    → made_by kind key value old.moment strength ≡ change_made peer.part (suc i) kind key value
made_is old i k kind key value strength roster peer s at carries =
    ap (λ (m : ℕ). made_by kind key value m strength) (sym s.moment)
    ∙ ap (λ (z : Option ℤ). made_by kind key value peer.part.dds.moment z)
    (carries (own_writer peer.part (suc i)) (peer.known.answered (suc i)) (s.writers.each i k at))

-- the packets announce the change of this number, as this writer of the peer sends it, to its destinations
abbrev pub Announces : PeerKept → WriterKept → Change → ℕ → List Packet → Type 0
Announces old k change number packets =
    AreAnnouncements (record { prefix = old.prefix; entity = k.entity; moment = old.moment }) number (content_of change)
    k.destinations packets

-- the change is made
made_there : (old : PeerKept) (i : ℕ) (k k' : WriterKept) (kind : ChangeKind) (key : Key) (value : List ℕ)
    (strength : Option ℤ) (number : ℕ) (output : Output) (roster : Roster) (peer : Peer) → StandsFor old roster peer
    → slice_get old.writers i ≡ Some k → Enters k (Changed (made_by kind key value old.moment strength)) k'
    → ((w : Writer) (answered : Endpoint → Contact) → WriterStands k w answered
    → (append_refusal (history_of w) (made_by kind key value old.moment strength) ≡ None)
    × (number ≡ length (writer_changes w) + 1)) → IsValueOf kind value
    → output.reply ≡ Done → length output.packets + output.unsent ≡ length k.destinations
    → Announces old k (made_by kind key value old.moment strength) number output.packets
    → IsMade roster peer (suc i) (made_by kind key value old.moment strength) output (with_writer old i k')
made_there old i k k' kind key value strength number output roster peer s at enters accepts valued reply counts announces =
    let change : Change = made_by kind key value old.moment strength in
    let w : Writer = own_writer peer.part (suc i) in
    let ws : WriterStands k w (peer.known.answered (suc i)) = s.writers.each i k at in
    let a = accepts w (peer.known.answered (suc i)) ws in
    let new : PeerKept = with_writer old i k' in
    let after : Peer = record peer { part = entered peer.part (suc i) change } in
    let stands : StandsFor new roster after =
    own_writer_stepped old i k k' (Changed change) roster peer s at enters
    (tellable_entered peer (suc i) (Changed change) s.tellable (record { empty = valued; early = s.early })) in
    let at_new : slice_get new.writers i ≡ Some k' = set_get old.writers i k k' at in
    let ends : k'.destinations ≡ k.destinations = ap (λ (x : WriterIdentity). x.destinations) enters.same in
    let sender : Sender = record { prefix = old.prefix; entity = k'.entity; moment = old.moment } in
    let counted : length output.packets + output.unsent ≡ length k'.destinations =
    counts ∙ ap (λ (ds : List Destination). length ds) (sym ends) in
    let are : AreAnnouncements sender number (content_of change) k'.destinations output.packets =
    subst (λ (ds : List Destination). AreAnnouncements sender number (content_of change) ds output.packets) (sym ends)
    (subst (λ (e : EntityId). AreAnnouncements (record { prefix = old.prefix; entity = e; moment = old.moment }) number
    (content_of change) k.destinations output.packets)
    (sym (ap (λ (x : WriterIdentity). x.entity) enters.same)) announces) in
    let own : IsWriterOf roster (own_end peer.number i) (writer_identity k') =
    own_writer_is roster peer.number new stands.is_peer i k' at_new in
    let endpoint : Endpoint = own_end peer.number i in
    let from : IsWriter roster old.prefix k'.entity endpoint =
    record { same_prefix = s.is_peer.prefix; at_writer = own.entity } in
    let means : change_in (content_of change) old.moment ≡ change = change_in-content_of change valued in
    let index : 1 + i ≡ suc i = omega arith in
    let named' : IsNamed roster peer.number old.prefix (suc i) k' w =
    named_again roster peer.number old.prefix (suc i) k k' w enters.same
    (subst (λ (n : ℕ). IsNamed roster peer.number old.prefix n k w) index (named roster peer old s i k at)) in
    let due : AreSent (changes_due roster endpoint w.matched number change) output.packets output.unsent =
    change_sent roster peer.number old.prefix
    (suc i) number k' w change output.packets output.unsent named' are counted in
    let sends : SendsChange roster endpoint w.matched number (change_in (content_of change) old.moment) output =
    subst (λ (es : List Endpoint). SendsChange roster endpoint es number (change_in (content_of change) old.moment)
    output) (sym named'.matched)
    (sends_change roster sender endpoint k'.matched k'.destinations k'.readers number (content_of change) output from
    own.ends s.early are counted
    (subst (λ (es : List Endpoint). AreSent
    (changes_due roster endpoint es number (change_in (content_of change) old.moment)) output.packets output.unsent)
    named'.matched
    (subst (λ (x : Change). AreSent (changes_due roster endpoint w.matched number x) output.packets output.unsent)
    (sym means) due))) in
    let only : IsOnly roster sender endpoint =
    λ e name. one_writer roster old.prefix k'.entity e endpoint s.is_peer.is_roster name from
    in
    let count = s.writers.count in
    let within : i < length peer.part.rtps.writers =
    let lt = get-within old.writers i k at in omega (arith, lt, count) in
    let entry : own_writer after.part (suc i) ≡ with_written w (Changed change) =
    get_or-set_same peer.part.rtps.writers i (with_written w (Changed change)) no_writer within in
    let there : IsThere after.part endpoint number (content_of change) old.moment =
    ap (λ (x : Writer). change_at (writer_changes x) number) entry
    ∙ (ap (λ (n : ℕ). change_at (changes_of w.written ++ change ∷ []) n) a.1
    ∙ (change_at-last (changes_of w.written) change ∙ ap (λ (x : Change). Some x) (sym means))) in
    record {
      accepted = a.0;
      reply = reply;
      sends = subst (λ (n : ℕ). SendsChange roster endpoint w.matched n change output) a.1
          (subst (λ (x : Change). SendsChange roster endpoint w.matched number x output) means sends);
      is_true =
          λ packet claim among h. sent_true roster sender endpoint after.part k'.destinations number
          (content_of change) output.packets only s.early there are packet claim among h;
      stands = stands;
    }

-- the same, by the moment of the part
pub made : (old : PeerKept) (i : ℕ) (k k' : WriterKept) (kind : ChangeKind) (key : Key) (value : List ℕ)
    (strength : Option ℤ) (number : ℕ) (output : Output) (roster : Roster) (peer : Peer) → StandsFor old roster peer
    → slice_get old.writers i ≡ Some k → Carries k strength → Enters k (Changed (made_by kind key value old.moment strength)) k'
    → ((w : Writer) (answered : Endpoint → Contact) → WriterStands k w answered
    → (append_refusal (history_of w) (made_by kind key value old.moment strength) ≡ None)
    × (number ≡ length (writer_changes w) + 1)) → IsValueOf kind value
    → output.reply ≡ Done → length output.packets + output.unsent ≡ length k.destinations
    → Announces old k (made_by kind key value old.moment strength) number output.packets
    → IsMade roster peer (i + 1) (change_made peer.part (i + 1) kind key value) output (with_writer old i k')
made old i k k' kind key value strength number output roster peer s at carries enters accepts valued reply counts
    announces =
    let index : i + 1 ≡ suc i = omega arith in
    subst (λ (n : ℕ). IsMade roster peer n (change_made peer.part n kind key value) output (with_writer old i k'))
    (sym index)
    (subst (λ (x : Change). IsMade roster peer (suc i) x output (with_writer old i k'))
    (made_is old i k kind key value strength roster peer s at carries)
    (made_there old i k k' kind key value strength number output roster peer s at enters accepts valued reply counts announces))

-- the change is refused before anything is done
pub not_begun : (old : PeerKept) (i : ℕ) (k : WriterKept) (kind : ChangeKind) (key : Key) (value : List ℕ)
    (strength : Option ℤ) (code : Code) (output : Output) (roster : Roster) (peer : Peer) → StandsFor old roster peer
    → slice_get old.writers i ≡ Some k → Carries k strength
    → ((w : Writer) (answered : Endpoint → Contact) → WriterStands k w answered
    → Refuses (append_refusal (history_of w) (made_by kind key value old.moment strength)) code)
    → output ≡ record { reply = Refused code; packets = []; unsent = 0 }
    → IsNotMade roster peer (i + 1) (change_made peer.part (i + 1) kind key value) output old
not_begun old i k kind key value strength code output roster peer s at carries refuses is =
    let index : i + 1 ≡ suc i = omega arith in
    record {
      code = code;
      cause =
          subst (λ (n : ℕ). Refuses (change_refusal peer.part n (change_made peer.part n kind key value)) code)
          (sym index)
          (subst (λ (x : Change). Refuses (append_refusal (history_of (own_writer peer.part (suc i))) x) code)
          (made_is old i k kind key value strength roster peer s at carries) (refuses (own_writer peer.part (suc i)) (peer.known.answered (suc i))
          (s.writers.each i k at)));
      output_is = is;
      stands = s;
    }

-- the same once the history refused it, and left the writer as it was
pub not_made : (old : PeerKept) (i : ℕ) (k k' : WriterKept) (kind : ChangeKind) (key : Key) (value : List ℕ)
    (strength : Option ℤ) (code : Code) (output : Output) (roster : Roster) (peer : Peer) → StandsFor old roster peer
    → slice_get old.writers i ≡ Some k → Carries k strength → k' ≡ k
    → ((w : Writer) (answered : Endpoint → Contact) → WriterStands k w answered
    → Refuses (append_refusal (history_of w) (made_by kind key value old.moment strength)) code)
    → output ≡ record { reply = Refused code; packets = []; unsent = 0 }
    → IsNotMade roster peer (i + 1) (change_made peer.part (i + 1) kind key value) output (with_writer old i k')
not_made old i k k' kind key value strength code output roster peer s at carries same refuses is =
    subst (λ (x : PeerKept). IsNotMade roster peer (i + 1) (change_made peer.part (i + 1) kind key value) output x)
    (sym (unchanged_with old i k k' at same))
    (not_begun old i k kind key value strength code output roster peer s at carries refuses is)
