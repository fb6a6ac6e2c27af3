-- What a writer that is told of a reader, or that a reader has left, or at whose matches the application looks, does to
-- a peer.
use Rattle.std.proofs.Common.{◌≡◌, ◌≢◌, ◌⊎◌, ℕ, zero, suc, ◌+◌, ◌<◌, ◌≤◌, ◌==◌, ◌&&◌, Bool, true, false, not, eq-eqb, eqb-true, List, [], ◌∷◌, Option, None, Some, length, map, set, slice_get, refl, ap, sym, subst, ◌∙◌, arith, inl, inr, ⊎_elim}
use Rattle.std.specs.Prelude.{if◌then◌else◌}
use Rattle.std.proofs.lemmas.Option.{same_Some}
use Rattle.dds_base.specs.declared.code.Code.{Code}
use Rattle.dds_base.specs.declared.code.Code.TheVariants.{BadParameter, Memory}
use Rattle.dds_protocol.specs.Roster.{Roster}
use Rattle.dds_base.specs.declared.endpoint.Endpoint.{Endpoint}
use Rattle.dds_base.specs.declared.guid.EntityId.{EntityId}
use Rattle.dds_base.specs.Bounds.{greatest_value}
use Rattle.dds_base.specs.declared.status.MatchedStatus.{MatchedStatus}
use Rattle.dds_base.specs.Refusal.{Refuses}
use Rattle.dds_machine.specs.declared.call.Call.TheVariants as call
use Rattle.dds_machine.specs.declared.reply.Reply.TheVariants.{Done, Matched, Refused}
use Rattle.dds_machine.specs.Matching.{joined, knows_reliable, left, publication_matched, writer_looked_at}
use Rattle.dds_machine.specs.Part.{Writer, at_writer, own_writer, same_endpoint, writer_changes}
use Rattle.dds_machine.specs.Refusals.{writer_refusal}
use Rattle.dds_protocol.specs.declared.event.Event.TheVariants as event
use Rattle.dds_protocol.specs.Peer.{Peer, known_once_told}
use Rattle.dds_protocol.specs.Contact.{Contact}
use Rattle.dds_protocol.specs.Protocol.{Known}
use Rattle.dds_ends.specs.Coming.{Joins, Leaves, LooksAtMatches, RefusesSo, joining_refusal, leaving_refusal, matched_anew}
use Rattle.dds_ends.specs.declared.matching.TopicName.{TopicName}
use Rattle.dds_ends.specs.Identity.{IsWriterOf, WriterIdentity, writer_identity}
use Rattle.dds_ends.specs.MatchedEnds.{AreKnownReaders}
use Rattle.dds_core.specs.Identity.{IsPeerOf, KnowsNames, identity_of}
use Rattle.dds_ends.specs.Kept.{WriterKept}
use Rattle.dds_core.specs.Kept.{PeerKept}
use Rattle.dds_ends.specs.Standing.{WriterStands}
use Rattle.dds_core.specs.Standing.{StandsFor}
use Rattle.dds_core.proofs.CallSteps.{Follows, answered_as, number_is, refused_call, there_is}
use Rattle.dds_core.proofs.Ends.{own_writer_put, unchanged_with, with_writer, writer_put, writer_stands_on}
use Rattle.dds_ends.proofs.Lists.{get-map, map-get}
use Rattle.dds_core.proofs.Taking.{silent}
use Rattle.dds_core.proofs.Within.{still_known}
use Rattle.dds_core.proofs.Tellable.{tellable_put}

-- ---- who the writers are

-- what is at an index is what was put there, or what was there
put_or_there : {X : Type 0} (xs : List X) (i j : ℕ) (x y : X) → slice_get (set xs i x) j ≡ Some y
    → ((i ≡ j) × (x ≡ y)) ⊎ (slice_get xs j ≡ Some y)
put_or_there [] i j x y at = inr at
put_or_there (a ∷ xs) zero zero x y at = inl (refl, same_Some x y at)
put_or_there (a ∷ xs) zero (suc j) x y at = inr at
put_or_there (a ∷ xs) (suc i) zero x y at = inr at
put_or_there (a ∷ xs) (suc i) (suc j) x y at =
    ⊎_elim (λ f. inl (ap suc f.0, f.1)) (λ f. inr f) (put_or_there xs i j x y at)

-- what is so of each end is so with another one in the place of one, of which it is so
pub each_of : {K X : Type 0} (of : K → X) (ks : List K) (i : ℕ) (k : K) (Is : ℕ → X → Type 0) → Is i (of k)
    → ((j : ℕ) (x : X) → slice_get (map of ks) j ≡ Some x → Is j x)
    → (j : ℕ) (x : X) → slice_get (map of (set ks i k)) j ≡ Some x → Is j x
each_of {X = X} of ks i k Is here each j x at_x =
    let f = get-map of (set ks i k) j x at_x in
    ⊎_elim
    (λ it. subst (λ (n : ℕ). Is n x) it.0 (subst (λ (y : X). Is i y) (ap of it.1 ∙ f.2) here))
    (λ there. each j x (map-get of ks j f.0 there ∙ ap (λ (y : X). Some y) f.2))
    (put_or_there ks i j k f.0 f.1)

-- the peer's writer of this index, by its number
abbrev pub writer_end : ℕ → ℕ → Endpoint
writer_end number i = record { peer = number; number = i + 1 }

-- another writer of the roster in the place of one, whose values may be as long
pub peer_of_writer : (kept : PeerKept) (i : ℕ) (k k' : WriterKept) (roster : Roster) (number : ℕ)
    → slice_get kept.writers i ≡ Some k → k'.max_value ≡ k.max_value
    → (IsWriterOf roster (writer_end number i) (writer_identity k)
    → IsWriterOf roster (writer_end number i) (writer_identity k'))
    → IsPeerOf roster number (identity_of kept) → IsPeerOf roster number (identity_of (with_writer kept i k'))
peer_of_writer kept i k k' roster number at long still is =
    let was : slice_get (map writer_identity kept.writers) i ≡ Some (writer_identity k) =
    map-get writer_identity kept.writers i k at in
    record {
      is_roster = is.is_roster;
      prefix = is.prefix;
      writers = each_of writer_identity kept.writers i k' (λ j x. IsWriterOf roster (writer_end number j) x)
          (still (is.writers i (writer_identity k) was)) is.writers;
      limited = each_of writer_identity kept.writers i k' (λ j x. x.max_value ≤ greatest_value)
          (subst (λ (most : ℕ). most ≤ greatest_value) (sym long) (is.limited i (writer_identity k) was)) is.limited;
      readers = is.readers;
      once = is.once;
    }

-- ---- the end of that number

-- a peer with another writer of this index, which is one of the roster as it was
pub writer_told : (kept : PeerKept) (i : ℕ) (k k' : WriterKept) (roster : Roster) (peer : Peer) → StandsFor kept roster peer
    → slice_get kept.writers i ≡ Some k → k'.max_value ≡ k.max_value
    → (IsWriterOf roster (writer_end peer.number i) (writer_identity k)
    → IsWriterOf roster (writer_end peer.number i) (writer_identity k'))
    → KnowsNames roster peer.number (identity_of (with_writer kept i k')) kept.names
    → (w : Writer) (answered : ℕ → Endpoint → Contact) → WriterStands k' w (answered (suc i))
    → ((j : ℕ) → (j ≡ i → ⊥) → (r : Endpoint) → answered (suc j) r ≡ peer.known.answered (suc j) r)
    → writer_changes w ≡ writer_changes (own_writer peer.part (suc i))
    → StandsFor (with_writer kept i k') roster
    (record peer { part = at_writer peer.part (suc i) w; known = record peer.known { answered = answered } })
writer_told kept i k k' roster peer s at long still knows w answered stands others same =
    own_writer_put roster peer kept s i k k' at
    (peer_of_writer kept i k k' roster peer.number at long still s.is_peer) knows w
    answered stands others (tellable_put peer.part (suc i) w s.tellable same)

-- the same of one that is so in each roster
told_everywhere : (kept : PeerKept) (i : ℕ) (k k' : WriterKept) (roster : Roster) (peer : Peer)
    → StandsFor kept roster peer → slice_get kept.writers i ≡ Some k → k'.max_value ≡ k.max_value
    → ((r : Roster) → IsWriterOf r (writer_end peer.number i) (writer_identity k)
    → IsWriterOf r (writer_end peer.number i) (writer_identity k'))
    → (w : Writer) (answered : ℕ → Endpoint → Contact) → WriterStands k' w (answered (suc i))
    → ((j : ℕ) → (j ≡ i → ⊥) → (r : Endpoint) → answered (suc j) r ≡ peer.known.answered (suc j) r)
    → writer_changes w ≡ writer_changes (own_writer peer.part (suc i))
    → StandsFor (with_writer kept i k') roster
    (record peer { part = at_writer peer.part (suc i) w; known = record peer.known { answered = answered } })
told_everywhere kept i k k' roster peer s at long still w answered stands others same =
    writer_told kept i k k' roster peer s at long (still roster)
    (still_known roster peer.number (identity_of kept) _ kept.names
    (λ r is. peer_of_writer kept i k k' r peer.number at long (still r) is) s.knows)
    w answered stands others same

-- ---- what is known of a reader that its writer is told of

module _ (known : Known) (i : ℕ) (reader : Endpoint) (quiet : Bool) where
  abbrev contact : Contact
  contact = record (known.answered (suc i) reader) { asks = false; silent = quiet }

  abbrev told : Known
  told = known_once_told known (suc i) reader quiet

  pub told_here : (e : Endpoint) → told.answered (suc i) e ≡ matched_anew (known.answered (suc i)) reader quiet e
  told_here e =
      ap (λ (b : Bool). if b && same_endpoint e reader then contact else known.answered (suc i) e)
      (eq-eqb (suc i) (suc i) refl)

  other : (j : ℕ) (b : Bool) → (suc j == suc i) ≡ b → (j ≡ i → ⊥) → (suc j == suc i) ≡ false
  other j true is apart = let same = eqb-true (suc j) (suc i) is in absurd (apart (omega (arith, same)))
  other j false is apart = is

  pub told_elsewhere : (j : ℕ) → (j ≡ i → ⊥) → (e : Endpoint) → told.answered (suc j) e ≡ known.answered (suc j) e
  told_elsewhere j apart e =
      ap (λ (b : Bool). if b && same_endpoint e reader then contact else known.answered (suc j) e)
      (other j (suc j == suc i) refl apart)

-- ---- a reader that comes

joins : (kept : PeerKept) (i : ℕ) (k k' : WriterKept) (reader : Endpoint) (greeted : Bool) (roster : Roster)
    (peer : Peer) → StandsFor kept roster peer → slice_get kept.writers i ≡ Some k
    → RefusesSo joining_refusal k reader (λ refusal. refusal ≡ None) → Joins k reader greeted k'
    → Follows (with_writer kept i k') roster peer (event.Call (call.MatchReader (suc i) reader greeted)) (silent Done)
joins kept i k k' reader greeted roster peer s at accepted j =
    let w : Writer = own_writer peer.part (suc i) in
    let stands = s.writers.each i k at in (
      record peer {
        part = at_writer peer.part (suc i) (joined w reader (knows_reliable w reader));
        known = known;
      },
      record {
        same_number = refl;
        knows = refl;
        step = (
          record { answers = (accepted w (peer.known.answered (suc i)) stands, refl, refl); rtps = refl },
          refl,
        );
        sent = λ p x m h. absurd (omega (arith, m.1));
      },
      told_everywhere kept i k k' roster peer s at j.same.max_value
          (λ all is. record {
            entity = is.entity ∙ ap (λ (e : EntityId). Some e) (sym j.same.entity);
            known =
                subst (λ (ks : List TopicName). AreKnownReaders all (writer_end peer.number i) ks)
                (sym j.same.known) is.known;
            ends = j.ends all (writer_end peer.number i) is.known is.ends;
          }) (joined w reader (knows_reliable w reader)) known.answered
          (writer_stands_on k' (joined w reader (knows_reliable w reader))
          (matched_anew (peer.known.answered (suc i)) reader silent_now) (known.answered (suc i))
          (told_here peer.known i reader silent_now) (j.stands w (peer.known.answered (suc i)) stands))
          (told_elsewhere peer.known i reader silent_now) refl,
    )
  where
    silent_now : Bool
    silent_now = greeted && knows_reliable (own_writer peer.part (suc i)) reader

    known : Known
    known = known_once_told peer.known (suc i) reader silent_now

pub joins_at : (kept : PeerKept) (writer i : ℕ) (k k' : WriterKept) (reader : Endpoint) (greeted : Bool)
    (roster : Roster) (peer : Peer)
    → StandsFor kept roster peer → writer ≡ i + 1 → slice_get kept.writers i ≡ Some k
    → RefusesSo joining_refusal k reader (λ refusal. refusal ≡ None) → Joins k reader greeted k'
    → Follows (with_writer kept i k') roster peer (event.Call (call.MatchReader writer reader greeted)) (silent Done)
joins_at kept writer i k k' reader greeted roster peer s is at accepted j =
    subst (λ (n : ℕ). Follows (with_writer kept i k') roster peer (event.Call (call.MatchReader n reader greeted))
    (silent Done)) (number_is writer i is) (joins kept i k k' reader greeted roster peer s at accepted j)

-- one that is refused
refused_join : (kept : PeerKept) (writer : ℕ) (reader : Endpoint) (greeted : Bool) (code : Code) (roster : Roster)
    (peer : Peer)
    → StandsFor kept roster peer → Refuses (joining_refusal (own_writer peer.part writer) reader) code
    → Follows kept roster peer (event.Call (call.MatchReader writer reader greeted)) (silent (Refused code))
refused_join kept writer reader greeted code roster peer s refuses =
    refused_call kept roster peer s (call.MatchReader writer reader greeted) code (refuses, λ memory. tt, refl)

pub joins_not : (kept : PeerKept) (writer i : ℕ) (k k' : WriterKept) (reader : Endpoint) (greeted : Bool) (code : Code)
    (roster : Roster) (peer : Peer) → StandsFor kept roster peer → writer ≡ i + 1 → slice_get kept.writers i ≡ Some k
    → RefusesSo joining_refusal k reader (λ refusal. Refuses refusal code) → k' ≡ k
    → Follows (with_writer kept i k') roster peer (event.Call (call.MatchReader writer reader greeted)) (silent (Refused code))
joins_not kept writer i k k' reader greeted code roster peer s is at refused same =
    subst (λ (x : PeerKept). Follows x roster peer (event.Call (call.MatchReader writer reader greeted))
    (silent (Refused code))) (sym (unchanged_with kept i k k' at same))
    (refused_join kept writer reader greeted code roster peer s
    (subst (λ (n : ℕ). Refuses (joining_refusal (own_writer peer.part n) reader) code) (number_is writer i is)
    (refused (own_writer peer.part (suc i)) (peer.known.answered (suc i)) (s.writers.each i k at))))

-- ---- a reader that leaves

leaves : (kept : PeerKept) (i : ℕ) (k k' : WriterKept) (reader : Endpoint) (roster : Roster) (peer : Peer)
    → StandsFor kept roster peer → slice_get kept.writers i ≡ Some k
    → RefusesSo leaving_refusal k reader (λ refusal. refusal ≡ None) → Leaves k reader k'
    → Follows (with_writer kept i k') roster peer (event.Call (call.UnmatchReader (suc i) reader)) (silent Done)
leaves kept i k k' reader roster peer s at accepted l =
    let w : Writer = own_writer peer.part (suc i) in
    let stands = s.writers.each i k at in (
      record peer { part = at_writer peer.part (suc i) (left w reader) },
      record {
        same_number = refl;
        knows = refl;
        step = (
          record { answers = (accepted w (peer.known.answered (suc i)) stands, refl, refl); rtps = refl },
          refl,
        );
        sent = λ p x m h. absurd (omega (arith, m.1));
      },
      told_everywhere kept i k k' roster peer s at l.same.max_value
          (λ all is. record {
            entity = is.entity ∙ ap (λ (e : EntityId). Some e) (sym l.same.entity);
            known =
                subst (λ (ks : List TopicName). AreKnownReaders all (writer_end peer.number i) ks)
                (sym l.same.known) is.known;
            ends = l.ends all (writer_end peer.number i) is.ends;
          }) (left w reader) peer.known.answered (l.stands w (peer.known.answered (suc i)) stands)
          (λ j apart e. refl) refl,
    )

pub leaves_at : (kept : PeerKept) (writer i : ℕ) (k k' : WriterKept) (reader : Endpoint) (roster : Roster) (peer : Peer)
    → StandsFor kept roster peer → writer ≡ i + 1 → slice_get kept.writers i ≡ Some k
    → RefusesSo leaving_refusal k reader (λ refusal. refusal ≡ None) → Leaves k reader k'
    → Follows (with_writer kept i k') roster peer (event.Call (call.UnmatchReader writer reader)) (silent Done)
leaves_at kept writer i k k' reader roster peer s is at accepted l =
    subst (λ (n : ℕ). Follows (with_writer kept i k') roster peer (event.Call (call.UnmatchReader n reader))
    (silent Done)) (number_is writer i is) (leaves kept i k k' reader roster peer s at accepted l)

-- one that is refused
refused_leave : (kept : PeerKept) (writer : ℕ) (reader : Endpoint) (code : Code) (roster : Roster) (peer : Peer)
    → StandsFor kept roster peer → leaving_refusal (own_writer peer.part writer) reader ≡ Some code → code ≢ Memory
    → Follows kept roster peer (event.Call (call.UnmatchReader writer reader)) (silent (Refused code))
refused_leave kept writer reader code roster peer s refuses never =
    refused_call kept roster peer s (call.UnmatchReader writer reader) code
    (subst (λ (o : Option Code). Refuses o code) (sym refuses) refl, λ memory. never memory, refl)

pub leaves_not : (kept : PeerKept) (writer i : ℕ) (k k' : WriterKept) (reader : Endpoint) (code : Code)
    (roster : Roster) (peer : Peer) → StandsFor kept roster peer → writer ≡ i + 1 → slice_get kept.writers i ≡ Some k
    → RefusesSo leaving_refusal k reader (λ refusal. refusal ≡ Some code) → code ≢ Memory → k' ≡ k
    → Follows (with_writer kept i k') roster peer (event.Call (call.UnmatchReader writer reader)) (silent (Refused code))
leaves_not kept writer i k k' reader code roster peer s is at refused never same =
    subst (λ (x : PeerKept). Follows x roster peer (event.Call (call.UnmatchReader writer reader))
    (silent (Refused code))) (sym (unchanged_with kept i k k' at same))
    (refused_leave kept writer reader code roster peer s
    (subst (λ (n : ℕ). leaving_refusal (own_writer peer.part n) reader ≡ Some code) (number_is writer i is)
    (refused (own_writer peer.part (suc i)) (peer.known.answered (suc i)) (s.writers.each i k at))) never)

-- ---- a look

looks : (kept : PeerKept) (i : ℕ) (k k' : WriterKept) (status : MatchedStatus) (roster : Roster) (peer : Peer)
    → StandsFor kept roster peer → slice_get kept.writers i ≡ Some k → i < length kept.writers
    → ((w : Writer) (answered : Endpoint → Contact) → WriterStands k w answered → status ≡ publication_matched w)
    → LooksAtMatches k k'
    → Follows (with_writer kept i k') roster peer (event.Call (call.GetPublicationMatched (suc i)))
    (silent (Matched status))
looks kept i k k' status roster peer s at lt tells look =
    let count = s.writers.count in
    let w : Writer = own_writer peer.part (suc i) in
    let stands = s.writers.each i k at in
    let known : writer_refusal peer.part (suc i) ≡ None =
    ap (λ (b : Bool). if not b then Some BadParameter else None)
    (there_is peer.part.rtps.writers i (omega (arith, lt, count))) in (
      record peer { part = at_writer peer.part (suc i) (writer_looked_at w) },
      record {
        same_number = refl;
        knows = refl;
        step = (
          record {
            answers =
                answered_as _ (Matched (publication_matched w)) peer.part.dds peer.part _ known
                (ap Matched (tells w (peer.known.answered (suc i)) stands));
            rtps = refl;
          },
          refl,
        );
        sent = λ p x m h. absurd (omega (arith, m.1));
      },
      writer_put roster peer kept s i k k' at look.same (writer_looked_at w) peer.known.answered
          (look.stands w (peer.known.answered (suc i)) stands) (λ j apart r. refl)
          (tellable_put peer.part (suc i) (writer_looked_at w) s.tellable refl),
    )

pub matches_looked_at : (kept : PeerKept) (writer i : ℕ) (k k' : WriterKept) (status : MatchedStatus) (roster : Roster)
    (peer : Peer) → StandsFor kept roster peer → writer ≡ i + 1 → slice_get kept.writers i ≡ Some k
    → i < length kept.writers
    → ((w : Writer) (answered : Endpoint → Contact) → WriterStands k w answered → status ≡ publication_matched w)
    → LooksAtMatches k k'
    → Follows (with_writer kept i k') roster peer (event.Call (call.GetPublicationMatched writer))
    (silent (Matched status))
matches_looked_at kept writer i k k' status roster peer s is at lt tells look =
    subst (λ (n : ℕ). Follows (with_writer kept i k') roster peer (event.Call (call.GetPublicationMatched n))
    (silent (Matched status))) (number_is writer i is) (looks kept i k k' status roster peer s at lt tells look)
