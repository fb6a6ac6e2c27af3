-- What a call does that tells one of the peer's readers of a writer, or that asks with which it is matched.
use Rattle.std.proofs.Common.{◌≡◌, ℕ, suc, ◌+◌, ◌-◌, ◌^◌, ◌<◌, Bool, true, false, not, ◌&&◌, List, [], Option, Some, None, length, slice_get, refl, ap, sym, ◌∙◌, subst, arith, ⊎_elim}
use Rattle.std.specs.Prelude.{is_some, nat_le, nat_lt, if◌then◌else◌}
use Rattle.std.specs.Option.{option_map_or}
use Rattle.std.proofs.lemmas.Bool.Decides.{nat_tests}
use Rattle.std.proofs.lemmas.Option.{same_Some}
use Rattle.dds_base.specs.declared.code.Code.{Code}
use Rattle.dds_base.specs.declared.code.Code.TheVariants.{BadParameter, Memory, PreconditionNotMet}
use Rattle.dds_protocol.specs.Roster.{Roster}
use Rattle.dds_base.specs.declared.endpoint.Endpoint.{Endpoint}
use Rattle.dds_base.specs.declared.happening.Happening.{Happening}
use Rattle.dds_base.specs.declared.status.MatchedStatus.{MatchedStatus}
use Rattle.dds_base.specs.Number.{is_number}
use Rattle.dds_base.specs.Refusal.{Refuses}
use Rattle.dds_machine.specs.declared.call.Call.TheVariants as call
use Rattle.dds_machine.specs.declared.reply.Reply.TheVariants.{Done, InstanceHandle, Matched, Refused}
use Rattle.dds_protocol.specs.declared.event.Event.TheVariants as event
use Rattle.dds_protocol.specs.Peer.{Peer}
use Rattle.dds_machine.specs.Calls.{after_matches_look}
use Rattle.dds_machine.specs.Matching.{happened_after, is_known, matching_refusal, parted_at, reader_joined, reader_left, reader_looked_at, subscription_matched, with_how, with_match}
use Rattle.dds_machine.specs.Numbered.{HasNumber, numbered}
use Rattle.dds_machine.specs.Part.{Away, Reader, WriterProxy, how_of, is_attached, own_proxies, own_reader, publication_among, row_of}
use Rattle.dds_machine.specs.Refusals.{reader_refusal}
use Rattle.dds_machine.proofs.Tables.{number_there}
use Rattle.dds_ends.specs.declared.matching.WriterName.{WriterName}
use Rattle.dds_ends.specs.Identity.{reader_identity}
use Rattle.dds_ends.specs.Kept.{ReaderKept}
use Rattle.dds_core.specs.Kept.{PeerKept}
use Rattle.dds_ends.specs.Looking.{SeesMatches, TellsMatches}
use Rattle.dds_ends.specs.Parting.{Attaches, Detaches, IsPastParting}
use Rattle.dds_ends.specs.Standing.{IsFirstRow, ReaderStands}
use Rattle.dds_core.specs.Standing.{StandsFor}
use Rattle.dds_core.proofs.CallSteps.{Follows, answered_as, number_is, refused_call, there_is}
use Rattle.dds_core.proofs.Ends.{own_reader_changed, own_reader_stepped, with_read, with_reader}
use Rattle.dds_core.proofs.KnownWriters.{not_known}
use Rattle.dds_ends.proofs.Lists.{get-within, set_back}
use Rattle.dds_ends.proofs.Parting.{IsMatchedSo, first_among, known_there}
use Rattle.dds_ends.proofs.Rows.{handle_is}
use Rattle.dds_core.proofs.Taking.{silent}

-- ---- why it is refused

refused_unknown : (known as_told : Bool) → known ≡ false → matching_refusal known as_told ≡ Some BadParameter
refused_unknown known as_told is = ap (λ (b : Bool). matching_refusal b as_told) is

refused_twice : (known as_told : Bool) → known ≡ true → as_told ≡ true
    → matching_refusal known as_told ≡ Some PreconditionNotMet
refused_twice true true is told = refl
refused_twice true false is told = absurd (let clash : false ≡ true = told in cc)
refused_twice false as_told is told = absurd (let clash : false ≡ true = is in cc)

not_refused : (known as_told : Bool) → known ≡ true → as_told ≡ false → matching_refusal known as_told ≡ None
not_refused true false is told = refl
not_refused true true is told = absurd (let clash : true ≡ false = told in cc)
not_refused false as_told is told = absurd (let clash : false ≡ true = is in cc)

-- a reader that is not there knows nobody
no_rows : (rows : List (List WriterProxy)) (n count : ℕ) → length rows ≡ count → is_number n count ≡ false
    → numbered rows n [] ≡ []
no_rows rows n count same none =
    ⊎_elim (λ (there : HasNumber rows n).
    let low = there.0 in
    let high = there.1 in
    let yes : (nat_lt 0 n && nat_le n count) ≡ true =
    both (nat_lt 0 n) (nat_le n count) (grind (arith, nat_tests, low)) (grind (arith, nat_tests, high, same)) in
    absurd (let clash : true ≡ false = sym yes ∙ none in cc)) (λ e. e) (number_there rows n [])
  where
    both : (a b : Bool) → a ≡ true → b ≡ true → (a && b) ≡ true
    both true true f g = refl
    both true false f g = g
    both false b f g = f

-- the peer has no such reader
nobody_known : (kept : PeerKept) (roster : Roster) (peer : Peer) (reader : ℕ) (writer : Endpoint)
    → StandsFor kept roster peer → is_number reader (length kept.readers) ≡ false
    → is_known (own_proxies peer.part reader) writer ≡ false
nobody_known kept roster peer reader writer s none =
    ap (λ (rows : List WriterProxy). is_known rows writer)
    (no_rows peer.part.rtps.readers reader (length kept.readers) s.readers.rows none)

-- ---- the reader of an index, which is told of the writer of a row

-- the peer's reader of this number is kept at this index, and the writer stands in this row of it
record IsAt (kept : PeerKept) (roster : Roster) (peer : Peer) (reader i row : ℕ) (k : ReaderKept) (writer : Endpoint)
    : Type 0 where
  stands : StandsFor kept roster peer
  number : reader ≡ i + 1
  at : slice_get kept.readers i ≡ Some k
  first : IsFirstRow k.writers writer row

module _ {kept : PeerKept} {roster : Roster} {peer : Peer} {reader i row : ℕ} {k : ReaderKept} {writer : Endpoint}
    (a : IsAt kept roster peer reader i row k writer) where
  stood_there : ReaderStands k (own_proxies peer.part reader) (own_reader peer.part reader)
      (λ w. peer.known.tracked w reader)
  stood_there =
      subst (λ (n : ℕ). ReaderStands k (own_proxies peer.part n) (own_reader peer.part n)
      (λ w. peer.known.tracked w n)) (number_is reader i a.number) (a.stands.readers.each i k a.at)

  is_known_there : is_known (own_proxies peer.part reader) writer ≡ true
  is_known_there =
      known_there (own_proxies peer.part reader) writer row
      (first_among k (own_proxies peer.part reader) (own_reader peer.part reader) (λ w. peer.known.tracked w reader)
      writer row stood_there a.first)

  handle_there : publication_among (own_proxies peer.part reader) writer ≡ Some (row + 1)
  handle_there =
      handle_is (own_proxies peer.part reader) writer row
      (first_among k (own_proxies peer.part reader) (own_reader peer.part reader) (λ w. peer.known.tracked w reader)
      writer row stood_there a.first)

  -- it has become another one
  put_there : (k' : ReaderKept) (proxies : List WriterProxy) (r : Reader) → reader_identity k' ≡ reader_identity k
      → ReaderStands k' proxies r (λ w. peer.known.tracked w reader)
      → StandsFor (with_reader kept i k') roster (record peer { part = with_read peer.part reader proxies r })
  put_there k' proxies r same now =
      subst (λ (n : ℕ). StandsFor (with_reader kept i k') roster
      (record peer { part = with_read peer.part n proxies r })) number
      (own_reader_stepped kept i k k' proxies r peer.known roster peer a.stands a.at same refl (λ w n apart. refl)
      (subst (λ (n : ℕ). ReaderStands k' proxies r (λ w. peer.known.tracked w n)) (sym number) now))
    where
      number : suc i ≡ reader
      number = number_is reader i a.number

module _ {kept : PeerKept} {roster : Roster} {peer : Peer} {reader i row : ℕ} {k : ReaderKept} {writer : Endpoint}
    (met : Bool) (is : IsMatchedSo k row met) (a : IsAt kept roster peer reader i row k writer) where
  met_there : met ≡ is_attached (how_of (own_proxies peer.part reader) writer)
  met_there =
      is writer (own_proxies peer.part reader) (own_reader peer.part reader) (λ w. peer.known.tracked w reader) a.first
      (stood_there a)

-- ---- the calls

-- the peer has no such reader
pub no_reader_matched : (kept : PeerKept) (roster : Roster) (peer : Peer) (reader : ℕ) (writer : Endpoint)
    → StandsFor kept roster peer → is_number reader (length kept.readers) ≡ false
    → Follows kept roster peer (event.Call (call.MatchWriter reader writer)) (silent (Refused BadParameter))
no_reader_matched kept roster peer reader writer s none =
    refused_call kept roster peer s (call.MatchWriter reader writer) BadParameter (
      subst (λ (o : Option Code). Refuses o BadParameter)
          (sym (refused_unknown _ _ (nobody_known kept roster peer reader writer s none))) refl,
      λ memory. absurd cc,
      refl,
    )

pub no_reader_unmatched : (kept : PeerKept) (roster : Roster) (peer : Peer) (reader : ℕ) (writer : Endpoint)
    → StandsFor kept roster peer → is_number reader (length kept.readers) ≡ false
    → Follows kept roster peer (event.Call (call.UnmatchWriter reader writer)) (silent (Refused BadParameter))
no_reader_unmatched kept roster peer reader writer s none =
    refused_call kept roster peer s (call.UnmatchWriter reader writer) BadParameter (
      subst (λ (o : Option Code). Refuses o BadParameter)
          (sym (refused_unknown _ _ (nobody_known kept roster peer reader writer s none))) refl,
      λ memory. absurd cc,
      refl,
    )

-- the writer is none that the reader knows
not_known_there : (kept : PeerKept) (roster : Roster) (peer : Peer) (reader i : ℕ) (k : ReaderKept) (writer : Endpoint)
    → StandsFor kept roster peer → reader ≡ i + 1 → slice_get kept.readers i ≡ Some k
    → ((j : ℕ) (n : WriterName) → slice_get k.writers j ≡ Some n → n.writer ≡ writer → ⊥)
    → is_known (own_proxies peer.part reader) writer ≡ false
not_known_there kept roster peer reader i k writer s is at none =
    subst (λ (n : ℕ). is_known (own_proxies peer.part n) writer ≡ false) (number_is reader i is)
    (not_known (own_proxies peer.part (suc i)) k.writers writer (s.readers.each i k at).writers_are none)

pub no_writer_matched : (kept : PeerKept) (roster : Roster) (peer : Peer) (reader i : ℕ) (k : ReaderKept)
    (writer : Endpoint) → StandsFor kept roster peer → reader ≡ i + 1 → slice_get kept.readers i ≡ Some k
    → ((j : ℕ) (n : WriterName) → slice_get k.writers j ≡ Some n → n.writer ≡ writer → ⊥)
    → Follows kept roster peer (event.Call (call.MatchWriter reader writer)) (silent (Refused BadParameter))
no_writer_matched kept roster peer reader i k writer s is at none =
    refused_call kept roster peer s (call.MatchWriter reader writer) BadParameter (
      subst (λ (o : Option Code). Refuses o BadParameter)
          (sym (refused_unknown _ _ (not_known_there kept roster peer reader i k writer s is at none))) refl,
      λ memory. absurd cc,
      refl,
    )

pub no_writer_unmatched : (kept : PeerKept) (roster : Roster) (peer : Peer) (reader i : ℕ) (k : ReaderKept)
    (writer : Endpoint) → StandsFor kept roster peer → reader ≡ i + 1 → slice_get kept.readers i ≡ Some k
    → ((j : ℕ) (n : WriterName) → slice_get k.writers j ≡ Some n → n.writer ≡ writer → ⊥)
    → Follows kept roster peer (event.Call (call.UnmatchWriter reader writer)) (silent (Refused BadParameter))
no_writer_unmatched kept roster peer reader i k writer s is at none =
    refused_call kept roster peer s (call.UnmatchWriter reader writer) BadParameter (
      subst (λ (o : Option Code). Refuses o BadParameter)
          (sym (refused_unknown _ _ (not_known_there kept roster peer reader i k writer s is at none))) refl,
      λ memory. absurd cc,
      refl,
    )

-- the two are matched already
pub matched_already : (kept : PeerKept) (roster : Roster) (peer : Peer) (reader i row : ℕ) (k : ReaderKept)
    (writer : Endpoint) (met : Bool) → StandsFor kept roster peer → reader ≡ i + 1 → slice_get kept.readers i ≡ Some k
    → IsFirstRow k.writers writer row → IsMatchedSo k row met → met ≡ true
    → Follows kept roster peer (event.Call (call.MatchWriter reader writer)) (silent (Refused PreconditionNotMet))
matched_already kept roster peer reader i row k writer met s number at first is met_is =
    let a : IsAt kept roster peer reader i row k writer =
    record { stands = s; number = number; at = at; first = first } in
    refused_call kept roster peer s (call.MatchWriter reader writer) PreconditionNotMet (
      subst (λ (o : Option Code). Refuses o PreconditionNotMet)
          (sym (refused_twice _ _ (is_known_there a) (sym (met_there met is a) ∙ met_is))) refl,
      λ memory. absurd cc,
      refl,
    )

-- the two are not matched
pub unmatched_already : (kept : PeerKept) (roster : Roster) (peer : Peer) (reader i row : ℕ) (k : ReaderKept)
    (writer : Endpoint) (met : Bool) → StandsFor kept roster peer → reader ≡ i + 1 → slice_get kept.readers i ≡ Some k
    → IsFirstRow k.writers writer row → IsMatchedSo k row met → met ≡ false
    → Follows kept roster peer (event.Call (call.UnmatchWriter reader writer)) (silent (Refused PreconditionNotMet))
unmatched_already kept roster peer reader i row k writer met s number at first is met_is =
    let a : IsAt kept roster peer reader i row k writer =
    record { stands = s; number = number; at = at; first = first } in
    refused_call kept roster peer s (call.UnmatchWriter reader writer) PreconditionNotMet (
      subst (λ (o : Option Code). Refuses o PreconditionNotMet)
          (sym (refused_twice _ _ (is_known_there a)
          (ap (λ (b : Bool). not b) (sym (met_there met is a) ∙ met_is)))) refl,
      λ memory. absurd cc,
      refl,
    )

-- the two are matched from now on
pub matches_writer : (kept : PeerKept) (roster : Roster) (peer : Peer) (reader i row : ℕ) (k k' : ReaderKept)
    (writer : Endpoint) (met : Bool) (handle : ℕ) → StandsFor kept roster peer → reader ≡ i + 1
    → slice_get kept.readers i ≡ Some k → IsFirstRow k.writers writer row → IsMatchedSo k row met → met ≡ false
    → Attaches k row k' → handle ≡ row + 1
    → Follows (with_reader kept i k') roster peer (event.Call (call.MatchWriter reader writer))
    (silent (InstanceHandle handle))
matches_writer kept roster peer reader i row k k' writer met handle s number at first is met_is attaches same =
    let a : IsAt kept roster peer reader i row k writer =
    record { stands = s; number = number; at = at; first = first } in
    let rows : List WriterProxy = own_proxies peer.part reader in
    let r : Reader = own_reader peer.part reader in (
      record peer { part = with_read peer.part reader (with_match rows writer) (reader_joined r writer) },
      record {
        same_number = refl;
        knows = refl;
        step = (
          record {
            answers = (
              not_refused _ _ (is_known_there a) (sym (met_there met is a) ∙ met_is),
              ap InstanceHandle
                  (same ∙ ap (λ (o : Option ℕ). option_map_or (λ (n : ℕ). n) o 0) (sym (handle_there a))),
              refl,
            );
            rtps = refl;
          },
          refl,
        );
        sent = λ p x m h. absurd (omega (arith, m.1));
      },
      put_there a k' (with_match rows writer) (reader_joined r writer) attaches.same
          (attaches.stands writer rows r (λ w. peer.known.tracked w reader) first (stood_there a)),
    )

-- the two are matched no longer
pub unmatches_writer : (kept : PeerKept) (roster : Roster) (peer : Peer) (reader i row : ℕ) (k k' : ReaderKept)
    (writer : Endpoint) (met : Bool) → StandsFor kept roster peer → reader ≡ i + 1
    → slice_get kept.readers i ≡ Some k → IsFirstRow k.writers writer row → IsMatchedSo k row met → met ≡ true
    → Detaches k row kept.moment k'
    → Follows (with_reader kept i k') roster peer (event.Call (call.UnmatchWriter reader writer)) (silent Done)
unmatches_writer kept roster peer reader i row k k' writer met s number at first is met_is detaches =
    let a : IsAt kept roster peer reader i row k writer =
    record { stands = s; number = number; at = at; first = first } in
    let rows : List WriterProxy = own_proxies peer.part reader in
    let r : Reader = own_reader peer.part reader in
    let happened : List Happening = parted_at peer.part reader writer in (
      record peer { part = with_read peer.part reader (with_how rows writer Away) (reader_left r writer happened) },
      record {
        same_number = refl;
        knows = refl;
        step = (
          record {
            answers = (
              not_refused _ _ (is_known_there a) (ap (λ (b : Bool). not b) (sym (met_there met is a) ∙ met_is)),
              refl,
              refl,
            );
            rtps = refl;
          },
          refl,
        );
        sent = λ p x m h. absurd (omega (arith, m.1));
      },
      put_there a k' (with_how rows writer Away) (reader_left r writer happened) detaches.same
          (subst (λ (now : ℕ). ReaderStands k' (with_how rows writer Away)
          (reader_left r writer (happened_after (publication_among rows writer) now r.happened))
          (λ w. peer.known.tracked w reader)) (sym s.moment)
          (detaches.stands writer rows r (λ w. peer.known.tracked w reader) first (stood_there a))),
    )

-- more would have happened than can be counted
pub unmatched_past : (kept : PeerKept) (roster : Roster) (peer : Peer) (reader i row : ℕ) (k k' : ReaderKept)
    (writer : Endpoint) (met : Bool) (code : Code) → StandsFor kept roster peer → reader ≡ i + 1
    → slice_get kept.readers i ≡ Some k → IsFirstRow k.writers writer row → IsMatchedSo k row met → met ≡ true
    → k' ≡ k → IsPastParting k row kept.moment → code ≡ Memory
    → Follows (with_reader kept i k') roster peer (event.Call (call.UnmatchWriter reader writer))
    (silent (Refused code))
unmatched_past kept roster peer reader i row k k' writer met code s number at first is met_is back past memory =
    let a : IsAt kept roster peer reader i row k writer =
    record { stands = s; number = number; at = at; first = first } in
    let rows : List WriterProxy = own_proxies peer.part reader in
    let r : Reader = own_reader peer.part reader in
    subst (λ (rs : List ReaderKept). Follows (record kept { readers = rs }) roster peer
    (event.Call (call.UnmatchWriter reader writer)) (silent (Refused code)))
    (sym (set_back kept.readers i k k' at back))
    (refused_call kept roster peer s (call.UnmatchWriter reader writer) code (
      subst (λ (o : Option Code). Refuses o code)
          (sym (not_refused _ _ (is_known_there a) (ap (λ (b : Bool). not b) (sym (met_there met is a) ∙ met_is))))
          memory,
      λ is_memory.
          subst (λ (now : ℕ). 2 ^ 64 - 1 < length (happened_after (publication_among rows writer) now r.happened))
          (sym s.moment) (past writer rows r (λ w. peer.known.tracked w reader) first (stood_there a)),
      refl,
    ))

-- a look at SUBSCRIPTION_MATCHED of the reader of this index
pub looked_at_matches : (kept : PeerKept) (reader i : ℕ) (k k' : ReaderKept) (status : MatchedStatus) (roster : Roster)
    (peer : Peer) → StandsFor kept roster peer → reader ≡ i + 1 → slice_get kept.readers i ≡ Some k
    → TellsMatches k status → SeesMatches k k'
    → Follows (with_reader kept i k') roster peer (event.Call (call.GetSubscriptionMatched reader))
    (silent (Matched status))
looked_at_matches kept reader i k k' status roster peer s number at tells sees =
    subst (λ (n : ℕ). Follows (with_reader kept i k') roster peer (event.Call (call.GetSubscriptionMatched n))
    (silent (Matched status))) (number_is reader i number) (
      record peer { part = record peer.part { dds = after_matches_look peer.part (suc i) } },
      record {
        same_number = refl;
        knows = refl;
        step = (
          record {
            answers =
                answered_as _ (Matched (subscription_matched rows r)) _ peer.part _ there (ap Matched told);
            rtps = refl;
          },
          refl,
        );
        sent = λ p x m h. absurd (omega (arith, m.1));
      },
      own_reader_changed kept i k k' (reader_looked_at rows r) roster peer s at sees.same
          (sees.stands rows r (λ w. peer.known.tracked w (suc i)) (s.readers.each i k at)),
    )
  where
    rows : List WriterProxy
    rows = own_proxies peer.part (suc i)

    r : Reader
    r = own_reader peer.part (suc i)

    told : status ≡ subscription_matched rows r
    told = tells rows r (λ w. peer.known.tracked w (suc i)) (s.readers.each i k at)

    there : reader_refusal peer.part (suc i) ≡ None
    there =
        let count = s.readers.count in
        let within = get-within kept.readers i k at in
        ap (λ (b : Bool). if not b then Some BadParameter else None)
        (there_is peer.part.dds.readers i (omega (arith, count, within)))

-- ---- whether they are matched

-- the peer's reader of this number says so of the writer of a row
pub met_as_told : (kept : PeerKept) (reader i row : ℕ) (k : ReaderKept) (writer : Endpoint) (met : Bool)
    → reader ≡ i + 1 → slice_get kept.readers i ≡ Some k → IsFirstRow k.writers writer row → IsMatchedSo k row met
    → (roster : Roster) (peer : Peer) → StandsFor kept roster peer
    → met ≡ is_attached (how_of (own_proxies peer.part reader) writer)
met_as_told kept reader i row k writer met number at first is roster peer s =
    met_there met is (record { stands = s; number = number; at = at; first = first })

-- a writer that it does not know
pub met_by_none : (kept : PeerKept) (reader i : ℕ) (k : ReaderKept) (writer : Endpoint) → reader ≡ i + 1
    → slice_get kept.readers i ≡ Some k
    → ((j : ℕ) (n : WriterName) → slice_get k.writers j ≡ Some n → n.writer ≡ writer → ⊥)
    → (roster : Roster) (peer : Peer) → StandsFor kept roster peer
    → false ≡ is_attached (how_of (own_proxies peer.part reader) writer)
met_by_none kept reader i k writer number at none roster peer s =
    away (row_of (λ (p : WriterProxy). p.writer) (own_proxies peer.part reader) writer)
    (not_known_there kept roster peer reader i k writer s number at none)
  where
    away : (o : Option WriterProxy) → is_some o ≡ false
        → false ≡ is_attached (option_map_or (λ (p : WriterProxy). p.how) o Away)
    away None h = refl
    away (Some p) h = absurd (let clash : true ≡ false = h in cc)

-- a reader that is not there
pub met_by_nobody : (kept : PeerKept) (reader : ℕ) (writer : Endpoint) → is_number reader (length kept.readers) ≡ false
    → (roster : Roster) (peer : Peer) → StandsFor kept roster peer
    → false ≡ is_attached (how_of (own_proxies peer.part reader) writer)
met_by_nobody kept reader writer none roster peer s =
    sym (ap (λ (rows : List WriterProxy). is_attached (how_of rows writer))
    (no_rows peer.part.rtps.readers reader (length kept.readers) s.readers.rows none))

-- ---- what a call finds

-- the row of the writer, at the reader as it is found again
pub row_again : (readers : List ReaderKept) (i : ℕ) {row : ℕ} {k0 k : ReaderKept} {names : List WriterName}
    {writer : Endpoint} → slice_get readers i ≡ Some k0 → slice_get readers i ≡ Some k → names ≡ k0.writers
    → IsFirstRow names writer row → IsFirstRow k.writers writer row
row_again readers i {row} {k0} {k} {writer = writer} before at same first =
    subst (λ (x : ReaderKept). IsFirstRow x.writers writer row) (same_Some k0 k (sym before ∙ at))
    (subst (λ (ns : List WriterName). IsFirstRow ns writer row) same first)

-- what it says of the row
pub met_again : (readers : List ReaderKept) (i : ℕ) {row : ℕ} {k0 k : ReaderKept} {met : Bool}
    → slice_get readers i ≡ Some k0 → slice_get readers i ≡ Some k → IsMatchedSo k0 row met → IsMatchedSo k row met
met_again readers i {row} {k0} {k} {met} before at is =
    subst (λ (x : ReaderKept). IsMatchedSo x row met) (same_Some k0 k (sym before ∙ at)) is
