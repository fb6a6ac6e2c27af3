-- An access of one of the peer's readers: a read or a take, in any of its forms.
use Rattle.std.proofs.Common.{◌≡◌, ◌≢◌, ℕ, suc, ◌+◌, ◌<◌, Bool, true, not, List, [], ◌∷◌, Option, Some, None, set, length, get_or, slice_get, refl, ap, sym, ◌∙◌, subst, arith}
use Rattle.std.specs.Prelude.{if◌then◌else◌, Result, Ok, Err}
use Rattle.std.proofs.lemmas.Option.{slice_get_read}
use Rattle.dds_base.specs.declared.code.Code.{Code}
use Rattle.dds_base.specs.declared.code.Code.TheVariants.{BadParameter, NoData}
use Rattle.dds_protocol.specs.Roster.{Roster}
use Rattle.dds_base.specs.declared.guid.EntityId.{EntityId}
use Rattle.dds_base.specs.declared.happening.Happening.{Happening}
use Rattle.dds_base.specs.declared.happening.Happening.TheVariants.{Read as HasRead, Took}
use Rattle.dds_base.specs.declared.happening.SamplePosition.{SamplePosition}
use Rattle.dds_base.specs.declared.selection.Scope.{Scope}
use Rattle.dds_base.specs.declared.selection.Selection.{Selection}
use Rattle.dds_base.specs.declared.qos.ReaderQos.{ReaderQos}
use Rattle.dds_base.specs.declared.sample.Sample.{Sample}
use Rattle.dds_base.specs.Access.{no_filter, collection_of}
use Rattle.dds_base.specs.Refusal.{Refuses}
use Rattle.dds_base.specs.Selection.{picked_by, selection_refusal}
use Rattle.dds_base.specs.StatusFlags.{turned_at}
use Rattle.dds_base.specs.Statuses.{lost_count}
use Rattle.dds_base.specs.Number.{at_number}
use Rattle.dds_cache.specs.declared.access_kind.AccessKind.{AccessKind}
use Rattle.dds_cache.specs.declared.access_kind.AccessKind.TheVariants.{Read as Reading, Take as Taking}
use Rattle.dds_cache.specs.Standing.{Stored, qos_of, StandsFor as CacheStandsFor, entry_of, AccessAnswers, AfterAccess, picked, refusal}
use Rattle.dds_machine.specs.Passing.{passed_at}
use Rattle.dds_machine.specs.declared.call.Call.{Call}
use Rattle.dds_protocol.specs.declared.event.Event.TheVariants as event
use Rattle.dds_protocol.specs.declared.event.Output.{Output}
use Rattle.dds_machine.specs.declared.reply.Reply.{Reply}
use Rattle.dds_machine.specs.declared.reply.Reply.TheVariants.{Samples, Refused}
use Rattle.dds_machine.specs.Refusals.{access_refusal}
use Rattle.dds_machine.specs.Calls.{Answers as CallAnswers, AnswersAccess, AnswersByCondition, CallStep, Effect, MayWantMemory, nothing, effect, effect_of, picked_at, with_happening}
use Rattle.dds_machine.specs.Numbered.{has_element}
use Rattle.dds_conditions.specs.NoFilters.{no_filters}
use Rattle.dds_machine.specs.Part.{Part, Dds, Reader, WriterProxy, own_reader, own_proxies, Seen}
use Rattle.dds_protocol.specs.Peer.{Peer}
use Rattle.dds_machine.specs.Watching.{Test, Tests, condition_refusal, condition_selection, filter_of, test_of}
use Rattle.dds_core.specs.Accesses.{access_call, condition_call}
use Rattle.dds_core.specs.declared.watching.Asked.{Asked}
use Rattle.dds_ends.specs.declared.matching.WriterName.{WriterName}
use Rattle.rtps_reader.specs.Reader.{Proxies, Tracks, how_at}
use Rattle.rtps_reader.specs.Tracked.{Tracked}
use Rattle.dds_lease.specs.Standing.{Kept as Leased, StandsFor as LeasesStandFor}
use Rattle.dds_ends.specs.Stored.{StoreKept}
use Rattle.dds_ends.specs.Storing.{Holds}
use Rattle.dds_base.specs.declared.endpoint.Endpoint.{Endpoint}
use Rattle.dds_ends.proofs.Rows.{writers_of}
use Rattle.dds_ends.specs.declared.match_counts.MatchCounts.{MatchCounts}
use Rattle.dds_ends.specs.MatchCounts.{CountsFor}
use Rattle.dds_ends.specs.Kept.{ReaderKept}
use Rattle.dds_core.specs.Kept.{PeerKept}
use Rattle.dds_ends.specs.Looking.{TakesOnly, access_reply}
use Rattle.dds_ends.specs.Standing.{HasNoRow, IsFirstRow, ReaderStands, stood_as}
use Rattle.dds_core.specs.Standing.{StandsFor}
use Rattle.dds_core.proofs.CallSteps.{FollowsBy, follows_as, knows_still, refused_call, still_stands, there_is}
use Rattle.dds_core.proofs.Ends.{with_reader, own_reader_changed}
use Rattle.dds_core.proofs.Taking.{silent}
use Rattle.dds_ends.proofs.Identities.{same_identity}
use Rattle.dds_ends.proofs.Lists.{set_back}

-- what happens at a reader where an access was entered: nothing was passed over, and no writer asserted or died
pub record IsQuiet (entry : List SamplePosition → Happening) : Type 0 where
  pub lost : (samples : List SamplePosition) (h : List Happening) → lost_count (entry samples ∷ h) ≡ lost_count h
  pub passed : (samples : List SamplePosition) (h : List Happening) → passed_at (entry samples ∷ h) ≡ passed_at h
  pub turned : (samples : List SamplePosition) (h : List Happening) → turned_at (entry samples ∷ h) ≡ turned_at h
  pub leases : (kept : Leased) (q : ReaderQos) (samples : List SamplePosition) (h : List Happening)
      → LeasesStandFor kept q h → LeasesStandFor kept q (entry samples ∷ h)

-- the call is an access of this kind: it is answered as one, and does nothing at a writer
pub record IsAccess (tests : Tests) (part : Part) (c : Call) (kind : AccessKind) (test : Test) (reader : ℕ)
    (selection : Selection) : Type 0 where
  pub answers : (reply : Reply) (dds : Dds) → AnswersAccess (entry_of kind) test part reader selection reply dds
      → CallAnswers tests part c reply dds
  pub effect : (reply : Reply) → effect_of part c reply ≡ nothing

-- an access is quiet
pub access_is_quiet : (kind : AccessKind) → IsQuiet (entry_of kind)
access_is_quiet Reading = record {
  lost = λ samples h. refl;
  passed = λ samples h. refl;
  turned = λ samples h. refl;
  leases = λ kept q samples h s. record { tracks = s.tracks; last_turned = s.last_turned; matched = (tt, s.matched) };
}
access_is_quiet Taking = record {
  lost = λ samples h. refl;
  passed = λ samples h. refl;
  turned = λ samples h. refl;
  leases = λ kept q samples h s. record { tracks = s.tracks; last_turned = s.last_turned; matched = (tt, s.matched) };
}

pub is_access : (kind : AccessKind) (part : Part) (reader : ℕ) (selection : Selection)
    → IsAccess no_filters part (access_call kind reader selection) kind no_filter reader selection
is_access Reading part reader selection = record { answers = λ reply dds a. a; effect = λ reply. refl }
is_access Taking part reader selection = record { answers = λ reply dds a. a; effect = λ reply. refl }

-- one by a condition against which there is no cause is such an access
by_condition : (entry : List SamplePosition → Happening) (refusal : Option Code) (asked_test test : Test) (part : Part)
    (reader : ℕ) (asked selection : Selection) (reply : Reply) (dds : Dds)
    → refusal ≡ None → asked_test ≡ test → asked ≡ selection
    → AnswersAccess entry asked_test part reader asked reply dds
    → AnswersByCondition entry refusal test part reader selection reply dds
by_condition entry refusal asked_test test part reader asked selection reply dds none same is access =
    subst (λ (o : Option Code). AnswersByCondition entry o test part reader selection reply dds) (sym none)
    (subst (λ (x : Selection). AnswersAccess entry test part reader x reply dds) is
    (subst (λ (f : Test). AnswersAccess entry f part reader asked reply dds) same access))

-- what was asked for is what the condition asks for, against which there is no cause
abbrev IsAsked : Part → ℕ → Scope → ℕ → Asked → Type 0
IsAsked part reader scope condition asked =
    (condition_refusal part reader scope condition ≡ None)
    × (asked.selection ≡ condition_selection part scope condition)
    × (asked.filter ≡ filter_of (at_number part.dds.watch.conditions condition))

pub is_access_by : (kind : AccessKind) (tests : Tests) (part : Part) (reader : ℕ) (scope : Scope) (condition : ℕ)
    (asked : Asked)
    → IsAsked part reader scope condition asked
    → IsAccess tests part (condition_call kind reader scope condition) kind
    (test_of tests asked.filter) reader asked.selection
is_access_by Reading tests part reader scope condition asked is = record {
  answers = λ reply dds a.
      by_condition HasRead _ (test_of tests asked.filter) _ part reader asked.selection _ reply dds is.0
      (ap (λ (f : Option ℕ). test_of tests f) is.2) is.1 a;
  effect = λ reply. refl;
}
is_access_by Taking tests part reader scope condition asked is = record {
  answers = λ reply dds a.
      by_condition Took _ (test_of tests asked.filter) _ part reader asked.selection _ reply dds is.0
      (ap (λ (f : Option ℕ). test_of tests f) is.2) is.1 a;
  effect = λ reply. refl;
}

-- the reader with one more entry, an access
one_entered : (entry : List SamplePosition → Happening) → IsQuiet entry
    → (k k' : ReaderKept) (proxies : List WriterProxy) (r : Reader) (tracked : Endpoint → Tracked)
    (samples : List SamplePosition) → TakesOnly k k' → ReaderStands k proxies r tracked
    → CacheStandsFor k'.store.cache (entry samples ∷ r.happened)
    → ReaderStands k' proxies (record r { happened = entry samples ∷ r.happened }) tracked
one_entered entry quiet k k' proxies r tracked samples same s stands = record {
  writers_are = s.writers_are ∙ ap (λ (ns : List WriterName). writers_of ns) (sym same.writers);
  places = s.places;
  knows =
      λ w n f. subst (λ (x : Proxies). Tracks x n (tracked w)) (sym same.reader)
      (s.knows w n (subst (λ (ns : List WriterName). IsFirstRow ns w n) same.writers f));
  others = λ w none. s.others w (subst (λ (ns : List WriterName). HasNoRow ns w) same.writers none);
  qos_is = s.qos_is ∙ sym same.qos;
  holds = record {
    cache = stands;
    leases =
        subst (λ (l : Leased). LeasesStandFor l (qos_of k'.store.cache) (entry samples ∷ r.happened)) (sym same.leases)
        (subst (λ (q : ReaderQos). LeasesStandFor k.store.leases q (entry samples ∷ r.happened)) (sym same.qos)
        (quiet.leases k.store.leases (qos_of k.store.cache) samples r.happened s.holds.leases));
    lost_is = same.lost ∙ (s.holds.lost_is ∙ sym (quiet.lost samples r.happened));
    passed_is = same.passed ∙ (s.holds.passed_is ∙ sym (quiet.passed samples r.happened));
    turned_is = same.turned ∙ (s.holds.turned_is ∙ sym (quiet.turned samples r.happened));
  };
  seen_is = s.seen_is ∙ sym same.seen;
  hows = λ w n f.
      s.hows w n (subst (λ (ns : List WriterName). IsFirstRow ns w n) same.writers f)
      ∙ ap (λ (x : Proxies). stood_as (how_at x n)) (sym same.reader);
  counts = subst (λ (m : MatchCounts). CountsFor m r.matches) (sym same.matches) s.counts;
  here_is = same.here ∙ s.here_is;
}

-- the part after an access
abbrev after_access : (List SamplePosition → Happening) → Part → ℕ → List SamplePosition → Part
after_access entry part reader samples = record part { dds = with_happening part reader (entry samples) }

-- an access that was entered
entered : (tests : Tests) (entry : List SamplePosition → Happening) → IsQuiet entry
    → (c : Call) (kept : PeerKept) (i : ℕ) (k k' : ReaderKept) (roster : Roster) (peer : Peer)
    → StandsFor kept roster peer → slice_get kept.readers i ≡ Some k → TakesOnly k k' → (reply : Reply)
    (samples : List SamplePosition)
    → CacheStandsFor k'.store.cache (entry samples ∷ (own_reader peer.part (suc i)).happened)
    → CallStep tests peer.part c reply (after_access entry peer.part (suc i) samples)
    → effect_of peer.part c reply ≡ nothing
    → FollowsBy tests (with_reader kept i k') roster peer (event.Call c) (silent reply)
entered tests entry quiet c kept i k k' roster peer s at same reply samples stands step none =
    let part : Part = peer.part in
    let proxies : List WriterProxy = own_proxies part (suc i) in
    let r : Reader = own_reader part (suc i) in
    let one : ReaderStands k' proxies (record r { happened = entry samples ∷ r.happened })
    (λ w. peer.known.tracked w (suc i)) = one_entered entry quiet k k' proxies r
    (λ w. peer.known.tracked w (suc i)) samples same (s.readers.each i k at) stands in (
      record peer { part = after_access entry part (suc i) samples },
      record {
        same_number = refl;
        knows = knows_still peer c reply nothing none refl;
        step = (step, refl);
        sent = λ p x m h. absurd (omega (arith, m.1));
      },
      own_reader_changed kept i k k' (record r { happened = entry samples ∷ r.happened }) roster peer s at
          (same_identity k' k same.entity same.writers same.qos) one,
    )

-- an access that was refused, and is not entered
not_entered : (tests : Tests) (c : Call) (kept : PeerKept) (i : ℕ) (k k' : ReaderKept) (roster : Roster) (peer : Peer)
    (code : Code) → StandsFor kept roster peer → slice_get kept.readers i ≡ Some k → k' ≡ k
    → CallAnswers tests peer.part c (Refused code) peer.part.dds
    → FollowsBy tests (with_reader kept i k') roster peer (event.Call c) (silent (Refused code))
not_entered tests c kept i k k' roster peer code s at same is =
    let unchanged : set kept.readers i k' ≡ kept.readers = set_back kept.readers i k k' at same in
    subst (λ (rs : List ReaderKept). FollowsBy tests (record kept { readers = rs }) roster peer (event.Call c)
    (silent (Refused code))) (sym unchanged) (refused_call kept roster peer s c code is)

kept_same : (k k' : ReaderKept) → TakesOnly k k' → k'.store.cache ≡ k.store.cache → k' ≡ k
kept_same k k' same cache =
    reader_as k'.entity k.entity k'.writers k.writers k'.reader k.reader k'.store k.store k'.seen k.seen
    k'.matches k.matches k'.here k.here same.entity
    same.writers same.reader
    (store_as k'.store.lost k.store.lost k'.store.passed k.store.passed k'.store.turned k.store.turned
    k'.store.leases k.store.leases k'.store.cache k.store.cache same.lost same.passed same.turned same.leases cache)
    same.seen same.matches same.here
  where
    store_as : (i j : ℕ) (p q t u : Option ℕ) (l m : Leased) (c d : Stored) → i ≡ j → p ≡ q → t ≡ u → l ≡ m → c ≡ d
        → ◌≡◌ {A = StoreKept} (record { lost = i; passed = p; turned = t; leases = l; cache = c })
        (record { lost = j; passed = q; turned = u; leases = m; cache = d })
    store_as i j p q t u l m c d e f g h k = cc

    reader_as : (a b : EntityId) (x y : List WriterName) (p q : Proxies) (s t : StoreKept) (i j : Seen)
        (m n : MatchCounts) (c d : ℕ) → a ≡ b → x ≡ y → p ≡ q → s ≡ t → i ≡ j → m ≡ n → c ≡ d
        → ◌≡◌ {A = ReaderKept}
        (record { entity = a; writers = x; reader = p; store = s; seen = i; matches = m; here = c })
        (record { entity = b; writers = y; reader = q; store = t; seen = j; matches = n; here = d })
    reader_as a b x y p q s t i j m n c d e f g h l u v = cc

-- what a cache answers is what the machine answers
accessed : (tests : Tests) (kind : AccessKind) (c : Call) (test : Test) (i : ℕ) (selection : Selection)
    (kept : PeerKept) (k k' : ReaderKept) (roster : Roster) (peer : Peer)
    → IsAccess tests peer.part c kind test (suc i) selection → StandsFor kept roster peer
    → slice_get kept.readers i ≡ Some k → TakesOnly k k' → (r : Result (List Sample) Code)
    → access_refusal peer.part (suc i) selection
    ≡ refusal k.store.cache (own_reader peer.part (suc i)).happened selection
    → (own_reader peer.part (suc i)).qos ≡ qos_of k.store.cache
    → AccessAnswers k.store.cache (own_reader peer.part (suc i)).happened selection test r
    → AfterAccess kind k.store.cache (own_reader peer.part (suc i)).happened selection test r k'.store.cache
    → FollowsBy tests (with_reader kept i k') roster peer (event.Call c) (silent (access_reply r))
accessed tests kind c test i selection kept k k' roster peer is s at same (Ok samples) causes qos answer after =
    let h : List Happening = (own_reader peer.part (suc i)).happened in
    let found : picked k.store.cache h selection test ≡ picked_at test peer.part (suc i) selection =
    ap (λ (q : ReaderQos). picked_by q h selection test) (sym qos) in
    let some : picked_at test peer.part (suc i) selection ≢ [] = λ none. answer.1 (found ∙ none) in
    let collected : samples ≡ collection_of (own_reader peer.part (suc i)).qos h
    (picked_at test peer.part (suc i) selection) =
    answer.2 ∙ (ap (λ (ps : List SamplePosition). collection_of (qos_of k.store.cache) h ps) found
    ∙ ap (λ (q : ReaderQos). collection_of q h (picked_at test peer.part (suc i) selection)) (sym qos)) in
    entered tests (entry_of kind) (access_is_quiet kind) c kept i k k' roster peer s at same (Samples samples)
    (picked_at test peer.part (suc i) selection)
    (subst (λ (ps : List SamplePosition). CacheStandsFor k'.store.cache (entry_of kind ps ∷ h)) found after)
    (record {
      answers = is.answers (Samples samples)
          (with_happening peer.part (suc i) (entry_of kind (picked_at test peer.part (suc i) selection)))
          (causes ∙ answer.0, some, collected, refl);
      rtps = ap (λ (e : Effect). effect peer.part.rtps e)
          (sym (is.effect (Samples samples)));
    })
    (is.effect (Samples samples))
accessed tests kind c test i selection kept k k' roster peer is s at same (Err NoData) causes qos answer after =
    let h : List Happening = (own_reader peer.part (suc i)).happened in
    let found : picked k.store.cache h selection test ≡ picked_at test peer.part (suc i) selection =
    ap (λ (q : ReaderQos). picked_by q h selection test) (sym qos) in
    entered tests (entry_of kind) (access_is_quiet kind) c kept i k k' roster peer s at same (Refused NoData) [] after
    (record {
      answers = is.answers (Refused NoData) (with_happening peer.part (suc i) (entry_of kind []))
          (causes ∙ answer.0, sym found ∙ answer.1, refl);
      rtps = ap (λ (e : Effect). effect peer.part.rtps e)
          (sym (is.effect (Refused NoData)));
    })
    (is.effect (Refused NoData))
accessed tests kind c test i selection kept k k' roster peer is s at same (Err code) causes qos answer after =
    not_entered tests c kept i k k' roster peer code s at (kept_same k k' same after)
    (is.answers (Refused code) peer.part.dds (
      subst (λ (o : Option Code). Refuses o code) (sym causes) answer.0,
      refl,
      λ want.
          subst (λ (ps : List SamplePosition). MayWantMemory ps (own_reader peer.part (suc i)).happened)
          (ap (λ (q : ReaderQos). picked_by q (own_reader peer.part (suc i)).happened selection test) (sym qos))
          (answer.1 want),
    ))

-- the same of the reader of a number, where it stands in the opened peer
pub accessed_at : {tests : Tests} {kind : AccessKind} {c : Call} {test : Test} {reader : ℕ}
    {selection : Selection} {kept now : PeerKept} (i : ℕ) (k k' : ReaderKept) (roster : Roster) (peer : Peer)
    → kept ≡ now → StandsFor now roster peer → IsAccess tests peer.part c kind test reader selection
    → reader ≡ i + 1 → i < length kept.readers → k ≡ get_or kept.readers i k → TakesOnly k k'
    → (r : Result (List Sample) Code)
    → ((h : List Happening) → Holds k.store h → AccessAnswers k.store.cache h selection test r)
    → ((h : List Happening) → Holds k.store h → AfterAccess kind k.store.cache h selection test r k'.store.cache)
    → (output : Output) (reply : Reply) → output ≡ silent reply → reply ≡ access_reply r
    → FollowsBy tests (with_reader kept i k') roster peer (event.Call c) output
accessed_at {tests} {kind} {c} {test} {selection = selection} {kept} i k k' roster peer view given is number lt element
    same r answer after output reply told replied =
    let s = still_stands view given in
    let at : slice_get kept.readers i ≡ Some k =
    slice_get_read kept.readers (length kept.readers) i k refl lt element in
    let index : i + 1 ≡ suc i = omega arith in
    let rs = s.readers.each i k at in
    let count = s.readers.count in
    let h : List Happening = (own_reader peer.part (suc i)).happened in
    let known : has_element peer.part.dds.readers (suc i) ≡ true =
    there_is peer.part.dds.readers i (omega (arith, lt, count)) in
    let causes : access_refusal peer.part (suc i) selection ≡ refusal k.store.cache h selection =
    ap (λ (b : Bool). if not b then Some BadParameter else selection_refusal
    (own_reader peer.part (suc i)).qos h selection) known
    ∙ ap (λ (q : ReaderQos). selection_refusal q h selection) rs.qos_is in
    follows_as _ roster peer (event.Call c) (silent (access_reply r)) output (told ∙ ap silent replied)
    (accessed tests kind c test i selection kept k k' roster peer
    (subst (λ (n : ℕ). IsAccess tests peer.part c kind test n selection) (number ∙ index) is) s at same r causes
    rs.qos_is (answer h rs.holds) (after h rs.holds))
