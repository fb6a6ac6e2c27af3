-- A configuration that is taken matches a best-effort writer with best-effort readers alone.
use Rattle.std.proofs.Common.{◌≡◌, ℕ, zero, suc, ◌+◌, ◌==◌, Bool, true, false, ◌&&◌, ◌||◌, cond, Option, Some, None, List, [], ◌∷◌, ◌++◌, slice_get, refl, ap, sym, ◌∙◌, arith}
use Rattle.std.specs.Prelude.{if◌then◌else◌}
use Rattle.std.specs.List.{list_any}
use Rattle.std.proofs.lemmas.Bool.Decides.{nat_tests}
use Rattle.std.proofs.lemmas.Option.{same_Some}
use Rattle.dds_base.specs.declared.code.Code.{Code}
use Rattle.dds_base.specs.declared.code.Code.TheVariants.{BadParameter, InconsistentPolicy}
use Rattle.dds_base.specs.declared.config.PeerConfig.{PeerConfig}
use Rattle.dds_base.specs.declared.config.WriterConfig.{WriterConfig}
use Rattle.dds_base.specs.declared.config.ReaderConfig.{ReaderConfig}
use Rattle.dds_base.specs.declared.qos.ReliabilityQos.TheVariants.{BestEffort}
use Rattle.dds_base.specs.Checked.{are_incompatible, check_refusal, exceeds_limit, has_bad_parameter, has_inconsistent_policy, is_inconsistent_peer}
use Rattle.dds_base.specs.Matched.{is_reliable_reader, matched_writers_of, of_ends_in, of_matched_ends, of_reliable_readers, same_topic}
use Rattle.dds_base.proofs.MatchedLaws.{any_matched, any_of}
use Rattle.dds_base.proofs.PairLaws.{reliable-unfit}

-- ---- tests that nobody passes

neither : (a b : Bool) → (a || b) ≡ false → (a ≡ false) × (b ≡ false)
neither true b h = absurd (cc)
neither false b h = (refl, h)

none_at : {X : Type 0} (test : X → Bool) (xs : List X) (i : ℕ) (x : X) → list_any test xs ≡ false
    → slice_get xs i ≡ Some x → test x ≡ false
none_at test [] i x none at = absurd (cc)
none_at test (y ∷ ys) zero x none at =
    ap test (sym (same_Some y x at)) ∙ (neither (test y) (list_any test ys) none).0
none_at test (y ∷ ys) (suc i) x none at = none_at test ys i x (neither (test y) (list_any test ys) none).1 at

none_of : {X : Type 0} (test : X → Bool) (xs : List X)
    → ((i : ℕ) (x : X) → slice_get xs i ≡ Some x → test x ≡ false) → list_any test xs ≡ false
none_of test [] each = refl
none_of test (y ∷ ys) each =
    ap (λ (b : Bool). b || list_any test ys) (each 0 y refl) ∙ none_of test ys (λ i x at. each (suc i) x at)

-- ---- ends that nobody is told of

told_if : {X : Type 0} (x : X) (xs : List X) (is_told later : Bool) → (is_told || later) ≡ false
    → (later ≡ false → xs ≡ []) → cond is_told (x ∷ xs) xs ≡ []
told_if x xs true later h none = absurd (cc)
told_if x xs false later h none = none h

none_in : {E X : Type 0} (is_wanted : E → Bool) (topic_of : E → ℕ) (tell : ℕ → E → X) (topic number : ℕ) (es : List E)
    → list_any (λ e. is_wanted e && same_topic (topic_of e) topic) es ≡ false
    → of_ends_in is_wanted topic_of tell topic number es ≡ []
none_in is_wanted topic_of tell topic number [] none = refl
none_in is_wanted topic_of tell topic number (e ∷ es) none =
    told_if (tell number e) (of_ends_in is_wanted topic_of tell topic (number + 1) es)
    (is_wanted e && same_topic (topic_of e) topic) (list_any (λ d. is_wanted d && same_topic (topic_of d) topic) es) none
    (λ later. none_in is_wanted topic_of tell topic (number + 1) es later)

none_matched : {E X : Type 0} (ends : PeerConfig → List E) (is_wanted : E → Bool) (topic_of : E → ℕ)
    (tell : ℕ → PeerConfig → ℕ → E → X) (topic peer : ℕ) (ps : List PeerConfig)
    → list_any (λ p. list_any (λ e. is_wanted e && same_topic (topic_of e) topic) (ends p)) ps ≡ false
    → of_matched_ends ends is_wanted topic_of tell topic peer ps ≡ []
none_matched ends is_wanted topic_of tell topic peer [] none = refl
none_matched ends is_wanted topic_of tell topic peer (p ∷ ps) none =
    let both = neither (list_any (λ e. is_wanted e && same_topic (topic_of e) topic) (ends p))
    (list_any (λ q. list_any (λ e. is_wanted e && same_topic (topic_of e) topic) (ends q)) ps) none in
    ap (λ (xs : List _). xs ++ of_matched_ends ends is_wanted topic_of tell topic (peer + 1) ps)
    (none_in is_wanted topic_of (tell peer p) topic 1 (ends p) both.0)
    ∙ none_matched ends is_wanted topic_of tell topic (peer + 1) ps both.1

-- ---- a configuration that is taken

taken_by : (bad inconsistent : Bool)
    → (if bad then Some BadParameter else (if inconsistent then Some InconsistentPolicy else None)) ≡ None
    → inconsistent ≡ false
taken_by true inconsistent h = absurd (cc)
taken_by false true h = absurd (cc)
taken_by false false h = refl

-- a writer and a reader of it that do not fit are of two topics
apart : (w : WriterConfig) (r : ReaderConfig) (reliable : Bool) → w.reliability ≡ BestEffort
    → is_reliable_reader r ≡ reliable → (same_topic w.topic r.topic && are_incompatible r w) ≡ false
    → (is_reliable_reader r && same_topic r.topic w.topic) ≡ false
apart w r false best is unfit = ap (λ (b : Bool). b && same_topic r.topic w.topic) is
apart w r true best is unfit =
    let other : (same_topic w.topic r.topic && true) ≡ false =
    ap (λ (b : Bool). same_topic w.topic r.topic && b) (sym (reliable-unfit w r best is)) ∙ unfit in
    let topics : same_topic r.topic w.topic ≡ false = grind (arith, nat_tests, other) in
    ap (λ (b : Bool). b && same_topic r.topic w.topic) is ∙ topics

pub no_reliable-reader : {X : Type 0} (tell : ℕ → PeerConfig → ℕ → ReaderConfig → X) (peers : List PeerConfig) (i k : ℕ)
    (p : PeerConfig) (w : WriterConfig) → check_refusal peers ≡ None → slice_get peers i ≡ Some p
    → slice_get p.writers k ≡ Some w → w.reliability ≡ BestEffort → of_reliable_readers tell w.topic 1 peers ≡ []
no_reliable-reader tell peers i k p w taken at within best =
    let fit : has_inconsistent_policy peers ≡ false =
    taken_by (has_bad_parameter peers) (has_inconsistent_policy peers) taken in
    let pair : (q : PeerConfig) (r : ReaderConfig) → is_inconsistent_peer peers q ≡ false → (m : ℕ)
    → slice_get q.readers m ≡ Some r → (is_reliable_reader r && same_topic r.topic w.topic) ≡ false =
    λ q r peer m there.
    let ends = neither (list_any (λ (v : WriterConfig). exceeds_limit v.history v.max_samples) q.writers) _ peer in
    let reader = none_at (λ (s : ReaderConfig). exceeds_limit s.history s.max_samples
    || list_any (are_incompatible s) (matched_writers_of peers s)) q.readers m r ends.1 there in
    let matched = neither (exceeds_limit r.history r.max_samples) _ reader in
    let of_peers = sym (any_matched (are_incompatible r) r.topic 1 peers) ∙ matched.1 in
    let of_writers = none_at (any_of (are_incompatible r) r.topic) peers i p of_peers at in
    apart w r (is_reliable_reader r) best refl
    (none_at (λ (v : WriterConfig). same_topic v.topic r.topic && are_incompatible r v) p.writers k w of_writers
    within) in
    none_matched (λ (q : PeerConfig). q.readers) is_reliable_reader (λ (r : ReaderConfig). r.topic) tell w.topic 1 peers
    (none_of (λ q. list_any (λ r. is_reliable_reader r && same_topic r.topic w.topic) q.readers) peers
    (λ j q here. none_of (λ r. is_reliable_reader r && same_topic r.topic w.topic) q.readers
    (λ m r there. pair q r (none_at (is_inconsistent_peer peers) peers j q fit here) m there)))
