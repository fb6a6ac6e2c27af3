-- A test of matched writers, made peer by peer.
use Rattle.std.proofs.Common.{◌≡◌, ℕ, ◌+◌, Bool, true, false, ◌&&◌, ◌||◌, cond, List, [], ◌∷◌, refl, ap, ◌∙◌}
use Rattle.std.specs.List.{list_any}
use Rattle.std.proofs.lemmas.List.Folds.{list_any-append}
use Rattle.dds_base.specs.declared.config.PeerConfig.{PeerConfig}
use Rattle.dds_base.specs.declared.config.WriterConfig.{WriterConfig}
use Rattle.dds_base.specs.Matched.{same_topic, of_matched_writers}
use Rattle.dds_base.specs.MatchedAt.{of_writers_in}

if_matched : (test : WriterConfig → Bool) (w : WriterConfig) (found : List WriterConfig) (later matched : Bool)
    → list_any test found ≡ later → list_any test (cond matched (w ∷ found) found) ≡ ((matched && test w) || later)
if_matched test w found later true h = ap (λ (b : Bool). test w || b) h
if_matched test w found later false h = h

any_in : (test : WriterConfig → Bool) (topic number : ℕ) (ws : List WriterConfig)
    → list_any test (of_writers_in (λ n w. w) topic number ws) ≡ list_any (λ w. same_topic w.topic topic && test w) ws
any_in test topic number [] = refl
any_in test topic number (w ∷ ws) =
    if_matched test w (of_writers_in (λ n v. v) topic (number + 1) ws) _ (same_topic w.topic topic)
    (any_in test topic (number + 1) ws)

-- a peer has a writer of the topic that passes the test
abbrev pub any_of : (WriterConfig → Bool) → ℕ → PeerConfig → Bool
any_of test topic p = list_any (λ w. same_topic w.topic topic && test w) p.writers

pub any_matched : (test : WriterConfig → Bool) (topic peer : ℕ) (ps : List PeerConfig)
    → list_any test (of_matched_writers (λ i p n w. w) topic peer ps) ≡ list_any (any_of test topic) ps
any_matched test topic peer [] = refl
any_matched test topic peer (p ∷ ps) =
    list_any-append test (of_writers_in (λ n w. w) topic 1 p.writers)
    (of_matched_writers (λ i q n w. w) topic (peer + 1) ps)
    ∙ (ap (λ (b : Bool). b || list_any test (of_matched_writers (λ i q n w. w) topic (peer + 1) ps))
    (any_in test topic 1 p.writers)
    ∙ ap (λ (b : Bool). any_of test topic p || b) (any_matched test topic (peer + 1) ps))
