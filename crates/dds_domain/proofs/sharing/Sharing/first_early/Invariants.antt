-- none before waits for a writer that is heard
use Rattle.std.proofs.Common.{◌≡◌, ◌<◌, ℕ, false}
use Rattle.std.specs.Prelude.{Some, slice_get}
use Rattle.dds_domain.specs.declared.early.Waiting.{Waiting}
use Rattle.dds_domain.specs.Heard.{IsHeardSo}
use Rattle.dds_domain.proofs.sharing.Sharing.first_early.Given as goal

abbrev pub invariant-loop-place : goal.invariant-loop-place
invariant-loop-place l =
    (place : ℕ) (waiting : Waiting) → place < l.place → slice_get l.self.early place ≡ Some waiting
    → IsHeardSo false l.self.exchange waiting.writer
