-- A step of a peer that was given its last answer back.
use Rattle.std.proofs.Common.{◌≡◌, ℕ, List, subst}
use Rattle.dds_notices.specs.declared.notice.Notice.{Notice}
use Rattle.dds_machine.specs.Watching.{Tests}
use Rattle.dds_protocol.specs.declared.event.Event.{Event}
use Rattle.dds_protocol.specs.declared.event.Output.{Output}
use Rattle.dds_core.specs.Listening.{CoreKept, Steps}

-- it is one of the peer as it was before
pub steps_as_before : {F L : Type 0} (notices : L → List Notice) (capacity : L → ℕ) (becomes : L → Notice → L → Type 0)
    (tests : List F → Tests) (old now : CoreKept F L) (event : Event) (output : Output) (new : CoreKept F L)
    → now ≡ old → Steps notices capacity becomes (tests now.filtered.filters) now event output new
    → Steps notices capacity becomes (tests old.filtered.filters) old event output new
steps_as_before {F} {L} notices capacity becomes tests old now event output new same steps =
    subst (λ (k : CoreKept F L). Steps notices capacity becomes (tests k.filtered.filters) k event output new) same steps
