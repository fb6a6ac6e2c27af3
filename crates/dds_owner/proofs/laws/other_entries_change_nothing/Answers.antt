use Rattle.std.proofs.Common.{Bool, ◌&&◌, ◌||◌, ◌==◌, not, ap, refl}
use Rattle.dds_base.specs.declared.happening.Happening.TheVariants.{Came, Joined}
use Rattle.dds_base.specs.Happening.{is_unregister, is_write_or_dispose}
use Rattle.dds_base.specs.Ownership.{is_registered}
use Rattle.dds_owner.proofs.KeptLaws.{other-stands}
use Rattle.dds_owner.proofs.laws.other_entries_change_nothing.Goals as goal

pub returns-clause-came : goal.returns-clause-came
returns-clause-came c = λ kept q i h a given other.
    other-stands kept q i (Came a) h
    (λ w. ap
    (λ (b : Bool). not ((b && (a.writer == w)) && is_unregister a.change.kind)
    && (((b && (a.writer == w)) && is_write_or_dispose a.change.kind) || is_registered i w h))
    other)
    given

pub returns-clause-joined : goal.returns-clause-joined
returns-clause-joined c = λ kept q i h m given. other-stands kept q i (Joined m) h (λ w. refl) given
