use Rattle.std.proofs.Common.{ℕ, ◌+◌, Bool, Option, Some, None, ap, length}
use Rattle.std.specs.Prelude.{if◌then◌else◌}
use Rattle.dds_base.specs.declared.change.ChangeKind.{ChangeKind}
use Rattle.dds_base.specs.Instance.{disposed_generations, no_writers_generations, revives_disposed, revives_without_writers}
use Rattle.dds_base.specs.Life.{last_accepted, last_marker, or_else}
use Rattle.dds_base.specs.Ownership.{accepted_kind}
use Rattle.dds_base.specs.Presence.{marks}
use Rattle.dds_laws.proofs.GoingOn.{begun-goes, known-goes}
use Rattle.dds_laws.proofs.where_no_life_ends_all_goes_on.Goals as goal

pub returns-clause-accepted : goal.returns-clause-accepted
returns-clause-accepted c =
    λ q i h e on. ap (λ (b : Bool). if b then None else or_else (accepted_kind q i h e) (last_accepted q i h)) on

pub returns-clause-marker : goal.returns-clause-marker
returns-clause-marker c =
    λ q i h e on. ap (λ (b : Bool). if b then None
    else (if marks q i h e then Some (length h + 1) else last_marker q i h)) on

pub returns-clause-disposed : goal.returns-clause-disposed
returns-clause-disposed c =
    λ q i h e on. ap (λ (b : Bool). if b then 0
    else disposed_generations q i h + (if revives_disposed q i h e then 1 else 0)) on

pub returns-clause-no_writers : goal.returns-clause-no_writers
returns-clause-no_writers c =
    λ q i h e on. ap (λ (b : Bool). if b then 0
    else no_writers_generations q i h + (if revives_without_writers q i h e then 1 else 0)) on

pub returns-clause-known : goal.returns-clause-known
returns-clause-known c = λ q h e on. known-goes q h e on

pub returns-clause-begun : goal.returns-clause-begun
returns-clause-begun c = λ q h e on before. begun-goes q h e on before
