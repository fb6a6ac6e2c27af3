use Rattle.dds_base.specs.Instance.{disposed_generations, no_writers_generations, revives_disposed, revives_without_writers}
use Rattle.dds_base.specs.Life.{ends_life}
use Rattle.std.proofs.Common.{◌+◌}
use Rattle.std.specs.Prelude.{if◌then◌else◌}
use Rattle.dds_base.proofs.LifeLaws.{known-goes-on, over-absent, over-count, over-handle, over-stateless}
use Rattle.dds_base.proofs.laws.an_ended_life_leaves_nothing.Goals as goal

pub returns-clause-unknown : goal.returns-clause-unknown
returns-clause-unknown c = λ q i h e over. over-stateless q i h e over

pub returns-clause-handle : goal.returns-clause-handle
returns-clause-handle c = λ q i h e over. over-handle q i h e over

pub returns-clause-disposed : goal.returns-clause-disposed
returns-clause-disposed c =
    λ q i h e over. over-count (disposed_generations q i h + (if revives_disposed q i h e then 1 else 0))
    (ends_life q i h e) over

pub returns-clause-no_writers : goal.returns-clause-no_writers
returns-clause-no_writers c =
    λ q i h e over. over-count (no_writers_generations q i h + (if revives_without_writers q i h e then 1 else 0))
    (ends_life q i h e) over

pub returns-clause-absent : goal.returns-clause-absent
returns-clause-absent c = λ q i h e over j above below. over-absent q i h e over j above below

pub returns-clause-goes_on : goal.returns-clause-goes_on
returns-clause-goes_on c = λ q i h known. known-goes-on q i h known
