use Rattle.dds_base.proofs.OwnerLaws.{owner_of-found, owner-one, owner-exists, owner-among}
use Rattle.dds_base.proofs.laws.owner_is_found.Goals as goal

pub returns-clause-found : goal.returns-clause-found
returns-clause-found c = λ q h ws w e. owner_of-found q h ws w e

pub returns-clause-only : goal.returns-clause-only
returns-clause-only c = λ q h ws v w own_v own_w. owner-one q h ws v w own_v own_w

pub returns-clause-exists : goal.returns-clause-exists
returns-clause-exists c = λ q i h own some. owner-exists q i h own some

pub returns-clause-among : goal.returns-clause-among
returns-clause-among c = λ q h ws w. owner-among q h ws w
