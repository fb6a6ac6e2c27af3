use Rattle.dds_owner.proofs.KeptLaws.{blank-owners}
use Rattle.dds_owner.proofs.owners.Owners.open.Goals as goal

pub returns-clause-ok : goal.returns-clause-ok
returns-clause-ok c = blank-owners c.args.writers _ c.in_ok-registrations.ensures
