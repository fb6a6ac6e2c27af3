use Rattle.dds_conditions.specs.Filtered.{tests_of}
use Rattle.dds_c.specs.Meaning.{prefix_meaning, recorder_becomes, recorder_capacity, recorder_notices}
use Rattle.dds_c.proofs.Recycled.{steps_as_before}
use Rattle.dds_c.proofs.session.Session.deliver.Goals as goal

pub returns-clause-step : goal.returns-clause-step
returns-clause-step c =
    steps_as_before recorder_notices recorder_capacity recorder_becomes (tests_of prefix_meaning) c.args.self.now.core
    c.recycle.new.self.core _ c.deliver.result c.deliver.new.self c.recycle.ensures.core c.deliver.ensures.step
