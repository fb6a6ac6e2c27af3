use Rattle.std.proofs.Common.{◌≡◌, true, rules}
use Rattle.dds_base.specs.Checked.{same_prefix}
use Rattle.dds_builtin.proofs.Saying.{says_there}
use Rattle.dds_builtin.proofs.said.hear.Goals as goal

pub returns-clause-ok : goal.returns-clause-ok
returns-clause-ok c =
    let own : same_prefix c.guid_of-guid.result.prefix c.args.prefix.now ≡ true = search rules in
    let valid : c.args.sample.now.info.valid_data ≡ true = search rules in
    says_there c.args.prefix.now c.args.kind c.args.sample.now c.args.endpoints.now c.take_up.new.endpoints
    c.in_ok-told.told.items c.guid_of-guid.result c.guid_of-guid.ensures.guid own valid c.in_ok-told.ensures.ok
