use Rattle.std.proofs.Common.{ap, sym, ◌∙◌}
use Rattle.dds_base.specs.declared.config_rules.Pass.{Pass}
use Rattle.dds_base.specs.FaultAt.{first_broken, reader_rules}
use Rattle.dds_base.proofs.config_rules.reader_rule.Goals as goal

pub returns-in-Parameters : goal.returns-in-Parameters
returns-in-Parameters c =
    c.reader_parameter.ensures c.args.peers.now
    ∙ ap (λ (pass : Pass). first_broken (reader_rules pass c.args.peers.now c.args.peer.now c.args.reader.now))
    (sym c.in-Parameters.is)

pub returns-in-Policies : goal.returns-in-Policies
returns-in-Policies c =
    c.reader_policy.ensures c.args.peer.now
    ∙ ap (λ (pass : Pass). first_broken (reader_rules pass c.args.peers.now c.args.peer.now c.args.reader.now))
    (sym c.in-Policies.is)
