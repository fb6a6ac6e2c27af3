use Rattle.std.proofs.Common.{List, ap, ◌∙◌}
use Rattle.dds_base.specs.declared.config.PeerConfig.{PeerConfig}
use Rattle.dds_base.specs.FaultAt.{config_fault}
use Rattle.dds_base.proofs.FaultLaws.{fault-none, fault-code, fault-broken}
use Rattle.dds_base.proofs.config.Config.fault.Goals as goal

pub returns-clause-none : goal.returns-clause-none
returns-clause-none c =
    fault-none c.args.self.now.peers c.config_fault.result
    (c.config_fault.ensures ∙ ap (λ (ps : List PeerConfig). config_fault ps) c.as_slice.ensures.elements)

pub returns-clause-code : goal.returns-clause-code
returns-clause-code c =
    fault-code c.args.self.now.peers c.config_fault.result
    (c.config_fault.ensures ∙ ap (λ (ps : List PeerConfig). config_fault ps) c.as_slice.ensures.elements)

pub returns-clause-broken : goal.returns-clause-broken
returns-clause-broken c =
    fault-broken c.args.self.now.peers c.config_fault.result
    (c.config_fault.ensures ∙ ap (λ (ps : List PeerConfig). config_fault ps) c.as_slice.ensures.elements)
