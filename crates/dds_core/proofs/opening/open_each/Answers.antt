use Rattle.std.proofs.Common.{List, Ok, rules, subst}
use Rattle.std.proofs.lemmas.List.{take_all}
use Rattle.std.specs.Fn.{FnReturnsAt}
use Rattle.dds_core.specs.OpeningEnds.{OpensEach}
use Rattle.dds_core.proofs.OpeningLaws.{opens_more}
use Rattle.dds_core.proofs.opening.open_each.Goals as goal

pub loop-config-preserved : goal.loop-config-preserved
loop-config-preserved g c =
    opens_more (λ config end. FnReturnsAt g.F.Fn c.args.make config (Ok end)) c.args.configs.now
    c.loop-config.all.items c.push.new.self.items c.loop-config.config-index c.config-item.result c.in_ok-make.field-0
    (search rules) c.loop-config.invariant c.in_ok-push.ensures.items
    (record { shown = _; shows = c.config-item.is; says = record { met = c.in_ok-make.ensures } })

pub returns : goal.returns
returns g c =
    subst (λ (configs : List _). OpensEach (λ config end. FnReturnsAt g.F.Fn c.args.make config (Ok end)) configs
    c.loop-config.all.items) (take_all c.loop-config.config-index c.args.configs.now (search rules))
    c.loop-config.invariant
