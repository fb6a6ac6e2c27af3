use Rattle.std.proofs.Common.{List, [], length, ap, sym, ◌∙◌, refl, rules}
use Rattle.dds_base.specs.declared.qos.MatchedWriter.{MatchedWriter}
use Rattle.dds_base.proofs.JoinLaws.{nobody-joined}
use Rattle.dds_instances.proofs.instances.Instances.open.Goals as goal

pub returns-clause-opening : goal.returns-clause-opening
returns-clause-opening c = record {
  writers_are = (search rules) ∙ sym (ap (λ (ws : List MatchedWriter). length ws) (nobody-joined c.args.qos.now [] refl));
  happened_is = refl;
  strengths_are = c.new.ensures.opening;
  begun_is = refl;
  follows = search rules;
  lawful = search rules;
}
