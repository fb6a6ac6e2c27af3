use Rattle.rtps_fragments.proofs.Placing.{all_with}
use Rattle.rtps_fragments.proofs.assembly.all_came_with.Goals as goal

pub returns-then-all_came : goal.returns-then-all_came
returns-then-all_came c =
    all_with c.args.came.now c.args.place c.args.count c.all_came.result c.all_came-then-all_came.result c.requires
    c.all_came.ensures c.if-all_came.true c.all_came-then-all_came.ensures
