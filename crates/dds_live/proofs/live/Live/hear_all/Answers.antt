use Rattle.dds_live.specs.Turns.{none}
use Rattle.dds_live.proofs.Laws.{any}
use Rattle.dds_live.proofs.live.Live.hear_all.Goals as goal

pub loop-count-init : goal.loop-count-init
loop-count-init c = none any c.args.moment c.args.self.now c.args.turn.now
