use Rattle.dds_history.proofs.Counting.{recounted}
use Rattle.dds_history.proofs.held.Kept.tidy_keys.Goals as goal

pub returns-then-saturating_add-len-clause-same : goal.returns-then-saturating_add-len-clause-same
returns-then-saturating_add-len-clause-same c = λ last holds.
    recounted c.args.self.now.policy last c.args.self.now.live c.args.self.now.keys.entries c.forget_idle.new.keys.entries
    c.args.self.now.entries.items c.forget_idle.ensures holds
