use Rattle.std.proofs.Common.{subst}
use Rattle.dds_ends.specs.Kept.{ReaderKept}
use Rattle.dds_ends.specs.Looking.{SeesMatches}
use Rattle.dds_ends.proofs.SeenMatches.{sees_kept}
use Rattle.dds_ends.proofs.reader_end.ReaderEnd.get_subscription_matched.Goals as goal

pub returns-clause-seen : goal.returns-clause-seen
returns-clause-seen c =
    let kept : ReaderKept = record {
      entity = c.self.inside.entity;
      writers = c.self.inside.writers.items;
      reader = c.self.inside.reader;
      store = c.self.inside.store;
      seen = c.self.inside.seen;
      matches = c.self.inside.matches;
      here = c.self.inside.here;
    } in
    subst (λ (k : ReaderKept). SeesMatches k (record kept { matches = c.see.new.self })) c.self.view_is
    (sees_kept kept c.see.new.self (λ m counts. c.see.ensures.seen m counts))
