use Rattle.std.proofs.Common.{subst}
use Rattle.dds_ends.specs.Expiring.{IsPastCounting}
use Rattle.dds_ends.specs.Kept.{ReaderKept}
use Rattle.dds_ends.proofs.Dying.{past_counting}
use Rattle.dds_ends.proofs.reader_end.ReaderEnd.counts_deaths.Goals as goal

pub returns-clause-past : goal.returns-clause-past
returns-clause-past c = λ is.
    let kept : ReaderKept =
    record {
      entity = c.self.inside.entity;
      writers = c.self.inside.writers.items;
      reader = c.self.inside.reader;
      store = c.self.inside.store;
      seen = c.self.inside.seen;
      matches = c.self.inside.matches;
      here = c.self.inside.here;
    } in
    subst (λ (k : ReaderKept). IsPastCounting k c.args.now) c.self.view_is
    (past_counting kept c.args.now (c.counts_deaths.ensures.past is))
