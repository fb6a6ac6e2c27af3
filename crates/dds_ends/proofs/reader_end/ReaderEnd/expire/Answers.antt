use Rattle.std.proofs.Common.{subst}
use Rattle.dds_ends.specs.Expiring.{Expires}
use Rattle.dds_ends.specs.Kept.{ReaderKept}
use Rattle.dds_ends.proofs.Dying.{expires}
use Rattle.dds_ends.proofs.reader_end.ReaderEnd.expire.Goals as goal

pub returns : goal.returns
returns c = record {
  expires =
      let kept : ReaderKept =
      record {
        entity = c.self.inside.entity;
        writers = c.self.inside.writers.items;
        reader = c.self.inside.reader;
        store = c.self.inside.store;
        seen = c.self.inside.seen;
        matches = c.self.inside.matches;
        here = c.self.inside.here;
      } in
      subst (λ (k : ReaderKept). Expires k c.args.now (record kept { store = c.expire.new.self })) c.self.view_is
      (expires kept c.args.now c.expire.new.self c.expire.ensures.qos c.expire.ensures.died);
}
