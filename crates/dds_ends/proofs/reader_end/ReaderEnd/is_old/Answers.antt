use Rattle.std.proofs.Common.{subst, inr, refl}
use Rattle.dds_base.specs.declared.guid.EntityId.{EntityId}
use Rattle.dds_ends.specs.Readiness.{receiver_at, IsNamedFor}
use Rattle.dds_ends.proofs.Named.{names_one}
use Rattle.dds_ends.proofs.reader_end.ReaderEnd.is_old.Goals as goal

pub returns-in-None : goal.returns-in-None
returns-in-None c = inr (
  λ reader_id writer_id by_these k here.
      let one = names_one c.args.submessage.now reader_id writer_id c.args.ids.now.reader c.args.ids.now.writer by_these
      c.requires in
      c.in-None.ensures.none k
      (subst (λ (w : EntityId). IsNamedFor c.args.own.now c.args.self.now
      (receiver_at c.args.receiver.now) c.args.ids.now.reader w k) one.1
      (subst (λ (r : EntityId). IsNamedFor c.args.own.now c.args.self.now (receiver_at c.args.receiver.now) r writer_id k)
      one.0 here)),
  refl,
)
