use Rattle.std.proofs.Common.{subst, inl, inr, sym, ◌∙◌}
use Rattle.dds_base.specs.declared.guid.EntityId.{EntityId}
use Rattle.dds_ends.specs.Readiness.{receiver_at, IsNamedFor}
use Rattle.dds_ends.proofs.Named.{names_one}
use Rattle.dds_ends.proofs.reader_end.ReaderEnd.named_row.Goals as goal

pub returns-in_default-clause-row : goal.returns-in_default-clause-row
returns-in_default-clause-row c = inl (λ reader_id writer_id by_these k here.
    let one = names_one c.args.submessage.now reader_id writer_id c.args.ids.now.reader c.args.ids.now.writer by_these
    c.requires in
    c.in_default.ensures.none k
    (subst (λ (w : EntityId). IsNamedFor c.args.own.now c.args.self.now
    (receiver_at c.args.receiver.now) c.args.ids.now.reader w k) one.1
    (subst (λ (r : EntityId). IsNamedFor c.args.own.now c.args.self.now (receiver_at c.args.receiver.now) r writer_id k)
    one.0 here)))

pub returns-then-not-may_do-clause-row : goal.returns-then-not-may_do-clause-row
returns-then-not-may_do-clause-row c =
    let t = c.may_do.ensures.known in
    inr (record {
      row = c.in-Some.row;
      named = record {
        reader_id = c.args.ids.now.reader;
        writer_id = c.args.ids.now.writer;
        by = c.requires;
        named = c.in-Some.ensures.found;
      };
      idle = record { known = t.0; tracks = t.1; does = sym (c.may_do.ensures.does t.0 t.1) ∙ c.if-not-may_do.true };
    })

pub returns-clause-row : goal.returns-clause-row
returns-clause-row c = record {
  reader_id = c.args.ids.now.reader;
  writer_id = c.args.ids.now.writer;
  by = c.requires;
  named = c.in-Some.ensures.found;
}

pub returns-clause-does : goal.returns-clause-does
returns-clause-does c =
    let t = c.may_do.ensures.known in
    record { known = t.0; tracks = t.1; does = sym (c.may_do.ensures.does t.0 t.1) ∙ c.if-not-may_do.false }
