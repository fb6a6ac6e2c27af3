use Rattle.std.proofs.Common.{refl, arith, rules}
use Rattle.std.proofs.lemmas.Grind.{common_steps}
use Rattle.dds_ends.specs.Readiness.{receiver_at}
use Rattle.dds_core.proofs.Ready.{none_there, all_alike_self, alike_more, ready_for, ready_more, rest_more, row_is, row_named, row_within, still_ready}
use Rattle.dds_core.proofs.delivery.prepare.Goals as goal

pub loop-index-init : goal.loop-index-init
loop-index-init c =
    record {
      alike = all_alike_self c.args.readers.now;
      left = refl;
      count = search rules;
      each = λ i k r at_k at_r.
          absurd (none_there c.args.ready.now.items i r c.requires.none at_r);
    }

pub prepare-requires : goal.prepare-requires
prepare-requires c =
    row_within c.args.own.now (receiver_at c.args.receiver.now) c.args.submessage.now _ c.row_at-row.result
    (row_is c.args.own.now (receiver_at c.args.receiver.now) c.args.submessage.now c.loop-index.readers
    c.loop-index.index c.index-readers-index.result c.index-readers-index-in-loop-index.result c.row_at-row.result
    (search rules)
    (row_named c.args.own.now (receiver_at c.args.receiver.now) c.args.submessage.now c.args.readers.now c.args.first
    c.loop-index.index _ c.row_at-row.result c.requires.first
    (still_ready c.args.readers.now c.loop-index.readers c.loop-index.index _ c.index-readers-index.result
    c.loop-index.invariant.left (search rules) refl) c.row_at-row.ensures.row))

pub returns-in_err-one-clause-alike : goal.returns-in_err-one-clause-alike
returns-in_err-one-clause-alike c =
    alike_more c.args.readers.now c.loop-index.readers c.loop-index.index _ c.prepare.new.self
    c.loop-index.invariant.alike (search rules) (search rules) c.prepare.ensures.alike

pub returns-in_err-push-clause-alike : goal.returns-in_err-push-clause-alike
returns-in_err-push-clause-alike c =
    alike_more c.args.readers.now c.loop-index.readers c.loop-index.index _ c.prepare.new.self
    c.loop-index.invariant.alike (search rules) (search rules) c.prepare.ensures.alike

pub loop-index-preserved : goal.loop-index-preserved
loop-index-preserved c =
    record {
      alike =
          alike_more c.args.readers.now c.loop-index.readers c.loop-index.index _ c.prepare.new.self
          c.loop-index.invariant.alike (search rules) (search rules) c.prepare.ensures.alike;
      left = rest_more c.args.readers.now c.loop-index.readers c.loop-index.index c.prepare.new.self
          c.loop-index.invariant.left;
      count = grind (arith, common_steps);
      each =
          ready_more c.args.own.now (receiver_at c.args.receiver.now) c.args.submessage.now c.loop-index.readers
          c.loop-index.ready.items c.push.new.self.items c.loop-index.index c.prepare.new.self c.in_ok-one.one
          c.loop-index.invariant.count
          c.in_ok-push.ensures.ok c.loop-index.invariant.each
          (ready_for c.args.own.now (receiver_at c.args.receiver.now) c.args.submessage.now _ c.prepare.new.self
          c.row_at-row.result c.in_ok-one.one c.prepare.ensures.alike
          (row_is c.args.own.now (receiver_at c.args.receiver.now) c.args.submessage.now c.loop-index.readers
          c.loop-index.index c.index-readers-index.result c.index-readers-index-in-loop-index.result
          c.row_at-row.result (search rules)
          (row_named c.args.own.now (receiver_at c.args.receiver.now) c.args.submessage.now c.args.readers.now
          c.args.first c.loop-index.index _ c.row_at-row.result c.requires.first
          (still_ready c.args.readers.now c.loop-index.readers c.loop-index.index _ c.index-readers-index.result
          c.loop-index.invariant.left (search rules) refl) c.row_at-row.ensures.row)) c.in_ok-one.ensures.ready);
    }
