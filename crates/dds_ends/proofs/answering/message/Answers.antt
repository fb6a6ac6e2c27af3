use Rattle.std.proofs.Common.{arith}
use Rattle.rtps_wire.specs.declared.submessage.Submessage.TheVariants.{InfoDst}
use Rattle.dds_base.specs.Written.{changes_of}
use Rattle.dds_protocol.specs.DueMessages.{submessages_of}
use Rattle.dds_ends.proofs.Replies.{answers_writable, light_more, stands_more}
use Rattle.dds_ends.proofs.answering.message.Goals as goal

pub returns-clause-writable : goal.returns-clause-writable
returns-clause-writable c =
    let few = c.requires.few in
    let last = c.loop-answer-test.false in
    answers_writable c.args.answering.now.own c.loop-answer.submessages c.loop-answer.answer-index
    c.args.answering.now.max_value c.as_slice-own.ensures.len
    c.loop-answer.invariant.each (omega (arith, few, last)) c.loop-answer.invariant.few c.loop-answer.invariant.light
    c.loop-answer.invariant.short

pub loop-answer-preserved : goal.loop-answer-preserved
loop-answer-preserved c =
    let more = c.in_ok-push_answer.ensures.spells.few in
    let before = c.loop-answer.invariant.few in
    record {
      says = λ s stands. stands_more
          (submessages_of (changes_of s.written) c.args.answering.now.reader.guid.entity c.args.answering.now.entity)
          (InfoDst c.args.answering.now.reader.guid.prefix) c.loop-answer.submessages
          c.push_answer.new.submessages
          c.args.answers.now c.loop-answer.answer-index c.answer-item.result c.loop-answer-test.true c.answer-item.is
          (c.loop-answer.invariant.says s stands) (c.in_ok-push_answer.ensures.adds s stands);
      each = c.in_ok-push_answer.ensures.spells.each c.loop-answer.invariant.each;
      few = omega (arith, more, before);
      light =
          light_more c.loop-answer.answer-index c.args.answering.now.max_value _ _ c.loop-answer.invariant.light
          c.in_ok-push_answer.ensures.spells.light;
      short =
          light_more c.loop-answer.answer-index 65000 _ _ c.loop-answer.invariant.short
          c.in_ok-push_answer.ensures.spells.short;
    }
