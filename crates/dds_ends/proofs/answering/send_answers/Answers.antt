use Rattle.std.proofs.Common.{rules}
use Rattle.dds_base.specs.Written.{changes_of}
use Rattle.dds_ends.proofs.Replies.{sent_more, sent_all, answerable_after, full_group_as, nothing_left}
use Rattle.dds_ends.proofs.answering.send_answers.Goals as goal

pub loop-rest-preserved : goal.loop-rest-preserved
loop-rest-preserved c = record {
  can =
      answerable_after c.args.answering.now.max_value c.args.writer.now c.loop-rest.rest.now c.split_at.result.0.now c.split_at.result.1.now
      (search rules) c.loop-rest.invariant.can;
  few = let few = c.loop-rest.invariant.few in let more = c.send_made.ensures.few in search rules;
  sends = λ s stands.
      sent_more c.args.answering.now (changes_of s.written) c.args.answers.now c.loop-rest.rest.now
      c.split_at.result.0.now c.split_at.result.1.now c.args.sent.now c.loop-rest.sent c.send_made.new.sent
      (c.loop-rest.invariant.sends s stands) (search rules) (search rules)
      (search rules)
      (λ some. full_group_as c.args.answering.now.max_value _ c.answers_per-per.ensures.per c.loop-rest.rest.now c.split_at.result.0.now c.split_at.result.1.now c.min-count.result
      (search rules) (search rules) (search rules) some)
      (c.send_made.ensures.adds _ (c.message-message.ensures.says s stands));
  messages = λ h. c.send_made.ensures.messages (c.loop-rest.invariant.messages h);
}

pub returns-clause-sends : goal.returns-clause-sends
returns-clause-sends c = λ s stands.
    sent_all c.args.answering.now (changes_of s.written) c.args.answers.now c.loop-rest.rest.now c.args.sent.now
    c.loop-rest.sent (c.loop-rest.invariant.sends s stands) (nothing_left c.loop-rest.rest.now 0 (search rules))
