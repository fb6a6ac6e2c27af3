use Rattle.std.proofs.Common.{◌≡◌, [], ◌∷◌, ◌++◌, arith}
use Rattle.std.proofs.lemmas.Grind.{common_steps}
use Rattle.dds_world.specs.declared.round.RoundReply.{RoundReply}
use Rattle.dds_world.proofs.Meetings.{nobody_in}
use Rattle.dds_world.proofs.world.World.add_step.Goals as goal

pub returns-clause-step : goal.returns-clause-step
returns-clause-step g c =
    let reply : RoundReply =
    record { reply = c.step-reply.result; sent = c.sent-sent.result; unsent = c.unsent-unsent.result } in
    let items : c.push.new.self.items ≡ c.args.replies.now.items ++ reply ∷ [] = grind (arith, common_steps) in (
      reply,
      items,
      λ given. record {
        rules = λ roster network s.
            c.step-reply.ensures.rules given roster network s
            (nobody_in roster c.args.event c.step-reply.result c.requires.quiet);
        sent = c.sent-sent.ensures.sent;
        unsent = c.unsent-unsent.ensures.unsent;
      },
    )
