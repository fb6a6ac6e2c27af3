use Rattle.std.proofs.Common.{◌∙◌}
use Rattle.rtps_discovery.proofs.Saying.{says_none, says_one}
use Rattle.rtps_discovery.proofs.spdp.said_by.Goals as goal

pub returns-in_err-participant-clause-only : goal.returns-in_err-participant-clause-only
returns-in_err-participant-clause-only c = λ s said.
    c.from_residual-in_err-participant.ensures
    ∙ says_none c.args.source c.args.domain c.args.frame.now.id c.args.frame.now.flags c.args.frame.now.body.now
    c.in_ok-has_ended.payload.now c.in_ok-has_ended.has_ended s c.in_ok-has_ended.ensures c.if-has_ended.false
    c.in_err-participant.ensures.only said

pub returns-clause-only : goal.returns-clause-only
returns-clause-only c = λ s said.
    says_one c.args.source c.args.domain c.args.frame.now.id c.args.frame.now.flags c.args.frame.now.body.now
    c.in_ok-has_ended.payload.now c.in_ok-has_ended.has_ended c.in_ok-participant.participant s
    c.in_ok-has_ended.ensures c.if-has_ended.false c.in_ok-participant.ensures.only said
