use Rattle.rtps_writer.proofs.AnswerFacts.{answers_after-complete, answers_after-dropped, answers_after-right}
use Rattle.rtps_writer.proofs.laws.answers_are_right.Goals as goal

pub returns-clause-right : goal.returns-clause-right
returns-clause-right c = λ s reader base set. answers_after-right s reader base set

pub returns-clause-dropped : goal.returns-clause-dropped
returns-clause-dropped c = λ s reader base set within positive. answers_after-dropped s reader base set within positive

pub returns-clause-complete : goal.returns-clause-complete
returns-clause-complete c = λ s reader base set n few. answers_after-complete s reader base set n few
