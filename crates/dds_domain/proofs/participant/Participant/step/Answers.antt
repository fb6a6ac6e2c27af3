use Rattle.std.proofs.Common.{refl}
use Rattle.dds_domain.proofs.participant.Participant.step.Goals as goal

pub returns-in-Ok-Done : goal.returns-in-Ok-Done
returns-in-Ok-Done c = record {
  done = c.in-Ok-Done.field-0-0;
  step = rw (← c.self.view_is) (rw c.in-Ok-Done.field-0-is at c.in-Ok-Done.ensures.ok);
  rest = rw (← c.self.view_is) refl;
  sent = c.send_any.ensures;
}
