use Rattle.std.proofs.Common.{rules}
use Rattle.dds_domain.proofs.participant.Participant.open.Goals as goal

pub returns-in-Ok-open-clause-opened : goal.returns-in-Ok-open-clause-opened
returns-in-Ok-open-clause-opened c =
    rw (← c.in-Ok.ensures.all) (rw (← c.parts.view_is) (record {
      discovery = rw c.replace-ends.ensures.value at c.in_ok-discovery.ensures.begun;
      sharing = c.in-Ok-open.ensures.opened;
      left = search rules;
    }))
