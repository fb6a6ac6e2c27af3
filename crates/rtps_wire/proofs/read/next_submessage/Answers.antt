use Rattle.rtps_wire.proofs.read.next_submessage.Goals as goal

pub returns-clause-found : goal.returns-clause-found
returns-clause-found c = (
  c.in_ok-frame.frame.id,
  c.in_ok-frame.frame.flags,
  c.in_ok-frame.frame.body.now,
  c.in_ok-frame.ensures.found,
  c.submessage_of.ensures,
)
