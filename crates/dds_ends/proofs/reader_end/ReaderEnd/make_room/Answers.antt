use Rattle.dds_ends.proofs.Fitting.{fits_on}
use Rattle.dds_ends.proofs.Alike.{alike_as}
use Rattle.dds_ends.proofs.reader_end.ReaderEnd.make_room.Goals as goal

pub invariant_of-self : goal.invariant_of-self
invariant_of-self c =
    fits_on c.self.invariant c.reserve_for.ensures.qos c.reserve_for.ensures.writers c.reserve_for.ensures.count

pub returns-clause-alike : goal.returns-clause-alike
returns-clause-alike c =
    alike_as c.self.view_is c.reserve_for.ensures.same c.reserve_for.ensures.how c.reserve_for.ensures.qos
    c.reserve_for.ensures.stands
