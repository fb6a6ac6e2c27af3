use Rattle.std.proofs.Common.{subst, sym}
use Rattle.dds_base.specs.Written.{Changed}
use Rattle.dds_ends.specs.Kept.{WriterKept}
use Rattle.dds_ends.specs.Standing.{IsShort}
use Rattle.dds_ends.proofs.WriterEnds.{accepts_if, enters_if, refuses_if, whole_if}
use Rattle.dds_ends.proofs.writer_end.WriterEnd.append.Goals as goal

pub invariant_of-self : goal.invariant_of-self
invariant_of-self c =
    whole_if c.write.result c.self.inside.max_value c.self.inside.known.items c.self.inside.matched.items c.self.inside.destinations.items c.self.inside.readers.items c.self.inside.writer
    c.write.new.self c.args.change c.self.invariant
    (subst (λ (k : WriterKept). IsShort k.max_value c.args.change.value) (sym c.self.view_is) c.requires.short)
    c.write.ensures.readers c.write.ensures.ok
    c.write.ensures.err

pub returns-clause-ok : goal.returns-clause-ok
returns-clause-ok c =
    enters_if c.write.result _ c.args.self.now
    (Changed c.args.change) c.write.new.self c.self.view_is c.write.ensures.ok

pub returns-clause-accepted : goal.returns-clause-accepted
returns-clause-accepted c =
    accepts_if c.write.result _ c.args.self.now c.args.change c.self.view_is c.write.ensures.accepted

pub returns-clause-refused : goal.returns-clause-refused
returns-clause-refused c =
    refuses_if c.write.result _ c.args.self.now c.args.change c.self.view_is c.write.ensures.refused
