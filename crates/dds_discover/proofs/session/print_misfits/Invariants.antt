-- those so far are printed
use Rattle.std.proofs.Common.{take}
use Rattle.std.specs.Io.KnownBytes.{Appends}
use Rattle.dds_discover.specs.Session.{misfit_lines}
use Rattle.dds_discover.proofs.session.print_misfits.Given as goal

abbrev pub invariant-loop-misfit : goal.invariant-loop-misfit
invariant-loop-misfit g l =
    Appends (g.W.Write.contents l.initial.output) (g.W.Write.contents l.output) (misfit_lines (take l.misfit-index l.misfits))
