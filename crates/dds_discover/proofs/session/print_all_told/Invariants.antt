-- those so far are printed
use Rattle.std.proofs.Common.{take}
use Rattle.std.specs.Io.KnownBytes.{Appends}
use Rattle.dds_discover.specs.Session.{told_lines}
use Rattle.dds_discover.proofs.session.print_all_told.Given as goal

abbrev pub invariant-loop-one : goal.invariant-loop-one
invariant-loop-one g l =
    Appends (g.W.Write.contents l.initial.output) (g.W.Write.contents l.output) (told_lines (take l.one-index l.told))
