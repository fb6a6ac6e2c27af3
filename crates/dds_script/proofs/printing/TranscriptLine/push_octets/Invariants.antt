use Rattle.std.proofs.Common.{take}
use Rattle.dds_script.specs.Lines.{Adds, octets_text}
use Rattle.dds_script.proofs.printing.TranscriptLine.push_octets.Given as goal

abbrev pub invariant-loop-octet : goal.invariant-loop-octet
invariant-loop-octet l = Adds l.initial.self (octets_text (take l.octet-index l.octets)) l.self
