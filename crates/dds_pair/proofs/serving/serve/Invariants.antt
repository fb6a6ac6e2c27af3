use Rattle.std.proofs.Common.{◌≡◌, length}
use Rattle.dds_pair.specs.Serving.{Served}
use Rattle.dds_pair.proofs.serving.serve.Given as goal

abbrev pub invariant-loop-turns : goal.invariant-loop-turns
invariant-loop-turns g l =
    (served : Served g.K.Link.sends g.K.Link.receives g.G.Gate.says l.fn.pass l.pass l.fn.link l.fn.gate l.link l.gate)
    × (length served.turns ≡ l.turns)
