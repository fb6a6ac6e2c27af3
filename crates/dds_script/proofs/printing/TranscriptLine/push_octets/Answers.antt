use Rattle.std.proofs.Common.{arith}
use Rattle.dds_script.proofs.LineLaws.{octet_more}
use Rattle.dds_script.proofs.printing.TranscriptLine.push_octets.Goals as goal

pub loop-octet-preserved : goal.loop-octet-preserved
loop-octet-preserved c =
    octet_more c.args.self.now c.loop-octet.self c.push.new.self c.args.octets.now c.loop-octet.octet-index
    (omega (arith, c.loop-octet-test.true)) (omega (arith, c.type_inv.octets c.loop-octet.octet-index)) c.loop-octet.invariant
    (rw (c.in_radix.ensures, c.laid_out.ensures) at c.push.ensures.added)
