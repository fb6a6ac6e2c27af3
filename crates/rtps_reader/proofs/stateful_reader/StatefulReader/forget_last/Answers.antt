use Rattle.std.proofs.Common.{List, subst}
use Rattle.rtps_reader.specs.declared.known_writer.KnownWriter.{KnownWriter}
use Rattle.rtps_reader.specs.Sound.{AreSound}
use Rattle.rtps_reader.proofs.ReaderLaws.{sound_less}
use Rattle.rtps_reader.proofs.stateful_reader.StatefulReader.forget_last.Goals as goal

pub invariant_of-self : goal.invariant_of-self
invariant_of-self c =
    sound_less _ _ (subst (λ (ws : List KnownWriter). AreSound ws) c.pop.ensures.items c.self.invariant)
