use Rattle.std.proofs.Common.{refl}
use Rattle.rtps_reader.specs.declared.attachment.Attachment.TheVariants.{Waiting}
use Rattle.rtps_reader.proofs.ReaderLaws.{opened, same_self, sound_here, sound_set, stands_now}
use Rattle.rtps_reader.proofs.stateful_reader.StatefulReader.attach.Goals as goal

pub invariant_of-self : goal.invariant_of-self
invariant_of-self c =
    sound_set _ _ (record c.index_mut.result.now { how = Waiting }) c.self.invariant
    (sound_here c.self.invariant (opened c.self.view_is c.requires.known c.index_mut.ensures.value))

pub returns : goal.returns
returns c = record {
  waits = stands_now (opened c.self.view_is c.requires.known c.index_mut.ensures.value)
      (record c.index_mut.result.now { how = Waiting }) Waiting refl (same_self _);
}
