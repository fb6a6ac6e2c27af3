use Rattle.rtps_reader.specs.declared.attachment.Attachment.TheVariants.{Away}
use Rattle.rtps_reader.proofs.ReaderLaws.{opened, sound_here, sound_set, stands_now}
use Rattle.rtps_reader.proofs.stateful_reader.StatefulReader.detach.Goals as goal

pub invariant_of-self : goal.invariant_of-self
invariant_of-self c =
    sound_set _ _ _ c.self.invariant (c.leave.ensures.sound
    (sound_here c.self.invariant (opened c.self.view_is c.requires.known c.index_mut-known.ensures.value)))

pub returns : goal.returns
returns c = record {
  away = stands_now (opened c.self.view_is c.requires.known c.index_mut-known.ensures.value)
      c.leave.new.self Away c.leave.ensures.how c.leave.ensures.same;
}
