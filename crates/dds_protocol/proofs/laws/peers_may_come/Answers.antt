use Rattle.dds_protocol.proofs.Coming.{comes_as_part, comes_bounded, comes_sound, comes_used}
use Rattle.dds_protocol.proofs.CountsOpened.{opens_used_first}
use Rattle.dds_protocol.proofs.Opened.{opens_sound_first}
use Rattle.dds_protocol.proofs.laws.peers_may_come.Goals as goal

pub returns : goal.returns
returns c = record {
  opens = opens_sound_first;
  unused = opens_used_first;
  part = comes_as_part;
  sound = comes_sound;
  used = comes_used;
  bounded = comes_bounded;
}
