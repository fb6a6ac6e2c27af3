-- the value of the bits so far
use Rattle.std.proofs.Common.{◌≡◌, ◌<◌, ◌^◌}
use Rattle.rtps_fragments.specs.NackFrag.{missing_word}
use Rattle.rtps_fragments.proofs.nack_frag.missing_word.Given as goal

abbrev pub invariant-loop-at : goal.invariant-loop-at
invariant-loop-at l = record {
  value : l.word ≡ missing_word l.came l.place l.at;
  small : l.word < 2 ^ l.at;
}
