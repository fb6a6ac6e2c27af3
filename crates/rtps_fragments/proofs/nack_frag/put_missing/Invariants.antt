-- the words so far
use Rattle.std.proofs.Common.{◌≡◌, ◌++◌}
use Rattle.rtps_fragments.specs.NackFrag.{missing_words}
use Rattle.rtps_fragments.proofs.nack_frag.put_missing.Given as goal

abbrev pub invariant-loop-at : goal.invariant-loop-at
invariant-loop-at l = l.out.items ≡ l.initial.out.items ++ missing_words l.came l.place l.at
