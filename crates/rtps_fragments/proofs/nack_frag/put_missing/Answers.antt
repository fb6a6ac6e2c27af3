use Rattle.std.proofs.Common.{sym}
use Rattle.std.proofs.lemmas.List.{append-nil}
use Rattle.rtps_fragments.specs.NackFrag.{missing_words}
use Rattle.rtps_fragments.proofs.Missing.{words_more}
use Rattle.rtps_fragments.proofs.nack_frag.put_missing.Goals as goal

pub loop-at-init : goal.loop-at-init
unfolding missing_words
loop-at-init c = sym (append-nil c.args.out.now.items)

pub loop-at-preserved : goal.loop-at-preserved
loop-at-preserved c =
    words_more c.args.came.now c.args.place c.loop-at.at c.args.out.now.items c.loop-at.out.items c.put_u32.new.out.items
    c.loop-at.invariant (rw c.missing_word.ensures at c.in_ok-put_u32.ensures.ok)
