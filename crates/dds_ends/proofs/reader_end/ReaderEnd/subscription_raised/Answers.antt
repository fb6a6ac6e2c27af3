use Rattle.std.proofs.Common.{ap, ◌∙◌}
use Rattle.dds_ends.specs.Kept.{ReaderKept}
use Rattle.dds_ends.proofs.SeenMatches.{raises_matches}
use Rattle.dds_ends.proofs.reader_end.ReaderEnd.subscription_raised.Goals as goal

pub returns-else-self-mark : goal.returns-else-self-mark
returns-else-self-mark c =
    raises_matches c.args.self.now c.args.mark.now c.subscription_matched.result c.subscription_matched.ensures
    (λ e. c.if-self-mark.false (ap (λ (k : ReaderKept). k.here) c.self.view_is ∙ e))
