use Rattle.std.proofs.Common.{subst}
use Rattle.dds_ends.specs.Kept.{ReaderKept}
use Rattle.dds_ends.specs.Resuming.{GoesOnAt}
use Rattle.dds_ends.proofs.reader_end.ReaderEnd.may_go_on.Goals as goal

pub returns : goal.returns
returns c =
    subst (λ (k : ReaderKept). GoesOnAt k c.args.row c.may_go_on.result) c.self.view_is c.may_go_on.ensures.goes_on
