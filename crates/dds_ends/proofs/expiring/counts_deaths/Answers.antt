use Rattle.std.proofs.Common.{Some, ap, sym, ◌∙◌, arith, rules}
use Rattle.std.proofs.lemmas.Option.{slice_get-get_or}
use Rattle.dds_ends.specs.Kept.{ReaderKept}
use Rattle.dds_ends.proofs.Dying.{counted_all, counted_more}
use Rattle.dds_ends.proofs.expiring.counts_deaths.Goals as goal

pub loop-reader-init : goal.loop-reader-init
loop-reader-init c = λ i k lt at. absurd (omega (arith, lt))

pub loop-reader-preserved : goal.loop-reader-preserved
loop-reader-preserved c =
    counted_more c.args.now c.args.readers.now c.loop-reader.reader-index c.reader-item.result c.loop-reader.invariant
    (slice_get-get_or c.args.readers.now c.loop-reader.reader-index c.reader-item.result c.loop-reader-test.true
    ∙ ap (λ (k : ReaderKept). Some k) (sym c.reader-item.is)) (c.counts_deaths.ensures.room (search rules))

pub returns-then-not-counts_deaths-clause-past : goal.returns-then-not-counts_deaths-clause-past
returns-then-not-counts_deaths-clause-past c = λ is. record {
  index = c.loop-reader.reader-index;
  reader = c.reader-item.result;
  at = slice_get-get_or c.args.readers.now c.loop-reader.reader-index c.reader-item.result c.loop-reader-test.true
      ∙ ap (λ (k : ReaderKept). Some k) (sym c.reader-item.is);
  past = c.counts_deaths.ensures.past (search rules);
}

pub returns-clause-room : goal.returns-clause-room
returns-clause-room c = λ all.
    counted_all c.args.now c.args.readers.now c.loop-reader.reader-index (search rules) c.loop-reader.invariant
