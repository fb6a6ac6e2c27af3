use Rattle.std.proofs.Common.{◌≡◌, ◌∙◌, arith, false}
use Rattle.dds_base.specs.Access.{asks_for_sample_state}
use Rattle.dds_base.specs.declared.sample.SampleState.TheVariants.{Read as HasBeenRead}
use Rattle.dds_cache.proofs.SummaryLaws.{unasked-read}
use Rattle.dds_cache.proofs.summary.Summary.exclude.Goals as goal
use Rattle.dds_cache.proofs.summary.Summary.exclude.Goals.{then-self-others, else-self-others}

pub returns-then-not-asks_for_sample : goal.returns-then-not-asks_for_sample
returns-then-not-asks_for_sample c = λ counted same. elim c.if-self-others.branch [
  | then-self-others w ↦
      let unasked : asks_for_sample_state c.args.mask HasBeenRead ≡ false = grind (
        arith,
        same,
        w.value-is,
        w.asks_for_sample.ensures,
      ) in
      unasked-read c.args.mask c.args.samples.now c.args.self.now counted (w.if-self-others.true ∙ c.saturating_sub-others.ensures) unasked
  | else-self-others w ↦ absurd (grind (arith, same, w.value-is, w.if-self-others.false))
]
