use Rattle.std.proofs.Common.{List, length, map, ap, ◌∙◌}
use Rattle.dds_cache.specs.declared.access.Candidate.{Candidate}
use Rattle.dds_cache.specs.Finding.{sample_in}
use Rattle.dds_cache.proofs.CollectionLaws.{length-collected}
use Rattle.dds_cache.proofs.collection.gather.Goals as goal

pub returns-clause-gathered : goal.returns-clause-gathered
returns-clause-gathered c = record {
  placed = c.requires.placed;
  same = c.in_ok-positions.ensures ∙ ap (λ (cs : List Candidate). map sample_in cs) c.deref-2.ensures.value;
  whole =
      ap length c.in_ok-collection.ensures
      ∙ (length-collected c.args.kind c.args.samples.now c.deref.result.now
      ∙ ap (λ (cs : List Candidate). length cs) c.deref.ensures.value);
}
