use Rattle.std.proofs.Common.{List, map, rules, subst, sym, ◌∙◌}
use Rattle.std.specs.List.{IsDistinct}
use Rattle.std.proofs.lemmas.Fn.{filter_same}
use Rattle.dds_base.specs.declared.key.Key.{Key}
use Rattle.dds_base.specs.Happening.{same_key}
use Rattle.dds_instances.specs.declared.track.InstanceTrack.{InstanceTrack}
use Rattle.dds_instances.specs.Track.{lives_on}
use Rattle.dds_instances.specs.Following.{key_of}
use Rattle.dds_instances.proofs.HoldingLaws.{filter-distinct}
use Rattle.dds_instances.proofs.MarkerLaws.{fewer-of, fits-of}
use Rattle.dds_instances.proofs.keeping.forget_left.Goals as goal

pub returns-clause-kept : goal.returns-clause-kept
returns-clause-kept c = filter_same _ lives_on _ (λ x b f' k. search rules) _ _ c.retain.ensures.filtered

pub returns-clause-distinct : goal.returns-clause-distinct
returns-clause-distinct c =
    subst (λ (ks : List Key). IsDistinct same_key ks) c.requires.indexed c.len.ensures.distinct

pub index_anew-requires-clause-distinct : goal.index_anew-requires-clause-distinct
index_anew-requires-clause-distinct c =
    subst (λ (ts : List InstanceTrack). IsDistinct same_key (map key_of ts))
    (sym (c.deref.ensures.value
    ∙ filter_same _ lives_on _ (λ x b f' k. search rules) _ _ c.retain.ensures.filtered))
    (filter-distinct lives_on c.args.tracks.now.items
    (subst (λ (ks : List Key). IsDistinct same_key ks) c.requires.indexed c.len.ensures.distinct))

pub returns-clause-fits : goal.returns-clause-fits
returns-clause-fits c = fits-of lives_on c.args.tracks.now.items _ (returns-clause-kept c)

pub returns-clause-fewer : goal.returns-clause-fewer
returns-clause-fewer c = λ p. fewer-of p lives_on c.args.tracks.now.items _ (returns-clause-kept c)
