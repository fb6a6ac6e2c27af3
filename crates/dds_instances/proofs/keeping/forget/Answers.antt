use Rattle.std.proofs.Common.{List, not, map, filter, refl, rules, sym, ap, ◌∙◌}
use Rattle.std.proofs.lemmas.Fn.{filter_same}
use Rattle.dds_base.specs.declared.key.Key.{Key}
use Rattle.dds_base.specs.Happening.{same_key}
use Rattle.dds_instances.specs.declared.track.InstanceTrack.{InstanceTrack}
use Rattle.dds_instances.specs.Track.{is_other}
use Rattle.dds_instances.specs.Following.{key_of}
use Rattle.dds_instances.proofs.StandingLaws.{filter-keys}
use Rattle.dds_instances.proofs.MarkerLaws.{fewer-of, fits-of}
use Rattle.dds_instances.proofs.keeping.forget.Goals as goal

pub returns-clause-kept : goal.returns-clause-kept
returns-clause-kept c =
    filter_same _ (is_other c.args.key) _ (λ x b f' k. search rules) _ _ c.retain.ensures.filtered

pub returns-clause-indexed : goal.returns-clause-indexed
returns-clause-indexed c =
    c.forget.ensures.keys
    ∙ (ap (λ (ks : List Key). filter (λ (k : Key). not (same_key k c.args.key)) ks) c.requires.indexed
    ∙ (sym (filter-keys (is_other c.args.key) (λ (k : Key). not (same_key k c.args.key)) c.args.tracks.now.items
    (λ k d within. refl))
    ∙ sym (ap (λ (ts : List InstanceTrack). map key_of ts) (returns-clause-kept c))))

pub returns-clause-fits : goal.returns-clause-fits
returns-clause-fits c = fits-of (is_other c.args.key) c.args.tracks.now.items _ (returns-clause-kept c)

pub returns-clause-fewer : goal.returns-clause-fewer
returns-clause-fewer c = λ p. fewer-of p (is_other c.args.key) c.args.tracks.now.items _ (returns-clause-kept c)
