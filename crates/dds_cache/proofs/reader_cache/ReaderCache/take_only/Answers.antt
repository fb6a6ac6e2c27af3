use Rattle.std.proofs.Common.{◌≡◌, ◌∙◌, List, [], ◌∷◌, ◌++◌, ◌-◌, None, length, sym, ap, subst, refl}
use Rattle.dds_base.specs.declared.qos.ReaderQos.{ReaderQos}
use Rattle.dds_base.specs.declared.sample.Sample.{Sample}
use Rattle.dds_cache.specs.declared.access.Candidate.{Candidate}
use Rattle.dds_cache.specs.declared.kept.Kept.{Kept}
use Rattle.dds_cache.specs.Finding.{Holds}
use Rattle.dds_cache.specs.Only.{IsOnly, Returns}
use Rattle.dds_cache.specs.Sound.{stored_of}
use Rattle.dds_cache.specs.Standing.{Stored, StandsFor}
use Rattle.dds_cache.proofs.OnlyLaws.{returns-only, sample_alone, stands-alone}
use Rattle.dds_cache.proofs.StandingLaws.{holds}
use Rattle.dds_cache.proofs.reader_cache.ReaderCache.take_only.Goals as goal

pub returns-clause-taken : goal.returns-clause-taken
returns-clause-taken g c = λ h stands.
    let old : Stored = stored_of c.self.inside in
    let new : Stored = record {
      qos = c.self.inside.qos;
      instances = c.take_last-value.new.instances;
      samples = c.take_last-value.new.samples.items;
      arrivals = c.self.inside.arrivals;
      room = c.self.inside.room - 1;
      data_at = None;
    } in
    let q : ReaderQos = c.self.inside.qos in
    let ks : List Kept = c.self.inside.samples.items in
    let only : Candidate = c.in-Some.only in
    let before : StandsFor old h = subst (λ (t : Stored). StandsFor t h) (sym c.self.view_is) stands in
    let listed : c.deref.result.now ≡ ks = c.deref.ensures.value in
    let found : IsOnly q h c.in_ok-masks.masks (g.T.Test.meaning c.args.test.now) ks only =
    subst (λ (xs : List Kept). IsOnly q h c.in_ok-masks.masks (g.T.Test.meaning c.args.test.now) xs only) listed
    (c.in-Some.ensures.only h
    (subst (λ (xs : List Kept). Holds q c.self.inside.instances xs h) (sym listed) (holds old h before))) in
    let made : c.as_sample.result ≡ sample_alone only c.take_last-value.result =
    c.as_sample.ensures.sample [] (stands-alone only.picked c.new.result c.new.ensures.none) in
    let samples : c.from_vec.result ≡ sample_alone only c.take_last-value.result ∷ [] =
    c.from_vec.ensures.elements
    ∙ (c.push_reserved.ensures.items
    ∙ (ap (λ (xs : List Sample). xs ++ c.as_sample.result ∷ []) (c.reserve_few.ensures.items ∙ c.take-samples.ensures.empty)
    ∙ ap (λ (x : Sample). x ∷ []) made)) in
    subst (λ (t : Stored). Returns c.args.kind t h c.args.selection.now (g.T.Test.meaning c.args.test.now)
    c.from_vec.result new) c.self.view_is
    (returns-only c.args.kind old new h c.args.selection.now (g.T.Test.meaning c.args.test.now) c.in_ok-masks.masks only
    c.take_last-value.result c.from_vec.result c.in_ok-masks.ensures
    (ap (λ (xs : List Kept). length xs) (sym listed) ∙ c.in-Some.ensures.one) c.in-Some.ensures.placed.0 found
    c.take_last-value.ensures.value samples refl refl refl (λ here. c.take_last-value.ensures.holds q h here) before)
