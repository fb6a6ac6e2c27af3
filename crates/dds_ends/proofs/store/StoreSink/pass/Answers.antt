use Rattle.std.proofs.Common.{◌≡◌, ◌∙◌, ◌∷◌, ap, rules, sym, subst}
use Rattle.dds_base.specs.declared.happening.Happening.TheVariants.{Passed}
use Rattle.dds_base.specs.declared.qos.ReaderQos.{ReaderQos}
use Rattle.dds_base.specs.Ownership.{IsMatched}
use Rattle.dds_cache.specs.Standing.{qos_of, Stored, StandsFor as CacheStandsFor}
use Rattle.dds_lease.specs.Standing.{Kept, writer_count, StandsFor as LeasesStandFor}
use Rattle.dds_lease.proofs.StandingLaws.{counted-matched}
use Rattle.rtps_reader.specs.Entering.{IsAmong}
use Rattle.dds_ends.specs.Stored.{StoreKept}
use Rattle.dds_ends.specs.Storing.{Holds}
use Rattle.dds_ends.proofs.store.StoreSink.pass.Goals as goal

pub returns-clause-ok : goal.returns-clause-ok
returns-clause-ok c = λ h holds.
    let w = c.args.writer in
    let entry = Passed w c.args.first c.args.last in
    let old : StoreKept = record {
      lost = c.self.inside.lost;
      passed = c.self.inside.passed;
      turned = c.self.inside.turned;
      leases = c.self.inside.leases;
      cache = c.self.inside.cache;
    } in
    let here : Holds old h = subst (λ (s : StoreKept). Holds s h) (sym c.self.view_is) holds in
    let among : IsAmong (writer_count old.leases) w =
    subst (λ (s : StoreKept). IsAmong (writer_count s.leases) w) (sym c.self.view_is) c.requires.matched in
    let matched : IsMatched (qos_of old.cache) h w =
    counted-matched old.leases (qos_of old.cache) h w here.leases among in
    let cache : CacheStandsFor c.pass.new.self (entry ∷ h) = c.in_ok-pass.ensures.ok h here.cache matched in
    let leases : LeasesStandFor old.leases (qos_of old.cache) (entry ∷ h) = record {
      tracks = here.leases.tracks;
      last_turned = here.leases.last_turned;
      matched = (matched, here.leases.matched);
    } in
    let same_cache : c.self-2.inside.cache ≡ c.pass.new.self =
    ap (λ (s : StoreKept). s.cache) c.self-2.view_is ∙ c.lose.ensures.cache in
    let same_leases : c.self-2.inside.leases ≡ old.leases =
    ap (λ (s : StoreKept). s.leases) c.self-2.view_is ∙ c.lose.ensures.leases in
    let same_qos : qos_of c.self-2.inside.cache ≡ qos_of old.cache =
    ap (λ (s : Stored). qos_of s) same_cache ∙ c.in_ok-pass.ensures.entry.qos in
    record {
      cache = subst (λ (s : Stored). CacheStandsFor s (entry ∷ h)) (sym same_cache) cache;
      leases =
          subst (λ (q : ReaderQos). LeasesStandFor c.self-2.inside.leases q (entry ∷ h)) (sym same_qos)
          (subst (λ (l : Kept). LeasesStandFor l (qos_of old.cache) (entry ∷ h)) (sym same_leases) leases);
      lost_is = search rules;
      passed_is = search rules;
      turned_is = search rules;
    }
