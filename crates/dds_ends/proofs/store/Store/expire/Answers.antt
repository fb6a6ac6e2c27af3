use Rattle.std.proofs.Common.{◌∷◌, Some, ap, arith, refl, rules, sym, subst}
use Rattle.dds_base.specs.declared.happening.Happening.TheVariants.{Died}
use Rattle.dds_base.specs.declared.qos.ReaderQos.{ReaderQos}
use Rattle.dds_lease.proofs.StandingLaws.{counted-matched}
use Rattle.dds_cache.specs.Standing.{qos_of, StandsFor as CacheStandsFor}
use Rattle.dds_lease.specs.Standing.{StandsFor as LeasesStandFor}
use Rattle.dds_ends.specs.Expiring.{HasRoomForDeaths}
use Rattle.dds_ends.specs.Stored.{StoreKept}
use Rattle.dds_ends.proofs.Dying.{Dying, next_died, nobody_yet}
use Rattle.dds_ends.proofs.store.Store.expire.Goals as goal

pub loop-writer-init : goal.loop-writer-init
loop-writer-init c =
    let store : StoreKept =
    record {
      lost = c.self.inside.lost;
      passed = c.self.inside.passed;
      turned = c.self.inside.turned;
      leases = c.self.inside.leases;
      cache = c.self.inside.cache;
    } in
    subst (λ (s : StoreKept). Dying (qos_of s.cache) c.args.now 0 s store) c.self.view_is
    (record {
      room = subst (λ (s : StoreKept). HasRoomForDeaths c.args.now s) (sym c.self.view_is) c.requires.room;
      count = refl;
      qos = refl;
      lost = refl;
      passed = refl;
      died = λ h s. nobody_yet (qos_of store.cache) c.args.now store h s;
    })

pub loop-writer-preserved : goal.loop-writer-preserved
loop-writer-preserved c =
    let now = c.args.now in
    let w = c.in-Some.writer in
    let q = qos_of c.args.self.now.cache in
    let before = c.loop-writer.invariant in
    record {
      room = search rules;
      count = search rules;
      qos = search rules;
      lost = search rules;
      passed = search rules;
      died = λ h s.
          let l = before.died h s in
          let leases =
          subst (λ (p : ReaderQos). LeasesStandFor c.loop-writer.self-inside.leases p l.happened) before.qos
          l.holds.leases in
          let above = c.in-Some.ensures.above in
          let writers = c.in-Some.ensures.writers in
          let matched =
          counted-matched c.loop-writer.self-inside.leases q l.happened w leases
          (omega (arith, above.0), omega (arith, above.1, writers)) in
          let cache : CacheStandsFor c.died.new.self (Died w now ∷ l.happened) = search rules in
          next_died q now c.loop-writer.after w _ _ _ l (c.in-Some.ensures.died q l.happened leases)
          (c.in-Some.ensures.turn q l.happened leases) cache
          (search rules) refl refl (c.in-Some.ensures.first q l.happened leases)
          (ap Some (c.happened.ensures.entries (Died w now ∷ l.happened) cache));
    }
