use Rattle.std.proofs.Common.{◌∙◌, ap, subst, sym}
use Rattle.dds_base.specs.declared.happening.Happening.TheVariants.{Came}
use Rattle.dds_base.specs.Presence.{has_room}
use Rattle.dds_cache.specs.Standing.{Stored, qos_of}
use Rattle.dds_ends.specs.Stored.{StoreKept}
use Rattle.dds_ends.specs.Storing.{Holds}
use Rattle.dds_ends.proofs.store.StoreSink.room.Goals as goal

-- the cache answers it, and stays as it was
pub returns : goal.returns
returns c = record {
  room = λ h given.
      let s = subst (λ (k : StoreKept). Holds k h) (sym c.self.view_is) given in
      c.has_room.ensures.room h s.cache
      ∙ ap (λ (k : StoreKept). has_room (qos_of k.cache) h (Came c.args.arrival.now)) c.self.view_is;
  untaken = λ h given. (subst (λ (k : StoreKept). Holds k h) (sym c.self.view_is) given).cache.untaken;
  same =
      let i = c.self.inside in
      ap (λ (x : Stored). let k : StoreKept = record {
        lost = i.lost;
        passed = i.passed;
        turned = i.turned;
        leases = i.leases;
        cache = x;
      } in k) c.has_room.ensures.same ∙ c.self.view_is;
}
