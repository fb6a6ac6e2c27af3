use Rattle.std.proofs.Common.{rules, sym, subst, refl}
use Rattle.dds_cache.specs.Standing.{Stored, StandsFor}
use Rattle.dds_cache.specs.Sound.{stored_of}
use Rattle.dds_cache.proofs.StandingLaws.{stands-still}
use Rattle.dds_cache.proofs.reader_cache.ReaderCache.make_room.Goals as goal

pub returns : goal.returns
returns c = record {
  makes = record {
    same = λ h stands.
        let old : StandsFor (stored_of c.self.inside) h =
        subst (λ (t : Stored). StandsFor t h) (sym c.self.view_is) stands in
        stands-still h (stored_of c.self.inside) _ refl c.in_ok-reserve.ensures.items
        refl refl (λ q s. c.in_ok-reserve-3.ensures.same q h s) old;
    qos = search rules;
    room = search rules;
    more = search rules;
    succeeds = search rules;
    err = search rules;
    memory = search rules;
  };
}
