use Rattle.std.proofs.Common.{List, sym, subst, refl}
use Rattle.dds_base.specs.declared.happening.SamplePosition.{SamplePosition}
use Rattle.dds_base.specs.declared.qos.ReaderQos.{ReaderQos}
use Rattle.dds_cache.specs.Picking.{IsDelivered, IsFoundIn}
use Rattle.dds_cache.specs.Sound.{stored_of}
use Rattle.dds_cache.specs.Standing.{Stored, StandsFor}
use Rattle.dds_cache.proofs.StandingLaws.{holds, past-all, stands-entered}
use Rattle.dds_cache.proofs.reader_cache.ReaderCache.enter.Goals as goal

pub returns-clause-ok : goal.returns-clause-ok
returns-clause-ok c = λ h stands found.
    let q : ReaderQos = c.self.inside.qos in
    let ss : List SamplePosition = c.args.access.now.positions.items in
    let old : StandsFor (stored_of c.self.inside) h =
    subst (λ (t : Stored). StandsFor t h) (sym c.self.view_is) stands in
    let is : IsFoundIn q h c.self.inside.samples.items c.args.access.now =
    subst (λ (t : Stored). IsFoundIn t.qos h t.samples c.args.access.now) (sym c.self.view_is) found in
    stands-entered c.args.kind ss h (stored_of c.self.inside) _ refl refl refl (past-all q h ss is.returnable)
    (c.enter_access.ensures.holds h (record { holds = holds (stored_of c.self.inside) h old; found = is })) old

pub returns-clause-delivered : goal.returns-clause-delivered
returns-clause-delivered c =
    subst (λ (t : Stored). IsDelivered c.args.kind t.samples c.args.access.now c.enter_access.new.access) c.self.view_is
    c.enter_access.ensures.delivered
