use Rattle.std.proofs.Common.{List, ◌≤◌, ◌≡◌, ◌+◌, ◌∷◌, length, sym, subst, refl, ◌∙◌, arith}
use Rattle.dds_base.specs.declared.happening.Happening.{Happening}
use Rattle.dds_base.specs.declared.happening.Happening.TheVariants.{Came}
use Rattle.dds_base.specs.declared.qos.ReaderQos.{ReaderQos}
use Rattle.dds_cache.specs.Standing.{Stored, StandsFor}
use Rattle.dds_cache.specs.Sound.{stored_of}
use Rattle.std.specs.Prelude.{OnOk, Result}
use Rattle.dds_base.specs.declared.code.Code.{Code}
use Rattle.dds_instances.specs.Table.{Stands}
use Rattle.dds_base.specs.Happening.{arrivals}
use Rattle.dds_base.specs.Life.{ends_life}
use Rattle.dds_base.specs.Ownership.{IsMatched}
use Rattle.dds_cache.specs.declared.kept.Kept.{Kept}
use Rattle.dds_cache.specs.Finding.{Holds}
use Rattle.dds_cache.specs.Kept.{IsFresh}
use Rattle.dds_cache.proofs.DataLaws.{noted-by}
use Rattle.dds_cache.proofs.StandingLaws.{stands-added, fresh, counts-more, holds, holds-came}
use Rattle.dds_cache.proofs.SweepLaws.{Leaves, leaves-since}
use Rattle.dds_cache.proofs.reader_cache.ReaderCache.take_up_any.Goals as goal

pub returns-clause-stands : goal.returns-clause-stands
returns-clause-stands c = λ h stands matched.
    let q : ReaderQos = c.self.inside.qos in
    let e : Happening = Came c.args.arrival in
    let ks : List Kept = c.self.inside.samples.items in
    let old : StandsFor (stored_of c.self.inside) h =
    subst (λ (t : Stored). StandsFor t h) (sym c.self.view_is) stands in
    let next : IsFresh h c.args.arrival.change.key = fresh (stored_of c.self.inside) h c.args.arrival.change.key old in
    let ends : c.is_end-is_end.result ≡ ends_life q c.args.arrival.change.key h e =
    c.is_end-is_end.ensures h
    (subst (λ (xs : List Kept). Holds q c.self.inside.instances xs h) (sym c.deref.ensures.value)
    (holds (stored_of c.self.inside) h old)) next in
    let came : Stands q c.come.new.self (e ∷ h) =
    subst (λ (r : Result (Unit {0}) Code). OnOk r ((g : List Happening)
    → Stands q c.self.inside.instances g → IsMatched q g c.args.arrival.writer → c.is_end-is_end.result ≡ ends_life q c.args.arrival.change.key g e
    → Stands q c.come.new.self (e ∷ g))) c.unwrap.ensures c.come.ensures.ok h old.instances
    (subst (λ (t : Stored). IsMatched t.qos h c.args.arrival.writer) (sym c.self.view_is) matched) ends in
    let leaves : Leaves q e h ks c.let_go.new.samples.items =
    subst (λ (xs : List Kept). Leaves q e h ks xs) (sym (c.let_go.ensures.items (e ∷ h) came))
    (leaves-since q e h c.len-known.result ks (c.len-known.ensures.len q h old.instances)
    (λ n d within. record { untaken = refl; unread = refl }) old.each) in
    let at : c.happened-newest.result ≡ length h + 1 =
    c.happened-newest.ensures.happened q (e ∷ h) came
    ∙ (let more : length (e ∷ h) ≡ length h + 1 = omega arith in more) in
    let noted = c.data_after-self-inside.ensures.newest ∙ noted-by _ _ _ _ _ _ c.self.inside.data_at
    (c.len-before.ensures ∙ c.let_go.new.samples.ok.0)
    (c.len.ensures ∙ (c.push_out.ensures.len ∙ c.add_left.new.samples.ok.0)) at in
    let adds = c.add_left.ensures.samples h
    (record { stands = came; valid = c.is_accepted_write-is_write.ensures h old.instances; fresh = next }) in
    stands-added q e h c.let_go.new.samples.items c.add_left.new.samples.items (stored_of c.self.inside) _ refl refl
    refl refl (c.count_arrival-self-inside.ensures ∙ counts-more c.self.inside.arrivals (arrivals h) old.arrivals_are)
    refl noted leaves adds
    (c.push_out.ensures.holds (e ∷ h)
    (holds-came q c.args.arrival h c.self.inside.instances c.come.new.self c.len-known.result ks
    c.let_go.new.samples.items c.add_left.new.samples.items came (c.let_go.ensures.items (e ∷ h) came) leaves adds
    (holds (stored_of c.self.inside) h old))) old

pub invariant_of-self : goal.invariant_of-self
invariant_of-self c = record {
  instances = omega (arith, c.self.invariant.instances, c.come.ensures.entry.room);
  samples =
      (let room : 1 ≤ c.self.inside.room =
      subst (λ (t : Stored). 1 ≤ t.room) (sym c.self.view_is) c.requires.room in
      omega (
        arith,
        c.self.invariant.samples,
        room,
        c.come.ensures.alive,
        c.let_go.ensures.len,
        c.let_go.ensures.capacity,
        c.add_left.ensures.len,
        c.add_left.ensures.capacity,
        c.push_out.ensures.len,
        c.push_out.ensures.capacity,
      ));
  small = c.push_out.ensures.small (c.add_left.ensures.small (c.let_go.ensures.small c.self.invariant.small));
  counted = c.push_out.ensures.counted;
}
