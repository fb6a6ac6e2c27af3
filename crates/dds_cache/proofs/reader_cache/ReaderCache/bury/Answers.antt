use Rattle.std.proofs.Common.{List, get_or, ℕ, ◌≡◌, ◌+◌, ◌∷◌, length, sym, subst, refl, ◌∙◌, ap, arith}
use Rattle.std.specs.List.{list_any, All}
use Rattle.std.specs.Prelude.{OnOk, Result}
use Rattle.dds_base.specs.declared.happening.Happening.TheVariants.{Died}
use Rattle.dds_base.specs.declared.code.Code.{Code}
use Rattle.dds_base.specs.declared.happening.Happening.{Happening}
use Rattle.dds_base.specs.declared.qos.ReaderQos.{ReaderQos}
use Rattle.dds_base.specs.Ownership.{IsMatched}
use Rattle.dds_instances.specs.Table.{HoldsPresent, Stands, Table}
use Rattle.dds_cache.specs.declared.kept.Kept.{Kept}
use Rattle.dds_cache.specs.Sweeping.{left_since, stays_of}
use Rattle.dds_cache.specs.Standing.{Stored, StandsFor}
use Rattle.dds_cache.specs.Sound.{stored_of}
use Rattle.dds_cache.proofs.DataLaws.{noted-by}
use Rattle.dds_cache.proofs.HoldLaws.{any-here, any-stays}
use Rattle.dds_cache.proofs.StandingLaws.{stands-added, fresh, holds, holds-next}
use Rattle.dds_cache.proofs.ExactLaws.{order-since, since-each, write-stays}
use Rattle.dds_cache.specs.Kept.{IsUpToDate, position_of}
use Rattle.std.specs.List.Sorted.{IsNonDecreasingBy}
use Rattle.dds_cache.proofs.SweepLaws.{Leaves, leaves-since}
use Rattle.dds_cache.proofs.reader_cache.ReaderCache.bury.Goals as goal

pub returns-clause-stands : goal.returns-clause-stands
returns-clause-stands c = λ h stands matched.
    let q : ReaderQos = c.self.inside.qos in
    let e : Happening = Died c.args.writer c.args.moment in
    let ks : List Kept = c.self.inside.samples.items in
    let held : Table = c.hold_present.new.instances in
    let old : StandsFor (stored_of c.self.inside) h =
    subst (λ (t : Stored). StandsFor t h) (sym c.self.view_is) stands in
    let of_matched : IsMatched q h c.args.writer =
    subst (λ (t : Stored). IsMatched t.qos h c.args.writer) (sym c.self.view_is) matched in
    let present : HoldsPresent q h held = λ i known.
    c.hold_present.ensures.held h i old.instances known
    ∙ (ap (λ (xs : List Kept). list_any (stays_of q h i) xs) c.deref.ensures.value
    ∙ (any-stays q h i ks old.each ∙ any-here q h i ks (old.present i))) in
    let died : Stands q c.died.new.self (e ∷ h) =
    subst (λ (r : Result (Unit {0}) Code). OnOk r ((p : ReaderQos) (l : List Happening) (moment : ℕ)
    → Stands p held l → IsMatched p l c.args.writer → HoldsPresent p l held → Stands p c.died.new.self (Died c.args.writer moment ∷ l)))
    c.unwrap.ensures c.died.ensures.ok q h c.args.moment (c.hold_present.ensures.same q h old.instances) of_matched present in
    let leaves : Leaves q e h ks c.let_go.new.samples.items =
    subst (λ (xs : List Kept). Leaves q e h ks xs) (sym (c.let_go.ensures.items (e ∷ h) died))
    (leaves-since q e h c.len-known.result ks (c.len-known.ensures.len q h old.instances)
    (λ n d within. record { untaken = refl; unread = refl }) old.each) in
    let adds = c.add_markers.ensures.samples q h died (λ i. fresh (stored_of c.self.inside) h i old) in
    let at : c.happened-newest.result ≡ length h + 1 =
    c.happened-newest.ensures.happened q (e ∷ h) died
    ∙ (let more : length (e ∷ h) ≡ length h + 1 = omega arith in more) in
    let noted = c.data_after-self-inside.ensures.newest ∙ noted-by _ _ _ _ _ _ c.self.inside.data_at
    (c.len-before.ensures ∙ c.let_go.new.samples.ok.0) (c.len.ensures ∙ c.add_markers.new.samples.ok.0) at in
    let left : c.let_go.new.samples.items ≡ left_since q (e ∷ h) c.len-known.result ks =
    c.let_go.ensures.items (e ∷ h) died in
    stands-added q e h c.let_go.new.samples.items c.add_markers.new.samples.items (stored_of c.self.inside) _ refl refl
    refl refl old.arrivals_are refl noted leaves adds
    (holds-next q e h c.self.inside.instances c.died.new.self ks c.let_go.new.samples.items
    c.add_markers.new.samples.items died leaves
    (subst (λ (xs : List Kept). IsNonDecreasingBy position_of xs) (sym left)
    (order-since q (e ∷ h) c.len-known.result ks old.in_order))
    (subst (λ (xs : List Kept). All (IsUpToDate q (e ∷ h)) xs) (sym left)
    (since-each (IsUpToDate q (e ∷ h)) q (e ∷ h) c.len-known.result ks
    (λ j d within filled. write-stays q e h (get_or ks j d) old.instances.follows.matched (old.each j d within) filled
    (old.up_to_date j d within) refl refl))) adds (holds (stored_of c.self.inside) h old)) old
