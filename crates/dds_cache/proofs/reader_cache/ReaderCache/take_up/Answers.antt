use Rattle.std.proofs.Common.{ℕ, List, ◌<◌, ◌≡◌, ◌+◌, ◌∷◌, length, sym, subst, refl, ap, ◌∙◌, arith, Bool, true, Some}
use Rattle.std.specs.List.{All}
use Rattle.std.specs.Prelude.{if◌then◌else◌, vec_len}
use Rattle.std.proofs.lemmas.Bool.{eqb-true, lt-ltb}
use Rattle.std.proofs.lemmas.List.{nil_from_length}
use Rattle.dds_base.specs.declared.happening.Happening.{Happening}
use Rattle.dds_base.specs.declared.happening.Happening.TheVariants.{Came}
use Rattle.dds_base.specs.declared.key.Key.{Key}
use Rattle.dds_base.specs.declared.qos.ReaderQos.{ReaderQos}
use Rattle.dds_base.specs.Happening.{arrivals}
use Rattle.dds_base.specs.Instance.{known_instances}
use Rattle.dds_instances.specs.Table.{Stands, Table}
use Rattle.dds_instances.specs.Known.{IsKnown}
use Rattle.dds_cache.specs.declared.kept.Kept.{Kept}
use Rattle.dds_cache.specs.Finding.{HoldsBut}
use Rattle.dds_cache.specs.Kept.{Adds, IsFresh, IsUpToDate}
use Rattle.dds_cache.specs.Sound.{stored_of}
use Rattle.dds_cache.specs.Standing.{Stored, StandsFor}
use Rattle.dds_cache.specs.Sweeping.{left_since}
use Rattle.dds_cache.proofs.PushLaws.{alone-fresh}
use Rattle.dds_cache.proofs.StandingLaws.{stands-added, fresh, counts-more, holds, holds-came}
use Rattle.dds_cache.proofs.SweepLaws.{Leaves, leaves-since, none-since}
use Rattle.dds_cache.proofs.reader_cache.ReaderCache.take_up.Goals as goal

pub returns-clause-stands : goal.returns-clause-stands
returns-clause-stands c = λ h stands matched.
    let q : ReaderQos = c.self.inside.qos in
    let e : Happening = Came c.args.arrival in
    let key : Key = c.args.arrival.change.key in
    let ks : List Kept = c.self.inside.samples.items in
    let before : Table = c.self.inside.instances in
    let after : Table = c.write_again.new.self in
    let mid : List Kept = c.add_write.new.samples.items in
    let count = length (known_instances q h) in
    let old : StandsFor (stored_of c.self.inside) h =
    subst (λ (t : Stored). StandsFor t h) (sym c.self.view_is) stands in
    let next : IsFresh h key = fresh (stored_of c.self.inside) h key old in
    let came : Stands q after (e ∷ h) = c.in-Some.ensures.came h old.instances in
    let known : IsKnown q (e ∷ h) c.in-Some.known = c.in-Some.ensures.known h old.instances in
    let key_is : c.in-Some.known.key ≡ key = c.in-Some.ensures.key h old.instances in
    let whole : left_since q (e ∷ h) count ks ≡ ks =
    none-since q h e ks (c.in-Some.ensures.lives h old.instances) in
    let leaves : Leaves q e h ks ks =
    subst (λ (xs : List Kept). Leaves q e h ks xs) whole
    (leaves-since q e h count ks refl (λ n d within. record { untaken = refl; unread = refl }) old.each) in
    let at : c.happened-newest.result ≡ length h + 1 =
    c.happened-newest.ensures.happened q (e ∷ h) came
    ∙ (let more : length (e ∷ h) ≡ length h + 1 = omega arith in more) in
    let adds : Adds q e h ks mid =
    c.add_write.ensures.samples q h
    (record {
      position_is = at;
      is_known = known;
      key = key_is;
      written = c.in-Some.ensures.written h old.instances;
      fresh = next;
      keeps_some = sym c.is_kept_after.ensures ∙ c.if-not-is_kept_after.false;
    }) in
    let but : HoldsBut q after mid (e ∷ h) c.in-Some.known.key =
    subst (λ (i : Key). HoldsBut q after mid (e ∷ h) i) (sym key_is)
    (holds-came q c.args.arrival h before after count ks ks mid came (sym whole) leaves adds
    (holds (stored_of c.self.inside) h old)) in
    let alone : c.is_empty-is_alone.result ≡ true → All (IsUpToDate q (e ∷ h)) mid =
    λ is. let empty : vec_len c.self.inside.samples ≡ 0 = eqb-true (vec_len c.self.inside.samples) 0 (sym c.is_empty-is_alone.ensures ∙ is) in
    let none : length ks ≡ 0 = omega (arith, empty, c.self.inside.samples.ok.0) in
    alone-fresh q e h ks mid (nil_from_length ks none) adds in
    let longer : length ks < length mid = omega (arith, c.add_write.ensures.len) in
    let noted = ap (λ (n : ℕ). Some n) at
    ∙ sym (ap (λ (b : Bool). if b then Some (length h + 1) else c.self.inside.data_at)
    (lt-ltb (length ks) (length mid) longer)) in
    stands-added q e h ks mid (stored_of c.self.inside) _ refl refl refl refl
    (c.count_arrival-self-inside.ensures ∙ counts-more c.self.inside.arrivals (arrivals h) old.arrivals_are)
    refl noted leaves adds (c.push_out_by_write.ensures.holds after (e ∷ h) known alone but) old
