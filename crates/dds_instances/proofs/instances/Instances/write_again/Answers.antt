use Rattle.std.proofs.Common.{◌+◌, subst, sym, ap, ◌∙◌, refl, arith, rules}
use Rattle.dds_base.specs.declared.happening.Happening.TheVariants.{Came}
use Rattle.dds_instances.specs.Following.{TakesWrite}
use Rattle.dds_instances.specs.Keys.{Keys}
use Rattle.dds_instances.specs.Sound.{table_of}
use Rattle.dds_instances.specs.Table.{Stands, Table}
use Rattle.dds_instances.proofs.EndingLaws.{lawful-quiet}
use Rattle.dds_instances.proofs.WritingLaws.{begun-still, wrote}
use Rattle.dds_instances.proofs.instances.Instances.write_again.Goals as goal

pub invariant_of-self-2 : goal.invariant_of-self-2
invariant_of-self-2 c = record {
  indexed =
      ap (λ (k : Keys). k.keys) c.seek.ensures.same ∙ (c.self.invariant.indexed ∙ sym c.in_ok-known.ensures.keys);
  fits = c.in_ok-known.ensures.fits (c.self.inside.happened + 1) c.self.invariant.fits;
  blank = c.self.invariant.blank;
  places = omega (arith, c.self.invariant.places, ap (λ (k : Keys). k.room) c.seek.ensures.same);
  tracks_fit = search rules;
  blanks_fit = search rules;
  strengths_fit = search rules;
  begun_fits = search rules;
  counted = search rules;
}

pub returns-clause-came : goal.returns-clause-came
returns-clause-came c = λ h stands.
    let q = c.args.qos.now in
    let a = c.args.arrival.now in
    let s : Stands q (table_of c.self.inside) h = subst (λ (t : Table). Stands q t h) (sym c.self.view_is) stands in
    let taken : TakesWrite q h a c.write_known.new.tracks.items c.in_ok-known.known =
    wrote q h a (table_of c.self.inside) c.write_known.new.tracks.items c.in_ok-known.known c.in_ok-known.ensures.follows s in
    record {
      writers_are = s.writers_are;
      happened_is = omega (arith, s.happened_is);
      strengths_are = c.note_strength.ensures.came h taken.follows.matched.0.0
          (omega (arith, c.self.invariant.strengths_fit, s.writers_are, taken.follows.matched.0.1, c.requires.room, ap (λ (t : Table). t.room) c.self.view_is))
          s.strengths_are;
      begun_is = s.begun_is ∙ begun-still q h (Came a) taken.begun;
      follows = taken.follows;
      lawful = lawful-quiet q h (Came a) (λ i j. refl) s.lawful;
    }

pub returns-clause-written : goal.returns-clause-written
returns-clause-written c = λ h stands.
    (wrote c.args.qos.now h c.args.arrival.now (table_of c.self.inside) c.write_known.new.tracks.items c.in_ok-known.known
    c.in_ok-known.ensures.follows
    (subst (λ (t : Table). Stands c.args.qos.now t h) (sym c.self.view_is) stands)).written

pub returns-clause-lives : goal.returns-clause-lives
returns-clause-lives c = λ h stands.
    (wrote c.args.qos.now h c.args.arrival.now (table_of c.self.inside) c.write_known.new.tracks.items c.in_ok-known.known
    c.in_ok-known.ensures.follows
    (subst (λ (t : Table). Stands c.args.qos.now t h) (sym c.self.view_is) stands)).lives

pub returns-clause-key : goal.returns-clause-key
returns-clause-key c = λ h stands.
    (wrote c.args.qos.now h c.args.arrival.now (table_of c.self.inside) c.write_known.new.tracks.items c.in_ok-known.known
    c.in_ok-known.ensures.follows
    (subst (λ (t : Table). Stands c.args.qos.now t h) (sym c.self.view_is) stands)).key

pub returns-clause-known : goal.returns-clause-known
returns-clause-known c = λ h stands.
    (wrote c.args.qos.now h c.args.arrival.now (table_of c.self.inside) c.write_known.new.tracks.items c.in_ok-known.known
    c.in_ok-known.ensures.follows
    (subst (λ (t : Table). Stands c.args.qos.now t h) (sym c.self.view_is) stands)).told
