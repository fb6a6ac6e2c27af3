use Rattle.std.proofs.Common.{◌≡◌, ℕ, ◌+◌, List, ◌∷◌, refl, subst, sym, ap, ◌∙◌, arith, rules, All}
use Rattle.dds_base.specs.declared.happening.Happening.{Happening}
use Rattle.dds_base.specs.declared.happening.Happening.TheVariants.{Came}
use Rattle.dds_base.specs.Access.{lives_begun}
use Rattle.dds_owner.specs.Standing.{KeptStrengths, TellsStrengths, strengths_room}
use Rattle.dds_instances.specs.declared.instances.Instances.TheInside.{Inside}
use Rattle.dds_instances.specs.declared.track.InstanceTrack.{InstanceTrack}
use Rattle.dds_instances.specs.Following.{AreBlank, Follows, FollowsBefore}
use Rattle.dds_instances.specs.Table.{Table, Stands}
use Rattle.dds_instances.specs.Sound.{table_of}
use Rattle.dds_instances.specs.Track.{Fits}
use Rattle.dds_instances.proofs.EndingLaws.{lawful-quiet}
use Rattle.dds_instances.proofs.StandingLaws.{follows-on, follows-over}
use Rattle.dds_instances.proofs.instances.Instances.change.Goals as goal
use Rattle.dds_instances.proofs.instances.Instances.change.Goals.{then-is_end, else-is_end}

pub invariant_of-self : goal.invariant_of-self
invariant_of-self c =
    let blank : AreBlank c.if-is_end.self-inside.writers c.if-is_end.self-inside.blanks.items =
    elim c.if-is_end.branch [
      | then-is_end w ↦ subst (λ (a : Inside). AreBlank a.writers a.blanks.items) (sym w.self-inside-is)
          (c.take_up-is_beginning.ensures.blanks c.self.inside.writers c.self.invariant.blank)
      | else-is_end w ↦ subst (λ (a : Inside). AreBlank a.writers a.blanks.items) (sym w.self-inside-is)
          (c.take_up-is_beginning.ensures.blanks c.self.inside.writers c.self.invariant.blank)
    ] in
    record {
      indexed = search rules;
      fits = elim c.if-is_end.branch [
        | then-is_end w ↦
            subst (λ (a : Inside). All (Fits (c.self.inside.happened + 1 + 1)) a.tracks.items) (sym w.self-inside-is)
            (w.forget.ensures.fits (c.self.inside.happened + 1 + 1) c.take_up-is_beginning.ensures.fits)
        | else-is_end w ↦
            subst (λ (a : Inside). All (Fits (c.self.inside.happened + 1 + 1)) a.tracks.items) (sym w.self-inside-is)
            c.take_up-is_beginning.ensures.fits
      ];
      blank = blank;
      places = search rules;
      tracks_fit = search rules;
      blanks_fit = search rules;
      strengths_fit = search rules;
      begun_fits = search rules;
      counted = search rules;
    }

pub returns-clause-stands : goal.returns-clause-stands
returns-clause-stands c = λ h stands matched end_is.
    let q = c.args.qos.now in
    let e : Happening = Came c.args.arrival.now in
    let s : Stands q (table_of c.self.inside) h = subst (λ (t : Table). Stands q t h) (sym c.self.view_is) stands in
    let before : FollowsBefore q h (c.self.inside.happened + 1) c.self.inside.tracks.items =
    record { place = omega (arith, s.happened_is); lawful = s.lawful; follows = s.follows } in
    let taken =
    c.take_up-is_beginning.ensures.follows h (record { before = before; tells = s.strengths_are }) matched s.writers_are
    (omega (arith, s.begun_is)) in
    let kept : (c.if-is_end.self-inside.writers ≡ c.self.inside.writers)
    × (c.if-is_end.self-inside.strengths ≡ c.self.inside.strengths)
    × (c.if-is_end.self-inside.begun ≡ c.self.inside.begun + c.count_if.result) =
    elim c.if-is_end.branch [
      | then-is_end w ↦ (
        ap (λ (a : Inside). a.writers) w.self-inside-is,
        ap (λ (a : Inside). a.strengths) w.self-inside-is,
        ap (λ (a : Inside). a.begun) w.self-inside-is,
      )
      | else-is_end w ↦ (
        ap (λ (a : Inside). a.writers) w.self-inside-is,
        ap (λ (a : Inside). a.strengths) w.self-inside-is,
        ap (λ (a : Inside). a.begun) w.self-inside-is,
      )
    ] in
    let follows : Follows q (e ∷ h) c.if-is_end.self-inside.tracks.items =
    elim c.if-is_end.branch [
      | then-is_end w ↦ subst (λ (ts : List InstanceTrack). Follows q (e ∷ h) ts)
          (sym (ap (λ (a : Inside). a.tracks.items) w.self-inside-is ∙ w.forget.ensures.kept))
          (follows-over q h c.args.arrival.now c.take_up-is_beginning.new.tracks.items (sym w.if-is_end.true ∙ end_is)
          taken.reaches)
      | else-is_end w ↦ subst (λ (ts : List InstanceTrack). Follows q (e ∷ h) ts)
          (sym (ap (λ (a : Inside). a.tracks.items) w.self-inside-is))
          (follows-on q h c.args.arrival.now c.take_up-is_beginning.new.tracks.items (sym w.if-is_end.false ∙ end_is)
          taken.reaches)
    ] in
    record {
      writers_are = kept.0 ∙ s.writers_are;
      happened_is = omega (arith, s.happened_is);
      strengths_are = c.note_strength.ensures.came h matched.0
          (omega (
            arith,
            ap (λ (k : KeptStrengths). strengths_room k) kept.1,
            c.self.invariant.strengths_fit,
            s.writers_are,
            matched.1,
            c.requires.room,
            ap (λ (t : Table). t.room) c.self.view_is,
          ))
          (subst (λ (k : KeptStrengths). TellsStrengths k h) (sym kept.1) s.strengths_are);
      begun_is =
          kept.2 ∙ (ap (λ (n : ℕ). n + c.count_if.result) s.begun_is
          ∙ ap (λ (n : ℕ). lives_begun q h + n) (c.count_if.ensures.count ∙ sym taken.begun));
      follows = follows;
      lawful = lawful-quiet q h e (λ i j. refl) s.lawful;
    }
