use Rattle.std.proofs.Common.{◌≡◌, ◌≢◌, ◌-◌, ◌≤◌, List, ℕ, Option, ap, arith, false, length, subst, sym, ◌∙◌}
use Rattle.std.specs.Prelude.{IfSome, nat_lt}
use Rattle.std.proofs.lemmas.Bool.Decides.{nat_tests}
use Rattle.std.proofs.lemmas.Option.{slice_get_past}
use Rattle.dds_instances.specs.declared.track.InstanceTrack.{InstanceTrack}
use Rattle.dds_instances.specs.Table.{Table}
use Rattle.dds_instances.proofs.HandleLaws.{kept-there, none-kept}
use Rattle.dds_instances.proofs.StandingLaws.{follows-of, track-there}
use Rattle.dds_instances.proofs.instances.Instances.key.Goals as goal

pub returns-then-track-number : goal.returns-then-track-number
returns-then-track-number c = record {
  key = λ q h stands. kept-there q h c.deref.result.now c.args.handle c.place_above.result c.in-Some.track.now
      (follows-of q h c.args.self.now c.deref.result.now
      (c.deref.ensures.value ∙ ap (λ (t : Table). t.tracks) c.self.view_is) stands)
      (track-there c.deref.result.now c.place_above.result c.in-Some.track.now c.in-Some.ensures.lookup.0
      c.in-Some.ensures.lookup.1) (c.if-track-number.true ∙ c.number-in-Some.ensures.number);
}

pub returns-else-track-number : goal.returns-else-track-number
returns-else-track-number c = record {
  key = λ q h stands. none-kept q h c.deref.result.now c.args.handle c.new-below.result c.place_above.result
      (follows-of q h c.args.self.now c.deref.result.now
      (c.deref.ensures.value ∙ ap (λ (t : Table). t.tracks) c.self.view_is) stands)
      (c.new-below.ensures.number ∙ (c.saturating_sub.ensures ∙ ap (λ (n : ℕ). n - 1) c.number.ensures.number))
      (c.place_above.ensures.before q h stands) (c.place_above.ensures.above q h stands)
      (subst (λ (o : Option InstanceTrack). IfSome o (λ (t : InstanceTrack). t.handle ≢ c.args.handle))
      (sym (track-there c.deref.result.now c.place_above.result c.in-Some.track.now c.in-Some.ensures.lookup.0
      c.in-Some.ensures.lookup.1)) (λ same. c.if-track-number.false (same ∙ sym c.number-in-Some.ensures.number)));
}

pub returns-in-None : goal.returns-in-None
returns-in-None c = record {
  key = λ q h stands.
      let ts : List InstanceTrack = c.deref.result.now in
      let test : false ≡ nat_lt c.place_above.result (length ts) = c.in-None.ensures.lookup.0 in
      let past : length ts ≤ c.place_above.result = grind (arith, nat_tests) in
      none-kept q h ts c.args.handle c.new-below.result c.place_above.result
      (follows-of q h c.args.self.now ts (c.deref.ensures.value ∙ ap (λ (t : Table). t.tracks) c.self.view_is) stands)
      (c.new-below.ensures.number ∙ (c.saturating_sub.ensures ∙ ap (λ (n : ℕ). n - 1) c.number.ensures.number))
      (c.place_above.ensures.before q h stands) (c.place_above.ensures.above q h stands)
      (subst (λ (o : Option InstanceTrack). IfSome o (λ (t : InstanceTrack). t.handle ≢ c.args.handle))
      (sym (slice_get_past ts c.place_above.result past)) tt);
}
