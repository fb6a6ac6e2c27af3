use Rattle.std.proofs.Common.{◌≡◌, ℕ, true, false, ap, sym, ◌∙◌, rules}
use Rattle.dds_instances.specs.Table.{Table}
use Rattle.dds_instances.specs.Track.{is_left_at_first}
use Rattle.dds_owner.proofs.RegistrationLaws.{not-not}
use Rattle.dds_instances.proofs.StandingLaws.{follows-of}
use Rattle.dds_instances.proofs.ForesightLaws.{left-first, somebody-registered}
use Rattle.dds_instances.proofs.instances.Instances.would_be_left.Goals as goal

pub returns-in-Some : goal.returns-in-Some
returns-in-Some c = record {
  left = λ q h stands.
      sym (not-not _ _ (c.would_have_writers.ensures.anybody q h
      ((c.in-Some.ensures.kept q h
      (follows-of q h c.args.self.now c.deref.result.now
      (c.deref.ensures.value ∙ ap (λ (t : Table). t.tracks) c.self.view_is) stands)).0).owners_are
      (sym (ap (λ (t : Table). t.writers) c.self.view_is ∙ stands.writers_are))));
}

pub returns-then-not-begins_left : goal.returns-then-not-begins_left
returns-then-not-begins_left c = record {
  left = λ q h stands.
      let first : c.begins_left.result ≡ false = search rules in
      sym (somebody-registered q h c.args.arrival.now
      (sym (c.begins_left.ensures
      ∙ ap (λ (n : ℕ). is_left_at_first n c.args.arrival.now.writer c.args.arrival.now.change.kind)
      (ap (λ (t : Table). t.writers) c.self.view_is ∙ stands.writers_are)) ∙ first));
}

pub returns-in-None : goal.returns-in-None
returns-in-None c = record {
  left = λ q h stands.
      let first : c.begins_left.result ≡ true = search rules in
      sym first
      ∙ (c.begins_left.ensures
      ∙ (ap (λ (n : ℕ). is_left_at_first n c.args.arrival.now.writer c.args.arrival.now.change.kind)
      (ap (λ (t : Table). t.writers) c.self.view_is ∙ stands.writers_are)
      ∙ left-first q h c.args.arrival.now stands.follows.matched
      (c.in-None.ensures.kept q h
      (follows-of q h c.args.self.now c.deref.result.now
      (c.deref.ensures.value ∙ ap (λ (t : Table). t.tracks) c.self.view_is) stands))));
}
