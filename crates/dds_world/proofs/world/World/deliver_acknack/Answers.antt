use Rattle.std.proofs.Common.{ℕ, List, [], ◌∷◌, ◌++◌, refl, ap, sym, subst, ◌∙◌, inl, inr, append_assoc}
use Rattle.std.proofs.lemmas.List.{append-nil}
use Rattle.dds_machine.specs.declared.event.WorldEvent.TheVariants as world
use Rattle.dds_world.specs.declared.round.RoundReply.{RoundReply}
use Rattle.dds_world.specs.Holding.{kept_of, tests_in}
use Rattle.dds_world.specs.Repairing.{Answering}
use Rattle.dds_world.proofs.Holding.{same_tests}
use Rattle.dds_world.proofs.world.World.deliver_acknack.Goals as goal

pub returns-clause-adds : goal.returns-clause-adds
returns-clause-adds g c = λ given.
    let a = c.add_step.ensures.step in
    let d = c.deliver_answers.ensures.adds given in
    let mid = kept_of g.L.Listener.notices g.L.Listener.capacity g.L.Listener.becomes given c.add_step.new.self in
    let new = kept_of g.L.Listener.notices g.L.Listener.capacity g.L.Listener.becomes given c.deliver_answers.new.self in
    let next =
    same_tests g.F.Filter.meaning c.args.self.now c.add_step.new.self
    (λ tests. Answering tests c.args.m.now.reader.peer c.sent-sent.result mid d.0 d.1 new) c.add_step.ensures.filters d.3 in
    let later =
    subst (λ (n : ℕ). Answering (tests_in g.F.Filter.meaning c.args.self.now) c.args.m.now.reader.peer n mid d.0 d.1 new)
    c.sent-sent.ensures.sent next in (
      world.Deliver c.args.m.now.writer.peer c.in-Some.packet ∷ d.0,
      a.0 ∷ d.1,
      d.2 ∙ (ap (λ (rs : List RoundReply). rs ++ d.1) a.1 ∙ append_assoc c.args.replies.now.items (a.0 ∷ []) d.1),
      inr (
        c.in-Some.packet,
        a.0,
        mid,
        d.0,
        d.1,
        c.in-Some.ensures,
        a.2 given,
        refl,
        refl,
        later,
      ),
    )

pub returns-in_default-clause-adds : goal.returns-in_default-clause-adds
returns-in_default-clause-adds g c = λ given.
    ([], [], sym (append-nil c.args.replies.now.items), inl (refl, refl, refl, c.in_default.ensures))
