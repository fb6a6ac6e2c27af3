use Rattle.dds_machine.specs.Part.{how_of, is_attached, place_of}
use Rattle.dds_notices.specs.Listeners.{ByEntity}
use Rattle.std.proofs.Common.{◌≡◌, ℕ, true, false, Some, None, List, [], ◌∷◌, ◌++◌, ap, sym, subst, rules, ◌∙◌}
use Rattle.dds_base.specs.declared.endpoint.Endpoint.{Endpoint}
use Rattle.dds_world.specs.declared.round.RoundReply.{RoundReply}
use Rattle.dds_world.specs.Holding.{kept_of, tests_in}
use Rattle.dds_world.specs.Repairing.{Beating}
use Rattle.dds_world.specs.Round.{AreMatched, RefusesRound, Rounds}
use Rattle.dds_world.proofs.CatchingUp.{answer_of, rounds_are}
use Rattle.dds_world.proofs.Holding.{same_tests}
use Rattle.dds_world.proofs.Rounds.{IsMatchedSo, are_matched, here_of, if_memory, lacks_memory, not_attached, not_matched, not_placed, rows_of_machine}
use Rattle.dds_world.proofs.RunSteps.{round_runs}
use Rattle.dds_world.proofs.world.World.round.Goals as goal

pub returns-clause-round : goal.returns-clause-round
returns-clause-round g c = λ given.
    let m = c.in-Some.m in
    let from : ℕ = c.in-Some-place.from in
    let start = c.args.self.now in
    let old = kept_of g.L.Listener.notices g.L.Listener.capacity g.L.Listener.becomes given start in
    let mid = c.add_step.new.self in
    let last = c.deliver_heartbeat.new.self in
    let new = kept_of g.L.Listener.notices g.L.Listener.capacity g.L.Listener.becomes given last in
    let writer : Endpoint = c.args.writer in
    let reader : Endpoint = c.args.reader in
    let ends = c.in-Some.ensures.ends in
    let before = rows_of_machine old (λ rows. place_of rows writer) reader (Some from) (c.in-Some-place.ensures.place given) in
    let some : c.is_matched.result ≡ true = search rules in
    let here : IsMatchedSo old reader writer true =
    rows_of_machine old (λ rows. is_attached (how_of rows writer)) reader true
    (λ roster m stands. sym some ∙ c.is_matched.ensures.matched given roster m stands) in
    let a = c.add_step.ensures.step in
    let d = c.deliver_heartbeat.ensures.adds given in
    let first : c.add_step.new.replies.items ≡ a.0 ∷ [] =
    a.1 ∙ ap (λ (rs : List RoundReply). rs ++ a.0 ∷ []) c.in_ok-replies.ensures.items in
    let all : c.from_vec-replies.result ≡ a.0 ∷ d.1 =
    c.from_vec-replies.ensures.elements ∙ (d.2 ∙ ap (λ (rs : List RoundReply). rs ++ d.1) first) in
    let sent =
    same_tests g.F.Filter.meaning start mid (λ tests. Beating tests m c.sent-sent.result
    (kept_of g.L.Listener.notices g.L.Listener.capacity g.L.Listener.becomes given mid) d.0 d.1 new) c.add_step.ensures.filters d.3 in
    let beats =
    subst (λ (n : ℕ). Beating (tests_in g.F.Filter.meaning start) m n
    (kept_of g.L.Listener.notices g.L.Listener.capacity g.L.Listener.becomes given mid) d.0 d.1 new) c.sent-sent.ensures.sent sent in
    let round =
    rounds_are old writer reader m a.0
    (kept_of g.L.Listener.notices g.L.Listener.capacity g.L.Listener.becomes given mid) d.1 c.from_vec-replies.result new d.0 from
    c.place-2.result
    ends.0 ends.1 all (c.in-Some.ensures.known given) (a.2 given) beats before here
    (rows_of_machine new (λ rows. place_of rows writer) reader c.place-2.result (c.place-2.ensures.place given)) in
    let to : ℕ = c.unwrap_or-to.result in
    subst (λ (n : ℕ). Rounds (tests_in g.F.Filter.meaning start) old writer reader
    (record (answer_of old m from to c.from_vec-replies.result) { unsent_before = n }) new)
    (sym c.unsent-unsent_before.ensures.unsent)
    (subst (λ (n : ℕ). Rounds (tests_in g.F.Filter.meaning start) old writer reader
    (answer_of old m from n c.from_vec-replies.result) new) (sym c.unwrap_or-to.ensures) round)

pub returns-clause-matched : goal.returns-clause-matched
returns-clause-matched g c = λ given.
    let m = c.in-Some.m in
    let old = kept_of g.L.Listener.notices g.L.Listener.capacity g.L.Listener.becomes given c.args.self.now in
    let writer : Endpoint = c.args.writer in
    let reader : Endpoint = c.args.reader in
    let ends = c.in-Some.ensures.ends in
    let some : c.is_matched.result ≡ true = search rules in
    subst (λ (w : Endpoint). AreMatched old w reader) ends.0
    (subst (λ (r : Endpoint). AreMatched old m.writer r) ends.1
    (are_matched old m (c.in-Some.ensures.known given) (here_of old writer reader m.writer m.reader ends.0 ends.1
    (rows_of_machine old (λ rows. is_attached (how_of rows writer)) reader true
    (λ roster n stands. sym some ∙ c.is_matched.ensures.matched given roster n stands)))))

pub returns-clause-run : goal.returns-clause-run
returns-clause-run g c = λ given.
    let r = round_runs _ _ _ _ _ _ (returns-clause-round g c given) in record { events = r.events; runs = r.runs }

pub returns-in_default-place-clause-refused : goal.returns-in_default-place-clause-refused
returns-in_default-place-clause-refused g c = λ given.
    let old = kept_of g.L.Listener.notices g.L.Listener.capacity g.L.Listener.becomes given c.args.self.now in
    let writer : Endpoint = c.args.writer in
    let reader : Endpoint = c.args.reader in
    not_placed old writer reader
    (rows_of_machine old (λ rows. place_of rows writer) reader None (c.in_default-place.ensures.place given))

pub returns-then-not-is_matched-clause-refused : goal.returns-then-not-is_matched-clause-refused
returns-then-not-is_matched-clause-refused g c = λ given.
    let old = kept_of g.L.Listener.notices g.L.Listener.capacity g.L.Listener.becomes given c.args.self.now in
    let none : c.is_matched.result ≡ false = search rules in
    not_attached old c.args.writer c.args.reader
    (rows_of_machine old (λ rows. is_attached (how_of rows c.args.writer)) c.args.reader false
    (λ roster m stands. sym none ∙ c.is_matched.ensures.matched given roster m stands))

pub returns-in_default-clause-refused : goal.returns-in_default-clause-refused
returns-in_default-clause-refused g c = λ given.
    not_matched (kept_of g.L.Listener.notices g.L.Listener.capacity g.L.Listener.becomes given c.args.self.now)
    c.args.writer c.args.reader (c.in_default.ensures.known given)

pub returns-in_err-replies-clause-refused : goal.returns-in_err-replies-clause-refused
returns-in_err-replies-clause-refused g c =
    if_memory (λ code. (given : ℕ → ByEntity g.row.L.Denot)
    → RefusesRound (kept_of g.L.Listener.notices g.L.Listener.capacity g.L.Listener.becomes given c.args.self.now)
    c.args.writer c.args.reader code) c.from_residual.result c.from_residual.ensures.1
    (λ given.
    let ends = c.in-Some.ensures.ends in
    let some : c.is_matched.result ≡ true = search rules in
    let old = kept_of g.L.Listener.notices g.L.Listener.capacity g.L.Listener.becomes given c.args.self.now in
    lacks_memory old c.in-Some.m c.args.writer c.args.reader ends.0 ends.1 (c.in-Some.ensures.known given)
    (here_of old c.args.writer c.args.reader c.in-Some.m.writer c.in-Some.m.reader ends.0 ends.1
    (rows_of_machine old (λ rows. is_attached (how_of rows c.args.writer)) c.args.reader true
    (λ roster m stands. sym some ∙ c.is_matched.ensures.matched given roster m stands))))
