use Rattle.std.proofs.Common.{◌≡◌, ℕ, true, List, [], ◌∷◌, ◌++◌, length, sym, ap, ◌∙◌, subst, arith, rules}
use Rattle.dds_conditions.specs.Filtered.{tests_of}
use Rattle.dds_log.specs.Logs.{Logged}
use Rattle.dds_protocol.specs.declared.event.Event.{Event}
use Rattle.dds_core.specs.Listening.{Steps}
use Rattle.dds_trace.specs.declared.trace.Entry.{Entry}
use Rattle.dds_trace.specs.History.{entry_of}
use Rattle.dds_trace.specs.Uses.{in_use_of}
use Rattle.dds_trace.proofs.Uses.{look_ends, one_more}
use Rattle.dds_shared.specs.Locks.{Kept}
use Rattle.dds_shared.specs.Seeds.{listeners_in}
use Rattle.dds_shared.proofs.Locking.{goes_on}
use Rattle.dds_shared.proofs.Using.{uses_told}
use Rattle.dds_shared.proofs.locked.Locked.event.Goals as goal

pub invariant_of-self-2 : goal.invariant_of-self-2
invariant_of-self-2 g c =
    let old = c.self.inside in
    let kept = c.self.invariant.0 in
    let given = listeners_in g.N.Named.slots in
    let peer = kept.history.peer in
    let core = c.step-output.new.core in
    let output = c.step-output.result.0 in
    let step = c.step-output.ensures.step in
    let tests = tests_of g.F.Filter.meaning old.core.filtered.filters in
    let free : c.has_room.result ≡ true = search rules in
    let room = c.has_room.ensures.room free in
    let was_used = ap (λ (k : Kept g.row.F.Denot g.row.L.Denot). in_use_of k.core) c.self.view_is in
    let was_long = ap (λ (k : Kept g.row.F.Denot g.row.L.Denot). length k.entries) c.self.view_is in
    let in_use = uses_told g.L.Listener.notices g.L.Listener.capacity g.L.Listener.becomes given old.core
    kept.history.roster peer c.in_use.result kept.history.stands c.in_use.ensures.used in
    let more = one_more g.L.Listener.notices g.L.Listener.capacity g.L.Listener.becomes given tests kept.history.roster peer
    old.core core c.args.event output kept.history.stands kept.history.sound step in
    let logged = c.record-answer.ensures.log in
    let entries = ap (λ (t : Logged Entry). t.log) logged
    ∙ ap (λ (e : Event). old.tally.log ++ entry_of c.reserve-2.new.self.seat e output ∷ []) c.of-what.ensures
    ∙ ap (λ (s : ℕ). old.tally.log ++ entry_of s c.args.event output ∷ []) (sym c.seat.ensures.seat) in
    let stored = c.push.ensures.entered old.tally.log c.args.event output
    (c.in_ok-reserve.ensures.same old.tally.log c.self.invariant.2) c.in_ok-one.ensures.ok c.step-output.ensures.twin in (
      goes_on g.F.Filter.meaning g.L.Listener.notices g.L.Listener.capacity g.L.Listener.becomes g.N.Named.filters
          g.N.Named.slots g.N.Named.config g.N.Named.peer old.core core old.tally.log c.record-answer.new.tally.log
          (g.T.Keeping.room old.trace) (g.T.Keeping.room c.push.new.self) old.rest.parts old.rest.amount old.left
          old.tally.next c.record-answer.new.tally.next c.seat.result c.args.event output kept step entries
          (omega (arith, more, in_use, c.in_ok-reserve.ensures.room, c.push.ensures.less))
          (omega (arith, more, room, was_used, was_long)) (ap (λ (t : Logged Entry). t.next) logged),
      c.self.invariant.1,
      subst (λ (es : List Entry). g.T.Keeping.keeps c.push.new.self es) (sym entries) stored,
    )

pub returns-clause-ends : goal.returns-clause-ends
returns-clause-ends g c s is waiting memory used =
    let old = c.self.inside in
    let kept = c.self.invariant.0 in
    let core = c.step-output.new.core in
    let output = c.step-output.result.0 in
    let tests = tests_of g.F.Filter.meaning old.core.filtered.filters in
    let says = c.of-said.ensures.says in
    let P : Event → Type 0 =
    λ e. Steps g.L.Listener.notices g.L.Listener.capacity g.L.Listener.becomes tests old.core e output core in
    look_ends g.L.Listener.notices g.L.Listener.capacity g.L.Listener.becomes (listeners_in g.N.Named.slots) tests
    kept.history.roster kept.history.peer old.core core s output kept.history.stands kept.history.sound
    (subst P is c.step-output.ensures.step) (λ w. waiting (says.1.1 w)) (λ m. memory (says.2.1 m)) used
