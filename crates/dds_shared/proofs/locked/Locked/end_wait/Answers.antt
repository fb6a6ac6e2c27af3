use Rattle.std.proofs.Common.{◌≡◌, ℕ, true, false, List, [], ◌∷◌, ◌++◌, sym, ap, ◌∙◌, subst, arith, rules}
use Rattle.dds_base.specs.Number.{at_number}
use Rattle.dds_conditions.specs.Filtered.{tests_of}
use Rattle.dds_conditions.specs.Watched.{is_used}
use Rattle.dds_log.specs.Logs.{Logged}
use Rattle.dds_machine.specs.declared.call.Call.TheVariants.{WaitEnd}
use Rattle.dds_protocol.specs.declared.event.Event.{Event}
use Rattle.dds_protocol.specs.declared.event.Event.TheVariants.{Call}
use Rattle.dds_trace.specs.declared.trace.Entry.{Entry}
use Rattle.dds_trace.specs.History.{entry_of}
use Rattle.dds_trace.proofs.Uses.{ends_one}
use Rattle.dds_shared.specs.Locks.{Kept}
use Rattle.dds_shared.specs.Seeds.{listeners_in}
use Rattle.dds_shared.proofs.Locking.{goes_on}
use Rattle.dds_shared.proofs.Using.{use_told}
use Rattle.dds_shared.proofs.locked.Locked.end_wait.Goals as goal

pub returns-then-not-is_in_use-clause-unused : goal.returns-then-not-is_in_use-clause-unused
returns-then-not-is_in_use-clause-unused g c used =
    let kept = c.self.invariant.0 in
    let told = use_told g.L.Listener.notices g.L.Listener.capacity g.L.Listener.becomes (listeners_in g.N.Named.slots)
    c.self.inside.core kept.history.roster kept.history.peer c.args.wait_set c.is_in_use.result kept.history.stands
    c.is_in_use.ensures.used in
    let free : c.is_in_use.result ≡ false = search rules in
    let here = ap (λ (k : Kept g.row.F.Denot g.row.L.Denot).
    is_used (at_number k.core.filtered.peer.watch.wait_sets c.args.wait_set)) c.self.view_is in
    let both : false ≡ true = sym free ∙ told ∙ here ∙ used in
    absurd cc

pub push-requires : goal.push-requires
push-requires g c =
    let kept = c.self.invariant.0 in
    let told = use_told g.L.Listener.notices g.L.Listener.capacity g.L.Listener.becomes (listeners_in g.N.Named.slots)
    c.self.inside.core kept.history.roster kept.history.peer c.args.wait_set c.is_in_use.result kept.history.stands
    c.is_in_use.ensures.used in
    let used : c.is_in_use.result ≡ true = search rules in
    let counts = ends_one g.L.Listener.notices g.L.Listener.capacity g.L.Listener.becomes (listeners_in g.N.Named.slots)
    (tests_of g.F.Filter.meaning c.self.inside.core.filtered.filters) kept.history.roster kept.history.peer
    c.self.inside.core c.step-output.new.core c.args.wait_set c.step-output.result.0 kept.history.stands
    kept.history.sound (sym told ∙ used) c.step-output.ensures.step in
    record { room = omega (arith, counts.0, kept.room) }

pub record-requires-clause-countable : goal.record-requires-clause-countable
record-requires-clause-countable g c =
    let kept = c.self.invariant.0 in
    let told = use_told g.L.Listener.notices g.L.Listener.capacity g.L.Listener.becomes (listeners_in g.N.Named.slots)
    c.self.inside.core kept.history.roster kept.history.peer c.args.wait_set c.is_in_use.result kept.history.stands
    c.is_in_use.ensures.used in
    let used : c.is_in_use.result ≡ true = search rules in
    let counts = ends_one g.L.Listener.notices g.L.Listener.capacity g.L.Listener.becomes (listeners_in g.N.Named.slots)
    (tests_of g.F.Filter.meaning c.self.inside.core.filtered.filters) kept.history.roster kept.history.peer
    c.self.inside.core c.step-output.new.core c.args.wait_set c.step-output.result.0 kept.history.stands
    kept.history.sound (sym told ∙ used) c.step-output.ensures.step in
    omega (arith, counts.0, kept.countable)

pub invariant_of-self : goal.invariant_of-self
invariant_of-self g c =
    let old = c.self.inside in
    let kept = c.self.invariant.0 in
    let given = listeners_in g.N.Named.slots in
    let core = c.step-output.new.core in
    let output = c.step-output.result.0 in
    let step = c.step-output.ensures.step in
    let event = Call (WaitEnd c.args.wait_set) in
    let told = use_told g.L.Listener.notices g.L.Listener.capacity g.L.Listener.becomes given old.core kept.history.roster
    kept.history.peer c.args.wait_set c.is_in_use.result kept.history.stands c.is_in_use.ensures.used in
    let used : c.is_in_use.result ≡ true = search rules in
    let counts = ends_one g.L.Listener.notices g.L.Listener.capacity g.L.Listener.becomes given
    (tests_of g.F.Filter.meaning old.core.filtered.filters) kept.history.roster kept.history.peer old.core core
    c.args.wait_set output kept.history.stands kept.history.sound (sym told ∙ used) step in
    let logged = c.record.ensures.log in
    let entries = ap (λ (t : Logged Entry). t.log) logged
    ∙ ap (λ (e : Event). old.tally.log ++ entry_of c.args.pass.now.seat e output ∷ []) c.of-what.ensures
    ∙ ap (λ (s : ℕ). old.tally.log ++ entry_of s event output ∷ []) (sym c.seat.ensures.seat) in
    let stored = c.push.ensures.entered old.tally.log event output c.self.invariant.2 c.own-one.ensures.told
    c.step-output.ensures.twin in (
      goes_on g.F.Filter.meaning g.L.Listener.notices g.L.Listener.capacity g.L.Listener.becomes g.N.Named.filters
          g.N.Named.slots g.N.Named.config g.N.Named.peer old.core core old.tally.log c.record.new.tally.log
          (g.T.Keeping.room old.trace) (g.T.Keeping.room c.push.new.self) old.rest.parts old.rest.amount old.left
          old.tally.next c.record.new.tally.next c.seat.result event output kept step entries
          (omega (arith, counts.0, kept.room, c.push.ensures.less)) (omega (arith, counts.0, kept.countable))
          (ap (λ (t : Logged Entry). t.next) logged),
      c.self.invariant.1,
      subst (λ (es : List Entry). g.T.Keeping.keeps c.push.new.self es) (sym entries) stored,
    )

pub returns-clause-unused : goal.returns-clause-unused
returns-clause-unused g c =
    let old = c.self.inside in
    let kept = c.self.invariant.0 in
    let given = listeners_in g.N.Named.slots in
    let told = use_told g.L.Listener.notices g.L.Listener.capacity g.L.Listener.becomes given old.core kept.history.roster
    kept.history.peer c.args.wait_set c.is_in_use.result kept.history.stands c.is_in_use.ensures.used in
    let used : c.is_in_use.result ≡ true = search rules in
    (ends_one g.L.Listener.notices g.L.Listener.capacity g.L.Listener.becomes given
    (tests_of g.F.Filter.meaning old.core.filtered.filters) kept.history.roster kept.history.peer old.core
    c.step-output.new.core c.args.wait_set c.step-output.result.0 kept.history.stands kept.history.sound
    (sym told ∙ used) c.step-output.ensures.step).1
