use Rattle.std.proofs.Common.{Some, ap, subst, sym, ◌∙◌, inl, inr, arith}
use Rattle.rtps_writer.specs.declared.heartbeat.HeartbeatDue.{HeartbeatDue}
use Rattle.rtps_writer.specs.Standing.{Kept, StandsFor}
use Rattle.rtps_writer.specs.WriterState.{history_of, is_told, ticked}
use Rattle.rtps_writer.proofs.Parts.{history_at, stands_as}
use Rattle.rtps_writer.proofs.TickLaws.{Idle, idle, due, stands-due}
use Rattle.rtps_writer.proofs.stateful_writer.StatefulWriter.tick.Goals as goal
use Rattle.rtps_writer.proofs.stateful_writer.StatefulWriter.tick.Goals.{then-not-tells_any-via-then-not-tells_any, then-not-tells_any-via-else-not-tells_any+then-self-ge-MAX_COUNT}

-- the HEARTBEAT would be for nobody, or the counts are used up
nothing : (c : goal.Joined-then-not-tells_any) (s : _) → StandsFor c.args.self.now s
    → Idle c.args.self.now c.tick.new.self s c.args.now
nothing c s given =
    let used = ap (λ (k : Kept). k.counts_used) c.self.view_is in
    let here = stands_as c.args.self.now _ s (sym c.self.view_is) given in
    idle c.args.self.now c.tick.new.self s c.args.now given
    (c.tick.ensures s.lease s.written (is_told s) here.liveliness)
    (elim c.then-not-tells_any.branch [
      | then-not-tells_any-via-then-not-tells_any w ↦ inl (sym (c.tells_any-tells_any.ensures s given) ∙ w.if-not-tells_any.true)
      | then-not-tells_any-via-else-not-tells_any+then-self-ge-MAX_COUNT w ↦ inr
          (omega (arith, used, w.if-self-ge-MAX_COUNT.true))
    ])

pub returns-then-not-tells_any-clause-stands : goal.returns-then-not-tells_any-clause-stands
returns-then-not-tells_any-clause-stands c = λ s given.
    subst (λ (k : Kept). StandsFor (record k { liveliness = c.tick.new.self }) (ticked s c.args.now))
    (sym c.self.view_is) (nothing c s given).0

pub returns-then-not-tells_any-clause-due : goal.returns-then-not-tells_any-clause-due
returns-then-not-tells_any-clause-due c = λ s given. sym (nothing c s given).1

pub returns-clause-stands : goal.returns-clause-stands
returns-clause-stands c = λ s given.
    let here = stands_as c.args.self.now _ s (sym c.self.view_is) given in
    subst (λ (k : Kept). StandsFor k (ticked s c.args.now)) (sym c.next_heartbeat.ensures.used)
    (stands-due _ c.tick.new.self s c.args.now here (c.tick.ensures s.lease s.written (is_told s) here.liveliness)
    (sym (c.tells_any-tells_any.ensures s given) ∙ c.if-not-tells_any.false) (omega (arith, c.if-self-ge-MAX_COUNT.false)))

pub returns-clause-due : goal.returns-clause-due
returns-clause-due c = λ s given.
    let h = history_at _ c.args.self.now s c.self.view_is given in
    ap (λ (due : HeartbeatDue). Some due) (c.next_heartbeat.ensures.due (history_of s) h)
    ∙ sym (due _ s c.args.now (stands_as c.args.self.now _ s (sym c.self.view_is) given)
    (sym (c.tells_any-tells_any.ensures s given) ∙ c.if-not-tells_any.false) (omega (arith, c.if-self-ge-MAX_COUNT.false)))
