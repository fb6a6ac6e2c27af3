use Rattle.std.proofs.Common.{sym, ◌∙◌, arith}
use Rattle.rtps_writer.specs.WriterState.{history_of}
use Rattle.rtps_writer.proofs.Parts.{history_at, stands_as}
use Rattle.rtps_writer.proofs.TickLaws.{due-asserted}
use Rattle.rtps_writer.proofs.stateful_writer.StatefulWriter.assert.Goals as goal

pub returns-clause-accepted : goal.returns-clause-accepted
returns-clause-accepted c = λ s given.
    let h = history_at _ c.args.self.now s c.self.view_is given in
    let here = stands_as c.args.self.now _ s (sym c.self.view_is) given in
    let due =
    due-asserted _ s c.args.is_matched c.args.now c.next_heartbeat-heartbeat.result here
    (omega (arith, c.if-self-ge-MAX_COUNT.false))
    (c.next_heartbeat-heartbeat.ensures.due (history_of s) h) in
    (due.0, c.then_some.ensures ∙ due.1)
