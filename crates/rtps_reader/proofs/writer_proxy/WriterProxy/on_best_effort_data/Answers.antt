use Rattle.std.proofs.Common.{◌≡◌, true, false, ◌∙◌, arith, rules}
use Rattle.rtps_reader.specs.Proxy.{tracked}
use Rattle.rtps_reader.specs.Moving.{match_of}
use Rattle.rtps_reader.proofs.JumpLaws.{comes-below, comes-no_room, comes-now, has_moved, not_moved}
use Rattle.rtps_reader.proofs.writer_proxy.WriterProxy.on_best_effort_data.Goals as goal

pub returns-then-number-clause-jumps : goal.returns-then-number-clause-jumps
returns-then-number-clause-jumps g c =
    let made = c.in_ok-reserve.ensures in
    let there = made.same.place in
    let number = c.number.ensures.number in
    let place = c.number-2.ensures.number ∙ c.place.ensures.place in
    not_moved (g.S.Sink.qos c.args.sink.now) c.args.source.now (g.S.Sink.stands c.args.sink.now)
    (g.S.Sink.stands c.reserve.new.sink) (tracked c.args.self.now) (tracked c.reserve.new.self) c.args.number
    c.args.change c.idle.result made.stands made.same
    (λ h was. comes-below (match_of (g.S.Sink.qos c.args.sink.now) c.args.source.now) (tracked c.args.self.now).place h
    c.args.number c.args.change (omega (arith, there, number, place, c.if-number.true))) c.idle.ensures

pub returns-then-not-room-clause-jumps : goal.returns-then-not-room-clause-jumps
returns-then-not-room-clause-jumps g c =
    let made = c.in_ok-reserve.ensures in
    let full : c.room.result ≡ false = search rules in
    rw c.room.ensures.same (not_moved (g.S.Sink.qos c.args.sink.now) c.args.source.now (g.S.Sink.stands c.args.sink.now)
    (g.S.Sink.stands c.reserve.new.sink) (tracked c.args.self.now) (tracked c.reserve.new.self) c.args.number
    c.args.change c.idle-then-not-room.result made.stands made.same
    (λ h was. comes-no_room (g.S.Sink.qos c.args.sink.now) (g.S.Sink.qos c.reserve.new.sink) c.args.source.now
    (tracked c.args.self.now) (tracked c.reserve.new.self) c.arrival_of-coming.result c.args.number c.args.change
    c.room.result h made.qos made.same.place c.arrival_of-coming.ensures (c.room.ensures.room h (made.stands h was))
    (c.room.ensures.untaken h (made.stands h was)) full) c.idle-then-not-room.ensures)

pub returns-clause-jumps : goal.returns-clause-jumps
returns-clause-jumps g c =
    let made = c.in_ok-reserve.ensures in
    let number = c.number.ensures.number in
    let place = c.number-2.ensures.number ∙ c.place.ensures.place in
    let free : c.room.result ≡ true = search rules in
    has_moved (g.S.Sink.qos c.args.sink.now) (g.S.Sink.qos c.reserve.new.sink) c.args.source.now
    (g.S.Sink.stands c.args.sink.now) (g.S.Sink.stands c.reserve.new.sink) (g.S.Sink.stands c.come_over.new.sink)
    (tracked c.args.self.now) (tracked c.reserve.new.self) (tracked c.come_over.new.self) c.arrival_of-coming.result
    c.args.number c.args.change c.come_over.result made.qos made.stands made.same c.arrival_of-coming.ensures
    (λ h was. comes-now (g.S.Sink.qos c.args.sink.now) (g.S.Sink.qos c.reserve.new.sink) c.args.source.now
    (tracked c.args.self.now) (tracked c.reserve.new.self) c.arrival_of-coming.result c.args.number c.args.change
    c.room.result h made.qos made.same.place c.arrival_of-coming.ensures (c.room.ensures.room h (made.stands h was))
    (c.room.ensures.untaken h (made.stands h was)) (omega (arith, number, place, c.if-number.false)) free)
    (rw c.room.ensures.same at c.come_over.ensures.moved)
