use Rattle.std.proofs.Common.{◌≡◌, true, false, refl, ◌∙◌, arith, rules}
use Rattle.rtps_reader.specs.Proxy.{tracked}
use Rattle.rtps_reader.specs.Moving.{match_of}
use Rattle.rtps_reader.specs.Tracked.{Tracked}
use Rattle.rtps_reader.proofs.JumpLaws.{comes-no_room, comes-now}
use Rattle.rtps_reader.proofs.BeginLaws.{begun_change, rests_change, room_refuses}
use Rattle.rtps_reader.proofs.writer_proxy.WriterProxy.begin_at_change.Goals as goal

pub returns-then-not-room-clause-meets : goal.returns-then-not-room-clause-meets
returns-then-not-room-clause-meets g c =
    let made = c.in_ok-reserve.ensures in
    let full : c.room.result ≡ false = search rules in
    let there : Tracked = record (tracked c.args.self.now) { place = c.args.number } in
    rw c.room.ensures.same (rests_change (match_of (g.S.Sink.qos c.args.sink.now) c.args.source.now)
    (g.S.Sink.stands c.args.sink.now) (g.S.Sink.stands c.reserve.new.sink) (tracked c.args.self.now)
    (tracked c.reserve.new.self) c.args.number c.args.change c.idle-then-not-room.result made.stands made.same
    c.idle-then-not-room.ensures
    (λ h was. room_refuses (match_of (g.S.Sink.qos c.args.sink.now) c.args.source.now) (tracked c.args.self.now) h
    c.args.number c.args.change
    (comes-no_room (g.S.Sink.qos c.args.sink.now) (g.S.Sink.qos c.reserve.new.sink) c.args.source.now there there
    c.arrival_of-coming.result c.args.number c.args.change c.room.result h made.qos refl c.arrival_of-coming.ensures
    (c.room.ensures.room h (made.stands h was)) (c.room.ensures.untaken h (made.stands h was)) full)))

pub returns-clause-meets : goal.returns-clause-meets
returns-clause-meets g c =
    let made = c.in_ok-reserve.ensures in
    let number = c.number.ensures.number in
    let place = c.number-2.ensures.number ∙ c.place.ensures in
    let at = made.same.place in
    let free : c.room.result ≡ true = search rules in
    let there : Tracked = record (tracked c.args.self.now) { place = c.args.number } in
    let quiet = c.come_over-step.ensures.quiet in
    begun_change (g.S.Sink.qos c.args.sink.now) (g.S.Sink.qos c.reserve.new.sink) c.args.source.now
    (g.S.Sink.stands c.args.sink.now) (g.S.Sink.stands c.reserve.new.sink) (g.S.Sink.stands c.come_over-step.new.sink)
    (tracked c.args.self.now) (tracked c.reserve.new.self) (tracked c.begin.new.self)
    (tracked c.come_over-step.new.self) c.arrival_of-coming.result c.args.number c.args.change _ made.qos made.stands
    made.same c.begin.ensures.stays c.begin.ensures.place (omega (arith, at, number, place, c.if-number.false))
    c.arrival_of-coming.ensures
    (λ h was. comes-now (g.S.Sink.qos c.args.sink.now) (g.S.Sink.qos c.reserve.new.sink) c.args.source.now there there
    c.arrival_of-coming.result c.args.number c.args.change c.room.result h made.qos refl c.arrival_of-coming.ensures
    (c.room.ensures.room h (made.stands h was)) (c.room.ensures.untaken h (made.stands h was)) (omega arith) free)
    (rw c.room.ensures.same at c.come_over-step.ensures.moved) refl (quiet.0, quiet.1)
