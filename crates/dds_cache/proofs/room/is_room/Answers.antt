use Rattle.std.proofs.Common.{rules, ◌+◌, ℕ, sym, ap, ◌∙◌, arith}
use Rattle.dds_base.specs.Presence.{is_within}
use Rattle.dds_cache.proofs.RoomLaws.{spare-is-room}
use Rattle.dds_cache.proofs.room.is_room.Goals as goal

pub returns-then-has_spare-clause-room : goal.returns-then-has_spare-clause-room
returns-then-has_spare-clause-room c = λ h holds fresh counted.
    spare-is-room c.args.qos.now c.args.arrival.now h c.args.samples.now c.args.arrivals c.len.result holds.each
    holds.present fresh counted (omega (arith, c.if-qos-arrivals.false)) (search rules)
    (c.len.ensures.len c.args.qos.now h holds.instances)
    (ap (λ (n : ℕ). is_within c.args.qos.now.max_samples (n + 1)) (sym c.requires.counted.writes)
    ∙ c.has_spare.ensures.samples c.if-has_spare.true)
    (search rules)
