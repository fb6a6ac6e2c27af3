use Rattle.std.proofs.Common.{◌≡◌, true, length, ap, arith, refl, rules}
use Rattle.dds_conditions.specs.Filtered.{tests_of}
use Rattle.dds_log.specs.Logs.{Logged}
use Rattle.dds_protocol.specs.declared.event.Event.TheVariants.{Deliver}
use Rattle.dds_trace.specs.declared.trace.Entry.{Entry}
use Rattle.dds_trace.specs.Uses.{in_use_of}
use Rattle.dds_trace.proofs.Uses.{one_more}
use Rattle.dds_shared.specs.Locks.{Kept}
use Rattle.dds_shared.specs.Seeds.{listeners_in}
use Rattle.dds_shared.proofs.Locking.{goes_on}
use Rattle.dds_shared.proofs.locked.Locked+N+F+L+Counted.deliver.Goals as goal

pub record_delivery-requires-clause-entry : goal.record_delivery-requires-clause-entry
record_delivery-requires-clause-entry g c = refl

pub invariant_of-self : goal.invariant_of-self
invariant_of-self g c =
    let old = c.self.inside in
    let kept = c.self.invariant.0 in
    let given = listeners_in g.N.Named.slots in
    let peer = kept.history.peer in
    let core = c.deliver-output.new.self in
    let output = c.deliver-output.result in
    let step = c.deliver-output.ensures.step in
    let tests = tests_of g.F.Filter.meaning old.core.filtered.filters in
    let free : c.has_room.result ≡ true = search rules in
    let room = c.has_room.ensures.room free in
    let was_used = ap (λ (k : Kept g.row.F.Denot g.row.L.Denot). in_use_of k.core) c.self.view_is in
    let was_long = ap (λ (k : Kept g.row.F.Denot g.row.L.Denot). length k.entries) c.self.view_is in
    let more = one_more g.L.Listener.notices g.L.Listener.capacity g.L.Listener.becomes given tests kept.history.roster peer
    old.core core (Deliver c.args.octets.now) output kept.history.stands kept.history.sound step in
    let logged = c.record_delivery.ensures.log in (
      goes_on g.F.Filter.meaning g.L.Listener.notices g.L.Listener.capacity g.L.Listener.becomes g.N.Named.filters
          g.N.Named.slots g.N.Named.config g.N.Named.peer old.core core old.tally.log c.record_delivery.new.tally.log
          18446744073709551615 18446744073709551615 old.rest.parts old.rest.amount old.left old.tally.next
          c.record_delivery.new.tally.next c.args.pass.now.seat (Deliver c.args.octets.now) output kept step
          (ap (λ (t : Logged Entry). t.log) logged) (omega (arith, more, room, was_used, was_long))
          (omega (arith, more, room, was_used, was_long)) (ap (λ (t : Logged Entry). t.next) logged),
      c.self.invariant.1,
      tt,
    )
