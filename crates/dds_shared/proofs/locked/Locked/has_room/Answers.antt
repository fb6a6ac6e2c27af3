use Rattle.std.proofs.Common.{◌+◌, ◌≤◌, length, ap, arith, rules}
use Rattle.dds_trace.specs.Uses.{in_use_of}
use Rattle.dds_shared.specs.Locks.{Kept}
use Rattle.dds_shared.specs.Seeds.{listeners_in}
use Rattle.dds_shared.proofs.Using.{uses_told}
use Rattle.dds_shared.proofs.locked.Locked.has_room.Goals as goal

pub returns : goal.returns
returns g c = record {
  room = λ is.
      let kept = c.self.invariant.0 in
      let in_use = uses_told g.L.Listener.notices g.L.Listener.capacity g.L.Listener.becomes (listeners_in g.N.Named.slots) c.self.inside.core
      kept.history.roster kept.history.peer c.in_use.result kept.history.stands c.in_use.ensures.used in
      let enough : c.in_use.result + 2 ≤ c.room.result = search (rules, is) in
      let core = ap (λ (k : Kept g.row.F.Denot g.row.L.Denot). in_use_of k.core) c.self.view_is in
      let long = ap (λ (k : Kept g.row.F.Denot g.row.L.Denot). length k.entries) c.self.view_is in
      omega (arith, enough, c.room.ensures.room, in_use, core, long);
}
