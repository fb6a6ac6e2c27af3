use Rattle.std.proofs.Common.{◌-◌}
use Rattle.dds_cache.specs.Standing.{qos_of}
use Rattle.dds_lease.specs.Standing.{writer_count}
use Rattle.dds_ends.proofs.Dying.{Dying}
use Rattle.dds_ends.proofs.store.Store.expire.Given as goal

abbrev pub invariant-loop-writer : goal.invariant-loop-writer
invariant-loop-writer l =
    Dying (qos_of l.fn.self.cache) l.fn.now l.after l.fn.self
    (record {
      lost = l.self-inside.lost;
      passed = l.self-inside.passed;
      turned = l.self-inside.turned;
      leases = l.self-inside.leases;
      cache = l.self-inside.cache;
    })

abbrev pub decreases-loop-writer : goal.decreases-loop-writer
decreases-loop-writer l = writer_count l.self-inside.leases - l.after
