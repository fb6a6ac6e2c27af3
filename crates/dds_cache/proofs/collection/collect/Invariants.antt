-- the samples of the candidates so far are there, the last one first, and they were told
use Rattle.dds_cache.proofs.CollectionLaws.{CollectsMore}
use Rattle.dds_cache.proofs.collection.collect.Given as goal

abbrev pub invariant-loop-done : goal.invariant-loop-done
invariant-loop-done l = CollectsMore l.kind l.samples l.found l.done l.ranks l.collection.items
