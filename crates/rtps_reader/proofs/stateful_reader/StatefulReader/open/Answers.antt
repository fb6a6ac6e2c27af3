use Rattle.std.proofs.Common.{◌≡◌, ◌+◌, ℕ, List, [], ◌∷◌, ◌++◌, arith, length}
use Rattle.std.proofs.lemmas.Grind.{common_steps}
use Rattle.rtps_reader.specs.declared.known_writer.KnownWriter.{KnownWriter}
use Rattle.rtps_reader.specs.Tracked.{fresh}
use Rattle.rtps_reader.specs.Proxy.{tracked}
use Rattle.rtps_reader.proofs.ReaderLaws.{begun_more, sound_more, tracks_more, same_back}
use Rattle.rtps_reader.proofs.stateful_reader.StatefulReader.open.Goals as goal

grow_len : (items : List KnownWriter) (p : KnownWriter) (n : ℕ) → length items ≡ n → length (items ++ p ∷ []) ≡ n + 1
grow_len items p n len = grind (arith, common_steps, len)

pub loop-preserved : goal.loop-preserved
loop-preserved c =
    let it = c.loop.invariant in
    let items = c.in_ok-push.ensures.items in
    record {
      sound = rw items (sound_more c.loop.known.items c.open.result it.sound c.open.ensures.sound);
      len = rw items (grow_len _ _ _ it.len);
      fresh = rw items (tracks_more c.loop.known.items c.open.result c.loop.counter fresh it.len it.fresh
          (same_back fresh (tracked c.open.result.proxy) c.open.ensures.tracked));
      begun = rw items (begun_more c.loop.known.items c.open.result c.loop.counter it.len it.begun
          c.open.ensures.how);
    }

pub returns-clause-fresh : goal.returns-clause-fresh
returns-clause-fresh c index lt = c.loop.invariant.fresh index (omega (arith, lt))

pub returns-clause-begun : goal.returns-clause-begun
returns-clause-begun c index lt = c.loop.invariant.begun index (omega (arith, lt))
