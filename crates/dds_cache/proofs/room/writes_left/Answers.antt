use Rattle.std.proofs.Common.{List, arith}
use Rattle.dds_base.specs.declared.qos.ReaderQos.{ReaderQos}
use Rattle.dds_cache.specs.declared.kept.Kept.{Kept}
use Rattle.dds_cache.proofs.RoomLaws.{pushed-or-present, unpushed-unknown}
use Rattle.dds_cache.proofs.room.writes_left.Goals as goal

pub returns-in-None : goal.returns-in-None
returns-in-None c = λ h awaits holds.
    let q : ReaderQos = c.args.qos.now in
    let ks : List Kept = c.args.samples.now in
    omega (
      arith,
      c.requires.counted.writes,
      pushed-or-present q c.args.arrival.now h ks holds.each,
      unpushed-unknown q c.args.instances.now c.args.arrival.now h ks (c.in-None.ensures.key q h awaits.stands) holds,
    )

pub returns-in-Some : goal.returns-in-Some
returns-in-Some c = λ h awaits holds.
    let q : ReaderQos = c.args.qos.now in
    let ks : List Kept = c.args.samples.now in
    let pushed = c.count_pushed-pushed.ensures c.args.instances.now c.args.arrival.now h (record {
      is_known = c.in-Some.ensures.known q h awaits.stands;
      key = c.in-Some.ensures.key q h awaits.stands;
      written = awaits.written;
      marked = awaits.marked;
    }) holds in
    omega (
      arith,
      c.requires.counted.writes,
      pushed-or-present q c.args.arrival.now h ks holds.each,
      pushed,
      c.saturating_sub.ensures,
    )
