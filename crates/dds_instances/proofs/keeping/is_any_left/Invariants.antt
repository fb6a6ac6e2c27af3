-- somebody is registered for the instance of each sample so far
use Rattle.std.proofs.Common.{◌≡◌, List, take, false}
use Rattle.dds_base.specs.declared.happening.Happening.{Happening}
use Rattle.dds_base.specs.declared.qos.ReaderQos.{ReaderQos}
use Rattle.dds_instances.specs.Following.{Follows}
use Rattle.dds_instances.specs.Table.{is_any_left}
use Rattle.dds_instances.proofs.keeping.is_any_left.Given as goal

abbrev pub invariant-loop-sample : goal.invariant-loop-sample
invariant-loop-sample l =
    (q : ReaderQos) (h : List Happening) → Follows q h l.tracks
    → is_any_left q h (take l.sample-index l.samples) ≡ false
