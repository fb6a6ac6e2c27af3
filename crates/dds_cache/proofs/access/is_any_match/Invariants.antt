-- none of those so far does
use Rattle.std.proofs.Common.{◌≡◌, List, false, take}
use Rattle.std.specs.List.{All, list_any}
use Rattle.dds_base.specs.declared.happening.Happening.{Happening}
use Rattle.dds_instances.specs.Table.{Stands}
use Rattle.dds_cache.specs.Kept.{IsKept}
use Rattle.dds_cache.specs.Finding.{is_sought, passes}
use Rattle.dds_cache.proofs.access.is_any_match.Given as goal

abbrev pub invariant-loop-kept : goal.invariant-loop-kept
invariant-loop-kept g l =
    (h : List Happening) → Stands l.qos l.instances h → All (IsKept l.qos h) l.samples
    → list_any (passes l.qos h (is_sought l.qos h l.selection l.masks (g.T.Test.meaning l.test)))
    (take l.kept-index l.samples) ≡ false
