-- what changes of those so far stands behind the others
use Rattle.std.proofs.Common.{◌≡◌, ◌++◌, take}
use Rattle.std.specs.Option.{option_copied}
use Rattle.rtps_matching.specs.Matches.{changes}
use Rattle.rtps_matching.proofs.endpoints.put_changes.Given as goal

abbrev pub invariant-loop-end : goal.invariant-loop-end
invariant-loop-end l = l.told.items ≡ l.initial.told.items ++ changes (take l.end-index l.own) (option_copied l.old) l.new
