-- The calls that access a reader's samples, by their kind: a read or a take, with a selection or by a condition. Inner
-- functions alone cite this: nothing here has to be believed.
--
-- DDS 1.4, 2.2.2.5 (read, take, read_w_condition, take_w_condition and their other forms).
use Rattle.std.specs.Prelude.{ℕ}
use Rattle.dds_base.specs.declared.selection.Scope.{Scope}
use Rattle.dds_base.specs.declared.selection.Selection.{Selection}
use Rattle.dds_cache.specs.declared.access_kind.AccessKind.{AccessKind}
use Rattle.dds_cache.specs.declared.access_kind.AccessKind.TheVariants.{Read, Take}
use Rattle.dds_machine.specs.declared.call.Call.{Call}
use Rattle.dds_machine.specs.declared.call.Call.TheVariants as call

-- the read or take of a reader by a selection
abbrev pub access_call : AccessKind → ℕ → Selection → Call
access_call Read reader selection = call.Read reader selection
access_call Take reader selection = call.Take reader selection

-- the read or take of a reader by a condition
abbrev pub condition_call : AccessKind → ℕ → Scope → ℕ → Call
condition_call Read reader scope condition = call.ReadByCondition reader scope condition
condition_call Take reader scope condition = call.TakeByCondition reader scope condition
