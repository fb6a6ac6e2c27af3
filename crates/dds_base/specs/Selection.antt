-- Which samples an access picks, by its form, and which access is refused.
--
-- DDS 1.4, 2.2.2.5 (read, take, and their instance, next-instance and next-sample forms).
use Rattle.std.specs.Prelude.{ℕ, ℤ, List, Bool, ◌&&◌, Option, None, Some, is_some, if◌then◌else◌}
use Rattle.dds_base.specs.declared.code.Code.{Code}
use Rattle.dds_base.specs.declared.code.Code.TheVariants.{BadParameter}
use Rattle.dds_base.specs.declared.key.Key.{Key}
use Rattle.dds_base.specs.declared.happening.SamplePosition.{SamplePosition}
use Rattle.dds_base.specs.declared.happening.Happening.{Happening}
use Rattle.dds_base.specs.declared.qos.ReaderQos.{ReaderQos}
use Rattle.dds_base.specs.declared.mask.Masks.{Masks}
use Rattle.dds_base.specs.declared.selection.Scope.{Scope}
use Rattle.dds_base.specs.declared.selection.Scope.TheVariants as scope
use Rattle.dds_base.specs.declared.selection.Selection.{Selection}
use Rattle.dds_base.specs.declared.selection.Selection.TheVariants.{Any, Instance, NextInstance, NextSample}
use Rattle.dds_base.specs.Access.{picked_samples, picked_of_instance, picked_of_next_instance, picked_next_sample, instance_of}
use Rattle.dds_base.specs.Checked.{is_maximum, limit_of}

-- what an access picks; the next-sample form has no filter
abbrev pub picked_by : ReaderQos → List Happening → Selection → (Key → List ℕ → Bool) → List SamplePosition
picked_by q h (Any max masks) passes = picked_samples q h (limit_of max) masks passes
picked_by q h (Instance handle max masks) passes = picked_of_instance q h (limit_of max) masks passes handle
picked_by q h (NextInstance previous max masks) passes =
    picked_of_next_instance q h (limit_of max) masks passes previous
picked_by q h NextSample passes = picked_next_sample q h

-- BAD_PARAMETER where the test fails
abbrev pub unless_bad : Bool → Option Code
unless_bad good = if good then None else Some BadParameter

-- why an access is refused: a max that is neither -1 nor positive, or a handle that has to be known and is not
abbrev pub selection_refusal : ReaderQos → List Happening → Selection → Option Code
selection_refusal q h (Any max masks) = unless_bad (is_maximum max)
selection_refusal q h (Instance handle max masks) = unless_bad (is_maximum max && is_some (instance_of q h handle))
selection_refusal q h (NextInstance previous max masks) = unless_bad (is_maximum max)
selection_refusal q h NextSample = None

-- what an access asks for by the masks of a condition (read_w_condition, read_next_instance_w_condition)
abbrev pub selection_in : Scope → Masks → Selection
selection_in (scope.Any max) masks = Any max masks
selection_in (scope.NextInstance previous max) masks = NextInstance previous max masks

-- how many samples it returns at most
abbrev pub max_in : Scope → ℤ
max_in (scope.Any max) = max
max_in (scope.NextInstance previous max) = max
