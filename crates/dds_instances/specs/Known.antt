-- What is known of an instance.
--
-- DDS 1.4, 2.2.2.5 (SampleInfo: instance_state, view_state, the two generation counts).
use Rattle.std.specs.Prelude.{◌≡◌, ℕ, ◌+◌, ◌≤◌, List, [], ◌∷◌, length, Some, IsTrue, if◌then◌else◌}
use Rattle.std.specs.List.{list_any}
use Rattle.dds_base.specs.declared.key.Key.{Key}
use Rattle.dds_base.specs.declared.happening.Happening.{Happening}
use Rattle.dds_base.specs.declared.happening.SamplePosition.{SamplePosition}
use Rattle.dds_base.specs.declared.qos.ReaderQos.{ReaderQos}
use Rattle.dds_base.specs.Happening.{same_key}
use Rattle.dds_base.specs.Instance.{known_instances, instance_state_of, view_state_of, disposed_generations, no_writers_generations}
use Rattle.dds_base.specs.Access.{handle_of}
use Rattle.dds_base.specs.Life.{is_write, ends_life, last_marker}
use Rattle.dds_base.specs.Ownership.{accepted_kind}
use Rattle.dds_instances.specs.declared.known.KnownInstance.{KnownInstance}

-- how many writes of i were accepted in its life
abbrev pub writes_in_life : ReaderQos → Key → List Happening → ℕ
writes_in_life q i [] = 0
writes_in_life q i (e ∷ h) =
    if ends_life q i h e then 0 else writes_in_life q i h + (if is_write (accepted_kind q i h e) then 1 else 0)

-- what is told of a known instance is what the definitions say of what happened
pub record IsKnown (q : ReaderQos) (h : List Happening) (known : KnownInstance) : Type 0 where
  pub handle_is : known.handle ≡ handle_of q h known.key
  pub state_is : instance_state_of q known.key h ≡ Some known.state
  pub view_is : known.view ≡ view_state_of q known.key h
  pub disposed_is : known.disposed_generations ≡ disposed_generations q known.key h
  pub no_writers_is : known.no_writers_generations ≡ no_writers_generations q known.key h
  pub writes_are : known.accepted_writes ≡ writes_in_life q known.key h
  pub marker_is : known.last_marker ≡ last_marker q known.key h

-- a sample of a known instance, of what has happened
pub record IsReturnable (q : ReaderQos) (h : List Happening) (s : SamplePosition) : Type 0 where
  pub in_past : s.position ≤ length h
  pub is_known : IsTrue (list_any (λ k. same_key k s.key) (known_instances q h))
