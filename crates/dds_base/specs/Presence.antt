-- The samples that are present at a reader, and its room.
--
-- DDS 1.4, 2.2.3 (HISTORY, RESOURCE_LIMITS), 2.2.2.5 (valid_data).
use Rattle.std.specs.Prelude.{ℕ, List, ◌∷◌, length, Bool, true, false, ◌&&◌, ◌||◌, nat_le, not, Option, None, Some, is_some, filter, map, count_by}
use Rattle.std.specs.List.{flat_map}
use Rattle.dds_base.specs.declared.key.Key.{Key}
use Rattle.dds_base.specs.declared.happening.SamplePosition.{SamplePosition}
use Rattle.dds_base.specs.declared.happening.Happening.{Happening}
use Rattle.dds_base.specs.declared.happening.Happening.TheVariants.{Came}
use Rattle.dds_base.specs.declared.qos.ReaderQos.{ReaderQos}
use Rattle.dds_base.specs.Happening.{as_of, arrivals}
use Rattle.dds_base.specs.Ownership.{accepted_kind}
use Rattle.dds_base.specs.Instance.{known_instances}
use Rattle.dds_base.specs.Life.{ends_with_write, is_there, last_accepted, last_marker, marks_from, up_to}

-- the entry turns i to a not-alive state, from another one or from unknown: it leaves a marker, a sample without data
-- (2.2.2.5, valid_data)
abbrev pub marks : ReaderQos → Key → List Happening → Happening → Bool
marks q i h e = marks_from q i h e (last_accepted q i h)

-- the sample of i at position j is present: not taken, and a write that the history keeps or i's last marker (2.2.2.5;
-- 2.2.3, HISTORY)
abbrev pub is_present : ReaderQos → List Happening → Key → ℕ → Bool
is_present q h i j = is_there q h i (last_marker q i h) j

-- the present samples of one instance, by position
abbrev pub present_of : ReaderQos → List Happening → Key → List SamplePosition
present_of q h i = map (λ j. record { key = i; position = j }) (filter (is_present q h i) (up_to (length h)))

-- the present samples, by handle and then by position
abbrev pub present_samples : ReaderQos → List Happening → List SamplePosition
present_samples q h = flat_map (present_of q h) (known_instances q h)

-- how many present samples are writes: those without data count against no limit
abbrev pub present_writes : ReaderQos → List Happening → ℕ
present_writes q h = count_by (λ (s : SamplePosition). ends_with_write q s.key (as_of s.position h))
    (present_samples q h)

-- the number keeps to the limit, if there is one
abbrev pub is_within : Option ℕ → ℕ → Bool
is_within None n = true
is_within (Some limit) n = nat_le n limit

-- the entry is an accepted write or dispose
abbrev pub is_accepted : ReaderQos → List Happening → Happening → Bool
is_accepted q h (Came a) = is_some (accepted_kind q a.change.key h (Came a))
is_accepted q h _ = false

-- after an accepted write or dispose the limits hold, and after any arrival no more changes came than the reader takes in
-- its life (RESOURCE_LIMITS; `max_arrivals` is this project's own)
abbrev pub has_room : ReaderQos → List Happening → Happening → Bool
has_room q h e =
    nat_le (arrivals (e ∷ h)) q.max_arrivals
    && (not (is_accepted q h e)
    || (is_within q.max_samples (present_writes q (e ∷ h))
    && is_within q.max_instances (length (known_instances q (e ∷ h)))))
