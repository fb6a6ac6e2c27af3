-- What happened at a writer, the newest first, and its changes in the order of their numbers
-- (DDS 1.4, 2.2.2.4: register_instance, write, dispose, unregister_instance, assert_liveliness; 2.2.3: LIVELINESS;
-- RTPS 2.5, 8.2: HistoryCache, CacheChange).
use Rattle.std.specs.Prelude.{ℕ, ◌+◌, ◌-◌, ◌^◌, min, nat_le, Option, Some, None, List, [], ◌∷◌, ◌++◌, Bool, true, false, ◌||◌, not, ℤ, if◌then◌else◌}
use Rattle.dds_base.specs.declared.key.Key.{Key}
use Rattle.dds_base.specs.declared.change.Change.{Change}
use Rattle.dds_base.specs.declared.status.LivelinessLostStatus.{LivelinessLostStatus}
use Rattle.dds_base.specs.Happening.{same_key, is_unregister}

-- one thing that happened at a writer: an accepted call, a look at LIVELINESS_LOST, or a tick of its peer
pub data Written : Type 0 where
  Registered : (key : Key) → Written
  Changed : (change : Change) → Written
  Asserted : (moment : ℕ) → Written
  LookedAt : Written
  StrengthSet : (strength : ℤ) → Written
  -- behind: some matched reliable reader had not acknowledged all, or had asked for a HEARTBEAT
  Ticked : (now : ℕ) → (behind : Bool) → Written

-- the changes, in the order of their numbers, which count from 1
abbrev pub changes_of : List Written → List Change
changes_of [] = []
changes_of (Changed change ∷ c) = changes_of c ++ change ∷ []
changes_of (_ ∷ c) = changes_of c

-- the writer has registered the instance: by a register, a write or a dispose of it that no unregister has followed
abbrev pub is_key_registered : Key → List Written → Bool
is_key_registered i [] = false
is_key_registered i (Registered key ∷ c) = same_key key i || is_key_registered i c
is_key_registered i (Changed change ∷ c) =
    if same_key change.key i then not (is_unregister change.kind) else is_key_registered i c
is_key_registered i (_ ∷ c) = is_key_registered i c

-- the strength of a writer that was configured with this one: the one that was set last (2.2.3, OWNERSHIP_STRENGTH)
abbrev pub last_strength : ℤ → List Written → ℤ
last_strength configured [] = configured
last_strength configured (StrengthSet strength ∷ c) = strength
last_strength configured (_ ∷ c) = last_strength configured c

-- the strength that its next change carries; none of a writer of shared ownership, which was configured with none
abbrev pub strength_now : Option ℤ → List Written → Option ℤ
strength_now None c = None
strength_now (Some configured) c = Some (last_strength configured c)

-- the lease of a writer that was asserted last at this moment has run out (2.2.3, LIVELINESS)
abbrev pub is_over : Option ℕ → Option ℕ → ℕ → Bool
is_over (Some lease) (Some asserted) now = nat_le (asserted + lease) now
is_over _ _ now = false

-- the moment of the newest change or assertion that no loss has followed
abbrev pub live_since : Option ℕ → List Written → Option ℕ
live_since lease [] = None
live_since lease (Changed change ∷ c) = Some change.source_timestamp
live_since lease (Asserted moment ∷ c) = Some moment
live_since lease (Ticked now behind ∷ c) = if is_over lease (live_since lease c) now then None else live_since lease c
live_since lease (_ ∷ c) = live_since lease c

-- how often the writer's liveliness was lost (2.2.4.1, LIVELINESS_LOST)
abbrev pub losses : Option ℕ → List Written → ℕ
losses lease [] = 0
losses lease (Ticked now behind ∷ c) = losses lease c + (if is_over lease (live_since lease c) now then 1 else 0)
losses lease (_ ∷ c) = losses lease c

-- how many of its losses there were when the application looked at them last; 0 before the first look
abbrev pub losses_seen : Option ℕ → List Written → ℕ
losses_seen lease [] = 0
losses_seen lease (LookedAt ∷ c) = losses lease c
losses_seen lease (_ ∷ c) = losses_seen lease c

-- a number of losses as LIVELINESS_LOST tells it: in 64 bits, where it stays at the greatest number
abbrev pub told_losses : ℕ → ℕ
told_losses n = min n (2 ^ 64 - 1)

-- the total of LIVELINESS_LOST
abbrev pub loss_count : Option ℕ → List Written → ℕ
loss_count lease c = told_losses (losses lease c)

-- LIVELINESS_LOST after this happened: the change is against the total when the application looked at it last
abbrev pub liveliness_lost_status : Option ℕ → List Written → LivelinessLostStatus
liveliness_lost_status lease c = record {
  total_count = loss_count lease c;
  total_count_change = loss_count lease c - told_losses (losses_seen lease c);
}

-- What each HEARTBEAT count of a writer numbers, in order: an assertion, or not. A count is due to each assertion,
-- whether or not somebody is told of it, and to each tick at which some reader was behind, or had asked for a
-- HEARTBEAT.
abbrev pub counts_of : List Written → List Bool
counts_of [] = []
counts_of (Asserted moment ∷ c) = counts_of c ++ true ∷ []
counts_of (Ticked now behind ∷ c) = if behind then counts_of c ++ false ∷ [] else counts_of c
counts_of (_ ∷ c) = counts_of c
