-- Which of the registered writers comes first. Inner functions alone cite this: nothing here has to be believed.
--
-- DDS 1.4, 2.2.3 (OWNERSHIP, OWNERSHIP_STRENGTH).
use Rattle.std.specs.Prelude.{ℕ, List, [], ◌∷◌, ◌++◌, Bool, true, ◌&&◌, ◌||◌, ◌==◌, ℤ, Option, Some, None, unwrap_or, if◌then◌else◌, nat_lt}
use Rattle.std.specs.List.{list_all}
use Rattle.std.specs.Option.{option_map, option_or}
use Rattle.dds_base.specs.declared.change.ChangeKind.{ChangeKind}
use Rattle.dds_base.specs.declared.happening.Arrival.{Arrival}
use Rattle.dds_base.specs.declared.qos.MatchedWriter.{MatchedWriter}
use Rattle.dds_base.specs.declared.qos.ReaderQos.{ReaderQos}
use Rattle.dds_base.specs.Happening.{is_write_or_dispose}
use Rattle.dds_base.specs.Ownership.{Precedence, admits, is_above, writer_of}
use Rattle.dds_owner.specs.declared.ranking.KeptOwner.{KeptOwner}
use Rattle.dds_owner.specs.declared.ranking.Leader.{Leader}
use Rattle.dds_owner.specs.declared.registration.Registration.{Registration}
use Rattle.dds_owner.specs.First.{gives_way}
use Rattle.dds_owner.specs.Restrengthening.{MAX_CHANGES, is_new_strength}
use Rattle.dds_owner.specs.Standing.{KeptStrengths, kept_strength}

-- the strength of a writer that was told last: by a change that comes, or before it
abbrev pub strength_by : KeptStrengths → Option Arrival → ℕ → Option ℤ
strength_by kept None w = kept_strength kept w
strength_by kept (Some a) w =
    if a.writer == w then option_or a.change.strength (kept_strength kept w) else kept_strength kept w

-- a writer with the strength that was told last, and its own where none was
abbrev pub with_strength : Option ℤ → MatchedWriter → MatchedWriter
with_strength told m = record { guid = m.guid; strength = unwrap_or told m.strength; lease = m.lease }

-- the matched writer of a publication handle, with the strength that was told last
abbrev pub writer_by : ReaderQos → KeptStrengths → Option Arrival → ℕ → Option MatchedWriter
writer_by q kept coming w = option_map (with_strength (strength_by kept coming w)) (writer_of (q.writers ++ kept.joined) w)

-- what the order of writers looks at in this one
abbrev pub own_precedence : MatchedWriter → Precedence
own_precedence m = record { strength = m.strength; guid = m.guid }

-- the same of the matched writer of a publication handle, by the strength that was told last
abbrev pub order_by : ReaderQos → KeptStrengths → Option Arrival → ℕ → Option Precedence
order_by q kept coming w = option_map own_precedence (writer_by q kept coming w)

-- the writer comes first of those that are registered, by the owner among these, where that is known
abbrev pub first_among : (ℕ → Option Precedence) → Option ℕ → List Registration → ℕ → Bool
first_among order None rs w = list_all (gives_way order w) rs
first_among order (Some owner) rs w = (owner == w) || is_above (order w) (order owner)

-- the owner that is kept, where no strength has changed since
abbrev pub owner_by : KeptStrengths → Option KeptOwner → Option ℕ
owner_by kept None = None
owner_by kept (Some o) = if (kept.changes == o.changes) && nat_lt kept.changes MAX_CHANGES then Some o.writer else None

-- the same, where no strength changes by a change that comes either
abbrev pub owner_before : KeptStrengths → Option KeptOwner → Arrival → Option ℕ
owner_before kept owner a =
    if is_new_strength a.change.strength (kept_strength kept a.writer) then None else owner_by kept owner

-- the owner that is kept, if it is another writer
abbrev pub owner_but : ℕ → Option KeptOwner → Option KeptOwner
owner_but w None = None
owner_but w (Some o) = if o.writer == w then None else Some o

-- the kind of a writer's change of the instance, if it is accepted by who is registered before it, and by the owner among
-- these, where that is known
abbrev pub accepted_among : (ℕ → Option Precedence) → ReaderQos → Option ℕ → List Registration → ℕ → ChangeKind
    → Option ChangeKind
accepted_among order q owner rs w kind =
    if is_write_or_dispose kind && admits q.ownership (first_among order owner rs w) then Some kind else None

-- the leader once w is registered too
abbrev pub leader_after : (ℕ → Option Precedence) → Option Leader → ℕ → Leader
leader_after order None w = record { writer = w; is_sole = true }
leader_after order (Some l) w =
    if is_above (order w) (order l.writer) then record { writer = w; is_sole = true }
    else record { writer = l.writer; is_sole = l.is_sole && is_above (order l.writer) (order w) }

-- the leader once these are looked at too
abbrev pub leader_among : (ℕ → Option Precedence) → Option Leader → List Registration → Option Leader
leader_among order leader [] = leader
leader_among order leader (r ∷ rs) =
    leader_among order (if r.is_registered then Some (leader_after order leader r.writer) else leader) rs

-- the leader, if it outranks each other one
abbrev pub sole : Option Leader → Option ℕ
sole None = None
sole (Some l) = if l.is_sole then Some l.writer else None

-- what is to be kept of it
abbrev pub owner_to_keep : (ℕ → Option Precedence) → KeptStrengths → List Registration → Option KeptOwner
owner_to_keep order kept rs =
    if nat_lt kept.changes MAX_CHANGES
    then option_map (λ (w : ℕ). record { writer = w; changes = kept.changes }) (sole (leader_among order None rs))
    else None
