-- Who is registered for an instance at a reader, who owns it, and which changes are accepted.
--
-- DDS 1.4, 2.2.3 (OWNERSHIP, OWNERSHIP_STRENGTH, LIVELINESS), 2.2.2.4 (register_instance,
-- unregister_instance).
use Rattle.std.specs.Prelude.{ℕ, zero, suc, ◌+◌, ◌<◌, ◌≤◌, ◌≡◌, ◌≢◌, ℤ, Contains, IsTrue, List, [], ◌∷◌, ◌++◌, length, Bool, true, false, ◌&&◌, ◌||◌, ◌==◌, not, Option, None, Some, IfSome, if◌then◌else◌, filter, find, slice_get, unwrap_or}
use Rattle.std.specs.List.{list_all}
use Rattle.std.specs.Option.{option_map, option_or}
use Rattle.std.specs.Ordering.{ordering_then, int_cmp, nat_cmp, is_gt}
use Rattle.std.specs.Cmp.Lexicographic.{slice_cmp}
use Rattle.std.specs.declared.cmp.Ordering.{Ordering}
use Rattle.dds_base.specs.declared.key.Key.{Key}
use Rattle.dds_base.specs.declared.guid.Guid.{Guid}
use Rattle.dds_base.specs.declared.change.ChangeKind.{ChangeKind}
use Rattle.dds_base.specs.declared.happening.Happening.{Happening}
use Rattle.dds_base.specs.declared.happening.Happening.TheVariants.{Came, Passed, Heard, Died, Left, Joined}
use Rattle.dds_base.specs.declared.qos.MatchedWriter.{MatchedWriter}
use Rattle.dds_base.specs.declared.qos.ReaderQos.{ReaderQos}
use Rattle.dds_base.specs.declared.qos.OwnershipQos.{OwnershipQos}
use Rattle.dds_base.specs.declared.qos.OwnershipQos.TheVariants.{Shared, Exclusive}
use Rattle.dds_base.specs.Happening.{same_key, is_write_or_dispose, is_unregister}

-- the strength that the changes of a writer carry, where it is configured with this one: none under SHARED (2.2.3,
-- OWNERSHIP_STRENGTH)
abbrev pub carried : OwnershipQos → ℤ → Option ℤ
carried Shared strength = None
carried Exclusive strength = Some strength

-- the numbers of a list's elements, from k on
abbrev pub numbered_from : {X : Type 0} → ℕ → List X → List ℕ
numbered_from k [] = []
numbered_from k (x ∷ xs) = k ∷ numbered_from (k + 1) xs

-- the writers that joined, the oldest first (RTPS 2.5, 8.4.10, matched_writer_add)
abbrev pub joined_in : List Happening → List MatchedWriter
joined_in [] = []
joined_in (Joined writer ∷ h) = joined_in h ++ writer ∷ []
joined_in (_ ∷ h) = joined_in h

-- the matched writers once h has happened, in the order of their handles: those of the opening, and then those that
-- joined. One that left keeps its place.
abbrev pub writers_of : ReaderQos → List Happening → List MatchedWriter
writers_of q h = q.writers ++ joined_in h

-- the publication handles of the matched writers: their numbers from 1 (2.2.2.5, publication_handle)
abbrev pub publication_handles : ReaderQos → List Happening → List ℕ
publication_handles q h = numbered_from 1 (writers_of q h)

-- w is a matched writer's publication handle
abbrev pub IsMatched : ReaderQos → List Happening → ℕ → Type 0
IsMatched q h w = (0 < w) × (w ≤ length (writers_of q h))

-- the writer that the entry names by its publication handle, if it names one
abbrev pub named_by : Happening → Option ℕ
named_by (Came a) = Some a.writer
named_by (Passed w first last) = Some w
named_by (Heard w moment) = Some w
named_by (Died w moment) = Some w
named_by (Left w moment) = Some w
named_by _ = None

-- each writer that an entry names was matched before it
abbrev pub AreOfMatched : ReaderQos → List Happening → Type 0
AreOfMatched q [] = Unit {0}
AreOfMatched q (e ∷ h) = IfSome (named_by e) (IsMatched q h) × AreOfMatched q h

-- the entry registers writer w for instance i
abbrev pub registers : Key → ℕ → Happening → Bool
registers i w (Came a) = (same_key a.change.key i && (a.writer == w)) && is_write_or_dispose a.change.kind
registers i w _ = false

-- the entry ends w's registration for i: its unregister, or its death
abbrev pub ends_registration : Key → ℕ → Happening → Bool
ends_registration i w (Came a) = (same_key a.change.key i && (a.writer == w)) && is_unregister a.change.kind
ends_registration i w (Died v now) = v == w
ends_registration i w _ = false

-- w is registered for i: a write or dispose of it came after all its unregisters of i and all its deaths (2.2.2.4)
abbrev pub is_registered : Key → ℕ → List Happening → Bool
is_registered i w [] = false
is_registered i w (e ∷ h) = not (ends_registration i w e) && (registers i w e || is_registered i w h)

-- the writers that are registered for i
abbrev pub registered_writers : ReaderQos → Key → List Happening → List ℕ
registered_writers q i h = filter (λ w. is_registered i w h) (publication_handles q h)

-- the order of two GUIDs by their sixteen octets: the twelve of the prefix, then the four of the entity (RTPS 2.5, 8.2:
-- GUID_t; the order is ours)
abbrev pub guid_cmp : Guid → Guid → Ordering
guid_cmp a b = ordering_then (slice_cmp nat_cmp a.prefix.0 b.prefix.0) (slice_cmp nat_cmp a.entity.0 b.entity.0)

-- what the order of writers looks at
pub record Precedence : Type 0 where
  pub strength : ℤ
  pub guid : Guid

-- the order of two writers: by strength, and of equals the one with the smaller GUID is the greater (2.2.3,
-- OWNERSHIP_STRENGTH)
abbrev pub writer_cmp : Precedence → Precedence → Ordering
writer_cmp a b = ordering_then (int_cmp a.strength b.strength) (guid_cmp b.guid a.guid)

-- the strength that the newest change of writer w with one had; none where no such change has come (2.2.3,
-- OWNERSHIP_STRENGTH)
abbrev pub told_strength : ℕ → List Happening → Option ℤ
told_strength w [] = None
told_strength w (Came a ∷ h) =
    if a.writer == w then option_or a.change.strength (told_strength w h) else told_strength w h
told_strength w (_ ∷ h) = told_strength w h

-- the strength of a matched writer, of this publication handle, once h has happened: the one that its newest change
-- had, and the one that it was configured with, or announced, until one has come
abbrev pub strength_of : List Happening → ℕ → MatchedWriter → ℤ
strength_of h w m = unwrap_or (told_strength w h) m.strength

-- what the order of writers looks at in this one, once h has happened
abbrev pub precedence : List Happening → ℕ → MatchedWriter → Precedence
precedence h w m = record { strength = strength_of h w m; guid = m.guid }

-- the matched writer of a publication handle
abbrev pub writer_of : List MatchedWriter → ℕ → Option MatchedWriter
writer_of writers zero = None
writer_of writers (suc at) = slice_get writers at

-- the same of the matched writer of a publication handle
abbrev pub precedence_of : ReaderQos → List Happening → ℕ → Option Precedence
precedence_of q h w = option_map (precedence h w) (writer_of (writers_of q h) w)

-- both are there, and the first is the greater
abbrev pub is_above : Option Precedence → Option Precedence → Bool
is_above (Some a) (Some b) = is_gt (writer_cmp a b)
is_above _ _ = false

-- once h has happened, v is stronger than w, or as strong with a smaller GUID
abbrev pub outranks : ReaderQos → List Happening → ℕ → ℕ → Bool
outranks q h v w = is_above (precedence_of q h v) (precedence_of q h w)

-- w outranks each other writer of a list
abbrev pub outranks_all : ReaderQos → List Happening → List ℕ → ℕ → Bool
outranks_all q h ws w = list_all (λ v. (v == w) || outranks q h w v) ws

-- the owner among registered writers: one of them, which outranks each other one (2.2.3, OWNERSHIP)
pub record IsOwner (q : ReaderQos) (h : List Happening) (ws : List ℕ) (w : ℕ) : Type 0 where
  pub is_registered : Contains ws w
  pub is_greatest : (v : ℕ) → Contains ws v → v ≢ w → IsTrue (outranks q h w v)

-- the owner, computed
abbrev pub owner_of : ReaderQos → List Happening → List ℕ → Option ℕ
owner_of q h ws = find (outranks_all q h ws) ws

-- no two matched writers have one GUID, as no two writers of a checked configuration have
abbrev pub HaveOwnGuids : ReaderQos → List Happening → Type 0
HaveOwnGuids q h = (v w : ℕ) (a b : MatchedWriter) → writer_of (writers_of q h) v ≡ Some a
    → writer_of (writers_of q h) w ≡ Some b → a.guid ≡ b.guid → v ≡ w

-- SHARED lets every writer change an instance, EXCLUSIVE the owner among those registered before and itself (2.2.3,
-- OWNERSHIP)
abbrev pub admits : OwnershipQos → Bool → Bool
admits Shared is_owner = true
admits Exclusive is_owner = is_owner

-- the kind of an accepted write or dispose of instance i that comes upon h, by the strengths once it has come; none for
-- all else
abbrev pub accepted_kind : ReaderQos → Key → List Happening → Happening → Option ChangeKind
accepted_kind q i h (Came a) =
    if same_key a.change.key i
    && (is_write_or_dispose a.change.kind
    && admits q.ownership (outranks_all q (Came a ∷ h) (registered_writers q i h) a.writer))
    then Some a.change.kind else None
accepted_kind q i h _ = None
