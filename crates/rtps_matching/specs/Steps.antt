-- What an event at the table leads to: the table after it, and what is told (RTPS 2.5, 8.5.4: SEDP).
use Rattle.std.specs.Prelude.{◌≡◌, ℕ, ◌∷◌, ◌++◌, ◌&&◌, Bool, not, true, false, List, [], map, filter, flat_map, filter_map, find, nat_le, Option, Some, if◌then◌else◌}
use Rattle.std.specs.List.{count_by, list_any}
use Rattle.std.specs.Str.{bytes_eq}
use Rattle.dds_base.specs.declared.guid.Guid.{Guid}
use Rattle.dds_base.specs.declared.guid.GuidPrefix.{GuidPrefix}
use Rattle.rtps_announcements.specs.declared.endpoint.Endpoint.{Endpoint}
use Rattle.rtps_announcements.specs.declared.qos.EndpointKind.{EndpointKind}
use Rattle.rtps_matching.specs.declared.end.End.{End}
use Rattle.rtps_matching.specs.declared.far.Far.{Far}
use Rattle.rtps_matching.specs.declared.told.Told.{Told}
use Rattle.rtps_matching.specs.Matches.{Announces, announced, change, changes, is_far, is_matched, is_named, is_of, parting}

-- our own endpoints, those of others, and how many of one participant are known at most
pub record Table : Type 0 where
  pub own : List End
  pub far : List Far
  pub most : ℕ

-- ---- our own

-- there is an own endpoint of this name
abbrev pub has_own : Guid → Table → Bool
has_own guid t = list_any (is_named guid) t.own

-- one more of our own
abbrev pub with_own : End → Table → Table
with_own e t = record { own = t.own ++ e ∷ []; far = t.far; most = t.most }

-- an own endpoint is new: it is matched with these
abbrev pub meeting : End → Far → Option Told
meeting own f = change own.endpoint.guid f.guid false (is_matched own f)

abbrev pub meetings_of : List Far → End → List Told
meetings_of far own = filter_map (meeting own) far

abbrev pub told_of_own : End → Table → List Told
told_of_own e t = meetings_of t.far e

-- one less
abbrev pub without_own : Guid → Table → Table
without_own guid t = record { own = filter (λ e. not (is_named guid e)) t.own; far = t.far; most = t.most }

-- an own endpoint goes: it was matched with these
abbrev pub partings_of : List Far → End → List Told
partings_of far e = filter_map (parting e) far

abbrev pub told_without_own : Guid → Table → List Told
told_without_own guid t = flat_map (partings_of t.far) (filter (is_named guid) t.own)

-- ---- those of others

-- the table with these far endpoints
abbrev pub with_far : List Far → Table → Table
with_far far t = record { own = t.own; far = far; most = t.most }

-- there is a far endpoint of this name
abbrev pub has_far : Guid → Table → Bool
has_far guid t = list_any (is_far guid) t.far

-- no more are known of this participant
abbrev pub is_full : GuidPrefix → Table → Bool
is_full prefix t = nat_le t.most (count_by (is_of prefix) t.far)

-- what is known of it
abbrev pub known_as : Guid → List Far → Option Far
known_as guid far = find (is_far guid) far

-- the newest announcement counts: it stands where the one before stood, or last
abbrev pub placed : Far → List Far → List Far
placed new [] = new ∷ []
placed new (f ∷ far) = if is_far new.guid f then new ∷ far else f ∷ placed new far

-- the octets are those of before, and the endpoint is as it was
abbrev pub is_again : Guid → List ℕ → Far → Bool
is_again guid payload f = is_far guid f && (f.is_awake && bytes_eq f.payload payload)

abbrev pub says_again : Guid → List ℕ → Table → Bool
says_again guid payload t = list_any (is_again guid payload) t.far

-- An endpoint is announced. What stands there already changes nothing; else what it says is read, and counts from then on.
pub record Announced (t : Table) (guid : Guid) (kind : EndpointKind) (payload : List ℕ) (new : Table) (told : List Told)
    : Type 0 where
  pub said : Option Endpoint
  pub reads : Announces guid kind payload said
  pub table : new ≡ with_far (placed (announced guid kind payload said) t.far) t
  pub told_is : told ≡ changes t.own (known_as guid t.far) (announced guid kind payload said)

-- the first where it is so, else the other
abbrev pub WhereSo : Bool → Type 0 → Type 0 → Type 0
WhereSo true so other = so
WhereSo false so other = other

abbrev pub Hears : Table → Guid → EndpointKind → List ℕ → Table → List Told → Type 0
Hears t guid kind payload new told =
    WhereSo (says_again guid payload t) ((new ≡ t) × (told ≡ [])) (Announced t guid kind payload new told)

-- a far endpoint goes: it was matched with these
abbrev pub partings_with : List End → Far → List Told
partings_with own f = filter_map (λ (o : End). parting o f) own

-- those of which this is so go
abbrev pub without : (Far → Bool) → Table → Table
without leaves t = with_far (filter (λ f. not (leaves f)) t.far) t

abbrev pub told_without : (Far → Bool) → Table → List Told
told_without leaves t = flat_map (partings_with t.own) (filter leaves t.far)

-- ---- leases

-- its participant is there, or is not
abbrev pub with_awake : Bool → Far → Far
with_awake awake f = record { guid = f.guid; is_awake = awake; kind = f.kind; payload = f.payload; end = f.end }

-- so it is of those of one participant
abbrev pub turned : GuidPrefix → Bool → Far → Far
turned prefix awake f = if is_of prefix f then with_awake awake f else f

abbrev pub turned_all : GuidPrefix → Bool → Table → Table
turned_all prefix awake t = with_far (map (turned prefix awake) t.far) t

-- it is of this participant, and sleeps
abbrev pub is_asleep : GuidPrefix → Far → Bool
is_asleep prefix f = is_of prefix f && not f.is_awake

-- a far endpoint wakes: it is matched with these
abbrev pub meetings_with : List End → Far → List Told
meetings_with own f = changes own (Some f) (with_awake true f)

abbrev pub told_of_waking : GuidPrefix → Table → List Told
told_of_waking prefix t = flat_map (meetings_with t.own) (filter (is_asleep prefix) t.far)
