-- What is printed of the endpoints of others (RTPS 2.5, 8.5.4: SEDP).
use Rattle.std.specs.Prelude.{ℕ, ◌&&◌, Bool, not, List, map, filter}
use Rattle.std.specs.Cmp.Lexicographic.{pointwise}
use Rattle.std.specs.List.{flat_map, list_any}
use Rattle.std.specs.Str.{bytes_eq}
use Rattle.rtps_discovery.specs.Rows.{is_there}
use Rattle.rtps_matching.specs.declared.far.Far.{Far}
use Rattle.rtps_matching.specs.declared.told.Misfitting.{Misfitting}
use Rattle.rtps_matching.specs.Matches.{same_guid}
use Rattle.rtps_matching.specs.Misfits.{misfits}
use Rattle.rtps_matching.specs.Steps.{has_far}
use Rattle.dds_discovery.specs.States.{State}
use Rattle.discovery_script.specs.Misfits.{same_misfit}
use Rattle.discovery_script.specs.Told.{withdrawn_line}
use Rattle.dds_participant.specs.declared.watcher.Seen.{Seen}

-- an endpoint, as it is printed: its name, and what it announced last
abbrev pub seen_as : Far → Seen
seen_as f = record { guid = f.guid; payload = f.payload }

-- those whose participants are there
abbrev pub awake : List Far → List Far
awake far = filter (λ (f : Far). f.is_awake) far

abbrev pub seen_of : List Far → List Seen
seen_of far = map seen_as (awake far)

-- an endpoint has this name, and says the same as before
abbrev pub is_same : Seen → Far → Bool
is_same s f = same_guid s.guid f.guid && bytes_eq s.payload f.payload

-- those that are there are these, in their order, and each says the same
abbrev pub are_seen : List Seen → List Far → Bool
are_seen seen far = pointwise is_same seen (awake far)

-- it is there, and was not, or says something else than before
abbrev pub is_new : List Seen → Far → Bool
is_new seen f = f.is_awake && not (list_any (λ (s : Seen). is_same s f) seen)

abbrev pub has_new : List Seen → List Far → Bool
has_new seen far = list_any (is_new seen) far

-- it is known no more, though its participant is there
abbrev pub is_withdrawn : State → Seen → Bool
is_withdrawn d s = not (has_far s.guid d.endpoints) && is_there s.guid.prefix d.participants.rows

abbrev pub withdrawn_lines : State → List Seen → List ℕ
withdrawn_lines d seen = flat_map (λ (s : Seen). withdrawn_line s.guid) (filter (is_withdrawn d) seen)

-- which endpoints of ours do not fit those that are there
abbrev pub misfits_of : State → List Misfitting
misfits_of d = misfits d.endpoints.own d.endpoints.far

-- misfits that were none
abbrev pub new_misfits : List Misfitting → List Misfitting → List Misfitting
new_misfits before all = filter (λ (m : Misfitting). not (list_any (same_misfit m) before)) all
