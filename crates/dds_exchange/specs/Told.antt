-- What discovery tells of a match, and the call that it is at our peer (RTPS 2.5, 8.4.7.4, 8.4.10.3: matched_reader_add,
-- matched_writer_add and their removals).
use Rattle.std.specs.Prelude.{ℕ, Bool, true, List, find, Option, Some, None, option_map}
use Rattle.std.specs.Option.{option_and_then}
use Rattle.dds_base.specs.declared.guid.Guid.{Guid}
use Rattle.dds_base.specs.declared.policies.Policies.{Policies}
use Rattle.dds_machine.specs.declared.call.Call.{Call}
use Rattle.dds_machine.specs.declared.call.Call.TheVariants.{MeetReader, MeetWriter, UnmatchReader, UnmatchWriter}
use Rattle.dds_machine.specs.Naming.{same_guid}
use Rattle.rtps_announcements.specs.declared.qos.EndpointKind.{EndpointKind}
use Rattle.rtps_announcements.specs.declared.qos.EndpointKind.TheVariants.{Reader, Writer}
use Rattle.rtps_matching.specs.declared.end.End.{End}
use Rattle.rtps_matching.specs.declared.far.Far.{Far}
use Rattle.rtps_matching.specs.declared.told.Told.{Told}
use Rattle.rtps_matching.specs.declared.told.Told.TheVariants.{Changed, Matched, Unmatched}
use Rattle.dds_exchange.specs.declared.naming.NamedEnd.{NamedEnd}
use Rattle.dds_exchange.specs.declared.told.Due.{Due}
use Rattle.dds_exchange.specs.Entities.{keyed}

-- the one of ours, and the other one
abbrev pub own_of : Told → Guid
own_of (Matched own far) = own
own_of (Unmatched own far) = own
own_of (Changed own far) = own

abbrev pub far_of : Told → Guid
far_of (Matched own far) = far
far_of (Unmatched own far) = far
far_of (Changed own far) = far

-- an endpoint of another participant is called so
abbrev pub is_far_named : Guid → Far → Bool
is_far_named guid far = same_guid far.guid guid

-- what such an endpoint announced of its policies, if that can be read
abbrev pub announced : Far → Option Policies
announced far = option_map (λ (e : End). e.endpoint.policies) far.end

-- the same of the one that is called so
abbrev pub policies_of : Guid → List Far → Option Policies
policies_of guid far = option_and_then announced (find (is_far_named guid) far)

-- what is due, by what is known of others
abbrev pub due_of : List Far → Told → Due
due_of far told = record { told = told; policies = policies_of (far_of told) far }

-- what an endpoint is called at our peer
abbrev pub at_peer : Guid → Guid
at_peer guid = record { prefix = guid.prefix; entity = keyed guid.entity }

-- a match with a reader, or with a writer
abbrev pub meeting : EndpointKind → ℕ → NamedEnd → Policies → Call
meeting Writer number end policies =
    MeetReader number (record { endpoint = end.name; guid = at_peer end.guid; requested = policies }) true
meeting Reader number end policies =
    MeetWriter number (record { endpoint = end.name; guid = at_peer end.guid; offered = policies })

-- that one is over
abbrev pub parting : EndpointKind → ℕ → NamedEnd → Call
parting Writer number end = UnmatchReader number end.name
parting Reader number end = UnmatchWriter number end.name

-- The call that a match is where the one of ours is the writer or the reader of a number. That another announcement came is none.
abbrev pub call_for : Told → Option Policies → EndpointKind → ℕ → NamedEnd → Option Call
call_for (Matched own far) policies kind number end = option_map (meeting kind number end) policies
call_for (Unmatched own far) policies kind number end = Some (parting kind number end)
call_for (Changed own far) policies kind number end = None

abbrev pub call_of : Due → EndpointKind → ℕ → NamedEnd → Option Call
call_of due kind number end = call_for due.told due.policies kind number end
