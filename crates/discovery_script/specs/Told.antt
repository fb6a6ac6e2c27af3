-- The lines that tell who is there, what is sent, and which endpoints are matched or do not fit.
use Rattle.std.specs.Prelude.{ℕ, List, ◌++◌, slice_index, codes}
use Rattle.std.specs.Fmt.{decimal}
use Rattle.dds_script.specs.Lines.{octets_text}
use Rattle.dds_base.specs.declared.guid.Guid.{Guid}
use Rattle.dds_base.specs.declared.guid.GuidPrefix.{GuidPrefix}
use Rattle.dds_policies.specs.declared.misfit.Misfit.{Misfit}
use Rattle.dds_policies.specs.declared.misfit.Misfit.TheVariants.{Reliability, Durability, Presentation, Deadline, LatencyBudget, Ownership, Liveliness, DestinationOrder, DataRepresentation}
use Rattle.rtps_announcements.specs.declared.locator.Locator.{Locator}
use Rattle.rtps_discovery.specs.declared.packet.Packet.{Packet}
use Rattle.rtps_discovery.specs.declared.row.Told.{Told as Presence}
use Rattle.rtps_discovery.specs.declared.row.Told.TheVariants.{Appeared, Gone}
use Rattle.rtps_matching.specs.declared.told.Told.{Told}
use Rattle.rtps_matching.specs.declared.told.Told.TheVariants.{Matched, Unmatched, Changed}
use Rattle.rtps_matching.specs.declared.told.Misfitting.{Misfitting}

-- a GUID in hexadecimal digits (RTPS 2.5, 8.2: GUID_t)
abbrev pub guid_text : Guid → List ℕ
guid_text guid = octets_text guid.prefix.0 ++ octets_text guid.entity.0

-- a word, and a GUID of ours and one of another participant
abbrev pub pair_text : List ℕ → Guid → Guid → List ℕ
pair_text word own far = word ++ guid_text own ++ codes " " ++ guid_text far

-- an address as `127.0.0.1`
abbrev pub address_text : List ℕ → List ℕ
address_text address =
    decimal (slice_index address 0) ++ codes "." ++ decimal (slice_index address 1) ++ codes "."
    ++ decimal (slice_index address 2) ++ codes "." ++ decimal (slice_index address 3)

-- an address with its port, as `127.0.0.1:7410`
abbrev pub locator_text : Locator → List ℕ
locator_text locator = address_text locator.address ++ codes ":" ++ decimal locator.port

-- who we are, where, and in which domain
abbrev pub open_line : GuidPrefix → Locator → ℕ → List ℕ
open_line prefix locator domain =
    codes "open " ++ octets_text prefix.0 ++ codes " " ++ locator_text locator ++ codes " domain=" ++ decimal domain
    ++ codes "\n"

-- an endpoint of another participant is no more
abbrev pub withdrawn_line : Guid → List ℕ
withdrawn_line guid = codes "withdrawn " ++ guid_text guid ++ codes "\n"

-- who is there now, or is no more
abbrev pub presence_line : Presence → List ℕ
presence_line (Appeared prefix) = codes "appeared " ++ octets_text prefix.0 ++ codes "\n"
presence_line (Gone prefix) = codes "gone " ++ octets_text prefix.0 ++ codes "\n"

-- what changed of two endpoints, ours and the other one
abbrev pub told_line : Told → List ℕ
told_line (Matched own far) = pair_text (codes "matched ") own far ++ codes "\n"
told_line (Unmatched own far) = pair_text (codes "unmatched ") own far ++ codes "\n"
told_line (Changed own far) = pair_text (codes "changed ") own far ++ codes "\n"

-- a policy, by its name (DDS 1.4, 2.2.3)
abbrev pub policy_word : Misfit → List ℕ
policy_word Reliability = codes " RELIABILITY"
policy_word Durability = codes " DURABILITY"
policy_word Presentation = codes " PRESENTATION"
policy_word Deadline = codes " DEADLINE"
policy_word LatencyBudget = codes " LATENCY_BUDGET"
policy_word Ownership = codes " OWNERSHIP"
policy_word Liveliness = codes " LIVELINESS"
policy_word DestinationOrder = codes " DESTINATION_ORDER"
policy_word DataRepresentation = codes " DATA_REPRESENTATION"

-- two endpoints that do not fit, and the first policy by which they don't
abbrev pub misfit_line : Misfitting → List ℕ
misfit_line misfit = pair_text (codes "misfit ") misfit.own misfit.far ++ policy_word misfit.policy ++ codes "\n"

-- where a datagram is to be sent, and its octets
abbrev pub packet_line : Packet → List ℕ
packet_line packet = codes "packet " ++ locator_text packet.to ++ codes " " ++ octets_text packet.bytes ++ codes "\n"
