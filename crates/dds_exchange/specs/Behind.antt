-- Which readers are behind (RTPS 2.5, 8.4.7: StatefulWriter, ReaderProxy: unacked_changes).
use Rattle.std.specs.Prelude.{ℕ, Bool, false, List}
use Rattle.std.specs.List.{list_any}
use Rattle.dds_base.specs.declared.endpoint.Endpoint.{Endpoint}
use Rattle.dds_machine.specs.Part.{Part, Writer as WriterState, is_reader_behind, own_writer}
use Rattle.rtps_announcements.specs.declared.qos.EndpointKind.{EndpointKind}
use Rattle.rtps_announcements.specs.declared.qos.EndpointKind.TheVariants.{Reader, Writer}
use Rattle.dds_exchange.specs.declared.naming.NamedEnd.{NamedEnd}

-- it is a reader that is matched, and has not acknowledged all changes of the writer
abbrev pub is_behind_as : EndpointKind → WriterState → Endpoint → Bool
is_behind_as Writer w name = false
is_behind_as Reader w name = is_reader_behind w name

abbrev pub is_end_behind : WriterState → NamedEnd → Bool
is_end_behind w end = is_behind_as end.kind w end.name

-- one of those that have names is behind at the writer of this number
abbrev pub is_behind : Part → List NamedEnd → ℕ → Bool
is_behind part named writer = list_any (is_end_behind (own_writer part writer)) named
