use Rattle.rtps_discovery.proofs.Lasting as lasting
use Rattle.rtps_discovery.proofs.laws.leases_end.Goals as goal

pub returns : goal.returns
returns c = record { leases = lasting.leases_end; sleep = lasting.ticks_only_sleep }
