use Rattle.std.proofs.Common.{refl}
use Rattle.dds_protocol.specs.Opening.{opening_world}
use Rattle.dds_protocol.specs.Roster.{Roster}
use Rattle.dds_protocol.proofs.Opened.{opening_is}
use Rattle.dds_machine.specs.Opening.{opening}
use Rattle.dds_core.proofs.OpeningLaws.{opens_itself}
use Rattle.dds_world.specs.Holding.{Held, kept_of, none_given}
use Rattle.dds_world.specs.WorldStanding.{StandsFor}
use Rattle.dds_world.proofs.Opened.{no_filters_at, opened, some_peers}
use Rattle.dds_world.proofs.world.World.open.Goals as goal

pub returns-clause-roster : goal.returns-clause-roster
returns-clause-roster g c = λ all first good.
    let held : Held g.row.F.Denot g.row.L.Denot =
    record { cores = c.in_ok-peers.peers.items; sent = c.new.result.items; unsent = 0 } in
    let stands =
    opened g.L.Listener.notices g.L.Listener.capacity g.L.Listener.becomes c.args.config.now held
    c.in_ok-peers.ensures.opening c.new.ensures.items refl all first good in
    ((opening_world c.args.config.now, opening_is c.args.config.now, stands), stands)

pub returns-clause-rules : goal.returns-clause-rules
returns-clause-rules g c =
    let held : Held g.row.F.Denot g.row.L.Denot =
    record { cores = c.in_ok-peers.peers.items; sent = c.new.result.items; unsent = 0 } in
    opens_itself c.args.config.now
    (λ (roster : Roster). StandsFor (kept_of g.L.Listener.notices g.L.Listener.capacity g.L.Listener.becomes
    (none_given (opening c.args.config.now)) held) roster (opening_world c.args.config.now)) c.in_ok-check.ensures.ok
    (opened g.L.Listener.notices g.L.Listener.capacity g.L.Listener.becomes c.args.config.now held
    c.in_ok-peers.ensures.opening c.new.ensures.items refl)

pub returns-clause-opening : goal.returns-clause-opening
returns-clause-opening g c =
    (opening_world c.args.config.now, opening_is c.args.config.now, returns-clause-rules g c)

pub returns-clause-none : goal.returns-clause-none
returns-clause-none g c = λ peer.
    let held : Held g.row.F.Denot g.row.L.Denot =
    record { cores = c.in_ok-peers.peers.items; sent = c.new.result.items; unsent = 0 } in
    no_filters_at g.L.Listener.notices g.L.Listener.capacity g.L.Listener.becomes c.args.config.now _ held c.in_ok-peers.ensures.opening peer

pub returns-clause-taken : goal.returns-clause-taken
returns-clause-taken g c =
    c.in_ok-peers.ensures.opening.taken (some_peers c.args.config.now.peers c.in_ok-check.ensures.ok)
