use Rattle.std.proofs.Common.{◌≡◌, ◌<◌, ℕ, List, Some, length, slice_get, ap, sym, subst, ◌∙◌, arith}
use Rattle.std.proofs.lemmas.Option.{slice_get-get_or}
use Rattle.dds_conditions.specs.Filtered.{tests_of}
use Rattle.dds_core.specs.Listening.{CoreKept, Steps}
use Rattle.dds_protocol.specs.declared.event.Event.TheVariants as event
use Rattle.dds_protocol.specs.declared.event.Packet.{Packet}
use Rattle.dds_world.specs.Holding.{Held}
use Rattle.dds_world.proofs.Holding.{acts_of, delivered_in}
use Rattle.dds_world.proofs.world.World.deliver_at.Goals as goal

pub returns : goal.returns
returns g c =
    let inside = c.self.inside in
    let kept : Held g.row.F.Denot g.row.L.Denot =
    record { cores = inside.peers.items; sent = inside.sent.items; unsent = inside.unsent } in
    let core : CoreKept g.row.F.Denot g.row.L.Denot = c.index_mut.result.now in
    let packet : Packet = c.index.result.now in
    let whole : kept.sent ≡ c.args.self.now.sent = ap (λ (k : Held g.row.F.Denot g.row.L.Denot). k.sent) c.self.view_is in
    let count = ap (λ (ps : List Packet). length ps) whole in
    let within : c.args.sent < length kept.sent = omega (arith, count) in
    let found : slice_get kept.sent c.args.sent ≡ Some packet =
    slice_get-get_or kept.sent c.args.sent packet within ∙ ap (λ (p : Packet). Some p) (sym c.index.ensures) in
    let steps =
    subst (λ (octets : List ℕ). Steps g.L.Listener.notices g.L.Listener.capacity g.L.Listener.becomes
    (tests_of g.F.Filter.meaning core.filtered.filters) core (event.Deliver octets) c.deliver-output.result
    c.deliver-output.new.self) c.as_slice.ensures.octets c.deliver-output.ensures.step in
    delivered_in g.F.Filter.meaning g.L.Listener.notices g.L.Listener.capacity g.L.Listener.becomes c.args.self.now
    c.posted.new.self c.args.index c.args.sent packet c.posted.result
    (subst (λ (ps : List Packet). slice_get ps c.args.sent ≡ Some packet) whole found)
    (acts_of g.L.Listener.notices g.L.Listener.capacity g.L.Listener.becomes g.F.Filter.meaning kept c.args.self.now
    c.self.view_is c.args.index (event.Deliver packet.bytes) core
    c.deliver-output.new.self c.deliver-output.result c.posted.result c.posted.new.self c.requires.within
    c.index_mut.ensures.value steps c.deliver-output.ensures.messages c.posted.ensures.reply
    c.posted.ensures.cores c.posted.ensures.posted c.posted.ensures.unsent
    c.posted.ensures.quiet)
