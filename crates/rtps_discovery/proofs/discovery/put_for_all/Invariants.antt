-- the messages for those so far stand behind the others
use Rattle.std.proofs.Common.{◌≡◌, ◌++◌, map, take, None}
use Rattle.rtps_announcements.specs.declared.locator.Locator.{Locator}
use Rattle.rtps_discovery.specs.Packets.{message_to}
use Rattle.rtps_discovery.proofs.discovery.put_for_all.Given as goal

abbrev pub invariant-loop-address : goal.invariant-loop-address
invariant-loop-address l =
    l.packets.items
    ≡ l.initial.packets.items
    ++ map (λ (a : Locator). record { to = a; bytes = message_to l.own None l.submessage }) (take l.address-index l.addresses)
