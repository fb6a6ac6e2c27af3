-- those so far and those that are left are all
use Rattle.std.proofs.Common.{◌≡◌, ◌+◌, ◌-◌, ◌++◌}
use Rattle.dds_owner.specs.Registration.{blank_registrations}
use Rattle.dds_owner.proofs.registration.blank_items.Given as goal

abbrev pub invariant-loop-at : goal.invariant-loop-at
invariant-loop-at l =
    l.items.items ++ blank_registrations (l.at + 1) (l.writers - l.at) ≡ blank_registrations 1 l.writers
