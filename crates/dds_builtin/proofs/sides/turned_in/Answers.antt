use Rattle.std.proofs.Common.{◌≡◌}
use Rattle.dds_builtin.proofs.sides.turned_in.Goals as goal

pub returns-in-Ok-AsItIs-clause-turned : goal.returns-in-Ok-AsItIs-clause-turned
returns-in-Ok-AsItIs-clause-turned c =
    let answer = rw c.in-Ok-AsItIs.field-0-is at c.in-Ok-AsItIs.ensures.answers in
    let adapts = rw c.as_slice.ensures.octets at answer in
    record { between = c.in_ok-octets.octets; kinds = c.in_ok-octets.ensures.turned; adapts = adapts }

pub returns-in-Ok-Rewritten-clause-turned : goal.returns-in-Ok-Rewritten-clause-turned
returns-in-Ok-Rewritten-clause-turned c =
    let answer = rw c.in-Ok-Rewritten.field-0-is at c.in-Ok-Rewritten.ensures.answers in
    let adapts = rw c.as_slice.ensures.octets at answer.0 in
    record { between = c.in_ok-octets.octets; kinds = c.in_ok-octets.ensures.turned; adapts = adapts }
