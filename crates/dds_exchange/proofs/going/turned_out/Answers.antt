use Rattle.std.proofs.Common.{◌≡◌}
use Rattle.dds_exchange.proofs.going.turned_out.Goals as goal

pub returns-in-Rewritten-clause-turned : goal.returns-in-Rewritten-clause-turned
returns-in-Rewritten-clause-turned c =
    let answer = rw c.in-Rewritten.is at c.in_ok-outward.ensures.answers in
    record {
      between = c.in-Rewritten.octets;
      rows = c.in_ok-rows.rows.items;
      table = c.in_ok-rows.ensures.rows;
      adapts = rw c.deref.ensures.value at answer.0;
      kinds = rw c.as_slice.ensures.octets at c.in_ok-with_kinds_of-in-Rewritten.ensures.turned;
    }
