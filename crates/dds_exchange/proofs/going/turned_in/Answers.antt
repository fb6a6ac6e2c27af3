use Rattle.std.proofs.Common.{◌≡◌}
use Rattle.dds_exchange.proofs.going.turned_in.Goals as goal

pub returns-in-AsItIs-clause-turned : goal.returns-in-AsItIs-clause-turned
returns-in-AsItIs-clause-turned c =
    let answer = rw c.in-AsItIs.is at c.in_ok-inward_with_gaps.ensures.answers in
    record {
      between = c.in_ok-bytes.bytes;
      rows = c.in_ok-rows.rows.items;
      kinds = c.in_ok-bytes.ensures.called;
      table = rw c.as_slice.ensures.octets at c.in_ok-rows.ensures.rows;
      adapts = rw c.deref.ensures.value at (rw c.as_slice-2.ensures.octets at answer);
    }

pub returns-in-Rewritten-clause-turned : goal.returns-in-Rewritten-clause-turned
returns-in-Rewritten-clause-turned c =
    let answer = rw c.in-Rewritten.is at c.in_ok-inward_with_gaps.ensures.answers in
    record {
      between = c.in_ok-bytes.bytes;
      rows = c.in_ok-rows.rows.items;
      kinds = c.in_ok-bytes.ensures.called;
      table = rw c.as_slice.ensures.octets at c.in_ok-rows.ensures.rows;
      adapts = rw c.deref.ensures.value at (rw c.as_slice-2.ensures.octets at answer.0);
    }

pub returns-in-TooLong-clause-turned : goal.returns-in-TooLong-clause-turned
returns-in-TooLong-clause-turned c =
    let answer = rw c.in-TooLong.is at c.in_ok-inward_with_gaps.ensures.answers in
    record {
      out = answer.0;
      turns = record {
        between = c.in_ok-bytes.bytes;
        rows = c.in_ok-rows.rows.items;
        kinds = c.in_ok-bytes.ensures.called;
        table = rw c.as_slice.ensures.octets at c.in_ok-rows.ensures.rows;
        adapts = rw c.deref.ensures.value at (rw c.as_slice-2.ensures.octets at answer.1);
      };
      long = answer.2;
    }
