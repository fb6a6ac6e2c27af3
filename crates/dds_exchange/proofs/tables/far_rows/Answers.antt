use Rattle.std.proofs.Common.{◌≡◌, ◌∙◌, ◌++◌, ap, map, option_to_list}
use Rattle.dds_exchange.specs.Tables.{row_of_far, said_row}
use Rattle.dds_exchange.proofs.Rows.{given_more}
use Rattle.dds_exchange.proofs.tables.far_rows.Goals as goal

pub loop-end-preserved : goal.loop-end-preserved
loop-end-preserved c =
    given_more (row_of_far c.args.source.now c.args.readers.now) c.args.named.now c.loop-end.end-index _
    (map said_row c.loop-end.rows.items) (map said_row c.put_row.new.rows.items) c.loop-end-test.true c.loop-end.invariant
    (c.in_ok-put_row.ensures ∙ ap (λ o. map said_row c.loop-end.rows.items ++ option_to_list o) c.far_row.ensures)
