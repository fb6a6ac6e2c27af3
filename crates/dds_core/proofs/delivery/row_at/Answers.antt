use Rattle.dds_core.proofs.delivery.row_at.Goals as goal

-- the readers before the first one that is named have no row
pub returns-then-index-first : goal.returns-then-index-first
returns-then-index-first c = record { row = λ before there. before c.if-index-first.true }

pub returns-then-index-first-2 : goal.returns-then-index-first-2
returns-then-index-first-2 c = record { row = λ before there. there c.if-index-first-2.true }

pub returns : goal.returns
returns c = record { row = λ before there. c.named_row.ensures.row }
