use Rattle.std.proofs.Common.{rules, ap, ◌∙◌}
use Rattle.std.specs.Prelude.{Option, Some, None, nat_lt}
use Rattle.std.specs.Option.{option_copied}
use Rattle.std.proofs.lemmas.List.Sorted.{IsPartitionPoint-from_clause}
use Rattle.dds_history.specs.declared.held.Entry.{Entry}
use Rattle.dds_history.proofs.Rising.{find_parted, has_another, has_number, parted}
use Rattle.dds_history.proofs.held.search.Goals as goal

pub returns-in_err-entry : goal.returns-in_err-entry
returns-in_err-entry c = λ rises.
    let point = IsPartitionPoint-from_clause (λ (e : Entry). nat_lt e.number c.args.number) _ _
    c.partition_point-at.ensures.partitioned (parted c.args.number 0 _ rises) (λ a r q k. search rules) in
    ap (λ (o : Option _). option_copied o) c.from_residual.ensures
    ∙ find_parted c.args.number c.partition_point-at.result _ None rises point c.in_err-entry.ensures.item

pub returns-then-entry-number : goal.returns-then-entry-number
returns-then-entry-number c = λ rises.
    let point = IsPartitionPoint-from_clause (λ (e : Entry). nat_lt e.number c.args.number) _ _
    c.partition_point-at.ensures.partitioned (parted c.args.number 0 _ rises) (λ a r q k. search rules) in
    has_number c.args.number c.in_ok-entry.entry.now c.if-entry-number.true
    ∙ find_parted c.args.number c.partition_point-at.result _ (Some c.in_ok-entry.entry) rises point
    c.in_ok-entry.ensures.item

pub returns-else-entry-number : goal.returns-else-entry-number
returns-else-entry-number c = λ rises.
    let point = IsPartitionPoint-from_clause (λ (e : Entry). nat_lt e.number c.args.number) _ _
    c.partition_point-at.ensures.partitioned (parted c.args.number 0 _ rises) (λ a r q k. search rules) in
    has_another c.args.number c.in_ok-entry.entry.now c.if-entry-number.false
    ∙ find_parted c.args.number c.partition_point-at.result _ (Some c.in_ok-entry.entry) rises point
    c.in_ok-entry.ensures.item
