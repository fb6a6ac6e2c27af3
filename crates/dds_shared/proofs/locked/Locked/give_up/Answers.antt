use Rattle.std.proofs.Common.{ℕ, length, sym, ap, ◌∙◌}
use Rattle.std.specs.Prelude.{Some}
use Rattle.dds_shared.specs.Locks.{Kept}
use Rattle.dds_shared.specs.Passes.{Carried, GaveUp}
use Rattle.dds_shared.proofs.locked.Locked.give_up.Goals as goal

pub returns-clause-list : goal.returns-clause-list
returns-clause-list g c =
    let ended = c.end_wait.ensures.list in
    let mid = c.end_wait.new.pass in
    let reached = length c.self.inside.tally.log in
    let last : Carried = record mid { front = reached } in
    let here = sym (ap (λ (k : Kept g.row.F.Denot g.row.L.Denot). length k.entries) c.self.view_is) in
    let over = c.over-over.ensures.over
    ∙ ap (λ (n : ℕ). let o : GaveUp = record { wait_set = c.args.wait_set; at = n } in o) here in (
      ended.0,
      last,
      ap (λ (p : Carried). let r : Carried = record p { front = reached } in r) ended.1,
      ended.2,
      c.leave.ensures.over
          ∙ ap (λ (o : GaveUp). let p : Carried = record mid { front = reached; gave_up = Some o } in p) over,
    )
