use Rattle.std.proofs.Common.{◌≡◌, ◌∙◌, Bool, true, ap, cond, drop, rules, sym}
use Rattle.dds_exchange.specs.Exchanges.{found_no_memory}
use Rattle.dds_exchange.proofs.exchange.Exchange.make.Goals as goal

pub returns-else-not-found_no_memory : goal.returns-else-not-found_no_memory
returns-else-not-found_no_memory c =
    let none : found_no_memory c.step-output.result.reply ≡ true =
    sym c.found_no_memory.ensures ∙ c.if-not-found_no_memory.false in
    let stays = ap (λ (b : Bool). cond b c.self.inside.due.items (drop 1 c.self.inside.due.items)) (sym none) in
    record {
      made = record {
        does = rw (← c.self.view_is) c.step-output.ensures.step;
        left = rw (← c.self.view_is) stays;
        rest = search rules;
      };
    }
