use Rattle.std.proofs.Common.{◌≡◌, ◌-◌, Bool, length, rules, ap, sym, ◌∙◌, arith}
use Rattle.std.specs.Prelude.{if◌then◌else◌, ◌==◌, ◌&&◌, nat_lt}
use Rattle.dds_history.specs.declared.held.KeyCount.{KeyCount}
use Rattle.dds_history.specs.Entries.{state}
use Rattle.dds_history.proofs.Adding.{older_all, older_by}
use Rattle.dds_history.proofs.held.Kept.older.Goals as goal

pub returns-in-KeepAll-clause-older : goal.returns-in-KeepAll-clause-older
returns-in-KeepAll-clause-older c = λ last holds runs.
    let count : c.len.result ≡ length c.args.self.now.entries.items = search rules in
    count ∙ older_all c.args.self.now.policy c.args.self.now.keys.entries c.args.self.now.entries.items c.args.key c.in-KeepAll.is

pub returns-then-is_full-clause-older : goal.returns-then-is_full-clause-older
returns-then-is_full-clause-older c = λ last holds runs.
    let depth = c.in-KeepLast.depth in
    let full = ap (λ (n : KeyCount). nat_lt 0 depth && n.kept == depth) (sym c.count_of.ensures)
    ∙ (sym c.is_full.ensures ∙ c.if-is_full.true) in
    c.saturating_sub.ensures
    ∙ (ap (λ (b : Bool). c.args.self.now.live - (if b then 1 else 0)) (sym full)
    ∙ older_by depth last (state c.args.self.now) c.args.key c.in-KeepLast.is holds runs)

pub returns-else-is_full-clause-older : goal.returns-else-is_full-clause-older
returns-else-is_full-clause-older c = λ last holds runs.
    let depth = c.in-KeepLast.depth in
    let full = ap (λ (n : KeyCount). nat_lt 0 depth && n.kept == depth) (sym c.count_of.ensures)
    ∙ (sym c.is_full.ensures ∙ c.if-is_full.false) in
    let all : c.args.self.now.live ≡ c.args.self.now.live - 0 = omega arith in
    all
    ∙ (ap (λ (b : Bool). c.args.self.now.live - (if b then 1 else 0)) (sym full)
    ∙ older_by depth last (state c.args.self.now) c.args.key c.in-KeepLast.is holds runs)
