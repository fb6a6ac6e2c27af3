use Rattle.std.proofs.Common.{◌≡◌, ℕ, List, length, sym, ◌∙◌, subst, arith}
use Rattle.dds_base.specs.Instance.{known_instances}
use Rattle.dds_cache.specs.declared.access.Candidate.{Candidate}
use Rattle.dds_cache.specs.First.{AreOfForm, Settles}
use Rattle.dds_cache.proofs.FirstLaws.{first-picked, none-picked}
use Rattle.dds_cache.proofs.first.find_first.Goals as goal

pub returns-in_default-first_asked-clause-found : goal.returns-in_default-first_asked-clause-found
returns-in_default-first_asked-clause-found g c = λ h holds.
    subst (λ (cs : List Candidate). AreOfForm c.args.content.now.qos.now h c.args.selection.now c.args.masks
    (g.T.Test.meaning c.args.test.now) c.args.max c.args.content.now.samples.now cs) (sym c.new.ensures.items)
    (none-picked c.args.content.now.qos.now h c.args.selection.now c.args.masks
    (g.T.Test.meaning c.args.test.now) c.args.max c.args.content.now.samples.now
    (c.in_default-first_asked.ensures.first c.args.content.now.qos.now h holds.instances))

pub returns-then-is_settled-clause-found : goal.returns-then-is_settled-clause-found
returns-then-is_settled-clause-found g c = λ h holds.
    let first = c.in-Some.ensures.first c.args.content.now.qos.now h holds.instances in
    let known : c.len-then-may_settle.result ≡ length (known_instances c.args.content.now.qos.now h) =
    omega (arith, c.len-then-may_settle.ensures.len c.args.content.now.qos.now h holds.instances) in
    let count : c.len-then-may_settle-2.result ≡ length c.in_ok-found.found.items = c.len-then-may_settle-2.ensures ∙ c.in_ok-found.found.ok.0 in
    let settled : Settles c.args.selection.now c.args.max (length (known_instances c.args.content.now.qos.now h))
    (length c.in_ok-found.found.items) =
    subst (λ (n : ℕ). Settles c.args.selection.now c.args.max n (length c.in_ok-found.found.items)) known
    (subst (λ (n : ℕ). Settles c.args.selection.now c.args.max c.len-then-may_settle.result n) count
    (c.is_settled.ensures c.if-is_settled.true)) in
    first-picked c.args.content.now.qos.now c.args.content.now.instances.now h c.args.selection.now c.args.masks
    (g.T.Test.meaning c.args.test.now) c.args.max c.args.content.now.samples.now c.in-Some.known c.in_ok-found.found.items holds
    first (c.in_ok-found.ensures.found h first.is_known
    holds.each) settled
