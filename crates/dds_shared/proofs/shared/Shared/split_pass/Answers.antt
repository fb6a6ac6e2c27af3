use Rattle.std.proofs.Common.{◌≡◌, ℕ, IfOk, ap, subst}
use Rattle.std.proofs.lemmas.Result.{IfErr-weaker}
use Rattle.dds_base.specs.declared.code.Code.{Code}
use Rattle.dds_base.specs.declared.code.Code.TheVariants.{OutOfResources}
use Rattle.dds_log.specs.Logs.{Held}
use Rattle.dds_shared.specs.Passes.{Carried, unused}
use Rattle.dds_trace.specs.declared.trace.Entry.{Entry}
use Rattle.dds_shared.proofs.shared.Shared.split_pass.Goals as goal

-- the new pass has seen what this one told it
pub returns-clause-ok : goal.returns-clause-ok
returns-clause-ok g c =
    subst (λ (front : ℕ). IfOk c.split.result (λ (split : Carried). split ≡ unused split.seat split.spare front))
    (ap (λ (hand : Held Entry). hand.at) c.split_front-seen.ensures.same) c.split.ensures.ok

pub returns-clause-refused : goal.returns-clause-refused
returns-clause-refused g c =
    IfErr-weaker c.split.result (λ (code : Code). (code ≡ OutOfResources) × (c.deref_mut.result.now.left ≡ 0))
    (λ (code : Code). code ≡ OutOfResources) (λ code why. why.0) c.split.ensures.refused
