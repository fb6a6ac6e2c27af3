use Rattle.std.proofs.Common.{ℕ, List, Option, Some, None}
use Rattle.std.specs.Prelude.{IfNone, IfSome}
use Rattle.dds_base.specs.declared.guid.GuidPrefix.{GuidPrefix}
use Rattle.rtps_wire.specs.declared.submessage.Submessage.TheVariants.{InfoDst}
use Rattle.rtps_wire.specs.Submessages.{Reads}
use Rattle.rtps_wire.proofs.frame.Frame.info_dst.Goals as goal

by_flags : (o : Option GuidPrefix) (id flags : ℕ) (body : List ℕ)
    → IfSome o (λ prefix. (any : ℕ) → Reads id any body (InfoDst prefix))
    → IfSome o (λ prefix. Reads id flags body (InfoDst prefix))
by_flags None id flags body h = tt
by_flags (Some prefix) id flags body h = h flags

none_by_flags : (o : Option GuidPrefix) (id flags : ℕ) (body : List ℕ)
    → IfNone o ((any : ℕ) (prefix : GuidPrefix) → Reads id any body (InfoDst prefix) → ⊥)
    → IfNone o ((prefix : GuidPrefix) → Reads id flags body (InfoDst prefix) → ⊥)
none_by_flags None id flags body h = λ prefix k. h flags prefix k
none_by_flags (Some prefix) id flags body h = tt

pub returns-clause-found : goal.returns-clause-found
returns-clause-found c =
    by_flags c.prefix_in.result c.args.self.now.id c.args.self.now.flags c.args.self.now.body.now
    c.prefix_in.ensures.found

pub returns-clause-none : goal.returns-clause-none
returns-clause-none c =
    none_by_flags c.prefix_in.result c.args.self.now.id c.args.self.now.flags c.args.self.now.body.now
    c.prefix_in.ensures.none
