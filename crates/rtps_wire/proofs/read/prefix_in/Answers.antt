use Rattle.std.proofs.Common.{ℕ, arith, subst, sym}
use Rattle.std.specs.Prelude.{IfNone, IfSome}
use Rattle.dds_base.specs.declared.guid.GuidPrefix.{GuidPrefix}
use Rattle.rtps_wire.specs.declared.submessage.Submessage.TheVariants.{InfoDst}
use Rattle.rtps_wire.specs.Submessages.{Reads}
use Rattle.rtps_wire.proofs.SubmessageLaws.{info_dst_if, no_info_dst}
use Rattle.rtps_wire.proofs.read.prefix_in.Goals as goal

pub returns-then-id-ne-ID_INFO_DST-clause-none : goal.returns-then-id-ne-ID_INFO_DST-clause-none
returns-then-id-ne-ID_INFO_DST-clause-none c = λ flags prefix k. c.if-id-ne-ID_INFO_DST.true k.kind

pub returns-clause-found : goal.returns-clause-found
returns-clause-found c =
    subst (λ (id : ℕ). IfSome c.info_dst_of.result
    (λ prefix. (flags : ℕ) → Reads id flags c.args.body.now (InfoDst prefix)))
    (sym c.if-id-ne-ID_INFO_DST.false)
    (info_dst_if c.info_dst_of.result c.args.body.now (λ i. omega (arith, c.type_inv.body i)) c.info_dst_of.ensures)

pub returns-clause-none : goal.returns-clause-none
returns-clause-none c =
    subst (λ (id : ℕ). IfNone c.info_dst_of.result ((flags : ℕ) (prefix : GuidPrefix)
    → Reads id flags c.args.body.now (InfoDst prefix) → ⊥))
    (sym c.if-id-ne-ID_INFO_DST.false) (no_info_dst c.info_dst_of.result c.args.body.now c.info_dst_of.ensures)
